-- Views one after the other, and what they say of the input that they are taken from.
use Rattle.std.proofs.Common.{◌≡◌, ℕ, suc, ◌+◌, ◌-◌, ◌<◌, List, [], ◌∷◌, ◌++◌, length, Err}
use Rattle.std.proofs.Common.{refl, sym, ap, subst, ◌∙◌, append-nil, append_assoc, arith}
use Rattle.std.proofs.lemmas.List.{length-append}
use Rattle.rtr_base.specs.Bytes.{IsBytes}
use Rattle.rtr_units.specs.End.{EndMeaning, IsEnd}
use Rattle.rtr_payload.specs.Payloads.{Meaning}
use Rattle.rtr_payload.specs.Units.{IsUnit}
use Rattle.unit_views.specs.Faults.{IsFirstFault, IsWriterFault}
use Rattle.unit_views.specs.declared.fault.ViewFault.{ViewFault}
use Rattle.unit_views.specs.declared.fault.ViewFault.TheVariants.{Writer, Short, UnitType}
use Rattle.unit_views.specs.declared.fault.ViewFault.TheVariants.{UnitLength, TooLong}
use Rattle.unit_views.specs.declared.fault.ViewFault.TheVariants.{EmptyProviders, UnitVersion}
use Rattle.unit_views.specs.declared.fault.ViewFault.TheVariants.{Prefix, TooMany}
use Rattle.rtr_wire.specs.Comparison.{Accepted, IsViewFaultAt}
use Rattle.rtr_wire.specs.Run.{Counts, Ends}
use Rattle.rtr_wire.specs.Sequences.{AreUnits, everything, forms, written_units}
use Rattle.rtr_wire.specs.SliceRun.{view_cause}
use Rattle.rtr_wire.proofs.Push.{units_push}
use Rattle.rtr_wire.proofs.Resumed.{counts_more, units_append}
use Rattle.rtr_wire.proofs.Slices.{first_ends}

-- so many units of the input come before the rest
pub record Walked (count : ℕ) (input rest : List ℕ) : Type 0 where
  pub us : List ℕ
  pub ms : List Meaning
  pub parts : input ≡ us ++ rest
  pub units : AreUnits us ms
  pub counted : length ms ≡ count

abbrev pub starts : (input : List ℕ) → Walked 0 input input
starts input = record { us = []; ms = []; parts = refl; units = refl; counted = refl }

pub further : (input us rest x left : List ℕ) → input ≡ us ++ rest → rest ≡ x ++ left →
    input ≡ (us ++ x) ++ left
further input us rest x left p q = p ∙ ap (λ l. us ++ l) q ∙ sym (append_assoc us x left)

abbrev pub goes_on : (count : ℕ) (input rest x left : List ℕ) (m : Meaning) →
    Walked count input rest →
    rest ≡ x ++ left → IsUnit x m → Walked (count + 1) input left
goes_on count input rest x left m p parts unit = record {
  us = p.us ++ x;
  ms = p.ms ++ m ∷ [];
  parts = further input p.us rest x left p.parts parts;
  units = units_push p.us x p.ms m p.units unit;
  counted = omega (arith, length-append p.ms (m ∷ []), p.counted);
}

-- ---- an end

pub at_end : (limit count : ℕ) (input rest x left : List ℕ) (e : EndMeaning) → count < limit →
    (p : Walked count input rest) → rest ≡ x ++ left → IsEnd x e → Accepted limit input p.ms e
at_end limit count input rest x left e less p parts end = record {
  b = p.us ++ x;
  accepts = record {
    rest = left;
    parts = further input p.us rest x left p.parts parts;
    sequence =
        record { front = p.us; last = x; parts = refl; units = p.units; end = end };
  };
  below = omega (arith, p.counted, less);
}

walked_bytes : (count : ℕ) (input rest : List ℕ) → (p : Walked count input rest) →
    length input - length rest ≡ length p.us
walked_bytes count input rest p =
    omega (arith, ap length p.parts, length-append p.us rest)

pub at_limit : (limit : ℕ) (input rest : List ℕ) → Walked limit input rest →
    IsViewFaultAt limit input (length input - length rest) [] TooMany
at_limit limit input rest p = record {
  some = record {
    taken = p.us;
    left = rest;
    written = forms (written_units everything p.ms);
    parts = p.parts;
    run = record {
      units = p.us;
      last = [];
      taken_parts = sym (append-nil p.us);
      meanings = p.ms;
      are_units = p.units;
      last_written = [];
      written_parts = sym (append-nil (forms (written_units everything p.ms)));
      counts = p.counted;
      ends = (refl, refl);
    };
  };
  offset_is = walked_bytes limit input rest p;
  last_is = refl;
  not_writer = λ by. by;
}

no_writer : (e : ViewFault) (r : List ℕ) → IsFirstFault r e → IsWriterFault e → ⊥
no_writer (Writer x) r is by = is
no_writer Short r is by = by
no_writer (UnitType t) r is by = by
no_writer UnitLength r is by = by
no_writer TooLong r is by = by
no_writer EmptyProviders r is by = by
no_writer (UnitVersion v) r is by = by
no_writer (Prefix rule) r is by = by
no_writer TooMany r is by = by

bytes_after : (us rest : List ℕ) → IsBytes (us ++ rest) → IsBytes rest
bytes_after [] rest h = h
bytes_after (u ∷ us) rest h = bytes_after us rest (λ i. h (suc i))

pub at_fault : (limit count : ℕ) (e : ViewFault) (input rest : List ℕ) → count < limit →
    Walked count input rest → IsBytes input → IsFirstFault rest e →
    (last : List ℕ) × IsViewFaultAt limit input (length input - length rest) last e
at_fault limit count e input rest less p bytes is =
    let (last, left, parts, f, cause, ends) =
    first_ends everything e rest (bytes_after p.us rest (subst IsBytes p.parts bytes)) is in (
      last,
      record {
        some = record {
          taken = p.us ++ last;
          left = left;
          written = forms (written_units everything p.ms) ++ [];
          parts = further input p.us rest last left p.parts parts;
          run = record {
            units = p.us;
            last = last;
            taken_parts = refl;
            meanings = p.ms;
            are_units = p.units;
            last_written = [];
            written_parts = refl;
            counts =
                subst (λ c. Counts everything limit (Err c) p.ms) (sym cause)
                (omega (arith, p.counted, less));
            ends = subst (λ c. Ends everything (Err c) last left []) (sym cause) ends;
          };
        };
        offset_is = walked_bytes count input rest p;
        last_is = refl;
        not_writer = no_writer e rest is;
      },
    )

-- ---- what is said of the rest is said of all

module _ (limit count : ℕ) (input rest : List ℕ) (p : Walked count input rest)
    (less : count < limit) where
  pub accepted_after : (ms : List Meaning) (e : EndMeaning) → Accepted (limit - count) rest ms e →
      Accepted limit input (p.ms ++ ms) e
  accepted_after ms e a =
      let q = a.accepts.sequence in
      record {
        b = p.us ++ a.b;
        accepts = record {
          rest = a.accepts.rest;
          parts = further input p.us rest a.b a.accepts.rest p.parts a.accepts.parts;
          sequence = record {
            front = p.us ++ q.front;
            last = q.last;
            parts =
                ap (λ l. p.us ++ l) q.parts ∙ sym (append_assoc p.us q.front q.last);
            units = units_append p.us q.front p.ms ms p.units q.units;
            end = q.end;
          };
        };
        below = omega (arith, length-append p.ms ms, p.counted, less, a.below);
      }

  pub fault_after : (offset : ℕ) (last : List ℕ) (e : ViewFault) →
      IsViewFaultAt (limit - count) rest offset last e →
      IsViewFaultAt limit input (length input - length rest + offset) last e
  fault_after offset last e h =
      let s = h.some in
      let run = s.run in
      let all = forms (written_units everything (p.ms ++ run.meanings)) in
      record {
        some = record {
          taken = p.us ++ s.taken;
          left = s.left;
          written = all ++ run.last_written;
          parts = further input p.us rest s.taken s.left p.parts s.parts;
          run = record {
            units = p.us ++ run.units;
            last = run.last;
            taken_parts =
                ap (λ l. p.us ++ l) run.taken_parts
                ∙ sym (append_assoc p.us run.units run.last);
            meanings = p.ms ++ run.meanings;
            are_units =
                units_append p.us run.units p.ms run.meanings p.units run.are_units;
            last_written = run.last_written;
            written_parts = refl;
            counts =
                subst (λ n. Counts everything n (Err (view_cause last e)) (p.ms ++ run.meanings))
                (omega (arith, less))
                (counts_more everything count (limit - count) (view_cause last e) p.ms
                run.meanings (sym p.counted) run.counts);
            ends = run.ends;
          };
        };
        offset_is =
            omega (
              arith,
              walked_bytes count input rest p,
              h.offset_is,
              length-append p.us run.units,
            );
        last_is = h.last_is;
        not_writer = h.not_writer;
      }
