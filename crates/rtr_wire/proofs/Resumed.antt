-- Two runs from a slice into another, one after the other, are one.
use Rattle.std.proofs.Common.{◌≡◌, ℕ, ◌+◌, List, [], ◌∷◌, ◌++◌, length, take, drop, Result, Ok, Err}
use Rattle.std.proofs.Common.{sym, ap, subst, ◌∙◌, append_assoc, append-nil, arith}
use Rattle.std.specs.Prelude.{MatchResult}
use Rattle.std.proofs.lemmas.List.{length-append, length-drop, drop-drop}
use Rattle.std.proofs.lemmas.List.Elements.{filter_map-append}
use Rattle.std.proofs.Math.Seq.{drop-append_seam, take-append_seam}
use Rattle.rtr_units.specs.StopCauses.{Cause, by_reader, by_writer, too_many, no_memory, wrong}
use Rattle.rtr_payload.specs.Payloads.{Meaning}
use Rattle.rtr_wire.specs.Into.{NormalisesInto, into_answer}
use Rattle.rtr_wire.specs.Run.{Counts, Ends}
use Rattle.rtr_wire.specs.Sequences.{AreUnits, Output, forms, written_units}
use Rattle.rtr_wire.specs.SliceRun.{view_cause}
use Rattle.rtr_wire.specs.declared.into.IntoFault.{IntoFault}
use Rattle.rtr_wire.specs.declared.into.IntoFault.TheVariants.{NoRoom, TooMany, Refused}
use Rattle.rtr_wire.specs.declared.into.Progress.{Progress}
use Rattle.rtr_wire.proofs.OneAnswer.{refused_at}
use Rattle.rtr_wire.proofs.Push.{forms_append}
use Rattle.rtr_wire.proofs.Runs.{after as joined_after}

pub units_append : (a b : List ℕ) (ms ns : List Meaning) → AreUnits a ms → AreUnits b ns →
    AreUnits (a ++ b) (ms ++ ns)
units_append a b [] ns h j = subst (λ (x : List ℕ). AreUnits (x ++ b) ns) (sym h) j
units_append a b (m ∷ ms) ns h j = (
  h.0,
  h.1 ++ b,
  ap (λ (x : List ℕ). x ++ b) h.2 ∙ append_assoc h.0 h.1 b,
  h.3,
  units_append h.1 b ms ns h.4 j,
)

forms_both : (what : Output) (ms ns : List Meaning) →
    forms (written_units what (ms ++ ns)) ≡
    forms (written_units what ms) ++ forms (written_units what ns)
forms_both what ms ns =
    ap forms (filter_map-append what.unit ms ns)
    ∙ forms_append (written_units what ms) (written_units what ns)

-- a run that stopped wrote nothing for its last bytes
none_written : (what : Output) (limit : ℕ) (x : IntoFault) (input before after : List ℕ)
    (p : Progress) (f : NormalisesInto what limit (Err x) input before after p) →
    f.run.last_written ≡ []
none_written what limit NoRoom input before after p f = f.stops.1
none_written what limit TooMany input before after p f = f.run.ends.1
none_written what limit (Refused e) input before after p f =
    let (g, is) = f.stops in
    (refused_at what g f.run.last f.left f.run.last_written
    (subst (λ c. Ends what (Err c) f.run.last f.left f.run.last_written) is f.run.ends)).2

-- as many units more before it as are allowed more
pub counts_more : (what : Output) (n limit : ℕ) (c : Cause) (ms ns : List Meaning) → n ≡ length ms →
    Counts what limit (Err c) ns → Counts what (n + limit) (Err c) (ms ++ ns)
counts_more what n limit too_many ms ns e h = omega (arith, e, h, length-append ms ns)
counts_more what n limit by_reader ms ns e h = omega (arith, e, h, length-append ms ns)
counts_more what n limit by_writer ms ns e h = omega (arith, e, h, length-append ms ns)
counts_more what n limit no_memory ms ns e h = omega (arith, e, h, length-append ms ns)
counts_more what n limit (wrong f) ms ns e h = omega (arith, e, h, length-append ms ns)

-- after a first run that stopped
module _ (what : Output) (first limit : ℕ) (fault : IntoFault) (input before mid after : List ℕ)
    (p q : Progress) (f : NormalisesInto what first (Err fault) input before mid p) where
  abbrev rest : List ℕ
  rest = f.run.last ++ f.left

  parts_at_rest : input ≡ f.run.units ++ rest
  parts_at_rest = f.parts ∙ joined_after f.viewed f.run.units f.run.last f.left f.run.taken_parts

  rest_is : drop p.taken input ≡ rest
  rest_is =
      ap (drop p.taken) parts_at_rest ∙ ap (λ (n : ℕ). drop n (f.run.units ++ rest)) f.taken
      ∙ drop-append_seam f.run.units rest

  front_is : take p.written mid ≡ f.form
  front_is =
      ap (take p.written) f.output
      ∙ ap (λ (n : ℕ). take n (f.form ++ drop p.written before)) f.written
      ∙ take-append_seam f.form (drop p.written before)

  kept_is : drop p.written mid ≡ drop p.written before
  kept_is =
      ap (drop p.written) f.output
      ∙ ap (λ (n : ℕ). drop n (f.form ++ drop p.written before)) f.written
      ∙ drop-append_seam f.form (drop p.written before)

  form_is : f.form ≡ forms (written_units what f.run.meanings)
  form_is =
      f.run.written_parts
      ∙ ap (λ w. forms (written_units what f.run.meanings) ++ w)
      (none_written what first fault input before mid p f)
      ∙ append-nil (forms (written_units what f.run.meanings))

  abbrev Second : Result Unit IntoFault → Type 0
  Second r = NormalisesInto what limit r (drop p.taken input) (drop p.written mid) after q

  forms_are : (r : Result Unit IntoFault) → (g : Second r) →
      p.forms + q.forms ≡ length (written_units what (f.run.meanings ++ g.run.meanings))
  forms_are r g =
      omega (
        arith,
        f.forms,
        g.forms,
        ap length (filter_map-append what.unit f.run.meanings g.run.meanings),
        length-append (written_units what f.run.meanings) (written_units what g.run.meanings),
      )

  counted : (r : Result Unit IntoFault) → (g : Second r) →
      Counts what (p.units + limit) (into_answer (p.forms + q.forms) g.last r)
      (f.run.meanings ++ g.run.meanings)
  counted (Ok done) g = (
    forms_are (Ok done) g,
    omega (arith, g.run.counts.1, f.units, length-append f.run.meanings g.run.meanings),
  )
  counted (Err NoRoom) g =
      counts_more what p.units limit by_writer f.run.meanings g.run.meanings f.units g.run.counts
  counted (Err TooMany) g =
      counts_more what p.units limit too_many f.run.meanings g.run.meanings f.units g.run.counts
  counted (Err (Refused e)) g =
      counts_more what p.units limit (view_cause g.last e) f.run.meanings g.run.meanings f.units
      g.run.counts

  ended : (r : Result Unit IntoFault) → (g : Second r) →
      Ends what (into_answer (p.forms + q.forms) g.last r) g.run.last g.left g.run.last_written
  ended (Ok done) g = g.run.ends
  ended (Err NoRoom) g = g.run.ends
  ended (Err TooMany) g = g.run.ends
  ended (Err (Refused e)) g = g.run.ends

  both_taken : (r : Result Unit IntoFault) → (g : Second r) →
      MatchResult r (λ _. p.taken + q.taken ≡ length (f.run.units ++ g.viewed))
      (λ _. p.taken + q.taken ≡ length (f.run.units ++ g.run.units))
  both_taken (Ok done) g = omega (arith, f.taken, g.taken, length-append f.run.units g.viewed)
  both_taken (Err x) g = omega (arith, f.taken, g.taken, length-append f.run.units g.run.units)

  pub one_run_of_two : (r : Result Unit IntoFault) → Second r →
      NormalisesInto what (p.units + limit) r input before (take p.written mid ++ after) (record {
        units = p.units + q.units;
        forms = p.forms + q.forms;
        taken = p.taken + q.taken;
        written = p.written + q.written;
      })
  one_run_of_two r g = record {
    viewed = f.run.units ++ g.viewed;
    left = g.left;
    form = f.form ++ g.form;
    parts =
        parts_at_rest ∙ ap (λ l. f.run.units ++ l) (sym rest_is ∙ g.parts)
        ∙ sym (append_assoc f.run.units g.viewed g.left);
    last = g.last;
    run = record {
      units = f.run.units ++ g.run.units;
      last = g.run.last;
      taken_parts =
          ap (λ l. f.run.units ++ l) g.run.taken_parts
          ∙ sym (append_assoc f.run.units g.run.units g.run.last);
      meanings = f.run.meanings ++ g.run.meanings;
      are_units =
          units_append f.run.units g.run.units f.run.meanings g.run.meanings f.run.are_units
          g.run.are_units;
      last_written = g.run.last_written;
      written_parts =
          (λ i. form_is i ++ g.run.written_parts i)
          ∙ sym (append_assoc (forms (written_units what f.run.meanings))
          (forms (written_units what g.run.meanings)) g.run.last_written)
          ∙ ap (λ l. l ++ g.run.last_written)
          (sym (forms_both what f.run.meanings g.run.meanings));
      counts = counted r g;
      ends = ended r g;
    };
    last_is = g.last_is;
    units = omega (arith, f.units, g.units, length-append f.run.meanings g.run.meanings);
    forms = forms_are r g;
    taken = both_taken r g;
    written = omega (arith, f.written, g.written, length-append f.form g.form);
    fits = omega (arith, f.fits, g.fits, ap length kept_is, length-drop p.written before);
    output =
        (λ i. front_is i ++ g.output i)
        ∙ ap (λ l. f.form ++ (g.form ++ l))
        (ap (drop q.written) kept_is ∙ drop-drop q.written p.written before)
        ∙ sym (append_assoc f.form g.form (drop (p.written + q.written) before));
    room = g.room;
    room_is = omega (arith, f.fits, g.room_is, ap length kept_is, length-drop p.written before);
    stops = g.stops;
  }

pub resumed : (what : Output) (first limit : ℕ) (fault : IntoFault) (r : Result Unit IntoFault)
    (input before mid after : List ℕ) (p q : Progress) →
    NormalisesInto what first (Err fault) input before mid p →
    NormalisesInto what limit r (drop p.taken input) (drop p.written mid) after q →
    NormalisesInto what (p.units + limit) r input before (take p.written mid ++ after) (record {
      units = p.units + q.units;
      forms = p.forms + q.forms;
      taken = p.taken + q.taken;
      written = p.written + q.written;
    })
resumed what first limit fault r input before mid after p q f g =
    one_run_of_two what first limit fault input before mid after p q f r g
