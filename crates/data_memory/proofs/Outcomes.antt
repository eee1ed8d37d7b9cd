-- What follows from a call of `apply` over a known input.
use Rattle.std.proofs.Common.{◌≡◌, ℕ, ◌<◌, ◌≤◌, List, [], ◌∷◌, ◌++◌, map, length, Option, Some}
use Rattle.std.proofs.Common.{None, Result, Ok, Err, refl, sym, ap, ◌∙◌, subst, append_assoc}
use Rattle.std.proofs.Common.{arith, inl, inr}
use Rattle.std.proofs.lemmas.Bool.{cases_lt}
use Rattle.std.proofs.lemmas.List.{map-append}
use Rattle.std.specs.Prelude.{IfSome}
use Rattle.std.specs.Io.KnownBytes.{Consumes}
use Rattle.rtr_units.specs.AnyEnd.{end_meaning}
use Rattle.rtr_units.specs.End.{EndMeaning, end_list}
use Rattle.rtr_units.specs.StopCauses.{cause_of, ReaderState}
use Rattle.rtr_units.specs.declared.end.EndOfData.{EndOfData}
use Rattle.rtr_units.specs.declared.fault.Fault.{Fault}
use Rattle.rtr_payload.proofs.Apart.{begins_apart}
use Rattle.rtr_payload.proofs.Fields.{units_same}
use Rattle.rtr_payload.specs.FirstFault.{BeginsEnd}
use Rattle.rtr_payload.specs.Payloads.{Meaning, Payload}
use Rattle.rtr_payload.specs.Units.{IsUnit}
use Rattle.rtr_wire.proofs.OneAnswer.{one_run, sequence_run}
use Rattle.rtr_wire.proofs.Push.{units_push}
use Rattle.rtr_wire.proofs.Runs.{accepted_same, goes_on}
use Rattle.rtr_wire.proofs.Runs.{after as regrouped}
use Rattle.rtr_wire.specs.Run.{BlamesNobody, Counts, Ends, Run}
use Rattle.rtr_wire.specs.Sequences.{Accepts, AreUnits, IsSequence, everything, forms}
use Rattle.rtr_wire.specs.Sequences.{sequence_form, written_units}
use Rattle.data_memory.specs.Applying.{Applies, BlamesNoCause, BlamesNone, CountsUnits}
use Rattle.data_memory.specs.Applying.{IsApplicable, Leads, StopsApplying, StopsChange}
use Rattle.data_memory.specs.Changes.{after_all}
use Rattle.data_memory.specs.Data.{Change as Changing, after}
use Rattle.data_memory.specs.Deltas.{change_forms, unit_of}
use Rattle.data_memory.specs.Sequences.{change_of}
use Rattle.data_memory.specs.declared.apply_error.ApplyCause.{ApplyCause}
use Rattle.data_memory.specs.declared.apply_error.ApplyCause.TheVariants.{Read, Change}
use Rattle.data_memory.specs.declared.apply_error.ApplyError.{ApplyError}
use Rattle.data_memory.specs.declared.change_error.ChangeError.{ChangeError}
use Rattle.data_memory.specs.declared.change_error.ChangeError.TheVariants.{Duplicate, Unknown}
use Rattle.data_memory.specs.declared.change_error.ChangeError.TheVariants.{KeyTooLong, Memory}
use Rattle.data_memory.specs.declared.change_error.ChangeError.TheVariants.{NoProviders}
use Rattle.data_memory.proofs.Accepted.{again}
use Rattle.data_memory.proofs.Delta.{after_append}
use Rattle.data_memory.proofs.Merge.{refused_all}
use Rattle.data_memory.proofs.Applied.{one_ok}

known : (a b : Option (List ℕ)) (t input : List ℕ) → a ≡ Some input → Consumes a b t →
    (left : List ℕ) × (b ≡ Some left) × (input ≡ t ++ left)
known None b t input e took = absurd cc
known (Some x) None t input e took = absurd took
known (Some x) (Some y) t input e took = let same : x ≡ input = cc in (y, refl, sym same ∙ took)

-- ---- units that are the first of others

pub units_front : (a r c s : List ℕ) (ms ns : List Meaning) → AreUnits a ms → AreUnits c ns →
    a ++ r ≡ c ++ s → length ms ≤ length ns → (more : List Meaning) × (ns ≡ ms ++ more)
units_front a r c s [] ns h j e l = (ns, refl)
units_front a r c s (m ∷ ms) [] h j e l = absurd (omega arith)
units_front a r c s (m ∷ ms) (n ∷ ns) h j e l =
    let f = units_same h.0 j.0 (h.1 ++ r) (j.1 ++ s) m n h.3 j.3
    (sym (regrouped a h.0 h.1 r h.2) ∙ e ∙ regrouped c j.0 j.1 s j.2) in
    let t = units_front h.1 r j.1 s ms ns h.4 j.4 f.2 (omega arith) in
    (t.0, λ i. sym f.1 i ∷ t.1 i)

-- units at the front of an accepted input are its first
front_of_accepted : (input b a r : List ℕ) (ms ns : List Meaning) (e : EndMeaning) →
    Accepts input b ms e → AreUnits a ns → input ≡ a ++ r →
    (more : List Meaning) × (ms ≡ ns ++ more)
front_of_accepted input b a r ms ns e h j is =
    let s = h.sequence in
    let parts : input ≡ s.front ++ (s.last ++ h.rest) =
    h.parts ∙ regrouped b s.front s.last h.rest s.parts in
    let at_end : BeginsEnd (s.last ++ h.rest) =
    record { bytes = s.last; means = e; rest = h.rest; end = s.end; parts = refl } in
    elim (cases_lt (length ms) (length ns)) [
      | inl lt ↦
          absurd (begins_apart (s.last ++ h.rest)
          (goes_on s.front (s.last ++ h.rest) a r ms ns s.units j (sym parts ∙ is) lt) at_end)
      | inr le ↦ units_front a r s.front (s.last ++ h.rest) ns ms j s.units (sym is ∙ parts) le
    ]

-- where one of the changes is refused, all of them are
refused_among : (input b us last left : List ℕ) (ms ns : List Meaning) (m : Meaning)
    (e : EndMeaning) (before made this : List Payload) (error : ChangeError) →
    Accepts input b ms e → AreUnits us ns → IsUnit last m → input ≡ (us ++ last) ++ left →
    after_all (map change_of ns) (Ok before) ≡ Ok made → after (change_of m) made ≡ Err error →
    after_all (map change_of ms) (Ok before) ≡ Ok this → ⊥
refused_among input b us last left ms ns m e before made this error h j unit is so refusal all =
    let f = front_of_accepted input b (us ++ last) left ms (ns ++ m ∷ []) e h
    (units_push us last ns m j unit) is in
    let refused : after_all (map change_of ms) (Ok before) ≡ Err error =
    ap (λ l. after_all (map change_of l) (Ok before)) (f.1 ∙ append_assoc ns (m ∷ []) f.0)
    ∙ ap (λ l. after_all l (Ok before)) (map-append change_of ns (m ∷ f.0))
    ∙ after_append (map change_of ns) (map change_of (m ∷ f.0)) (Ok before)
    ∙ ap (after_all (map change_of (m ∷ f.0))) so
    ∙ ap (after_all (map change_of f.0)) refusal
    ∙ refused_all (map change_of f.0) error in
    let never = sym refused ∙ all in absurd cc

-- ---- an applicable input is applied

-- a run that reads stopped there
read_run : (limit : ℕ) (f : Fault) (us last left : List ℕ) (ns : List Meaning) → AreUnits us ns →
    Counts everything limit (Err (cause_of f)) ns →
    Ends everything (Err (cause_of f)) last left [] →
    Run everything limit (Err (cause_of f)) (us ++ last) left
    (forms (written_units everything ns) ++ [])
read_run limit f us last left ns units counts ends = record {
  units = us;
  last = last;
  taken_parts = refl;
  meanings = ns;
  are_units = units;
  last_written = [];
  written_parts = refl;
  counts = counts;
  ends = ends;
}

no_change : (error : ChangeError) (input b us last left : List ℕ) (ms ns : List Meaning)
    (e : EndMeaning) (before made this : List Payload) → BlamesNoCause (Change error) →
    Accepts input b ms e → AreUnits us ns → input ≡ (us ++ last) ++ left →
    after_all (map change_of ns) (Ok before) ≡ Ok made → StopsChange error last made →
    after_all (map change_of ms) (Ok before) ≡ Ok this → ⊥
no_change Memory input b us last left ms ns e before made this blames h j is so stops all = blames
no_change Duplicate input b us last left ms ns e before made this blames h j is so (m, unit, x)
    all =
    refused_among input b us last left ms ns m e before made this Duplicate h j unit is so x all
no_change Unknown input b us last left ms ns e before made this blames h j is so (m, unit, x)
    all =
    refused_among input b us last left ms ns m e before made this Unknown h j unit is so x all
no_change KeyTooLong input b us last left ms ns e before made this blames h j is so (m, unit, x)
    all =
    refused_among input b us last left ms ns m e before made this KeyTooLong h j unit is so x all
no_change NoProviders input b us last left ms ns e before made this blames h j is so (m, unit, x)
    all =
    refused_among input b us last left ms ns m e before made this NoProviders h j unit is so x all

no_fault : (limit : ℕ) (f : Fault) (input b us last left : List ℕ) (ms ns : List Meaning)
    (e : EndMeaning) → BlamesNobody (Err (cause_of f)) → Accepts input b ms e →
    length ms < limit → AreUnits us ns → input ≡ (us ++ last) ++ left →
    Counts everything limit (Err (cause_of f)) ns →
    Ends everything (Err (cause_of f)) last left [] → ⊥
no_fault limit f input b us last left ms ns e blames h lt j is counts ends =
    let t = one_run everything limit (Err (cause_of f)) (Ok (length (written_units everything ms)))
    (us ++ last) left (forms (written_units everything ns) ++ []) b h.rest
    (sequence_form (written_units everything ms) e)
    (read_run limit f us last left ns j counts ends)
    (sequence_run everything limit b h.rest ms e h.sequence lt) (sym is ∙ h.parts) blames tt in
    let never = t.0 in absurd cc

at_left : (P : List ℕ → Type 0) (o : Option (List ℕ)) (x : List ℕ) → o ≡ Some x → IfSome o P → P x
at_left P o x e h = subst (λ q. IfSome q P) e h

module _ (limit : ℕ) (input b : List ℕ) (e : EndMeaning) (old new : ReaderState)
    (before after_it this : List Payload) (is : old.left ≡ Some input)
    (a : IsApplicable limit input b e before this) where
  never_stops : (cause : ApplyCause) → BlamesNoCause cause → (us last left : List ℕ)
      (ns : List Meaning) (made : List Payload) → AreUnits us ns → input ≡ (us ++ last) ++ left →
      after_all (map change_of ns) (Ok before) ≡ Ok made → CountsUnits cause limit ns →
      new.left ≡ Some left → StopsApplying cause last new.left made → ⊥
  never_stops (Read f) blames us last left ns made units parts so counts at (no_writer, ends) =
      no_fault limit f input b us last left a.meanings ns e blames a.accepts a.below units parts
      counts (at_left _ new.left left at ends)
  never_stops (Change error) blames us last left ns made units parts so counts at stops =
      no_change error input b us last left a.meanings ns e before made this blames a.accepts units
      parts so stops a.allowed

  pub leads : (result : Result EndOfData ApplyError) →
      Applies limit result old new before after_it → BlamesNone result →
      Leads result input b e new.left after_it this
  leads (Ok d) p blames =
      let (left, at, parts) = known old.left new.left (p.units ++ p.last) input is p.takes in
      let (few, last_is, end, kept) = p.ends in
      let mine : Accepts input (p.units ++ p.last) p.meanings (end_meaning d) =
      record {
        rest = left;
        parts = parts;
        sequence = record {
          front = p.units;
          last = p.last;
          parts = refl;
          units = p.are_units;
          end = end;
        };
      } in
      let same =
      accepted_same input (p.units ++ p.last) b p.meanings a.meanings (end_meaning d) e mine
      a.accepts in
      record {
        end = d;
        answer = refl;
        means = same.2;
        made =
            kept
            ∙ one_ok (after_all (map change_of a.meanings) (Ok before)) p.made this
            (ap (λ l. after_all (map change_of l) (Ok before)) (sym same.1) ∙ p.allowed) a.allowed;
        rest = left;
        parts = parts ∙ ap (λ (l : List ℕ). l ++ left) same.0;
        leaves = at;
      }
  leads (Err error) p blames =
      let (left, at, parts) = known old.left new.left (p.units ++ p.last) input is p.takes in
      let (same, counts, stops, kept) = p.ends in
      absurd (never_stops error.cause blames p.units p.last left p.meanings p.made p.are_units
      parts p.allowed counts at stops)

-- what is applied is applicable
pub applied : (limit : ℕ) (input : List ℕ) (d : EndOfData) (old new : ReaderState)
    (before after_it : List Payload) → old.left ≡ Some input →
    (p : Applies limit (Ok d) old new before after_it) →
    IsApplicable limit input (p.units ++ p.last) (end_meaning d) before after_it
applied limit input d old new before after_it is p =
    let (left, at, parts) = known old.left new.left (p.units ++ p.last) input is p.takes in
    let (few, last_is, end, kept) = p.ends in
    record {
      meanings = p.meanings;
      accepts = record {
        rest = left;
        parts = parts;
        sequence = record {
          front = p.units;
          last = p.last;
          parts = refl;
          units = p.are_units;
          end = end;
        };
      };
      below = few;
      allowed = p.allowed ∙ ap (λ l. Ok l) (sym kept);
    }

-- ---- what changes are written as

many : (v : ℕ) (cs : List Changing) → length (map (unit_of v) cs) ≡ length cs
many v [] = refl
many v (c ∷ cs) = omega (arith, many v cs)

-- where these changes lead from the one to the other, so does the sequence that they are written as
pub forms_lead : (v limit : ℕ) (cs : List Changing) (e : EndMeaning) (rest : List ℕ)
    (result : Result EndOfData ApplyError) (old new : ReaderState)
    (before after_it this : List Payload) →
    IsSequence (change_forms v cs ++ end_list e) (map (unit_of v) cs) e →
    after_all cs (Ok before) ≡ Ok this → length cs < limit →
    old.left ≡ Some ((change_forms v cs ++ end_list e) ++ rest) →
    Applies limit result old new before after_it → BlamesNone result →
    Leads result ((change_forms v cs ++ end_list e) ++ rest) (change_forms v cs ++ end_list e) e
    new.left after_it this
forms_lead v limit cs e rest result old new before after_it this sent so few is p blames =
    leads limit ((change_forms v cs ++ end_list e) ++ rest) (change_forms v cs ++ end_list e) e old
    new before after_it this is (record {
      meanings = map (unit_of v) cs;
      accepts = record { rest = rest; parts = refl; sequence = sent };
      below = omega (arith, many v cs, few);
      allowed = ap (λ l. after_all l (Ok before)) (again v cs) ∙ so;
    }) result p blames
