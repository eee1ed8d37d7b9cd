-- An input that begins with a sequence of one version has no stray.
use Rattle.std.proofs.Common.{◌≡◌, ◌≢◌, ◌⊎◌, inl, inr, ℕ, List, [], ◌∷◌, ◌++◌, map}
use Rattle.std.proofs.Common.{Option, Some, None, refl, sym, ap, ◌∙◌}
use Rattle.std.specs.List.{AllByRecursion}
use Rattle.rtr_units.specs.End.{EndMeaning, IsEnd}
use Rattle.rtr_units.proofs.Ends.{end_one}
use Rattle.rtr_payload.specs.FirstFault.{BeginsEnd, BeginsUnit}
use Rattle.rtr_payload.specs.Payloads.{Meaning}
use Rattle.rtr_payload.proofs.Apart.{begins_apart, unit_or_end}
use Rattle.rtr_payload.proofs.Fields.{units_same}
use Rattle.rtr_payload.proofs.Rests.{begins_end_none, begins_unit_none}
use Rattle.rtr_wire.specs.Sequences.{AreUnits}
use Rattle.rtr_wire.proofs.Runs.{after}
use Rattle.data_memory.specs.Data.{Change}
use Rattle.data_memory.specs.Deltas.{unit_of}
use Rattle.data_slices.specs.Order.{AreOf, IsOther, IsStray, IsStrayAt, Sends}
use Rattle.data_slices.specs.declared.fault.Flaw.{Flaw}
use Rattle.data_slices.specs.declared.fault.Reason.{Reason}
use Rattle.data_slices.specs.declared.fault.Reason.TheVariants.{NotCanonical, Refused}
use Rattle.data_slices.proofs.Sequences.{not_refused}

-- a unit or an end of data of the version begins there
abbrev Starts : List ℕ → ℕ → Type 0
Starts left v =
    ((u : BeginsUnit left) × (u.means.version ≡ v)) ⊎ ((d : BeginsEnd left) × (d.means.version ≡ v))

abbrev AllOf : ℕ → List Meaning → Type 0
AllOf v ms = AllByRecursion (λ m. m.version ≡ v) ms

module _ (e : EndMeaning) (last rest : List ℕ) (end : IsEnd last e) where
  abbrev v : ℕ
  v = e.version

  walk : (ms : List Meaning) (front left : List ℕ) (cs : List Change) (us : List ℕ) →
      AreUnits front ms → AreUnits us (map (unit_of v) cs) →
      front ++ left ≡ us ++ (last ++ rest) → AllOf v ms × Starts left v
  walk [] front left [] us h j eq = (
    tt,
    inr (
      record {
        bytes = last;
        means = e;
        rest = rest;
        end = end;
        parts =
            sym (ap (λ l. l ++ left) h) ∙ eq ∙ ap (λ l. l ++ (last ++ rest)) j;
      },
      refl,
    ),
  )
  walk [] front left (c ∷ cs) us h (x, more, at, u, units) eq = (
    tt,
    inl (
      record {
        bytes = x;
        means = unit_of v c;
        rest = more ++ (last ++ rest);
        unit = u;
        parts = sym (ap (λ l. l ++ left) h) ∙ eq ∙ after us x more (last ++ rest) at;
      },
      refl,
    ),
  )
  walk (m ∷ ms) front left [] us (y, more, at, u, units) j eq =
      absurd (unit_or_end y last (more ++ left) rest m e u end
      (sym (after front y more left at) ∙ eq ∙ ap (λ l. l ++ (last ++ rest)) j))
  walk (m ∷ ms) front left (c ∷ cs) us (y, more, at, u, units) (x, others, is, w, rests) eq =
      let t = units_same y x (more ++ left) (others ++ (last ++ rest)) m (unit_of v c) u w
      (sym (after front y more left at) ∙ eq ∙ after us x others (last ++ rest) is) in
      let k = walk ms more left cs others units rests t.2 in
      ((ap (λ (n : Meaning). n.version) t.1, k.0), k.1)

same_version : (w v : ℕ) (ms : List Meaning) → ms ≢ [] → AllOf w ms → AllOf v ms → w ≡ v
same_version w v [] some a b = absurd (some refl)
same_version w v (m ∷ ms) some (g, a) (h, b) = sym g ∙ h

not_other : (version : Option ℕ) (v : ℕ) (ms : List Meaning) (left : List ℕ) →
    AreOf version ms → AllOf v ms → Starts left v → IsOther version left → ⊥
not_other None v ms left of all s o = o
not_other (Some w) v ms left (some, of) all (inl (u, is)) (inl (x, not)) =
    let t = units_same x.bytes u.bytes x.rest u.rest x.means u.means x.unit u.unit
    (sym x.parts ∙ u.parts) in
    not (ap (λ (n : Meaning). n.version) t.1 ∙ is ∙ sym (same_version w v ms some of all))
not_other (Some w) v ms left (some, of) all (inl (u, is)) (inr (x, not)) = begins_apart left u x
not_other (Some w) v ms left (some, of) all (inr (d, is)) (inl (x, not)) = begins_apart left x d
not_other (Some w) v ms left (some, of) all (inr (d, is)) (inr (x, not)) =
    let t = end_one x.bytes d.bytes x.rest d.rest x.means d.means x.end d.end
    (sym x.parts ∙ d.parts) in
    not (ap (λ (n : EndMeaning). n.version) t.1 ∙ is ∙ sym (same_version w v ms some of all))

not_stray : (reason : Reason) (version : Option ℕ) (v : ℕ) (ms : List Meaning) (left : List ℕ) →
    AreOf version ms → AllOf v ms → Starts left v → IsStray reason version left → ⊥
not_stray (Refused f) version v ms left of all (inl (u, is)) h =
    not_refused f left h (begins_unit_none left u)
not_stray (Refused f) version v ms left of all (inr (d, is)) h =
    not_refused f left h (begins_end_none left d)
not_stray NotCanonical version v ms left of all s h = not_other version v ms left of all s h

pub no_stray : (input : List ℕ) (f : Flaw) (cs : List Change) (e : EndMeaning) →
    Sends input cs e → IsStrayAt input f → ⊥
no_stray input f cs e s h =
    let a = s.accepts in
    let q = a.sequence in
    let k = walk e q.last a.rest q.end h.meanings h.front h.left cs q.front h.units q.units
    (sym h.parts ∙ a.parts ∙ after s.bytes q.front q.last a.rest q.parts) in
    not_stray f.reason h.version e.version h.meanings h.left h.one k.0 k.1 h.wrong
