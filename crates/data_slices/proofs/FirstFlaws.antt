-- The first flaw of an input: where units go on as long as they may.
use Rattle.std.proofs.Common.{◌≡◌, ℕ, List, [], ◌++◌, length, map, Option, refl, sym, ap}
use Rattle.std.proofs.Common.{subst, ◌∙◌, append_assoc, append-nil, inl, inr}
use Rattle.rtr_units.specs.End.{EndMeaning, IsEnd}
use Rattle.rtr_units.proofs.Ends.{end_one}
use Rattle.rtr_payload.specs.FirstFault.{first_fault}
use Rattle.rtr_payload.specs.Payloads.{Meaning}
use Rattle.rtr_payload.specs.Units.{IsUnit}
use Rattle.rtr_payload.proofs.Apart.{unit_or_end}
use Rattle.rtr_payload.proofs.Fields.{units_same}
use Rattle.rtr_payload.proofs.Rests.{begins_end_none}
use Rattle.unit_views.specs.Faults.{IsFirstFault}
use Rattle.unit_views.specs.declared.fault.ViewFault.{ViewFault}
use Rattle.rtr_wire.specs.Sequences.{AreUnits}
use Rattle.rtr_wire.proofs.OneAnswer.{begins_end}
use Rattle.rtr_wire.proofs.Runs.{after}
use Rattle.data_memory.specs.Data.{Change, announcement}
use Rattle.data_memory.specs.Deltas.{unit_of}
use Rattle.data_slices.specs.Canonical.{HasData}
use Rattle.data_slices.specs.CanonicalChanges.{AreOrdered, HasChanges}
use Rattle.data_slices.specs.Flaws.{AreAnnounced, AreUnitsOf, IsFirstFlaw, IsUnitOrEnd}
use Rattle.data_slices.specs.Flaws.{IsWrongAfter}
use Rattle.data_slices.specs.PrivateChanges.{BeginsAlso, InVersion, NoUnit}
use Rattle.data_slices.specs.declared.fault.Flaw.{Flaw}
use Rattle.data_slices.specs.declared.fault.Reason.TheVariants.{Refused, NotCanonical}
use Rattle.data_slices.proofs.Sequences.{no_end, not_refused}
use Rattle.data_slices.proofs.Units.{none_at_end, none_at_nothing}

-- ---- what begins alike

pub also_itself : (x : List ℕ) → BeginsAlso x x
also_itself x m b r u eq = (r, eq)

pub also_unit : (c x l : List ℕ) (n : Meaning) → IsUnit c n → BeginsAlso (c ++ x) (c ++ l)
also_unit c x l n unit m b r u eq =
    let t = units_same c b x r n m unit u eq in (l, ap (λ z. z ++ l) t.0)

pub also_end : (c x l : List ℕ) (e : EndMeaning) → IsEnd c e → BeginsAlso (c ++ x) l
also_end c x l e end m b r u eq = absurd (unit_or_end b c r x m e u end (sym eq))

-- ---- units that make such changes

-- the list begins with them, all of version v, and no unit follows
pub record Begins (Such : List Change → Type 0) (l : List ℕ) (v : ℕ) (tail : List ℕ) : Type 0 where
  pub changes : List Change
  pub bytes : List ℕ
  pub parts : l ≡ bytes ++ tail
  pub units : AreUnits bytes (map (unit_of v) changes)
  pub such : Such changes
  pub ends : NoUnit tail

-- an end of data of that version follows
pub record Ended (Such : List Change → Type 0) (l : List ℕ) : Type 0 where
  pub means : EndMeaning
  pub last : List ℕ
  pub rest : List ℕ
  pub end : IsEnd last means
  pub begins : Begins Such l means.version (last ++ rest)

pub data_ended : (l : List ℕ) → HasData l → Ended AreAnnounced l
data_ended l (d, e, h) =
    let q = h.accepts.sequence in
    record {
      means = e;
      last = q.last;
      rest = h.accepts.rest;
      end = q.end;
      begins = record {
        changes = map announcement d;
        bytes = q.front;
        parts =
            h.accepts.parts ∙ after h.bytes q.front q.last h.accepts.rest q.parts;
        units = q.units;
        such = (d, refl, h.in_order);
        ends = none_at_end q.last h.accepts.rest e q.end;
      };
    }

pub changes_ended : (l : List ℕ) → HasChanges l → Ended AreOrdered l
changes_ended l (cs, e, h) =
    let q = h.accepts.sequence in
    record {
      means = e;
      last = q.last;
      rest = h.accepts.rest;
      end = q.end;
      begins = record {
        changes = cs;
        bytes = q.front;
        parts =
            h.accepts.parts ∙ after h.bytes q.front q.last h.accepts.rest q.parts;
        units = q.units;
        such = h.in_order;
        ends = none_at_end q.last h.accepts.rest e q.end;
      };
    }

-- after a front, all of a list of them
alone : (Such : List Change → Type 0) (front c : List ℕ) → (g : AreUnitsOf Such (front ++ c)) →
    Begins Such (front ++ (c ++ [])) g.version []
alone Such front c g = record {
  changes = g.changes;
  bytes = front ++ c;
  parts = sym (append_assoc front c []);
  units = g.units;
  such = g.such;
  ends = none_at_nothing;
}

-- ---- flaws

module _ (Such : List Change → Type 0) (Holds : List ℕ → Type 0)
    (ended : (l : List ℕ) → Holds l → Ended Such l) (input front left : List ℕ)
    (parts : input ≡ front ++ left) (before : AreUnitsOf Such front) (f : Flaw)
    (size : f.offset ≡ length front) where
  flaw : IsWrongAfter Such Holds f.reason front left → (Holds input → ⊥) →
      IsFirstFlaw Such Holds input f
  flaw wrong none = record {
    front = front;
    left = left;
    parts = parts;
    size = size;
    before = before;
    wrong = wrong;
    none = none;
  }

  misplaced : f.reason ≡ NotCanonical → (c rest : List ℕ) → left ≡ c ++ rest → IsUnitOrEnd c →
      (AreUnitsOf Such (front ++ c) → ⊥) → ((more : List ℕ) → Holds (front ++ (c ++ more)) → ⊥) →
      IsFirstFlaw Such Holds input f
  misplaced is c rest at item no_units never =
      flaw
      (subst (λ r. IsWrongAfter Such Holds r front left) (sym is) (
        c,
        rest,
        at,
        item,
        no_units,
        λ h. never [] (subst Holds (ap (λ l. front ++ l) (sym (append-nil c))) h),
      ))
      (λ h. never rest (subst Holds (parts ∙ ap (λ l. front ++ l) at) h))

  -- a unit with which nothing begins that makes such changes
  pub at_unit : f.reason ≡ NotCanonical → (c rest : List ℕ) → left ≡ c ++ rest → (m : Meaning) →
      IsUnit c m → ((more : List ℕ) (v : ℕ) (tail : List ℕ) →
      Begins Such (front ++ (c ++ more)) v tail → ⊥) → IsFirstFlaw Such Holds input f
  at_unit is c rest at m u never =
      misplaced is c rest at (inl (m, u)) (λ g. never [] g.version [] (alone Such front c g))
      (λ more h.
      let g = ended (front ++ (c ++ more)) h in
      never more g.means.version (g.last ++ g.rest) g.begins)

  -- where units go on no further
  module _ (version : Option ℕ) (so_far : (x : List ℕ) → BeginsAlso x left → (v : ℕ)
      (tail : List ℕ) → Begins Such (front ++ x) v tail → (tail ≡ x) × InVersion version v) where
    -- a unit that doesn't go on
    pub at_next_unit : f.reason ≡ NotCanonical → (c rest : List ℕ) → left ≡ c ++ rest →
        (m : Meaning) → IsUnit c m → IsFirstFlaw Such Holds input f
    at_next_unit is c rest at m u =
        at_unit is c rest at m u (λ more v tail g.
        let t = so_far (c ++ more)
        (subst (BeginsAlso (c ++ more)) (sym at) (also_unit c more rest m u)) v tail g in
        g.ends m c more u t.0)

    -- an end of data of another version
    pub at_end : f.reason ≡ NotCanonical → (c rest : List ℕ) → left ≡ c ++ rest →
        (e : EndMeaning) → IsEnd c e → (InVersion version e.version → ⊥) →
        IsFirstFlaw Such Holds input f
    at_end is c rest at e end not =
        misplaced is c rest at (inr (e, end))
        (λ g.
        let t = so_far (c ++ []) (also_end c [] left e end) g.version [] (alone Such front c g) in
        no_end e (subst (λ l. IsEnd l e) (sym (t.0 ∙ append-nil c)) end))
        (λ more h.
        let g = ended (front ++ (c ++ more)) h in
        let t = so_far (c ++ more) (also_end c more left e end) g.means.version (g.last ++ g.rest)
        g.begins in
        not (subst (λ (d : EndMeaning). InVersion version d.version)
        (sym (end_one c g.last more g.rest e g.means end g.end (sym t.0)).1) t.1))

    -- a fault
    pub at_fault : (fault : ViewFault) → f.reason ≡ Refused fault → IsFirstFault left fault →
        IsFirstFlaw Such Holds input f
    at_fault fault is first =
        flaw (subst (λ r. IsWrongAfter Such Holds r front left) (sym is) first)
        (λ h.
        let g = ended (front ++ left) (subst Holds parts h) in
        let t = so_far left (also_itself left) g.means.version (g.last ++ g.rest) g.begins in
        not_refused fault left first
        (ap first_fault (sym t.0)
        ∙ begins_end_none (g.last ++ g.rest) (begins_end g.last g.rest g.means g.end)))
