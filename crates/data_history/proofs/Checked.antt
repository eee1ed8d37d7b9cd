-- Whether bytes are steps back.
use Rattle.std.proofs.Common.{◌≡◌, ℕ, List, [], ◌∷◌, length, refl, ap, subst, sym, arith}
use Rattle.rtr_units.specs.End.{EndMeaning}
use Rattle.data_memory.specs.Data.{Change}
use Rattle.data_slices.specs.CanonicalChanges.{HoldsChanges}
use Rattle.data_slices.proofs.Reapplied.{one_changes}
use Rattle.data_history.specs.Snapshots.{GoesBack, LeadsTo, Snapshot}
use Rattle.data_history.specs.Parts.{HasPart, part_bytes, part_rest}
use Rattle.data_history.proofs.Steps.{not_empty}

pub empty : (b : List ℕ) → length b ≡ 0 → b ≡ []
empty [] h = refl
empty (x ∷ xs) h = absurd (omega (arith, h))

-- no part is there
pub no_part : (b : List ℕ) (x : Snapshot) (ys : List Snapshot) → (length b ≡ 0 → ⊥) →
    (HasPart b → ⊥) → GoesBack b x ys → ⊥
no_part b x [] some absent g = some (ap length g)
no_part b x (y ∷ ys) some absent g = absent g.0

-- the first step leads to a snapshot with this end of data
pub leads_first : (b s : List ℕ) (end : EndMeaning) (cs : List Change) (x : Snapshot)
    (ys : List Snapshot) (P : Type 0) → HasPart b → s ≡ part_bytes b → HoldsChanges s cs end →
    GoesBack b x ys → ((y : Snapshot) (zs : List Snapshot) → ys ≡ y ∷ zs → LeadsTo s x y →
    y.end ≡ end → GoesBack (part_rest b) y zs → P) → P
leads_first b s end cs x [] P part is j g f = absurd (not_empty b part g)
leads_first b s end cs x (y ∷ ys) P part is j g f =
    let step : LeadsTo s x y = subst (λ t. LeadsTo t x y) (sym is) g.1 in
    f y ys refl step (one_changes s step.changes cs y.end end step.holds j).1 g.2
