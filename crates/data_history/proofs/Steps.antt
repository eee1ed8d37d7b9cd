-- A step back from a snapshot.
use Rattle.std.proofs.Common.{◌≡◌, ℕ, true, false, List, [], ◌∷◌, ◌++◌}
use Rattle.std.proofs.Common.{Some, None, length, refl, sym, ap, subst, ◌∙◌}
use Rattle.std.proofs.Common.{arith, append_assoc, eq-eqb, ne_eqb, nat_eq}
use Rattle.rtr_units.specs.End.{EndMeaning}
use Rattle.data_memory.specs.Data.{Change}
use Rattle.data_slices.specs.Canonical.{HoldsData}
use Rattle.data_slices.specs.CanonicalChanges.{HoldsChanges}
use Rattle.data_slices.specs.Flaws.{IsFlawOfChanges}
use Rattle.data_slices.specs.declared.fault.Flaw.{Flaw}
use Rattle.data_slices.proofs.Reapplied.{one_changes}
use Rattle.data_history.specs.Snapshots.{Snapshot, GoesBack, LeadsTo, snapshot_at}
use Rattle.data_history.specs.Parts.{HasPart, part_bytes, part_rest}

-- ---- where the wanted snapshot is

pub here : (n : ℕ) (x : Snapshot) (ys : List Snapshot) → x.end.serial ≡ n →
    snapshot_at n x ys ≡ Some x
here n x [] e = let t : nat_eq x.end.serial n ≡ true = eq-eqb x.end.serial n e in rw t refl
here n x (y ∷ ys) e = let t : nat_eq x.end.serial n ≡ true = eq-eqb x.end.serial n e in rw t refl

pub not_alone : (n : ℕ) (x : Snapshot) → (x.end.serial ≡ n → ⊥) → snapshot_at n x [] ≡ None
not_alone n x ne = let t : nat_eq x.end.serial n ≡ false = ne_eqb x.end.serial n ne in rw t refl

pub behind : (n : ℕ) (x y : Snapshot) (ys : List Snapshot) → (x.end.serial ≡ n → ⊥) →
    snapshot_at n x (y ∷ ys) ≡ snapshot_at n y ys
behind n x y ys ne =
    let t : nat_eq x.end.serial n ≡ false = ne_eqb x.end.serial n ne in rw t refl

-- ---- the bytes of the steps

pub not_empty : (b : List ℕ) → HasPart b → b ≡ [] → ⊥
unfolding HasPart
not_empty b h e = let l : length b ≡ 0 = ap length e in absurd (omega (arith, h.0, l))

pub unknown : (b : List ℕ) (n : ℕ) (x : Snapshot) (ys : List Snapshot) → (x.end.serial ≡ n → ⊥) →
    (HasPart b → ⊥) → GoesBack b x ys → snapshot_at n x ys ≡ None
unknown b n x [] ne absent g = not_alone n x ne
unknown b n x (y ∷ ys) ne absent g = absurd (absent g.0)

pub no_flaw : (b s : List ℕ) (f : Flaw) (x : Snapshot) (ys : List Snapshot) → HasPart b →
    s ≡ part_bytes b → IsFlawOfChanges s f → GoesBack b x ys → ⊥
no_flaw b s f x [] part is flaw g = not_empty b part g
no_flaw b s f x (y ∷ ys) part is flaw g =
    flaw.none (
      g.1.changes,
      y.end,
      subst (λ t. HoldsChanges t g.1.changes y.end) (sym is) g.1.holds,
    )

-- what is left after a step: the snapshot that it leads to, and the steps back from that one
pub record NextSnapshot (rest : List ℕ) (serial n : ℕ) (x : Snapshot)
    (ys : List Snapshot) : Type 0 where
  pub y : Snapshot
  pub zs : List Snapshot
  pub same : snapshot_at n x ys ≡ snapshot_at n y zs
  pub number : y.end.serial ≡ serial
  pub more : GoesBack rest y zs

pub next_snapshot : (b s rest : List ℕ) (n : ℕ) (end : EndMeaning)
    (cs : List Change) (x : Snapshot) (ys : List Snapshot) → HasPart b → s ≡ part_bytes b →
    rest ≡ part_rest b → HoldsChanges s cs end → (x.end.serial ≡ n → ⊥) →
    GoesBack b x ys → NextSnapshot rest end.serial n x ys
next_snapshot b s rest n end cs x [] part is is' j ne g = absurd (not_empty b part g)
next_snapshot b s rest n end cs x (y ∷ ys) part is is' j ne g =
    let step : LeadsTo s x y = subst (λ t. LeadsTo t x y) (sym is) g.1 in
    record {
      y = y;
      zs = ys;
      same = behind n x y ys ne;
      number = ap (λ (e : EndMeaning). e.serial)
          (one_changes s step.changes cs y.end end step.holds j).1;
      more = subst (λ t. GoesBack t y ys) (sym is') g.2;
    }

-- ---- as far as the steps were followed

-- the wanted snapshot is behind these steps if and only if it is behind all, from a snapshot of
-- this
-- serial number
abbrev pub LedSoFar : (steps rest : List ℕ) (present serial wanted : ℕ) → Type 0
LedSoFar steps rest present serial wanted =
    (x : Snapshot) (ys : List Snapshot) → x.end.serial ≡ present → GoesBack steps x ys →
    NextSnapshot rest serial wanted x ys

-- ---- data that other bytes follow

pub with_more : (b r : List ℕ) (x : Snapshot) → HoldsData b x.payloads x.end →
    HoldsData (b ++ r) x.payloads x.end
with_more b r x h = record {
  bytes = h.bytes;
  accepts = record {
    rest = h.accepts.rest ++ r;
    parts = ap (λ l. l ++ r) h.accepts.parts ∙ append_assoc h.bytes h.accepts.rest r;
    sequence = h.accepts.sequence;
  };
  in_order = h.in_order;
}
