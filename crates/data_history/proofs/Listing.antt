-- The serial numbers of steps.
use Rattle.std.proofs.Common.{◌≡◌, ◌≤◌, ◌<◌, ◌+◌, ℕ, List, [], ◌∷◌, ◌++◌, length, take}
use Rattle.std.proofs.Common.{sym, ap, subst, ◌∙◌, arith, append-nil, append_assoc}
use Rattle.std.proofs.lemmas.List.{length-map, take_all}
use Rattle.rtr_units.specs.End.{EndMeaning}
use Rattle.data_memory.specs.Data.{Change}
use Rattle.data_slices.specs.CanonicalChanges.{HoldsChanges}
use Rattle.data_slices.proofs.Reapplied.{one_changes}
use Rattle.data_history.specs.Parts.{HasPart, part_bytes, part_rest}
use Rattle.data_history.specs.Serials.{serials_of}
use Rattle.data_history.specs.Snapshots.{GoesBack, LeadsTo, Snapshot}
use Rattle.data_history.proofs.Steps.{not_empty}

pub number_of : (ys : List Snapshot) → length (serials_of ys) ≡ length ys
number_of ys = length-map ys (λ (y : Snapshot). y.end.serial)

-- ---- how many steps there are

-- of n steps as many were counted, and the bytes are the others
pub record Counted (rest : List ℕ) (count n : ℕ) : Type 0 where
  pub y : Snapshot
  pub zs : List Snapshot
  pub more : GoesBack rest y zs
  pub number : n ≡ count + length zs

pub one_more : (b left : List ℕ) (count n : ℕ) (y : Snapshot) (zs : List Snapshot) → HasPart b →
    left ≡ part_rest b → GoesBack b y zs → n ≡ count + length zs → Counted left (count + 1) n
one_more b left count n y [] part is g e = absurd (not_empty b part g)
one_more b left count n y (z ∷ zs) part is g e = record {
  y = z;
  zs = zs;
  more = subst (λ t. GoesBack t z zs) (sym is) g.2;
  number = omega (arith, e);
}

pub no_more : (b : List ℕ) (count n : ℕ) (y : Snapshot) (zs : List Snapshot) →
    (HasPart b → ⊥) → GoesBack b y zs → n ≡ count + length zs → count ≡ n
no_more b count n y [] absent g e = omega (arith, e)
no_more b count n y (z ∷ zs) absent g e = absurd (absent g.0)

-- ---- those that were written

-- the first ones of these were written, and the bytes are the other steps
pub record Listed (rest : List ℕ) (count : ℕ) (ys : List Snapshot) (output : List ℕ)
    : Type 0 where
  pub y : Snapshot
  pub zs : List Snapshot
  pub more : GoesBack rest y zs
  pub number : length ys ≡ count + length zs
  pub same : serials_of ys ≡ take count output ++ serials_of zs

pub one_listed : (b s left output output' : List ℕ) (count : ℕ) (end : EndMeaning)
    (cs : List Change) (ys : List Snapshot) (y : Snapshot) (zs : List Snapshot) → HasPart b →
    s ≡ part_bytes b → left ≡ part_rest b → HoldsChanges s cs end → GoesBack b y zs →
    length ys ≡ count + length zs → serials_of ys ≡ take count output ++ serials_of zs →
    take (count + 1) output' ≡ take count output ++ end.serial ∷ [] →
    Listed left (count + 1) ys output'
one_listed b s left output output' count end cs ys y [] part is is' j g number same put =
    absurd (not_empty b part g)
one_listed b s left output output' count end cs ys y (z ∷ zs) part is is' j g number same put =
    let step : LeadsTo s y z = subst (λ t. LeadsTo t y z) (sym is) g.1 in
    let serial : z.end.serial ≡ end.serial =
    ap (λ (e : EndMeaning). e.serial)
    (one_changes s step.changes cs z.end end step.holds j).1 in
    record {
      y = z;
      zs = zs;
      more = subst (λ t. GoesBack t z zs) (sym is') g.2;
      number = omega (arith, number);
      same = same
          ∙ ap (λ n. take count output ++ (n ∷ serials_of zs)) serial
          ∙ sym (append_assoc (take count output) (end.serial ∷ []) (serials_of zs))
          ∙ ap (λ l. l ++ serials_of zs) (sym put);
    }

pub all_listed : (count : ℕ) (ys zs : List Snapshot) (output : List ℕ) →
    length ys ≡ count + length zs → serials_of ys ≡ take count output ++ serials_of zs →
    length output ≤ count → length output ≡ length ys → output ≡ serials_of ys
all_listed count ys [] output number same few whole =
    sym (take_all count output few) ∙ sym (append-nil (take count output)) ∙ sym same
all_listed count ys (z ∷ zs) output number same few whole =
    absurd (omega (arith, number, few, whole))

pub not_all : (b : List ℕ) (count : ℕ) (ys : List Snapshot) (y : Snapshot) (zs : List Snapshot)
    (output : List ℕ) → (HasPart b → ⊥) → GoesBack b y zs → length ys ≡ count + length zs →
    count < length output → length output ≡ length ys → ⊥
not_all b count ys y [] output absent g number few whole = omega (arith, number, few, whole)
not_all b count ys y (z ∷ zs) output absent g number few whole = absent g.0
