-- How long the heads of files are.
use Rattle.std.proofs.Common.{◌≡◌, ◌∙◌, ◌++◌, ◌<◌, ◌≤◌, ◌+◌, ℕ, List, Ok, ap, arith, drop, length}
use Rattle.std.proofs.Common.{refl, subst, sym}
use Rattle.std.proofs.lemmas.List.{drop_at, length-append}
use Rattle.rtr_base.specs.Bytes.{be}
use Rattle.rtr_base.proofs.Numbers.{length-be}
use Rattle.data_history.specs.Old.{IsOldFile, OpensOld}
use Rattle.data_history.specs.Parts.{head_bytes}
use Rattle.data_history.specs.Seal.{fnv, kept_form, old_head, seal}
use Rattle.data_history.proofs.Parts.{head_length}

pub seal_length : (s : List ℕ) → length (seal s) ≡ 24
unfolding seal
seal_length s =
    omega (
      arith,
      length-append (kept_form 50 ++ be (length s) 8) (be (fnv s) 8),
      length-append (kept_form 50) (be (length s) 8),
      length-append (kept_form 50) (be (length s) 8 ++ be (fnv s) 8),
      length-append (be (length s) 8) (be (fnv s) 8),
      length-be (length s) 8,
      length-be (fnv s) 8,
    )

pub old_length : (s : List ℕ) → length (old_head s) ≡ 16
unfolding old_head
old_length s =
    omega (
      arith,
      length-append (kept_form 49) (be (fnv s) 8),
      length-be (fnv s) 8,
    )

-- what follows the head of a sealed file
pub behind_head : (file s : List ℕ) → file ≡ seal s ++ s → drop 24 file ≡ s
behind_head file s e = ap (drop 24) e ∙ drop_at (seal s) s 24 (seal_length s)

pub opened : (file s : List ℕ) → file ≡ seal s ++ s → file ≡ seal (drop 24 file) ++ drop 24 file
opened file s e = subst (λ t. file ≡ seal t ++ t) (sym (behind_head file s e)) e

-- what follows the head of a file of the form before
pub behind_old : (file s : List ℕ) → file ≡ old_head s ++ s → drop 16 file ≡ s
behind_old file s e = ap (drop 16) e ∙ drop_at (old_head s) s 16 (old_length s)

pub opened_old : (file s : List ℕ) → file ≡ old_head s ++ s → IsOldFile file
opened_old file s e = subst (λ t. file ≡ old_head t ++ t) (sym (behind_old file s e)) e

old_size : (file s : List ℕ) → file ≡ old_head s ++ s → length file ≡ 16 + length s
old_size file s e = omega (arith, ap length e, length-append (old_head s) s, old_length s)

-- a store of its history was written
pub old_written : (file s h output new : List ℕ) (n : ℕ) → file ≡ old_head s ++ s →
    h ≡ head_bytes 0 0 →
    (n ≡ length (h ++ s)) × (n ≤ length output) × (new ≡ (h ++ s) ++ drop n output) →
    OpensOld (Ok n) file output new
old_written file s h output new n e is (size, within, after) =
    let same : h ++ s ≡ head_bytes 0 0 ++ drop 16 file =
    λ i. is i ++ sym (behind_old file s e) i in (
      opened_old file s e,
      omega (
        arith,
        size,
        length-append h s,
        ap length is,
        head_length 0 0,
        old_size file s e,
      ),
      (size ∙ ap length same, within, after ∙ ap (λ l. l ++ drop n output) same),
    )

-- or there was no room for it
pub old_unwritten : (file s h output new : List ℕ) → file ≡ old_head s ++ s →
    h ≡ head_bytes 0 0 → (length output < length (h ++ s)) × (new ≡ output) →
    IsOldFile file × (length file ≡ length file) × (length output < length file) × (new ≡ output)
old_unwritten file s h output new e is (short, kept) = (
  opened_old file s e,
  refl,
  omega (arith, short, length-append h s, ap length is, head_length 0 0, old_size file s e),
  kept,
)
