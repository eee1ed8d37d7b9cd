-- Forms that are written in pieces.
use Rattle.std.proofs.Common.{not, ◌≡◌, ℕ, List, ◌++◌, Option, Ok, Err}
use Rattle.std.proofs.Common.{Result, sym, ap, subst, ◌∙◌, append_assoc, arith}
use Rattle.std.specs.Prelude.{MatchResult}
use Rattle.std.specs.Io.KnownBytes.{Appends}
use Rattle.std.proofs.KnownBytes.{Appends-trans}
use Rattle.std.proofs.lemmas.List.{length-append}
use Rattle.unit_views.specs.declared.fault.ViewFault.{ViewFault}
use Rattle.rtr_units.specs.Stream.{WritesPart}
use Rattle.rtr_units.specs.StopCauses.{WriterState, count_after}
use Rattle.unit_views.specs.Faults.{IsWriterFault, PutsPiece, is_view_writer_fault}

pub same_put : {T : Type 0} (r : Result T ViewFault) (old new : WriterState) (a form : List ℕ) →
    a ≡ form → PutsPiece r old new a → PutsPiece r old new form
same_put r old new a form is h = subst (λ l. PutsPiece r old new l) is h

-- the first of two pieces was written, and then the second was or was not
pub both_put : {T : Type 0} (r : Result T ViewFault) (old mid new : WriterState)
    (a b form : List ℕ) → a ++ b ≡ form → Appends old.held mid.held a × (mid.failed ≡ old.failed) →
    PutsPiece r mid new b → PutsPiece r old new form
both_put r old mid new a b form is (h, same) (k, counts) =
    same_put r old new (a ++ b) form is
    (joined r k, counts ∙ ap (λ n. count_after n (not (is_view_writer_fault r))) same)
  where
    joined : {T : Type 0} (r : Result T ViewFault) →
        MatchResult r (λ x. Appends mid.held new.held b)
        (λ e. WritesPart (IsWriterFault e) mid.held new.held b) →
        MatchResult r (λ x. Appends old.held new.held (a ++ b))
        (λ e. WritesPart (IsWriterFault e) old.held new.held (a ++ b))
    joined (Ok x) k = Appends-trans old.held mid.held new.held a b h k
    joined (Err e) k = (
      a ++ k.0,
      k.1,
      Appends-trans old.held mid.held new.held a k.0 h k.2,
      ap (λ (l : List ℕ). a ++ l) k.3 ∙ sym (append_assoc a k.0 k.1),
      k.4,
      k.5,
    )

-- the first of two pieces was not
pub first_not_put : (e : ViewFault) (old new : Option (List ℕ)) (a b form : List ℕ) →
    a ++ b ≡ form → WritesPart (IsWriterFault e) old new a →
    WritesPart (IsWriterFault e) old new form
first_not_put e old new a b form is k = (
  k.0,
  k.1 ++ b,
  k.2,
  sym is ∙ ap (λ (l : List ℕ). l ++ b) k.3 ∙ append_assoc k.0 k.1 b,
  omega (arith, length-append k.1 b, k.4),
  k.5,
)
