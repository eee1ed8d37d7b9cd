-- What is promised by the answer follows from the contract of normalise_slice.
use Rattle.std.proofs.Common.{◌≡◌, ℕ, ◌<◌, List, ◌++◌, length, not, Some, Result, Ok, Err, refl}
use Rattle.std.proofs.Common.{sym, ap, subst, ◌∙◌, arith}
use Rattle.std.specs.Prelude.{IfOk}
use Rattle.std.specs.Io.KnownBytes.{Appends}
use Rattle.rtr_units.specs.StopCauses.{Cause, by_writer, too_many, wrong}
use Rattle.rtr_units.specs.StopCauses.{WriterState, count_after}
use Rattle.unit_views.specs.Faults.{is_view_writer_fault}
use Rattle.unit_views.specs.declared.fault.ViewFault.{ViewFault}
use Rattle.unit_views.specs.declared.fault.ViewFault.TheVariants.{Writer, Short, UnitType}
use Rattle.unit_views.specs.declared.fault.ViewFault.TheVariants.{UnitLength, TooLong}
use Rattle.unit_views.specs.declared.fault.ViewFault.TheVariants.{EmptyProviders, UnitVersion}
use Rattle.unit_views.specs.declared.fault.ViewFault.TheVariants.{Prefix, TooMany}
use Rattle.rtr_wire.specs.Promise.{NoFailure, Moved, SlicePromises}
use Rattle.rtr_units.specs.End.{EndMeaning}
use Rattle.rtr_payload.specs.Payloads.{Meaning}
use Rattle.rtr_wire.specs.Run.{BlamesNobody}
use Rattle.rtr_wire.specs.Sequences.{Accepts, everything, sequence_form, written_units}
use Rattle.rtr_wire.specs.SliceRun.{slice_answer, NormalisesSlice}
use Rattle.rtr_wire.proofs.Calls.{Over}
use Rattle.rtr_wire.proofs.OneAnswer.{one_run, sequence_run, only_accepted}
use Rattle.rtr_wire.proofs.Promises.{over_refuses, over_fills, over_stopped}
use Rattle.rtr_wire.proofs.Slices.{slice_answers}
use Rattle.rtr_wire.proofs.Written.{all_written}

-- where the writer doesn't fail, nobody is blamed
blames_none : (u : List ℕ) (r : Result (ℕ × ℕ) ViewFault) (n m : ℕ) → NoFailure n m →
    m ≡ count_after n (not (is_view_writer_fault r)) → BlamesNobody (slice_answer u r)
blames_none u (Ok (k, l)) n m p e = tt
blames_none u (Err (Writer x)) n m p e = absurd (omega (arith, p.0, p.1, e))
blames_none u (Err Short) n m p e = tt
blames_none u (Err (UnitType t)) n m p e = tt
blames_none u (Err UnitLength) n m p e = tt
blames_none u (Err TooLong) n m p e = tt
blames_none u (Err EmptyProviders) n m p e = tt
blames_none u (Err (UnitVersion v)) n m p e = tt
blames_none u (Err (Prefix rule)) n m p e = tt
blames_none u (Err TooMany) n m p e = tt

ok_of_both : (u : List ℕ) (r : Result (ℕ × ℕ) ViewFault) (n k : ℕ) → slice_answer u r ≡ Ok n →
    IfOk r (λ p. p.1 ≡ k) → r ≡ Ok (n, k)
ok_of_both u (Ok (m, l)) n k e is = let same : m ≡ n = cc in λ i. Ok (same i, is i)
ok_of_both u (Err f) n k e is = absurd cc

module _ (limit : ℕ) (r : Result (ℕ × ℕ) ViewFault) (input : List ℕ) (old new : WriterState)
    (p : NormalisesSlice limit r input old new) where
  slice_over : Over everything limit (slice_answer p.last r) input (Some p.left) old.held new.held
      p.taken p.written
  slice_over =
      record { left = p.left; at = refl; parts = p.parts; wrote = p.writes; run = p.run }

  slice_over_by : (c : Cause) → slice_answer p.last r ≡ Err c →
      Over everything limit (Err c) input (Some p.left) old.held new.held p.taken p.written
  slice_over_by c e =
      subst
      (λ a. Over everything limit a input (Some p.left) old.held new.held p.taken p.written) e
      slice_over

abbrev OnlyAccepted : (limit : ℕ) (r : Result (ℕ × ℕ) ViewFault) (input left : List ℕ)
    (old new : WriterState) → Type 0
OnlyAccepted limit r input left old new = IfOk r (λ n.
    (b : List ℕ) × (ms : List Meaning) × (e : EndMeaning) × Accepts input b ms e
    × (n ≡ (length ms, length b)) × (length ms < limit)
    × Moved input b (sequence_form ms e) (Some left) old.held new.held)

only : (limit : ℕ) (r : Result (ℕ × ℕ) ViewFault) (input : List ℕ) (old new : WriterState) →
    (p : NormalisesSlice limit r input old new) → OnlyAccepted limit r input p.left old new
only limit (Err f) input old new p = tt
only limit (Ok (n, k)) input old new p =
    let (ms, e, s, counted, below, is) =
    only_accepted everything limit n p.taken p.left p.written p.run in
    let same = all_written ms in
    let number : n ≡ length ms = sym counted ∙ ap length same in (
      p.taken,
      ms,
      e,
      record { rest = p.left; parts = p.parts; sequence = s },
      λ i. (number i, p.bytes i),
      below,
      record {
        rest = p.left;
        parts = p.parts;
        leaves = refl;
        wrote = subst (Appends old.held new.held) (is ∙ ap (λ l. sequence_form l e) same) p.writes;
      },
    )

pub slice_promised : (limit : ℕ) (r : Result (ℕ × ℕ) ViewFault) (input : List ℕ)
    (old new : WriterState) (p : NormalisesSlice limit r input old new) →
    SlicePromises limit r input old new p
slice_promised limit r input old new p = record {
  answers = slice_answers limit r input old new p;
  succeeds = λ safe b ms e a lt.
      let same = all_written ms in
      let number = length (written_units everything ms) in
      let form = sequence_form (written_units everything ms) e in
      let one = one_run everything limit (slice_answer p.last r) (Ok number) p.taken p.left
      p.written b a.rest form p.run (sequence_run everything limit b a.rest ms e a.sequence lt)
      (sym p.parts ∙ a.parts)
      (blames_none p.last r old.failed new.failed safe p.writer_failures) tt in (
        ok_of_both p.last r number (length p.taken) one.0 p.bytes
            ∙ (λ i. Ok (length (same i), length (one.1 i))),
        record {
          rest = p.left;
          parts = p.parts ∙ ap (λ l. l ++ p.left) one.1;
          leaves = refl;
          wrote =
              subst (Appends old.held new.held) (one.3 ∙ ap (λ l. sequence_form l e) same) p.writes;
        },
      );
  succeeds_only = only limit r input old new p;
  refuses = λ f e.
      over_refuses everything limit input p.taken p.written (Some p.left) old.held new.held f
      (slice_over_by limit r input old new p (wrong f) e);
  at_limit = λ e.
      over_fills everything limit input p.taken p.written (Some p.left) old.held new.held
      (slice_over_by limit r input old new p too_many e);
  halted = λ e.
      let o = slice_over_by limit r input old new p by_writer e in
      over_stopped everything limit input p.taken p.written (Some p.left) old.held new.held
      by_writer o o.run.counts;
}
