-- What the status of a run says.
use Rattle.std.proofs.Common.{◌≡◌, ◌≢◌, ◌<◌, ℕ, Bool, true, false, List, [], ◌∷◌}
use Rattle.std.proofs.Common.{Result, Ok, Err, refl, sym, ap, ◌∙◌, subst, arith}
use Rattle.std.proofs.lemmas.Bool.{false≢true}
use Rattle.rtr_units.specs.Stream.{Flushes}
use Rattle.rtr_units.specs.StopCauses.{ReaderState, WriterState}
use Rattle.data_memory.specs.Data.{Change}
use Rattle.diff_work.specs.DiffStatus.{HoldDifferent, HoldSame, RunsDiff}
use Rattle.diff_work.specs.DiffStatus.{diff_status, status_of}
use Rattle.diff_work.specs.Differences.{has_some}
use Rattle.diff_work.specs.FilesCompared.{BothRead, ComparesFiles}
use Rattle.diff_work.specs.declared.program.Compared.{Compared}
use Rattle.diff_work.specs.declared.program.Trouble.{Trouble}
use Rattle.diff_work.specs.declared.words.Form.{Form}

none_there : (cs : List Change) → false ≡ has_some cs → cs ≡ []
none_there [] h = refl
none_there (c ∷ cs) h = absurd (false≢true h)

some_there : (cs : List Change) → true ≡ has_some cs → cs ≢ []
some_there [] h = absurd (false≢true (sym h))
some_there (c ∷ cs) h = λ e. false≢true (ap has_some (sym e))

module _ (form : Form) (old old_left new new_left : ReaderState) (before after : WriterState) where
  same_both : (differs : Bool) (mid : WriterState) →
      BothRead form (Ok differs) old old_left new new_left before mid → Flushes true mid after →
      0 ≡ status_of differs → HoldSame form old old_left new new_left before after
  same_both false mid both flush is = (mid, flush, (both, none_there _ both.prints.1))
  same_both true mid both flush is = absurd (omega (arith, is))

  same_by : (answer : Result Compared Trouble) (flushed : Bool) (mid : WriterState) →
      ComparesFiles form answer old old_left new new_left before mid → Flushes flushed mid after →
      0 ≡ diff_status answer flushed → HoldSame form old old_left new new_left before after
  same_by (Ok c) true mid compares flush is = same_both c.differs mid compares.both flush is
  same_by (Ok c) false mid both flush is = absurd (omega (arith, is))
  same_by (Err trouble) flushed mid both flush is = absurd (omega (arith, is))

  pub same : RunsDiff form (Unit {0}) 0 old old_left new new_left before after →
      HoldSame form old old_left new new_left before after
  same (answer, flushed, mid, compares, flush, is, quiet) =
      same_by answer flushed mid compares flush is

  different_both : (differs : Bool) (mid : WriterState) →
      BothRead form (Ok differs) old old_left new new_left before mid → Flushes true mid after →
      1 ≡ status_of differs → HoldDifferent form old old_left new new_left before after
  different_both true mid both flush is = (mid, flush, (both, some_there _ both.prints.1))
  different_both false mid both flush is = absurd (omega (arith, is))

  different_by : (answer : Result Compared Trouble) (flushed : Bool) (mid : WriterState) →
      ComparesFiles form answer old old_left new new_left before mid → Flushes flushed mid after →
      1 ≡ diff_status answer flushed → HoldDifferent form old old_left new new_left before after
  different_by (Ok c) true mid compares flush is =
      different_both c.differs mid compares.both flush is
  different_by (Ok c) false mid both flush is = absurd (omega (arith, is))
  different_by (Err trouble) flushed mid both flush is = absurd (omega (arith, is))

  pub different : RunsDiff form (Unit {0}) 1 old old_left new new_left before after →
      HoldDifferent form old old_left new new_left before after
  different (answer, flushed, mid, compares, flush, is, quiet) =
      different_by answer flushed mid compares flush is

not_above_1 : (differs : Bool) → 1 < status_of differs → status_of differs ≡ 3
not_above_1 false h = absurd (omega (arith, h))
not_above_1 true h = absurd (omega (arith, h))

trouble_is_3 : {E : Type 0} (answer : Result Compared E) (flushed : Bool) →
    1 < diff_status answer flushed → diff_status answer flushed ≡ 3
trouble_is_3 (Ok c) true h = not_above_1 c.differs h
trouble_is_3 (Ok c) false h = refl
trouble_is_3 (Err trouble) flushed h = refl

pub else_3 : (form : Form) (status : ℕ) (old old_left new new_left : ReaderState)
    (before after : WriterState) →
    RunsDiff form (Unit {0}) status old old_left new new_left before after →
    1 < status → status ≡ 3
else_3 form status old old_left new new_left before after
    (answer, flushed, mid, compares, flush, is, quiet) more =
    is ∙ trouble_is_3 answer flushed (subst (λ n. 1 < n) is more)
