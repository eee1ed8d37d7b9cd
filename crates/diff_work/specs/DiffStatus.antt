-- How the program ends: this program's own.
use Rattle.std.specs.Prelude.{◌≡◌, ◌≢◌, ℕ, ◌<◌, Bool, true, false, not, ◌&&◌, []}
use Rattle.std.specs.Prelude.{Result, Ok, Err}
use Rattle.rtr_units.specs.Stream.{Flushes}
use Rattle.rtr_units.specs.StopCauses.{ReaderState, WriterState}
use Rattle.data_memory.specs.Changes.{changes}
use Rattle.diff_work.specs.FilesCompared.{BothRead, ComparesFiles}
use Rattle.diff_work.specs.declared.program.Compared.{Compared}
use Rattle.diff_work.specs.declared.program.Trouble.{Trouble}
use Rattle.diff_work.specs.declared.words.Form.{Form}

-- the status, by the answer and by whether the flush after it succeeded: 0 where nothing differs, 1
-- where something does, 3 otherwise
abbrev pub status_of : Bool → ℕ
status_of false = 0
status_of true = 1

abbrev pub diff_status : {E : Type 0} → Result Compared E → Bool → ℕ
diff_status (Ok c) true = status_of c.differs
diff_status (Ok c) false = 3
diff_status (Err trouble) flushed = 3

-- no answer was cut off in either file
abbrev pub has_no_cut : {E : Type 0} → Result Compared E → Bool
has_no_cut (Ok c) = not c.old_cut && not c.new_cut
has_no_cut (Err trouble) = false

-- Two files were compared, then the output was flushed once, and both decide the status. `Quiet`
-- says that no line was printed on standard error: it holds where two files are compared in which
-- no answer was cut off, and what differs is printed.
abbrev pub RunsDiff : Form → (Quiet : Type 0) → ℕ → (old old_left new new_left : ReaderState) →
    (before after : WriterState) → Type 0
RunsDiff form Quiet status old old_left new new_left before after =
    (answer : Result Compared Trouble) × (flushed : Bool) × (mid : WriterState)
    × ComparesFiles form answer old old_left new new_left before mid × Flushes flushed mid after
    × (status ≡ diff_status answer flushed)
    × (status < 2 → has_no_cut answer ≡ true → Quiet)

-- ---- what follows from the status

-- both files hold data, which is the same, and all was printed
abbrev pub HoldSame : Form → (old old_left new new_left : ReaderState) →
    (before after : WriterState) → Type 0
HoldSame form old old_left new new_left before after =
    (mid : WriterState) × Flushes true mid after
    × ((both : BothRead form (Ok false) old old_left new new_left before mid)
    × (changes both.first.payloads both.second.payloads ≡ []))

-- both files hold data, which isn't the same, and all was printed
abbrev pub HoldDifferent : Form → (old old_left new new_left : ReaderState) →
    (before after : WriterState) → Type 0
HoldDifferent form old old_left new new_left before after =
    (mid : WriterState) × Flushes true mid after
    × ((both : BothRead form (Ok true) old old_left new new_left before mid)
    × (changes both.first.payloads both.second.payloads ≢ []))
