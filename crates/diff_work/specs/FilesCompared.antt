-- What comparing two files leaves (this program's own).
use Rattle.std.specs.Prelude.{◌≡◌, Bool, Result, Ok, Err, IfOk, ⊤}
use Rattle.std.specs.declared.io.Error.{Error}
use Rattle.rtr_units.specs.AnyEnd.{end_bytes, end_meaning}
use Rattle.rtr_units.specs.StopCauses.{ReaderState, WriterState}
use Rattle.rtr_units.specs.declared.fault.Fault.{Fault}
use Rattle.data_memory.specs.Changes.{changes}
use Rattle.data_recordings.specs.RecordingRead.{HoldsStopError, ReadsRecording}
use Rattle.data_recordings.specs.declared.recording.Recording.{Recording}
use Rattle.diff_work.specs.Differences.{differences, has_some}
use Rattle.diff_work.specs.Printing.{Puts}
use Rattle.diff_work.specs.declared.program.Compared.{Compared}
use Rattle.diff_work.specs.declared.program.Trouble.{Trouble}
use Rattle.diff_work.specs.declared.program.Trouble.TheVariants as troubles
use Rattle.diff_work.specs.declared.words.Form.{Form}

-- the changes from what one file holds to what the other does were printed, with whether there is
-- one; or a front of what is printed of them was
abbrev pub PrintsDifferences : Form → (old new : Recording) → Result Bool Fault →
    (before after : WriterState) → Type 0
PrintsDifferences form old new r before after =
    Puts r before after
    (differences form (end_meaning new.end).version old.payloads new.payloads (end_bytes new.end))
    × IfOk r (λ any. any ≡ has_some (changes old.payloads new.payloads))

-- both files hold data, and the differences were printed
pub record BothRead (form : Form) (r : Result Bool Fault) (old old_left new new_left : ReaderState)
    (before after : WriterState) : Type 0 where
  pub first : Recording
  pub second : Recording
  pub first_read : ReadsRecording (Ok first) old old_left
  pub second_read : ReadsRecording (Ok second) new new_left
  pub prints : PrintsDifferences form first second r before after

-- the same, with whether an answer was cut off in each
pub record ComparesBoth (form : Form) (c : Compared) (old old_left new new_left : ReaderState)
    (before after : WriterState) : Type 0 where
  pub both : BothRead form (Ok c.differs) old old_left new new_left before after
  pub old_cut : c.old_cut ≡ both.first.has_cut
  pub new_cut : c.new_cut ≡ both.second.has_cut

-- How two files were compared, by the answer: the readers have these states before and after it,
-- the writer those. The second file is read after the first, and printing begins where both hold
-- data.
abbrev pub ComparesFiles : Form → Result Compared Trouble →
    (old old_left new new_left : ReaderState) → (before after : WriterState) → Type 0
ComparesFiles form (Ok c) old old_left new new_left before after =
    ComparesBoth form c old old_left new new_left before after
ComparesFiles form (Err (troubles.Output f)) old old_left new new_left before after =
    BothRead form (Err f) old old_left new new_left before after
ComparesFiles form (Err (troubles.Old stop)) old old_left new new_left before after =
    ReadsRecording (Err stop) old old_left × (new_left ≡ new) × (after ≡ before)
ComparesFiles form (Err (troubles.New stop)) old old_left new new_left before after =
    (first : Recording) × ReadsRecording (Ok first) old old_left
    × ReadsRecording (Err stop) new new_left × (after ≡ before)

-- the error in a reader's fault is one that the last read of its file may have given
abbrev pub HoldsTroubleError : (old new : Error → Type 0) → Trouble → Type 0
HoldsTroubleError old new (troubles.Old stop) = HoldsStopError old stop
HoldsTroubleError old new (troubles.New stop) = HoldsStopError new stop
HoldsTroubleError old new (troubles.Output f) = ⊤
