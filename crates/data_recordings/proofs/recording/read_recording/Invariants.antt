use Rattle.std.proofs.Common.{◌≡◌}
use Rattle.data_recordings.proofs.RecordingSoFar.{SoFar}
use Rattle.data_recordings.proofs.recording.read_recording.Given as goal

abbrev pub invariant-loop-count : goal.invariant-loop-count
invariant-loop-count g l = record {
  so_far : SoFar l.count l.offset
      (g.R.Source.state l.initial.reader).left (g.R.Source.state l.reader).left l.held;
  reads : (g.R.Source.state l.reader).failed ≡ (g.R.Source.state l.initial.reader).failed;
}
