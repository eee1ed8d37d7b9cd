use Rattle.std.proofs.Common.{◌≡◌, ◌≤◌, ◌-◌, length}
use Rattle.data_loading.specs.PrivateLoading.{StandsAt}
use Rattle.data_loading.proofs.recording.load_units.Given as goal

abbrev pub invariant-units : goal.invariant-units
invariant-units l = record {
  stands : StandsAt l.held l.at l.fn.input l.index l.output;
  within : l.at ≤ length l.fn.input;
  index : length l.index ≡ length l.initial.index;
  work : length l.work ≡ length l.initial.work;
  output : length l.output ≡ length l.initial.output;
}

abbrev pub decreases-units : goal.decreases-units
decreases-units l = length l.fn.input - l.at
