use Rattle.std.proofs.Common.{◌<◌, ◌≤◌, ◌-◌, take, length}
use Rattle.session_router.specs.declared.router.Router.{Router}
use Rattle.session_bytes.specs.Reading.{KeepsAll}
use Rattle.session_bytes.proofs.telling.tell_on.Given as goal

abbrev pub invariant-units : goal.invariant-units
invariant-units l = record {
  some : 0 < l.kept;
  within : l.kept ≤ length l.input;
  keeps : (before : Router) → KeepsAll l.now before (take l.size l.input) l.initial.router →
      KeepsAll l.now before (take l.kept l.input) l.router;
}

abbrev pub decreases-units : goal.decreases-units
decreases-units l = length l.input - l.kept
