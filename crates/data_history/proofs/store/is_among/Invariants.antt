use Rattle.std.proofs.Common.{◌↔◌, length}
use Rattle.data_history.specs.Store.{IsAmong, sessions_of}
use Rattle.data_history.proofs.store.is_among.Given as goal

abbrev pub invariant-sessions : goal.invariant-sessions
invariant-sessions l =
    IsAmong l.fn.session (sessions_of l.fn.sessions) ↔ IsAmong l.fn.session (sessions_of l.rest)

abbrev pub decreases-sessions : goal.decreases-sessions
decreases-sessions l = length l.rest
