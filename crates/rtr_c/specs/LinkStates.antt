-- What the buffers of a router's end hold, as C is told (this library's own).
use Rattle.std.specs.Prelude.{ℕ, Bool, false, ◌&&◌, is_some}
use Rattle.std.specs.Prelude.{if◌then◌else◌}
use Rattle.std.specs.Option.{unwrap_or}
use Rattle.session_router.specs.After.{has_data_at}
use Rattle.session_router.specs.Pace.{wakes_at}
use Rattle.session_client.specs.Holding.{whole_answer}
use Rattle.session_client.specs.declared.client.Client.{Client}
use Rattle.rtr_c.specs.declared.link_state.RtrLinkState.{RtrLinkState}

-- there are data, which haven't expired
abbrev pub shows_at : Client → (now : ℕ) → Bool
shows_at k now = is_some k.shown && has_data_at k.router now

abbrev pub state_told : Client → (now : ℕ) → RtrLinkState
state_told k now = record {
  wakes = wakes_at k.router;
  filled = k.filled;
  unsent = k.unsent;
  shown = if shows_at k now then unwrap_or k.shown 0 else 0;
  answer = (unwrap_or (whole_answer k) (0, false)).0;
  has_data = shows_at k now;
  second = k.second;
  answers = is_some (whole_answer k);
  since = (unwrap_or (whole_answer k) (0, false)).1;
}

abbrev pub no_state : RtrLinkState
no_state = record {
  wakes = 0;
  filled = 0;
  unsent = 0;
  shown = 0;
  answer = 0;
  has_data = false;
  second = false;
  answers = false;
  since = false;
}
