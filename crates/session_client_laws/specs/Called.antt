-- A client that is called, whatever comes.
use Rattle.std.specs.Prelude.{◌≡◌, ℕ, ◌≤◌, Option}
use Rattle.session_router.specs.Histories.{IsNew}
use Rattle.session_router.specs.declared.event.Action.{Action}
use Rattle.session_router.specs.declared.settings.Settings.{Settings}
use Rattle.session_client.specs.Makings.{Octets}
use Rattle.session_client.specs.Tells.{TakesCall}
use Rattle.session_client.specs.declared.client.Client.{Client}

-- A client with these settings, and the time of its last call. Calls come in any order, none before
-- the one before it. Between two of them its caller reads, sends, opens and loses connections, and
-- moves buffers.
pub data IsCalled (s : Settings) : Client → (now : ℕ) → Type 0 where
  never_called : (k : Client) → IsNew s k.router → IsCalled s k 0
  called_once_more :
      (k : Client) (n n' : ℕ) (a : Option Action) (input held : Octets)
      (k' : Client) (input' held' : Octets)
      → IsCalled s k n → n ≤ n' → TakesCall a n' k input held k' input' held'
      → IsCalled s k' n'
  left_alone :
      (k : Client) (n : ℕ) (k' : Client)
      → IsCalled s k n → k'.router ≡ k.router → IsCalled s k' n
