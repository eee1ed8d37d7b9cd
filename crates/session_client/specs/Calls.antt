-- What a call leaves of what the caller said of its connection, and the machine wasn't told yet:
-- that it was opened, and that the peer closed it.
use Rattle.std.specs.Prelude.{ℕ, Bool, true, false, ◌&&◌, not, [], ◌∷◌, ◌+◌, nat_le, nat_lt}
use Rattle.std.specs.Prelude.{if◌then◌else◌}
use Rattle.session_router.specs.Pace.{wakes_at}
use Rattle.session_router.specs.declared.router.Phase.{Phase}
use Rattle.session_router.specs.declared.router.Phase.TheVariants as phases
use Rattle.session_client.specs.Holding.{untold}
use Rattle.session_client.specs.Makings.{Octets}
use Rattle.session_client.specs.declared.client.Client.{Client}
use Rattle.session_client.specs.declared.client.Holding.{Holding}
use Rattle.session_client.specs.declared.client.Holding.TheVariants as holdings
use Rattle.session_client.specs.declared.next.Todo.{Todo}
use Rattle.session_client.specs.declared.next.Todo.TheVariants as todos

-- It stays, except that `Connect` drops it: it was said of the connection before.
abbrev pub said_after : Todo → Bool → Bool
said_after todos.Connect said = false
said_after t said = said

-- The machine is told that the peer closed once it was told of all bytes that came before.
abbrev pub lost_after : (rest : Octets) → Todo → Bool → Bool
lost_after [] t said = false
lost_after (b ∷ rest) t said = said_after t said

-- Without a connection none are read, and it is told at once.
abbrev pub lost_in : Phase → (rest : Octets) → Todo → Bool → Bool
lost_in phases.Offline rest t said = false
lost_in phases.Connecting rest t said = false
lost_in p rest t said = lost_after rest t said

-- What is due by now comes first, then that a connection was opened, then that it was closed.
abbrev pub opened_then : (now : ℕ) → Client → Todo → Bool
opened_then now k t = if nat_lt now (wakes_at k.router) then false else said_after t k.opened

abbrev pub closed_then : (now : ℕ) → Client → (input : Octets) → Todo → Bool
closed_then now k input t =
    if nat_lt now (wakes_at k.router) && not k.opened
    then lost_in k.router.phase (untold k input) t k.closed
    else said_after t k.closed

-- A call of `next` hears the caller if the output has room for a report, and no answer waits for
-- its changes to be made.
abbrev pub has_no_answer : Holding → Bool
has_no_answer (holdings.Answer size since) = false
has_no_answer m = true

abbrev pub hears_caller : Client → (room : ℕ) → Bool
hears_caller k room = nat_le (k.unsent + 65535) room && has_no_answer k.holding

abbrev pub opened_after : (now : ℕ) → Client → (room : ℕ) → Todo → Bool
opened_after now k room t =
    if hears_caller k room then opened_then now k t else said_after t k.opened

abbrev pub closed_after : (now : ℕ) → Client → (input : Octets) → (room : ℕ) → Todo → Bool
closed_after now k input room t =
    if hears_caller k room then closed_then now k input t else said_after t k.closed

-- ---- which data buffer has the data: the other one after new data

abbrev pub is_data : Todo → Bool
is_data todos.Data = true
is_data t = false

abbrev pub second_after : Todo → Bool → Bool
second_after todos.Data second = not second
second_after t second = second
