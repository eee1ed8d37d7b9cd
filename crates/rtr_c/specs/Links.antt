-- The struct of C as a router's end with its bytes and its data (this library's own).
use Rattle.std.specs.Prelude.{ℕ, ◌≡◌, ◌≢◌, ◌+◌, ◌-◌, ◌^◌, ◌==◌, ◌&&◌, ◌||◌, Bool, not, nat_le}
use Rattle.std.specs.Prelude.{nat_lt, min, false, Some, None, if◌then◌else◌}
use Rattle.session_client.specs.declared.client.Client.{Client}
use Rattle.session_client.specs.declared.client.Holding.{Holding}
use Rattle.session_client.specs.declared.client.Holding.TheVariants as holdings
use Rattle.rtr_c.specs.Routers.{router_of}
use Rattle.rtr_c.specs.declared.router.RtrRouter.{RtrRouter}
use Rattle.rtr_c.specs.declared.link.RtrLink.{RtrLink}

-- ---- what the struct stands for

abbrev pub flag_set : ℕ → Bool
flag_set n = not (n == 0)

abbrev pub link_router : RtrLink → RtrRouter
link_router l = record {
  settings = l.settings;
  expires = l.expires;
  came = l.came;
  asked = l.asked;
  tried = l.tried;
  due = l.due;
  rises = l.rises;
  bytes = l.bytes;
  known = l.known;
  answer = l.answer;
  wait = l.wait;
  rise_wait = l.rise_wait;
  units = l.units;
  note = l.note;
  session = l.session;
  phase = l.phase;
  version = l.version;
  floor = l.floor;
  agreed = flag_set l.agreed;
  fell = flag_set l.fell;
  silent = flag_set l.silent;
  changes = flag_set l.changes;
  resync = flag_set l.resync;
  answered = flag_set l.answered;
  noted = flag_set l.noted;
  has_data = flag_set l.has_data;
}

abbrev pub numbered_holding : (number size : ℕ) → (since : Bool) → Holding
numbered_holding n size since =
    if n == 1 then holdings.Units
    else if n == 2 then holdings.Answer size since
    else holdings.Nothing

abbrev pub holding_number : Holding → ℕ
holding_number holdings.Nothing = 0
holding_number holdings.Units = 1
holding_number (holdings.Answer size since) = 2

abbrev pub client_of : RtrLink → Client
client_of l = record {
  router = router_of (link_router l);
  holding = numbered_holding l.holding l.end_size (flag_set l.since);
  kept = l.kept;
  filled = l.filled;
  shown = if flag_set l.shows then Some l.shown else None;
  unsent = l.unsent;
  second = flag_set l.second;
  opened = flag_set l.opened;
  closed = flag_set l.closed;
}

-- What the client hasn't has the number 0: the length of its data, and of an end of data.
abbrev pub IsPlainLink : RtrLink → Type 0
IsPlainLink l =
    (flag_set l.shows ≡ false → l.shown ≡ 0)
    × (l.holding ≢ 2 → (l.end_size ≡ 0) × (l.since ≡ 0))

-- how many bytes of the connection came before those of the input
abbrev pub came_before : RtrLink → ℕ
came_before l = l.received - l.filled

-- the number of bytes of the connection after `size` more
abbrev pub more_received : (received size : ℕ) → ℕ
more_received n size = min (n + size) (2 ^ 64 - 1)

-- ---- structs that calls make

-- payload units are held in a response, a whole answer while its changes are made, and nothing
-- elsewhere
abbrev pub suits_phase : (phase holding : ℕ) → Bool
suits_phase phase n =
    if phase == 3 then n == 1
    else if phase == 4 then n == 2
    else nat_le phase 5 && (n == 0)

abbrev pub are_flags : (a b c d : ℕ) → Bool
are_flags a b c d = nat_le a 1 && nat_le b 1 && nat_le c 1 && nat_le d 1

abbrev pub has_flags : RtrLink → Bool
has_flags l =
    (are_flags l.agreed l.fell l.silent l.changes
    && are_flags l.resync l.answered l.noted l.has_data)
    && (are_flags l.since l.shows l.second l.opened && nat_le l.closed 1)

-- the mark, the numbers, the offsets and the flags are those that calls leave
abbrev pub is_begun : RtrLink → Bool
is_begun l =
    ((l.mark == 1280461387) && suits_phase l.phase l.holding)
    && (nat_le (l.kept + l.end_size) l.filled && has_flags l)

-- ---- how a call ended

abbrev pub link_ok : ℕ
link_ok = 0

abbrev pub link_not_begun : ℕ
link_not_begun = 1

abbrev pub link_short_buffer : ℕ
link_short_buffer = 2

abbrev pub link_bad_time : ℕ
link_bad_time = 3

abbrev pub link_out_of_turn : ℕ
link_out_of_turn = 4

abbrev pub link_too_long : ℕ
link_too_long = 5

-- how many bytes of data stand in the buffer that they are in
abbrev pub shown_size : RtrLink → ℕ
shown_size l = if flag_set l.shows then l.shown else 0

abbrev pub data_length : RtrLink → (first second : ℕ) → ℕ
data_length l first second = if flag_set l.second then second else first

-- times don't go back, and are below 2^63
abbrev pub suits_time : RtrLink → (now : ℕ) → Bool
suits_time l now = nat_le l.latest now && nat_lt now (2 ^ 63)

-- of a call that is given an input and an output of these lengths
abbrev pub telling_status : RtrLink → (now input output : ℕ) → ℕ
telling_status l now input output =
    if not (is_begun l) then link_not_begun
    else if not (nat_le l.filled input && nat_le l.unsent output) then link_short_buffer
    else if not (suits_time l now) then link_bad_time
    else link_ok

-- of one that is given data buffers too
abbrev pub next_status : RtrLink → (now input first second output : ℕ) → ℕ
next_status l now input first second output =
    if not (is_begun l) then link_not_begun
    else if not (nat_le (shown_size l) (data_length l first second)) then link_short_buffer
    else telling_status l now input output

-- of one that needs room for a report
abbrev pub giving_up_status : RtrLink → (now input output : ℕ) → ℕ
giving_up_status l now input output =
    if not (is_begun l) then link_not_begun
    else if nat_lt output 65535 then link_short_buffer
    else telling_status l now input output

-- a client may begin anew at any time
abbrev pub again_status : RtrLink → ℕ
again_status l = if is_begun l then link_ok else link_not_begun

-- a connection that was asked for may be opened, once
abbrev pub opened_status : RtrLink → ℕ
opened_status l =
    if not (is_begun l) then link_not_begun
    else if (l.phase == 1) && not (flag_set l.opened) && not (flag_set l.closed) then link_ok
    else link_out_of_turn

-- a connection, or what would have become one, may be lost, once
abbrev pub lost_status : RtrLink → ℕ
lost_status l =
    if not (is_begun l) then link_not_begun
    else if (l.phase == 0) || flag_set l.closed then link_out_of_turn
    else link_ok

-- there is a connection, which wasn't lost
abbrev pub is_linked : RtrLink → Bool
is_linked l =
    (nat_le 2 l.phase || ((l.phase == 1) && flag_set l.opened)) && not (flag_set l.closed)

-- of this many bytes that were read into an input of this length
abbrev pub received_status : RtrLink → (input size : ℕ) → ℕ
received_status l input size =
    if not (is_begun l) then link_not_begun
    else if not (nat_le l.filled input) then link_short_buffer
    else if not (is_linked l) then link_out_of_turn
    else if nat_lt input (l.filled + size) then link_too_long
    else link_ok

-- of this many bytes that were sent of an output of this length
abbrev pub sent_status : RtrLink → (output size : ℕ) → ℕ
sent_status l output size =
    if not (is_begun l) then link_not_begun
    else if not (nat_le l.unsent output) then link_short_buffer
    else if nat_lt l.unsent size then link_too_long
    else link_ok
