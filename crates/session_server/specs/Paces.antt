-- A connection of a server: what its host does next, and when a limit ends it.
use Rattle.std.specs.Prelude.{◌≡◌, ℕ, Bool, true, false, ◌+◌, ◌-◌, ◌^◌, ◌≤◌, ◌||◌, ◌&&◌, ◌==◌}
use Rattle.std.specs.Prelude.{not, min, nat_lt, nat_le, Option, Some, None, if◌then◌else◌}
use Rattle.std.specs.Prelude.{List, [], ◌∷◌}
use Rattle.session_cache.specs.CacheSteps.{cache_wakes_at, has_moved}
use Rattle.session_cache.specs.declared.cache.Cache.{Cache}
use Rattle.session_cache.specs.declared.event.Present.{Present}
use Rattle.session_server.specs.declared.connection.Connection.{Connection}
use Rattle.session_server.specs.declared.connection.Cut.{Cut}
use Rattle.session_server.specs.declared.connection.Cut.TheVariants as cuts
use Rattle.session_server.specs.declared.connection.Next.{Next}
use Rattle.session_server.specs.declared.connection.Next.TheVariants as nexts
use Rattle.session_server.specs.declared.connection.Phase.{Phase}
use Rattle.session_server.specs.declared.connection.Phase.TheVariants as phases
use Rattle.session_server.specs.declared.settings.ServerSettings.{ServerSettings}

-- the time after a limit, as far as a number goes
abbrev pub later : (time limit : ℕ) → ℕ
later t l = min (t + l) (2 ^ 64 - 1)

abbrev pub new_connection : (now : ℕ) → ServerSettings → Connection
new_connection n s = record {
  settings = s;
  phase = phases.Open;
  filled = 0;
  begun = n;
  fresh = false;
  closed = false;
  unsent = 0;
  taken = n;
  until = n;
  number = 0;
}

abbrev pub is_serving : Phase → Bool
is_serving phases.Open = true
is_serving phases.Ending = false
is_serving phases.Over = false

-- ---- what happens

-- bytes came: the time of the first of them counts
abbrev pub once_received : Connection → (now size : ℕ) → Connection
once_received k n size =
    if (size == 0) || not (is_serving k.phase) then k
    else record k {
      filled = min (k.filled + size) (2 ^ 64 - 1);
      begun = if k.filled == 0 then n else k.begun;
      fresh = true;
    }

abbrev pub closed_by : Connection → Connection
closed_by k = record k { closed = true; fresh = nat_lt 0 k.filled }

-- nothing can be sent on it any more; the number of unsent bytes stays, too
abbrev pub broken_off : Connection → Connection
broken_off k = record k { phase = phases.Over }

-- the machine took this many bytes, or found no whole unit
abbrev pub input_taken : Connection → (now size : ℕ) → Connection
input_taken k n size =
    if size == 0 then record k { fresh = false }
    else record k {
      filled = k.filled - size;
      fresh = nat_lt 0 (k.filled - size);
      begun = n;
    }

-- the answer before is sent, and the connection hasn't ended
abbrev pub is_free : Connection → Bool
is_free k = is_serving k.phase && (k.unsent == 0)

-- Its host reads where an answer may begin, until the router has closed.
abbrev pub reads_now : Connection → Bool
reads_now k = is_free k && not k.closed

abbrev pub answered : Connection → (now size number : ℕ) → Connection
answered k n size number =
    if is_free k then record k {
      unsent = size;
      taken = n;
      until = later n k.settings.response_limit;
      number = number;
    } else k

-- without a report the connection is over
abbrev pub report_begun : Connection → (now size : ℕ) → Connection
report_begun k n size =
    if is_free k then record k {
      phase = if size == 0 then phases.Over else phases.Ending;
      unsent = size;
      taken = n;
      until = later n k.settings.report_limit;
    } else k

-- Nothing is read while an answer is unsent: the time of a unit counts from when it is sent.
abbrev pub sent : Connection → (now size : ℕ) → Connection
sent k n size =
    if nat_lt k.unsent size then k
    else record k {
      unsent = k.unsent - size;
      taken = if nat_lt 0 size then n else k.taken;
      begun = if k.unsent == size then n else k.begun;
    }

-- ---- what is to be done

-- A byte of an answer has to be sent in its time, and all of it in its own; a unit has to come in
-- its time from its first byte on.
abbrev pub due_at : Connection → ℕ
due_at k =
    if nat_lt 0 k.unsent then min (later k.taken k.settings.write_limit) k.until
    else if nat_lt 0 k.filled then later k.begun k.settings.unit_limit
    else 2 ^ 64 - 1

-- why an answer is sent no further
abbrev pub cut_at : Connection → (now : ℕ) → Cache → Present → (number : ℕ) → Option Cut
cut_at k n c p number =
    if nat_le (due_at k) n then Some cuts.Slow
    else if has_moved c p then Some cuts.NewSession
    else if nat_lt k.settings.most_behind (number - k.number) then Some cuts.Behind
    else None

-- Input is heard before the router's close, and both before the time.
abbrev pub tell_at : Connection → (now wakes : ℕ) → Next
tell_at k n wakes =
    if k.fresh then nexts.Hear
    else if k.closed then nexts.Lose
    else if nat_le wakes n then nexts.Tick
    else if nat_le (due_at k) n then nexts.Close (Some cuts.Slow)
    else nexts.Wait

-- The report is sent, and the router has until the same time to read it and to close.
abbrev pub finish_at : Connection → (now : ℕ) → Next
finish_at k n =
    if nat_le k.until n then nexts.Close None
    else if nat_lt 0 k.unsent then nexts.Send
    else if k.closed then nexts.Close None
    else nexts.Finish

abbrev pub sending_at : Option Cut → Next
sending_at (Some cut) = nexts.Close (Some cut)
sending_at None = nexts.Send

abbrev pub serving_at : Connection → (now : ℕ) → Cache → Present → (number : ℕ) → Next
serving_at k n c p number =
    if nat_lt 0 k.unsent then sending_at (cut_at k n c p number)
    else tell_at k n (cache_wakes_at c p)

abbrev pub next_in : Phase → Connection → (now : ℕ) → Cache → Present → (number : ℕ) → Next
next_in phases.Open k n c p number = serving_at k n c p number
next_in phases.Ending k n c p number = finish_at k n
next_in phases.Over k n c p number = nexts.Close None

abbrev pub next_at : Connection → (now : ℕ) → Cache → Present → (number : ℕ) → Next
next_at k n c p number = next_in k.phase k n c p number

abbrev pub open_wakes : Connection → (wakes : ℕ) → ℕ
open_wakes k wakes =
    if nat_lt 0 k.unsent then due_at k
    else if k.fresh || k.closed then 0
    else min (due_at k) wakes

abbrev pub wakes_in : Phase → Connection → Cache → Present → ℕ
wakes_in phases.Open k c p = open_wakes k (cache_wakes_at c p)
wakes_in phases.Ending k c p = k.until
wakes_in phases.Over k c p = 0

abbrev pub connection_wakes_at : Connection → Cache → Present → ℕ
connection_wakes_at k c p = wakes_in k.phase k c p

-- ---- whole connections

abbrev pub total : List ℕ → ℕ
total [] = 0
total (size ∷ sizes) = size + total sizes

-- the sizes of the answers after one began, if it may begin
abbrev pub begins : Connection → (size : ℕ) → List ℕ → List ℕ
begins k size sizes = if is_free k then size ∷ sizes else sizes

-- A connection whatever its host calls: the sizes of the answers and the report that began, the
-- newest first, and how many bytes were sent.
pub data IsServed (s : ServerSettings) : Connection → (sizes : List ℕ) → (bytes : ℕ) → Type 0 where
  is_accepted : (n : ℕ) → IsServed s (new_connection n s) [] 0
  receives :
      (k : Connection) (sizes : List ℕ) (bytes n size : ℕ) → IsServed s k sizes bytes
      → IsServed s (once_received k n size) sizes bytes
  peer_closes :
      (k : Connection) (sizes : List ℕ) (bytes : ℕ) → IsServed s k sizes bytes
      → IsServed s (closed_by k) sizes bytes
  is_broken :
      (k : Connection) (sizes : List ℕ) (bytes : ℕ) → IsServed s k sizes bytes
      → IsServed s (broken_off k) sizes bytes
  host_hears :
      (k : Connection) (sizes : List ℕ) (bytes n size : ℕ) → IsServed s k sizes bytes
      → IsServed s (input_taken k n size) sizes bytes
  answers :
      (k : Connection) (sizes : List ℕ) (bytes n size number : ℕ) → IsServed s k sizes bytes
      → IsServed s (answered k n size number) (begins k size sizes) bytes
  ends :
      (k : Connection) (sizes : List ℕ) (bytes n size : ℕ) → IsServed s k sizes bytes
      → IsServed s (report_begun k n size) (begins k size sizes) bytes
  sends :
      (k : Connection) (sizes : List ℕ) (bytes n size : ℕ) → IsServed s k sizes bytes
      → size ≤ k.unsent → IsServed s (sent k n size) sizes (bytes + size)

-- All bytes of the answers but those that are unsent were sent. So an answer begins where those
-- before it are sent whole, in their order.
pub record SendsWhole (k : Connection) (sizes : List ℕ) (bytes : ℕ) : Type 0 where
  pub sent : total sizes ≡ bytes + k.unsent
  pub whole : is_free k ≡ true → total sizes ≡ bytes
