-- A connection sends its answers whole, and its host is never late.
use Rattle.std.proofs.Common.{◌≡◌, ◌≢◌, ℕ, Bool, true, false, ◌+◌, ◌-◌, ◌^◌, ◌<◌, ◌≤◌, ◌||◌, ◌&&◌}
use Rattle.std.proofs.Common.{◌==◌, List, ◌∷◌, not, min, nat_lt, nat_le, if◌then◌else◌, refl}
use Rattle.std.proofs.Common.{Some, None, arith, ap, ◌∙◌}
use Rattle.std.proofs.lemmas.Bool.Decides.{nat_tests}
use Rattle.session_cache.specs.CacheSteps.{IsCacheStep, cache_wakes_at, has_moved, has_news}
use Rattle.session_cache.specs.declared.cache.Cache.{Cache}
use Rattle.session_cache.specs.declared.event.Answer.{Answer}
use Rattle.session_cache.specs.declared.event.Answer.TheVariants as said
use Rattle.session_cache.specs.declared.event.CacheEvent.TheVariants as events
use Rattle.session_cache.specs.declared.event.Present.{Present}
use Rattle.session_server.specs.declared.connection.Connection.{Connection}
use Rattle.session_server.specs.declared.connection.Cut.TheVariants as cuts
use Rattle.session_server.specs.declared.connection.Next.{Next}
use Rattle.session_server.specs.declared.connection.Next.TheVariants as nexts
use Rattle.session_server.specs.declared.connection.Phase.{Phase}
use Rattle.session_server.specs.declared.connection.Phase.TheVariants as phases
use Rattle.session_server.specs.declared.settings.ServerSettings.{ServerSettings}
use Rattle.session_server.specs.Paces.{IsServed, SendsWhole}
use Rattle.session_server.specs.Paces.{due_at, finish_at, input_taken, is_free, is_serving, later}
use Rattle.session_server.specs.Paces.{next_at, next_in, once_received}
use Rattle.session_server.specs.Paces.{reads_now, sending_at}
use Rattle.session_server.specs.Paces.{sent, total, connection_wakes_at, wakes_in}
use Rattle.session_server.specs.Paces.IsServed.{answers, is_broken, ends, host_hears, is_accepted}
use Rattle.session_server.specs.Paces.IsServed.{peer_closes, receives}
use Rattle.session_server.specs.Paces.IsServed.{sends}

-- ---- whole answers

free_sent : (o : Bool) (unsent : ℕ) → (o && (unsent == 0)) ≡ true → unsent ≡ 0
free_sent true unsent p = grind (arith, nat_tests)
free_sent false unsent p = cc

unsent_received : (k : Connection) (n size : ℕ) → (once_received k n size).unsent ≡ k.unsent
unsent_received k n size = go ((size == 0) || not (is_serving k.phase))
  where
    go : (b : Bool) → (if b then k else record k {
      filled = min (k.filled + size) (2 ^ 64 - 1);
      begun = if k.filled == 0 then n else k.begun;
      fresh = true;
    }).unsent ≡ k.unsent
    go true = refl
    go false = refl

unsent_heard : (k : Connection) (n size : ℕ) → (input_taken k n size).unsent ≡ k.unsent
unsent_heard k n size = go (size == 0)
  where
    go : (b : Bool) → (if b then record k { fresh = false } else record k {
      filled = k.filled - size;
      fresh = nat_lt 0 (k.filled - size);
      begun = n;
    }).unsent ≡ k.unsent
    go true = refl
    go false = refl

-- a step at which an answer of this size may begin
begun_one :
    (k : Connection) (after : Connection) (sizes : List ℕ) (size bytes : ℕ) (b : Bool)
    → is_free k ≡ b → after.unsent ≡ size → total sizes ≡ bytes + k.unsent
    → total (if b then size ∷ sizes else sizes) ≡ bytes + (if b then after else k).unsent
begun_one k after sizes size bytes true f e t =
    omega (arith, free_sent (is_serving k.phase) k.unsent f, e, t)
begun_one k after sizes size bytes false f e t = t

unsent_sent :
    (k : Connection) (n size : ℕ) → size ≤ k.unsent
    → (sent k n size).unsent ≡ k.unsent - size
unsent_sent k n size p = go (nat_lt k.unsent size) refl
  where
    go : (b : Bool) → nat_lt k.unsent size ≡ b
        → (if b then k else record k {
          unsent = k.unsent - size;
          taken = if nat_lt 0 size then n else k.taken;
          begun = if k.unsent == size then n else k.begun;
        }).unsent ≡ k.unsent - size
    go true q = absurd (over q)
      where
        over : nat_lt k.unsent size ≡ true → ⊥
        over r = grind (arith, nat_tests)
    go false q = refl

all_sent :
    (s : ServerSettings) (k : Connection) (sizes : List ℕ) (bytes : ℕ) → IsServed s k sizes bytes
    → total sizes ≡ bytes + k.unsent
all_sent s _ _ _ (is_accepted n) = refl
all_sent s _ _ _ (receives k sizes bytes n size run) =
    omega (arith, unsent_received k n size, all_sent s k sizes bytes run)
all_sent s _ _ _ (peer_closes k sizes bytes run) = all_sent s k sizes bytes run
all_sent s _ _ _ (is_broken k sizes bytes run) = all_sent s k sizes bytes run
all_sent s _ _ _ (host_hears k sizes bytes n size run) =
    omega (arith, unsent_heard k n size, all_sent s k sizes bytes run)
all_sent s _ _ _ (answers k sizes bytes n size number run) = begun_one k
    (record k {
      unsent = size;
      taken = n;
      until = later n k.settings.response_limit;
      number = number;
    })
    sizes size bytes (is_free k) refl refl (all_sent s k sizes bytes run)
all_sent s _ _ _ (ends k sizes bytes n size run) = begun_one k
    (record k {
      phase = if size == 0 then phases.Over else phases.Ending;
      unsent = size;
      taken = n;
      until = later n k.settings.report_limit;
    })
    sizes size bytes (is_free k) refl refl (all_sent s k sizes bytes run)
all_sent s _ _ _ (sends k sizes bytes n size run within) =
    omega (arith, unsent_sent k n size within, all_sent s k sizes bytes run, within)

pub sends_whole :
    (s : ServerSettings) (k : Connection) (sizes : List ℕ) (bytes : ℕ) → IsServed s k sizes bytes
    → SendsWhole k sizes bytes
sends_whole s k sizes bytes run = record {
  sent = all_sent s k sizes bytes run;
  whole = λ f. omega (
    arith,
    all_sent s k sizes bytes run,
    free_sent (is_serving k.phase) k.unsent f,
  );
}

-- ---- in time

not_late : (a b : ℕ) → nat_le a b ≡ false → b < a
not_late a b p = grind (arith, nat_tests)

is_late : (a b : ℕ) → nat_le a b ≡ true → a ≤ b
is_late a b p = grind (arith, nat_tests)

below_min : (n a b : ℕ) → n < a → n < b → n < min a b
below_min n a b p q = omega arith

-- a host that is told this has nothing to do before it is woken
abbrev rests : Next → Bool
rests nexts.Wait = true
rests nexts.Send = true
rests nexts.Finish = true
rests _ = false

open_in_time :
    (u f c w d m b : Bool) (n due wakes : ℕ) → nat_le wakes n ≡ w → nat_le due n ≡ d
    → rests (if u
    then sending_at
    (if d then Some cuts.Slow
    else if m then Some cuts.NewSession
    else if b then Some cuts.Behind
    else None)
    else if f then nexts.Hear
    else if c then nexts.Lose
    else if w then nexts.Tick
    else if d then nexts.Close (Some cuts.Slow)
    else nexts.Wait) ≡ true
    → n < (if u then due else if f || c then 0 else min due wakes)
open_in_time true f c w true m b n due wakes p q e = cc
open_in_time true f c w false true b n due wakes p q e = cc
open_in_time true f c w false false true n due wakes p q e = cc
open_in_time true f c w false false false n due wakes p q e = not_late due n q
open_in_time false true c w d m b n due wakes p q e = cc
open_in_time false false true w d m b n due wakes p q e = cc
open_in_time false false false true d m b n due wakes p q e = cc
open_in_time false false false false true m b n due wakes p q e = cc
open_in_time false false false false false m b n due wakes p q e =
    below_min n due wakes (not_late due n q) (not_late wakes n p)

finish_in_time :
    (t u c : Bool) (n until : ℕ) → nat_le until n ≡ t
    → rests (if t then nexts.Close None
    else if u then nexts.Send
    else if c then nexts.Close None
    else nexts.Finish) ≡ true
    → n < until
finish_in_time true u c n until p e = cc
finish_in_time false u c n until p e = not_late until n p

in_time :
    (ph : Phase) (k : Connection) (n number : ℕ) (c : Cache) (p : Present)
    → rests (next_in ph k n c p number) ≡ true → n < wakes_in ph k c p
in_time phases.Open k n number c p e = open_in_time (nat_lt 0 k.unsent) k.fresh k.closed
    (nat_le (cache_wakes_at c p) n) (nat_le (due_at k) n) (has_moved c p)
    (nat_lt k.settings.most_behind (number - k.number)) n (due_at k) (cache_wakes_at c p) refl refl
    e
in_time phases.Ending k n number c p e =
    finish_in_time (nat_le k.until n) (nat_lt 0 k.unsent) k.closed n k.until refl e
in_time phases.Over k n number c p e = cc

pub rests_in_time :
    (k : Connection) (n number : ℕ) (c : Cache) (p : Present) (r : Next) → rests r ≡ true
    → next_at k n c p number ≡ r → n < connection_wakes_at k c p
rests_in_time k n number c p r t e = in_time k.phase k n number c p (ap rests e ∙ t)

-- ---- reading

abbrev waits_now : Next → Bool
waits_now nexts.Wait = true
waits_now _ = false

abbrev sends_now : Next → Bool
sends_now nexts.Send = true
sends_now _ = false

none_unsent : (n : ℕ) → nat_lt 0 n ≡ false → ((n == 0) && true) ≡ true
none_unsent n p = go (n == 0) (zero n p)
  where
    zero : (n : ℕ) → nat_lt 0 n ≡ false → (n == 0) ≡ true
    zero n p = grind (arith, nat_tests)

    go : (b : Bool) → b ≡ true → (b && true) ≡ true
    go true q = refl
    go false q = cc

some_unsent : (n : ℕ) (c : Bool) → nat_lt 0 n ≡ true → ((n == 0) && c) ≡ false
some_unsent n c p = go (n == 0) (above n p)
  where
    above : (n : ℕ) → nat_lt 0 n ≡ true → (n == 0) ≡ false
    above n p = grind (arith, nat_tests)

    go : (b : Bool) → b ≡ false → (b && c) ≡ false
    go true q = cc
    go false q = refl

open_reads :
    (u f c w d m b : Bool) (n : ℕ) → nat_lt 0 n ≡ u
    → waits_now (if u
    then sending_at
    (if d then Some cuts.Slow
    else if m then Some cuts.NewSession
    else if b then Some cuts.Behind
    else None)
    else if f then nexts.Hear
    else if c then nexts.Lose
    else if w then nexts.Tick
    else if d then nexts.Close (Some cuts.Slow)
    else nexts.Wait) ≡ true
    → ((n == 0) && not c) ≡ true
open_reads true f c w true m b n p e = cc
open_reads true f c w false true b n p e = cc
open_reads true f c w false false true n p e = cc
open_reads true f c w false false false n p e = cc
open_reads false true c w d m b n p e = cc
open_reads false false true w d m b n p e = cc
open_reads false false false true d m b n p e = cc
open_reads false false false false true m b n p e = cc
open_reads false false false false false m b n p e = none_unsent n p

finish_waits :
    (t u c : Bool)
    → waits_now (if t then nexts.Close None
    else if u then nexts.Send
    else if c then nexts.Close None
    else nexts.Finish) ≡ false
finish_waits true u c = refl
finish_waits false true c = refl
finish_waits false false true = refl
finish_waits false false false = refl

reads_in :
    (ph : Phase) (k : Connection) (n number : ℕ) (c : Cache) (p : Present)
    → waits_now (next_in ph k n c p number) ≡ true
    → ((is_serving ph && (k.unsent == 0)) && not k.closed) ≡ true
reads_in phases.Open k n number c p e = open_reads (nat_lt 0 k.unsent) k.fresh k.closed
    (nat_le (cache_wakes_at c p) n) (nat_le (due_at k) n) (has_moved c p)
    (nat_lt k.settings.most_behind (number - k.number)) k.unsent refl e
reads_in phases.Ending k n number c p e =
    let f = finish_waits (nat_le k.until n) (nat_lt 0 k.unsent) k.closed in absurd cc
reads_in phases.Over k n number c p e = absurd cc

pub waiting_reads :
    (k : Connection) (n number : ℕ) (c : Cache) (p : Present)
    → next_at k n c p number ≡ nexts.Wait → reads_now k ≡ true
waiting_reads k n number c p e = reads_in k.phase k n number c p (ap waits_now e)

open_sends :
    (u f c w d m b : Bool) (n : ℕ) → nat_lt 0 n ≡ u
    → sends_now (if u
    then sending_at
    (if d then Some cuts.Slow
    else if m then Some cuts.NewSession
    else if b then Some cuts.Behind
    else None)
    else if f then nexts.Hear
    else if c then nexts.Lose
    else if w then nexts.Tick
    else if d then nexts.Close (Some cuts.Slow)
    else nexts.Wait) ≡ true
    → ((n == 0) && not c) ≡ false
open_sends true f c w d m b n p e = some_unsent n (not c) p
open_sends false true c w d m b n p e = cc
open_sends false false true w d m b n p e = cc
open_sends false false false true d m b n p e = cc
open_sends false false false false true m b n p e = cc
open_sends false false false false false m b n p e = cc

sends_in :
    (ph : Phase) (k : Connection) (n number : ℕ) (c : Cache) (p : Present)
    → sends_now (next_in ph k n c p number) ≡ true
    → ((is_serving ph && (k.unsent == 0)) && not k.closed) ≡ false
sends_in phases.Open k n number c p e = open_sends (nat_lt 0 k.unsent) k.fresh k.closed
    (nat_le (cache_wakes_at c p) n) (nat_le (due_at k) n) (has_moved c p)
    (nat_lt k.settings.most_behind (number - k.number)) k.unsent refl e
sends_in phases.Ending k n number c p e = refl
sends_in phases.Over k n number c p e = refl

pub sending_rests :
    (k : Connection) (n number : ℕ) (c : Cache) (p : Present)
    → next_at k n c p number ≡ nexts.Send → reads_now k ≡ false
sending_rests k n number c p e = sends_in k.phase k n number c p (ap sends_now e)

-- ---- ticks

abbrev ticks : Next → Bool
ticks nexts.Tick = true
ticks _ = false

open_ticks :
    (u f c w d m b : Bool)
    → ticks (if u
    then sending_at
    (if d then Some cuts.Slow
    else if m then Some cuts.NewSession
    else if b then Some cuts.Behind
    else None)
    else if f then nexts.Hear
    else if c then nexts.Lose
    else if w then nexts.Tick
    else if d then nexts.Close (Some cuts.Slow)
    else nexts.Wait) ≡ true
    → w ≡ true
open_ticks true f c w true m b e = cc
open_ticks true f c w false true b e = cc
open_ticks true f c w false false true e = cc
open_ticks true f c w false false false e = cc
open_ticks false true c w d m b e = cc
open_ticks false false true w d m b e = cc
open_ticks false false false true d m b e = refl
open_ticks false false false false true m b e = cc
open_ticks false false false false false m b e = cc

finish_ticks :
    (t u c : Bool)
    → ticks (if t then nexts.Close None
    else if u then nexts.Send
    else if c then nexts.Close None
    else nexts.Finish) ≡ false
finish_ticks true u c = refl
finish_ticks false true c = refl
finish_ticks false false true = refl
finish_ticks false false false = refl

woken :
    (ph : Phase) (k : Connection) (n number : ℕ) (c : Cache) (p : Present)
    → ticks (next_in ph k n c p number) ≡ true → cache_wakes_at c p ≤ n
woken phases.Open k n number c p e = is_late (cache_wakes_at c p) n
    (open_ticks (nat_lt 0 k.unsent) k.fresh k.closed
    (nat_le (cache_wakes_at c p) n) (nat_le (due_at k) n) (has_moved c p)
    (nat_lt k.settings.most_behind (number - k.number)) e)
woken phases.Ending k n number c p e =
    absurd (never (finish_ticks (nat_le k.until n) (nat_lt 0 k.unsent) k.closed))
  where
    never : ticks (finish_at k n) ≡ false → ⊥
    never f = cc
woken phases.Over k n number c p e = cc

lives : (b : Bool) (wakes n : ℕ) → (if not b then 2 ^ 64 - 1 else wakes) ≤ n → n < 2 ^ 63 → b ≡ true
lives true wakes n p q = refl
lives false wakes n p q = absurd (omega arith)

pub tick_acts :
    (k : Connection) (n number : ℕ) (c c' : Cache) (p : Present) (a : Answer) → n < 2 ^ 63
    → next_at k n c p number ≡ nexts.Tick → IsCacheStep c n p events.Tick a c' → a ≢ said.Wait
tick_acts k n number c c' p a q e step = step.acts refl live due
  where
    due : cache_wakes_at c p ≤ n
    due = woken k.phase k n number c p (ap ticks e)

    live : c.live ≡ true
    live = lives c.live
        (if has_moved c p then 0 else if has_news c p then min c.due c.notify_from else c.due)
        n due q
