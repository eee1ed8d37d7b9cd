-- A step of a cache: what it may do, what it has to do, and when.
use Rattle.std.specs.Prelude.{◌≡◌, ◌≢◌, ℕ, Bool, true, false, ◌^◌, ◌-◌, ◌<◌, ◌≤◌, ◌&&◌, ◌==◌}
use Rattle.std.specs.Prelude.{not, min, if◌then◌else◌, ◌||◌}
use Rattle.session_cache.specs.declared.cache.Cache.{Cache}
use Rattle.session_cache.specs.declared.event.Present.{Present}
use Rattle.session_cache.specs.declared.event.CacheEvent.{CacheEvent}
use Rattle.session_cache.specs.declared.event.CacheEvent.TheVariants as events
use Rattle.session_cache.specs.declared.event.Answer.{Answer}
use Rattle.session_cache.specs.declared.event.Answer.TheVariants as answers
use Rattle.session_cache.specs.declared.event.Reason.TheVariants as reasons
use Rattle.session_cache.specs.CacheRules.{CacheRule, is_advised}
use Rattle.session_cache.specs.Serving.{Serves, closes_for}

-- the router was told of data of another session than that of the newest
abbrev pub has_moved : Cache → Present → Bool
has_moved c p = p.has && (c.told && not (c.session == p.session))

-- a router that asked once wasn't told of the newest data, nor to ask for all data: what is of
-- another session isn't told then
abbrev pub has_news : Cache → Present → Bool
has_news c p =
    c.asked
    && (p.has && not (is_advised c && (not (c.session == p.session) || (c.serial == p.serial))))

-- When it acts by itself: at once where the session is another, where there are news when the next
-- notify may be sent, and always when the time for a query is over.
abbrev pub cache_wakes_at : Cache → Present → ℕ
cache_wakes_at c p =
    if not c.live then 2 ^ 64 - 1
    else if has_moved c p then 0
    else if has_news c p then min c.due c.notify_from
    else c.due

-- what a cache answers, at a time, with these newest data, at an event
abbrev pub CacheMoves : Type 1
CacheMoves = Cache → ℕ → Present → CacheEvent → Answer → Cache → Type 0

pub record IsCacheStep (c : Cache) (n : ℕ) (p : Present) (e : CacheEvent) (a : Answer) (c' : Cache)
    : Type 0 where
  -- what it may do
  pub rule : CacheRule c n p e a c'
  -- what it has to do
  pub serves : c.live ≡ true → n < c.due → Serves c n p e a
  -- the time for a query is over
  pub late : c.live ≡ true → c.due ≤ n → a ≡ closes_for reasons.Slow
  -- the connection has ended
  pub ended : c.live ≡ false → a ≡ answers.Wait
  -- it acts when it said so
  pub acts : e ≡ events.Tick → c.live ≡ true → cache_wakes_at c p ≤ n → a ≢ answers.Wait
