-- When a router acts by itself: never later than `longest`.
use Rattle.std.proofs.Common.{◌≡◌, ◌⊎◌, ℕ, Bool, true, false, ◌+◌, ◌-◌, ◌*◌, ◌/◌, ◌≤◌, ◌==◌, min}
use Rattle.std.proofs.Common.{max}
use Rattle.std.proofs.Common.{List, if◌then◌else◌, nat_lt, ap, subst}
use Rattle.std.proofs.Common.{inl, inr, arith, ◌||◌, ◌^◌, ◌&&◌}
use Rattle.session_router.specs.declared.head.Known.{Known}
use Rattle.session_router.specs.declared.settings.Settings.{Settings}
use Rattle.session_router.specs.declared.router.Router.{Router}
use Rattle.session_router.specs.declared.router.Phase.{Phase}
use Rattle.session_router.specs.declared.router.Phase.TheVariants as phases
use Rattle.session_router.specs.declared.event.Event.{Event}
use Rattle.session_router.specs.declared.event.Action.{Action}
use Rattle.session_router.specs.declared.event.Action.TheVariants as actions
use Rattle.session_router.specs.declared.event.Ending.{Ending}
use Rattle.session_router.specs.declared.event.Cause.{Cause}
use Rattle.session_router.specs.declared.event.Cause.TheVariants as causes
use Rattle.session_router.specs.Rules.{awaits_changes}
use Rattle.session_router.specs.declared.event.Event.TheVariants as events
use Rattle.session_router.specs.Pace.{Paces, PacesEnd, due_in, due_waiting, grows, grows_slow}
use Rattle.session_router.specs.Pace.{has_more, is_waiting, longest_rest, rest, soonest, wakes_at}
use Rattle.session_router.specs.Times.{expire_ms, milliseconds, named_refresh_ms, refresh_ms}
use Rattle.session_router.specs.Times.{retry_ms}
use Rattle.session_router.specs.Times.{set_or}
use Rattle.session_router.specs.Histories.{Caller, Host, IsHistory, IsNew, Moment}
use Rattle.session_router.specs.Histories.IsHistory.{run_begins, run_goes_on}
use Rattle.session_router.specs.Step.{IsStep}
use Rattle.session_router.specs.Asking.{IsTimed, latest, longest}
use Rattle.session_router.proofs.Settled.{ends_settled, settled}

-- ---- times

-- what is set or not set is at most one or the other
either_le : (b : Bool) (x y : ℕ) → (if b then x else y) ≤ y + x
either_le true x y = omega arith
either_le false x y = omega arith

set_le : (set x m : ℕ) → x ≤ m → set_or set x ≤ set + m
set_le set x m h = go (set == 0)
  where
    go : (b : Bool) → (if b then x else set) ≤ set + m
    go true = omega arith
    go false = omega arith

within_le : (k : Known) (seconds recommended least most : ℕ) → recommended ≤ most
    → milliseconds k seconds recommended least most ≤ 1000 * most
within_le k seconds recommended least most h = go (k.version == 0)
  where
    go : (b : Bool) → 1000 * (if b then recommended else min most (max least seconds)) ≤ 1000 * most
    go true = omega arith
    go false = omega arith

expire_le : (s : Settings) (k : Known) → expire_ms s k ≤ s.expire + 172800000
expire_le s k = set_le s.expire (milliseconds k k.expire 7200 600 172800) 172800000
    (within_le k k.expire 7200 600 172800 small)
  where
    small : 7200 ≤ 172800
    small = omega arith

retry_le : (s : Settings) (k : Known) → retry_ms s k ≤ s.retry + 7200000
retry_le s k = set_le s.retry (milliseconds k k.retry 600 1 7200) 7200000
    (within_le k k.retry 600 1 7200 small)
  where
    small : 600 ≤ 7200
    small = omega arith

named_le : (s : Settings) (k : Known) → named_refresh_ms s k ≤ s.refresh + 86400000
named_le s k = set_le s.refresh (milliseconds k k.refresh 3600 1 86400) 86400000
    (within_le k k.refresh 3600 1 86400 small)
  where
    small : 3600 ≤ 86400
    small = omega arith

pub refresh_le : (s : Settings) (k : Known) → refresh_ms s k ≤ s.refresh + s.expire + 86400000
refresh_le s k = go (nat_lt (named_refresh_ms s k) (expire_ms s k)) (named_refresh_ms s k)
    (expire_ms s k) s.refresh s.expire (named_le s k) (expire_le s k)
  where
    go : (b : Bool) (x y a e : ℕ) → x ≤ a + 86400000 → y ≤ e + 172800000
        → (if b then x else y / 2) ≤ a + e + 86400000
    go true x y a e h k = omega arith
    go false x y a e h k = omega arith

longest_rest_le : (r : Router)
    → longest_rest r ≤ r.settings.retry + r.settings.refresh + r.settings.expire + 86400000
longest_rest_le r = go (r.has_data && is_waiting r.phase) (retry_ms r.settings r.known)
    (refresh_ms r.settings r.known) r.settings.retry r.settings.refresh r.settings.expire
    (retry_le r.settings r.known) (refresh_le r.settings r.known)
  where
    go : (b : Bool) (x y t f e : ℕ) → x ≤ t + 7200000 → y ≤ f + e + 86400000
        → (if b then max x y else x) ≤ t + f + e + 86400000
    go true x y t f e h k = omega arith
    go false x y t f e h k = omega arith

rest_le : (g : Bool) (r : Router)
    → rest g r
    ≤ r.settings.pause + r.settings.retry + r.settings.refresh + r.settings.expire + 86400000
rest_le g r = go g r.settings.pause (min (longest_rest r) r.wait)
    (min (longest_rest r) r.wait * r.settings.chance / 131072)
    (longest_rest r) (retry_ms r.settings r.known) r.settings.retry r.settings.refresh
    r.settings.expire (min_le (longest_rest r) r.wait) (longest_rest_le r)
    (retry_le r.settings r.known)
  where
    min_le : (a b : ℕ) → min a b ≤ a
    min_le a b = omega arith

    go : (b : Bool) (p x y l t s f e : ℕ) → x ≤ l → l ≤ s + f + e + 86400000 → t ≤ s + 7200000
        → max p (if b then x - y else t) ≤ p + s + f + e + 86400000
    go true p x y l t s f e h k m = omega arith
    go false p x y l t s f e h k m = omega arith

-- ---- each action

pub record Soon (s : Settings) (r : Router) (t : ℕ) : Type 0 where
  pub due : r.due ≤ t + longest s
  pub asked : r.asked ≤ t

due_before : (d d' t n l : ℕ) → t ≤ n → d' ≤ d → d ≤ t + l → d' ≤ n + l
due_before d d' t n l h k m = omega arith

due_equal : (d d' : ℕ) → d' ≡ d → d' ≤ d
due_equal d d' e = omega arith

pub at_most : (x d d' : ℕ) → d' ≡ x → x ≤ d → d' ≤ d
at_most x d d' e h = omega arith

below : (d : ℕ) → d ≤ d
below d = omega arith

min_below : (d m : ℕ) → min d m ≤ d
min_below d m = omega arith

due_least : (d d' m : ℕ) → d' ≡ min d m → d' ≤ d
due_least d d' m e = omega arith

-- a sum of seven has each of them in it
in_time :
    (n d m p c a f t e : ℕ) → d ≡ n + m → m ≤ p + c + a + f + t + e + 86400000
    → d ≤ n + (p + c + a + f + t + e + 86400000)
in_time n d m p c a f t e h k = omega arith

due_new : (s : Settings) (n d m : ℕ) → d ≡ n + m → m ≤ longest s → d ≤ n + longest s
due_new s n d m e h = in_time n d m s.pause s.connect_limit s.response_limit s.refresh s.retry
    s.expire e h

connect_within : (p c a f t e : ℕ) → c ≤ p + c + a + f + t + e + 86400000
connect_within p c a f t e = omega arith

response_within : (p c a f t e : ℕ) → a ≤ p + c + a + f + t + e + 86400000
response_within p c a f t e = omega arith

retry_within : (p c a f t e x : ℕ) → x ≤ t + 7200000 → x ≤ p + c + a + f + t + e + 86400000
retry_within p c a f t e x h = omega arith

refresh_within : (p c a f t e x : ℕ) → x ≤ f + e + 86400000 → x ≤ p + c + a + f + t + e + 86400000
refresh_within p c a f t e x h = omega arith

rest_within : (p c a f t e x : ℕ) → x ≤ p + t + f + e + 86400000
    → x ≤ p + c + a + f + t + e + 86400000
rest_within p c a f t e x h = omega arith

rests : (g : Bool) (r : Router) → rest g r ≤ longest r.settings
rests g r = rest_within r.settings.pause r.settings.connect_limit r.settings.response_limit
    r.settings.refresh r.settings.retry r.settings.expire (rest g r) (rest_le g r)

pause_or : (b : Bool) (p x l : ℕ) → p ≤ l → x ≤ l → (if b then p else x) ≤ l
pause_or true p x l h k = h
pause_or false p x l h k = k

pause_within : (p c a f t e : ℕ) → p ≤ p + c + a + f + t + e + 86400000
pause_within p c a f t e = omega arith

failure_within : (r : Router) (b : Bool)
    → (if b then r.settings.pause else rest (grows r) r) ≤ longest r.settings
failure_within r b = pause_or b r.settings.pause (rest (grows r) r) (longest r.settings)
    (pause_within r.settings.pause r.settings.connect_limit r.settings.response_limit
    r.settings.refresh r.settings.retry r.settings.expire)
    (rests (grows r) r)

now_within : (n l d : ℕ) → d ≡ n → d ≤ n + l
now_within n l d e = omega arith

ends_soon :
    (y : Cause) (z : Ending) (r r' : Router) (n : ℕ) → PacesEnd y r n z r'
    → r'.due ≤ n + longest r.settings
ends_soon causes.Lower z r r' n d = now_within n (longest r.settings) r'.due d.due
ends_soon causes.Higher z r r' n d = now_within n (longest r.settings) r'.due d.due
ends_soon causes.Slow z r r' n d = due_new r.settings n r'.due (rest (grows_slow r) r) d.due
    (rests (grows_slow r) r)
ends_soon _ z r r' n d = due_new r.settings n r'.due
    (if z.drop || awaits_changes r then r.settings.pause else rest (grows r) r) d.due
    (failure_within r (z.drop || awaits_changes r))

shows_soon : (b : Bool) (c n x l d : ℕ) → d ≡ (if b then n else min c n + x) → x ≤ l → d ≤ n + l
shows_soon true c n x l d e h = omega arith
shows_soon false c n x l d e h = omega arith

-- what happens while it does nothing makes it act no later
pub waits_no_later : (p : Phase) (r : Router) (n : ℕ) (e : Event) → due_waiting p r n e ≤ r.due
waits_no_later phases.Waiting r n (events.Came u) =
    go (r.has_data && (u.serial == r.known.serial)) r.due n
  where
    go : (b : Bool) (d n : ℕ) → (if b then d else min d n) ≤ d
    go true d n = omega arith
    go false d n = omega arith
waits_no_later phases.Waiting r n events.Asked = min_below r.due n
waits_no_later phases.Waiting r n events.Tick = below r.due
waits_no_later phases.Waiting r n events.Connected = below r.due
waits_no_later phases.Waiting r n events.Lost = below r.due
waits_no_later phases.Waiting r n (events.Faulty f) = below r.due
waits_no_later phases.Waiting r n events.Applied = below r.due
waits_no_later phases.Waiting r n (events.NotApplied code) = below r.due
waits_no_later phases.Offline r n events.Asked = min_below r.due (soonest r n)
waits_no_later phases.Offline r n events.Tick = below r.due
waits_no_later phases.Offline r n events.Connected = below r.due
waits_no_later phases.Offline r n events.Lost = below r.due
waits_no_later phases.Offline r n (events.Came u) = below r.due
waits_no_later phases.Offline r n (events.Faulty f) = below r.due
waits_no_later phases.Offline r n events.Applied = below r.due
waits_no_later phases.Offline r n (events.NotApplied code) = below r.due
waits_no_later phases.Connecting r n e = below r.due
waits_no_later phases.Asked r n e = below r.due
waits_no_later phases.Reading r n e = below r.due
waits_no_later phases.Applying r n e = below r.due

-- it acts by itself no later than before, or not long after
acts :
    (r r' : Router) (n : ℕ) (e : Event) (a : Action) → Paces r n e a r'
    → (r'.due ≤ r.due) ⊎ (r'.due ≤ n + longest r.settings)
acts r r' n e actions.Wait d = inl (at_most (due_waiting r.phase r n e) r.due r'.due d.due
    (waits_no_later r.phase r n e))
acts r r' n e actions.Drop d = inl (due_least r.due r'.due (n + r.settings.pause) d.due)
acts r r' n e actions.Connect d = inr (due_new r.settings n r'.due r.settings.connect_limit d.due
    (connect_within r.settings.pause r.settings.connect_limit r.settings.response_limit
    r.settings.refresh r.settings.retry r.settings.expire))
acts r r' n e (actions.Ask q) d = inr (due_new r.settings n r'.due r.settings.response_limit d.due
    (response_within r.settings.pause r.settings.connect_limit r.settings.response_limit
    r.settings.refresh r.settings.retry r.settings.expire))
acts r r' n e actions.Begin d = inl (due_equal r.due r'.due d.due)
acts r r' n e actions.Keep d = inl (due_equal r.due r'.due d.due)
acts r r' n e (actions.Apply on) d = inl (due_equal r.due r'.due d.due)
acts r r' n e actions.Show d = inr (shows_soon (has_more r) r.came n
    (refresh_ms r.settings r.answer) (longest r.settings) r'.due d.due
    (refresh_within r.settings.pause r.settings.connect_limit r.settings.response_limit
    r.settings.refresh r.settings.retry r.settings.expire
    (refresh_ms r.settings r.answer) (refresh_le r.settings r.answer)))
acts r r' n e actions.NoData d = inr (due_new r.settings n r'.due (retry_ms r.settings r.known)
    d.due
    (retry_within r.settings.pause r.settings.connect_limit r.settings.response_limit
    r.settings.refresh r.settings.retry r.settings.expire
    (retry_ms r.settings r.known) (retry_le r.settings r.known)))
acts r r' n e (actions.End z) d = inr (ends_soon z.cause z r r' n d)

-- when it asked changes only as it asks
pub asked_of :
    (r r' : Router) (n : ℕ) (e : Event) (a : Action) → Paces r n e a r'
    → (r'.asked ≡ r.asked) ⊎ (r'.asked ≡ n)
asked_of r r' n e actions.Wait d = inl d.same.asked
asked_of r r' n e actions.Drop d = inl d.asked
asked_of r r' n e actions.Connect d = inl d.asked
asked_of r r' n e (actions.Ask q) d = inr d.asked
asked_of r r' n e actions.Begin d = inl d.same.asked
asked_of r r' n e actions.Keep d = inl d.same.asked
asked_of r r' n e (actions.Apply on) d = inl d.same.asked
asked_of r r' n e actions.Show d = inl d.asked
asked_of r r' n e actions.NoData d = inl d.same.asked
asked_of r r' n e (actions.End z) d = inl (ends_settled z.cause z r r' n d).asked

pub asked_before : (a a' t n : ℕ) → t ≤ n → (a' ≡ a) ⊎ (a' ≡ n) → a ≤ t → a' ≤ n
asked_before a a' t n l (inl e) h = omega arith
asked_before a a' t n l (inr e) h = omega arith

soon_after :
    (s : Settings) (r r' : Router) (t n : ℕ) → r.settings ≡ s → t ≤ n
    → (r'.due ≤ r.due) ⊎ (r'.due ≤ n + longest r.settings) → r.due ≤ t + longest s
    → r'.due ≤ n + longest s
soon_after s r r' t n g l (inl d) y = due_before r.due r'.due t n (longest s) l d y
soon_after s r r' t n g l (inr d) y = subst (λ (x : Settings). r'.due ≤ n + longest x) g d

zero_soon : (d l : ℕ) → d ≡ 0 → d ≤ 0 + l
zero_soon d l e = omega arith

zero_asked : (d : ℕ) → d ≡ 0 → d ≤ 0
zero_asked d e = omega arith

pub soon_new : (s : Settings) (r : Router) → IsNew s r → Soon s r 0
soon_new s r new = record {
  due = zero_soon r.due (longest s) new.due;
  asked = zero_asked r.asked new.asked;
}

-- one step
pub soon_next :
    (s : Settings) (r r' : Router) (t n : ℕ) (e : Event) (a : Action) → r.settings ≡ s → t ≤ n
    → IsStep r n e a r' → Soon s r t → Soon s r' n
soon_next s r r' t n e a set order went y = record {
  due = soon_after s r r' t n set order (acts r r' n e a went.paces) y.due;
  asked = asked_before r.asked r'.asked t n order (asked_of r r' n e a went.paces) y.asked;
}

pub soon_always :
    {B D : Type 0} (c : Caller B D) (ms : List (Moment B)) (r : Router) (h : Host B D)
    → IsHistory c ms r h → IsTimed ms
    → Soon c.settings r (latest ms)
soon_always c ms r h (run_begins r₀ new) timed = soon_new c.settings r₀ new
soon_always c ms r h (run_goes_on n b e a r' ms₀ r₀ h₀ run said went) timed =
    soon_next c.settings r₀ r' (latest ms₀) n e a (settled c ms₀ r₀ h₀ run) timed.0 went
    (soon_always c ms₀ r₀ h₀ run timed.2)

waiting_soon :
    (d q x t p c a f s e : ℕ) → d ≤ t + (p + c + a + f + s + e + 86400000) → q ≤ t → x ≡ p
    → max d (min (q + x) (2 ^ 64 - 1)) ≤ t + (p + c + a + f + s + e + 86400000)
waiting_soon d q x t p c a f s e h k m = omega arith

in_phase : (p : Phase) (s : Settings) (r : Router) (t : ℕ) → r.settings ≡ s → Soon s r t
    → due_in p r ≤ t + longest s
in_phase phases.Waiting s r t g y = waiting_soon r.due r.asked r.settings.pause t s.pause
    s.connect_limit s.response_limit s.refresh s.retry s.expire y.due y.asked
    (ap (λ (x : Settings). x.pause) g)
in_phase phases.Offline s r t g y = y.due
in_phase phases.Connecting s r t g y = y.due
in_phase phases.Asked s r t g y = y.due
in_phase phases.Reading s r t g y = y.due
in_phase phases.Applying s r t g y = y.due

least_of : (b : Bool) (x y m : ℕ) → x ≤ m → (if b then min x y else x) ≤ m
least_of true x y m h = omega arith
least_of false x y m h = h

pub wakes_soon : (s : Settings) (r : Router) (t : ℕ) → r.settings ≡ s → Soon s r t
    → wakes_at r ≤ t + longest s
wakes_soon s r t set y =
    least_of r.has_data (due_in r.phase r) r.expires (t + longest s) (in_phase r.phase s r t set y)

pub acts_soon :
    {B D : Type 0} (c : Caller B D) (ms : List (Moment B)) (r : Router) (h : Host B D)
    → IsHistory c ms r h → IsTimed ms
    → wakes_at r ≤ latest ms + longest c.settings
acts_soon c ms r h run timed =
    wakes_soon c.settings r (latest ms) (settled c ms r h run) (soon_always c ms r h run timed)
