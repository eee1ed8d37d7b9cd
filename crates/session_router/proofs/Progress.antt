-- Beside a cache that keeps the rules a run can always go on, until data are shown.
use Rattle.std.proofs.Common.{◌≡◌, ◌≢◌, ◌⊎◌, ℕ, Bool, true, false, ◌+◌, ◌-◌, ◌<◌, ◌≤◌, ◌^◌, min}
use Rattle.std.proofs.Common.{max}
use Rattle.std.proofs.Common.{◌==◌, ◌%◌, List, None, Some, if◌then◌else◌, refl, sym, ap, ◌∙◌, subst}
use Rattle.std.proofs.Common.{inl, inr, arith}
use Rattle.std.specs.declared.cmp.Ordering.TheVariants.{Less}
use Rattle.rtr_base.specs.Serial.{by_distance, serial_cmp}
use Rattle.std.proofs.lemmas.Bool.{cases_lt, eqb-true}
use Rattle.session_router.specs.declared.head.Head.{Head}
use Rattle.session_router.specs.declared.head.Kind.TheVariants as kinds
use Rattle.session_router.specs.declared.head.Query.{Query}
use Rattle.session_router.specs.declared.settings.Settings.{Settings}
use Rattle.session_router.specs.declared.router.Router.{Router}
use Rattle.session_router.specs.declared.router.Phase.{Phase}
use Rattle.session_router.specs.declared.router.Phase.TheVariants as phases
use Rattle.session_router.specs.declared.event.Event.{Event}
use Rattle.session_router.specs.declared.event.Event.TheVariants as events
use Rattle.session_router.specs.declared.event.Action.{Action}
use Rattle.session_router.specs.declared.event.Action.TheVariants as actions
use Rattle.session_router.specs.declared.event.Cause.TheVariants as causes
use Rattle.session_router.specs.Rules.{Fresh, MayAsk, Rule, known_of, query}
use Rattle.session_router.specs.Heeding.{ends_for, ends_with}
use Rattle.session_router.specs.Pace.{IsLimited, due_in, wakes_at}
use Rattle.session_router.specs.After.{once_adopted, once_asked, once_begun, once_completed}
use Rattle.session_router.specs.After.{once_connected, once_dropped, once_lost, once_risen}
use Rattle.session_router.specs.Step.{IsStep}
use Rattle.session_router.specs.Times.{expire_ms}
use Rattle.session_router.specs.Exchange.{Exchange, exchange_after, exchanged}
use Rattle.session_router.specs.Histories.{Caller, Host, IsHistory, Moment}
use Rattle.session_router.specs.Asking.{IsTimed, latest}
use Rattle.session_router.specs.Recovery.{ComesInTime, DoesWell, IsBeside, IsServedBy, IsShownBy}
use Rattle.session_router.specs.Recovery.{Unshown}
use Rattle.session_router.specs.Recovery.{served_until}
use Rattle.session_router.specs.Recovery.AnswersWell.{responds}
use Rattle.session_router.specs.Recovery.GoesOnWell.{ends_data}
use Rattle.session_router.specs.Recovery.IsMadeWell.{are_made}
use Rattle.session_router.specs.Recovery.IsBeside.{beside_from, beside_on}
use Rattle.session_router.proofs.Exchanges.{Answering, Matched, Querying, from, in_time, matched}
use Rattle.session_router.proofs.Exchanges.{matched_on, recovers_then, spoken_as}
use Rattle.session_router.proofs.Serving.{fresh_or_not}
use Rattle.session_router.proofs.Settled.{same_settings, settled}
use Rattle.session_router.proofs.Soon.{asked_before, asked_of, soon_always}
use Rattle.session_router.proofs.Steps.{asks_at, asks_then, begins_at, completes_at, connects_at}
use Rattle.session_router.proofs.Steps.{drops_at, expires_at, expires_later, rises_at, shows_at}

-- ---- runs

joined :
    (Only : Exchange → Event → Action → Type 0) (most : ℕ) (r₀ : Router) (x₀ : Exchange) (start : ℕ)
    (r₁ : Router) (x₁ : Exchange) (n₁ : ℕ) (r : Router) (x : Exchange) (n : ℕ)
    → IsBeside Only most r₀ x₀ start r₁ x₁ n₁ → IsBeside Only most r₁ x₁ n₁ r x n
    → IsBeside Only most r₀ x₀ start r x n
joined Only most r₀ x₀ start r₁ x₁ n₁ r x n run beside_from = run
joined Only most r₀ x₀ start r₁ x₁ n₁ r x n run
    (beside_on r₂ x₂ n₂ n₃ e a r₃ on l t soon w went only) =
    beside_on r₂ x₂ n₂ n₃ e a r₃
    (joined Only most r₀ x₀ start r₁ x₁ n₁ r₂ x₂ n₂ run on) l t soon w went only

-- data are shown after some more steps
record Comes (most : ℕ) (r : Router) (x : Exchange) (n : ℕ) : Type 0 where
  last : Router
  exchange : Exchange
  shown_at : ℕ
  after : Router
  run : IsBeside Unshown most r x n last exchange shown_at
  in_time : ComesInTime exchange shown_at
  made : IsServedBy most last.settings exchange events.Applied
  shows : IsStep last shown_at events.Applied actions.Show after

one_more :
    (most : ℕ) (r : Router) (x : Exchange) (n n' : ℕ) (e : Event) (a : Action) (r' : Router)
    → n ≤ n' → n' ≤ max n (wakes_at r) → ComesInTime x n' → IsServedBy most r.settings x e
    → IsStep r n' e a r' → Unshown x e a
    → Comes most r' (exchange_after r.settings n' e a x) n' → Comes most r x n
one_more most r x n n' e a r' l t soon w went only y = record {
  last = y.last;
  exchange = y.exchange;
  shown_at = y.shown_at;
  after = y.after;
  run = joined Unshown most r x n r' (exchange_after r.settings n' e a x) n' y.last y.exchange
      y.shown_at (beside_on r x n n' e a r' beside_from l t soon w went only) y.run;
  in_time = y.in_time;
  made = y.made;
  shows = y.shows;
}

-- ---- what holds at each step

record Ready (r : Router) (x : Exchange) (n : ℕ) : Type 0 where
  matched : Matched r x
  timely : ComesInTime x n
  connect : 1 ≤ r.settings.connect_limit
  response : 1 ≤ r.settings.response_limit

later : (n k : ℕ) → 1 ≤ k → n < n + k
later n k h = omega arith

untimed : (p : Phase) (x : Exchange) (n : ℕ) → x.phase ≡ p → (IsLimited p → ⊥)
    → p ≢ phases.Applying → ComesInTime x n
untimed p x n q l a (inl y) = absurd (l (subst (λ (p : Phase). IsLimited p) q y))
untimed p x n q l a (inr y) = absurd (a (sym q ∙ y))

timely_asked :
    (e : Event) (r r' : Router) (x : Exchange) (n : ℕ) (q : Query) → MayAsk r n e r'
    → 1 ≤ r.settings.response_limit
    → ComesInTime (exchange_after r.settings n e (actions.Ask q) x) n
timely_asked (events.Came u) r r' x n q w h = λ y. later n r.settings.response_limit h
timely_asked events.Connected r r' x n q w h = λ y. later n r.settings.response_limit h
timely_asked events.Tick r r' x n q w h = λ y. later n r.settings.response_limit h
timely_asked events.Asked r r' x n q w h = absurd w
timely_asked events.Lost r r' x n q w h = absurd w
timely_asked (events.Faulty f) r r' x n q w h = absurd w
timely_asked events.Applied r r' x n q w h = absurd w
timely_asked (events.NotApplied code) r r' x n q w h = absurd w

offline_untimed : (x : Exchange) (n : ℕ) → x.phase ≡ phases.Offline → ComesInTime x n
offline_untimed x n q = untimed phases.Offline x n q (λ l. l) (λ e. cc)

waiting_untimed : (x : Exchange) (n : ℕ) → x.phase ≡ phases.Waiting → ComesInTime x n
waiting_untimed x n q = untimed phases.Waiting x n q (λ l. l) (λ e. cc)

timely_on :
    (n : ℕ) (e : Event) (a : Action) (r r' : Router) (x : Exchange) → Rule r n e a r'
    → Matched r x → ComesInTime x n → 1 ≤ r.settings.connect_limit
    → 1 ≤ r.settings.response_limit → ComesInTime (exchange_after r.settings n e a x) n
timely_on n e actions.Wait r r' x w y t c h = t
timely_on n e actions.Drop r r' x w y t c h = t
timely_on n e (actions.End z) r r' x w y t c h =
    offline_untimed (exchange_after r.settings n e (actions.End z) x) n refl
timely_on n e (actions.Ask q) r r' x w y t c h = timely_asked e r r' x n q w.may h
timely_on n events.Tick actions.Connect r r' x w y t c h =
    λ z. later n r.settings.connect_limit c
timely_on n (events.Came u) actions.Begin r r' x w y t c h =
    λ z. t (inl (subst (λ (p : Phase). IsLimited p) (sym (y.phase ∙ w.from)) tt))
timely_on n (events.Came u) actions.Keep r r' x w y t c h = t
timely_on n (events.Came u) (actions.Apply on) r r' x w y t c h =
    λ z. later n (expire_ms r.settings (known_of u)) (expires_later r.settings (known_of u))
timely_on n (events.Came u) actions.NoData r r' x w y t c h =
    waiting_untimed (exchange_after r.settings n (events.Came u) actions.NoData x) n refl
timely_on n events.Applied actions.Show r r' x w y t c h =
    waiting_untimed (exchange_after r.settings n events.Applied actions.Show x) n refl
timely_on n _ _ r r' x w y t c h = absurd w

ready_on :
    (n n' : ℕ) (e : Event) (a : Action) (r r' : Router) (x : Exchange) → IsStep r n' e a r'
    → ComesInTime x n' → Ready r x n → Ready r' (exchange_after r.settings n' e a x) n'
ready_on n n' e a r r' x w t y =
    let same : r'.settings ≡ r.settings = same_settings r r' n' e a w.paces in
    record {
      matched = matched_on n' e a r r' x w y.matched;
      timely = timely_on n' e a r r' x w.rule y.matched t y.connect y.response;
      connect = subst (λ (s : Settings). 1 ≤ s.connect_limit) (sym same) y.connect;
      response = subst (λ (s : Settings). 1 ≤ s.response_limit) (sym same) y.response;
    }

sent : (most : ℕ) (p : Phase) (r : Router) (x : Exchange) (e : Event) → r.phase ≡ p → Matched r x
    → DoesWell most r.settings x p e → IsServedBy most r.settings x e
sent most p r x e q y w =
    inr (inr (subst (λ (p : Phase). DoesWell most r.settings x p e) (sym (y.phase ∙ q)) w))

now_le : (n w : ℕ) → n ≤ max n w
now_le n w = omega arith

self_le : (n : ℕ) → n ≤ n
self_le n = omega arith

-- ---- where the changes are made

from_applying : (most : ℕ) (r : Router) (x : Exchange) (n : ℕ) → r.phase ≡ phases.Applying
    → Fresh r n → Ready r x n → Comes most r x n
from_applying most r x n q f y = record {
  last = r;
  exchange = x;
  shown_at = n;
  after = once_adopted r n;
  run = beside_from;
  in_time = y.timely;
  made = sent most phases.Applying r x events.Applied q y.matched are_made;
  shows = shows_at r n q ((in_time r x n y.matched y.timely).1 q) f;
}

-- ---- where an answer is read: it ends

-- a serial number that isn't before this one, nor this one
abbrev after_serial : ℕ → ℕ
after_serial s = if s == 2 ^ 32 - 1 then 0 else s + 1

equal_order : (s : ℕ) → serial_cmp s s ≢ Some Less
equal_order s e = go (subst (λ (d : ℕ). by_distance d ≡ Some Less) zero e)
  where
    apart : (s : ℕ) → s + 2 ^ 32 - s ≡ 2 ^ 32
    apart s = omega arith

    zero : (s + 2 ^ 32 - s) % 2 ^ 32 ≡ 0
    zero = ap (λ (d : ℕ). d % 2 ^ 32) (apart s)

    go : by_distance 0 ≡ Some Less → ⊥
    go e = cc

after_order : (s : ℕ) → serial_cmp (after_serial s) s ≢ Some Less
after_order s = go (s == 2 ^ 32 - 1) (eqb-true s (2 ^ 32 - 1))
  where
    most : serial_cmp 0 (2 ^ 32 - 1) ≢ Some Less
    most e = cc

    apart : (s : ℕ) → s + 2 ^ 32 - (s + 1) ≡ 2 ^ 32 - 1
    apart s = omega arith

    less : (s + 2 ^ 32 - (s + 1)) % 2 ^ 32 ≡ 2 ^ 32 - 1
    less = ap (λ (d : ℕ). d % 2 ^ 32) (apart s)

    none : by_distance (2 ^ 32 - 1) ≡ Some Less → ⊥
    none e = cc

    go : (b : Bool) → (b ≡ true → s ≡ 2 ^ 32 - 1)
        → serial_cmp (if b then 0 else s + 1) s ≢ Some Less
    go true h = subst (λ (s : ℕ). serial_cmp 0 s ≢ Some Less) (sym (h refl)) most
    go false h = λ e. none (subst (λ (d : ℕ). by_distance d ≡ Some Less) less e)

after_other : (s : ℕ) → after_serial s ≡ s → ⊥
after_other s = go (s == 2 ^ 32 - 1) (eqb-true s (2 ^ 32 - 1))
  where
    zero : (s : ℕ) → s ≡ 2 ^ 32 - 1 → 0 ≡ s → ⊥
    zero s e f = omega arith

    more : (s : ℕ) → s + 1 ≡ s → ⊥
    more s e = omega arith

    go : (b : Bool) → (b ≡ true → s ≡ 2 ^ 32 - 1) → (if b then 0 else s + 1) ≡ s → ⊥
    go true h e = zero s (h refl) e
    go false h e = more s e

abbrev picked : (none : Bool) → ℕ → ℕ
picked none s = if none then s else after_serial s

picked_order : (b : Bool) (s : ℕ) → serial_cmp (picked b s) s ≢ Some Less
picked_order true s = equal_order s
picked_order false s = after_order s

picked_other : (b : Bool) (s : ℕ) → picked b s ≡ s → b ≡ true
picked_other true s e = refl
picked_other false s e = absurd (after_other s e)

abbrev end_of : Exchange → Head
end_of x = record {
  kind = kinds.EndOfData;
  version = x.version;
  session = x.session;
  serial = picked (x.units == 0) x.query.serial;
  code = record { 0 = 0 };
  refresh = 3600;
  retry = 600;
  expire = 7200;
  size = 24;
}

from_reading : (most : ℕ) (r : Router) (x : Exchange) (n : ℕ) → r.phase ≡ phases.Reading
    → Fresh r n → Ready r x n → Comes most r x n
from_reading most r x n q f y =
    one_more most r x n n e a (once_completed r n u) (self_le n) (now_le n (wakes_at r)) y.timely
    (sent most phases.Reading r x e q y.matched
    (ends_data u (record { kind = refl; version = refl; session = refl }) order none))
    step ((λ k. cc), tt)
    (from_applying most (once_completed r n u) (exchange_after r.settings n e a x) n refl step.fresh
    (ready_on n n e a r (once_completed r n u) x step y.timely y))
  where
    u : Head
    u = end_of x

    e : Event
    e = events.Came (end_of x)

    a : Action
    a = actions.Apply r.changes

    z : Answering r x
    z = from phases.Reading r x q y.matched

    order : x.query.changes ≡ true
        → serial_cmp (picked (x.units == 0) x.query.serial) x.query.serial ≢ Some Less
    order c = picked_order (x.units == 0) x.query.serial

    none : x.query.changes ≡ true → picked (x.units == 0) x.query.serial ≡ x.query.serial
        → x.units ≡ 0
    none c k = eqb-true x.units 0 (picked_other (x.units == 0) x.query.serial k)

    step : IsStep r n (events.Came (end_of x)) (actions.Apply r.changes)
        (once_completed r n (end_of x))
    step = completes_at r n (end_of x) q
        ((in_time r x n y.matched y.timely).0
        (subst (λ (p : Phase). IsLimited p) (sym q) tt))
        f refl z.asked.version z.session
        (λ c k. order (z.asked.changes ∙ c)
        (ap (λ (s : ℕ). serial_cmp (picked (x.units == 0) x.query.serial) s) (z.asked.serial c)
        ∙ k))
        (λ c k. sym z.units ∙ none (z.asked.changes ∙ c) (k ∙ sym (z.asked.serial c)))

-- ---- where it is awaited: it begins

abbrev response_of : Router → Exchange → Head
response_of r x = record {
  kind = kinds.CacheResponse;
  version = x.version;
  session = r.known.session;
  serial = 0;
  code = record { 0 = 0 };
  refresh = 0;
  retry = 0;
  expire = 0;
  size = 8;
}

from_asked : (most : ℕ) (r : Router) (x : Exchange) (n : ℕ) → r.phase ≡ phases.Asked
    → Fresh r n → Ready r x n → Comes most r x n
from_asked most r x n q f y =
    one_more most r x n n (events.Came (response_of r x)) actions.Begin
    (once_begun r (response_of r x)) (self_le n) (now_le n (wakes_at r)) y.timely
    (sent most phases.Asked r x (events.Came (response_of r x)) q y.matched
    (responds (response_of r x) refl refl))
    step ((λ k. cc), tt)
    (from_reading most (once_begun r (response_of r x))
    (exchange_after r.settings n (events.Came (response_of r x)) actions.Begin x) n refl step.fresh
    (ready_on n n (events.Came (response_of r x)) actions.Begin r (once_begun r (response_of r x)) x
    step y.timely y))
  where
    z : Querying r x × (x.until ≡ r.due)
    z = from phases.Asked r x q y.matched

    step : IsStep r n (events.Came (response_of r x)) actions.Begin
        (once_begun r (response_of r x))
    step = begins_at r n (response_of r x) q
        ((in_time r x n y.matched y.timely).0
        (subst (λ (p : Phase). IsLimited p) (sym q) tt))
        f refl z.0.version (λ c. refl)

-- ---- where a connection is made

abbrev asking : Router → ℕ → Router
asking r n = once_asked (record r { answered = false }) n

from_connecting : (most : ℕ) (r : Router) (x : Exchange) (n : ℕ) → r.phase ≡ phases.Connecting
    → Fresh r n → Ready r x n → Comes most r x n
from_connecting most r x n q f y =
    one_more most r x n n events.Connected (actions.Ask (query (asking r n))) (asking r n)
    (self_le n) (now_le n (wakes_at r)) y.timely
    (sent most phases.Connecting r x events.Connected q y.matched refl)
    step ((λ k. cc), tt)
    (from_asked most (asking r n)
    (exchange_after r.settings n events.Connected (actions.Ask (query (asking r n))) x) n refl
    step.fresh
    (ready_on n n events.Connected (actions.Ask (query (asking r n))) r (asking r n) x step y.timely
    y))
  where
    step : IsStep r n events.Connected (actions.Ask (query (asking r n))) (asking r n)
    step = asks_at r n q
        ((in_time r x n y.matched y.timely).0
        (subst (λ (p : Phase). IsLimited p) (sym q) tt))
        f

-- ---- where there is none

-- when it wakes its time has come, unless its data have expired
woken : (p : Phase) (r : Router) (n : ℕ) → r.phase ≡ p → Fresh r (max n (wakes_at r))
    → due_in p r ≤ max n (wakes_at r)
woken p r n q f =
    subst (λ (p : Phase). due_in p r ≤ max n (wakes_at r)) q
    (go r.has_data (due_in r.phase r) r.expires f)
  where
    due : (d e : ℕ) → max n (min d e) < e → d ≤ max n (min d e)
    due d e h = omega arith

    go : (b : Bool) (d e : ℕ) → (b ≡ true → max n (if b then min d e else d) < e)
        → d ≤ max n (if b then min d e else d)
    go true d e h = due d e (h refl)
    go false d e h = latter n d
      where
        latter : (n d : ℕ) → d ≤ max n d
        latter n d = omega arith

connecting : (most : ℕ) (r : Router) (x : Exchange) (n : ℕ) → r.phase ≡ phases.Offline
    → Fresh r (max n (wakes_at r)) → Ready r x n → Comes most r x n
connecting most r x n q f y =
    one_more most r x n n' events.Tick actions.Connect (once_connected r n')
    (now_le n (wakes_at r)) (self_le n') soon (inl refl) step ((λ k. cc), tt)
    (from_connecting most (once_connected r n')
    (exchange_after r.settings n' events.Tick actions.Connect x) n' refl step.fresh
    (ready_on n n' events.Tick actions.Connect r (once_connected r n') x step soon y))
  where
    n' : ℕ
    n' = max n (wakes_at r)

    soon : ComesInTime x n'
    soon = offline_untimed x n' (y.matched.phase ∙ q)

    step : IsStep r n' events.Tick actions.Connect (once_connected r n')
    step = connects_at r n' q (woken phases.Offline r n q f) f

bare : (most : ℕ) (r : Router) (x : Exchange) (n : ℕ) → r.phase ≡ phases.Offline
    → r.has_data ≡ false → Ready r x n → Comes most r x n
bare most r x n q none y = connecting most r x n q (λ e. cc) y

-- the data have expired
over : (most : ℕ) (r : Router) (x : Exchange) (n n' : ℕ) → n ≤ n' → n' ≤ max n (wakes_at r)
    → ComesInTime x n' → r.has_data ≡ true → r.expires ≤ n' → Ready r x n → Comes most r x n
over most r x n n' l t soon has late y = go r.phase refl
  where
    online : r.phase ≢ phases.Offline → Comes most r x n
    online differs =
        let step : IsStep r n' events.Tick (ends_with true None causes.Expired)
        (once_dropped r n') =
        expires_at r n' differs has late in
        one_more most r x n n' events.Tick (ends_with true None causes.Expired) (once_dropped r n')
        l t soon (inl refl) step ((λ k. cc), tt)
        (bare most (once_dropped r n')
        (exchange_after r.settings n' events.Tick (ends_with true None causes.Expired) x) n' refl
        refl
        (ready_on n n' events.Tick (ends_with true None causes.Expired) r (once_dropped r n') x step
        soon y))

    offline : r.phase ≡ phases.Offline → Comes most r x n
    offline q =
        let step : IsStep r n' events.Tick actions.Drop (once_lost r n') =
        drops_at r n' q has late in
        one_more most r x n n' events.Tick actions.Drop (once_lost r n')
        l t soon (inl refl) step ((λ k. cc), tt)
        (bare most (once_lost r n') (exchange_after r.settings n' events.Tick actions.Drop x) n' q
        refl (ready_on n n' events.Tick actions.Drop r (once_lost r n') x step soon y))

    not_in : (p : Phase) → r.phase ≡ p → p ≢ phases.Offline → r.phase ≢ phases.Offline
    not_in p q differs e = differs (sym q ∙ e)

    go : (p : Phase) → r.phase ≡ p → Comes most r x n
    go phases.Offline q = offline q
    go phases.Connecting q = online (not_in phases.Connecting q (λ e. cc))
    go phases.Asked q = online (not_in phases.Asked q (λ e. cc))
    go phases.Reading q = online (not_in phases.Reading q (λ e. cc))
    go phases.Applying q = online (not_in phases.Applying q (λ e. cc))
    go phases.Waiting q = online (not_in phases.Waiting q (λ e. cc))

from_offline : (most : ℕ) (r : Router) (x : Exchange) (n : ℕ) → r.phase ≡ phases.Offline
    → Ready r x n → Comes most r x n
from_offline most r x n q y = go (fresh_or_not r (max n (wakes_at r)))
  where
    go : Fresh r (max n (wakes_at r)) ⊎ ((r.has_data ≡ true) × (r.expires ≤ max n (wakes_at r)))
        → Comes most r x n
    go (inl f) = connecting most r x n q f y
    go (inr z) = over most r x n (max n (wakes_at r)) (now_le n (wakes_at r))
        (self_le (max n (wakes_at r)))
        (offline_untimed x (max n (wakes_at r)) (y.matched.phase ∙ q)) z.0 z.1 y

-- ---- where nothing is asked

from_waiting : (most : ℕ) (r : Router) (x : Exchange) (n : ℕ) → r.phase ≡ phases.Waiting
    → r.asked + r.settings.pause < 2 ^ 64 → Ready r x n → Comes most r x n
from_waiting most r x n q small y = go (fresh_or_not r n')
  where
    n' : ℕ
    n' = max n (wakes_at r)

    soon : ComesInTime x n'
    soon = waiting_untimed x n' (y.matched.phase ∙ q)

    due : (d b n : ℕ) → max d b ≤ n → d ≤ n
    due d b n h = omega arith

    paused : (d a p n : ℕ) → a + p < 2 ^ 64 → max d (min (a + p) (2 ^ 64 - 1)) ≤ n → p ≤ n - a
    paused d a p n h k = omega arith

    asks : r.due ≤ n' → r.settings.pause ≤ n' - r.asked → (r.silent ≡ true → n' < r.rises)
        → Fresh r n' → Comes most r x n
    asks d p z f =
        let step : IsStep r n' events.Tick (actions.Ask (query (once_asked r n')))
        (once_asked r n') = asks_then r n' q d p z f in
        one_more most r x n n' events.Tick (actions.Ask (query (once_asked r n'))) (once_asked r n')
        (now_le n (wakes_at r)) (self_le n') soon (inl refl) step ((λ k. cc), tt)
        (from_asked most (once_asked r n')
        (exchange_after r.settings n' events.Tick (actions.Ask (query (once_asked r n'))) x) n' refl
        step.fresh
        (ready_on n n' events.Tick (actions.Ask (query (once_asked r n'))) r (once_asked r n') x
        step soon y))

    rises : r.due ≤ n' → r.settings.pause ≤ n' - r.asked → r.silent ≡ true → r.rises ≤ n'
        → Fresh r n' → Comes most r x n
    rises d p s z f =
        let step : IsStep r n' events.Tick (ends_for causes.Higher) (once_risen r n') =
        rises_at r n' q d p s z f in
        one_more most r x n n' events.Tick (ends_for causes.Higher) (once_risen r n')
        (now_le n (wakes_at r)) (self_le n') soon (inl refl) step ((λ k. cc), tt)
        (from_offline most (once_risen r n')
        (exchange_after r.settings n' events.Tick (ends_for causes.Higher) x) n' refl
        (ready_on n n' events.Tick (ends_for causes.Higher) r (once_risen r n') x step soon y))

    by_silence : (b : Bool) → r.silent ≡ b → (n' < r.rises) ⊎ (r.rises ≤ n') → r.due ≤ n'
        → r.settings.pause ≤ n' - r.asked → Fresh r n' → Comes most r x n
    by_silence false s z d p f = asks d p (λ e. cc) f
    by_silence true s (inl z) d p f = asks d p (λ e. z) f
    by_silence true s (inr z) d p f = rises d p s z f

    go : Fresh r n' ⊎ ((r.has_data ≡ true) × (r.expires ≤ n')) → Comes most r x n
    go (inl f) =
        let w : max r.due (min (r.asked + r.settings.pause) (2 ^ 64 - 1)) ≤ n' =
        woken phases.Waiting r n q f in
        by_silence r.silent refl (cases_lt n' r.rises)
        (due r.due (min (r.asked + r.settings.pause) (2 ^ 64 - 1)) n' w)
        (paused r.due r.asked r.settings.pause n' small w) f
    go (inr z) = over most r x n n' (now_le n (wakes_at r)) (self_le n') soon z.0 z.1 y

-- ---- from each state

comes : (most : ℕ) (r : Router) (x : Exchange) (n : ℕ)
    → r.asked + r.settings.pause < 2 ^ 64 → Ready r x n → Comes most r x n
comes most r x n small y = go (fresh_or_not r n)
  where
    at : (p : Phase) → r.phase ≡ p → Fresh r n → Comes most r x n
    at phases.Offline q f = from_offline most r x n q y
    at phases.Connecting q f = from_connecting most r x n q f y
    at phases.Asked q f = from_asked most r x n q f y
    at phases.Reading q f = from_reading most r x n q f y
    at phases.Applying q f = from_applying most r x n q f y
    at phases.Waiting q f = from_waiting most r x n q small y

    go : Fresh r n ⊎ ((r.has_data ≡ true) × (r.expires ≤ n)) → Comes most r x n
    go (inl f) = at r.phase refl f
    go (inr z) = over most r x n n (self_le n) (now_le n (wakes_at r)) y.timely z.0 z.1 y

record Runs (r₀ : Router) (r : Router) (x : Exchange) (n : ℕ) : Type 0 where
  ready : Ready r x n
  settings : r.settings ≡ r₀.settings
  asked : r.asked ≤ n

runs :
    (most : ℕ) (r₀ : Router) (x₀ : Exchange) (start : ℕ) (r : Router) (x : Exchange) (n : ℕ)
    → Ready r₀ x₀ start → r₀.asked ≤ start → IsBeside Unshown most r₀ x₀ start r x n
    → Runs r₀ r x n
runs most r₀ x₀ start r x n y h beside_from = record { ready = y; settings = refl; asked = h }
runs most r₀ x₀ start r x n y h (beside_on r₁ x₁ n₁ n₂ e a r₂ run l t soon w went only) =
    let z : Runs r₀ r₁ x₁ n₁ = runs most r₀ x₀ start r₁ x₁ n₁ y h run in
    record {
      ready = ready_on n₁ n₂ e a r₁ r₂ x₁ went soon z.ready;
      settings = same_settings r₁ r₂ n₂ e a went.paces ∙ z.settings;
      asked = asked_before r₁.asked r₂.asked n₁ n₂ l (asked_of r₁ r₂ n₂ e a went.paces) z.asked;
    }

pub shown_soon :
    {B D : Type 0} (c : Caller B D) (ms : List (Moment B)) (r₀ : Router) (h : Host B D)
    (most spoken start : ℕ) (r : Router) (x : Exchange) (n : ℕ)
    → IsHistory c ms r₀ h → IsTimed ms → latest ms ≤ start → r₀.floor ≤ spoken
    → 1 ≤ c.settings.connect_limit → 1 ≤ c.settings.response_limit
    → served_until r₀ start + c.settings.pause < 2 ^ 64
    → ComesInTime (record (exchanged c.settings ms) { spoken = spoken }) start
    → IsBeside Unshown most r₀ (record (exchanged c.settings ms) { spoken = spoken }) start r x n
    → IsShownBy most r x n (served_until r₀ start)
shown_soon c ms r₀ h most spoken start r x n was timed late f connect response small soon run =
    record {
      last = y.last;
      exchange = y.exchange;
      shown_at = y.shown_at;
      after = y.after;
      run = y.run;
      in_time = y.in_time;
      made = y.made;
      shows = y.shows;
      by = recovers_then c ms r₀ h most spoken start y.last y.exchange y.shown_at was f
          (joined Unshown most r₀ x₀ start r x n y.last y.exchange y.shown_at run y.run);
    }
  where
    x₀ : Exchange
    x₀ = record (exchanged c.settings ms) { spoken = spoken }

    same : r₀.settings ≡ c.settings
    same = settled c ms r₀ h was

    asked : (a t n : ℕ) → a ≤ t → t ≤ n → a ≤ n
    asked a t n h k = omega arith

    begins : Ready r₀ x₀ start
    begins = record {
      matched = spoken_as r₀ (exchanged c.settings ms) spoken (matched c ms r₀ h was);
      timely = soon;
      connect = subst (λ (s : Settings). 1 ≤ s.connect_limit) (sym same) connect;
      response = subst (λ (s : Settings). 1 ≤ s.response_limit) (sym same) response;
    }

    z : Runs r₀ r x n
    z = runs most r₀ x₀ start r x n begins
        (asked r₀.asked (latest ms) start (soon_always c ms r₀ h was timed).asked late) run

    within : (a n u p q : ℕ) → a ≤ n → n ≤ u → u + p < 2 ^ 64 → q ≡ p → a + q < 2 ^ 64
    within a n u p q h k l e = omega arith

    y : Comes most r x n
    y = comes most r x n
        (within r.asked n (served_until r₀ start) c.settings.pause r.settings.pause z.asked
        (recovers_then c ms r₀ h most spoken start r x n was f run) small
        (ap (λ (s : Settings). s.pause) (z.settings ∙ same)))
        z.ready
