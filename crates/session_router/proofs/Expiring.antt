-- A router that has data, whatever version they have: its cache may be one of a lower version that
-- closes without a word. Once the data have expired the router falls.
use Rattle.std.proofs.Common.{◌≡◌, ◌≢◌, ◌⊎◌, ℕ, Bool, true, false, ◌+◌, ◌*◌, ◌<◌, ◌≤◌, min, max}
use Rattle.std.proofs.Common.{List, if◌then◌else◌, refl, sym, ap, ◌∙◌, subst, inl, inr, arith}
use Rattle.session_router.specs.declared.settings.Settings.{Settings}
use Rattle.session_router.specs.declared.router.Router.{Router}
use Rattle.session_router.specs.declared.router.Phase.{Phase}
use Rattle.session_router.specs.declared.router.Phase.TheVariants as phases
use Rattle.session_router.specs.declared.event.Event.{Event}
use Rattle.session_router.specs.declared.event.Event.TheVariants as events
use Rattle.session_router.specs.declared.event.Action.{Action}
use Rattle.session_router.specs.declared.event.Action.TheVariants as actions
use Rattle.session_router.specs.declared.event.Cause.{Cause}
use Rattle.session_router.specs.declared.event.Cause.TheVariants as causes
use Rattle.session_router.specs.declared.event.Ending.{Ending}
use Rattle.session_router.specs.Rules.{ClosesBy, Drops, FallsOver, Rule, SameKnown, opening_version}
use Rattle.session_router.specs.Pace.{due_in, wakes_at}
use Rattle.session_router.specs.After.{once_dropped, once_ended, router_after}
use Rattle.session_router.specs.Step.{IsStep}
use Rattle.session_router.specs.Exchange.{Exchange, exchange_after, exchanged}
use Rattle.session_router.specs.Histories.{Caller, Host, IsHistory, Moment}
use Rattle.session_router.specs.Recovery.{IsBeside, Unshown, connection_time, connections}
use Rattle.session_router.specs.Recovery.{expired_until}
use Rattle.session_router.specs.Recovery.{restarts, served_until, time_needed}
use Rattle.session_router.specs.Recovery.IsBeside.{beside_from, beside_on}
use Rattle.session_router.proofs.Connections.{no_restarts, times}
use Rattle.session_router.proofs.Exchanges.{Matched, matched, matched_on, recovers_from_offline}
use Rattle.session_router.proofs.Exchanges.{spoken_as}
use Rattle.session_router.proofs.Settled.{same_settings}

-- ---- versions

abbrev top : Router → ℕ
top r = max r.version r.settings.highest

to_top : (v v' h : ℕ) → v' ≤ max v h → max v' h ≤ max v h
to_top v v' h l = omega arith

same_top : (v v' h : ℕ) → v' ≡ v → v' ≤ max v h
same_top v v' h e = omega arith

less_top : (v v' h : ℕ) → v' ≤ v → v' ≤ max v h
less_top v v' h l = omega arith

fall_top : (e : Event) (r r' : Router) → FallsOver r e r' → r'.version ≤ top r
fall_top (events.Came u) r r' w = below r'.version r.version r.settings.highest w.lower
  where
    below : (a b h : ℕ) → a < b → a ≤ max b h
    below a b h l = omega arith
fall_top events.Lost r r' w = below r'.version r.version r.settings.highest w.by_one
  where
    below : (a b h : ℕ) → a + 1 ≡ b → a ≤ max b h
    below a b h e = omega arith
fall_top events.Tick r r' w = absurd w
fall_top events.Asked r r' w = absurd w
fall_top events.Connected r r' w = absurd w
fall_top (events.Faulty f) r r' w = absurd w
fall_top events.Applied r r' w = absurd w
fall_top (events.NotApplied code) r r' w = absurd w

end_top : (c : Cause) (n : ℕ) (e : Event) (z : Ending) (r r' : Router) → ClosesBy c r e z r'
    → r' ≡ once_ended c z.drop r n e → r'.version ≤ top r
end_top causes.Lower n e z r r' w b = fall_top e r r' w.over
end_top causes.Higher n e z r r' w b =
    same_top r.version r'.version r.settings.highest (ap (λ (r : Router). r.version) b)
end_top causes.Slow n e z r r' w b =
    same_top r.version r'.version r.settings.highest w.1.version
end_top _ n e z r r' w b = same_top r.version r'.version r.settings.highest w.version

opening_top : (r : Router) → opening_version r ≤ top r
opening_top r = go r.fell
  where
    first : (v h : ℕ) → v ≤ max v h
    first v h = omega arith

    second : (v h : ℕ) → h ≤ max v h
    second v h = omega arith

    go : (b : Bool) → (if b then r.version else r.settings.highest) ≤ top r
    go true = first r.version r.settings.highest
    go false = second r.version r.settings.highest

version_on :
    (n : ℕ) (e : Event) (a : Action) (r r' : Router) → Rule r n e a r' → r' ≡ router_after r n e a
    → r'.version ≤ top r
version_on n e actions.Wait r r' w b =
    same_top r.version r'.version r.settings.highest w.talk.version
version_on n e actions.Drop r r' w b = same_top r.version r'.version r.settings.highest w.version
version_on n e (actions.End z) r r' w b = end_top z.cause n e z r r' w.by b
version_on n e (actions.Ask q) r r' w b = same_top r.version r'.version r.settings.highest w.version
version_on n events.Tick actions.Connect r r' w b =
    subst (λ (v : ℕ). v ≤ top r) (sym w.version) (opening_top r)
version_on n (events.Came u) actions.Begin r r' w b =
    subst (λ (v : ℕ). v ≤ top r) (sym w.version)
    (less_top r.version u.version r.settings.highest w.may.most)
version_on n (events.Came u) actions.Keep r r' w b =
    same_top r.version r'.version r.settings.highest w.talk.version
version_on n (events.Came u) (actions.Apply on) r r' w b =
    same_top r.version r'.version r.settings.highest w.same_version
version_on n (events.Came u) actions.NoData r r' w b =
    same_top r.version r'.version r.settings.highest w.same_version
version_on n events.Applied actions.Show r r' w b =
    same_top r.version r'.version r.settings.highest w.same_version
version_on n _ _ r r' w b = absurd w

-- ---- data stay, or are dropped

record Dropped (r : Router) (n : ℕ) (r' : Router) : Type 0 where
  phase : r'.phase ≡ phases.Offline
  none : r'.has_data ≡ false
  floor : r'.floor ≡ 0
  due : r'.due ≤ n + r.settings.pause

min_below : (d a b : ℕ) → d ≡ min a b → d ≤ b
min_below d a b e = omega arith

equal_le : (a b : ℕ) → a ≡ b → a ≤ b
equal_le a b e = omega arith

dropped_as : (r r' : Router) (n : ℕ) → r' ≡ once_dropped r n → Dropped r n r'
dropped_as r r' n b = record {
  phase = ap (λ (r : Router). r.phase) b;
  none = ap (λ (r : Router). r.has_data) b;
  floor = ap (λ (r : Router). r.floor) b;
  due = equal_le r'.due (n + r.settings.pause) (ap (λ (r : Router). r.due) b);
}

end_drops : (c : Cause) (n : ℕ) (e : Event) (z : Ending) (r r' : Router) → ClosesBy c r e z r'
    → r' ≡ once_ended c z.drop r n e → z.drop ≡ true → Dropped r n r'
end_drops causes.Lower n e z r r' w b d = let f : z.drop ≡ false = w.keeps in cc
end_drops causes.Higher n e z r r' w b d = let f : z.drop ≡ false = w.keeps in cc
end_drops causes.Slow n e z r r' w b d = let f : z.drop ≡ false = w.0 in cc
end_drops c n e z r r' w b d = dropped_as r r' n (b ∙ ap (λ (x : Bool). once_ended c x r n e) d)

end_data : (d : Bool) (n : ℕ) (e : Event) (z : Ending) (r r' : Router) → z.drop ≡ d
    → Drops d r r' → ClosesBy z.cause r e z r' → r' ≡ once_ended z.cause z.drop r n e
    → SameKnown r r' ⊎ Dropped r n r'
end_data true n e z r r' d w by b = inr (end_drops z.cause n e z r r' by b d)
end_data false n e z r r' d w by b = inl w

data_on :
    (n : ℕ) (e : Event) (a : Action) (r r' : Router) → Rule r n e a r' → r' ≡ router_after r n e a
    → a ≢ actions.Show → SameKnown r r' ⊎ Dropped r n r'
data_on n e actions.Wait r r' w b s = inl w.same
data_on n e actions.Drop r r' w b s = inr (record {
  phase = w.phase;
  none = w.lost.has_data;
  floor = ap (λ (r : Router). r.floor) b;
  due = min_below r'.due r.due (n + r.settings.pause) (ap (λ (r : Router). r.due) b);
})
data_on n e (actions.End z) r r' w b s = end_data z.drop n e z r r' refl w.data_then w.by b
data_on n e (actions.Ask q) r r' w b s = inl w.same
data_on n events.Tick actions.Connect r r' w b s = inl w.same
data_on n (events.Came u) actions.Begin r r' w b s = inl w.same
data_on n (events.Came u) actions.Keep r r' w b s = inl w.same
data_on n (events.Came u) (actions.Apply on) r r' w b s = inl w.same
data_on n (events.Came u) actions.NoData r r' w b s = inl w.same
data_on n events.Applied actions.Show r r' w b s = absurd (s refl)
data_on n _ _ r r' w b s = absurd w

-- ---- until the data are dropped, and after that

record Has (r₀ : Router) (start : ℕ) (r : Router) (x : Exchange) (n : ℕ) : Type 0 where
  matched : Matched r x
  settings : r.settings ≡ r₀.settings
  version : r.version ≤ top r₀
  has_data : r.has_data ≡ true
  expires : r.expires ≡ r₀.expires
  now : n ≤ max start r₀.expires

record Lost (most : ℕ) (r₀ : Router) (start : ℕ) (r : Router) (x : Exchange) (n : ℕ) :
    Type 0 where
  r₁ : Router
  x₁ : Exchange
  n₁ : ℕ
  offline : r₁.phase ≡ phases.Offline
  out : x₁.phase ≡ phases.Offline
  floor : r₁.floor ≤ x₁.spoken
  less : served_until r₁ n₁ ≤ expired_until r₀ start
  run : IsBeside Unshown most r₁ x₁ n₁ r x n

now_le : (r : Router) (n n' t e : ℕ) → r.has_data ≡ true → r.expires ≡ e
    → n' ≤ max n (wakes_at r) → n ≤ max t e → n' ≤ max t e
now_le r n n' t e h x l k = go r.has_data (due_in r.phase r) r.expires h x l
  where
    first : (n n' t e d x : ℕ) → x ≡ e → n' ≤ max n (min d x) → n ≤ max t e → n' ≤ max t e
    first n n' t e d x f l k = omega arith

    go : (b : Bool) (d x : ℕ) → b ≡ true → x ≡ e → n' ≤ max n (if b then min d x else d)
        → n' ≤ max t e
    go true d x h f l = first n n' t e d x f l k
    go false d x h f l = cc

lost_less : (r₀ r r' : Router) (start n : ℕ) → r.settings ≡ r₀.settings
    → r'.settings ≡ r.settings → r'.version ≤ top r₀ → n ≤ max start r₀.expires → Dropped r n r'
    → served_until r' n ≤ expired_until r₀ start
lost_less r₀ r r' start n g f v l d =
    subst (λ (p : Phase). max n (due_in p r') + time_needed p r' ≤ expired_until r₀ start)
    (sym d.phase)
    (subst
    (λ (s : Settings). max n r'.due + connections r' * connection_time s ≤ expired_until r₀ start)
    (sym (f ∙ g))
    (bound n r'.due (connections r' * connection_time r₀.settings) start r₀.expires
    r.settings.pause r₀.settings.pause ((top r₀ + 1) * connection_time r₀.settings) l d.due
    (ap (λ (s : Settings). s.pause) g)
    (times (connections r') (top r₀ + 1) (connection_time r₀.settings) fewer)))
  where
    bound : (n d x t e p q y : ℕ) → n ≤ max t e → d ≤ n + p → p ≡ q → x ≤ y
        → max n d + x ≤ max t e + q + y
    bound n d x t e p q y h k m l = omega arith

    sum : (o a b h : ℕ) → o ≤ a → b ≡ 0 * (h + 1) → o + 1 + b ≤ a + 1
    sum o a b h l e = omega arith

    opens : opening_version r' ≤ top r₀
    opens = through (opening_version r') r'.version r'.settings.highest r₀.version
        r₀.settings.highest (opening_top r') v (ap (λ (s : Settings). s.highest) (f ∙ g))
      where
        through : (o v h w k : ℕ) → o ≤ max v h → v ≤ max w k → h ≡ k → o ≤ max w k
        through o v h w k l m e = omega arith

    fewer : connections r' ≤ top r₀ + 1
    fewer = sum (opening_version r') (top r₀) (restarts r' * (r'.settings.highest + 1))
        r'.settings.highest opens
        (ap (λ (x : ℕ). x * (r'.settings.highest + 1)) (no_restarts r' d.none))

has_on :
    (most : ℕ) (r₀ : Router) (start : ℕ) (r : Router) (x : Exchange) (n n' : ℕ) (e : Event)
    (a : Action) (r' : Router) → Has r₀ start r x n → n' ≤ max n (wakes_at r) → IsStep r n' e a r'
    → a ≢ actions.Show
    → Has r₀ start r' (exchange_after r.settings n' e a x) n'
    ⊎ Lost most r₀ start r' (exchange_after r.settings n' e a x) n'
has_on most r₀ start r x n n' e a r' y l w s =
    go (data_on n' e a r r' w.rule w.becomes s)
  where
    same : r'.settings ≡ r.settings
    same = same_settings r r' n' e a w.paces

    soon : n' ≤ max start r₀.expires
    soon = now_le r n n' start r₀.expires y.has_data y.expires l y.now

    version : r'.version ≤ top r₀
    version = through r'.version r.version r.settings.highest r₀.version r₀.settings.highest
        (version_on n' e a r r' w.rule w.becomes) y.version
        (ap (λ (s : Settings). s.highest) y.settings)
      where
        through : (o v h w k : ℕ) → o ≤ max v h → v ≤ max w k → h ≡ k → o ≤ max w k
        through o v h w k l m e = omega arith

    met : Matched r' (exchange_after r.settings n' e a x)
    met = matched_on n' e a r r' x w y.matched

    zero : (f s : ℕ) → f ≡ 0 → f ≤ s
    zero f s e = omega arith

    go : SameKnown r r' ⊎ Dropped r n' r'
        → Has r₀ start r' (exchange_after r.settings n' e a x) n'
        ⊎ Lost most r₀ start r' (exchange_after r.settings n' e a x) n'
    go (inl k) = inl (record {
      matched = met;
      settings = same ∙ y.settings;
      version = version;
      has_data = k.has_data ∙ y.has_data;
      expires = k.expires ∙ y.expires;
      now = soon;
    })
    go (inr d) = inr (record {
      r₁ = r';
      x₁ = exchange_after r.settings n' e a x;
      n₁ = n';
      offline = d.phase;
      out = met.phase ∙ d.phase;
      floor = zero r'.floor (exchange_after r.settings n' e a x).spoken d.floor;
      less = lost_less r₀ r r' start n' y.settings same version soon d;
      run = beside_from;
    })

goes :
    (most : ℕ) (r₀ : Router) (x₀ : Exchange) (start : ℕ) (r : Router) (x : Exchange) (n : ℕ)
    → Matched r₀ x₀ → r₀.has_data ≡ true → IsBeside Unshown most r₀ x₀ start r x n
    → Has r₀ start r x n ⊎ Lost most r₀ start r x n
goes most r₀ x₀ start r x n y h beside_from = inl (record {
  matched = y;
  settings = refl;
  version = first r₀.version r₀.settings.highest;
  has_data = h;
  expires = refl;
  now = first start r₀.expires;
})
  where
    first : (a b : ℕ) → a ≤ max a b
    first a b = omega arith
goes most r₀ x₀ start r x n y h (beside_on r₁ x₁ n₁ n₂ e a r₂ run l t soon w went only) =
    go (goes most r₀ x₀ start r₁ x₁ n₁ y h run)
  where
    go : Has r₀ start r₁ x₁ n₁ ⊎ Lost most r₀ start r₁ x₁ n₁ → Has r₀ start r x n
        ⊎ Lost most r₀ start r x n
    go (inl z) = has_on most r₀ start r₁ x₁ n₁ n₂ e a r₂ z t went only.0
    go (inr z) = inr (record {
      r₁ = z.r₁;
      x₁ = z.x₁;
      n₁ = z.n₁;
      offline = z.offline;
      out = z.out;
      floor = z.floor;
      less = z.less;
      run = beside_on r₁ x₁ n₁ n₂ e a r₂ z.run l t soon w went only;
    })

pub recovers_with_data :
    {B D : Type 0} (c : Caller B D) (ms : List (Moment B)) (r₀ : Router) (h : Host B D)
    (most spoken start : ℕ) (r : Router) (x : Exchange) (n : ℕ)
    → IsHistory c ms r₀ h → r₀.has_data ≡ true
    → IsBeside Unshown most r₀ (record (exchanged c.settings ms) { spoken = spoken }) start r x n
    → n ≤ expired_until r₀ start
recovers_with_data c ms r₀ h most spoken start r x n was has run =
    go (goes most r₀ (record (exchanged c.settings ms) { spoken = spoken }) start r x n
    (spoken_as r₀ (exchanged c.settings ms) spoken (matched c ms r₀ h was)) has run)
  where
    within : (n m p q : ℕ) → n ≤ m → n ≤ m + p + q
    within n m p q h = omega arith

    through : (a b c : ℕ) → a ≤ b → b ≤ c → a ≤ c
    through a b c h k = omega arith

    go : Has r₀ start r x n ⊎ Lost most r₀ start r x n → n ≤ expired_until r₀ start
    go (inl y) = within n (max start r₀.expires) r₀.settings.pause
        ((top r₀ + 1) * connection_time r₀.settings) y.now
    go (inr y) = through n (served_until y.r₁ y.n₁) (expired_until r₀ start)
        (recovers_from_offline most y.r₁ y.x₁ y.n₁ r x n y.offline y.out y.floor y.run) y.less
