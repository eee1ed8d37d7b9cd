-- How long it takes until a router that waits has new data.
use Rattle.std.proofs.Common.{◌≡◌, ◌≢◌, ◌⊎◌, ℕ, Bool, true, false, not, ◌≤◌, ◌+◌, ◌-◌, ◌^◌, ◌&&◌}
use Rattle.std.proofs.Common.{◌||◌}
use Rattle.std.proofs.Common.{◌==◌, if◌then◌else◌, min, max, refl, sym, ◌∙◌, subst, inl, inr, arith}
use Rattle.std.proofs.lemmas.Bool.Decides.{nat_tests}
use Rattle.session_router.specs.declared.head.Head.{Head}
use Rattle.session_router.specs.declared.router.Router.{Router}
use Rattle.session_router.specs.declared.router.Phase.TheVariants as phases
use Rattle.session_router.specs.declared.event.Action.{Action}
use Rattle.session_router.specs.declared.event.Action.TheVariants as actions
use Rattle.session_router.specs.declared.event.Event.TheVariants as events
use Rattle.session_router.specs.Heeding.{HeedsWaiting}
use Rattle.session_router.specs.Pace.{Paces, due_in}
use Rattle.session_router.specs.Recovery.{served_until, time_needed}
use Rattle.session_router.specs.Rules.{Fresh, Rule}
use Rattle.session_router.specs.Step.{IsInTime, IsStep}
use Rattle.session_cache.specs.declared.cache.Cache.{Cache}
use Rattle.session_cache.specs.declared.event.Present.{Present}
use Rattle.session_cache.specs.CacheSteps.{cache_wakes_at}
use Rattle.session_cache.specs.Calm.{IsAtRest, IsCalm, IsNotified, IsToldOfNews}
use Rattle.session_cache.specs.Serving.{HasNews}
use Rattle.session_cache.specs.Worlds.{IsLived, IsOneDataPerName, IsSource, Source, World}
use Rattle.session_cache.proofs.Calm.{soon}

-- ---- the router hears the notify

notice : (n d p t asked : ℕ) → d ≡ min p n
    → max n (max d (min asked (2 ^ 64 - 1))) + t ≤ max n asked + t
notice n d p t asked e = omega (arith, e)

pub notified : (r : Router) (p : Present) (u : Head) (n : ℕ) (a : Action) (r' : Router)
    → IsNotified r p u → Fresh r n → IsInTime r n → IsStep r n (events.Came u) a r'
    → served_until r' n ≤ max n (r'.asked + r'.settings.pause) + time_needed phases.Waiting r'
notified r p u n a r' is fresh timely step =
    let h : HeedsWaiting r n u a r' = (step.heeds fresh timely).waiting is.waiting in
    let rule : Rule r n (events.Came u) actions.Wait r' =
    subst (λ (a : Action). Rule r n (events.Came u) a r') (h.notified is.news) step.rule in
    let phase : r'.phase ≡ phases.Waiting = rule.talk.phase ∙ is.waiting in
    subst
    (λ f. max n (due_in f r') + time_needed f r'
    ≤ max n (r'.asked + r'.settings.pause) + time_needed phases.Waiting r') (sym phase)
    (notice n r'.due r.due (time_needed phases.Waiting r') (r'.asked + r'.settings.pause)
    (h.asks is.news (other is.other)))
  where
    other : (r.has_data ≡ false) ⊎ (p.serial ≢ r.known.serial)
        → (r.has_data ≡ false) ⊎ (u.serial ≢ r.known.serial)
    other (inl e) = inl e
    other (inr differs) = inr (λ e. differs (sym is.present ∙ e))

-- the pace of a router that hears a notify stays
same_pace : (r : Router) (p : Present) (u : Head) (n : ℕ) (a : Action) (r' : Router)
    → IsNotified r p u → Fresh r n → IsInTime r n → IsStep r n (events.Came u) a r'
    → (r'.asked + r'.settings.pause ≡ r.asked + r.settings.pause)
same_pace r p u n a r' is fresh timely step =
    let h : HeedsWaiting r n u a r' = (step.heeds fresh timely).waiting is.waiting in
    let paces : Paces r n (events.Came u) actions.Wait r' =
    subst (λ (a : Action). Paces r n (events.Came u) a r') (h.notified is.news) step.paces in
    λ i. paces.same.asked i + (paces.same.settings i).pause

-- ---- the cache sends it

wakes : (live has asked told reset : Bool) (s s' n n' due from : ℕ) → live ≡ true → has ≡ true
    → asked ≡ true → (told || reset ≡ true → s ≡ s')
    → (told || reset ≡ true → n ≢ n')
    → (if not live then 2 ^ 64 - 1
    else if has && (told && not (s == s')) then 0
    else if asked && (has && not ((told || reset) && (not (s == s') || (n == n')))) then min due
    from
    else due) ≤ from
wakes true true true false false s s' n n' due from l h a t d = omega arith
wakes true true true false true s s' n n' due from l h a t d =
    let same = t refl in
    let other = d refl in
    grind (arith, nat_tests)
wakes true true true true reset s s' n n' due from l h a t d =
    let same = t refl in
    let other = d refl in
    grind (arith, nat_tests)
wakes false has asked told reset s s' n n' due from l h a t d = absurd cc
wakes true false asked told reset s s' n n' due from l h a t d = absurd cc
wakes true true false told reset s s' n n' due from l h a t d = absurd cc

news_wake : (c : Cache) (p : Present) → c.live ≡ true → HasNews c p
    → cache_wakes_at c p ≤ c.notify_from
news_wake c p live x =
    wakes c.live p.has c.asked c.told c.reset c.session p.session c.serial p.serial c.due
    c.notify_from live
    x.has x.asked x.session x.serial

-- ---- both

sum : (n start d sent heard wake from pace asked t : ℕ) → wake ≤ from → sent ≤ max start wake
    → heard ≤ sent + d → asked ≡ pace → n ≤ max heard asked + t
    → n ≤ max (max start from + d) pace + t
sum n start d sent heard wake from pace asked t w s h e l = omega (arith, w, s, h, e, l)

through : (a b c : ℕ) → a ≤ b → b ≤ c → a ≤ c
through a b c h k = omega (arith, h, k)

pub news : (D C : Type 0) (S : Source D C) (before : World D C) → IsSource D C S before.had
    → IsOneDataPerName before.had → (start d heard : ℕ) (c : Cache) (r : Router) → IsLived D C S
    before
    → IsAtRest D C before → IsToldOfNews D C start d c r heard before → (w : World D C) (n : ℕ)
    → IsCalm D C S before heard w n
    → n ≤ max (max start c.notify_from + d) (r.asked + r.settings.pause)
    + time_needed phases.Waiting before.router
news D C S before I one start d heard c r old rest x w n run =
    let after : Router = before.router in
    let t : ℕ = time_needed phases.Waiting after in
    let asked : ℕ = after.asked + after.settings.pause in
    sum n start d x.sent heard (cache_wakes_at c before.present.name) c.notify_from
    (r.asked + r.settings.pause) asked t (news_wake c before.present.name x.live x.news) x.awake
    x.delay
    (same_pace r before.present.name x.notify heard x.action after x.is_notify x.fresh x.in_time
    x.step)
    (through n (served_until after heard) (max heard asked + t)
    (soon D C S before I one heard old rest w n run)
    (notified r before.present.name x.notify heard x.action after x.is_notify x.fresh x.in_time
    x.step))
