-- Beside a cache that keeps the rules the data that are shown are of the highest version that both
-- have; and a router that fell in silence tries its highest version again.
use Rattle.std.proofs.Common.{◌≡◌, ◌≢◌, ◌⊎◌, ℕ, Bool, true, false, ◌+◌, ◌*◌, ◌<◌, ◌≤◌, min, max}
use Rattle.std.proofs.Common.{List, None, if◌then◌else◌, refl, sym, ap, ◌∙◌, subst, inl, inr}
use Rattle.std.proofs.Common.{arith, ◌-◌, ◌&&◌, nat_le}
use Rattle.std.proofs.lemmas.Bool.Decides.{nat_tests}
use Rattle.session_router.specs.declared.head.Head.{Head}
use Rattle.session_router.specs.declared.head.Kind.TheVariants as kinds
use Rattle.session_router.specs.declared.head.Known.{Known}
use Rattle.session_router.specs.declared.settings.Settings.{Settings}
use Rattle.session_router.specs.declared.router.Router.{Router}
use Rattle.session_router.specs.declared.router.Phase.{Phase}
use Rattle.session_router.specs.declared.router.Phase.TheVariants as phases
use Rattle.session_router.specs.declared.event.Event.{Event}
use Rattle.session_router.specs.declared.event.Event.TheVariants as events
use Rattle.session_router.specs.declared.event.Action.{Action}
use Rattle.session_router.specs.declared.event.Action.TheVariants as actions
use Rattle.session_router.specs.declared.event.Cause.{Cause}
use Rattle.session_router.specs.declared.event.Cause.TheVariants as causes
use Rattle.session_router.specs.declared.event.Ending.{Ending}
use Rattle.session_router.specs.Rules.{ClosesBy, Falls, FallsAt, FallsInSilence, Fresh, MayAsk}
use Rattle.session_router.specs.Rules.{Rule}
use Rattle.session_router.specs.Rules.{SameKnown, awaits_changes, opening_version}
use Rattle.session_router.specs.Heeding.{StandsStill, ends_for, ends_with}
use Rattle.session_router.specs.Heeding.StandsStill.{agreed_on, lowest, other_code}
use Rattle.session_router.specs.Pace.{IsLimited, Paces, PacesEnd, grows, is_first_rise, next_rise}
use Rattle.session_router.specs.Times.{received, refresh_ms}
use Rattle.session_router.specs.After.{once_asked_at, once_ended, once_failed, once_fallen}
use Rattle.session_router.specs.After.{once_noted}
use Rattle.session_router.specs.After.{once_rested, once_resyncing, once_risen, once_waited}
use Rattle.session_router.specs.After.{router_after}
use Rattle.session_router.specs.Step.{IsInTime, IsStep}
use Rattle.session_router.specs.Histories.{Caller, Host, IsHistory, Moment}
use Rattle.session_router.specs.Histories.IsHistory.{run_begins, run_goes_on}
use Rattle.session_router.specs.Asking.{IsTimed, latest, longest}
use Rattle.session_router.proofs.Served.{AnswersWell, AnyRouter, IsBeside, IsServedBy}
use Rattle.session_router.proofs.Served.AnswersWell.{answers_anew, answers_lower, closes_session}
use Rattle.session_router.proofs.Served.AnswersWell.{closes_silently, notifies, refuses_session}
use Rattle.session_router.proofs.Served.AnswersWell.{refuses_version, resets_well, responds}
use Rattle.session_router.proofs.Served.IsBeside.{beside_from, beside_on}
use Rattle.session_router.proofs.Serving.{fresh_or_not}
use Rattle.session_router.proofs.Allowed.{allowed}
use Rattle.session_router.proofs.Settled.{same_settings, settled}
use Rattle.session_router.proofs.Soon.{refresh_le}
use Rattle.session_router.proofs.Versions.{Floors, floor_step, floors, stands_online}

-- ---- what holds while such a cache serves it, where m is the highest version that both have

record Awaits (m : ℕ) (r : Router) : Type 0 where
  fell : r.fell ≡ false
  above : m ≤ r.version
  has_data : r.changes ≡ true → r.has_data ≡ true
  own : r.changes ≡ true → r.known.version ≡ r.version

record Stands (m : ℕ) (r : Router) : Type 0 where
  fell : r.fell ≡ false
  above : m ≤ r.version

record Makes (m : ℕ) (r : Router) : Type 0 where
  fell : r.fell ≡ false
  above : m ≤ r.version
  answer : m ≤ r.answer.version

abbrev At : Phase → ℕ → Router → Type 0
At phases.Offline m r = r.fell ≡ true → m ≤ r.version
At phases.Connecting m r = Stands m r
At phases.Asked m r = Awaits m r
At phases.Reading m r = Stands m r
At phases.Applying m r = Makes m r
At phases.Waiting m r = Stands m r

to_phase : (p : Phase) (m : ℕ) (r : Router) → r.phase ≡ p → At p m r → At r.phase m r
to_phase p m r e y = subst (λ (p : Phase). At p m r) (sym e) y

at_phase : (p : Phase) (m : ℕ) (r : Router) → r.phase ≡ p → At r.phase m r → At p m r
at_phase p m r e y = subst (λ (p : Phase). At p m r) e y

le_by : (m v v' : ℕ) → v' ≡ v → m ≤ v → m ≤ v'
le_by m v v' e h = omega arith

stands_by : (m : ℕ) (r r' : Router) → r'.fell ≡ r.fell → r'.version ≡ r.version → Stands m r
    → Stands m r'
stands_by m r r' f v y =
    record { fell = f ∙ y.fell; above = le_by m r.version r'.version v y.above }

-- where nothing is done
still : (p : Phase) (m : ℕ) (r r' : Router) → SameKnown r r' → r'.fell ≡ r.fell
    → r'.version ≡ r.version → r'.changes ≡ r.changes → r'.answer ≡ r.answer → At p m r
    → At p m r'
still phases.Offline m r r' k f v c a y =
    λ e. le_by m r.version r'.version v (y (sym f ∙ e))
still phases.Connecting m r r' k f v c a y = stands_by m r r' f v y
still phases.Reading m r r' k f v c a y = stands_by m r r' f v y
still phases.Waiting m r r' k f v c a y = stands_by m r r' f v y
still phases.Asked m r r' k f v c a y = record {
  fell = f ∙ y.fell;
  above = le_by m r.version r'.version v y.above;
  has_data = λ e. k.has_data ∙ y.has_data (sym c ∙ e);
  own = λ e. ap (λ (x : Known). x.version) k.known ∙ y.own (sym c ∙ e) ∙ sym v;
}
still phases.Applying m r r' k f v c a y = record {
  fell = f ∙ y.fell;
  above = le_by m r.version r'.version v y.above;
  answer = le_by m r.answer.version r'.answer.version (ap (λ (x : Known). x.version) a) y.answer;
}

-- a router that has a connection, or makes one, hasn't fallen
not_fallen : (p : Phase) (m : ℕ) (r : Router) → p ≢ phases.Offline → At p m r → r.fell ≡ false
not_fallen phases.Offline m r x y = absurd (x refl)
not_fallen phases.Connecting m r x y = y.fell
not_fallen phases.Asked m r x y = y.fell
not_fallen phases.Reading m r x y = y.fell
not_fallen phases.Applying m r x y = y.fell
not_fallen phases.Waiting m r x y = y.fell

-- ---- the version of an answer, and to which a router falls

begins_above :
    (most m : ℕ) (r : Router) (u : Head) → AnswersWell AnyRouter most r (events.Came u)
    → u.kind ≡ kinds.CacheResponse → m ≤ r.version → m ≤ most → m ≤ u.version
begins_above most m r u (notifies t k v) kind h l = absurd cc
begins_above most m r u (responds t k v x) kind h l = le_by m r.version u.version v h
begins_above most m r u (resets_well t k v c) kind h l = absurd cc
begins_above most m r u (answers_anew t k v c x) kind h l = le_by m r.version u.version v h
begins_above most m r u (refuses_session t k c x y) kind h l = absurd cc
begins_above most m r u (refuses_version t x g k c) kind h l = absurd cc
begins_above most m r u (answers_lower t v x g k) kind h l = le_by m most u.version v l

-- a fall that a word brings
falls_by_word :
    (most m : ℕ) (r r' : Router) (u : Head) → AnswersWell AnyRouter most r (events.Came u)
    → (u.kind ≡ kinds.SerialNotify → ⊥) → r.agreed ≡ false → FallsAt r u r' → m ≤ r.version
    → m ≤ most → m ≤ r'.version
falls_by_word most m r r' u x quiet g w h l = go x
  where
    same : u.kind ≢ kinds.ErrorReport → u.version ≡ r.version → ⊥
    same k v = contrary u.version r.version r'.version v (w.to k) w.lower
      where
        contrary : (u r r' : ℕ) → u ≡ r → r' ≡ u → r' < r → ⊥
        contrary u r r' e f h = omega arith

    to_most : (v : ℕ) → r'.version ≡ v → v ≡ most → m ≤ r'.version
    to_most v e f = reached m most v r'.version l e f
      where
        reached : (m most v a : ℕ) → m ≤ most → a ≡ v → v ≡ most → m ≤ a
        reached m most v a h e f = omega arith

    by_one : most < r.version → r'.version + 1 ≡ r.version → m ≤ r'.version
    by_one x e = reached m most r.version r'.version l x e
      where
        reached : (m most v a : ℕ) → m ≤ most → most < v → a + 1 ≡ v → m ≤ a
        reached m most v a h k e = omega arith

    stays : u.kind ≡ kinds.ErrorReport → StandsStill r u → ⊥
    stays k (agreed_on a) = cc
    stays k (lowest z) = none r.version r'.version z (w.by_one k)
      where
        none : (v a : ℕ) → v ≡ 0 → a + 1 ≡ v → ⊥
        none v a e f = omega arith
    stays k (other_code z n) = go (w.report k)
      where
        go : (u.code.0 ≡ 4) ⊎ (u.version < r.version) → ⊥
        go (inl c) = z c
        go (inr c) = contrary u.version r.version c n
          where
            contrary : (a b : ℕ) → a < b → b ≤ a → ⊥
            contrary a b h k = omega arith

    go : AnswersWell AnyRouter most r (events.Came u) → m ≤ r'.version
    go (notifies u k v) = absurd (quiet k)
    go (responds u k v y) = absurd (same (λ e. cc) v)
    go (resets_well u k v c) = absurd (same (λ e. cc) v)
    go (answers_anew u k v c y) = absurd (same (λ e. cc) v)
    go (refuses_session u k c y z) = absurd (stays k z)
    go (refuses_version u y z k c) = by_one y (w.by_one k)
    go (answers_lower u v y z k) = to_most u.version (w.to (no_report k)) v
      where
        no_report :
            (u.kind ≡ kinds.CacheResponse) ⊎ ((u.kind ≡ kinds.CacheReset) × (r.changes ≡ true))
            → u.kind ≢ kinds.ErrorReport
        no_report (inl k) e = cc
        no_report (inr k) e = let f : u.kind ≡ kinds.CacheReset = k.0 in cc

-- a fall in silence
falls_silently :
    (most m : ℕ) (r r' : Router) → AnswersWell AnyRouter most r events.Lost → FallsInSilence r r'
    → Floors r → Awaits m r → m ≤ most → m ≤ r'.version
falls_silently most m r r' (closes_session c) w f y l =
    absurd (contrary r.known.version r.floor r'.version r.version (f (y.has_data c)) w.not_below
    w.by_one (y.own c))
  where
    contrary : (k f a v : ℕ) → k ≤ f → f ≤ a → a + 1 ≡ v → k ≡ v → ⊥
    contrary k f a v h g e i = omega arith
falls_silently most m r r' (closes_silently x g z) w f y l =
    reached m most r.version r'.version l x w.by_one
  where
    reached : (m most v a : ℕ) → m ≤ most → most < v → a + 1 ≡ v → m ≤ a
    reached m most v a h k e = omega arith

-- a notify makes no fall
abbrev cause_of : Action → Cause
cause_of (actions.End x) = x.cause
cause_of _ = causes.Expired

no_fall :
    (r r' : Router) (n : ℕ) (u : Head) (x : Ending) → IsStep r n (events.Came u) (actions.End x) r'
    → IsInTime r n → r.phase ≡ phases.Asked → r.agreed ≡ false → x.cause ≡ causes.Lower
    → u.kind ≡ kinds.SerialNotify → ⊥
no_fall r r' n u x w soon q g c k = go (fresh_or_not r n)
  where
    waits : actions.End x ≡ actions.Wait → ⊥
    waits e = let f : x.cause ≡ causes.Expired = ap cause_of e in cc

    expires : actions.End x ≡ ends_with true None causes.Expired → ⊥
    expires e = let f : x.cause ≡ causes.Expired = ap cause_of e in cc

    online : r.phase ≢ phases.Offline
    online e = cc

    go : Fresh r n ⊎ ((r.has_data ≡ true) × (r.expires ≤ n)) → ⊥
    go (inl fresh) = waits (((w.heeds fresh soon).asked q).ignores k g)
    go (inr late) = expires ((w.expires late.0 late.1).online online)

falls_above :
    (e : Event) (most m : ℕ) (r r' : Router) (n : ℕ) (x : Ending) → AnswersWell AnyRouter most r e
    → IsStep r n e (actions.End x) r' → IsInTime r n → x.cause ≡ causes.Lower → Falls r e x r'
    → Floors r → Awaits m r → m ≤ most → m ≤ r'.version
falls_above (events.Came u) most m r r' n x s w soon c f g y l =
    falls_by_word most m r r' u s (no_fall r r' n u x w soon f.from f.agreed c) f.agreed f.over
    y.above l
falls_above events.Lost most m r r' n x s w soon c f g y l =
    falls_silently most m r r' s f.over g y l
falls_above events.Tick most m r r' n x s w soon c f g y l = absurd f.over
falls_above events.Asked most m r r' n x s w soon c f g y l = absurd f.over
falls_above events.Connected most m r r' n x s w soon c f g y l = absurd f.over
falls_above (events.Faulty z) most m r r' n x s w soon c f g y l = absurd f.over
falls_above events.Applied most m r r' n x s w soon c f g y l = absurd f.over
falls_above (events.NotApplied code) most m r r' n x s w soon c f g y l = absurd f.over

-- ---- each action

end_above :
    (c : Cause) (e : Event) (most m : ℕ) (r r' : Router) (n : ℕ) (x : Ending) → x.cause ≡ c
    → IsServedBy AnyRouter most r.phase r e → IsStep r n e (actions.End x) r' → IsInTime r n
    → ClosesBy c r e x r' → PacesEnd c r n x r' → r.phase ≢ phases.Offline → Floors r
    → At r.phase m r → m ≤ most → r'.fell ≡ true → m ≤ r'.version
end_above causes.Lower e most m r r' n x q s w soon by d online f y l z =
    falls_above e most m r r' n x
    (subst (λ (p : Phase). IsServedBy AnyRouter most p r e) by.from s) w soon q by f
    (at_phase phases.Asked m r by.from y) l
end_above _ e most m r r' n x q s w soon by d online f y l z =
    let g : r'.fell ≡ false = d.fell ∙ not_fallen r.phase m r online y in absurd cc

ask_stands : (e : Event) (m : ℕ) (r r' : Router) (n : ℕ) → MayAsk r n e r' → At r.phase m r
    → Stands m r
ask_stands (events.Came u) m r r' n w y =
    let z : Awaits m r = at_phase phases.Asked m r w.0 y in
    record { fell = z.fell; above = z.above }
ask_stands events.Connected m r r' n w y = at_phase phases.Connecting m r w.0 y
ask_stands events.Tick m r r' n w y = at_phase phases.Waiting m r w.0 y
ask_stands events.Asked m r r' n w y = absurd w
ask_stands events.Lost m r r' n w y = absurd w
ask_stands (events.Faulty f) m r r' n w y = absurd w
ask_stands events.Applied m r r' n w y = absurd w
ask_stands (events.NotApplied code) m r r' n w y = absurd w

connects_above : (b : Bool) (m : ℕ) (r r' : Router) → r.fell ≡ b → m ≤ r.settings.highest
    → r'.version ≡ (if r.fell then r.version else r.settings.highest)
    → (r.fell ≡ true → m ≤ r.version) → m ≤ r'.version
connects_above true m r r' f h v y =
    le_by m r.version r'.version
    (v ∙ ap (λ (b : Bool). if b then r.version else r.settings.highest) f) (y f)
connects_above false m r r' f h v y =
    le_by m r.settings.highest r'.version
    (v ∙ ap (λ (b : Bool). if b then r.version else r.settings.highest) f) h

step :
    (most m : ℕ) (n : ℕ) (e : Event) (a : Action) (r r' : Router) → m ≤ r.settings.highest
    → m ≤ most → IsServedBy AnyRouter most r.phase r e → IsInTime r n → IsStep r n e a r'
    → Rule r n e a r' → Paces r n e a r' → Floors r → At r.phase m r → At r'.phase m r'
step most m n e actions.Wait r r' h l s soon z w d f y =
    to_phase r.phase m r' w.talk.phase
    (still r.phase m r r' w.same d.same.fell w.talk.version w.talk.changes w.talk.answer y)
step most m n e actions.Drop r r' h l s soon z w d f y =
    to_phase phases.Offline m r' w.phase
    (λ g. le_by m r.version r'.version w.version
    (at_phase phases.Offline m r w.from y (sym d.fell ∙ g)))
step most m n e (actions.End x) r r' h l s soon z w d f y =
    to_phase phases.Offline m r' w.phase
    (end_above x.cause e most m r r' n x refl s z soon w.by d w.from f y l)
step most m n e (actions.Ask q) r r' h l s soon z w d f y =
    let t : Stands m r = ask_stands e m r r' n w.may y in
    to_phase phases.Asked m r' w.phase (record {
      fell = d.fell ∙ t.fell;
      above = le_by m r.version r'.version w.version t.above;
      has_data = λ c. (w.own c).has_data;
      own = λ c. (w.own c).version;
    })
step most m n events.Tick actions.Connect r r' h l s soon z w d f y =
    to_phase phases.Connecting m r' w.phase (record {
      fell = d.fell;
      above = connects_above r.fell m r r' refl h w.version
          (at_phase phases.Offline m r w.from y);
    })
step most m n (events.Came u) actions.Begin r r' h l s soon z w d f y =
    let t : Awaits m r = at_phase phases.Asked m r w.from y in
    to_phase phases.Reading m r' w.phase (record {
      fell = d.same.fell ∙ t.fell;
      above = le_by m u.version r'.version w.version
          (begins_above most m r u
          (subst (λ (p : Phase). IsServedBy AnyRouter most p r (events.Came u)) w.from s) w.kind
          t.above l);
    })
step most m n (events.Came u) actions.Keep r r' h l s soon z w d f y =
    to_phase r.phase m r' w.talk.phase
    (still r.phase m r r' w.same d.same.fell w.talk.version w.talk.changes w.talk.answer y)
step most m n (events.Came u) (actions.Apply c) r r' h l s soon z w d f y =
    let t : Stands m r = at_phase phases.Reading m r w.from y in
    to_phase phases.Applying m r' w.phase (record {
      fell = d.same.fell ∙ t.fell;
      above = le_by m r.version r'.version w.same_version t.above;
      answer = le_by m r.version r'.answer.version
          (ap (λ (x : Known). x.version) w.answer ∙ w.version) t.above;
    })
step most m n (events.Came u) actions.NoData r r' h l s soon z w d f y =
    to_phase phases.Waiting m r' w.phase (record {
      fell = d.same.fell ∙ not_fallen r.phase m r online y;
      above = le_by m r.version r'.version w.same_version (go w.from);
    })
  where
    online : r.phase ≢ phases.Offline
    online e = absurd (go w.from)
      where
        go : (r.phase ≡ phases.Asked) ⊎ (r.phase ≡ phases.Reading) → ⊥
        go (inl p) = cc
        go (inr p) = cc

    go : (r.phase ≡ phases.Asked) ⊎ (r.phase ≡ phases.Reading) → m ≤ r.version
    go (inl p) = (at_phase phases.Asked m r p y).above
    go (inr p) = (at_phase phases.Reading m r p y).above
step most m n events.Applied actions.Show r r' h l s soon z w d f y =
    let t : Makes m r = at_phase phases.Applying m r w.from y in
    to_phase phases.Waiting m r' w.phase (record {
      fell = d.fell ∙ t.fell;
      above = le_by m r.version r'.version w.same_version t.above;
    })
step most m n _ _ r r' h l s soon z w d f y = absurd w

record Lasts (s : Settings) (m : ℕ) (r : Router) : Type 0 where
  settings : r.settings ≡ s
  floors : Floors r
  at : At r.phase m r

lasts :
    (most m : ℕ) (r₀ : Router) (start : ℕ) (r : Router) (n : ℕ) → m ≤ r₀.settings.highest
    → m ≤ most → Floors r₀ → At r₀.phase m r₀ → IsBeside most r₀ start r n
    → Lasts r₀.settings m r
lasts most m r₀ start r n h l f y beside_from = record { settings = refl; floors = f; at = y }
lasts most m r₀ start r n h l f y (beside_on r₁ n₁ n₂ e a r₂ run k t soon s w) =
    let x : Lasts r₀.settings m r₁ = lasts most m r₀ start r₁ n₁ h l f y run in
    record {
      settings = same_settings r₁ r₂ n₂ e a w.paces ∙ x.settings;
      floors = floor_step e a r₁ r₂ n₂ w.rule x.floors;
      at = step most m n₂ e a r₁ r₂ (subst (λ (z : Settings). m ≤ z.highest) (sym x.settings) h) l s
          soon w w.rule w.paces x.floors x.at;
    }

pub highest_of_both :
    {B D : Type 0} (c : Caller B D) (ms : List (Moment B)) (r₀ : Router) (h : Host B D)
    (most start : ℕ) (r : Router) (n n' : ℕ) (r' : Router)
    → IsHistory c ms r₀ h → r₀.phase ≡ phases.Offline → r₀.fell ≡ false
    → IsBeside most r₀ start r n → IsStep r n' events.Applied actions.Show r'
    → min c.settings.highest most ≤ r'.known.version
highest_of_both c ms r₀ h most start r n n' r' was off fell run w =
    le_by m r.answer.version r'.known.version (ap (λ (x : Known). x.version) w.rule.known)
    (at_phase phases.Applying m r w.rule.from x.at).answer
  where
    m : ℕ
    m = min c.settings.highest most

    first : (a b : ℕ) → min a b ≤ a
    first a b = omega arith

    second : (a b : ℕ) → min a b ≤ b
    second a b = omega arith

    x : Lasts r₀.settings m r
    x = lasts most m r₀ start r n
        (subst (λ (s : Settings). min c.settings.highest most ≤ s.highest)
        (sym (settled c ms r₀ h was)) (first c.settings.highest most))
        (second c.settings.highest most)
        (floors c ms r₀ h (allowed c ms r₀ h was))
        (to_phase phases.Offline m r₀ off (λ e. absurd cc))
        run

-- ---- when a router tries its highest version again

next_rise_le : (r : Router) → next_rise r ≤ longest r.settings
next_rise_le r = within r.settings.pause r.settings.connect_limit r.settings.response_limit
    r.settings.refresh r.settings.retry r.settings.expire (refresh_ms r.settings r.known)
    (2 * r.rise_wait) (refresh_le r.settings r.known)
  where
    within : (p c a f t e x y : ℕ) → x ≤ f + e + 86400000
        → max x (min y 86400000) ≤ p + c + a + f + t + e + 86400000
    within p c a f t e x y h = omega arith

abbrev Rises : Router → ℕ → Router → Type 0
Rises r n r' = (r'.rises ≡ r.rises) ⊎ (r'.rises ≤ n + longest r.settings)

silently : (b : Bool) (r : Router) (n : ℕ)
    → ((if b then r.rises else n + next_rise r) ≡ r.rises)
    ⊎ ((if b then r.rises else n + next_rise r) ≤ n + longest r.settings)
silently true r n = inl refl
silently false r n = inr (more n (next_rise r) (longest r.settings) (next_rise_le r))
  where
    more : (n x l : ℕ) → x ≤ l → n + x ≤ n + l
    more n x l h = omega arith

fallen_rises : (e : Event) (r : Router) (n : ℕ) → Rises r n (once_fallen r n e)
fallen_rises (events.Came u) r n = inl refl
fallen_rises _ r n = silently r.silent r n

failed_rises : (d b : Bool) (r : Router) (n : ℕ) → awaits_changes r ≡ b
    → Rises r n (once_failed d r n)
failed_rises true b r n e = inl refl
failed_rises false true r n e =
    inl (ap (λ (b : Bool). (if b then once_resyncing r n else once_rested (grows r) r n).rises) e)
failed_rises false false r n e =
    inl (ap (λ (b : Bool). (if b then once_resyncing r n else once_rested (grows r) r n).rises) e)

ended_rises : (c : Cause) (d : Bool) (e : Event) (r : Router) (n : ℕ)
    → Rises r n (once_ended c d r n e)
ended_rises causes.Lower d e r n = fallen_rises e r n
ended_rises causes.Higher d e r n = inl refl
ended_rises causes.Slow d e r n = inl refl
ended_rises _ d e r n = failed_rises d (awaits_changes r) r n refl

noted_rises : (b : Bool) (r : Router) (u : Head)
    → (if b then once_noted r u else r).rises ≡ r.rises
noted_rises true r u = refl
noted_rises false r u = refl

waited_rises : (p : Phase) (e : Event) (r : Router) (n : ℕ) → (once_waited p r n e).rises ≡ r.rises
waited_rises phases.Asked (events.Came u) r n = noted_rises r.agreed r u
waited_rises phases.Reading (events.Came u) r n = refl
waited_rises _ _ r n = refl

asked_rises : (e : Event) (r : Router) (n : ℕ) → (once_asked_at r n e).rises ≡ r.rises
asked_rises (events.Came u) r n = refl
asked_rises events.Connected r n = refl
asked_rises _ r n = refl

shown_rises : (b : Bool) (r : Router) (n : ℕ)
    → ((if b then min r.rises (received r n + refresh_ms r.settings r.answer) else r.rises)
    ≡ r.rises)
    ⊎ ((if b then min r.rises (received r n + refresh_ms r.settings r.answer) else r.rises)
    ≤ n + longest r.settings)
shown_rises false r n = inl refl
shown_rises true r n = inr (within r.rises r.came n (refresh_ms r.settings r.answer)
    r.settings.pause r.settings.connect_limit r.settings.response_limit r.settings.refresh
    r.settings.retry r.settings.expire (refresh_le r.settings r.answer))
  where
    within : (d m n x p c a f t e : ℕ) → x ≤ f + e + 86400000
        → min d (min m n + x) ≤ n + (p + c + a + f + t + e + 86400000)
    within d m n x p c a f t e h = omega arith

rises_after : (e : Event) (a : Action) (r : Router) (n : ℕ) → Rises r n (router_after r n e a)
rises_after e actions.Wait r n = inl (waited_rises r.phase e r n)
rises_after e (actions.Ask q) r n = inl (asked_rises e r n)
rises_after e (actions.End x) r n = ended_rises x.cause x.drop e r n
rises_after e actions.Show r n = shown_rises (is_first_rise r) r n
rises_after (events.Came u) actions.Begin r n = inl refl
rises_after (events.Came u) actions.Keep r n = inl refl
rises_after (events.Came u) (actions.Apply on) r n = inl refl
rises_after _ _ r n = inl refl

pub rises_soon :
    {B D : Type 0} (c : Caller B D) (ms : List (Moment B)) (r : Router) (h : Host B D)
    → IsHistory c ms r h → IsTimed ms → r.rises ≤ latest ms + longest c.settings
rises_soon c ms r h (run_begins r₀ new) timed = zero r₀.rises (longest c.settings) new.rises
  where
    zero : (d l : ℕ) → d ≡ 0 → d ≤ 0 + l
    zero d l e = omega arith
rises_soon c ms r h (run_goes_on n b e a r' ms₀ r₀ h₀ run said went) timed =
    go (subst (λ (x : Router). Rises r₀ n x) (sym went.becomes) (rises_after e a r₀ n))
    (rises_soon c ms₀ r₀ h₀ run timed.2)
  where
    later : (d d' t n l : ℕ) → t ≤ n → d' ≡ d → d ≤ t + l → d' ≤ n + l
    later d d' t n l h e k = omega arith

    go : Rises r₀ n r' → r₀.rises ≤ latest ms₀ + longest c.settings
        → r'.rises ≤ n + longest c.settings
    go (inl x) y = later r₀.rises r'.rises (latest ms₀) n (longest c.settings) timed.0 x y
    go (inr x) y = subst (λ (s : Settings). r'.rises ≤ n + longest s) (settled c ms₀ r₀ h₀ run) x

-- data that come before the wait has grown bring it forward, to their refresh time
pub rises_sooner :
    {B D : Type 0} (c : Caller B D) (ms : List (Moment B)) (r : Router) (h : Host B D) (n : ℕ)
    (r' : Router)
    → IsHistory c ms r h → IsStep r n events.Applied actions.Show r' → is_first_rise r ≡ true
    → (r'.rises ≤ received r n + refresh_ms c.settings r'.known)
    × (r'.rises ≤ r.rises) × (is_first_rise r' ≡ true)
rises_sooner c ms r h n r' run w first =
    subst (λ (s : Settings). (r'.rises ≤ received r n + refresh_ms s r'.known)
    × (r'.rises ≤ r.rises) × (is_first_rise r' ≡ true)) (settled c ms r h run)
    (subst (λ (x : Router). (x.rises ≤ received r n + refresh_ms r.settings x.known)
    × (x.rises ≤ r.rises) × (is_first_rise x ≡ true)) (sym w.becomes)
    (by r.silent (nat_le r.rise_wait (refresh_ms r.settings r.known)) r.rises (received r n)
    (refresh_ms r.settings r.answer) r.rise_wait first))
  where
    least : (a b : ℕ) → a ≤ b → nat_le a b ≡ true
    least a b h = grind (arith, nat_tests)

    by : (s b : Bool) (d c x w : ℕ) → (s && b) ≡ true
        → ((if s && b then min d (c + x) else d) ≤ c + x)
        × ((if s && b then min d (c + x) else d) ≤ d)
        × ((s && nat_le (if s && b then min w x else if s then w else 0) x) ≡ true)
    by true true d c x w first = (omega arith, omega arith, least (min w x) x (omega arith))
    by true false d c x w first = absurd cc
    by false b d c x w first = absurd cc

-- it ends a connection then, and begins one in its highest version
pub rises_then :
    {B D : Type 0} (c : Caller B D) (ms : List (Moment B)) (r : Router) (h : Host B D) (n : ℕ)
    (a : Action) (r' : Router)
    → IsHistory c ms r h → IsStep r n events.Tick a r' → Fresh r n → r.phase ≡ phases.Waiting
    → r.silent ≡ true → r.rises ≤ n → r.due ≤ n → r.settings.pause ≤ n - r.asked
    → (a ≡ ends_for causes.Higher) × (r'.due ≡ n) × (opening_version r' ≡ c.settings.highest)
rises_then c ms r h n a r' run w fresh q silent rises due pause = (ends, soon, opens)
  where
    in_time : IsInTime r n
    in_time = ((λ x. absurd (subst (λ (p : Phase). IsLimited p) q x)), (λ x. absurd cc))

    ends : a ≡ ends_for causes.Higher
    ends = (w.heeds fresh in_time).rises q due pause silent rises

    is : r' ≡ once_risen r n
    is = w.becomes ∙ ap (λ (x : Action). router_after r n events.Tick x) ends

    soon : r'.due ≡ n
    soon = ap (λ (x : Router). x.due) is

    opens : opening_version r' ≡ c.settings.highest
    opens = ap opening_version is
        ∙ ap (λ (b : Bool). if b then r.version else r.settings.highest)
        (stands_online phases.Waiting c ms r h run q)
        ∙ ap (λ (s : Settings). s.highest) (settled c ms r h run)
