-- One version for all answers of a connection; the highest first; and none below that of the data
-- in silence.
use Rattle.std.proofs.Common.{◌≡◌, ◌≢◌, ◌⊎◌, ℕ, Bool, true, false, ◌≤◌, max}
use Rattle.std.proofs.Common.{if◌then◌else◌}
use Rattle.std.proofs.Common.{Option, Some, None, List, refl, sym, ap, ◌∙◌, subst, inl}
use Rattle.std.proofs.Common.{inr}
use Rattle.std.proofs.Common.{arith}
use Rattle.session_router.specs.declared.head.Head.{Head}
use Rattle.session_router.specs.declared.head.Known.{Known}
use Rattle.session_router.specs.declared.head.Query.{Query}
use Rattle.session_router.specs.declared.settings.Settings.{Settings}
use Rattle.session_router.specs.declared.router.Router.{Router}
use Rattle.session_router.specs.declared.router.Phase.{Phase}
use Rattle.session_router.specs.declared.router.Phase.TheVariants as phases
use Rattle.session_router.specs.declared.event.Event.{Event}
use Rattle.session_router.specs.declared.event.Event.TheVariants as events
use Rattle.session_router.specs.declared.event.Action.{Action}
use Rattle.session_router.specs.declared.event.Action.TheVariants as actions
use Rattle.session_router.specs.declared.event.Ending.{Ending}
use Rattle.session_router.specs.declared.event.Cause.{Cause}
use Rattle.session_router.specs.declared.event.Cause.TheVariants as causes
use Rattle.session_router.specs.Rules.{Asks, Begins, ClosesBy, Drops, HasNoData}
use Rattle.session_router.specs.Rules.{MayAsk, Rule, SameKnown, SameTalk, opening_version}
use Rattle.session_router.specs.Pace.{Paces, PacesEnd}
use Rattle.session_router.specs.Safety.{IsAllowed, MayStep}
use Rattle.session_router.specs.Safety.IsAllowed.{allowed_begins, allowed_on}
use Rattle.session_router.specs.Histories.{Caller, Host, IsHistory, Moment}
use Rattle.session_router.specs.Histories.IsHistory.{run_begins, run_goes_on}
use Rattle.session_router.specs.Asking.{AgreesHere, HighestHere, IsOfOneVersion, TriesHighest}
use Rattle.session_router.specs.Asking.{agreed_version, answered_in, cause_after, last_cause}
use Rattle.session_router.proofs.Pacing.{query_version}
use Rattle.session_router.proofs.Settled.{settled}

-- ---- one version

record Agreed (v : ℕ) (r : Router) : Type 0 where
  agreed : r.agreed ≡ true
  version : r.version ≡ v

abbrev KnownAs : Option ℕ → Router → Type 0
KnownAs None r = Unit {0}
KnownAs (Some v) r = Agreed v r

abbrev At : Phase → Option ℕ → Router → Type 0
At phases.Offline o r = Unit {0}
At phases.Connecting o r = o ≡ None
At phases.Asked o r = KnownAs o r
At phases.Reading o r = KnownAs o r
At phases.Applying o r = KnownAs o r
At phases.Waiting o r = KnownAs o r

known_still :
    (o : Option ℕ) (r r' : Router) → r'.version ≡ r.version
    → (r.agreed ≡ true → r'.agreed ≡ true) → KnownAs o r → KnownAs o r'
known_still None r r' v a y = tt
known_still (Some n) r r' v a y = record { agreed = a y.agreed; version = v ∙ y.version }

wait_at : (p : Phase) (o : Option ℕ) (r r' : Router) → SameTalk r r' → At p o r → At p o r'
wait_at phases.Offline o r r' t y = tt
wait_at phases.Connecting o r r' t y = y
wait_at phases.Asked o r r' t y = known_still o r r' t.version (λ e. t.agreed ∙ e) y
wait_at phases.Reading o r r' t y = known_still o r r' t.version (λ e. t.agreed ∙ e) y
wait_at phases.Applying o r r' t y = known_still o r r' t.version (λ e. t.agreed ∙ e) y
wait_at phases.Waiting o r r' t y = known_still o r r' t.version (λ e. t.agreed ∙ e) y

to_phase : (p : Phase) (o : Option ℕ) (r : Router) → r.phase ≡ p → At p o r → At r.phase o r
to_phase p o r e y = subst (λ (p : Phase). At p o r) (sym e) y

at_phase : (p : Phase) (o : Option ℕ) (r : Router) → r.phase ≡ p → At r.phase o r → At p o r
at_phase p o r e y = subst (λ (p : Phase). At p o r) e y

none_known : (o : Option ℕ) (r : Router) → o ≡ None → KnownAs o r
none_known o r e = subst (λ (o : Option ℕ). KnownAs o r) (sym e) tt

on_ask :
    (e : Event) (o : Option ℕ) (r r' : Router) (n : ℕ) → MayAsk r n e r'
    → r'.version ≡ r.version → (r.agreed ≡ true → r'.agreed ≡ true) → At r.phase o r
    → KnownAs o r'
on_ask (events.Came u) o r r' n w v a y = known_still o r r' v a (at_phase phases.Asked o r w.0 y)
on_ask events.Connected o r r' n w v a y = none_known o r' (at_phase phases.Connecting o r w.0 y)
on_ask events.Tick o r r' n w v a y = known_still o r r' v a (at_phase phases.Waiting o r w.0 y)
on_ask events.Lost o r r' n w v a y = absurd w
on_ask events.Asked o r r' n w v a y = absurd w
on_ask (events.Faulty f) o r r' n w v a y = absurd w
on_ask events.Applied o r r' n w v a y = absurd w
on_ask (events.NotApplied code) o r r' n w v a y = absurd w

here :
    (u : Head) (o : Option ℕ) (r r' : Router) → Begins r u r' → KnownAs o r
    → AgreesHere (events.Came u) actions.Begin o
here u None r r' w y = tt
here u (Some v) r r' w y = w.may.agreed y.agreed ∙ y.version

record Stepped (e : Event) (a : Action) (o : Option ℕ) (r' : Router) : Type 0 where
  here : AgreesHere e a o
  after : At r'.phase (answered_in e a o) r'

of_none :
    (o : Option ℕ) (u : Head) (r r' : Router) → HasNoData r u r' → At r.phase o r
    → (r.phase ≡ phases.Asked) ⊎ (r.phase ≡ phases.Reading) → KnownAs o r'
of_none o u r r' w y (inl p) = known_still o r r' w.same_version (λ e. w.agreed)
    (at_phase phases.Asked o r p y)
of_none o u r r' w y (inr p) = known_still o r r' w.same_version (λ e. w.agreed)
    (at_phase phases.Reading o r p y)

step : (e : Event) (a : Action) (o : Option ℕ) (r r' : Router) (n : ℕ) → Rule r n e a r'
    → At r.phase o r → Stepped e a o r'
step events.Tick actions.Connect o r r' n w y = record {
  here = tt;
  after = to_phase phases.Connecting None r' w.phase refl;
}
step (events.Came u) actions.Begin o r r' n w y = record {
  here = here u o r r' w (at_phase phases.Asked o r w.from y);
  after = to_phase phases.Reading (Some u.version) r' w.phase
      (record { agreed = w.agreed; version = w.version });
}
step (events.Came u) actions.Keep o r r' n w y = record {
  here = tt;
  after = to_phase r.phase o r' w.talk.phase (wait_at r.phase o r r' w.talk y);
}
step (events.Came u) (actions.Apply c) o r r' n w y = record {
  here = tt;
  after = to_phase phases.Applying o r' w.phase
      (known_still o r r' w.same_version w.agreed (at_phase phases.Reading o r w.from y));
}
step (events.Came u) actions.NoData o r r' n w y = record {
  here = tt;
  after = to_phase phases.Waiting o r' w.phase (of_none o u r r' w y w.from);
}
step (events.Came u) actions.Wait o r r' n w y = record {
  here = tt;
  after = to_phase r.phase o r' w.talk.phase (wait_at r.phase o r r' w.talk y);
}
step (events.Came u) actions.Drop o r r' n w y =
    record { here = tt; after = to_phase phases.Offline o r' w.phase tt }
step (events.Came u) (actions.End x) o r r' n w y =
    record { here = tt; after = to_phase phases.Offline o r' w.phase tt }
step (events.Came u) (actions.Ask q) o r r' n w y = record {
  here = tt;
  after = to_phase phases.Asked o r' w.phase
      (on_ask (events.Came u) o r r' n w.may w.version w.agreed y);
}
step events.Applied actions.Show o r r' n w y = record {
  here = tt;
  after = to_phase phases.Waiting o r' w.phase
      (known_still o r r' w.same_version w.agreed (at_phase phases.Applying o r w.from y));
}
step e actions.Wait o r r' n w y = record {
  here = tt;
  after = to_phase r.phase o r' w.talk.phase (wait_at r.phase o r r' w.talk y);
}
step e actions.Drop o r r' n w y = record
    { here = tt; after = to_phase phases.Offline o r' w.phase tt }
step e (actions.End x) o r r' n w y = record
    { here = tt; after = to_phase phases.Offline o r' w.phase tt }
step e (actions.Ask q) o r r' n w y = record {
  here = tt;
  after = to_phase phases.Asked o r' w.phase (on_ask e o r r' n w.may w.version w.agreed y);
}
step _ _ o r r' n w y = absurd w

record Goes {B : Type 0} (ms : List (Moment B)) (r : Router) : Type 0 where
  all : IsOfOneVersion ms
  last : At r.phase (agreed_version ms) r

goes : {B D : Type 0} (c : Caller B D) (ms : List (Moment B)) (r : Router) (h : Host B D)
    → IsAllowed c ms r h → Goes ms r
goes c ms r h (allowed_begins r₀ new) = record
    { all = tt; last = to_phase phases.Offline None r₀ new.phase tt }
goes c ms r h (allowed_on n b e a r' ms₀ r₀ h₀ run said went) =
    let y : Goes ms₀ r₀ = goes c ms₀ r₀ h₀ run in
    let s : Stepped e a (agreed_version ms₀) r' = step e a (agreed_version ms₀) r₀ r' n went.rule
    y.last in
    record { all = (s.here, y.all); last = s.after }

pub one_version : {B D : Type 0} (c : Caller B D) (ms : List (Moment B)) (r : Router)
    (h : Host B D) → IsAllowed c ms r h
    → IsOfOneVersion ms
one_version c ms r h run = (goes c ms r h run).all

-- ---- the highest first

-- what holds of the version that a connection begins in, by why the one before ended
abbrev Tries : Phase → ℕ → Router → Option Cause → Type 0
Tries phases.Offline m r o = r.fell ≡ true → o ≡ Some causes.Lower
Tries phases.Connecting m r o = (r.version ≡ m) ⊎ (o ≡ Some causes.Lower)
Tries _ m r o = Unit {0}

-- a router that has a connection didn't fall
abbrev pub Stands : Phase → Router → Type 0
Stands phases.Offline r = Unit {0}
Stands _ r = r.fell ≡ false

record Begun (m : ℕ) (r : Router) (o : Option Cause) : Type 0 where
  tries : Tries r.phase m r o
  stands : Stands r.phase r

begun : (p : Phase) (m : ℕ) (r : Router) (o : Option Cause) → r.phase ≡ p → Tries p m r o
    → Stands p r → Begun m r o
begun p m r o e t s = record {
  tries = subst (λ (p : Phase). Tries p m r o) (sym e) t;
  stands = subst (λ (p : Phase). Stands p r) (sym e) s;
}

stands_in : (p : Phase) (r : Router) → r.phase ≡ p → Stands r.phase r → Stands p r
stands_in p r e s = subst (λ (p : Phase). Stands p r) e s

not_fallen : (p : Phase) (r : Router) → p ≢ phases.Offline → Stands p r → r.fell ≡ false
not_fallen phases.Offline r online s = absurd (online refl)
not_fallen phases.Connecting r online s = s
not_fallen phases.Asked r online s = s
not_fallen phases.Reading r online s = s
not_fallen phases.Applying r online s = s
not_fallen phases.Waiting r online s = s

record Tried (m : ℕ) (e : Event) (a : Action) (o : Option Cause) (r' : Router) : Type 0 where
  here : HighestHere m e a o
  after : Begun m r' (cause_after a o)

connect_tries :
    (b : Bool) (m : ℕ) (r r' : Router) (o : Option Cause) → r.fell ≡ b → r.settings.highest ≡ m
    → r'.version ≡ opening_version r → (r.fell ≡ true → o ≡ Some causes.Lower)
    → (r'.version ≡ m) ⊎ (o ≡ Some causes.Lower)
connect_tries true m r r' o e g v y = inr (y e)
connect_tries false m r r' o e g v y =
    inl (v ∙ ap (λ (b : Bool). if b then r.version else r.settings.highest) e ∙ g)

wait_tries : (p : Phase) (m : ℕ) (r r' : Router) (o : Option Cause) → r'.fell ≡ r.fell
    → r'.version ≡ r.version → Tries p m r o → Tries p m r' o
wait_tries phases.Offline m r r' o f v y = λ e. y (sym f ∙ e)
wait_tries phases.Connecting m r r' o f v (inl y) = inl (v ∙ y)
wait_tries phases.Connecting m r r' o f v (inr y) = inr y
wait_tries phases.Asked m r r' o f v y = tt
wait_tries phases.Reading m r r' o f v y = tt
wait_tries phases.Applying m r r' o f v y = tt
wait_tries phases.Waiting m r r' o f v y = tt

wait_stands : (p : Phase) (r r' : Router) → r'.fell ≡ r.fell → Stands p r → Stands p r'
wait_stands phases.Offline r r' f y = tt
wait_stands phases.Connecting r r' f y = f ∙ y
wait_stands phases.Asked r r' f y = f ∙ y
wait_stands phases.Reading r r' f y = f ∙ y
wait_stands phases.Applying r r' f y = f ∙ y
wait_stands phases.Waiting r r' f y = f ∙ y

end_tries :
    (y : Cause) (m : ℕ) (r r' : Router) (n : ℕ) (z : Ending) → r.fell ≡ false
    → PacesEnd y r n z r' → r'.fell ≡ true → Some y ≡ Some causes.Lower
end_tries causes.Lower m r r' n z f d e = refl
end_tries causes.Slow m r r' n z f d e = let g : r'.fell ≡ false = d.fell ∙ f in cc
end_tries _ m r r' n z f d e = let g : r'.fell ≡ false = d.fell ∙ f in cc

ask_stands : (e : Event) (r r' : Router) (n : ℕ) → MayAsk r n e r' → Stands r.phase r
    → r.fell ≡ false
ask_stands (events.Came u) r r' n w s = stands_in phases.Asked r w.0 s
ask_stands events.Connected r r' n w s = stands_in phases.Connecting r w.0 s
ask_stands events.Tick r r' n w s = stands_in phases.Waiting r w.0 s
ask_stands events.Lost r r' n w s = absurd w
ask_stands events.Asked r r' n w s = absurd w
ask_stands (events.Faulty f) r r' n w s = absurd w
ask_stands events.Applied r r' n w s = absurd w
ask_stands (events.NotApplied code) r r' n w s = absurd w

ask_tries :
    (m : ℕ) (e : Event) (q : Query) (r r' : Router) (n : ℕ) (o : Option Cause)
    → Asks r n e q r' → Tries r.phase m r o → HighestHere m e (actions.Ask q) o
ask_tries m events.Connected q r r' n o w y = go (subst (λ (p : Phase). Tries p m r o) w.may.0 y)
  where
    go : (r.version ≡ m) ⊎ (o ≡ Some causes.Lower) → (q.version ≡ m) ⊎ (o ≡ Some causes.Lower)
    go (inl v) = inl (ap (λ (q : Query). q.version) w.query ∙ query_version r' r'.changes refl ∙
        w.version ∙ v)
    go (inr v) = inr v
ask_tries m (events.Came u) q r r' n o w y = tt
ask_tries m events.Tick q r r' n o w y = tt
ask_tries m events.Lost q r r' n o w y = tt
ask_tries m events.Asked q r r' n o w y = tt
ask_tries m (events.Faulty f) q r r' n o w y = tt
ask_tries m events.Applied q r r' n o w y = tt
ask_tries m (events.NotApplied code) q r r' n o w y = tt

here_still : (m : ℕ) (e : Event) (o : Option Cause) → HighestHere m e actions.Wait o
here_still m events.Connected o = tt
here_still m (events.Came u) o = tt
here_still m events.Tick o = tt
here_still m events.Lost o = tt
here_still m events.Asked o = tt
here_still m (events.Faulty f) o = tt
here_still m events.Applied o = tt
here_still m (events.NotApplied code) o = tt

here_drop : (m : ℕ) (e : Event) (o : Option Cause) → HighestHere m e actions.Drop o
here_drop m events.Connected o = tt
here_drop m (events.Came u) o = tt
here_drop m events.Tick o = tt
here_drop m events.Lost o = tt
here_drop m events.Asked o = tt
here_drop m (events.Faulty f) o = tt
here_drop m events.Applied o = tt
here_drop m (events.NotApplied code) o = tt

here_end : (m : ℕ) (e : Event) (z : Ending) (o : Option Cause) → HighestHere m e (actions.End z) o
here_end m events.Connected z o = tt
here_end m (events.Came u) z o = tt
here_end m events.Tick z o = tt
here_end m events.Lost z o = tt
here_end m events.Asked z o = tt
here_end m (events.Faulty f) z o = tt
here_end m events.Applied z o = tt
here_end m (events.NotApplied code) z o = tt

try :
    (m : ℕ) (e : Event) (a : Action) (o : Option Cause) (r r' : Router) (n : ℕ)
    → r.settings.highest ≡ m → Rule r n e a r' → Paces r n e a r' → Begun m r o → Tried m e a o r'
try m e actions.Wait o r r' n g w d y = record {
  here = here_still m e o;
  after = begun r.phase m r' o w.talk.phase
      (wait_tries r.phase m r r' o d.same.fell w.talk.version y.tries)
      (wait_stands r.phase r r' d.same.fell y.stands);
}
try m e actions.Drop o r r' n g w d y = record {
  here = here_drop m e o;
  after = begun phases.Offline m r' o w.phase
      (λ f. subst (λ (p : Phase). Tries p m r o) w.from y.tries (sym d.fell ∙ f)) tt;
}
try m e (actions.End z) o r r' n g w d y = record {
  here = here_end m e z o;
  after = begun phases.Offline m r' (Some z.cause) w.phase
      (end_tries z.cause m r r' n z (not_fallen r.phase r w.from y.stands) d) tt;
}
try m e (actions.Ask q) o r r' n g w d y = record {
  here = ask_tries m e q r r' n o w y.tries;
  after = begun phases.Asked m r' o w.phase tt (d.fell ∙ ask_stands e r r' n w.may y.stands);
}
try m events.Tick actions.Connect o r r' n g w d y = record {
  here = tt;
  after = begun phases.Connecting m r' o w.phase
      (connect_tries r.fell m r r' o refl g w.version
      (subst (λ (p : Phase). Tries p m r o) w.from y.tries)) d.fell;
}
try m (events.Came u) actions.Begin o r r' n g w d y = record {
  here = tt;
  after = begun phases.Reading m r' o w.phase tt
      (d.same.fell ∙ stands_in phases.Asked r w.from y.stands);
}
try m (events.Came u) actions.Keep o r r' n g w d y = record {
  here = tt;
  after = begun phases.Reading m r' o (w.talk.phase ∙ w.phase) tt
      (d.same.fell ∙ stands_in phases.Reading r w.phase y.stands);
}
try m (events.Came u) (actions.Apply c) o r r' n g w d y = record {
  here = tt;
  after = begun phases.Applying m r' o w.phase tt
      (d.same.fell ∙ stands_in phases.Reading r w.from y.stands);
}
try m (events.Came u) actions.NoData o r r' n g w d y = record {
  here = tt;
  after = begun phases.Waiting m r' o w.phase tt (d.same.fell ∙ go w.from);
}
  where
    go : (r.phase ≡ phases.Asked) ⊎ (r.phase ≡ phases.Reading) → r.fell ≡ false
    go (inl p) = stands_in phases.Asked r p y.stands
    go (inr p) = stands_in phases.Reading r p y.stands
try m events.Applied actions.Show o r r' n g w d y = record {
  here = tt;
  after = begun phases.Waiting m r' o w.phase tt
      (d.fell ∙ stands_in phases.Applying r w.from y.stands);
}
try m _ _ o r r' n g w d y = absurd w

record Trying {B : Type 0} (m : ℕ) (ms : List (Moment B)) (r : Router) : Type 0 where
  all : TriesHighest m ms
  last : Begun m r (last_cause ms)

trying : {B D : Type 0} (c : Caller B D) (ms : List (Moment B)) (r : Router) (h : Host B D)
    → IsHistory c ms r h
    → Trying c.settings.highest ms r
trying c ms r h (run_begins r₀ new) = record {
  all = tt;
  last = begun phases.Offline c.settings.highest r₀ None new.phase
      (λ f. let g : r₀.fell ≡ false = new.fell in cc) tt;
}
trying c ms r h (run_goes_on n b e a r' ms₀ r₀ h₀ run said went) =
    let y : Trying c.settings.highest ms₀ r₀ = trying c ms₀ r₀ h₀ run in
    let g : r₀.settings.highest ≡ c.settings.highest = ap (λ (s : Settings). s.highest)
    (settled c ms₀ r₀ h₀ run) in
    let s : Tried c.settings.highest e a (last_cause ms₀) r' =
    try c.settings.highest e a (last_cause ms₀) r₀ r' n g went.rule went.paces y.last in
    record { all = (s.here, y.all); last = s.after }

pub tries_highest : {B D : Type 0} (c : Caller B D) (ms : List (Moment B)) (r : Router)
    (h : Host B D) → IsHistory c ms r h
    → TriesHighest c.settings.highest ms
tries_highest c ms r h run = (trying c ms r h run).all

-- a router that has a connection, or makes one, has fallen to no version since
pub stands_online : {B D : Type 0} (p : Phase) (c : Caller B D) (ms : List (Moment B)) (r : Router)
    (h : Host B D) → IsHistory c ms r h → r.phase ≡ p → Stands p r
stands_online p c ms r h run q = stands_in p r q (trying c ms r h run).last.stands

-- ---- the version of the data is never given up in silence

abbrev pub Floors : Router → Type 0
Floors r = r.has_data ≡ true → r.known.version ≤ r.floor

floor_same : (v v' f f' : ℕ) → v' ≡ v → f' ≡ f → v ≤ f → v' ≤ f'
floor_same v v' f f' e g h = omega arith

floor_more : (v v' f f' x : ℕ) → v' ≡ v → f' ≡ max f x → v ≤ f → v' ≤ f'
floor_more v v' f f' x e g h = omega arith

floor_equal : (v f : ℕ) → v ≡ f → v ≤ f
floor_equal v f e = omega arith

version_same : (r r' : Router) → SameKnown r r' → r'.known.version ≡ r.known.version
version_same r r' same = ap (λ (k : Known). k.version) same.known

keeps_floor : (r r' : Router) → SameKnown r r' → r'.floor ≡ r.floor → Floors r → Floors r'
keeps_floor r r' same f y e =
    floor_same r.known.version r'.known.version r.floor r'.floor (version_same r r' same) f
    (y (sym same.has_data ∙ e))

raises_floor : (r r' : Router) (x : ℕ) → SameKnown r r' → r'.floor ≡ max r.floor x → Floors r
    → Floors r'
raises_floor r r' x same f y e =
    floor_more r.known.version r'.known.version r.floor r'.floor x (version_same r r' same) f
    (y (sym same.has_data ∙ e))

ask_floor : (e : Event) (r r' : Router) (n : ℕ) → SameKnown r r' → MayAsk r n e r' → Floors r
    → Floors r'
ask_floor (events.Came u) r r' n same w y = raises_floor r r' r.version same w.6 y
ask_floor events.Connected r r' n same w y = keeps_floor r r' same w.3 y
ask_floor events.Tick r r' n same w y = keeps_floor r r' same w.3 y
ask_floor events.Lost r r' n same w y = absurd w
ask_floor events.Asked r r' n same w y = absurd w
ask_floor (events.Faulty f) r r' n same w y = absurd w
ask_floor events.Applied r r' n same w y = absurd w
ask_floor (events.NotApplied code) r r' n same w y = absurd w

end_keeps : (y : Cause) (e : Event) (z : Ending) (r r' : Router) → ClosesBy y r e z r'
    → r'.has_data ≡ true → r'.floor ≡ r.floor
end_keeps causes.Lower e z r r' w h = w.floor
end_keeps causes.Higher e z r r' w h = w.floor
end_keeps causes.Slow e z r r' w h = w.1.floor h
end_keeps _ e z r r' w h = w.floor h

end_floor : (d : Bool) (e : Event) (z : Ending) (r r' : Router) → Drops d r r'
    → ClosesBy z.cause r e z r' → Floors r → Floors r'
end_floor true e z r r' x w y h = let g : r'.has_data ≡ false = x.has_data in cc
end_floor false e z r r' x w y h =
    floor_same r.known.version r'.known.version r.floor r'.floor (version_same r r' x)
    (end_keeps z.cause e z r r' w h) (y (sym x.has_data ∙ h))

pub floor_step : (e : Event) (a : Action) (r r' : Router) (n : ℕ) → Rule r n e a r' → Floors r
    → Floors r'
floor_step e actions.Wait r r' n w y = keeps_floor r r' w.same w.talk.floor y
floor_step e actions.Drop r r' n w y = λ h. let g : r'.has_data ≡ false = w.lost.has_data in cc
floor_step e (actions.End z) r r' n w y = end_floor z.drop e z r r' w.data_then w.by y
floor_step e (actions.Ask q) r r' n w y = ask_floor e r r' n w.same w.may y
floor_step events.Tick actions.Connect r r' n w y = keeps_floor r r' w.same w.floor y
floor_step (events.Came u) actions.Begin r r' n w y = raises_floor r r' u.version w.same w.floor y
floor_step (events.Came u) actions.Keep r r' n w y = keeps_floor r r' w.same w.talk.floor y
floor_step (events.Came u) (actions.Apply c) r r' n w y = keeps_floor r r' w.same w.floor y
floor_step (events.Came u) actions.NoData r r' n w y = raises_floor r r' r.version w.same w.floor y
floor_step events.Applied actions.Show r r' n w y = λ h. floor_equal r'.known.version r'.floor
    (ap (λ (k : Known). k.version) w.known ∙ sym w.floor)
floor_step _ _ r r' n w y = absurd w

pub floors : {B D : Type 0} (c : Caller B D) (ms : List (Moment B)) (r : Router) (h : Host B D)
    → IsAllowed c ms r h → Floors r
floors c ms r h (allowed_begins r₀ new) = λ e. let g : r₀.has_data ≡ false = new.has_data in cc
floors c ms r h (allowed_on n b e a r' ms₀ r₀ h₀ run said went) = floor_step e a r₀ r' n went.rule
    (floors c ms₀ r₀ h₀ run)

falls_by : (y : Cause) (x : Ending) (r r' : Router) → y ≡ causes.Lower
    → ClosesBy y r events.Lost x r' → r.floor ≤ r'.version
falls_by y x r r' e w = (subst (λ (y : Cause). ClosesBy y r events.Lost x r') e w).over.not_below

pub never_below_data :
    {B D : Type 0} (c : Caller B D) (ms : List (Moment B)) (r : Router) (h : Host B D) (n : ℕ)
    (x : Ending) (r' : Router)
    → IsAllowed c ms r h → MayStep r n events.Lost (actions.End x) r' → x.cause ≡ causes.Lower
    → r.has_data ≡ true → r.known.version ≤ r'.version
never_below_data c ms r h n x r' run went e has =
    through r.known.version r.floor r'.version (floors c ms r h run has)
    (falls_by x.cause x r r' e went.rule.by)
  where
    through : (a b c : ℕ) → a ≤ b → b ≤ c → a ≤ c
    through a b c h k = omega arith
