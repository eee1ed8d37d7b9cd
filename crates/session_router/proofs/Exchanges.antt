-- What was exchanged is what a router has of it: so the laws of proofs/Served hold of the runs that
-- are told by messages.
use Rattle.std.proofs.Common.{◌≡◌, ◌≢◌, ◌⊎◌, ℕ, Bool, true, false, ◌+◌, ◌<◌, ◌≤◌, max}
use Rattle.std.proofs.Common.{List, if◌then◌else◌, refl, sym, ap, ◌∙◌, subst, inl, inr}
use Rattle.std.proofs.Common.{arith, min}
use Rattle.std.proofs.lemmas.Bool.{cases_eq}
use Rattle.session_router.specs.declared.head.Known.{Known}
use Rattle.session_router.specs.declared.head.Kind.TheVariants as kinds
use Rattle.session_router.specs.declared.head.Query.{Query}
use Rattle.session_router.specs.declared.settings.Settings.{Settings}
use Rattle.session_router.specs.declared.router.Router.{Router}
use Rattle.session_router.specs.declared.router.Phase.{Phase}
use Rattle.session_router.specs.declared.router.Phase.TheVariants as phases
use Rattle.session_router.specs.declared.event.Event.{Event}
use Rattle.session_router.specs.declared.event.Event.TheVariants as events
use Rattle.session_router.specs.declared.event.Action.{Action}
use Rattle.session_router.specs.declared.event.Action.TheVariants as actions
use Rattle.session_router.specs.declared.event.Cause.{Cause}
use Rattle.session_router.specs.declared.event.Cause.TheVariants as causes
use Rattle.session_router.specs.declared.event.Ending.{Ending}
use Rattle.session_router.specs.Rules.{ClosesBy, IsPayloadOf, MayAsk, Rule, SameKnown, Waits}
use Rattle.session_router.specs.Rules.{awaits_changes, query}
use Rattle.session_router.specs.Heeding.{IsComplaint, StandsStill}
use Rattle.session_router.specs.Heeding.StandsStill.{agreed_on, lowest, other_code}
use Rattle.session_router.specs.Pace.{IsLimited, Paces, PacesWait, due_waiting, grows, grows_slow}
use Rattle.session_router.specs.Pace.{wakes_at}
use Rattle.session_router.specs.Times.{expire_ms}
use Rattle.rtr_base.specs.Serial.{serial_cmp}
use Rattle.session_router.specs.After.{forgets, once_asked_at, once_ended, once_failed, once_rested}
use Rattle.session_router.specs.After.{once_resyncing, router_after}
use Rattle.session_router.specs.Step.{IsInTime, IsStep, made_until}
use Rattle.session_router.specs.Exchange.{Exchange, exchange_after, exchanged, none_yet}
use Rattle.session_router.specs.Exchange.{once_queried}
use Rattle.session_router.specs.Exchange.{once_spoken}
use Rattle.session_router.specs.Histories.{Caller, Host, IsHistory, Moment}
use Rattle.session_router.specs.Histories.IsHistory.{run_begins, run_goes_on}
use Rattle.session_router.specs.Recovery.{AnswersWell, AnyStep, ComesInTime, GoesOnWell, IsBeside}
use Rattle.session_router.specs.Recovery.{ClosesAbove}
use Rattle.session_router.specs.Recovery.{IsMadeWell, IsServedBy, LeavesWell, DoesWell, Unshown}
use Rattle.session_router.specs.Recovery.{served_until}
use Rattle.session_router.specs.Recovery.AnswersWell.{answers_lower, closes, notifies}
use Rattle.session_router.specs.Recovery.AnswersWell.{refuses_session}
use Rattle.session_router.specs.Recovery.AnswersWell.{refuses_version, resets_well, responds}
use Rattle.session_router.specs.Recovery.GoesOnWell.{ends_data, notifies_inside, sends_payload}
use Rattle.session_router.specs.Recovery.IsMadeWell.{are_made, are_refused}
use Rattle.session_router.specs.Recovery.LeavesWell.{notifies_then}
use Rattle.session_router.specs.Recovery.IsBeside.{beside_from, beside_on}
use Rattle.session_router.proofs.Served as old
use Rattle.session_router.proofs.Served.{AnyRouter, IsAboveFloor}
use Rattle.session_router.proofs.Served.{AnswersWell as answer}
use Rattle.session_router.proofs.Served.{GoesOnWell as more}
use Rattle.session_router.proofs.Served.{IsMadeWell as made}
use Rattle.session_router.proofs.Served.{LeavesWell as leaves}
use Rattle.session_router.proofs.Served.{IsServed as serve}
use Rattle.session_router.proofs.Served.{IsBeside as stand}
use Rattle.session_router.proofs.Settled.{settled}
use Rattle.session_router.proofs.Recovering.{acts_after, recovers_after}
use Rattle.session_router.proofs.Serving.{recovers_offline}
use Rattle.session_router.proofs.Rising.{highest_of_both}
use Rattle.session_router.proofs.Pacing.{query_by}

-- ---- what both have, by where the connection is

pub record Opening (r : Router) (x : Exchange) : Type 0 where
  pub answered : x.answered ≡ r.agreed
  pub until : x.until ≡ r.due

pub record Resting (r : Router) (x : Exchange) : Type 0 where
  pub answered : x.answered ≡ r.agreed
  pub version : x.version ≡ r.version

pub record Querying (r : Router) (x : Exchange) : Type 0 where
  pub answered : x.answered ≡ r.agreed
  pub version : x.version ≡ r.version
  pub changes : x.query.changes ≡ r.changes
  pub serial : r.changes ≡ true → x.query.serial ≡ r.known.serial

pub record Answering (r : Router) (x : Exchange) : Type 0 where
  pub asked : Querying r x
  pub until : x.until ≡ r.due
  pub session : x.session ≡ r.session
  pub units : x.units ≡ r.units
  pub bytes : x.bytes ≡ r.bytes

abbrev pub Matches : Phase → Router → Exchange → Type 0
Matches phases.Offline r x = Unit {0}
Matches phases.Connecting r x = Opening r x
Matches phases.Asked r x = Querying r x × (x.until ≡ r.due)
Matches phases.Reading r x = Answering r x
Matches phases.Applying r x = Querying r x × (x.until ≡ made_until r)
Matches phases.Waiting r x = Resting r x

pub record Matched (r : Router) (x : Exchange) : Type 0 where
  pub phase : x.phase ≡ r.phase
  pub has : Matches r.phase r x

pub at : (p : Phase) (r : Router) (x : Exchange) → r.phase ≡ p → x.phase ≡ p → Matches p r x
    → Matched r x
at p r x e f y = record { phase = f ∙ sym e; has = subst (λ (p : Phase). Matches p r x) (sym e) y }

pub from : (p : Phase) (r : Router) (x : Exchange) → r.phase ≡ p → Matched r x → Matches p r x
from p r x e y = subst (λ (p : Phase). Matches p r x) e y.has

-- ---- nothing else is needed of what was exchanged

querying_as : (r : Router) (x : Exchange) (v : ℕ) → Querying r x
    → Querying r (record x { spoken = v })
querying_as r x v y = record {
  answered = y.answered;
  version = y.version;
  changes = y.changes;
  serial = y.serial;
}

pub spoken_as : (r : Router) (x : Exchange) (v : ℕ) → Matched r x
    → Matched r (record x { spoken = v })
spoken_as r x v y = record { phase = y.phase; has = go r.phase y.has }
  where
    go : (p : Phase) → Matches p r x → Matches p r (record x { spoken = v })
    go phases.Offline z = tt
    go phases.Connecting z = record { answered = z.answered; until = z.until }
    go phases.Asked z = (querying_as r x v z.0, z.1)
    go phases.Reading z = record {
      asked = querying_as r x v z.asked;
      until = z.until;
      session = z.session;
      units = z.units;
      bytes = z.bytes;
    }
    go phases.Applying z = (querying_as r x v z.0, z.1)
    go phases.Waiting z = record { answered = z.answered; version = z.version }

-- ---- each action

querying_on : (r r' : Router) (x : Exchange) → SameKnown r r' → r'.agreed ≡ r.agreed
    → r'.version ≡ r.version → r'.changes ≡ r.changes → Querying r x → Querying r' x
querying_on r r' x same g v c y = record {
  answered = y.answered ∙ sym g;
  version = y.version ∙ sym v;
  changes = y.changes ∙ sym c;
  serial = λ f. y.serial (sym c ∙ f) ∙ ap (λ (k : Known). k.serial) (sym same.known);
}

on_wait : (p : Phase) (r r' : Router) (x : Exchange) (n : ℕ) (e : Event) → r.phase ≡ p
    → Waits r e r' → PacesWait r n e r' → Matches p r x → Matches p r' x
on_wait p r r' x n e q w d y = go p q y
  where
    asked : Querying r x → Querying r' x
    asked z = querying_on r r' x w.same w.talk.agreed w.talk.version w.talk.changes z

    due : (p : Phase) → r.phase ≡ p → due_waiting p r n e ≡ r.due → r'.due ≡ r.due
    due p q f = d.due ∙ ap (λ (p : Phase). due_waiting p r n e) q ∙ f

    made_as : made_until r' ≡ made_until r
    made_as = ap (λ (t : ℕ). t + expire_ms r'.settings r'.answer) w.talk.came
        ∙ ap (λ (s : Settings). r.came + expire_ms s r'.answer) d.same.settings
        ∙ ap (λ (k : Known). r.came + expire_ms r.settings k) w.talk.answer

    go : (p : Phase) → r.phase ≡ p → Matches p r x → Matches p r' x
    go phases.Offline q z = tt
    go phases.Connecting q z = record {
      answered = z.answered ∙ sym w.talk.agreed;
      until = z.until ∙ sym (due phases.Connecting q refl);
    }
    go phases.Asked q z = (asked z.0, z.1 ∙ sym (due phases.Asked q refl))
    go phases.Reading q z = record {
      asked = asked z.asked;
      until = z.until ∙ sym (due phases.Reading q refl);
      session = z.session ∙ sym w.talk.session;
      units = z.units ∙ sym w.response.units;
      bytes = z.bytes ∙ sym w.response.bytes;
    }
    go phases.Applying q z = (asked z.0, z.1 ∙ sym made_as)
    go phases.Waiting q z = record {
      answered = z.answered ∙ sym w.talk.agreed;
      version = z.version ∙ sym w.talk.version;
    }

-- what a query says of the router that sends it
record Says (r : Router) (q : Query) : Type 0 where
  version : q.version ≡ r.version
  changes : q.changes ≡ r.changes
  serial : r.changes ≡ true → q.serial ≡ r.known.serial

says : (r : Router) (q : Query) → q ≡ query r → Says r q
says r q e = subst (λ (q : Query). Says r q) (sym e) (record {
  version = version r.changes;
  changes = changes r.changes;
  serial = serial r.changes;
})
  where
    version : (b : Bool) → (query_by r b).version ≡ r.version
    version true = refl
    version false = refl

    changes : (b : Bool) → (query_by r b).changes ≡ b
    changes true = refl
    changes false = refl

    serial : (b : Bool) → b ≡ true → (query_by r b).serial ≡ r.known.serial
    serial true e = refl
    serial false e = cc

queried : (r' : Router) (x : Exchange) (n : ℕ) (q : Query) (s : Settings) → q ≡ query r'
    → r'.phase ≡ phases.Asked → r'.due ≡ n + s.response_limit → x.answered ≡ r'.agreed
    → Matched r' (once_queried s n q x)
queried r' x n q s e p d g =
    let y : Says r' q = says r' q e in
    at phases.Asked r' (once_queried s n q x) p refl
    (record { answered = g; version = y.version; changes = y.changes; serial = y.serial }, sym d)

on_ask :
    (e : Event) (r r' : Router) (x : Exchange) (n : ℕ) (q : Query) → MayAsk r n e r'
    → q ≡ query r' → r'.phase ≡ phases.Asked → r'.due ≡ n + r.settings.response_limit
    → r' ≡ once_asked_at r n e → Matched r x
    → Matched r' (exchange_after r.settings n e (actions.Ask q) x)
on_ask (events.Came u) r r' x n q w e p d b y =
    queried r' (once_spoken u.version x) n q r.settings e p d
    (sym (ap (λ (r : Router). r.agreed) b))
on_ask events.Connected r r' x n q w e p d b y =
    queried r' x n q r.settings e p d
    ((from phases.Connecting r x w.0 y).answered ∙ sym (ap (λ (r : Router). r.agreed) b))
on_ask events.Tick r r' x n q w e p d b y =
    queried r' x n q r.settings e p d
    ((from phases.Waiting r x w.0 y).answered ∙ sym (ap (λ (r : Router). r.agreed) b))
on_ask events.Asked r r' x n q w e p d b y = absurd w
on_ask events.Lost r r' x n q w e p d b y = absurd w
on_ask (events.Faulty f) r r' x n q w e p d b y = absurd w
on_ask events.Applied r r' x n q w e p d b y = absurd w
on_ask (events.NotApplied code) r r' x n q w e p d b y = absurd w

step :
    (n : ℕ) (e : Event) (a : Action) (r r' : Router) (x : Exchange) → Rule r n e a r'
    → Paces r n e a r' → r' ≡ router_after r n e a → Matched r x
    → Matched r' (exchange_after r.settings n e a x)
step n e actions.Wait r r' x w d b y =
    at r.phase r' x w.talk.phase y.phase (on_wait r.phase r r' x n e refl w d y.has)
step n e actions.Drop r r' x w d b y =
    at phases.Offline r' (record x { spoken = 0 }) w.phase (y.phase ∙ w.from) tt
step n e (actions.End z) r r' x w d b y =
    at phases.Offline r' (exchange_after r.settings n e (actions.End z) x) w.phase refl tt
step n e (actions.Ask q) r r' x w d b y = on_ask e r r' x n q w.may w.query w.phase d.due b y
step n events.Tick actions.Connect r r' x w d b y =
    at phases.Connecting r' (exchange_after r.settings n events.Tick actions.Connect x) w.phase refl
    (record { answered = sym w.agreed; until = sym d.due })
step n (events.Came u) actions.Begin r r' x w d b y =
    let z : Querying r x × (x.until ≡ r.due) = from phases.Asked r x w.from y in
    at phases.Reading r' (exchange_after r.settings n (events.Came u) actions.Begin x) w.phase refl
    (record {
      asked = record {
        answered = sym w.agreed;
        version = sym w.version;
        changes = z.0.changes ∙ sym w.changes;
        serial = λ f. z.0.serial (sym w.changes ∙ f)
            ∙ ap (λ (k : Known). k.serial) (sym w.same.known);
      };
      until = z.1 ∙ sym d.due;
      session = sym w.session;
      units = sym w.units;
      bytes = sym w.bytes;
    })
step n (events.Came u) actions.Keep r r' x w d b y =
    let z : Answering r x = from phases.Reading r x w.phase y in
    at phases.Reading r' (exchange_after r.settings n (events.Came u) actions.Keep x)
    (w.talk.phase ∙ w.phase) (y.phase ∙ w.phase)
    (record {
      asked = record {
        answered = z.asked.answered ∙ sym w.talk.agreed;
        version = z.asked.version ∙ sym w.talk.version;
        changes = z.asked.changes ∙ sym w.talk.changes;
        serial = λ f. z.asked.serial (sym w.talk.changes ∙ f)
            ∙ ap (λ (k : Known). k.serial) (sym w.same.known);
      };
      until = z.until ∙ sym d.due;
      session = z.session ∙ sym w.talk.session;
      units = ap (λ (k : ℕ). k + 1) z.units ∙ sym w.units;
      bytes = ap (λ (k : ℕ). k + u.size) z.bytes ∙ sym w.bytes;
    })
step n (events.Came u) (actions.Apply on) r r' x w d b y =
    let z : Answering r x = from phases.Reading r x w.from y in
    at phases.Applying r' (exchange_after r.settings n (events.Came u) (actions.Apply on) x)
    w.phase refl (
      record {
        answered = z.asked.answered ∙ sym (ap (λ (r : Router). r.agreed) b);
        version = z.asked.version ∙ sym w.same_version;
        changes = z.asked.changes ∙ sym w.same_changes;
        serial = λ f. z.asked.serial (sym w.same_changes ∙ f)
            ∙ ap (λ (k : Known). k.serial) (sym w.same.known);
      },
      sym (ap made_until b),
    )
step n (events.Came u) actions.NoData r r' x w d b y =
    at phases.Waiting r' (exchange_after r.settings n (events.Came u) actions.NoData x) w.phase refl
    (record { answered = sym w.agreed; version = w.version ∙ sym w.same_version })
step n events.Applied actions.Show r r' x w d b y =
    let z : Querying r x × (x.until ≡ made_until r) = from phases.Applying r x w.from y in
    at phases.Waiting r' (exchange_after r.settings n events.Applied actions.Show x) w.phase refl
    (record {
      answered = z.0.answered ∙ sym (ap (λ (r : Router). r.agreed) b);
      version = z.0.version ∙ sym w.same_version;
    })
step n _ _ r r' x w d b y = absurd w

pub matched_on :
    (n : ℕ) (e : Event) (a : Action) (r r' : Router) (x : Exchange) → IsStep r n e a r'
    → Matched r x → Matched r' (exchange_after r.settings n e a x)
matched_on n e a r r' x w y = step n e a r r' x w.rule w.paces w.becomes y

pub matched :
    {B D : Type 0} (c : Caller B D) (ms : List (Moment B)) (r : Router) (h : Host B D)
    → IsHistory c ms r h → Matched r (exchanged c.settings ms)
matched c ms r h (run_begins r₀ new) = at phases.Offline r₀ none_yet new.phase refl tt
matched c ms r h (run_goes_on n b e a r' ms₀ r₀ h₀ run said went) =
    subst (λ (s : Settings). Matched r' (exchange_after s n e a (exchanged c.settings ms₀)))
    (settled c ms₀ r₀ h₀ run)
    (matched_on n e a r₀ r' (exchanged c.settings ms₀) went (matched c ms₀ r₀ h₀ run))

-- ---- the version in which the cache answered

floor_equal : (f f' x : ℕ) → f' ≡ f → f ≤ x → f' ≤ x
floor_equal f f' x e h = omega arith

floor_zero : (f x : ℕ) → f ≡ 0 → f ≤ x
floor_zero f x e = omega arith

floor_max : (f f' v w x : ℕ) → f' ≡ max f v → v ≡ w → f ≤ x → f' ≤ max x w
floor_max f f' v w x e g h = omega arith

rested_le : (g : Bool) (r : Router) (n x : ℕ) → r.floor ≤ x → (once_rested g r n).floor ≤ x
rested_le g r n x h = go (forgets r)
  where
    zero : 0 ≤ x
    zero = omega arith

    go : (b : Bool) → (if b then 0 else r.floor) ≤ x
    go true = zero
    go false = h

failed_le : (drop : Bool) (r : Router) (n x : ℕ) → r.floor ≤ x
    → (once_failed drop r n).floor ≤ (if drop then 0 else x)
failed_le true r n x h = none
  where
    none : 0 ≤ 0
    none = omega arith
failed_le false r n x h = go (awaits_changes r)
  where
    go : (b : Bool)
        → (if b then once_resyncing r n else once_rested (grows r) r n).floor ≤ x
    go true = h
    go false = rested_le (grows r) r n x h

kept_le : (drop : Bool) (f x : ℕ) → drop ≡ false → f ≤ x → f ≤ (if drop then 0 else x)
kept_le true f x e h = cc
kept_le false f x e h = h

end_le :
    (c : Cause) (n : ℕ) (e : Event) (z : Ending) (r r' : Router) (x : ℕ) → ClosesBy c r e z r'
    → r' ≡ once_ended c z.drop r n e → r.floor ≤ x → r'.floor ≤ (if z.drop then 0 else x)
end_le causes.Lower n e z r r' x w b h =
    kept_le z.drop r'.floor x w.keeps (floor_equal r.floor r'.floor x w.floor h)
end_le causes.Higher n e z r r' x w b h =
    kept_le z.drop r'.floor x w.keeps (floor_equal r.floor r'.floor x w.floor h)
end_le causes.Slow n e z r r' x w b h =
    kept_le z.drop r'.floor x w.0 (subst (λ (r : Router). r.floor ≤ x) (sym b)
    (rested_le (grows_slow r) r n x h))
end_le _ n e z r r' x w b h =
    subst (λ (r : Router). r.floor ≤ (if z.drop then 0 else x)) (sym b) (failed_le z.drop r n x h)

ask_le :
    (e : Event) (r r' : Router) (x : Exchange) (n : ℕ) (q : Query) → MayAsk r n e r'
    → r.floor ≤ x.spoken → r'.floor ≤ (exchange_after r.settings n e (actions.Ask q) x).spoken
ask_le (events.Came u) r r' x n q w h =
    floor_max r.floor r'.floor r.version u.version x.spoken w.6 (sym w.3) h
ask_le events.Connected r r' x n q w h = floor_equal r.floor r'.floor x.spoken w.3 h
ask_le events.Tick r r' x n q w h = floor_equal r.floor r'.floor x.spoken w.3 h
ask_le events.Asked r r' x n q w h = absurd w
ask_le events.Lost r r' x n q w h = absurd w
ask_le (events.Faulty f) r r' x n q w h = absurd w
ask_le events.Applied r r' x n q w h = absurd w
ask_le (events.NotApplied code) r r' x n q w h = absurd w

spoken_on :
    (n : ℕ) (e : Event) (a : Action) (r r' : Router) (x : Exchange) → Rule r n e a r'
    → r' ≡ router_after r n e a → a ≢ actions.Show → r.floor ≤ x.spoken
    → r'.floor ≤ (exchange_after r.settings n e a x).spoken
spoken_on n e actions.Wait r r' x w b s h = floor_equal r.floor r'.floor x.spoken w.talk.floor h
spoken_on n e actions.Drop r r' x w b s h =
    floor_zero r'.floor 0 (ap (λ (r : Router). r.floor) b)
spoken_on n e (actions.End z) r r' x w b s h = end_le z.cause n e z r r' x.spoken w.by b h
spoken_on n e (actions.Ask q) r r' x w b s h = ask_le e r r' x n q w.may h
spoken_on n events.Tick actions.Connect r r' x w b s h =
    floor_equal r.floor r'.floor x.spoken w.floor h
spoken_on n (events.Came u) actions.Begin r r' x w b s h =
    floor_max r.floor r'.floor u.version u.version x.spoken w.floor refl h
spoken_on n (events.Came u) actions.Keep r r' x w b s h =
    floor_equal r.floor r'.floor x.spoken w.talk.floor h
spoken_on n (events.Came u) (actions.Apply on) r r' x w b s h =
    floor_equal r.floor r'.floor x.spoken w.floor h
spoken_on n (events.Came u) actions.NoData r r' x w b s h =
    floor_max r.floor r'.floor r.version u.version x.spoken w.floor (sym w.version) h
spoken_on n events.Applied actions.Show r r' x w b s h = absurd (s refl)
spoken_on n _ _ r r' x w b s h = absurd w

-- ---- what such a cache does, to the router

lt_to : (m v w : ℕ) → w ≡ v → m < w → m < v
lt_to m v w e h = omega arith

le_to : (m v w : ℕ) → w ≡ v → w ≤ m → v ≤ m
le_to m v w e h = omega arith

asked_well :
    (Silent : Router → Type 0) (most : ℕ) (r : Router) (x : Exchange) (e : Event) → Querying r x
    → (e ≡ events.Lost → (x.query.changes ≡ true) ⊎ Silent r) → AnswersWell most x e
    → old.AnswersWell Silent most r e
asked_well Silent most r x e y l (notifies u k v) =
    answer.notifies u k (λ g. v (y.answered ∙ g) ∙ y.version)
asked_well Silent most r x e y l (responds u k v) = go r.changes refl
  where
    version : u.version ≡ r.version
    version = v ∙ y.version

    go : (b : Bool) → r.changes ≡ b → old.AnswersWell Silent most r (events.Came u)
    go false c = answer.responds u k version (λ f. cc)
    go true c = known (cases_eq u.session r.known.session)
      where
        known : (u.session ≡ r.known.session) ⊎ (u.session ≡ r.known.session → ⊥)
            → old.AnswersWell Silent most r (events.Came u)
        known (inl s) = answer.responds u k version (λ f. s)
        known (inr s) = answer.answers_anew u k version c s
asked_well Silent most r x e y l (resets_well u k v c) =
    answer.resets_well u k (v ∙ y.version) (sym y.changes ∙ c)
asked_well Silent most r x e y l (refuses_session u k c z t) =
    answer.refuses_session u k (sym y.changes ∙ c) (complaint z) (still t)
  where
    complaint : (u.code.0 ≢ 2) ⊎ (u.version ≢ x.version) → IsComplaint r u
    complaint (inl f) = inl f
    complaint (inr f) = inr (λ g. f (g ∙ sym y.version))

    still : (x.answered ≡ true) ⊎ (x.version ≡ 0) ⊎ ((u.code.0 ≢ 4) × (x.version ≤ u.version))
        → StandsStill r u
    still (inl f) = agreed_on (sym y.answered ∙ f)
    still (inr (inl f)) = lowest (sym y.version ∙ f)
    still (inr (inr f)) = other_code f.0 (le_to u.version r.version x.version y.version f.1)
asked_well Silent most r x e y l (refuses_version u k m g z) =
    answer.refuses_version u (lt_to most r.version x.version y.version m) (sym y.answered ∙ g) k
    (go z)
  where
    go : (u.code.0 ≡ 4) ⊎ (u.version < x.version) → (u.code.0 ≡ 4) ⊎ (u.version < r.version)
    go (inl f) = inl f
    go (inr f) = inr (lt_to u.version r.version x.version y.version f)
asked_well Silent most r x e y l (answers_lower u v m g z) =
    answer.answers_lower u v (lt_to most r.version x.version y.version m) (sym y.answered ∙ g)
    (go z)
  where
    go : (u.kind ≡ kinds.CacheResponse) ⊎ ((u.kind ≡ kinds.CacheReset) × (x.query.changes ≡ true))
        → (u.kind ≡ kinds.CacheResponse) ⊎ ((u.kind ≡ kinds.CacheReset) × (r.changes ≡ true))
    go (inl f) = inl f
    go (inr f) = inr (f.0, sym y.changes ∙ f.1)
asked_well Silent most r x e y l (closes (inl c)) = answer.closes_session (sym y.changes ∙ c)
asked_well Silent most r x e y l (closes (inr m)) = go (l refl)
  where
    go : (x.query.changes ≡ true) ⊎ Silent r → old.AnswersWell Silent most r events.Lost
    go (inl c) = answer.closes_session (sym y.changes ∙ c)
    go (inr f) = answer.closes_silently (lt_to most r.version x.version y.version m.0)
        (sym y.answered ∙ m.1) f

reads_well : (r : Router) (x : Exchange) (e : Event) → Answering r x → GoesOnWell r.settings x e
    → old.GoesOnWell r e
reads_well r x e y (notifies_inside u w) = more.notifies_inside u (record {
  kind = w.kind;
  version = w.version ∙ y.asked.version;
  session = w.session ∙ y.session;
})
reads_well r x e y (sends_payload u k v f g) =
    more.sends_payload u (subst (λ (v : ℕ). IsPayloadOf v u.kind) y.asked.version k)
    (v ∙ y.asked.version)
    (record {
      units = subst (λ (n : ℕ). n + 1 ≤ r.settings.most_units) y.units f;
      bytes = subst (λ (n : ℕ). n + u.size ≤ r.settings.most_bytes) y.bytes g;
    })
reads_well r x e y (ends_data u w o z) =
    more.ends_data u (record {
      kind = w.kind;
      version = w.version ∙ y.asked.version;
      session = w.session ∙ y.session;
    })
    (λ c f. o (y.asked.changes ∙ c) (ap (λ (n : ℕ). serial_cmp u.serial n) (y.asked.serial c) ∙ f))
    (λ c f. sym y.units ∙ z (y.asked.changes ∙ c) (f ∙ sym (y.asked.serial c)))

makes_well : (r : Router) (x : Exchange) (e : Event) → Querying r x → IsMadeWell x e
    → old.IsMadeWell r e
makes_well r x e y are_made = made.are_made
makes_well r x e y (are_refused code c) = made.are_refused code (sym y.changes ∙ c)

leaves_well : (r : Router) (x : Exchange) (e : Event) → Resting r x → LeavesWell x e
    → old.LeavesWell r e
leaves_well r x e y (notifies_then u k v) = leaves.notifies_then u k (v ∙ y.version)

ticks : (Silent : Router → Type 0) (most : ℕ) (p : Phase) (r : Router)
    → old.IsServedBy Silent most p r events.Tick
ticks Silent most phases.Offline r = inl refl
ticks Silent most phases.Connecting r = inl refl
ticks Silent most phases.Asked r = answer.not_yet
ticks Silent most phases.Reading r = more.not_more_yet
ticks Silent most phases.Applying r = made.not_made_yet
ticks Silent most phases.Waiting r = leaves.not_asked_yet

wishes : (Silent : Router → Type 0) (most : ℕ) (p : Phase) (r : Router)
    → old.IsServedBy Silent most p r events.Asked
wishes Silent most phases.Offline r = inr refl
wishes Silent most phases.Connecting r = inr (inl refl)
wishes Silent most phases.Asked r = answer.wished
wishes Silent most phases.Reading r = more.wished_inside
wishes Silent most phases.Applying r = made.wished_meanwhile
wishes Silent most phases.Waiting r = leaves.wished_then

sends :
    (Silent : Router → Type 0) (most : ℕ) (p : Phase) (r : Router) (x : Exchange) (e : Event)
    → r.phase ≡ p → Matches p r x
    → (r.phase ≡ phases.Asked → e ≡ events.Lost → (x.query.changes ≡ true) ⊎ Silent r)
    → DoesWell most r.settings x p e → old.IsServedBy Silent most p r e
sends Silent most phases.Offline r x e q y l w = absurd w
sends Silent most phases.Connecting r x e q y l w = inr (inr w)
sends Silent most phases.Asked r x e q y l w = asked_well Silent most r x e y.0 (l q) w
sends Silent most phases.Reading r x e q y l w = reads_well r x e y w
sends Silent most phases.Applying r x e q y l w = makes_well r x e y.0 w
sends Silent most phases.Waiting r x e q y l w = leaves_well r x e y w

serves :
    (Silent : Router → Type 0) (most : ℕ) (r : Router) (x : Exchange) (e : Event) → Matched r x
    → (r.phase ≡ phases.Asked → e ≡ events.Lost → (x.query.changes ≡ true) ⊎ Silent r)
    → IsServedBy most r.settings x e → old.IsServedBy Silent most r.phase r e
serves Silent most r x e y l (inl t) =
    subst (λ (e : Event). old.IsServedBy Silent most r.phase r e) (sym t)
    (ticks Silent most r.phase r)
serves Silent most r x e y l (inr (inl t)) =
    subst (λ (e : Event). old.IsServedBy Silent most r.phase r e) (sym t)
    (wishes Silent most r.phase r)
serves Silent most r x e y l (inr (inr w)) =
    sends Silent most r.phase r x e refl y.has l
    (subst (λ (p : Phase). DoesWell most r.settings x p e) y.phase w)

pub in_time : (r : Router) (x : Exchange) (n : ℕ) → Matched r x → ComesInTime x n → IsInTime r n
in_time r x n y w = (limited r.phase refl, λ q. before_made q)
  where
    before : (n a b : ℕ) → n < a → a ≡ b → n < b
    before n a b h e = omega arith

    until : (p : Phase) → r.phase ≡ p → IsLimited p → n < x.until
    until p q l = w (inl (subst (λ (p : Phase). IsLimited p) (sym (y.phase ∙ q)) l))

    limited : (p : Phase) → r.phase ≡ p → IsLimited r.phase → n < r.due
    limited phases.Connecting q l =
        before n x.until r.due (until phases.Connecting q tt) (from phases.Connecting r x q y).until
    limited phases.Asked q l =
        before n x.until r.due (until phases.Asked q tt) (from phases.Asked r x q y).1
    limited phases.Reading q l =
        before n x.until r.due (until phases.Reading q tt) (from phases.Reading r x q y).until
    limited phases.Offline q l = absurd (subst (λ (p : Phase). IsLimited p) q l)
    limited phases.Applying q l = absurd (subst (λ (p : Phase). IsLimited p) q l)
    limited phases.Waiting q l = absurd (subst (λ (p : Phase). IsLimited p) q l)

    before_made : r.phase ≡ phases.Applying → n < made_until r
    before_made q = before n x.until (made_until r) (w (inr (y.phase ∙ q)))
        (from phases.Applying r x q y).1

-- ---- whole runs

pub record Served (most : ℕ) (r₀ : Router) (start : ℕ) (r : Router) (x : Exchange) (n : ℕ) :
    Type 0 where
  pub run : old.IsServed most r₀ start r n
  pub matched : Matched r x
  pub spoken : r.floor ≤ x.spoken

heard_of : (r : Router) (x : Exchange) (e : Event) → Matched r x → r.phase ≡ phases.Asked
    → r.floor ≤ x.spoken → ClosesAbove x e → e ≡ events.Lost
    → (x.query.changes ≡ true) ⊎ IsAboveFloor r
heard_of r x e y q h w l = go (subst (λ (e : Event). ClosesAbove x e) l w)
  where
    above : (f s v w : ℕ) → f ≤ s → s < w → w ≡ v → f < v
    above f s v w h k e = omega arith

    go : (x.query.changes ≡ true) ⊎ (x.spoken < x.version)
        → (x.query.changes ≡ true) ⊎ IsAboveFloor r
    go (inl c) = inl c
    go (inr s) = inr (above r.floor x.spoken r.version x.version h s
        (from phases.Asked r x q y).0.version)

pub as_served :
    (most : ℕ) (r₀ : Router) (x₀ : Exchange) (start : ℕ) (r : Router) (x : Exchange) (n : ℕ)
    → Matched r₀ x₀ → r₀.floor ≤ x₀.spoken → IsBeside Unshown most r₀ x₀ start r x n
    → Served most r₀ start r x n
as_served most r₀ x₀ start r x n y h beside_from =
    record { run = serve.served_from; matched = y; spoken = h }
as_served most r₀ x₀ start r x n y h (beside_on r₁ x₁ n₁ n₂ e a r₂ run l t soon w went only) =
    let z : Served most r₀ start r₁ x₁ n₁ = as_served most r₀ x₀ start r₁ x₁ n₁ y h run in
    record {
      run = serve.served_on r₁ n₁ n₂ e a r₂ z.run l t (in_time r₁ x₁ n₂ z.matched soon)
          (serves IsAboveFloor most r₁ x₁ e z.matched
          (λ q. heard_of r₁ x₁ e z.matched q z.spoken only.1) w)
          went only.0;
      matched = matched_on n₂ e a r₁ r₂ x₁ went z.matched;
      spoken = spoken_on n₂ e a r₁ r₂ x₁ went.rule went.becomes only.0 z.spoken;
    }

pub record Stood (most : ℕ) (r₀ : Router) (start : ℕ) (r : Router) (x : Exchange) (n : ℕ) :
    Type 0 where
  pub run : old.IsBeside most r₀ start r n
  pub matched : Matched r x

pub as_beside :
    (Only : Exchange → Event → Action → Type 0) (most : ℕ) (r₀ : Router) (x₀ : Exchange)
    (start : ℕ) (r : Router) (x : Exchange) (n : ℕ)
    → Matched r₀ x₀ → IsBeside Only most r₀ x₀ start r x n → Stood most r₀ start r x n
as_beside Only most r₀ x₀ start r x n y beside_from =
    record { run = stand.beside_from; matched = y }
as_beside Only most r₀ x₀ start r x n y (beside_on r₁ x₁ n₁ n₂ e a r₂ run l t soon w went only) =
    let z : Stood most r₀ start r₁ x₁ n₁ = as_beside Only most r₀ x₀ start r₁ x₁ n₁ y run in
    record {
      run = stand.beside_on r₁ n₁ n₂ e a r₂ z.run l t (in_time r₁ x₁ n₂ z.matched soon)
          (serves AnyRouter most r₁ x₁ e z.matched (λ q f. inr tt) w) went;
      matched = matched_on n₂ e a r₁ r₂ x₁ went z.matched;
    }

-- ---- the laws

pub recovers_then :
    {B D : Type 0} (c : Caller B D) (ms : List (Moment B)) (r₀ : Router) (h : Host B D)
    (most spoken start : ℕ) (r : Router) (x : Exchange) (n : ℕ)
    → IsHistory c ms r₀ h → r₀.floor ≤ spoken
    → IsBeside Unshown most r₀ (record (exchanged c.settings ms) { spoken = spoken }) start r x n
    → n ≤ served_until r₀ start
recovers_then c ms r₀ h most spoken start r x n was f run =
    let y : Matched r₀ (record (exchanged c.settings ms) { spoken = spoken }) =
    spoken_as r₀ (exchanged c.settings ms) spoken (matched c ms r₀ h was) in
    recovers_after c ms r₀ h most start r n was
    (as_served most r₀ (record (exchanged c.settings ms) { spoken = spoken }) start r x n y f
    run).run

-- it isn't later while nothing happens to it either
pub acts_then :
    {B D : Type 0} (c : Caller B D) (ms : List (Moment B)) (r₀ : Router) (h : Host B D)
    (most spoken start : ℕ) (r : Router) (x : Exchange) (n : ℕ)
    → IsHistory c ms r₀ h → r₀.floor ≤ spoken
    → IsBeside Unshown most r₀ (record (exchanged c.settings ms) { spoken = spoken }) start r x n
    → max n (wakes_at r) ≤ served_until r₀ start
acts_then c ms r₀ h most spoken start r x n was f run =
    let y : Matched r₀ (record (exchanged c.settings ms) { spoken = spoken }) =
    spoken_as r₀ (exchanged c.settings ms) spoken (matched c ms r₀ h was) in
    acts_after c ms r₀ h most start r n was
    (as_served most r₀ (record (exchanged c.settings ms) { spoken = spoken }) start r x n y f
    run).run

pub recovers_from_offline :
    (most : ℕ) (r₀ : Router) (x₀ : Exchange) (start : ℕ) (r : Router) (x : Exchange) (n : ℕ)
    → r₀.phase ≡ phases.Offline → x₀.phase ≡ phases.Offline → r₀.floor ≤ x₀.spoken
    → IsBeside Unshown most r₀ x₀ start r x n → n ≤ served_until r₀ start
recovers_from_offline most r₀ x₀ start r x n off none f run =
    recovers_offline most r₀ start r n off
    (as_served most r₀ x₀ start r x n (at phases.Offline r₀ x₀ off none tt) f run).run

pub highest_then :
    {B D : Type 0} (c : Caller B D) (ms : List (Moment B)) (r₀ : Router) (h : Host B D)
    (most start : ℕ) (r : Router) (x : Exchange) (n n' : ℕ) (r' : Router)
    → IsHistory c ms r₀ h → r₀.phase ≡ phases.Offline → r₀.fell ≡ false
    → IsBeside AnyStep most r₀ (exchanged c.settings ms) start r x n
    → IsStep r n' events.Applied actions.Show r'
    → min c.settings.highest most ≤ r'.known.version
highest_then c ms r₀ h most start r x n n' r' was off fell run w =
    highest_of_both c ms r₀ h most start r n n' r' was off fell
    (as_beside AnyStep most r₀ (exchanged c.settings ms) start r x n (matched c ms r₀ h was)
    run).run
    w
