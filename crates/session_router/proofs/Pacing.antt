-- How often a router asks: an invariant about its last query.
use Rattle.std.proofs.Common.{◌≡◌, ◌⊎◌, ℕ, Bool, true, false, ◌+◌, ◌-◌, ◌*◌, ◌<◌, ◌≤◌}
use Rattle.std.proofs.Common.{min, max}
use Rattle.std.proofs.Common.{Option, Some, None, List, if◌then◌else◌, refl, sym, ap, ◌∙◌}
use Rattle.std.proofs.Common.{subst, inl, inr, arith, ◌||◌, nat_le}
use Rattle.std.proofs.lemmas.Bool.{leb-true}
use Rattle.session_router.specs.declared.head.Query.{Query}
use Rattle.session_router.specs.declared.settings.Settings.{Settings}
use Rattle.session_router.specs.declared.router.Router.{Router}
use Rattle.session_router.specs.declared.router.Phase.{Phase}
use Rattle.session_router.specs.declared.router.Phase.TheVariants as phases
use Rattle.session_router.specs.declared.event.Event.{Event}
use Rattle.session_router.specs.declared.event.Event.TheVariants as events
use Rattle.session_router.specs.declared.event.Action.{Action}
use Rattle.session_router.specs.declared.event.Action.TheVariants as actions
use Rattle.session_router.specs.declared.event.Ending.{Ending}
use Rattle.session_router.specs.declared.event.Cause.{Cause}
use Rattle.session_router.specs.declared.event.Cause.TheVariants as causes
use Rattle.session_router.specs.Rules.{Asks, ClosesBy, Connects, Loses, Rule, Waits}
use Rattle.session_router.specs.Rules.{awaits_changes, query}
use Rattle.session_router.specs.Pace.{Paces, PacesAsk, PacesDrop, PacesEnd, PacesWait}
use Rattle.session_router.specs.Pace.{due_waiting, grows, grows_slow, rest, soonest}
use Rattle.session_router.specs.Histories.{Caller, Host, IsHistory, Moment}
use Rattle.session_router.specs.Histories.IsHistory.{run_begins, run_goes_on}
use Rattle.session_router.specs.Asking.{Asking, IsPaced, IsTimed, PacedHere, asked_last, last_query}
use Rattle.session_router.specs.Asking.{latest}
use Rattle.session_router.specs.Asking.{weight}
use Rattle.session_router.proofs.Settled.{ends_settled, settled}
use Rattle.session_router.proofs.Acting.{lower}

record Fell (x : Asking) (r : Router) : Type 0 where
  fell : r.fell ≡ true
  version : r.version < x.query.version

record SameAsked (x : Asking) (r : Router) : Type 0 where
  version : r.version ≡ x.query.version
  changes : r.changes ≡ x.query.changes

abbrev At : Phase → ℕ → Asking → Router → ℕ → Type 0
At phases.Offline p x r t = Fell x r ⊎ (x.at + p ≤ r.due)
At phases.Connecting p x r t = (p ≤ t - x.at) ⊎ (r.version < x.query.version)
At phases.Asked p x r t = SameAsked x r
At phases.Reading p x r t = Unit {0}
At phases.Applying p x r t = Unit {0}
At phases.Waiting p x r t = Unit {0}

-- what holds of the last query, where p is the pause
record Since (p : ℕ) (x : Asking) (r : Router) (t : ℕ) : Type 0 where
  asked : r.asked ≡ x.at
  since : x.at ≤ t
  there : At r.phase p x r t

abbrev Last : ℕ → Option Asking → Router → ℕ → Type 0
Last p None r t = Unit {0}
Last p (Some x) r t = Since p x r t

-- ---- arithmetic

later : (a t n p : ℕ) → t ≤ n → p ≤ t - a → p ≤ n - a
later a t n p h k = omega arith

rested : (a t n p d : ℕ) → a ≤ t → t ≤ n → n + p ≤ d → a + p ≤ d
rested a t n p d h k m = omega arith

paused : (a n p d : ℕ) → a + p ≤ d → d ≤ n → p ≤ n - a
paused a n p d h m = omega arith

sooner : (a t n p d d' : ℕ) → a ≤ t → t ≤ n → d' ≡ min d (n + p) → a + p ≤ d → a + p ≤ d'
sooner a t n p d d' h k e m = omega arith

due_by : (a d d' : ℕ) → d' ≡ d → a ≤ d → a ≤ d'
due_by a d d' e h = omega arith

lt_by : (a b c : ℕ) → a ≡ b → b < c → a < c
lt_by a b c e h = omega arith

lt_to : (a b c : ℕ) → b ≡ c → a < b → a < c
lt_to a b c e h = omega arith

le_then : (a t n : ℕ) → a ≤ t → t ≤ n → a ≤ n
le_then a t n h k = omega arith

le_self : (n : ℕ) → n ≤ n
le_self n = omega arith

-- ---- weights

lower_weighs : (v w : ℕ) (c d : Bool) → v < w
    → 2 * v + (if c then 1 else 0) < 2 * w + (if d then 1 else 0)
lower_weighs v w true true h = omega arith
lower_weighs v w true false h = omega arith
lower_weighs v w false true h = omega arith
lower_weighs v w false false h = omega arith

reset_weighs : (v w : ℕ) (c d : Bool) → v ≡ w → c ≡ false → d ≡ true
    → 2 * v + (if c then 1 else 0) < 2 * w + (if d then 1 else 0)
reset_weighs v w true d e f g = cc
reset_weighs v w false true e f g = omega arith
reset_weighs v w false false e f g = cc

-- a query, by whether it asks for changes
abbrev pub query_by : Router → Bool → Query
query_by r b =
    if b
    then record {
      changes = true;
      version = r.version;
      session = r.known.session;
      serial = r.known.serial;
    }
    else record { changes = false; version = r.version; session = 0; serial = 0 }

pub query_version : (r : Router) (b : Bool) → r.changes ≡ b → (query r).version ≡ r.version
query_version r true e = ap (λ (b : Bool). (query_by r b).version) e
query_version r false e = ap (λ (b : Bool). (query_by r b).version) e

pub query_changes : (r : Router) (b : Bool) → r.changes ≡ b → (query r).changes ≡ b
query_changes r true e = ap (λ (b : Bool). (query_by r b).changes) e
query_changes r false e = ap (λ (b : Bool). (query_by r b).changes) e

-- ---- each action

-- a caller's wish makes no connection within a pause of the last query
wished_later :
    (b : Bool) (a k p n : ℕ) → nat_le p (n - max a k) ≡ b → a ≤ n
    → a + p ≤ (if b then n else n + p)
wished_later true a k p n e h = paused_max p a k n (leb-true p (n - max a k) e) h
  where
    paused_max : (p a k n : ℕ) → p ≤ n - max a k → a ≤ n → a + p ≤ n
    paused_max p a k n h l = omega arith
wished_later false a k p n e h = more a n p h
  where
    more : (a n p : ℕ) → a ≤ n → a + p ≤ n + p
    more a n p h = omega arith

least_of_two : (a d m d' : ℕ) → d' ≡ min d m → a ≤ d → a ≤ m → a ≤ d'
least_of_two a d m d' e h k = omega arith

-- without a connection nothing but a wish makes it act sooner, and not within a pause
due_offline :
    (p : ℕ) (x : Asking) (r r' : Router) (t n : ℕ) (e : Event) → r.settings.pause ≡ p
    → r.asked ≡ x.at → x.at ≤ t → t ≤ n → r'.due ≡ due_waiting phases.Offline r n e
    → x.at + p ≤ r.due → x.at + p ≤ r'.due
due_offline p x r r' t n events.Asked g k a l d y =
    least_of_two (x.at + p) r.due (soonest r n) r'.due d y
    (subst (λ (p : ℕ). x.at + p ≤ soonest r n) g
    (subst (λ (a : ℕ). a + r.settings.pause ≤ soonest r n) k
    (wished_later (nat_le r.settings.pause (n - max r.asked r.tried)) r.asked r.tried
    r.settings.pause n refl (before r.asked x.at t n k a l))))
  where
    before : (b a t n : ℕ) → b ≡ a → a ≤ t → t ≤ n → b ≤ n
    before b a t n e h k = omega arith
due_offline p x r r' t n (events.Came u) g k a l d y = due_by (x.at + p) r.due r'.due d y
due_offline p x r r' t n events.Connected g k a l d y = due_by (x.at + p) r.due r'.due d y
due_offline p x r r' t n events.Tick g k a l d y = due_by (x.at + p) r.due r'.due d y
due_offline p x r r' t n events.Lost g k a l d y = due_by (x.at + p) r.due r'.due d y
due_offline p x r r' t n (events.Faulty f) g k a l d y = due_by (x.at + p) r.due r'.due d y
due_offline p x r r' t n events.Applied g k a l d y = due_by (x.at + p) r.due r'.due d y
due_offline p x r r' t n (events.NotApplied code) g k a l d y =
    due_by (x.at + p) r.due r'.due d y

wait_at :
    (f : Phase) (p : ℕ) (x : Asking) (e : Event) (r r' : Router) (t n : ℕ) → r.phase ≡ f
    → r.settings.pause ≡ p → r.asked ≡ x.at → x.at ≤ t → t ≤ n
    → Waits r e r' → PacesWait r n e r' → At f p x r t → At f p x r' n
wait_at phases.Offline p x e r r' t n q g k a l w d (inl y) = inl (record {
  fell = d.same.fell ∙ y.fell;
  version = lt_by r'.version r.version x.query.version w.talk.version y.version;
})
wait_at phases.Offline p x e r r' t n q g k a l w d (inr y) =
    inr (due_offline p x r r' t n e g k a l
    (d.due ∙ ap (λ (f : Phase). due_waiting f r n e) q) y)
wait_at phases.Connecting p x e r r' t n q g k a l w d (inl y) = inl (later x.at t n p l y)
wait_at phases.Connecting p x e r r' t n q g k a l w d (inr y) =
    inr (lt_by r'.version r.version x.query.version w.talk.version y)
wait_at phases.Asked p x e r r' t n q g k a l w d y = record {
  version = w.talk.version ∙ y.version;
  changes = w.talk.changes ∙ y.changes;
}
wait_at phases.Reading p x e r r' t n q g k a l w d y = tt
wait_at phases.Applying p x e r r' t n q g k a l w d y = tt
wait_at phases.Waiting p x e r r' t n q g k a l w d y = tt

-- the last query is the same, and what holds of it in the new phase is known
on :
    (last : Option Asking) (p : ℕ) (f : Phase) (r r' : Router) (t n : ℕ) → t ≤ n
    → r'.phase ≡ f → r'.asked ≡ r.asked
    → ((x : Asking) → r.asked ≡ x.at → x.at ≤ t → At r.phase p x r t → At f p x r' n)
    → Last p last r t → Last p last r' n
on None p f r r' t n l q e go y = tt
on (Some x) p f r r' t n l q e go y = record {
  asked = e ∙ y.asked;
  since = le_then x.at t n y.since l;
  there = subst (λ (f : Phase). At f p x r' n) (sym q) (go x y.asked y.since y.there);
}

at_phase : (f : Phase) (p : ℕ) (x : Asking) (r : Router) (t : ℕ) → r.phase ≡ f → At r.phase p x r t
    → At f p x r t
at_phase f p x r t e y = subst (λ (f : Phase). At f p x r t) e y

drop_at :
    (p : ℕ) (r r' : Router) (t n : ℕ) → r.settings.pause ≡ p → t ≤ n → Loses r r' → PacesDrop r n r'
    → (x : Asking) → x.at ≤ t → At phases.Offline p x r t → At phases.Offline p x r' n
drop_at p r r' t n g l w d x a (inl y) = inl (record {
  fell = d.fell ∙ y.fell;
  version = lt_by r'.version r.version x.query.version w.version y.version;
})
drop_at p r r' t n g l w d x a (inr y) =
    inr (sooner x.at t n p r.due r'.due a l (d.due ∙ ap (λ (x : ℕ). min r.due (n + x)) g) y)

connect_at :
    (p : ℕ) (r r' : Router) (t n : ℕ) → Connects r n r'
    → (x : Asking) → x.at ≤ t → At phases.Offline p x r t → At phases.Connecting p x r' n
connect_at p r r' t n w x a (inl y) =
    inr (lt_by r'.version r.version x.query.version
    (w.version ∙ ap (λ (b : Bool). if b then r.version else r.settings.highest) y.fell) y.version)
connect_at p r r' t n w x a (inr y) = inl (paused x.at n p r.due y w.due)

-- a failure is followed by a pause at least
rest_most : (r : Router) (x : ℕ) → r.settings.pause ≤ max r.settings.pause x
rest_most r x = omega arith

pause_least : (b : Bool) (a m : ℕ) → a ≤ m → a ≤ (if b then a else m)
pause_least true a m h = le_self a
pause_least false a m h = h

after_failure : (a t n p d m : ℕ) → a ≤ t → t ≤ n → p ≤ m → d ≡ n + m → a + p ≤ d
after_failure a t n p d m h k l e = omega arith

end_at :
    (y : Cause) (p : ℕ) (e : Event) (z : Ending) (r r' : Router) (t n : ℕ) → r.settings.pause ≡ p
    → t ≤ n → ClosesBy y r e z r' → PacesEnd y r n z r'
    → (x : Asking) → r.asked ≡ x.at → x.at ≤ t → At r.phase p x r t → At phases.Offline p x r' n
end_at causes.Lower p e z r r' t n g l w d x k a y =
    let asked : SameAsked x r = at_phase phases.Asked p x r t w.from y in
    inl (record {
      fell = d.fell;
      version = lt_to r'.version r.version x.query.version asked.version (lower r r' e w.over);
    })
end_at causes.Higher p e z r r' t n g l w d x k a y =
    inr (paused_then x.at n p r'.due
    (subst (λ (p : ℕ). p ≤ n - x.at) g (subst (λ (a : ℕ). r.settings.pause ≤ n - a) k d.pause))
    (le_then x.at t n a l) d.due)
  where
    paused_then : (a n p d : ℕ) → p ≤ n - a → a ≤ n → d ≡ n → a + p ≤ d
    paused_then a n p d h l e = omega arith
end_at causes.Slow p e z r r' t n g l w d x k a y =
    inr (after_failure x.at t n p r'.due (rest (grows_slow r) r) a l
    (subst (λ (x : ℕ). x ≤ rest (grows_slow r) r) g (rest_most r _)) d.due)
end_at _ p e z r r' t n g l w d x k a y =
    inr (after_failure x.at t n p r'.due
    (if z.drop || awaits_changes r then r.settings.pause else rest (grows r) r) a l
    (subst
    (λ (x : ℕ). x ≤ (if z.drop || awaits_changes r then r.settings.pause else rest (grows r) r))
    g
    (pause_least (z.drop || awaits_changes r) r.settings.pause (rest (grows r) r) (rest_most r _)))
    d.due)

-- ---- queries

version_of :
    (e : Event) (q : Query) (r r' : Router) (n : ℕ) → Asks r n e q r' → q.version ≡ r.version
version_of e q r r' n w =
    ap (λ (q : Query). q.version) w.query ∙ query_version r' r'.changes refl ∙ w.version

-- the query that is sent is the last one
on_ask :
    (p : ℕ) (e : Event) (q : Query) (r r' : Router) (n : ℕ) → Asks r n e q r' → PacesAsk r n e r'
    → Since p (record { query = q; at = n }) r' n
on_ask p e q r r' n w d = record {
  asked = d.asked;
  since = le_self n;
  there = subst (λ (f : Phase). At f p (record { query = q; at = n }) r' n) (sym w.phase) (record {
    version = sym (ap (λ (q : Query). q.version) w.query ∙ query_version r' r'.changes refl);
    changes = sym (ap (λ (q : Query). q.changes) w.query ∙ query_changes r' r'.changes refl);
  });
}

-- it comes after a pause, or weighs less
connected :
    (p : ℕ) (q : Query) (x : Asking) (r r' : Router) (t n : ℕ) → t ≤ n
    → Asks r n events.Connected q r' → At phases.Connecting p x r t
    → (p ≤ n - x.at) ⊎ (weight q < weight x.query)
connected p q x r r' t n l w (inl y) = inl (later x.at t n p l y)
connected p q x r r' t n l w (inr y) =
    inr (lower_weighs q.version x.query.version q.changes x.query.changes
    (lt_by q.version r.version x.query.version (version_of events.Connected q r r' n w) y))

here :
    (p : ℕ) (e : Event) (q : Query) (last : Option Asking) (r r' : Router) (t n : ℕ)
    → r.settings.pause ≡ p → t ≤ n → Asks r n e q r' → Last p last r t
    → PacedHere p (actions.Ask q) n last
here p e q None r r' t n g l w y = tt
here p (events.Came u) q (Some x) r r' t n g l w y =
    let z : SameAsked x r = at_phase phases.Asked p x r t w.may.0 y.there in
    inr (reset_weighs q.version x.query.version q.changes x.query.changes
    (version_of (events.Came u) q r r' n w ∙ z.version)
    (ap (λ (q : Query). q.changes) w.query ∙ query_changes r' r'.changes refl ∙ w.may.4)
    (sym z.changes ∙ w.may.1))
here p events.Connected q (Some x) r r' t n g l w y =
    connected p q x r r' t n l w (at_phase phases.Connecting p x r t w.may.0 y.there)
here p events.Tick q (Some x) r r' t n g l w y =
    inl (subst (λ (z : ℕ). z ≤ n - x.at) g
    (subst (λ (a : ℕ). r.settings.pause ≤ n - a) y.asked w.may.1))
here p events.Lost q (Some x) r r' t n g l w y = absurd w.may
here p events.Asked q (Some x) r r' t n g l w y = absurd w.may
here p (events.Faulty f) q (Some x) r r' t n g l w y = absurd w.may
here p events.Applied q (Some x) r r' t n g l w y = absurd w.may
here p (events.NotApplied code) q (Some x) r r' t n g l w y = absurd w.may

record Stepped (p : ℕ) (last : Option Asking) (a : Action) (r' : Router) (n : ℕ) : Type 0 where
  here : PacedHere p a n last
  after : Last p (asked_last a n last) r' n

step :
    (p : ℕ) (e : Event) (a : Action) (last : Option Asking) (r r' : Router) (t n : ℕ)
    → r.settings.pause ≡ p → t ≤ n → Rule r n e a r' → Paces r n e a r' → Last p last r t
    → Stepped p last a r' n
step p e actions.Wait last r r' t n g l w d y = record {
  here = tt;
  after = on last p r.phase r r' t n l w.talk.phase d.same.asked
      (λ x k a z. wait_at r.phase p x e r r' t n refl g k a l w d z) y;
}
step p e actions.Drop last r r' t n g l w d y = record {
  here = tt;
  after = on last p phases.Offline r r' t n l w.phase d.asked
      (λ x k a z. drop_at p r r' t n g l w d x a (at_phase phases.Offline p x r t w.from z)) y;
}
step p e (actions.End z) last r r' t n g l w d y = record {
  here = tt;
  after = on last p phases.Offline r r' t n l w.phase (ends_settled z.cause z r r' n d).asked
      (λ x k a v. end_at z.cause p e z r r' t n g l w.by d x k a v) y;
}
step p e (actions.Ask q) last r r' t n g l w d y = record {
  here = here p e q last r r' t n g l w y;
  after = on_ask p e q r r' n w d;
}
step p events.Tick actions.Connect last r r' t n g l w d y = record {
  here = tt;
  after = on last p phases.Connecting r r' t n l w.phase d.asked
      (λ x k a z. connect_at p r r' t n w x a (at_phase phases.Offline p x r t w.from z)) y;
}
step p (events.Came u) actions.Begin last r r' t n g l w d y = record {
  here = tt;
  after = on last p phases.Reading r r' t n l w.phase d.same.asked (λ x k a z. tt) y;
}
step p (events.Came u) actions.Keep last r r' t n g l w d y = record {
  here = tt;
  after = on last p phases.Reading r r' t n l (w.talk.phase ∙ w.phase) d.same.asked
      (λ x k a z. tt) y;
}
step p (events.Came u) (actions.Apply c) last r r' t n g l w d y = record {
  here = tt;
  after = on last p phases.Applying r r' t n l w.phase d.same.asked (λ x k a z. tt) y;
}
step p (events.Came u) actions.NoData last r r' t n g l w d y = record {
  here = tt;
  after = on last p phases.Waiting r r' t n l w.phase d.same.asked (λ x k a z. tt) y;
}
step p events.Applied actions.Show last r r' t n g l w d y = record {
  here = tt;
  after = on last p phases.Waiting r r' t n l w.phase d.asked (λ x k a z. tt) y;
}
step p _ _ last r r' t n g l w d y = absurd w

record Goes {B : Type 0} (p : ℕ) (ms : List (Moment B)) (r : Router) : Type 0 where
  all : IsPaced p ms
  last : Last p (last_query ms) r (latest ms)

goes :
    {B D : Type 0} (c : Caller B D) (ms : List (Moment B)) (r : Router) (h : Host B D)
    → IsHistory c ms r h → IsTimed ms
    → Goes c.settings.pause ms r
goes c ms r h (run_begins r₀ new) timed = record { all = tt; last = tt }
goes c ms r h (run_goes_on n b e a r' ms₀ r₀ h₀ run said went) timed =
    let y : Goes c.settings.pause ms₀ r₀ = goes c ms₀ r₀ h₀ run timed.2 in
    let g : r₀.settings.pause ≡ c.settings.pause = ap (λ (s : Settings). s.pause)
    (settled c ms₀ r₀ h₀ run) in
    let s : Stepped c.settings.pause (last_query ms₀) a r' n =
    step c.settings.pause e a (last_query ms₀) r₀ r' (latest ms₀) n g timed.0 went.rule
    went.paces y.last in
    record { all = (s.here, y.all); last = s.after }

pub paced :
    {B D : Type 0} (c : Caller B D) (ms : List (Moment B)) (r : Router) (h : Host B D)
    → IsHistory c ms r h → IsTimed ms
    → IsPaced c.settings.pause ms
paced c ms r h run timed = (goes c ms r h run timed).all
