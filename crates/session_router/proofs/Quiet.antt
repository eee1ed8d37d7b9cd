-- Between two queries lies a reason, or the refresh time: an invariant about `due`.
use Rattle.std.proofs.Common.{◌≡◌, ◌≢◌, ◌⊎◌, ℕ, Bool, true, false, ◌+◌, ◌≤◌, min}
use Rattle.std.proofs.Common.{List, if◌then◌else◌, refl, sym, ap, ◌∙◌, subst, inl, inr, arith}
use Rattle.std.proofs.Common.{◌||◌, ◌&&◌, ◌==◌, not}
use Rattle.std.proofs.lemmas.Bool.{or_left, or_right}
use Rattle.session_router.specs.declared.head.Head.{Head}
use Rattle.session_router.specs.declared.head.Query.{Query}
use Rattle.session_router.specs.declared.settings.Settings.{Settings}
use Rattle.session_router.specs.declared.router.Router.{Router}
use Rattle.session_router.specs.declared.router.Phase.{Phase}
use Rattle.session_router.specs.declared.router.Phase.TheVariants as phases
use Rattle.session_router.specs.declared.event.Event.{Event}
use Rattle.session_router.specs.declared.event.Event.TheVariants as events
use Rattle.session_router.specs.declared.event.Action.{Action}
use Rattle.session_router.specs.declared.event.Action.TheVariants as actions
use Rattle.session_router.specs.Rules.{Asks, PassesOver, Rule, Waits}
use Rattle.session_router.specs.Pace.{Paces, PacesWait, due_waiting, has_more}
use Rattle.session_router.specs.Times.{refresh_ms}
use Rattle.session_router.specs.Histories.{Caller, Host, IsHistory, Moment}
use Rattle.session_router.specs.Histories.IsHistory.{run_begins, run_goes_on}
use Rattle.session_router.specs.Asking.{IsQuiet, IsTimed, QuietHere, has_reason, is_notify}
use Rattle.session_router.specs.Asking.{is_reason}
use Rattle.session_router.specs.Asking.{latest, reason_after, refresh_after, refresh_at}
use Rattle.session_router.proofs.Settled.{settled}

-- what a notify says is kept, so it is a reason
abbrev Noted : Router → Bool → Type 0
Noted r reason = r.noted ≡ true → reason ≡ true

record Whole (s : Settings) (r : Router) (reason : Bool) (refresh t : ℕ) : Type 0 where
  noted : Noted r reason
  runs : refresh ≡ r.came + refresh_ms s r.answer
  came : r.came ≤ t

abbrev At : Phase → Settings → Router → (reason : Bool) → (refresh t : ℕ) → Type 0
At phases.Offline s r reason refresh t = reason ≡ true
At phases.Connecting s r reason refresh t = reason ≡ true
At phases.Asked s r reason refresh t = Noted r reason
At phases.Reading s r reason refresh t = Noted r reason
At phases.Applying s r reason refresh t = Whole s r reason refresh t
At phases.Waiting s r reason refresh t = (reason ≡ true) ⊎ (refresh ≤ r.due)

to_phase : (p : Phase) (s : Settings) (r : Router) (reason : Bool) (refresh t : ℕ) → r.phase ≡ p
    → At p s r reason refresh t → At r.phase s r reason refresh t
to_phase p s r reason refresh t e y = subst (λ (p : Phase). At p s r reason refresh t) (sym e) y

at_phase : (p : Phase) (s : Settings) (r : Router) (reason : Bool) (refresh t : ℕ) → r.phase ≡ p
    → At r.phase s r reason refresh t → At p s r reason refresh t
at_phase p s r reason refresh t e y = subst (λ (p : Phase). At p s r reason refresh t) e y

-- a reason stays
more : (b reason : Bool) → reason ≡ true → (b || reason) ≡ true
more b reason e = or_right b reason e

noted_more : (b : Bool) (r r' : Router) (reason : Bool) → r'.noted ≡ r.noted → Noted r reason
    → Noted r' (b || reason)
noted_more b r r' reason e y f = more b reason (y (sym e ∙ f))

-- ---- nothing is done

-- what comes while a query is out, an answer is read or the router waits is a notify
heard : (p : Phase) (r : Router) (u : Head) → r.phase ≡ p → p ≢ phases.Offline
    → p ≢ phases.Connecting → PassesOver r (events.Came u) → is_notify u.kind ≡ true
heard p r u q x y (inl f) = absurd (x (sym q ∙ f))
heard p r u q x y (inr (inl f)) = absurd (y (sym q ∙ f))
heard p r u q x y (inr (inr f)) = ap is_notify f.1

-- a notify is a reason, and nothing else is noted
wait_noted : (p : Phase) (e : Event) (r r' : Router) (reason : Bool) → r.phase ≡ p
    → p ≢ phases.Offline → p ≢ phases.Connecting → Waits r e r' → Noted r reason
    → Noted r' (is_reason e actions.Wait || reason)
wait_noted p (events.Came u) r r' reason q x z w y = λ f.
    or_left (is_notify u.kind) reason (heard p r u q x z w.passes)
wait_noted p events.Tick r r' reason q x z w y =
    noted_more (is_reason events.Tick actions.Wait) r r' reason w.notes.0 y
wait_noted p events.Asked r r' reason q x z w y =
    noted_more (is_reason events.Asked actions.Wait) r r' reason w.notes.0 y
wait_noted p events.Connected r r' reason q x z w y =
    noted_more (is_reason events.Connected actions.Wait) r r' reason w.notes.0 y
wait_noted p events.Lost r r' reason q x z w y =
    noted_more (is_reason events.Lost actions.Wait) r r' reason w.notes.0 y
wait_noted p (events.Faulty f) r r' reason q x z w y =
    noted_more (is_reason (events.Faulty f) actions.Wait) r r' reason w.notes.0 y
wait_noted p events.Applied r r' reason q x z w y =
    noted_more (is_reason events.Applied actions.Wait) r r' reason w.notes.0 y
wait_noted p (events.NotApplied code) r r' reason q x z w y =
    noted_more (is_reason (events.NotApplied code) actions.Wait) r r' reason w.notes.0 y

due_by : (d d' x : ℕ) → d' ≡ d → x ≤ d → x ≤ d'
due_by d d' x e h = omega arith

-- while it waits nothing else makes it ask sooner
still_due : (b : Bool) (r r' : Router) (reason : Bool) (refresh : ℕ) → r'.due ≡ r.due
    → (reason ≡ true) ⊎ (refresh ≤ r.due) → ((b || reason) ≡ true) ⊎ (refresh ≤ r'.due)
still_due b r r' reason refresh e (inl y) = inl (more b reason y)
still_due b r r' reason refresh e (inr y) = inr (due_by r.due r'.due refresh e y)

wait_due : (e : Event) (r r' : Router) (n : ℕ) (reason : Bool) (refresh : ℕ)
    → r.phase ≡ phases.Waiting → Waits r e r' → r'.due ≡ due_waiting phases.Waiting r n e
    → (reason ≡ true) ⊎ (refresh ≤ r.due)
    → ((is_reason e actions.Wait || reason) ≡ true) ⊎ (refresh ≤ r'.due)
wait_due (events.Came u) r r' n reason refresh q w d y =
    inl (or_left (is_notify u.kind) reason
    (heard phases.Waiting r u q (λ f. cc) (λ f. cc) w.passes))
wait_due events.Asked r r' n reason refresh q w d y = inl (or_left true reason refl)
wait_due events.Tick r r' n reason refresh q w d y =
    still_due (is_reason events.Tick actions.Wait) r r' reason refresh d y
wait_due events.Connected r r' n reason refresh q w d y =
    still_due (is_reason events.Connected actions.Wait) r r' reason refresh d y
wait_due events.Lost r r' n reason refresh q w d y =
    still_due (is_reason events.Lost actions.Wait) r r' reason refresh d y
wait_due (events.Faulty f) r r' n reason refresh q w d y =
    still_due (is_reason (events.Faulty f) actions.Wait) r r' reason refresh d y
wait_due events.Applied r r' n reason refresh q w d y =
    still_due (is_reason events.Applied actions.Wait) r r' reason refresh d y
wait_due (events.NotApplied code) r r' n reason refresh q w d y =
    still_due (is_reason (events.NotApplied code) actions.Wait) r r' reason refresh d y

came_same : (s : Settings) (r r' : Router) (refresh t n : ℕ) → t ≤ n → r'.came ≡ r.came
    → r'.answer ≡ r.answer → refresh ≡ r.came + refresh_ms s r.answer → r.came ≤ t
    → (refresh ≡ r'.came + refresh_ms s r'.answer) × (r'.came ≤ n)
came_same s r r' refresh t n l c a e h = (
  e ∙ subst (λ k. r.came + refresh_ms s r.answer ≡ r.came + refresh_ms s k) (sym a) refl
      ∙ ap (λ (x : ℕ). x + refresh_ms s r'.answer) (sym c),
  later r.came r'.came t n c h l,
)
  where
    later : (c c' t n : ℕ) → c' ≡ c → c ≤ t → t ≤ n → c' ≤ n
    later c c' t n e h k = omega arith

wait_at : (p : Phase) (s : Settings) (e : Event) (r r' : Router) (t n : ℕ) (reason : Bool)
    (refresh : ℕ) → r.phase ≡ p → t ≤ n → Waits r e r' → PacesWait r n e r'
    → At p s r reason refresh t
    → At p s r' (is_reason e actions.Wait || reason) refresh n
wait_at phases.Offline s e r r' t n reason refresh q l w d y =
    more (is_reason e actions.Wait) reason y
wait_at phases.Connecting s e r r' t n reason refresh q l w d y =
    more (is_reason e actions.Wait) reason y
wait_at phases.Asked s e r r' t n reason refresh q l w d y =
    wait_noted phases.Asked e r r' reason q (λ f. cc) (λ f. cc) w y
wait_at phases.Reading s e r r' t n reason refresh q l w d y =
    wait_noted phases.Reading e r r' reason q (λ f. cc) (λ f. cc) w y
wait_at phases.Applying s e r r' t n reason refresh q l w d y =
    let z : (refresh ≡ r'.came + refresh_ms s r'.answer) × (r'.came ≤ n) =
    came_same s r r' refresh t n l w.talk.came w.talk.answer y.runs y.came in
    record {
      noted = wait_noted phases.Applying e r r' reason q (λ f. cc) (λ f. cc) w y.noted;
      runs = z.0;
      came = z.1;
    }
wait_at phases.Waiting s e r r' t n reason refresh q l w d y =
    wait_due e r r' n reason refresh q w
    (d.due ∙ ap (λ (p : Phase). due_waiting p r n e) q) y

-- ---- each action

record Stepped (s : Settings) (e : Event) (a : Action) (reason : Bool) (refresh : ℕ) (r' : Router)
    (n : ℕ) : Type 0 where
  here : QuietHere a e refresh n reason
  after : At r'.phase s r' (reason_after a e reason) (refresh_after a e s n refresh) n

-- none is noted where a query goes out
none_noted : (r : Router) (reason : Bool) → r.noted ≡ false → Noted r reason
none_noted r reason f e = cc

ask_here : (e : Event) (q : Query) (s : Settings) (r r' : Router) (t n : ℕ) (reason : Bool)
    (refresh : ℕ) → Asks r n e q r' → At r.phase s r reason refresh t
    → QuietHere (actions.Ask q) e refresh n reason
ask_here (events.Came u) q s r r' t n reason refresh w y = w.may.2
ask_here events.Connected q s r r' t n reason refresh w y =
    inl (at_phase phases.Connecting s r reason refresh t w.may.0 y)
ask_here events.Tick q s r r' t n reason refresh w y =
    go (at_phase phases.Waiting s r reason refresh t w.may.0 y)
  where
    through : (a b c : ℕ) → a ≤ b → b ≤ c → a ≤ c
    through a b c h k = omega arith

    go : (reason ≡ true) ⊎ (refresh ≤ r.due) → (reason ≡ true) ⊎ (refresh ≤ n)
    go (inl x) = inl x
    go (inr x) = inr (through refresh r.due n x w.may.4)
ask_here events.Lost q s r r' t n reason refresh w y = absurd w.may
ask_here events.Asked q s r r' t n reason refresh w y = absurd w.may
ask_here (events.Faulty f) q s r r' t n reason refresh w y = absurd w.may
ask_here events.Applied q s r r' t n reason refresh w y = absurd w.may
ask_here (events.NotApplied code) q s r r' t n reason refresh w y = absurd w.may

-- data came: a notify said that there are more, or the refresh time runs from their receipt
show_due : (b : Bool) (s : Settings) (r : Router) (reason : Bool) (refresh t n d : ℕ)
    → has_more r ≡ b → r.settings ≡ s → t ≤ n
    → d ≡ (if b then n else min r.came n + refresh_ms r.settings r.answer)
    → Whole s r reason refresh t
    → (reason ≡ true) ⊎ (refresh ≤ d)
show_due true s r reason refresh t n d m g l e y = inl (y.noted (noted_then r.noted m))
  where
    noted_then : (x : Bool) → (x && not (r.note == r.answer.serial)) ≡ true → x ≡ true
    noted_then true f = refl
    noted_then false f = f
show_due false s r reason refresh t n d m g l e y =
    inr (reached r.came (refresh_ms s r.answer) refresh t n d
    (e ∙ ap (λ (x : Settings). min r.came n + refresh_ms x r.answer) g) y.runs y.came l)
  where
    reached : (c x f t n d : ℕ) → d ≡ min c n + x → f ≡ c + x → c ≤ t → t ≤ n → f ≤ d
    reached c x f t n d e h k l = omega arith

step :
    (s : Settings) (e : Event) (a : Action) (r r' : Router) (t n : ℕ) (reason : Bool)
    (refresh : ℕ) → r.settings ≡ s → t ≤ n → Rule r n e a r' → Paces r n e a r'
    → At r.phase s r reason refresh t → Stepped s e a reason refresh r' n
step s e actions.Wait r r' t n reason refresh g l w d y = record {
  here = tt;
  after = to_phase r.phase s r' (is_reason e actions.Wait || reason) refresh n w.talk.phase
      (wait_at r.phase s e r r' t n reason refresh refl l w d y);
}
step s e actions.Drop r r' t n reason refresh g l w d y = record {
  here = tt;
  after = to_phase phases.Offline s r' (is_reason e actions.Drop || reason) refresh n w.phase
      (more (is_reason e actions.Drop) reason
      (at_phase phases.Offline s r reason refresh t w.from y));
}
step s e (actions.End z) r r' t n reason refresh g l w d y = record {
  here = tt;
  after = to_phase phases.Offline s r' true refresh n w.phase refl;
}
step s e (actions.Ask q) r r' t n reason refresh g l w d y = record {
  here = ask_here e q s r r' t n reason refresh w y;
  after = to_phase phases.Asked s r' false refresh n w.phase (none_noted r' false w.noted);
}
step s events.Tick actions.Connect r r' t n reason refresh g l w d y = record {
  here = tt;
  after = to_phase phases.Connecting s r' reason refresh n w.phase
      (at_phase phases.Offline s r reason refresh t w.from y);
}
step s (events.Came u) actions.Begin r r' t n reason refresh g l w d y = record {
  here = tt;
  after = to_phase phases.Reading s r' (is_notify u.kind || reason) refresh n w.phase
      (noted_more (is_notify u.kind) r r' reason w.noted
      (at_phase phases.Asked s r reason refresh t w.from y));
}
step s (events.Came u) actions.Keep r r' t n reason refresh g l w d y = record {
  here = tt;
  after = to_phase phases.Reading s r' (is_notify u.kind || reason) refresh n
      (w.talk.phase ∙ w.phase)
      (noted_more (is_notify u.kind) r r' reason w.noted
      (at_phase phases.Reading s r reason refresh t w.phase y));
}
step s (events.Came u) (actions.Apply c) r r' t n reason refresh g l w d y = record {
  here = tt;
  after = to_phase phases.Applying s r' (is_notify u.kind || reason)
      (refresh_after (actions.Apply c) (events.Came u) s n refresh) n w.phase
      (record {
        noted = noted_more (is_notify u.kind) r r' reason w.noted
            (at_phase phases.Reading s r reason refresh t w.from y);
        runs = subst
            (λ k. n + refresh_ms s k ≡ r'.came + refresh_ms s r'.answer) w.answer
            (ap (λ (x : ℕ). x + refresh_ms s r'.answer) (sym w.came));
        came = least r'.came n w.came;
      });
}
  where
    least : (c n : ℕ) → c ≡ n → c ≤ n
    least c n e = omega arith
step s (events.Came u) actions.NoData r r' t n reason refresh g l w d y = record {
  here = tt;
  after = to_phase phases.Waiting s r' true refresh n w.phase (inl refl);
}
step s events.Applied actions.Show r r' t n reason refresh g l w d y = record {
  here = tt;
  after = to_phase phases.Waiting s r' reason refresh n w.phase
      (show_due (has_more r) s r reason refresh t n r'.due refl g l d.due
      (at_phase phases.Applying s r reason refresh t w.from y));
}
step s _ _ r r' t n reason refresh g l w d y = absurd w

record Goes {B : Type 0} (s : Settings) (ms : List (Moment B)) (r : Router) : Type 0 where
  all : IsQuiet s ms
  last : At r.phase s r (has_reason ms) (refresh_at s ms) (latest ms)

goes :
    {B D : Type 0} (c : Caller B D) (ms : List (Moment B)) (r : Router) (h : Host B D)
    → IsHistory c ms r h → IsTimed ms → Goes c.settings ms r
goes c ms r h (run_begins r₀ new) timed = record {
  all = tt;
  last = to_phase phases.Offline c.settings r₀ true 0 0 new.phase refl;
}
goes c ms r h (run_goes_on n b e a r' ms₀ r₀ h₀ run said went) timed =
    let y : Goes c.settings ms₀ r₀ = goes c ms₀ r₀ h₀ run timed.2 in
    let z : Stepped c.settings e a (has_reason ms₀) (refresh_at c.settings ms₀) r' n =
    step c.settings e a r₀ r' (latest ms₀) n (has_reason ms₀) (refresh_at c.settings ms₀)
    (settled c ms₀ r₀ h₀ run) timed.0 went.rule went.paces y.last in
    record { all = (z.here, y.all); last = z.after }

pub quiet :
    {B D : Type 0} (c : Caller B D) (ms : List (Moment B)) (r : Router) (h : Host B D)
    → IsHistory c ms r h → IsTimed ms → IsQuiet c.settings ms
quiet c ms r h run timed = (goes c ms r h run timed).all
