-- What a call tells a client's machine.
use native.Mathlib.Omega.{arith}
use Rattle.std.proofs.Common.{◌≡◌, ◌<◌, ◌≤◌, ℕ, Bool, true, false, length, refl, sym, ◌∙◌}
use Rattle.std.proofs.Common.{◌≢◌}
use Rattle.std.proofs.Common.{Option, Some, subst}
use Rattle.session_bytes.specs.Reading.{Awaits, Hears, fault_of}
use Rattle.session_bytes.specs.declared.telling.Told.{Told}
use Rattle.session_bytes.specs.declared.telling.Told.TheVariants as told
use Rattle.session_router.specs.declared.event.Action.{Action}
use Rattle.session_router.specs.declared.event.Action.TheVariants as actions
use Rattle.session_router.specs.Heeding.{IsTalking}
use Rattle.session_router.specs.Pace.{wakes_at}
use Rattle.session_router.specs.declared.event.Event.TheVariants as events
use Rattle.session_router.specs.declared.router.Phase.{Phase}
use Rattle.session_router.specs.declared.router.Phase.TheVariants as phases
use Rattle.session_router.specs.declared.router.Router.{Router}
use Rattle.std.proofs.Common.{◌+◌}
use Rattle.session_client.specs.Holding.{IsHearing, untold}
use Rattle.session_client.specs.Makings.{Octets}
use Rattle.session_client.specs.Tells.{IsTold, Word, action_of, of_bytes, of_itself, of_nothing}
use Rattle.session_client.specs.Turning.{HasAnswer}
use Rattle.session_client.specs.Words.{IsInTurn, IsOfChanges, IsOfClosed, IsOfEvent, IsOfInput}
use Rattle.session_client.specs.Words.{IsOfNext, IsOfNothing, IsOfOpened, IsOfRest}
use Rattle.session_client.specs.declared.client.Holding.{Holding}
use Rattle.session_client.specs.declared.client.Holding.TheVariants as holdings
use Rattle.session_client.specs.declared.client.Client.{Client}
use Rattle.session_client.proofs.Runs.{no_show}
use Rattle.session_client.proofs.Takes.{unit_shows_none}

pub of_input : (r : Router) (rest : Octets) (closed : Bool) (w : Word) → 0 < length rest →
    IsOfInput closed w → IsOfRest r rest closed w
of_input r rest closed of_nothing some is = absurd is
of_input r rest closed (of_itself e x) some is = absurd is
of_input r rest closed (of_bytes ended t) some is = (is, some)

pub of_closed : (r : Router) (rest : Octets) (closed : Bool) (w : Word) →
    Awaits r rest closed r → IsOfClosed closed w → IsOfRest r rest closed w
of_closed r rest closed of_nothing awaits is = (awaits, is)
of_closed r rest closed (of_itself e x) awaits is = (awaits, is)
of_closed r rest closed (of_bytes ended t) awaits is = absurd is

pub of_lost : (closed : Bool) (w : Word) → closed ≡ true → IsOfEvent events.Lost w →
    IsOfClosed closed w
of_lost closed of_nothing was is = absurd is
of_lost closed (of_itself e x) was is = (is, was)
of_lost closed (of_bytes ended t) was is = absurd is

pub of_connected : (p : Phase) (w : Word) → p ≡ phases.Connecting →
    IsOfEvent events.Connected w → IsOfOpened p w
of_connected p of_nothing at is = absurd is
of_connected p (of_itself e x) at is = (is, at)
of_connected p (of_bytes ended t) at is = absurd is

-- ---- at bytes nothing is shown

abbrev IsShow : Option Action → Type 0
IsShow (Some actions.Show) = Unit {0}
IsShow a = ⊥

show_only : (a : Action) → IsShow (Some a) → a ≢ actions.Show → ⊥
show_only actions.Show is other = other refl
show_only actions.Wait is other = is
show_only actions.Connect is other = is
show_only (actions.Ask q) is other = is
show_only actions.Begin is other = is
show_only actions.Keep is other = is
show_only (actions.Apply on) is other = is
show_only actions.NoData is other = is
show_only actions.Drop is other = is
show_only (actions.End x) is other = is

told_no_show : (now : ℕ) (r : Router) (rest : Octets) (ended : Bool) (t : Told) (r' : Router) →
    Hears r now rest ended t r' → IsShow (action_of t) → ⊥
told_no_show now r rest ended told.Awaits r' hears is = is
told_no_show now r rest ended (told.Kept k) r' hears is = is
told_no_show now r rest ended (told.Acted start end a) r' hears is =
    show_only a is (unit_shows_none now start end rest a r r' hears)
told_no_show now r rest ended (told.Refused e a) r' hears is =
    show_only a is
    (no_show r now (events.Faulty (fault_of rest e)) a r' (λ other. cc) hears.step.rule)

pub bytes_no_show : (now : ℕ) (r : Router) (rest after : Octets) (closed : Bool) (w : Word)
    (a : Action) (r' : Router) → IsTold w now r rest after (Some a) r' → IsOfInput closed w →
    a ≢ actions.Show
bytes_no_show now r rest after closed of_nothing a r' x input is = input
bytes_no_show now r rest after closed (of_itself e y) a r' x input is = input
bytes_no_show now r rest after closed (of_bytes ended t) a r' x input is =
    told_no_show now r rest ended t r' x.1
    (subst IsShow x.0 (subst (λ b. IsShow (Some b)) (sym is) tt))

-- ---- in turn

module _ (now : ℕ) (k : Client) (input : Octets) (w : Word) where
  late : wakes_at k.router ≤ now → now < wakes_at k.router → ⊥
  late due early = omega (arith, due, early)

  both : k.opened ≡ true → k.opened ≡ false → ⊥
  both is none = let e : true ≡ false = sym is ∙ none in cc

  pub turn_due : wakes_at k.router ≤ now → IsOfEvent events.Tick w → IsInTurn now k input w
  turn_due due is = record {
    due = λ due'. is;
    opened = λ early. absurd (late due early);
    rest = λ early. absurd (late due early);
    closed = λ early. absurd (late due early);
  }

  pub turn_opened : now < wakes_at k.router → k.opened ≡ true →
      IsOfOpened k.router.phase w → IsInTurn now k input w
  turn_opened early opened is = record {
    due = λ due. absurd (late due early);
    opened = λ early' opened'. is;
    rest = λ early' none. absurd (both opened none);
    closed = λ early' none. absurd (both opened none);
  }

  pub turn_rest : now < wakes_at k.router → k.opened ≡ false → IsTalking k.router →
      IsOfRest k.router (untold k input) k.closed w → IsInTurn now k input w
  turn_rest early none talks is = record {
    due = λ due. absurd (late due early);
    opened = λ early' opened. absurd (both opened none);
    rest = λ early' none' talks'. is;
    closed = λ early' none' alone. absurd (alone talks);
  }

  pub turn_closed : now < wakes_at k.router → k.opened ≡ false → (IsTalking k.router → ⊥) →
      IsOfClosed k.closed w → IsInTurn now k input w
  turn_closed early none alone is = record {
    due = λ due. absurd (late due early);
    opened = λ early' opened. absurd (both opened none);
    rest = λ early' none' talks. absurd (alone talks);
    closed = λ early' none' alone'. is;
  }

-- ---- of a call of `next`

pub hears_other : (m : Holding) → ((n : ℕ) (since : Bool) → m ≢ holdings.Answer n since) →
    IsHearing m
hears_other holdings.Nothing other = tt
hears_other holdings.Units other = tt
hears_other (holdings.Answer n since) other = absurd (other n since refl)

module _ (now : ℕ) (k : Client) (input held : Octets) (output places : ℕ) (made made' : Octets)
    (w : Word) where
  pub next_of_nothing : output < k.unsent + 65535 → IsOfNothing w →
      IsOfNext now k input held output places made made' w
  next_of_nothing short is = record {
    none = λ short'. is;
    turn = λ enough. absurd (omega (arith, short, enough));
    answer = λ enough. absurd (omega (arith, short, enough));
  }

  no_changes : (m : Holding) → IsHearing m →
      IsOfChanges m k.kept k.shown input held places made made' w
  no_changes holdings.Nothing hears = tt
  no_changes holdings.Units hears = tt
  no_changes (holdings.Answer n s) hears = absurd hears

  pub next_of_turn : k.unsent + 65535 ≤ output → IsHearing k.holding → IsInTurn now k input w →
      IsOfNext now k input held output places made made' w
  next_of_turn enough hears is = record {
    none = λ short. absurd (omega (arith, short, enough));
    turn = λ enough' hears'. is;
    answer = λ enough'. no_changes k.holding hears;
  }

  not_hearing : (m : Holding) → HasAnswer m → IsHearing m → ⊥
  not_hearing holdings.Nothing whole hears = whole
  not_hearing holdings.Units whole hears = whole
  not_hearing (holdings.Answer n s) whole hears = hears

  pub next_of_answer : k.unsent + 65535 ≤ output → HasAnswer k.holding →
      IsOfChanges k.holding k.kept k.shown input held places made made' w →
      IsOfNext now k input held output places made made' w
  next_of_answer enough whole is = record {
    none = λ short. absurd (omega (arith, short, enough));
    turn = λ enough' hears. absurd (not_hearing k.holding whole hears);
    answer = λ enough'. is;
  }
