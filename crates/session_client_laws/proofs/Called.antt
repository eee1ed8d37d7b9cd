-- When a client acts by itself: never later than `longest` after its last call.
use native.Mathlib.Omega.{arith}
use Rattle.std.proofs.Common.{◌≡◌, ℕ, ◌+◌, ◌≤◌, List, ◌∙◌, subst, sym}
use Rattle.session_router.specs.Asking.{longest}
use Rattle.session_router.specs.Exchange.{Exchange}
use Rattle.session_router.specs.Histories.{IsNew, Moment}
use Rattle.session_router.specs.Pace.{wakes_at}
use Rattle.session_router.specs.declared.router.Router.{Router}
use Rattle.session_router.specs.declared.settings.Settings.{Settings}
use Rattle.session_router.proofs.Settled.{same_settings}
use Rattle.session_router.proofs.Soon.{Soon, soon_new, soon_next, wakes_soon}
use Rattle.session_client.specs.Holding.{untold}
use Rattle.session_client.specs.Makings.{Octets}
use Rattle.session_client.specs.declared.client.Client.{Client}
use Rattle.session_client_laws.specs.Called.{IsCalled}
use Rattle.session_client_laws.specs.Called.IsCalled.{left_alone, called_once_more, never_called}
use Rattle.session_client_laws.specs.Served.{IsServedFrom, StepsAt}
use Rattle.session_client_laws.specs.Served.IsServedFrom.{says_between, serves_from, serves_on}
use Rattle.session_client_laws.specs.Served.StepsAt.{no_step, one_step_more}
use Rattle.session_client_laws.proofs.Served.{takes_steps}

record Acts (s : Settings) (r : Router) (n : ℕ) : Type 0 where
  pub settings : r.settings ≡ s
  pub soon : Soon s r n

due_later : (d t n l : ℕ) → d ≤ t + l → t ≤ n → d ≤ n + l
due_later d t n l due order = omega (arith, due, order)

asked_later : (a t n : ℕ) → a ≤ t → t ≤ n → a ≤ n
asked_later a t n asked order = omega (arith, asked, order)

here : (n : ℕ) → n ≤ n
here n = omega arith

later : (s : Settings) (r : Router) (t n : ℕ) → t ≤ n → Acts s r t → Acts s r n
later s r t n order x = record {
  settings = x.settings;
  soon = record {
    due = due_later r.due t n (longest s) x.soon.due order;
    asked = asked_later r.asked t n x.soon.asked order;
  };
}

steps_act : (s : Settings) (n : ℕ) (r : Router) (ms : List (Moment Octets)) (r' : Router) →
    StepsAt n r ms r' → Acts s r n → Acts s r' n
steps_act s n r ms r' (no_step r₀) x = x
steps_act s n r ms r' (one_step_more r₀ ms₀ mid e b a r₁ before step) x =
    let y = steps_act s n r ms₀ mid before x in
    record {
      settings = same_settings mid r₁ n e a step.paces ∙ y.settings;
      soon = soon_next s mid r₁ n n e a y.settings (here n) step y.soon;
    }

acts : (s : Settings) (k : Client) (now : ℕ) → IsCalled s k now → Acts s k.router now
acts s k now (never_called k₀ new) =
    record { settings = new.settings; soon = soon_new s k₀.router new }
acts s k now (called_once_more k₀ n n' a input held k' input' held' run order t) =
    let x = takes_steps n' k₀ input k' (untold k' input') a t.word t.is_told in
    steps_act s n' k₀.router x.moments k'.router x.steps
    (later s k₀.router n n' order (acts s k₀ n run))
acts s k now (left_alone k₀ n k' run same) =
    subst (λ r. Acts s r n) (sym same) (acts s k₀ n run)

pub wakes : (s : Settings) (k : Client) (now : ℕ) → IsCalled s k now →
    wakes_at k.router ≤ now + longest s
wakes s k now run =
    let x = acts s k now run in wakes_soon s k.router now x.settings x.soon

-- a client that is served is called
pub called_of : (s : Settings) (most : ℕ) (k₀ : Client) (x₀ : Exchange) (k : Client) (x : Exchange)
    (n : ℕ) → IsNew s k₀.router → IsServedFrom most k₀ x₀ 0 k x n → IsCalled s k n
called_of s most k₀ x₀ k x n new serves_from = never_called k₀ new
called_of s most k₀ x₀ k x n new
    (serves_on k₁ x₁ n₁ n₂ a input held k₂ input' held' m ms x₂ run order wakes t are served) =
    called_once_more k₁ n₁ n₂ a input held k₂ input' held'
    (called_of s most k₀ x₀ k₁ x₁ n₁ new run) order t
called_of s most k₀ x₀ k x n new (says_between k₁ x₁ n₁ k₂ run same) =
    left_alone k₁ n₁ k₂ (called_of s most k₀ x₀ k₁ x₁ n₁ new run) same
