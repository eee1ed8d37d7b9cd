-- A run of `group_recovers_by_messages` that the prover computes: member 0 is silent, so member 1
-- is started after the patience, and its cache answers by the rules.
use Rattle.std.proofs.Common.{◌≡◌, ℕ, true, false, ◌+◌, ◌≤◌, ◌<◌, refl, arith, inl, inr, subst, []}
use Rattle.std.proofs.Common.{◌⊎◌, ◌≢◌, sym}
use Rattle.std.proofs.lemmas.Bool.{cases_eq}
use Rattle.session_router.specs.declared.head.Head.{Head}
use Rattle.session_router.specs.declared.head.Kind.{Kind}
use Rattle.session_router.specs.declared.head.Kind.TheVariants as kinds
use Rattle.session_router.specs.declared.router.Router.{Router}
use Rattle.session_router.specs.declared.event.Event.TheVariants as router_events
use Rattle.session_router.specs.declared.event.Action.TheVariants as actions
use Rattle.session_router.specs.Examples.{query_for_all, unit_of_kind}
use Rattle.session_router.specs.Step.{IsStep}
use Rattle.session_router.specs.After.{new_router, once_asked, once_begun, once_completed}
use Rattle.session_router.specs.After.{once_connected}
use Rattle.session_router.specs.Exchange.{Exchange, exchange_after, none_yet}
use Rattle.session_router.specs.Recovery.AnswersWell.{responds}
use Rattle.session_router.specs.Recovery.GoesOnWell.{ends_data}
use Rattle.session_router.proofs.Steps.{asks_at, begins_at, completes_at, connects_at}
use Rattle.session_router.proofs.Examples.{untimed}
use Rattle.session_group.specs.Groups.{tick_answer}
use Rattle.session_group.specs.Ends.{End, end_after, with_end, with_fresh}
use Rattle.session_group.specs.Ends.IsGroup.{group_begins}
use Rattle.session_group.specs.Recovery.{NoneUpTo}
use Rattle.session_group.specs.Served.{IsServedIn, IsSoon, IsStarted, served_by}
use Rattle.session_group.specs.Served.GroupStep.{time_passes, not_told}
use Rattle.session_group.specs.Served.IsServedIn.{served_from, served_on}
use Rattle.session_group.proofs.Examples.{caller₀, counting, group₀, idle, is_new, new_end}
use Rattle.session_group.proofs.Examples.{new_is_fresh, patience_is_over, router_settings, usual}
use Rattle.session_group.proofs.Placed.{other_number}
use Rattle.session_group.proofs.Served.{recovers_later}

le : (a b : ℕ) → a ≤ a + b
le a b = omega arith

lt : (a b : ℕ) → a < a + b + 1
lt a b = omega arith

clash : false ≡ true → ⊥
clash p = grind arith

-- a unit of version 2
abbrev unit : Kind → Head
unit k = record (unit_of_kind k) { version = 2 }

-- the ends, one after another
abbrev ends₀ : ℕ → End ℕ ℕ
ends₀ i = new_end

abbrev ends₁ : ℕ → End ℕ ℕ
ends₁ = with_fresh ends₀ (tick_answer group₀ 5000).starts new_end

is_started : IsStarted counting new_end
is_started = record { fresh = new_is_fresh; floor = refl }

-- member 1 is started
waits_so : IsServedIn (λ i. counting) (λ d. d) 1 2 0 group₀ caller₀ ends₀ none_yet
    patience_is_over.group patience_is_over.caller ends₁ none_yet 5000
waits_so =
    served_on 0 5000 _ _ group₀ _ caller₀ _ ends₀ _ none_yet
    (served_from (idle caller₀ refl refl))
    (record {
      later = le 0 5000;
      group = le 5000 0;
      router = λ p. absurd (clash p);
      in_time = λ p. absurd (clash p);
    })
    (time_passes new_end (λ j p. is_started)) tt (idle patience_is_over.caller refl refl)

-- its router, one step after another
abbrev r₁ : Router
r₁ = new_router router_settings

abbrev r₂ : Router
r₂ = once_connected r₁ 5000

abbrev r₃ : Router
r₃ = once_asked (record r₂ { answered = false }) 5010

abbrev r₄ : Router
r₄ = once_begun r₃ (unit kinds.CacheResponse)

abbrev r₅ : Router
r₅ = once_completed r₄ 5030 (unit kinds.EndOfData)

connects : IsStep r₁ 5000 router_events.Tick actions.Connect r₂
connects = connects_at r₁ 5000 refl (le 0 5000) (λ e. cc)

asks : IsStep r₂ 5010 router_events.Connected (actions.Ask (query_for_all 2)) r₃
asks = asks_at r₂ 5010 refl (lt 5010 29989) (λ e. cc)

begins : IsStep r₃ 5020 (router_events.Came (unit kinds.CacheResponse)) actions.Begin r₄
begins = begins_at r₃ 5020 (unit kinds.CacheResponse) refl (lt 5020 119989) (λ e. cc) refl refl
    (λ e. cc)

ends : IsStep r₄ 5030 (router_events.Came (unit kinds.EndOfData)) (actions.Apply false) r₅
ends = completes_at r₄ 5030 (unit kinds.EndOfData) refl (lt 5030 119979) (λ e. cc) refl refl refl
    (λ e. cc) (λ e. cc)

abbrev ends₂ : ℕ → End ℕ ℕ
ends₂ = with_end ends₁ 1 (end_after counting (ends₁ 1) 5000 router_events.Tick 0 actions.Connect r₂)

abbrev ends₃ : ℕ → End ℕ ℕ
ends₃ =
    with_end ends₂ 1
    (end_after counting (ends₂ 1) 5010 router_events.Connected 0 (actions.Ask (query_for_all 2)) r₃)

abbrev ends₄ : ℕ → End ℕ ℕ
ends₄ =
    with_end ends₃ 1
    (end_after counting (ends₃ 1) 5020 (router_events.Came (unit kinds.CacheResponse)) 0
    actions.Begin r₄)

abbrev ends₅ : ℕ → End ℕ ℕ
ends₅ =
    with_end ends₄ 1
    (end_after counting (ends₄ 1) 5030 (router_events.Came (unit kinds.EndOfData)) 7
    (actions.Apply false) r₅)

-- what was exchanged with its cache
abbrev x₂ : Exchange
x₂ = exchange_after router_settings 5000 router_events.Tick actions.Connect none_yet

abbrev x₃ : Exchange
x₃ = exchange_after router_settings 5010 router_events.Connected (actions.Ask (query_for_all 2)) x₂

abbrev x₄ : Exchange
x₄ = exchange_after router_settings 5020 (router_events.Came (unit kinds.CacheResponse))
    actions.Begin x₃

abbrev x₅ : Exchange
x₅ = exchange_after router_settings 5030 (router_events.Came (unit kinds.EndOfData))
    (actions.Apply false) x₄

none_current : NoneUpTo 1 patience_is_over.caller
none_current = idle patience_is_over.caller refl refl

abbrev IsServedAt : (ℕ → End ℕ ℕ) → Exchange → ℕ → Type 0
IsServedAt ends x n =
    IsServedIn (λ i. counting) (λ d. d) 1 2 0 group₀ caller₀ ends₀ none_yet patience_is_over.group
    patience_is_over.caller ends x n

abbrev IsSoonAt : (ℕ → End ℕ ℕ) → Exchange → (n n' : ℕ) → Type 0
IsSoonAt ends x n n' = IsSoon 1 patience_is_over.group patience_is_over.caller ends x n n'

connects_so : IsServedAt ends₂ x₂ 5000
connects_so =
    served_on 5000 5000 _ _ _ _ _ _ ends₁ ends₂ none_yet waits_so soon
    (not_told 1 router_events.Tick 0 actions.Connect r₂ refl tt connects refl)
    (λ p. (inl refl, tt, tt)) none_current
  where
    soon : IsSoonAt ends₁ none_yet 5000 5000
    soon = record {
      later = le 5000 0;
      group = le 5000 18446744073709546615;
      router = λ p. le 5000 0;
      in_time = λ p. untimed none_yet 5000 refl;
    }

asks_so : IsServedAt ends₃ x₃ 5010
asks_so =
    served_on 5000 5010 _ _ _ _ _ _ ends₂ ends₃ x₂ connects_so soon
    (not_told 1 router_events.Connected 0 (actions.Ask (query_for_all 2)) r₃ refl refl asks refl)
    (λ p. (inr (inr refl), tt, tt)) none_current
  where
    soon : IsSoonAt ends₂ x₂ 5000 5010
    soon = record {
      later = le 5000 10;
      group = le 5010 18446744073709546605;
      router = λ p. le 5010 29990;
      in_time = λ p y. lt 5010 29989;
    }

begins_so : IsServedAt ends₄ x₄ 5020
begins_so =
    served_on 5010 5020 _ _ _ _ _ _ ends₃ ends₄ x₃ asks_so soon
    (not_told 1 (router_events.Came (unit kinds.CacheResponse)) 0 actions.Begin r₄ refl tt begins
    refl)
    (λ p. (inr (inr (responds (unit kinds.CacheResponse) refl refl)), tt, tt)) none_current
  where
    soon : IsSoonAt ends₃ x₃ 5010 5020
    soon = record {
      later = le 5010 10;
      group = le 5020 18446744073709546595;
      router = λ p. le 5020 119990;
      in_time = λ p y. lt 5020 119989;
    }

ends_so : IsServedAt ends₅ x₅ 5030
ends_so =
    served_on 5020 5030 _ _ _ _ _ _ ends₄ ends₅ x₄ begins_so soon
    (not_told 1 (router_events.Came (unit kinds.EndOfData)) 7 (actions.Apply false) r₅ refl tt ends
    refl)
    (λ p. (
      inr (inr (ends_data (unit kinds.EndOfData)
          (record { kind = refl; version = refl; session = refl }) (λ c. cc) (λ c. cc))),
      tt,
      tt,
    ))
    none_current
  where
    soon : IsSoonAt ends₄ x₄ 5020 5030
    soon = record {
      later = le 5020 10;
      group = le 5030 18446744073709546585;
      router = λ p. le 5030 119980;
      in_time = λ p y. lt 5030 119979;
    }

-- the bound is a patience and three connections: 818 seconds by the usual limits
by_numbers : served_by caller₀ router_settings 1 0 ≡ 818000
by_numbers = refl

in_time : 5030 ≤ served_by caller₀ router_settings 1 0
in_time =
    recovers_later (λ i. counting) 2 usual (λ d. d) [] group₀ patience_is_over.group caller₀
    patience_is_over.caller ends₀ ends₅ 1 2 0 none_yet x₅ 5030
    (group_begins 0 group₀ ends₀ is_new (λ i. new_is_fresh)) (lt 1 0) refl
    (λ j. began_at j (cases_eq j 0)) ends_so
  where
    began_at : (j : ℕ) → (j ≡ 0) ⊎ (j ≢ 0) → (caller₀.members j).began ≤ 0
    began_at j (inl e) = subst (λ (i : ℕ). (caller₀.members i).began ≤ 0) (sym e) (le 0 0)
    began_at j (inr e) = rw (other_number j 0 e) (le 0 0)
