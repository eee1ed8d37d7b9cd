-- What a connection ends over is named to the caller.
use native.Mathlib.Omega.{arith}
use Rattle.std.proofs.Common.{◌≡◌, ◌⊎◌, ℕ, ◌<◌, ◌≤◌, [], length, take, drop, min, sym}
use Rattle.std.proofs.Common.{ap, subst, ◌∙◌, inl, inr, Option, None}
use Rattle.std.proofs.lemmas.Bool.{cases_lt}
use Rattle.std.proofs.lemmas.List.{drop_all, length-take}
use Rattle.session_router.specs.Step.{IsStep}
use Rattle.session_router.specs.declared.event.Action.{Action}
use Rattle.session_router.specs.declared.event.Action.TheVariants as actions
use Rattle.session_router.specs.declared.event.Ending.{Ending}
use Rattle.session_router.specs.declared.event.Event.{Event}
use Rattle.session_router.specs.declared.router.Router.{Router}
use Rattle.session_bytes.specs.declared.refusal.Refusal.{Refusal}
use Rattle.session_client.specs.Holding.{SaysItself}
use Rattle.session_client.specs.Makings.{Octets}
use Rattle.session_client.specs.Over.{EndsOver, IfActs, IfNamed, IsOfNone, IsOver, SaysNoData}
use Rattle.session_client.specs.Over.{none_of, over_none, over_of}
use Rattle.session_client.specs.Said.{PutsBehind, bytes_of, left_at, report_bytes}
use Rattle.session_client.specs.declared.client.Client.{Client}
use Rattle.session_client.specs.declared.client.Holding.{Holding}
use Rattle.session_client.specs.declared.next.Todo.{Todo}
use Rattle.session_client.specs.declared.next.Todo.TheVariants as todos
use Rattle.session_client.proofs.Steps.{none_itself}

-- an ending, and the report of it that was put behind what is still to be sent
pub ends_over : (now : ℕ) (r r₁ r₂ : Router) (m : Holding) (kept filled : ℕ) (shown : Option ℕ)
    (input held : Octets) (o n n₁ n₂ : ℕ) (before after : Octets) (a : Action)
    (refusal : Option Refusal) (offset : ℕ) (about : Octets) (x : Ending) → a ≡ actions.End x →
    IsOver now r m kept filled shown input held x r₁ refusal offset about →
    PutsBehind (bytes_of r₁.version a refusal about) (left_at a n) n₁ before after →
    n ≡ o → n₂ ≡ n₁ → r₂ ≡ r₁ →
    EndsOver now r m kept filled shown input held o n₂ before after r₂ x refusal offset
ends_over now r r₁ r₂ m kept filled shown input held o n n₁ n₂ before after a refusal offset about x
    is over puts o_is n_is r_is =
    subst (λ v. EndsOver now r m kept filled shown input held o n₂ before after v x refusal offset)
    (sym r_is)
    (subst (λ v. EndsOver now r m kept filled shown input held o v before after r₁ x refusal offset)
    (sym n_is)
    (subst (λ v. EndsOver now r m kept filled shown input held v n₁ before after r₁ x refusal
    offset) o_is (record {
      about = about;
      over = over;
      puts = subst (λ a. PutsBehind (bytes_of r₁.version a refusal about) (left_at a n) n₁ before
          after) is puts;
    })))

named : (t : Todo) (a : Action) (refusal : Option Refusal) (offset : ℕ)
    (P : Ending → Option Refusal → ℕ → Type 0) (N : ℕ → Type 0) →
    IfNamed t (λ x r o. (a ≡ actions.End x) × (r ≡ refusal) × (o ≡ offset))
    (λ o. (a ≡ actions.NoData) × (o ≡ offset)) →
    IfActs a refusal offset P N → IfNamed t P N
named todos.Go a refusal offset P N says acts = tt
named todos.Wait a refusal offset P N says acts = tt
named todos.Connect a refusal offset P N says acts = tt
named (todos.Close x r o) a refusal offset P N says acts =
    subst (λ r. P x r o) (sym says.1) (subst (λ o. P x refusal o) (sym says.2) (acts.ends x says.0))
named todos.Data a refusal offset P N says acts = tt
named todos.Dropped a refusal offset P N says acts = tt
named (todos.NoData o) a refusal offset P N says acts =
    subst N (sym says.1) (acts.none says.0)
named (todos.InputRoom n) a refusal offset P N says acts = tt
named (todos.DataRoom n) a refusal offset P N says acts = tt
named (todos.IndexRoom n) a refusal offset P N says acts = tt
named (todos.OutputRoom n) a refusal offset P N says acts = tt

-- the same after what changes flags alone
pub named_then : (t : Todo) (a : Action) (refusal : Option Refusal) (offset now : ℕ)
    (k k₁ k₂ : Client) (input held input' before after : Octets) →
    IfNamed t (λ x r o. (a ≡ actions.End x) × (r ≡ refusal) × (o ≡ offset))
    (λ o. (a ≡ actions.NoData) × (o ≡ offset)) →
    IfActs a refusal offset (over_of now k input held k₁ before after)
    (none_of now k input k₁ input') →
    k₂.router ≡ k₁.router → k₂.unsent ≡ k₁.unsent →
    IfNamed t (over_of now k input held k₂ before after) (none_of now k input k₂ input')
named_then t a refusal offset now k k₁ k₂ input held input' before after says acts router unsent =
    named t a refusal offset (over_of now k input held k₂ before after)
    (none_of now k input k₂ input') says (record {
      ends = λ x is.
          subst (λ v. EndsOver now k.router k.holding k.kept k.filled k.shown input held k.unsent v
          before after k₂.router x refusal offset) (sym unsent)
          (subst (λ r. EndsOver now k.router k.holding k.kept k.filled k.shown input held k.unsent
          k₁.unsent before after r x refusal offset) (sym router) (acts.ends x is));
      none = λ is. subst (λ r. SaysNoData now k.router k.kept k.filled input input' r offset)
          (sym router) (acts.none is);
    })

-- it ends over nothing that came
pub acts_itself : (now : ℕ) (k k' : Client) (input held input' before after : Octets) (e : Event)
    (a : Action) → SaysItself k.router e → IsOfNone e → IsStep k.router now e a k'.router →
    ((x : Ending) → a ≡ actions.End x →
    PutsBehind (report_bytes k'.router.version x.report x None []) k.unsent k'.unsent before
    after) →
    IfActs a None 0 (over_of now k input held k' before after) (none_of now k input k' input')
acts_itself now k k' input held input' before after e a says none steps puts = record {
  ends = λ x is. record {
    about = [];
    over = over_none e none (subst (λ a. IsStep k.router now e a k'.router) is steps);
    puts = puts x is;
  };
  none = λ is. absurd (none_itself k.router k'.router now e says
      (subst (λ a. IsStep k.router now e a k'.router) is steps).rule);
}

-- what follows an offset that may be behind the end
pub min_dropped : (n filled : ℕ) (input : Octets) →
    drop (min n filled) (take filled input) ≡ drop n (take filled input)
min_dropped n filled input = go (cases_lt n filled)
  where
    short : filled ≤ n → drop filled (take filled input) ≡ drop n (take filled input)
    short past =
        let some = length-take filled input in
        let here : length (take filled input) ≤ filled = omega (arith, some) in
        let there : length (take filled input) ≤ n = omega (arith, some, past) in
        drop_all filled (take filled input) here ∙ sym (drop_all n (take filled input) there)

    go : (n < filled) ⊎ (filled ≤ n) →
        drop (min n filled) (take filled input) ≡ drop n (take filled input)
    go (inl less) =
        let e : min n filled ≡ n = omega (arith, less) in
        ap (λ m. drop m (take filled input)) e
    go (inr past) =
        let e : min n filled ≡ filled = omega (arith, past) in
        ap (λ m. drop m (take filled input)) e ∙ short past
