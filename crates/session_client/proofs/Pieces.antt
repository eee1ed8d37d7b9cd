-- What was put behind what is still to be sent is what the machine wanted sent.
use Rattle.std.proofs.Common.{◌≡◌, ℕ, ◌≤◌, List, [], length, take, sym, subst, add-zero}
use Rattle.std.proofs.Common.{Option, Some}
use Rattle.std.proofs.lemmas.List.{append-nil}
use Rattle.session_router.specs.Step.{IsStep}
use Rattle.session_router.specs.declared.event.Action.{Action}
use Rattle.session_router.specs.declared.event.Event.{Event}
use Rattle.session_router.specs.declared.router.Router.{Router}
use Rattle.session_bytes.specs.Reading.{KeepsAll}
use Rattle.session_bytes.specs.declared.refusal.Refusal.{Refusal}
use Rattle.session_client.specs.Next.{IsTodoOf, Turns}
use Rattle.session_client.specs.Said.{Did, PutsBehind, bytes_of, left_at}
use Rattle.session_client.specs.declared.next.Todo.{Todo}

pub puts_none : (n : ℕ) (b : List ℕ) → n ≤ length b → PutsBehind [] n n b b
puts_none n b here = (sym (add-zero n), here, sym (append-nil (take n b)))

pub said : (now : ℕ) (r : Router) (units : List ℕ) (mid r₁ r₂ : Router) (e : Event) (a : Action)
    (refusal : Option Refusal) (unit : List ℕ) (o n m m₂ : ℕ) (before after : List ℕ) →
    KeepsAll now r units mid → IsStep mid now e a r₁ →
    PutsBehind (bytes_of r₁.version a refusal unit) (left_at a n) m before after →
    n ≡ o → m₂ ≡ m → r₂ ≡ r₁ → Did (Some a) now r r₂ o m₂ before after
said now r units mid r₁ r₂ e a refusal unit o n m m₂ before after kept step puts n_is m_is r_is =
    subst (λ x. Did (Some a) now r x o m₂ before after) (sym r_is)
    (subst (λ x. Did (Some a) now r r₁ o x before after) (sym m_is) (record {
      units = units;
      mid = mid;
      kept = kept;
      event = e;
      step = step;
      refusal = refusal;
      unit = unit;
      puts = subst (λ x. PutsBehind (bytes_of r₁.version a refusal unit) (left_at a x) m before
          after) n_is
          puts;
    }))

pub turned : (t : Todo) (a : Action) (now : ℕ) (r r₁ r₂ : Router) (n n₁ n₂ : ℕ)
    (before after : List ℕ) → IsTodoOf (Some a) t → Did (Some a) now r r₁ n n₁ before after →
    r₂ ≡ r₁ → n₂ ≡ n₁ → Turns t now r r₂ n n₂ before after
turned t a now r r₁ r₂ n n₁ n₂ before after is did r_is n_is = record {
  action = Some a;
  todo = is;
  did = subst (λ x. Did (Some a) now r x n n₂ before after) (sym r_is)
      (subst (λ x. Did (Some a) now r r₁ n x before after) (sym n_is) did);
}
