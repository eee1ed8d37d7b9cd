-- What calls for a router's end promise, of the structs that stand for clients.
use Rattle.std.proofs.Common.{◌≡◌, ◌≤◌, ℕ, List, length, true, sym, subst}
use Rattle.session_router.specs.Pace.{wakes_at}
use Rattle.session_client.specs.Holding.{Fits}
use Rattle.session_client.specs.declared.client.Client.{Client}
use Rattle.session_client.specs.declared.next.Todo.{Todo}
use Rattle.rtr_c.specs.LinkTodos.{TellsTodo, received_after, todo_told}
use Rattle.rtr_c.specs.Links.{IsPlainLink, came_before, client_of, is_begun}
use Rattle.rtr_c.specs.declared.link.RtrLink.{RtrLink}
use Rattle.rtr_c.specs.declared.link_todo.RtrTodo.{RtrTodo}

pub tells : (now : ℕ) (was l : RtrLink) (k : Client) (input output : List ℕ) (a : RtrTodo)
    (t : Todo) →
    client_of l ≡ k → a ≡ todo_told t k.second (came_before was) (wakes_at k.router) →
    l.latest ≡ now → l.received ≡ received_after t was.received → is_begun l ≡ true →
    IsPlainLink l → Fits k input → k.unsent ≤ length output → TellsTodo now was l input output a t
tells now was l k input output a t e told latest received begun plain fits room = record {
  told =
      subst (λ (k : Client). a ≡ todo_told t k.second (came_before was) (wakes_at k.router))
      (sym e) told;
  latest = latest;
  received = received;
  begun = begun;
  plain = plain;
  fits = subst (λ (k : Client). Fits k input) (sym e) fits;
  room = subst (λ (k : Client). k.unsent ≤ length output) (sym e) room;
}

-- what holds of two clients holds of the structs that stand for them
pub both_of : (P : Client → Client → Type 0) (k k' l l' : Client) → k ≡ l → l' ≡ k' → P k k' →
    P l l'
both_of P k k' l l' e f p =
    subst (λ (x : Client). P l x) (sym f) (subst (λ (x : Client). P x k') e p)
