-- A client's data stay the same bytes after any call that tells no new data and no loss.
use Rattle.std.proofs.Common.{◌≡◌, ◌≢◌, ℕ, Bool, true, false, Some, None, [], ◌∷◌, Option}
use Rattle.std.proofs.Common.{refl, ap, sym, subst, take, drop, append-nil, ◌∙◌}
use Rattle.std.specs.Prelude.{if◌then◌else◌}
use Rattle.session_router.specs.Histories.{Caller, Host, host_after}
use Rattle.session_router.specs.declared.event.Action.{Action}
use Rattle.session_router.specs.declared.event.Action.TheVariants as actions
use Rattle.session_router.specs.declared.event.Cause.{Cause}
use Rattle.session_router.specs.declared.router.Router.{Router}
use Rattle.session_router.specs.declared.settings.Settings as routers
use Rattle.session_bytes.specs.declared.telling.Told.TheVariants as told
use Rattle.session_client.specs.Holding.{Holds, ShowsFront}
use Rattle.session_client.specs.Makings.{Octets}
use Rattle.session_client.specs.Tells.{IsTold, Word, host_then, of_bytes, of_itself, of_nothing}
use Rattle.session_client.specs.Tells.{rest_of}
use Rattle.session_client.specs.declared.client.Holding.{Holding}
use Rattle.session_client.specs.declared.client.Holding.TheVariants as holdings
use Rattle.session_client.specs.declared.next.Todo.{Todo}
use Rattle.session_client.proofs.Makings.{caller_makes, caller_of}
use Rattle.session_group.specs.declared.event.Event.{Event}
use Rattle.session_group.specs.declared.event.Event.TheVariants as events
use Rattle.session_group.specs.Ends.{tells_at_end}
use Rattle.session_group_laws.specs.Buffers.{ClientHas}
use Rattle.session_group_laws.specs.Members.{CallsMember, MemberClient, taken_tells, todo_tells}
use Rattle.session_group_laws.proofs.Told.{tells_taken}

-- ---- what a caller has that shows these data

abbrev made_of : Caller Octets Octets → Holding → (kept : ℕ) → (input d : Octets) → Option Octets
made_of c holdings.Nothing kept input d = None
made_of c holdings.Units kept input d = None
made_of c (holdings.Answer size since) kept input d =
    c.make (if since then Some d else None) (take kept input ∷ []) (take size (drop kept input))

abbrev host_of : Caller Octets Octets → Holding → (kept : ℕ) → (input d : Octets) →
    Host Octets Octets
host_of c m kept input d = record {
  kept = take kept input ∷ [];
  made = made_of c m kept input d;
  shown = Some d;
}

holds_so : (c : Caller Octets Octets) (m : Holding) (kept : ℕ) (input d : Octets) →
    Holds c (host_of c m kept input d) m kept input
holds_so c holdings.Nothing kept input d = tt
holds_so c holdings.Units kept input d = append-nil (take kept input)
holds_so c (holdings.Answer size since) kept input d = record {
  units = take kept input ∷ [];
  end = take size (drop kept input);
  made = refl;
  units_are = append-nil (take kept input);
  end_is = refl;
}

-- ---- what leaves them

abbrev LeavesThem : Option Action → Type 0
LeavesThem None = Unit {0}
LeavesThem (Some actions.Show) = ⊥
LeavesThem (Some actions.Drop) = ⊥
LeavesThem (Some (actions.End x)) = x.drop ≡ false
LeavesThem (Some a) = Unit {0}

after_action : (c : Caller Octets Octets) (h : Host Octets Octets) (b : Octets) (a : Action) →
    LeavesThem (Some a) → (host_after c h b a).shown ≡ h.shown
after_action c h b actions.Show leaves = absurd leaves
after_action c h b actions.Drop leaves = absurd leaves
after_action c h b (actions.End x) leaves =
    ap (λ (drop : Bool). if drop then None else h.shown) leaves
after_action c h b actions.Wait leaves = refl
after_action c h b actions.Connect leaves = refl
after_action c h b (actions.Ask q) leaves = refl
after_action c h b actions.Begin leaves = refl
after_action c h b actions.Keep leaves = refl
after_action c h b (actions.Apply since) leaves = refl
after_action c h b actions.NoData leaves = refl

after_word : (c : Caller Octets Octets) (h : Host Octets Octets) (b : Octets) (w : Word) (n : ℕ)
    (r : Router) (before after : Octets) (a : Option Action) (r' : Router) →
    IsTold w n r before after a r' → LeavesThem a → (host_then c h b w).shown ≡ h.shown
after_word c h b of_nothing n r before after a r' is leaves = refl
after_word c h b (of_itself e x) n r before after a r' is leaves =
    after_action c h [] x (subst (λ (o : Option Action). LeavesThem o) is.0 leaves)
after_word c h b (of_bytes ended told.Awaits) n r before after a r' is leaves = refl
after_word c h b (of_bytes ended (told.Kept k)) n r before after a r' is leaves = refl
after_word c h b (of_bytes ended (told.Acted start end x)) n r before after a r' is leaves =
    after_action c h (drop start (take end b)) x
    (subst (λ (o : Option Action). LeavesThem o) is.0 leaves)
after_word c h b (of_bytes ended (told.Refused e x)) n r before after a r' is leaves =
    after_action c h [] x (subst (λ (o : Option Action). LeavesThem o) is.0 leaves)

no_drop : (drop : Bool) (cause : Cause) (e : Option Event) → tells_at_end drop cause ≡ e →
    e ≢ Some events.Drops → drop ≡ false
no_drop true cause e tells other = absurd (other (sym tells))
no_drop false cause e tells other = refl

leaves_them : (p : ℕ) (a : Option Action) (e : Option Event) → taken_tells p a ≡ e →
    e ≢ Some events.Drops → e ≢ Some (events.Shows p) → LeavesThem a
leaves_them p None e tells lost new = tt
leaves_them p (Some actions.Show) e tells lost new = new (sym tells)
leaves_them p (Some actions.Drop) e tells lost new = lost (sym tells)
leaves_them p (Some (actions.End x)) e tells lost new = no_drop x.drop x.cause e tells lost
leaves_them p (Some actions.Wait) e tells lost new = tt
leaves_them p (Some actions.Connect) e tells lost new = tt
leaves_them p (Some (actions.Ask q)) e tells lost new = tt
leaves_them p (Some actions.Begin) e tells lost new = tt
leaves_them p (Some actions.Keep) e tells lost new = tt
leaves_them p (Some (actions.Apply since)) e tells lost new = tt
leaves_them p (Some actions.NoData) e tells lost new = tt

-- ---- a call

-- the settings are any: no run is asked for
pub data_stay : (s : routers.Settings) (p : ℕ) (t : Todo) (x x' : MemberClient)
    (e : Option Event) (d : Octets) → CallsMember x x' t → todo_tells p t ≡ e →
    e ≢ Some events.Drops → e ≢ Some (events.Shows p) → ClientHas d x → ClientHas d x'
data_stay s p t x x' e d calls tells lost new has =
    let k = x.client in
    let y = calls.takes in
    let c = caller_of s y.made in
    let h = host_of c k.holding k.kept x.input d in
    let rest = rest_of k.holding k.kept k.filled x.input in
    let rest' = rest_of x'.client.holding x'.client.kept x'.client.filled x'.input in
    let still = y.has c h (caller_makes s y.made y.were)
    (has, holds_so c k.holding k.kept x.input d) in
    subst (λ (o : Option Octets). ShowsFront o x'.client.shown x'.held)
    (after_word c h rest y.word calls.now k.router rest rest' calls.action x'.client.router
    y.is_told
    (leaves_them p calls.action e (sym (tells_taken calls.action t p calls.is_todo) ∙ tells) lost
    new))
    still.0
