-- What a client's numbers say of its buffers goes on as its caller does.
use native.Mathlib.Omega.{arith}
use Rattle.std.proofs.Common.{◌≡◌, ◌≢◌, ◌⊎◌, ℕ, Bool, ◌+◌, ◌-◌, ◌<◌, ◌≤◌, []}
use Rattle.std.proofs.Common.{◌∷◌, ◌++◌, take, drop, refl, sym, ap, ◌∙◌, subst, Option, Some, None}
use Rattle.std.proofs.Common.{append-nil, inl, inr}
use Rattle.std.proofs.lemmas.Bool.{cases_lt}
use Rattle.session_router.specs.declared.event.Action.{Action}
use Rattle.session_router.specs.declared.event.Action.TheVariants as actions
use Rattle.session_router.specs.declared.event.Event.{Event}
use Rattle.session_router.specs.declared.event.Event.TheVariants as events
use Rattle.session_router.specs.declared.router.Phase.TheVariants as phases
use Rattle.session_router.specs.declared.router.Router.{Router}
use Rattle.session_router.specs.Histories.{Caller, Host, host_after}
use Rattle.session_router.specs.Rules.{Rule}
use Rattle.session_bytes.specs.Reading.{Acts, EndsConnection}
use Rattle.session_client.specs.Holding.{IsHearing, LeavesInput, SaysItself, ShowsFront, due_after}
use Rattle.session_client.specs.Holding.{Holds, due_size, shown_after}
use Rattle.session_client.specs.Makings.{Octets}
use Rattle.session_client.specs.Over.{IsOfNone}
use Rattle.session_client.specs.Next.{IsTodoOf}
use Rattle.session_client.specs.Said.{Did}
use Rattle.session_client.specs.Tells.{HostHas, IsNoUnit, TakesCall, TakesFrom, TellsCall}
use Rattle.session_client.specs.Tells.{Word, of_nothing}
use Rattle.session_client.specs.Turning.{InPhase}
use Rattle.session_client.specs.declared.client.Client.{Client}
use Rattle.session_client.specs.declared.client.Holding.{Holding}
use Rattle.session_client.specs.declared.client.Holding.TheVariants as holdings
use Rattle.session_client.specs.declared.next.Todo.{Todo}
use Rattle.session_client.proofs.Places.{later, unit_there}
use Rattle.session_client.proofs.Runs.{grown, no_show, shows_after, untold_hearing}
use Rattle.session_client.proofs.Steps.{hearing_at, itself_where}
use Rattle.session_client.proofs.Turns.{LeavesItself}

-- ---- nothing happens

abbrev pub takes_none : (now : ℕ) (r : Router) (m : Holding) (kept filled : ℕ) (shown : Option ℕ)
    (input held : Octets) →
    TakesFrom None now r m kept filled shown input held r m kept filled shown input held
takes_none now r m kept filled shown input held = record {
  word = of_nothing;
  is_told = (refl, refl, refl);
  front = refl;
  size = refl;
  made = [];
  were = tt;
  says = λ c h makes x. tt;
  has = λ c h makes x. x;
}

-- ---- units that are kept

pub has_kept : (c : Caller Octets Octets) (h : Host Octets Octets) (m : Holding)
    (kept size filled : ℕ) (shown : Option ℕ) (input buffer : Octets) → IsHearing m →
    kept + size ≤ filled → HostHas c h m kept shown input buffer →
    HostHas c (record {
      kept = h.kept ++ take size (drop kept (take filled input)) ∷ [];
      made = h.made;
      shown = h.shown;
    }) m (kept + size) shown input buffer
has_kept c h m kept size filled shown input buffer hearing within x =
    let piece = take size (drop kept (take filled input)) in (
      x.0,
      grown c h m kept size filled input (piece ∷ []) hearing within x.1 (append-nil piece),
    )

pub kept_left : (m : Holding) (kept size filled : ℕ) (input : Octets) → IsHearing m →
    drop ((kept + size) + due_size m) (take filled input)
    ≡ drop size (drop (kept + due_size m) (take filled input))
kept_left m kept size filled input hearing =
    untold_hearing m (kept + size) filled input hearing
    ∙ later input kept size filled
    ∙ ap (drop size) (sym (untold_hearing m kept filled input hearing))

-- ---- a unit at which the machine acts

none_before : (n : ℕ) → (0 < n → ⊥) → n ≡ 0
none_before n none = go (cases_lt 0 n)
  where
    go : (0 < n) ⊎ (n ≤ 0) → n ≡ 0
    go (inl more) = absurd (none more)
    go (inr most) = omega (arith, most)

front_same : (c : Caller Octets Octets) (h : Host Octets Octets) (m : Holding) (kept : ℕ)
    (input input' : Octets) → IsHearing m → take kept input' ≡ take kept input →
    Holds c h m kept input → Holds c h m kept input'
front_same c h holdings.Nothing kept input input' hearing same holds = tt
front_same c h holdings.Units kept input input' hearing same holds = holds ∙ sym same
front_same c h (holdings.Answer n s) kept input input' hearing same holds = absurd hearing

pub has_wait : (c : Caller Octets Octets) (h : Host Octets Octets) (m : Holding)
    (now kept start end filled : ℕ) (before r' : Router) (shown : Option ℕ)
    (input input' buffer : Octets) → IsHearing m →
    take (kept + start) input' ≡ take (kept + start) input →
    Acts before now (drop kept (take filled input)) start end actions.Wait r' →
    HostHas c h m kept shown input buffer → HostHas c h m (kept + start) shown input' buffer
has_wait c h m now kept start end filled before r' shown input input' buffer hearing same acts x =
    let none = none_before start (λ more. acts.alone more) in
    let at : kept + start ≡ kept = omega (arith, none) in
    subst (λ k. take k input' ≡ take k input → HostHas c h m k shown input' buffer) (sym at)
    (λ same. (x.0, front_same c h m kept input input' hearing same x.1)) same

pub has_begin : (c : Caller Octets Octets) (h : Host Octets Octets) (m : Holding) (kept : ℕ)
    (b : Octets) (shown : Option ℕ) (input input' buffer : Octets) →
    HostHas c h m kept shown input buffer →
    HostHas c (host_after c h b actions.Begin) holdings.Units 0 shown input' buffer
has_begin c h m kept b shown input input' buffer x = (x.0, refl)

pub has_apply : (c : Caller Octets Octets) (h : Host Octets Octets) (m : Holding) (since : Bool)
    (now kept kept' start end filled : ℕ) (before r' : Router) (shown : Option ℕ)
    (input buffer : Octets) → IsHearing m → start ≤ end → kept + end ≤ filled →
    (m ≡ holdings.Units → kept' ≡ kept + start) →
    Acts before now (drop kept (take filled input)) start end (actions.Apply since) r' →
    HostHas c h m kept shown input buffer →
    HostHas c (host_after c h (drop start (take end (drop kept (take filled input))))
    (actions.Apply since)) (due_after m (end - start) since) kept' shown input buffer
has_apply c h holdings.Nothing since now kept kept' start end filled before r' shown input buffer
    hearing order within is acts x = (x.0, tt)
has_apply c h holdings.Units since now kept kept' start end filled before r' shown input buffer
    hearing order within is acts x =
    let none = none_before start (λ more. acts.alone more) in
    let at = is refl in
    let here : kept ≡ kept' = omega (arith, none, at) in (
      x.0,
      record {
        units = h.kept;
        end = drop start (take end (drop kept (take filled input)));
        made = refl;
        units_are = x.1 ∙ ap (λ k. take k input) here;
        end_is = unit_there input kept start end filled order within
            ∙ ap (λ k. take (end - start) (drop k input)) (sym at);
      },
    )
has_apply c h (holdings.Answer n s) since now kept kept' start end filled before r' shown input
    buffer hearing order within is acts x =
    absurd hearing

-- after any other action nothing is kept
pub has_other : (c : Caller Octets Octets) (h : Host Octets Octets) (m : Holding) (kept kept' : ℕ)
    (b : Octets) (a : Action) (shown : Option ℕ) (input input' buffer : Octets) →
    a ≢ actions.Show → HostHas c h m kept shown input buffer →
    HostHas c (host_after c h b a) holdings.Nothing kept' (shown_after a shown) input' buffer
has_other c h m kept kept' b a shown input input' buffer other x =
    (shows_after c h b a shown buffer other x.0, tt)

pub unit_shows_none : (now start end : ℕ) (b : Octets) (a : Action) (before r' : Router) →
    Acts before now b start end a r' → a ≢ actions.Show
unit_shows_none now start end b a before r' acts =
    no_show acts.before now (events.Came acts.head) a r' (λ e. cc) acts.step.rule

pub has_made : (c : Caller Octets Octets) (h : Host Octets Octets) (n kept' : ℕ)
    (input' made : Octets) → h.made ≡ Some (take n made) →
    HostHas c (host_after c h [] actions.Show) holdings.Nothing kept' (Some n) input' made
has_made c h n kept' input' made is =
    (subst (λ o. ShowsFront o (Some n) made) (sym is) refl, tt)

-- ---- what is left of the input

at_end : (a : Action) (before after : Octets) → EndsConnection a → after ≡ [] →
    LeavesInput a 0 before after
at_end (actions.End x) before after ends none = none
at_end actions.Wait before after ends none = absurd ends
at_end actions.Connect before after ends none = absurd ends
at_end (actions.Ask q) before after ends none = absurd ends
at_end actions.Begin before after ends none = absurd ends
at_end actions.Keep before after ends none = absurd ends
at_end (actions.Apply s) before after ends none = absurd ends
at_end actions.Show before after ends none = absurd ends
at_end actions.NoData before after ends none = absurd ends
at_end actions.Drop before after ends none = absurd ends

pub leaves_ended : (a : Action) (before after : Octets) → EndsConnection a →
    (EndsConnection a → after ≡ []) → LeavesInput a 0 before after
leaves_ended a before after ends none = at_end a before after ends (none ends)

connects_from : (r r' : Router) (n : ℕ) (e : Event) → Rule r n e actions.Connect r' →
    r.phase ≡ phases.Offline
connects_from r r' n events.Tick rule = rule.from
connects_from r r' n events.Asked rule = absurd rule
connects_from r r' n events.Connected rule = absurd rule
connects_from r r' n events.Lost rule = absurd rule
connects_from r r' n (events.Came u) rule = absurd rule
connects_from r r' n (events.Faulty f) rule = absurd rule
connects_from r r' n events.Applied rule = absurd rule
connects_from r r' n (events.NotApplied code) rule = absurd rule

module _ (r r' : Router) (n : ℕ) (e : Event) (m : Holding) (before after : Octets)
    (says : SaysItself r e) (here : InPhase r.phase m) where
  not_connect : (a : Action) → Rule r n e a r' → a ≢ actions.Connect →
      LeavesItself a m before after → LeavesInput a 0 before after
  not_connect a rule other left = go (itself_where r r' n e a m says rule other here)
    where
      go : (a ≡ actions.Wait) ⊎ (EndsConnection a ⊎ IsHearing m) → LeavesInput a 0 before after
      go (inl waits) =
          subst (λ a. LeavesInput a 0 before after) (sym waits) (left.2 waits)
      go (inr (inl ends)) = at_end a before after ends (left.1 ends)
      go (inr (inr hears)) = left.0 hears

  pub leaves_itself : (a : Action) → Rule r n e a r' → LeavesItself a m before after →
      LeavesInput a 0 before after
  leaves_itself actions.Connect rule left =
      left.0 (hearing_at r.phase m
      (λ is. let e = sym (connects_from r r' n e rule) ∙ is in cc) here)
  leaves_itself actions.Wait rule left = left.2 refl
  leaves_itself (actions.End x) rule left = left.1 tt
  leaves_itself (actions.Ask q) rule left = not_connect (actions.Ask q) rule (λ is. cc) left
  leaves_itself actions.Begin rule left = not_connect actions.Begin rule (λ is. cc) left
  leaves_itself actions.Keep rule left = not_connect actions.Keep rule (λ is. cc) left
  leaves_itself (actions.Apply s) rule left = not_connect (actions.Apply s) rule (λ is. cc) left
  leaves_itself actions.Show rule left = not_connect actions.Show rule (λ is. cc) left
  leaves_itself actions.NoData rule left = not_connect actions.NoData rule (λ is. cc) left
  leaves_itself actions.Drop rule left = not_connect actions.Drop rule (λ is. cc) left

pub no_unit : (e : Event) → IsOfNone e → IsNoUnit e
no_unit events.Tick none = tt
no_unit events.Asked none = tt
no_unit events.Connected none = tt
no_unit events.Lost none = tt
no_unit (events.Came u) none = absurd none
no_unit (events.Faulty f) none = absurd none
no_unit events.Applied none = tt
no_unit (events.NotApplied code) none = tt

-- ---- and its caller is told of it

pub told_then : (P : Word → Type 0) (t : Todo) (a : Action) (now : ℕ) (k k₁ k₂ : Client)
    (input held input' held' before after : Octets) → IsTodoOf (Some a) t →
    Did (Some a) now k.router k₁.router k.unsent k₁.unsent before after →
    k₂.router ≡ k₁.router → k₂.unsent ≡ k₁.unsent →
    (x : TakesCall (Some a) now k input held k₂ input' held') → P x.word →
    TellsCall P t now k input held k₂ input' held' before after
told_then P t a now k k₁ k₂ input held input' held' before after is did router unsent takes told = (
  Some a,
  is,
  subst (λ x. Did (Some a) now k.router x k.unsent k₂.unsent before after) (sym router)
      (subst (λ x. Did (Some a) now k.router k₁.router k.unsent x before after) (sym unsent) did),
  takes,
  told,
)
