-- How many turns are left to a client, after what it did.
use native.Mathlib.Omega.{arith}
use Rattle.std.proofs.Common.{◌≡◌, ◌≢◌, ℕ, Bool, ◌+◌, ◌-◌, ◌*◌, ◌<◌, ◌≤◌, List, []}
use Rattle.std.proofs.Common.{◌⊎◌, inl, inr, length, take, drop, refl, sym, ap, subst, ◌∙◌}
use Rattle.std.proofs.Common.{length-drop}
use Rattle.session_router.specs.declared.event.Action.{Action}
use Rattle.session_router.specs.declared.event.Action.TheVariants as actions
use Rattle.session_router.specs.declared.event.Event.{Event}
use Rattle.session_router.specs.declared.event.Event.TheVariants as events
use Rattle.session_router.specs.declared.router.Router.{Router}
use Rattle.session_router.specs.Heeding.{IsTalking}
use Rattle.session_router.specs.Step.{IsStep}
use Rattle.unit_views.specs.declared.fault.ViewFault.{ViewFault}
use Rattle.session_bytes.specs.Reading.{Acts, EndsConnection, HearsRefused, fault_of}
use Rattle.session_client.specs.Holding.{IsHearing, LeavesInput, SaysItself, due_size, untold}
use Rattle.session_client.specs.Turning.{HasAnswer, InPhase, flag, follows, turns_due, turns_left}
use Rattle.session_client.specs.Turning.{turns_of}
use Rattle.session_client.specs.declared.client.Client.{Client}
use Rattle.session_client.specs.declared.client.Holding.{Holding}
use Rattle.session_client.specs.declared.client.Holding.TheVariants as holdings
use Rattle.session_client.proofs.Runs.{due_none, untold_hearing}
use Rattle.session_client.proofs.Steps.{faulty_ends, itself_where, same_kept, turns_applied}
use Rattle.session_client.proofs.Steps.{turns_came, turns_itself, turns_same, turns_tick}

-- ---- numbers

pub with_flags : (x o c x' o' c' : ℕ) → x' < x → o' ≡ o → c' ≡ c → x' + o' + c' < x + o + c
with_flags x o c x' o' c' less same same' = omega (arith, less, same, same')

pub with_flags_most : (x o c x' o' c' : ℕ) → x' ≤ x → o' ≡ o → c' ≡ c →
    x' + o' + c' ≤ x + o + c
with_flags_most x o c x' o' c' less same same' = omega (arith, less, same, same')

pub fewer_then : (a b c : ℕ) → b < a → c ≤ b → c < a
fewer_then a b c less most = omega (arith, less, most)

pub most_then : (a b c : ℕ) → b ≤ a → c ≤ b → c ≤ a
most_then a b c less most = omega (arith, less, most)

fewer_bytes : (u d t u' d' t' : ℕ) → u' + 1 ≤ u → d' ≤ 4 → t' ≤ t + 1 →
    8 * u' + d' + t' < 8 * u + d + t
fewer_bytes u d t u' d' t' less due turns = omega (arith, less, due, turns)

due_most : (m : Holding) → turns_due m ≤ 4
due_most holdings.Nothing = omega arith
due_most holdings.Units = omega arith
due_most (holdings.Answer n s) = omega arith

-- ---- the bytes that are left

none_left : (after : List ℕ) (b : ℕ) → 1 ≤ b → after ≡ [] → length after + 1 ≤ b
none_left after b some is =
    let e : length after ≡ 0 = ap length is in omega (arith, some, e)

drop_left : (n : ℕ) (before after : List ℕ) → 1 ≤ n → n ≤ length before → after ≡ drop n before →
    length after + 1 ≤ length before
drop_left n before after some within is =
    let e = ap length is ∙ length-drop n before in omega (arith, some, within, e)

acted_left : (a : Action) (n : ℕ) (before after : List ℕ) → 1 ≤ n → n ≤ length before →
    LeavesInput a n before after → length after + 1 ≤ length before
acted_left (actions.End x) n before after some within left =
    none_left after (length before) (omega (arith, some, within)) left
acted_left actions.Connect n before after some within left =
    none_left after (length before) (omega (arith, some, within)) left
acted_left actions.Wait n before after some within left = drop_left n before after some within left
acted_left (actions.Ask q) n before after some within left =
    drop_left n before after some within left
acted_left actions.Begin n before after some within left = drop_left n before after some within left
acted_left actions.Keep n before after some within left = drop_left n before after some within left
acted_left (actions.Apply s) n before after some within left =
    drop_left n before after some within left
acted_left actions.Show n before after some within left = drop_left n before after some within left
acted_left actions.NoData n before after some within left =
    drop_left n before after some within left
acted_left actions.Drop n before after some within left = drop_left n before after some within left

same_left : (before after : List ℕ) → after ≡ before → length after ≤ length before
same_left before after is = let e = ap length is in omega (arith, e)

ended_left : (before after : List ℕ) → after ≡ [] → length after ≤ length before
ended_left before after is =
    let e : length after ≡ 0 = ap length is in omega (arith, e)

pub ends_left : (a : Action) (n : ℕ) (before after : List ℕ) → EndsConnection a →
    LeavesInput a n before after → after ≡ []
ends_left (actions.End x) n before after ends left = left
ends_left actions.Wait n before after ends left = absurd ends
ends_left actions.Connect n before after ends left = absurd ends
ends_left (actions.Ask q) n before after ends left = absurd ends
ends_left actions.Begin n before after ends left = absurd ends
ends_left actions.Keep n before after ends left = absurd ends
ends_left (actions.Apply s) n before after ends left = absurd ends
ends_left actions.Show n before after ends left = absurd ends
ends_left actions.NoData n before after ends left = absurd ends
ends_left actions.Drop n before after ends left = absurd ends

pub ends_nothing : (a : Action) (m : Holding) → EndsConnection a → follows a m ≡ holdings.Nothing
ends_nothing (actions.End x) m ends = refl
ends_nothing actions.Wait m ends = absurd ends
ends_nothing actions.Connect m ends = absurd ends
ends_nothing (actions.Ask q) m ends = absurd ends
ends_nothing actions.Begin m ends = absurd ends
ends_nothing actions.Keep m ends = absurd ends
ends_nothing (actions.Apply s) m ends = absurd ends
ends_nothing actions.Show m ends = absurd ends
ends_nothing actions.NoData m ends = absurd ends
ends_nothing actions.Drop m ends = absurd ends

-- ---- units are kept

pub kept_turns : (k : Client) (r : Router) (size : ℕ) (input : List ℕ) → IsHearing k.holding →
    0 < size → size ≤ length (drop k.kept (take k.filled input)) →
    turns_of r ≡ turns_of k.router →
    turns_left (record k { router = r; kept = k.kept + size }) input < turns_left k input
kept_turns k r size input hearing some within same =
    let there = take k.filled input in
    let none = due_none k.holding hearing in
    let before : length (untold k input) ≡ length there - (k.kept + due_size k.holding) =
    length-drop (k.kept + due_size k.holding) there in
    let after : length (drop (k.kept + size + due_size k.holding) there)
    ≡ length there - (k.kept + size + due_size k.holding) =
    length-drop (k.kept + size + due_size k.holding) there in
    let room = length-drop k.kept there in
    let less : length (drop (k.kept + size + due_size k.holding) there) + 1
    ≤ length (untold k input) =
    omega (arith, some, within, none, before, after, room) in
    with_flags (8 * length (untold k input) + turns_due k.holding + turns_of k.router)
    (flag k.opened) (flag k.closed)
    (8 * length (drop (k.kept + size + due_size k.holding) there) + turns_due k.holding
    + turns_of r) (flag k.opened) (flag k.closed)
    (fewer_bytes (length (untold k input)) (turns_due k.holding) (turns_of k.router)
    (length (drop (k.kept + size + due_size k.holding) there)) (turns_due k.holding) (turns_of r)
    less (due_most k.holding) (omega (arith, same))) refl refl

-- ---- a unit at which the machine acts

turns_acts : (r : Router) (now : ℕ) (rest : List ℕ) (start end : ℕ) (a : Action) (r' : Router) →
    Acts r now rest start end a r' → turns_of r' ≤ turns_of r + 1
turns_acts r now rest start end a r' acts =
    let kept = same_kept now r (take start rest) acts.before acts.kept in
    let most = turns_came acts.before r' now acts.head a acts.other acts.step.rule in
    let same = turns_same r acts.before kept.0 kept.1 in
    omega (arith, most, same)

pub acted_turns : (k k' : Client) (input input' : List ℕ) (now start end : ℕ) (a : Action)
    (r : Router) → IsHearing k.holding →
    Acts k.router now (drop k.kept (take k.filled input)) start end a r →
    LeavesInput a end (untold k input) (untold k' input') → k'.router ≡ r →
    k'.opened ≡ k.opened → k'.closed ≡ k.closed →
    turns_left k' input' < turns_left k input
acted_turns k k' input input' now start end a r hearing acts left router opened closed =
    let rest = drop k.kept (take k.filled input) in
    let same = untold_hearing k.holding k.kept k.filled input hearing in
    let order = acts.order in
    let some : 1 ≤ end = omega (arith, order) in
    let within : end ≤ length (untold k input) =
    subst (λ l. end ≤ length l) (sym same) acts.within in
    let most : turns_of k'.router ≤ turns_of k.router + 1 =
    subst (λ r. turns_of r ≤ turns_of k.router + 1) (sym router)
    (turns_acts k.router now rest start end a r acts) in
    with_flags (8 * length (untold k input) + turns_due k.holding + turns_of k.router)
    (flag k.opened) (flag k.closed)
    (8 * length (untold k' input') + turns_due k'.holding + turns_of k'.router)
    (flag k'.opened) (flag k'.closed)
    (fewer_bytes (length (untold k input)) (turns_due k.holding) (turns_of k.router)
    (length (untold k' input')) (turns_due k'.holding) (turns_of k'.router)
    (acted_left a end (untold k input) (untold k' input') some within left)
    (due_most k'.holding) most) (ap flag opened) (ap flag closed)

-- ---- a unit that is refused

pub refused_turns : (k k' : Client) (input input' : List ℕ) (now : ℕ) (ended : Bool)
    (e : ViewFault) (a : Action) (r : Router) → IsHearing k.holding → IsTalking k.router →
    HearsRefused k.router now (drop k.kept (take k.filled input)) ended e a r →
    LeavesInput a 0 (untold k input) (untold k' input') →
    k'.holding ≡ follows a k.holding → k'.router ≡ r →
    k'.opened ≡ k.opened → k'.closed ≡ k.closed →
    turns_left k' input' < turns_left k input
refused_turns k k' input input' now ended e a r hearing talks heard left holding router opened
    closed =
    let rest = drop k.kept (take k.filled input) in
    let f = fault_of rest e in
    let ends = faulty_ends k.router r now f a talks heard.step.rule in
    let none : length (untold k' input') ≡ 0 =
    ap length (ends_left a 0 (untold k input) (untold k' input') ends left) in
    let due : turns_due k'.holding ≡ 0 =
    ap turns_due (holding ∙ ends_nothing a k.holding ends) in
    let some : 0 < length (untold k input) =
    subst (λ l. 0 < length l) (sym (untold_hearing k.holding k.kept k.filled input hearing))
    heard.some in
    let most : turns_of k'.router ≤ turns_of k.router =
    subst (λ r. turns_of r ≤ turns_of k.router) (sym router)
    (turns_itself k.router r now (events.Faulty f) a tt heard.step.rule (not_connect a ends)) in
    with_flags (8 * length (untold k input) + turns_due k.holding + turns_of k.router)
    (flag k.opened) (flag k.closed)
    (8 * length (untold k' input') + turns_due k'.holding + turns_of k'.router)
    (flag k'.opened) (flag k'.closed)
    (omega (arith, none, due, some, most)) (ap flag opened) (ap flag closed)
  where
    not_connect : (a : Action) → EndsConnection a → a ≢ actions.Connect
    not_connect a ends is = subst EndsConnection is ends

-- ---- what the machine is told of itself

-- what is left where something is held but where changes are being made
abbrev pub LeavesItself : Action → Holding → (before after : List ℕ) → Type 0
LeavesItself a m before after =
    (IsHearing m → LeavesInput a 0 before after) × (EndsConnection a → after ≡ [])
    × (a ≡ actions.Wait → after ≡ before)

not_more : (a : Action) (before after : List ℕ) → LeavesInput a 0 before after →
    length after ≤ length before
not_more (actions.End x) before after left = ended_left before after left
not_more actions.Connect before after left = ended_left before after left
not_more actions.Wait before after left = same_left before after left
not_more (actions.Ask q) before after left = same_left before after left
not_more actions.Begin before after left = same_left before after left
not_more actions.Keep before after left = same_left before after left
not_more (actions.Apply s) before after left = same_left before after left
not_more actions.Show before after left = same_left before after left
not_more actions.NoData before after left = same_left before after left
not_more actions.Drop before after left = same_left before after left

itself_left : (a : Action) (m : Holding) (before after : List ℕ) →
    (a ≡ actions.Wait) ⊎ (EndsConnection a ⊎ IsHearing m) → LeavesItself a m before after →
    length after ≤ length before
itself_left a m before after (inl waits) left = same_left before after (left.2 waits)
itself_left a m before after (inr (inl ends)) left = ended_left before after (left.1 ends)
itself_left a m before after (inr (inr hears)) left = not_more a before after (left.0 hears)

follows_due : (a : Action) (m : Holding) → turns_due (follows a m) ≤ turns_due m
follows_due actions.Wait m = omega arith
follows_due (actions.End x) m = omega arith
follows_due actions.Connect m = omega arith
follows_due (actions.Ask q) m = omega arith
follows_due actions.Begin m = omega arith
follows_due actions.Keep m = omega arith
follows_due (actions.Apply s) m = omega arith
follows_due actions.Show m = omega arith
follows_due actions.NoData m = omega arith
follows_due actions.Drop m = omega arith

-- the numbers of a client before and after what it told its machine of itself
pub record Itself (k k' : Client) (input input' : List ℕ) (now : ℕ) (e : Event) (a : Action) :
    Type 0 where
  pub here : InPhase k.router.phase k.holding
  pub says : SaysItself k.router e
  pub steps : IsStep k.router now e a k'.router
  pub left : LeavesItself a k.holding (untold k input) (untold k' input')
  pub holding : k'.holding ≡ follows a k.holding
  pub opened : k'.opened ≡ k.opened
  pub closed : k'.closed ≡ k.closed

parts_most : (u d u' d' t t' : ℕ) → u' ≤ u → d' ≤ d → t' ≤ t → 8 * u' + d' + t' ≤ 8 * u + d + t
parts_most u d u' d' t t' bytes due turns = omega (arith, bytes, due, turns)

parts_less : (u d u' d' t t' : ℕ) → u' ≤ u → d' ≤ d → t' < t → 8 * u' + d' + t' < 8 * u + d + t
parts_less u d u' d' t t' bytes due turns = omega (arith, bytes, due, turns)

itself_due : (k k' : Client) (a : Action) → k'.holding ≡ follows a k.holding →
    turns_due k'.holding ≤ turns_due k.holding
itself_due k k' a is =
    subst (λ m. turns_due m ≤ turns_due k.holding) (sym is) (follows_due a k.holding)

pub itself_turns : (k k' : Client) (input input' : List ℕ) (now : ℕ) (e : Event) (a : Action) →
    Itself k k' input input' now e a → a ≢ actions.Connect →
    turns_left k' input' ≤ turns_left k input
itself_turns k k' input input' now e a x other =
    with_flags_most (8 * length (untold k input) + turns_due k.holding + turns_of k.router)
    (flag k.opened) (flag k.closed)
    (8 * length (untold k' input') + turns_due k'.holding + turns_of k'.router)
    (flag k'.opened) (flag k'.closed)
    (parts_most (length (untold k input)) (turns_due k.holding) (length (untold k' input'))
    (turns_due k'.holding) (turns_of k.router) (turns_of k'.router)
    (itself_left a k.holding (untold k input) (untold k' input')
    (itself_where k.router k'.router now e a k.holding x.says x.steps.rule other x.here) x.left)
    (itself_due k k' a x.holding)
    (turns_itself k.router k'.router now e a x.says x.steps.rule other))
    (ap flag x.opened) (ap flag x.closed)

pub tick_turns : (k k' : Client) (input input' : List ℕ) (now : ℕ) (e : Event) (a : Action) →
    Itself k k' input input' now e a → e ≡ events.Tick → a ≢ actions.Wait →
    a ≢ actions.Connect → turns_left k' input' < turns_left k input
tick_turns k k' input input' now e a x is waits other =
    with_flags (8 * length (untold k input) + turns_due k.holding + turns_of k.router)
    (flag k.opened) (flag k.closed)
    (8 * length (untold k' input') + turns_due k'.holding + turns_of k'.router)
    (flag k'.opened) (flag k'.closed)
    (parts_less (length (untold k input)) (turns_due k.holding) (length (untold k' input'))
    (turns_due k'.holding) (turns_of k.router) (turns_of k'.router)
    (itself_left a k.holding (untold k input) (untold k' input')
    (itself_where k.router k'.router now e a k.holding x.says x.steps.rule other x.here) x.left)
    (itself_due k k' a x.holding)
    (turns_tick k.router k'.router now a
    (subst (λ e. IsStep k.router now e a k'.router) is x.steps) waits other))
    (ap flag x.opened) (ap flag x.closed)

-- ---- the changes of an answer

answer_due : (m : Holding) → HasAnswer m → turns_due m ≡ 4
answer_due holdings.Nothing whole = absurd whole
answer_due holdings.Units whole = absurd whole
answer_due (holdings.Answer n s) whole = refl

adopts_less : (u d u' d' t t' : ℕ) → u' ≤ u → d ≡ 4 → d' ≡ 0 → t' ≤ t + 2 →
    8 * u' + d' + t' < 8 * u + d + t
adopts_less u d u' d' t t' bytes due none turns = omega (arith, bytes, due, none, turns)

pub adopted_turns : (k k' : Client) (input input' : List ℕ) (now : ℕ) (a : Action) →
    HasAnswer k.holding → IsStep k.router now events.Applied a k'.router →
    LeavesInput a 0 (untold k input) (untold k' input') → k'.holding ≡ holdings.Nothing →
    k'.opened ≡ k.opened → k'.closed ≡ k.closed →
    turns_left k' input' < turns_left k input
adopted_turns k k' input input' now a whole steps left holding opened closed =
    with_flags (8 * length (untold k input) + turns_due k.holding + turns_of k.router)
    (flag k.opened) (flag k.closed)
    (8 * length (untold k' input') + turns_due k'.holding + turns_of k'.router)
    (flag k'.opened) (flag k'.closed)
    (adopts_less (length (untold k input)) (turns_due k.holding) (length (untold k' input'))
    (turns_due k'.holding) (turns_of k.router) (turns_of k'.router)
    (not_more a (untold k input) (untold k' input') left)
    (answer_due k.holding whole) (ap turns_due holding)
    (turns_applied k.router k'.router now a steps.rule))
    (ap flag opened) (ap flag closed)

pub gave_up_turns : (k k' : Client) (input input' : List ℕ) (now : ℕ) (e : Event) (a : Action) →
    Itself k k' input input' now e a → HasAnswer k.holding → EndsConnection a →
    turns_left k' input' < turns_left k input
gave_up_turns k k' input input' now e a x whole ends =
    let none : length (untold k' input') ≡ 0 = ap length (x.left.1 ends) in
    let due = answer_due k.holding whole in
    let due' : turns_due k'.holding ≡ 0 =
    ap turns_due (x.holding ∙ ends_nothing a k.holding ends) in
    let most = turns_itself k.router k'.router now e a x.says x.steps.rule
    (λ is. subst EndsConnection is ends) in
    with_flags (8 * length (untold k input) + turns_due k.holding + turns_of k.router)
    (flag k.opened) (flag k.closed)
    (8 * length (untold k' input') + turns_due k'.holding + turns_of k'.router)
    (flag k'.opened) (flag k'.closed)
    (omega (arith, none, due, due', most)) (ap flag x.opened) (ap flag x.closed)
