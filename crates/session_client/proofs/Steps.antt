-- Where a client is after a step of its machine, and how many turns are left to it.
use native.Mathlib.Omega.{arith}
use Rattle.std.proofs.Common.{◌≡◌, ◌≢◌, ◌⊎◌, ℕ, Bool, true, false, ◌+◌, ◌<◌, ◌≤◌, List}
use Rattle.std.proofs.Common.{take, refl, sym, ap, subst, ◌∙◌, inl, inr, Option}
use Rattle.std.proofs.lemmas.Bool.{cases_lt}
use Rattle.rtr_base.specs.declared.error_code.ErrorCode.{ErrorCode}
use Rattle.session_router.specs.declared.event.Action.{Action}
use Rattle.session_router.specs.declared.event.Action.TheVariants as actions
use Rattle.session_router.specs.declared.event.Ending.{Ending}
use Rattle.session_router.specs.declared.event.Event.{Event}
use Rattle.session_router.specs.declared.event.Event.TheVariants as events
use Rattle.session_router.specs.declared.head.Fault.{Fault}
use Rattle.session_router.specs.declared.head.Head.{Head}
use Rattle.session_router.specs.declared.head.Query.{Query}
use Rattle.session_router.specs.declared.router.Phase.{Phase}
use Rattle.session_router.specs.declared.router.Phase.TheVariants as phases
use Rattle.session_router.specs.declared.router.Router.{Router}
use Rattle.session_router.specs.Heeding.{IsTalking}
use Rattle.session_router.specs.Pace.{IsLimited}
use Rattle.session_router.specs.Rules.{Asks, Drops, Rule}
use Rattle.session_router.specs.Step.{IsStep}
use Rattle.session_bytes.specs.Reading.{Acts, EndsConnection, KeepsAll, kept_none, kept_more}
use Rattle.session_client.specs.Holding.{IsHearing, SaysItself, due_after}
use Rattle.session_client.specs.Turning.{HasAnswer, InPhase, flag, follows, holding_after}
use Rattle.session_client.specs.Turning.{turns_in, turns_of}
use Rattle.session_client.specs.declared.client.Holding.{Holding}
use Rattle.session_client.specs.declared.client.Holding.TheVariants as holdings

-- ---- what doesn't happen

no_begin : (r r' : Router) (n : ℕ) (e : Event) → SaysItself r e → Rule r n e actions.Begin r' → ⊥
no_begin r r' n events.Tick says rule = rule
no_begin r r' n events.Asked says rule = rule
no_begin r r' n events.Connected says rule = rule
no_begin r r' n events.Lost says rule = rule
no_begin r r' n (events.Came u) says rule = absurd says
no_begin r r' n (events.Faulty f) says rule = rule
no_begin r r' n events.Applied says rule = absurd says
no_begin r r' n (events.NotApplied code) says rule = rule

no_keep : (r r' : Router) (n : ℕ) (e : Event) → SaysItself r e → Rule r n e actions.Keep r' → ⊥
no_keep r r' n events.Tick says rule = rule
no_keep r r' n events.Asked says rule = rule
no_keep r r' n events.Connected says rule = rule
no_keep r r' n events.Lost says rule = rule
no_keep r r' n (events.Came u) says rule = absurd says
no_keep r r' n (events.Faulty f) says rule = rule
no_keep r r' n events.Applied says rule = absurd says
no_keep r r' n (events.NotApplied code) says rule = rule

no_apply : (r r' : Router) (n : ℕ) (e : Event) (on : Bool) → SaysItself r e →
    Rule r n e (actions.Apply on) r' → ⊥
no_apply r r' n events.Tick on says rule = rule
no_apply r r' n events.Asked on says rule = rule
no_apply r r' n events.Connected on says rule = rule
no_apply r r' n events.Lost on says rule = rule
no_apply r r' n (events.Came u) on says rule = absurd says
no_apply r r' n (events.Faulty f) on says rule = rule
no_apply r r' n events.Applied on says rule = absurd says
no_apply r r' n (events.NotApplied code) on says rule = rule

no_show : (r r' : Router) (n : ℕ) (e : Event) → SaysItself r e → Rule r n e actions.Show r' → ⊥
no_show r r' n events.Tick says rule = rule
no_show r r' n events.Asked says rule = rule
no_show r r' n events.Connected says rule = rule
no_show r r' n events.Lost says rule = rule
no_show r r' n (events.Came u) says rule = absurd says
no_show r r' n (events.Faulty f) says rule = rule
no_show r r' n events.Applied says rule = absurd says
no_show r r' n (events.NotApplied code) says rule = rule

no_data : (r r' : Router) (n : ℕ) (e : Event) → SaysItself r e → Rule r n e actions.NoData r' → ⊥
no_data r r' n events.Tick says rule = rule
no_data r r' n events.Asked says rule = rule
no_data r r' n events.Connected says rule = rule
no_data r r' n events.Lost says rule = rule
no_data r r' n (events.Came u) says rule = absurd says
no_data r r' n (events.Faulty f) says rule = rule
no_data r r' n events.Applied says rule = absurd says
no_data r r' n (events.NotApplied code) says rule = rule

pub none_applied : (r r' : Router) (n : ℕ) → Rule r n events.Applied actions.NoData r' → ⊥
none_applied r r' n rule = rule

pub none_itself : (r r' : Router) (n : ℕ) (e : Event) → SaysItself r e →
    Rule r n e actions.NoData r' → ⊥
none_itself r r' n e says rule = no_data r r' n e says rule

pub connects_then : (r r' : Router) (n : ℕ) (e : Event) → Rule r n e actions.Connect r' →
    r'.phase ≡ phases.Connecting
connects_then r r' n events.Tick rule = rule.phase
connects_then r r' n events.Asked rule = absurd rule
connects_then r r' n events.Connected rule = absurd rule
connects_then r r' n events.Lost rule = absurd rule
connects_then r r' n (events.Came u) rule = absurd rule
connects_then r r' n (events.Faulty f) rule = absurd rule
connects_then r r' n events.Applied rule = absurd rule
connects_then r r' n (events.NotApplied code) rule = absurd rule

-- ---- where it is then

at_nothing : (r : Router) (p : Phase) → r.phase ≡ p → InPhase p holdings.Nothing →
    InPhase r.phase holdings.Nothing
at_nothing r p is here = subst (λ p. InPhase p holdings.Nothing) (sym is) here

pub stays_in : (r r' : Router) (m : Holding) → r'.phase ≡ r.phase → InPhase r.phase m →
    InPhase r'.phase m
stays_in r r' m same here = subst (λ p. InPhase p m) (sym same) here

-- after what it is told of itself
pub step_itself : (r r' : Router) (n : ℕ) (e : Event) (a : Action) (m : Holding) →
    SaysItself r e → Rule r n e a r' → InPhase r.phase m → InPhase r'.phase (follows a m)
step_itself r r' n e actions.Wait m says rule here = stays_in r r' m rule.talk.phase here
step_itself r r' n e actions.Connect m says rule here =
    at_nothing r' phases.Connecting (connects_then r r' n e rule) tt
step_itself r r' n e (actions.Ask q) m says rule here = at_nothing r' phases.Asked rule.phase tt
step_itself r r' n e actions.Begin m says rule here = absurd (no_begin r r' n e says rule)
step_itself r r' n e actions.Keep m says rule here = absurd (no_keep r r' n e says rule)
step_itself r r' n e (actions.Apply on) m says rule here = absurd (no_apply r r' n e on says rule)
step_itself r r' n e actions.Show m says rule here = absurd (no_show r r' n e says rule)
step_itself r r' n e actions.NoData m says rule here = absurd (no_data r r' n e says rule)
step_itself r r' n e actions.Drop m says rule here = at_nothing r' phases.Offline rule.phase tt
step_itself r r' n e (actions.End x) m says rule here = at_nothing r' phases.Offline rule.phase tt

-- a whole answer is there only while its changes are made
pub answer_applying : (p : Phase) (m : Holding) → InPhase p m → HasAnswer m → p ≡ phases.Applying
answer_applying p holdings.Nothing here whole = absurd whole
answer_applying p holdings.Units here whole = absurd whole
answer_applying phases.Offline (holdings.Answer n s) here whole = absurd here
answer_applying phases.Connecting (holdings.Answer n s) here whole = absurd here
answer_applying phases.Asked (holdings.Answer n s) here whole = absurd here
answer_applying phases.Reading (holdings.Answer n s) here whole = absurd here
answer_applying phases.Applying (holdings.Answer n s) here whole = refl
answer_applying phases.Waiting (holdings.Answer n s) here whole = absurd here

pub hearing_elsewhere : (p : Phase) (m : Holding) → InPhase p m → IsHearing m →
    p ≢ phases.Applying
hearing_elsewhere p holdings.Nothing here hears is =
    subst (λ p. InPhase p holdings.Nothing) is here
hearing_elsewhere p holdings.Units here hears is = subst (λ p. InPhase p holdings.Units) is here
hearing_elsewhere p (holdings.Answer n s) here hears is = absurd hears

completed : (m : Holding) (size : ℕ) (on : Bool) → InPhase phases.Reading m →
    InPhase phases.Applying (due_after m size on)
completed holdings.Nothing size on here = absurd here
completed holdings.Units size on here = tt
completed (holdings.Answer n s) size on here = absurd here

-- after a unit
pub step_came : (r r' : Router) (n size : ℕ) (u : Head) (a : Action) (m : Holding) →
    a ≢ actions.Keep → Rule r n (events.Came u) a r' → InPhase r.phase m →
    InPhase r'.phase (holding_after a m size)
step_came r r' n size u actions.Wait m other rule here = stays_in r r' m rule.talk.phase here
step_came r r' n size u actions.Connect m other rule here = absurd rule
step_came r r' n size u (actions.Ask q) m other rule here =
    at_nothing r' phases.Asked rule.phase tt
step_came r r' n size u actions.Begin m other rule here =
    subst (λ p. InPhase p holdings.Units) (sym rule.phase) tt
step_came r r' n size u actions.Keep m other rule here = absurd (other refl)
step_came r r' n size u (actions.Apply on) m other rule here =
    subst (λ p. InPhase p (due_after m size on)) (sym rule.phase)
    (completed m size on (subst (λ p. InPhase p m) rule.from here))
step_came r r' n size u actions.Show m other rule here = absurd rule
step_came r r' n size u actions.NoData m other rule here =
    at_nothing r' phases.Waiting rule.phase tt
step_came r r' n size u actions.Drop m other rule here =
    at_nothing r' phases.Offline rule.phase tt
step_came r r' n size u (actions.End x) m other rule here =
    at_nothing r' phases.Offline rule.phase tt

-- after what the changes made
pub step_applied : (r r' : Router) (n : ℕ) (a : Action) (m : Holding) → HasAnswer m →
    Rule r n events.Applied a r' → InPhase r.phase m → InPhase r'.phase holdings.Nothing
step_applied r r' n actions.Wait m whole rule here =
    absurd (rule.passes (answer_applying r.phase m here whole))
step_applied r r' n actions.Connect m whole rule here = absurd rule
step_applied r r' n (actions.Ask q) m whole rule here = absurd rule.may
step_applied r r' n actions.Begin m whole rule here = absurd rule
step_applied r r' n actions.Keep m whole rule here = absurd rule
step_applied r r' n (actions.Apply on) m whole rule here = absurd rule
step_applied r r' n actions.Show m whole rule here = at_nothing r' phases.Waiting rule.phase tt
step_applied r r' n actions.NoData m whole rule here = absurd rule
step_applied r r' n actions.Drop m whole rule here = at_nothing r' phases.Offline rule.phase tt
step_applied r r' n (actions.End x) m whole rule here = at_nothing r' phases.Offline rule.phase tt

-- payload units that are kept change neither
pub same_kept : (n : ℕ) (r : Router) (b : List ℕ) (r' : Router) → KeepsAll n r b r' →
    (r'.phase ≡ r.phase) × (r'.has_data ≡ r.has_data)
same_kept n r b r' (kept_none r₀) = (refl, refl)
same_kept n r b r' (kept_more r₀ b₀ u mid h r₁ before unit step) =
    let x = same_kept n r b₀ mid before in (
      step.rule.talk.phase ∙ x.0,
      step.rule.same.has_data ∙ x.1,
    )

pub acts_in_step : (r : Router) (now : ℕ) (rest : List ℕ) (start end size : ℕ) (a : Action)
    (r' : Router) (m : Holding) → Acts r now rest start end a r' → InPhase r.phase m →
    InPhase r'.phase (holding_after a m size)
acts_in_step r now rest start end size a r' m acts here =
    let kept = same_kept now r (take start rest) acts.before acts.kept in
    step_came acts.before r' now size acts.head a m acts.other acts.step.rule
    (stays_in r acts.before m kept.0 here)

-- ---- what is held after other actions

pub follows_other : (a : Action) (m : Holding) → a ≢ actions.Wait →
    follows a m ≡ holdings.Nothing
follows_other actions.Wait m other = absurd (other refl)
follows_other actions.Connect m other = refl
follows_other (actions.Ask q) m other = refl
follows_other actions.Begin m other = refl
follows_other actions.Keep m other = refl
follows_other (actions.Apply on) m other = refl
follows_other actions.Show m other = refl
follows_other actions.NoData m other = refl
follows_other actions.Drop m other = refl
follows_other (actions.End x) m other = refl

pub holding_other : (a : Action) (m : Holding) (size : ℕ) → a ≢ actions.Wait →
    a ≢ actions.Begin → ((on : Bool) → a ≢ actions.Apply on) →
    holding_after a m size ≡ holdings.Nothing
holding_other actions.Wait m size waits begins applies = absurd (waits refl)
holding_other actions.Connect m size waits begins applies = refl
holding_other (actions.Ask q) m size waits begins applies = refl
holding_other actions.Begin m size waits begins applies = absurd (begins refl)
holding_other actions.Keep m size waits begins applies = refl
holding_other (actions.Apply on) m size waits begins applies = absurd (applies on refl)
holding_other actions.Show m size waits begins applies = refl
holding_other actions.NoData m size waits begins applies = refl
holding_other actions.Drop m size waits begins applies = refl
holding_other (actions.End x) m size waits begins applies = refl

-- ---- turns

flag_most : (b : Bool) → flag b ≤ 1
flag_most true = omega arith
flag_most false = omega arith

some_turns : (p : Phase) → p ≢ phases.Offline → 1 ≤ turns_in p
some_turns phases.Offline other = absurd (other refl)
some_turns phases.Connecting other = omega arith
some_turns phases.Asked other = omega arith
some_turns phases.Reading other = omega arith
some_turns phases.Applying other = omega arith
some_turns phases.Waiting other = omega arith

turns_at : (r : Router) (p : Phase) → r.phase ≡ p → turns_in r.phase ≡ turns_in p
turns_at r p is = ap turns_in is

pub turns_same : (r r' : Router) → r'.phase ≡ r.phase → r'.has_data ≡ r.has_data →
    turns_of r' ≡ turns_of r
turns_same r r' phase data_is = λ i. turns_in (phase i) + flag (data_is i)

drops_flag : (d : Bool) (r r' : Router) → Drops d r r' → flag r'.has_data ≤ flag r.has_data
drops_flag true r r' x =
    let e : flag r'.has_data ≡ 0 = ap flag x.has_data in omega (arith, e)
drops_flag false r r' x =
    let e : flag r'.has_data ≡ flag r.has_data = ap flag x.has_data in omega (arith, e)

sum_less : (p d p' d' : ℕ) → 1 ≤ p → p' ≡ 0 → d' ≤ d → p' + d' < p + d
sum_less p d p' d' some none less = omega (arith, some, none, less)

ends_less : (r r' : Router) (n : ℕ) (e : Event) (x : Ending) → Rule r n e (actions.End x) r' →
    turns_of r' < turns_of r
ends_less r r' n e x rule =
    sum_less (turns_in r.phase) (flag r.has_data) (turns_in r'.phase) (flag r'.has_data)
    (some_turns r.phase rule.from) (turns_at r' phases.Offline rule.phase)
    (drops_flag x.drop r r' rule.data_then)

sum_most : (p d p' d' k : ℕ) → p' ≤ p + k → d' ≤ d → p' + d' ≤ p + d + k
sum_most p d p' d' k phase less = omega (arith, phase, less)

le_of : (a b : ℕ) → a ≡ b → a ≤ b
le_of a b e = omega (arith, e)

lt_le : (a b : ℕ) → a < b → a ≤ b
lt_le a b e = omega (arith, e)

drop_most : (r r' : Router) (n : ℕ) (e : Event) → Rule r n e actions.Drop r' →
    turns_of r' ≤ turns_of r
drop_most r r' n e rule =
    let p : turns_in r'.phase ≡ 0 = turns_at r' phases.Offline rule.phase in
    let d : flag r'.has_data ≡ 0 = ap flag rule.lost.has_data in
    omega (arith, p, d)

asks_from : (r r' : Router) (n : ℕ) (e : Event) (q : Query) → SaysItself r e →
    Asks r n e q r' → 1 ≤ turns_in r.phase
asks_from r r' n events.Tick q says rule =
    let e : turns_in r.phase ≡ 2 = turns_at r phases.Waiting rule.may.0 in omega (arith, e)
asks_from r r' n events.Asked q says rule = absurd rule.may
asks_from r r' n events.Connected q says rule =
    let e : turns_in r.phase ≡ 1 = turns_at r phases.Connecting rule.may.0 in omega (arith, e)
asks_from r r' n events.Lost q says rule = absurd rule.may
asks_from r r' n (events.Came u) q says rule = absurd says
asks_from r r' n (events.Faulty f) q says rule = absurd rule.may
asks_from r r' n events.Applied q says rule = absurd says
asks_from r r' n (events.NotApplied code) q says rule = absurd rule.may

asks_most : (r r' : Router) (n : ℕ) (e : Event) (q : Query) → Asks r n e q r' →
    1 ≤ turns_in r.phase → turns_of r' ≤ turns_of r
asks_most r r' n e q rule some =
    let p : turns_in r'.phase ≡ 1 = turns_at r' phases.Asked rule.phase in
    let d : flag r'.has_data ≡ flag r.has_data = ap flag rule.same.has_data in
    omega (arith, p, d, some)

pub turns_itself : (r r' : Router) (n : ℕ) (e : Event) (a : Action) → SaysItself r e →
    Rule r n e a r' → a ≢ actions.Connect → turns_of r' ≤ turns_of r
turns_itself r r' n e actions.Wait says rule other =
    le_of (turns_of r') (turns_of r) (turns_same r r' rule.talk.phase rule.same.has_data)
turns_itself r r' n e actions.Connect says rule other = absurd (other refl)
turns_itself r r' n e (actions.Ask q) says rule other =
    asks_most r r' n e q rule (asks_from r r' n e q says rule)
turns_itself r r' n e actions.Begin says rule other = absurd (no_begin r r' n e says rule)
turns_itself r r' n e actions.Keep says rule other = absurd (no_keep r r' n e says rule)
turns_itself r r' n e (actions.Apply on) says rule other =
    absurd (no_apply r r' n e on says rule)
turns_itself r r' n e actions.Show says rule other = absurd (no_show r r' n e says rule)
turns_itself r r' n e actions.NoData says rule other = absurd (no_data r r' n e says rule)
turns_itself r r' n e actions.Drop says rule other = drop_most r r' n e rule
turns_itself r r' n e (actions.End x) says rule other =
    lt_le (turns_of r') (turns_of r) (ends_less r r' n e x rule)

-- data are dropped only where there are some
had_data : (r r' : Router) (n : ℕ) → IsStep r n events.Tick actions.Drop r' → r.has_data ≡ true
had_data r r' n step = go r.has_data refl
  where
    acted : (n < r.due) ⊎ (r.due ≤ n) → r.has_data ≡ false → ⊥
    acted (inl early) none =
        let fresh = λ (has : r.has_data ≡ true). absurd (let e = sym none ∙ has in cc) in
        let e = (step.heeds fresh (
          λ l. absurd (subst IsLimited step.rule.from l),
          λ p. absurd (let e = sym step.rule.from ∙ p in cc),
        )).rests step.rule.from early in
        cc
    acted (inr due) none =
        let fresh = λ (has : r.has_data ≡ true). absurd (let e = sym none ∙ has in cc) in
        let e = (step.heeds fresh (
          λ l. absurd (subst IsLimited step.rule.from l),
          λ p. absurd (let e = sym step.rule.from ∙ p in cc),
        )).connects step.rule.from due in
        cc

    go : (b : Bool) → r.has_data ≡ b → r.has_data ≡ true
    go true is = is
    go false is = absurd (acted (cases_lt n r.due) is)

pub turns_tick : (r r' : Router) (n : ℕ) (a : Action) → IsStep r n events.Tick a r' →
    a ≢ actions.Wait → a ≢ actions.Connect → turns_of r' < turns_of r
turns_tick r r' n actions.Wait step waits other = absurd (waits refl)
turns_tick r r' n actions.Connect step waits other = absurd (other refl)
turns_tick r r' n (actions.Ask q) step waits other =
    let p : turns_in r.phase ≡ 2 = turns_at r phases.Waiting step.rule.may.0 in
    let p' : turns_in r'.phase ≡ 1 = turns_at r' phases.Asked step.rule.phase in
    let d : flag r'.has_data ≡ flag r.has_data = ap flag step.rule.same.has_data in
    omega (arith, p, p', d)
turns_tick r r' n actions.Begin step waits other = absurd step.rule
turns_tick r r' n actions.Keep step waits other = absurd step.rule
turns_tick r r' n (actions.Apply on) step waits other = absurd step.rule
turns_tick r r' n actions.Show step waits other = absurd step.rule
turns_tick r r' n actions.NoData step waits other = absurd step.rule
turns_tick r r' n actions.Drop step waits other =
    let p' : turns_in r'.phase ≡ 0 = turns_at r' phases.Offline step.rule.phase in
    let d : flag r.has_data ≡ 1 = ap flag (had_data r r' n step) in
    let d' : flag r'.has_data ≡ 0 = ap flag step.rule.lost.has_data in
    omega (arith, p', d, d')
turns_tick r r' n (actions.End x) step waits other = ends_less r r' n events.Tick x step.rule

one_more : (a b : ℕ) → a ≤ b → a ≤ b + 1
one_more a b e = omega (arith, e)

no_data_most : (r r' : Router) → (r.phase ≡ phases.Asked) ⊎ (r.phase ≡ phases.Reading) →
    r'.phase ≡ phases.Waiting → r'.has_data ≡ r.has_data → turns_of r' ≤ turns_of r + 1
no_data_most r r' from then same =
    let p' : turns_in r'.phase ≡ 2 = turns_at r' phases.Waiting then in
    let d : flag r'.has_data ≡ flag r.has_data = ap flag same in
    let p : turns_in r.phase ≡ 1 = at from in
    omega (arith, p, p', d)
  where
    at : (r.phase ≡ phases.Asked) ⊎ (r.phase ≡ phases.Reading) → turns_in r.phase ≡ 1
    at (inl is) = turns_at r phases.Asked is
    at (inr is) = turns_at r phases.Reading is

goes_most : (r r' : Router) (p p' : Phase) → r.phase ≡ p → turns_in p ≡ 1 → r'.phase ≡ p' →
    turns_in p' ≡ 1 → r'.has_data ≡ r.has_data → turns_of r' ≤ turns_of r + 1
goes_most r r' p p' from one then one' same =
    let a : turns_in r.phase ≡ 1 = turns_at r p from ∙ one in
    let b : turns_in r'.phase ≡ 1 = turns_at r' p' then ∙ one' in
    let d : flag r'.has_data ≡ flag r.has_data = ap flag same in
    omega (arith, a, b, d)

pub turns_came : (r r' : Router) (n : ℕ) (u : Head) (a : Action) → a ≢ actions.Keep →
    Rule r n (events.Came u) a r' → turns_of r' ≤ turns_of r + 1
turns_came r r' n u actions.Wait other rule =
    one_more (turns_of r') (turns_of r)
    (le_of (turns_of r') (turns_of r) (turns_same r r' rule.talk.phase rule.same.has_data))
turns_came r r' n u actions.Connect other rule = absurd rule
turns_came r r' n u (actions.Ask q) other rule =
    goes_most r r' phases.Asked phases.Asked rule.may.0 refl rule.phase refl rule.same.has_data
turns_came r r' n u actions.Begin other rule =
    goes_most r r' phases.Asked phases.Reading rule.from refl rule.phase refl rule.same.has_data
turns_came r r' n u actions.Keep other rule = absurd (other refl)
turns_came r r' n u (actions.Apply on) other rule =
    goes_most r r' phases.Reading phases.Applying rule.from refl rule.phase refl
    rule.same.has_data
turns_came r r' n u actions.Show other rule = absurd rule
turns_came r r' n u actions.NoData other rule =
    no_data_most r r' rule.from rule.phase rule.same.has_data
turns_came r r' n u actions.Drop other rule =
    one_more (turns_of r') (turns_of r) (drop_most r r' n (events.Came u) rule)
turns_came r r' n u (actions.End x) other rule =
    one_more (turns_of r') (turns_of r)
    (lt_le (turns_of r') (turns_of r) (ends_less r r' n (events.Came u) x rule))

two_more : (a b : ℕ) → a ≤ b → a ≤ b + 2
two_more a b e = omega (arith, e)

show_most : (r r' : Router) → r.phase ≡ phases.Applying → r'.phase ≡ phases.Waiting →
    turns_of r' ≤ turns_of r + 2
show_most r r' from then =
    let p : turns_in r.phase ≡ 1 = turns_at r phases.Applying from in
    let p' : turns_in r'.phase ≡ 2 = turns_at r' phases.Waiting then in
    let d = flag_most r'.has_data in
    omega (arith, p, p', d)

pub turns_applied : (r r' : Router) (n : ℕ) (a : Action) → Rule r n events.Applied a r' →
    turns_of r' ≤ turns_of r + 2
turns_applied r r' n actions.Wait rule =
    two_more (turns_of r') (turns_of r)
    (le_of (turns_of r') (turns_of r) (turns_same r r' rule.talk.phase rule.same.has_data))
turns_applied r r' n actions.Connect rule = absurd rule
turns_applied r r' n (actions.Ask q) rule = absurd rule.may
turns_applied r r' n actions.Begin rule = absurd rule
turns_applied r r' n actions.Keep rule = absurd rule
turns_applied r r' n (actions.Apply on) rule = absurd rule
turns_applied r r' n actions.Show rule = show_most r r' rule.from rule.phase
turns_applied r r' n actions.NoData rule = absurd rule
turns_applied r r' n actions.Drop rule =
    two_more (turns_of r') (turns_of r) (drop_most r r' n events.Applied rule)
turns_applied r r' n (actions.End x) rule =
    two_more (turns_of r') (turns_of r)
    (lt_le (turns_of r') (turns_of r) (ends_less r r' n events.Applied x rule))

-- ---- what ends the connection

pub faulty_ends : (r r' : Router) (n : ℕ) (f : Fault) (a : Action) → IsTalking r →
    Rule r n (events.Faulty f) a r' → EndsConnection a
faulty_ends r r' n f actions.Wait talks rule = absurd (elim rule.passes [
  | inl offline ↦ talks.0 offline
  | inr connecting ↦ talks.1 connecting
])
faulty_ends r r' n f actions.Connect talks rule = absurd rule
faulty_ends r r' n f (actions.Ask q) talks rule = absurd rule.may
faulty_ends r r' n f actions.Begin talks rule = absurd rule
faulty_ends r r' n f actions.Keep talks rule = absurd rule
faulty_ends r r' n f (actions.Apply on) talks rule = absurd rule
faulty_ends r r' n f actions.Show talks rule = absurd rule
faulty_ends r r' n f actions.NoData talks rule = absurd rule
faulty_ends r r' n f actions.Drop talks rule = absurd (talks.0 rule.from)
faulty_ends r r' n f (actions.End x) talks rule = tt

pub refused_ends : (r r' : Router) (n : ℕ) (code : Option ErrorCode) (a : Action) →
    r.phase ≡ phases.Applying → Rule r n (events.NotApplied code) a r' → EndsConnection a
refused_ends r r' n code actions.Wait at rule = absurd (rule.passes.0 at)
refused_ends r r' n code actions.Connect at rule = absurd rule
refused_ends r r' n code (actions.Ask q) at rule = absurd rule.may
refused_ends r r' n code actions.Begin at rule = absurd rule
refused_ends r r' n code actions.Keep at rule = absurd rule
refused_ends r r' n code (actions.Apply on) at rule = absurd rule
refused_ends r r' n code actions.Show at rule = absurd rule
refused_ends r r' n code actions.NoData at rule = absurd rule
refused_ends r r' n code actions.Drop at rule =
    absurd (let e = sym rule.from ∙ at in cc)
refused_ends r r' n code (actions.End x) at rule = tt

-- ---- where a whole answer may be

pub hearing_at : (p : Phase) (m : Holding) → p ≢ phases.Applying → InPhase p m → IsHearing m
hearing_at p holdings.Nothing other here = tt
hearing_at p holdings.Units other here = tt
hearing_at p (holdings.Answer n s) other here =
    absurd (other (answer_applying p (holdings.Answer n s) here tt))

asks_elsewhere : (r r' : Router) (n : ℕ) (e : Event) (q : Query) → SaysItself r e →
    Asks r n e q r' → r.phase ≢ phases.Applying
asks_elsewhere r r' n events.Tick q says rule is = let e = sym rule.may.0 ∙ is in cc
asks_elsewhere r r' n events.Asked q says rule is = absurd rule.may
asks_elsewhere r r' n events.Connected q says rule is = let e = sym rule.may.0 ∙ is in cc
asks_elsewhere r r' n events.Lost q says rule is = absurd rule.may
asks_elsewhere r r' n (events.Came u) q says rule is = absurd says
asks_elsewhere r r' n (events.Faulty f) q says rule is = absurd rule.may
asks_elsewhere r r' n events.Applied q says rule is = absurd says
asks_elsewhere r r' n (events.NotApplied code) q says rule is = absurd rule.may

-- an action at what the machine is told of itself does nothing, ends the connection, or comes where
-- no answer is whole
pub itself_where : (r r' : Router) (n : ℕ) (e : Event) (a : Action) (m : Holding) →
    SaysItself r e → Rule r n e a r' → a ≢ actions.Connect → InPhase r.phase m →
    (a ≡ actions.Wait) ⊎ (EndsConnection a ⊎ IsHearing m)
itself_where r r' n e actions.Wait m says rule other here = inl refl
itself_where r r' n e actions.Connect m says rule other here = absurd (other refl)
itself_where r r' n e (actions.Ask q) m says rule other here =
    inr (inr (hearing_at r.phase m (asks_elsewhere r r' n e q says rule) here))
itself_where r r' n e actions.Begin m says rule other here =
    absurd (no_begin r r' n e says rule)
itself_where r r' n e actions.Keep m says rule other here = absurd (no_keep r r' n e says rule)
itself_where r r' n e (actions.Apply on) m says rule other here =
    absurd (no_apply r r' n e on says rule)
itself_where r r' n e actions.Show m says rule other here = absurd (no_show r r' n e says rule)
itself_where r r' n e actions.NoData m says rule other here =
    absurd (no_data r r' n e says rule)
itself_where r r' n e actions.Drop m says rule other here =
    inr (inr (hearing_at r.phase m (λ is. let e = sym rule.from ∙ is in cc) here))
itself_where r r' n e (actions.End x) m says rule other here = inr (inl tt)
