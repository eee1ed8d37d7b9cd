-- In a response a payload unit that isn't kept ends the connection.
use native.Mathlib.Omega.{arith}
use Rattle.std.proofs.Common.{◌≡◌, ◌≢◌, ℕ, ◌<◌, ◌≤◌, true, List, length, take, sym, ap}
use Rattle.std.proofs.Common.{inl, inr, refl}
use Rattle.std.proofs.Common.{subst, ◌∙◌}
use Rattle.std.proofs.lemmas.Bool.Decides.{nat_tests}
use Rattle.std.proofs.lemmas.List.{get_or-take, length-take-le}
use Rattle.rtr_units.specs.Header.{type_field}
use Rattle.rtr_payload.specs.UnitFields.{prefix_unit, key_unit, aspa_unit}
use Rattle.unit_any.specs.AnyFields.{AnyFields, HasAnyFields, serial_notify, serial_query}
use Rattle.unit_any.specs.AnyFields.{reset_query, cache_response, payload, end_of_data}
use Rattle.unit_any.specs.AnyFields.{cache_reset, error_report}
use Rattle.unit_any.proofs.Agreement.{IsPayloadType, has_type}
use Rattle.unit_any.proofs.Wholes.{any_whole}
use Rattle.session_router.specs.Rules.{IsPayloadOf, Rule}
use Rattle.session_router.specs.declared.event.Action.{Action}
use Rattle.session_router.specs.declared.event.Action.TheVariants as actions
use Rattle.session_router.specs.declared.event.Event.TheVariants as events
use Rattle.session_router.specs.declared.head.Head.{Head}
use Rattle.session_router.specs.declared.head.Kind.{Kind}
use Rattle.session_router.specs.declared.head.Kind.TheVariants as kinds
use Rattle.session_router.specs.declared.router.Phase.{Phase}
use Rattle.session_router.specs.declared.router.Phase.TheVariants as phases
use Rattle.session_router.specs.declared.router.Router.{Router}
use Rattle.session_bytes.specs.Heads.{head_of}
use Rattle.session_bytes.specs.PrivateReading.{Comes, begins_payload}
use Rattle.session_bytes.specs.Reading.{EndsConnection, KeepsAll, kept_none, kept_more}

-- a router that kept a unit reads a response
pub reading : (n : ℕ) (r : Router) (b : List ℕ) (r' : Router) → KeepsAll n r b r' →
    0 < length b → r'.phase ≡ phases.Reading
reading n r b r' (kept_none r₀) some = absurd (omega (arith, some))
reading n r b r' (kept_more r₀ b₀ u mid h r₁ before unit step) some =
    step.rule.talk.phase ∙ step.rule.phase

-- the type of a unit at the front of an input is that of the input
front_type : (size : ℕ) (input : List ℕ) → 2 ≤ size →
    type_field (take size input) ≡ type_field input
front_type size input few = get_or-take size input 1 0 (omega (arith, few))

payload_typed : (input : List ℕ) → begins_payload input ≡ true →
    IsPayloadType (type_field input)
payload_typed input is = grind (arith, nat_tests)

-- a unit of such a type is a payload unit
payload_kind : (b : List ℕ) (f : AnyFields) (n : ℕ) → HasAnyFields b f →
    IsPayloadType (type_field b) → IsPayloadOf 2 (head_of f n).kind
payload_kind b (serial_notify v s q) n has is =
    let t = has_type b (serial_notify v s q) has in absurd (grind arith)
payload_kind b (serial_query v s q) n has is =
    let t = has_type b (serial_query v s q) has in absurd (grind arith)
payload_kind b (reset_query v s) n has is =
    let t = has_type b (reset_query v s) has in absurd (grind arith)
payload_kind b (cache_response v s) n has is =
    let t = has_type b (cache_response v s) has in absurd (grind arith)
payload_kind b (payload (prefix_unit u)) n has is = tt
payload_kind b (payload (key_unit u)) n has is = omega arith
payload_kind b (payload (aspa_unit u)) n has is = omega arith
payload_kind b (end_of_data e) n has is =
    let t = has_type b (end_of_data e) has in absurd (grind arith)
payload_kind b (cache_reset v s) n has is =
    let t = has_type b (cache_reset v s) has in absurd (grind arith)
payload_kind b (error_report v c body) n has is =
    let t = has_type b (error_report v c body) has in absurd (grind arith)

other_kind : (k : Kind) → IsPayloadOf 2 k → (l : Kind) → k ≡ l → IsPayloadOf 2 l
other_kind k is l e = subst (IsPayloadOf 2) e is

-- a router that reads is nowhere else
elsewhere : (p q : Phase) → p ≡ phases.Reading → p ≡ q → phases.Reading ≡ q
elsewhere p q reads is = sym reads ∙ is

by_rule : (r : Router) (n : ℕ) (h : Head) (a : Action) (r' : Router) →
    r.phase ≡ phases.Reading → IsPayloadOf 2 h.kind → a ≢ actions.Keep →
    Rule r n (events.Came h) a r' → EndsConnection a
by_rule r n h (actions.End x) r' reads kind other rule = tt
by_rule r n h actions.Keep r' reads kind other rule = absurd (other refl)
by_rule r n h actions.Wait r' reads kind other rule = elim rule.passes [
  | inl offline ↦ absurd (let e = elsewhere r.phase phases.Offline reads offline in cc)
  | inr (inl connecting) ↦
      absurd (let e = elsewhere r.phase phases.Connecting reads connecting in cc)
  | inr (inr (busy, notify)) ↦ absurd (other_kind h.kind kind kinds.SerialNotify notify)
]
by_rule r n h actions.Connect r' reads kind other rule = absurd rule
by_rule r n h (actions.Ask q) r' reads kind other rule =
    absurd (let e = elsewhere r.phase phases.Asked reads rule.may.0 in cc)
by_rule r n h actions.Begin r' reads kind other rule =
    absurd (let e = elsewhere r.phase phases.Asked reads rule.from in cc)
by_rule r n h (actions.Apply on) r' reads kind other rule =
    absurd (other_kind h.kind kind kinds.EndOfData rule.kind)
by_rule r n h actions.Show r' reads kind other rule = absurd rule
by_rule r n h actions.NoData r' reads kind other rule =
    absurd (other_kind h.kind kind kinds.ErrorReport rule.kind)
by_rule r n h actions.Drop r' reads kind other rule =
    absurd (let e = elsewhere r.phase phases.Offline reads rule.from in cc)

pub ends_alone : (n : ℕ) (mid r' : Router) (rest : List ℕ) (a : Action) (size : ℕ) →
    mid.phase ≡ phases.Reading → begins_payload rest ≡ true → Comes mid n rest a size r' →
    a ≢ actions.Keep → EndsConnection a
ends_alone n mid r' rest a size reads is c other =
    let unit = take size rest in
    let whole = any_whole unit c.unit.fields c.unit.has in
    let all = length-take-le size rest c.within in
    let few : 2 ≤ size = omega (arith, whole.header, all) in
    let kind = payload_kind unit c.unit.fields (length unit) c.unit.has
    (subst IsPayloadType (sym (front_type size rest few)) (payload_typed rest is)) in
    by_rule mid n c.head a r' reads
    (other_kind (head_of c.unit.fields (length unit)).kind kind c.head.kind
    (ap (λ (h : Head). h.kind) (sym c.unit.head))) other c.step.rule
