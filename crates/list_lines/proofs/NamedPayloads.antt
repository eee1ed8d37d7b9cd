-- The payload that a unit is about: its name, and that data can hold it where a reader accepts it.
use Rattle.std.proofs.Common.{◌≡◌, Option, Some, None, refl, sym, subst}
use Rattle.std.proofs.Common.{arith}
use Rattle.std.proofs.lemmas.Bool.Decides.{nat_tests}
use Rattle.std.specs.Option.{option_map}
use Rattle.rtr_base.specs.Actions.{act}
use Rattle.rtr_base.specs.declared.action.Action.{Action}
use Rattle.rtr_base.specs.declared.action.Action.TheVariants.{Announce, Withdraw}
use Rattle.rtr_units.specs.PrefixUnits.{OriginParts}
use Rattle.rtr_payload.specs.AspaUnits.{HasProviders}
use Rattle.rtr_payload.specs.FaultSteps.{rule_of}
use Rattle.rtr_payload.specs.Payloads.{Payload, AspaParts, origin, key, aspa}
use Rattle.rtr_payload.specs.RouteOrigins.{meant_origin}
use Rattle.rtr_payload.specs.UnitFields.{Fields, WithinLimits, prefix_unit, key_unit, aspa_unit}
use Rattle.rtr_payload.specs.declared.pdu.prefix_rule.PrefixRule.{PrefixRule}
use Rattle.data_memory.specs.Contents.{IsFit}
use Rattle.data_memory.specs.Data.{name_of}
use Rattle.data_memory.proofs.Applied.{fit_key}
use Rattle.text_lines.specs.TextLines.{payload_flags}
use Rattle.list_lines.specs.PrivateFollowing.{payload_in}
use Rattle.text_findings.specs.SequenceSoFar.{origin_under, payload_named}

origin_named : (rule : Option PrefixRule) (o : OriginParts) →
    option_map name_of (origin_under rule (origin o)) ≡ origin_under rule (origin o)
origin_named None o = refl
origin_named (Some rule) o = refl

pub named_in : (fields : Fields) → option_map name_of (payload_in fields) ≡ payload_named fields
named_in (prefix_unit u) = origin_named (rule_of (prefix_unit u)) (meant_origin u.origin)
named_in (key_unit u) = refl
named_in (aspa_unit u) = refl

-- ---- what a reader accepts

some_is : {X : Type 0} (x y : X) → Some x ≡ Some y → x ≡ y
some_is x y e = cc

fit_origin : (rule : Option PrefixRule) (o : OriginParts) (p : Payload) →
    Some p ≡ origin_under rule (origin o) → IsFit p
fit_origin None o p e = subst (λ q. IsFit q) (sym (some_is p (origin o) e)) refl
fit_origin (Some rule) o p e = absurd cc

fit_aspa : (action : Action) (a : AspaParts) → HasProviders action a.providers →
    action ≡ Announce → IsFit (aspa a)
fit_aspa Announce a h e = grind (arith, nat_tests)
fit_aspa Withdraw a h e = absurd cc

pub fit_in : (fields : Fields) (p : Payload) → WithinLimits fields → Some p ≡ payload_in fields →
    act (payload_flags fields) ≡ Announce → IsFit p
fit_in (prefix_unit u) p h is e =
    fit_origin (rule_of (prefix_unit u)) (meant_origin u.origin) p is
fit_in (key_unit u) p h is e =
    subst (λ q. IsFit q) (sym (some_is p (key u.key) is)) (fit_key u.key h)
fit_in (aspa_unit u) p h is e =
    subst (λ q. IsFit q) (sym (some_is p (aspa u.aspa) is)) (fit_aspa _ u.aspa h e)
