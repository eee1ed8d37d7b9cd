-- The set that a caller keeps has the names of the payloads that are announced.
use Rattle.std.proofs.Common.{◌≡◌, ℕ, ◌<◌, ◌^◌, List, [], ◌∷◌, refl, ap, ◌∙◌, arith}
use Rattle.std.proofs.Common.{Bool, true, false, cond, Option, Some, None, subst}
use Rattle.std.specs.List.{find}
use Rattle.std.specs.Str.{bytes_eq}
use Rattle.rtr_base.specs.Actions.{act}
use Rattle.rtr_base.specs.Addresses.{cleared, width}
use Rattle.rtr_units.specs.PrefixUnits.{OriginParts}
use Rattle.rtr_payload.specs.FaultSteps.{rule_of}
use Rattle.rtr_payload.specs.Payloads.{Payload, origin, key, aspa}
use Rattle.rtr_payload.specs.RouteOrigins.{meant_origin}
use Rattle.rtr_payload.specs.UnitFields.{Fields, Fit, prefix_unit, key_unit, aspa_unit}
use Rattle.rtr_payload.specs.declared.pdu.prefix_rule.PrefixRule.{PrefixRule}
use Rattle.unit_any.specs.AnyFields.{AnyFields, AnyFit, serial_notify, serial_query, reset_query}
use Rattle.unit_any.specs.AnyFields.{cache_response, payload, end_of_data, cache_reset}
use Rattle.unit_any.specs.AnyFields.{error_report}
use Rattle.text_lines.specs.TextLines.{payload_flags}
use Rattle.text_findings.specs.KeptNames.{AllFit, IsAnnouncedAs, has_kept}
use Rattle.text_findings.specs.PayloadNames.{IsNamed, option_name, payload_name, unit_name}
use Rattle.text_findings.specs.SequenceSoFar.{announced, is_announce, is_same}
use Rattle.text_findings.specs.SequenceSoFar.{named_by, origin_under, payload_named, says_announced}
use Rattle.text_findings.specs.SequenceSoFar.{sequence}
use Rattle.text_findings.proofs.NamesApart.{names_alike}

some_is : {X : Type 0} (x y : X) → Some x ≡ Some y → x ≡ y
some_is x y e = cc

-- ---- what a unit names

below : (w l a : ℕ) → a < 2 ^ w → cleared w l a < 2 ^ w
below w l a h = omega (arith, h)

origin_named : (rule : Option PrefixRule) (o : OriginParts) (p : Payload) →
    o.address < 2 ^ width o.family → o.asn < 2 ^ 32 →
    origin_under rule (origin (meant_origin o)) ≡ Some p → IsNamed p
origin_named None o p ha hn e =
    subst IsNamed (some_is (origin (meant_origin o)) p e)
    (below (width o.family) o.prefix_len o.address ha, hn)
origin_named (Some rule) o p ha hn e = absurd cc

fields_named : (fields : Fields) (p : Payload) → Fit fields → payload_named fields ≡ Some p →
    IsNamed p
fields_named (prefix_unit u) p h e =
    origin_named (rule_of (prefix_unit u)) u.origin p h.1 h.2 e
fields_named (key_unit u) p h e =
    subst IsNamed (some_is (key u.key) p e) (h.identifier, h.asn)
fields_named (aspa_unit u) p h e =
    subst IsNamed (some_is (aspa (record { customer = u.aspa.customer; providers = [] })) p e)
    (h.customer, refl)

pub unit_named : (unit : AnyFields) (p : Payload) → AnyFit unit → named_by unit ≡ Some p → IsNamed p
unit_named (serial_notify version session serial) p h e = absurd cc
unit_named (serial_query version session serial) p h e = absurd cc
unit_named (reset_query version session) p h e = absurd cc
unit_named (cache_response version session) p h e = absurd cc
unit_named (payload fields) p h e = fields_named fields p h.0 e
unit_named (end_of_data meaning) p h e = absurd cc
unit_named (cache_reset version session) p h e = absurd cc
unit_named (error_report version code body) p h e = absurd cc

-- ---- names

no_name : (p : Payload) → bytes_eq [] (payload_name p) ≡ false
no_name (origin o) = refl
no_name (key k) = refl
no_name (aspa a) = refl

named_alike : (o : Option Payload) (p : Payload) →
    ((q : Payload) → o ≡ Some q → IsNamed q) → IsNamed p →
    bytes_eq (option_name o) (payload_name p) ≡ is_same o p
named_alike (Some q) p h hp = names_alike q p (h q refl) hp
named_alike None p h hp = no_name p

-- ---- one unit more

pub says_either : (b : Bool) (x y : Option AnyFields) →
    cond b (says_announced x) (says_announced y) ≡ says_announced (cond b x y)
says_either true x y = refl
says_either false x y = refl

passed_over : (p : Payload) (here there announced : Bool) → there ≡ announced →
    cond (bytes_eq [] (payload_name p)) here there ≡ announced
passed_over p here there announced e =
    ap (λ b. cond b here there) (no_name p) ∙ e

payload_kept : (fields : Fields) (before : List AnyFields) (p : Payload) → Fit fields → IsNamed p →
    has_kept before (payload_name p) ≡ announced (sequence before) p →
    has_kept (payload fields ∷ before) (payload_name p)
    ≡ announced (sequence (payload fields ∷ before)) p
payload_kept fields before p fits h ih =
    ap (λ b. cond b (is_announce (act (payload_flags fields))) (has_kept before (payload_name p)))
    (named_alike (payload_named fields) p (λ q. fields_named fields q fits) h)
    ∙ ap (cond (is_same (payload_named fields) p) (is_announce (act (payload_flags fields)))) ih
    ∙ says_either (is_same (payload_named fields) p) (Some (payload fields))
    (find (λ unit. is_same (named_by unit) p) (sequence before))

pub names_kept : (history : List AnyFields) (p : Payload) → AllFit history → IsNamed p →
    has_kept history (payload_name p) ≡ announced (sequence history) p
names_kept [] p h hp = refl
names_kept (serial_notify v s n ∷ before) p h hp =
    passed_over p false (has_kept before (payload_name p)) _ (names_kept before p h.1 hp)
names_kept (serial_query v s n ∷ before) p h hp =
    passed_over p false (has_kept before (payload_name p)) _ (names_kept before p h.1 hp)
names_kept (reset_query v s ∷ before) p h hp =
    passed_over p false (has_kept before (payload_name p)) _ (names_kept before p h.1 hp)
names_kept (cache_response v s ∷ before) p h hp = refl
names_kept (payload fields ∷ before) p h hp =
    payload_kept fields before p h.0.0 hp (names_kept before p h.1 hp)
names_kept (end_of_data m ∷ before) p h hp = refl
names_kept (cache_reset v s ∷ before) p h hp =
    passed_over p false (has_kept before (payload_name p)) _ (names_kept before p h.1 hp)
names_kept (error_report v c body ∷ before) p h hp =
    passed_over p false (has_kept before (payload_name p)) _ (names_kept before p h.1 hp)

said_of : (o : Option Payload) (history : List AnyFields) → AllFit history →
    ((p : Payload) → o ≡ Some p → IsNamed p) →
    IsAnnouncedAs (has_kept history (option_name o)) (sequence history) o
said_of (Some p) history h named = names_kept history p h (named p refl)
said_of None history h named = tt

pub names_said : (history : List AnyFields) (unit : AnyFields) → AllFit (unit ∷ history) →
    IsAnnouncedAs (has_kept history (unit_name unit)) (sequence history) (named_by unit)
names_said history unit h =
    said_of (named_by unit) history h.1 (λ p. unit_named unit p h.0)
