-- Steps of `first_fault` by themselves, for contracts that speak of some of them (their order is
-- this library's own).
use Rattle.std.specs.Prelude.{◌≡◌, ℕ, List, ◌++◌, length, take, slice_index, Option, Some, None}
use Rattle.std.specs.Prelude.{nat_lt, if◌then◌else◌}
use Rattle.std.specs.Option.{option_or}
use Rattle.rtr_base.specs.Addresses.{width}
use Rattle.rtr_units.specs.Header.{version_field, type_field, length_field}
use Rattle.rtr_units.specs.StopCauses.{Refusal, short}
use Rattle.rtr_payload.specs.FirstFault.{header_fault, broken_rule}
use Rattle.rtr_payload.specs.UnitFields.{Fields, prefix_unit, key_unit, aspa_unit, Shape}
use Rattle.rtr_payload.specs.declared.pdu.prefix_rule.PrefixRule.{PrefixRule}

-- the unit at the front of r, by its length field
abbrev pub first_unit : List ℕ → List ℕ
first_unit r = take (length_field r) r

-- how the fields of a unit break the rule on the lengths of a prefix (RFC 8210 sections 5.1, 5.6
-- and 5.7)
abbrev pub rule_of : Fields → Option PrefixRule
rule_of (prefix_unit u) = broken_rule (width u.origin.family) u.origin.prefix_len u.origin.max_len
rule_of (key_unit u) = None
rule_of (aspa_unit u) = None

-- steps 2 to 6, by the header at the front of r
abbrev pub header_step : List ℕ → Option Refusal
header_step r = header_fault (version_field r) (type_field r) (slice_index r 2) (length_field r)

-- steps 1 to 7: the first that holds, or none where a unit of some shape or an end of data begins
abbrev pub frame_fault : List ℕ → Option Refusal
frame_fault r =
    if nat_lt (length r) 8 then Some short
    else option_or (header_step r)
    (if nat_lt (length r) (length_field r) then Some short else None)

-- a front of r has the shape of a unit
pub record BeginsShape (r : List ℕ) : Type 0 where
  pub bytes : List ℕ
  pub rest : List ℕ
  pub unit : Shape bytes
  pub parts : r ≡ bytes ++ rest
