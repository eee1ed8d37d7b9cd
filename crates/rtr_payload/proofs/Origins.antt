-- What a unit of a prefix means, whatever its family.
use Rattle.std.proofs.Common.{◌≡◌, ℕ, ◌+◌, ◌-◌, List, Some, None, take, drop, refl, ap}
use Rattle.std.specs.Prelude.{slice_index}
use Rattle.rtr_base.specs.Actions.{act}
use Rattle.rtr_base.specs.Addresses.{Family, v4, v6, width, cleared}
use Rattle.rtr_base.specs.Bytes.{value}
use Rattle.rtr_units.specs.PrefixUnits.{prefix_at, prefix_size, address_bytes}
use Rattle.rtr_payload.specs.FirstFault.{broken_rule}
use Rattle.rtr_payload.specs.UnitFields.{prefix_unit}
use Rattle.rtr_payload.specs.UnitBytes.{unit_bytes, unit_fields, MeansPayload}
use Rattle.rtr_payload.specs.declared.payload.RouteOrigin.{RouteOrigin}
use Rattle.rtr_payload.specs.declared.payload.Payload.TheVariants.{Origin}
use Rattle.rtr_payload.specs.declared.pdu.payload.Payload.{Payload}
use Rattle.rtr_payload.proofs.Rests.{agree_from}

-- the number of the autonomous system is last, after twelve bytes and the address
pub asn_place : (f : Family) (n : ℕ) → n ≡ prefix_size f → n - 4 ≡ 12 + address_bytes f
asn_place v4 n is = ap (λ k. k - 4) is
asn_place v6 n is = ap (λ k. k - 4) is

pub origin_means : (u : Payload) (f : Family) (b : List ℕ) (o : RouteOrigin) →
    unit_bytes u ≡ b → unit_fields u ≡ prefix_unit (prefix_at f b) →
    o ≡ record {
      prefix = record {
        prefix = record {
          family = f;
          address = cleared (width f) (slice_index b 9)
              (value (take (address_bytes f) (drop 12 b)));
          len = slice_index b 9;
        };
        max_len = Some (slice_index b 10);
      };
      asn = value (take 4 (drop (12 + address_bytes f) b));
    } →
    broken_rule (width f) (slice_index b 9) (slice_index b 10) ≡ None →
    MeansPayload u (act (slice_index b 8)) (Origin o)
origin_means u f b o same fields is rule = record {
  lengths = rw fields (agree_from (prefix_unit (prefix_at f b)) rule);
  means = rw (same, fields, is) refl;
  max_len = rw is refl;
}
