-- The texts of payloads, which are this library's own.
use Rattle.std.specs.Prelude.{ℕ, List, [], ◌++◌, codes}
use Rattle.std.specs.List.{flat_map}
use Rattle.base64.specs.Engines.{url_safe_no_pad}
use Rattle.base64.specs.GeneralPurpose.{encode_of}
use Rattle.hex.specs.Hex.{encode_lower}
use Rattle.rtr_base.specs.PlainTexts.{asn_text, max_len_text}
use Rattle.rtr_payload.specs.declared.payload.RouteOrigin.{RouteOrigin}
use Rattle.rtr_payload.specs.declared.payload.RouterKey.{RouterKey}
use Rattle.rtr_payload.specs.declared.payload.Aspa.{Aspa}
use Rattle.rtr_payload.specs.declared.payload.Payload.{Payload}
use Rattle.rtr_payload.specs.declared.payload.Payload.TheVariants as payloads

-- 192.0.2.0/23-26 AS65551
abbrev pub origin_text : RouteOrigin → List ℕ
origin_text o = max_len_text o.prefix ++ codes " " ++ asn_text o.asn

-- the identifier in hex, the autonomous system and the key info in base64
abbrev pub key_text : RouterKey → List ℕ
key_text k = codes "router key " ++ encode_lower k.key_identifier ++ codes " " ++ asn_text k.asn
    ++ codes " " ++ encode_of url_safe_no_pad k.key_info

-- of each provider a space and its number
abbrev pub each_text : List ℕ → List ℕ
each_text providers = flat_map (λ p. codes " " ++ asn_text p) providers

abbrev pub providers_text : List ℕ → List ℕ
providers_text [] = codes " no providers"
providers_text providers = each_text providers

-- ASPA AS64496: AS64497 AS64498, or ASPA AS64496: no providers
abbrev pub aspa_text : Aspa → List ℕ
aspa_text a = codes "ASPA " ++ asn_text a.customer ++ codes ":" ++ providers_text a.providers

abbrev pub payload_text : Payload → List ℕ
payload_text (payloads.Origin o) = origin_text o
payload_text (payloads.RouterKey k) = key_text k
payload_text (payloads.Aspa a) = aspa_text a
