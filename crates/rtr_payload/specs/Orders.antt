-- The order of payloads (this library's own): payloads are compared as lists of lists, so that it
-- is total by std's law on lists.
use Rattle.std.specs.Prelude.{ℕ, List, [], ◌∷◌}
use Rattle.std.specs.declared.cmp.Ordering.{Ordering}
use Rattle.std.specs.Ordering.{nat_cmp, on}
use Rattle.std.specs.Cmp.Lexicographic.{slice_cmp}
use Rattle.rtr_base.specs.Addresses.{ip_version}
use Rattle.rtr_payload.specs.Payloads.{Payload, origin, key, aspa, kind_number}

-- the first differing member decides; a proper prefix is less
abbrev pub list_cmp : List ℕ → List ℕ → Ordering
list_cmp = slice_cmp nat_cmp

-- what of a payload is compared in turn: origins, then keys, then ASPAs; the parts of an origin
-- (IPv4 before IPv6), of a key and of an ASPA as they stand
abbrev pub parts : Payload → List (List ℕ)
parts (origin o) =
    (kind_number (origin o) ∷ []) ∷ (ip_version o.family ∷ []) ∷ (o.address ∷ []) ∷
    (o.prefix_len ∷ []) ∷ (o.max_len ∷ []) ∷ (o.asn ∷ []) ∷ []
parts (key k) = (kind_number (key k) ∷ []) ∷ k.identifier ∷ (k.asn ∷ []) ∷ k.info ∷ []
parts (aspa a) = (kind_number (aspa a) ∷ []) ∷ (a.customer ∷ []) ∷ a.providers ∷ []

-- the first differing part decides
abbrev pub payload_cmp : Payload → Payload → Ordering
payload_cmp = on parts (slice_cmp list_cmp)
