-- What SLURM's validation output filters remove of payloads (RFC 8416 sections 3.3.1 and 3.3.2).
use Rattle.std.specs.Prelude.{ℕ, ◌==◌, ◌&&◌, nat_le, Bool, true, false, List, bytes_eq}
use Rattle.std.specs.List.{list_any}
use Rattle.rtr_base.specs.Addresses.{Family, v4, v6, PrefixParts, width, cleared}
use Rattle.rtr_units.specs.PrefixUnits.{OriginParts}
use Rattle.rtr_payload.specs.Payloads.{Payload, origin, key}
use Rattle.data_slurm.specs.declared.entry.Entry.{Entry}
use Rattle.data_slurm.specs.declared.entry.Entry.TheVariants as entries
use Rattle.data_slurm.specs.declared.entry.KeyFilter.{KeyFilter}
use Rattle.data_slurm.specs.declared.entry.KeyFilter.TheVariants as keys
use Rattle.data_slurm.specs.declared.entry.PrefixFilter.{PrefixFilter}
use Rattle.data_slurm.specs.declared.entry.PrefixFilter.TheVariants as prefixes

abbrev pub is_same_family : Family → Family → Bool
is_same_family v4 v4 = true
is_same_family v6 v6 = true
is_same_family f g = false

-- the second prefix is equal to or covered by the first: of the same family, no shorter, and its
-- address begins with the bits of the first
abbrev pub covers_prefix : PrefixParts → PrefixParts → Bool
covers_prefix f p =
    is_same_family f.family p.family
    && (nat_le f.len p.len && (cleared (width f.family) f.len p.address == f.address))

abbrev pub prefix_of_origin : OriginParts → PrefixParts
prefix_of_origin o = record { family = o.family; address = o.address; len = o.prefix_len }

-- the three cases of section 3.3.1, for a payload of this prefix and this AS
abbrev pub matches_origin : PrefixFilter → PrefixParts → ℕ → Bool
matches_origin (prefixes.Prefix f) p n = covers_prefix f p
matches_origin (prefixes.Asn a) p n = n == a
matches_origin (prefixes.Both f a) p n = covers_prefix f p && (n == a)

-- the three cases of section 3.3.2, for a key of this identifier and this AS
abbrev pub matches_key : KeyFilter → (identifier : List ℕ) → ℕ → Bool
matches_key (keys.Asn a) k n = n == a
matches_key (keys.KeyIdentifier s) k n = bytes_eq k s
matches_key (keys.Both a s) k n = (n == a) && bytes_eq k s

-- a prefix filter speaks of origins, a BGPsec filter of router keys, and none of ASPAs
abbrev pub matches_payload : Entry → Payload → Bool
matches_payload (entries.PrefixFilter f) (origin o) = matches_origin f (prefix_of_origin o) o.asn
matches_payload (entries.KeyFilter f) (key k) = matches_key f k.identifier k.asn
matches_payload e p = false

-- a payload that matches any of the filters is removed
abbrev pub removes : List Entry → Payload → Bool
removes es p = list_any (λ e. matches_payload e p) es
