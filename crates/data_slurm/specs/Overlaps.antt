-- Which SLURM files overlap, so that all of them are rejected (RFC 8416 section 4.2).
use Rattle.std.specs.Prelude.{ℕ, ◌==◌, ◌||◌, Bool, false, List, Option, Some, None}
use Rattle.std.specs.List.{list_any}
use Rattle.rtr_base.specs.Addresses.{PrefixParts}
use Rattle.rtr_payload.specs.declared.payload.Payload.{Payload}
use Rattle.rtr_payload.specs.declared.payload.Payload.TheVariants as payloads
use Rattle.data_slurm.specs.Filters.{covers_prefix}
use Rattle.data_slurm.specs.declared.entry.Entry.{Entry}
use Rattle.data_slurm.specs.declared.entry.Entry.TheVariants as entries
use Rattle.data_slurm.specs.declared.entry.KeyFilter.{KeyFilter}
use Rattle.data_slurm.specs.declared.entry.KeyFilter.TheVariants as keys
use Rattle.data_slurm.specs.declared.entry.PrefixFilter.{PrefixFilter}
use Rattle.data_slurm.specs.declared.entry.PrefixFilter.TheVariants as prefixes

-- the prefix of a prefix filter, if it has one
abbrev pub filter_prefix : PrefixFilter → Option PrefixParts
filter_prefix (prefixes.Prefix p) = Some p
filter_prefix (prefixes.Asn a) = None
filter_prefix (prefixes.Both p a) = Some p

abbrev pub filter_asn : KeyFilter → Option ℕ
filter_asn (keys.Asn a) = Some a
filter_asn (keys.KeyIdentifier s) = None
filter_asn (keys.Both a s) = Some a

abbrev pub asserted_prefix : Payload → Option PrefixParts
asserted_prefix (payloads.Origin o) = Some o.prefix.prefix
asserted_prefix other = None

abbrev pub asserted_asn : Payload → Option ℕ
asserted_asn (payloads.RouterKey k) = Some k.asn
asserted_asn other = None

-- the prefix in an entry of "prefixFilters" or "prefixAssertions"
abbrev pub prefix_used : Entry → Option PrefixParts
prefix_used (entries.PrefixFilter f) = filter_prefix f
prefix_used (entries.KeyFilter f) = None
prefix_used (entries.Assertion p) = asserted_prefix p

-- the ASN in an entry of "bgpsecFilters" or "bgpsecAssertions"
abbrev pub asn_used : Entry → Option ℕ
asn_used (entries.PrefixFilter f) = None
asn_used (entries.KeyFilter f) = filter_asn f
asn_used (entries.Assertion p) = asserted_asn p

-- some address is contained by both: one prefix covers the other
abbrev pub share_address : Option PrefixParts → Option PrefixParts → Bool
share_address (Some p) (Some q) = covers_prefix p q || covers_prefix q p
share_address p q = false

abbrev pub share_asn : Option ℕ → Option ℕ → Bool
share_asn (Some a) (Some b) = a == b
share_asn a b = false

abbrev pub entries_overlap : Entry → Entry → Bool
entries_overlap e f =
    share_address (prefix_used e) (prefix_used f) || share_asn (asn_used e) (asn_used f)

abbrev pub overlaps_some : List Entry → Entry → Bool
overlaps_some fs e = list_any (λ f. entries_overlap e f) fs

-- two files overlap if an entry of the one overlaps an entry of the other
abbrev pub files_overlap : List Entry → List Entry → Bool
files_overlap es fs = list_any (λ e. overlaps_some fs e) es
