-- The names under which validators print payloads in JSON, and columns in CSV, each in plain form:
-- in small letters, without spaces, `_` and `-`. This one table is what code and contracts go by.
use Rattle.std.specs.Prelude.{ℕ, ◌==◌, ◌||◌, Bool, List, [], ◌∷◌, codes}
use Rattle.std.specs.Prelude.{Option, Some, None, if◌then◌else◌}
use Rattle.std.specs.Char.{to_ascii_lowercase}
use Rattle.make_work.specs.MakeWords.{is_one_of}
use Rattle.make_work.specs.declared.json_names.Holding.{Holding}
use Rattle.make_work.specs.declared.json_names.Holding.TheVariants.{Authorizations, Metadata}
use Rattle.make_work.specs.declared.json_names.Holding.TheVariants.{Payloads}
use Rattle.make_work.specs.declared.json_names.Kind.TheVariants.{Origins, RouterKeys, Aspas}
use Rattle.make_work.specs.declared.json_names.Part.{Part}
use Rattle.make_work.specs.declared.json_names.Part.TheVariants as parts

-- the characters `_` and `-`, and a space
abbrev pub is_joiner : ℕ → Bool
is_joiner c = (c == 95) || ((c == 45) || (c == 32))

unfoldable pub plain : List ℕ → List ℕ
plain [] = []
plain (c ∷ cs) = if is_joiner c then plain cs else to_ascii_lowercase c ∷ plain cs

-- ---- what stands under the names of the object at the top

-- rpki-client, Routinator, FORT, stayrtr
abbrev pub origin_names : List (List ℕ)
origin_names = codes "roas" ∷ []

-- rpki-client and stayrtr `bgpsec_keys`, Routinator `routerKeys`, FORT `router-keys`
abbrev pub key_names : List (List ℕ)
key_names = codes "bgpseckeys" ∷ codes "routerkeys" ∷ []

-- rpki-client, Routinator and stayrtr `aspas`, FORT `aspa`
abbrev pub aspa_names : List (List ℕ)
aspa_names = codes "aspas" ∷ codes "aspa" ∷ []

-- rpki-client 8 and stayrtr 0.5 `provider_authorizations`, and what it has for IPv4 and for IPv6
abbrev pub authorization_names : List (List ℕ)
authorization_names = codes "providerauthorizations" ∷ []

abbrev pub family_names : List (List ℕ)
family_names = codes "ipv4" ∷ codes "ipv6" ∷ []

-- all of them
abbrev pub metadata_names : List (List ℕ)
metadata_names = codes "metadata" ∷ []

-- ---- the parts of a payload

abbrev pub part_names : Part → List (List ℕ)
part_names parts.Asn = codes "asn" ∷ []
-- a column of rpki-client and Routinator `IP Prefix`
part_names parts.Prefix = codes "prefix" ∷ codes "ipprefix" ∷ []
-- a column of FORT `Max prefix length`; the rest that lists by hand and other tools have
part_names parts.MaxLength = codes "maxlength" ∷ codes "maxlen" ∷ codes "maxprefixlength"
    ∷ codes "maxprefixlen" ∷ []
part_names parts.KeyIdentifier = codes "ski" ∷ []
-- rpki-client and stayrtr `pubkey`, Routinator `routerPublicKey`, FORT `spki`
part_names parts.KeyInfo = codes "pubkey" ∷ codes "routerpublickey" ∷ codes "spki" ∷ []
-- Routinator `customer`, rpki-client and stayrtr `customer_asid`
part_names parts.Customer = codes "customer" ∷ codes "customerasid" ∷ []
part_names parts.Providers = codes "providers" ∷ []
-- rpki-client, stayrtr
part_names parts.Expires = codes "expires" ∷ []

-- what a refusal calls a part that is missing: as rpki-client prints it, and the customer as
-- Routinator does
abbrev pub usual_name : Part → List ℕ
usual_name parts.Asn = codes "asn"
usual_name parts.Prefix = codes "prefix"
usual_name parts.MaxLength = codes "maxLength"
usual_name parts.KeyIdentifier = codes "ski"
usual_name parts.KeyInfo = codes "pubkey"
usual_name parts.Customer = codes "customer"
usual_name parts.Providers = codes "providers"
usual_name parts.Expires = codes "expires"

-- ---- a name against the table

abbrev pub is_plainly_one_of : List (List ℕ) → List ℕ → Bool
is_plainly_one_of names name = is_one_of names (plain name)

-- a member of this name is the part
abbrev pub is_part : Part → List ℕ → Bool
is_part p name = is_plainly_one_of (part_names p) name

-- what the object at the top has under this name, if the name is known
abbrev pub holding_named : List ℕ → Option Holding
holding_named name =
    if is_plainly_one_of origin_names name then Some (Payloads Origins) else
    if is_plainly_one_of key_names name then Some (Payloads RouterKeys) else
    if is_plainly_one_of aspa_names name then Some (Payloads Aspas) else
    if is_plainly_one_of authorization_names name then Some Authorizations else
    if is_plainly_one_of metadata_names name then Some Metadata else None

-- it names ASPAs for a family of addresses
abbrev pub is_family : List ℕ → Bool
is_family name = is_plainly_one_of family_names name
