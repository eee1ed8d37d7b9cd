-- What the values in a SLURM file mean (RFC 8416 sections 3.3 and 3.4), and why one means nothing.
use Rattle.std.specs.Prelude.{◌≡◌, ◌≢◌, ◌⊎◌, ◌<◌, ◌≤◌, ⊤, ℕ, ◌==◌, Bool, true, false, List, length}
use Rattle.std.specs.Prelude.{Option, Some, None, Ok, Err}
use Rattle.std.specs.List.{list_any}
use Rattle.base64.specs.Engines.{url_safe_no_pad}
use Rattle.base64.specs.GeneralPurpose.{decode_of}
use Rattle.base64.specs.declared.decode.DecodeError.{DecodeError}
use Rattle.json.specs.Find.{as_number, as_str}
use Rattle.json.specs.Json.{Json}
use Rattle.rtr_base.specs.Addresses.{PrefixParts}
use Rattle.rtr_base.specs.Numerals.{IsSerialText}
use Rattle.rtr_base.specs.ReadTexts.{IsLenText, IsPrefixText, RefusesPrefix}
use Rattle.rtr_base.specs.declared.parse.ParsePrefixError.{ParsePrefixError}
use Rattle.data_slurm.specs.declared.reason.SlurmReason.{SlurmReason}
use Rattle.data_slurm.specs.declared.reason.SlurmReason.TheVariants as reasons

-- ---- a member that may be there

abbrev pub MemberIs : {T : Type 0} → (Json → T → Type 0) → Option Json → Option T → Type 0
MemberIs Means None None = ⊤
MemberIs Means (Some j) (Some x) = Means j x
MemberIs Means found value = ⊥

abbrev pub MemberWrong : (Json → SlurmReason → Type 0) → Option Json → SlurmReason → Type 0
MemberWrong Wrong None why = ⊥
MemberWrong Wrong (Some j) why = Wrong j why

-- one that has to be there
abbrev pub NeededWrong :
    SlurmReason → (Json → SlurmReason → Type 0) → Option Json → SlurmReason → Type 0
NeededWrong absent Wrong None why = why ≡ absent
NeededWrong absent Wrong (Some j) why = Wrong j why

-- ---- numbers

abbrev pub IsAsnNumeral : Option (List ℕ) → ℕ → Type 0
IsAsnNumeral (Some s) n = IsSerialText s n
IsAsnNumeral None n = ⊥

abbrev pub AsnNumeralWrong : Option (List ℕ) → SlurmReason → Type 0
AsnNumeralWrong text why = (why ≡ reasons.Asn) × ((n : ℕ) → ¬ IsAsnNumeral text n)

-- an ASN is a number of 32 bits
abbrev pub IsSlurmAsn : Json → ℕ → Type 0
IsSlurmAsn j n = IsAsnNumeral (as_number j) n

abbrev pub SlurmAsnWrong : Json → SlurmReason → Type 0
SlurmAsnWrong j why = AsnNumeralWrong (as_number j) why

abbrev pub IsLengthNumeral : Option (List ℕ) → ℕ → Type 0
IsLengthNumeral (Some s) n = IsLenText s n
IsLengthNumeral None n = ⊥

abbrev pub LengthNumeralWrong : Option (List ℕ) → SlurmReason → Type 0
LengthNumeralWrong text why = (why ≡ reasons.MaxLength) × ((n : ℕ) → ¬ IsLengthNumeral text n)

-- a "maxPrefixLength" is a number
abbrev pub IsSlurmLength : Json → ℕ → Type 0
IsSlurmLength j n = IsLengthNumeral (as_number j) n

abbrev pub SlurmLengthWrong : Json → SlurmReason → Type 0
SlurmLengthWrong j why = LengthNumeralWrong (as_number j) why

-- ---- prefixes

-- a plus, which std takes before a length, and neither RFC 4632 nor RFC 5952 has
abbrev pub has_sign : List ℕ → Bool
has_sign text = list_any (λ c. c == 43) text

abbrev pub IsPrefixWord : Option (List ℕ) → PrefixParts → Type 0
IsPrefixWord (Some s) p = (has_sign s ≡ false) × IsPrefixText s p
IsPrefixWord None p = ⊥

abbrev pub IsSlurmPrefix : Json → PrefixParts → Type 0
IsSlurmPrefix j p = IsPrefixWord (as_str j) p

abbrev pub PrefixWordWrong : Option (List ℕ) → SlurmReason → Type 0
PrefixWordWrong None why = why ≡ reasons.PrefixText
PrefixWordWrong (Some s) why = ((why ≡ reasons.PrefixSign) × (has_sign s ≡ true))
    ⊎ ((has_sign s ≡ false)
    × (e : ParsePrefixError) × (why ≡ reasons.Prefix e) × RefusesPrefix s e)

abbrev pub SlurmPrefixWrong : Json → SlurmReason → Type 0
SlurmPrefixWrong j why = PrefixWordWrong (as_str j) why

-- ---- base64

-- in the alphabet for URLs, without padding (RFC 4648 section 5)
abbrev pub IsUrlBase64 : Option (List ℕ) → List ℕ → Type 0
IsUrlBase64 (Some s) bytes = decode_of url_safe_no_pad s ≡ Ok bytes
IsUrlBase64 None bytes = ⊥

abbrev pub NoUrlBase64 : Option (List ℕ) → Type 0
NoUrlBase64 (Some s) = (e : DecodeError) × (decode_of url_safe_no_pad s ≡ Err e)
NoUrlBase64 None = ⊤

-- an "SKI": 20 bytes (RFC 6487 section 4.8.2)
abbrev pub IsSlurmSki : Json → List ℕ → Type 0
IsSlurmSki j bytes = IsUrlBase64 (as_str j) bytes × (length bytes ≡ 20)

abbrev pub SlurmSkiWrong : Json → SlurmReason → Type 0
SlurmSkiWrong j why = (why ≡ reasons.Memory) ⊎ ((why ≡ reasons.Ski)
    × (NoUrlBase64 (as_str j)
    ⊎ ((bytes : List ℕ) × IsUrlBase64 (as_str j) bytes × (length bytes ≢ 20))))

-- a "routerPublicKey", for which a unit of the protocol has room (RFC 8210 section 5.10)
abbrev pub IsSlurmKey : Json → List ℕ → Type 0
IsSlurmKey j bytes = IsUrlBase64 (as_str j) bytes × (length bytes ≤ 4294967263)

abbrev pub SlurmKeyWrong : Json → SlurmReason → Type 0
SlurmKeyWrong j why = (why ≡ reasons.Memory) ⊎ (((why ≡ reasons.Key) × NoUrlBase64 (as_str j))
    ⊎ ((why ≡ reasons.KeyTooLong)
    × ((bytes : List ℕ) × IsUrlBase64 (as_str j) bytes × (4294967263 < length bytes))))

-- what a function on base64 finds
abbrev pub BytesFound : Option (List ℕ) → Option (List ℕ) → Type 0
BytesFound text (Some bytes) = IsUrlBase64 text bytes
BytesFound text None = NoUrlBase64 text
