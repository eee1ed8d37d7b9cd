-- What values of JSON mean as parts of payloads: this library's own, after what validators print;
-- base64 by RFC 4648.
use Rattle.std.specs.Prelude.{◌≡◌, ◌⊎◌, ◌↔◌, ◌<◌, ◌≤◌, ◌+◌, ◌^◌, ⊤, ℕ, List, [], ◌∷◌}
use Rattle.std.specs.Prelude.{Bool, false, ◌==◌}
use Rattle.std.specs.Prelude.{length, Option, Some, None, Ok, Err, Contains}
use Rattle.std.specs.List.{AllByRecursion, list_any}
use Rattle.std.specs.List.Sorted.{IsStrictlyIncreasing}
use Rattle.base64.specs.Engines.{standard_pad_indifferent, url_safe_pad_indifferent}
use Rattle.base64.specs.GeneralPurpose.{decode_of}
use Rattle.base64.specs.declared.decode.DecodeError.{DecodeError}
use Rattle.json.specs.Json.{Json, number, string, array, Items, no_items, item}
use Rattle.json.specs.Json.{Members, no_members, member}
use Rattle.rtr_base.specs.Addresses.{PrefixParts}
use Rattle.rtr_base.specs.Numerals.{IsSerialText}
use Rattle.rtr_base.specs.ReadTexts.{IsAsnText, IsLenText, IsPrefixText, ParsesKey}
use Rattle.make_work.specs.MakeWords.{number_of}
use Rattle.make_work.specs.declared.item.Expiry.{Expiry}
use Rattle.make_work.specs.declared.item.Expiry.TheVariants.{At, Invalid}

-- the items of an array, and the names and values of an object's members, as lists
abbrev pub items_list : Items → List Json
items_list no_items = []
items_list (item j js) = j ∷ items_list js

abbrev pub members_list : Members → List (List ℕ × Json)
members_list no_members = []
members_list (member k j ms) = (k, j) ∷ members_list ms

-- a plus, which Rust's `from_str` takes before a number, and no validator prints
abbrev pub has_plus : List ℕ → Bool
has_plus text = list_any (λ c. c == 43) text

-- an ASN in a text, with or without AS before it, and without a plus
abbrev pub IsAsnString : List ℕ → ℕ → Type 0
IsAsnString text n = (has_plus text ≡ false) × IsAsnText text n

-- an ASN: a number of 32 bits, or such a text
abbrev pub IsAsnValue : Json → ℕ → Type 0
IsAsnValue (number s) n = IsSerialText s n
IsAsnValue (string s) n = IsAsnString s n
IsAsnValue other n = ⊥

abbrev pub IsPrefixString : List ℕ → PrefixParts → Type 0
IsPrefixString text p = (has_plus text ≡ false) × IsPrefixText text p

abbrev pub IsPrefixValue : Json → PrefixParts → Type 0
IsPrefixValue (string s) p = IsPrefixString s p
IsPrefixValue other p = ⊥

abbrev pub IsSomeAsn : Json → Type 0
IsSomeAsn j = (n : ℕ) × IsAsnValue j n

-- what looks like an ASN: a number of 32 bits, or a text that is one with or without a plus
abbrev pub IsLikeAsnText : List ℕ → Type 0
IsLikeAsnText text = (n : ℕ) × IsAsnText text n

abbrev pub IsLikeAsn : Json → Type 0
IsLikeAsn (number s) = (n : ℕ) × IsSerialText s n
IsLikeAsn (string s) = IsLikeAsnText s
IsLikeAsn other = ⊥

-- an array of such, maybe of none
abbrev pub IsAsnArray : Json → Type 0
IsAsnArray (array js) = AllByRecursion IsLikeAsn (items_list js)
IsAsnArray other = ⊥

-- what looks like a prefix, with or without a plus
abbrev pub IsLikePrefixText : List ℕ → Type 0
IsLikePrefixText text = (p : PrefixParts) × IsPrefixText text p

abbrev pub IsLikePrefix : Json → Type 0
IsLikePrefix (string s) = IsLikePrefixText s
IsLikePrefix other = ⊥

-- one of these is so
abbrev pub SomeIs : {X : Type 0} → (X → Type 0) → List X → Type 0
SomeIs Is [] = ⊥
SomeIs Is (x ∷ xs) = Is x ⊎ SomeIs Is xs

-- a number of at most 255
abbrev pub IsMaxLengthValue : Json → ℕ → Type 0
IsMaxLengthValue (number s) n = IsLenText s n
IsMaxLengthValue other n = ⊥

-- a time, in seconds: a number of 64 bits
abbrev pub expiry_by_number : Option ℕ → Expiry
expiry_by_number (Some t) = At t
expiry_by_number None = Invalid

abbrev pub expiry_of_value : Json → Expiry
expiry_of_value (number s) = expiry_by_number (number_of 64 s)
expiry_of_value other = Invalid

-- base64 of these bytes, padded or not: in the usual alphabet (RFC 4648 section 4), or, where it is
-- none, in that for URLs (section 5)
abbrev pub IsBase64 : List ℕ → List ℕ → Type 0
IsBase64 text bytes = (decode_of standard_pad_indifferent text ≡ Ok bytes)
    ⊎ (((e : DecodeError) × (decode_of standard_pad_indifferent text ≡ Err e))
    × (decode_of url_safe_pad_indifferent text ≡ Ok bytes))

-- a key, in base64, for which a unit has room (RFC 8210 section 5.10)
abbrev pub IsKeyInfoValue : Json → List ℕ → Type 0
IsKeyInfoValue (string s) bytes = IsBase64 s bytes × (length bytes + 32 < 2 ^ 32)
IsKeyInfoValue other bytes = ⊥

-- the identifier of a key: 40 hex digits, or 20 bytes in base64
abbrev pub IsKeyIdentifierValue : Json → List ℕ → Type 0
IsKeyIdentifierValue (string s) bytes = ParsesKey s (Ok bytes)
    ⊎ (IsBase64 s bytes × (length bytes ≡ 20))
IsKeyIdentifierValue other bytes = ⊥

-- these values are these ASNs, one by one
abbrev pub AreAsnValues : List Json → List ℕ → Type 0
AreAsnValues [] [] = ⊤
AreAsnValues (j ∷ js) (n ∷ ns) = IsAsnValue j n × AreAsnValues js ns
AreAsnValues js ns = ⊥

-- the same numbers, in order and each once
pub record IsSetOf (given ns : List ℕ) : Type 0 where
  pub in_order : IsStrictlyIncreasing ns
  pub same : (n : ℕ) → Contains given n ↔ Contains ns n

-- the providers in an array, in order and each once, for which a unit has room
abbrev pub AreProviderValues : Json → List ℕ → Type 0
AreProviderValues (array js) ps =
    (given : List ℕ) × AreAsnValues (items_list js) given × IsSetOf given ps × (length ps ≤ 16380)
AreProviderValues other ps = ⊥
