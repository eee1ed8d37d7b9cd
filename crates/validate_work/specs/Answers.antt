-- What is printed of a route: its validity (RFC 6811 section 2), and the VRPs that cover it, each
-- with why it doesn't match the route. The words are this program's own.
use Rattle.std.specs.Prelude.{◌≡◌, ◌⊎◌, ℕ, List, [], ◌∷◌, ◌++◌, codes, decimal}
use Rattle.std.specs.Prelude.{Option, Some, None}
use Rattle.std.specs.List.{flat_map}
use Rattle.rtr_base.specs.Addresses.{PrefixParts}
use Rattle.rtr_base.specs.PlainTexts.{address_text, prefix_text}
use Rattle.rtr_units.specs.PrefixUnits.{OriginParts}
use Rattle.rtr_payload.specs.Payloads.{Payload, origin, key, aspa}
use Rattle.data_validation.specs.Covering.{IsMismatch}
use Rattle.data_validation.specs.Validity.{Covers, IsValidity}
use Rattle.data_validation.specs.declared.mismatch.Mismatch.{Mismatch}
use Rattle.data_validation.specs.declared.mismatch.Mismatch.TheVariants.{AsZero, OtherAs, TooLong}
use Rattle.data_validation.specs.declared.validity.Validity.{Validity}
use Rattle.data_validation.specs.declared.validity.Validity.TheVariants.{NotFound, Valid, Invalid}
use Rattle.validate_work.specs.RouteTexts.{origin_asn}
use Rattle.validate_work.specs.declared.form.Form.{Form}
use Rattle.validate_work.specs.declared.form.Form.TheVariants.{Text, Json}

-- ---- the VRPs that cover a route

-- a VRP that covers a route, and why it doesn't match it, unless it does
pub record Cover : Type 0 where
  pub vrp : OriginParts
  pub why : Option Mismatch

-- the first of these is the VRP, with why it doesn't match the route, and the others are as Others
-- says
abbrev pub BeginsWithCover : OriginParts → PrefixParts → (asn : ℕ) → List Cover →
    (Others : List Cover → Type 0) → Type 0
BeginsWithCover v p asn [] Others = ⊥
BeginsWithCover v p asn (c ∷ cs) Others = (c.vrp ≡ v) × IsMismatch c.why v p asn × Others cs

-- these are the VRPs among the payloads that cover a route of this prefix and this AS: all of them,
-- each once and in the order of the payloads
abbrev pub AreCovers : List Payload → PrefixParts → (asn : ℕ) → List Cover → Type 0
AreCovers [] p asn cs = cs ≡ []
AreCovers (origin v ∷ d) p asn cs =
    (Covers v p × BeginsWithCover v p asn cs (AreCovers d p asn))
    ⊎ ((Covers v p → ⊥) × AreCovers d p asn cs)
AreCovers (key k ∷ d) p asn cs = AreCovers d p asn cs
AreCovers (aspa a ∷ d) p asn cs = AreCovers d p asn cs

-- ---- words

abbrev pub state_words : Validity → List ℕ
state_words NotFound = codes "not found"
state_words Valid = codes "valid"
state_words Invalid = codes "invalid"

-- why a VRP of this max length doesn't match, for people
abbrev pub mismatch_words : Option Mismatch → (max_len : ℕ) → List ℕ
mismatch_words None max_len = codes "matches"
mismatch_words (Some AsZero) max_len = codes "AS 0"
mismatch_words (Some OtherAs) max_len = codes "another AS"
mismatch_words (Some TooLong) max_len = codes "longer than " ++ decimal max_len

-- the same as a value of JSON
abbrev pub mismatch_value : Option Mismatch → List ℕ
mismatch_value None = codes "null"
mismatch_value (Some AsZero) = codes "\"AS 0\""
mismatch_value (Some OtherAs) = codes "\"another AS\""
mismatch_value (Some TooLong) = codes "\"too long\""

-- 192.0.2.0/23
abbrev pub vrp_prefix : OriginParts → List ℕ
vrp_prefix v = address_text v.family v.address ++ codes "/" ++ decimal v.prefix_len

-- 192.0.2.0/23-24 AS65550 (another AS), or
-- {"prefix":"192.0.2.0/23","maxLength":24,"asn":65550,"mismatch":"another AS"}
abbrev pub cover_text : Form → Cover → List ℕ
cover_text Text c =
    vrp_prefix c.vrp ++ codes "-" ++ decimal c.vrp.max_len ++ codes " AS" ++ decimal c.vrp.asn
    ++ codes " (" ++ mismatch_words c.why c.vrp.max_len ++ codes ")"
cover_text Json c =
    codes "{\"prefix\":\"" ++ vrp_prefix c.vrp ++ codes "\",\"maxLength\":" ++ decimal c.vrp.max_len
    ++ codes ",\"asn\":" ++ decimal c.vrp.asn ++ codes ",\"mismatch\":" ++ mismatch_value c.why
    ++ codes "}"

-- what stands before the first, and before each other
abbrev pub opening : Form → List ℕ
opening Text = codes ": "
opening Json = []

abbrev pub separator : Form → List ℕ
separator Text = codes "; "
separator Json = codes ","

abbrev pub listed : Form → List Cover → List ℕ
listed form [] = []
listed form (c ∷ cs) =
    opening form ++ cover_text form c ++ flat_map (λ o. separator form ++ cover_text form o) cs

-- ---- answers

-- a line for people lists the VRPs that cover where the route is invalid
abbrev pub HasReasons : Validity → List Payload → PrefixParts → (asn : ℕ) → (text : List ℕ) → Type 0
HasReasons NotFound d p asn text = text ≡ []
HasReasons Valid d p asn text = text ≡ []
HasReasons Invalid d p asn text =
    (cs : List Cover) × AreCovers d p asn cs × (text ≡ listed Text cs)

-- AS65551, or AS_SET where there is no origin AS
abbrev pub route_origin_words : Option ℕ → List ℕ
route_origin_words (Some asn) = codes "AS" ++ decimal asn
route_origin_words None = codes "AS_SET"

-- the same as a value of JSON
abbrev pub route_origin_value : Option ℕ → List ℕ
route_origin_value (Some asn) = decimal asn
route_origin_value None = codes "null"

abbrev pub route_origin_text : Form → Option ℕ → List ℕ
route_origin_text Text o = route_origin_words o
route_origin_text Json o = route_origin_value o

-- 192.0.2.0/24 AS65551 valid
abbrev pub answer_line : PrefixParts → (origin : Option ℕ) → Validity → (reasons : List ℕ) → List ℕ
answer_line p o state reasons =
    prefix_text p ++ codes " " ++ route_origin_words o ++ codes " " ++ state_words state ++ reasons
    ++ codes "\n"

-- {"prefix":"192.0.2.0/24","asn":65551,"state":"valid","vrps":[..]}
abbrev pub answer_object : PrefixParts → (origin : Option ℕ) → Validity → List Cover → List ℕ
answer_object p o state cs =
    codes "{\"prefix\":\"" ++ prefix_text p ++ codes "\",\"asn\":" ++ route_origin_value o
    ++ codes ",\"state\":\"" ++ state_words state ++ codes "\",\"vrps\":[" ++ listed Json cs
    ++ codes "]}\n"

-- the text says of a route that it has this validity, with the VRPs that cover it
abbrev pub SaysState : Form → List Payload → PrefixParts → (origin : Option ℕ) → Validity →
    (text : List ℕ) → Type 0
SaysState Text d p o state text = (reasons : List ℕ) × HasReasons state d p (origin_asn o) reasons
    × (text ≡ answer_line p o state reasons)
SaysState Json d p o state text = (cs : List Cover) × AreCovers d p (origin_asn o) cs
    × (text ≡ answer_object p o state cs)

-- the text is the answer on a route of this prefix and this AS, by the origins among the payloads
pub record IsRouteAnswer (form : Form) (d : List Payload) (p : PrefixParts) (origin : Option ℕ)
    (text : List ℕ) : Type 0 where
  pub state : Validity
  pub valid : IsValidity d p (origin_asn origin) state
  pub words : SaysState form d p origin state text
