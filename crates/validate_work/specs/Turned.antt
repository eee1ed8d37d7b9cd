-- What is printed of a route where two lists are compared: from which validity by the list in use
-- to which one by the other it turns (RFC 6811 section 2), if it becomes invalid or was invalid.
-- The words are this program's own.
use Rattle.std.specs.Prelude.{◌≡◌, ℕ, Bool, true, false, List, [], ◌++◌, codes, Option, Some, None}
use Rattle.std.specs.Bool.{MatchBool}
use Rattle.std.specs.Borrow.{Bor}
use Rattle.rtr_base.specs.Addresses.{PrefixParts}
use Rattle.rtr_base.specs.PlainTexts.{prefix_text}
use Rattle.rtr_payload.specs.Payloads.{Payload}
use Rattle.data_validation.specs.Validity.{IsValidity}
use Rattle.data_validation.specs.declared.validity.Validity.{Validity}
use Rattle.data_validation.specs.declared.validity.Validity.TheVariants.{NotFound, Valid, Invalid}
use Rattle.validate_work.specs.Answers.{AreCovers, Cover, HasReasons, IsRouteAnswer, listed}
use Rattle.validate_work.specs.Answers.{route_origin_text, state_words}
use Rattle.validate_work.specs.RouteTexts.{origin_asn}
use Rattle.validate_work.specs.declared.form.Form.{Form}
use Rattle.validate_work.specs.declared.form.Form.TheVariants.{Text, Json}
use Rattle.validate_work.specs.declared.lists.Lists.{Lists}

-- a route that becomes invalid, or is no longer
abbrev pub is_reported : (state next : Validity) → Bool
is_reported Invalid Invalid = false
is_reported Invalid Valid = true
is_reported Invalid NotFound = true
is_reported Valid Invalid = true
is_reported NotFound Invalid = true
is_reported Valid Valid = false
is_reported Valid NotFound = false
is_reported NotFound Valid = false
is_reported NotFound NotFound = false

-- ---- words

abbrev pub before_prefix : Form → List ℕ
before_prefix Text = []
before_prefix Json = codes "{\"prefix\":\""

abbrev pub before_origin : Form → List ℕ
before_origin Text = codes " "
before_origin Json = codes "\",\"asn\":"

abbrev pub states_between : Form → (state next : Validity) → List ℕ
states_between Text state next =
    codes " " ++ state_words state ++ codes " to " ++ state_words next
states_between Json state next =
    codes ",\"state\":\"" ++ state_words state ++ codes "\",\"becomes\":\"" ++ state_words next
    ++ codes "\",\"vrps\":["

abbrev pub turn_head : Form → PrefixParts → (origin : Option ℕ) → (state next : Validity) → List ℕ
turn_head form p o state next =
    before_prefix form ++ prefix_text p ++ before_origin form ++ route_origin_text form o
    ++ states_between form state next

-- The VRPs are those of the other list: 192.0.2.0/24 AS65551 valid to invalid: .., or
-- {"prefix":"192.0.2.0/24","asn":65551,"state":"valid","becomes":"invalid","vrps":[..]}
abbrev pub SaysTurned : Form → List Payload → PrefixParts → (origin : Option ℕ) →
    (state next : Validity) → (text : List ℕ) → Type 0
SaysTurned Text e p o state next text = (reasons : List ℕ)
    × HasReasons next e p (origin_asn o) reasons
    × (text ≡ turn_head Text p o state next ++ reasons ++ codes "\n")
SaysTurned Json e p o state next text = (cs : List Cover) × AreCovers e p (origin_asn o) cs
    × (text ≡ turn_head Json p o state next ++ listed Json cs ++ codes "]}\n")

-- nothing is said of other routes
abbrev pub SaysIfTold : Form → List Payload → PrefixParts → (origin : Option ℕ) →
    (state next : Validity) → (text : List ℕ) → Type 0
SaysIfTold form e p o state next text =
    MatchBool (is_reported state next) (SaysTurned form e p o state next text) (text ≡ [])

-- the text says how a route of this prefix and this AS turns, from its validity by the origins
-- among the first payloads to that by those among the others
pub record IsTurnAnswer (form : Form) (d e : List Payload) (p : PrefixParts) (origin : Option ℕ)
    (text : List ℕ) : Type 0 where
  pub state : Validity
  pub next : Validity
  pub valid : IsValidity d p (origin_asn origin) state
  pub turned : IsValidity e p (origin_asn origin) next
  pub words : SaysIfTold form e p origin state next text

-- the answer by one list, or how the route turns by another one
abbrev pub AnswersBy : Form → List Payload → Option (Bor (List Payload)) → PrefixParts →
    (origin : Option ℕ) → (text : List ℕ) → Type 0
AnswersBy form d None p origin text = IsRouteAnswer form d p origin text
AnswersBy form d (Some other) p origin text = IsTurnAnswer form d other.now p origin text

abbrev pub IsListAnswer : Form → Lists → PrefixParts → (origin : Option ℕ) → (text : List ℕ) →
    Type 0
IsListAnswer form ls p origin text = AnswersBy form ls.used.now ls.other p origin text
