-- Why a document of JSON is refused: this library's own. What stands first in the text decides, but
-- that the parts of an object are looked at in the order that is said of each kind.
use Rattle.std.specs.Prelude.{◌≡◌, ◌⊎◌, ℕ, ◌<◌, ◌≤◌, ◌+◌, ◌^◌, ◌==◌, ◌||◌, Bool, true, false}
use Rattle.std.specs.Prelude.{List, [], ◌∷◌, length, Option, Some, None}
use Rattle.std.specs.Bool.{MatchBool}
use Rattle.std.specs.List.{AllByRecursion, list_any}
use Rattle.std.specs.Str.{IsUtf8}
use Rattle.csv.specs.Reading.{strip_bom}
use Rattle.json.specs.Json.{Json, null, string, array, object, document}
use Rattle.rtr_base.specs.Addresses.{PrefixParts, BreaksMaxLen}
use Rattle.rtr_base.specs.ReadTexts.{RefusesKey, RefusesPrefix}
use Rattle.rtr_base.specs.declared.addr.MaxLenError.{MaxLenError}
use Rattle.rtr_base.specs.declared.parse.ParseKeyIdentifierError.{ParseKeyIdentifierError}
use Rattle.rtr_base.specs.declared.parse.ParsePrefixError.{ParsePrefixError}
use Rattle.data_memory.specs.declared.change_error.ChangeError.TheVariants.{KeyTooLong}
use Rattle.rtr_payload.specs.declared.payload.Payload.{Payload}
use Rattle.make_work.specs.JsonNames.{holding_named, is_family}
use Rattle.make_work.specs.JsonPayloads.{AreFamilyPayloads, AreTopPayloads, Has, IsCustomerAspa}
use Rattle.make_work.specs.JsonPayloads.{Dated, HasPayloads, IsItemPayload, MayHave, is_array}
use Rattle.make_work.specs.JsonPayloads.{values_of}
use Rattle.make_work.specs.JsonValues.{AreAsnValues, IsAsnValue, IsBase64, IsKeyIdentifierValue}
use Rattle.make_work.specs.JsonValues.{IsAsnString, IsSomeAsn, has_plus}
use Rattle.make_work.specs.JsonValues.{IsMaxLengthValue, IsPrefixValue, IsSetOf, items_list}
use Rattle.make_work.specs.JsonValues.{members_list}
use Rattle.make_work.specs.MakeWords.{is_one_of}
use Rattle.make_work.specs.declared.item.Reason.{Reason}
use Rattle.make_work.specs.declared.item.Reason.TheVariants as reasons
use Rattle.make_work.specs.declared.json_names.Holding.{Holding}
use Rattle.make_work.specs.declared.json_names.Holding.TheVariants as holdings
use Rattle.make_work.specs.declared.json_names.Kind.{Kind}
use Rattle.make_work.specs.declared.json_names.Kind.TheVariants.{Origins, RouterKeys, Aspas}
use Rattle.make_work.specs.declared.json_names.Part.{Part}
use Rattle.make_work.specs.declared.json_names.Part.TheVariants as parts

-- this is why, or memory ran out
abbrev pub OrMemory : (Reason → Type 0) → Reason → Type 0
OrMemory Refuses why = (why ≡ reasons.Memory) ⊎ Refuses why

-- the first of these that isn't fine is refused
abbrev pub RefusesFirst : {X : Type 0} → (X → Type 0) → (X → Reason → Type 0) → List X →
    Reason → Type 0
RefusesFirst Fine Refuses [] why = ⊥
RefusesFirst Fine Refuses (x ∷ xs) why =
    Refuses x why ⊎ (Fine x × RefusesFirst Fine Refuses xs why)

-- ---- values

-- it is no ASN
abbrev pub RefusesAsn : Json → Reason → Type 0
RefusesAsn j why = (why ≡ reasons.Asn) × ((n : ℕ) → ¬ IsAsnValue j n)

-- a text has a plus, or else is no prefix
abbrev pub RefusesPrefixString : List ℕ → Reason → Type 0
RefusesPrefixString s why = ((why ≡ reasons.Plus) × (has_plus s ≡ true))
    ⊎ ((has_plus s ≡ false)
    × (e : ParsePrefixError) × (why ≡ reasons.Prefix e) × RefusesPrefix s e)

-- it is no text, or one that is no prefix
abbrev pub RefusesPrefixValue : Json → Reason → Type 0
RefusesPrefixValue (string s) why = RefusesPrefixString s why
RefusesPrefixValue other why = why ≡ reasons.NotString

-- it is no max length
abbrev pub RefusesMaxLength : Json → Reason → Type 0
RefusesMaxLength j why = (why ≡ reasons.MaxLength) × ((n : ℕ) → ¬ IsMaxLengthValue j n)

abbrev pub IsNoBase64 : List ℕ → Type 0
IsNoBase64 text = (bytes : List ℕ) → ¬ IsBase64 text bytes

-- it is no text, or one that isn't base64, or more bytes than a unit has room for
abbrev pub RefusesKeyInfo : Json → Reason → Type 0
RefusesKeyInfo (string s) why = ((why ≡ reasons.Base64) × IsNoBase64 s)
    ⊎ ((why ≡ reasons.Change KeyTooLong) × (bytes : List ℕ) × IsBase64 s bytes
    × (2 ^ 32 ≤ length bytes + 32))
RefusesKeyInfo other why = why ≡ reasons.NotString

-- as long as 20 bytes in base64 (RFC 4648 section 4), with padding or without
abbrev pub has_base64_length : List ℕ → Bool
has_base64_length text = (length text == 27) || (length text == 28)

-- a text that is no identifier of a key is told by what it lacks as hex digits; but one of that
-- length that isn't base64 as such
abbrev pub TellsNoIdentifier : List ℕ → Reason → Type 0
TellsNoIdentifier s why =
    ((e : ParseKeyIdentifierError) × (why ≡ reasons.KeyIdentifier e) × RefusesKey s e)
    ⊎ ((why ≡ reasons.Base64) × (has_base64_length s ≡ true) × IsNoBase64 s)

-- it is no text, or one that is no identifier of a key
abbrev pub RefusesKeyIdentifier : Json → Reason → Type 0
RefusesKeyIdentifier (string s) why = ((k : List ℕ) → ¬ IsKeyIdentifierValue (string s) k)
    × TellsNoIdentifier s why
RefusesKeyIdentifier other why = why ≡ reasons.NotString

-- more providers than a unit has room for
pub record HasTooMany (js : List Json) : Type 0 where
  pub given : List ℕ
  pub asns : AreAsnValues js given
  pub set : List ℕ
  pub is_set : IsSetOf given set
  pub many : 16380 < length set

-- it is no array, or one with an item that is no ASN, or with too many
abbrev pub RefusesProviders : Json → Reason → Type 0
RefusesProviders (array js) why = RefusesFirst IsSomeAsn RefusesAsn (items_list js) why
    ⊎ ((why ≡ reasons.TooManyProviders) × HasTooMany (items_list js))
RefusesProviders other why = why ≡ reasons.NotArray

-- ---- an object that is to be a payload

-- two members are this part, or the value of the one that is has no meaning
abbrev pub RefusesAny : Part → (Json → Reason → Type 0) → List (List ℕ × Json) → Reason → Type 0
RefusesAny p Refuses ms why = ((why ≡ reasons.Twice) × (1 < length (values_of p ms)))
    ⊎ ((j : Json) × (values_of p ms ≡ j ∷ []) × Refuses j why)

-- the same, or none is
abbrev pub RefusesPart : Part → (Json → Reason → Type 0) → List (List ℕ × Json) → Reason → Type 0
RefusesPart p Refuses ms why = ((why ≡ reasons.Missing) × (values_of p ms ≡ []))
    ⊎ RefusesAny p Refuses ms why

-- the max length is given, and breaks the rule that is named
abbrev pub RefusesRule : PrefixParts → Option ℕ → Reason → Type 0
RefusesRule p m why = (x : ℕ) × (e : MaxLenError) × (m ≡ Some x)
    × (why ≡ reasons.MaxLengthRule e) × BreaksMaxLen p x e

-- the prefix, the max length, the ASN, and the rule between the two lengths
abbrev pub RefusesOrigin : List (List ℕ × Json) → Reason → Type 0
RefusesOrigin ms why = RefusesPart parts.Prefix RefusesPrefixValue ms why
    ⊎ ((p : PrefixParts) × Has parts.Prefix IsPrefixValue ms p
    × (RefusesAny parts.MaxLength RefusesMaxLength ms why
    ⊎ ((m : Option ℕ) × MayHave parts.MaxLength IsMaxLengthValue ms m
    × (RefusesPart parts.Asn RefusesAsn ms why
    ⊎ ((n : ℕ) × Has parts.Asn IsAsnValue ms n × RefusesRule p m why)))))

-- the ASN, the identifier, and the key
abbrev pub RefusesRouterKey : List (List ℕ × Json) → Reason → Type 0
RefusesRouterKey ms why = RefusesPart parts.Asn RefusesAsn ms why
    ⊎ ((n : ℕ) × Has parts.Asn IsAsnValue ms n
    × (RefusesPart parts.KeyIdentifier RefusesKeyIdentifier ms why
    ⊎ ((k : List ℕ) × Has parts.KeyIdentifier IsKeyIdentifierValue ms k
    × RefusesPart parts.KeyInfo RefusesKeyInfo ms why)))

-- the customer, and the providers
abbrev pub RefusesAspa : List (List ℕ × Json) → Reason → Type 0
RefusesAspa ms why = RefusesPart parts.Customer RefusesAsn ms why
    ⊎ ((n : ℕ) × Has parts.Customer IsAsnValue ms n
    × RefusesPart parts.Providers RefusesProviders ms why)

abbrev pub RefusesPayloadObject : Kind → List (List ℕ × Json) → Reason → Type 0
RefusesPayloadObject Origins ms why = RefusesOrigin ms why
RefusesPayloadObject RouterKeys ms why = RefusesRouterKey ms why
RefusesPayloadObject Aspas ms why = RefusesAspa ms why

-- ---- what has payloads

abbrev pub RefusesArrayItem : Kind → Json → Reason → Type 0
RefusesArrayItem kind (object ms) why = RefusesPayloadObject kind (members_list ms) why
RefusesArrayItem kind other why = why ≡ reasons.NotObject

abbrev pub IsSomeItem : Kind → Json → Type 0
IsSomeItem kind j = (p : Payload) × IsItemPayload kind j p

-- the name is no ASN, or else the value is refused as providers
abbrev pub RefusesCustomer : List ℕ × Json → Reason → Type 0
RefusesCustomer m why = ((why ≡ reasons.Asn) × ((n : ℕ) → ¬ IsAsnString m.0 n))
    ⊎ ((n : ℕ) × IsAsnString m.0 n × RefusesProviders m.1 why)

abbrev pub IsSomeCustomer : List ℕ × Json → Type 0
IsSomeCustomer m = (p : Payload) × IsCustomerAspa m.0 m.1 p

abbrev pub RefusesPayloads : Kind → Json → Reason → Type 0
RefusesPayloads kind null why = ⊥
RefusesPayloads kind (array js) why =
    RefusesFirst (IsSomeItem kind) (RefusesArrayItem kind) (items_list js) why
RefusesPayloads Aspas (object ms) why =
    RefusesFirst IsSomeCustomer RefusesCustomer (members_list ms) why
RefusesPayloads kind other why = why ≡ reasons.NotArray

-- what looks like payloads stands under a name that isn't known
abbrev pub RefusesUnknown : Json → Reason → Type 0
RefusesUnknown j why = (why ≡ reasons.UnknownName) × HasPayloads j

abbrev pub RefusesFamily : List ℕ × Json → Reason → Type 0
RefusesFamily m why =
    MatchBool (is_family m.0) (RefusesPayloads Aspas m.1 why) (RefusesUnknown m.1 why)

abbrev pub HasFamilyPayloads : List ℕ × Json → Type 0
HasFamilyPayloads m = (ps : List Dated) × AreFamilyPayloads m.0 m.1 ps

abbrev pub RefusesAuthorizations : Json → Reason → Type 0
RefusesAuthorizations (object ms) why =
    RefusesFirst HasFamilyPayloads RefusesFamily (members_list ms) why
RefusesAuthorizations other why = why ≡ reasons.NotObject

-- ---- the document

abbrev pub RefusesBy : Option Holding → Json → Reason → Type 0
RefusesBy (Some (holdings.Payloads kind)) j why = RefusesPayloads kind j why
RefusesBy (Some holdings.Authorizations) j why = RefusesAuthorizations j why
RefusesBy (Some holdings.Metadata) j why = ⊥
RefusesBy None j why = RefusesUnknown j why

-- a member of the object at the top, unless its name is one to ignore
abbrev pub RefusesTop : List (List ℕ) → List ℕ × Json → Reason → Type 0
RefusesTop ignored m why =
    MatchBool (is_one_of ignored m.0) ⊥ (RefusesBy (holding_named m.0) m.1 why)

abbrev pub HasTopPayloads : List (List ℕ) → List ℕ × Json → Type 0
HasTopPayloads ignored m = (ps : List Dated) × AreTopPayloads ignored m.0 m.1 ps

-- no member is refused, and payloads stand under none of the names
pub record LacksArrays (ignored : List (List ℕ)) (ms : List (List ℕ × Json)) : Type 0 where
  pub fine : AllByRecursion (HasTopPayloads ignored) ms
  pub none : list_any (λ m. is_array ignored m.0) ms ≡ false

abbrev pub RefusesMembers : List (List ℕ) → List (List ℕ × Json) → Reason → Type 0
RefusesMembers ignored ms why =
    RefusesFirst (HasTopPayloads ignored) (RefusesTop ignored) ms why
    ⊎ ((why ≡ reasons.NoArray) × LacksArrays ignored ms)

abbrev pub RefusesValue : List (List ℕ) → Json → Reason → Type 0
RefusesValue ignored (object ms) why = RefusesMembers ignored (members_list ms) why
RefusesValue ignored other why = why ≡ reasons.NotObject

-- it is no JSON, and may be the beginning of some, or nests too deep
abbrev pub IsNoDocument : Reason → Type 0
IsNoDocument why = (why ≡ reasons.NotJson)
    ⊎ ((why ≡ reasons.TooDeep) ⊎ (why ≡ reasons.EndsEarly))

-- it has no value that the kit's `json` reads, or one that is refused
abbrev pub RefusesDocument : List (List ℕ) → Option Json → Reason → Type 0
RefusesDocument ignored None why = IsNoDocument why
RefusesDocument ignored (Some j) why = RefusesValue ignored j why

-- without a mark of its byte order it isn't UTF-8 (RFC 8259 section 8.1), or is refused as JSON
abbrev pub RefusesJson : List (List ℕ) → List ℕ → Reason → Type 0
RefusesJson ignored text why = ((why ≡ reasons.NotText) × ¬ IsUtf8 (strip_bom text))
    ⊎ (IsUtf8 (strip_bom text) × RefusesDocument ignored (document (strip_bom text)) why)
