-- What functions on parts of a document leave. Only contracts of private functions cite these.
use Rattle.std.specs.Prelude.{◌≡◌, ◌≢◌, true, ℕ, ◌<◌, ◌==◌, List, [], ◌∷◌, map, Option, Some}
use Rattle.std.specs.Prelude.{None, ◌⊎◌, if◌then◌else◌, length, Err}
use Rattle.base64.specs.GeneralPurpose.{decode_of}
use Rattle.base64.specs.declared.decode.DecodeError.{DecodeError}
use Rattle.base64.specs.declared.engine.general_purpose.GeneralPurpose.{GeneralPurpose}
use Rattle.json.specs.Json.{Json, string}
use Rattle.json.specs.Value.{value_view}
use Rattle.rtr_base.specs.declared.parse.ParseKeyIdentifierError.{ParseKeyIdentifierError}
use Rattle.make_work.specs.JsonPayloads.{Dated, dated, values_of}
use Rattle.make_work.specs.JsonRefusals.{IsNoBase64, has_base64_length}
use Rattle.make_work.specs.JsonValues.{IsBase64}
use Rattle.make_work.specs.Taking.{TakesItems}
use Rattle.make_work.specs.declared.gathering.Gathering.{Gathering}
use Rattle.make_work.specs.declared.item.Item.{Item}
use Rattle.make_work.specs.declared.item.Reason.{Reason}
use Rattle.make_work.specs.declared.item.Reason.TheVariants.{Base64, KeyIdentifier, Missing}
use Rattle.make_work.specs.declared.item.Reason.TheVariants.{NotString, Twice}
use Rattle.make_work.specs.declared.json_names.Part.{Part}
use Rattle.make_work.specs.declared.json_objects.Member.{Member}

-- the rest of the bytes, where the first is this one
abbrev pub after_byte : List ℕ → ℕ → Option (List ℕ)
after_byte [] x = None
after_byte (y ∷ ys) x = if y == x then Some ys else None

-- the reason where a value is no text
abbrev pub IsNoText : Json → Reason → Type 0
IsNoText (string s) why = ⊥
IsNoText other why = why ≡ NotString

-- an engine reads no bytes of a text
abbrev pub IsUndecoded : GeneralPurpose → List ℕ → Type 0
IsUndecoded engine text = (e : DecodeError) × (decode_of engine text ≡ Err e)

-- the text is no base64 of 20 bytes, and why, where this is why it is no text of hex digits
pub record IsNoIdentifier (text : List ℕ) (error : ParseKeyIdentifierError) (why : Reason) :
    Type 0 where
  pub none : (k : List ℕ) → IsBase64 text k → length k ≢ 20
  pub told : (why ≡ KeyIdentifier error)
      ⊎ ((why ≡ Base64) × (has_base64_length text ≡ true) × IsNoBase64 text)

-- the only member that is this part, if one is
abbrev pub IsOnly : Part → List (List ℕ × Json) → Option Member → Type 0
IsOnly p ms None = values_of p ms ≡ []
IsOnly p ms (Some m) = values_of p ms ≡ value_view m.value.now ∷ []

-- two members are this part
abbrev pub IsTwice : Part → List (List ℕ × Json) → Reason → Type 0
IsTwice p ms why = (why ≡ Twice) × (1 < length (values_of p ms))

-- none is, or two are
abbrev pub LacksPart : Part → List (List ℕ × Json) → Reason → Type 0
LacksPart p ms why = ((why ≡ Missing) × (values_of p ms ≡ [])) ⊎ IsTwice p ms why

abbrev pub payloads_of : List Item → List Dated
payloads_of items = map dated items

-- items were taken, of which this holds
pub record AddsPayloads (Holds : List Dated → Type 0) (old new : Gathering) : Type 0 where
  pub more : List Item
  pub added : TakesItems more old new
  pub payloads : Holds (payloads_of more)

-- one item was taken, whose payload and expiry mean this
pub record AddsOne (Means : Dated → Type 0) (old new : Gathering) : Type 0 where
  pub item : Item
  pub meant : Means (dated item)
  pub added : TakesItems (item ∷ []) old new
