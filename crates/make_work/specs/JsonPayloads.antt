-- Which payloads a document of JSON has, by the names of `JsonNames`: this library's own, after
-- what validators print.
use Rattle.std.specs.Prelude.{◌≡◌, ◌≢◌, ◌⊎◌, ⊤, ℕ, Bool, true, false, not, ◌&&◌, ◌||◌}
use Rattle.std.specs.Prelude.{List, [], ◌∷◌, ◌++◌}
use Rattle.std.specs.Prelude.{map, Option, Some, None, if◌then◌else◌}
use Rattle.std.specs.Bool.{MatchBool}
use Rattle.std.specs.List.{AllByRecursion, list_any}
use Rattle.std.specs.Str.{IsUtf8}
use Rattle.json.specs.Json.{Json, null, boolean, number, string, array, object, document}
use Rattle.json.specs.Json.{Items, no_items, item, Members, no_members, member}
use Rattle.csv.specs.Reading.{strip_bom}
use Rattle.rtr_base.specs.Addresses.{IsMaxLenPrefix}
use Rattle.rtr_payload.specs.declared.payload.Aspa.{Aspa}
use Rattle.rtr_payload.specs.declared.payload.Payload.{Payload}
use Rattle.rtr_payload.specs.declared.payload.Payload.TheVariants as payloads
use Rattle.rtr_payload.specs.declared.payload.RouteOrigin.{RouteOrigin}
use Rattle.rtr_payload.specs.declared.payload.RouterKey.{RouterKey}
use Rattle.make_work.specs.JsonNames.{holding_named, is_family, is_part}
use Rattle.make_work.specs.JsonValues.{IsAsnValue, IsPrefixValue, IsMaxLengthValue, IsKeyInfoValue}
use Rattle.make_work.specs.JsonValues.{IsKeyIdentifierValue, AreProviderValues, items_list}
use Rattle.make_work.specs.JsonValues.{IsAsnString, expiry_of_value}
use Rattle.make_work.specs.JsonValues.{IsAsnArray, IsLikeAsn, IsLikeAsnText, IsLikePrefix, SomeIs}
use Rattle.make_work.specs.JsonValues.{members_list}
use Rattle.make_work.specs.MakeWords.{is_one_of}
use Rattle.make_work.specs.declared.item.Expiry.{Expiry}
use Rattle.make_work.specs.declared.item.Expiry.TheVariants.{Never, Twice}
use Rattle.make_work.specs.declared.item.Item.{Item}
use Rattle.make_work.specs.declared.json_names.Holding.{Holding}
use Rattle.make_work.specs.declared.json_names.Holding.TheVariants as holdings
use Rattle.make_work.specs.declared.json_names.Kind.{Kind}
use Rattle.make_work.specs.declared.json_names.Kind.TheVariants.{Origins, RouterKeys, Aspas}
use Rattle.make_work.specs.declared.json_names.Part.{Part}
use Rattle.make_work.specs.declared.json_names.Part.TheVariants as parts

-- ---- an object that is a payload

-- the values of the members that are this part
abbrev pub values_of : Part → List (List ℕ × Json) → List Json
values_of p [] = []
values_of p (m ∷ ms) = if is_part p m.0 then m.1 ∷ values_of p ms else values_of p ms

-- one member is this part, and no other, and its value means this
abbrev pub Has : {T : Type 0} → Part → (Json → T → Type 0) → List (List ℕ × Json) → T → Type 0
Has p Means ms x = (j : Json) × (values_of p ms ≡ j ∷ []) × Means j x

-- none is, or one is and means this
abbrev pub MayHave : {T : Type 0} → Part → (Json → T → Type 0) → List (List ℕ × Json) →
    Option T → Type 0
MayHave p Means ms None = values_of p ms ≡ []
MayHave p Means ms (Some x) = Has p Means ms x

pub record IsOriginObject (ms : List (List ℕ × Json)) (o : RouteOrigin) : Type 0 where
  pub prefix : Has parts.Prefix IsPrefixValue ms o.prefix.prefix
  pub max_length : MayHave parts.MaxLength IsMaxLengthValue ms o.prefix.max_len
  pub asn : Has parts.Asn IsAsnValue ms o.asn
  pub valid : IsMaxLenPrefix o.prefix

pub record IsKeyObject (ms : List (List ℕ × Json)) (k : RouterKey) : Type 0 where
  pub asn : Has parts.Asn IsAsnValue ms k.asn
  pub key_identifier : Has parts.KeyIdentifier IsKeyIdentifierValue ms k.key_identifier
  pub key_info : Has parts.KeyInfo IsKeyInfoValue ms k.key_info

pub record IsAspaObject (ms : List (List ℕ × Json)) (a : Aspa) : Type 0 where
  pub customer : Has parts.Customer IsAsnValue ms a.customer
  pub providers : Has parts.Providers AreProviderValues ms a.providers

abbrev pub IsPayloadObject : Kind → List (List ℕ × Json) → Payload → Type 0
IsPayloadObject Origins ms p = (o : RouteOrigin) × (p ≡ payloads.Origin o) × IsOriginObject ms o
IsPayloadObject RouterKeys ms p = (k : RouterKey) × (p ≡ payloads.RouterKey k) × IsKeyObject ms k
IsPayloadObject Aspas ms p = (a : Aspa) × (p ≡ payloads.Aspa a) × IsAspaObject ms a

-- ---- when an item expires

abbrev pub expiry_of_values : List Json → Expiry
expiry_of_values [] = Never
expiry_of_values (j ∷ []) = expiry_of_value j
expiry_of_values (j ∷ k ∷ js) = Twice

-- by the member that says it, if one does
abbrev pub object_expiry : List (List ℕ × Json) → Expiry
object_expiry ms = expiry_of_values (values_of parts.Expires ms)

abbrev pub item_expiry : Json → Expiry
item_expiry (object ms) = object_expiry (members_list ms)
item_expiry other = Never

-- a payload, and when it expires
abbrev pub Dated : Type 0
Dated = Payload × Expiry

-- ---- what is refused under names that aren't known

abbrev pub holds_part : List (List ℕ × Json) → Part → Bool
holds_part ms p = list_any (λ m. is_part p m.0) ms

-- an object has what a payload has: an ASN and a prefix, an ASN and a key or its identifier, or a
-- customer and providers
abbrev pub is_like_payload : List (List ℕ × Json) → Bool
is_like_payload ms = (holds_part ms parts.Asn && holds_part ms parts.Prefix)
    || ((holds_part ms parts.Asn
    && (holds_part ms parts.KeyIdentifier || holds_part ms parts.KeyInfo))
    || (holds_part ms parts.Customer && holds_part ms parts.Providers))

-- an array has what an origin has: the text of a prefix, and an ASN beside it
abbrev pub IsLikeTuple : List Json → Type 0
IsLikeTuple js = SomeIs IsLikePrefix js × SomeIs IsLikeAsn js

-- a name is an ASN, and its value an array of ASNs
abbrev pub IsLikeCustomer : List ℕ × Json → Type 0
IsLikeCustomer m = IsLikeAsnText m.0 × IsAsnArray m.1

-- an object lists ASPAs by their customers, and not none: each member is one
abbrev pub IsLikeCustomers : List (List ℕ × Json) → Type 0
IsLikeCustomers ms = (ms ≢ []) × AllByRecursion IsLikeCustomer ms

-- a value is such an array or object, or has one in it at any depth
abbrev mutual
  pub HasPayloads : Json → Type 0
  HasPayloads null = ⊥
  HasPayloads (boolean b) = ⊥
  HasPayloads (number s) = ⊥
  HasPayloads (string s) = ⊥
  HasPayloads (array js) = IsLikeTuple (items_list js) ⊎ SomeItemHas js
  HasPayloads (object ms) = (is_like_payload (members_list ms) ≡ true)
      ⊎ (IsLikeCustomers (members_list ms) ⊎ SomeMemberHas ms)

  pub SomeItemHas : Items → Type 0
  SomeItemHas no_items = ⊥
  SomeItemHas (item j js) = HasPayloads j ⊎ SomeItemHas js

  pub SomeMemberHas : Members → Type 0
  SomeMemberHas no_members = ⊥
  SomeMemberHas (member k j ms) = HasPayloads j ⊎ SomeMemberHas ms

-- ---- the payloads of a document

-- an object with the parts of a payload
abbrev pub IsItemPayload : Kind → Json → Payload → Type 0
IsItemPayload kind (object ms) p = IsPayloadObject kind (members_list ms) p
IsItemPayload kind other p = ⊥

abbrev pub IsDatedItem : Kind → Json → Dated → Type 0
IsDatedItem kind j p = IsItemPayload kind j p.0 × (p.1 ≡ item_expiry j)

-- a payload of each item, in order
abbrev pub AreItemPayloads : Kind → List Json → List Dated → Type 0
AreItemPayloads kind [] [] = ⊤
AreItemPayloads kind (j ∷ js) (p ∷ ps) = IsDatedItem kind j p × AreItemPayloads kind js ps
AreItemPayloads kind js ps = ⊥

-- the ASPA of the customer that a name is, with the providers in its value
abbrev pub IsCustomerAspa : List ℕ → Json → Payload → Type 0
IsCustomerAspa name j p = (a : Aspa) × (p ≡ payloads.Aspa a) × IsAsnString name a.customer
    × AreProviderValues j a.providers

-- nothing says when it expires
abbrev pub IsDatedCustomer : List ℕ → Json → Dated → Type 0
IsDatedCustomer name j p = IsCustomerAspa name j p.0 × (p.1 ≡ Never)

-- one of each member, in order
abbrev pub AreCustomerAspas : List (List ℕ × Json) → List Dated → Type 0
AreCustomerAspas [] [] = ⊤
AreCustomerAspas (m ∷ ms) (p ∷ ps) = IsDatedCustomer m.0 m.1 p × AreCustomerAspas ms ps
AreCustomerAspas ms ps = ⊥

-- the payloads of this kind in a value: an array of them, none in `null`, or ASPAs by customers
abbrev pub ArePayloadsIn : Kind → Json → List Dated → Type 0
ArePayloadsIn kind null ps = ps ≡ []
ArePayloadsIn kind (array js) ps = AreItemPayloads kind (items_list js) ps
ArePayloadsIn Aspas (object ms) ps = AreCustomerAspas (members_list ms) ps
ArePayloadsIn kind other ps = ⊥

-- what lies under a name that isn't known: nothing that looks like payloads, and so none
abbrev pub AreNoPayloads : Json → List Dated → Type 0
AreNoPayloads j ps = (¬ HasPayloads j) × (ps ≡ [])

-- the payloads in the values of members one after the other, by what each has
abbrev pub ArePayloadsOfEach : (List ℕ → Json → List Dated → Type 0) → List (List ℕ × Json) →
    List Dated → Type 0
ArePayloadsOfEach Each [] ps = ps ≡ []
ArePayloadsOfEach Each (m ∷ ms) ps = (first : List Dated) × (later : List Dated)
    × (ps ≡ first ++ later) × Each m.0 m.1 first × ArePayloadsOfEach Each ms later

-- of a member for a family of addresses the ASPAs
abbrev pub AreFamilyPayloads : List ℕ → Json → List Dated → Type 0
AreFamilyPayloads name j ps =
    MatchBool (is_family name) (ArePayloadsIn Aspas j ps) (AreNoPayloads j ps)

abbrev pub AreAuthorizations : Json → List Dated → Type 0
AreAuthorizations (object ms) ps = ArePayloadsOfEach AreFamilyPayloads (members_list ms) ps
AreAuthorizations other ps = ⊥

abbrev pub ArePayloadsBy : Option Holding → Json → List Dated → Type 0
ArePayloadsBy (Some (holdings.Payloads kind)) j ps = ArePayloadsIn kind j ps
ArePayloadsBy (Some holdings.Authorizations) j ps = AreAuthorizations j ps
ArePayloadsBy (Some holdings.Metadata) j ps = ps ≡ []
ArePayloadsBy None j ps = AreNoPayloads j ps

-- of a member of the object at the top, unless its name is one to ignore
abbrev pub AreTopPayloads : List (List ℕ) → List ℕ → Json → List Dated → Type 0
AreTopPayloads ignored name j ps =
    MatchBool (is_one_of ignored name) (ps ≡ []) (ArePayloadsBy (holding_named name) j ps)

-- whether payloads stand under a name by what it holds
abbrev pub holds_payloads : Option Holding → Bool
holds_payloads (Some (holdings.Payloads kind)) = true
holds_payloads (Some holdings.Authorizations) = true
holds_payloads (Some holdings.Metadata) = false
holds_payloads None = false

abbrev pub is_array : List (List ℕ) → List ℕ → Bool
is_array ignored name = not (is_one_of ignored name) && holds_payloads (holding_named name)

abbrev pub dated : Item → Dated
dated i = (i.payload, i.expiry)

-- payloads stand under some name of these members, and the items have the payloads of all of them,
-- in order, each with when it expires
pub record HasTopItems (ignored : List (List ℕ)) (ms : List (List ℕ × Json)) (items : List Item) :
    Type 0 where
  pub some : list_any (λ m. is_array ignored m.0) ms ≡ true
  pub payloads : ArePayloadsOfEach (AreTopPayloads ignored) ms (map dated items)

-- a value is an object with these items
abbrev pub HasItemsOf : List (List ℕ) → Json → List Item → Type 0
HasItemsOf ignored (object ms) items = HasTopItems ignored (members_list ms) items
HasItemsOf ignored other items = ⊥

-- the document (RFC 8259), without a mark of its byte order, is UTF-8 (section 8.1) and an object
-- with these items
pub record IsJsonOf (ignored : List (List ℕ)) (text : List ℕ) (items : List Item) : Type 0 where
  pub utf8 : IsUtf8 (strip_bom text)
  pub value : Json
  pub whole : document (strip_bom text) ≡ Some value
  pub has : HasItemsOf ignored value items
