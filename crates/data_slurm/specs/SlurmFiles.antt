-- What a SLURM file says (RFC 8416 sections 3.2 to 3.4), and why one is refused. Of several faults
-- the first is told, in the order in which the RFC lists members: what is said of a later member
-- has that the earlier ones are right.
use Rattle.std.specs.Prelude.{◌≡◌, ◌⊎◌, ⊤, ℕ, Bool, true, false, not, ◌||◌, List, [], ◌∷◌, ◌++◌}
use Rattle.std.specs.Prelude.{Option, Some, None, codes, is_some}
use Rattle.std.specs.Str.{IsUtf8}
use Rattle.json.specs.Find.{as_number, as_str, get}
use Rattle.json.specs.Json.{Json, array, object, document}
use Rattle.json.specs.Json.{Items, no_items, item, Members, no_members, member}
use Rattle.json.specs.Strict.{HasUniqueKeys}
use Rattle.rtr_base.specs.Addresses.{BreaksMaxLen, IsMaxLenPrefix, PrefixParts}
use Rattle.rtr_base.specs.declared.addr.MaxLenError.{MaxLenError}
use Rattle.rtr_payload.specs.declared.payload.Payload.{Payload}
use Rattle.rtr_payload.specs.declared.payload.Payload.TheVariants as payloads
use Rattle.data_slurm.specs.SlurmNames.{array_name, first_kind, group_name, may_have, second_kind}
use Rattle.data_slurm.specs.SlurmValues.{IsSlurmAsn, IsSlurmKey, IsSlurmLength, IsSlurmPrefix}
use Rattle.data_slurm.specs.SlurmValues.{IsSlurmSki, MemberIs, MemberWrong, NeededWrong}
use Rattle.data_slurm.specs.SlurmValues.{SlurmAsnWrong, SlurmKeyWrong, SlurmLengthWrong}
use Rattle.data_slurm.specs.SlurmValues.{SlurmPrefixWrong, SlurmSkiWrong}
use Rattle.data_slurm.specs.declared.entry.Entry.{Entry}
use Rattle.data_slurm.specs.declared.entry.Entry.TheVariants as entries
use Rattle.data_slurm.specs.declared.entry.KeyFilter.{KeyFilter}
use Rattle.data_slurm.specs.declared.entry.KeyFilter.TheVariants as keys
use Rattle.data_slurm.specs.declared.entry.PrefixFilter.{PrefixFilter}
use Rattle.data_slurm.specs.declared.entry.PrefixFilter.TheVariants as prefixes
use Rattle.data_slurm.specs.declared.names.Form.{Form}
use Rattle.data_slurm.specs.declared.names.Form.TheVariants as forms
use Rattle.data_slurm.specs.declared.names.Group.{Group}
use Rattle.data_slurm.specs.declared.names.Group.TheVariants.{Filters, Assertions}
use Rattle.data_slurm.specs.declared.names.Kind.{Kind}
use Rattle.data_slurm.specs.declared.names.Kind.TheVariants as kinds
use Rattle.data_slurm.specs.declared.reason.SlurmReason.{SlurmReason}
use Rattle.data_slurm.specs.declared.reason.SlurmReason.TheVariants as reasons

-- ---- objects and their members

abbrev pub some_unknown : Form → Members → Bool
some_unknown form no_members = false
some_unknown form (member k j ms) = not (may_have form k) || some_unknown form ms

-- an object that has no other members than such an object may have
abbrev pub IsForm : Form → Json → Type 0
IsForm form (object ms) = some_unknown form ms ≡ false
IsForm form other = ⊥

abbrev pub FormWrong : Form → Json → SlurmReason → Type 0
FormWrong form (object ms) why = (why ≡ reasons.UnknownMember) × (some_unknown form ms ≡ true)
FormWrong form other why = why ≡ reasons.NotObject

-- "comment" is a text, if it is there
abbrev pub is_comment : Option Json → Bool
is_comment None = true
is_comment (Some j) = is_some (as_str j)

-- ---- items of "prefixFilters" (section 3.3.1)

abbrev pub prefix_filter : Option PrefixParts → Option ℕ → Option PrefixFilter
prefix_filter (Some p) (Some a) = Some (prefixes.Both p a)
prefix_filter (Some p) None = Some (prefixes.Prefix p)
prefix_filter None (Some a) = Some (prefixes.Asn a)
prefix_filter None None = None

-- a prefix, an ASN, or both
abbrev pub IsPrefixFilterItem : Json → PrefixFilter → Type 0
IsPrefixFilterItem j f = (p : Option PrefixParts) × (a : Option ℕ)
    × MemberIs IsSlurmPrefix (get (codes "prefix") j) p
    × MemberIs IsSlurmAsn (get (codes "asn") j) a × (prefix_filter p a ≡ Some f)

abbrev pub PrefixFilterWrong : Json → SlurmReason → Type 0
PrefixFilterWrong j why = MemberWrong SlurmPrefixWrong (get (codes "prefix") j) why
    ⊎ (((p : Option PrefixParts) × MemberIs IsSlurmPrefix (get (codes "prefix") j) p
    × MemberWrong SlurmAsnWrong (get (codes "asn") j) why)
    ⊎ ((why ≡ reasons.NoCriterion) × (get (codes "prefix") j ≡ None)
    × (get (codes "asn") j ≡ None)))

-- ---- items of "bgpsecFilters" (section 3.3.2)

abbrev pub key_filter : Option ℕ → Option (List ℕ) → Option KeyFilter
key_filter (Some a) (Some s) = Some (keys.Both a s)
key_filter (Some a) None = Some (keys.Asn a)
key_filter None (Some s) = Some (keys.KeyIdentifier s)
key_filter None None = None

-- an ASN, an SKI, or both
abbrev pub IsKeyFilterItem : Json → KeyFilter → Type 0
IsKeyFilterItem j f = (a : Option ℕ) × (s : Option (List ℕ))
    × MemberIs IsSlurmAsn (get (codes "asn") j) a
    × MemberIs IsSlurmSki (get (codes "SKI") j) s × (key_filter a s ≡ Some f)

abbrev pub KeyFilterWrong : Json → SlurmReason → Type 0
KeyFilterWrong j why = MemberWrong SlurmAsnWrong (get (codes "asn") j) why
    ⊎ (((a : Option ℕ) × MemberIs IsSlurmAsn (get (codes "asn") j) a
    × MemberWrong SlurmSkiWrong (get (codes "SKI") j) why)
    ⊎ ((why ≡ reasons.NoCriterion) × (get (codes "asn") j ≡ None)
    × (get (codes "SKI") j ≡ None)))

-- ---- items of "prefixAssertions" (section 3.4.1)

-- a prefix and an ASN, and a max length, if one is given, that goes with the prefix
abbrev pub IsPrefixAssertionItem : Json → Payload → Type 0
IsPrefixAssertionItem j x = (p : PrefixParts) × (m : Option ℕ) × (a : ℕ)
    × MemberIs IsSlurmPrefix (get (codes "prefix") j) (Some p)
    × MemberIs IsSlurmLength (get (codes "maxPrefixLength") j) m
    × MemberIs IsSlurmAsn (get (codes "asn") j) (Some a)
    × IsMaxLenPrefix (record { prefix = p; max_len = m })
    × (x ≡ payloads.Origin (record { prefix = record { prefix = p; max_len = m }; asn = a }))

-- the max length doesn't go with the prefix
abbrev pub LengthsWrong : Json → SlurmReason → Type 0
LengthsWrong j why = (p : PrefixParts) × (n : ℕ) × (a : ℕ) × (e : MaxLenError)
    × MemberIs IsSlurmAsn (get (codes "asn") j) (Some a)
    × MemberIs IsSlurmPrefix (get (codes "prefix") j) (Some p)
    × MemberIs IsSlurmLength (get (codes "maxPrefixLength") j) (Some n)
    × (why ≡ reasons.MaxLengthRule e) × BreaksMaxLen p n e

abbrev pub PrefixAssertionWrong : Json → SlurmReason → Type 0
PrefixAssertionWrong j why =
    NeededWrong reasons.PrefixMissing SlurmPrefixWrong (get (codes "prefix") j) why
    ⊎ (((p : PrefixParts) × MemberIs IsSlurmPrefix (get (codes "prefix") j) (Some p)
    × MemberWrong SlurmLengthWrong (get (codes "maxPrefixLength") j) why)
    ⊎ (((p : PrefixParts) × (m : Option ℕ)
    × MemberIs IsSlurmPrefix (get (codes "prefix") j) (Some p)
    × MemberIs IsSlurmLength (get (codes "maxPrefixLength") j) m
    × NeededWrong reasons.AsnMissing SlurmAsnWrong (get (codes "asn") j) why)
    ⊎ LengthsWrong j why))

-- ---- items of "bgpsecAssertions" (section 3.4.2)

-- an ASN, an SKI and a key
abbrev pub IsKeyAssertionItem : Json → Payload → Type 0
IsKeyAssertionItem j x = (a : ℕ) × (s k : List ℕ)
    × MemberIs IsSlurmAsn (get (codes "asn") j) (Some a)
    × MemberIs IsSlurmSki (get (codes "SKI") j) (Some s)
    × MemberIs IsSlurmKey (get (codes "routerPublicKey") j) (Some k)
    × (x ≡ payloads.RouterKey (record { key_identifier = s; asn = a; key_info = k }))

abbrev pub KeyAssertionWrong : Json → SlurmReason → Type 0
KeyAssertionWrong j why = NeededWrong reasons.AsnMissing SlurmAsnWrong (get (codes "asn") j) why
    ⊎ (((a : ℕ) × MemberIs IsSlurmAsn (get (codes "asn") j) (Some a)
    × NeededWrong reasons.SkiMissing SlurmSkiWrong (get (codes "SKI") j) why)
    ⊎ ((a : ℕ) × (s : List ℕ) × MemberIs IsSlurmAsn (get (codes "asn") j) (Some a)
    × MemberIs IsSlurmSki (get (codes "SKI") j) (Some s)
    × NeededWrong reasons.KeyMissing SlurmKeyWrong (get (codes "routerPublicKey") j) why))

-- ---- items

abbrev pub IsEntryBy : Kind → Json → Entry → Type 0
IsEntryBy kinds.PrefixFilter j e =
    (f : PrefixFilter) × IsPrefixFilterItem j f × (e ≡ entries.PrefixFilter f)
IsEntryBy kinds.KeyFilter j e =
    (f : KeyFilter) × IsKeyFilterItem j f × (e ≡ entries.KeyFilter f)
IsEntryBy kinds.PrefixAssertion j e =
    (x : Payload) × IsPrefixAssertionItem j x × (e ≡ entries.Assertion x)
IsEntryBy kinds.KeyAssertion j e =
    (x : Payload) × IsKeyAssertionItem j x × (e ≡ entries.Assertion x)

abbrev pub EntryWrongBy : Kind → Json → SlurmReason → Type 0
EntryWrongBy kinds.PrefixFilter j why = PrefixFilterWrong j why
EntryWrongBy kinds.KeyFilter j why = KeyFilterWrong j why
EntryWrongBy kinds.PrefixAssertion j why = PrefixAssertionWrong j why
EntryWrongBy kinds.KeyAssertion j why = KeyAssertionWrong j why

-- an object with just the members of its kind, which mean this
abbrev pub IsEntry : Kind → Json → Entry → Type 0
IsEntry kind j e = IsForm (forms.Item kind) j × (is_comment (get (codes "comment") j) ≡ true)
    × IsEntryBy kind j e

abbrev pub EntryWrong : Kind → Json → SlurmReason → Type 0
EntryWrong kind j why = FormWrong (forms.Item kind) j why
    ⊎ ((IsForm (forms.Item kind) j × (why ≡ reasons.Comment)
    × (is_comment (get (codes "comment") j) ≡ false))
    ⊎ (IsForm (forms.Item kind) j × (is_comment (get (codes "comment") j) ≡ true)
    × EntryWrongBy kind j why))

-- ---- arrays

-- each item is an entry
abbrev pub AreEntries : Kind → Items → List Entry → Type 0
AreEntries kind no_items [] = ⊤
AreEntries kind (item j js) (e ∷ es) = IsEntry kind j e × AreEntries kind js es
AreEntries kind js es = ⊥

-- the first item that is no entry is wrong so
abbrev pub FirstWrong : Kind → Items → SlurmReason → Type 0
FirstWrong kind no_items why = ⊥
FirstWrong kind (item j js) why = EntryWrong kind j why
    ⊎ ((e : Entry) × IsEntry kind j e × FirstWrong kind js why)

-- memory ran out, or an item is refused
abbrev pub SomeEntryWrong : Kind → Items → SlurmReason → Type 0
SomeEntryWrong kind js why = (why ≡ reasons.Memory) ⊎ FirstWrong kind js why

abbrev pub IsArrayValue : Kind → Json → List Entry → Type 0
IsArrayValue kind (array js) es = AreEntries kind js es
IsArrayValue kind other es = ⊥

abbrev pub ArrayValueWrong : Kind → Json → SlurmReason → Type 0
ArrayValueWrong kind (array js) why = SomeEntryWrong kind js why
ArrayValueWrong kind other why = why ≡ reasons.NotArray

-- the array has to be there (sections 3.3 and 3.4)
abbrev pub IsArrayOf : Kind → Option Json → List Entry → Type 0
IsArrayOf kind None es = ⊥
IsArrayOf kind (Some j) es = IsArrayValue kind j es

abbrev pub ArrayWrong : Kind → Option Json → SlurmReason → Type 0
ArrayWrong kind None why = why ≡ reasons.Missing
ArrayWrong kind (Some j) why = ArrayValueWrong kind j why

-- ---- the two objects that have arrays

abbrev pub AreArrays : Group → Json → List Entry → Type 0
AreArrays g j es = (xs : List Entry) × (ys : List Entry)
    × IsArrayOf (first_kind g) (get (array_name (first_kind g)) j) xs
    × IsArrayOf (second_kind g) (get (array_name (second_kind g)) j) ys × (es ≡ xs ++ ys)

abbrev pub ArraysWrong : Group → Json → SlurmReason → Type 0
ArraysWrong g j why = ArrayWrong (first_kind g) (get (array_name (first_kind g)) j) why
    ⊎ ((xs : List Entry) × IsArrayOf (first_kind g) (get (array_name (first_kind g)) j) xs
    × ArrayWrong (second_kind g) (get (array_name (second_kind g)) j) why)

abbrev pub IsGroupOf : Group → Option Json → List Entry → Type 0
IsGroupOf g None es = ⊥
IsGroupOf g (Some j) es = IsForm (forms.Group g) j × AreArrays g j es

abbrev pub GroupWrong : Group → Option Json → SlurmReason → Type 0
GroupWrong g None why = why ≡ reasons.Missing
GroupWrong g (Some j) why = FormWrong (forms.Group g) j why
    ⊎ (IsForm (forms.Group g) j × ArraysWrong g j why)

-- ---- the file

-- "slurmVersion" is 1, as a number (section 3.2)
abbrev pub IsVersionOne : Option Json → Type 0
IsVersionOne None = ⊥
IsVersionOne (Some j) = as_number j ≡ Some (codes "1")

-- the entries of its four arrays
abbrev pub IsSlurm : Json → List Entry → Type 0
IsSlurm j es = IsForm forms.File j × IsVersionOne (get (codes "slurmVersion") j)
    × (xs : List Entry) × (ys : List Entry)
    × IsGroupOf Filters (get (group_name Filters) j) xs
    × IsGroupOf Assertions (get (group_name Assertions) j) ys × (es ≡ xs ++ ys)

-- the version, the filters or the assertions
abbrev pub SlurmPartWrong : Json → SlurmReason → Type 0
SlurmPartWrong j why =
    ((why ≡ reasons.Version) × ¬ IsVersionOne (get (codes "slurmVersion") j))
    ⊎ ((IsVersionOne (get (codes "slurmVersion") j)
    × GroupWrong Filters (get (group_name Filters) j) why)
    ⊎ (IsVersionOne (get (codes "slurmVersion") j)
    × (xs : List Entry) × IsGroupOf Filters (get (group_name Filters) j) xs
    × GroupWrong Assertions (get (group_name Assertions) j) why))

abbrev pub SlurmWrong : Json → SlurmReason → Type 0
SlurmWrong j why = FormWrong forms.File j why
    ⊎ (IsForm forms.File j × SlurmPartWrong j why)

-- JSON (RFC 8259) with no name twice in an object, which says these entries
abbrev pub IsSlurmText : List ℕ → List Entry → Type 0
IsSlurmText text es = IsUtf8 text × (j : Json) × (document text ≡ Some j) × HasUniqueKeys j
    × IsSlurm j es

abbrev pub SlurmTextWrong : List ℕ → SlurmReason → Type 0
SlurmTextWrong text why = (why ≡ reasons.Memory) ⊎ (((why ≡ reasons.NotText) × ¬ IsUtf8 text)
    ⊎ (((why ≡ reasons.NotJson) × (document text ≡ None))
    ⊎ ((j : Json) × (document text ≡ Some j)
    × (((why ≡ reasons.Twice) × ¬ HasUniqueKeys j) ⊎ (HasUniqueKeys j × SlurmWrong j why)))))
