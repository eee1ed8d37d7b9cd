-- What is read of a document by the tokens of its reader. A value is known once its last token was
-- read, so what refuses it is said of whatever value the tokens begin with. Only contracts of
-- private functions cite these.
use Rattle.std.specs.Prelude.{◌≡◌, ◌⊎◌, ⊤, ℕ, Bool, true, false, List, length, Option, Some, None}
use Rattle.std.specs.Prelude.{option_and_then}
use Rattle.json.specs.Json.{Items, Json, Members, if_last, items, max_depth, members, object, value}
use Rattle.json.specs.Token.{Token, begin_array, begin_object, null}
use Rattle.make_work.specs.JsonRefusals.{IsNoDocument, OrMemory}
use Rattle.make_work.specs.JsonValues.{items_list, members_list}
use Rattle.make_work.specs.declared.item.Reason.{Reason}
use Rattle.make_work.specs.declared.item.Reason.TheVariants.{Memory}

-- ---- a value that nests this deep

-- the tokens `old` are a value of which this holds, and then `new`
abbrev pub IsValue : ℕ → List Token → List Token → (Json → Type 0) → Type 0
IsValue depth old new Holds = (j : Json) × (value depth old ≡ Some (j, new)) × Holds j

-- this holds of the value that the tokens begin with, if they do
abbrev pub IfValue : ℕ → List Token → (Json → Type 0) → Type 0
IfValue depth old Holds =
    (j : Json) (rest : List Token) → value depth old ≡ Some (j, rest) → Holds j

-- ---- what follows the bracket that opens an array in the object at the top

abbrev pub AreItems : List Token → List Token → (List Json → Type 0) → Type 0
AreItems old new Hold =
    (js : Items) × (items (value 126) (length old) old ≡ Some (js, new)) × Hold (items_list js)

abbrev pub IfItems : List Token → (List Json → Type 0) → Type 0
IfItems old Hold = (js : Items) (rest : List Token) →
    items (value 126) (length old) old ≡ Some (js, rest) → Hold (items_list js)

-- ---- what follows the brace that opens the object at the top

abbrev pub AreMembers : List Token → List Token → (List (List ℕ × Json) → Type 0) → Type 0
AreMembers old new Hold = (ms : Members) × (members (value 127) (length old) old ≡ Some (ms, new))
    × Hold (members_list ms)

abbrev pub IfMembers : List Token → (List (List ℕ × Json) → Type 0) → Type 0
IfMembers old Hold = (ms : Members) (rest : List Token) →
    members (value 127) (length old) old ≡ Some (ms, rest) → Hold (members_list ms)

-- ---- a document

-- the value that all of the tokens are
abbrev pub sole_value : List Token → Option Json
sole_value ts = option_and_then (λ p. if_last p.0 p.1) (value max_depth ts)

abbrev pub IsSoleValue : List Token → (Json → Type 0) → Type 0
IsSoleValue ts Holds = (j : Json) × (sole_value ts ≡ Some j) × Holds j

abbrev pub IfSoleValue : List Token → (Json → Type 0) → Type 0
IfSoleValue ts Holds = (j : Json) → sole_value ts ≡ Some j → Holds j

abbrev pub is_begin_object : Token → Bool
is_begin_object begin_object = true
is_begin_object other = false

abbrev pub is_begin_array : Token → Bool
is_begin_array begin_array = true
is_begin_array other = false

abbrev pub is_null : Token → Bool
is_null null = true
is_null other = false

abbrev pub IsNoObject : Json → Type 0
IsNoObject (object ms) = ⊥
IsNoObject other = ⊤

-- what was found in a document is told if it is one, and else that it is none; or memory ran out
abbrev pub TellsFound : Option Json → Reason → Reason → Type 0
TellsFound None found why = OrMemory IsNoDocument why
TellsFound (Some j) found why = (why ≡ Memory) ⊎ (why ≡ found)
