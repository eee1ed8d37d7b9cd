-- Changes in the order in which they came, beside data. Only contracts of private functions cite
-- these.
use Rattle.data_slices.specs.AtOffsets.{HaveUnits}
use Rattle.std.specs.Prelude.{◌≡◌, ◌⊎◌, ℕ, ⊤, Bool, false, not, ◌&&◌, List, [], ◌∷◌}
use Rattle.std.specs.Prelude.{Option, Some, None, if◌then◌else◌, nat_lt, true, Result, Ok, Err}
use Rattle.std.specs.Prelude.{◌≤◌, length}
use Rattle.std.specs.List.{AllByRecursion}
use Rattle.std.specs.Ordering.{is_lt}
use Rattle.rtr_base.specs.declared.action.Action.{Action}
use Rattle.rtr_base.specs.declared.action.Action.TheVariants.{Announce, Withdraw}
use Rattle.rtr_units.specs.AnyEnd.{end_meaning}
use Rattle.rtr_units.specs.End.{EndMeaning}
use Rattle.rtr_units.specs.declared.end.EndOfData.{EndOfData}
use Rattle.rtr_payload.specs.Payloads.{Payload}
use Rattle.data_memory.specs.Changes.{after_all}
use Rattle.data_memory.specs.Data.{Change, IsData, has_name, name_cmp, takes_place}
use Rattle.data_memory.specs.Sequences.{change_of}
use Rattle.data_memory.specs.declared.change_error.ChangeError.TheVariants as refusals
use Rattle.data_slices.specs.Apply.{RefusedAt, data_form}
use Rattle.data_slices.specs.Canonical.{HoldsData, PlacesFront}
use Rattle.data_slices.specs.InOrder.{AreAllowed, RefusesInOrder}
use Rattle.data_slices.specs.Items.{meant}
use Rattle.data_slices.specs.PrivateChanges.{HoldsUnits, Seeks}
use Rattle.data_slices.specs.PrivateOffsets.{OffsetsRead, SendsAt, is_action, same_name}
use Rattle.data_slices.specs.declared.in_order_fault.InOrderFault.{InOrderFault}
use Rattle.data_slices.specs.declared.in_order_fault.InOrderFault.TheVariants as faults
use Rattle.data_slices.specs.declared.item.PayloadView.{PayloadView}

-- whether a change is allowed, where its name is there or not
abbrev pub fits : (there : Bool) → Action → Payload → Bool
fits there Announce p = not (there && not (takes_place p))
fits there Withdraw p = there

-- where a change lies and what it does, if it isn't allowed
abbrev pub disallowed : (there : Bool) → ℕ → Action → Payload → Option (ℕ × Action)
disallowed there o a p = if fits there a p then None else Some (o, a)

abbrev pub earlier_of : Option (ℕ × Action) → Option (ℕ × Action) → Option (ℕ × Action)
earlier_of None r = r
earlier_of (Some x) None = Some x
earlier_of (Some x) (Some y) = if nat_lt y.0 x.0 then Some y else Some x

-- changes and their offsets
abbrev pub pairs : List ℕ → List Change → List (ℕ × Change)
pairs [] cs = []
pairs (o ∷ os) [] = []
pairs (o ∷ os) (c ∷ cs) = (o, c) ∷ pairs os cs

-- whether the name of the change is there when it comes, in the order of names: the one before it
-- of its name decides, or the data
abbrev pub there_before : List Payload → Option Change → Change → Bool
there_before d None c = has_name d c.payload
there_before d (Some b) c = if same_name b c then is_action Announce b.action
    else has_name d c.payload

-- of changes in the order of names, the one with the least offset that isn't allowed
abbrev pub earliest : List Payload → Option Change → Option (ℕ × Action) → List (ℕ × Change) →
    Option (ℕ × Action)
earliest d last r [] = r
earliest d last r (x ∷ xs) =
    earliest d (Some x.1) (earlier_of r (disallowed (there_before d last x.1) x.0 x.1.action
    x.1.payload)) xs

-- no name is below one before it
abbrev pub InRow : List Change → Type 0
InRow [] = ⊤
InRow (c ∷ cs) =
    AllByRecursion (λ d. is_lt (name_cmp d.payload c.payload) ≡ false) cs × InRow cs

abbrev pub FindsEarliest : Option (ℕ × Action) → (base input os : List ℕ) → Type 0
FindsEarliest r base input os =
    (v w : ℕ) (d : List Payload) (cs : List Change) → HoldsUnits Announce w base d →
    HaveUnits input v os cs → InRow cs → r ≡ earliest d None None (pairs os cs)

-- whether the name of a unit is there, after the last one, and what is left of the data
abbrev pub KnowsThere : Option PayloadView → PayloadView → Bool → (left rest : List ℕ) → Type 0
KnowsThere None view there left rest = Seeks there view left rest
KnowsThere (Some last) view there left rest =
    ((same_name (change_of (meant last)) (change_of (meant view)) ≡ true)
    × (there ≡ is_action Announce (meant last).action) × (left ≡ rest))
    ⊎ ((same_name (change_of (meant last)) (change_of (meant view)) ≡ false)
    × Seeks there view left rest)

-- the first change that data don't allow is this one, which does this, or all are allowed
abbrev pub FirstRefused : Option (ℕ × Action) → (changes : List ℕ) → List Payload → List Change →
    ℕ → Type 0
FirstRefused None changes d cs v = AreAllowed cs d
FirstRefused (Some (o, Announce)) changes d cs v = RefusedAt o refusals.Duplicate changes d cs v
FirstRefused (Some (o, Withdraw)) changes d cs v = RefusedAt o refusals.Unknown changes d cs v

-- the first change that data don't allow was found, where the offsets are those of all units
abbrev pub FindsRefusal : Option (ℕ × Action) → (base input os : List ℕ) → Type 0
FindsRefusal r base input os =
    (w : ℕ) (d : List Payload) (cs : List Change) (e : EndMeaning) → HoldsUnits Announce w base d →
    SendsAt input os cs e → IsData d → FirstRefused r input d cs e.version

-- both inputs were read, of one version and of one session, and the offsets of all units of the
-- second; or they are refused, for an index of this many elements
abbrev pub ReadsBoth : Result (EndOfData × ℕ) InOrderFault → (base changes : List ℕ) →
    (places : ℕ) → (index : List ℕ) → Type 0
ReadsBoth (Ok (end, count)) base changes places index =
    (d : List Payload) × (e : EndMeaning) × HoldsData base d e
    × OffsetsRead end count changes index × (e.version ≡ (end_meaning end).version)
    × (e.session ≡ (end_meaning end).session) × (count ≤ length index)
ReadsBoth (Err f) base changes places index = RefusesInOrder f base changes places

abbrev pub refused_with : ℕ → Action → InOrderFault
refused_with o Announce = faults.Duplicate o
refused_with o Withdraw = faults.Unknown o

-- what changes make of data was written, or a front of it
abbrev pub MadeOf : Option ℕ → List Payload → List Change → EndMeaning → (before after : List ℕ) →
    Type 0
MadeOf n d cs e before after =
    (d' : List Payload) × (after_all cs (Ok d) ≡ Ok d')
    × PlacesFront n (data_form d' e) before after

-- what comes of changes that are made onto data in the order in which they came
abbrev pub Outcome : Result ℕ InOrderFault → (input : List ℕ) → List Payload → List Change →
    EndMeaning → (before after : List ℕ) → Type 0
Outcome (Ok n) input d cs e before after = MadeOf (Some n) d cs e before after
Outcome (Err faults.NoRoom) input d cs e before after = MadeOf None d cs e before after
Outcome (Err (faults.Duplicate o)) input d cs e before after =
    RefusedAt o refusals.Duplicate input d cs e.version × (after ≡ before)
Outcome (Err (faults.Unknown o)) input d cs e before after =
    RefusedAt o refusals.Unknown input d cs e.version × (after ≡ before)
Outcome (Err (faults.Data f)) input d cs e before after = ⊥
Outcome (Err (faults.Changes f)) input d cs e before after = ⊥
Outcome (Err (faults.UnitVersion v)) input d cs e before after = ⊥
Outcome (Err (faults.Session s)) input d cs e before after = ⊥
Outcome (Err faults.NoIndex) input d cs e before after = ⊥

abbrev pub MakesInOrder : Result ℕ InOrderFault → (base input os : List ℕ) → EndMeaning →
    (before after : List ℕ) → Type 0
MakesInOrder r base input os e before after =
    (d : List Payload) (cs : List Change) → HoldsUnits Announce e.version base d →
    SendsAt input os cs e → IsData d → Outcome r input d cs e before after
