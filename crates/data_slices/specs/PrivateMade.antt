-- What changes in the order of names make of data, written. Only contracts of private functions
-- cite these.
use Rattle.data_slices.specs.AtOffsets.{HaveUnits}
use Rattle.std.specs.Prelude.{◌≡◌, ◌⊎◌, ℕ, ⊤, Bool, true, false, List, [], ◌∷◌, ◌++◌, map}
use Rattle.std.specs.Prelude.{Option, Some, None}
use denote.Ref.{Bor}
use Rattle.std.specs.BTreeMap.{is_at}
use Rattle.std.specs.BTreeSet.{replace_key}
use Rattle.std.specs.List.{AllByRecursion}
use Rattle.std.specs.Ordering.{is_lt}
use Rattle.std.specs.Set.{remove_key}
use Rattle.std.specs.declared.cmp.Ordering.TheVariants.{Less}
use Rattle.rtr_base.specs.declared.action.Action.{Action}
use Rattle.rtr_base.specs.declared.action.Action.TheVariants.{Announce, Withdraw}
use Rattle.rtr_units.specs.End.{EndMeaning, end_list}
use Rattle.rtr_payload.specs.Payloads.{Meaning, Payload}
use Rattle.rtr_payload.specs.Units.{form_of}
use Rattle.data_memory.specs.Data.{Change, announcement, name_cmp}
use Rattle.data_memory.specs.Deltas.{change_forms}
use Rattle.data_memory.specs.Sequences.{change_of}
use Rattle.data_slices.specs.Canonical.{PlacesFront}
use Rattle.data_slices.specs.Items.{meant}
use Rattle.data_slices.specs.PrivateChanges.{HoldsUnits, IsNext, IsUnder, NoUnit}
use Rattle.data_slices.specs.PrivateInOrder.{InRow}
use Rattle.data_slices.specs.PrivateOffsets.{same_name}
use Rattle.data_slices.specs.declared.item.PayloadView.{PayloadView}

-- what a change makes of data, if it is allowed
abbrev pub put_at : Action → Payload → List Payload → List Payload
put_at Announce p d = replace_key name_cmp d p
put_at Withdraw p d = remove_key (is_at (name_cmp p)) d

abbrev pub put : Change → List Payload → List Payload
put c d = put_at c.action c.payload d

abbrev pub put_all : List Change → List Payload → List Payload
put_all [] d = d
put_all (c ∷ cs) d = put_all cs (put c d)

-- the units that announce these payloads
abbrev pub forms_of : ℕ → List Payload → List ℕ
forms_of v d = change_forms v (map announcement d)

-- ---- data up to a name

abbrev pub IsBelowBound : Payload → Option PayloadView → Type 0
IsBelowBound p None = ⊤
IsBelowBound p (Some b) = name_cmp p (meant b).payload ≡ Less

abbrev pub AllBelow : Option PayloadView → List Payload → Type 0
AllBelow bound xs = AllByRecursion (λ x. IsBelowBound x bound) xs

abbrev pub StartsOver : Option PayloadView → List Payload → Type 0
StartsOver bound [] = ⊤
StartsOver bound (y ∷ ys) = IsBelowBound y bound → ⊥

-- the first unit isn't below the bound, or there is none
abbrev pub NoneBelow : Option PayloadView → (base : List ℕ) → Type 0
NoneBelow bound base =
    NoUnit base ⊎ ((first : PayloadView) × (left : List ℕ) × IsNext first left base
    × (IsUnder first bound → ⊥))

-- of the data those below the bound were written
pub record Copies (n : Option ℕ) (bound : Option PayloadView) (v : ℕ) (d : List Payload)
    (before after : List ℕ) : Type 0 where
  pub xs : List Payload
  pub ys : List Payload
  pub all : d ≡ xs ++ ys
  pub below : AllBelow bound xs
  pub placed : PlacesFront n (forms_of v xs) before after

abbrev pub PlacesBelow : Option (ℕ × Bor (List ℕ)) → Option PayloadView →
    (base before after : List ℕ) → Type 0
PlacesBelow (Some (n, left)) bound base before after =
    (v : ℕ) (d : List Payload) → HoldsUnits Announce v base d →
    (k : Copies (Some n) bound v d before after) × StartsOver bound k.ys
    × HoldsUnits Announce v left.now k.ys
PlacesBelow None bound base before after =
    (v : ℕ) (d : List Payload) → HoldsUnits Announce v base d → Copies None bound v d before after

-- what follows the first unit, if it is of the name, or else all
abbrev pub IsAfterName : PayloadView → (left base : List ℕ) → Type 0
IsAfterName view left base =
    (NoUnit base × (left ≡ base)) ⊎ ((first : PayloadView) × (rest : List ℕ)
    × IsNext first rest base
    × (((same_name (change_of (meant view)) (change_of (meant first)) ≡ true) × (left ≡ rest))
    ⊎ ((same_name (change_of (meant view)) (change_of (meant first)) ≡ false) × (left ≡ base))))

-- the form of a unit, if it announces
abbrev pub announced_form : Action → Meaning → List ℕ
announced_form Announce m = form_of m
announced_form Withdraw m = []

-- ---- one name

-- none of them is above the name
abbrev pub UpToName : Payload → List Payload → Type 0
UpToName p zs = AllByRecursion (λ z. is_lt (name_cmp p z) ≡ false) zs

-- of what a change makes of data, those up to its name were written
pub record PutsName (n : Option ℕ) (c : Change) (v : ℕ) (d : List Payload) (before after : List ℕ) :
    Type 0 where
  pub zs : List Payload
  pub ys : List Payload
  pub all : put c d ≡ zs ++ ys
  pub up_to : UpToName c.payload zs
  pub placed : PlacesFront n (forms_of v zs) before after

abbrev pub PlacesName : Option (ℕ × Bor (List ℕ)) → PayloadView → (base before after : List ℕ) →
    Type 0
PlacesName (Some (n, left)) view base before after =
    (v : ℕ) (d : List Payload) → HoldsUnits Announce v base d → (meant view).version ≡ v →
    (k : PutsName (Some n) (change_of (meant view)) v d before after)
    × HoldsUnits Announce v left.now k.ys
PlacesName None view base before after =
    (v : ℕ) (d : List Payload) → HoldsUnits Announce v base d → (meant view).version ≡ v →
    PutsName None (change_of (meant view)) v d before after

-- the same, or all of the data
abbrev pub PlacesUpTo : Option (ℕ × Bor (List ℕ)) → Option PayloadView →
    (base before after : List ℕ) → Type 0
PlacesUpTo r None base before after = PlacesBelow r None base before after
PlacesUpTo r (Some view) base before after = PlacesName r view base before after

-- ---- all names

abbrev pub starts_same : Change → List Change → Bool
starts_same c [] = false
starts_same c (d ∷ ds) = same_name c d

-- whether the first of the units at these places is of the name of this one
abbrev pub IsFollowed : Bool → PayloadView → (input os : List ℕ) → Type 0
IsFollowed r view input os = (v : ℕ) (cs : List Change) → HaveUnits input v os cs →
    r ≡ starts_same (change_of (meant view)) cs

abbrev pub PlacesMade : Option ℕ → (base input os before after : List ℕ) → Type 0
PlacesMade r base input os before after =
    (v : ℕ) (d : List Payload) (cs : List Change) → HoldsUnits Announce v base d →
    HaveUnits input v os cs → InRow cs → PlacesFront r (forms_of v (put_all cs d)) before after

-- the same, and then an end of data
abbrev pub PlacesMadeAll : Option ℕ → (base input os : List ℕ) → EndMeaning →
    (before after : List ℕ) → Type 0
PlacesMadeAll r base input os e before after =
    (d : List Payload) (cs : List Change) → HoldsUnits Announce e.version base d →
    HaveUnits input e.version os cs → InRow cs →
    PlacesFront r (forms_of e.version (put_all cs d) ++ end_list e) before after
