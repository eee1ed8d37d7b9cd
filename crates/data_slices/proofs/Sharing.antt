-- Units with which two slices of data both begin.
use Rattle.std.proofs.Common.{◌≡◌, ℕ, true, not, cond, List, [], ◌∷◌, ◌++◌, length, map}
use Rattle.std.proofs.Common.{refl, sym, ap, subst, ◌∙◌}
use Rattle.std.specs.Cmp.{tied_itself}
use Rattle.std.specs.List.Sorted.{IsStrictlySortedBy}
use Rattle.std.specs.Ordering.{is_eq}
use Rattle.rtr_base.specs.Addresses.{Family, v4, v6}
use Rattle.rtr_base.specs.declared.action.Action.{Action}
use Rattle.rtr_base.specs.declared.action.Action.TheVariants.{Announce, Withdraw}
use Rattle.rtr_units.specs.End.{EndMeaning}
use Rattle.rtr_units.specs.Header.{type_field}
use Rattle.rtr_units.specs.PrefixUnits.{PrefixFields, prefix_list, prefix_size, prefix_type}
use Rattle.rtr_payload.specs.OrderLaws.{payload_total}
use Rattle.rtr_payload.specs.Payloads.{Meaning, Payload}
use Rattle.rtr_payload.specs.UnitFields.{Fields, aspa_unit, key_unit, prefix_unit, unit_list}
use Rattle.rtr_payload.specs.Units.{IsUnit}
use Rattle.rtr_payload.proofs.Apart.{end_type}
use Rattle.rtr_payload.proofs.ByFields.{unit_fields_of}
use Rattle.rtr_payload.proofs.Fields.{append_same}
use Rattle.rtr_wire.proofs.OneAnswer.{begins_end}
use Rattle.rtr_wire.proofs.Runs.{after}
use Rattle.data_memory.specs.Data.{IsData}
use Rattle.data_memory.specs.Deltas.{change_forms}
use Rattle.data_memory.proofs.Names.{name_total}
use Rattle.data_slices.specs.Canonical.{HoldsData, change, missing}
use Rattle.data_slices.specs.PrivateOrder.{SharesUnit, is_same_for}
use Rattle.data_slices.proofs.Differences.{at_equal}
use Rattle.data_slices.proofs.Merging.{Merging}
use Rattle.data_slices.proofs.Sequences.{First, first_meant}

-- ---- a unit with the type of a prefix

not_end : (f : Family) → prefix_type f ≡ 7 → ⊥
not_end v4 e = absurd cc
not_end v6 e = absurd cc

prefix_length : (x : PrefixFields) (g f : Family) → x.origin.family ≡ g →
    prefix_type g ≡ prefix_type f → length (prefix_list x) ≡ prefix_size f
prefix_length x v4 v4 e k =
    ap (λ g. length (prefix_list (record x { origin = record x.origin { family = g } }))) e
prefix_length x v4 v6 e k = absurd cc
prefix_length x v6 v4 e k = absurd cc
prefix_length x v6 v6 e k =
    ap (λ g. length (prefix_list (record x { origin = record x.origin { family = g } }))) e

list_length : (x : Fields) (r : List ℕ) (f : Family) →
    type_field (unit_list x ++ r) ≡ prefix_type f → length (unit_list x) ≡ prefix_size f
list_length (prefix_unit x) r f k = prefix_length x x.origin.family f refl k
list_length (key_unit x) r v4 k = absurd cc
list_length (key_unit x) r v6 k = absurd cc
list_length (aspa_unit x) r v4 k = absurd cc
list_length (aspa_unit x) r v6 k = absurd cc

unit_length : (b r : List ℕ) (m : Meaning) (f : Family) → IsUnit b m →
    type_field (b ++ r) ≡ prefix_type f → length b ≡ prefix_size f
unit_length b r m f u k =
    let h = unit_fields_of b m u in
    ap length h.bytes
    ∙ list_length h.fields r f (ap (λ l. type_field (l ++ r)) (sym h.bytes) ∙ k)

-- what has the type and the length of a prefix unit is one
unit_there : (f : Family) (b r left : List ℕ) (ps : List Payload) (e : EndMeaning) →
    HoldsData r ps e → type_field r ≡ prefix_type f → length b ≡ prefix_size f → r ≡ b ++ left →
    (m : Meaning) × IsUnit b m
unit_there f b r left [] e h kind size parts =
    let a = h.accepts in
    let q = a.sequence in
    let is : r ≡ q.last ++ a.rest =
    a.parts ∙ after h.bytes q.front q.last a.rest q.parts
    ∙ ap (λ f. f ++ (q.last ++ a.rest)) q.units in
    absurd (not_end f (sym kind ∙ ap type_field is
    ∙ end_type (q.last ++ a.rest) (begins_end q.last a.rest e q.end)))
unit_there f b r left (p ∷ ps) e h kind size parts =
    let a = h.accepts in
    let q = a.sequence in
    let (x, more, at, u, rest) = q.units in
    let is : r ≡ x ++ (more ++ (q.last ++ a.rest)) =
    a.parts ∙ after h.bytes q.front q.last a.rest q.parts
    ∙ after q.front x more (q.last ++ a.rest) at in
    let long : length x ≡ prefix_size f =
    unit_length x (more ++ (q.last ++ a.rest)) _ f u (ap type_field (sym is) ∙ kind) in
    let same = append_same x b (more ++ (q.last ++ a.rest)) left (long ∙ sym size)
    (sym is ∙ parts) in
    (_, subst (λ y. IsUnit y _) same.0 u)

-- ---- what both have isn't lacking

same_itself : (a : Action) (p : Payload) → is_same_for a p p ≡ true
same_itself Announce p = ap is_eq (tied_itself payload_total p)
same_itself Withdraw p = ap is_eq (tied_itself name_total p)

both_have : (a : Action) (p : Payload) (ps qs : List Payload) → IsData (p ∷ ps) →
    IsData (p ∷ qs) → missing a (p ∷ ps) (p ∷ qs) ≡ missing a ps qs
both_have a p ps qs h j =
    at_equal a p p ps qs h j (tied_itself name_total p)
    ∙ ap (λ b. cond (not b) (p ∷ missing a ps qs) (missing a ps qs)) (same_itself a p)

in_order : (m : Meaning) (left : List ℕ) (ps : List Payload) (e : EndMeaning)
    (f : First m left ps e) → IsData (m.payload ∷ f.others)
unfolding IsStrictlySortedBy
in_order m left ps e f = (f.above, f.held.in_order)

pub shares : (v : ℕ) (a : Action) (these those these_rest those_rest before now : List ℕ)
    (written : ℕ) → Merging v a these those these_rest those_rest before now written →
    (left left' : List ℕ) → SharesUnit left left' these_rest those_rest →
    Merging v a these those left left' before now written
shares v a these those these_rest those_rest before now written m left left'
    (family, kind, (b, size, parts, parts')) =
    let (means, unit) = unit_there family b these_rest left m.xs m.d m.these_left kind size parts in
    let f = first_meant means b these_rest left m.xs m.d unit parts m.these_left in
    let g = first_meant means b those_rest left' m.ys m.e unit parts' m.those_left in
    record {
      ps = m.ps;
      qs = m.qs;
      d = m.d;
      e = m.e;
      held = m.held;
      others = m.others;
      xs = f.others;
      ys = g.others;
      these_left = f.held;
      those_left = g.held;
      piece = m.piece;
      so_far = m.so_far;
      fits = m.fits;
      room = m.room;
      whole =
          m.whole
          ∙ ap (λ l. m.piece ++ change_forms v (map (change a) l))
          ((λ i. missing a (f.first i) (g.first i))
          ∙ both_have a means.payload f.others g.others (in_order means left m.xs m.d f)
          (in_order means left' m.ys m.e g));
    }
