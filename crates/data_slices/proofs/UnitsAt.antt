-- Units by the places where they begin.
use Rattle.data_slices.specs.AtOffsets.{HasUnit}
use Rattle.std.proofs.Common.{◌≡◌, ℕ, List, [], ◌++◌, drop, take, length, Option, Some, None}
use Rattle.std.proofs.Common.{◌≤◌, ◌-◌}
use Rattle.std.proofs.Common.{refl, sym, ap, subst, ◌∙◌, arith}
use Rattle.std.proofs.lemmas.Cmp.{then_total}
use Rattle.std.proofs.lemmas.List.{drop_all, length-drop, take_all}
use Rattle.std.proofs.lemmas.List.MinMax.{ranks_by}
use Rattle.std.specs.Cmp.{IsStrictWeakOrder, IsTotalOrder, on_total}
use Rattle.std.specs.Cmp.Lexicographic.{options_total}
use Rattle.std.specs.Cmp.{nat_cmp_total}
use Rattle.std.specs.Option.{option_map}
use Rattle.std.specs.Ordering.{is_lt}
use Rattle.rtr_units.specs.AnyEnd.{end_meaning}
use Rattle.rtr_units.specs.declared.end.EndOfData.{EndOfData}
use Rattle.rtr_payload.specs.FirstFault.{BeginsUnit}
use Rattle.rtr_payload.specs.Payloads.{Meaning}
use Rattle.rtr_payload.proofs.Apart.{begins_apart}
use Rattle.rtr_payload.proofs.Fields.{units_same}
use Rattle.rtr_payload.proofs.Rests.{begins_unit_none}
use Rattle.unit_views.specs.Faults.{IsFirstFault}
use Rattle.unit_views.specs.declared.fault.ViewFault.{ViewFault}
use Rattle.data_slices.specs.Items.{IsItem, meant}
use Rattle.data_memory.proofs.Names.{name_total}
use Rattle.data_slices.specs.PrivateOffsets.{MeansAt, Views, ViewsAt, offset_cmp}
use Rattle.data_slices.specs.declared.item.Item.TheVariants as items
use Rattle.data_slices.specs.declared.item.PayloadView.{PayloadView}
use Rattle.data_slices.proofs.Sequences.{not_refused}

pub no_unit_at_fault : (e : ViewFault) (r : List ℕ) → IsFirstFault r e → BeginsUnit r → ⊥
no_unit_at_fault e r h u = not_refused e r h (begins_unit_none r u)

pub no_unit_where : (e : ViewFault) (r : List ℕ) (o : ℕ) →
    IsFirstFault (take (length r - o) (drop o r)) e → BeginsUnit (drop o r) → ⊥
no_unit_where e r o h =
    no_unit_at_fault e (drop o r)
    (subst (λ l. IsFirstFault l e)
    (take_all (length r - o) (drop o r) (omega (arith, length-drop o r))) h)

empty_begins : BeginsUnit [] → ⊥
empty_begins u = let e = begins_unit_none [] u in absurd cc

pub no_unit_beyond : (r : List ℕ) (o : ℕ) → length r ≤ o → BeginsUnit (drop o r) → ⊥
no_unit_beyond r o h u = empty_begins (subst BeginsUnit (drop_all o r h) u)

pub no_unit_at_end : (x : EndOfData) (b r left : List ℕ) → IsItem (items.End x) b → r ≡ b ++ left →
    BeginsUnit r → ⊥
no_unit_at_end x b r left is parts u =
    begins_apart r u
    (record { bytes = b; means = end_meaning x; rest = left; end = is.1; parts = parts })

-- two units at one place mean the same
pub one_unit : (input : List ℕ) (o : ℕ) (m n : Meaning) → HasUnit input o m → HasUnit input o n →
    m ≡ n
one_unit input o m n h j =
    (units_same h.bytes j.bytes h.left j.left m n h.unit j.unit (sym h.parts ∙ j.parts)).1

pub has_unit : (input : List ℕ) (o : ℕ) (v : PayloadView) → Views input o v →
    HasUnit input o (meant v)
has_unit input o v w =
    record { bytes = w.bytes; left = w.left; unit = w.item.0; parts = w.parts }

begins : (input : List ℕ) (o : ℕ) (m : Meaning) → HasUnit input o m → BeginsUnit (drop o input)
begins input o m h =
    record { bytes = h.bytes; means = m; rest = h.left; unit = h.unit; parts = h.parts }

pub means_same : (input : List ℕ) (o : ℕ) (m : Meaning) (x : Option Meaning) → HasUnit input o m →
    MeansAt input o x → x ≡ Some m
means_same input o m None h n = absurd (n (begins input o m h))
means_same input o m (Some n) h j = ap (λ k. Some k) (one_unit input o n m j h)

-- what a reading of the input says of a place that is viewed
pub read_as : (input : List ℕ) (o : ℕ) (v : Option PayloadView) (x : Option Meaning) →
    ViewsAt input o v → MeansAt input o x → x ≡ option_map meant v
read_as input o (Some v) x w j = means_same input o (meant v) x (has_unit input o v w) j
read_as input o None None n j = refl
read_as input o None (Some m) n j = absurd (n (begins input o m j))

-- ---- the order of places

pub place_total : (at : ℕ → Option Meaning) → IsTotalOrder (offset_cmp at)
place_total at =
    then_total (on_total at (options_total (on_total (λ (m : Meaning). m.payload) name_total)))
    nat_cmp_total

pub places_ranked : (at : ℕ → Option Meaning) →
    IsStrictWeakOrder (λ (x y : ℕ). is_lt (offset_cmp at x y))
places_ranked at = ranks_by (place_total at) (λ (o : ℕ). o)
