-- The unit at the front of a list, and the faults that its header shows.
use Rattle.std.proofs.Common.{◌≡◌, ◌≢◌, ◌%◌, ◌⊎◌, inl, inr, ℕ, ◌≤◌, ◌<◌, List, ◌++◌, length, take}
use Rattle.std.proofs.Common.{drop, get_or, Some, None, sym, ap, subst, ◌∙◌, arith}
use Rattle.std.proofs.lemmas.Bool.Decides.{nat_tests}
use Rattle.std.proofs.lemmas.List.{take-append-drop, length-take-le}
use Rattle.rtr_base.specs.Addresses.{Family, v4, v6}
use Rattle.rtr_base.specs.Bytes.{IsBytes}
use Rattle.rtr_base.proofs.Numbers.{IsBytes-take}
use Rattle.rtr_units.specs.StopCauses.{Refusal, unit_type, unit_version, too_long}
use Rattle.rtr_units.specs.StopCauses.{unit_length, empty_providers, refused}
use Rattle.rtr_units.specs.PrefixUnits.{prefix_type, prefix_size}
use Rattle.rtr_units.specs.Header.{version_field, type_field, length_field}
use Rattle.rtr_units.specs.End.{IsEnd, untimed_meaning, timed_meaning}
use Rattle.rtr_units.proofs.EndUnits.{end_with_timing}
use Rattle.rtr_units.proofs.EndsRead.{untimed_has}
use Rattle.rtr_units.proofs.Headers.{same_header}
use Rattle.rtr_units.proofs.UnitsRead.{typed_is}
use Rattle.rtr_units.specs.Reading.{IsWhole, of_type}
use Rattle.rtr_units.specs.PrefixUnits.{prefix_at}
use Rattle.rtr_payload.specs.declared.pdu.prefix_rule.PrefixRule.{PrefixRule}
use Rattle.rtr_payload.specs.UnitFields.{prefix_unit, key_unit, aspa_unit, HasFields}
use Rattle.rtr_payload.specs.KeyUnits.{key_at}
use Rattle.rtr_payload.specs.AspaUnits.{aspa_at}
use Rattle.rtr_payload.specs.FirstFault.{first_fault, header_fault, refusal_report}
use Rattle.rtr_payload.specs.FaultSteps.{first_unit, header_step, rule_of}
use Rattle.rtr_payload.specs.UnitKinds.{variable_unit}
use Rattle.rtr_payload.proofs.FieldsRead.{prefix_has}
use Rattle.rtr_payload.proofs.Frames.{header_first, eleven_in_order}
use Rattle.rtr_payload.proofs.Variable.{aspa_short, aspa_uneven, aspa_empty}
use Rattle.rtr_payload.proofs.Refusals.{prefix_refused}
use Rattle.unit_views.specs.PrivateFirst.{IsFirstUnit}
use Rattle.unit_views.specs.Faults.{IsFirstFault}
use Rattle.unit_views.specs.declared.fault.ViewFault.{ViewFault}
use Rattle.unit_views.specs.declared.fault.ViewFault.TheVariants.{TooLong}
use Rattle.rtr_payload.proofs.BodyForms.{IsWholeKey, IsWholeAspa, whole_key, whole_aspa}

-- the unit at the front is the first
pub at_front : (r : List ℕ) → 8 ≤ length r → 8 ≤ length_field r → length_field r ≤ length r →
    IsFirstUnit r (first_unit r)
at_front r long some within =
    let front = first_unit r in
    let len : length front ≡ length_field r = length-take-le (length_field r) r within in
    let all : front ++ drop (length_field r) r ≡ r = take-append-drop (length_field r) r in
    let same = same_header front (drop (length_field r) r) (omega arith) in
    record {
      is_first = λ i. front;
      size = len;
      version = sym same.version ∙ ap version_field all;
      kind = sym same.kind ∙ ap type_field all;
      flags = sym same.flags ∙ ap (λ b. get_or b 2 0) all;
      field = sym same.size ∙ ap length_field all;
    }

-- ---- prefixes

pub prefix_length : (f : Family) (v g n : ℕ) → n ≢ prefix_size f →
    header_fault v (prefix_type f) g n ≡ Some unit_length
unfolding header_fault
prefix_length v4 v g n h = grind (arith, nat_tests)
prefix_length v6 v g n h = grind (arith, nat_tests)

pub prefix_in_order : (f : Family) (v g n : ℕ) → n ≡ prefix_size f →
    header_fault v (prefix_type f) g n ≡ None
unfolding header_fault
prefix_in_order v4 v g n h = grind (arith, nat_tests)
prefix_in_order v6 v g n h = grind (arith, nat_tests)

pub prefix_front : (f : Family) (r u : List ℕ) → IsBytes r → type_field r ≡ prefix_type f →
    length_field r ≡ prefix_size f → IsFirstUnit r u → HasFields u (prefix_unit (prefix_at f u))
prefix_front f r u h kind field is =
    prefix_has f u (rw is.is_first (IsBytes-take (length_field r) r h)) (is.size ∙ field)
    (is.kind ∙ kind) (is.field ∙ field)

-- the prefix at the front breaks its rule
pub prefix_broken : (f : Family) (r u : List ℕ) (fault : PrefixRule) →
    HasFields u (prefix_unit (prefix_at f u)) → IsFirstUnit r u →
    rule_of (prefix_unit (prefix_at f u)) ≡ Some fault →
    first_fault r ≡ Some (refused (refusal_report (first_unit r) fault))
prefix_broken f r u fault shape is broken =
    let all : u ++ drop (length_field r) r ≡ r =
    ap (λ l. l ++ drop (length_field r) r) is.is_first ∙ take-append-drop (length_field r) r in
    sym (ap first_fault all)
    ∙ (prefix_refused u (prefix_unit (prefix_at f u)) fault shape broken
    (drop (length_field r) r)).0
    ∙ ap (λ l. Some (refused (refusal_report l fault))) is.is_first

-- ---- ends of data

pub end_version : (v g n : ℕ) → 2 < v → header_fault v 7 g n ≡ Some (unit_version v)
unfolding header_fault
end_version v g n h = grind (arith, nat_tests)

pub end_length_0 : (v g n : ℕ) → v ≡ 0 → n ≢ 12 → header_fault v 7 g n ≡ Some unit_length
unfolding header_fault
end_length_0 v g n h l = grind (arith, nat_tests)

pub end_length_1 : (v g n : ℕ) → v ≤ 2 → v ≢ 0 → n ≢ 24 → header_fault v 7 g n ≡ Some unit_length
unfolding header_fault
end_length_1 v g n h k l = grind (arith, nat_tests)

pub end_in_order_0 : (v g n : ℕ) → v ≡ 0 → n ≡ 12 → header_fault v 7 g n ≡ None
unfolding header_fault
end_in_order_0 v g n h l = grind (arith, nat_tests)

pub end_in_order_1 : (v g n : ℕ) → v ≤ 2 → v ≢ 0 → n ≡ 24 → header_fault v 7 g n ≡ None
unfolding header_fault
end_in_order_1 v g n h k l = grind (arith, nat_tests)

-- ---- other types

pub other_type : (v t g n : ℕ) → t ≢ 4 → t ≢ 6 → t ≢ 7 → t ≢ 9 → t ≢ 11 →
    header_fault v t g n ≡ Some (unit_type t)
unfolding header_fault
other_type v t g n a b c d e = grind (arith, nat_tests)

-- a fault of the header, by its type
pub typed_shows : (r : List ℕ) (t : ℕ) (f : Refusal) → 8 ≤ length r → type_field r ≡ t →
    header_fault (version_field r) t (get_or r 2 0) (length_field r) ≡ Some f →
    first_fault r ≡ Some f
typed_shows r t f l kind e =
    header_first r f l
    (ap (λ k. header_fault (version_field r) k (get_or r 2 0) (length_field r)) kind ∙ e)

pub typed_in_order : (r : List ℕ) (t : ℕ) → type_field r ≡ t →
    header_fault (version_field r) t (get_or r 2 0) (length_field r) ≡ None → header_step r ≡ None
typed_in_order r t kind e =
    ap (λ k. header_fault (version_field r) k (get_or r 2 0) (length_field r)) kind ∙ e

pub end_front_0 : (r u : List ℕ) → IsBytes r → type_field r ≡ 7 → version_field r ≡ 0 →
    length_field r ≡ 12 → IsFirstUnit r u → IsEnd u (untimed_meaning u)
end_front_0 r u h kind version field is =
    untimed_has u (rw is.is_first (IsBytes-take (length_field r) r h)) (is.version ∙ version)
    (is.kind ∙ kind) (is.size ∙ field) (is.field ∙ field)

pub end_front_1 : (r u : List ℕ) → IsBytes r → type_field r ≡ 7 → version_field r ≤ 2 →
    version_field r ≢ 0 → length_field r ≡ 24 → IsFirstUnit r u → IsEnd u (timed_meaning u)
end_front_1 r u h kind small later field is =
    end_with_timing u (rw is.is_first (IsBytes-take (length_field r) r h)) (is.size ∙ field)
    (omega (arith, is.version)) (λ e. later (sym is.version ∙ e)) (is.kind ∙ kind)
    (is.field ∙ field)

-- ---- what is viewed is whole

pub first_whole : (k : ℕ) (r u : List ℕ) → IsBytes r → IsFirstUnit r u → type_field r ≡ k →
    header_step r ≡ None → 8 ≤ length u → IsWhole (of_type k (variable_unit k)) u
first_whole k r u h is kind order long =
    let same : header_step u ≡ header_step r =
    λ i. header_fault (is.version i) (is.kind i) (is.flags i) (is.field i) in
    let kind_u : type_field u ≡ k = is.kind ∙ kind in
    let named : header_step u ≡ header_fault (version_field u) k (get_or u 2 0) (length_field u) =
    ap (λ t. header_fault (version_field u) t (get_or u 2 0) (length_field u)) kind_u in
    record {
      header = long;
      in_order = typed_is k (variable_unit k) u kind_u ∙ sym named ∙ same ∙ order;
      size = is.size ∙ sym is.field;
      are_bytes = rw is.is_first (IsBytes-take (length_field r) r h);
    }

-- ---- what is viewed, by its length

unit_at : (r u w : List ℕ) → IsFirstUnit r u → w ≡ u → u ≡ take (length w) r
unit_at r u w is same = is.is_first ∙ ap (λ (n : ℕ). take n r) (sym is.size ∙ ap length (sym same))

pub key_viewed : (r u w : List ℕ) → IsFirstUnit r u → IsWholeKey u → w ≡ u →
    (u ≡ take (length w) r) × HasFields (take (length w) r) (key_unit (key_at (take (length w) r)))
key_viewed r u w is whole same =
    let e = unit_at r u w is same in
    (e, subst (λ l. HasFields l (key_unit (key_at l))) e (whole_key u whole))

pub aspa_viewed : (r u w : List ℕ) → IsFirstUnit r u → IsWholeAspa u → w ≡ u →
    (u ≡ take (length w) r)
    × HasFields (take (length w) r) (aspa_unit (aspa_at (take (length w) r)))
aspa_viewed r u w is whole same =
    let e = unit_at r u w is same in
    (e, subst (λ l. HasFields l (aspa_unit (aspa_at l))) e (whole_aspa u whole))

-- ---- ASPA units

-- a size above 65535 is told
pub long_shows : (r : List ℕ) (t : ℕ) (f : ViewFault) → 8 ≤ length r → type_field r ≡ t →
    header_fault (version_field r) t (get_or r 2 0) (length_field r) ≡ Some too_long → f ≡ TooLong →
    IsFirstFault r f
long_shows r t f l kind long is =
    subst (IsFirstFault r) (sym is) (typed_shows r t too_long l kind long)

pub aspa_length : (v g n : ℕ) → n ≤ 65535 → (n < 12) ⊎ (n % 4 ≢ 0) →
    header_fault v 11 g n ≡ Some unit_length
aspa_length v g n h k =
    elim k [ inl less ↦ aspa_short v g n less | inr uneven ↦ aspa_uneven v g n h uneven ]

pub aspa_no_providers : (v g n : ℕ) → n ≡ 12 → g % 2 ≡ 1 →
    header_fault v 11 g n ≡ Some empty_providers
aspa_no_providers v g n h odd = ap (header_fault v 11 g) h ∙ aspa_empty v g odd

pub aspa_in_order : (v g n : ℕ) → 12 ≤ n → n ≤ 65535 → n % 4 ≡ 0 → (n ≢ 12) ⊎ (g % 2 ≢ 1) →
    header_fault v 11 g n ≡ None
aspa_in_order v g n low high fours k = eleven_in_order v g n low high fours (λ e odd.
    elim k [ inl more ↦ more e | inr even ↦ even odd ])
