-- Whole lists of bytes whose header is in order: each is a unit with the fields that stand at their
-- places, or an end of data.
use Rattle.std.proofs.Common.{◌≡◌, ◌≢◌, ℕ, ◌%◌, ◌≤◌, ◌⊎◌, List, length, drop, None, ap, sym, ◌∙◌}
use Rattle.std.proofs.Common.{arith, get_or, inl, inr}
use Rattle.std.proofs.lemmas.Bool.Decides.{nat_tests}
use Rattle.std.proofs.lemmas.List.{length-drop}
use Rattle.rtr_base.specs.Addresses.{Family, v4, v6}
use Rattle.rtr_base.specs.Bytes.{IsBytes}
use Rattle.rtr_base.proofs.Numbers.{IsBytes-drop}
use Rattle.rtr_units.specs.Reading.{IsWhole}
use Rattle.rtr_payload.specs.UnitKinds.{variable_unit}
use Rattle.rtr_payload.specs.Providers.{AreProviderBytes}
use Rattle.rtr_payload.specs.declared.pdu.key_info.TheConstants.{MAX_LEN as MOST}
use Rattle.rtr_payload.proofs.ProviderBytes.{provider_bytes_of}
use Rattle.rtr_units.specs.End.{EndMeaning, IsEnd, untimed_meaning, timed_meaning}
use Rattle.rtr_units.specs.PrefixUnits.{prefix_type, prefix_size}
use Rattle.rtr_units.specs.Header.{version_field, type_field, length_field}
use Rattle.rtr_units.proofs.EndsRead.{untimed_has, timed_has}
use Rattle.rtr_units.specs.PrefixUnits.{prefix_at}
use Rattle.rtr_payload.specs.UnitFields.{prefix_unit, key_unit, aspa_unit, Fields, HasFields}
use Rattle.rtr_payload.specs.KeyUnits.{key_at}
use Rattle.rtr_payload.specs.AspaUnits.{aspa_at}
use Rattle.rtr_payload.specs.FirstFault.{header_fault}
use Rattle.rtr_payload.proofs.FieldsRead.{prefix_has, key_has, aspa_has}
use Rattle.rtr_payload.proofs.Frames.{Whole}

kinds : (v t g n : ℕ) → header_fault v t g n ≡ None →
    ((f : Family) × (t ≡ prefix_type f)) ⊎ ((t ≡ 7) ⊎ ((t ≡ 9) ⊎ (t ≡ 11)))
unfolding header_fault
kinds v t g n h =
    elim by_type [ inl x ↦ inl (v4, x) | inr (inl x) ↦ inl (v6, x) | inr (inr x) ↦ inr x ]
  where
    by_type : (t ≡ 4) ⊎ ((t ≡ 6) ⊎ ((t ≡ 7) ⊎ ((t ≡ 9) ⊎ (t ≡ 11))))
    by_type = grind (arith, nat_tests)

prefix_said : (f : Family) (v g n : ℕ) → header_fault v (prefix_type f) g n ≡ None →
    n ≡ prefix_size f
unfolding header_fault
prefix_said v4 v g n h = grind (arith, nat_tests)
prefix_said v6 v g n h = grind (arith, nat_tests)

end_said : (v g n : ℕ) → header_fault v 7 g n ≡ None →
    ((v ≡ 0) × (n ≡ 12)) ⊎ (((v ≡ 1) ⊎ (v ≡ 2)) × (n ≡ 24))
unfolding header_fault
end_said v g n h = grind (arith, nat_tests)

key_said : (v g n : ℕ) → header_fault v 9 g n ≡ None → (32 ≤ n) × (n ≤ 65535)
unfolding header_fault
key_said v g n h = grind (arith, nat_tests)

aspa_said : (v g n : ℕ) → header_fault v 11 g n ≡ None →
    (12 ≤ n) × (n ≤ 65535) × (n % 4 ≡ 0) × (n ≡ 12 → g % 2 ≢ 1)
unfolding header_fault
aspa_said v g n h = grind (arith, nat_tests)

-- ---- whole units of a kind, whatever type they name

pub key_body : (u : List ℕ) → IsWhole (variable_unit 9) u →
    (32 ≤ length u) × (length (drop 32 u) ≤ MOST)
    × (type_field u ≡ 9 → HasFields u (key_unit (key_at u)))
key_body u w =
    let n = key_said _ _ _ w.in_order in (
      omega (arith, w.size),
      omega (arith, w.size, length-drop 32 u),
      λ kind.
          key_has u w.are_bytes (omega (arith, w.size)) (omega (arith, w.size)) kind (sym w.size),
    )

pub aspa_body : (u : List ℕ) → IsWhole (variable_unit 11) u →
    (12 ≤ length u) × AreProviderBytes (drop 12 u)
    × (type_field u ≡ 11 → HasFields u (aspa_unit (aspa_at u)))
aspa_body u w =
    let n = aspa_said _ _ _ w.in_order in
    let len = length-drop 12 u in
    let even : length u % 4 ≡ 0 = ap (λ (k : ℕ). k % 4) w.size ∙ n.2 in (
      omega (arith, w.size),
      provider_bytes_of (drop 12 u) (IsBytes-drop 12 u w.are_bytes)
          (omega (arith, len, even, w.size)) (omega (arith, len, w.size)),
      λ kind.
          aspa_has u w.are_bytes (omega (arith, w.size)) (omega (arith, w.size)) even
          (λ e. n.3 (sym w.size ∙ e)) kind (sym w.size),
    )

-- the header's step, where the type is known
step_of : (b : List ℕ) (t : ℕ) → Whole b → type_field b ≡ t →
    header_fault (version_field b) t (get_or b 2 0) (length_field b) ≡ None
step_of b t w e = rw e at w.in_order

pub prefix_whole : (f : Family) (b : List ℕ) → IsBytes b → Whole b → type_field b ≡ prefix_type f →
    HasFields b (prefix_unit (prefix_at f b))
prefix_whole f b h w t =
    let n = prefix_said f (version_field b) (get_or b 2 0) (length_field b)
    (step_of b (prefix_type f) w t) in
    prefix_has f b h (sym w.size ∙ n) t n

pub key_whole : (b : List ℕ) → IsBytes b → Whole b → type_field b ≡ 9 →
    HasFields b (key_unit (key_at b))
key_whole b h w t =
    let n = key_said (version_field b) (get_or b 2 0) (length_field b) (step_of b 9 w t) in
    key_has b h (omega (arith, w.size)) (omega (arith, w.size)) t w.size

pub aspa_whole : (b : List ℕ) → IsBytes b → Whole b → type_field b ≡ 11 →
    HasFields b (aspa_unit (aspa_at b))
aspa_whole b h w t =
    let n = aspa_said (version_field b) (get_or b 2 0) (length_field b) (step_of b 11 w t) in
    aspa_has b h (omega (arith, w.size)) (omega (arith, w.size)) (rw (← w.size) n.2)
    (λ e. n.3 (w.size ∙ e)) t w.size

pub end_whole : (b : List ℕ) → IsBytes b → Whole b → type_field b ≡ 7 → (e : EndMeaning) × IsEnd b e
end_whole b h w t =
    elim (end_said (version_field b) (get_or b 2 0) (length_field b) (step_of b 7 w t)) [
      | inl x ↦ (untimed_meaning b, untimed_has b h x.0 t (sym w.size ∙ x.1) x.1)
      | inr x ↦ (timed_meaning b, timed_has b h x.0 t (sym w.size ∙ x.1) x.1)
    ]

pub whole_is : (b : List ℕ) → IsBytes b → Whole b →
    ((u : Fields) × HasFields b u) ⊎ ((e : EndMeaning) × IsEnd b e)
whole_is b h w =
    elim (kinds (version_field b) (type_field b) (get_or b 2 0) (length_field b) w.in_order) [
      | inl x ↦ inl (prefix_unit (prefix_at x.0 b), prefix_whole x.0 b h w x.1)
      | inr (inl t) ↦ inr (end_whole b h w t)
      | inr (inr (inl t)) ↦ inl (key_unit (key_at b), key_whole b h w t)
      | inr (inr (inr t)) ↦ inl (aspa_unit (aspa_at b), aspa_whole b h w t)
    ]
