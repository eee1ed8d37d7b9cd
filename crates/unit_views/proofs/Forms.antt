-- The written forms of what views show, by the bytes of the units.
use Rattle.std.proofs.Common.{◌≡◌, ℕ, ◌+◌, List, ◌∷◌, ◌++◌, length, drop, get_or, ap, ◌∙◌}
use Rattle.std.proofs.Common.{◌≤◌, take, slice_set, refl, arith}
use Rattle.std.proofs.lemmas.List.{length-drop}
use Rattle.rtr_base.specs.declared.action.Action.{Action}
use Rattle.rtr_base.specs.Actions.{act, flags_of}
use Rattle.rtr_base.specs.Bytes.{be, IsBytes}
use Rattle.rtr_units.specs.Header.{version_field, type_field, length_field}
use Rattle.rtr_units.proofs.Headers.{header_cells}
use Rattle.rtr_payload.specs.KeyUnits.{key_at}
use Rattle.rtr_payload.specs.UnitFields.{key_unit, aspa_unit, meaning}
use Rattle.rtr_payload.specs.AspaUnits.{aspa_at}
use Rattle.rtr_payload.specs.Units.{form, form_of}
use Rattle.rtr_payload.specs.Meanings.{origin_of}
use Rattle.rtr_payload.proofs.BodyForms.{IsWholeKey, IsWholeAspa, key_form_in, aspa_form_in}
use Rattle.rtr_payload.proofs.BodyForms.{kept_rest, key_says}
use Rattle.unit_views.specs.Origins.{origin_meaning}
use Rattle.unit_views.specs.declared.origin.OriginView.{OriginView}

-- the form of a key in its own version
pub key_form : (u rest : List ℕ) (v : ℕ) (a : Action) → IsWholeKey u → v ≡ version_field u →
    a ≡ act (get_or u 2 0) → rest ≡ drop 8 u →
    (v ∷ 9 ∷ flags_of a ∷ 0 ∷ be (8 + length rest) 4) ++ rest ≡
    form_of (meaning (key_unit (key_at u)))
key_form u rest v a h ev ea er =
    key_form_in u rest v a h ea er
    ∙ ap (λ (n : ℕ). form_of (record (meaning (key_unit (key_at u))) { version = n })) ev

-- a header in which the flags and the free byte are replaced
pub header_cleared : (u copy : List ℕ) (f : ℕ) → IsBytes u → 8 ≤ length u → copy ≡ take 8 u →
    f ≡ flags_of (act (get_or copy 2 0)) →
    slice_set (slice_set copy 2 f) 3 0 ≡
    version_field u ∷ type_field u ∷ flags_of (act (get_or u 2 0)) ∷ 0 ∷ be (length_field u) 4
header_cleared u copy f h l ec ef =
    let same = ec ∙ ap (take 8) (header_cells u (drop 8 u) h l refl) in
    ap (λ c. slice_set (slice_set c 2 f) 3 0) same
    ∙ ap (λ (x : ℕ). version_field u ∷ type_field u ∷ x ∷ 0 ∷ be (length_field u) 4)
    (ef ∙ ap (λ c. flags_of (act (get_or c 2 0))) same)

-- that with a header made from the header of the unit
pub key_form_cleared : (u front rest : List ℕ) → IsWholeKey u →
    front ≡
    version_field u ∷ type_field u ∷ flags_of (act (get_or u 2 0)) ∷ 0 ∷ be (length_field u) 4 →
    rest ≡ drop 8 u → front ++ rest ≡ form_of (meaning (key_unit (key_at u)))
key_form_cleared u front rest h ef er =
    let v = version_field u in
    let a = act (get_or u 2 0) in
    let size : length_field u ≡ 8 + length rest =
    omega (arith, h.size, h.header, length-drop 8 u, ap length er) in
    ap (λ l. l ++ rest)
    (ef
    ∙ ap (λ (t : ℕ). v ∷ t ∷ flags_of a ∷ 0 ∷ be (length_field u) 4) (key_says u h).kind
    ∙ ap (λ (n : ℕ). v ∷ 9 ∷ flags_of a ∷ 0 ∷ be n 4) size)
    ∙ key_form u rest v a h refl refl er

-- the form of an ASPA unit in its own version
pub aspa_form : (u rest : List ℕ) (v : ℕ) (a : Action) → IsWholeAspa u → v ≡ version_field u →
    a ≡ act (get_or u 2 0) → rest ≡ kept_rest a u →
    (v ∷ 11 ∷ flags_of a ∷ 0 ∷ be (8 + length rest) 4) ++ rest ≡
    form_of (meaning (aspa_unit (aspa_at u)))
aspa_form u rest v a h ev ea er =
    aspa_form_in u rest v a h ea er
    ∙ ap (λ (n : ℕ). form_of (record (meaning (aspa_unit (aspa_at u))) { version = n })) ev

-- ---- origins

-- the bytes of the unit that is made of a view's fields
pub origin_form : (v : OriginView) (a : Action) (f : ℕ) (bytes piece : List ℕ) → a ≡ act v.flags →
    f ≡ flags_of a → bytes ≡ form v.version f (origin_of v.origin) → piece ≡ bytes →
    piece ≡ form_of (origin_meaning v)
origin_form v a f bytes piece ea ef is whole =
    whole ∙ is ∙ ap (λ (n : ℕ). form v.version n (origin_of v.origin)) (ef ∙ ap flags_of ea)
