-- Views of units of any type and units that were read of the same bytes say the same.
use Rattle.std.proofs.Common.{◌≡◌, ◌⊎◌, inl, inr, ℕ, cond, List, [], drop}
use Rattle.std.proofs.Common.{refl, sym, ap, subst, ◌∙◌, arith}
use Rattle.std.specs.Prelude.{◌==◌, IsTrue}
use Rattle.std.proofs.lemmas.Bool.Decides.{nat_tests}
use Rattle.rtr_base.specs.Addresses.{Family, v4, v6}
use Rattle.rtr_base.proofs.Numbers.{value-be}
use Rattle.rtr_units.specs.AnyEnd.{end_meaning}
use Rattle.rtr_units.specs.End.{EndMeaning, IsEnd}
use Rattle.rtr_units.specs.Header.{version_field, type_field, session_field}
use Rattle.rtr_units.specs.PrefixUnits.{prefix_type, prefix_at}
use Rattle.rtr_units.proofs.Ends.{end_one}
use Rattle.rtr_payload.specs.AspaUnits.{aspa_at}
use Rattle.rtr_payload.specs.KeyUnits.{key_at}
use Rattle.rtr_payload.specs.FirstFault.{first_fault, is_payload_or_end}
use Rattle.rtr_payload.specs.UnitFields.{Fields, prefix_unit, key_unit, aspa_unit, unit_list}
use Rattle.rtr_payload.specs.UnitFields.{HasFields, LengthsAgree, meaning}
use Rattle.unit_views.specs.Views.{IsViewOf, ViewMeans}
use Rattle.unit_views.specs.declared.view.UnitView.{UnitView}
use Rattle.unit_views.specs.declared.view.UnitView.TheVariants as views
use Rattle.unit_views.proofs.Agreement.{timed_type, view_and_fields}
use Rattle.unit_any.specs.AnyFields.{AnyFields, HasAnyFields, serial_notify, serial_query}
use Rattle.unit_any.specs.AnyFields.{reset_query, cache_response, payload, end_of_data}
use Rattle.unit_any.specs.AnyFields.{cache_reset, error_report}
use Rattle.unit_any.specs.AnyUnits.{serial_of, bare_of}
use Rattle.unit_any.specs.PrivateHeaders.{IsPlainType}
use Rattle.unit_any.specs.SessionViews.{ShowsUnit, ShowsFields, session_fault}
use Rattle.unit_any.specs.declared.session_view.SessionView.{SessionView}
use Rattle.unit_any.specs.declared.session_view.SessionView.TheVariants as session
use Rattle.unit_any.proofs.Reports.{report_fields}
use Rattle.unit_any.proofs.Stops.{of_payload}
use Rattle.unit_any.proofs.Viewed.{same_fault}

-- ---- types

abbrev pub IsPayloadType : ℕ → Type 0
IsPayloadType t = (t ≡ 4) ⊎ ((t ≡ 6) ⊎ ((t ≡ 9) ⊎ (t ≡ 11)))

pub payload_type : (g : Fields) → IsPayloadType (type_field (unit_list g))
payload_type (prefix_unit u) = by_family u.origin.family
  where
    by_family : (f : Family) → IsPayloadType (prefix_type f)
    by_family v4 = inl refl
    by_family v6 = inr (inl refl)
payload_type (key_unit u) = inr (inr (inl refl))
payload_type (aspa_unit u) = inr (inr (inr refl))

pub end_type : (b : List ℕ) (e : EndMeaning) → IsEnd b e → type_field b ≡ 7
end_type b e is = ap type_field is.bytes ∙ timed_type e.version e.session e.serial e.timing

-- the types of units by their fields
abbrev pub HasType : ℕ → AnyFields → Type 0
HasType t (serial_notify v s q) = t ≡ 0
HasType t (serial_query v s q) = t ≡ 1
HasType t (reset_query v s) = t ≡ 2
HasType t (cache_response v s) = t ≡ 3
HasType t (payload g) = IsPayloadType t
HasType t (end_of_data e) = t ≡ 7
HasType t (cache_reset v s) = t ≡ 8
HasType t (error_report v c body) = t ≡ 10

pub has_type : (b : List ℕ) (f : AnyFields) → HasAnyFields b f → HasType (type_field b) f
has_type b (serial_notify v s q) has = ap type_field has.bytes
has_type b (serial_query v s q) has = ap type_field has.bytes
has_type b (reset_query v s) has = ap type_field has.bytes
has_type b (cache_response v s) has = ap type_field has.bytes
has_type b (payload g) has =
    subst IsPayloadType (sym (ap type_field has.bytes)) (payload_type g)
has_type b (end_of_data e) has =
    end_type b e (record { fits = has.fits; bytes = has.bytes })
has_type b (cache_reset v s) has = ap type_field has.bytes
has_type b (error_report v c body) has = ap type_field has.bytes

-- ---- fields, read off the bytes of a unit that is no payload unit and no end of data

abbrev fields_at : ℕ → List ℕ → AnyFields
fields_at t b =
    cond (t == 0) (serial_of serial_notify b)
    (cond (t == 1) (serial_of serial_query b)
    (cond (t == 2) (bare_of reset_query b)
    (cond (t == 3) (bare_of cache_response b)
    (cond (t == 8) (bare_of cache_reset b)
    (error_report (version_field b) (session_field b) (drop 8 b))))))

not_both : (t : ℕ) → IsPlainType t → IsPayloadType t → ⊥
not_both t plain carried = grind arith

not_end : (t : ℕ) → IsPlainType t → t ≡ 7 → ⊥
not_end t plain seven = grind arith

read_back : (b : List ℕ) (f : AnyFields) → HasAnyFields b f → IsPlainType (type_field b) →
    f ≡ fields_at (type_field b) b
read_back b (serial_notify v s q) has plain =
    subst (λ l. serial_notify v s q ≡ fields_at (type_field l) l) (sym has.bytes)
    (λ i. serial_notify v (sym (value-be s 2 has.fits.0) i) (sym (value-be q 4 has.fits.1) i))
read_back b (serial_query v s q) has plain =
    subst (λ l. serial_query v s q ≡ fields_at (type_field l) l) (sym has.bytes)
    (λ i. serial_query v (sym (value-be s 2 has.fits.0) i) (sym (value-be q 4 has.fits.1) i))
read_back b (reset_query v s) has plain =
    subst (λ l. reset_query v s ≡ fields_at (type_field l) l) (sym has.bytes)
    (λ i. reset_query v (sym (value-be s 2 has.fits) i))
read_back b (cache_response v s) has plain =
    subst (λ l. cache_response v s ≡ fields_at (type_field l) l) (sym has.bytes)
    (λ i. cache_response v (sym (value-be s 2 has.fits) i))
read_back b (payload g) has plain =
    absurd (not_both (type_field b) plain (has_type b (payload g) has))
read_back b (end_of_data e) has plain =
    absurd (not_end (type_field b) plain (has_type b (end_of_data e) has))
read_back b (cache_reset v s) has plain =
    subst (λ l. cache_reset v s ≡ fields_at (type_field l) l) (sym has.bytes)
    (λ i. cache_reset v (sym (value-be s 2 has.fits) i))
read_back b (error_report v c body) has plain =
    subst (λ l. error_report v c body ≡ fields_at (type_field l) l) (sym has.bytes)
    (λ i. error_report v (sym (value-be c 2 has.fits.0) i) body)

-- the fields of such a unit of type k
at_type : (b : List ℕ) (f : AnyFields) (k : ℕ) → HasAnyFields b f → IsPlainType k →
    type_field b ≡ k → f ≡ fields_at k b
at_type b f k has plain is =
    read_back b f has (subst IsPlainType (sym is) plain) ∙ ap (λ t. fields_at t b) is

-- ---- payload units and ends of data

abbrev IsPayload : List ℕ → AnyFields → Type 0
IsPayload b f = (g : Fields) × (f ≡ payload g) × HasFields b g

of_payload_type : (b : List ℕ) (f : AnyFields) → HasAnyFields b f → IsPayloadType (type_field b) →
    HasType (type_field b) f → IsPayload b f
of_payload_type b (serial_notify v s q) has carried is = absurd (grind arith)
of_payload_type b (serial_query v s q) has carried is = absurd (grind arith)
of_payload_type b (reset_query v s) has carried is = absurd (grind arith)
of_payload_type b (cache_response v s) has carried is = absurd (grind arith)
of_payload_type b (payload g) has carried is = (
  g,
  refl,
  record {
    fits = has.fits.0;
    limits = has.fits.1;
    bytes = has.bytes;
    are_bytes = has.are_bytes;
  },
)
of_payload_type b (end_of_data e) has carried is = absurd (grind arith)
of_payload_type b (cache_reset v s) has carried is = absurd (grind arith)
of_payload_type b (error_report v c body) has carried is = absurd (grind arith)

of_end_type : (b : List ℕ) (f : AnyFields) (d : EndMeaning) → HasAnyFields b f → IsEnd b d →
    type_field b ≡ 7 → HasType (type_field b) f → f ≡ end_of_data d
of_end_type b (serial_notify v s q) d has end seven is = absurd (grind arith)
of_end_type b (serial_query v s q) d has end seven is = absurd (grind arith)
of_end_type b (reset_query v s) d has end seven is = absurd (grind arith)
of_end_type b (cache_response v s) d has end seven is = absurd (grind arith)
of_end_type b (payload g) d has end seven is = absurd (grind arith)
of_end_type b (end_of_data e) d has end seven is =
    ap end_of_data (end_one b b [] [] e d (record { fits = has.fits; bytes = has.bytes }) end
    refl).1
of_end_type b (cache_reset v s) d has end seven is = absurd (grind arith)
of_end_type b (error_report v c body) d has end seven is = absurd (grind arith)

shown_fields : (v : UnitView) (b : List ℕ) (f : AnyFields) (u : Fields) → IsViewOf v b →
    HasFields b u → HasAnyFields b f →
    (g : Fields) × (f ≡ payload g) × LengthsAgree g × ViewMeans v (meaning g)
shown_fields v b f u is shape has =
    let carried = subst IsPayloadType (sym (ap type_field shape.bytes)) (payload_type u) in
    let (g, same, fields) = of_payload_type b f has carried (has_type b f has) in
    let said = view_and_fields v b g is fields in
    (g, same, said.0, said.1)

-- ---- views

pub shows_fields : (v : SessionView) (b : List ℕ) (f : AnyFields) → ShowsUnit v b →
    HasAnyFields b f → ShowsFields v f
shows_fields (session.SerialNotify u) b f (is, fields) has =
    at_type b f 0 has (inl (inl refl)) (has_type b _ fields)
    ∙ ap (serial_of serial_notify) (sym is)
shows_fields (session.SerialQuery u) b f (is, fields) has =
    at_type b f 1 has (inl (inr refl)) (has_type b _ fields)
    ∙ ap (serial_of serial_query) (sym is)
shows_fields (session.ResetQuery u) b f (is, fields) has =
    at_type b f 2 has (inr (inl (inl refl))) (has_type b _ fields)
    ∙ ap (bare_of reset_query) (sym is)
shows_fields (session.CacheResponse u) b f (is, fields) has =
    at_type b f 3 has (inr (inl (inr (inl refl)))) (has_type b _ fields)
    ∙ ap (bare_of cache_response) (sym is)
shows_fields (session.Data (views.Origin v)) b f (family, is) has =
    shown_fields (views.Origin v) b f (prefix_unit (prefix_at family b)) (family, is) is.shape has
shows_fields (session.Data (views.RouterKey v)) b f (is, shape) has =
    shown_fields (views.RouterKey v) b f (key_unit (key_at b)) (is, shape) shape has
shows_fields (session.Data (views.Aspa v)) b f (is, shape) has =
    shown_fields (views.Aspa v) b f (aspa_unit (aspa_at b)) (is, shape) shape has
shows_fields (session.Data (views.End e)) b f (is, end) has =
    of_end_type b f (end_meaning e) has end (end_type b (end_meaning e) end) (has_type b f has)
shows_fields (session.CacheReset u) b f (is, fields) has =
    at_type b f 8 has (inr (inl (inr (inr refl)))) (has_type b _ fields)
    ∙ ap (bare_of cache_reset) (sym is)
shows_fields (session.Error v) b f (is, report) has =
    at_type b f 10 has (inr (inr refl)) (report_fields b report).kind
    ∙ ap (λ l. error_report (version_field l) (session_field l) (drop 8 l)) (sym is)

-- ---- what views of payload units say

five_types : (t : ℕ) → IsTrue (is_payload_or_end t) →
    (t ≡ 4) ⊎ ((t ≡ 6) ⊎ ((t ≡ 7) ⊎ ((t ≡ 9) ⊎ (t ≡ 11))))
five_types t is = grind (arith, nat_tests)

pub same_faults : (r : List ℕ) → IsTrue (is_payload_or_end (type_field r)) →
    session_fault r ≡ first_fault r
same_faults r is = same_fault r (of_payload _ _ _ (type_field r) (five_types (type_field r) is))

not_five : (t k : ℕ) → IsPlainType k → t ≡ k → IsTrue (is_payload_or_end t) → ⊥
not_five t k plain e is =
    apart t (five_types t is) (subst IsPlainType (sym e) plain)
  where
    apart : (t : ℕ) → (t ≡ 4) ⊎ ((t ≡ 6) ⊎ ((t ≡ 7) ⊎ ((t ≡ 9) ⊎ (t ≡ 11)))) → IsPlainType t → ⊥
    apart t five plain = grind arith

pub same_views : (v : SessionView) (b : List ℕ) → IsTrue (is_payload_or_end (type_field b)) →
    ShowsUnit v b → (w : UnitView) × (v ≡ session.Data w) × IsViewOf w b
same_views (session.SerialNotify u) b five (is, fields) =
    absurd (not_five (type_field b) 0 (inl (inl refl)) (has_type b _ fields) five)
same_views (session.SerialQuery u) b five (is, fields) =
    absurd (not_five (type_field b) 1 (inl (inr refl)) (has_type b _ fields) five)
same_views (session.ResetQuery u) b five (is, fields) =
    absurd (not_five (type_field b) 2 (inr (inl (inl refl))) (has_type b _ fields) five)
same_views (session.CacheResponse u) b five (is, fields) =
    absurd (not_five (type_field b) 3 (inr (inl (inr (inl refl)))) (has_type b _ fields) five)
same_views (session.Data w) b five is = (w, refl, is)
same_views (session.CacheReset u) b five (is, fields) =
    absurd (not_five (type_field b) 8 (inr (inl (inr (inr refl)))) (has_type b _ fields) five)
same_views (session.Error v) b five (is, report) =
    absurd (not_five (type_field b) 10 (inr (inr refl)) (report_fields b report).kind five)
