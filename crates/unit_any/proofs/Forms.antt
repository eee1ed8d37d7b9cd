-- Written forms of what views show: they are units, and are shown again.
use Rattle.std.proofs.Common.{◌≡◌, ◌⊎◌, inl, inr, ℕ, ◌<◌, ◌≤◌, cond}
use Rattle.std.proofs.Common.{List, [], ◌++◌, length, drop, get_or, Some, None}
use Rattle.std.proofs.Common.{refl, sym, ap, subst, ◌∙◌, arith, append-nil, length-append}
use Rattle.std.specs.Option.{option_or}
use Rattle.std.proofs.lemmas.Bool.{le-ltb}
use Rattle.rtr_base.specs.Bytes.{IsBytes}
use Rattle.rtr_base.proofs.Numbers.{IsBytes-be}
use Rattle.rtr_units.specs.AnyEnd.{end_meaning}
use Rattle.rtr_units.specs.End.{EndMeaning, IsEnd}
use Rattle.rtr_units.specs.FixedUnits.{fixed_bytes}
use Rattle.rtr_units.specs.Header.{version_field, type_field, session_field, length_field}
use Rattle.rtr_units.specs.Queries.{bare_list}
use Rattle.rtr_units.specs.PrefixUnits.{prefix_at}
use Rattle.rtr_units.specs.Reading.{IsWhole}
use Rattle.rtr_units.specs.StopCauses.{short}
use Rattle.rtr_units.proofs.Headers.{same_header, header_bytes}
use Rattle.rtr_payload.specs.AspaUnits.{aspa_at}
use Rattle.rtr_payload.specs.KeyUnits.{key_at}
use Rattle.rtr_payload.specs.FirstFault.{first_fault, prefix_fault}
use Rattle.rtr_payload.specs.FaultSteps.{first_unit}
use Rattle.rtr_payload.specs.UnitFields.{Fields, prefix_unit, key_unit, aspa_unit}
use Rattle.rtr_payload.specs.UnitFields.{HasFields, meaning}
use Rattle.rtr_payload.specs.Units.{IsUnit, form_of}
use Rattle.rtr_payload.proofs.ByFields.{unit_fields_of, fields_unit}
use Rattle.rtr_payload.proofs.Fields.{form_is_unit}
use Rattle.rtr_payload.proofs.Frames.{end_fault}
use Rattle.rtr_payload.proofs.Rests.{begins_unit_none}
use Rattle.unit_views.specs.Views.{IsViewOf, view_form}
use Rattle.unit_views.specs.declared.view.UnitView.{UnitView}
use Rattle.unit_views.specs.declared.view.UnitView.TheVariants as views
use Rattle.unit_views.proofs.Agreement.{view_and_fields, form_meant}
use Rattle.unit_any.specs.AnyFields.{AnyFields, HasAnyFields, serial_notify}
use Rattle.unit_any.specs.AnyFields.{serial_query, reset_query, cache_response, payload}
use Rattle.unit_any.specs.AnyFields.{end_of_data, cache_reset, error_report}
use Rattle.unit_any.specs.AnyUnits.{serial_of, bare_of}
use Rattle.unit_any.specs.PrivateHeaders.{IsPlainType}
use Rattle.unit_any.specs.SessionForms.{session_form, shown_form}
use Rattle.unit_any.specs.SessionKinds.{any_header_fault, session_unit}
use Rattle.unit_any.specs.SessionViews.{ShowsUnit, ShowsFields, session_fault}
use Rattle.unit_any.specs.declared.session_view.SessionView.{SessionView}
use Rattle.unit_any.specs.declared.session_view.SessionView.TheVariants as session
use Rattle.unit_any.proofs.Agreement.{IsPayloadType, payload_type, end_type, has_type}
use Rattle.unit_any.proofs.Agreement.{shows_fields}
use Rattle.unit_any.proofs.Reports.{report_fields}
use Rattle.unit_any.proofs.Stops.{of_payload}
use Rattle.unit_any.proofs.Units.{payload_has, end_has, report_has}
use Rattle.unit_any.proofs.Viewed.{same_fault, whole_bounded}
use Rattle.unit_any.proofs.Wholes.{any_whole}

-- ---- by the fields

-- the fields at their places in the bytes of a report
abbrev report_at : List ℕ → AnyFields
report_at b = error_report (version_field b) (session_field b) (drop 8 b)

same_form : (v : SessionView) (f : AnyFields) → ShowsFields v f →
    (b : List ℕ) → ShowsUnit v b → shown_form v ≡ session_form f
same_form (session.SerialNotify u) f is b (same, has) =
    same ∙ has.bytes ∙ ap (λ l. session_form (serial_of serial_notify l)) (sym same)
    ∙ ap session_form (sym is)
same_form (session.SerialQuery u) f is b (same, has) =
    same ∙ has.bytes ∙ ap (λ l. session_form (serial_of serial_query l)) (sym same)
    ∙ ap session_form (sym is)
same_form (session.ResetQuery u) f is b shows = ap session_form (sym is)
same_form (session.CacheResponse u) f is b (same, has) =
    same ∙ has.bytes ∙ ap (λ l. session_form (bare_of cache_response l)) (sym same)
    ∙ ap session_form (sym is)
same_form (session.Data (views.Origin v)) f (g, is, agree, means) b shows =
    form_meant (views.Origin v) (meaning g) means ∙ ap session_form (sym is)
same_form (session.Data (views.RouterKey v)) f (g, is, agree, means) b shows =
    form_meant (views.RouterKey v) (meaning g) means ∙ ap session_form (sym is)
same_form (session.Data (views.Aspa v)) f (g, is, agree, means) b shows =
    form_meant (views.Aspa v) (meaning g) means ∙ ap session_form (sym is)
same_form (session.Data (views.End e)) f is b (same, end) =
    same ∙ end.bytes ∙ ap session_form (sym is)
same_form (session.CacheReset u) f is b shows = ap session_form (sym is)
same_form (session.Error v) f is b (same, report) =
    same ∙ (report_has b report).bytes ∙ ap (λ l. session_form (report_at l)) (sym same)
    ∙ ap session_form (sym is)

pub form_by_fields : (v : SessionView) (b : List ℕ) (f : AnyFields) → ShowsUnit v b →
    HasAnyFields b f → shown_form v ≡ session_form f
form_by_fields v b f shows has = same_form v f (shows_fields v b f shows has) b shows

-- ---- a form is a unit, whatever follows it

pub record IsForm (b : List ℕ) : Type 0 where
  pub fields : AnyFields
  pub unit : HasAnyFields b fields
  pub same : session_form fields ≡ b
  pub shown : (r : List ℕ) → session_fault (b ++ r) ≡ None

no_lengths : (t : ℕ) (u : List ℕ) → IsPlainType t → prefix_fault t u ≡ None
no_lengths t u (inl (inl e)) = rw e refl
no_lengths t u (inl (inr e)) = rw e refl
no_lengths t u (inr (inl (inl e))) = rw e refl
no_lengths t u (inr (inl (inr (inl e)))) = rw e refl
no_lengths t u (inr (inl (inr (inr e)))) = rw e refl
no_lengths t u (inr (inr e)) = rw e refl

pub plain_shown : (b r : List ℕ) → IsWhole session_unit b → IsPlainType (type_field b) →
    session_fault (b ++ r) ≡ None
plain_shown b r w plain =
    let same = same_header b r w.header in
    let all = length-append b r in
    let fault : session_unit.fault (b ++ r) ≡ None =
    (λ i.
    any_header_fault (same.version i) (same.kind i) (same.flags i) (same.size i))
    ∙ w.in_order in
    let long : 8 ≤ length (b ++ r) = omega (arith, all, w.header) in
    let whole : length_field (b ++ r) ≤ length (b ++ r) = omega (arith, all, same.size, w.size) in
    let lengths : prefix_fault (type_field (b ++ r)) (first_unit (b ++ r)) ≡ None =
    no_lengths (type_field (b ++ r)) (first_unit (b ++ r))
    (subst IsPlainType (sym same.kind) plain) in
    (λ i.
    cond (le-ltb (length (b ++ r)) 8 long i) (Some short)
    (option_or (fault i)
    (cond (le-ltb (length (b ++ r)) (length_field (b ++ r)) whole i) (Some short) (lengths i))))

plain_form : (b : List ℕ) (f : AnyFields) → HasAnyFields b f → IsPlainType (type_field b) →
    session_form f ≡ b → IsForm b
plain_form b f has plain same = record {
  fields = f;
  unit = has;
  same = same;
  shown = λ r. plain_shown b r (any_whole b f has) plain;
}

-- of payload units and ends of data
carried_shown : (b r : List ℕ) (f : AnyFields) → HasAnyFields b f →
    (type_field b ≡ 4)
    ⊎ ((type_field b ≡ 6) ⊎ ((type_field b ≡ 7) ⊎ ((type_field b ≡ 9) ⊎ (type_field b ≡ 11)))) →
    first_fault (b ++ r) ≡ None → session_fault (b ++ r) ≡ None
carried_shown b r f has five none =
    let kind = (same_header b r (any_whole b f has).header).kind in
    same_fault (b ++ r)
    (of_payload (version_field (b ++ r)) (get_or (b ++ r) 2 0) (length_field (b ++ r))
    (type_field (b ++ r))
    (subst (λ t. (t ≡ 4) ⊎ ((t ≡ 6) ⊎ ((t ≡ 7) ⊎ ((t ≡ 9) ⊎ (t ≡ 11))))) (sym kind) five))
    ∙ none

one_of_five : (t : ℕ) → IsPayloadType t →
    (t ≡ 4) ⊎ ((t ≡ 6) ⊎ ((t ≡ 7) ⊎ ((t ≡ 9) ⊎ (t ≡ 11))))
one_of_five t (inl e) = inl e
one_of_five t (inr (inl e)) = inr (inl e)
one_of_five t (inr (inr (inl e))) = inr (inr (inr (inl e)))
one_of_five t (inr (inr (inr e))) = inr (inr (inr (inr e)))

payload_form : (v : UnitView) (b : List ℕ) (u : Fields) → IsViewOf v b → HasFields b u →
    IsForm (view_form v)
payload_form v b u is shape =
    let said = view_and_fields v b u is shape in
    let m = meaning u in
    let made : IsUnit (form_of m) m = form_is_unit b m (fields_unit b u shape said.0) in
    let h = unit_fields_of (form_of m) m made in
    let has = payload_has (form_of m) h.fields h.shape in
    let kind = subst IsPayloadType (sym (ap type_field h.shape.bytes)) (payload_type h.fields) in
    subst IsForm (sym (form_meant v m said.1)) (record {
      fields = payload h.fields;
      unit = has;
      same = ap form_of (sym h.means);
      shown = λ r.
          carried_shown (form_of m) r (payload h.fields) has (one_of_five _ kind)
          (begins_unit_none (form_of m ++ r)
          (record { bytes = form_of m; means = m; rest = r; unit = made; parts = refl }));
    })

end_shown : (b : List ℕ) (e : EndMeaning) → IsEnd b e → IsForm b
end_shown b e end = record {
  fields = end_of_data e;
  unit = end_has b e end;
  same = sym end.bytes;
  shown = λ r.
      carried_shown b r (end_of_data e) (end_has b e end) (inr (inr (inl (end_type b e end))))
      (end_fault b r e end);
}

-- a header with zero in the place of the session
bare_bytes : (v k : ℕ) → v < 256 → k < 256 → IsBytes (bare_list v k 0)
bare_bytes v k hv hk =
    subst IsBytes (append-nil (bare_list v k 0)) (header_bytes v k 0 8 [] hv hk (IsBytes-be 0 0))

small_version : (u b : List ℕ) → u ≡ b → IsBytes b → version_field u < 256
small_version u b same h = subst (λ l. version_field l < 256) (sym same) (h 0)

pub form_is : (v : SessionView) (b : List ℕ) → ShowsUnit v b → IsForm (shown_form v)
form_is (session.SerialNotify u) b (same, has) =
    subst IsForm (sym same) (plain_form b (serial_of serial_notify b) has
    (inl (inl (has_type b (serial_of serial_notify b) has))) (sym has.bytes))
form_is (session.SerialQuery u) b (same, has) =
    subst IsForm (sym same) (plain_form b (serial_of serial_query b) has
    (inl (inr (has_type b (serial_of serial_query b) has))) (sym has.bytes))
form_is (session.ResetQuery u) b (same, has) =
    let v = version_field (fixed_bytes u) in
    plain_form (bare_list v 2 0) (reset_query v 0) (record {
      fits = omega arith;
      bytes = refl;
      are_bytes = bare_bytes v 2 (small_version (fixed_bytes u) b same has.are_bytes) (omega arith);
    }) (inr (inl (inl refl))) refl
form_is (session.CacheResponse u) b (same, has) =
    subst IsForm (sym same) (plain_form b (bare_of cache_response b) has
    (inr (inl (inr (inl (has_type b (bare_of cache_response b) has))))) (sym has.bytes))
form_is (session.Data (views.Origin v)) b (f, is) =
    payload_form (views.Origin v) b (prefix_unit (prefix_at f b)) (f, is) is.shape
form_is (session.Data (views.RouterKey v)) b (is, shape) =
    payload_form (views.RouterKey v) b (key_unit (key_at b)) (is, shape) shape
form_is (session.Data (views.Aspa v)) b (is, shape) =
    payload_form (views.Aspa v) b (aspa_unit (aspa_at b)) (is, shape) shape
form_is (session.Data (views.End e)) b (same, end) =
    subst IsForm (sym same) (end_shown b (end_meaning e) end)
form_is (session.CacheReset u) b (same, has) =
    let v = version_field (fixed_bytes u) in
    plain_form (bare_list v 8 0) (cache_reset v 0) (record {
      fits = omega arith;
      bytes = refl;
      are_bytes = bare_bytes v 8 (small_version (fixed_bytes u) b same has.are_bytes) (omega arith);
    }) (inr (inl (inr (inr refl)))) refl
form_is (session.Error v) b (same, report) =
    subst IsForm (sym same) (plain_form b (report_at b) (report_has b report)
    (inr (inr (report_fields b report).kind)) (sym (report_has b report).bytes))

-- ---- what is said of forms

pub form_unit : (v : SessionView) (b : List ℕ) → ShowsUnit v b →
    (f : AnyFields) × HasAnyFields (shown_form v) f
form_unit v b shows = let is = form_is v b shows in (is.fields, is.unit)

pub form_most : (v : SessionView) (b : List ℕ) → ShowsUnit v b → length (shown_form v) ≤ 65535
form_most v b shows =
    let is = form_is v b shows in
    (whole_bounded (shown_form v) (any_whole (shown_form v) is.fields is.unit)).most

pub form_shown : (v : SessionView) (b r : List ℕ) → ShowsUnit v b →
    session_fault (shown_form v ++ r) ≡ None
form_shown v b r shows = (form_is v b shows).shown r

pub form_again : (v w : SessionView) (b : List ℕ) → ShowsUnit v b → ShowsUnit w (shown_form v) →
    shown_form w ≡ shown_form v
form_again v w b shows again =
    let is = form_is v b shows in
    form_by_fields w (shown_form v) is.fields again is.unit ∙ is.same
