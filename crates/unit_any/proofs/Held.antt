-- Error reports that are made of a unit and a text, cut to their size: they are reports of both,
-- and are shown as such.
use Rattle.std.proofs.Common.{◌≡◌, inl, inr, ℕ, ◌+◌, ◌-◌, ◌^◌, ◌<◌, ◌≤◌, List, ◌++◌, length, take}
use Rattle.std.proofs.Common.{Option, Some, None, option_map, refl, sym, ap, subst, ◌∙◌, arith}
use Rattle.std.proofs.Common.{length-append}
use Rattle.std.proofs.lemmas.Bool.{cases_lt}
use Rattle.std.proofs.lemmas.List.{length-take-le, take_all}
use Rattle.std.proofs.lemmas.Option.{none-some, same_Some}
use Rattle.rtr_base.specs.Bytes.{be, value, IsBytes}
use Rattle.rtr_base.proofs.Numbers.{value-be, IsBytes-append, IsBytes-be, IsBytes-take}
use Rattle.rtr_units.specs.Header.{type_field, session_field}
use Rattle.rtr_units.specs.Report.{report}
use Rattle.rtr_units.specs.AnyEnd.{end_meaning}
use Rattle.rtr_units.specs.PrefixUnits.{prefix_at}
use Rattle.rtr_units.proofs.Headers.{header_bytes}
use Rattle.rtr_payload.specs.AspaUnits.{aspa_at}
use Rattle.rtr_payload.specs.KeyUnits.{key_at}
use Rattle.rtr_payload.specs.UnitFields.{Fields, prefix_unit, key_unit, aspa_unit}
use Rattle.rtr_payload.specs.UnitFields.{HasFields}
use Rattle.unit_views.specs.OwedCodes.{owed}
use Rattle.unit_views.specs.declared.view.UnitView.TheVariants as views
use Rattle.unit_any.specs.AnyFields.{serial_notify, serial_query, reset_query}
use Rattle.unit_any.specs.AnyFields.{cache_response, cache_reset}
use Rattle.unit_any.specs.AnyUnits.{serial_of, bare_of}
use Rattle.unit_any.specs.HeldReports.{held_unit, held_text, held_report}
use Rattle.unit_any.specs.Replies.{owed_report}
use Rattle.unit_any.specs.Reports.{IsReport, HasParts}
use Rattle.unit_any.specs.SessionViews.{ShowsUnit, session_fault}
use Rattle.unit_any.specs.declared.report_view.ReportView.{ReportView}
use Rattle.unit_any.specs.declared.session_view.SessionView.{SessionView}
use Rattle.unit_any.specs.declared.session_view.SessionView.TheVariants as session
use Rattle.unit_any.proofs.Agreement.{IsPayloadType, payload_type, end_type, has_type}
use Rattle.unit_any.proofs.Forms.{plain_shown}
use Rattle.unit_any.proofs.Reports.{fields_report}
use Rattle.unit_any.proofs.Units.{report_has}
use Rattle.unit_any.proofs.Wholes.{any_whole}

-- ---- sizes

take_most : (n : ℕ) (l : List ℕ) → length (take n l) ≤ n
take_most n l = elim (cases_lt n (length l)) [
  | inl less ↦ omega (arith, length-take-le n l (omega (arith, less)))
  | inr more ↦ omega (arith, ap length (take_all n l more), more)
]

report_length : (v c : ℕ) (p t : List ℕ) → length (report v c p t) ≡ 16 + length p + length t
report_length v c p t =
    omega (arith, length-append (p ++ be (length t) 4) t, length-append p (be (length t) 4))

held_fits : (p t : List ℕ) → length (held_unit p) + length (held_text p t) ≤ 65519
held_fits p t =
    let most = take_most 65519 p in
    let rest = take_most (65519 - length (held_unit p)) t in
    omega (arith, most, rest)

pub held_most : (v c : ℕ) (p t : List ℕ) → length (held_report v c p t) ≤ 65535
held_most v c p t =
    omega (arith, held_fits p t, report_length v c (held_unit p) (held_text p t))

-- ---- reports

report_bytes : (v c : ℕ) (p t : List ℕ) → v < 2 ^ 8 → IsBytes p → IsBytes t →
    IsBytes (report v c p t)
report_bytes v c p t hv hp ht =
    let n : ℕ = 16 + length p + length t in
    let rest = IsBytes-append ((be (length p) 4 ++ p) ++ be (length t) 4) t
    (IsBytes-append (be (length p) 4 ++ p) (be (length t) 4)
    (IsBytes-append (be (length p) 4) p (IsBytes-be (length p) 4) hp) (IsBytes-be (length t) 4))
    ht in
    header_bytes v 10 c n (((be (length p) 4 ++ p) ++ be (length t) 4) ++ t) (omega (arith, hv))
    (omega arith) rest

report_is : (v c : ℕ) (p t : List ℕ) → v < 2 ^ 8 → IsBytes p → IsBytes t →
    length p + length t ≤ 65519 → IsReport (report v c p t)
report_is v c p t hv hp ht fits =
    let all = report_length v c p t in
    let n : ℕ = 16 + length p + length t in
    let size : value (be n 4) ≡ n = value-be n 4 (omega (arith, fits)) in
    fields_report (report v c p t) (record {
      kind = refl;
      size = size ∙ sym all;
      least = omega (arith, all);
      most = omega (arith, all, fits);
      are_bytes = report_bytes v c p t hv hp ht;
    })

module _ (v c : ℕ) (p t : List ℕ) (hv : v < 2 ^ 8) (hp : IsBytes p) (ht : IsBytes t) where
  pub held_is : IsReport (held_report v c p t)
  held_is =
      report_is v c (held_unit p) (held_text p t) hv (IsBytes-take 65519 p hp)
      (IsBytes-take (65519 - length (held_unit p)) t ht) (held_fits p t)

  pub held_shown : (r : List ℕ) → session_fault (held_report v c p t ++ r) ≡ None
  held_shown r =
      let b = held_report v c p t in
      plain_shown b r (any_whole b _ (report_has b held_is)) (inr (inr refl))

pub held_code : (v c : ℕ) (p t : List ℕ) → c < 2 ^ 16 → session_field (held_report v c p t) ≡ c
held_code v c p t small = value-be c 2 small

pub held_parts : (v c : ℕ) (p t : List ℕ) → c < 2 ^ 16 →
    HasParts (held_report v c p t) (held_unit p) (held_text p t)
held_parts v c p t small =
    (λ i. report v (sym (held_code v c p t small) i) (held_unit p) (held_text p t))

-- ---- the view of a report

not_payload : (b : List ℕ) (u : Fields) → HasFields b u → type_field b ≡ 10 → ⊥
not_payload b u has ten =
    apart (type_field b) (subst IsPayloadType (sym (ap type_field has.bytes)) (payload_type u)) ten
  where
    apart : (t : ℕ) → IsPayloadType t → t ≡ 10 → ⊥
    apart t is ten = grind arith

shown_of_ten : (w : SessionView) (b : List ℕ) → type_field b ≡ 10 → ShowsUnit w b →
    (x : ReportView) × (w ≡ session.Error x) × (x.unit.now ≡ b)
shown_of_ten (session.SerialNotify u) b ten (is, has) =
    absurd (omega (arith, ten, has_type b (serial_of serial_notify b) has))
shown_of_ten (session.SerialQuery u) b ten (is, has) =
    absurd (omega (arith, ten, has_type b (serial_of serial_query b) has))
shown_of_ten (session.ResetQuery u) b ten (is, has) =
    absurd (omega (arith, ten, has_type b (bare_of reset_query b) has))
shown_of_ten (session.CacheResponse u) b ten (is, has) =
    absurd (omega (arith, ten, has_type b (bare_of cache_response b) has))
shown_of_ten (session.Data (views.Origin v)) b ten (f, is) =
    absurd (not_payload b (prefix_unit (prefix_at f b)) is.shape ten)
shown_of_ten (session.Data (views.RouterKey v)) b ten (is, shape) =
    absurd (not_payload b (key_unit (key_at b)) shape ten)
shown_of_ten (session.Data (views.Aspa v)) b ten (is, shape) =
    absurd (not_payload b (aspa_unit (aspa_at b)) shape ten)
shown_of_ten (session.Data (views.End e)) b ten (is, end) =
    absurd (omega (arith, ten, end_type b (end_meaning e) end))
shown_of_ten (session.CacheReset u) b ten (is, has) =
    absurd (omega (arith, ten, has_type b (bare_of cache_reset b) has))
shown_of_ten (session.Error v) b ten (is, report) = (v, refl, is)

pub held_view : (v c : ℕ) (p t : List ℕ) (w : SessionView) → ShowsUnit w (held_report v c p t) →
    (x : ReportView) × (w ≡ session.Error x) × (x.unit.now ≡ held_report v c p t)
held_view v c p t w shows = shown_of_ten w (held_report v c p t) refl shows

-- ---- what is owed

pub none_owed : (v : ℕ) (code : Option ℕ) (p t : List ℕ) → type_field p ≡ 10 →
    owed_report v code p t ≡ None
none_owed v code p t ten = rw ten refl

made_of : (o : Option ℕ) (f : ℕ → List ℕ) (r : List ℕ) → option_map f o ≡ Some r →
    (c : ℕ) × (r ≡ f c)
made_of None f r is = absurd (none-some r is)
made_of (Some c) f r is = (c, sym (same_Some (f c) r is))

pub no_reply : (v w : ℕ) (c d : Option ℕ) (p t r m s : List ℕ) → owed_report v c p t ≡ Some r →
    owed_report w d (r ++ m) s ≡ None
no_reply v w c d p t r m s is =
    let made = made_of (owed (type_field p) c) (λ c. held_report v c p t) r is in
    none_owed w d (r ++ m) s (ap (λ l. type_field (l ++ m)) made.1)
