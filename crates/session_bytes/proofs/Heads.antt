-- What a router's machine sees of a view, it sees of the fields of its unit.
use Rattle.std.proofs.Common.{◌≡◌, ℕ, ◌≤◌, List, length, take, drop, refl, sym, ap, subst, ◌∙◌}
use Rattle.std.proofs.lemmas.List.{length-take-le}
use Rattle.rtr_units.specs.AnyEnd.{end_meaning}
use Rattle.rtr_units.specs.Header.{version_field, session_field}
use Rattle.rtr_units.specs.PrefixUnits.{prefix_at}
use Rattle.rtr_units.specs.Queries.{serial_field}
use Rattle.rtr_payload.specs.AspaUnits.{aspa_at}
use Rattle.rtr_payload.specs.KeyUnits.{key_at}
use Rattle.rtr_payload.specs.UnitFields.{prefix_unit, key_unit, aspa_unit}
use Rattle.unit_views.specs.declared.view.UnitView.TheVariants as views
use Rattle.unit_any.specs.AnyFields.{serial_notify, serial_query, reset_query, cache_response}
use Rattle.unit_any.specs.AnyFields.{payload, end_of_data, cache_reset, error_report}
use Rattle.unit_any.specs.AnyUnits.{serial_of, bare_of}
use Rattle.unit_any.specs.SessionViews.{ShowsUnit}
use Rattle.unit_any.specs.declared.session_view.SessionView.{SessionView}
use Rattle.unit_any.specs.declared.session_view.SessionView.TheVariants as session
use Rattle.unit_any.proofs.Units.{payload_has, end_has, report_has}
use Rattle.session_router.specs.declared.head.Head.{Head}
use Rattle.session_router.specs.declared.head.Kind.TheVariants as kinds
use Rattle.session_bytes.specs.Heads.{HasHead, bare_head, serial_head}
use Rattle.session_bytes.specs.PrivateHeads.{shown_head}

pub unit_shown : (v : SessionView) (b : List ℕ) → ShowsUnit v b →
    HasHead b (shown_head v (length b))
unit_shown (session.SerialNotify x) b (is, has) = record {
  fields = serial_of serial_notify b;
  has = has;
  in_order = tt;
  head = ap (λ l. serial_head kinds.SerialNotify (version_field l) (session_field l)
      (serial_field l) (length b)) is;
}
unit_shown (session.SerialQuery x) b (is, has) = record {
  fields = serial_of serial_query b;
  has = has;
  in_order = tt;
  head = ap (λ l. serial_head kinds.SerialQuery (version_field l) (session_field l)
      (serial_field l) (length b)) is;
}
unit_shown (session.ResetQuery x) b (is, has) = record {
  fields = bare_of reset_query b;
  has = has;
  in_order = tt;
  head = ap (λ l. bare_head kinds.ResetQuery (version_field l) (length b)) is;
}
unit_shown (session.CacheResponse x) b (is, has) = record {
  fields = bare_of cache_response b;
  has = has;
  in_order = tt;
  head = ap (λ l. serial_head kinds.CacheResponse (version_field l) (session_field l) 0
      (length b)) is;
}
unit_shown (session.Data (views.Origin v)) b (f, is) =
    let at = prefix_at f b in
    let (ver, flags, prefix, most, asn) = is.shows in record {
      fields = payload (prefix_unit at);
      has = payload_has b (prefix_unit at) is.shape;
      in_order = is.lengths;
      head = ap (λ n. bare_head kinds.Prefix n (length b)) ver;
    }
unit_shown (session.Data (views.RouterKey v)) b (is, shape) = record {
  fields = payload (key_unit (key_at b));
  has = payload_has b (key_unit (key_at b)) shape;
  in_order = tt;
  head = ap (λ l. bare_head kinds.RouterKey (version_field l) (length b)) is;
}
unit_shown (session.Data (views.Aspa v)) b (is, shape) = record {
  fields = payload (aspa_unit (aspa_at b));
  has = payload_has b (aspa_unit (aspa_at b)) shape;
  in_order = tt;
  head = ap (λ l. bare_head kinds.Aspa (version_field l) (length b)) is;
}
unit_shown (session.Data (views.End e)) b (is, end) = record {
  fields = end_of_data (end_meaning e);
  has = end_has b (end_meaning e) end;
  in_order = tt;
  head = refl;
}
unit_shown (session.CacheReset x) b (is, has) = record {
  fields = bare_of cache_reset b;
  has = has;
  in_order = tt;
  head = ap (λ l. bare_head kinds.CacheReset (version_field l) (length b)) is;
}
unit_shown (session.Error v) b (is, report) = record {
  fields = error_report (version_field b) (session_field b) (drop 8 b);
  has = report_has b report;
  in_order = tt;
  head = ap (λ l. record (bare_head kinds.ErrorReport (version_field l) (length b)) {
    code = record { 0 = session_field l };
  }) is;
}

-- the unit of n bytes at the front of an input
pub first_unit : (v : SessionView) (n m : ℕ) (input : List ℕ) (h : Head) → n ≤ length input →
    m ≡ n → ShowsUnit v (take n input) → h ≡ shown_head v m → HasHead (take n input) h
first_unit v n m input h within same shows is =
    let b = take n input in
    let size : length b ≡ n = length-take-le n input within in
    subst (λ x. HasHead b x) (sym (is ∙ ap (shown_head v) (same ∙ sym size))) (unit_shown v b shows)
