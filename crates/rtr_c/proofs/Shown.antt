-- What is shown of a view is shown of the fields of its unit.
use Rattle.std.proofs.Common.{◌≡◌, ℕ, ◌*◌, ◌%◌, ◌≤◌, List, length, take, drop, Option, Result, Ok}
use Rattle.std.proofs.Common.{Err}
use Rattle.std.proofs.Common.{refl, sym, ap, subst, ◌∙◌}
use Rattle.std.proofs.lemmas.List.{take-append-drop, length-take-le}
use Rattle.std.specs.Option.{unwrap_or}
use Rattle.rtr_base.specs.Addresses.{ip_version}
use Rattle.rtr_base.proofs.Numbers.{length-words}
use Rattle.rtr_units.specs.AnyEnd.{end_meaning}
use Rattle.rtr_units.specs.Header.{version_field, session_field}
use Rattle.rtr_units.specs.PrefixUnits.{prefix_type, prefix_at}
use Rattle.rtr_payload.specs.AspaUnits.{aspa_at}
use Rattle.rtr_payload.specs.KeyUnits.{key_at}
use Rattle.rtr_payload.specs.UnitFields.{prefix_unit, key_unit, aspa_unit}
use Rattle.unit_views.specs.declared.fault.ViewFault.{ViewFault}
use Rattle.unit_views.specs.declared.view.UnitView.TheVariants as views
use Rattle.unit_any.specs.AnyFields.{AnyFields, HasAnyFields, serial_notify, serial_query}
use Rattle.unit_any.specs.AnyFields.{reset_query, cache_response, payload, end_of_data}
use Rattle.unit_any.specs.AnyFields.{cache_reset, error_report}
use Rattle.unit_any.specs.AnyUnits.{serial_of, bare_of}
use Rattle.unit_any.specs.SessionViews.{ShowsUnit, IsSessionFault}
use Rattle.unit_any.specs.declared.session_view.SessionView.{SessionView}
use Rattle.unit_any.specs.declared.session_view.SessionView.TheVariants as session
use Rattle.unit_any.proofs.Units.{payload_has, end_has, report_has}
use Rattle.rtr_c.specs.PrivateShown.{ShowsView, IsOfSize, serial_at, CallRefuses}
use Rattle.rtr_c.specs.ShownUnits.{none, bare_shown, address_shown, key_shown, aspa_shown, InOrder}
use Rattle.rtr_c.specs.ShownUnits.{CallShows, ShowsReport, ShowsFirst}
use Rattle.rtr_c.specs.declared.unit.RtrUnit.{RtrUnit}

abbrev ShowsFields : List ℕ → RtrUnit → Type 0
ShowsFields b u = (f : AnyFields) × HasAnyFields b f × InOrder f × CallShows b f u

pub shows_fields : (v : SessionView) (b : List ℕ) (u : RtrUnit) → ShowsUnit v b →
    ShowsView v (length b) u → ShowsFields b u
shows_fields (session.SerialNotify x) b u (is, has) shown =
    (serial_of serial_notify b, has, tt, shown ∙ ap (serial_at 0 (length b)) is)
shows_fields (session.SerialQuery x) b u (is, has) shown =
    (serial_of serial_query b, has, tt, shown ∙ ap (serial_at 1 (length b)) is)
shows_fields (session.ResetQuery x) b u (is, has) shown = (
  bare_of reset_query b,
  has,
  tt,
  shown ∙ ap (λ l. bare_shown 2 (length b) (version_field l) 0) is,
)
shows_fields (session.CacheResponse x) b u (is, has) shown = (
  bare_of cache_response b,
  has,
  tt,
  shown ∙ ap (λ l. bare_shown 3 (length b) (version_field l) (session_field l)) is,
)
shows_fields (session.Data (views.Origin v)) b u (f, is) shown =
    let at = prefix_at f b in
    let (ver, flags, prefix, most, asn) = is.shows in (
      payload (prefix_unit at),
      payload_has b (prefix_unit at) is.shape,
      is.lengths,
      shown
          ∙ (λ i. record none {
            size = length b;
            asn = asn i;
            kind = prefix_type (prefix i).family;
            version = ver i;
            action = flags i % 2;
            family = ip_version (prefix i).family;
            prefix_length = (prefix i).len;
            max_length = unwrap_or (most i) (prefix i).len;
            address = address_shown (prefix i).family (prefix i).address;
          }),
    )
shows_fields (session.Data (views.RouterKey v)) b u (is, shape) shown = (
  payload (key_unit (key_at b)),
  payload_has b (key_unit (key_at b)) shape,
  tt,
  shown ∙ ap (λ l. key_shown (length b) (key_at l)) is,
)
shows_fields (session.Data (views.Aspa v)) b u (is, shape) shown =
    let at = aspa_at b in
    let size : length (drop 12 b) ≡ 4 * length at.aspa.providers =
    ap (λ l. length (drop 12 l)) shape.bytes ∙ length-words at.aspa.providers in (
      payload (aspa_unit at),
      payload_has b (aspa_unit at) shape,
      tt,
      shown ∙ ap (λ l. aspa_shown (length b) (length (drop 12 l)) (aspa_at l)) is
          ∙ ap (λ n. aspa_shown (length b) n at) size,
    )
shows_fields (session.Data (views.End e)) b u (is, end) shown =
    (end_of_data (end_meaning e), end_has b (end_meaning e) end, tt, shown)
shows_fields (session.CacheReset x) b u (is, has) shown = (
  bare_of cache_reset b,
  has,
  tt,
  shown ∙ ap (λ l. bare_shown 8 (length b) (version_field l) 0) is,
)
shows_fields (session.Error v) b u (is, report) shown = (
  error_report (version_field b) (session_field b) (drop 8 b),
  report_has b report,
  tt,
  subst (λ l. ShowsReport l u) is shown,
)

pub of_size : (v : SessionView) (b : List ℕ) (n : ℕ) → length b ≡ n → ShowsUnit v b → IsOfSize v n
of_size (session.Error v) b n size (is, report) = ap length is ∙ size
of_size (session.SerialNotify v) b n size is = tt
of_size (session.SerialQuery v) b n size is = tt
of_size (session.ResetQuery v) b n size is = tt
of_size (session.CacheResponse v) b n size is = tt
of_size (session.CacheReset v) b n size is = tt
of_size (session.Data v) b n size is = tt

pub first_shown : (v : SessionView) (n : ℕ) (input : List ℕ) (u : RtrUnit) → n ≤ length input →
    ShowsUnit v (take n input) → ShowsView v n u →
    (r : Result (List ℕ × AnyFields) ViewFault) × ShowsFirst r input u 0
first_shown v n input u within is shown =
    let b = take n input in
    let size : length b ≡ n = length-take-le n input within in
    let (f, has, order, shows) =
    shows_fields v b u is (subst (λ m. ShowsView v m u) (sym size) shown) in
    (Ok (b, f), (drop n input, sym (take-append-drop n input), has, order, shows, refl))

pub first_refused : (e : ViewFault) (size : Option ℕ) (input : List ℕ) (u : RtrUnit) (code : ℕ) →
    IsSessionFault input e size → CallRefuses e input u code →
    (r : Result (List ℕ × AnyFields) ViewFault) × ShowsFirst r input u code
first_refused e size input u code is (shown, said) = (Err e, (size, is, shown, said))
