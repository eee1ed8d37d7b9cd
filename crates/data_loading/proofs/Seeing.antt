-- What is seen of a unit.
use Rattle.std.proofs.Common.{◌≡◌, ◌≤◌, ℕ, List, length, refl, sym, ap, subst, ◌∙◌}
use Rattle.rtr_units.specs.AnyEnd.{end_meaning}
use Rattle.rtr_units.specs.End.{IsEnd}
use Rattle.rtr_units.specs.Header.{session_field, version_field}
use Rattle.rtr_units.specs.declared.end.EndOfData.{EndOfData}
use Rattle.rtr_payload.specs.Payloads.{Meaning}
use Rattle.rtr_payload.specs.UnitFields.{meaning}
use Rattle.rtr_payload.specs.Units.{IsUnit}
use Rattle.rtr_payload.proofs.ByFields.{unit_fields_of}
use Rattle.unit_views.specs.Views.{IsViewOf}
use Rattle.unit_views.specs.declared.view.UnitView.TheVariants as views
use Rattle.unit_views.specs.declared.aspa.AspaView.{AspaView}
use Rattle.unit_views.specs.declared.origin.OriginView.{OriginView}
use Rattle.unit_views.specs.declared.router_key.RouterKeyView.{RouterKeyView}
use Rattle.unit_any.specs.AnyFields.{HasAnyFields, cache_reset, cache_response, end_of_data}
use Rattle.unit_any.specs.AnyFields.{payload, reset_query, serial_notify}
use Rattle.unit_any.specs.AnyFields.{serial_query}
use Rattle.unit_any.specs.AnyUnits.{bare_of, serial_of}
use Rattle.unit_any.specs.Reports.{IsReport}
use Rattle.unit_any.proofs.Units.{end_has, payload_has, report_has}
use Rattle.unit_any.proofs.Wholes.{any_whole}
use Rattle.data_slices.proofs.Sequences.{item_of_view}
use Rattle.data_loading.specs.PrivateLoading.{Sees}
use Rattle.data_loading.specs.declared.seen.Seen.{Seen}
use Rattle.data_loading.specs.declared.seen.Seen.TheVariants as seens

-- ---- payload units

sees_payload : (b : List ℕ) (m : Meaning) (v : ℕ) → IsUnit b m → v ≡ m.version →
    Sees (seens.Payload v) b
sees_payload b m v is same =
    let h = unit_fields_of b m is in
    let means : m ≡ meaning h.fields = h.means in (
      payload h.fields,
      payload_has b h.fields h.shape,
      h.lengths,
      (
        h.fields,
        refl,
        ap (λ (x : Meaning). x.version) (sym means) ∙ sym same,
        subst (IsUnit b) means is,
      ),
    )

pub sees_origin : (w : OriginView) (b : List ℕ) (v : ℕ) → IsViewOf (views.Origin w) b →
    v ≡ w.version → Sees (seens.Payload v) b
sees_origin w b v is same = sees_payload b _ v (item_of_view (views.Origin w) b is).0 same

pub sees_key : (w : RouterKeyView) (b : List ℕ) (v : ℕ) → IsViewOf (views.RouterKey w) b →
    v ≡ version_field w.unit.now → Sees (seens.Payload v) b
sees_key w b v is same = sees_payload b _ v (item_of_view (views.RouterKey w) b is).0 same

pub sees_aspa : (w : AspaView) (b : List ℕ) (v : ℕ) → IsViewOf (views.Aspa w) b →
    v ≡ version_field w.unit.now → Sees (seens.Payload v) b
sees_aspa w b v is same = sees_payload b _ v (item_of_view (views.Aspa w) b is).0 same

-- ---- others

pub sees_end : (e : EndOfData) (b : List ℕ) → IsViewOf (views.End e) b → Sees (seens.End e) b
sees_end e b (same, is) = (
  end_of_data (end_meaning e),
  end_has b (end_meaning e) is,
  tt,
  (refl, subst (λ l. IsEnd l (end_meaning e)) (sym same) is),
)

module _ (b : List ℕ) where
  pub sees_response : (s : ℕ) → s ≡ session_field b →
      HasAnyFields b (bare_of cache_response b) → Sees (seens.Response s) b
  sees_response s same has = (
    bare_of cache_response b,
    has,
    tt,
    (version_field b, ap (λ n. cache_response (version_field b) n) (sym same)),
  )

  pub sees_reset : HasAnyFields b (bare_of cache_reset b) → Sees seens.Reset b
  sees_reset has =
      (bare_of cache_reset b, has, tt, (version_field b, session_field b, refl))

  pub sees_report : IsReport b → Sees seens.Report b
  sees_report is = (_, report_has b is, tt, (_, _, _, refl))

  pub sees_asks_all : HasAnyFields b (bare_of reset_query b) → Sees seens.AsksAll b
  sees_asks_all has =
      (bare_of reset_query b, has, tt, (version_field b, session_field b, refl))

  pub sees_asks_changes : HasAnyFields b (serial_of serial_query b) → Sees seens.AsksChanges b
  sees_asks_changes has = (serial_of serial_query b, has, tt, (_, _, _, refl))

  pub sees_notifies : HasAnyFields b (serial_of serial_notify b) → Sees seens.Notifies b
  sees_notifies has = (serial_of serial_notify b, has, tt, (_, _, _, refl))

-- a unit has bytes
pub seen_bytes : (x : Seen) (b : List ℕ) → Sees x b → 8 ≤ length b
seen_bytes x b s = (any_whole b s.0 s.1).header
