-- What a router's machine sees of a view. Only contracts of private functions cite this.
use Rattle.std.specs.Prelude.{ℕ}
use Rattle.rtr_units.specs.AnyEnd.{end_meaning}
use Rattle.rtr_units.specs.FixedUnits.{fixed_bytes}
use Rattle.rtr_units.specs.Header.{version_field, session_field}
use Rattle.rtr_units.specs.Queries.{serial_field}
use Rattle.unit_views.specs.declared.view.UnitView.{UnitView}
use Rattle.unit_views.specs.declared.view.UnitView.TheVariants as views
use Rattle.unit_any.specs.declared.session_view.SessionView.{SessionView}
use Rattle.unit_any.specs.declared.session_view.SessionView.TheVariants as session
use Rattle.session_router.specs.declared.head.Head.{Head}
use Rattle.session_router.specs.declared.head.Kind.TheVariants as kinds
use Rattle.session_bytes.specs.Heads.{bare_head, serial_head, end_head}

abbrev pub data_head : UnitView → ℕ → Head
data_head (views.Origin v) n = bare_head kinds.Prefix v.version n
data_head (views.RouterKey v) n = bare_head kinds.RouterKey (version_field v.unit.now) n
data_head (views.Aspa v) n = bare_head kinds.Aspa (version_field v.unit.now) n
data_head (views.End e) n = end_head (end_meaning e) n

abbrev pub shown_head : SessionView → ℕ → Head
shown_head (session.SerialNotify u) n =
    let b = fixed_bytes u in
    serial_head kinds.SerialNotify (version_field b) (session_field b) (serial_field b) n
shown_head (session.SerialQuery u) n =
    let b = fixed_bytes u in
    serial_head kinds.SerialQuery (version_field b) (session_field b) (serial_field b) n
shown_head (session.ResetQuery u) n =
    bare_head kinds.ResetQuery (version_field (fixed_bytes u)) n
shown_head (session.CacheResponse u) n =
    record (bare_head kinds.CacheResponse (version_field (fixed_bytes u)) n) {
      session = session_field (fixed_bytes u);
    }
shown_head (session.Data v) n = data_head v n
shown_head (session.CacheReset u) n =
    bare_head kinds.CacheReset (version_field (fixed_bytes u)) n
shown_head (session.Error v) n =
    record (bare_head kinds.ErrorReport (version_field v.unit.now) n) {
      code = record { 0 = session_field v.unit.now };
    }
