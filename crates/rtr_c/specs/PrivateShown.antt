-- What is shown of views. Only contracts of private functions cite these.
use Rattle.std.specs.Prelude.{◌≡◌, ℕ, ◌%◌, List, length, drop, ⊤}
use Rattle.rtr_base.specs.Addresses.{ip_version, resolved_len}
use Rattle.rtr_units.specs.AnyEnd.{end_meaning}
use Rattle.rtr_units.specs.FixedUnits.{fixed_bytes}
use Rattle.rtr_units.specs.Header.{version_field, session_field}
use Rattle.rtr_units.specs.PrefixUnits.{prefix_type}
use Rattle.rtr_units.specs.Queries.{serial_field}
use Rattle.rtr_payload.specs.AspaUnits.{aspa_at}
use Rattle.rtr_payload.specs.KeyUnits.{key_at}
use Rattle.rtr_payload.specs.declared.payload.RouteOrigin.{RouteOrigin}
use Rattle.unit_views.specs.declared.fault.ViewFault.{ViewFault}
use Rattle.unit_views.specs.declared.view.UnitView.{UnitView}
use Rattle.unit_views.specs.declared.view.UnitView.TheVariants as views
use Rattle.unit_any.specs.declared.session_view.SessionView.{SessionView}
use Rattle.unit_any.specs.declared.session_view.SessionView.TheVariants as session
use Rattle.rtr_c.specs.Answers.{fault_status}
use Rattle.rtr_c.specs.ShownUnits.{none, serial_shown, bare_shown, address_shown, key_shown}
use Rattle.rtr_c.specs.ShownUnits.{aspa_shown, end_shown, ShowsReport, refused_shown}
use Rattle.rtr_c.specs.declared.unit.RtrUnit.{RtrUnit}

abbrev pub origin_shown : (version flags size : ℕ) → RouteOrigin → RtrUnit
origin_shown v g n o = record none {
  size = n;
  asn = o.asn;
  kind = prefix_type o.prefix.prefix.family;
  version = v;
  action = g % 2;
  family = ip_version o.prefix.prefix.family;
  prefix_length = o.prefix.prefix.len;
  max_length = resolved_len o.prefix;
  address = address_shown o.prefix.prefix.family o.prefix.prefix.address;
}

-- what is shown of a view of n bytes at the front of an input
abbrev pub shown : UnitView → ℕ → RtrUnit
shown (views.Origin v) n = origin_shown v.version v.flags n v.origin
shown (views.RouterKey v) n = key_shown n (key_at v.unit.now)
shown (views.Aspa v) n = aspa_shown n (length (drop 12 v.unit.now)) (aspa_at v.unit.now)
shown (views.End e) n = end_shown n (end_meaning e)

abbrev pub serial_at : (kind n : ℕ) → List ℕ → RtrUnit
serial_at k n b = serial_shown k n (version_field b) (session_field b) (serial_field b)

abbrev pub ShowsView : SessionView → ℕ → RtrUnit → Type 0
ShowsView (session.SerialNotify v) n u = u ≡ serial_at 0 n (fixed_bytes v)
ShowsView (session.SerialQuery v) n u = u ≡ serial_at 1 n (fixed_bytes v)
ShowsView (session.ResetQuery v) n u = u ≡ bare_shown 2 n (version_field (fixed_bytes v)) 0
ShowsView (session.CacheResponse v) n u =
    u ≡ bare_shown 3 n (version_field (fixed_bytes v)) (session_field (fixed_bytes v))
ShowsView (session.Data v) n u = u ≡ shown v n
ShowsView (session.CacheReset v) n u = u ≡ bare_shown 8 n (version_field (fixed_bytes v)) 0
ShowsView (session.Error v) n u = ShowsReport v.unit.now u

-- a report has as many bytes as it is said to have
abbrev pub IsOfSize : SessionView → ℕ → Type 0
IsOfSize (session.Error v) n = length v.unit.now ≡ n
IsOfSize v n = ⊤

-- a refused unit is shown, with its status
abbrev pub CallRefuses : ViewFault → List ℕ → RtrUnit → ℕ → Type 0
CallRefuses e b u code = (u ≡ refused_shown e b) × (code ≡ fault_status e)
