use Rattle.std.proofs.Common.{rules}
use Rattle.rtr_base.specs.Addresses.{v4}
use Rattle.rtr_units.specs.FixedUnits.{fixed_bytes}
use Rattle.rtr_units.specs.PrefixUnits.{prefix_at}
use Rattle.rtr_payload.specs.RouteOrigins.{meant_origin}
use Rattle.text_findings.proofs.NamesLaid.{none_laid, origin_laid}
use Rattle.text_findings.proofs.naming.ipv4_name.Goals as goal

pub returns-in-Ok : goal.returns-in-Ok
returns-in-Ok c =
    origin_laid _ (meant_origin (prefix_at v4 (fixed_bytes c.args.unit.now)).origin) _ _ _ _
    (search rules) (search rules) c.origin_name.ensures

pub returns-in-Err : goal.returns-in-Err
returns-in-Err c =
    none_laid _ (meant_origin (prefix_at v4 (fixed_bytes c.args.unit.now)).origin)
    c.in-Err.field-0 _ (search rules)
