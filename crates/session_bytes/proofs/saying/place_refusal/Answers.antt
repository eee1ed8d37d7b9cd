use Rattle.std.proofs.Common.{◌∙◌, refl, subst}
use Rattle.unit_views.specs.Placing.{Places}
use Rattle.unit_any.specs.HeldReports.{held_report}
use Rattle.session_bytes.proofs.ShortTexts.{laid_front, laid_inside}
use Rattle.session_bytes.proofs.saying.place_refusal.Goals as goal

pub split_at-requires : goal.split_at-requires
split_at-requires c =
    laid_inside _ _ _ _ c.lay-end.ensures.laid refl c.lay-end.ensures.short

pub returns : goal.returns
returns c =
    subst
    (λ text. Places c.place_report.result
    (held_report c.args.version c.args.code.0 c.args.unit.now text) c.args.output.now
    c.place_report.new.output)
    (c.split_at.ensures.front
    ∙ laid_front _ _ _ _ c.lay-end.ensures.laid refl c.lay-end.ensures.short)
    c.place_report.ensures
