use Rattle.std.proofs.Common.{List, ℕ, ◌++◌, ap, ◌∙◌}
use Rattle.data_validation.specs.Covering.{vrp}
use Rattle.validate_work.specs.Answers.{cover_text}
use Rattle.validate_work.proofs.Covering.{ends, goes_on, starts}
use Rattle.validate_work.proofs.answer.add_covers.Goals as goal

pub covers-init : goal.covers-init
covers-init c =
    starts c.args.form c.args.vrps.now c.args.route.now.prefix c.args.route.now.asn _ _
    c.opening-between.ensures

pub covers-preserved : goal.covers-preserved
covers-preserved c =
    let cover = cover_text c.args.form
    (record { vrp = vrp c.in-Some.found.origin; why = c.mismatch.result }) in
    goes_on c.args.form c.args.vrps.now c.args.route.now.prefix c.args.route.now.asn c.covers.from
    c.covers.between.now c.args.line.now c.covers.line _ _ c.in-Some.found c.mismatch.result
    c.covers.invariant c.in-Some.ensures.first c.mismatch.ensures
    (c.in_ok-add_cover.ensures ∙ ap (λ (l : List ℕ). l ++ cover) c.in_ok-text.ensures)
    c.separator-between.ensures

pub returns : goal.returns
returns c =
    ends c.args.form c.args.vrps.now c.args.route.now.prefix c.args.route.now.asn c.covers.from
    c.covers.between.now c.args.line.now c.covers.line c.covers.invariant c.in_default.ensures.first
