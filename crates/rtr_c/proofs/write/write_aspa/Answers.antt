use Rattle.std.proofs.Common.{subst, sym, ◌∙◌}
use Rattle.rtr_c.specs.WrittenUnits.{Writes}
use Rattle.rtr_c.proofs.Forms.{aspa_is, empty_not}
use Rattle.rtr_c.proofs.write.write_aspa.Goals as goal

pub returns : goal.returns
returns c =
    subst (λ is. Writes is c.placed-2.result c.args.output.now c.placed-2.new.output)
    (aspa_is c.args.unit.now c.args.input.now c.in-Some.providers.now _ c.in-Some.ensures.bytes
    (sym c.in-Some.ensures.part) c.if-unit-gt1.false c.if-unit-eq0.false
    c.if-providers-gt-MAX_PROVIDERS.false c.if-providers-ne0.false
    (empty_not _ (sym c.is_empty.ensures ∙ c.if-is_empty.false)) c.aspa_front-2.ensures)
    c.placed-2.ensures
