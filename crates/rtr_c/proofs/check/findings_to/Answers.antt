use Rattle.std.proofs.Common.{rules}
use Rattle.rtr_c.proofs.ChecksTold.{seven_told}
use Rattle.rtr_c.proofs.check.findings_to.Goals as goal

pub returns : goal.returns
returns c =
    seven_told c.args.slots c.finding_to.result c.finding_to-2.result c.finding_to-3.result
    c.finding_to-4.result c.finding_to-5.result c.finding_to-6.result c.finding_to-7.result
    (search rules) c.finding_to.ensures c.finding_to-2.ensures c.finding_to-3.ensures
    c.finding_to-4.ensures c.finding_to-5.ensures c.finding_to-6.ensures c.finding_to-7.ensures
