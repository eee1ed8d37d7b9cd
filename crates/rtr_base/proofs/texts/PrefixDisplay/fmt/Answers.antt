use Rattle.std.proofs.Common.{rules}
use Rattle.std.proofs.Output.{has_written_of_eq}
use Rattle.rtr_base.proofs.AddressTexts.{shown_prefix}
use Rattle.rtr_base.proofs.texts.PrefixDisplay.fmt.Goals as goal

pub returns-clause-writes : goal.returns-clause-writes
returns-clause-writes g c = λ plain ok.
    has_written_of_eq _ _ _ _ _
    (shown_prefix c.args.self.now c.addr.result c.len.result c.addr.ensures.octets
    c.len.ensures.len)
    (search rules)
