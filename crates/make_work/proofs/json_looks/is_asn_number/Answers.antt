use Rattle.std.proofs.Common.{ℕ, sym, subst, Decides}
use Rattle.rtr_base.specs.Numerals.{IsSerialText}
use Rattle.make_work.proofs.Looks.{number_told}
use Rattle.make_work.proofs.json_looks.is_asn_number.Goals as goal

pub returns : goal.returns
returns c =
    subst (λ b. Decides b ((n : ℕ) × IsSerialText c.args.text.now n)) (sym c.is_ok.ensures.value)
    (number_told c.asn_of_number.result c.args.text.now c.asn_of_number.ensures)
