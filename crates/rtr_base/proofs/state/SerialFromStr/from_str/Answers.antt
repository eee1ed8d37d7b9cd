use Rattle.std.proofs.lemmas.Result.{err_from_is_err_and}
use Rattle.rtr_base.proofs.Parsing.{reads_number, refuses_others}
use Rattle.rtr_base.proofs.state.SerialFromStr.from_str.Goals as goal

pub returns-in_err-parse : goal.returns-in_err-parse
returns-in_err-parse c =
    let p = err_from_is_err_and c.from_residual.result c.from_residual.ensures.1 in
    rw p.1 (refuses_others c.args.s.now c.in_err-parse.ensures.value.0)

pub returns : goal.returns
returns c = reads_number c.args.s.now c.in_ok-parse.field-0 c.in_ok-parse.ensures.value.0
