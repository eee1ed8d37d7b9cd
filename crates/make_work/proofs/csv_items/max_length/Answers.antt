use Rattle.std.proofs.Common.{refl, sym, ◌∙◌}
use Rattle.rtr_base.proofs.Parsing.{reads_len}
use Rattle.make_work.proofs.Rows.{no_length, not_empty}
use Rattle.make_work.proofs.csv_items.max_length.Goals as goal

pub returns-in-Ok : goal.returns-in-Ok
returns-in-Ok c = reads_len c.args.text.now c.in-Ok.length c.in-Ok.ensures.value.0

pub returns-in-Err : goal.returns-in-Err
returns-in-Err c = (
  refl,
  no_length c.args.text.now
      (not_empty c.args.text.now (sym c.is_empty.ensures ∙ c.if-is_empty.false))
      c.in-Err.ensures.value.0,
)
