use Rattle.std.proofs.Common.{ap, sym, option_map}
use Rattle.unit_any.proofs.Replies.{is_owed}
use Rattle.unit_any.proofs.answering.reply_with_code.Goals as goal

pub returns-in-Some-place_report : goal.returns-in-Some-place_report
returns-in-Some-place_report c = (
  _,
  is_owed _ _ _ _ _ (sym c.if-begins_report.ensures) (ap (option_map (λ c. c.0)) c.in-Some.is),
  c.in-Some-place_report.ensures,
)

pub returns-in-None : goal.returns-in-None
returns-in-None c = (
  _,
  is_owed _ _ _ _ _ (sym c.if-begins_report.ensures) (ap (option_map (λ c. c.0)) c.in-Some.is),
  c.in-None.ensures,
)
