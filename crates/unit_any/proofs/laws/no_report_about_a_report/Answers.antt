use Rattle.unit_any.proofs.Held.{none_owed, no_reply}
use Rattle.unit_any.proofs.laws.no_report_about_a_report.Goals as goal

pub returns : goal.returns
returns c = record { unit = none_owed; reply = no_reply }
