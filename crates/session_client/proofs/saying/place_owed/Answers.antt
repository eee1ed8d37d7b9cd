use Rattle.session_client.proofs.Reports.{owed}
use Rattle.session_client.proofs.saying.place_owed.Goals as goal

pub returns-in-Some : goal.returns-in-Some
returns-in-Some c =
    owed c.args.version c.args.ending.now c.args.refusal c.args.about.now c.place_ending.result
    c.args.output.now c.place_ending.new.output c.args.ending.now.report c.in-Some.field-0
    c.in-Some.is c.place_ending.ensures
