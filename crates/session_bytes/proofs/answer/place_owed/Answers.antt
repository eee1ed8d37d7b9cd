use Rattle.std.proofs.Common.{List, ℕ, sym, subst}
use Rattle.unit_views.specs.Placing.{Places}
use Rattle.unit_any.specs.HeldReports.{held_report}
use Rattle.session_bytes.specs.Answered.{PlacesServed}
use Rattle.session_bytes.proofs.answer.place_owed.Goals as goal

pub returns-in-NoData : goal.returns-in-NoData
returns-in-NoData c =
    let placed : List ℕ → List ℕ → Type 0 = λ unit text.
    Places c.place_report.result (held_report c.args.version 2 unit text) c.args.output.now
    c.place_report.new.output in
    let about = subst (λ unit. placed unit c.as_bytes.result.now) c.unit_of.ensures
    c.place_report.ensures in
    subst
    (λ a. PlacesServed c.args.version a c.args.refusal c.args.about.now c.place_report.result
    c.args.output.now c.place_report.new.output)
    (sym c.in-NoData.is) (subst (placed _) c.as_bytes.ensures.value about)
