use Rattle.std.proofs.Common.{◌≡◌, arith, Result, OnOk, Ok, Err}
use Rattle.unit_any.specs.AnyUnits.{any_bytes}
use Rattle.list_lines.specs.PrivateLines.{offset_after}
use Rattle.list_lines.proofs.printer.Printer.print.Goals as goal

always : {T E : Type 0} (r : Result T E) (P : Type 0) → P → OnOk r P
always (Ok x) P p = p
always (Err e) P p = tt

pub returns-then-is_ok-clause-moves : goal.returns-then-is_ok-clause-moves
returns-then-is_ok-clause-moves g c =
    let moved : c.saturating_add-self.result ≡
    offset_after c.args.self.now.offset (any_bytes c.args.unit.now) =
    omega (
      arith,
      c.saturating_add-self.ensures,
      c.from.ensures,
      c.size.ensures,
      c.print_lines-answer.ensures.offset,
    ) in
    always c.print_lines-answer.result _ moved
