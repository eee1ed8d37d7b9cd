use Rattle.std.proofs.Common.{refl, codes}
use Rattle.validate_work.proofs.Said.{last_said, then_said}
use Rattle.validate_work.proofs.answer.add_cover_object.Goals as goal

pub returns : goal.returns
returns c =
    let line = c.args.line.now in
    let named = then_said line c.add_vrp.new.line c.text.new.self _ (codes ",\"mismatch\":") _ refl
    c.in_ok-add_vrp.ensures c.in_ok-text.ensures in
    let why = then_said line c.text.new.self c.text-2.new.self _ _ _ c.mismatch_value.ensures named
    c.in_ok-text-2.ensures in
    last_said c.text-3.result line c.text-2.new.self c.text-3.new.self _ (codes "}") _ refl why
    c.text-3.ensures
