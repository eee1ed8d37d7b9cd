use Rattle.std.proofs.Common.{◌++◌, ◌∙◌, ap}
use Rattle.unit_any.specs.AnyUnits.{any_fields}
use Rattle.text_lines.specs.ListedUnits.{fields_listed}
use Rattle.text_findings.specs.CheckedUnits.{found_list}
use Rattle.list_lines.proofs.Knowing.{on_ok_map, unit_finds}
use Rattle.list_lines.proofs.check.Checker.check.Goals as goal

pub returns : goal.returns
returns c =
    on_ok_map c.put_each.result c.put_each.ensures (λ found.
    unit_finds c.args.self.now (record {
      alloc = c.keep.new.self.alloc;
      state = c.after-self.result;
      announced = c.keep.new.self.announced;
    }) (fields_listed c.listed-listed.result) (any_fields c.args.unit.now)
    c.in_ok-was_there.was_there _ c.listed-listed.ensures c.in_ok-was_there.ensures.keeps
    (λ history known said.
    found ∙ ap (λ l. l ++ found_list c.check-broken.result.slots) c.clear.ensures.items
    ∙ c.check-broken.ensures history (c.keep.ensures.state ∙ known) said)
    (λ history known. c.after-self.ensures history (c.keep.ensures.state ∙ known)))
