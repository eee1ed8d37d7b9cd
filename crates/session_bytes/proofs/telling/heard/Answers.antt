use native.Mathlib.Omega.{arith}
use Rattle.std.proofs.Common.{refl, sym, ◌∙◌}
use Rattle.session_bytes.proofs.Heads.{first_unit}
use Rattle.session_bytes.proofs.Left.{not_refused}
use Rattle.session_bytes.proofs.telling.heard.Goals as goal

pub returns-clause-unit : goal.returns-clause-unit
returns-clause-unit c =
    let (header, fine, size) = c.in-Ok.ensures.size in
    let bounds = c.bounded_lengths.ensures c.args.input.now c.in-Ok.first.1 c.in-Ok.ensures.size in
    record {
      head = c.head_of-head.result;
      unit = first_unit c.in-Ok.first.0 c.in-Ok.first.1 c.u32_at.result c.args.input.now
          c.head_of-head.result c.in-Ok.ensures.within (c.u32_at.ensures ∙ sym size)
          c.in-Ok.ensures.view c.head_of-head.ensures;
      some = omega (arith, bounds.least);
      within = c.in-Ok.ensures.within;
      step = c.hear.ensures.steps;
    }

pub returns-in-Err-clause-none : goal.returns-in-Err-clause-none
returns-in-Err-clause-none c =
    λ none. (
      refl,
      not_refused c.args.input.now c.in-Err.field-0.fault c.in-Err.field-0.size
          c.in-Err.ensures.fault,
    )
