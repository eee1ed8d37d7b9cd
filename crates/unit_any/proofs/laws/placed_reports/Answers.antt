use Rattle.std.proofs.Common.{refl}
use Rattle.unit_any.proofs.Held.{held_most, held_is, held_code, held_parts, held_shown}
use Rattle.unit_any.proofs.Held.{held_view}
use Rattle.unit_any.proofs.laws.placed_reports.Goals as goal

pub returns : goal.returns
returns c = record {
  most = held_most;
  report = held_is;
  version = λ v c p t. refl;
  code = held_code;
  parts = held_parts;
  shown = λ v c p t r small unit text. held_shown v c p t small unit text r;
  view = held_view;
}
