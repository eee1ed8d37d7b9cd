use Rattle.std.proofs.Common.{rules}
use Rattle.program_frame.proofs.names.file_after.Goals as goal

pub returns-then-is_file_name : goal.returns-then-is_file_name
returns-then-is_file_name c = (
  c.in_ok-last.last.now,
  c.in_ok-last.ensures.cases.0,
  c.as_str-name.ensures.value,
  search rules,
)
