use Rattle.std.proofs.Common.{refl}
use Rattle.diff_work.proofs.program.compare.Goals as goal

pub returns-in-Ok-print_differences-clause-compares :
    goal.returns-in-Ok-print_differences-clause-compares
returns-in-Ok-print_differences-clause-compares g c = record {
  both = record {
    first = c.in-Ok.recording;
    second = c.in-Ok-read_recording.recording;
    first_read = c.in-Ok.ensures.bytes;
    second_read = c.in-Ok-read_recording.ensures.bytes;
    prints = (
      c.in-Ok-print_differences.ensures.prints,
      c.in-Ok-print_differences.ensures.any,
    );
  };
  old_cut = refl;
  new_cut = refl;
}
