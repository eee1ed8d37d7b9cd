use Rattle.std.proofs.Common.{◌≡◌, drop}
use Rattle.program_frame.proofs.colours.after_space.Given as goal
use Rattle.program_frame.specs.Colours.{after_space}

-- no byte before the place is a space
abbrev pub invariant-loop-place : goal.invariant-loop-place
invariant-loop-place l = after_space (drop l.place l.text) ≡ after_space l.fn.text
