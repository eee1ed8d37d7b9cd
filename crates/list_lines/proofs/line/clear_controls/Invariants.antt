use Rattle.std.proofs.Common.{◌≡◌, ◌++◌, take, drop, map, max}
use Rattle.list_lines.proofs.line.clear_controls.Given as goal

-- the bytes before this one are made spaces where they are below 32, and those from it on stay
abbrev pub invariant-loop-byte : goal.invariant-loop-byte
invariant-loop-byte l =
    l.text ≡ map (λ byte. max byte 32) (take l.byte-index l.initial.text)
    ++ drop l.byte-index l.initial.text
