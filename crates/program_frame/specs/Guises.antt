-- What an input looks like by its first four bytes, as one number: JSON, by its first byte (RFC
-- 8259 section 2), or a packet capture, by the magic numbers of pcap files in both orders of bytes,
-- with times in microseconds or in nanoseconds (draft-ietf-opsawg-pcap section 4), and by that of
-- pcapng files (draft-ietf-opsawg-pcapng section 4.1).
use Rattle.std.specs.Prelude.{ℕ, ◌/◌, ◌^◌, Bool, ◌||◌, ◌==◌}
use Rattle.std.specs.Prelude.{Option, Some, None, if◌then◌else◌}
use Rattle.program_frame.specs.declared.guises.Guise.{Guise}
use Rattle.program_frame.specs.declared.guises.Guise.TheVariants.{Json, Capture}

-- `{` or `[`
abbrev pub begins_json : ℕ → Bool
begins_json front = (front / 2 ^ 24 == 123) || (front / 2 ^ 24 == 91)

-- d4c3b2a1, a1b2c3d4, 4d3cb2a1, a1b23c4d, 0a0d0d0a
abbrev pub is_magic : ℕ → Bool
is_magic front =
    (front == 3569595041) || (front == 2712847316) || (front == 1295823521)
    || (front == 2712812621) || (front == 168627466)

abbrev pub guise_of : (front : ℕ) → Option Guise
guise_of front =
    if begins_json front then Some Json else if is_magic front then Some Capture else None
