-- Where the end of data stands in data in canonical form (RFC 8210 and RFC 6810, section 5.8).
use Rattle.std.specs.Prelude.{◌-◌, ◌==◌, ℕ, List, if◌then◌else◌, length, slice_index}

-- how many bytes an end of data of this version has
abbrev pub end_size : ℕ → ℕ
end_size v = if v == 0 then 12 else 24

-- The offset of an end of data of the first unit's version at the end of the bytes, or 0 if they
-- are too short for it.
abbrev pub end_offset : List ℕ → ℕ
end_offset b = length b - end_size (slice_index b 0)
