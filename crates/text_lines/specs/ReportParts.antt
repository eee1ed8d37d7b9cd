-- The two parts of an error report, by the bytes after its header: the unit that it speaks of and
-- its text, each after its length of four bytes (RFC 8210 section 5.11).
use Rattle.std.specs.Prelude.{ℕ, ◌+◌, ◌==◌, Bool, List, length, take, drop}
use Rattle.std.specs.Prelude.{Option, Some, None, if◌then◌else◌}
use Rattle.rtr_base.specs.Bytes.{value}

-- how long the unit is
abbrev pub pdu_size : List ℕ → ℕ
pdu_size body = value (take 4 body)

-- what follows the unit: the length of the text, and the text
abbrev pub text_part : List ℕ → List ℕ
text_part body = drop (pdu_size body) (drop 4 body)

-- how long the text is
abbrev pub text_size : List ℕ → ℕ
text_size body = value (take 4 (text_part body))

-- whether the two parts, with their lengths, make up the report exactly
abbrev pub parts_fill : List ℕ → Bool
parts_fill body = length body == 8 + pdu_size body + text_size body

-- the unit and the text, where they make up the report
abbrev pub report_parts : List ℕ → Option (List ℕ × List ℕ)
report_parts body = if parts_fill body
    then Some (take (pdu_size body) (drop 4 body), drop 4 (text_part body))
    else None
