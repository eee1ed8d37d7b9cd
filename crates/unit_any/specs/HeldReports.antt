-- Error reports that are written into a slice (RFC 8210 section 5.11, which lets the unit that is
-- reported be cut). That the unit goes before the text is this library's own.
use Rattle.std.specs.Prelude.{ℕ, ◌-◌, List, length, take}
use Rattle.rtr_units.specs.Report.{report}

-- the most bytes of a unit and a text: a report has at most 65535 bytes, of which 16 are its header
-- and two lengths
abbrev pub most_held : ℕ
most_held = 65519

-- So much is held of the unit p that the report speaks of,
abbrev pub held_unit : List ℕ → List ℕ
held_unit p = take most_held p

-- and so much of the text t, for which there is the room that the unit leaves.
abbrev pub held_text : (p t : List ℕ) → List ℕ
held_text p t = take (most_held - length (held_unit p)) t

abbrev pub held_report : ℕ → ℕ → List ℕ → List ℕ → List ℕ
held_report v code p t = report v code (held_unit p) (held_text p t)
