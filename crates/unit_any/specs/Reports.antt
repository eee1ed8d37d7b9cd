-- Error reports that are read (RFC 8210 section 5.11, RFC 6810 section 5.10).
use Rattle.std.specs.Prelude.{◌≡◌, ℕ, List}
use Rattle.rtr_units.specs.Header.{version_field, session_field}
use Rattle.rtr_units.specs.Reading.{IsWhole}
use Rattle.rtr_units.specs.Report.{report}
use Rattle.unit_any.specs.SessionKinds.{report_unit}

-- these are the bytes of an error report, whatever the lengths inside it say
abbrev pub IsReport : List ℕ → Type 0
IsReport = IsWhole report_unit

-- The lengths inside the report u fit: the unit p that it speaks of and the text t, each after its
-- length of four bytes, make it up exactly (RFC 8210 section 5.11).
abbrev pub HasParts : List ℕ → List ℕ → List ℕ → Type 0
HasParts u p t = u ≡ report (version_field u) (session_field u) p t
