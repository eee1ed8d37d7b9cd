-- What is known of a sequence after units, and what is found of the next one (this library's own).
use Rattle.std.specs.Prelude.{List, [], ◌∷◌, ◌++◌, Option, Some, None}
use Rattle.unit_any.specs.AnyFields.{AnyFields}
use Rattle.text_findings.specs.SequenceSoFar.{given_session, given_version, oldest, sequence}
use Rattle.text_findings.specs.SequenceSoFar.{stage_of}
use Rattle.text_findings.specs.declared.finding.Finding.{Finding}
use Rattle.text_findings.specs.declared.sequence.SequenceState.{SequenceState}

-- the state after these units, newest first
abbrev pub known_after : List AnyFields → SequenceState
known_after history = record {
  version = oldest given_version (sequence history);
  session = oldest given_session (sequence history);
  stage = stage_of (sequence history);
}

-- the finding, if there is one
abbrev pub found_in : Option Finding → List Finding
found_in (Some finding) = finding ∷ []
found_in None = []

-- the findings, in their order
abbrev pub found_list : List (Option Finding) → List Finding
found_list [] = []
found_list (slot ∷ slots) = found_in slot ++ found_list slots
