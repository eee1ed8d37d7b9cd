-- The names that a caller keeps, who does with each unit as it is told: it empties its set with a
-- unit that begins a sequence, puts the name of an announcement into it, and takes the name of a
-- withdrawal out of it (this library's own). Units are a list, the newest first.
use Rattle.std.specs.Prelude.{◌≡◌, ℕ, Bool, true, false, List, [], ◌∷◌, Option, Some, None, ⊤}
use Rattle.std.specs.Prelude.{if◌then◌else◌}
use Rattle.std.specs.List.{AllByRecursion}
use Rattle.std.specs.Str.{bytes_eq}
use Rattle.rtr_payload.specs.Payloads.{Payload}
use Rattle.unit_any.specs.AnyFields.{AnyFields, AnyFit, cache_response, end_of_data}
use Rattle.text_findings.specs.PayloadNames.{unit_name}
use Rattle.text_findings.specs.SequenceSoFar.{announced, announces}

-- whether a sequence begins with the unit, before which nothing is announced in it
abbrev pub begins_sequence : AnyFields → Bool
begins_sequence (cache_response version session) = true
begins_sequence (end_of_data meaning) = true
begins_sequence unit = false

-- whether the name is in the set after these units
abbrev pub has_kept : List AnyFields → List ℕ → Bool
has_kept [] name = false
has_kept (newest ∷ before) name =
    if begins_sequence newest then false
    else if bytes_eq (unit_name newest) name then announces newest
    else has_kept before name

-- the numbers of each unit fit their places
abbrev pub AllFit : List AnyFields → Type 0
AllFit = AllByRecursion AnyFit

-- what is said of the payload that a unit names is so: whether it is announced in the sequence of
-- these units
abbrev pub IsAnnouncedAs : Bool → List AnyFields → Option Payload → Type 0
IsAnnouncedAs there units (Some p) = there ≡ announced units p
IsAnnouncedAs there units None = ⊤
