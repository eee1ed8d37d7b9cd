-- The texts that C gets: those of faults are the same as the faults' own, those of causes, reasons
-- and refusals the same as in reports, and the others are this library's own. The names of error
-- codes are those of RFC 8210 section 12.
use Rattle.std.specs.Prelude.{◌≡◌, ℕ, List, [], ◌++◌, length, codes, decimal, Option, Some, None}
use Rattle.std.specs.Prelude.{◌==◌, ◌&&◌, nat_le, nat_lt, if◌then◌else◌, map, take}
use Rattle.rtr_base.specs.PlainTexts.{code_name}
use Rattle.session_router.specs.Texts.{cause_text}
use Rattle.session_cache.specs.ReasonTexts.{reason_text}
use Rattle.session_bytes.specs.Sent.{refusal_name, refusal_text}
use Rattle.session_bytes.specs.declared.refusal.Refusal.{Refusal}
use Rattle.session_bytes.specs.declared.refusal.Refusal.TheVariants as refusals
use Rattle.text_lines.specs.Laying.{Lays}
use Rattle.rtr_c.specs.Answers.{rtr_ok, rtr_short, rtr_unit_type, rtr_unit_version, rtr_too_long}
use Rattle.rtr_c.specs.Answers.{rtr_unit_length, rtr_empty_providers, rtr_prefix, rtr_too_many}
use Rattle.rtr_c.specs.Answers.{rtr_no_room, rtr_no_form, rtr_not_canonical, rtr_other_session}
use Rattle.rtr_c.specs.Answers.{rtr_duplicate, rtr_unknown, rtr_undecided, rtr_no_index}
use Rattle.rtr_c.specs.Answers.{rtr_too_many_members, rtr_other_version, rtr_old_serial}
use Rattle.rtr_c.specs.Answers.{rtr_reset_inside, rtr_report_inside}
use Rattle.rtr_c.specs.LineAnswers.{line_status}
use Rattle.rtr_c.specs.RouterActions.{numbered_cause, refusal_at}
use Rattle.rtr_c.specs.Servings.{numbered_reason}
use Rattle.rtr_c.specs.TimeRules.{time_rule_name}

-- a name where there is one, and else a label and the number
abbrev pub name_or : Option (List ℕ) → List ℕ → ℕ → List ℕ
name_or (Some name) label n = name
name_or None label n = label ++ decimal n

-- ---- statuses

-- of a status without its detail
unfoldable pub status_name : ℕ → Option (List ℕ)
status_name s =
    if s == rtr_ok then Some (codes "accepted")
    else if s == rtr_short then Some (refusal_name refusals.Short)
    else if s == rtr_unit_type then Some (refusal_name (refusals.UnitType 0))
    else if s == rtr_unit_version then Some (refusal_name (refusals.UnitVersion 0))
    else if s == rtr_too_long then Some (refusal_name refusals.TooLong)
    else if s == rtr_unit_length then Some (refusal_name refusals.UnitLength)
    else if s == rtr_empty_providers then Some (refusal_name refusals.EmptyProviders)
    else if s == rtr_prefix then Some (refusal_name (refusals.Prefix None))
    else if s == rtr_too_many then Some (codes "too many units")
    else if s == rtr_no_room then Some (codes "no room in the output")
    else if s == rtr_no_form then Some (codes "no unit has these fields")
    else if s == rtr_not_canonical then Some (codes "not in canonical form")
    else if s == rtr_other_session then Some (codes "of another session")
    else if s == rtr_duplicate then Some (refusal_name refusals.Duplicate)
    else if s == rtr_unknown then Some (refusal_name refusals.Unknown)
    else if s == rtr_undecided then Some (codes "an ASPA is announced and then withdrawn")
    else if s == rtr_no_index then Some (codes "no room in the index")
    else if s == rtr_too_many_members then Some (codes "too many members")
    else if s == rtr_other_version then Some (codes "of another version than the units before")
    else if s == rtr_old_serial then Some (codes "serial number before that of the data")
    else if s == rtr_reset_inside then Some (codes "cache reset inside an answer")
    else if s == rtr_report_inside then Some (codes "error report inside an answer")
    else None

-- of a status that is a refusal the same as in a report
abbrev refused_or : Option Refusal → ℕ → List ℕ
refused_or (Some r) s = refusal_text r
refused_or None s = name_or (status_name s) (codes "unknown status ") s

-- of a status with its detail: unit type 5 is not allowed here
abbrev pub status_said : (status detail : ℕ) → List ℕ
status_said s d = refused_or (refusal_at s d) s

-- of the unit at this offset: invalid unit length, at byte 20
abbrev pub said_at : (status detail offset : ℕ) → List ℕ
said_at s d n = status_said s d ++ (codes ", at byte " ++ decimal n)

-- ---- names

unfoldable pub type_name : ℕ → Option (List ℕ)
type_name n =
    if n == 0 then Some (codes "serial notify")
    else if n == 1 then Some (codes "serial query")
    else if n == 2 then Some (codes "reset query")
    else if n == 3 then Some (codes "cache response")
    else if n == 4 then Some (codes "IPv4 prefix")
    else if n == 6 then Some (codes "IPv6 prefix")
    else if n == 7 then Some (codes "end of data")
    else if n == 8 then Some (codes "cache reset")
    else if n == 9 then Some (codes "router key")
    else if n == 10 then Some (codes "error report")
    else if n == 11 then Some (codes "ASPA")
    else None

abbrev pub cause_name : ℕ → Option (List ℕ)
cause_name n = if nat_lt n 16 then Some (cause_text (numbered_cause n)) else None

abbrev pub reason_name : ℕ → Option (List ℕ)
reason_name n = if nat_lt n 10 then Some (reason_text (numbered_reason n)) else None

abbrev pub code_said : ℕ → List ℕ
code_said n = name_or (code_name n) (codes "error code ") n

-- the name of this number: of a status, a kind, a cause, a reason or an error code, or the text of
-- a rule on times
abbrev pub name_said : (named number : ℕ) → List ℕ
name_said named n =
    if named == 0 then name_or (status_name n) (codes "unknown status ") n
    else if named == 1 then name_or (type_name n) (codes "type ") n
    else if named == 2 then name_or (cause_name n) (codes "unknown cause ") n
    else if named == 3 then name_or (reason_name n) (codes "unknown reason ") n
    else if named == 4 then code_said n
    else if named == 5 then name_or (time_rule_name n) (codes "unknown time rule ") n
    else []

-- ---- error reports of a peer

-- printable ASCII stays as it is, and any other byte is a question mark
abbrev pub quoted_byte : ℕ → ℕ
quoted_byte b = if nat_le 32 b && nat_le b 126 then b else 63

-- the first bytes of a text
abbrev pub quoted : List ℕ → List ℕ
quoted text = map quoted_byte (take 100 text)

-- these in quotes; nothing of an empty text
abbrev pub quotation : List ℕ → List ℕ
quotation text =
    if length text == 0 then [] else codes ", \"" ++ (quoted text ++ codes "\"")

-- the name of the code, and the text: No Data Available, "later"
abbrev pub reported_text : (code : ℕ) → List ℕ → List ℕ
reported_text c text = code_said c ++ quotation text

-- ---- what is answered

-- The text was laid over the front of the output, as far as that has room; its length is answered
-- in full.
pub record AnswersText (text before after : List ℕ) (size code : ℕ) : Type 0 where
  pub laid : Lays text 0 before size after
  pub answered : code ≡ line_status size (length before)
