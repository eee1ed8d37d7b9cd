-- The text of a summary: this program's own.
use Rattle.std.specs.Prelude.{◌≡◌, ℕ, ◌++◌, [], Bool, true, false, List, Option, None, Result}
use Rattle.std.specs.Prelude.{codes, decimal, length}
use Rattle.rtr_units.specs.StopCauses.{WriterState, by_cause, writer_count}
use Rattle.rtr_units.specs.declared.fault.Fault.{Fault as UnitFault}
use Rattle.validate_work.specs.LinesAnswered.{WritesAnswerText}
use Rattle.validate_work.specs.RouteOrigins.{AreNextRows, rows_text}
use Rattle.validate_work.specs.RouteStates.{states_text}
use Rattle.validate_work.specs.declared.counts.Counts.{Counts}
use Rattle.validate_work.specs.declared.counts.Summary.{Summary}
use Rattle.validate_work.specs.declared.form.Form.{Form}
use Rattle.validate_work.specs.declared.form.Form.TheVariants.{Text, Json}
use Rattle.validate_work.specs.declared.origins.OriginRow.{OriginRow}
use Rattle.validate_work.specs.declared.states.Turns.{Turns}

-- how many origin ASes are listed at most
abbrev pub most_origins : ℕ
most_origins = 20

-- ---- one list

abbrev pub counts_text : (valid invalid not_found refused : List ℕ) → Counts → List ℕ
counts_text valid invalid not_found refused c =
    (valid ++ decimal c.valid) ++ (invalid ++ decimal c.invalid)
    ++ (not_found ++ decimal c.not_found) ++ (refused ++ decimal c.refused)

-- four lines, or {"valid":1,"invalid":2,"not found":3,"refused":4
abbrev pub form_counts_text : Form → Counts → List ℕ
form_counts_text Text c = counts_text (codes "valid ") (codes "\ninvalid ")
    (codes "\nnot found ") (codes "\nrefused ") c
form_counts_text Json c = counts_text (codes "{\"valid\":") (codes ",\"invalid\":")
    (codes ",\"not found\":") (codes ",\"refused\":") c

-- how many origin ASes there are: a line, or ,"origin count":5,"origins":[
abbrev pub origins_head : Form → (count : ℕ) → List ℕ
origins_head Text n = (codes "\norigins " ++ decimal n) ++ codes "\n"
origins_head Json n = (codes ",\"origin count\":" ++ decimal n) ++ codes ",\"origins\":["

abbrev pub origins_end : Form → List ℕ
origins_end Text = []
origins_end Json = codes "]}\n"

abbrev pub by_origin_text : Form → Summary → List OriginRow → List ℕ
by_origin_text form s rows = form_counts_text form s.counts
    ++ origins_head form (length s.origins.entries) ++ rows_text form None rows ++ origins_end form

-- ---- two lists

-- nine lines and the refused ones, or
-- {"valid":{"valid":1,"invalid":2,"not found":3},"invalid":{..},"not found":{..},"refused":4}
abbrev pub form_turns_text : Form → Turns → (refused : ℕ) → List ℕ
form_turns_text Text t n =
    states_text (codes "valid to valid ") (codes "\nvalid to invalid ")
    (codes "\nvalid to not found ") (codes "\n") t.valid
    ++ states_text (codes "invalid to valid ") (codes "\ninvalid to invalid ")
    (codes "\ninvalid to not found ") (codes "\n") t.invalid
    ++ states_text (codes "not found to valid ") (codes "\nnot found to invalid ")
    (codes "\nnot found to not found ") (codes "\n") t.not_found
    ++ (codes "refused " ++ decimal n) ++ codes "\n"
form_turns_text Json t n =
    states_text (codes "{\"valid\":{\"valid\":") (codes ",\"invalid\":")
    (codes ",\"not found\":") (codes "}") t.valid
    ++ states_text (codes ",\"invalid\":{\"valid\":") (codes ",\"invalid\":")
    (codes ",\"not found\":") (codes "}") t.invalid
    ++ states_text (codes ",\"not found\":{\"valid\":") (codes ",\"invalid\":")
    (codes ",\"not found\":") (codes "}") t.not_found
    ++ (codes ",\"refused\":" ++ decimal n) ++ codes "}\n"

-- ---- the summary

-- the counts, and the first origin ASes; or how routes turn
abbrev pub IsSummary : Form → (compared : Bool) → Summary → (text : List ℕ) → Type 0
IsSummary form false s text = (rows : List OriginRow)
    × AreNextRows most_origins s.origins.entries None rows × (text ≡ by_origin_text form s rows)
IsSummary form true s text = text ≡ form_turns_text form s.turns s.counts.refused

abbrev pub WritesSummary : Form → (compared : Bool) → Summary → Result (Unit {0}) UnitFault →
    (before after : WriterState) → Type 0
WritesSummary form compared s r before after =
    WritesAnswerText (IsSummary form compared s) (by_cause r) before.held after.held
    × (after.failed ≡ writer_count (by_cause r) before.failed)
