-- Which words ask for a table, and how a run that prints one ends: this program's own.
use Rattle.std.specs.Prelude.{◌≡◌, ◌⊎◌, ⊤, ℕ, false, List, [], ◌∷◌, filter, length}
use Rattle.std.specs.Prelude.{Option, Some, None, Result, Ok, Err, if◌then◌else◌}
use Rattle.std.specs.Prelude.{String, string_bytes, codes, bytes_eq}
use Rattle.rtr_units.specs.StopCauses.{ReaderState, WriterState, cause_of}
use Rattle.program_frame.specs.Questions.{WritesText}
use Rattle.rtr_payload.specs.Payloads.{Payload}
use Rattle.data_memory.specs.declared.change_error.ChangeError.TheVariants.{Memory}
use Rattle.list_lines.specs.ListStatus.{listing_status}
use Rattle.data_recordings.specs.RecordingRead.{ReadsRecording}
use Rattle.data_recordings.specs.declared.recording.Recording.{Recording}
use Rattle.data_recordings.specs.declared.stop.Refusal.TheVariants.{Change}
use Rattle.data_recordings.specs.declared.stop.Stop.{Stop}
use Rattle.data_recordings.specs.declared.stop.StopCause.{StopCause}
use Rattle.data_recordings.specs.declared.stop.StopCause.TheVariants.{Read, Refused}
use Rattle.list_tables.specs.Tables.{is_aspa, is_key, table_text}
use Rattle.list_tables.specs.declared.words.Table.{Table}
use Rattle.list_tables.specs.declared.words.Table.TheVariants.{Csv, Json}

-- the table that a word asks for, alone
abbrev pub table_by_words : {Z : Type 0} → List (String Z) → Option Table
table_by_words (word ∷ []) =
    if bytes_eq (string_bytes word) (codes "--csv") then Some Csv else
    if bytes_eq (string_bytes word) (codes "--vrps") then Some Json else None
table_by_words others = None

-- the status where reading stopped: that of a listing for a fault, and 1 for a unit that is refused
abbrev pub refused_status : StopCause → ℕ
refused_status (Read f) = listing_status (Err (cause_of f))
refused_status (Refused (Change Memory)) = 3
refused_status (Refused e) = 1

-- ---- a table

-- the table has each of the payloads
abbrev pub HasEach : Table → List Payload → Type 0
HasEach Csv d = (length (filter is_key d) ≡ 0) × (length (filter is_aspa d) ≡ 0)
HasEach Json d = ⊤

-- How a run ends, by what was read: where the input was refused, nothing is written, nor where
-- memory fails. `Quiet` says that no line was printed on standard error: it holds where the table
-- has each payload, and each answer was whole.
abbrev pub EndsTable : Table → (Quiet : Type 0) → Result Recording Stop → ℕ →
    (before after : WriterState) → Type 0
EndsTable table Quiet (Err stop) status before after =
    (status ≡ refused_status stop.cause) × (after ≡ before)
EndsTable table Quiet (Ok r) status before after =
    (WritesText (table_text table r.payloads) 0 3 status before after
    ⊎ ((status ≡ 3) × (after ≡ before)))
    × (HasEach table r.payloads → r.has_cut ≡ false → status ≡ 0 → Quiet)

-- the recording is read, and then the table of what it leaves is printed
abbrev pub RunsTable : Table → (Quiet : Type 0) → ℕ → (old new : ReaderState) →
    (before after : WriterState) → Type 0
RunsTable table Quiet status old new before after =
    (read : Result Recording Stop) × ReadsRecording read old new
    × EndsTable table Quiet read status before after
