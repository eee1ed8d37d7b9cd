-- Which VRPs are read of a file: this program's own.
use Rattle.std.specs.Prelude.{◌≡◌, ⊤, ℕ, List, [], ◌∷◌, false, Some, None, Result, Ok, Err, nat_lt}
use Rattle.std.specs.Prelude.{Bool, MatchResult, Option, length, get_or, map, ◌++◌, ◌⊎◌}
use Rattle.std.specs.Prelude.{◌==◌, ◌||◌, if◌then◌else◌}
use Rattle.csv.specs.Reading.{strip_bom}
use Rattle.rtr_units.specs.StopCauses.{ReaderState}
use Rattle.data_recordings.specs.RecordingRead.{ReadsRecording}
use Rattle.data_recordings.specs.declared.recording.Recording.{Recording}
use Rattle.data_recordings.specs.declared.stop.Stop.{Stop}
use Rattle.data_slurm.specs.Entries.{assertions_of}
use Rattle.data_slurm.specs.declared.entry.Entry.{Entry}
use Rattle.make_work.specs.Expiries.{LeavesAsked}
use Rattle.make_work.specs.Gathering.{GathersAll, NamesFirst, item_payload}
use Rattle.make_work.specs.MakeStatus.{ReadsItems}
use Rattle.make_work.specs.Taking.{AreAsserted, kept_items}
use Rattle.make_work.specs.declared.expiring.Expired.{Expired}
use Rattle.make_work.specs.declared.item.Item.{Item}
use Rattle.make_work.specs.declared.item.Refusal.{Refusal}
use Rattle.make_work.specs.declared.words.Format.{Format}
use Rattle.make_work.specs.declared.words.Format.TheVariants as formats
use Rattle.validate_work.specs.declared.file.Kind.{Kind}
use Rattle.validate_work.specs.declared.file.Kind.TheVariants.{Units, Csv, Json}
use Rattle.validate_work.specs.declared.file.LoadError.{LoadError}
use Rattle.validate_work.specs.declared.file.LoadError.TheVariants as errors
use Rattle.validate_work.specs.declared.file.Loaded.{Loaded}

-- ---- what a file is

-- a byte below 9, which begins a unit, or nothing
abbrev pub is_unit : List ℕ → Bool
is_unit text = (length text == 0) || nat_lt (get_or text 0 0) 9

-- a space, a tab, LF or CR (RFC 8259 section 2)
abbrev pub is_white : ℕ → Bool
is_white byte = (byte == 32) || ((byte == 9) || ((byte == 10) || (byte == 13)))

-- after white space `{` or `[` begins JSON
unfoldable pub opens_json : List ℕ → Bool
opens_json [] = false
opens_json (byte ∷ rest) =
    if is_white byte then opens_json rest else (byte == 123) || (byte == 91)

abbrev pub kind_without_mark : List ℕ → Kind
kind_without_mark text =
    if is_unit text then Units else if opens_json text then Json else Csv

-- a mark of the byte order doesn't count
abbrev pub file_kind : List ℕ → Kind
file_kind text = kind_without_mark (strip_bom text)

-- ---- what validators print

-- the payloads of the items, each once, or why they were refused; what had expired is said, and
-- whether an answer of a recording was left out
abbrev pub GathersRead : (has_cut : Bool) → Option Expired → Result (List Item) Refusal →
    Result Loaded LoadError → Type 0
GathersRead cut e (Ok items) (Ok l) = (n : ℕ) × GathersAll 2 false items l.vrps n
    × (l.has_cut ≡ cut) × (l.expired ≡ e)
GathersRead cut e (Ok items) (Err (errors.Items r)) = NamesFirst 2 false items r r.reason
GathersRead cut e (Ok items) (Err errors.Memory) = ⊤
GathersRead cut e (Ok items) (Err (errors.Units stop)) = ⊥
GathersRead cut e (Err why) (Ok l) = ⊥
GathersRead cut e (Err why) (Err (errors.Items r)) = r ≡ why
GathersRead cut e (Err why) (Err errors.Memory) = ⊥
GathersRead cut e (Err why) (Err (errors.Units stop)) = ⊥

-- those of the items that are left are loaded, unless the expiry of one is refused
abbrev pub LoadsLeft : (has_cut : Bool) → List Item → Result (Option Expired) Refusal →
    Result Loaded LoadError → Type 0
LoadsLeft cut left (Ok e) r = GathersRead cut e (Ok left) r
LoadsLeft cut left (Err why) r = GathersRead cut None (Err why) r

-- of the items those are left that have not expired, where a time is asked for
abbrev pub LoadsAt : (has_cut : Bool) → Option ℕ → List Item → Result Loaded LoadError → Type 0
LoadsAt cut at items r = (left : List Item) × (e : Result (Option Expired) Refusal)
    × LeavesAsked at items left e × LoadsLeft cut left e r

-- of the items those that the filters of SLURM files leave, and then the payloads that the files
-- assert (RFC 8416 section 4.1); or memory ran out
abbrev pub LoadsSlurm : (has_cut : Bool) → Option ℕ → List Entry → List Item →
    Result Loaded LoadError → Type 0
LoadsSlurm cut at es items r = ((more : List Item) × AreAsserted (assertions_of es) more
    × LoadsAt cut at (kept_items es items ++ more) r) ⊎ (r ≡ Err errors.Memory)

abbrev pub LoadsRead : Option ℕ → List Entry → Result (List Item) Refusal →
    Result Loaded LoadError → Type 0
LoadsRead at es (Ok items) r = LoadsSlurm false at es items r
LoadsRead at es (Err why) r = GathersRead false None (Err why) r

-- the items that `rtr_make` reads of a text in this format, at a time, if one is asked for
abbrev pub LoadsItems : Format → Option ℕ → List Entry → List ℕ → Result Loaded LoadError → Type 0
LoadsItems format at es text r = (read : Result (List Item) Refusal)
    × ReadsItems format false [] text read × LoadsRead at es read r

-- ---- units

-- nothing but these bytes
abbrev pub whole_text : List ℕ → ReaderState
whole_text text = record { left = Some text; failed = 0 }

-- the payloads that a recording leaves
pub record LoadsRecording (recording : Recording) (l : Loaded) : Type 0 where
  pub payloads : l.vrps ≡ recording.payloads
  pub has_cut : l.has_cut ≡ recording.has_cut
  pub lasting : l.expired ≡ None

abbrev pub LoadsWhole : Recording → Result Loaded LoadError → Type 0
LoadsWhole recording (Ok l) = LoadsRecording recording l
LoadsWhole recording (Err errors.Memory) = ⊤
LoadsWhole recording (Err (errors.Units stop)) = ⊥
LoadsWhole recording (Err (errors.Items r)) = ⊥

-- of these payloads, as items that don't expire, those that the entries of SLURM files leave, and
-- then what these assert
abbrev pub LoadsKept : List Entry → Recording → Result Loaded LoadError → Type 0
LoadsKept es recording r = (items : List Item) × (map item_payload items ≡ recording.payloads)
    × LoadsSlurm recording.has_cut None es items r

abbrev pub LoadsOf : List Entry → Recording → Result Loaded LoadError → Type 0
LoadsOf [] recording r = LoadsWhole recording r
LoadsOf (e ∷ es) recording r = LoadsKept (e ∷ es) recording r ⊎ (r ≡ Err errors.Memory)

-- those of the recording that the bytes are, or why they are none
abbrev pub LoadsUnits : List Entry → List ℕ → Result Loaded LoadError → Type 0
LoadsUnits es text r = (left : ReaderState) × (read : Result Recording Stop)
    × ReadsRecording read (whole_text text) left
    × MatchResult read (λ recording. LoadsOf es recording r)
    (λ stop. r ≡ Err (errors.Units stop))

-- ---- a file

abbrev pub LoadsKind : Kind → Option ℕ → List Entry → List ℕ → Result Loaded LoadError → Type 0
LoadsKind Units at es text r = LoadsUnits es text r
LoadsKind Csv at es text r = LoadsItems formats.Csv at es text r
LoadsKind Json at es text r = LoadsItems formats.Json at es text r

-- at a time, with the entries of SLURM files
abbrev pub LoadsText : Option ℕ → List Entry → List ℕ → Result Loaded LoadError → Type 0
LoadsText at es text r = LoadsKind (file_kind text) at es text r
