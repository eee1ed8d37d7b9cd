-- How the program ends: this program's own.
use Rattle.std.specs.Prelude.{◌≡◌, ◌⊎◌, ◌==◌, ℕ, Bool, true, false, List, [], ◌∷◌, ◌++◌}
use Rattle.std.specs.Prelude.{Result, Ok, Err, Option, Some, None, IfSome, codes, if◌then◌else◌}
use Rattle.std.specs.Prelude.{◌||◌, not, is_some, unwrap_or}
use Rattle.std.specs.Fmt.{decimal}
use Rattle.std.specs.Io.KnownBytes.{Appends, IsAtEnd}
use Rattle.rtr_units.specs.Stream.{Flushes}
use Rattle.rtr_units.specs.StopCauses.{WriterState}
use Rattle.data_slurm.specs.Entries.{assertions_of}
use Rattle.data_slurm.specs.declared.entry.Entry.{Entry}
use Rattle.make_work.specs.CsvItems.{IsCsvOf, RefusesCsv}
use Rattle.make_work.specs.Expiries.{LeavesAsked}
use Rattle.make_work.specs.JsonPayloads.{IsJsonOf}
use Rattle.make_work.specs.JsonRefusals.{OrMemory, RefusesJson}
use Rattle.make_work.specs.Making.{MakesSequence, version_number}
use Rattle.make_work.specs.Taking.{AreAsserted, kept_items}
use Rattle.make_work.specs.declared.expiring.Expired.{Expired}
use Rattle.make_work.specs.declared.item.Item.{Item}
use Rattle.make_work.specs.declared.item.Reason.{Reason}
use Rattle.make_work.specs.declared.item.Reason.TheVariants.{Memory}
use Rattle.make_work.specs.declared.item.Refusal.{Refusal}
use Rattle.make_work.specs.declared.sequence.Trouble.{Trouble}
use Rattle.make_work.specs.declared.sequence.Trouble.TheVariants.{Input, Output}
use Rattle.make_work.specs.declared.words.Format.{Format}
use Rattle.make_work.specs.declared.words.Format.TheVariants.{Csv, Json}
use Rattle.make_work.specs.declared.words.Request.{Request}

abbrev pub refusal_status : Reason → ℕ
refusal_status Memory = 3
refusal_status other = 1

-- the status, by the answer and by whether the flush after it succeeded
abbrev pub make_status : Result ℕ Trouble → Bool → ℕ
make_status (Ok n) true = 0
make_status (Ok n) false = 3
make_status (Err (Input r)) flushed = refusal_status r.reason
make_status (Err (Output f)) flushed = 3

-- ---- the lines on what was left out

abbrev pub line_end : List ℕ
line_end = 10 ∷ []

-- this many that the version lacks, if there are some
abbrev pub lacking_line : (version left_out : ℕ) → List ℕ
lacking_line v n = if n == 0 then [] else
    codes "rtr_make: left out " ++ (decimal n ++ (codes " that version " ++ (decimal v
    ++ (codes " lacks" ++ line_end))))

-- this many that have expired, and when the next does
abbrev pub next_words : Option ℕ → List ℕ
next_words None = codes "none of the others will" ++ line_end
next_words (Some t) = codes "the next expires at " ++ (decimal t ++ line_end)

abbrev pub expired_line : Expired → List ℕ
expired_line e = codes "rtr_make: left out " ++ (decimal e.left_out
    ++ (codes " that have expired; " ++ next_words e.next))

-- what is said of those where a time is asked for, and by the clock if there are some
abbrev pub expired_said : (is_asked : Bool) → Option Expired → List ℕ
expired_said is_asked None = []
expired_said is_asked (Some e) =
    if is_asked || not (e.left_out == 0) then expired_line e else []

-- The lines are printed, or else the status is 3. What was printed is known if `old` and `new` are.
abbrev pub TellsMade : (version left_out : ℕ) → (is_asked : Bool) → Option Expired → ℕ →
    (old new : Option (List ℕ)) → Type 0
TellsMade v n is_asked e status old new =
    ((status ≡ 0) × Appends old new (lacking_line v n ++ expired_said is_asked e)) ⊎ (status ≡ 3)

-- ---- a run

-- the end, by the answer and by whether the flush after it succeeded
abbrev pub EndsMaking : Request → Option Expired → Result ℕ Trouble → Bool → ℕ →
    (old new : Option (List ℕ)) → Type 0
EndsMaking a e (Ok n) true status old new =
    TellsMade (version_number a.version) n (is_some a.at) e status old new
EndsMaking a e answer flushed status old new = status ≡ make_status answer flushed

-- the sequence of these items is made, then the output flushed once, and both decide the status
abbrev pub MakesOf : Request → Option Expired → List Item → ℕ → WriterState → WriterState →
    (old new : Option (List ℕ)) → Type 0
MakesOf a e items status before after old new =
    (answer : Result ℕ Trouble) × (flushed : Bool) × (mid : WriterState)
    × MakesSequence a items answer before mid × Flushes flushed mid after
    × EndsMaking a e answer flushed status old new

-- what is read of a text in this format, where names are ignored: of comma-separated values, whose
-- last line may lack its end where that is taken, the items of its rows, or why one is refused; of
-- JSON the items of its arrays, or why it is refused
abbrev pub ReadsItems : Format → (takes_unended : Bool) → List (List ℕ) → List ℕ →
    Result (List Item) Refusal → Type 0
ReadsItems Csv takes_unended ignored text (Ok items) = IsCsvOf takes_unended text items
ReadsItems Csv takes_unended ignored text (Err r) = RefusesCsv takes_unended text r.reason
ReadsItems Json takes_unended ignored text (Ok items) = IsJsonOf ignored text items
ReadsItems Json takes_unended ignored text (Err r) = OrMemory (RefusesJson ignored text) r.reason

-- nothing is written, and the reason decides the status
abbrev pub EndsRefused : Refusal → ℕ → WriterState → WriterState → Type 0
EndsRefused r status before after = (after ≡ before) × (status ≡ refusal_status r.reason)

-- the sequence of the items that are left, or an expiry has no meaning
abbrev pub MakesLeft : Request → List Item → Result (Option Expired) Refusal → ℕ → WriterState →
    WriterState → (old new : Option (List ℕ)) → Type 0
MakesLeft a left (Ok e) status before after old new = MakesOf a e left status before after old new
MakesLeft a left (Err r) status before after old new = EndsRefused r status before after

-- the time that is asked for, or else that of the clock
abbrev pub time_asked : (now : ℕ) → Request → Option ℕ
time_asked now a = Some (unwrap_or a.at now)

-- of the items those are left that have not expired
abbrev pub MakesItems : (now : ℕ) → Request → List Item → ℕ → WriterState → WriterState →
    (old new : Option (List ℕ)) → Type 0
MakesItems now a items status before after old new =
    (left : List Item) × (r : Result (Option Expired) Refusal)
    × LeavesAsked (time_asked now a) items left r
    × MakesLeft a left r status before after old new

-- of the items those that the filters of SLURM files leave, and then the payloads that the files
-- assert (RFC 8416 section 4.1); or nothing is written, since memory ran out
abbrev pub MakesSlurm : (now : ℕ) → Request → List Entry → List Item → ℕ → WriterState →
    WriterState → (old new : Option (List ℕ)) → Type 0
MakesSlurm now a es items status before after old new =
    ((more : List Item) × AreAsserted (assertions_of es) more
    × MakesItems now a (kept_items es items ++ more) status before after old new)
    ⊎ ((after ≡ before) × (status ≡ 3))

-- the sequence of the items; or the text is refused, or memory ran out
abbrev pub MakesRead : (now : ℕ) → Request → List Entry → Result (List Item) Refusal → ℕ →
    WriterState → WriterState → (old new : Option (List ℕ)) → Type 0
MakesRead now a es (Ok items) status before after old new =
    MakesSlurm now a es items status before after old new
MakesRead now a es (Err r) status before after old new = EndsRefused r status before after

-- what is made of a text in this format, where names are passed over
abbrev pub MakesText : Format → (now : ℕ) → Request → List Entry → List (List ℕ) → List ℕ → ℕ →
    WriterState → WriterState → (old new : Option (List ℕ)) → Type 0
MakesText format now a es ignored text status before after old new =
    (read : Result (List Item) Refusal) × ReadsItems format a.takes_unended ignored text read
    × MakesRead now a es read status before after old new

-- the text is all that the reader had left, where that is known, and the reader is at its end
abbrev pub IsWholeInput : Option (List ℕ) → Option (List ℕ) → List ℕ → Type 0
IsWholeInput left rest text = IfSome left (λ all. text ≡ all) × IsAtEnd rest

-- What a run leaves: what is made of the whole input; or, where that couldn't be read, nothing was
-- written, and the status is 3. `old` and `new` are what was printed, if that is known.
abbrev pub RunsMaking : (now : ℕ) → Request → List Entry → List (List ℕ) → Option (List ℕ) →
    Option (List ℕ) → ℕ → WriterState → WriterState → (old new : Option (List ℕ)) → Type 0
RunsMaking now a es ignored left rest status before after old new =
    ((text : List ℕ) × IsWholeInput left rest text
    × MakesText a.format now a es ignored text status before after old new)
    ⊎ ((after ≡ before) × (status ≡ 3))
