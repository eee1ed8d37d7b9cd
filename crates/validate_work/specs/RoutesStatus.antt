-- How the program ends: this program's own.
use Rattle.std.specs.Prelude.{◌≡◌, ◌⊎◌, ℕ, Bool, true, false, List}
use Rattle.std.specs.Prelude.{Option, Some, None, Result, Ok, Err, nat_eq, length, unwrap_or}
use Rattle.std.specs.Prelude.{◌==◌, if◌then◌else◌, is_some, option_map}
use Rattle.std.specs.Bool.{MatchBool}
use Rattle.rtr_units.specs.Stream.{Flushes}
use Rattle.rtr_units.specs.StopCauses.{ReaderState, WriterState, cause_of}
use Rattle.rtr_payload.specs.Payloads.{Payload}
use Rattle.data_memory.specs.Deltas.{data_for}
use Rattle.data_memory.specs.declared.change_error.ChangeError.TheVariants.{Memory}
use Rattle.list_lines.specs.ListStatus.{listing_status}
use Rattle.data_recordings.specs.declared.stop.Refusal.TheVariants.{Change}
use Rattle.data_recordings.specs.declared.stop.StopCause.{StopCause}
use Rattle.data_recordings.specs.declared.stop.StopCause.TheVariants.{Read, Refused}
use Rattle.data_slurm.specs.declared.entry.Entry.{Entry}
use Rattle.make_work.specs.MakeStatus.{IsWholeInput, refusal_status}
use Rattle.make_work.specs.declared.expiring.Expired.{Expired}
use Rattle.validate_work.specs.Files.{LoadsText}
use Rattle.validate_work.specs.LinesAnswered.{AnswersLines, AnswersRoute}
use Rattle.validate_work.specs.RefusedLines.{RefusedLine}
use Rattle.validate_work.specs.RouteTexts.{ReadsWords}
use Rattle.validate_work.specs.RoutesCounted.{CountsLines}
use Rattle.validate_work.specs.SummaryTexts.{WritesSummary}
use Rattle.validate_work.specs.declared.counts.Summary.{Summary}
use Rattle.validate_work.specs.declared.file.LoadError.{LoadError}
use Rattle.validate_work.specs.declared.file.LoadError.TheVariants as load_errors
use Rattle.validate_work.specs.declared.file.Loaded.{Loaded}
use Rattle.validate_work.specs.declared.form.Form.{Form}
use Rattle.validate_work.specs.declared.form.Formats.{Formats}
use Rattle.validate_work.specs.declared.lines.Stop.{Stop}
use Rattle.validate_work.specs.declared.lines.Stop.TheVariants.{Line, Fault}
use Rattle.validate_work.specs.declared.lists.Lists.{Lists}
use Rattle.validate_work.specs.declared.route_text.RouteError.{RouteError}
use Rattle.validate_work.specs.declared.route_text.TableRoute.{TableRoute}
use Rattle.validate_work.specs.declared.words.Options.{Options}
use Rattle.validate_work.specs.declared.words.RouteWords.{RouteWords}

-- ---- statuses

-- where reading a recording stopped: that of a listing for a fault, and 1 for a refused unit
abbrev pub recording_status : StopCause → ℕ
recording_status (Read f) = listing_status (Err (cause_of f))
recording_status (Refused (Change Memory)) = 3
recording_status (Refused e) = 1

-- where a file is refused, or memory ran out
abbrev pub load_status : LoadError → ℕ
load_status (load_errors.Units stop) = recording_status stop.cause
load_status (load_errors.Items r) = refusal_status r.reason
load_status load_errors.Memory = 3

-- after answers, of which this many lines were no routes, and by whether the flush after them
-- succeeded
abbrev pub answer_status : Result ℕ Stop → Bool → ℕ
answer_status (Ok n) true = if n == 0 then 0 else 1
answer_status (Err (Line number error)) true = 1
answer_status (Err (Fault f)) true = 3
answer_status answer false = 3

-- ---- answers

-- the answer on one route, with nothing read, and no line told
abbrev pub AnswersOne : {T : Type 0} → Form → TableRoute → Lists → Result ℕ Stop →
    (old new : ReaderState) → (before after : WriterState) → (deaf heard : T) → Type 0
AnswersOne form route ls (Ok n) old new before after deaf heard = (n ≡ 0) × (heard ≡ deaf)
    × (new ≡ old) × AnswersRoute form ls route.prefix route.origin (Ok tt) before after
AnswersOne form route ls (Err (Fault f)) old new before after deaf heard = (heard ≡ deaf)
    × (new ≡ old) × AnswersRoute form ls route.prefix route.origin (Err f) before after
AnswersOne form route ls (Err (Line number error)) old new before after deaf heard = ⊥

abbrev pub formats_of : Options → Formats
formats_of o = record { table = o.table; form = o.form }

-- the counts of the routes that are read, which are written after the last
abbrev pub SummarizesLines : {T : Type 0} → (Hears : T → RefusedLine → T → Type 0) → Options →
    Lists → Result ℕ Stop → (old new : ReaderState) → (before after : WriterState) →
    (deaf heard : T) → Type 0
SummarizesLines Hears o ls (Ok n) old new before after deaf heard = (c : Summary)
    × CountsLines Hears o.strict o.table ls (Ok c) old new deaf heard
    × WritesSummary o.form (is_some ls.other) c (Ok tt) before after × (n ≡ c.counts.refused)
SummarizesLines Hears o ls (Err (Line number error)) old new before after deaf heard =
    CountsLines Hears o.strict o.table ls (Err (Line number error)) old new deaf heard
    × (after ≡ before)
SummarizesLines Hears o ls (Err (Fault f)) old new before after deaf heard =
    (CountsLines Hears o.strict o.table ls (Err (Fault f)) old new deaf heard × (after ≡ before))
    ⊎ ((c : Summary) × CountsLines Hears o.strict o.table ls (Ok c) old new deaf heard
    × WritesSummary o.form (is_some ls.other) c (Err f) before after)

-- a summary of the routes that are read, or the answer on each
abbrev pub AnswersRead : {T : Type 0} → (Hears : T → RefusedLine → T → Type 0) → Options →
    Lists → Result ℕ Stop → (old new : ReaderState) → (before after : WriterState) →
    (deaf heard : T) → Type 0
AnswersRead Hears o ls r old new before after deaf heard = MatchBool o.summary
    (SummarizesLines Hears o ls r old new before after deaf heard)
    (AnswersLines Hears o.strict (formats_of o) ls r old new before after deaf heard)

-- the answer on the route that is asked for, or else on those that are read
abbrev pub AnswersAsked : {T : Type 0} → (Hears : T → RefusedLine → T → Type 0) → Options →
    Option TableRoute → Lists → Result ℕ Stop → (old new : ReaderState) →
    (before after : WriterState) → (deaf heard : T) → Type 0
AnswersAsked Hears o (Some route) ls r old new before after deaf heard =
    AnswersOne o.form route ls r old new before after deaf heard
AnswersAsked Hears o None ls r old new before after deaf heard =
    AnswersRead Hears o ls r old new before after deaf heard

-- then the output is flushed once, and both decide the status
pub record RunsAnswers {T : Type 0} (Hears : T → RefusedLine → T → Type 0) (o : Options)
    (route : Option TableRoute) (ls : Lists) (status : ℕ) (deaf : T)
    (old new : ReaderState) (before after : WriterState) : Type 0 where
  pub answer : Result ℕ Stop
  pub flushed : Bool
  pub mid : WriterState
  pub heard : T
  pub answers : AnswersAsked Hears o route ls answer old new before mid deaf heard
  pub flushes : Flushes flushed mid after
  pub by_both : status ≡ answer_status answer flushed

-- ---- a run

-- nothing is read for routes, and nothing written
abbrev pub EndsFirst : (status wanted : ℕ) → (old new : ReaderState) →
    (before after : WriterState) → Type 0
EndsFirst status wanted old new before after = (status ≡ wanted) × (new ≡ old) × (after ≡ before)

-- without VRPs no route is covered, whatever it is, so that none is answered
abbrev pub has_no_vrps : Loaded → Bool
has_no_vrps l = nat_eq (length (data_for 0 l.vrps)) 0

-- how many items of a list have expired
abbrev pub count_expired : Option Expired → ℕ
count_expired None = 0
count_expired (Some e) = e.left_out

-- By what was loaded of a file: its VRPs, or the status to end with. `Quiet` says that nothing was
-- printed on standard error: it holds where there are VRPs, and neither an answer of a recording
-- was left out nor an item that has expired.
abbrev pub ByLoaded : Result Loaded LoadError → (Quiet : Type 0) → Result (List Payload) ℕ → Type 0
ByLoaded (Ok l) Quiet r = MatchBool (has_no_vrps l) (r ≡ Err 1)
    ((r ≡ Ok l.vrps) × (l.has_cut ≡ false → count_expired l.expired ≡ 0 → Quiet))
ByLoaded (Err e) Quiet r = r ≡ Err (load_status e)

-- all of a file was read, at this time and with the entries of SLURM files, or it couldn't be
abbrev pub ReadsList : (at : Option ℕ) → List Entry → (Quiet : Type 0) →
    Result (List Payload) ℕ → (left rest : Option (List ℕ)) → Type 0
ReadsList at es Quiet r left rest =
    ((text : List ℕ) × (l : Result Loaded LoadError) × IsWholeInput left rest text
    × LoadsText at es text l × ByLoaded l Quiet r) ⊎ (r ≡ Err 3)

-- Then routes are answered by these lists. Lines are told to someone, after what is said of files;
-- `last` is who was told, after all, and nothing more was printed where all routes were answered.
abbrev pub RunsLists : {T : Type 0} → (Hears : T → RefusedLine → T → Type 0) → Options →
    Option TableRoute → (d : List Payload) → (other : Option (List Payload)) → ℕ →
    (deaf last : T) → (old new : ReaderState) → (before after : WriterState) → Type 0
RunsLists Hears o route d other status deaf last old new before after = (ls : Lists)
    × (ls.used.now ≡ d) × (option_map (λ b. b.now) ls.other ≡ other)
    × RunsAnswers Hears o route ls status deaf old new before after
    × (status ≡ 0 → last ≡ deaf)

-- by what was read of the file
abbrev pub RunsRead : {T : Type 0} → (Hears : T → RefusedLine → T → Type 0) → Options →
    Option TableRoute → Result (List Payload) ℕ → ℕ → (deaf last : T) →
    (old new : ReaderState) → (before after : WriterState) → Type 0
RunsRead Hears o route (Ok d) status deaf last old new before after =
    RunsLists Hears o route d None status deaf last old new before after
RunsRead Hears o route (Err wanted) status deaf last old new before after =
    EndsFirst status wanted old new before after

-- a file, at the time that is asked for, or else now
abbrev pub RunsFile : {T : Type 0} → (Hears : T → RefusedLine → T → Type 0) → (now : ℕ) →
    List Entry → Options → Option TableRoute → (first last : T) → ℕ →
    (left rest : Option (List ℕ)) → (old new : ReaderState) → (before after : WriterState) → Type 0
RunsFile Hears now es o route first last status left rest old new before after = (deaf : _)
    × (r : Result (List Payload) ℕ)
    × ReadsList (Some (unwrap_or o.at now)) es (deaf ≡ first) r left rest
    × RunsRead Hears o route r status deaf last old new before after

-- the route that the words are, if some are given
abbrev pub ReadsAsked : Option RouteWords → Result (Option TableRoute) RouteError → Type 0
ReadsAsked None r = r ≡ Ok None
ReadsAsked (Some words) (Ok (Some route)) = ReadsWords words.prefix.now words.asn.now (Ok route)
ReadsAsked (Some words) (Ok None) = ⊥
ReadsAsked (Some words) (Err e) = ReadsWords words.prefix.now words.asn.now (Err e)

-- where the words are no route the file isn't read, either, as `Unread` says
abbrev pub RunsAsked : {T : Type 0} → (Hears : T → RefusedLine → T → Type 0) → (now : ℕ) →
    List Entry → Options → Result (Option TableRoute) RouteError → (first last : T) → ℕ →
    (Unread : Type 0) → (left rest : Option (List ℕ)) → (old new : ReaderState) →
    (before after : WriterState) → Type 0
RunsAsked Hears now es o (Ok route) first last status Unread left rest old new before after =
    RunsFile Hears now es o route first last status left rest old new before after
RunsAsked Hears now es o (Err e) first last status Unread left rest old new before after =
    Unread × EndsFirst status 2 old new before after

-- A whole run over one list. `first` is who is told of lines before, and `last` the same after all.
abbrev pub RunsRoutes : {T : Type 0} → (Hears : T → RefusedLine → T → Type 0) → (now : ℕ) →
    List Entry → Options → Option RouteWords → (first last : T) → ℕ →
    (Unread : Type 0) → (left rest : Option (List ℕ)) → (old new : ReaderState) →
    (before after : WriterState) → Type 0
RunsRoutes Hears now es o words first last status Unread left rest old new before after =
    (r : Result (Option TableRoute) RouteError) × ReadsAsked words r
    × RunsAsked Hears now es o r first last status Unread left rest old new before after

-- ---- a run that compares two lists

-- by what was read of the other file, after this of the first
abbrev pub RunsBoth : {T : Type 0} → (Hears : T → RefusedLine → T → Type 0) → Options →
    List Payload → Result (List Payload) ℕ → ℕ → (deaf last : T) →
    (old new : ReaderState) → (before after : WriterState) → Type 0
RunsBoth Hears o d (Ok e) status deaf last old new before after =
    RunsLists Hears o None d (Some e) status deaf last old new before after
RunsBoth Hears o d (Err wanted) status deaf last old new before after =
    EndsFirst status wanted old new before after

-- by what was read of the first; where it is refused the other one isn't read, as `Unread` says
abbrev pub RunsSecond : {T : Type 0} → (Hears : T → RefusedLine → T → Type 0) → (now : ℕ) →
    List Entry → Options → Result (List Payload) ℕ → (mid last : T) → ℕ → (Unread : Type 0) →
    (left rest : Option (List ℕ)) → (old new : ReaderState) → (before after : WriterState) → Type 0
RunsSecond Hears now es o (Ok d) mid last status Unread left rest old new before after =
    (deaf : _) × (r : Result (List Payload) ℕ)
    × ReadsList (Some (unwrap_or o.at now)) es (deaf ≡ mid) r left rest
    × RunsBoth Hears o d r status deaf last old new before after
RunsSecond Hears now es o (Err wanted) mid last status Unread left rest old new before after =
    Unread × EndsFirst status wanted old new before after

abbrev pub RunsAgainst : {T : Type 0} → (Hears : T → RefusedLine → T → Type 0) → (now : ℕ) →
    List Entry → Options → (first last : T) → ℕ → (left rest : Option (List ℕ)) →
    (Unread : Type 0) → (left' rest' : Option (List ℕ)) → (old new : ReaderState) →
    (before after : WriterState) → Type 0
RunsAgainst Hears now es o first last status left rest Unread left' rest' old new before after =
    (mid : _) × (r : Result (List Payload) ℕ)
    × ReadsList (Some (unwrap_or o.at now)) es (mid ≡ first) r left rest
    × RunsSecond Hears now es o r mid last status Unread left' rest' old new before after
