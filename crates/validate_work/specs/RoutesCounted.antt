-- What a summary counts of routes that are read line by line: this program's own.
--
-- Lines that were read are a list, the newest first.
use Rattle.std.specs.Prelude.{◌≡◌, ◌⊎◌, ℕ, ◌+◌, ◌-◌, ◌^◌, List, [], ◌∷◌, ◌++◌, length}
use Rattle.std.specs.Prelude.{⊤, Bool, true, false, Option, Some, None, Result, Ok, Err}
use Rattle.std.specs.Borrow.{Bor}
use Rattle.std.specs.Io.KnownBytes.{Consumes, IsAtEnd}
use Rattle.rtr_units.specs.StopCauses.{ReaderState, Cause, by_reader, by_writer}
use Rattle.rtr_units.specs.StopCauses.{too_many, no_memory, cause_of, reader_count}
use Rattle.rtr_payload.specs.Payloads.{Payload}
use Rattle.data_validation.specs.Validity.{IsValidity}
use Rattle.data_validation.specs.declared.validity.Validity.{Validity}
use Rattle.data_validation.specs.declared.validity.Validity.TheVariants.{NotFound, Valid, Invalid}
use Rattle.validate_work.specs.LinesAnswered.{EndsLine, IsLine, IsRefusedLine, lines_bytes}
use Rattle.validate_work.specs.RefusedLines.{AreTold, RefusedLine}
use Rattle.validate_work.specs.RouteOrigins.{with_origin}
use Rattle.validate_work.specs.RouteStates.{no_turns, with_turn}
use Rattle.validate_work.specs.RouteTexts.{origin_asn}
use Rattle.validate_work.specs.TableTexts.{HasTableRoute, RefusesTable}
use Rattle.validate_work.specs.declared.counts.Counts.{Counts}
use Rattle.validate_work.specs.declared.counts.Summary.{Summary}
use Rattle.validate_work.specs.declared.lists.Lists.{Lists}
use Rattle.validate_work.specs.declared.lines.Stop.{Stop}
use Rattle.validate_work.specs.declared.lines.Stop.TheVariants.{Line, Fault}
use Rattle.validate_work.specs.declared.route_text.TableRoute.{TableRoute}
use Rattle.validate_work.specs.declared.table.Table.{Table}

-- ---- counts

abbrev pub no_counts : Counts
no_counts = record { valid = 0; invalid = 0; not_found = 0; refused = 0 }

-- with one more route of this validity
abbrev pub with_validity : Validity → Counts → Counts
with_validity Valid c = record c { valid = c.valid + 1 }
with_validity Invalid c = record c { invalid = c.invalid + 1 }
with_validity NotFound c = record c { not_found = c.not_found + 1 }

-- with one more line that is refused
abbrev pub with_refused : Counts → Counts
with_refused c = record c { refused = c.refused + 1 }

-- in a summary
abbrev pub refused_too : Summary → Summary
refused_too s = record s { counts = with_refused s.counts }

abbrev pub total_of : Counts → ℕ
total_of c = c.valid + c.invalid + c.not_found + c.refused

-- ---- lines

-- a route that has this validity by the list in use is also counted by its origin AS, or where two
-- lists are compared by its validity by the other one
abbrev pub IsRouteKept : Option (Bor (List Payload)) → TableRoute → Validity →
    (before after : Summary) → Type 0
IsRouteKept None r state before after =
    (after.origins.entries ≡ with_origin state r.origin before.origins.entries)
    × (after.turns ≡ before.turns)
IsRouteKept (Some other) r state before after = (next : Validity)
    × IsValidity other.now r.prefix (origin_asn r.origin) next
    × (after.turns ≡ with_turn state next before.turns)
    × (after.origins.entries ≡ before.origins.entries)

-- a route is counted by its validity
abbrev pub IsRouteCounted : Lists → TableRoute → (before after : Summary) → Type 0
IsRouteCounted ls r before after = (state : Validity)
    × IsValidity ls.used.now r.prefix (origin_asn r.origin) state
    × (after.counts ≡ with_validity state before.counts)
    × IsRouteKept ls.other r state before after

-- What the line of this number adds to the counts: one to those of its route's validity, if it has
-- a route; or, unless the run is strict, one to the refused lines, and it is told why it isn't one.
abbrev pub IsLineCounted : (strict : Bool) → Table → Lists → (number : ℕ) →
    (line : List ℕ) → (before after : Summary) → (told : List RefusedLine) → Type 0
IsLineCounted strict table d number line before after [] =
    (HasTableRoute table line None × (after ≡ before))
    ⊎ ((r : TableRoute) × HasTableRoute table line (Some r) × IsRouteCounted d r before after)
IsLineCounted strict table d number line before after (r ∷ []) =
    (strict ≡ false) × IsRefusedLine table number line r × (after ≡ refused_too before)
IsLineCounted strict table d number line before after (newest ∷ r ∷ told) = ⊥

-- nothing was counted
pub record IsEmptySummary (s : Summary) : Type 0 where
  pub counts : s.counts ≡ no_counts
  pub origins : s.origins.entries ≡ []
  pub turns : s.turns ≡ no_turns

-- the counts of all these lines, and which of them are told
abbrev pub AreRoutesCounted : (strict : Bool) → Table → Lists → List (List ℕ) → Summary →
    (told : List RefusedLine) → Type 0
AreRoutesCounted strict table d [] counts told = IsEmptySummary counts × (told ≡ [])
AreRoutesCounted strict table d (newest ∷ before) counts told = (earlier : Summary)
    × (heard since : List RefusedLine) × IsLine newest
    × AreRoutesCounted strict table d before earlier heard
    × IsLineCounted strict table d (length before + 1) newest earlier counts since
    × (told ≡ since ++ heard)

-- ---- how counting ends

-- why no more lines were counted after these; `last` is what was taken of the input after them
abbrev pub StopsCounting : Cause → (count : ℕ) → (last : List ℕ) → Type 0
StopsCounting by_reader count last = IsLine last
StopsCounting by_writer count last = ⊥
StopsCounting no_memory count last = ⊤
StopsCounting too_many count last = (count ≡ 2 ^ 64 - 1) × (last ≡ [])
StopsCounting cause count last = ⊥

-- `earlier` are the counts of the lines that were read, and `told` the refused ones after them
abbrev pub EndsCounting : (strict : Bool) → Result Summary Stop → Table → Lists →
    (count : ℕ) → (earlier : Summary) → (last : List ℕ) → (left : Option (List ℕ)) →
    (told : List RefusedLine) → Type 0
-- at the end of the input, after the last line, which has no line feed
EndsCounting strict (Ok counts) table d count earlier last left told = IsLine last × IsAtEnd left
    × IsLineCounted strict table d (count + 1) last earlier counts told
-- in a strict run, at a line that is refused
EndsCounting strict (Err (Line number error)) table d count earlier last left told =
    (strict ≡ true) × (number ≡ count + 1)
    × ((line : List ℕ) × EndsLine last line left × RefusesTable table line error) × (told ≡ [])
EndsCounting strict (Err (Fault e)) table d count earlier last left told =
    StopsCounting (cause_of e) count last × (told ≡ [])

-- the reader's count of failures after a call with this answer, where it was n before
abbrev pub counted_after : Result Summary Stop → ℕ → ℕ
counted_after (Ok counts) n = n
counted_after (Err (Line number error)) n = n
counted_after (Err (Fault e)) n = reader_count {T = ℕ} (Err (cause_of e)) n

-- the whole promise: `old` and `new` are what the reader has before and after the call, `deaf` and
-- `heard` the same of whoever is told of refused lines
pub record CountsLines {T : Type 0} (Hears : T → RefusedLine → T → Type 0) (strict : Bool)
    (table : Table) (d : Lists) (r : Result Summary Stop) (old new : ReaderState)
    (deaf heard : T) : Type 0 where
  -- it took these lines, and then some last bytes
  pub lines : List (List ℕ)
  pub last : List ℕ
  pub takes : Consumes old.left new.left (lines_bytes lines ++ last)
  -- their counts, and those that it told, and then told these
  pub earlier : Summary
  pub told : List RefusedLine
  pub since : List RefusedLine
  pub done : AreRoutesCounted strict table d lines earlier told
  pub tells : AreTold Hears (since ++ told) deaf heard
  -- so it ended
  pub ends : EndsCounting strict r table d (length lines) earlier last new.left since
  pub reader_failures : new.failed ≡ counted_after r old.failed
