-- What counting one line leaves. Only contracts of private functions cite these.
use Rattle.std.specs.Prelude.{◌≡◌, ℕ, ◌++◌, Bool, true, List, Result, Ok, Err}
use Rattle.rtr_units.specs.StopCauses.{cause_of, no_memory}
use Rattle.validate_work.specs.RefusedLines.{AreTold, RefusedLine}
use Rattle.validate_work.specs.RoutesCounted.{IsLineCounted, IsRouteCounted}
use Rattle.validate_work.specs.SummaryTexts.{IsSummary}
use Rattle.validate_work.specs.TableTexts.{RefusesTable}
use Rattle.validate_work.specs.declared.counts.Summary.{Summary}
use Rattle.validate_work.specs.declared.form.Form.{Form}
use Rattle.validate_work.specs.declared.lines.Stop.{Stop}
use Rattle.validate_work.specs.declared.lines.Stop.TheVariants as stops
use Rattle.validate_work.specs.declared.lists.Lists.{Lists}
use Rattle.validate_work.specs.declared.route_text.TableRoute.{TableRoute}
use Rattle.validate_work.specs.declared.table.Table.{Table}

-- a route is counted
pub record CountsRoute (ls : Lists) (r : TableRoute) (before after : Summary) : Type 0 where
  pub counted : IsRouteCounted ls r before after

-- the summary after the line of this number, or that it ends a strict run, or that memory ran out
abbrev pub CountsLine : {T : Type 0} → (Hears : T → RefusedLine → T → Type 0) → (strict : Bool) →
    Table → Lists → (number : ℕ) → (line : List ℕ) → (before after : Summary) →
    Result (Unit {0}) Stop → (old new : T) → Type 0
CountsLine Hears strict table ls number line before after (Ok x) old new =
    (told : List RefusedLine) × IsLineCounted strict table ls number line before after told
    × AreTold Hears told old new
CountsLine Hears strict table ls number line before after (Err (stops.Line told error)) old new =
    (strict ≡ true) × (told ≡ number) × RefusesTable table line error × (new ≡ old)
CountsLine Hears strict table ls number line before after (Err (stops.Fault e)) old new =
    (cause_of e ≡ no_memory) × (new ≡ old)

-- the text of a summary is added to a line
abbrev pub AddsSummary : Form → (compared : Bool) → Summary → (old new : List ℕ) → Type 0
AddsSummary form compared s old new =
    (text : List ℕ) × IsSummary form compared s text × (new ≡ old ++ text)
