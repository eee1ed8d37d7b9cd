-- Changes of one kind, picked of the payloads that one part of data has. Only contracts of private
-- functions cite these.
use Rattle.std.specs.Prelude.{◌≡◌, Bool, not, List, [], ◌∷◌, map, Option, Some, None, Result, IfOk}
use Rattle.std.specs.List.{filter}
use Rattle.rtr_base.specs.declared.action.Action.{Action}
use Rattle.rtr_base.specs.declared.action.Action.TheVariants.{Announce, Withdraw}
use Rattle.rtr_payload.specs.Payloads.{Payload}
use Rattle.rtr_units.specs.declared.fault.Fault.{Fault}
use Rattle.rtr_units.specs.StopCauses.{WriterState}
use Rattle.data_memory.specs.Data.{Change, has, has_name, announcement, withdrawal}
use Rattle.diff_work.specs.Differences.{change_pieces, has_some}
use Rattle.diff_work.specs.Printing.{Puts}
use Rattle.diff_work.specs.declared.printer.Printer.{Printer}

-- the payloads that are left: the first, if it was taken already, and those after it
abbrev pub behind : {T : Type 0} → (T → Payload) → Option T → List Payload → List Payload
behind meant (Some x) later = meant x ∷ later
behind meant None later = []

-- the change that announces or withdraws the payload
abbrev pub change_by : Action → Payload → Change
change_by Announce p = announcement p
change_by Withdraw p = withdrawal p

-- whether there is such a change, by the other data: what it hasn't is announced, and what it has
-- nothing of the name of is withdrawn
abbrev pub is_changed : Action → List Payload → Payload → Bool
is_changed Announce other p = not (has other p)
is_changed Withdraw other p = not (has_name other p)

-- those of these payloads that make such a change
abbrev pub changed_in : Action → (other ps : List Payload) → List Payload
changed_in action other ps = filter (is_changed action other) ps

-- these changes of these payloads
abbrev pub changes_by : Action → (other ps : List Payload) → List Change
changes_by action other ps = map (change_by action) (changed_in action other ps)

-- the changes were printed, with whether there is one, or a front of what is printed of them was
abbrev pub PrintsChanges :
    Printer → List Change → Result Bool Fault → WriterState → WriterState → Type 0
PrintsChanges printer cs r old new =
    Puts r old new (change_pieces printer.form printer.version cs)
    × IfOk r (λ any. any ≡ has_some cs)
