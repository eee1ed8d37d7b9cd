-- What is loaded of items that were taken.
use Rattle.std.proofs.Common.{◌≡◌, false, List, Result, Ok, Err, subst}
use Rattle.make_work.specs.Gathering.{Gathers, GathersAll, NamesFirst}
use Rattle.make_work.specs.declared.gathering.Gathered.{Gathered}
use Rattle.make_work.specs.declared.item.Item.{Item}
use Rattle.make_work.specs.declared.item.Refusal.{Refusal}

-- of what was gathered all is in the data, or the first item is refused
pub gathers_all : (items : List Item) (r : Result Gathered Refusal) (all : Gathered) →
    r ≡ Ok all → Gathers 2 false items r →
    GathersAll 2 false items all.payloads all.left_out
gathers_all items r all e h = subst (Gathers 2 false items) e h

pub names_first : (items : List Item) (r : Result Gathered Refusal) (f : Refusal) →
    r ≡ Err f → Gathers 2 false items r → NamesFirst 2 false items f f.reason
names_first items r f e h = subst (Gathers 2 false items) e h
