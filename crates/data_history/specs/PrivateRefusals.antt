-- Why newer data are refused. Only contracts of private functions cite these.
use Rattle.std.specs.Prelude.{◌≡◌, ◌≢◌, ◌<◌, ◌≤◌, ℕ, length}
use Rattle.rtr_units.specs.AnyEnd.{end_bytes, end_meaning}
use Rattle.rtr_units.specs.declared.end.EndOfData.{EndOfData}
use Rattle.data_history.specs.declared.next.Refused.{Refused}
use Rattle.data_history.specs.declared.next.Refused.TheVariants as refusals

-- why data whose serial number isn't later are refused, by the ends and the length of the delta
abbrev pub NamesWhy : Refused → (before end : EndOfData) → (size : ℕ) → Type 0
NamesWhy refusals.Same before end size =
    (size ≤ length (end_bytes before)) × (end_bytes before ≡ end_bytes end)
NamesWhy refusals.Times before end size =
    (size ≤ length (end_bytes before))
    × ((end_meaning before).serial ≡ (end_meaning end).serial)
    × (end_bytes before ≢ end_bytes end)
NamesWhy refusals.Serial before end size =
    (end_meaning before).serial ≡ (end_meaning end).serial → length (end_bytes before) < size
NamesWhy r before end size = ⊥
