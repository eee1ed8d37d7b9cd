-- Where a unit of a recording isn't taken.
use Rattle.std.proofs.Common.{◌≡◌, ℕ, List, Option, Err, refl, inl, inr}
use Rattle.rtr_units.specs.StopCauses.{Cause, by_reader, by_writer, too_many, no_memory, wrong}
use Rattle.rtr_units.specs.StopCauses.{reader_count, short, unit_type, unit_version, too_long}
use Rattle.rtr_units.specs.StopCauses.{unit_length, empty_providers, refused}
use Rattle.rtr_payload.specs.declared.pdu.payload.Payload.{Payload as Read}
use Rattle.unit_any.specs.AnyUnits.{any_bytes}
use Rattle.unit_any.specs.declared.any_unit.AnyUnit.{AnyUnit}
use Rattle.unit_any.specs.declared.any_unit.AnyUnit.TheVariants as units
use Rattle.data_recordings.specs.PrivateRecordings.{HasNoChange}
use Rattle.data_recordings.specs.RecordingRead.{HasNoUnit, StopsReading}
use Rattle.data_recordings.specs.Recordings.{SoMuch}

pub no_change : (u : AnyUnit) (c : Cause) (left : Option (List ℕ)) → HasNoChange u c →
    HasNoUnit c (any_bytes u) left
no_change (units.Payload u) c left none = inr (u, refl, none)
no_change (units.SerialNotify u) c left none = absurd none
no_change (units.SerialQuery u) c left none = absurd none
no_change (units.ResetQuery u) c left none = absurd none
no_change (units.CacheResponse u) c left none = absurd none
no_change (units.EndOfData u) c left none = absurd none
no_change (units.CacheReset u) c left none = absurd none
no_change (units.Error u) c left none = absurd none

pub stops_reading : (c : Cause) (n : ℕ) (h : SoMuch) (last : List ℕ) (left : Option (List ℕ)) →
    HasNoUnit c last left → StopsReading c n h last left
stops_reading by_reader n h last left none = none
stops_reading by_writer n h last left none = none
stops_reading too_many n h last left (inl stops) = absurd stops
stops_reading too_many n h last left (inr (u, is, never)) = absurd never
stops_reading no_memory n h last left none = none
stops_reading (wrong short) n h last left none = inl none
stops_reading (wrong (unit_type t)) n h last left none = none
stops_reading (wrong (unit_version v)) n h last left none = none
stops_reading (wrong too_long) n h last left none = none
stops_reading (wrong unit_length) n h last left none = none
stops_reading (wrong empty_providers) n h last left none = none
stops_reading (wrong (refused report)) n h last left none = none

-- the reader isn't blamed for a unit that was read
module _ (u : Read) where
  unit_not_blamed : (c : Cause) (n : ℕ) → HasNoChange (units.Payload u) c →
      n ≡ reader_count {T = ℕ} (Err c) n
  unit_not_blamed by_reader n none = absurd none
  unit_not_blamed by_writer n none = refl
  unit_not_blamed too_many n none = refl
  unit_not_blamed no_memory n none = refl
  unit_not_blamed (wrong f) n none = refl

pub not_blamed : (u : AnyUnit) (c : Cause) (n : ℕ) → HasNoChange u c →
    n ≡ reader_count {T = ℕ} (Err c) n
not_blamed (units.Payload u) c n none = unit_not_blamed u c n none
not_blamed (units.SerialNotify u) c n none = absurd none
not_blamed (units.SerialQuery u) c n none = absurd none
not_blamed (units.ResetQuery u) c n none = absurd none
not_blamed (units.CacheResponse u) c n none = absurd none
not_blamed (units.EndOfData u) c n none = absurd none
not_blamed (units.CacheReset u) c n none = absurd none
not_blamed (units.Error u) c n none = absurd none
