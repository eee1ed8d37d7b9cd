-- How payloads are kept. Only contracts of private functions cite this.
use Rattle.std.specs.Prelude.{Some}
use Rattle.rtr_base.specs.Timings.{default_timing}
use Rattle.rtr_units.specs.End.{EndMeaning}

-- the end of data of the units in which they are kept
abbrev pub kept_end : EndMeaning
kept_end = record { version = 2; session = 0; serial = 0; timing = Some default_timing }
