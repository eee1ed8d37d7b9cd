-- What a run from a slice into another writes and answers: a run as one of `normalise`, with the
-- one case more that there is no room (this library's own).
use Rattle.std.specs.Prelude.{◌≡◌, ℕ, ◌+◌, ◌<◌, ◌≤◌, List, [], ◌++◌, length, drop}
use Rattle.std.specs.Prelude.{Result, Ok, Err, IfErr, MatchResult, ⊤}
use Rattle.rtr_units.specs.StopCauses.{Refusal, Cause, by_writer, too_many, wrong}
use Rattle.unit_views.specs.declared.fault.ViewFault.TheVariants.{UnitVersion}
use Rattle.rtr_wire.specs.Run.{IsToWrite, Run}
use Rattle.rtr_wire.specs.Sequences.{Output, written_units}
use Rattle.rtr_wire.specs.SliceRun.{view_cause}
use Rattle.rtr_wire.specs.declared.into.IntoFault.{IntoFault}
use Rattle.rtr_wire.specs.declared.into.IntoFault.TheVariants.{NoRoom, TooMany, Refused}
use Rattle.rtr_wire.specs.declared.into.Progress.{Progress}

-- the answer as one of `normalise`, of n forms and with each fault by its cause: a slice without
-- room is a writer that fails
abbrev pub into_answer : ℕ → List ℕ → Result Unit IntoFault → Result ℕ Cause
into_answer n u (Ok done) = Ok n
into_answer n u (Err NoRoom) = Err by_writer
into_answer n u (Err TooMany) = Err too_many
into_answer n u (Err (Refused e)) = Err (view_cause u e)

-- the bytes are a unit or an end of data, and what is to be written for it has more bytes than this
abbrev pub LacksRoom : Output → List ℕ → ℕ → Type 0
LacksRoom what bytes room = (form : List ℕ) × IsToWrite what bytes form × (room < length form)

-- what a stop says beside how the run ended: of the last bytes, of what was written for them, and
-- of the room that is left in the output
abbrev pub StopsInto : Output → IntoFault → List ℕ → List ℕ → ℕ → Type 0
-- no room: nothing is written for the last bytes, and not all that is to be written fits
StopsInto what NoRoom last written room = LacksRoom what last room × (written ≡ [])
StopsInto what TooMany last written room = ⊤
-- refused: the input is to blame
StopsInto what (Refused e) last written room = (f : Refusal) × (view_cause last e ≡ wrong f)

-- The whole promise of a run from the input into the output, with its limit and its result:
-- `before` and `after` are what the output holds before and after it.
pub record NormalisesInto (what : Output) (limit : ℕ) (result : Result Unit IntoFault)
    (input before after : List ℕ) (p : Progress) : Type 0 where
  -- the call viewed these bytes at the front of the input, left these, and wrote these
  pub viewed : List ℕ
  pub left : List ℕ
  pub form : List ℕ
  pub parts : input ≡ viewed ++ left
  -- That was a run. The last bytes that it viewed are the unit whose broken rule is reported.
  pub last : List ℕ
  pub run : Run what limit (into_answer p.forms last result) viewed left form
  pub last_is : last ≡ run.last
  -- how many units there were, and how many of them were written
  pub units : p.units ≡ length run.meanings
  pub forms : p.forms ≡ length (written_units what run.meanings)
  -- the units count as taken, and of the last bytes only an end of data
  pub taken : MatchResult result (λ _. p.taken ≡ length viewed)
      (λ _. p.taken ≡ length run.units)
  -- what was written stands at the front of the output, and what follows is as it was
  pub written : p.written ≡ length form
  pub fits : p.written ≤ length before
  pub output : after ≡ form ++ drop p.written before
  -- why it stopped, with this room left
  pub room : ℕ
  pub room_is : p.written + room ≡ length before
  pub stops : IfErr result (λ f. StopsInto what f last run.last_written room)

-- the version is refused, with nothing taken or written
pub record RefusesVersion (version : ℕ) (p : Progress) (result : Result Unit IntoFault)
    (before after : List ℕ) : Type 0 where
  pub progress : p ≡ record { units = 0; forms = 0; taken = 0; written = 0 }
  pub fault : result ≡ Err (Refused (UnitVersion version))
  pub output : after ≡ before
