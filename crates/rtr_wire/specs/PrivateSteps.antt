-- The effect of calls inside this crate: one unit is read and its output is written, in terms of
-- the bytes that were read and written. Only contracts of private functions cite these, and the law
-- `plain_way`, which compares the plain calls with a step.
use Rattle.std.specs.Prelude.{◌≡◌, ℕ, ◌≤◌, Bool, true, false, List, [], ◌++◌, length, drop}
use Rattle.std.specs.Prelude.{Option, Some, None, Result, Ok, Err, IfSome}
use Rattle.std.specs.Io.KnownBytes.{Consumes, Appends}
use Rattle.rtr_units.specs.declared.fault.Fault.{Fault}
use Rattle.rtr_units.specs.StopCauses.{Refusal, Cause, by_writer, no_memory, too_many, wrong}
use Rattle.rtr_units.specs.StopCauses.{by_cause}
use Rattle.rtr_units.specs.AnyEnd.{end_bytes}
use Rattle.rtr_units.specs.End.{EndMeaning, IsEnd}
use Rattle.rtr_units.specs.HeaderBytes.{AreBytes}
use Rattle.rtr_payload.specs.Payloads.{Meaning}
use Rattle.rtr_payload.specs.Units.{IsUnit, form_of}
use Rattle.rtr_payload.specs.AspaUnits.{aspa_at}
use Rattle.rtr_payload.specs.KeyUnits.{key_at}
use Rattle.rtr_payload.specs.UnitFields.{LengthsAgree, meaning, key_unit, aspa_unit}
use Rattle.unit_views.specs.Origins.{origin_meaning}
use Rattle.rtr_payload.specs.UnitBytes.{unit_fields, HasNoPayload}
use Rattle.rtr_payload.specs.declared.pdu.payload.Payload.{Payload}
use Rattle.unit_views.specs.declared.fault.ViewFault.{ViewFault}
use Rattle.unit_views.specs.declared.view.UnitView.{UnitView}
use Rattle.unit_views.specs.declared.view.UnitView.TheVariants as views
use Rattle.rtr_wire.specs.declared.into.IntoFault.{IntoFault}
use Rattle.rtr_wire.specs.declared.into.IntoFault.TheVariants.{NoRoom, TooMany, Refused}
use Rattle.rtr_wire.specs.declared.into.Step.{Step}
use Rattle.rtr_wire.specs.declared.run.Passed.{Passed}
use Rattle.rtr_wire.specs.declared.run.Passed.TheVariants as passes
use Rattle.rtr_wire.specs.Comparison.{Accepted}
use Rattle.rtr_wire.specs.Into.{LacksRoom}
use Rattle.rtr_wire.specs.Run.{IsProperPrefix, Ends}
use Rattle.rtr_wire.specs.Sequences.{Output, Accepts, everything}
use Rattle.rtr_wire.specs.Sequences.{sequence_form}
use Rattle.rtr_wire.specs.SliceRun.{view_cause}

-- ---- a step from a reader to a writer

-- by what the step read: this meaning's output was written, as w, or nothing was
abbrev pub WritesMeaning : Output → Meaning → Passed → List ℕ → Type 0
WritesMeaning what m passes.Written w =
    (n : Meaning) × (what.unit m ≡ Some n) × (w ≡ form_of n)
WritesMeaning what m passes.LeftOut w = (what.unit m ≡ None) × (w ≡ [])
WritesMeaning what m passes.End w = ⊥

-- The bytes w that were written for the unit u: all of its output, or a proper prefix of it; or
-- none, if there is no payload or no memory for it.
abbrev pub FormTells : Output → Payload → Result Passed Cause → List ℕ → Type 0
FormTells what u (Ok step) w =
    LengthsAgree (unit_fields u) × WritesMeaning what (meaning (unit_fields u)) step w
FormTells what u (Err by_writer) w =
    LengthsAgree (unit_fields u) × (n : Meaning) ×
    (what.unit (meaning (unit_fields u)) ≡ Some n) × IsProperPrefix w (form_of n)
FormTells what u (Err c) w = HasNoPayload u c × (w ≡ [])

-- One unit was read, and its output was written; or an end of data, at which a run ends, as it does
-- at a fault. t was read and w written.
abbrev pub StepTells : Output → Result Passed Cause → List ℕ → List ℕ → Option (List ℕ) → Type 0
StepTells what (Ok passes.End) t w left = IfSome left (λ left. Ends what (Ok 0) t left w)
StepTells what (Ok step) t w left = (m : Meaning) × IsUnit t m × WritesMeaning what m step w
StepTells what (Err too_many) t w left = ⊥
StepTells what (Err c) t w left = IfSome left (λ left. Ends what (Err c) t left w)

-- some bytes were taken and some written, and this holds of them
abbrev pub Moves :
    (old new held holds : Option (List ℕ)) → (List ℕ → List ℕ → Type 0) → Type 0
Moves old new held holds P = (t w : List ℕ) × Consumes old new t × Appends held holds w × P t w

abbrev pub WritesForm :
    Output → Payload → Result Passed Fault → (held holds : Option (List ℕ)) → Type 0
WritesForm what u r held holds = (w : List ℕ) × Appends held holds w ×
    FormTells what u (by_cause r) w

-- one unit: the reader's bytes before and after, the writer's before and after
abbrev pub Steps :
    Output → Result Passed Fault → (old new held holds : Option (List ℕ)) → Type 0
Steps what r old new held holds =
    Moves old new held holds (λ t w. StepTells what (by_cause r) t w new)

-- one unit after its header h: the statement is about all bytes that were read, h and what follows
-- it
abbrev pub StepsAfter :
    Output → List ℕ → Result Passed Fault → (old new held holds : Option (List ℕ)) → Type 0
StepsAfter what h r old new held holds =
    AreBytes 8 h → (before : Option (List ℕ)) → Consumes before old h →
    Steps what r before new held holds

-- ---- a step from a slice to a writer

-- what a step passed, by whether it was a payload unit, and no end of data
abbrev pub passed : Bool → Passed
passed true = passes.Written
passed false = passes.End

-- whether the view is one of a payload unit
abbrev pub is_payload_unit : UnitView → Bool
is_payload_unit (views.Origin v) = true
is_payload_unit (views.RouterKey v) = true
is_payload_unit (views.Aspa v) = true
is_payload_unit (views.End e) = false

-- why a step stopped at the front of the rest: some last bytes were read, and perhaps a part of
-- their form written
abbrev pub StopsStep : ViewFault → List ℕ → Option (List ℕ) → Option (List ℕ) → Type 0
StopsStep e rest held holds =
    (last left w : List ℕ) × (rest ≡ last ++ left) × Appends held holds w
    × StepTells everything (Err (view_cause last e)) last w (Some left)

-- ---- a step from a slice into another

-- one unit was read, and its output was written; or an end of data
pub record Stepped (what : Output) (s : Step) (rest before after : List ℕ) : Type 0 where
  pub took : List ℕ
  pub wrote : List ℕ
  pub parts : rest ≡ took ++ drop s.taken rest
  pub taken : s.taken ≡ length took
  pub written : s.written ≡ length wrote
  pub fits : s.written ≤ length before
  pub output : after ≡ wrote ++ drop s.written before
  pub tells : StepTells what (Ok s.passed) took wrote (Some (drop s.taken rest))

-- why a step stopped at the front of the rest and wrote nothing, given an output of this length
abbrev pub StopsStepInto : Output → IntoFault → List ℕ → ℕ → Type 0
StopsStepInto what NoRoom rest room =
    (last left : List ℕ) × (rest ≡ last ++ left) × LacksRoom what last room
StopsStepInto what TooMany rest room = ⊥
StopsStepInto what (Refused e) rest room = (last left : List ℕ) × (rest ≡ last ++ left)
    × (f : Refusal) × (view_cause last e ≡ wrong f) × Ends what (Err (wrong f)) last left []

abbrev pub StepsInto : Output → Result Step IntoFault → (rest before after : List ℕ) → Type 0
StepsInto what (Ok s) rest before after = Stepped what s rest before after
StepsInto what (Err f) rest before after =
    (after ≡ before) × StopsStepInto what f rest (length before)

-- ---- the form of an input, kept in memory

-- the cause for a caller whose writer fails only if memory runs out
abbrev pub in_memory_cause : Cause → Cause
in_memory_cause by_writer = no_memory
in_memory_cause c = c

-- the form of the input's meaning
abbrev pub IsFormOf : ℕ → List ℕ → List ℕ → Type 0
IsFormOf limit input form =
    (ms : List Meaning) × (e : EndMeaning) × Accepted limit input ms e × (form ≡ sequence_form ms e)

-- ---- two views compared

-- what is viewed: the meaning of a payload unit, or the bytes of an end of data
pub data Viewed : Type 0 where
  unit : Meaning → Viewed
  end : List ℕ → Viewed

abbrev pub viewed : UnitView → Viewed
viewed (views.Origin v) = unit (origin_meaning v)
viewed (views.RouterKey v) = unit (meaning (key_unit (key_at v.unit.now)))
viewed (views.Aspa v) = unit (meaning (aspa_unit (aspa_at v.unit.now)))
viewed (views.End e) = end (end_bytes e)

-- what is at the front of both means the same, and this is left of them: a payload unit or an end
-- of data
abbrev pub SameFront : Bool → (left right left_rest right_rest : List ℕ) → Type 0
SameFront true left right left_rest right_rest =
    (x y : List ℕ) × (m : Meaning) × (left ≡ x ++ left_rest) × (right ≡ y ++ right_rest)
    × IsUnit x m × IsUnit y m
SameFront false left right left_rest right_rest =
    (x y : List ℕ) × (e : EndMeaning) × (left ≡ x ++ left_rest) × (right ≡ y ++ right_rest)
    × IsEnd x e × IsEnd y e

-- if both begin with sequences, these don't mean the same
abbrev pub AreDifferent : (left right : List ℕ) → Type 0
AreDifferent left right = (a b : List ℕ) (ms ns : List Meaning) (d e : EndMeaning) →
    Accepts left a ms d → Accepts right b ns e → ms ≡ ns → d ≡ e → ⊥
