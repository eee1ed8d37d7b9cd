-- What is made of items: the sequence that announces their payloads (RFC 8210 section 8.1).
use Rattle.std.specs.Prelude.{◌≡◌, ◌≢◌, ◌⊎◌, ℕ, false, Option, Some, None}
use Rattle.std.specs.Prelude.{List, [], ◌++◌, map, Result, Ok, Err}
use Rattle.rtr_base.specs.declared.timing.Timing.{Timing}
use Rattle.rtr_units.specs.End.{EndMeaning, end_list}
use Rattle.rtr_units.specs.Stream.{PutsForm}
use Rattle.rtr_units.specs.StopCauses.{WriterState}
use Rattle.rtr_payload.specs.Payloads.{Payload}
use Rattle.rtr_wire.specs.Sequences.{IsSequence}
use Rattle.data_memory.specs.Deltas.{all_for, change_forms, data_for, unit_of}
use Rattle.make_work.specs.Gathering.{GathersAll, NamesFirst}
use Rattle.make_work.specs.declared.item.Item.{Item}
use Rattle.make_work.specs.declared.item.Reason.TheVariants.{NoPayloads}
use Rattle.make_work.specs.declared.item.Refusal.{Refusal}
use Rattle.make_work.specs.declared.sequence.Trouble.{Trouble}
use Rattle.make_work.specs.declared.sequence.Trouble.TheVariants as troubles
use Rattle.make_work.specs.declared.words.Request.{Request}
use Rattle.make_work.specs.declared.words.Version.{Version}
use Rattle.make_work.specs.declared.words.Version.TheVariants.{V0, V1, V2}

abbrev pub version_number : Version → ℕ
version_number V0 = 0
version_number V1 = 1
version_number V2 = 2

-- version 0 has no timings (RFC 6810 section 5.8)
abbrev pub timing_for : Version → Timing → Option Timing
timing_for V0 t = None
timing_for V1 t = Some t
timing_for V2 t = Some t

-- the end of data that is asked for
abbrev pub asked_end : Request → EndMeaning
asked_end a = record {
  version = version_number a.version;
  session = a.state.session;
  serial = a.state.serial;
  timing = timing_for a.version a.timing;
}

-- the units that announce the data, and that end of data
abbrev pub sequence_of : Request → List Payload → List ℕ
sequence_of a d =
    change_forms (version_number a.version) (all_for (version_number a.version) d)
    ++ end_list (asked_end a)

-- what version v has of the payloads isn't nothing, unless that is asked for
abbrev pub HasSome : Request → List Payload → Type 0
HasSome a d = a.takes_empty ≡ false → data_for (version_number a.version) d ≢ []

-- The sequence of just the payloads of the items is to be written, as far as the version has them,
-- which is one that is accepted; others were left out.
pub record IsSequenceOf (a : Request) (items : List Item) (d : List Payload)
    (left_out : ℕ) : Type 0 where
  pub gathered : GathersAll (version_number a.version) a.leaves_out items d left_out
  pub some : HasSome a d
  pub accepted : IsSequence (sequence_of a d)
      (map (unit_of (version_number a.version)) (all_for (version_number a.version) d))
      (asked_end a)

-- the items are gathered, and the version has none of their payloads, where that isn't asked for
pub record HasNone (a : Request) (items : List Item) : Type 0 where
  pub d : List Payload
  pub left_out : ℕ
  pub gathered : GathersAll (version_number a.version) a.leaves_out items d left_out
  pub none : data_for (version_number a.version) d ≡ []
  pub unasked : a.takes_empty ≡ false

-- an item is refused, or there would be no payload, or memory ran out
abbrev pub RefusesItems : Request → List Item → Refusal → Type 0
RefusesItems a items r = NamesFirst (version_number a.version) a.leaves_out items r r.reason
    ⊎ ((r.reason ≡ NoPayloads) × HasNone a items)

-- It was written; or a part of it, and then the writer failed; or nothing was, since an item is
-- refused, there would be no payload, or memory ran out.
abbrev pub MakesSequence : Request → List Item → Result ℕ Trouble → WriterState → WriterState →
    Type 0
MakesSequence a items (Ok n) old new = (d : List Payload) × IsSequenceOf a items d n
    × PutsForm (Ok n) old new (sequence_of a d)
MakesSequence a items (Err (troubles.Input r)) old new =
    RefusesItems a items r × (new ≡ old)
MakesSequence a items (Err (troubles.Output f)) old new = (d : List Payload) × (n : ℕ)
    × IsSequenceOf a items d n × PutsForm {T = ℕ} (Err f) old new (sequence_of a d)
