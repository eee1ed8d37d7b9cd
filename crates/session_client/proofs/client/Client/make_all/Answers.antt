use Rattle.std.proofs.Common.{◌+◌, ◌∷◌, ◌<◌, [], None, inl, inr, length, subst, sym, take, drop}
use Rattle.std.specs.Prelude.{Err, Ok}
use Rattle.session_client.specs.Tells.{Word, of_nothing}
use Rattle.data_slices.specs.declared.in_order_fault.InOrderFault.TheVariants as faults
use Rattle.data_slices.specs.contracts.in_order_fault.InOrderFault.{the_type}
use Rattle.data_slices.specs.declared.in_order_fault.InOrderFault.{InOrderFault}
use Rattle.session_router.specs.declared.event.Event.TheVariants as events
use Rattle.session_client.specs.Words.{IsOfEvent, IsOfResult}
use types.Run.{OneOf, miss}
use denote.Enum.Declared.{tag_of}
use Rattle.session_client.specs.Holding.{Holds}
use Rattle.session_client.specs.Makings.{MadeAnswer, onto}
use Rattle.session_client.specs.Counting.{IsKeptCount}
use Rattle.session_client.proofs.CountsKept.{index_enough}
use Rattle.session_client.proofs.Made.{duplicate_at, no_index, unknown_at}
use Rattle.session_client.proofs.Room.{wants_index, wants_room}
use Rattle.session_client.proofs.Runs.{made_is}
use Rattle.session_client.proofs.Takes.{takes_none}
use Rattle.session_client.proofs.client.Client.make_all.Goals as goal

pub returns-in-Ok-clause-serves : goal.returns-in-Ok-clause-serves
returns-in-Ok-clause-serves c =
    let s = c.args.self.now in
    let input = c.args.input.now in
    let size = c.args.size in
    let made = c.make.new.made in
    let new = take c.in-Ok.count made in
    let one : MadeAnswer = record {
      base = onto c.args.since s.shown c.args.held.now (take size (drop s.kept input));
      answer = take (s.kept + size) input;
      new = new;
    } in
    λ set x. record {
      made = one ∷ x.made;
      were = (c.in-Ok.ensures.made, x.were);
      counts = c.adopt.ensures.counts;
      stands = λ k settings makes.
          let y = x.stands k settings makes.1 in
          let due = subst (λ m. Holds k y.host m s.kept input) c.requires.due y.holds in
          c.adopt.ensures.stands k c.args.held.now made y
          (made_is k y.host size c.args.since s.kept s.shown input c.args.held.now new y.shows
          makes.0
          due);
    }

pub returns-in-Ok-clause-enough : goal.returns-in-Ok-clause-enough
returns-in-Ok-clause-enough c = λ room wants. c.adopt.ensures.enough (wants_room _ wants)

pub returns-in-Err-Duplicate-clause-enough : goal.returns-in-Err-Duplicate-clause-enough
returns-in-Err-Duplicate-clause-enough c = λ room wants.
    c.refuse.ensures.enough (wants_room _ wants)

pub returns-in-Err-Unknown-clause-enough : goal.returns-in-Err-Unknown-clause-enough
returns-in-Err-Unknown-clause-enough c = λ room wants.
    c.refuse-in-Err-Unknown.ensures.enough (wants_room _ wants)

pub returns-in-Err-Data-clause-enough : goal.returns-in-Err-Data-clause-enough
returns-in-Err-Data-clause-enough c = λ room wants.
    c.cannot_make.ensures.enough (wants_room _ wants)

pub returns-in-Err-Duplicate-clause-names : goal.returns-in-Err-Duplicate-clause-names
returns-in-Err-Duplicate-clause-names c =
    let s = c.args.self.now in
    let x = c.in-Err-Duplicate in
    c.refuse.ensures.names c.args.held.now c.args.since c.args.size (length c.args.index.now)
    c.requires.due
    (duplicate_at x.field-0 x.offset
    (onto c.args.since s.shown c.args.held.now (take c.args.size (drop s.kept c.args.input.now)))
    (take (s.kept + c.args.size) c.args.input.now) (length c.args.index.now) c.args.made.now
    c.make.new.made x.field-0-is x.ensures.applies)

pub returns-in-Err-Unknown-clause-names : goal.returns-in-Err-Unknown-clause-names
returns-in-Err-Unknown-clause-names c =
    let s = c.args.self.now in
    let x = c.in-Err-Unknown in
    c.refuse-in-Err-Unknown.ensures.names c.args.held.now c.args.since c.args.size
    (length c.args.index.now)
    c.requires.due
    (unknown_at x.field-0 x.offset
    (onto c.args.since s.shown c.args.held.now (take c.args.size (drop s.kept c.args.input.now)))
    (take (s.kept + c.args.size) c.args.input.now) (length c.args.index.now) c.args.made.now
    c.make.new.made x.field-0-is x.ensures.applies)

pub returns-in-Err-NoIndex-clause-index : goal.returns-in-Err-NoIndex-clause-index
returns-in-Err-NoIndex-clause-index c = λ counts room wants.
    let s = c.args.self.now in
    let input = c.args.input.now in
    index_enough
    (onto c.args.since s.shown c.args.held.now (take c.args.size (drop s.kept input)))
    (take (s.kept + c.args.size) input) s.router.units (length c.args.index.now)
    (subst (λ m. IsKeptCount m s.router s.kept input) c.requires.due counts) room
    (no_index c.in-Err-NoIndex.field-0
    (onto c.args.since s.shown c.args.held.now (take c.args.size (drop s.kept input)))
    (take (s.kept + c.args.size) input) (length c.args.index.now) c.args.made.now
    c.make.new.made c.in-Err-NoIndex.field-0-is c.in-Err-NoIndex.ensures.applies)

pub returns-in-Ok-clause-index : goal.returns-in-Ok-clause-index
returns-in-Ok-clause-index c = λ counts room wants.
    c.adopt.ensures.enough (wants_index _ wants)

pub returns-in-Err-Duplicate-clause-index : goal.returns-in-Err-Duplicate-clause-index
returns-in-Err-Duplicate-clause-index c = λ counts room wants.
    c.refuse.ensures.enough (wants_index _ wants)

pub returns-in-Err-Unknown-clause-index : goal.returns-in-Err-Unknown-clause-index
returns-in-Err-Unknown-clause-index c = λ counts room wants.
    c.refuse-in-Err-Unknown.ensures.enough (wants_index _ wants)

pub returns-in-Err-Data-clause-index : goal.returns-in-Err-Data-clause-index
returns-in-Err-Data-clause-index c = λ counts room wants.
    c.cannot_make.ensures.enough (wants_index _ wants)

pub returns-in-Ok-clause-takes : goal.returns-in-Ok-clause-takes
returns-in-Ok-clause-takes c =
    let s = c.args.self.now in
    let input = c.args.input.now in
    let size = c.args.size in
    let held = c.args.held.now in
    let made = c.make.new.made in
    let new = take c.in-Ok.count made in
    let one : MadeAnswer = record {
      base = onto c.args.since s.shown held (take size (drop s.kept input));
      answer = take (s.kept + size) input;
      new = new;
    } in
    let takes = c.adopt.ensures.takes held made one c.in-Ok.ensures.made
    (λ k h makes x. made_is k h size c.args.since s.kept s.shown input held new x.0 makes
    (subst (λ m. Holds k h m s.kept input) c.requires.due x.1)) in
    (takes.0, inr (Ok c.in-Ok.count, c.in-Ok.ensures.applies, takes.1))

pub returns-in-Err-Duplicate-clause-takes : goal.returns-in-Err-Duplicate-clause-takes
returns-in-Err-Duplicate-clause-takes c =
    let takes = c.refuse.ensures.takes c.args.held.now c.make.new.made in
    let fault = c.in-Err-Duplicate in (
      takes.0,
      inr (
        Err fault.field-0,
        fault.ensures.applies,
        subst (λ f. IsOfResult (Err f) takes.0.word) (sym fault.field-0-is) takes.1,
      ),
    )

pub returns-in-Err-Unknown-clause-takes : goal.returns-in-Err-Unknown-clause-takes
returns-in-Err-Unknown-clause-takes c =
    let takes = c.refuse-in-Err-Unknown.ensures.takes c.args.held.now c.make.new.made in
    let fault = c.in-Err-Unknown in (
      takes.0,
      inr (
        Err fault.field-0,
        fault.ensures.applies,
        subst (λ f. IsOfResult (Err f) takes.0.word) (sym fault.field-0-is) takes.1,
      ),
    )

-- a fault that is neither of room nor of a change
of_others : (f : InOrderFault) (w : Word) → OneOf (0 ∷ 1 ∷ 2 ∷ 3 ∷ []) (tag_of the_type f) →
    IsOfEvent (events.NotApplied None) w → IsOfResult (Err f) w
of_others faults.NoRoom w key is = absurd (miss (0 ∷ 1 ∷ 2 ∷ 3 ∷ []) 7 tt key)
of_others faults.NoIndex w key is = absurd (miss (0 ∷ 1 ∷ 2 ∷ 3 ∷ []) 4 tt key)
of_others (faults.Duplicate o) w key is = absurd (miss (0 ∷ 1 ∷ 2 ∷ 3 ∷ []) 5 tt key)
of_others (faults.Unknown o) w key is = absurd (miss (0 ∷ 1 ∷ 2 ∷ 3 ∷ []) 6 tt key)
of_others (faults.Data e) w key is = is
of_others (faults.Changes e) w key is = is
of_others (faults.UnitVersion v) w key is = is
of_others (faults.Session n) w key is = is

pub returns-in-Err-Data-clause-takes : goal.returns-in-Err-Data-clause-takes
returns-in-Err-Data-clause-takes c =
    let fault = c.in-Err-Data.field-0 in
    let key : OneOf (0 ∷ 1 ∷ 2 ∷ 3 ∷ []) (tag_of the_type fault) = search in
    let takes = c.cannot_make.ensures.takes c.args.held.now c.make.new.made in (
      takes.0,
      inr (
        Err fault,
        c.in-Err-Data.ensures.applies,
        of_others fault takes.0.word key takes.1,
      ),
    )

pub returns-in-Err-NoRoom-clause-takes : goal.returns-in-Err-NoRoom-clause-takes
returns-in-Err-NoRoom-clause-takes c =
    let s = c.args.self.now in
    let fault = c.in-Err-NoRoom in (
      takes_none c.args.now s.router s.holding s.kept s.filled s.shown c.args.input.now
          c.args.held.now,
      inr (
        Err fault.field-0,
        fault.ensures.applies,
        subst (λ f. IsOfResult (Err f) of_nothing) (sym fault.field-0-is) tt,
      ),
    )

pub returns-in-Err-NoIndex-clause-takes : goal.returns-in-Err-NoIndex-clause-takes
returns-in-Err-NoIndex-clause-takes c =
    let s = c.args.self.now in
    let fault = c.in-Err-NoIndex in (
      takes_none c.args.now s.router s.holding s.kept s.filled s.shown c.args.input.now
          c.args.held.now,
      inr (
        Err fault.field-0,
        fault.ensures.applies,
        subst (λ f. IsOfResult (Err f) of_nothing) (sym fault.field-0-is) tt,
      ),
    )

pub returns-then-made-room-clause-takes : goal.returns-then-made-room-clause-takes
returns-then-made-room-clause-takes c =
    let s = c.args.self.now in (
      takes_none c.args.now s.router s.holding s.kept s.filled s.shown c.args.input.now
          c.args.held.now,
      inl (
        subst (λ n. length c.args.made.now < n) c.data_room-room.ensures c.if-made-room.true,
        tt,
      ),
    )

pub returns-in-Ok-clause-whole : goal.returns-in-Ok-clause-whole
returns-in-Ok-clause-whole c = λ shows. record {
  end = c.args.size;
  since = c.args.since;
  answer = c.requires.due;
  size = c.in-Ok.count;
  shown_is = c.adopt.ensures.size shows;
  applies = c.in-Ok.ensures.applies;
}

pub returns-in-Err-Duplicate-clause-whole : goal.returns-in-Err-Duplicate-clause-whole
returns-in-Err-Duplicate-clause-whole c = λ shows. absurd (c.refuse.ensures.acts shows)

pub returns-in-Err-Unknown-clause-whole : goal.returns-in-Err-Unknown-clause-whole
returns-in-Err-Unknown-clause-whole c = λ shows.
    absurd (c.refuse-in-Err-Unknown.ensures.acts shows)

pub returns-in-Err-Data-clause-whole : goal.returns-in-Err-Data-clause-whole
returns-in-Err-Data-clause-whole c = λ shows. absurd (c.cannot_make.ensures.acts shows)

pub returns-then-made-room-clause-whole : goal.returns-then-made-room-clause-whole
returns-then-made-room-clause-whole c = λ shows. absurd shows

pub returns-in-Err-NoRoom-clause-whole : goal.returns-in-Err-NoRoom-clause-whole
returns-in-Err-NoRoom-clause-whole c = λ shows. absurd shows

pub returns-in-Err-NoIndex-clause-whole : goal.returns-in-Err-NoIndex-clause-whole
returns-in-Err-NoIndex-clause-whole c = λ shows. absurd shows
