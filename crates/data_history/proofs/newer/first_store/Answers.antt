use Rattle.std.proofs.Common.{◌≤◌, ◌+◌, ◌++◌, ◌∙◌, Err, [], ap, arith, length, subst, sym, take}
use Rattle.data_history.specs.Parts.{part_form}
use Rattle.std.proofs.lemmas.List.{length-take}
use Rattle.data_history.specs.Stores.{IsShortForTaking, TakesFirst}
use Rattle.data_history.proofs.Serving.{first_room, not_begun, refused_first, wants}
use Rattle.data_history.proofs.newer.first_store.Goals as goal

pub returns-in-Err-clause-takes : goal.returns-in-Err-clause-takes
returns-in-Err-clause-takes c = λ z h.
    refused_first c.in-Err.refused z c.args.spare.now c.begin.new.output
    (c.in-Err.ensures.«data» z h)

pub returns-in-Err-clause-rooms : goal.returns-in-Err-clause-rooms
returns-in-Err-clause-rooms c = λ buffer.
    first_room c.in-Err.refused (length c.args.new.now) buffer (length c.args.spare.now)
    c.in-Err.ensures.rooms

pub returns-in-Ok-first_store_into-clause-takes : goal.returns-in-Ok-first_store_into-clause-takes
returns-in-Ok-first_store_into-clause-takes c = λ z h.
    c.in-Ok-first_store_into.ensures.begins z [] (c.in-Ok.ensures.«data» z h).1

pub returns-in-Err-first_store_into-clause-takes :
    goal.returns-in-Err-first_store_into-clause-takes
returns-in-Err-first_store_into-clause-takes c = λ z h.
    subst (λ r. TakesFirst (Err r) z c.first_store_into.new.output) (sym c.fault_of.ensures.is)
    (not_begun c.in-Err-first_store_into.fault z [] c.first_store_into.new.output
    c.first_store_into.new.output
    (c.in-Err-first_store_into.ensures.begins z [] (c.in-Ok.ensures.«data» z h).1))

pub returns-in-Err-first_store_into-clause-flaw : goal.returns-in-Err-first_store_into-clause-flaw
returns-in-Err-first_store_into-clause-flaw c = c.fault_of.ensures.no_flaw c.args.new.now

pub returns-in-Err-first_store_into-clause-rooms :
    goal.returns-in-Err-first_store_into-clause-rooms
returns-in-Err-first_store_into-clause-rooms c = λ buffer.
    let size : length (take c.in-Ok.size c.begin.new.output) ≤ length c.args.spare.now =
    omega (arith, length-take c.in-Ok.size c.begin.new.output, c.begin.auto.output) in
    subst (λ r. IsShortForTaking (Err r) (length c.args.new.now) buffer (length c.args.spare.now)
    (length c.args.output.now)) (sym c.fault_of.ensures.is)
    (wants c.in-Err-first_store_into.fault
    (16 + length (take c.in-Ok.size c.begin.new.output)) (length c.args.output.now)
    (length c.args.new.now) buffer (length c.args.spare.now) (omega (arith, size))
    c.in-Err-first_store_into.ensures.room)

pub returns-in-Ok-first_store_into-clause-form : goal.returns-in-Ok-first_store_into-clause-form
returns-in-Ok-first_store_into-clause-form c =
    c.in-Ok-first_store_into.ensures.form ∙ ap (λ l. part_form 0 [] ++ l) c.in-Ok.ensures.form
