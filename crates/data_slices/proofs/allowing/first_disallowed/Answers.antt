use Rattle.std.proofs.Common.{Some, sym, subst, ap, ◌∙◌}
use Rattle.data_slices.specs.PrivateInOrder.{earlier_of}
use Rattle.data_slices.proofs.Deciding.{Deciding, ends, goes_on, starts}
use Rattle.data_slices.proofs.allowing.first_disallowed.Goals as goal

pub offsets-init : goal.offsets-init
offsets-init c = starts c.args.«data».now c.args.input.now c.args.offsets.now c.requires

pub offsets-preserved : goal.offsets-preserved
offsets-preserved c =
    let l = c.offsets in
    let f = c.in-Some.first in
    subst (Deciding c.args.«data».now c.args.input.now c.args.offsets.now f.2.now
    c.there_before-is_there.result.1.now (Some f.1))
    (sym (c.earlier-found.ensures ∙ ap (earlier_of l.found) c.disallowed.ensures))
    (goes_on c.args.«data».now c.args.input.now c.args.offsets.now l.rest.now l.data_rest.now
    l.last l.found l.invariant f.0 f.1 f.2.now c.in-Some.ensures
    c.there_before-is_there.result.0 c.there_before-is_there.result.1.now
    c.there_before-is_there.ensures)

pub returns-in-None : goal.returns-in-None
returns-in-None c =
    let l = c.offsets in
    ends c.args.«data».now c.args.input.now c.args.offsets.now l.rest.now l.data_rest.now
    l.last l.found l.invariant c.in-None.ensures
