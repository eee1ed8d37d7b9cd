use Rattle.std.proofs.Common.{None, refl, sym, ◌∙◌}
use Rattle.std.proofs.lemmas.Bool.{true≢false}
use Rattle.rtr_base.specs.declared.action.Action.TheVariants.{Announce}
use Rattle.rtr_units.specs.AnyEnd.{end_meaning}
use Rattle.data_slices.specs.PrivateChanges.{last_version}
use Rattle.data_slices.proofs.Checking.{end_misplaced, ends, refused, unit_misplaced}
use Rattle.data_slices.proofs.Passing.{all_checked}
use Rattle.data_slices.proofs.Running.{goes, starts}
use Rattle.data_slices.proofs.check.check_data.Goals as goal

pub items-init : goal.items-init
items-init c = starts Announce None c.args.input.now

pub returns-then-not-goes_on-clause-flaw : goal.returns-then-not-goes_on-clause-flaw
returns-then-not-goes_on-clause-flaw c =
    let next = rw c.in-Unit.is at c.in-Ok.ensures.item in
    let l = c.items in
    unit_misplaced c.args.input.now l.rest.now l.last l.invariant c.not_canonical.result
    c.not_canonical.ensures.offset c.not_canonical.ensures.reason c.in-Unit.view
    c.in-Ok.first.1.now next
    (λ on. true≢false (sym (c.goes_on.ensures.1 on) ∙ c.if-not-goes_on.true))

pub items-preserved : goal.items-preserved
items-preserved c =
    let next = rw c.in-Unit.is at c.in-Ok.ensures.item in
    let l = c.items in
    let (views, runs) = c.pass_prefixes-above.ensures.passed in
    all_checked c.args.input.now views c.in-Unit.view c.in-Ok.first.1.now
    c.pass_prefixes-above.result.0 c.pass_prefixes-above.result.1.now
    (goes Announce None c.args.input.now l.rest.now l.last (last_version l.last) l.invariant
    c.in-Unit.view c.in-Ok.first.1.now next (c.goes_on.ensures.0 c.if-not-goes_on.false)) runs

pub returns-then-not-ends_after-clause-flaw : goal.returns-then-not-ends_after-clause-flaw
returns-then-not-ends_after-clause-flaw c =
    let (b, is, parts) = rw c.in-End.is at c.in-Ok.ensures.item in
    let l = c.items in
    end_misplaced c.args.input.now l.rest.now l.last l.invariant
    c.not_canonical-then-not-ends_after.result
    c.not_canonical-then-not-ends_after.ensures.offset
    c.not_canonical-then-not-ends_after.ensures.reason b c.in-Ok.first.1.now
    (end_meaning c.in-End.end) is.1 parts
    (λ after. true≢false (sym (c.ends_after.ensures.1 after) ∙ c.if-not-ends_after.true))

pub returns-in-End-clause-data : goal.returns-in-End-clause-data
returns-in-End-clause-data c =
    let (b, is, parts) = rw c.in-End.is at c.in-Ok.ensures.item in
    let l = c.items in
    ends c.args.input.now l.rest.now l.last l.invariant b c.in-Ok.first.1.now
    (end_meaning c.in-End.end) is.1 parts (c.ends_after.ensures.0 c.if-not-ends_after.false)

pub returns-in-Err-clause-flaw : goal.returns-in-Err-clause-flaw
returns-in-Err-clause-flaw c =
    refused c.args.input.now c.items.rest.now c.items.last c.items.invariant _ refl c.in-Err.fault
    refl c.in-Err.ensures.fault
