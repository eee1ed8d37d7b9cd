use Rattle.std.proofs.Common.{sym, ◌∙◌}
use Rattle.make_work.proofs.TimesSoFar.{looks_at_fault, looks_at_gone, looks_at_left, looks_refused}
use Rattle.make_work.proofs.expiring.Times.look.Goals as goal

pub returns-then-is_some : goal.returns-then-is_some
returns-then-is_some c =
    looks_refused c.args.item.now _ c.args.self.now (sym c.is_some.ensures ∙ c.if-is_some.true)

pub returns-in-Some-expiry_fault : goal.returns-in-Some-expiry_fault
returns-in-Some-expiry_fault c =
    looks_at_fault c.args.item.now c.args.self.now c.in-Some.now c.in-Some.is
    (sym c.is_some.ensures ∙ c.if-is_some.false) _ _ (sym c.in-Some-expiry_fault.ensures)

pub returns-then-lasts : goal.returns-then-lasts
returns-then-lasts c =
    looks_at_left c.args.item.now c.args.self.now c.in-Some.now c.in-Some.is
    (sym c.is_some.ensures ∙ c.if-is_some.false) _
    (sym c.expiry_fault.ensures ∙ c.in_default-expiry_fault.is)
    (sym c.lasts.ensures ∙ c.if-lasts.true) c.sooner-self.ensures

pub returns : goal.returns
returns c =
    looks_at_gone c.args.item.now c.args.self.now c.in-Some.now c.in-Some.is
    (sym c.is_some.ensures ∙ c.if-is_some.false) _
    (sym c.expiry_fault.ensures ∙ c.in_default-expiry_fault.is)
    (sym c.lasts.ensures ∙ c.if-lasts.false) c.in-Some-checked_add.ensures.1
