use Rattle.std.proofs.Common.{sym, refl, ◌∙◌}
use Rattle.make_work.specs.Gathering.{item_payload}
use Rattle.make_work.proofs.Takings.{gathers_none, gathers_payload, gathers_refusal}
use Rattle.make_work.proofs.Takings.{refusal_told}
use Rattle.make_work.proofs.gathering.Gathering.gather.Goals as goal

pub returns-then-is_some : goal.returns-then-is_some
returns-then-is_some c =
    gathers_none c.args.item c.args.self.now (sym c.is_some.ensures ∙ c.if-is_some.true)

pub returns-in_default : goal.returns-in_default
returns-in_default c =
    gathers_payload c.args.item c.args.self.now _ (sym c.is_some.ensures ∙ c.if-is_some.false)
    c.add.ensures.range c.in_default.ensures.adds.0 c.in_default.ensures.adds.1

pub returns-else-is_memory : goal.returns-else-is_memory
returns-else-is_memory c =
    let old = c.args.self.now in
    gathers_refusal c.args.item old _ _ (sym c.is_some.ensures ∙ c.if-is_some.false) refl
    (refusal_told old.version old.leaves_out (item_payload c.args.item) old.payloads
    c.add.new.payloads c.in-Err.reason (sym c.is_memory.ensures ∙ c.if-is_memory.false)
    c.in-Err.ensures.adds)
