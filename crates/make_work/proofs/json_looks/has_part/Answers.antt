use Rattle.std.proofs.Common.{refl, sym, ◌∙◌}
use Rattle.make_work.specs.JsonNames.{is_part}
use Rattle.make_work.proofs.JsonSoFar.{some_part}
use Rattle.data_slurm.proofs.TestedSoFar.{ended, found, passed, starts}
use Rattle.make_work.proofs.json_looks.has_part.Goals as goal

pub loop-member-init : goal.loop-member-init
loop-member-init c = starts (some_part c.args.part) c.args.members.now

pub returns-then-is_named : goal.returns-then-is_named
returns-then-is_named c =
    found (some_part c.args.part) (λ m. is_part c.args.part m.0.now) refl (λ x xs. refl)
    c.args.members.now c.loop-member.member-index c.member-item.result c.loop-member-test.true
    c.member-item.is c.loop-member.invariant (sym c.is_named.ensures ∙ c.if-is_named.true)

pub loop-member-preserved : goal.loop-member-preserved
loop-member-preserved c =
    passed (some_part c.args.part) (λ m. is_part c.args.part m.0.now) refl (λ x xs. refl)
    c.args.members.now c.loop-member.member-index c.member-item.result c.loop-member-test.true
    c.member-item.is c.loop-member.invariant (sym c.is_named.ensures ∙ c.if-is_named.false)

pub returns : goal.returns
returns c =
    ended (some_part c.args.part) (λ m. is_part c.args.part m.0.now) refl (λ x xs. refl)
    c.args.members.now c.loop-member.member-index c.loop-member-test.false c.loop-member.invariant
