use Rattle.std.proofs.Common.{refl, sym, ap, ◌∙◌, not}
use Rattle.json.specs.Value.{members_view}
use Rattle.data_slurm.specs.SlurmFiles.{some_unknown}
use Rattle.data_slurm.specs.SlurmNames.{may_have}
use Rattle.data_slurm.proofs.TestedSoFar.{ended, found, passed, starts}
use Rattle.data_slurm.proofs.file.check_members.Goals as goal

pub loop-member-init : goal.loop-member-init
loop-member-init c =
    starts (λ ms. some_unknown c.args.form (members_view ms)) c.args.members.now

pub returns-then-not-may_have : goal.returns-then-not-may_have
returns-then-not-may_have c = (
  c.refusal.ensures,
  sym (found (λ ms. some_unknown c.args.form (members_view ms))
      (λ m. not (may_have c.args.form m.0.now)) refl (λ x xs. refl) c.args.members.now
      c.loop-member.member-index c.member-item.result c.loop-member-test.true c.member-item.is
      c.loop-member.invariant (ap not (sym c.may_have.ensures ∙ c.if-not-may_have.true))),
)

pub loop-member-preserved : goal.loop-member-preserved
loop-member-preserved c =
    passed (λ ms. some_unknown c.args.form (members_view ms))
    (λ m. not (may_have c.args.form m.0.now)) refl (λ x xs. refl) c.args.members.now
    c.loop-member.member-index c.member-item.result c.loop-member-test.true c.member-item.is
    c.loop-member.invariant (ap not (sym c.may_have.ensures ∙ c.if-not-may_have.false))

pub returns : goal.returns
returns c =
    sym (ended (λ ms. some_unknown c.args.form (members_view ms))
    (λ m. not (may_have c.args.form m.0.now)) refl (λ x xs. refl) c.args.members.now
    c.loop-member.member-index c.loop-member-test.false c.loop-member.invariant)
