use Rattle.std.proofs.Common.{refl, sym, subst, take, ◌∙◌}
use Rattle.json.specs.Value.{members_view}
use Rattle.make_work.specs.JsonValues.{members_list}
use Rattle.make_work.specs.PrivateJson.{IsOnly}
use Rattle.make_work.proofs.PartsSoFar.{another, named_as, passed}
use Rattle.make_work.proofs.json_objects.Spot.part.Goals as goal
use Rattle.make_work.proofs.json_objects.Spot.part.Goals.{then-is_named+in-None, else-is_named}

pub loop-member-preserved : goal.loop-member-preserved
loop-member-preserved c =
    let p = c.args.part in
    let ms = c.args.members.now in
    let i = c.loop-member.member-index in
    elim c.if-is_named.branch [
      | then-is_named+in-None w ↦
          named_as p ms i c.member-item.result c.loop-member-test.true c.member-item.is
          c.if-is_named.found w.found-is (sym c.is_named.ensures ∙ w.if-is_named.true) refl
          (subst (IsOnly p (members_list (members_view (take i ms)))) w.in-None.is
          c.loop-member.invariant)
      | else-is_named w ↦ rw w.found-is
          (passed p ms i c.member-item.result c.loop-member-test.true c.member-item.is
          c.loop-member.found (sym c.is_named.ensures ∙ w.if-is_named.false)
          c.loop-member.invariant)
    ]

pub returns-in-Some : goal.returns-in-Some
returns-in-Some c = (
  c.refusal_of.ensures,
  another c.args.part c.args.members.now c.loop-member.member-index c.member-item.result
      c.loop-member.found c.in-Some.field-0 c.loop-member-test.true c.member-item.is c.in-Some.is
      (sym c.is_named.ensures ∙ c.if-is_named.true) c.loop-member.invariant,
)
