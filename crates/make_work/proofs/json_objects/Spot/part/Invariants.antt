use Rattle.std.proofs.Common.{take}
use Rattle.json.specs.Value.{members_view}
use Rattle.make_work.specs.JsonValues.{members_list}
use Rattle.make_work.specs.PrivateJson.{IsOnly}
use Rattle.make_work.proofs.json_objects.Spot.part.Given as goal

abbrev pub invariant-loop-member : goal.invariant-loop-member
invariant-loop-member l =
    IsOnly l.part (members_list (members_view (take l.member-index l.members))) l.found
