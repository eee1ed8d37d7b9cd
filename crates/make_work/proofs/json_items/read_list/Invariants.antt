use Rattle.std.proofs.Common.{List, length}
use Rattle.json.specs.Json.{Json, value}
use Rattle.make_work.specs.JsonPayloads.{AreItemPayloads}
use Rattle.make_work.specs.PrivateJson.{AddsPayloads}
use Rattle.make_work.proofs.JsonTokens.{ItemsSoFar}
use Rattle.make_work.proofs.json_items.read_list.Given as goal

abbrev pub invariant-loop-spot : goal.invariant-loop-spot
invariant-loop-spot l = (done : List Json) × ItemsSoFar (value 126) l.initial.reader l.reader done
    × AddsPayloads (AreItemPayloads l.kind done) l.initial.gathering l.gathering

abbrev pub decreases-loop-spot : goal.decreases-loop-spot
decreases-loop-spot l = length l.reader
