use Rattle.std.proofs.Common.{◌≡◌, ℕ, List, length}
use Rattle.std.specs.List.{list_any}
use Rattle.json.specs.Json.{Json, value}
use Rattle.make_work.specs.JsonPayloads.{ArePayloadsOfEach, AreTopPayloads, is_array}
use Rattle.make_work.specs.MakeWords.{ignored_by_words}
use Rattle.make_work.specs.PrivateJson.{AddsPayloads}
use Rattle.make_work.proofs.JsonTokens.{MembersSoFar}
use Rattle.make_work.proofs.json_items.read_members.Given as goal

abbrev pub invariant-loop-name : goal.invariant-loop-name
invariant-loop-name l = (done : List (List ℕ × Json))
    × MembersSoFar (value 127) l.initial.reader l.reader done
    × AddsPayloads (ArePayloadsOfEach (AreTopPayloads (ignored_by_words l.words)) done)
    l.initial.gathering l.gathering
    × (l.has_array ≡ list_any (λ m. is_array (ignored_by_words l.words) m.0) done)

abbrev pub decreases-loop-name : goal.decreases-loop-name
decreases-loop-name l = length l.reader
