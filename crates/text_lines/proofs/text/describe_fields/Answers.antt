use Rattle.std.proofs.Common.{rules}
use Rattle.text_lines.proofs.Laid.{lays_said}
use Rattle.text_lines.proofs.text.describe_fields.Goals as goal

pub returns-in-SerialNotify : goal.returns-in-SerialNotify
returns-in-SerialNotify c = lays_said _ _ _ _ _ _ (search rules) c.state.ensures

pub returns-in-SerialQuery : goal.returns-in-SerialQuery
returns-in-SerialQuery c =
    lays_said _ _ _ _ _ _ (search rules) c.state-in-SerialQuery.ensures

pub returns-in-CacheResponse : goal.returns-in-CacheResponse
returns-in-CacheResponse c = lays_said _ _ _ _ _ _ (search rules) c.labelled.ensures
