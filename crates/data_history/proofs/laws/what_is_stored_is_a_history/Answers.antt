use Rattle.data_history.proofs.Storing.{is_history}
use Rattle.data_history.proofs.laws.what_is_stored_is_a_history.Goals as goal

pub returns : goal.returns
returns c = λ stored b s.
    let t = is_history stored b s in (t.x, t.ys, t.others, t.history, t.parts)
