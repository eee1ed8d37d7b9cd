use lib.Pointwise.{bytes_decides}
use Rattle.std.proofs.Common.{◌≡◌, false, true, length, take, drop, sym, ap, ◌∙◌, arith}
use Rattle.std.proofs.lemmas.List.{drop_at, length-append, take_at}
use Rattle.data_history.specs.Seal.{seal}
use Rattle.data_history.proofs.Sealing.{seal_length}
use Rattle.data_history.proofs.seal.open_saved.Goals as goal

pub returns-then-file-lt-HEAD-clause-finds : goal.returns-then-file-lt-HEAD-clause-finds
returns-then-file-lt-HEAD-clause-finds c = λ s e.
    absurd (omega (
      arith,
      ap length e,
      length-append (seal s) s,
      seal_length s,
      c.if-file-lt-HEAD.true,
    ))

pub returns-clause-finds : goal.returns-clause-finds
returns-clause-finds c = λ s e.
    let head = c.split_at.result.0.now in
    let back = c.split_at.ensures.back ∙ ap (drop 24) e ∙ drop_at (seal s) s 24 (seal_length s) in
    let front = c.split_at.ensures.front ∙ ap (take 24) e ∙ take_at (seal s) s 24 (seal_length s) in
    let same : head ≡ c.seal_head.result = front ∙ ap seal (sym back) ∙ sym c.seal_head.ensures in
    let wrong : false ≡ true =
    c.if-eq.ensures ∙ (bytes_decides head c.seal_head.result).1 same in
    absurd cc
