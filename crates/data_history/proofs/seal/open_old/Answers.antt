use lib.Pointwise.{bytes_decides}
use Rattle.std.proofs.Common.{◌≡◌, false, true, length, take, drop, sym, ap, ◌∙◌, arith}
use Rattle.std.proofs.lemmas.List.{drop_at, length-append, take_at}
use Rattle.data_history.specs.Seal.{old_head}
use Rattle.data_history.proofs.Sealing.{old_length}
use Rattle.data_history.proofs.seal.open_old.Goals as goal

pub returns-then-file-lt-OLD_HEAD-clause-finds : goal.returns-then-file-lt-OLD_HEAD-clause-finds
returns-then-file-lt-OLD_HEAD-clause-finds c = λ s e.
    absurd (omega (
      arith,
      ap length e,
      length-append (old_head s) s,
      old_length s,
      c.if-file-lt-OLD_HEAD.true,
    ))

pub returns-clause-finds : goal.returns-clause-finds
returns-clause-finds c = λ s e.
    let head = c.split_at.result.0.now in
    let back = c.split_at.ensures.back ∙ ap (drop 16) e ∙ drop_at (old_head s) s 16 (old_length s)
    in
    let front = c.split_at.ensures.front ∙ ap (take 16) e ∙ take_at (old_head s) s 16 (old_length s)
    in
    let same : head ≡ c.head_before.result = front ∙ ap old_head (sym back) ∙ sym
    c.head_before.ensures in
    let wrong : false ≡ true =
    c.if-eq.ensures ∙ (bytes_decides head c.head_before.result).1 same in
    absurd cc
