use Rattle.std.proofs.Common.{◌≡◌, ◌+◌, cond, nat_eq, nat_le, length, ap, ◌∙◌, arith}
use Rattle.data_memory.specs.Deltas.{data_for}
use Rattle.make_work.proofs.Lacking.{had_count}
use Rattle.make_work.proofs.gathering.has_none.Goals as goal

pub returns : goal.returns
returns c =
    let v = c.args.version in
    let parts = c.parts-origins.result in
    let keys = c.if_counted.ensures ∙ ap (λ n. cond (nat_le 1 v) n 0) c.len-2.ensures.value in
    let aspas = c.if_counted-2.ensures ∙ ap (λ n. cond (nat_le 2 v) n 0) c.len-3.ensures.value in
    let all = ap (λ d. length (data_for v d)) c.parts-origins.ensures.payloads
    ∙ had_count v parts.0 parts.1 parts.2 in
    let same : c.len.result + (c.if_counted.result + c.if_counted-2.result)
    ≡ length (data_for v c.args.payloads.now) =
    omega (arith, c.len.ensures.value, keys, aspas, all) in
    c.are_zero.ensures ∙ ap (λ n. nat_eq n 0) same
