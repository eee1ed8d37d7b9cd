use Rattle.std.proofs.Common.{◌≡◌, ◌-◌, ◌^◌, ◌+◌, cond, nat_lt, min, length, ap, ◌∙◌, arith}
use Rattle.make_work.specs.Gathering.{lacked}
use Rattle.make_work.proofs.Lacking.{lacking_count}
use Rattle.make_work.proofs.gathering.count_lacking.Goals as goal

pub returns-clause-count : goal.returns-clause-count
returns-clause-count c =
    let v = c.args.version in
    let parts = c.parts-keys.result in
    let keys = c.if_counted-keys.ensures
    ∙ ap (λ n. cond (nat_lt v 1) n 0) c.len.ensures.value in
    let aspas = c.if_counted.ensures ∙ ap (λ n. cond (nat_lt v 2) n 0) c.len-2.ensures.value in
    let all = ap (λ d. length (lacked v d)) c.parts-keys.ensures.payloads
    ∙ lacking_count v parts.0 parts.1 parts.2 in
    let same : c.if_counted-keys.result + c.if_counted.result
    ≡ length (lacked v c.args.payloads.now) = omega (arith, keys, aspas, all) in
    c.saturating_add.ensures ∙ ap (λ n. min n (2 ^ 64 - 1)) same
