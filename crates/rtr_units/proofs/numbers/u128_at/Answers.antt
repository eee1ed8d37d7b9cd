use Rattle.std.proofs.Common.{ap, ◌∙◌, ◌+◌, ◌*◌, ◌^◌, ℕ, take, drop}
use Rattle.rtr_base.specs.Bytes.{value}
use Rattle.rtr_units.proofs.Halves.{value_of_halves}
use Rattle.rtr_units.proofs.numbers.u128_at.Goals as goal

pub returns : goal.returns
returns c =
    let high = value (take 8 (drop c.args.place c.args.bytes.now)) in
    ap (λ (n : ℕ). n * 2 ^ 64 + c.from-2.result) (c.from.ensures ∙ c.u64_at-high.ensures)
    ∙ ap (λ (n : ℕ). high * 2 ^ 64 + n) (c.from-2.ensures ∙ c.u64_at-low.ensures)
    ∙ value_of_halves c.args.bytes.now c.args.place c.requires
