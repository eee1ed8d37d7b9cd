use Rattle.std.proofs.Common.{arith, inl, inr}
use Rattle.rtr_base.proofs.Parsing.{reads_len, refuses_len}
use Rattle.rtr_base.proofs.Splits.{cut_at, not_cut}
use Rattle.rtr_base.proofs.ReadValues.{broken_by, max_len_read}
use Rattle.rtr_base.proofs.parse.MaxLenPrefixFromStr.from_str.Goals as goal

pub returns-in-Ok : goal.returns-in-Ok
returns-in-Ok c =
    let none = not_cut 45 c.args.text.now c.in_default.ensures.cases (omega arith) in
    max_len_read c.args.text.now _ _ _ (none, c.in-Ok.ensures.value) c.into.ensures.0
    c.into.ensures.1

pub returns-in-Err : goal.returns-in-Err
returns-in-Err c =
    inl
    (not_cut 45 c.args.text.now c.in_default.ensures.cases (omega arith), c.in-Err.ensures.value)

pub returns-in-Err-parse : goal.returns-in-Err-parse
returns-in-Err-parse c =
    let split = cut_at 45 c.args.text.now c.in-Some.prefix c.in-Some.max_len c.in-Some.ensures.cases
    (omega arith) in
    inr (c.in-Some.prefix.now, c.in-Some.max_len.now, split, c.in-Err-parse.ensures.value)

pub returns-in-Err-parse-2 : goal.returns-in-Err-parse-2
returns-in-Err-parse-2 c =
    let split = cut_at 45 c.args.text.now c.in-Some.prefix c.in-Some.max_len c.in-Some.ensures.cases
    (omega arith) in (
      c.in-Some.prefix.now,
      c.in-Some.max_len.now,
      split,
      (c.in-Ok-parse.prefix, c.in-Ok-parse.ensures.value),
      refuses_len c.in-Some.max_len.now c.in-Err-parse-2.ensures.value.0,
    )

pub returns-in-Ok-new : goal.returns-in-Ok-new
returns-in-Ok-new c =
    let split = cut_at 45 c.args.text.now c.in-Some.prefix c.in-Some.max_len c.in-Some.ensures.cases
    (omega arith) in
    let len =
    reads_len c.in-Some.max_len.now c.in-Ok-parse-2.max_len c.in-Ok-parse-2.ensures.value.0 in
    max_len_read c.args.text.now _ _ _
    (c.in-Some.prefix.now, c.in-Some.max_len.now, split, c.in-Ok-parse.ensures.value, len)
    c.in-Ok-new.ensures.ok c.in-Ok-new.ensures.valid

pub returns-in-Err-new : goal.returns-in-Err-new
returns-in-Err-new c =
    let split = cut_at 45 c.args.text.now c.in-Some.prefix c.in-Some.max_len c.in-Some.ensures.cases
    (omega arith) in
    let len =
    reads_len c.in-Some.max_len.now c.in-Ok-parse-2.max_len c.in-Ok-parse-2.ensures.value.0 in (
      c.in-Ok-parse.prefix,
      c.in-Ok-parse-2.max_len,
      (c.in-Some.prefix.now, c.in-Some.max_len.now, split, c.in-Ok-parse.ensures.value, len),
      broken_by c.in-Ok-parse.prefix c.in-Ok-parse-2.max_len c.in-Err-new.error
          c.in-Err-new.ensures.overflow.0 c.in-Err-new.ensures.underflow.0,
    )
