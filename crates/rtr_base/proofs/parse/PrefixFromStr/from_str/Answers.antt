use Rattle.std.proofs.Common.{arith, refl}
use Rattle.rtr_base.specs.Addresses.{prefix_of_address}
use Rattle.rtr_base.proofs.Parsing.{reads_len, refuses_len}
use Rattle.rtr_base.proofs.ReadValues.{address_and_len}
use Rattle.rtr_base.proofs.Splits.{cut_at, not_cut}
use Rattle.rtr_base.proofs.parse.PrefixFromStr.from_str.Goals as goal

pub returns-in_default : goal.returns-in_default
returns-in_default c = not_cut 47 c.args.text.now c.in_default.ensures.cases (omega arith)

pub returns-in-Err : goal.returns-in-Err
returns-in-Err c =
    let split =
    cut_at 47 c.args.text.now c.in-Some.addr c.in-Some.len c.in-Some.ensures.cases (omega arith) in
    (c.in-Some.addr.now, c.in-Some.len.now, split, c.in-Err.ensures.value)

pub returns-in-Err-parse : goal.returns-in-Err-parse
returns-in-Err-parse c =
    let split =
    cut_at 47 c.args.text.now c.in-Some.addr c.in-Some.len c.in-Some.ensures.cases (omega arith)
    in (
      c.in-Some.addr.now,
      c.in-Some.len.now,
      split,
      (c.in-Ok.addr, c.in-Ok.ensures.value),
      refuses_len c.in-Some.len.now c.in-Err-parse.ensures.value.0,
    )

pub returns-in-Ok-new : goal.returns-in-Ok-new
returns-in-Ok-new c =
    let split =
    cut_at 47 c.args.text.now c.in-Some.addr c.in-Some.len c.in-Some.ensures.cases (omega arith) in
    let len = reads_len c.in-Some.len.now c.in-Ok-parse.len c.in-Ok-parse.ensures.value.0 in
    record {
      form =
          address_and_len c.args.text.now c.in-Some.addr.now c.in-Some.len.now c.in-Ok.addr
          c.in-Ok-parse.len c.in-Ok-new.prefix split c.in-Ok.ensures.value len
          c.in-Ok-new.ensures.ok;
      valid = c.in-Ok-new.ensures.valid;
    }

pub returns-in-Err-new : goal.returns-in-Err-new
returns-in-Err-new c =
    let split =
    cut_at 47 c.args.text.now c.in-Some.addr c.in-Some.len c.in-Some.ensures.cases (omega arith) in
    let len = reads_len c.in-Some.len.now c.in-Ok-parse.len c.in-Ok-parse.ensures.value.0 in (
      prefix_of_address c.in-Ok.addr c.in-Ok-parse.len,
      address_and_len c.args.text.now c.in-Some.addr.now c.in-Some.len.now c.in-Ok.addr
          c.in-Ok-parse.len _ split c.in-Ok.ensures.value len refl,
      c.in-Err-new.ensures.broken,
    )
