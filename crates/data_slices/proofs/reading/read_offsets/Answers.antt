use Rattle.std.proofs.Common.{◌+◌, Some, refl, sym, subst, ◌∙◌}
use Rattle.std.proofs.lemmas.Bool.{true≢false}
use Rattle.data_slices.specs.AtOffsets.{IsOf}
use Rattle.data_slices.proofs.OffsetsRead.{ReadSoFar, ends, goes, refused, stray_end, stray_unit}
use Rattle.data_slices.proofs.reading.read_offsets.Goals as goal

pub returns-in-Err-clause-stray : goal.returns-in-Err-clause-stray
returns-in-Err-clause-stray c =
    let l = c.items in
    refused c.args.input.now l.rest.now l.version l.count l.index l.invariant.0 c.flaw.result
    c.flaw.ensures.offset c.in-Err.fault c.flaw.ensures.reason c.in-Err.ensures.fault

pub returns-then-not-is_of-clause-stray : goal.returns-then-not-is_of-clause-stray
returns-then-not-is_of-clause-stray c =
    let (b, is, parts) = rw c.in-Unit.is at c.in-Ok.ensures.item in
    let l = c.items in
    stray_unit c.args.input.now l.rest.now l.version l.count l.index l.invariant.0
    c.flaw-then-not-is_of.result c.flaw-then-not-is_of.ensures.offset
    c.flaw-then-not-is_of.ensures.reason c.in-Unit.view b c.in-Ok.first.1.now is parts
    (λ of. true≢false (sym (c.is_of.ensures.1
    (subst (λ n. IsOf l.version n) (sym c.version.ensures) of)) ∙ c.if-not-is_of.true))

pub items-preserved : goal.items-preserved
items-preserved c =
    let (b, is, parts) = rw c.in-Unit.is at c.in-Ok.ensures.item in
    let l = c.items in (
      subst (λ n. ReadSoFar c.args.input.now c.in-Ok.first.1.now (Some n) (l.count + 1)
          c.put_offset.new.index) (sym c.version-in-Unit.ensures)
          (goes c.args.input.now l.rest.now l.version l.count l.index l.invariant.0 c.in-Unit.view b
          c.in-Ok.first.1.now c.put_offset.new.index is parts
          (subst (λ n. IsOf l.version n) c.version.ensures
          (c.is_of.ensures.0 c.if-not-is_of.false))
          _ refl c.put_offset.ensures.held),
      c.put_offset.ensures.same_length ∙ l.invariant.1,
    )

pub returns-then-not-is_of-2-clause-stray : goal.returns-then-not-is_of-2-clause-stray
returns-then-not-is_of-2-clause-stray c =
    let (b, is, parts) = rw c.in-End.is at c.in-Ok.ensures.item in
    let l = c.items in
    stray_end c.args.input.now l.rest.now l.version l.count l.index l.invariant.0
    c.flaw-then-not-is_of-2.result c.flaw-then-not-is_of-2.ensures.offset
    c.flaw-then-not-is_of-2.ensures.reason c.in-End.end b c.in-Ok.first.1.now is parts
    (λ of. true≢false (sym (c.is_of-in-End.ensures.1
    (subst (λ n. IsOf l.version n) (sym c.version-in-End.ensures) of)) ∙ c.if-not-is_of-2.true))

pub returns-in-End-clause-read : goal.returns-in-End-clause-read
returns-in-End-clause-read c =
    let (b, is, parts) = rw c.in-End.is at c.in-Ok.ensures.item in
    let l = c.items in
    ends c.args.input.now l.rest.now l.version l.count l.index l.invariant.0 c.in-End.end b
    c.in-Ok.first.1.now is parts
    (subst (λ n. IsOf l.version n) c.version-in-End.ensures
    (c.is_of-in-End.ensures.0 c.if-not-is_of-2.false))
