use Rattle.std.proofs.Common.{refl, sym, ◌∙◌}
use Rattle.validate_work.proofs.Beginnings.{ended, found, passed}
use Rattle.validate_work.proofs.file.opens_json.Goals as goal

pub loop-byte-init : goal.loop-byte-init
loop-byte-init c = refl

pub returns-then-not-is_white : goal.returns-then-not-is_white
returns-then-not-is_white c =
    c.opens.ensures
    ∙ found c.args.text.now c.loop-byte.byte-index c.loop-byte.invariant _ c.loop-byte-test.true
    refl (sym c.is_white.ensures ∙ c.if-not-is_white.true)

pub loop-byte-preserved : goal.loop-byte-preserved
loop-byte-preserved c =
    passed c.args.text.now c.loop-byte.byte-index c.loop-byte.invariant _ c.loop-byte-test.true refl
    (sym c.is_white.ensures ∙ c.if-not-is_white.false)

pub returns : goal.returns
returns c =
    ended c.args.text.now c.loop-byte.byte-index c.loop-byte.invariant c.loop-byte-test.false
