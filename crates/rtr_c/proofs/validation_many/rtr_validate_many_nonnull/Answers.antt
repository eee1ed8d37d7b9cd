use Rattle.std.proofs.Common.{◌≡◌, ◌∙◌, ℕ, Bool, length, min, arith, subst}
use Rattle.rtr_c.specs.ManyValidated.{TellsMany}
use Rattle.rtr_c.proofs.ManyTold.{ended, one_more}
use Rattle.rtr_c.proofs.validation_many.rtr_validate_many_nonnull.Goals as goal

pub loop-index-preserved : goal.loop-index-preserved
loop-index-preserved c =
    let told = c.passed_validity in
    let bytes = c.loop-index.invariant.0 in
    let tables = c.loop-index.invariant.1 in (
      told.ensures.bytes ∙ bytes,
      told.ensures.tables ∙ tables,
      one_more c.is_of-is_checked.result c.args.data.now c.args.lookup.now.tables
          c.args.routes.now c.args.validities.now c.loop-index.validities c.loop-index.index
          c.loop-index.invariant.2 _ _ _ told.result bytes tables
          (omega (arith, c.loop-index-test.true, c.min-count.ensures))
          (omega (
            arith,
            c.loop-index-test.true,
            c.min-count.ensures,
            c.loop-index.auto.validities,
          ))
          told.ensures.says,
    )

pub returns : goal.returns
returns c =
    let bytes = c.args.data.now in
    let tables = c.args.lookup.now.tables in
    let routes = c.args.routes.now in
    let old = c.args.validities.now in
    let now = c.loop-index.validities in
    let i = c.loop-index.index in
    let count : i ≡ min (length routes) (length now) =
    omega (arith, c.loop-index-test.false, c.min-count.ensures, c.loop-index.auto.validities) in
    let done : TellsMany c.is_of-is_checked.result bytes tables routes old now i =
    ended c.is_of-is_checked.result bytes tables routes old now i c.loop-index.invariant.2 count in
    subst (λ (s : Bool). TellsMany s bytes tables routes old now c.min-count.result)
    c.is_of-is_checked.ensures
    (subst (λ (n : ℕ). TellsMany c.is_of-is_checked.result bytes tables routes old now n)
    (omega (arith, count, c.min-count.ensures, c.loop-index.auto.validities)) done)
