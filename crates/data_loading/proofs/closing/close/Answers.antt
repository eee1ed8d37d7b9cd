use Rattle.std.proofs.Common.{arith, length, min, sym, subst, ◌∙◌}
use Rattle.std.proofs.lemmas.Bool.{true≢false}
use Rattle.data_slices.specs.AtOffsets.{IsOf}
use Rattle.data_loading.proofs.UnitsTaken.{end_base, end_is, end_kept, end_lies, end_lost}
use Rattle.data_loading.proofs.UnitsTaken.{end_of_other, end_refuses, end_within}
use Rattle.data_loading.proofs.closing.close.Goals as goal

pub refuse-requires-clause-right : goal.refuse-requires-clause-right
refuse-requires-clause-right c =
    end_of_other c.args.held.now c.current-answer.result c.current-answer.ensures.answer c.args.at
    c.args.size
    c.args.input.now c.args.index.now c.args.output.now c.requires.stands c.requires.within
    c.args.end.now c.version-version.result c.version-version.ensures c.requires.unit
    (λ of. true≢false (sym (c.is_of.ensures.1 of) ∙ c.if-not-is_of.true))

pub refuse-requires-in-Some-clause-right : goal.refuse-requires-in-Some-clause-right
refuse-requires-in-Some-clause-right c =
    end_refuses c.args.held.now c.current-answer.result c.current-answer.ensures.answer c.args.at
    c.args.size
    c.args.input.now c.args.index.now c.args.output.now c.requires.stands c.requires.within
    c.args.end.now c.in-Some.refusal c.requires.unit (λ d. c.in-Some.ensures d)

pub write_back-requires-clause-units : goal.write_back-requires-clause-units
write_back-requires-clause-units c =
    end_lies c.args.held.now c.current-answer.result c.current-answer.ensures.answer c.args.at
    c.args.size
    c.args.input.now c.args.index.now c.args.output.now c.requires.stands c.requires.within
    c.args.end.now c.requires.unit
    (subst (IsOf c.current-answer.result.version) c.version-version.ensures
    (c.is_of.ensures.0 c.if-not-is_of.false)) (omega (arith, c.if-answer-index.false))

pub write_back-requires-clause-base : goal.write_back-requires-clause-base
write_back-requires-clause-base c =
    end_base c.args.held.now c.current-answer.result c.current-answer.ensures.answer c.args.at
    c.args.size
    c.args.input.now c.args.index.now c.args.output.now c.requires.stands c.requires.within
    c.args.end.now c.requires.unit
    (subst (IsOf c.current-answer.result.version) c.version-version.ensures
    (c.is_of.ensures.0 c.if-not-is_of.false))

pub write_back-requires-clause-end : goal.write_back-requires-clause-end
write_back-requires-clause-end c =
    end_is c.args.held.now c.current-answer.result c.current-answer.ensures.answer c.args.at
    c.args.size
    c.args.input.now c.args.index.now c.args.output.now c.requires.stands c.requires.within
    c.args.end.now c.requires.unit
    (subst (IsOf c.current-answer.result.version) c.version-version.ensures
    (c.is_of.ensures.0 c.if-not-is_of.false))

pub write_back-requires-clause-within : goal.write_back-requires-clause-within
write_back-requires-clause-within c =
    end_within c.args.held.now c.current-answer.result c.current-answer.ensures.answer c.args.at
    c.args.size
    c.args.input.now c.args.index.now c.args.output.now c.requires.stands c.requires.within
    c.args.end.now c.requires.unit
    (subst (IsOf c.current-answer.result.version) c.version-version.ensures
    (c.is_of.ensures.0 c.if-not-is_of.false))

pub returns-in-Ok-clause-takes : goal.returns-in-Ok-clause-takes
returns-in-Ok-clause-takes c =
    end_kept c.args.held.now c.current-answer.result c.current-answer.ensures.answer c.args.at
    c.args.size
    c.args.input.now c.args.index.now c.args.output.now c.requires.stands c.requires.within
    c.args.end.now c.requires.unit
    (subst (IsOf c.current-answer.result.version) c.version-version.ensures
    (c.is_of.ensures.0 c.if-not-is_of.false)) (λ d. c.in-None.ensures d)
    (omega (arith, c.if-answer-index.false))
    (min (length c.args.work.now) (length c.args.output.now)) _ c.asked_since-held.result
    (λ d. c.asked_since-held.ensures d) c.in-Ok.kept_size _ c.in-Ok.ensures.writes

pub returns-in-Err-clause-takes : goal.returns-in-Err-clause-takes
returns-in-Err-clause-takes c =
    end_lost c.args.held.now c.current-answer.result c.current-answer.ensures.answer c.args.at
    c.args.size
    c.args.input.now c.args.index.now c.args.output.now c.requires.stands c.requires.within
    c.args.end.now c.requires.unit
    (subst (IsOf c.current-answer.result.version) c.version-version.ensures
    (c.is_of.ensures.0 c.if-not-is_of.false)) (λ d. c.in-None.ensures d)
    (omega (arith, c.if-answer-index.false)) _ _ c.in-Err.fault _ c.in-Err.ensures.writes
