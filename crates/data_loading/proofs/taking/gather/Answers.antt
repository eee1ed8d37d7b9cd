use Rattle.std.proofs.Common.{sym, ◌∙◌}
use Rattle.std.proofs.lemmas.Bool.{true≢false}
use Rattle.data_loading.proofs.UnitsTaken.{unit_refused, unit_taken}
use Rattle.data_loading.proofs.taking.gather.Goals as goal

pub refuse-requires-clause-right : goal.refuse-requires-clause-right
refuse-requires-clause-right c =
    unit_refused c.args.held.now c.current-answer.result c.current-answer.ensures.answer c.args.at
    c.args.size
    c.args.input.now c.args.index.now c.args.output.now c.requires.stands c.requires.within
    c.args.version c.requires.unit
    (λ of. true≢false (sym (c.is_of.ensures.1 of) ∙ c.if-not-is_of.true))

pub returns-clause-takes : goal.returns-clause-takes
returns-clause-takes c = λ room.
    unit_taken c.args.held.now c.current-answer.result c.current-answer.ensures.answer c.args.at
    c.args.size
    c.args.input.now c.args.index.now c.args.output.now c.requires.stands c.requires.within
    c.args.version c.requires.unit (c.is_of.ensures.0 c.if-not-is_of.false)
    c.asked_since-held.result (λ d. c.asked_since-held.ensures d) c.put_offset.new.index
    c.put_offset.ensures.same_length c.put_offset.ensures.held
