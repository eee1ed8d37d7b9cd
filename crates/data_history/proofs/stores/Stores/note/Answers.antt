use Rattle.std.proofs.Common.{ap, sym, ◌∙◌}
use Rattle.data_history.specs.Stores.{after_call}
use Rattle.data_history.proofs.Serving.{noted, noted_to_save}
use Rattle.data_history.proofs.stores.Stores.note.Goals as goal

pub returns-in-Some-clause-after : goal.returns-in-Some-clause-after
returns-in-Some-clause-after c =
    c.saved.ensures.after
    ∙ sym (noted c.args.self.now c.in-Ok.size c.in-Some.field-0 c.in-Some.is)
    ∙ ap (λ r. after_call r c.args.self.now) (sym c.in-Ok.is)

pub returns-in-None-clause-after : goal.returns-in-None-clause-after
returns-in-None-clause-after c =
    sym (noted_to_save c.args.self.now c.in-Ok.size c.in-None.is)
    ∙ ap (λ r. after_call r c.args.self.now) (sym c.in-Ok.is)

pub returns-in-Err-clause-after : goal.returns-in-Err-clause-after
returns-in-Err-clause-after c = ap (λ r. after_call r c.args.self.now) (sym c.in-Err.is)
