use Rattle.std.proofs.Common.{rules, ◌≡◌, [], ◌∷◌, ◌++◌, ap, sym, ◌∙◌}
use Rattle.std.proofs.lemmas.List.{append_assoc, append-nil}
use Rattle.std.proofs.Output.{has_written_append, has_written_of_eq}
use Rattle.rtr_payload.specs.PayloadTexts.{each_text}
use Rattle.rtr_payload.proofs.ProviderTexts.{front_text, one_more, whole_text}
use Rattle.rtr_payload.proofs.payload.texts.AspaDisplay.fmt.Goals as goal

pub loop-provider-init : goal.loop-provider-init
loop-provider-init g c = search rules

pub loop-provider-preserved : goal.loop-provider-preserved
loop-provider-preserved g c = (
  append_assoc c.loop-provider.yielded (c.in-Some.provider ∷ []) c.next.new.self
      ∙ ap (λ l. c.loop-provider.yielded ++ l) (sym c.in-Some.ensures.steps)
      ∙ c.loop-provider.invariant.0,
  λ plain.
      has_written_of_eq _ _ _ _ _
      (one_more (front_text c.args.self.now.customer) c.loop-provider.yielded c.in-Some.provider)
      (has_written_append _ _ _ _ _ _ (c.loop-provider.invariant.1 plain) (search rules)),
)

pub returns-clause-writes : goal.returns-clause-writes
returns-clause-writes g c = λ plain done.
    let all : c.loop-provider.yielded ≡ c.args.self.now.providers =
    sym (append-nil c.loop-provider.yielded)
    ∙ ap (λ l. c.loop-provider.yielded ++ l) (sym c.in-None.ensures.steps.0)
    ∙ c.loop-provider.invariant.0 in
    has_written_of_eq _ _ _ _ _
    (ap (λ l. front_text c.args.self.now.customer ++ each_text l) all
    ∙ whole_text c.args.self.now c.if-is_empty.ensures)
    (c.loop-provider.invariant.1 plain)
