use Rattle.std.proofs.Common.{◌∙◌, ◌∷◌, ap, refl, sym, subst, Ok, Err}
use Rattle.text_lines.proofs.ReadBack.{read_back}
use Rattle.text_findings.specs.CheckedUnits.{found_list, known_after}
use Rattle.text_findings.specs.KeptNames.{IsAnnouncedAs}
use Rattle.text_findings.specs.Rules.{findings}
use Rattle.text_findings.specs.SequenceSoFar.{named_by, sequence}
use Rattle.rtr_c.proofs.check_calls.rtr_check_unit_nonnull.Goals as goal

pub returns-in-Err : goal.returns-in-Err
returns-in-Err c =
    (Err c.in-Err.none, c.in-Err.ensures.refusal, (c.none_checked.ensures, refl, refl))

pub returns : goal.returns
returns c =
    let unit = c.in-Ok.unit.now in
    let is = c.listed_unit-listed.ensures in (
      Ok unit,
      (c.in-Ok.ensures.unit.said, c.in-Ok.ensures.unit.within, c.in-Ok.ensures.unit.front),
      record {
        size = refl;
        wanted = refl;
        status = refl;
        detail = refl;
        answered = refl;
        found = λ f has history known said.
            ap found_list c.findings_to.ensures
            ∙ c.check-found.ensures history (c.check_from-state.ensures ∙ known)
            (subst (λ x. IsAnnouncedAs c.args.was_there (sequence history) (named_by x))
            (sym (is ∙ read_back unit f has)) said)
            ∙ ap (findings history) (is ∙ read_back unit f has);
        goes_on = λ f has history known.
            c.check_to.ensures
            ∙ c.after.ensures history (c.check_from-state.ensures ∙ known)
            ∙ ap (λ x. known_after (x ∷ history)) (is ∙ read_back unit f has);
      },
    )
