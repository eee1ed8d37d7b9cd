use Rattle.std.proofs.Common.{◌∙◌, ap, refl, Ok, Err}
use Rattle.text_lines.proofs.Laid.{lays_said}
use Rattle.text_lines.proofs.ReadBack.{read_back}
use Rattle.text_findings.specs.KeptNames.{begins_sequence}
use Rattle.text_findings.specs.PayloadNames.{unit_name}
use Rattle.text_findings.specs.SequenceSoFar.{announces}
use Rattle.rtr_c.proofs.check_calls.rtr_check_name_nonnull.Goals as goal

pub returns-in-Err : goal.returns-in-Err
returns-in-Err c =
    (Err c.in-Err.none, c.in-Err.ensures.refusal, (c.none_named.ensures, refl, refl))

pub returns : goal.returns
returns c =
    let unit = c.in-Ok.unit.now in
    let is = c.listed_unit-listed.ensures in (
      Ok unit,
      (c.in-Ok.ensures.unit.said, c.in-Ok.ensures.unit.within, c.in-Ok.ensures.unit.front),
      record {
        size = refl;
        wanted = refl;
        detail = refl;
        status = c.room_status-status.ensures;
        answered = c.room_status-status.ensures;
        laid = λ f has.
            lays_said _ (unit_name f) _ _ _ _ (ap unit_name (is ∙ read_back unit f has))
            c.lay_name-length.ensures;
        starts = λ f has. c.begins.ensures ∙ ap begins_sequence (is ∙ read_back unit f has);
        adds = λ f has. c.announces.ensures ∙ ap announces (is ∙ read_back unit f has);
      },
    )
