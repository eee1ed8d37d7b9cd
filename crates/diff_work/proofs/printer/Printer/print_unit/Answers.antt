use Rattle.std.proofs.Common.{ap, ◌∙◌, refl, sym}
use Rattle.std.proofs.lemmas.Bool.{true≢false}
use Rattle.rtr_payload.specs.Meanings.{payload_of}
use Rattle.diff_work.proofs.Putting.{puts_form, unit_piece, no_unit, lent_means}
use Rattle.diff_work.proofs.printer.Printer.print_unit.Goals as goal

pub returns-in-Ok-Some-clause-piece : goal.returns-in-Ok-Some-clause-piece
returns-in-Ok-Some-clause-piece g c =
    let supported = rw c.in-Ok-Some.field-0-is at c.in-Ok-Some.ensures.supported in
    let made = rw c.in-Ok-Some.field-0-is at c.in-Ok-Some.ensures.made in
    puts_form c.write.result _ _ _ _
    (unit_piece _ _ _ _ _ _ (supported.0 refl) made
    (lent_means c.as_ref.result ∙ ap payload_of c.as_ref.ensures)
    c.into_flags-flags.ensures.flags) c.write.ensures.bytes

pub returns-in-Ok-None-clause-piece : goal.returns-in-Ok-None-clause-piece
returns-in-Ok-None-clause-piece g c =
    let supported = rw c.in-Ok-None.field-0-is at c.in-Ok-None.ensures.supported in (
      no_unit _ _ _ _ _ (λ h. true≢false (sym (supported.1 h)))
          (lent_means c.as_ref.result ∙ ap payload_of c.as_ref.ensures),
      refl,
    )
