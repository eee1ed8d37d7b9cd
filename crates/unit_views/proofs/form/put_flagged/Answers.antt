use Rattle.std.proofs.Common.{rules, ◌+◌, ◌∷◌, ◌++◌, length, ap, ◌∙◌}
use Rattle.rtr_base.specs.Bytes.{be}
use Rattle.unit_views.proofs.Puts.{same_put}
use Rattle.unit_views.proofs.form.put_flagged.Goals as goal

pub returns : goal.returns
returns g c =
    record {
      bytes =
          same_put c.put_both.result _ _ _ _
          (ap (λ l. l ++ c.args.rest.now)
          (c.flagged_header-header.ensures
          ∙ ap (λ f. c.args.version ∷ c.args.pdu ∷ f ∷ 0 ∷ be (8 + length c.args.rest.now) 4)
          c.into_flags.ensures.flags))
          c.put_both.ensures.bytes;
      error = search rules;
    }
