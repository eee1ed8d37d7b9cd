use Rattle.std.proofs.Common.{rules, ◌≡◌, ℕ, ◌-◌, take, drop, sym, ap, ◌∙◌}
use Rattle.std.proofs.lemmas.List.{take_rest}
use Rattle.rtr_base.specs.Actions.{act}
use Rattle.rtr_payload.proofs.BodyForms.{kept_rest}
use Rattle.unit_views.proofs.Forms.{aspa_form}
use Rattle.unit_views.proofs.Puts.{same_put}
use Rattle.unit_views.proofs.aspa.AspaView.write_form.Goals as goal
use Rattle.unit_views.proofs.aspa.AspaView.write_form.Goals.{in-Announce, in-Withdraw}

pub returns : goal.returns
returns g c =
    let u = c.args.self.now.unit.now in
    let rest : take (c.match-action.kept - 8) (drop 8 u) ≡ kept_rest c.from_flags-action.result u =
    elim c.match-action.branch [
      | in-Announce w ↦
          ap (λ (n : ℕ). take (n - 8) (drop 8 u)) w.kept-is ∙ take_rest u 8
          ∙ ap (λ a. kept_rest a u) (sym w.in-Announce.is)
      | in-Withdraw w ↦
          ap (λ (n : ℕ). take (n - 8) (drop 8 u)) w.kept-is
          ∙ ap (λ a. kept_rest a u) (sym w.in-Withdraw.is)
    ] in
    record {
      bytes =
          same_put c.put_flagged.result _ _ _ _
          (aspa_form u _ _ c.from_flags-action.result c.args.self.now.whole c.version.ensures
          (c.from_flags-action.ensures ∙ ap act c.flags.ensures) rest)
          c.put_flagged.ensures.bytes;
      error = search rules;
    }
