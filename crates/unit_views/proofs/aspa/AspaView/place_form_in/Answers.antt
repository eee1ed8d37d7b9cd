use Rattle.std.proofs.Common.{◌≡◌, ℕ, ◌-◌, take, drop, sym, ap, subst, ◌∙◌}
use Rattle.std.proofs.lemmas.List.{take_rest}
use Rattle.rtr_base.specs.Actions.{act}
use Rattle.unit_views.specs.Placing.{Places}
use Rattle.rtr_payload.proofs.BodyForms.{aspa_form_in, kept_rest}
use Rattle.unit_views.proofs.aspa.AspaView.place_form_in.Goals as goal
use Rattle.unit_views.proofs.aspa.AspaView.place_form_in.Goals.{in-Announce, in-Withdraw}

pub returns : goal.returns
returns c =
    let u = c.args.self.now.unit.now in
    let rest : take (c.match-action.kept - 8) (drop 8 u) ≡ kept_rest c.from_flags-action.result u =
    elim c.match-action.branch [
      | in-Announce w ↦
          ap (λ (n : ℕ). take (n - 8) (drop 8 u)) w.kept-is ∙ take_rest u 8
          ∙ ap (λ a. kept_rest a u) (sym w.in-Announce.is)
      | in-Withdraw w ↦
          ap (λ (n : ℕ). take (n - 8) (drop 8 u)) w.kept-is
          ∙ ap (λ a. kept_rest a u) (sym w.in-Withdraw.is)
    ] in
    subst (λ l. Places c.place_flagged.result l c.args.output.now c.place_flagged.new.output)
    (aspa_form_in u _ _ c.from_flags-action.result c.args.self.now.whole
    (c.from_flags-action.ensures ∙ ap act c.flags.ensures) rest)
    c.place_flagged.ensures.form
