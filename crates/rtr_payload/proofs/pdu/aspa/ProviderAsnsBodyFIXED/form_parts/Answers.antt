use Rattle.std.proofs.Common.{◌≡◌, ℕ, ◌-◌, take, drop, sym, ap, ◌∙◌}
use Rattle.std.proofs.lemmas.List.{take_rest}
use Rattle.rtr_payload.proofs.BodyForms.{aspa_form_in, kept_rest}
use Rattle.rtr_payload.proofs.pdu.aspa.ProviderAsnsBodyFIXED.form_parts.Goals as goal
use Rattle.rtr_payload.proofs.pdu.aspa.ProviderAsnsBodyFIXED.form_parts.Goals.{
  in-Announce,
  in-Withdraw,
}

pub returns : goal.returns
returns c =
    let u = c.args.unit.now in
    let rest : take (c.match-action.kept - 8) (drop 8 u) ≡ kept_rest c.from_flags-action.result u =
    elim c.match-action.branch [
      | in-Announce w ↦
          ap (λ (n : ℕ). take (n - 8) (drop 8 u)) w.kept-is ∙ take_rest u 8
          ∙ ap (λ a. kept_rest a u) (sym w.in-Announce.is)
      | in-Withdraw w ↦
          ap (λ (n : ℕ). take (n - 8) (drop 8 u)) w.kept-is
          ∙ ap (λ a. kept_rest a u) (sym w.in-Withdraw.is)
    ] in
    rw (c.flagged_parts.ensures.header, c.flagged_parts.ensures.rest)
    (aspa_form_in u _ c.args.version c.from_flags-action.result c.requires.whole
    c.from_flags-action.ensures rest)
