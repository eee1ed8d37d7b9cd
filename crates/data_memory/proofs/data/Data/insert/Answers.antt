use Rattle.std.proofs.Common.{◌≡◌, ap, sym, ◌∙◌, Ok, refl, subst}
use Rattle.std.proofs.lemmas.Bool.{not-true, not-false, OnFalse_at}
use Rattle.rtr_base.specs.declared.action.Action.TheVariants.{Announce}
use Rattle.rtr_payload.specs.Meanings.{origin_of, payload_of}
use Rattle.data_memory.specs.Contents.{joined}
use Rattle.data_memory.specs.Contents.{IsFit}
use Rattle.data_memory.proofs.Fits.{announced_fit}
use Rattle.data_memory.proofs.Parts.{moved, granted, origin_announced, origin_duplicate}
use Rattle.data_memory.proofs.Parts.{key_announced, key_duplicate, aspa_announced}
use Rattle.data_memory.proofs.data.Data.insert.Goals as goal
use Rattle.data_memory.proofs.data.Data.insert.Goals.{in-Err+in-Some-2, in-Err+in-None-2, in-Ok-2}

pub returns-in-Ok-true : goal.returns-in-Ok-true
returns-in-Ok-true c =
    let i = c.self.inside in
    moved Announce (ap payload_of c.in-Origin.is ∙ ap origin_of (sym c.from.ensures)) c.self.view_is
    (origin_announced i.origins.keys i.router_keys.keys i.aspas.entries c.from.result
    (not-true _ (sym c.in-Ok-true.ensures.added ∙ c.in-Ok-true.field-0-test))
    ∙ ap (λ l. Ok (joined l i.router_keys.keys i.aspas.entries)) (sym c.in-Ok-true.ensures.keys))

pub returns-in-Ok-false : goal.returns-in-Ok-false
returns-in-Ok-false c =
    let i = c.self.inside in (
      moved Announce (ap payload_of c.in-Origin.is ∙ ap origin_of (sym c.from.ensures))
          c.self.view_is
          (origin_duplicate i.origins.keys i.router_keys.keys i.aspas.entries c.from.result
          (not-false _ (sym c.in-Ok-false.ensures.added ∙ c.in-Ok-false.field-0-test))),
      ap (λ l. joined l i.router_keys.keys i.aspas.entries)
          (OnFalse_at c.in-Ok-false.field-0-test c.in-Ok-false.ensures.unchanged)
          ∙ c.self.view_is,
    )

pub returns-in-Origin : goal.returns-in-Origin
returns-in-Origin c =
    let i = c.self.inside in (
      granted _ (moved Announce (ap payload_of c.in-Origin.is ∙ ap origin_of (sym c.from.ensures))
          c.self.view_is
          (origin_announced i.origins.keys i.router_keys.keys i.aspas.entries c.from.result
          c.in-Err.ensures.absent)),
      ap (λ l. joined l i.router_keys.keys i.aspas.entries) c.in-Err.ensures.err
          ∙ c.self.view_is,
    )

pub returns-in-Ok-true-insert : goal.returns-in-Ok-true-insert
returns-in-Ok-true-insert c =
    let i = c.self.inside in
    moved Announce (ap payload_of c.in-RouterKey.is) c.self.view_is
    (key_announced i.origins.keys i.router_keys.keys i.aspas.entries c.in-RouterKey.key
    (not-true _ (sym c.in-Ok-true-insert.ensures.added ∙ c.in-Ok-true-insert.field-0-test))
    ∙ ap (λ l. Ok (joined i.origins.keys l i.aspas.entries)) (sym c.in-Ok-true-insert.ensures.keys))

pub returns-in-Ok-false-insert : goal.returns-in-Ok-false-insert
returns-in-Ok-false-insert c =
    let i = c.self.inside in (
      moved Announce (ap payload_of c.in-RouterKey.is) c.self.view_is
          (key_duplicate i.origins.keys i.router_keys.keys i.aspas.entries c.in-RouterKey.key
          (not-false _ (sym c.in-Ok-false-insert.ensures.added
          ∙ c.in-Ok-false-insert.field-0-test))),
      ap (λ l. joined i.origins.keys l i.aspas.entries)
          (OnFalse_at c.in-Ok-false-insert.field-0-test c.in-Ok-false-insert.ensures.unchanged)
          ∙ c.self.view_is,
    )

pub returns-in-RouterKey : goal.returns-in-RouterKey
returns-in-RouterKey c =
    let i = c.self.inside in (
      granted _ (moved Announce (ap payload_of c.in-RouterKey.is) c.self.view_is
          (key_announced i.origins.keys i.router_keys.keys i.aspas.entries c.in-RouterKey.key
          c.in-Err-insert.ensures.absent)),
      ap (λ l. joined i.origins.keys l i.aspas.entries) c.in-Err-insert.ensures.err
          ∙ c.self.view_is,
    )

pub returns-in-Ok : goal.returns-in-Ok
returns-in-Ok c =
    let i = c.self.inside in
    moved Announce (ap payload_of c.in-Aspa.is) c.self.view_is
    (aspa_announced i.origins.keys i.router_keys.keys i.aspas.entries
    (record { customer = c.in-Aspa.aspa.customer; providers = c.in-Aspa.aspa.providers })
    ∙ ap (λ l. Ok (joined i.origins.keys i.router_keys.keys l)) (sym c.in-Ok.ensures.entries))

pub returns : goal.returns
returns c =
    let i = c.self.inside in
    let same : joined i.origins.keys i.router_keys.keys c.insert-in-Aspa.new.self.entries ≡
    c.args.self.now =
    ap (λ l. joined i.origins.keys i.router_keys.keys l) c.in-Err-insert-2.ensures.err
    ∙ c.self.view_is in (
      granted _ (moved Announce (ap payload_of c.in-Aspa.is) c.self.view_is
          (aspa_announced i.origins.keys i.router_keys.keys i.aspas.entries
          (record { customer = c.in-Aspa.aspa.customer; providers = c.in-Aspa.aspa.providers }))),
      elim c.match-this-3.branch as (λ _. c.match-this-3.self ≡ c.args.self.now) [
        | in-Err+in-Some-2 w ↦ w.self-is ∙ same
        | in-Err+in-None-2 w ↦ w.self-is ∙ same
        | in-Ok-2 w ↦ w.self-is ∙ same
      ],
    )

pub invariant_of-self : goal.invariant_of-self
invariant_of-self c =
    let i = c.self.inside in
    announced_fit _ _ _ c.self.invariant refl
    (origin_announced i.origins.keys i.router_keys.keys i.aspas.entries c.from.result
    (not-true _ (sym c.in-Ok-true.ensures.added ∙ c.in-Ok-true.field-0-test))
    ∙ ap (λ l. Ok (joined l i.router_keys.keys i.aspas.entries)) (sym c.in-Ok-true.ensures.keys))

pub invariant_of-self-in-Ok-true-insert : goal.invariant_of-self-in-Ok-true-insert
invariant_of-self-in-Ok-true-insert c =
    let i = c.self.inside in
    announced_fit _ _ _ c.self.invariant
    (subst (λ p. IsFit (payload_of p)) c.in-RouterKey.is c.requires)
    (key_announced i.origins.keys i.router_keys.keys i.aspas.entries c.in-RouterKey.key
    (not-true _ (sym c.in-Ok-true-insert.ensures.added ∙ c.in-Ok-true-insert.field-0-test))
    ∙ ap (λ l. Ok (joined i.origins.keys l i.aspas.entries)) (sym c.in-Ok-true-insert.ensures.keys))

pub invariant_of-self-in-Ok : goal.invariant_of-self-in-Ok
invariant_of-self-in-Ok c =
    let i = c.self.inside in
    announced_fit _ _ _ c.self.invariant
    (subst (λ p. IsFit (payload_of p)) c.in-Aspa.is c.requires)
    (aspa_announced i.origins.keys i.router_keys.keys i.aspas.entries
    (record { customer = c.in-Aspa.aspa.customer; providers = c.in-Aspa.aspa.providers })
    ∙ ap (λ l. Ok (joined i.origins.keys i.router_keys.keys l)) (sym c.in-Ok.ensures.entries))
