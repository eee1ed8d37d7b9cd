use Rattle.std.proofs.Common.{◌≡◌, ap, sym, ◌∙◌, Ok}
use Rattle.std.proofs.lemmas.Bool.{OnFalse_at}
use Rattle.std.specs.Prelude.{is_some}
use Rattle.rtr_base.specs.declared.action.Action.TheVariants.{Withdraw}
use Rattle.rtr_payload.specs.Meanings.{origin_of, payload_of_ref}
use Rattle.data_memory.specs.Contents.{joined, Makes}
use Rattle.data_memory.specs.Data.{changed}
use Rattle.data_memory.proofs.Parts.{moved, left_changed, left_unknown, origin_withdrawn}
use Rattle.data_memory.proofs.Parts.{origin_unknown, key_withdrawn, key_unknown, aspa_withdrawn}
use Rattle.data_memory.proofs.Parts.{aspa_unknown, aspa_gone, key_gone, origin_gone}
use Rattle.data_memory.proofs.Fits.{gone_fit}
use Rattle.data_memory.proofs.data.Data.withdraw.Goals as goal
use Rattle.data_memory.proofs.data.Data.withdraw.Goals.{then-remove, else-remove}
use Rattle.data_memory.proofs.data.Data.withdraw.Goals.{then-remove-2, else-remove-2}
use Rattle.data_memory.proofs.data.Data.withdraw.Goals.{in-Some, in-None}
use Rattle.data_memory.proofs.data.Data.withdraw.Goals.{in-Some+in-Some-remove-3}
use Rattle.data_memory.proofs.data.Data.withdraw.Goals.{in-Some+in-None-1, in-None-1}

pub returns-after-remove : goal.returns-after-remove
returns-after-remove c =
    let i = c.self.inside in
    let new = joined c.remove.new.self.keys i.router_keys.keys i.aspas.entries in
    elim c.if-remove.branch as (λ _. Makes c.if-remove.result
    (changed Withdraw (payload_of_ref c.args.payload.now) c.args.self.now) c.args.self.now new) [
      | then-remove w ↦ left_changed c.args.self.now w.result-is
          (moved Withdraw (ap payload_of_ref c.in-Origin.is ∙ ap origin_of (sym c.from.ensures))
          c.self.view_is
          (origin_withdrawn i.origins.keys i.router_keys.keys i.aspas.entries c.from.result
          (sym c.remove.ensures.test ∙ w.if-remove.true)
          ∙ ap (λ l. Ok (joined l i.router_keys.keys i.aspas.entries))
          (sym c.remove.ensures.keys)))
      | else-remove w ↦ left_unknown w.result-is
          (moved Withdraw (ap payload_of_ref c.in-Origin.is ∙ ap origin_of (sym c.from.ensures))
          c.self.view_is
          (origin_unknown i.origins.keys i.router_keys.keys i.aspas.entries c.from.result
          (sym c.remove.ensures.test ∙ w.if-remove.false)))
          (ap (λ l. joined l i.router_keys.keys i.aspas.entries)
          (OnFalse_at w.if-remove.false c.remove.ensures.unchanged)
          ∙ c.self.view_is)
    ]

pub returns-after-remove-2 : goal.returns-after-remove-2
returns-after-remove-2 c =
    let i = c.self.inside in
    let new = joined i.origins.keys c.remove-in-RouterKey.new.self.keys i.aspas.entries in
    elim c.if-remove-2.branch as (λ _. Makes c.if-remove-2.result
    (changed Withdraw (payload_of_ref c.args.payload.now) c.args.self.now) c.args.self.now new) [
      | then-remove-2 w ↦ left_changed c.args.self.now w.result-is
          (moved Withdraw (ap payload_of_ref c.in-RouterKey.is) c.self.view_is
          (key_withdrawn i.origins.keys i.router_keys.keys i.aspas.entries c.in-RouterKey.key.now
          (sym c.remove-in-RouterKey.ensures.test ∙ w.if-remove-2.true)
          ∙ ap (λ l. Ok (joined i.origins.keys l i.aspas.entries))
          (sym c.remove-in-RouterKey.ensures.keys)))
      | else-remove-2 w ↦ left_unknown w.result-is
          (moved Withdraw (ap payload_of_ref c.in-RouterKey.is) c.self.view_is
          (key_unknown i.origins.keys i.router_keys.keys i.aspas.entries c.in-RouterKey.key.now
          (sym c.remove-in-RouterKey.ensures.test ∙ w.if-remove-2.false)))
          (ap (λ l. joined i.origins.keys l i.aspas.entries)
          (OnFalse_at w.if-remove-2.false c.remove-in-RouterKey.ensures.unchanged)
          ∙ c.self.view_is)
    ]

pub returns-after-remove-3 : goal.returns-after-remove-3
returns-after-remove-3 c =
    let i = c.self.inside in
    let entries = c.remove-in-Aspa.new.self.entries in
    let same : c.match-remove-2.self ≡ joined i.origins.keys i.router_keys.keys entries =
    elim c.match-remove-2.branch as (λ _. c.match-remove-2.self ≡
    joined i.origins.keys i.router_keys.keys entries) [
      | in-Some+in-Some-remove-3 w ↦ w.self-is
      | in-Some+in-None-1 w ↦ w.self-is
      | in-None-1 w ↦ w.self-is
    ] in
    elim c.match-remove.branch as (λ _. Makes c.match-remove.result
    (changed Withdraw (payload_of_ref c.args.payload.now) c.args.self.now) c.args.self.now
    c.match-remove-2.self) [
      | in-Some w ↦ left_changed c.args.self.now w.result-is
          (moved Withdraw (ap payload_of_ref c.in-Aspa.is) c.self.view_is
          (aspa_withdrawn i.origins.keys i.router_keys.keys i.aspas.entries
          (record {
            customer = c.in-Aspa.aspa.now.customer;
            providers = c.in-Aspa.aspa.now.providers;
          })
          (ap is_some (sym c.remove-in-Aspa.ensures.value ∙ w.in-Some.is))
          ∙ ap (λ l. Ok (joined i.origins.keys i.router_keys.keys l))
          (sym c.remove-in-Aspa.ensures.entries)
          ∙ ap (λ l. Ok l) (sym same)))
      | in-None w ↦ left_unknown w.result-is
          (moved Withdraw (ap payload_of_ref c.in-Aspa.is) c.self.view_is
          (aspa_unknown i.origins.keys i.router_keys.keys i.aspas.entries
          (record {
            customer = c.in-Aspa.aspa.now.customer;
            providers = c.in-Aspa.aspa.now.providers;
          })
          (ap is_some (sym c.remove-in-Aspa.ensures.value ∙ w.in-None.is))))
          (same ∙ ap (λ l. joined i.origins.keys i.router_keys.keys l)
          w.in-None.ensures.unchanged
          ∙ c.self.view_is)
    ]

pub invariant_of-self : goal.invariant_of-self
invariant_of-self c =
    let i = c.self.inside in
    gone_fit _ _ _ c.self.invariant
    (origin_gone i.origins.keys i.router_keys.keys i.aspas.entries c.from.result
    ∙ ap (λ l. joined l i.router_keys.keys i.aspas.entries) (sym c.remove.ensures.keys))

pub invariant_of-self-in-RouterKey : goal.invariant_of-self-in-RouterKey
invariant_of-self-in-RouterKey c =
    let i = c.self.inside in
    gone_fit _ _ _ c.self.invariant
    (key_gone i.origins.keys i.router_keys.keys i.aspas.entries c.in-RouterKey.key.now
    ∙ ap (λ l. joined i.origins.keys l i.aspas.entries) (sym c.remove-in-RouterKey.ensures.keys))

pub invariant_of-self-after-remove : goal.invariant_of-self-after-remove
invariant_of-self-after-remove c =
    let i = c.self.inside in
    gone_fit _ _ _ c.self.invariant
    (aspa_gone i.origins.keys i.router_keys.keys i.aspas.entries
    (record {
      customer = c.in-Aspa.aspa.now.customer;
      providers = c.in-Aspa.aspa.now.providers;
    })
    ∙ ap (λ l. joined i.origins.keys i.router_keys.keys l) (sym c.remove-in-Aspa.ensures.entries))

pub invariant_of-self-after-remove-2 : goal.invariant_of-self-after-remove-2
invariant_of-self-after-remove-2 c =
    let i = c.self.inside in
    gone_fit _ _ _ c.self.invariant
    (aspa_gone i.origins.keys i.router_keys.keys i.aspas.entries
    (record {
      customer = c.in-Aspa.aspa.now.customer;
      providers = c.in-Aspa.aspa.now.providers;
    })
    ∙ ap (λ l. joined i.origins.keys i.router_keys.keys l) (sym c.remove-in-Aspa.ensures.entries))
