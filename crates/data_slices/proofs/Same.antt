-- Payloads of one name, compared.
use Rattle.std.proofs.Common.{◌≡◌, ℕ, Bool, true, false, List, [], refl, sym, ap, ◌∙◌}
use Rattle.std.specs.Prelude.{◌↔◌, IsTrue}
use Rattle.std.proofs.lemmas.Bool.Decides.{same_from_decides}
use Rattle.std.specs.FinMap.{nat_cmp-IsAntisymmetric}
use Rattle.std.specs.Ordering.{is_eq}
use Rattle.std.specs.declared.cmp.Ordering.TheVariants.{Less, Equal, Greater}
use Rattle.rtr_base.specs.Actions.{act}
use Rattle.rtr_base.specs.declared.action.Action.{Action}
use Rattle.rtr_base.specs.declared.action.Action.TheVariants.{Announce, Withdraw}
use Rattle.rtr_units.specs.PrefixUnits.{OriginParts}
use Rattle.rtr_payload.specs.AspaUnits.{AspaFields, meant_aspa}
use Rattle.rtr_payload.specs.Orders.{payload_cmp}
use Rattle.rtr_payload.specs.Payloads.{AspaParts, KeyParts, Payload, origin, key, aspa}
use Rattle.rtr_payload.specs.UnitFields.{aspa_unit, meaning}
use Rattle.rtr_payload.proofs.Orders.{payload_decides, payload_same}
use Rattle.data_memory.specs.Data.{name_cmp, takes_place}
use Rattle.data_memory.proofs.Names.{one_of_name}
use Rattle.data_slices.proofs.Items.{aspa_names}

-- of one name there is one payload, but for ASPAs
one_same : (p q : Payload) → Equal ≡ name_cmp p q → takes_place p ≡ false →
    true ≡ is_eq (payload_cmp p q)
one_same p q e t = sym (ap is_eq ((payload_same p q).1 (one_of_name p q (sym e) t)))

pub origin_same : (o : OriginParts) (q : Payload) → Equal ≡ name_cmp (origin o) q →
    true ≡ is_eq (payload_cmp (origin o) q)
unfolding takes_place
origin_same o q e = one_same (origin o) q e refl

pub key_same : (k : KeyParts) (q : Payload) → Equal ≡ name_cmp (key k) q →
    true ≡ is_eq (payload_cmp (key k) q)
unfolding takes_place
key_same k q e = one_same (key k) q e refl

abbrev providers_in : Payload → List ℕ
providers_in (origin o) = []
providers_in (key k) = []
providers_in (aspa x) = x.providers

-- ASPAs of one customer are the same where their providers are
same_aspas : (a b : AspaParts) (same : Bool) → Equal ≡ name_cmp (aspa a) (aspa b) →
    (IsTrue same ↔ (a.providers ≡ b.providers)) → same ≡ is_eq (payload_cmp (aspa a) (aspa b))
same_aspas a b same e decides =
    let customer : a.customer ≡ b.customer =
    nat_cmp-IsAntisymmetric a.customer b.customer (sym (aspa_names a b) ∙ sym e) in
    let d = payload_decides (aspa a) (aspa b) in
    same_from_decides {P = aspa a ≡ aspa b} same (is_eq (payload_cmp (aspa a) (aspa b))) (
      λ yes.
          let providers = decides.0 yes in
          (λ i. aspa (record { customer = customer i; providers = providers i })),
      λ equal. decides.1 (ap providers_in equal),
    ) (d.0, d.1)

pub aspa_units_same : (u w : AspaFields) (same : Bool) → act u.flags ≡ Announce →
    act w.flags ≡ Announce →
    Equal ≡ name_cmp (meaning (aspa_unit u)).payload (meaning (aspa_unit w)).payload →
    (IsTrue same ↔ (u.aspa.providers ≡ w.aspa.providers)) →
    same ≡ is_eq (payload_cmp (meaning (aspa_unit u)).payload (meaning (aspa_unit w)).payload)
aspa_units_same u w same f g e decides = by_actions (act u.flags) (act w.flags) f g e
  where
    by_actions : (a b : Action) → a ≡ Announce → b ≡ Announce →
        Equal ≡ name_cmp (aspa (meant_aspa a u.aspa)) (aspa (meant_aspa b w.aspa)) →
        same ≡ is_eq (payload_cmp (aspa (meant_aspa a u.aspa)) (aspa (meant_aspa b w.aspa)))
    by_actions Announce Announce f g e = same_aspas u.aspa w.aspa same e decides
    by_actions Announce Withdraw f g e = absurd cc
    by_actions Withdraw b f g e = absurd cc

-- ---- what never is

pub not_greater : Equal ≡ Greater → ⊥
not_greater e = absurd cc

pub not_less : Equal ≡ Less → ⊥
not_less e = absurd cc
