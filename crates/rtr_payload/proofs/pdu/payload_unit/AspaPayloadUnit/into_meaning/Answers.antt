use Rattle.std.proofs.Common.{◌≡◌, ◌∙◌, ap}
use Rattle.rtr_base.specs.Actions.{act}
use Rattle.rtr_payload.specs.AspaUnits.{aspa_at, meant_providers}
use Rattle.rtr_payload.specs.Payloads.{aspa}
use Rattle.rtr_payload.proofs.pdu.payload_unit.AspaPayloadUnit.into_meaning.Goals as goal

pub returns-clause-ok : goal.returns-clause-ok
returns-clause-ok c =
    let unit = aspa_at c.args.self in
    let named = unit.aspa.providers in
    let action : c.from_flags-action.result ≡ act unit.flags = cc in
    let providers : c.match-action.providers ≡ meant_providers c.from_flags-action.result named =
    elim c.match-action.branch [
      | goal.in-Announce a ↦ rw a.in-Announce.is cc
      | goal.in-Withdraw a ↦ rw a.in-Withdraw.is cc
    ] in
    let customer : c.customer-customer.result ≡ unit.aspa.customer = cc in
    record {
      lengths = tt;
      means =
          rw c.new.ensures
          (λ i. record {
            version = unit.version;
            action = action i;
            payload =
                aspa (record {
                  customer = customer i;
                  providers = (providers ∙ ap (λ a. meant_providers a named) action) i;
                });
          });
      max_len = tt;
    }
