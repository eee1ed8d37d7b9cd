use Rattle.std.proofs.Common.{sym, ◌∙◌}
use Rattle.rtr_payload.specs.Orders.{payload_cmp}
use Rattle.rtr_payload.specs.Meanings.{origin_of}
use Rattle.std.specs.Ordering.{nat_cmp}
use Rattle.data_slices.proofs.Items.{origin_names, key_names, aspa_names, origin_key, origin_aspa}
use Rattle.data_slices.proofs.Items.{key_aspa, key_origin, aspa_origin, aspa_key}
use Rattle.data_slices.proofs.item.PayloadView.compare_names.Goals as goal

pub returns-in-Origin-Origin : goal.returns-in-Origin-Origin
returns-in-Origin-Origin c =
    rw (c.in-Origin-Origin.is-0, c.in-Origin-Origin.is-1)
    (c.cmp.ensures
    ∙ (λ i. payload_cmp (origin_of (c.origin.ensures i))
    (origin_of (c.origin-in-Origin-Origin.ensures i)))
    ∙ sym (origin_names _ _))

pub returns-in-RouterKey-RouterKey : goal.returns-in-RouterKey-RouterKey
returns-in-RouterKey-RouterKey c =
    rw (c.in-RouterKey-RouterKey.is-0, c.in-RouterKey-RouterKey.is-1)
    (c.compare_keys.ensures ∙ sym (key_names _ _))

pub returns-in-Aspa-Aspa : goal.returns-in-Aspa-Aspa
returns-in-Aspa-Aspa c =
    rw (c.in-Aspa-Aspa.is-0, c.in-Aspa-Aspa.is-1)
    (c.cmp-in-Aspa-Aspa.ensures
    ∙ (λ i. nat_cmp (c.customer.ensures i) (c.customer-in-Aspa-Aspa.ensures i))
    ∙ sym (aspa_names _ _))

pub returns-in-Origin-RouterKey : goal.returns-in-Origin-RouterKey
returns-in-Origin-RouterKey c =
    rw (c.in-Origin-RouterKey.is-0, c.in-Origin-RouterKey.is-1) (sym (origin_key _ _))

pub returns-in-Origin-Aspa : goal.returns-in-Origin-Aspa
returns-in-Origin-Aspa c =
    rw (c.in-Origin-Aspa.is-0, c.in-Origin-Aspa.is-1) (sym (origin_aspa _ _))

pub returns-in-RouterKey-Aspa : goal.returns-in-RouterKey-Aspa
returns-in-RouterKey-Aspa c =
    rw (c.in-RouterKey-Aspa.is-0, c.in-RouterKey-Aspa.is-1) (sym (key_aspa _ _))

pub returns-in-RouterKey-Origin : goal.returns-in-RouterKey-Origin
returns-in-RouterKey-Origin c =
    rw (c.in-RouterKey-Origin.is-0, c.in-RouterKey-Origin.is-1) (sym (key_origin _ _))

pub returns-in-Aspa-Origin : goal.returns-in-Aspa-Origin
returns-in-Aspa-Origin c =
    rw (c.in-Aspa-Origin.is-0, c.in-Aspa-Origin.is-1) (sym (aspa_origin _ _))

pub returns-in-Aspa-RouterKey : goal.returns-in-Aspa-RouterKey
returns-in-Aspa-RouterKey c =
    rw (c.in-Aspa-RouterKey.is-0, c.in-Aspa-RouterKey.is-1) (sym (aspa_key _ _))
