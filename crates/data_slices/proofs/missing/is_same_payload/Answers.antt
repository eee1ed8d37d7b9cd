use Rattle.std.proofs.Common.{◌∙◌}
use Rattle.rtr_payload.specs.AspaUnits.{aspa_at}
use Rattle.data_slices.proofs.Items.{aspa_key, aspa_origin}
use Rattle.data_slices.proofs.Same.{aspa_units_same, key_same, not_greater, origin_same}
use Rattle.data_slices.proofs.missing.is_same_payload.Goals as goal

pub same_providers-requires-clause-left : goal.same_providers-requires-clause-left
same_providers-requires-clause-left c = (rw c.in-Aspa.is at c.requires.first).1

pub same_providers-requires-clause-right : goal.same_providers-requires-clause-right
same_providers-requires-clause-right c = (rw c.in-Aspa-second.is at c.requires.second).1

pub returns-in-Origin : goal.returns-in-Origin
returns-in-Origin c =
    rw c.in-Origin.is (origin_same _ _ (rw c.in-Origin.is at c.requires.order))

pub returns-in-RouterKey : goal.returns-in-RouterKey
returns-in-RouterKey c =
    rw c.in-RouterKey.is (key_same _ _ (rw c.in-RouterKey.is at c.requires.order))

pub returns-in-Aspa-second : goal.returns-in-Aspa-second
returns-in-Aspa-second c =
    rw (c.in-Aspa.is, c.in-Aspa-second.is)
    (aspa_units_same (aspa_at c.in-Aspa.first.unit.now) (aspa_at c.in-Aspa-second.second.unit.now)
    c.same_providers.result (rw c.in-Aspa.is at c.requires.first).0
    (rw c.in-Aspa-second.is at c.requires.second).0
    (rw c.in-Aspa-second.is at (rw c.in-Aspa.is at c.requires.order)) c.same_providers.ensures)

pub returns-in-Origin-second : goal.returns-in-Origin-second
returns-in-Origin-second c =
    absurd (not_greater
    ((rw c.in-Origin-second.is at (rw c.in-Aspa.is at c.requires.order)) ∙ aspa_origin _ _))

pub returns-in-RouterKey-second : goal.returns-in-RouterKey-second
returns-in-RouterKey-second c =
    absurd (not_greater
    ((rw c.in-RouterKey-second.is at (rw c.in-Aspa.is at c.requires.order)) ∙ aspa_key _ _))
