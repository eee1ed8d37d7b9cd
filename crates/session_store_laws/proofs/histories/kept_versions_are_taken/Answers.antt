use Rattle.std.proofs.Common.{◌∙◌, arith, refl, sym}
use Rattle.session_store_laws.proofs.KeptVersions.{present_7, snapshot_in, version_kept}
use Rattle.session_store_laws.proofs.histories.kept_versions_are_taken.Goals as goal

pub returns-clause-taken : goal.returns-clause-taken
returns-clause-taken c = λ since most new v p b after z x ys has same le is refused.
    refused.1 (sym (is ∙ version_kept p x.end.version z.end.session new has
    (same ∙ sym refused.0) le))

pub returns-clause-converted : goal.returns-clause-converted
returns-clause-converted c =
    (1, present_7, snapshot_in 2, snapshot_in 2, refl, refl, omega arith, refl, refl, refl)
