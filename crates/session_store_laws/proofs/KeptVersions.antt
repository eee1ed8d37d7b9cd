-- The version to which new data are converted.
use Rattle.std.proofs.Common.{◌≡◌, ◌≤◌, ◌∙◌, ℕ, true, [], None, ap, arith}
use Rattle.std.specs.Prelude.{◌==◌, ◌&&◌, if◌then◌else◌, nat_le}
use Rattle.data_history.specs.Snapshots.{Snapshot}
use Rattle.session_cache.specs.declared.event.Present.{Present}
use Rattle.session_server.specs.Keeping.{kept_version}

eqb-itself : (z : ℕ) → (z == z) ≡ true
eqb-itself z = grind arith

is_at_most : (m n : ℕ) → m ≤ n → nat_le m n ≡ true
is_at_most m n le = grind (arith, le)

pub version_kept : (p : Present) (version session new : ℕ) → p.has ≡ true → p.session ≡ session →
    new ≤ version → kept_version p version session new ≡ version
version_kept p version session new has same le =
    ap (λ b. if b then version else 2)
    ((λ i. has i && ((same i == session) && nat_le new version))
    ∙ (λ i. eqb-itself session i && is_at_most new version le i))

-- data of session 7 in a version
abbrev pub snapshot_in : ℕ → Snapshot
snapshot_in v = record {
  end = record { version = v; session = 7; serial = 1; timing = None };
  payloads = [];
}

abbrev pub present_7 : Present
present_7 = record { has = true; session = 7; serial = 1 }
