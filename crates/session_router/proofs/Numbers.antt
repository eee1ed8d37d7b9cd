-- How long a router needs by the usual limits, in milliseconds.
use Rattle.std.proofs.Common.{◌≡◌, ℕ, Bool, true, false, ◌+◌, ◌*◌, if◌then◌else◌, ap, ap₂, ◌∙◌}
use Rattle.std.proofs.Common.{arith}
use Rattle.session_router.specs.declared.router.Router.{Router}
use Rattle.session_router.specs.declared.router.Phase.TheVariants as phases
use Rattle.session_router.specs.Rules.{opening_version}
use Rattle.session_router.specs.Recovery.{HasUsualLimits, connection_time, connections, restarts}
use Rattle.session_router.specs.Recovery.{time_needed}

one_connection : (r : Router) → HasUsualLimits r → connection_time r.settings ≡ 271000
one_connection r u = sum r.settings.connect_limit r.settings.response_limit r.settings.pause
    u.connect_limit u.response_limit u.pause
  where
    sum : (c a p : ℕ) → c ≡ 30000 → a ≡ 120000 → p ≡ 1000 → c + a + a + p ≡ 271000
    sum c a p e f g = omega arith

how_many : (r : Router) (k : ℕ) → HasUsualLimits r → r.fell ≡ false → restarts r ≡ k
    → connections r ≡ 1 + 1 + k * (1 + 1)
how_many r k u fell e =
    ap₂ (λ (o x : ℕ). o + 1 + x) opens
    (ap₂ (λ (x h : ℕ). x * (h + 1)) e u.highest)
  where
    opens : opening_version r ≡ 1
    opens = ap (λ (b : Bool). if b then r.version else r.settings.highest) fell ∙ u.highest

pub without_data : (r : Router) → HasUsualLimits r → r.fell ≡ false → r.has_data ≡ false
    → time_needed phases.Offline r ≡ 542000
without_data r u fell none =
    ap₂ (λ (x y : ℕ). x * y) (how_many r 0 u fell
    (ap (λ (d : Bool). if d then (if r.resync then 1 else 2) else 0) none)) (one_connection r u)

pub with_data : (r : Router) → HasUsualLimits r → r.fell ≡ false → r.has_data ≡ true
    → r.resync ≡ false → time_needed phases.Offline r ≡ 1626000
with_data r u fell some changes =
    ap₂ (λ (x y : ℕ). x * y) (how_many r 2 u fell
    (ap₂ (λ (d y : Bool). if d then (if y then 1 else 2) else 0) some changes))
    (one_connection r u)
