-- The bits of an address after the prefix length.
use Rattle.std.proofs.Common.{◌≡◌, ◌↔◌, ℕ, ◌-◌, ◌%◌, ◌^◌, ◌≤◌, Result, Err, IsOk, is_ok}
use Rattle.std.proofs.Common.{arith, ap, subst, sym, ◌∙◌}
use Rattle.std.proofs.lemmas.Bool.{false≢true}
use Rattle.rtr_base.specs.Addresses.{cleared}

-- there are none after a length that is above the width
cleared_none : (w l a : ℕ) → (l ≤ w → ⊥) → a ≡ cleared w l a
cleared_none w l a h =
    let z : w - l ≡ 0 = omega (arith, h) in
    subst (λ (n : ℕ). a ≡ a - a % 2 ^ n) (sym z) (omega arith)

-- nor where there is no prefix of this length
pub cleared_refused : {X Y : Type 0} (w l a : ℕ) (r : Result X Y) (e : Y) → IsOk r ↔ (l ≤ w) →
    r ≡ Err e → a ≡ cleared w l a
cleared_refused w l a r e k is =
    cleared_none w l a (λ h. false≢true (sym (ap is_ok is) ∙ k.1 h))
