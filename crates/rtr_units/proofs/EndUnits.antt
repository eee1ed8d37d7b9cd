-- What the bytes of an end of data mean, by its kind.
use Rattle.std.proofs.Common.{◌≡◌, ℕ, zero, suc, ◌≤◌, ◌⊎◌, inl, inr, List, length, refl, arith}
use Rattle.rtr_base.specs.Bytes.{IsBytes}
use Rattle.rtr_units.specs.End.{IsEnd, timed_meaning}
use Rattle.rtr_units.specs.Header.{version_field, type_field, length_field}
use Rattle.rtr_units.proofs.EndsRead.{timed_has}

one_or_two : (n : ℕ) → n ≤ 2 → ¬ (n ≡ 0) → (n ≡ 1) ⊎ (n ≡ 2)
one_or_two zero small some = absurd (some refl)
one_or_two (suc zero) small some = inl refl
one_or_two (suc (suc zero)) small some = inr refl
one_or_two (suc (suc (suc n))) small some = absurd (omega arith)

-- 24 bytes of version 1 or 2
pub end_with_timing : (u : List ℕ) → IsBytes u → length u ≡ 24 → version_field u ≤ 2 →
    ¬ (version_field u ≡ 0) → type_field u ≡ 7 → length_field u ≡ 24 → IsEnd u (timed_meaning u)
end_with_timing u h size small later t n =
    timed_has u h (one_or_two (version_field u) small later) t size n
