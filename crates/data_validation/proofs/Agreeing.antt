-- Answers that agree.
use Rattle.std.proofs.Common.{◌≡◌, ℕ, ◌↔◌, refl, arith, inl, inr, Option, Some, None}
use Rattle.std.proofs.lemmas.Bool.{cases_lt}
use Rattle.rtr_base.specs.Addresses.{PrefixParts}
use Rattle.rtr_units.specs.PrefixUnits.{OriginParts}
use Rattle.data_validation.specs.Covering.{IsMismatch}
use Rattle.data_validation.specs.Validity.{Covers, Matches, Says}
use Rattle.data_validation.specs.declared.mismatch.Mismatch.{Mismatch}
use Rattle.data_validation.specs.declared.mismatch.Mismatch.TheVariants.{AsZero, OtherAs, TooLong}
use Rattle.data_validation.specs.declared.validity.Validity.{Validity}
use Rattle.data_validation.specs.declared.validity.Validity.TheVariants.{NotFound, Valid, Invalid}

pub agree : (IsVrp : OriginParts → Type 0) (p : PrefixParts) (a : ℕ) (x y : Validity) →
    Says x IsVrp p a → Says y IsVrp p a → x ≡ y
agree IsVrp p a NotFound NotFound h k = refl
agree IsVrp p a NotFound Valid h k = absurd (h k.0 k.1 k.2.covers)
agree IsVrp p a NotFound Invalid h k = absurd (h k.0.0 k.0.1 k.0.2)
agree IsVrp p a Valid NotFound h k = absurd (k h.0 h.1 h.2.covers)
agree IsVrp p a Valid Valid h k = refl
agree IsVrp p a Valid Invalid h k = absurd (k.1 h.0 h.1 h.2)
agree IsVrp p a Invalid NotFound h k = absurd (k h.0.0 h.0.1 h.0.2)
agree IsVrp p a Invalid Valid h k = absurd (h.1 k.0 k.1 k.2)
agree IsVrp p a Invalid Invalid h k = refl

matches : (v : OriginParts) (p : PrefixParts) (a : ℕ) → Covers v p → IsMismatch None v p a →
    Matches v p a
matches v p a c h = record {
  covers = c;
  within = h.2;
  same = h.1;
  some = elim (cases_lt 0 a) [
    | inl some ↦ some
    | inr none ↦ absurd (h.0 (omega (arith, h.1)))
  ];
}

no_reason : (m : Option Mismatch) (v : OriginParts) (p : PrefixParts) (a : ℕ) →
    IsMismatch m v p a → Matches v p a → m ≡ None
no_reason None v p a h k = refl
no_reason (Some AsZero) v p a h k = absurd (omega (arith, h, k.same, k.some))
no_reason (Some OtherAs) v p a h k = absurd (h.1 k.same)
no_reason (Some TooLong) v p a h k = absurd (omega (arith, h.2, k.within))

pub reason_or_match : (v : OriginParts) (p : PrefixParts) (a : ℕ) (m : Option Mismatch) →
    Covers v p → IsMismatch m v p a → (m ≡ None) ↔ Matches v p a
reason_or_match v p a None c h = (λ e. matches v p a c h, λ k. refl)
reason_or_match v p a (Some r) c h = (λ e. absurd cc, λ k. no_reason (Some r) v p a h k)
