-- Where reading a unit stops: lists that end too early, headers and prefix
-- lengths that are refused.
use Rattle.std.proofs.Common.{◌≡◌, ℕ, ◌<◌, ◌≤◌, List, ◌++◌, length, take, drop, inl}
use Rattle.std.proofs.Common.{inr, Some, None, refl, sym, ap, ◌∙◌, arith, get_or}
use Rattle.std.proofs.lemmas.Bool.{cases_lt}
use Rattle.std.proofs.lemmas.Bool.Decides.{nat_tests}
use Rattle.std.proofs.lemmas.List.{length-append, length-take-le, take-append-drop, take_at}
use Rattle.rtr_units.specs.StopCauses.{Refusal, short, unit_type, unit_version}
use Rattle.rtr_units.specs.StopCauses.{too_long, unit_length, empty_providers, refused}
use Rattle.rtr_units.specs.Header.{version_field, type_field, length_field}
use Rattle.rtr_units.proofs.Headers.{same_header}
use Rattle.rtr_payload.specs.declared.pdu.prefix_rule.PrefixRule.{PrefixRule}
use Rattle.rtr_payload.specs.FirstFault.{IsPartial, first_fault}
use Rattle.rtr_payload.specs.FirstFault.{header_fault, taken, refusal_report}
use Rattle.rtr_payload.specs.FaultSteps.{header_step, rule_of}
use Rattle.rtr_payload.specs.UnitFields.{Fields, HasFields}
use Rattle.rtr_payload.proofs.Frames.{Whole, refuse, header_first, length_next}
use Rattle.rtr_payload.proofs.Frames.{same_step, shape_fault, shape_cut}

-- whatever follows h, it is refused by f, and just h is taken
abbrev pub IsRefused : List ℕ → Refusal → Type 0
IsRefused h f = (r : List ℕ) → (first_fault (h ++ r) ≡ Some f) × (taken f (h ++ r) ≡ h)

-- ---- a list that ends too early

pub header_short : (h : List ℕ) → length h < 8 → IsPartial h
header_short h l = grind (arith, nat_tests)

pub unit_short : (h : List ℕ) → 8 ≤ length h → header_step h ≡ None → length h < length_field h →
    IsPartial h
unit_short = length_next

-- a whole unit or end of data, cut anywhere
pub cut_short : (b : List ℕ) (n : ℕ) → Whole b → n < length b → IsPartial (take n b)
cut_short b n w less =
    let front = take n b in
    let len : length front ≡ n = length-take-le n b (omega arith) in
    elim (cases_lt n 8) [
      | inl lt ↦ header_short front (omega arith)
      | inr le ↦
          let all : front ++ drop n b ≡ b = take-append-drop n b in
          let s = same_header front (drop n b) (omega arith) in
          let same : length_field b ≡ length_field front = ap length_field (sym all) ∙ s.size in
          unit_short front (omega arith)
          (sym (same_step front (drop n b) (omega arith)) ∙ ap header_step all ∙ w.in_order)
          (omega (arith, w.size))
    ]

-- ---- a header that is refused

header_takes : (v t g n : ℕ) (f : Refusal) (r : List ℕ) → header_fault v t g n ≡ Some f →
    taken f r ≡ take 8 r
unfolding header_fault
header_takes v t g n short r e = absurd (grind (arith, nat_tests))
header_takes v t g n (unit_type x) r e = refl
header_takes v t g n (unit_version x) r e = refl
header_takes v t g n too_long r e = refl
header_takes v t g n unit_length r e = refl
header_takes v t g n empty_providers r e = refl
header_takes v t g n (refused x) r e = absurd (grind (arith, nat_tests))

pub header_refused : (h : List ℕ) (f : Refusal) → length h ≡ 8 → header_step h ≡ Some f →
    IsRefused h f
header_refused h f l e = λ r.
    let all = h ++ r in
    let long : 8 ≤ length all = omega (arith, length-append h r) in
    let step : header_step all ≡ Some f = same_step h r (omega arith) ∙ e in (
      header_first all f long step,
      header_takes (version_field all) (type_field all) (get_or all 2 0) (length_field all) f
          all step
          ∙ take_at h r 8 l,
    )

-- ---- prefix lengths that are refused

pub prefix_refused : (b : List ℕ) (u : Fields) (f : PrefixRule) → HasFields b u →
    rule_of u ≡ Some f → IsRefused b (refused (refusal_report b f))
prefix_refused b u f h e = λ r. (shape_fault b r u h ∙ ap (refuse b) e, (shape_cut b r u h).1)
