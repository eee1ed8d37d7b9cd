-- Findings and names, told to C.
use Rattle.std.proofs.Common.{◌≡◌, ℕ, List, [], ◌∷◌, length, get_or, ap, ◌∙◌, arith, Option, None}
use Rattle.std.proofs.Common.{Ok}
use Rattle.std.specs.Prelude.{false, ◌%◌, ◌==◌, ◌&&◌}
use Rattle.std.proofs.lemmas.Bool.Decides.{nat_tests}
use Rattle.std.proofs.lemmas.List.{get_or-take}
use Rattle.rtr_units.specs.Header.{length_field, type_field, version_field}
use Rattle.rtr_payload.specs.FirstFault.{header_fault}
use Rattle.unit_any.specs.SessionKinds.{any_header_fault}
use Rattle.unit_any.proofs.Lengths.{said_bounded}
use Rattle.text_findings.specs.declared.finding.Finding.{Finding}
use Rattle.rtr_c.specs.Checks.{LooksAt, is_bare_aspa, numbered_finding}
use Rattle.rtr_c.specs.declared.check.RtrFinding.{RtrFinding}

pub seven_told : (xs : List (Option Finding)) → (a b c d e f g : RtrFinding) → length xs ≡ 7 →
    numbered_finding a ≡ get_or xs 0 None → numbered_finding b ≡ get_or xs 1 None →
    numbered_finding c ≡ get_or xs 2 None → numbered_finding d ≡ get_or xs 3 None →
    numbered_finding e ≡ get_or xs 4 None → numbered_finding f ≡ get_or xs 5 None →
    numbered_finding g ≡ get_or xs 6 None →
    (numbered_finding a ∷ numbered_finding b ∷ numbered_finding c ∷ numbered_finding d ∷
    numbered_finding e ∷ numbered_finding f ∷ numbered_finding g ∷ []) ≡ xs
seven_told (s0 ∷ s1 ∷ s2 ∷ s3 ∷ s4 ∷ s5 ∷ s6 ∷ []) a b c d e f g h e0 e1 e2 e3 e4 e5 e6 =
    λ i. e0 i ∷ e1 i ∷ e2 i ∷ e3 i ∷ e4 i ∷ e5 i ∷ e6 i ∷ []
seven_told [] a b c d e f g h e0 e1 e2 e3 e4 e5 e6 = absurd (omega (arith, h))
seven_told (s0 ∷ []) a b c d e f g h e0 e1 e2 e3 e4 e5 e6 = absurd (omega (arith, h))
seven_told (s0 ∷ s1 ∷ []) a b c d e f g h e0 e1 e2 e3 e4 e5 e6 = absurd (omega (arith, h))
seven_told (s0 ∷ s1 ∷ s2 ∷ []) a b c d e f g h e0 e1 e2 e3 e4 e5 e6 = absurd (omega (arith, h))
seven_told (s0 ∷ s1 ∷ s2 ∷ s3 ∷ []) a b c d e f g h e0 e1 e2 e3 e4 e5 e6 =
    absurd (omega (arith, h))
seven_told (s0 ∷ s1 ∷ s2 ∷ s3 ∷ s4 ∷ []) a b c d e f g h e0 e1 e2 e3 e4 e5 e6 =
    absurd (omega (arith, h))
seven_told (s0 ∷ s1 ∷ s2 ∷ s3 ∷ s4 ∷ s5 ∷ []) a b c d e f g h e0 e1 e2 e3 e4 e5 e6 =
    absurd (omega (arith, h))
seven_told (s0 ∷ s1 ∷ s2 ∷ s3 ∷ s4 ∷ s5 ∷ s6 ∷ s7 ∷ xs) a b c d e f g h e0 e1 e2 e3 e4 e5 e6 =
    absurd (omega (arith, h))

-- an ASPA that is announced without providers has a header that is refused
none_bare : (v t g n : ℕ) → any_header_fault v t g n ≡ None →
    ((t == 11) && (g % 2 == 1) && (n == 12)) ≡ false
unfolding any_header_fault header_fault
none_bare v t g n h = grind (arith, nat_tests)

pub looked_at : (input unit : List ℕ) → LooksAt input (Ok unit) → is_bare_aspa unit ≡ false
looked_at input unit looks =
    let bounded = said_bounded input (length unit) looks.0 in
    let kind : type_field unit ≡ type_field input =
    ap type_field looks.2
    ∙ get_or-take (length unit) input 1 0 (omega (arith, bounded.least)) in
    let flags : get_or unit 2 0 ≡ get_or input 2 0 =
    ap (λ u. get_or u 2 0) looks.2
    ∙ get_or-take (length unit) input 2 0 (omega (arith, bounded.least)) in
    (λ i. (kind i == 11) && (flags i % 2 == 1) && (looks.0.2 i == 12))
    ∙ none_bare (version_field input) (type_field input) (get_or input 2 0)
    (length_field input) looks.0.1
