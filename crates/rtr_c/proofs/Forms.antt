-- Forms that are written in two pieces.
use Rattle.std.proofs.Common.{◌≡◌, ◌≢◌, ℕ, ◌+◌, ◌-◌, ◌*◌, ◌%◌, ◌≤◌, false, not, ltb, eqb, cond}
use Rattle.std.proofs.Common.{List, []}
use Rattle.std.proofs.Common.{◌∷◌, ◌++◌, length, take, drop, Some, Ok}
use Rattle.std.proofs.Common.{refl, sym, ap, ◌∙◌, append_assoc, arith}
use Rattle.std.proofs.lemmas.Bool.Decides.{nat_tests}
use Rattle.std.specs.Prelude.{replicate}
use Rattle.std.proofs.Math.Seq.{take-append_seam, drop-append_seam}
use Rattle.std.proofs.lemmas.List.{take_all}
use borrow.Rule.Slice.PartMut.{put_mid}
use Rattle.rtr_base.specs.Bytes.{be, IsBytes}
use Rattle.rtr_payload.specs.Payloads.{key, aspa}
use Rattle.rtr_payload.specs.Providers.{words_of}
use Rattle.rtr_payload.specs.Units.{form}
use Rattle.rtr_payload.proofs.ProviderBytes.{provider_bytes_of, provider_count}
use Rattle.rtr_units.specs.Report.{report}
use Rattle.unit_any.specs.HeldReports.{held_report}
use Rattle.rtr_c.specs.WrittenUnits.{part_said, text_said, key_said, aspa_said, report_said}
use Rattle.rtr_c.specs.declared.unit.RtrUnit.{RtrUnit}
use Rattle.rtr_c.proofs.AgainPayload.{key_steps}

aspa_steps : {A : Type 0} (a n : ℕ) (p q r s t x : A) → a ≤ 1 → a ≢ 0 → n ≤ 65520 → n % 4 ≡ 0 →
    n ≢ 0 →
    cond (ltb 1 a) p
    (cond (eqb a 0) q (cond (ltb 65520 n) r (cond (not (eqb (n % 4) 0)) s (cond (eqb n 0) t x)))) ≡
    x
aspa_steps a n p q r s t x h some k fours more = grind (arith, nat_tests)

key_whole : (v a n : ℕ) (i info : List ℕ) →
    ((v ∷ 9 ∷ a ∷ 0 ∷ be (32 + length info) 4) ++ (i ++ be n 4)) ++ info ≡
    form v a (key (record { identifier = i; asn = n; info = info }))
key_whole v a n i info = refl

pub key_is : (u : RtrUnit) (input info front : List ℕ) → part_said u input ≡ Some info →
    u.action ≤ 1 → length info ≤ 65503 →
    front ≡
    (u.version ∷ 9 ∷ u.action ∷ 0 ∷ be (32 + length info) 4) ++ (u.key_identifier ++ be u.asn 4) →
    Ok (front ++ info) ≡ key_said u (part_said u input)
key_is u input info front is act few made =
    let whole : front ++ info ≡
    form u.version u.action
    (key (record { identifier = u.key_identifier; asn = u.asn; info = info })) =
    ap (λ l. l ++ info) made ∙ key_whole u.version u.action u.asn u.key_identifier info in
    ap Ok whole ∙ sym (ap (key_said u) is ∙ key_steps u.action (length info) _ _ _ act few)

pub aspa_is : (u : RtrUnit) (input ps front : List ℕ) → IsBytes ps → part_said u input ≡ Some ps →
    u.action ≤ 1 → u.action ≢ 0 → length ps ≤ 65520 → length ps % 4 ≡ 0 → length ps ≢ 0 →
    front ≡ (u.version ∷ 11 ∷ u.action ∷ 0 ∷ be (12 + length ps) 4) ++ be u.customer 4 →
    Ok (front ++ ps) ≡ aspa_said u (part_said u input)
aspa_is u input ps front bytes is act some few fours more made =
    let known = provider_bytes_of ps bytes fours few in
    let head = λ (n : ℕ). (u.version ∷ 11 ∷ u.action ∷ 0 ∷ be (12 + n) 4) in
    let whole : front ++ ps ≡
    form u.version u.action (aspa (record { customer = u.customer; providers = words_of ps })) =
    ap (λ l. l ++ ps) made ∙ append_assoc (head (length ps)) (be u.customer 4) ps
    ∙ ap (λ (n : ℕ). head n ++ (be u.customer 4 ++ ps)) (provider_count ps known)
    ∙ ap (λ l. head (4 * length (words_of ps)) ++ (be u.customer 4 ++ l)) (sym known.again) in
    ap Ok whole
    ∙ sym (ap (aspa_said u) is
    ∙ aspa_steps u.action (length ps) _ _ _ _ _ _ act some few fours more)

report_steps : {A : Type 0} (a n : ℕ) (p q x : A) → a ≤ 0 → n ≤ 65519 →
    cond (ltb 0 a) p (cond (ltb 65519 n) q x) ≡ x
report_steps a n p q x h k = grind (arith, nat_tests)

-- nothing is cut of parts that fit
pub held_whole : (v c : ℕ) (p t : List ℕ) → length p + length t ≤ 65519 →
    held_report v c p t ≡ report v c p t
held_whole v c p t few =
    let part : take 65519 p ≡ p = take_all 65519 p (omega (arith, few)) in
    let text : take (65519 - length (take 65519 p)) t ≡ t =
    ap (λ l. take (65519 - length l) t) part
    ∙ take_all (65519 - length p) t (omega (arith, few)) in
    λ i. report v c (part i) (text i)

pub report_is : (u : RtrUnit) (input p t : List ℕ) → part_said u input ≡ Some p →
    text_said u input ≡ Some t → u.action ≤ 0 → length p + length t ≤ 65519 →
    Ok (held_report u.version u.code p t) ≡
    report_said u (part_said u input) (text_said u input)
report_is u input p t part text act few =
    ap Ok (held_whole u.version u.code p t few)
    ∙ sym ((λ i. report_said u (part i) (text i))
    ∙ report_steps u.action (length p + length t) _ _ _ act few)

-- a list that is tested not to be empty has some item
pub empty_not : (n : ℕ) → eqb n 0 ≡ false → n ≢ 0
empty_not n e = grind (arith, nat_tests)

-- the pieces of the front of a router key
pub key_parts : (v a s n : ℕ) (k : List ℕ) → length k ≡ 20 →
    put_mid 28 4 (put_mid 8 20 ((v ∷ 9 ∷ a ∷ 0 ∷ be s 4) ++ replicate 24 0) k) (be n 4) ≡
    (v ∷ 9 ∷ a ∷ 0 ∷ be s 4) ++ (k ++ be n 4)
key_parts v a s n k h =
    let zeros : List ℕ = replicate 4 0 in
    let front : take 20 (k ++ zeros) ≡ k =
    ap (λ (m : ℕ). take m (k ++ zeros)) (sym h) ∙ take-append_seam k zeros in
    let back : drop 4 (drop 20 (k ++ zeros)) ≡ [] =
    ap (drop 4) (ap (λ (m : ℕ). drop m (k ++ zeros)) (sym h) ∙ drop-append_seam k zeros) in
    λ i. (v ∷ 9 ∷ a ∷ 0 ∷ be s 4) ++ (front i ++ (be n 4 ++ back i))
