-- The unit and the text inside an error report, by their lengths.
use Rattle.std.proofs.Common.{◌≡◌, ℕ, ◌+◌, ◌<◌, ◌≤◌, List, [], ◌∷◌, ◌++◌, length, take, drop}
use Rattle.std.proofs.Common.{Option, None, refl, sym, ap, subst, ◌∙◌}
use Rattle.std.proofs.Common.{append-nil, append_assoc, arith, length-append}
use Rattle.std.specs.Prelude.{MatchOption, true, false, ◌==◌}
use Rattle.std.proofs.lemmas.List.{take_at, drop_at, take-append-drop, length-take-le}
use Rattle.std.proofs.lemmas.List.{append_cancel_left, nil_from_length}
use Rattle.std.proofs.lemmas.Bool.Decides.{nat_tests}
use Rattle.rtr_base.specs.Bytes.{be, value, IsBytes}
use Rattle.rtr_base.proofs.Numbers.{be-value, value-be, IsBytes-take, IsBytes-drop}
use Rattle.rtr_units.specs.Header.{header, version_field, session_field, length_field}
use Rattle.rtr_units.proofs.Headers.{header_read}
use Rattle.unit_any.specs.PrivateHeaders.{IsCounted, IsCutShort}
use Rattle.unit_any.specs.Reports.{IsReport, HasParts}
use Rattle.unit_any.proofs.Reports.{report_fields}

pub at_none : {A : Type 0} (o : Option A) (P : Type 0) (Q : A → Type 0) → o ≡ None → P →
    MatchOption o P Q
at_none o P Q is p = subst (λ o. MatchOption o P Q) (sym is) p

pub none_left : (r : List ℕ) → true ≡ (length r == 0) → r ≡ []
none_left r e = nil_from_length r (grind (arith, nat_tests))

pub some_left : (r : List ℕ) → false ≡ (length r == 0) → r ≡ [] → ⊥
some_left [] e none = absurd cc
some_left (x ∷ r) e none = absurd cc

pub counted_is : (b x r : List ℕ) → IsBytes b → IsCounted b x r → b ≡ be (length x) 4 ++ (x ++ r)
counted_is b x r h (long, size, parts) =
    let front : take 4 b ≡ be (length x) 4 =
    sym (be-value (take 4 b) 4 (IsBytes-take 4 b h) (length-take-le 4 b long))
    ∙ ap (λ n. be n 4) size in
    sym (take-append-drop 4 b) ∙ (λ i. front i ++ parts i)

-- what follows is bytes too
pub counted_rest : (b x r : List ℕ) → IsBytes b → IsCounted b x r → IsBytes r
counted_rest b x r h (long, size, parts) =
    let all : drop (length x) (drop 4 b) ≡ r =
    ap (drop (length x)) parts ∙ drop_at x r (length x) refl in
    rw all at (IsBytes-drop (length x) (drop 4 b) (IsBytes-drop 4 b h))

-- one length can be read one way
pub counted_one : (p rest x r : List ℕ) → length p < 65536 →
    IsCounted (be (length p) 4 ++ (p ++ rest)) x r → (x ≡ p) × (r ≡ rest)
counted_one p rest x r small (long, size, parts) =
    let same : length p ≡ length x = sym (value-be (length p) 4 (omega arith)) ∙ size in
    let is : p ++ rest ≡ x ++ r = parts in
    let first : x ≡ p =
    sym (take_at x r (length p) (sym same)) ∙ ap (take (length p)) (sym is)
    ∙ take_at p rest (length p) refl in
    (first, append_cancel_left p r rest (ap (λ l. l ++ r) (sym first) ∙ sym is))

pub not_cut : (p rest : List ℕ) → length p < 65536 → IsCutShort (be (length p) 4 ++ (p ++ rest)) → ⊥
not_cut p rest small cut =
    let four : 4 ≤ length (be (length p) 4 ++ (p ++ rest)) = omega arith in
    let said : value (be (length p) 4) ≡ length p = value-be (length p) 4 (omega arith) in
    let less : length (p ++ rest) < value (be (length p) 4) = cut four in
    omega (arith, less, said, length-append p rest)

-- ---- a report

module _ (u : List ℕ) (is : IsReport u) where
  -- what follows its header, where its parts are these
  pub body_of : (p t : List ℕ) → HasParts u p t →
      drop 8 u ≡ be (length p) 4 ++ (p ++ (be (length t) 4 ++ (t ++ [])))
  body_of p t has =
      ap (drop 8) has ∙ ap (λ l. be (length p) 4 ++ l) (append_assoc p (be (length t) 4) t)
      ∙ ap (λ l. be (length p) 4 ++ (p ++ (be (length t) 4 ++ l))) (sym (append-nil t))

  pub parts_small : (p t : List ℕ) → HasParts u p t → (length p < 65536) × (length t < 65536)
  parts_small p t has =
      let size : length u ≡ 16 + length p + length t =
      ap length has
      ∙ omega (arith, length-append (p ++ be (length t) 4) t, length-append p (be (length t) 4)) in
      let most = (report_fields u is).most in
      (omega arith, omega arith)

  pub parts_made : (p r t : List ℕ) → IsCounted (drop 8 u) p r → IsCounted r t [] → HasParts u p t
  parts_made p r t first second =
      let is = report_fields u is in
      let bytes : IsBytes (drop 8 u) = IsBytes-drop 8 u is.are_bytes in
      let least = is.least in
      let rest : r ≡ be (length t) 4 ++ t =
      counted_is r t [] (counted_rest (drop 8 u) p r bytes first) second
      ∙ ap (λ l. be (length t) 4 ++ l) (append-nil t) in
      let body : drop 8 u ≡ be (length p) 4 ++ (p ++ (be (length t) 4 ++ t)) =
      counted_is (drop 8 u) p r bytes first ∙ ap (λ l. be (length p) 4 ++ (p ++ l)) rest in
      let whole = header_read u _ is.are_bytes (omega arith) body in
      let size : length_field u ≡ 16 + length p + length t =
      is.size ∙ ap length whole ∙ omega (arith, length-append p (be (length t) 4 ++ t)) in
      let tail = sym (append_assoc p (be (length t) 4) t) in
      whole
      ∙ (λ i.
      header (version_field u) (is.kind i) (session_field u) (size i) ++
      (be (length p) 4 ++ tail i))

  pub none_cut : IsCutShort (drop 8 u) → (p t : List ℕ) → HasParts u p t → ⊥
  none_cut cut p t has =
      let small = parts_small p t has in
      not_cut p _ small.0 (rw (body_of p t has) at cut)

  -- the first length was read so
  second_is : (x r : List ℕ) → IsCounted (drop 8 u) x r → (p t : List ℕ) → HasParts u p t →
      r ≡ be (length t) 4 ++ (t ++ [])
  second_is x r first p t has =
      let small = parts_small p t has in
      (counted_one p _ x r small.0 (rw (body_of p t has) at first)).1

  pub none_second : (x r : List ℕ) → IsCounted (drop 8 u) x r → IsCutShort r → (p t : List ℕ) →
      HasParts u p t → ⊥
  none_second x r first cut p t has =
      let small = parts_small p t has in
      not_cut t [] small.1 (rw (second_is x r first p t has) at cut)

  pub none_more : (x r y s : List ℕ) → IsCounted (drop 8 u) x r → IsCounted r y s → (s ≡ [] → ⊥) →
      (p t : List ℕ) → HasParts u p t → ⊥
  none_more x r y s first second more p t has =
      let small = parts_small p t has in
      more (counted_one t [] y s small.1 (rw (second_is x r first p t has) at second)).1

counted_made : (x r : List ℕ) → length x < 65536 → IsCounted (be (length x) 4 ++ (x ++ r)) x r
counted_made x r small = (omega arith, value-be (length x) 4 (omega arith), refl)

pub parts_one : (u : List ℕ) → IsReport u → (p t q s : List ℕ) → HasParts u p t → HasParts u q s →
    (p ≡ q) × (t ≡ s)
parts_one u is p t q s has other =
    let small = parts_small u is q s other in
    let same : be (length p) 4 ++ (p ++ (be (length t) 4 ++ (t ++ []))) ≡
    be (length q) 4 ++ (q ++ (be (length s) 4 ++ (s ++ []))) =
    sym (body_of u is p t has) ∙ body_of u is q s other in
    let small_p = parts_small u is p t has in
    let first = counted_one q _ p _ small.0
    (subst (λ l. IsCounted l p (be (length t) 4 ++ (t ++ []))) same (counted_made p _ small_p.0)) in
    let second = counted_one s [] t [] small.1
    (subst (λ l. IsCounted l t []) first.1 (counted_made t [] small_p.1)) in
    (first.0, second.0)
