-- What headers say of the lengths of their units.
use Rattle.std.proofs.Common.{◌≡◌, ◌≢◌, ◌⊎◌, inl, inr, ℕ, ◌≤◌, Bool, true, false, not, cond}
use Rattle.std.proofs.Common.{List, Option, Some, None, Result, Ok, refl, sym, ap, subst}
use Rattle.std.proofs.Common.{◌∙◌, arith, get_or}
use Rattle.std.specs.Prelude.{◌==◌}
use Rattle.std.proofs.lemmas.Bool.{cases_lt}
use Rattle.std.proofs.lemmas.Bool.Decides.{nat_tests}
use Rattle.rtr_units.specs.StopCauses.{Refusal, unit_length}
use Rattle.rtr_units.specs.Header.{version_field, type_field, length_field}
use Rattle.rtr_units.specs.Reading.{exact_length, least_length}
use Rattle.rtr_payload.specs.FirstFault.{header_fault}
use Rattle.unit_views.specs.declared.fault.ViewFault.{ViewFault}
use Rattle.unit_any.specs.SessionKinds.{any_header_fault}
use Rattle.unit_any.specs.Lengths.{SaysLength, IsBounded}
use Rattle.unit_any.specs.PrivateHeaders.{SaysSize}
use Rattle.unit_any.proofs.Stops.{of_twelve, of_eight, of_ten, of_payload}

-- what is said of one fault is said of the same
pub same_size : (n : ℕ) (a b : Option Refusal) (r : Result ℕ ViewFault) → b ≡ a → SaysSize n a r →
    SaysSize n b r
same_size n a b r e s = subst (λ w. SaysSize n w r) (sym e) s

turned : (b : Bool) (f : Refusal) → cond (not b) (Some f) None ≡ cond b None (Some f)
turned true f = refl
turned false f = refl

four_is : (v g n : ℕ) → header_fault v 4 g n ≡ exact_length 20 n
unfolding header_fault
four_is v g n = turned (n == 20) unit_length

six_is : (v g n : ℕ) → header_fault v 6 g n ≡ exact_length 32 n
unfolding header_fault
six_is v g n = turned (n == 32) unit_length

nine_is : (v g n : ℕ) → header_fault v 9 g n ≡ least_length 32 n
unfolding header_fault
nine_is v g n = grind (arith, nat_tests)

module _ (v g n t m : ℕ) (r : Result ℕ ViewFault) where
  exact_as : (k : ℕ) → m ≡ k → any_header_fault v t g n ≡ exact_length k n →
      SaysSize n (exact_length m n) r → SaysSize n (any_header_fault v t g n) r
  exact_as k e is = same_size n _ _ r (is ∙ ap (λ k. exact_length k n) (sym e))

  pub size_twelve : (t ≡ 0) ⊎ (t ≡ 1) → m ≡ 12 → SaysSize n (exact_length m n) r →
      SaysSize n (any_header_fault v t g n) r
  size_twelve is e = exact_as 12 e (of_twelve v g n t is)

  pub size_eight : (t ≡ 2) ⊎ ((t ≡ 3) ⊎ (t ≡ 8)) → m ≡ 8 → SaysSize n (exact_length m n) r →
      SaysSize n (any_header_fault v t g n) r
  size_eight is e = exact_as 8 e (of_eight v g n t is)

  pub size_four : t ≡ 4 → m ≡ 20 → SaysSize n (exact_length m n) r →
      SaysSize n (any_header_fault v t g n) r
  size_four is e =
      exact_as 20 e
      (of_payload v g n t (inl is) ∙ ap (λ t. header_fault v t g n) is ∙ four_is v g n)

  pub size_six : t ≡ 6 → m ≡ 32 → SaysSize n (exact_length m n) r →
      SaysSize n (any_header_fault v t g n) r
  size_six is e =
      exact_as 32 e
      (of_payload v g n t (inr (inl is)) ∙ ap (λ t. header_fault v t g n) is ∙ six_is v g n)

module _ (v g n t : ℕ) (r : Result ℕ ViewFault) where
  pub size_seven : t ≡ 7 → SaysSize n (header_fault v 7 0 n) r →
      SaysSize n (any_header_fault v t g n) r
  unfolding header_fault
  size_seven is =
      same_size n _ _ r
      (of_payload v g n t (inr (inr (inl is))) ∙ ap (λ t. header_fault v t g n) is)

  pub size_nine : t ≡ 9 → SaysSize n (least_length 32 n) r → SaysSize n (any_header_fault v t g n) r
  size_nine is =
      same_size n _ _ r
      (of_payload v g n t (inr (inr (inr (inl is)))) ∙ ap (λ t. header_fault v t g n) is
      ∙ nine_is v g n)

  pub size_ten : t ≡ 10 → SaysSize n (least_length 16 n) r → SaysSize n (any_header_fault v t g n) r
  size_ten is =
      same_size n _ _ r (ap (λ t. any_header_fault v t g n) is ∙ of_ten v g n)

  pub size_eleven : t ≡ 11 → SaysSize n (header_fault 0 11 g n) r →
      SaysSize n (any_header_fault v t g n) r
  unfolding header_fault
  size_eleven is =
      same_size n _ _ r
      (of_payload v g n t (inr (inr (inr (inr is)))) ∙ ap (λ t. header_fault v t g n) is)

-- ---- ends of data

end_untimed : (v n : ℕ) → v ≡ 0 → header_fault v 7 0 n ≡ exact_length 12 n
unfolding header_fault
end_untimed v n e = rw e (turned (n == 12) unit_length)

end_timed : (v n : ℕ) → (v ≡ 1) ⊎ (v ≡ 2) → header_fault v 7 0 n ≡ exact_length 24 n
unfolding header_fault
end_timed v n (inl e) = rw e (turned (n == 24) unit_length)
end_timed v n (inr e) = rw e (turned (n == 24) unit_length)

one_or_two : (v : ℕ) → v ≢ 0 → v ≤ 2 → (v ≡ 1) ⊎ (v ≡ 2)
one_or_two v some most = elim (cases_lt v 2) [
  | inl less ↦ inl (omega (arith, less, some))
  | inr more ↦ inr (omega (arith, more, most))
]

module _ (v n m : ℕ) (r : Result ℕ ViewFault) where
  pub untimed_size : v ≡ 0 → m ≡ 12 → SaysSize n (exact_length m n) r →
      SaysSize n (header_fault v 7 0 n) r
  untimed_size is e =
      same_size n _ _ r (end_untimed v n is ∙ ap (λ k. exact_length k n) (sym e))

  pub timed_size : v ≢ 0 → v ≤ 2 → m ≡ 24 → SaysSize n (exact_length m n) r →
      SaysSize n (header_fault v 7 0 n) r
  timed_size some most e =
      same_size n _ _ r
      (end_timed v n (one_or_two v some most) ∙ ap (λ k. exact_length k n) (sym e))

-- ---- what is in order is bounded

pub bounded : (v t g n : ℕ) → any_header_fault v t g n ≡ None → IsBounded v t n
unfolding any_header_fault header_fault
bounded v t g n e = record {
  notify = λ is. grind (arith, nat_tests);
  query = λ is. grind (arith, nat_tests);
  reset_query = λ is. grind (arith, nat_tests);
  response = λ is. grind (arith, nat_tests);
  ipv4 = λ is. grind (arith, nat_tests);
  ipv6 = λ is. grind (arith, nat_tests);
  end_untimed = λ is zero. grind (arith, nat_tests);
  end_timed = λ is later. grind (arith, nat_tests);
  reset = λ is. grind (arith, nat_tests);
  key = λ is. grind (arith, nat_tests);
  report = λ is. grind (arith, nat_tests);
  aspa = λ is. (grind (arith, nat_tests), grind (arith, nat_tests));
  least = grind (arith, nat_tests);
  most = grind (arith, nat_tests);
}

pub said_bounded : (b : List ℕ) (n : ℕ) → SaysLength b (Ok (Some n)) →
    IsBounded (version_field b) (type_field b) n
said_bounded b n (long, order, is) =
    subst (IsBounded (version_field b) (type_field b)) (sym is)
    (bounded (version_field b) (type_field b) (get_or b 2 0) (length_field b) order)
