-- What is shown of units says all of their forms.
use Rattle.std.proofs.Common.{◌≡◌, ℕ, ◌+◌, ◌≤◌, cond, ltb, List, [], ◌++◌, length, take}
use Rattle.std.proofs.Common.{drop, Option}
use Rattle.std.proofs.Common.{Some, None, Ok, refl, sym, ap, ◌∙◌, append_assoc}
use Rattle.std.proofs.Common.{arith, inl, inr, length-append}
use Rattle.std.proofs.lemmas.Bool.Decides.{nat_tests}
use Rattle.std.proofs.lemmas.List.{take_at, drop_at, drop-drop}
use Rattle.rtr_base.specs.Bytes.{be}
use Rattle.rtr_base.specs.declared.timing.Timing.{Timing}
use Rattle.rtr_units.specs.End.{HasTimingOf, end_list}
use Rattle.rtr_units.specs.Header.{version_field, session_field}
use Rattle.rtr_units.specs.Report.{report}
use Rattle.unit_any.specs.AnyFields.{AnyFields, HasAnyFields, serial_notify, serial_query}
use Rattle.unit_any.specs.AnyFields.{reset_query, cache_response, payload, end_of_data}
use Rattle.unit_any.specs.AnyFields.{cache_reset, error_report}
use Rattle.unit_any.specs.SessionForms.{session_form}
use Rattle.unit_any.specs.Reports.{HasParts}
use Rattle.rtr_c.proofs.AgainPayload.{payload_again, piece_steps}
use Rattle.rtr_c.specs.WrittenUnits.{said, session_said, piece_said, report_said}
use Rattle.rtr_c.specs.ShownUnits.{CallShows, IsWrittenAgain}
use Rattle.rtr_c.specs.ShownUnits.{end_shown}
use Rattle.rtr_c.specs.ShownUnits.{with_parts, report_shown}
use Rattle.rtr_c.specs.declared.unit.RtrUnit.{RtrUnit}

end_said_again : (n v s q : ℕ) (t : Option Timing) (input : List ℕ) → HasTimingOf v t →
    said (end_shown n (record { version = v; session = s; serial = q; timing = t })) input ≡
    Ok (end_list (record { version = v; session = s; serial = q; timing = t }))
end_said_again n v s q None input h = rw h refl
end_said_again n v s q (Some t) input h = elim h.0 [ inl e ↦ rw e refl | inr e ↦ rw e refl ]

-- ---- reports

module _ (v c : ℕ) (p t rest : List ℕ) where
  abbrev all : List ℕ
  all = report v c p t ++ rest

  abbrev count : List ℕ
  count = be (length t) 4

  after_twelve : drop 12 all ≡ p ++ ((count ++ t) ++ rest)
  after_twelve =
      ap (λ l. l ++ rest) (append_assoc p count t) ∙ append_assoc p (count ++ t) rest

  pub size : length (report v c p t) ≡ 16 + length p + length t
  size = omega (arith, length-append (p ++ count) t, length-append p count)

  long : 16 + length p + length t ≤ length all
  long = omega (arith, size, length-append (report v c p t) rest)

  pub part_back : piece_said 12 (length p) all ≡ Some p
  part_back =
      piece_steps (12 + length p) (length all) _ _ (omega (arith, long))
      ∙ ap (λ l. Some (take (length p) l)) after_twelve
      ∙ ap Some (take_at p ((count ++ t) ++ rest) (length p) refl)

  after_part : drop (16 + length p) all ≡ t ++ rest
  after_part =
      ap (λ (n : ℕ). drop n all) (omega arith)
      ∙ sym (drop-drop (length p + 4) 12 all)
      ∙ ap (drop (length p + 4)) after_twelve
      ∙ ap (λ (n : ℕ). drop n (p ++ ((count ++ t) ++ rest))) (omega arith)
      ∙ sym (drop-drop 4 (length p) (p ++ ((count ++ t) ++ rest)))
      ∙ ap (drop 4) (drop_at p ((count ++ t) ++ rest) (length p) refl)

  pub text_back : piece_said (16 + length p) (length t) all ≡ Some t
  text_back =
      piece_steps (16 + length p + length t) (length all) _ _ (omega (arith, long))
      ∙ ap (λ l. Some (take (length t) l)) after_part
      ∙ ap Some (take_at t rest (length t) refl)

  report_steps : {A : Type 0} (n : ℕ) (q x : A) → n ≤ 65519 → cond (ltb 65519 n) q x ≡ x
  report_steps n q x k = grind (arith, nat_tests)

  pub report_back : (n : ℕ) → length p + length t ≤ 65519 →
      said (with_parts (length p) (length t) (report_shown n v c)) all ≡ Ok (report v c p t)
  unfolding session_said
  report_back n few =
      (λ i. report_said (with_parts (length p) (length t) (report_shown n v c)) (part_back i)
      (text_back i))
      ∙ report_steps (length p + length t) _ _ few

report_again : (input b rest : List ℕ) (v c : ℕ) (body p t : List ℕ) (u : RtrUnit) →
    input ≡ b ++ rest → HasAnyFields b (error_report v c body) → HasParts b p t →
    u ≡ with_parts (length p) (length t)
    (report_shown (length b) (version_field b) (session_field b)) →
    said u input ≡ Ok (session_form (error_report v c body))
report_again input b rest v c body p t u at has parts is =
    let w = version_field b in
    let e = session_field b in
    let few : length p + length t ≤ 65519 =
    omega (arith, has.fits, ap length has.bytes, ap length parts, size w e p t []) in
    ap (λ u. said u input) is
    ∙ ap (said (with_parts (length p) (length t) (report_shown (length b) w e)))
    (at ∙ ap (λ l. l ++ rest) parts)
    ∙ report_back w e p t rest (length b) few
    ∙ ap Ok (sym parts ∙ has.bytes)

-- ---- each

pub written_again : (input b rest : List ℕ) (f : AnyFields) (u : RtrUnit) → input ≡ b ++ rest →
    HasAnyFields b f → IsWrittenAgain b f → CallShows b f u → said u input ≡ Ok (session_form f)
unfolding session_said
written_again input b rest (serial_notify v s q) u at has again shown =
    ap (λ u. said u input) shown
written_again input b rest (serial_query v s q) u at has again shown =
    ap (λ u. said u input) shown
written_again input b rest (reset_query v s) u at has again shown = ap (λ u. said u input) shown
written_again input b rest (cache_response v s) u at has again shown =
    ap (λ u. said u input) shown
written_again input b rest (payload f) u at has again shown =
    ap (λ u. said u input) shown ∙ payload_again input b rest f at has again
written_again input b rest (end_of_data e) u at has again shown =
    ap (λ u. said u input) shown
    ∙ end_said_again (length b) e.version e.session e.serial e.timing input has.fits.timing
written_again input b rest (cache_reset v s) u at has again shown = ap (λ u. said u input) shown
written_again input b rest (error_report v c body) u at has (p, t, fit) shown = elim shown [
  | inl (q, s, parts, is) ↦ report_again input b rest v c body q s u at has parts is
  | inr (never, is) ↦ absurd (never p t fit)
]
