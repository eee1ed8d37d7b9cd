-- What is written of a unit is one unit, of which its fields are shown again.
use Rattle.std.proofs.Common.{◌≡◌, ◌≢◌, ◌⊎◌, inl, inr, ℕ, ◌+◌, ◌%◌, ◌≤◌, Bool, true, false, not}
use Rattle.std.proofs.Common.{cond, ltb, eqb, nat_le, List, [], length, drop, Option, Some, None}
use Rattle.std.proofs.Common.{Result, Ok, Err, refl, sym, ap, subst, ◌∙◌, arith, length-drop}
use Rattle.std.specs.Prelude.{◌==◌, ◌||◌}
use Rattle.std.proofs.lemmas.Bool.{ltb-false}
use Rattle.std.proofs.lemmas.Bool.Decides.{nat_tests}
use Rattle.std.proofs.lemmas.List.{length-take-le}
use Rattle.std.proofs.lemmas.Option.{cond_some}
use Rattle.rtr_base.specs.Addresses.{Family, v4, v6, width}
use Rattle.rtr_base.specs.Bytes.{IsBytes}
use Rattle.rtr_base.proofs.Numbers.{IsBytes-take, IsBytes-drop}
use Rattle.rtr_units.specs.End.{timed_list}
use Rattle.rtr_units.specs.PrefixUnits.{prefix_list}
use Rattle.rtr_units.specs.Queries.{bare_list, serial_list}
use Rattle.rtr_units.specs.Report.{report}
use Rattle.rtr_payload.specs.FirstFault.{broken_rule}
use Rattle.rtr_payload.specs.KeyUnits.{key_list}
use Rattle.rtr_payload.specs.Providers.{words_of}
use Rattle.rtr_payload.specs.declared.pdu.prefix_rule.PrefixRule.{PrefixRule}
use Rattle.rtr_c.proofs.Made.{Made, kept_by}
use Rattle.rtr_c.proofs.MadeEnd.{end_made}
use Rattle.rtr_c.proofs.MadePayload.{fields_of, cut, prefix_made, rule_kept, key_fields, key_made}
use Rattle.rtr_c.proofs.MadePayload.{withdrawn_made, announced_made}
use Rattle.rtr_c.proofs.MadePlain.{notify_made, query_made, response_made, reset_query_made}
use Rattle.rtr_c.proofs.MadePlain.{cache_reset_made}
use Rattle.rtr_c.proofs.MadeReport.{report_made}
use Rattle.rtr_c.specs.Kept.{IsShownAgain, prefix_kept, end_kept, key_kept}
use Rattle.rtr_c.specs.Kept.{aspa_kept, report_kept}
use Rattle.rtr_c.specs.Answers.{rtr_too_long, rtr_unit_length, rtr_empty_providers}
use Rattle.rtr_c.specs.PrivateRanges.{IsRanged}
use Rattle.rtr_c.specs.WrittenUnits.{said, session_said, piece_said, part_said, text_said}
use Rattle.rtr_c.specs.WrittenUnits.{prefix_said, key_said, aspa_said, aspa_form, end_said}
use Rattle.rtr_c.specs.WrittenUnits.{plain_said, report_said, unless_broken, timing_said}
use Rattle.rtr_c.specs.ShownUnits.{serial_shown, bare_shown}
use Rattle.rtr_c.specs.declared.unit.RtrUnit.{RtrUnit}

-- ---- what is known where something is written

same_ok : (a b : List ℕ) → ◌≡◌ {A = Result (List ℕ) ℕ} (Ok a) (Ok b) → a ≡ b
same_ok a b e = ap (value_of a) e
  where
    value_of : List ℕ → Result (List ℕ) ℕ → List ℕ
    value_of d (Ok x) = x
    value_of d (Err e) = d

never_ok : (e : ℕ) (b : List ℕ) → ◌≡◌ {A = Result (List ℕ) ℕ} (Err e) (Ok b) → ⊥
never_ok e b is = absurd cc

not_refused : (test : Bool) (e : ℕ) (x : Result (List ℕ) ℕ) (b : List ℕ) →
    cond test (Err e) x ≡ Ok b → (test ≡ false) × (x ≡ Ok b)
not_refused true e x b is = absurd (never_ok e b is)
not_refused false e x b is = (refl, is)

one_of : (test : Bool) (x y z : Result (List ℕ) ℕ) → cond test x y ≡ z →
    ((test ≡ true) × (x ≡ z)) ⊎ ((test ≡ false) × (y ≡ z))
one_of true x y z is = inl (refl, is)
one_of false x y z is = inr (refl, is)

is_zero : (n : ℕ) → eqb n 0 ≡ true → n ≡ 0
is_zero n e = grind (arith, nat_tests)

not_zero : (n : ℕ) → eqb n 0 ≡ false → n ≢ 0
not_zero n e = grind (arith, nat_tests)

one_alone : (n : ℕ) → ltb 1 n ≡ false → eqb n 0 ≡ false → n ≡ 1
one_alone n small some = grind (arith, nat_tests)

are_fours : (n : ℕ) → not (eqb (n % 4) 0) ≡ false → n % 4 ≡ 0
are_fours n e = grind (arith, nat_tests)

not_above : (m n : ℕ) → nat_le m n ≡ true → m ≤ n
not_above m n e = grind (arith, nat_tests)

neither : (x y : Bool) → (x || y) ≡ false → (x ≡ false) × (y ≡ false)
neither true y e = absurd cc
neither false y e = (refl, e)

-- a piece of an input of bytes
record IsPiece (size : ℕ) (piece : List ℕ) : Type 0 where
  length : length piece ≡ size
  bytes : IsBytes piece

piece_of : (start size : ℕ) (input piece : List ℕ) → IsBytes input →
    piece_said start size input ≡ Some piece → IsPiece size piece
piece_of start size input piece h is =
    let (within, same) = cond_some (nat_le (start + size) (length input)) _ _ is in
    let rest = length-drop start input in
    let fits = not_above (start + size) (length input) within in
    subst (IsPiece size) same (record {
      length = length-take-le size (drop start input) (omega (arith, rest, fits));
      bytes = IsBytes-take size (drop start input) (IsBytes-drop start input h);
    })

module _ (u : RtrUnit) (input b : List ℕ) (ranged : IsRanged u) (h : IsBytes input) where
  -- ---- units without a payload

  plain : (form : List ℕ) → plain_said u form ≡ Ok b → form ≡ b
  plain form is = same_ok form b (not_refused _ _ _ b is).1

  at_0 : u.kind ≡ 0 → said u input ≡ Ok b → IsShownAgain u input b
  unfolding session_said
  at_0 e is =
      let form = serial_list u.version 0 u.session u.serial in
      let same : said u input ≡ plain_said u form = rw e refl in
      subst (IsShownAgain u input) (plain form (sym same ∙ is))
      (kept_by form (serial_shown 0 12 u.version u.session u.serial) (Some []) (Some [])
      (notify_made u.version u.session ranged.version ranged.session u.serial ranged.serial) u input
      (rw e refl) (rw e refl) (rw e refl))

  at_1 : u.kind ≡ 1 → said u input ≡ Ok b → IsShownAgain u input b
  unfolding session_said
  at_1 e is =
      let form = serial_list u.version 1 u.session u.serial in
      let same : said u input ≡ plain_said u form = rw e refl in
      subst (IsShownAgain u input) (plain form (sym same ∙ is))
      (kept_by form (serial_shown 1 12 u.version u.session u.serial) (Some []) (Some [])
      (query_made u.version u.session ranged.version ranged.session u.serial ranged.serial) u input
      (rw e refl) (rw e refl) (rw e refl))

  at_2 : u.kind ≡ 2 → said u input ≡ Ok b → IsShownAgain u input b
  unfolding session_said
  at_2 e is =
      let form = bare_list u.version 2 0 in
      let same : said u input ≡ plain_said u form = rw e refl in
      subst (IsShownAgain u input) (plain form (sym same ∙ is))
      (kept_by form (bare_shown 2 8 u.version 0) (Some []) (Some [])
      (reset_query_made u.version ranged.version) u input (rw e refl) (rw e refl) (rw e refl))

  at_3 : u.kind ≡ 3 → said u input ≡ Ok b → IsShownAgain u input b
  unfolding session_said
  at_3 e is =
      let form = bare_list u.version 3 u.session in
      let same : said u input ≡ plain_said u form = rw e refl in
      subst (IsShownAgain u input) (plain form (sym same ∙ is))
      (kept_by form (bare_shown 3 8 u.version u.session) (Some []) (Some [])
      (response_made u.version u.session ranged.version ranged.session) u input (rw e refl)
      (rw e refl) (rw e refl))

  at_8 : u.kind ≡ 8 → said u input ≡ Ok b → IsShownAgain u input b
  unfolding session_said
  at_8 e is =
      let form = bare_list u.version 8 0 in
      let same : said u input ≡ plain_said u form = rw e refl in
      subst (IsShownAgain u input) (plain form (sym same ∙ is))
      (kept_by form (bare_shown 8 8 u.version 0) (Some []) (Some [])
      (cache_reset_made u.version ranged.version) u input (rw e refl) (rw e refl) (rw e refl))

  at_7 : u.kind ≡ 7 → said u input ≡ Ok b → IsShownAgain u input b
  at_7 e is =
      let form = timed_list u.version u.session u.serial (timing_said u) in
      let same : said u input ≡ end_said u = rw e refl in
      let (version, made) = not_refused _ _ _ b (not_refused _ _ _ b (sym same ∙ is)).1 in
      subst (IsShownAgain u input) (same_ok form b made)
      (kept_by form (end_kept u) (Some []) (Some [])
      (end_made u ranged (ltb-false 2 u.version version)) u input (rw e refl) (rw e refl)
      (rw e refl))

  -- ---- payload units

  unbroken : (o : Option PrefixRule) (form : List ℕ) → unless_broken o form ≡ Ok b →
      (o ≡ None) × (form ≡ b)
  unbroken None form is = (refl, same_ok form b is)
  unbroken (Some rule) form is = absurd (never_ok _ b is)

  module _ (f : Family) where
    abbrev prefix_form : List ℕ
    prefix_form = prefix_list (fields_of f u (cut f u))

    prefix_is : prefix_said f u ≡ Ok b →
        Made prefix_form (prefix_kept f u) (Some []) (Some []) × (prefix_form ≡ b)
    prefix_is is =
        let (tests, made) = not_refused _ _ _ b is in
        let (none, same) = unbroken (broken_rule (width f) u.prefix_length u.max_length) _ made in
        let one : u.action ≤ 1 = ltb-false 1 u.action (neither _ _ tests).0 in
        let order = rule_kept (width f) u.prefix_length u.max_length none in
        (prefix_made f u ranged one order, same)

  at_4 : u.kind ≡ 4 → said u input ≡ Ok b → IsShownAgain u input b
  at_4 e is =
      let same : said u input ≡ prefix_said v4 u = rw e refl in
      let (made, whole) = prefix_is v4 (sym same ∙ is) in
      subst (IsShownAgain u input) whole
      (kept_by (prefix_form v4) (prefix_kept v4 u) (Some []) (Some []) made u input (rw e refl)
      (rw e refl) (rw e refl))

  at_6 : u.kind ≡ 6 → said u input ≡ Ok b → IsShownAgain u input b
  at_6 e is =
      let same : said u input ≡ prefix_said v6 u = rw e refl in
      let (made, whole) = prefix_is v6 (sym same ∙ is) in
      subst (IsShownAgain u input) whole
      (kept_by (prefix_form v6) (prefix_kept v6 u) (Some []) (Some []) made u input (rw e refl)
      (rw e refl) (rw e refl))

  key_is : (o : Option (List ℕ)) → part_said u input ≡ o → key_said u o ≡ Ok b → u.kind ≡ 9 →
      IsShownAgain u input b
  key_is None part is e = absurd (never_ok _ b is)
  key_is (Some info) part is e =
      let (one, rest) = not_refused _ _ _ b is in
      let (few, made) = not_refused _ _ _ b rest in
      let piece = piece_of u.part_start u.part_length input info h part in
      subst (IsShownAgain u input) (same_ok (key_list (key_fields u info)) b made)
      (kept_by (key_list (key_fields u info)) (key_kept u) (Some info) (Some [])
      (key_made u info ranged (ltb-false 1 u.action one) piece.length
      (ltb-false 65503 (length info) few) piece.bytes) u input (rw e refl) (rw e (sym part))
      (rw e refl))

  at_9 : u.kind ≡ 9 → said u input ≡ Ok b → IsShownAgain u input b
  at_9 e is =
      let same : said u input ≡ key_said u (part_said u input) = rw e refl in
      key_is (part_said u input) refl (sym same ∙ is) e

  -- what is said of an announced ASPA
  abbrev announced : List ℕ → Result (List ℕ) ℕ
  announced ps =
      cond (ltb 65520 (length ps)) (Err rtr_too_long)
      (cond (not (eqb (length ps % 4) 0)) (Err rtr_unit_length)
      (cond (eqb (length ps) 0) (Err rtr_empty_providers) (Ok (aspa_form u (words_of ps)))))

  aspa_is : (o : Option (List ℕ)) → part_said u input ≡ o → aspa_said u o ≡ Ok b →
      u.kind ≡ 11 → IsShownAgain u input b
  aspa_is None part is e = absurd (never_ok _ b is)
  aspa_is (Some ps) part is e =
      let (one, rest) = not_refused _ _ _ b is in
      elim (one_of (eqb u.action 0) (Ok (aspa_form u [])) (announced ps) (Ok b) rest) [
        | inl (zero, made) ↦
            let none = is_zero u.action zero in
            subst (IsShownAgain u input) (same_ok (aspa_form u []) b made)
            (kept_by (aspa_form u []) (aspa_kept 0 u) (Some []) (Some [])
            (withdrawn_made u ranged none) u input (rw (e, none) refl) (rw (e, none) refl)
            (rw e refl))
        | inr (some, more) ↦
            let (few, more) = not_refused _ _ _ b more in
            let (fours, more) = not_refused _ _ _ b more in
            let (named, made) = not_refused _ _ _ b more in
            let act = one_alone u.action one some in
            let piece = piece_of u.part_start u.part_length input ps h part in
            subst (IsShownAgain u input) (same_ok (aspa_form u (words_of ps)) b made)
            (kept_by (aspa_form u (words_of ps)) (aspa_kept u.part_length u) (Some ps) (Some [])
            (announced_made u ps ranged act piece.bytes (ltb-false 65520 (length ps) few)
            (are_fours (length ps) fours) (not_zero (length ps) named) piece.length) u input
            (rw (e, act) refl) (rw (e, act) (sym part)) (rw e refl))
      ]

  at_11 : u.kind ≡ 11 → said u input ≡ Ok b → IsShownAgain u input b
  at_11 e is =
      let same : said u input ≡ aspa_said u (part_said u input) = rw e refl in
      aspa_is (part_said u input) refl (sym same ∙ is) e

  -- ---- error reports

  report_is : (o q : Option (List ℕ)) → part_said u input ≡ o → text_said u input ≡ q →
      report_said u o q ≡ Ok b → u.kind ≡ 10 → IsShownAgain u input b
  report_is None q part text is e = absurd (never_ok _ b is)
  report_is (Some p) None part text is e = absurd (never_ok _ b is)
  report_is (Some p) (Some t) part text is e =
      let (few, made) = not_refused _ _ _ b (not_refused _ _ _ b is).1 in
      let form = report u.version u.code p t in
      let unit = piece_of u.part_start u.part_length input p h part in
      let rest = piece_of u.text_start u.text_length input t h text in
      subst (IsShownAgain u input) (same_ok form b made)
      (kept_by form (report_kept u) (Some p) (Some t)
      (report_made u p t ranged unit.bytes rest.bytes
      (ltb-false 65519 (length p + length t) few) unit.length rest.length) u input (rw e refl)
      (rw e (sym part)) (rw e (sym text)))

  at_10 : u.kind ≡ 10 → said u input ≡ Ok b → IsShownAgain u input b
  unfolding session_said
  at_10 e is =
      let same : said u input ≡ report_said u (part_said u input) (text_said u input) =
      rw e refl in
      report_is (part_said u input) (text_said u input) refl refl (sym same ∙ is) e

  -- ---- each

  kinds : (k : ℕ) (p4 p6 p7 p9 p11 p0 p1 p2 p3 p8 p10 : Result (List ℕ) ℕ) →
      cond (k == 4) p4 (cond (k == 6) p6 (cond (k == 7) p7 (cond (k == 9) p9 (cond (k == 11) p11
      (cond (k == 0) p0 (cond (k == 1) p1 (cond (k == 2) p2 (cond (k == 3) p3
      (cond (k == 8) p8 (cond (k == 10) p10 (Err 2))))))))))) ≡ Ok b →
      (k ≡ 4)
      ⊎ ((k ≡ 6)
      ⊎ ((k ≡ 7)
      ⊎ ((k ≡ 9)
      ⊎ ((k ≡ 11)
      ⊎ ((k ≡ 0) ⊎ ((k ≡ 1) ⊎ ((k ≡ 2) ⊎ ((k ≡ 3) ⊎ ((k ≡ 8) ⊎ (k ≡ 10))))))))))
  kinds k p4 p6 p7 p9 p11 p0 p1 p2 p3 p8 p10 is = grind (arith, nat_tests)

  pub kept_is : said u input ≡ Ok b → IsShownAgain u input b
  unfolding session_said
  kept_is is = elim (kinds u.kind _ _ _ _ _ _ _ _ _ _ _ is) [
    | inl e ↦ at_4 e is
    | inr (inl e) ↦ at_6 e is
    | inr (inr (inl e)) ↦ at_7 e is
    | inr (inr (inr (inl e))) ↦ at_9 e is
    | inr (inr (inr (inr (inl e)))) ↦ at_11 e is
    | inr (inr (inr (inr (inr (inl e))))) ↦ at_0 e is
    | inr (inr (inr (inr (inr (inr (inl e)))))) ↦ at_1 e is
    | inr (inr (inr (inr (inr (inr (inr (inl e))))))) ↦ at_2 e is
    | inr (inr (inr (inr (inr (inr (inr (inr (inl e)))))))) ↦ at_3 e is
    | inr (inr (inr (inr (inr (inr (inr (inr (inr (inl e))))))))) ↦ at_8 e is
    | inr (inr (inr (inr (inr (inr (inr (inr (inr (inr e))))))))) ↦ at_10 e is
  ]
