-- What std reads as a number is what this crate calls a numeral.
use Rattle.std.proofs.Common.{◌≡◌, ℕ, ◌<◌, ◌^◌, List, [], ◌∷◌, drop, get_or, Result, Ok, Err, refl}
use Rattle.std.proofs.Common.{sym, inl, inr, arith, subst}
use Rattle.std.specs.List.{AllByRecursion}
use Rattle.std.specs.Str.Parse.{ParsesUnsigned}
use Rattle.std.proofs.lemmas.Str.Parse.{IsDigitsTest, FoldsDigits, IsNumeralModel, numerals_by_fold}
use Rattle.std.proofs.lemmas.Str.Parse.{not_in_digits, parse_plus, parse_plain}
use Rattle.std.proofs.lemmas.Bool.{cases_eq}
use Rattle.rtr_base.specs.Numerals.{IsDigit, number_after, IsNumeral, IsSerialText}
use Rattle.rtr_base.specs.ReadTexts.{IsLenText}

pub own : IsNumeralModel (AllByRecursion IsDigit) (number_after 0)
own = numerals_by_fold _ tells number_after folds
  where
    tells : IsDigitsTest (AllByRecursion IsDigit)
    tells = record { empty = tt; parts = λ c cs h. h; more = λ c cs h hs. (h, hs) }

    folds : FoldsDigits number_after
    folds = record { empty = λ n. refl; more = λ n c cs h. refl }

plus_first : (text : List ℕ) → get_or text 0 0 ≡ 43 → text ≡ 43 ∷ drop 1 text
plus_first [] e = absurd (omega arith)
plus_first (c ∷ cs) e = λ i. e i ∷ cs

-- what std answers at k bits says nothing of its error here
abbrev Reads : ℕ → List ℕ → Result ℕ (Unit {0}) → Type 0
Reads k text r = ParsesUnsigned k 10 text r

reads : (k : ℕ) (text : List ℕ) (n : ℕ) → Reads k text (Ok n) → IsNumeral text n × (n < 2 ^ k)
reads k text n h =
    elim (cases_eq (get_or text 0 0) 43) [
      | inl e ↦
          let p = parse_plus own {E = Unit {0}} k text (Ok n) h e in (
            record {
              digits = drop 1 text;
              form = inl (plus_first text e);
              some = p.0.1;
              all = p.0.0;
              number = sym p.1;
            },
            subst (λ m. m < 2 ^ k) (sym p.1) p.0.2,
          )
      | inr e ↦
          let p = parse_plain own {E = Unit {0}} k text (Ok n) h e in (
            record { digits = text; form = inr refl; some = p.0.1; all = p.0.0; number = sym p.1 },
            subst (λ m. m < 2 ^ k) (sym p.1) p.0.2,
          )
    ]

refuses : (k : ℕ) (text : List ℕ) → Reads k text (Err (tt {0})) → (n : ℕ) → n < 2 ^ k →
    ¬ (IsNumeral text n)
refuses k text h n fits m =
    let small : number_after 0 m.digits < 2 ^ k = subst (λ v. v < 2 ^ k) (sym m.number) fits in
    elim m.form [
      | inl f ↦
          parse_plus own {E = Unit {0}} k (43 ∷ m.digits) (Err (tt {0}))
          (subst (λ (bs : List ℕ). Reads k bs (Err (tt {0}))) f h) refl (m.all, m.some, small)
      | inr f ↦
          let first = not_in_digits own m.digits 43 m.all (λ r. omega (arith, r)) 0 m.some in
          parse_plain own {E = Unit {0}} k m.digits (Err (tt {0}))
          (subst (λ (bs : List ℕ). Reads k bs (Err (tt {0}))) f h) first (m.all, m.some, small)
    ]

-- numbers of 32 bits
pub reads_number : (text : List ℕ) (n : ℕ) → Reads 32 text (Ok n) → IsSerialText text n
reads_number text n h =
    let p = reads 32 text n h in
    record { numeral = p.0; fits = omega (arith, p.1) }

pub refuses_others : (text : List ℕ) → Reads 32 text (Err (tt {0})) → (n : ℕ) →
    ¬ (IsSerialText text n)
refuses_others text h n t = refuses 32 text h n (omega (arith, t.fits)) t.numeral

-- lengths, of 8 bits
pub reads_len : (text : List ℕ) (n : ℕ) → Reads 8 text (Ok n) → IsLenText text n
reads_len text n h = let p = reads 8 text n h in record { numeral = p.0; fits = omega (arith, p.1) }

pub refuses_len : (text : List ℕ) → Reads 8 text (Err (tt {0})) → (n : ℕ) → ¬ (IsLenText text n)
refuses_len text h n t = refuses 8 text h n (omega (arith, t.fits)) t.numeral
