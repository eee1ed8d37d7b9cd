-- What holds of quotes of which some were looked at.
use Rattle.std.proofs.Common.{◌≡◌, ℕ, ◌+◌, ◌<◌, ◌≤◌, ◌⊎◌, ◌==◌, ◌||◌, Bool, true, false}
use Rattle.std.proofs.Common.{not, cond, inl, inr, List, [], ◌∷◌, ◌++◌, take, length, get_or}
use Rattle.std.proofs.Common.{refl, sym, ap, subst, ◌∙◌, arith}
use Rattle.std.proofs.Math.Nat.{eq-or-lt_of_le}
use Rattle.std.proofs.lemmas.Bool.{eqb-true}
use Rattle.std.proofs.lemmas.List.{take_all, take_more}
use Rattle.make_work.specs.CsvQuotes.{AreQuotesWell, FitUpTo, IsFirstAtFault, may_come, fits_after}
use Rattle.make_work.specs.CsvQuotes.{RefusesQuotes, is_closed, last_byte, quote}
use Rattle.make_work.specs.declared.item.Reason.TheVariants.{QuoteInside, TextAfterQuote}

swap : (s t k : Bool) →
    cond s (not (cond t (not k) k)) (cond t (not k) k)
    ≡ cond t (not (cond s (not k) k)) (cond s (not k) k)
swap true true k = refl
swap true false k = refl
swap false true k = refl
swap false false k = refl

-- one more byte
closed_more : (xs : List ℕ) (c : ℕ) →
    is_closed (xs ++ c ∷ []) ≡ cond (c == quote) (not (is_closed xs)) (is_closed xs)
unfolding is_closed
closed_more [] c = refl
closed_more (x ∷ xs) c =
    ap (λ b. cond (x == quote) (not b) b) (closed_more xs c)
    ∙ swap (x == quote) (c == quote) (is_closed xs)

last_more : (xs : List ℕ) (c : ℕ) → last_byte (xs ++ c ∷ []) ≡ c
unfolding last_byte
last_more [] c = refl
last_more (x ∷ []) c = refl
last_more (x ∷ y ∷ ys) c = last_more (y ∷ ys) c

-- What is known after the first bytes: none is at fault, whether no field in quotes is open, and
-- which was the last.
pub record LookedAt (text : List ℕ) (i : ℕ) (closed : Bool) (before : ℕ) : Type 0 where
  pub fit : FitUpTo i text
  pub closed_now : closed ≡ is_closed (take i text)
  pub last : before ≡ last_byte (take i text)

module _ (text : List ℕ) where
  pub none_yet : LookedAt text 0 true 44
  unfolding is_closed last_byte
  none_yet = record {
    fit = λ i h. absurd (omega (arith, h));
    closed_now = refl;
    last = refl;
  }

  module _ (i : ℕ) (closed : Bool) (before c : ℕ) (small : i < length text)
      (is : c ≡ get_or text i 0) (s : LookedAt text i closed before) where
    more : take (i + 1) text ≡ take i text ++ c ∷ []
    more = take_more text i 0 small ∙ ap (λ d. take i text ++ d ∷ []) (sym is)

    tested : may_come (take i text) (get_or text i 0) ≡ (not closed || fits_after before c)
    tested =
        ap (λ d. may_come (take i text) d) (sym is)
        ∙ ap (λ k. not k || fits_after (last_byte (take i text)) c) (sym s.closed_now)
        ∙ ap (λ p. not closed || fits_after p c) (sym s.last)

    fit_at : (j : ℕ) → may_come (take i text) (get_or text i 0) ≡ true →
        (j ≡ i) ⊎ (j < i) → may_come (take j text) (get_or text j 0) ≡ true
    fit_at j h (inl e) = subst (λ k. may_come (take k text) (get_or text k 0) ≡ true) (sym e) h
    fit_at j h (inr less) = s.fit j less

    pub looked : (not closed || fits_after before c) ≡ true →
        LookedAt text (i + 1) (cond (c == quote) (not closed) closed) c
    looked e = record {
      fit = λ j h. fit_at j (tested ∙ e)
          (eq-or-lt_of_le (omega (arith, h)));
      closed_now = ap (λ k. cond (c == quote) (not k) k) s.closed_now
          ∙ sym (ap is_closed more ∙ closed_more (take i text) c);
      last = sym (ap last_byte more ∙ last_more (take i text) c);
    }

    pub faulty : (not closed || fits_after before c) ≡ false → IsFirstAtFault text i
    faulty e = record {
      inside = small;
      fit = s.fit;
      fault = tested ∙ e;
    }

  all : (i : ℕ) → length text ≤ i → take i text ≡ text
  all i h = take_all i text h

  pub well : (i before : ℕ) → length text ≤ i → LookedAt text i true before →
      AreQuotesWell text
  well i before large s = record {
    fit = λ j h. s.fit j (omega (arith, h, large));
    closed = ap is_closed (sym (all i large)) ∙ sym s.closed_now;
  }

  pub open_quote : (i before : ℕ) → length text ≤ i → LookedAt text i false before →
      FitUpTo (length text) text × (is_closed text ≡ false)
  open_quote i before large s = (
    λ j h. s.fit j (omega (arith, h, large)),
    ap is_closed (sym (all i large)) ∙ sym s.closed_now,
  )

not_false : false ≡ true → ⊥
not_false e = absurd cc

pub refused_by : (text : List ℕ) (i c : ℕ) (b : Bool) → c ≡ get_or text i 0 → (c == quote) ≡ b →
    IsFirstAtFault text i → RefusesQuotes text (cond b QuoteInside TextAfterQuote)
refused_by text i c true here e f = (i, f, sym here ∙ eqb-true c quote e)
refused_by text i c false here e f =
    (i, f, λ h. not_false (sym e ∙ ap (λ d. d == quote) (here ∙ h)))
