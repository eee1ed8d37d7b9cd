-- What is left to ignore of words of which some were looked at.
use Rattle.std.proofs.Common.{◌≡◌, ℕ, ◌+◌, ◌<◌, ◌≤◌, ◌||◌, ◌&&◌, Bool, true, false, not, cond, suc}
use Rattle.std.proofs.Common.{List, [], ◌∷◌, map, length, drop, get_or, codes, String, string_bytes}
use Rattle.std.proofs.Common.{bytes_eq, drop-cons, refl, sym, ap, ◌∙◌, arith}
use Rattle.std.proofs.Math.ListN.{drop_of_length-le}
use Rattle.make_work.specs.MakeWords.{ignored_by_words, is_one_of, names_ignored}

-- the names in the rest of the words, of which the first is one where it follows an `--ignore`
abbrev pub ignored_from : Bool → List (List ℕ) → List (List ℕ)
ignored_from true [] = []
ignored_from true (text ∷ rest) = text ∷ names_ignored rest
ignored_from false words = names_ignored words

either : (b : Bool) (text : List ℕ) (rest : List (List ℕ)) →
    cond b (text ∷ names_ignored rest) (names_ignored (text ∷ rest)) ≡ ignored_from b (text ∷ rest)
either true text rest = refl
either false text rest = refl

none : (b : Bool) → [] ≡ ignored_from b []
none true = refl
none false = refl

-- after a word that isn't the name
one_more : (named : Bool) (word name : List ℕ) (rest : List (List ℕ)) →
    (named && bytes_eq word name) ≡ false →
    is_one_of (ignored_from (not named && bytes_eq word (codes "--ignore")) rest) name
    ≡ is_one_of (ignored_from named (word ∷ rest)) name
one_more true word name rest e = ap (λ b. b || is_one_of (names_ignored rest) name) (sym e)
one_more false word name [] e =
    ap (λ l. is_one_of l name) (sym (none (bytes_eq word (codes "--ignore"))))
one_more false word name (text ∷ rest) e =
    ap (λ l. is_one_of l name) (sym (either (bytes_eq word (codes "--ignore")) text rest))

-- the name itself
here : (named : Bool) (word name : List ℕ) (rest : List (List ℕ)) →
    (named && bytes_eq word name) ≡ true → is_one_of (ignored_from named (word ∷ rest)) name ≡ true
here true word name rest e = ap (λ b. b || is_one_of (names_ignored rest) name) e
here false word name rest e = absurd cc

module _ {Z : Type 0} (words : List (String Z)) (name : List ℕ) where
  -- the words so far don't have the name, but for what the rest has
  pub record NotYet (i : ℕ) (named : Bool) : Type 0 where
    pub left : is_one_of (ignored_from named (map string_bytes (drop i words))) name
        ≡ is_one_of (ignored_by_words words) name

  pub starts : NotYet 0 false
  starts = record { left = refl }

  left_at : (i : ℕ) (x : String Z) → i < length words → x ≡ get_or words i x →
      drop i words ≡ x ∷ drop (i + 1) words
  left_at i x small is =
      let next : suc i ≡ i + 1 = omega arith in
      drop-cons words i x small ∙ ap (λ y. y ∷ drop (suc i) words) (sym is)
      ∙ ap (λ j. x ∷ drop j words) next

  pub found : (i : ℕ) (x : String Z) (named : Bool) → i < length words →
      x ≡ get_or words i x → (named && bytes_eq (string_bytes x) name) ≡ true →
      NotYet i named → true ≡ is_one_of (ignored_by_words words) name
  found i x named small is e s =
      sym (here named (string_bytes x) name (map string_bytes (drop (i + 1) words)) e)
      ∙ ap (λ l. is_one_of (ignored_from named (map string_bytes l)) name)
      (sym (left_at i x small is)) ∙ s.left

  pub passed : (i : ℕ) (x : String Z) (named : Bool) → i < length words →
      x ≡ get_or words i x → (named && bytes_eq (string_bytes x) name) ≡ false →
      NotYet i named → NotYet (i + 1) (not named && bytes_eq (string_bytes x) (codes "--ignore"))
  passed i x named small is e s = record {
    left = one_more named (string_bytes x) name (map string_bytes (drop (i + 1) words)) e
        ∙ ap (λ l. is_one_of (ignored_from named (map string_bytes l)) name)
        (sym (left_at i x small is)) ∙ s.left;
  }

  pub ends : (i : ℕ) (named : Bool) → length words ≤ i → NotYet i named →
      false ≡ is_one_of (ignored_by_words words) name
  ends i named large s =
      ap (λ l. is_one_of l name) (none named)
      ∙ ap (λ l. is_one_of (ignored_from named (map string_bytes l)) name)
      (sym (drop_of_length-le words large)) ∙ s.left
