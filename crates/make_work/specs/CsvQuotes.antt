-- Where quotes stand in comma-separated values, by RFC 4180 section 2: a field that begins with one
-- ends with one (rule 5), it may hold separators (rule 6), and in it two stand for one (rule 7); in
-- other fields there is none (rule 5). A field in quotes is open where an odd number of quotes came
-- before.
use Rattle.std.specs.Prelude.{◌≡◌, ◌≢◌, ℕ, ◌<◌, ◌==◌, ◌||◌, Bool, true, false, not}
use Rattle.std.specs.Prelude.{List, [], ◌∷◌, take, length, get_or, if◌then◌else◌}
use Rattle.make_work.specs.declared.item.Reason.{Reason}
use Rattle.make_work.specs.declared.item.Reason.TheVariants.{OpenQuote, QuoteInside, TextAfterQuote}

abbrev pub quote : ℕ
quote = 34

-- a comma, CR or LF
abbrev pub is_separator : ℕ → Bool
is_separator c = (c == 44) || ((c == 13) || (c == 10))

-- the number of quotes is even: no field in quotes is open
unfoldable pub is_closed : List ℕ → Bool
is_closed [] = true
is_closed (c ∷ cs) = if c == quote then not (is_closed cs) else is_closed cs

-- the last byte, and a separator before the first
unfoldable pub last_byte : List ℕ → ℕ
last_byte [] = 44
last_byte (c ∷ []) = c
last_byte (c ∷ d ∷ cs) = last_byte (d ∷ cs)

-- Whether a byte may come after this one where no field in quotes is open: a quote only at the
-- start of a field or as the second of two, and after a quote only a separator or another quote.
abbrev pub fits_after : ℕ → ℕ → Bool
fits_after before c =
    if c == quote then (before == quote) || is_separator before
    else not (before == quote) || is_separator c

-- whether a byte may come after all these
abbrev pub may_come : List ℕ → ℕ → Bool
may_come before c = not (is_closed before) || fits_after (last_byte before) c

-- each of the first n bytes may come where it does
abbrev pub FitUpTo : ℕ → List ℕ → Type 0
FitUpTo n text = (i : ℕ) → i < n → may_come (take i text) (get_or text i 0) ≡ true

-- all quotes stand where they may, and the last field is closed
pub record AreQuotesWell (text : List ℕ) : Type 0 where
  pub fit : FitUpTo (length text) text
  pub closed : is_closed text ≡ true

-- the first byte that may not come where it does
pub record IsFirstAtFault (text : List ℕ) (i : ℕ) : Type 0 where
  pub inside : i < length text
  pub fit : FitUpTo i text
  pub fault : may_come (take i text) (get_or text i 0) ≡ false

-- why quotes are refused: the first byte at fault, else that the last field isn't closed
abbrev pub RefusesQuotes : List ℕ → Reason → Type 0
RefusesQuotes text QuoteInside = (i : ℕ) × IsFirstAtFault text i × (get_or text i 0 ≡ quote)
RefusesQuotes text TextAfterQuote = (i : ℕ) × IsFirstAtFault text i × (get_or text i 0 ≢ quote)
RefusesQuotes text OpenQuote = FitUpTo (length text) text × (is_closed text ≡ false)
RefusesQuotes text other = ⊥
