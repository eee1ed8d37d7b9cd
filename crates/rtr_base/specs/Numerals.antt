-- Texts that are numbers, as Rust's `u32::from_str` reads them: an optional plus, then at least one
-- decimal digit.
use Rattle.std.specs.Prelude.{◌≡◌, ℕ, ◌+◌, ◌*◌, ◌-◌, ◌≤◌, ◌<◌, ◌⊎◌, List, [], ◌∷◌, length}
use Rattle.std.specs.List.{AllByRecursion}

-- the characters 0 to 9
abbrev pub IsDigit : ℕ → Type 0
IsDigit c = (48 ≤ c) × (c ≤ 57)

-- the number that digits write when they follow those of n
abbrev pub number_after : ℕ → List ℕ → ℕ
number_after n [] = n
number_after n (c ∷ cs) = number_after (n * 10 + (c - 48)) cs

-- the text is this number. Zeros may lead
pub record IsNumeral (text : List ℕ) (n : ℕ) : Type 0 where
  pub digits : List ℕ
  pub form : (text ≡ 43 ∷ digits) ⊎ (text ≡ digits)
  pub some : 0 < length digits
  pub all : AllByRecursion IsDigit digits
  pub number : number_after 0 digits ≡ n

-- the text is a serial number
pub record IsSerialText (text : List ℕ) (n : ℕ) : Type 0 where
  pub numeral : IsNumeral text n
  pub fits : n ≤ 4294967295
