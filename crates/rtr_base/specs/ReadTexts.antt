-- Which texts are read as which values, and why others are refused: this library's own.
use Rattle.std.specs.Prelude.{◌≡◌, ◌≢◌, ℕ, ◌<◌, ◌≤◌, ◌⊎◌, List, ◌∷◌, ◌++◌, length, get_or, codes}
use Rattle.std.specs.Prelude.{Option, Some, None, Result, Ok, MatchResult}
use Rattle.std.specs.List.{AllPass}
use Rattle.std.specs.declared.net.ip_addr.IpAddr.{IpAddr}
use Rattle.std.specs.Net.Grammar.{IsIpText}
use Rattle.hex.specs.Hex.{decode_sized, is_hex_digit}
use Rattle.rtr_base.specs.Addresses.{PrefixParts, MaxLenParts, IsPrefix, IsMaxLenPrefix}
use Rattle.rtr_base.specs.Addresses.{prefix_of_address}
use Rattle.rtr_base.specs.Addresses.{BreaksPrefix, BreaksMaxLen}
use Rattle.rtr_base.specs.Numerals.{IsNumeral, IsSerialText}
use Rattle.rtr_base.specs.declared.parse.ParseAsnError.{ParseAsnError}
use Rattle.rtr_base.specs.declared.parse.ParsePrefixError.{ParsePrefixError}
use Rattle.rtr_base.specs.declared.parse.ParsePrefixError.TheVariants as prefixes
use Rattle.rtr_base.specs.declared.parse.ParseMaxLenPrefixError.{ParseMaxLenPrefixError}
use Rattle.rtr_base.specs.declared.parse.ParseMaxLenPrefixError.TheVariants as max_lens
use Rattle.rtr_base.specs.declared.parse.ParseKeyIdentifierError.{ParseKeyIdentifierError}
use Rattle.rtr_base.specs.declared.parse.ParseKeyIdentifierError.TheVariants as keys

-- ---- numbers of autonomous systems

-- AS or as before a number of 32 bits, or that number alone
pub record IsAsnText (text : List ℕ) (n : ℕ) : Type 0 where
  pub digits : List ℕ
  pub form : (text ≡ codes "AS" ++ digits) ⊎ ((text ≡ codes "as" ++ digits) ⊎ (text ≡ digits))
  pub number : IsSerialText digits n

abbrev pub ParsesAsn : List ℕ → Result ℕ ParseAsnError → Type 0
ParsesAsn text r = MatchResult r (IsAsnText text) (λ _. (n : ℕ) → ¬ IsAsnText text n)

-- ---- prefixes

-- the text is front, the character c, which front lacks, and back
pub record SplitsAt (c : ℕ) (text front back : List ℕ) : Type 0 where
  pub parts : text ≡ front ++ (c ∷ back)
  pub first : (i : ℕ) → i < length front → get_or front i 0 ≢ c

abbrev pub Lacks : ℕ → List ℕ → Type 0
Lacks c text = (i : ℕ) → i < length text → get_or text i 0 ≢ c

-- a prefix length or a max length, as Rust's `u8::from_str` reads it
pub record IsLenText (text : List ℕ) (n : ℕ) : Type 0 where
  pub numeral : IsNumeral text n
  pub fits : n ≤ 255

-- an address as std reads it, a slash and a length
pub record IsAddressAndLen (text : List ℕ) (p : PrefixParts) : Type 0 where
  pub front : List ℕ
  pub back : List ℕ
  pub split : SplitsAt 47 text front back
  pub ip : IpAddr
  pub address : IsIpText front ip
  pub len : IsLenText back p.len
  pub value : p ≡ prefix_of_address ip p.len

-- they are a prefix
pub record IsPrefixText (text : List ℕ) (p : PrefixParts) : Type 0 where
  pub form : IsAddressAndLen text p
  pub valid : IsPrefix p

-- why a text is no prefix: the slash is missing, no address stands before the first slash, no
-- length after it, or the two are no prefix; the first that holds is the answer
abbrev pub RefusesPrefix : List ℕ → ParsePrefixError → Type 0
RefusesPrefix text prefixes.MissingLen = Lacks 47 text
RefusesPrefix text (prefixes.Addr e) = (front back : List ℕ) × SplitsAt 47 text front back
    × ((a : IpAddr) → ¬ IsIpText front a)
RefusesPrefix text (prefixes.Len e) = (front back : List ℕ) × SplitsAt 47 text front back
    × ((a : IpAddr) × IsIpText front a) × ((n : ℕ) → ¬ IsLenText back n)
RefusesPrefix text (prefixes.Prefix e) =
    (p : PrefixParts) × IsAddressAndLen text p × BreaksPrefix p e

abbrev pub ParsesPrefix : List ℕ → Result PrefixParts ParsePrefixError → Type 0
ParsesPrefix text r = MatchResult r (IsPrefixText text) (RefusesPrefix text)

-- ---- prefixes with a max length

-- without a dash the prefix alone, and else a prefix, the first dash and a max length
abbrev pub MaxLenTextBy : List ℕ → PrefixParts → Option ℕ → Type 0
MaxLenTextBy text p None = Lacks 45 text × IsPrefixText text p
MaxLenTextBy text p (Some x) = (front back : List ℕ) × SplitsAt 45 text front back
    × IsPrefixText front p × IsLenText back x

-- they go together
pub record IsMaxLenText (text : List ℕ) (p : MaxLenParts) : Type 0 where
  pub form : MaxLenTextBy text p.prefix p.max_len
  pub valid : IsMaxLenPrefix p

-- why a text is no prefix with a max length: the prefix is none, no max length stands after the
-- first dash, or it doesn't go with the prefix; the first that holds is the answer
abbrev pub RefusesMaxLen : List ℕ → ParseMaxLenPrefixError → Type 0
RefusesMaxLen text (max_lens.Prefix e) = (Lacks 45 text × RefusesPrefix text e)
    ⊎ ((front back : List ℕ) × SplitsAt 45 text front back × RefusesPrefix front e)
RefusesMaxLen text (max_lens.MaxLen e) = (front back : List ℕ) × SplitsAt 45 text front back
    × ((p : PrefixParts) × IsPrefixText front p) × ((n : ℕ) → ¬ IsLenText back n)
RefusesMaxLen text (max_lens.Value e) = (p : PrefixParts) × (x : ℕ)
    × MaxLenTextBy text p (Some x) × BreaksMaxLen p x e

abbrev pub ParsesMaxLen : List ℕ → Result MaxLenParts ParseMaxLenPrefixError → Type 0
ParsesMaxLen text r = MatchResult r (IsMaxLenText text) (RefusesMaxLen text)

-- ---- identifiers of keys

-- why a text is no identifier: it has not 40 bytes, or one of them is no hex digit
abbrev pub RefusesKey : List ℕ → ParseKeyIdentifierError → Type 0
RefusesKey text keys.Length = length text ≢ 40
RefusesKey text keys.Digit = (length text ≡ 40) × ¬ AllPass is_hex_digit text

-- 40 hex digits in either case
abbrev pub ParsesKey : List ℕ → Result (List ℕ) ParseKeyIdentifierError → Type 0
ParsesKey text r = MatchResult r (λ bytes. decode_sized text 20 ≡ Ok bytes) (RefusesKey text)
