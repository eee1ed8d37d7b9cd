-- Which lines are read as which routes, and why others are refused: this program's own.
use Rattle.std.specs.Prelude.{◌≡◌, ◌⊎◌, ℕ, zero, suc, ◌<◌, List, [], ◌∷◌, ◌++◌, length}
use Rattle.std.specs.Prelude.{Bool, Option, Some, None, MatchOption, Result, MatchResult}
use Rattle.std.specs.Bool.{MatchBool}
use Rattle.std.specs.Char.{is_ascii_whitespace}
use Rattle.std.specs.List.{AllPass}
use Rattle.std.specs.Str.{IsUtf8, NoCharPasses}
use Rattle.std.specs.Str.Iter.{IsAsciiSeparator}
use Rattle.rtr_base.specs.Addresses.{PrefixParts}
use Rattle.rtr_base.specs.ReadTexts.{IsAsnText, IsPrefixText, Lacks, RefusesPrefix, SplitsAt}
use Rattle.validate_work.specs.declared.route_text.RouteError.{RouteError}
use Rattle.validate_work.specs.declared.route_text.RouteError.TheVariants as errors
use Rattle.validate_work.specs.declared.route_text.TableRoute.{TableRoute}

-- ---- origins

abbrev pub IsAnyAsn : List ℕ → Type 0
IsAnyAsn text = (n : ℕ) × IsAsnText text n

-- numbers of ASes, with this many commas between them
abbrev pub AreAsns : (commas : ℕ) → List ℕ → Type 0
AreAsns zero text = Lacks 44 text × IsAnyAsn text
AreAsns (suc n) text =
    (front back : List ℕ) × SplitsAt 44 text front back × IsAnyAsn front × AreAsns n back

-- an AS_SET, as tables of routes have it: {64496,64497}
abbrev pub IsAsSet : List ℕ → Type 0
IsAsSet word = (inside : List ℕ) × (word ≡ 123 ∷ (inside ++ 125 ∷ []))
    × ((commas : ℕ) × AreAsns commas inside)

-- The origin that a word names. RFC 6811 section 2: a route has the "distinguished value NONE" as
-- its origin where its path ends with an AS_SET.
abbrev pub IsOriginText : List ℕ → (origin : Option ℕ) → Type 0
IsOriginText word (Some asn) = IsAsnText word asn
IsOriginText word None = IsAsSet word

-- No VRP matches a route without an origin AS, and none matches one of AS 0, either: so the first
-- is validated as the second.
abbrev pub origin_asn : Option ℕ → ℕ
origin_asn (Some asn) = asn
origin_asn None = 0

-- what decides whether a text is one of these
abbrev pub DecidesAsn : List ℕ → Bool → Type 0
DecidesAsn text b = MatchBool b (IsAnyAsn text) (IsAnyAsn text → ⊥)

abbrev pub DecidesAsns : List ℕ → Bool → Type 0
DecidesAsns text b = MatchBool b ((n : ℕ) × AreAsns n text) ((n : ℕ) → AreAsns n text → ⊥)

abbrev pub DecidesAsSet : List ℕ → Bool → Type 0
DecidesAsSet word b = MatchBool b (IsAsSet word) (IsAsSet word → ⊥)

abbrev pub ReadsOrigin : List ℕ → Option (Option ℕ) → Type 0
ReadsOrigin word r =
    MatchOption r ((o : Option ℕ) → IsOriginText word o → ⊥) (λ o. IsOriginText word o)

-- ---- words

-- nothing but white space: spaces, tabs, line feeds, form feeds and carriage returns
abbrev pub IsBlank : List ℕ → Type 0
IsBlank text = AllPass is_ascii_whitespace text

-- The first word of a text, and what follows it: without the white space before the word and one
-- byte of it after the word.
pub record CutsWord (text word rest : List ℕ) : Type 0 where
  pub gap : List ℕ
  pub after : List ℕ
  pub parts : text ≡ gap ++ (word ++ (after ++ rest))
  pub before : IsBlank gap
  pub some : 0 < length word
  pub whole : NoCharPasses is_ascii_whitespace word
  pub apart : IsAsciiSeparator after rest

-- its first word is a prefix, and these follow
pub record BeginsWithPrefix (line : List ℕ) (p : PrefixParts) (rest : List ℕ) : Type 0 where
  pub word : List ℕ
  pub first : CutsWord line word rest
  pub prefix : IsPrefixText word p

-- its first words are a prefix and an origin AS, and these follow
pub record BeginsWithRoute (line : List ℕ) (p : PrefixParts) (origin : Option ℕ) (rest : List ℕ) :
    Type 0 where
  pub others : List ℕ
  pub with_prefix : BeginsWithPrefix line p others
  pub word : List ℕ
  pub second : CutsWord others word rest
  pub number : IsOriginText word origin

-- ---- lines

-- the line is a prefix and an origin AS
abbrev pub IsRouteLine : List ℕ → PrefixParts → (origin : Option ℕ) → Type 0
IsRouteLine line p origin = (rest : List ℕ) × BeginsWithRoute line p origin rest × IsBlank rest

-- why a line is refused: the first of these that holds
abbrev pub RefusesLine : List ℕ → RouteError → Type 0
RefusesLine line errors.NotText = IsUtf8 line → ⊥
RefusesLine line (errors.Prefix e) =
    (word rest : List ℕ) × CutsWord line word rest × RefusesPrefix word e
RefusesLine line errors.NoAsn =
    (p : PrefixParts) × (rest : List ℕ) × BeginsWithPrefix line p rest × IsBlank rest
RefusesLine line errors.Asn = (p : PrefixParts) × (others word rest : List ℕ)
    × BeginsWithPrefix line p others × CutsWord others word rest
    × ((o : Option ℕ) → IsOriginText word o → ⊥)
RefusesLine line errors.More = (p : PrefixParts) × (origin : Option ℕ)
    × (others word rest : List ℕ)
    × BeginsWithRoute line p origin others × CutsWord others word rest
RefusesLine line errors.NoPrefix = ⊥
RefusesLine line errors.Form = ⊥

-- a blank line has no route
abbrev pub HasRoute : List ℕ → Option TableRoute → Type 0
HasRoute line None = IsBlank line
HasRoute line (Some r) = IsRouteLine line r.prefix r.origin

abbrev pub ReadsLine : List ℕ → Result (Option TableRoute) RouteError → Type 0
ReadsLine line r = MatchResult r (HasRoute line) (RefusesLine line)

-- ---- two words that are given

-- why they aren't a route
abbrev pub RefusesWords : (prefix origin : List ℕ) → RouteError → Type 0
RefusesWords prefix origin (errors.Prefix e) = RefusesPrefix prefix e
RefusesWords prefix origin errors.Asn =
    ((p : PrefixParts) × IsPrefixText prefix p) × ((o : Option ℕ) → IsOriginText origin o → ⊥)
RefusesWords prefix origin other = ⊥

abbrev pub ReadsWords : (prefix origin : List ℕ) → Result TableRoute RouteError → Type 0
ReadsWords prefix origin r =
    MatchResult r (λ route. IsPrefixText prefix route.prefix × IsOriginText origin route.origin)
    (RefusesWords prefix origin)
