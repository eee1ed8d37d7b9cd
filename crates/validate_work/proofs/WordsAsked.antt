-- What words ask for, option by option.
use Rattle.std.proofs.Common.{◌≡◌, List, [], ◌∷◌, ℕ, Option, Some, None, refl, sym, ap, ◌∙◌}
use Rattle.std.specs.Option.{option_and_then}
use Rattle.validate_work.specs.RouteWords.{RoutesAsked, as_json, at_time, by_flag, flag_named}
use Rattle.validate_work.specs.RouteWords.{named}
use Rattle.validate_work.specs.RouteWords.{of_format, routes_by_texts, strictly, summarily}
use Rattle.validate_work.specs.declared.words.Flag.{Flag}
use Rattle.validate_work.specs.declared.words.Flag.TheVariants as flags
use Rattle.validate_work.specs.declared.words.Options.{Options}

-- a word that is no option
pub named_texts : (o : Options) (word : List ℕ) (rest : List (List ℕ)) (r : Option RoutesAsked) →
    flag_named word ≡ None → r ≡ named o word rest → r ≡ routes_by_texts o (word ∷ rest)
named_texts o word [] r f h = rw f h
named_texts o word (text ∷ rest) r f h = rw f h

pub json_texts : (o p : Options) (word : List ℕ) (rest : List (List ℕ)) (r : Option RoutesAsked) →
    flag_named word ≡ Some flags.Json → as_json o ≡ Some p → r ≡ routes_by_texts p rest →
    r ≡ routes_by_texts o (word ∷ rest)
json_texts o p word [] r f a h = rw f (rw a h)
json_texts o p word (text ∷ rest) r f a h = rw f (rw a h)

pub strict_texts : (o p : Options) (word : List ℕ) (rest : List (List ℕ))
    (r : Option RoutesAsked) → flag_named word ≡ Some flags.Strict → strictly o ≡ Some p →
    r ≡ routes_by_texts p rest → r ≡ routes_by_texts o (word ∷ rest)
strict_texts o p word [] r f a h = rw f (rw a h)
strict_texts o p word (text ∷ rest) r f a h = rw f (rw a h)

pub summary_texts : (o p : Options) (word : List ℕ) (rest : List (List ℕ))
    (r : Option RoutesAsked) → flag_named word ≡ Some flags.Summary → summarily o ≡ Some p →
    r ≡ routes_by_texts p rest → r ≡ routes_by_texts o (word ∷ rest)
summary_texts o p word [] r f a h = rw f (rw a h)
summary_texts o p word (text ∷ rest) r f a h = rw f (rw a h)

pub at_texts : (o p : Options) (word text : List ℕ) (rest : List (List ℕ))
    (r : Option RoutesAsked) → flag_named word ≡ Some flags.At → at_time o text ≡ Some p →
    r ≡ routes_by_texts p rest → r ≡ routes_by_texts o (word ∷ text ∷ rest)
at_texts o p word text rest r f a h = rw f (rw a h)

pub format_texts : (o p : Options) (word text : List ℕ) (rest : List (List ℕ))
    (r : Option RoutesAsked) → flag_named word ≡ Some flags.Format → of_format o text ≡ Some p →
    r ≡ routes_by_texts p rest → r ≡ routes_by_texts o (word ∷ text ∷ rest)
format_texts o p word text rest r f a h = rw f (rw a h)
