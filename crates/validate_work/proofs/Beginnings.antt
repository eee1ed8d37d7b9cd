-- What a text begins with after white space, of which some was looked at.
use Rattle.std.proofs.Common.{◌≡◌, ℕ, ◌+◌, ◌<◌, ◌≤◌, ◌==◌, ◌||◌, Bool, true, false, cond, suc}
use Rattle.std.proofs.Common.{List, [], ◌∷◌, length, drop, get_or, drop-cons, refl, sym, ap, ◌∙◌}
use Rattle.std.proofs.Common.{arith}
use Rattle.std.proofs.Math.ListN.{drop_of_length-le}
use Rattle.validate_work.specs.Files.{opens_json, is_white}

json_more : (c : ℕ) (cs : List ℕ) (b : Bool) → is_white c ≡ b →
    opens_json (c ∷ cs) ≡ cond b (opens_json cs) ((c == 123) || (c == 91))
unfolding opens_json
json_more c cs b e = ap (λ k. cond k (opens_json cs) ((c == 123) || (c == 91))) e

json_none : opens_json [] ≡ false
unfolding opens_json
json_none = refl

module _ (text : List ℕ) (i : ℕ) (so_far : opens_json text ≡ opens_json (drop i text)) where
  module _ (c : ℕ) (small : i < length text) (is : c ≡ get_or text i 0) where
    at : (b : Bool) → is_white c ≡ b →
        opens_json text ≡ cond b (opens_json (drop (i + 1) text)) ((c == 123) || (c == 91))
    at b e =
        let next : suc i ≡ i + 1 = omega arith in
        so_far ∙ ap opens_json (drop-cons text i 0 small ∙ ap (λ y. y ∷ drop (suc i) text) (sym is)
        ∙ ap (λ j. c ∷ drop j text) next) ∙ json_more c (drop (i + 1) text) b e

    pub passed : is_white c ≡ true → opens_json text ≡ opens_json (drop (i + 1) text)
    passed e = at true e

    pub found : is_white c ≡ false → ((c == 123) || (c == 91)) ≡ opens_json text
    found e = sym (at false e)

  pub ended : length text ≤ i → false ≡ opens_json text
  ended large = sym (so_far ∙ ap opens_json (drop_of_length-le text large) ∙ json_none)
