-- How a route turns, piece by piece.
use Rattle.std.proofs.Common.{◌≡◌, ℕ, Bool, true, false, List, [], ◌++◌, codes, Option, refl, sym}
use Rattle.std.proofs.Common.{append-nil, MatchBool, subst}
use Rattle.rtr_base.specs.Addresses.{PrefixParts}
use Rattle.rtr_payload.specs.Payloads.{Payload}
use Rattle.data_validation.specs.Validity.{IsValidity}
use Rattle.data_validation.specs.declared.validity.Validity.{Validity}
use Rattle.validate_work.specs.Answers.{listed}
use Rattle.validate_work.specs.PrivateAnswers.{AddsCovers, AddsReasons, AddsTold, AddsTurn}
use Rattle.validate_work.specs.PrivateAnswers.{AddsTurned}
use Rattle.validate_work.specs.RouteTexts.{origin_asn}
use Rattle.validate_work.specs.Turned.{SaysTurned, is_reported, turn_head}
use Rattle.validate_work.specs.declared.form.Form.{Form}
use Rattle.validate_work.specs.declared.form.Form.TheVariants.{Text, Json}
use Rattle.validate_work.proofs.Said.{then_said}

module _ (e : List Payload) (p : PrefixParts) (o : Option ℕ) (state next : Validity)
    (old : List ℕ) where
  -- a line for people, to which these pieces were added
  pub adds_turn_line : (head third new : List ℕ) → head ≡ old ++ turn_head Text p o state next →
      AddsReasons next e p (origin_asn o) head third → new ≡ third ++ codes "\n" →
      AddsTurned Text e p o state next old new
  adds_turn_line head third new a (reasons, has, g) h =
      let w = then_said old head third _ reasons _ refl a g in (
        turn_head Text p o state next ++ reasons ++ codes "\n",
        (reasons, has, refl),
        then_said old third new _ (codes "\n") _ refl w h,
      )

  -- a JSON object
  pub adds_turn_object : (head third new : List ℕ) → head ≡ old ++ turn_head Json p o state next →
      AddsCovers Json e p (origin_asn o) head third → new ≡ third ++ codes "]}\n" →
      AddsTurned Json e p o state next old new
  adds_turn_object head third new a (cs, all, g) h =
      let w = then_said old head third _ (listed Json cs) _ refl a g in (
        turn_head Json p o state next ++ listed Json cs ++ codes "]}\n",
        (cs, all, refl),
        then_said old third new _ (codes "]}\n") _ refl w h,
      )

  pub none_told : (form : Form) → is_reported state next ≡ false →
      AddsTold form e p o state next old old
  none_told form out =
      let none : List ℕ = [] in
      let is : none ≡ [] = refl in (
        none,
        subst (λ b. MatchBool b (SaysTurned form e p o state next none) (none ≡ [])) (sym out) is,
        sym (append-nil old),
      )

  pub is_turned : (form : Form) (new : List ℕ) → is_reported state next ≡ true →
      AddsTurned form e p o state next old new → AddsTold form e p o state next old new
  is_turned form new told (text, says, made) = (
    text,
    subst (λ b. MatchBool b (SaysTurned form e p o state next text) (text ≡ [])) (sym told) says,
    made,
  )

  pub adds_turn : (form : Form) (d : List Payload) (new : List ℕ) →
      IsValidity d p (origin_asn o) state → IsValidity e p (origin_asn o) next →
      AddsTold form e p o state next old new → AddsTurn form d e p o old new
  adds_turn form d new a b (text, says, made) = (
    text,
    record { state = state; next = next; valid = a; turned = b; words = says },
    made,
  )
