-- Why members have no such part, and so make no payload.
use Rattle.std.proofs.Common.{◌≡◌, ℕ, ◌<◌, ◌↔◌, List, [], ◌∷◌, Option, Some, None, Err}
use Rattle.std.proofs.Common.{inl, inr, refl, sym, subst, ◌∙◌}
use Rattle.std.specs.Option.{IsSomeAnd}
use Rattle.std.specs.Result.{IsErrOf}
use Rattle.json.specs.Json.{Json}
use Rattle.rtr_base.specs.Addresses.{PrefixParts, width}
use Rattle.rtr_base.specs.declared.addr.MaxLenError.{MaxLenError}
use Rattle.rtr_base.specs.declared.addr.MaxLenError.TheVariants.{Overflow, Underflow}
use Rattle.make_work.specs.JsonPayloads.{values_of}
use Rattle.make_work.specs.JsonRefusals.{OrMemory, RefusesAny, RefusesPart, RefusesRule}
use Rattle.make_work.specs.PrivateJson.{IsTwice, LacksPart}
use Rattle.make_work.specs.declared.item.Reason.{Reason}
use Rattle.make_work.specs.declared.item.Reason.TheVariants.{MaxLengthRule}
use Rattle.make_work.specs.declared.json_names.Part.{Part}

module _ (p : Part) (Refuses : Json → Reason → Type 0) (ms : List (List ℕ × Json)) where
  pub lacks : (why : Reason) → LacksPart p ms why → RefusesPart p Refuses ms why
  lacks why (inl none) = inl none
  lacks why (inr twice) = inr (inl twice)

  pub twice : (why : Reason) → IsTwice p ms why → RefusesAny p Refuses ms why
  twice why h = inl h

  -- the value of the one that is there has no meaning
  pub wrong_any : (j : Json) (why said : Reason) → values_of p ms ≡ j ∷ [] → Refuses j why →
      said ≡ why → RefusesAny p Refuses ms said
  wrong_any j why said e r is = inr (j, e, subst (Refuses j) (sym is) r)

  pub wrong : (j : Json) (why said : Reason) → values_of p ms ≡ j ∷ [] → Refuses j why →
      said ≡ why → RefusesPart p Refuses ms said
  wrong j why said e r is = inr (wrong_any j why said e r is)

  pub wrong_or : (j : Json) (why said : Reason) → values_of p ms ≡ j ∷ [] →
      OrMemory (Refuses j) why → said ≡ why → OrMemory (RefusesPart p Refuses ms) said
  wrong_or j why said e (inl memory) is = inl (is ∙ memory)
  wrong_or j why said e (inr r) is = inr (wrong j why said e r is)

-- a max length that doesn't go with the prefix is given, and breaks the rule that is named
pub breaks : {T : Type 0} (m : Option ℕ) (p : PrefixParts) (e : MaxLenError) (why : Reason) →
    (IsErrOf {T = T} (Err e) Overflow ↔ IsSomeAnd m (λ x. width p.family < x)) →
    (IsErrOf {T = T} (Err e) Underflow ↔ IsSomeAnd m (λ x. x < p.len)) →
    why ≡ MaxLengthRule e → RefusesRule p m why
breaks None p Overflow why over under is = absurd (over.0 refl)
breaks None p Underflow why over under is = absurd (under.0 refl)
breaks (Some x) p Overflow why over under is = (x, Overflow, refl, is, over.0 refl)
breaks (Some x) p Underflow why over under is = (x, Underflow, refl, is, under.0 refl)
