-- How long what changes are made of is.
use native.Mathlib.Omega.{arith}
use Rattle.std.proofs.Common.{◌≡◌, ℕ, Bool, true, false, ◌+◌, ◌≤◌, length, take, drop}
use Rattle.std.proofs.Common.{Option, Some, None, ap, sym, subst, ◌∙◌, length-drop}
use Rattle.std.proofs.lemmas.List.{length-take}
use Rattle.session_client.specs.Holding.{WantsData, WantsIndex, WantsRoom, base_room}
use Rattle.session_client.specs.declared.applying.Applied.{Applied}
use Rattle.session_client.specs.declared.applying.Applied.TheVariants as applied
use Rattle.session_client.specs.Makings.{Octets, onto}

taken : (n : ℕ) (b : Octets) → length (take n b) ≤ n
taken n b = let is = length-take n b in omega (arith, is)

pub end_short : (answer end : Octets) (kept size : ℕ) → end ≡ drop kept answer →
    length answer ≡ kept + size → length end ≤ size
end_short answer end kept size is all =
    let left = ap length is ∙ length-drop kept answer in
    omega (arith, left, all)

pub base_short : (base held end : Octets) (since : Bool) (shown : Option ℕ) (size : ℕ) →
    length end ≤ size → base ≡ onto since shown held end → length base ≤ base_room since shown size
base_short base held end since shown size short is =
    subst (λ b. length b ≤ base_room since shown size) (sym is) (go since shown)
  where
    go : (since : Bool) (shown : Option ℕ) →
        length (onto since shown held end) ≤ base_room since shown size
    go since None = short
    go true (Some n) = taken n held
    go false (Some n) = short

pub wants_room : (a : Applied) → WantsData a → WantsRoom a
wants_room applied.Nothing wants = absurd wants
wants_room (applied.Shown n) wants = absurd wants
wants_room (applied.Data n) wants = tt
wants_room (applied.Index n) wants = absurd wants
wants_room (applied.Acted a refusal offset) wants = absurd wants

pub wants_index : (a : Applied) → WantsIndex a → WantsRoom a
wants_index applied.Nothing wants = absurd wants
wants_index (applied.Shown n) wants = absurd wants
wants_index (applied.Data n) wants = absurd wants
wants_index (applied.Index n) wants = tt
wants_index (applied.Acted a refusal offset) wants = absurd wants
