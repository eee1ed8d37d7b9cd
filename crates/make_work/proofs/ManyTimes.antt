-- What members say of when an item expires.
use Rattle.std.proofs.Common.{◌≡◌, ◌<◌, List, [], ◌∷◌, length, refl, arith}
use Rattle.json.specs.Json.{Json}
use Rattle.make_work.specs.JsonPayloads.{expiry_of_values}
use Rattle.make_work.specs.declared.item.Expiry.TheVariants.{Twice}

-- more than one says it
pub more_than_one : (js : List Json) → 1 < length js → Twice ≡ expiry_of_values js
more_than_one [] h = absurd (omega (arith, h))
more_than_one (j ∷ []) h = absurd (omega (arith, h))
more_than_one (j ∷ k ∷ js) h = refl
