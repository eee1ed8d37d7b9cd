-- A walk over the origins of a set. Only contracts of private functions and proofs cite these.
use Rattle.std.specs.Prelude.{◌≡◌, ℕ, List, Bool, true}
use Rattle.std.specs.List.{Contains}
use Rattle.rtr_base.specs.Addresses.{PrefixParts}
use Rattle.rtr_payload.specs.declared.payload.RouteOrigin.{RouteOrigin}
use Rattle.data_validation.specs.Covering.{vrp}
use Rattle.data_validation.specs.Validity.{Covers, Matches}

-- these origins don't match, and whether one covers is known
pub record OriginsPassed (os : List RouteOrigin) (p : PrefixParts) (asn : ℕ) (covered : Bool) :
    Type 0 where
  pub some : covered ≡ true → (o : RouteOrigin) × Contains os o × Covers (vrp o) p
  pub passed : (o : RouteOrigin) → Contains os o → Covers (vrp o) p →
      (covered ≡ true) × (Matches (vrp o) p asn → ⊥)
