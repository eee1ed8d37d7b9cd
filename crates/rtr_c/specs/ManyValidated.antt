-- What C gets of the validity of many routes (this library's own).
use Rattle.std.specs.Prelude.{ℕ, ◌+◌, Bool, List, [], ◌∷◌}
use Rattle.data_validation.specs.declared.tables.Tables.{Tables}
use Rattle.rtr_c.specs.Routes.{TellsValidity, route_prefix}
use Rattle.rtr_c.specs.declared.validation.RtrRoute.{RtrRoute}

-- The number of the validity of each route is put in the place that belongs to it, as far as there
-- are routes and places. Further places stay as they were. `count` routes are validated.
pub data TellsMany : (sealed : Bool) → (input : List ℕ) → Tables → (routes : List RtrRoute) →
    (places now : List ℕ) → (count : ℕ) → Type 0 where
  no_route_left :
      (sealed : Bool) (input : List ℕ) (t : Tables) (places : List ℕ)
      → TellsMany sealed input t [] places places 0
  no_validity_left :
      (sealed : Bool) (input : List ℕ) (t : Tables) (routes : List RtrRoute)
      → TellsMany sealed input t routes [] [] 0
  route_validated :
      (sealed : Bool) (input : List ℕ) (t : Tables) (route : RtrRoute) (routes : List RtrRoute)
      (place code : ℕ) (places now : List ℕ) (count : ℕ)
      → TellsValidity sealed (route_prefix route) input t route.asn code
      → TellsMany sealed input t routes places now count
      → TellsMany sealed input t (route ∷ routes) (place ∷ places) (code ∷ now) (1 + count)
