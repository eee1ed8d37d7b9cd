-- What C gets of the units that follow one another in the input (this library's own).
use Rattle.std.specs.Prelude.{ℕ, ◌+◌, List, [], ◌∷◌, ◌++◌, length, Ok, Err}
use Rattle.unit_views.specs.declared.fault.ViewFault.{ViewFault}
use Rattle.unit_any.specs.AnyFields.{AnyFields}
use Rattle.rtr_c.specs.Answers.{rtr_ok}
use Rattle.rtr_c.specs.ShownUnits.{ShowsFirst}
use Rattle.rtr_c.specs.declared.unit.RtrUnit.{RtrUnit}

-- The units at the front of the input are shown, one after the other, in the places that were
-- given, as many as there are places; or those before the first fault, which is shown in the place
-- after them. Places that aren't reached stay as they were. `count` units are shown, which have
-- `taken` bytes.
pub data ShowsMany : (input : List ℕ) → (places now : List RtrUnit) → (count taken code : ℕ) →
    Type 0 where
  no_place_left : (input : List ℕ) → ShowsMany input [] [] 0 0 rtr_ok
  fault_shown :
      (input : List ℕ) (fault : ViewFault) (place unit : RtrUnit) (places : List RtrUnit) (code : ℕ)
      → ShowsFirst (Err fault) input unit code
      → ShowsMany input (place ∷ places) (unit ∷ places) 0 0 code
  unit_shown :
      (b rest : List ℕ) (f : AnyFields) (place unit : RtrUnit) (places now : List RtrUnit)
      (count taken code : ℕ)
      → ShowsFirst (Ok (b, f)) (b ++ rest) unit rtr_ok
      → ShowsMany rest places now count taken code
      → ShowsMany (b ++ rest) (place ∷ places) (unit ∷ now) (1 + count) (length b + taken) code
