-- What calls inside this crate leave. Only contracts of private functions cite these.
use Rattle.std.specs.Prelude.{◌≡◌, ℕ, List, length, slice_index}
use Rattle.rtr_units.specs.Header.{version_field, type_field, length_field}
use Rattle.rtr_payload.specs.FaultSteps.{first_unit}

-- u is the unit at the front of r, whole, and so its header is that of r
pub record IsFirstUnit (r u : List ℕ) : Type 0 where
  pub is_first : u ≡ first_unit r
  pub size : length u ≡ length_field r
  pub version : version_field u ≡ version_field r
  pub kind : type_field u ≡ type_field r
  pub flags : slice_index u 2 ≡ slice_index r 2
  pub field : length_field u ≡ length_field r
