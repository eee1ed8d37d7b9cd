-- The state of a session (RFC 8210 section 5.1).
use Rattle.std.specs.Prelude.{ℕ}

-- its session number and its serial number
pub record StateParts : Type 0 where
  pub session : ℕ
  pub serial : ℕ
