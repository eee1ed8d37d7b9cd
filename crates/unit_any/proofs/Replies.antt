-- Which report is owed.
use Rattle.std.proofs.Common.{◌≡◌, ℕ, false, cond, List, Option, Some, None, option_map}
use Rattle.std.specs.Prelude.{◌==◌}
use Rattle.rtr_units.specs.Header.{type_field}
use Rattle.unit_any.specs.HeldReports.{held_report}
use Rattle.unit_any.specs.Replies.{owed_report}

pub is_owed : (v c : ℕ) (code : Option ℕ) (p t : List ℕ) → (type_field p == 10) ≡ false →
    code ≡ Some c → owed_report v code p t ≡ Some (held_report v c p t)
is_owed v c code p t other is =
    (λ i. option_map (λ c. held_report v c p t) (cond (other i) None (is i)))
