-- Lines that are no routes, and who is told of them: this program's own.
use Rattle.std.specs.Prelude.{◌≡◌, ℕ, List, [], ◌∷◌}
use Rattle.validate_work.specs.declared.route_text.RouteError.{RouteError}

-- the number of a line, of which the first is 1, and why it is no route
pub record RefusedLine : Type 0 where
  pub number : ℕ
  pub error : RouteError

-- What is left of someone who was told of all these lines, the newest first: of each once, in the
-- order in which they came, and of nothing else. `Hears` is what being told of one line leaves.
abbrev pub AreTold : {T : Type 0} → (Hears : T → RefusedLine → T → Type 0) → List RefusedLine →
    (old new : T) → Type 0
AreTold Hears [] old new = new ≡ old
AreTold Hears (newest ∷ before) old new =
    (mid : _) × AreTold Hears before old mid × Hears mid newest new
