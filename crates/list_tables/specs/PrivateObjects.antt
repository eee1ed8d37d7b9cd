-- What stands before the object of a payload in its array. Only contracts of private functions cite
-- these.
use Rattle.std.specs.Prelude.{ℕ, Bool, true, false, List, [], codes}

-- the comma before an item that isn't the first
abbrev pub comma_unless : (first : Bool) → List ℕ
comma_unless true = []
comma_unless false = codes ","
