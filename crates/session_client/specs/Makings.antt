-- What `apply_in_order` made for a client so far, and a caller that made the same.
use Rattle.std.specs.Prelude.{◌≡◌, ℕ, Bool, List, [], ◌∷◌, ◌++◌, take, drop, ◌+◌, Option, Some}
use Rattle.std.specs.Prelude.{None, Ok, if◌then◌else◌}
use Rattle.std.specs.List.{concat}
use Rattle.data_slices.specs.InOrder.{AppliesInOrder}
use Rattle.session_router.specs.Histories.{Caller}
use Rattle.session_bytes.specs.ShownData.{base_of}
use Rattle.session_client.specs.declared.client.Holding.{Holding}
use Rattle.session_client.specs.declared.client.Holding.TheVariants as holdings

abbrev pub Octets : Type 0
Octets = List ℕ

-- the changes of an answer were made onto data, or onto its end of data alone, and came to these
pub record MadeAnswer : Type 0 where
  pub base : Octets
  pub answer : Octets
  pub new : Octets

-- `apply_in_order` made them
pub record WasMade (m : MadeAnswer) : Type 0 where
  pub size : ℕ
  pub places : ℕ
  pub before : Octets
  pub after : Octets
  pub applies : AppliesInOrder (Ok size) m.base m.answer places before after
  pub new_is : m.new ≡ take size after

abbrev pub WereMade : List MadeAnswer → Type 0
WereMade [] = Unit {0}
WereMade (m ∷ ms) = WasMade m × WereMade ms

-- the caller makes the same of them
abbrev pub MakesThis : Caller Octets Octets → MadeAnswer → Type 0
MakesThis c m = (old : Option Octets) (units : List Octets) (end : Octets) →
    base_of old end ≡ m.base → concat units ++ end ≡ m.answer → c.make old units end ≡ Some m.new

abbrev pub MakesAll : Caller Octets Octets → List MadeAnswer → Type 0
MakesAll c [] = Unit {0}
MakesAll c (m ∷ ms) = MakesThis c m × MakesAll c ms

-- what changes are made onto: this many bytes of the data that are shown, or the end of data that
-- came, alone
abbrev pub onto : (since : Bool) → Option ℕ → (held end : Octets) → Octets
onto since None held end = end
onto since (Some n) held end = if since then take n held else end

-- `shown'` is the number of bytes of the data now: what `apply_in_order` made of the whole answer
-- that stood at the front of the input, all of it and no more.
pub record ShowsMade (m : Holding) (kept : ℕ) (shown : Option ℕ) (input held : Octets)
    (places : ℕ) (made made' : Octets) (shown' : Option ℕ) : Type 0 where
  pub end : ℕ
  pub since : Bool
  pub answer : m ≡ holdings.Answer end since
  pub size : ℕ
  pub shown_is : shown' ≡ Some size
  pub applies :
      AppliesInOrder (Ok size) (onto since shown held (take end (drop kept input)))
      (take (kept + end) input) places made made'
