-- How many changes the payload units that are held make: as many as the machine counted.
use Rattle.std.specs.Prelude.{◌≡◌, ◌+◌, ℕ, List, length, map, take}
use Rattle.rtr_units.specs.End.{EndMeaning}
use Rattle.rtr_wire.specs.Sequences.{AreUnits}
use Rattle.data_memory.specs.Data.{Change}
use Rattle.data_memory.specs.Deltas.{unit_of}
use Rattle.data_slices.specs.Order.{Sends}
use Rattle.session_router.specs.declared.router.Router.{Router}
use Rattle.session_client.specs.declared.client.Client.{Client}
use Rattle.session_client.specs.declared.client.Holding.{Holding}
use Rattle.session_client.specs.declared.client.Holding.TheVariants as holdings

-- the bytes are this many payload units of this version
pub record AreCounted (b : List ℕ) (version units : ℕ) : Type 0 where
  pub changes : List Change
  pub are_units : AreUnits b (map (unit_of version) changes)
  pub count : length changes ≡ units

-- the bytes are this many payload units and their end of data
pub record IsCountedAnswer (b : List ℕ) (units : ℕ) : Type 0 where
  pub changes : List Change
  pub end : EndMeaning
  pub sends : Sends b changes end
  pub count : length changes ≡ units

abbrev pub IsKeptCount : Holding → Router → (kept : ℕ) → (input : List ℕ) → Type 0
IsKeptCount holdings.Nothing r kept input = Unit {0}
IsKeptCount holdings.Units r kept input = AreCounted (take kept input) r.version r.units
IsKeptCount (holdings.Answer size since) r kept input =
    IsCountedAnswer (take (kept + size) input) r.units

abbrev pub CountsKept : Client → (input : List ℕ) → Type 0
CountsKept k input = IsKeptCount k.holding k.router k.kept input
