-- Units of one family that lie one after the other. Only contracts of private functions cite these.
use Rattle.std.specs.Prelude.{◌≡◌, ℕ, ◌+◌, ◌-◌, ◌*◌, ◌%◌, ◌^◌, ◌<◌, ◌≤◌, List}
use Rattle.std.specs.Prelude.{Bool, true, false, ◌⊎◌, Option, Some, None, ⊤}
use Rattle.rtr_base.specs.Addresses.{Family, PrefixParts, width, cleared}
use Rattle.rtr_units.specs.PrefixUnits.{OriginParts}
use Rattle.data_validation.specs.Tables.{order_key, vrp_at}
use Rattle.data_validation.specs.Validity.{Covers, Matches, first_bits}
use Rattle.data_validation.specs.declared.validity.Validity.{Validity}
use Rattle.data_validation.specs.declared.validity.Validity.TheVariants.{NotFound, Valid, Invalid}
use Rattle.data_validation.specs.declared.vrp.Vrp.{Vrp}

abbrev pub parts_of : Family → Vrp → OriginParts
parts_of f v = record {
  family = f;
  address = v.address;
  prefix_len = v.len;
  max_len = v.max_len;
  asn = v.asn;
}

abbrev pub route : Family → (address len : ℕ) → PrefixParts
route f address len = record { family = f; address = address; len = len }

-- the bits after the prefix are clear
abbrev pub IsClear : OriginParts → Type 0
IsClear v = v.address % 2 ^ (width v.family - v.prefix_len) ≡ 0

-- the number of a route in their order
abbrev pub route_key : PrefixParts → ℕ
route_key p = p.address * 256 + p.len

-- the units up to n are in order
abbrev pub AreSorted : Family → List ℕ → ℕ → Type 0
AreSorted f b n =
    (i j : ℕ) → i ≤ j → j < n → order_key (vrp_at f b i) ≤ order_key (vrp_at f b j)

-- They are in order, and of a route it is known that none that covers it is shorter than s, and
-- that the units that aren't after it end between low and top.
pub record IsTable (f : Family) (b : List ℕ) (n s low top : ℕ) (p : PrefixParts) : Type 0 where
  pub sorted : AreSorted f b n
  pub least : (i : ℕ) → i < n → Covers (vrp_at f b i) p → s ≤ (vrp_at f b i).prefix_len
  pub below : 0 < low → order_key (vrp_at f b (low - 1)) ≤ route_key p
  pub above : top < n → route_key p < order_key (vrp_at f b top)

-- what the units up to n say
abbrev pub TableSays : Validity → Family → List ℕ → ℕ → PrefixParts → ℕ → Type 0
TableSays NotFound f b n p a = (i : ℕ) → i < n → Covers (vrp_at f b i) p → ⊥
TableSays Valid f b n p a = (i : ℕ) × (i < n) × Matches (vrp_at f b i) p a
TableSays Invalid f b n p a =
    ((i : ℕ) × (i < n) × Covers (vrp_at f b i) p)
    × ((i : ℕ) → i < n → Matches (vrp_at f b i) p a → ⊥)

-- what one VRP says
abbrev pub OneSays : Validity → OriginParts → PrefixParts → ℕ → Type 0
OneSays NotFound v p a = Covers v p → ⊥
OneSays Valid v p a = Matches v p a
OneSays Invalid v p a = Covers v p × (Matches v p a → ⊥)

abbrev pub answer_of : Bool → Validity
answer_of true = Invalid
answer_of false = NotFound

-- of the first n units those that are done don't match, and whether one covers is known
pub record UnitsPassed (f : Family) (b : List ℕ) (n : ℕ) (p : PrefixParts) (a : ℕ) (covered : Bool)
    (IsDone : ℕ → Type 0) : Type 0 where
  pub some : covered ≡ true → (i : ℕ) × (i < n) × Covers (vrp_at f b i) p
  pub passed : (i : ℕ) → i < n → IsDone i → Covers (vrp_at f b i) p →
      (covered ≡ true) × (Matches (vrp_at f b i) p a → ⊥)

-- the units from high on are done, if all of them are as T says
pub record Sought (f : Family) (b : List ℕ) (n : ℕ) (p : PrefixParts) (a : ℕ) (covered : Bool)
    (high : ℕ) (T : Type 0) : Type 0 where
  pub within : high ≤ n
  pub limit : T → (i : ℕ) → i < high → order_key (vrp_at f b i) ≤ route_key p
  pub done : UnitsPassed f b n p a covered (λ i. T × (high ≤ i))

-- of the units from low to top the one before r is not above a number, and that at r is
pub record IsUpperBound (f : Family) (b : List ℕ) (low top t r : ℕ) : Type 0 where
  pub least : low ≤ r
  pub within : r ≤ top
  pub below : low < r → order_key (vrp_at f b (r - 1)) ≤ t
  pub above : r < top → t < order_key (vrp_at f b r)

-- how many of the first units are not after the bits that a route shares with an address, or any
-- number where no unit is as short as these
pub record IsNarrowed (f : Family) (b : List ℕ) (last shortest address len other r : ℕ) :
    Type 0 where
  pub bits : ℕ
  pub count : ℕ
  pub few : (l : ℕ) → l ≤ width f →
      first_bits (width f) l address ≡ first_bits (width f) l other → l ≤ bits
  pub long : len < bits → count ≡ len
  pub less : bits ≤ len → count ≡ bits
  pub within : r ≤ last
  pub bound : (count < shortest)
      ⊎ IsUpperBound f b 0 last (cleared (width f) count address * 256 + count) r

-- ---- the first that covers

-- none of the units from one to another covers
abbrev pub NoneBetween : Family → List ℕ → (from to : ℕ) → PrefixParts → Type 0
NoneBetween f b from to p = (i : ℕ) → from ≤ i → i < to → Covers (vrp_at f b i) p → ⊥

-- the first unit from one place on that covers
pub record IsCoveringUnit (f : Family) (b : List ℕ) (n from : ℕ) (p : PrefixParts) (x : ℕ) : Type 0
  where
    pub least : from ≤ x
    pub within : x < n
    pub covers : Covers (vrp_at f b x) p

abbrev pub FirstUnit : Option ℕ → Family → List ℕ → (n from : ℕ) → PrefixParts → Type 0
FirstUnit None f b n from p = ⊤
FirstUnit (Some x) f b n from p = IsCoveringUnit f b n from p x

-- up to where no unit covers: all of them, or the one that was found
abbrev pub end_of : Option ℕ → ℕ → ℕ
end_of None n = n
end_of (Some x) n = x

-- Where to go on after a unit that doesn't cover a route and is not after it: behind all units that
-- are not longer than the bits that both share.
pub record IsNextPlace (f : Family) (b : List ℕ) (n at address len other r : ℕ) : Type 0 where
  pub least : at < r
  pub within : r ≤ n
  pub bits : ℕ
  pub shared : first_bits (width f) bits address ≡ first_bits (width f) bits other
  pub bound : (len ≤ bits) ⊎
      IsUpperBound f b (at + 1) n (cleared (width f) (bits + 1) address * 256 + bits) r

-- Where the units begin, from a place on, that are not before the first bits of a route, as many as
-- the shortest that covers it has.
abbrev pub IsPastShorter : Family → List ℕ → (n from shortest address r : ℕ) → Type 0
IsPastShorter f b n from shortest address r =
    ((shortest ≡ 0) × (r ≡ from))
    ⊎ ((0 < shortest) × IsUpperBound f b from n
    (cleared (width f) shortest address * 256 + (shortest - 1)) r)
