-- Where the prefix units of data lie (this library's own).
use Rattle.std.specs.Prelude.{◌≡◌, ℕ, ◌+◌, ◌-◌, ◌*◌, ◌^◌, ◌<◌, ◌≤◌, List, take, drop, length}
use Rattle.std.specs.Prelude.{slice_index}
use Rattle.rtr_base.specs.Addresses.{Family, v4, v6, width}
use Rattle.rtr_units.specs.Header.{type_field}
use Rattle.rtr_units.specs.PrefixUnits.{OriginParts, prefix_at, prefix_size, prefix_type}
use Rattle.rtr_payload.specs.RouteOrigins.{meant_origin}
use Rattle.data_validation.specs.Validity.{first_bits}
use Rattle.data_validation.specs.declared.tables.Tables.{Tables}

-- the origin that is meant by a unit, read off its bytes
unfoldable pub vrp_of : Family → List ℕ → OriginParts
vrp_of f b = meant_origin (prefix_at f b).origin

-- that of the unit of this index
abbrev pub vrp_at : Family → List ℕ → ℕ → OriginParts
vrp_at f b i = vrp_of f (take (prefix_size f) (drop (i * prefix_size f) b))

-- n times there are the size and the type of a unit of this family, one after the other, and then
-- no more
pub record IsUnitRun (f : Family) (b : List ℕ) (n : ℕ) : Type 0 where
  pub room : n * prefix_size f ≤ length b
  pub each : (i : ℕ) → i < n → type_field (drop (i * prefix_size f) b) ≡ prefix_type f
  pub last : prefix_size f ≤ length (drop (n * prefix_size f) b) →
      type_field (drop (n * prefix_size f) b) ≡ prefix_type f → ⊥

-- none of the prefixes of these units is shorter than s
abbrev pub AreAtLeast : Family → List ℕ → (n s : ℕ) → Type 0
AreAtLeast f b n s = (i : ℕ) → i < n → s ≤ (vrp_at f b i).prefix_len

-- nor, of those of 8 bits or more, shorter than the number for its first byte
abbrev pub AreAtLeastBy : Family → List ℕ → (n : ℕ) → (lengths : List ℕ) → Type 0
AreAtLeastBy f b n lengths = (i : ℕ) → i < n → 8 ≤ (vrp_at f b i).prefix_len →
    slice_index lengths (first_bits (width f) 8 (vrp_at f b i).address) ≤ (vrp_at f b i).prefix_len

-- prefixes in their order, as one number
unfoldable pub order_key : OriginParts → ℕ
order_key v = v.address * 256 + v.prefix_len

-- of n IPv4 units the one before s is below all prefixes whose address begins with the byte k, and
-- that at s isn't
pub record IsStart (b : List ℕ) (n k s : ℕ) : Type 0 where
  pub within : s ≤ n
  pub below : 0 < s → order_key (vrp_at v4 b (s - 1)) < k * 2 ^ 32
  pub above : s < n → k * 2 ^ 32 ≤ order_key (vrp_at v4 b s)

-- the tables of these bytes: IPv4 units, and then IPv6 units
pub record AreTables (b : List ℕ) (t : Tables) : Type 0 where
  pub ipv4 : IsUnitRun v4 b t.ipv4
  pub ipv6 : IsUnitRun v6 (drop (t.ipv4 * 20) b) t.ipv6
  pub least4 : AreAtLeast v4 b t.ipv4 t.shortest_ipv4
  pub least6 : AreAtLeast v6 (drop (t.ipv4 * 20) b) t.ipv6 t.shortest_ipv6
  pub starts : (k : ℕ) → k < 256 → IsStart b t.ipv4 k (slice_index t.starts k)
  pub lengths : AreAtLeastBy v4 b t.ipv4 t.shortest
