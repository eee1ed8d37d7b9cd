-- The units of ASPAs (as in the Rust crate): which bytes are one, and what it means.
use Rattle.std.specs.Prelude.{◌≡◌, ℕ, ◌+◌, ◌*◌, ◌≤◌, List, [], ◌∷◌, ◌++◌, length, take, drop, ⊤}
use Rattle.std.specs.Prelude.{slice_index}
use Rattle.rtr_base.specs.Actions.{act}
use Rattle.rtr_base.specs.declared.action.Action.{Action}
use Rattle.rtr_base.specs.declared.action.Action.TheVariants.{Announce, Withdraw}
use Rattle.rtr_base.specs.Bytes.{be, value, words}
use Rattle.rtr_units.specs.Header.{version_field}
use Rattle.rtr_payload.specs.Payloads.{AspaParts, IsAspa, Meaning, aspa}
use Rattle.rtr_payload.specs.Providers.{words_of}

-- the fields of the unit (as in the Rust crate). Flags stand where other units have the first byte
-- of the session, and the next byte may have any value
pub record AspaFields : Type 0 where
  pub version : ℕ
  pub flags : ℕ
  pub free : ℕ
  pub aspa : AspaParts

-- the bytes of the unit, of which the length counts all (as in the Rust crate)
abbrev pub aspa_list : AspaFields → List ℕ
aspa_list u =
    u.version ∷ 11 ∷ u.flags ∷ u.free ∷ be (12 + 4 * length u.aspa.providers) 4 ++
    be u.aspa.customer 4 ++ words u.aspa.providers

-- an announcement that is read names a provider (as in the Rust crate), and a withdrawal need not
-- (this library's own)
abbrev pub HasProviders : Action → List ℕ → Type 0
HasProviders Announce ps = 1 ≤ length ps
HasProviders Withdraw ps = ⊤

-- the providers count on an announcement alone (as in the Rust crate)
abbrev pub meant_providers : Action → List ℕ → List ℕ
meant_providers Announce ps = ps
meant_providers Withdraw ps = []

-- the ASPA that is meant with this action: of one that is withdrawn only the customer counts (as in
-- the Rust crate)
abbrev pub meant_aspa : Action → AspaParts → AspaParts
meant_aspa action a = record {
  customer = a.customer;
  providers = meant_providers action a.providers;
}

-- these are the bytes of an ASPA unit with this meaning (as in the Rust crate); of its flags the
-- lowest bit counts
pub record IsAspaUnit (b : List ℕ) (m : Meaning) : Type 0 where
  pub unit : AspaFields
  pub bytes : b ≡ aspa_list unit
  pub ranges : IsAspa unit.aspa
  pub has_providers : HasProviders (act unit.flags) unit.aspa.providers
  pub means : m ≡ record {
    version = unit.version;
    action = act unit.flags;
    payload = aspa (meant_aspa (act unit.flags) unit.aspa);
  }

-- the fields of a unit, read off its bytes at their places, whatever its type and length say (as in
-- the Rust crate)
abbrev pub aspa_at : List ℕ → AspaFields
aspa_at b =
    record {
      version = version_field b;
      flags = slice_index b 2;
      free = slice_index b 3;
      aspa =
          record {
            customer = value (take 4 (drop 8 b));
            providers = words_of (drop 12 b);
          };
    }
