-- What a router shows of the data that a store served.
use Rattle.std.specs.Prelude.{◌≡◌, ℕ, List, take, Some}
use Rattle.rtr_units.specs.End.{EndMeaning}
use Rattle.data_memory.specs.Deltas.{data_for}
use Rattle.data_slices.specs.Canonical.{HoldsData}
use Rattle.data_history.specs.Snapshots.{Snapshot}
use Rattle.session_router.specs.declared.head.Known.{Known}
use Rattle.session_router.specs.Rules.{known_of}
use Rattle.session_cache.specs.Worlds.{IsIn}
use Rattle.session_bytes.specs.Heads.{end_head}
use Rattle.session_laws.specs.Pipes.{Joined}
use Rattle.session_client_laws.specs.Runs.{Pair}

-- The bytes begin with data in canonical form: the payloads of the one snapshot that was served
-- under this session and serial number, as this version has them, and an end of data that names
-- them.
pub record HoldsServed (served : List Snapshot) (known : Known) (b : List ℕ) : Type 0 where
  pub snapshot : Snapshot
  pub was : IsIn served snapshot
  pub session : snapshot.end.session ≡ known.session
  pub serial : snapshot.end.serial ≡ known.serial
  pub only :
      (y : Snapshot) → IsIn served y → y.end.session ≡ known.session
      → y.end.serial ≡ known.serial → y ≡ snapshot
  pub end : EndMeaning
  pub holds : HoldsData b (data_for known.version snapshot.payloads) end
  pub named : known_of (end_head end 0) ≡ known

-- a client's data buffer
abbrev pub ClientShowsServed : List Snapshot → Pair → Type 0
ClientShowsServed served p =
    (size : ℕ) × (p.client.shown ≡ Some size)
    × HoldsServed served p.client.router.known (take size p.held)

-- the bytes that a router's caller shows
abbrev pub BytesShowServed : List Snapshot → Joined → Type 0
BytesShowServed served w =
    (b : List ℕ) × (w.host.shown ≡ Some b) × HoldsServed served w.router.known b
