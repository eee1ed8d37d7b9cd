-- The snapshots of a cache: its present data and earlier ones of the same session, and the bytes
-- that hold them (this library's own; what a cache has to be able to tell: RFC 8210 sections 5.3
-- and 8.2).
use Rattle.std.specs.Prelude.{◌≡◌, ◌==◌, ◌<◌, ◌^◌, ⊤, ℕ, List, [], ◌∷◌, Option, Some, None, Ok}
use Rattle.std.specs.Prelude.{if◌then◌else◌}
use Rattle.rtr_base.specs.Serial.{serial_distance}
use Rattle.rtr_units.specs.End.{EndMeaning}
use Rattle.rtr_payload.specs.Payloads.{Payload}
use Rattle.data_memory.specs.Changes.{after_all}
use Rattle.data_memory.specs.Data.{Change}
use Rattle.data_slices.specs.Canonical.{HoldsData}
use Rattle.data_slices.specs.CanonicalChanges.{HoldsChanges}
use Rattle.data_history.specs.Parts.{HasPart, part_bytes, part_rest}

-- data with their end of data, which has their serial number and timing
pub record Snapshot : Type 0 where
  pub end : EndMeaning
  pub payloads : List Payload

-- they are of one version and session
pub record AreAlike (x y : Snapshot) : Type 0 where
  pub version : y.end.version ≡ x.end.version
  pub session : y.end.session ≡ x.end.session

-- the bytes are changes that lead from the one to the other, of the same version and session
pub record LeadsTo (b : List ℕ) (x y : Snapshot) : Type 0 where
  pub changes : List Change
  pub holds : HoldsChanges b changes y.end
  pub leads : after_all changes (Ok x.payloads) ≡ Ok y.payloads
  pub version : x.end.version ≡ y.end.version
  pub session : x.end.session ≡ y.end.session

-- the bytes are steps back from the first snapshot to the others, one to each
abbrev pub GoesBack : List ℕ → Snapshot → List Snapshot → Type 0
GoesBack b x [] = b ≡ []
GoesBack b x (y ∷ ys) = HasPart b × LeadsTo (part_bytes b) x y × GoesBack (part_rest b) y ys

-- how far a serial number is behind another (RFC 1982)
unfoldable pub behind_by : (earlier later : ℕ) → ℕ
behind_by s n = serial_distance s n

-- Each of them is earlier than the one before it, and so than the present one: less than half the
-- circle of serial numbers, and more than the last was behind.
abbrev pub AreBehind : (present last : ℕ) → List Snapshot → Type 0
AreBehind n k [] = ⊤
AreBehind n k (y ∷ ys) =
    (k < behind_by y.end.serial n) × (behind_by y.end.serial n < 2 ^ 31)
    × AreBehind n (behind_by y.end.serial n) ys

-- The bytes are a history: the present data, and steps back to earlier ones.
pub record HoldsHistory (b : List ℕ) (x : Snapshot) (ys : List Snapshot) : Type 0 where
  pub first : HasPart b
  pub holds : HoldsData (part_bytes b) x.payloads x.end
  pub back : GoesBack (part_rest b) x ys
  pub order : AreBehind x.end.serial 0 ys

-- the newest snapshot of a serial number
abbrev pub snapshot_at : ℕ → Snapshot → List Snapshot → Option Snapshot
snapshot_at n x [] = if x.end.serial == n then Some x else None
snapshot_at n x (y ∷ ys) = if x.end.serial == n then Some x else snapshot_at n y ys
