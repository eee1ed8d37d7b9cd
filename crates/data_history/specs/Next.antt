-- What comes of newer data (this library's own; serial numbers by RFC 1982, and what a cache has to
-- be able to tell by RFC 8210 sections 5.1, 5.3 and 8.2).
use Rattle.std.specs.Prelude.{◌+◌, ◌-◌, ◌⊎◌, drop}
use Rattle.std.specs.Prelude.{◌≡◌, ◌≢◌, ◌<◌, ◌≤◌, ◌^◌, ℕ, List, [], ◌∷◌, ◌++◌, take, length, Some}
use Rattle.std.specs.Prelude.{⊤}
use Rattle.std.specs.Prelude.{Result, Ok, Err, IfOk, IsOk}
use Rattle.std.specs.List.{AllByRecursion}
use Rattle.std.specs.declared.cmp.Ordering.TheVariants.{Less}
use Rattle.rtr_base.specs.Serial.{serial_cmp}
use Rattle.rtr_units.specs.End.{EndMeaning}
use Rattle.data_memory.specs.Data.{Change}
use Rattle.data_slices.specs.Canonical.{HoldsData}
use Rattle.data_slices.specs.CanonicalChanges.{HoldsChanges}
use Rattle.data_slices.specs.Delta.{delta_form}
use Rattle.data_slices.specs.Flaws.{IsFlawOfData}
use Rattle.data_history.specs.Snapshots.{AreAlike, Snapshot, GoesBack, HoldsHistory}
use Rattle.data_history.specs.Parts.{HasPart, part_bytes, part_form, part_rest, part_time}
use Rattle.data_history.specs.declared.room.Room.TheVariants.{Index, Buffer, Spare, Output}
use Rattle.data_history.specs.declared.next.Refused.{Refused}
use Rattle.data_history.specs.declared.next.Refused.TheVariants as refusals

-- the steps to these snapshots were made at this time or later
abbrev pub AreRecent : (since : ℕ) → List ℕ → List Snapshot → Type 0
AreRecent n b [] = ⊤
AreRecent n b (y ∷ ys) = (n ≤ part_time b) × AreRecent n (part_rest b) ys

-- This many bytes are whole steps to a front of the snapshots, all earlier than the serial number,
-- and made at this time or later.
pub record KeepsFront (n : ℕ) (b : List ℕ) (x : Snapshot) (ys : List Snapshot)
    (serial since : ℕ) : Type 0 where
  pub front : List Snapshot
  pub others : List Snapshot
  pub parts : ys ≡ front ++ others
  pub back : GoesBack (take n b) x front
  pub earlier : AllByRecursion (λ y. (y.end.serial < 2 ^ 32)
      × (serial_cmp y.end.serial serial ≡ Some Less)) front
  pub recent : AreRecent since (take n b) front

-- The bytes are a history of the new snapshot and a front of the old ones, unchanged. The steps to
-- them were made at this time or later, and have at most this many bytes.
pub record ContinuesHistory (since most : ℕ) (b : List ℕ) (z x : Snapshot)
    (ys : List Snapshot) : Type 0 where
  pub front : List Snapshot
  pub others : List Snapshot
  pub parts : x ∷ ys ≡ front ++ others
  pub history : HoldsHistory b z front
  pub recent : AreRecent since (part_rest b) front
  pub short : length (part_rest b) ≤ most

-- What was written, and why nothing was, where the new data begin a history.
abbrev pub StartsHistory : Result ℕ Refused → (z : Snapshot) → (before after : List ℕ) → Type 0
StartsHistory (Ok n) z before after = (n ≤ length before) × HoldsHistory (take n after) z []
StartsHistory (Err (refusals.NoRoom room wanted)) z before after = ⊤
StartsHistory (Err r) z before after = ⊥

-- they are the same data under the same name, with other times
pub record OnlyTimesDiffer (z x : Snapshot) : Type 0 where
  pub payloads : z.payloads ≡ x.payloads
  pub version : z.end.version ≡ x.end.version
  pub session : z.end.session ≡ x.end.session
  pub serial : z.end.serial ≡ x.end.serial
  pub other : z.end ≢ x.end

-- What was written after newer data: a history of them and of a front of the old snapshots. Or why
-- they aren't taken, with nothing written unless there is no room: data of another session are
-- always taken.
abbrev pub Advances : (since most : ℕ) → Result ℕ Refused → (z x : Snapshot) → List Snapshot →
    (before after : List ℕ) → Type 0
Advances since most (Ok n) z x ys before after = (n ≤ length before) × ContinuesHistory since most
    (take n after) z x ys
Advances since most (Err (refusals.Flaw f)) z x ys before after = ⊥
Advances since most (Err (refusals.UnitVersion v)) z x ys before after =
    (z.end.session ≡ x.end.session) × (x.end.version ≢ z.end.version) × (v ≡ z.end.version)
    × (after ≡ before)
Advances since most (Err refusals.Same) z x ys before after = (z ≡ x) × (after ≡ before)
Advances since most (Err refusals.Times) z x ys before after =
    OnlyTimesDiffer z x × (after ≡ before)
Advances since most (Err refusals.Serial) z x ys before after =
    AreAlike x z × (serial_cmp x.end.serial z.end.serial ≢ Some Less)
    × (x.end.serial ≡ z.end.serial → z.payloads ≢ x.payloads) × (after ≡ before)
Advances since most (Err refusals.Malformed) z x ys before after = ⊥
Advances since most (Err (refusals.NoRoom room wanted)) z x ys before after = ⊤

-- a flaw is one of the new data
abbrev pub IsFlawIn : List ℕ → Refused → Type 0
IsFlawIn b (refusals.Flaw f) = IsFlawOfData b f
IsFlawIn b r = ⊤

-- Bytes that aren't data are refused for that, whatever else is wrong.
abbrev pub ChecksFirst : Result ℕ Refused → (new : List ℕ) → Type 0
ChecksFirst (Err (refusals.Flaw f)) b = IsFlawOfData b f
ChecksFirst r b = (z : Snapshot) × HoldsData b z.payloads z.end

-- The slice that is named is shorter than wanted, which is at most this: for the buffer and for the
-- output. These are their lengths.
abbrev pub IsShortForNewer : Result ℕ Refused → (buffer output have out : ℕ) → Type 0
IsShortForNewer (Ok n) b o have out = ⊤
IsShortForNewer (Err (refusals.Flaw f)) b o have out = ⊤
IsShortForNewer (Err (refusals.UnitVersion v)) b o have out = ⊤
IsShortForNewer (Err refusals.Same) b o have out = ⊤
IsShortForNewer (Err refusals.Times) b o have out = ⊤
IsShortForNewer (Err refusals.Serial) b o have out = ⊤
IsShortForNewer (Err refusals.Malformed) b o have out = ⊤
IsShortForNewer (Err (refusals.NoRoom Index w)) b o have out = ⊥
IsShortForNewer (Err (refusals.NoRoom Buffer w)) b o have out = (have < w) × (w ≤ b)
IsShortForNewer (Err (refusals.NoRoom Spare w)) b o have out = ⊥
IsShortForNewer (Err (refusals.NoRoom Output w)) b o have out = (out < w) × (w ≤ o)

-- a step is at the front that may be kept: recent enough, of at most this many bytes, and to a
-- number earlier than this
pub record MayBeKept (b : List ℕ) (since most serial : ℕ) : Type 0 where
  pub part : HasPart b
  pub recent : since ≤ part_time b
  pub short : length b - length (part_rest b) ≤ most
  pub changes : List Change
  pub end : EndMeaning
  pub holds : HoldsChanges (part_bytes b) changes end
  pub earlier : serial_cmp end.serial serial ≡ Some Less

-- The step back from new data to those before them is the delta, and behind it are this many bytes
-- of the old steps, as they were. The limits leave no room for the step behind these.
pub record KeepsSteps (kept now since most : ℕ) (z x : Snapshot) (old steps : List ℕ) : Type 0 where
  pub form : steps ≡ part_form now (delta_form z.payloads x.payloads x.end) ++ take kept old
  pub within : kept ≤ length old
  pub short : length steps ≤ most
  pub longest : MayBeKept (drop kept old) since (most - length steps) z.end.serial → ⊥

-- The bytes are the history of new data that follow data of their session, to the last byte: the
-- step back is longer than the limit, so that there is none; or as many steps as may be are kept.
abbrev pub IsLongest : (now since most : ℕ) → (z x : Snapshot) → (new old b : List ℕ) → Type 0
IsLongest now since most z x new old b =
    ((most < 16 + length (delta_form z.payloads x.payloads x.end)) × (b ≡ part_form now new))
    ⊎ ((kept : ℕ) × (steps : List ℕ) × (b ≡ part_form now new ++ steps)
    × KeepsSteps kept now since most z x (part_rest old) steps)

-- ---- the same of bytes: of whatever history the old ones are, and whatever data the new ones

abbrev pub StartsOf : Result ℕ Refused → (new before after : List ℕ) → Type 0
StartsOf r new before after = (z : Snapshot) → HoldsData new z.payloads z.end →
    StartsHistory r z before after

abbrev pub AdvancesOf : (since most : ℕ) → Result ℕ Refused → (old new before after : List ℕ) →
    Type 0
AdvancesOf since most r old new before after = (x z : Snapshot) (ys : List Snapshot) →
    HoldsHistory old x ys → HoldsData new z.payloads z.end →
    Advances since most r z x ys before after

-- data of the session
abbrev pub LongestOf : (now since most : ℕ) → Result ℕ Refused → (old new after : List ℕ) → Type 0
LongestOf now since most r old new after = (x z : Snapshot) (ys : List Snapshot) →
    HoldsHistory old x ys → HoldsData new z.payloads z.end → z.end.session ≡ x.end.session →
    IfOk r (λ n. IsLongest now since most z x new old (take n after))

-- data of another session: they stand alone
abbrev pub AloneOf : (now : ℕ) → Result ℕ Refused → (old new after : List ℕ) → Type 0
AloneOf now r old new after = (x z : Snapshot) (ys : List Snapshot) →
    HoldsHistory old x ys → HoldsData new z.payloads z.end → z.end.session ≢ x.end.session →
    IfOk r (λ n. take n after ≡ part_form now new)

-- what is taken after data of the session is later than they are
abbrev pub LaterOf : Result ℕ Refused → (old new : List ℕ) → Type 0
LaterOf r old new = (x z : Snapshot) (ys : List Snapshot) → HoldsHistory old x ys →
    HoldsData new z.payloads z.end → z.end.session ≡ x.end.session → IsOk r →
    serial_cmp x.end.serial z.end.serial ≡ Some Less
