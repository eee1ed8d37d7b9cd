-- What a cache serves and what it took, in two buffers (this library's own; what a cache has to be
-- able to tell: RFC 8210 sections 5.1, 5.3 and 8.2).
use Rattle.std.specs.Prelude.{◌≡◌, ◌≢◌, ◌<◌, ◌≤◌, ◌+◌, ◌*◌, ◌++◌, ⊤, ℕ, Bool, not, List, [], Option}
use Rattle.std.specs.Prelude.{Some, None, IsSome, Result, Ok, Err, take, length, false}
use Rattle.std.specs.Prelude.{if◌then◌else◌, ◌&&◌, ◌||◌, is_some}
use Rattle.rtr_units.specs.AnyEnd.{end_meaning}
use Rattle.rtr_units.specs.declared.end.EndOfData.{EndOfData}
use Rattle.rtr_base.specs.Bytes.{be}
use Rattle.data_slices.specs.Canonical.{HoldsData}
use Rattle.data_history.specs.Next.{Advances, ChecksFirst, ContinuesHistory, IsLongest}
use Rattle.data_history.specs.Next.{IsShortForNewer, StartsHistory}
use Rattle.data_history.specs.Parts.{part_bytes, part_form, part_rest}
use Rattle.data_history.specs.Snapshots.{Snapshot}
use Rattle.data_history.specs.Store.{HoldsStore, IsAmong, IsTaken, left_sessions}
use Rattle.data_history.specs.declared.check.CheckFault.{CheckFault}
use Rattle.data_history.specs.declared.check.CheckFault.TheVariants as faults
use Rattle.data_history.specs.declared.newer.Untaken.{Untaken}
use Rattle.data_history.specs.declared.newer.Untaken.TheVariants as untaken
use Rattle.data_history.specs.declared.numbers.Numbers.{Numbers}
use Rattle.data_history.specs.declared.stores.Stores.{Stores}

-- ---- the two stores

-- this many bytes at the front of a buffer
abbrev pub front_of : Option ℕ → List ℕ → Option (List ℕ)
front_of None b = None
front_of (Some n) b = Some (take n b)

-- the buffer with the store that is served, and the other one
abbrev pub held_of : (second_holds : Bool) → (first second : List ℕ) → List ℕ
held_of b f s = if b then s else f

abbrev pub other_of : (second_holds : Bool) → (first second : List ℕ) → List ℕ
other_of b f s = if b then f else s

-- the store that is served
abbrev pub served_store : Stores → (first second : List ℕ) → Option (List ℕ)
served_store m f s = front_of m.served (held_of m.second f s)

-- the store that was taken, and waits to be saved
abbrev pub taken_store : Stores → (first second : List ℕ) → Option (List ℕ)
taken_store m f s = front_of m.taken (other_of m.second f s)

-- The stores after one of this length was taken: it waits, or, where the cache doesn't save, is
-- served at once.
abbrev pub after_taking_in : Option ℕ → ℕ → Stores → Stores
after_taking_in None n m = record m { taken = Some n }
after_taking_in (Some session) n m =
    record m { served = Some n; taken = None; second = not m.second }

abbrev pub after_taking : ℕ → Stores → Stores
after_taking n m = after_taking_in m.unsaved n m

abbrev pub after_call : Result ℕ Untaken → Stores → Stores
after_call (Ok n) m = after_taking n m
after_call (Err why) m = m

-- the stores after the one that was taken was saved
abbrev pub after_saving : Option ℕ → Stores → Stores
after_saving None m = m
after_saving (Some n) m = record m { served = Some n; taken = None; second = not m.second }

-- the stores at a start, where this much of the first buffer is served, and where the cache
-- doesn't save and has this session
abbrev pub fresh_stores : (served unsaved : Option ℕ) → Stores
fresh_stores o u = record { served = o; taken = None; second = false; unsaved = u }

-- ---- the numbers of the two stores

abbrev pub numbers_of : Stores → Numbers
numbers_of m = record {
  served = m.served;
  taken = m.taken;
  second = m.second;
  unsaved = m.unsaved;
}

abbrev pub stores_of : Numbers → Stores
stores_of n = record {
  served = n.served;
  taken = n.taken;
  second = n.second;
  unsaved = n.unsaved;
}

-- Stores have these numbers: only a store that is served is in the second buffer, and none waits
-- where the cache doesn't save.
abbrev pub are_of_stores : Numbers → Bool
are_of_stores n =
    (not n.second || is_some n.served) && (not (is_some n.unsaved) || not (is_some n.taken))

abbrev pub numbered_stores : Numbers → Option Stores
numbered_stores n = if are_of_stores n then Some (stores_of n) else None

-- the stores after the one that waits, if there is one, was saved
abbrev pub after_saved : Stores → Stores
after_saved m = after_saving m.taken m

-- the stores after the one that waits was given up
abbrev pub after_giving_up : Stores → Stores
after_giving_up m = record m { taken = None }

-- ---- what comes of newer data

-- the first data: their store was written, which has no session that was left; or why it wasn't
abbrev pub TakesFirst : Result ℕ Untaken → (z : Snapshot) → (after : List ℕ) → Type 0
TakesFirst (Ok n) z after =
    HoldsStore (take n after) z [] × (left_sessions (take n after) ≡ [])
TakesFirst (Err untaken.Waits) z after = ⊥
TakesFirst (Err untaken.OtherSession) z after = ⊥
TakesFirst (Err untaken.SessionLeft) z after = ⊥
TakesFirst (Err (untaken.Refused r)) z after = StartsHistory (Err r) z [] []
TakesFirst (Err untaken.Malformed) z after = ⊥
TakesFirst (Err (untaken.NoRoom wanted)) z after = ⊤

-- data after those of a store: their store was written, whose history has as many steps as the
-- limits leave; or why it wasn't
abbrev pub TakesLater : (since most : ℕ) → Result ℕ Untaken → (b : List ℕ) → (z x : Snapshot) →
    List Snapshot → (after : List ℕ) → Type 0
TakesLater since most (Ok n) b z x ys after =
    IsTaken b (take n after) z x
    × ContinuesHistory since most (part_rest (take n after)) z x ys
TakesLater since most (Err untaken.Waits) b z x ys after = ⊥
TakesLater since most (Err untaken.OtherSession) b z x ys after = ⊥
TakesLater since most (Err untaken.SessionLeft) b z x ys after =
    (z.end.session ≢ x.end.session) × IsAmong z.end.session (left_sessions b)
TakesLater since most (Err (untaken.Refused r)) b z x ys after =
    Advances since most (Err r) z x ys [] []
TakesLater since most (Err untaken.Malformed) b z x ys after = ⊥
TakesLater since most (Err (untaken.NoRoom wanted)) b z x ys after = ⊤

-- data where this store is served, if there is one
abbrev pub TakesAfter : (since most : ℕ) → Result ℕ Untaken → Option (List ℕ) → (z : Snapshot) →
    (after : List ℕ) → Type 0
TakesAfter since most r None z after = TakesFirst r z after
TakesAfter since most r (Some b) z after =
    (x : Snapshot) (ys : List Snapshot) → HoldsStore b x ys → TakesLater since most r b z x ys after

-- data may be of this session, where this is the one of a start that doesn't save
abbrev pub MayBeOf : Option ℕ → (session : ℕ) → Type 0
MayBeOf None s = ⊤
MayBeOf (Some t) s = s ≡ t

-- the whole promise: a store waits, or the data are of another session than they may be, or they
-- were taken or refused as above
abbrev pub TakesData : (since most : ℕ) → Result ℕ Untaken → Stores → Option (List ℕ) →
    (z : Snapshot) → (after : List ℕ) → Type 0
TakesData since most (Err untaken.Waits) m o z after = IsSome m.taken
TakesData since most (Err untaken.OtherSession) m o z after = MayBeOf m.unsaved z.end.session → ⊥
TakesData since most r m o z after =
    (m.taken ≡ None) × MayBeOf m.unsaved z.end.session × TakesAfter since most r o z after

-- how long a store is, if there is one
abbrev pub size_of : Option (List ℕ) → ℕ
size_of None = 0
size_of (Some b) = length b

-- The slice that is named is shorter than wanted, which is at most what suffices for a store and
-- data of n bytes together: these are the lengths of the slices.
abbrev pub IsShortForTaking : Result ℕ Untaken → (n buffer spare output : ℕ) → Type 0
IsShortForTaking (Err (untaken.Refused r)) n b s o =
    IsShortForNewer (Err r) n (32 + 2 * n) b s
IsShortForTaking (Err (untaken.NoRoom wanted)) n b s o = (o < wanted) × (wanted ≤ 18 + n + s)
IsShortForTaking r n b s o = ⊤

-- A store that waits is told first, and then bytes that aren't data, whatever else is wrong.
abbrev pub ChecksNewFirst : (taken : Option ℕ) → Result ℕ Untaken → (new : List ℕ) → Type 0
ChecksNewFirst t (Err untaken.Waits) b = IsSome t
ChecksNewFirst t (Err (untaken.Refused r)) b = ChecksFirst (Err r) b
ChecksNewFirst t r b = (z : Snapshot) × HoldsData b z.payloads z.end

-- ---- the bytes of a store that is written

-- The bytes are the store of the data z, of these bytes, that follow the data x of the store s, to
-- the last byte: the sessions that were left, and the history.
pub record IsStoreAfter (now since most : ℕ) (s : List ℕ) (z x : Snapshot) (new b : List ℕ)
    : Type 0 where
  pub history : List ℕ
  pub stays : z.end.session ≡ x.end.session → (b ≡ part_form 0 (part_bytes s) ++ history)
      × IsLongest now since most z x new (part_rest s) history
  pub leaves : z.end.session ≢ x.end.session →
      b ≡ part_form 0 (be x.end.session 2 ++ part_bytes s) ++ part_form now new

-- The same where this store is served, if there is one.
abbrev pub IsStoreFrom : (now since most : ℕ) → Option (List ℕ) → (z : Snapshot) →
    (new b : List ℕ) → Type 0
IsStoreFrom now since most None z new b = b ≡ part_form 0 [] ++ part_form now new
IsStoreFrom now since most (Some s) z new b = (x : Snapshot) (ys : List Snapshot) →
    HoldsStore s x ys → IsStoreAfter now since most s z x new b

-- ---- a start

-- the bytes are a store, and this is the end of its present data; or they are none; or a slice was
-- too short to see
abbrev pub ChecksStore : Result EndOfData CheckFault → List ℕ → Type 0
ChecksStore (Ok end) b =
    (x : Snapshot) × (ys : List Snapshot) × HoldsStore b x ys × (end_meaning end ≡ x.end)
ChecksStore (Err faults.Malformed) b = (x : Snapshot) (ys : List Snapshot) → HoldsStore b x ys → ⊥
ChecksStore (Err (faults.NoRoom room wanted)) b = ⊤
