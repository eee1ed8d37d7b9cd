-- What the calls on the stores of a cache promise (this library's own).
use Rattle.std.specs.Prelude.{◌≡◌, ◌+◌, ◌∷◌, ℕ, true, false, List, [], length, take}
use Rattle.std.specs.Prelude.{drop, Option, Some, None, IsSome, Result, Ok, Err, IsOk, IfOk, IfErr}
use Rattle.std.specs.Prelude.{◌<◌, ◌≤◌, if◌then◌else◌, is_some}
use Rattle.std.specs.Option.{unwrap_or}
use Rattle.data_slices.specs.Canonical.{HoldsData}
use Rattle.data_history.specs.Checks.{IsShortForCheck}
use Rattle.data_history.specs.Life.{IsLife, IsUnsavedLife, MayTake}
use Rattle.data_history.specs.Old.{OpensOld}
use Rattle.data_history.specs.Parts.{HasPart, part_rest}
use Rattle.data_history.specs.Serials.{IsShortForSerials, ListsSerials}
use Rattle.data_history.specs.Since.{IsShortForAnswer, WritesChangesSince}
use Rattle.data_history.specs.Snapshots.{HoldsHistory, Snapshot, snapshot_at}
use Rattle.data_history.specs.Store.{HoldsStore, left_sessions}
use Rattle.data_history.specs.Stores.{ChecksNewFirst, IsShortForTaking, IsStoreFrom, TakesData}
use Rattle.data_history.specs.Stores.{after_call}
use Rattle.data_history.specs.Stores.{after_giving_up, after_saved, fresh_stores, held_of}
use Rattle.data_history.specs.Stores.{numbers_of, other_of, served_store, size_of, taken_store}
use Rattle.data_history.specs.declared.check.CheckFault.{CheckFault}
use Rattle.data_history.specs.declared.check.CheckFault.TheVariants.{Malformed}
use Rattle.data_history.specs.declared.newer.Untaken.{Untaken}
use Rattle.data_history.specs.declared.newer.Untaken.TheVariants.{Waits}
use Rattle.data_history.specs.declared.since.SinceFault.{SinceFault}
use Rattle.data_history.specs.declared.since.SinceFault.TheVariants.{UnitVersion}
use Rattle.data_history.specs.declared.stores.Stores.{Stores}
use Rattle.rtr_c.specs.Stores.{has_stores, stores_in}
use Rattle.rtr_c.specs.StoresAnswers.{check_told, wrote_answer}
use Rattle.rtr_c.specs.declared.stores.RtrStores.{RtrStores}
use Rattle.rtr_c.specs.declared.stores_answer.RtrStoresAnswer.{RtrStoresAnswer}
use Rattle.rtr_c.specs.declared.stores_state.RtrStoresState.{RtrStoresState}

-- ---- a start

-- What `Stores::start` promises of a store of this length at the front of the first buffer, where
-- the index and the buffer have these lengths.
pub record StartsFrom (size : ℕ) (first : List ℕ) (index buffer : ℕ) (r : Result Stores CheckFault)
    : Type 0 where
  pub is : IfOk r (λ m. m ≡ fresh_stores (Some size) None)
  pub life : IfOk r (λ m. (xs : List Snapshot) (second : List ℕ) →
      IsLife xs (Some (take size first)) None None → (z : Snapshot)
      × IsLife (z ∷ xs) (Some (take size first)) (served_store m first second)
      (taken_store m first second))
  pub store : IfOk r (λ m. (x : Snapshot) × (ys : List Snapshot)
      × HoldsStore (take size first) x ys)
  pub none : IfErr r (λ fault. fault ≡ Malformed → (x : Snapshot) (ys : List Snapshot) →
      HoldsStore (take size first) x ys → ⊥)
  pub rooms : IfErr r (λ fault. IsShortForCheck (Err fault) (length (take size first)) index buffer)

-- the struct stands for the stores, or stayed as it was
abbrev pub TellsStart : Result Stores CheckFault → (before after : RtrStores) → RtrStoresAnswer →
    Type 0
TellsStart (Ok m) s s' a = (stores_in s' ≡ m) × (has_stores s' ≡ true) × (a ≡ wrote_answer 0)
TellsStart (Err fault) s s' a = (s' ≡ s) × (a ≡ check_told fault)

-- ---- newer data

-- What `Stores::take` promises of the stores before and after, at this time and with these limits,
-- where the buffers had f and s before, and have f' and s' after, and the other two have these
-- lengths.
pub record TakesNew (now since most : ℕ) (new : List ℕ) (buffer spare : ℕ) (m m' : Stores)
    (f s f' s' : List ℕ) (r : Result ℕ Untaken) : Type 0 where
  pub after : m' ≡ after_call r m
  pub held : held_of (numbers_of m).second f' s' ≡ held_of (numbers_of m).second f s
  pub takes : (z : Snapshot) → HoldsData new z.payloads z.end →
      TakesData since most r m (served_store m f s) z (other_of (numbers_of m).second f' s')
  pub waits : IsSome (numbers_of m).taken → (r ≡ Err Waits) × (f' ≡ f) × (s' ≡ s)
  pub form : IfOk r (λ n. (z : Snapshot) → HoldsData new z.payloads z.end →
      IsStoreFrom now since most (served_store m f s) z new
      (take n (other_of (numbers_of m).second f' s')))
  pub within : IfOk r (λ n. n ≤ length (other_of (numbers_of m).second f s))
  pub flaw : ChecksNewFirst (numbers_of m).taken r new
  pub rooms : IsShortForTaking r (size_of (served_store m f s) + length new) buffer spare
      (length (other_of (numbers_of m).second f s))
  pub serves : (numbers_of m).unsaved ≡ None → served_store m' f' s' ≡ served_store m f s
  pub life : (xs : List Snapshot) (file : Option (List ℕ)) → (numbers_of m).unsaved ≡ None →
      MayTake xs (served_store m f s) →
      IsLife xs file (served_store m f s) (taken_store m f s) →
      IsLife xs file (served_store m' f' s') (taken_store m' f' s')
  pub unsaved_life : (xs : List Snapshot) (t : ℕ) (z : Snapshot) →
      (numbers_of m).unsaved ≡ Some t → HoldsData new z.payloads z.end →
      IsUnsavedLife xs t (served_store m f s) → IsOk r →
      IsUnsavedLife (z ∷ xs) t (served_store m' f' s')

-- ---- what was taken

-- what `Stores::saved` promises
pub record SavesStores (m m' : Stores) : Type 0 where
  pub after : m' ≡ after_saved m
  pub life : (xs : List Snapshot) (first second b : List ℕ) (z : Snapshot) (ys : List Snapshot) →
      taken_store m first second ≡ Some b → HoldsStore b z ys →
      IsLife xs (Some b) (served_store m first second) (Some b) →
      IsLife (z ∷ xs) (Some b) (served_store m' first second) (taken_store m' first second)

-- what `Stores::give_up` promises
pub record GivesUpStore (m m' : Stores) : Type 0 where
  pub after : m' ≡ after_giving_up m
  pub life : (xs : List Snapshot) (file : Option (List ℕ)) (first second : List ℕ) →
      IsLife xs file (served_store m first second) (taken_store m first second) →
      IsLife xs file (served_store m' first second) (taken_store m' first second)

-- ---- what the buffers have

-- Where the history of the store that is served stands, how long the store to save is, and in which
-- buffers they are. What isn't there has the number 0. A history is served if the bytes begin with
-- the part of the sessions; they are a store if they were checked.
pub record StatesStores (m : Stores) (f s : List ℕ) (a : RtrStoresState) : Type 0 where
  pub serves : a.serves ≡ true → (b : List ℕ) × (served_store m f s ≡ Some b) × HasPart b
  pub at : a.serves ≡ true → (b : List ℕ) → served_store m f s ≡ Some b →
      drop a.offset b ≡ part_rest b
  pub size : a.serves ≡ true → (b : List ℕ) → served_store m f s ≡ Some b →
      a.offset + a.length ≡ length b
  pub finds : (b : List ℕ) → served_store m f s ≡ Some b → HasPart b → a.serves ≡ true
  pub none : a.serves ≡ false → (a.offset ≡ 0) × (a.length ≡ 0)
  pub waits : a.waits ≡ is_some (numbers_of m).taken
  pub taken : a.taken ≡ unwrap_or (numbers_of m).taken 0
  pub store : (if a.waits then Some (take a.taken (other_of (numbers_of m).second f s)) else None)
      ≡ taken_store m f s
  pub second : a.second ≡ (numbers_of m).second

abbrev pub no_stores_state : RtrStoresState
no_stores_state = record {
  offset = 0;
  length = 0;
  taken = 0;
  serves = false;
  waits = false;
  second = false;
}

-- ---- serial queries

-- What `since_into` promises of an answer from a history, where the index and the buffers have
-- these lengths.
pub record TellsSince (history : List ℕ) (serial version index buffer spare : ℕ)
    (before after : List ℕ) (r : Result ℕ SinceFault) : Type 0 where
  pub writes : (x : Snapshot) (ys : List Snapshot) → HoldsHistory history x ys →
      WritesChangesSince version r (snapshot_at serial x ys) x before after
  pub rooms : (x : Snapshot) (ys : List Snapshot) → HoldsHistory history x ys →
      IsShortForAnswer r (length history) index buffer spare (length before)
  pub version_first : 2 < version → (r ≡ Err UnitVersion) × (after ≡ before)

-- ---- earlier serial numbers

-- what `serials_into` promises
pub record TellsSerials (history before after : List ℕ) (r : Result ℕ CheckFault) : Type 0 where
  pub lists : (x : Snapshot) (ys : List Snapshot) → HoldsHistory history x ys →
      ListsSerials r ys before after
  pub rooms : IsShortForSerials r (length history) (length before)

-- ---- files of the form before

-- what `old_store_into` promises
pub record TellsOld (file before after : List ℕ) (r : Result ℕ CheckFault) : Type 0 where
  pub opens : OpensOld r file before after
  pub store : IfOk r (λ n. (x : Snapshot) (ys : List Snapshot) → HoldsHistory (drop 16 file) x ys →
      HoldsStore (take n after) x ys)
  pub left : IfOk r (λ n. left_sessions (take n after) ≡ [])
