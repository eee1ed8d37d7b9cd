-- What a cache saves: the sessions that it left, and the history of the present one (this library's
-- own; a session and a serial number are one name of data: RFC 8210 sections 5.1 and 2).
use Rattle.std.specs.Prelude.{◌≡◌, ◌≢◌, ◌<◌, ◌≤◌, ◌+◌, ◌-◌, ◌*◌, ◌^◌, ◌⊎◌, ⊤, ℕ, List, [], ◌∷◌}
use Rattle.std.specs.Prelude.{Some, Result, Ok, Err, length, take}
use Rattle.std.specs.declared.cmp.Ordering.TheVariants.{Less}
use Rattle.rtr_base.specs.Serial.{serial_cmp}
use Rattle.data_history.specs.Parts.{HasPart, part_bytes, part_rest}
use Rattle.data_history.specs.Snapshots.{HoldsHistory, Snapshot}
use Rattle.data_history.specs.declared.store.TakeFault.{TakeFault}
use Rattle.data_history.specs.declared.store.TakeFault.TheVariants.{SessionLeft, Malformed, NoRoom}

-- numbers of sessions, of two bytes each in network order
abbrev pub sessions_of : List ℕ → List ℕ
sessions_of [] = []
sessions_of (h ∷ []) = []
sessions_of (h ∷ l ∷ b) = (256 * h + l) ∷ sessions_of b

-- the session is among these
abbrev pub IsAmong : ℕ → List ℕ → Type 0
IsAmong s [] = ⊥
IsAmong s (t ∷ ts) = (s ≡ t) ⊎ IsAmong s ts

-- the sessions that the store's cache left: the first part has them
unfoldable pub left_sessions : List ℕ → List ℕ
left_sessions b = sessions_of (part_bytes b)

-- The bytes are a store: the sessions that were left, and a history behind them.
pub record HoldsStore (b : List ℕ) (x : Snapshot) (ys : List Snapshot) : Type 0 where
  pub first : HasPart b
  pub history : HoldsHistory (part_rest b) x ys

-- the data go on in the session of those before them, under a later serial number
pub record StaysInSession (b b' : List ℕ) (z x : Snapshot) : Type 0 where
  pub session : z.end.session ≡ x.end.session
  pub later : serial_cmp x.end.serial z.end.serial ≡ Some Less
  pub left : left_sessions b' ≡ left_sessions b

-- the data begin a session that wasn't left before, and leave that of the data before them
pub record BeginsSession (b b' : List ℕ) (z x : Snapshot) : Type 0 where
  pub session : z.end.session ≢ x.end.session
  pub fresh : IsAmong z.end.session (left_sessions b) → ⊥
  pub left : left_sessions b' ≡ x.end.session ∷ left_sessions b

-- After the store b, whose present data are x, the data z were taken: b' is their store.
pub record IsTaken (b b' : List ℕ) (z x : Snapshot) : Type 0 where
  pub front : List Snapshot
  pub store : HoldsStore b' z front
  pub name : StaysInSession b b' z x ⊎ BeginsSession b b' z x

-- the first store has this history and no session that was left
abbrev pub BeginsStore : Result ℕ TakeFault → Snapshot → List Snapshot → (after : List ℕ) → Type 0
BeginsStore (Ok n) z ys after =
    HoldsStore (take n after) z ys × (left_sessions (take n after) ≡ [])
BeginsStore (Err SessionLeft) z ys after = ⊥
BeginsStore (Err Malformed) z ys after = ⊥
BeginsStore (Err (NoRoom wanted)) z ys after = ⊤

-- the output, of this length, is shorter than wanted, which is at most this
abbrev pub WantsOutput : Result ℕ TakeFault → (most out : ℕ) → Type 0
WantsOutput (Ok n) most out = ⊤
WantsOutput (Err SessionLeft) most out = ⊤
WantsOutput (Err Malformed) most out = ⊤
WantsOutput (Err (NoRoom w)) most out = (out < w) × (w ≤ most)

-- the first store, of a history of n bytes, into an output of this length: it is written whole, or
-- its length is named
abbrev pub FitsFirst : Result ℕ TakeFault → (n out : ℕ) → Type 0
FitsFirst (Ok size) n out = (size ≡ 16 + n) × (size ≤ out)
FitsFirst (Err SessionLeft) n out = ⊥
FitsFirst (Err Malformed) n out = ⊥
FitsFirst (Err (NoRoom w)) n out = (w ≡ 16 + n) × (out < w)

-- the size of the store after the store b, of a history of n bytes: with two bytes for the session
-- s of the data before, if the new data are of another session t
abbrev pub IsSizeAfter : (size : ℕ) → (b : List ℕ) → (s t n : ℕ) → Type 0
IsSizeAfter size b s t n =
    (s ≡ t → size ≡ 16 + length (part_bytes b) + n)
    × (s ≢ t → size ≡ 18 + length (part_bytes b) + n)

-- the new data stay in the session s, or are of a session t that wasn't left
abbrev pub MayEnter : (b : List ℕ) → (s t : ℕ) → Type 0
MayEnter b s t = s ≢ t → IsAmong t (left_sessions b) → ⊥

-- Which of the results comes after any bytes b, into an output of this length. The length that is
-- named is that of the store, or the greatest number if that is less.
abbrev pub DecidesStore : Result ℕ TakeFault → (b : List ℕ) → (s t n out : ℕ) → Type 0
DecidesStore (Ok size) b s t n out =
    HasPart b × MayEnter b s t × IsSizeAfter size b s t n × (size ≤ out)
DecidesStore (Err SessionLeft) b s t n out =
    HasPart b × (s ≢ t) × IsAmong t (left_sessions b)
DecidesStore (Err Malformed) b s t n out = HasPart b → ⊥
DecidesStore (Err (NoRoom w)) b s t n out = HasPart b × MayEnter b s t
    × ((size : ℕ) × IsSizeAfter size b s t n × (out < size) × (w ≤ size)
    × (w < size → w ≡ 2 ^ 64 - 1))

-- the data z, whose history this is, may follow x: they are of another session, or later ones
abbrev pub MayFollow : (z x : Snapshot) → Type 0
MayFollow z x =
    z.end.session ≡ x.end.session → serial_cmp x.end.serial z.end.serial ≡ Some Less

-- What comes of newer data, where the sessions are named rightly: their store was written; or their
-- session was left before.
abbrev pub WritesStore : Result ℕ TakeFault → (b : List ℕ) → (present next : ℕ) →
    (history : List ℕ) → (x z : Snapshot) → (ys zs : List Snapshot) → (after : List ℕ) → Type 0
WritesStore (Ok n) b s t h x z ys zs after = HoldsStore b x ys → HoldsHistory h z zs →
    s ≡ x.end.session → t ≡ z.end.session → MayFollow z x → IsTaken b (take n after) z x
WritesStore (Err SessionLeft) b s t h x z ys zs after =
    (t ≢ s) × (HoldsStore b x ys → IsAmong t (left_sessions b))
WritesStore (Err Malformed) b s t h x z ys zs after = HoldsStore b x ys → ⊥
WritesStore (Err (NoRoom wanted)) b s t h x z ys zs after = ⊤
