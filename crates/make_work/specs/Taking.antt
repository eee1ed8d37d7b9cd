-- What is known of items that are taken one after the other, of which the payloads are kept.
use Rattle.std.specs.Prelude.{◌≡◌, ⊤, ℕ, Bool, not, List, [], ◌∷◌, ◌++◌, map, filter}
use Rattle.std.specs.Prelude.{Option, Some, None}
use Rattle.std.specs.Borrow.{Bor}
use Rattle.std.specs.Prelude.{Result, Ok, Err}
use Rattle.std.specs.List.{AllByRecursion}
use Rattle.rtr_units.specs.StopCauses.{WriterState}
use Rattle.rtr_payload.specs.Payloads.{Payload}
use Rattle.rtr_payload.specs.declared.payload.Payload.{Payload as Added}
use Rattle.data_memory.specs.Data.{IsData, has, has_name}
use Rattle.data_memory.specs.Sequences.{IsInRange}
use Rattle.data_slurm.specs.Filters.{removes}
use Rattle.data_slurm.specs.declared.entry.Entry.{Entry}
use Rattle.data_slurm.specs.declared.slurm.Slurm.{Slurm}
use Rattle.make_work.specs.Expiries.{LeavesAsked}
use Rattle.make_work.specs.Gathering.{Gathers, first_refused, item_payload}
use Rattle.make_work.specs.Making.{MakesSequence, version_number}
use Rattle.make_work.specs.declared.expiring.Expired.{Expired}
use Rattle.make_work.specs.declared.expiring.Times.{Times}
use Rattle.make_work.specs.declared.gathering.Gathered.{Gathered}
use Rattle.make_work.specs.declared.gathering.Gathering.{Gathering}
use Rattle.make_work.specs.declared.gathering.Left.{Left}
use Rattle.make_work.specs.declared.item.Expiry.TheVariants.{Never}
use Rattle.make_work.specs.declared.item.Item.{Item}
use Rattle.make_work.specs.declared.item.Refusal.{Refusal}
use Rattle.make_work.specs.declared.sequence.Trouble.{Trouble}
use Rattle.make_work.specs.declared.words.Request.{Request}

-- items are gathered for this version, at the time that is asked for, if one is
pub record IsFor (v : ℕ) (leaves_out : Bool) (asked : Option ℕ) (g : Gathering) : Type 0 where
  pub version : g.version ≡ v
  pub leaves : g.leaves_out ≡ leaves_out
  pub time : g.times.asked ≡ asked

-- ---- what is kept of items

abbrev pub expired_at : Option ℕ → (left_out : ℕ) → (next : Option ℕ) → Option Expired
expired_at None n next = None
expired_at (Some now) n next = Some (record { left_out = n; next = next })

abbrev pub answer_by : Option Refusal → Option Expired → Result (Option Expired) Refusal
answer_by (Some r) e = Err r
answer_by None e = Ok e

-- what has expired where a time is asked for, or the item that is refused
abbrev pub times_answer : Times → Result (Option Expired) Refusal
times_answer t = answer_by t.refused (expired_at t.asked t.left_out t.next)

-- the data has just these payloads and names
pub record Held (d ps : List Payload) : Type 0 where
  pub in_order : IsData d
  pub members : (p : Payload) → has d p ≡ has ps p
  pub names : (p : Payload) → has_name d p ≡ has_name ps p
  pub ranges : AllByRecursion (λ p. IsInRange p) d

-- the data has just the payloads of these items, of which none is refused; or this one is the first
abbrev pub HoldsLeft : ℕ → Bool → List Item → List Payload → Option Refusal → Type 0
HoldsLeft v leaves_out left d None =
    (first_refused v leaves_out [] left ≡ None) × Held d (map item_payload left)
HoldsLeft v leaves_out left d (Some r) = first_refused v leaves_out [] left ≡ Some r

-- Just these items were taken: those are left that have not expired, where a time is asked for, and
-- their payloads are held; or the expiry of one has no meaning.
pub record HasTaken (items : List Item) (g : Gathering) : Type 0 where
  pub left : List Item
  pub times : LeavesAsked g.times.asked items left (times_answer g.times)
  pub held : g.times.refused ≡ None →
      HoldsLeft g.version g.leaves_out left g.payloads g.refused

-- ---- items that are taken

-- the entries of SLURM files by which items are filtered, and payloads are added
abbrev pub entries_asked : Option (Bor Slurm) → List Entry
entries_asked None = []
entries_asked (Some s) = s.now.entries.items

-- the items that the filters leave (RFC 8416 section 3.3)
abbrev pub is_unfiltered : List Entry → Item → Bool
is_unfiltered es i = not (removes es (item_payload i))

abbrev pub kept_items : List Entry → List Item → List Item
kept_items es items = filter (is_unfiltered es) items

-- these were taken after those before, whatever the filters say
pub record KeepsItems (more : List Item) (old new : Gathering) : Type 0 where
  pub settings : IsFor old.version old.leaves_out old.times.asked new
  pub slurm : new.slurm ≡ old.slurm
  pub taken : (before : List Item) → HasTaken before old → HasTaken (before ++ more) new

-- those of these that the filters leave
pub record TakesItems (more : List Item) (old new : Gathering) : Type 0 where
  pub kept : KeepsItems (kept_items (entries_asked old.slurm) more) old new

-- the payload is one that SLURM files add (RFC 8416 section 3.4), which never expires
pub record IsAsserted (p : Added) (i : Item) : Type 0 where
  pub payload : i.payload ≡ p
  pub lasting : i.expiry ≡ Never

abbrev pub AreAsserted : List Added → List Item → Type 0
AreAsserted [] [] = ⊤
AreAsserted (p ∷ ps) (i ∷ items) = IsAsserted p i × AreAsserted ps items
AreAsserted ps items = ⊥

-- these are added, whatever the filters say
pub record AddsAsserted (ps : List Added) (old new : Gathering) : Type 0 where
  pub items : List Item
  pub are : AreAsserted ps items
  pub kept : KeepsItems items old new

-- some were taken of which this holds
pub record TakesSome (Are : List Item → Type 0) (old new : Gathering) : Type 0 where
  pub items : List Item
  pub are : Are items
  pub taken : TakesItems items old new

-- ---- the end

-- the payloads of the items that are left, or why one is refused
abbrev pub GathersLeft : ℕ → Bool → Option ℕ → List Item → Result Left Refusal → Type 0
GathersLeft v leaves_out asked items (Ok l) = (left : List Item)
    × LeavesAsked asked items left (Ok l.expired) × Gathers v leaves_out left l.gathered
GathersLeft v leaves_out asked items (Err r) =
    (left : List Item) × LeavesAsked asked items left (Err r)

-- whatever items were taken, these are left
abbrev pub EndsTaking : Gathering → Result Left Refusal → Type 0
EndsTaking g r = (items : List Item) → HasTaken items g →
    GathersLeft g.version g.leaves_out g.times.asked items r

-- of whatever items this was gathered for a request, their sequence is written
abbrev pub WritesGathered : Request → Result Gathered Refusal → Result ℕ Trouble → WriterState →
    WriterState → Type 0
WritesGathered a gathered r old new = (items : List Item) →
    Gathers (version_number a.version) a.leaves_out items gathered → MakesSequence a items r old new
