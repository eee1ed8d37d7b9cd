-- Which items have expired at a time, and when the next one does. rpki-client says of each item
-- when the first of the objects that it was made of expires: certificates by RFC 6487 section 4.6,
-- manifests by RFC 9286 section 4.2.1. A time is a number of seconds after the epoch, without leap
-- seconds (POSIX).
use Rattle.std.specs.Prelude.{◌≡◌, ℕ, ◌+◌, ◌≤◌, Bool, true, nat_lt, length, filter}
use Rattle.std.specs.Prelude.{List, [], ◌∷◌, Option, Some, None, Result, Ok, Err}
use Rattle.std.specs.List.{AllByRecursion}
use Rattle.make_work.specs.JsonValues.{SomeIs}
use Rattle.make_work.specs.declared.expiring.Expired.{Expired}
use Rattle.make_work.specs.declared.item.Expiry.{Expiry}
use Rattle.make_work.specs.declared.item.Expiry.TheVariants.{Never, At, Invalid, Twice}
use Rattle.make_work.specs.declared.item.Item.{Item}
use Rattle.make_work.specs.declared.item.Reason.{Reason}
use Rattle.make_work.specs.declared.item.Reason.TheVariants as reasons
use Rattle.make_work.specs.declared.item.Refusal.{Refusal}

-- ---- items whose expiry has no meaning

-- what is wrong with an expiry, if something is
abbrev pub expiry_fault : Expiry → Option Reason
expiry_fault Never = None
expiry_fault (At t) = None
expiry_fault Invalid = Some reasons.Time
expiry_fault Twice = Some reasons.Twice

abbrev pub earlier_fault : Option Reason → Option Reason → Option Reason
earlier_fault (Some r) later = Some r
earlier_fault None later = later

-- that of the first item with which something is wrong
abbrev pub first_expiry_fault : List Item → Option Reason
first_expiry_fault [] = None
first_expiry_fault (i ∷ items) = earlier_fault (expiry_fault i.expiry) (first_expiry_fault items)

-- ---- items that stay

-- an item stays until its time comes
abbrev pub lasts : ℕ → Expiry → Bool
lasts now (At t) = nat_lt now t
lasts now other = true

abbrev pub stays : ℕ → Item → Bool
stays now i = lasts now i.expiry

-- ---- the next time

-- the times of items that have one
abbrev pub with_time : Expiry → List ℕ → List ℕ
with_time (At t) later = t ∷ later
with_time other later = later

abbrev pub times_of : List Item → List ℕ
times_of [] = []
times_of (i ∷ items) = with_time i.expiry (times_of items)

-- the least of the times, if there is one: it is one of them, and none comes before it
abbrev pub IsNextExpiry : Option ℕ → List ℕ → Type 0
IsNextExpiry None times = times ≡ []
IsNextExpiry (Some t) times = SomeIs (λ u. u ≡ t) times × AllByRecursion (λ u. t ≤ u) times

-- ---- leaving out what has expired

-- just the items that stay are left, this many are gone, and the next time is that of those
pub record LeavesUnexpired (now : ℕ) (old new : List Item) (e : Expired) : Type 0 where
  pub clear : first_expiry_fault old ≡ None
  pub left : new ≡ filter (stays now) old
  pub gone : length new + e.left_out ≡ length old
  pub next : IsNextExpiry e.next (times_of new)

-- or the expiry of an item has no meaning, and all items are left
abbrev pub LeavesOut : ℕ → List Item → List Item → Result Expired Refusal → Type 0
LeavesOut now old new (Ok e) = LeavesUnexpired now old new e
LeavesOut now old new (Err r) = (first_expiry_fault old ≡ Some r.reason) × (new ≡ old)

-- the same at a time that is asked for; without one all items are left
abbrev pub LeavesAsked :
    Option ℕ → List Item → List Item → Result (Option Expired) Refusal → Type 0
LeavesAsked None old new (Ok None) = new ≡ old
LeavesAsked (Some now) old new (Ok (Some e)) = LeavesOut now old new (Ok e)
LeavesAsked (Some now) old new (Err r) = LeavesOut now old new (Err r)
LeavesAsked asked old new other = ⊥
