-- What is known of the times of items that were looked at one after the other. Only contracts of
-- private functions cite these.
use Rattle.std.specs.Prelude.{◌≡◌, ℕ, min, Bool, true, false, List, [], ◌∷◌, ◌++◌}
use Rattle.std.specs.Prelude.{Option, Some, None, Result, Ok, Err}
use Rattle.make_work.specs.Expiries.{LeavesAsked}
use Rattle.make_work.specs.Taking.{times_answer}
use Rattle.make_work.specs.declared.expiring.Expired.{Expired}
use Rattle.make_work.specs.declared.expiring.Times.{Times}
use Rattle.make_work.specs.declared.item.Expiry.{Expiry}
use Rattle.make_work.specs.declared.item.Expiry.TheVariants.{At}
use Rattle.make_work.specs.declared.item.Item.{Item}
use Rattle.make_work.specs.declared.item.Refusal.{Refusal}

-- ---- the next time

-- the earlier of a time and that of an expiry
abbrev pub sooner : Option ℕ → Expiry → Option ℕ
sooner None (At t) = Some t
sooner (Some u) (At t) = Some (min u t)
sooner next other = next

-- ---- the times of items

-- no item was looked at
pub record AreNewTimes (asked : Option ℕ) (t : Times) : Type 0 where
  pub for : t.asked ≡ asked
  pub none : t.left_out ≡ 0
  pub no_next : t.next ≡ None
  pub not_refused : t.refused ≡ None

-- ---- one item more

-- those that are left after it
abbrev pub left_after : (stays : Bool) → Item → List Item → List Item
left_after true x left = left ++ x ∷ []
left_after false x left = left

abbrev pub LeavesAfter : (stays : Bool) → Item → List Item → List Item → Option ℕ →
    Result (Option Expired) Refusal → Type 0
LeavesAfter stays x items left asked (Ok e) =
    LeavesAsked asked (items ++ x ∷ []) (left_after stays x left) (Ok e)
LeavesAfter stays x items left asked (Err r) =
    LeavesAsked asked (items ++ x ∷ []) (items ++ x ∷ []) (Err r)

-- what is known of some items is known of these and one more, which stays or doesn't
pub record LooksAtTime (x : Item) (stays : Bool) (old new : Times) : Type 0 where
  pub asked : new.asked ≡ old.asked
  pub first : new.refused ≡ None → old.refused ≡ None
  pub after : (items left : List Item) → LeavesAsked old.asked items left (times_answer old) →
      LeavesAfter stays x items left new.asked (times_answer new)
