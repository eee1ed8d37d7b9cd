-- What one change makes of data.
use Rattle.std.proofs.Common.{◌≡◌, Bool, true, false, not, ◌&&◌, cond, List, Ok, Err}
use Rattle.std.proofs.Common.{sym, ap, ◌∙◌, subst}
use Rattle.std.specs.BTreeMap.{is_at}
use Rattle.std.specs.BTreeSet.{replace_key}
use Rattle.std.specs.Ordering.{is_eq}
use Rattle.std.specs.Set.{remove_key}
use Rattle.rtr_base.specs.declared.action.Action.{Action}
use Rattle.rtr_base.specs.declared.action.Action.TheVariants.{Announce, Withdraw}
use Rattle.rtr_payload.specs.Orders.{payload_cmp}
use Rattle.rtr_payload.specs.Payloads.{Payload}
use Rattle.data_memory.specs.declared.change_error.ChangeError.{ChangeError}
use Rattle.data_memory.specs.declared.change_error.ChangeError.TheVariants.{Duplicate, Unknown}
use Rattle.data_memory.specs.Data.{name_cmp, name_of, takes_place, has, has_name, IsData, Change}
use Rattle.data_memory.specs.Data.{changed, after, announcement, withdrawal}
use Rattle.data_memory.proofs.Names.{name_alike}
use Rattle.data_memory.proofs.Membership.{replaced_data, removed_data, replaced_has, removed_has}

pub is_if : (b : Bool) (e : ChangeError) (x d : List Payload) → cond b (Err e) (Ok x) ≡ Ok d → x ≡ d
is_if true e x d h = absurd cc
is_if false e x d h = cc

pub is_unless : (b : Bool) (e : ChangeError) (x d : List Payload) → cond b (Ok x) (Err e) ≡ Ok d →
    x ≡ d
is_unless true e x d h = cc
is_unless false e x d h = absurd cc

pub announced_is : (p : Payload) (d e : List Payload) → changed Announce p d ≡ Ok e →
    replace_key name_cmp d p ≡ e
announced_is p d e h =
    is_if (has_name d p && not (takes_place p)) Duplicate (replace_key name_cmp d p) e h

pub withdrawn_is : (p : Payload) (d e : List Payload) → changed Withdraw p d ≡ Ok e →
    remove_key (is_at (name_cmp p)) d ≡ e
withdrawn_is p d e h =
    is_unless (has_name d p) Unknown (remove_key (is_at (name_cmp p)) d) e h

stays_data : (action : Action) (p : Payload) (d e : List Payload) → IsData d →
    changed action p d ≡ Ok e → IsData e
stays_data Announce p d e s h = subst (λ l. IsData l) (announced_is p d e h) (replaced_data p d s)
stays_data Withdraw p d e s h =
    subst (λ l. IsData l) (withdrawn_is p d e h) (removed_data (is_at (name_cmp p)) d s)

pub after_data : (c : Change) (d e : List Payload) → IsData d → after c d ≡ Ok e → IsData e
after_data c d e s h = stays_data c.action c.payload d e s h

pub announced_has : (p q : Payload) (d e : List Payload) → IsData d →
    after (announcement p) d ≡ Ok e →
    has e q ≡ cond (is_eq (name_cmp p q)) (is_eq (payload_cmp q p)) (has d q)
announced_has p q d e s h =
    ap (λ l. has l q) (sym (announced_is p d e h)) ∙ replaced_has p q d s

pub withdrawn_has : (p q : Payload) (d e : List Payload) → IsData d →
    after (withdrawal p) d ≡ Ok e → has e q ≡ cond (is_eq (name_cmp p q)) false (has d q)
withdrawn_has p q d e s h =
    ap (λ l. has l q) (sym (withdrawn_is (name_of p) d e h))
    ∙ removed_has (name_of p) q d s
    ∙ ap (λ o. cond (is_eq o) false (has d q)) (name_alike p q)
