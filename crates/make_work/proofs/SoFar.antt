-- What holds of items that are gathered one after the other.
use Rattle.std.proofs.Common.{◌≡◌, ℕ, Bool, true, false, not, ◌&&◌, cond, List, [], ◌∷◌}
use Rattle.std.proofs.Common.{◌++◌, map, length, Option, Some, None, refl, sym, ap}
use Rattle.std.proofs.Common.{subst, ◌∙◌, append_assoc, option_map, min, ◌^◌, ◌-◌}
use Rattle.std.proofs.lemmas.List.{append-nil, map-append}
use Rattle.std.specs.BTreeSet.{replace_key}
use Rattle.rtr_payload.specs.Payloads.{Payload}
use Rattle.data_memory.specs.Contents.{AreFit, unfit}
use Rattle.data_memory.specs.Data.{has, has_name, name_cmp}
use Rattle.data_memory.specs.Sequences.{IsInRange}
use Rattle.data_memory.proofs.Sendable.{sendable}
use Rattle.make_work.specs.Gathering.{first_refused, refusal_after, refused_at, lacked}
use Rattle.make_work.specs.Gathering.{item_payload, is_lacking, GathersAll, NamesFirst}
use Rattle.make_work.specs.PrivateAdding.{with_payload}
use Rattle.make_work.specs.Taking.{Held, HoldsLeft}
use Rattle.make_work.specs.declared.item.Item.{Item}
use Rattle.make_work.specs.declared.item.Reason.{Reason}
use Rattle.make_work.specs.declared.item.Reason.TheVariants.{Version, OtherProviders, Change}
use Rattle.make_work.specs.declared.item.Reason.TheVariants.{Memory}
use Rattle.make_work.specs.declared.item.Refusal.{Refusal}
use Rattle.make_work.proofs.HeldData.{held_none, held_new, held_again}

-- what a payload is refused for depends on what came before by members and names alone
same_refusal : (v : ℕ) (leaves_out : Bool) (d ps : List Payload) (p : Payload) → Held d ps →
    refusal_after v leaves_out d p ≡ refusal_after v leaves_out ps p
same_refusal v leaves_out d ps p h = cc (h.members p, h.names p)

held_at : (v : ℕ) (d ps : List Payload) (p : Payload) → Held d ps → IsInRange p →
    (a b c : Bool) → has d p ≡ b → has_name d p ≡ c →
    cond a (Some (Version v)) (cond b None (cond c (Some OtherProviders)
    (option_map Change (unfit p)))) ≡ None →
    Held (with_payload p d) (ps ++ p ∷ [])
held_at v d ps p h r true b c f g k = absurd cc
held_at v d ps p h r false true c f g k =
    subst (λ x. Held (cond x d (replace_key name_cmp d p)) (ps ++ p ∷ [])) (sym f)
    (held_again p d ps h f)
held_at v d ps p h r false false true f g k = absurd cc
held_at v d ps p h r false false false f g k =
    subst (λ x. Held (cond x d (replace_key name_cmp d p)) (ps ++ p ∷ [])) (sym f)
    (held_new p d ps h g r)

-- the data after a payload that isn't refused
held_more : (v : ℕ) (leaves_out : Bool) (d ps : List Payload) (p : Payload) → Held d ps →
    IsInRange p → refusal_after v leaves_out d p ≡ None → Held (with_payload p d) (ps ++ p ∷ [])
held_more v leaves_out d ps p h r k =
    held_at v d ps p h r (not leaves_out && is_lacking v p) (has d p) (has_name d p) refl refl k

-- ---- the first that is refused

-- of two lists the first that is refused
abbrev first_of : Option Refusal → Option Refusal → Option Refusal
first_of (Some r) later = Some r
first_of None later = later

refused_later : (x : Item) (o : Option Reason) (a b : Option Refusal) →
    refused_at x o (first_of a b) ≡ first_of (refused_at x o a) b
refused_later x (Some r) a b = refl
refused_later x None a b = refl

-- the first that is refused of items and one more
refused_more : (v : ℕ) (leaves_out : Bool) (before : List Payload) (left : List Item) (x : Item) →
    first_refused v leaves_out before (left ++ x ∷ [])
    ≡ first_of (first_refused v leaves_out before left)
    (refused_at x (refusal_after v leaves_out (before ++ map item_payload left) (item_payload x))
    None)
refused_more v leaves_out before [] x =
    ap (λ l. refused_at x (refusal_after v leaves_out l (item_payload x)) None)
    (sym (append-nil before))
refused_more v leaves_out before (i ∷ left) x =
    let p = item_payload i in
    let o = refusal_after v leaves_out before p in
    let next = before ++ p ∷ [] in
    ap (refused_at i o) (refused_more v leaves_out next left x)
    ∙ refused_later i o (first_refused v leaves_out next left) _
    ∙ ap (λ l. first_of (refused_at i o (first_refused v leaves_out next left))
    (refused_at x (refusal_after v leaves_out l (item_payload x)) None))
    (append_assoc before (p ∷ []) (map item_payload left))

-- ---- what is held

module _ (v : ℕ) (leaves_out : Bool) where
  pub starts : HoldsLeft v leaves_out [] [] None
  starts = (refl, held_none)

  -- one was refused before
  pub before : (x : Item) (left : List Item) (d e : List Payload) (r : Refusal) →
      HoldsLeft v leaves_out left d (Some r) →
      HoldsLeft v leaves_out (left ++ x ∷ []) e (Some r)
  before x left d e r h =
      refused_more v leaves_out [] left x
      ∙ ap (λ o. first_of o (refused_at x
      (refusal_after v leaves_out (map item_payload left) (item_payload x)) None)) h

  after : (x : Item) (left : List Item) (d : List Payload) (o : Option Reason) →
      HoldsLeft v leaves_out left d None → refusal_after v leaves_out d (item_payload x) ≡ o →
      first_refused v leaves_out [] (left ++ x ∷ []) ≡ refused_at x o None
  after x left d o h e =
      refused_more v leaves_out [] left x
      ∙ ap (λ p. first_of p (refused_at x
      (refusal_after v leaves_out (map item_payload left) (item_payload x)) None)) h.0
      ∙ ap (λ p. refused_at x p None)
      (sym (same_refusal v leaves_out d (map item_payload left) (item_payload x) h.1) ∙ e)

  -- the payload of an item is added
  pub adds : (x : Item) (left : List Item) (d e : List Payload) → IsInRange (item_payload x) →
      refusal_after v leaves_out d (item_payload x) ≡ None → e ≡ with_payload (item_payload x) d →
      HoldsLeft v leaves_out left d None → HoldsLeft v leaves_out (left ++ x ∷ []) e None
  adds x left d e range none made h = (
    after x left d None h none,
    subst (λ l. Held e l) (sym (map-append item_payload left (x ∷ [])))
        (subst (λ l. Held l (map item_payload left ++ item_payload x ∷ [])) (sym made)
        (held_more v leaves_out d (map item_payload left) (item_payload x) h.1 range none)),
  )

  -- an item is the first that is refused
  pub refuses : (x : Item) (left : List Item) (d e : List Payload) (r : Refusal) →
      r ≡ record { place = x.place; reason = r.reason } →
      refusal_after v leaves_out d (item_payload x) ≡ Some r.reason →
      HoldsLeft v leaves_out left d None → HoldsLeft v leaves_out (left ++ x ∷ []) e (Some r)
  refuses x left d e r is some h = after x left d (Some r.reason) h some ∙ ap Some (sym is)

  -- ---- the end

  names : (left : List Item) (r : Refusal) (why : Reason) →
      first_refused v leaves_out [] left ≡ Some r → NamesFirst v leaves_out left r why
  names left r Memory e = tt
  names left r other e = e

  pub ends_refused : (left : List Item) (d : List Payload) (r : Refusal) →
      HoldsLeft v leaves_out left d (Some r) → NamesFirst v leaves_out left r r.reason
  ends_refused left d r h = names left r r.reason h

  pub ends : (left : List Item) (d : List Payload) (n : ℕ) → AreFit d →
      n ≡ min (length (lacked v d)) (2 ^ 64 - 1) → HoldsLeft v leaves_out left d None →
      GathersAll v leaves_out left d n
  ends left d n fit number h = record {
    payloads = record { in_order = h.1.in_order; members = h.1.members };
    none = h.0;
    others = number;
    sendable = sendable d h.1.ranges fit;
  }
