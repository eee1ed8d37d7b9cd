-- A change of the origins, the router keys or the ASPAs is a change of the data.
use Rattle.std.proofs.Common.{◌≡◌, ℕ, Bool, true, false, not, ◌&&◌, ◌||◌, cond, List, [], ◌∷◌, ◌++◌}
use Rattle.std.proofs.Common.{map, Option, Some, None, Result, Ok, Err, refl, sym, ap, ◌∙◌, subst}
use Rattle.std.specs.BTreeMap.{is_at, insert_entry}
use Rattle.std.specs.BTreeSet.{insert_key, replace_key}
use Rattle.std.specs.FinMap.{nat_cmp-IsAntisymmetric}
use Rattle.std.specs.List.{list_any, AllByRecursion}
use Rattle.std.specs.List.Sorted.{IsStrictlySortedBy}
use Rattle.std.specs.Map.{keys_of, lookup, remove_entry}
use Rattle.std.specs.Ordering.{is_eq, match_ordering, nat_cmp, on, ordering_then}
use Rattle.std.specs.Prelude.{is_some, IsOk}
use Rattle.std.specs.Set.{remove_key}
use Rattle.std.specs.declared.cmp.Ordering.{Ordering}
use Rattle.std.specs.declared.cmp.Ordering.TheVariants.{Less, Equal, Greater}
use Rattle.rtr_base.specs.declared.action.Action.{Action}
use Rattle.rtr_base.specs.declared.action.Action.TheVariants.{Announce, Withdraw}
use Rattle.rtr_payload.specs.Meanings.{origin_of, key_of}
use Rattle.rtr_payload.proofs.Orders.{aspa_chain, then_equal}
use Rattle.rtr_payload.specs.Orders.{list_cmp, payload_cmp}
use Rattle.rtr_payload.specs.Payloads.{AspaParts, Payload, aspa}
use Rattle.rtr_payload.specs.declared.payload.RouteOrigin.{RouteOrigin}
use Rattle.rtr_payload.specs.declared.payload.RouterKey.{RouterKey}
use Rattle.data_memory.specs.declared.change_error.ChangeError.{ChangeError}
use Rattle.data_memory.specs.declared.change_error.ChangeError.TheVariants.{Duplicate, Unknown}
use Rattle.data_memory.specs.Contents.{entry_of, joined, Makes}
use Rattle.data_memory.specs.Data.{name_cmp, takes_place, has, has_name, changed, IsData}
use Rattle.data_memory.proofs.Names.{as_first}
use Rattle.data_memory.proofs.Names.{absent_very, not_very}
use Rattle.data_memory.proofs.Segments.{Above, Below, no_name_below, replace_behind, remove_behind}
use Rattle.data_memory.proofs.Segments.{part_has, part_insert, part_remove}
use Rattle.data_memory.proofs.Segments.{all_map, all_append}

-- ---- a part between others

module _ {T : Type 0} (f : T → Payload) (c : T → T → Ordering)
    (same : (a b : T) → name_cmp (f a) (f b) ≡ c a b) (front : List Payload) (ks : List T)
    (rest : List Payload) (k : T) (below : Below (f k) front) (above : Above (f k) rest) where
  part_name : has_name (front ++ (map f ks ++ rest)) (f k) ≡ list_any (is_at (c k)) ks
  part_name =
      no_name_below (f k) front (map f ks ++ rest) below ∙ part_has f c same k ks rest above

  pub part_announced : takes_place (f k) ≡ false → list_any (is_at (c k)) ks ≡ false →
      changed Announce (f k) (front ++ (map f ks ++ rest)) ≡
      Ok (front ++ (map f (insert_key c ks k) ++ rest))
  part_announced t n =
      ap (λ b. cond (b && not (takes_place (f k))) (Err Duplicate)
      (Ok (replace_key name_cmp (front ++ (map f ks ++ rest)) (f k)))) (part_name ∙ n)
      ∙ ap (λ l. Ok l) (replace_behind (f k) front (map f ks ++ rest) below
      ∙ ap (λ l. front ++ l) (part_insert f c same k ks rest above n))

  pub part_duplicate : takes_place (f k) ≡ false → list_any (is_at (c k)) ks ≡ true →
      changed Announce (f k) (front ++ (map f ks ++ rest)) ≡ Err Duplicate
  part_duplicate t n =
      ap (λ b. cond (b && not (takes_place (f k))) (Err Duplicate)
      (Ok (replace_key name_cmp (front ++ (map f ks ++ rest)) (f k)))) (part_name ∙ n)
      ∙ ap (λ b. cond (not b) (Err Duplicate)
      (Ok (replace_key name_cmp (front ++ (map f ks ++ rest)) (f k)))) t

  pub part_gone : remove_key (is_at (name_cmp (f k))) (front ++ (map f ks ++ rest)) ≡
      front ++ (map f (remove_key (is_at (c k)) ks) ++ rest)
  part_gone =
      remove_behind (f k) front (map f ks ++ rest) below
      ∙ ap (λ l. front ++ l) (part_remove f c same k ks rest above)

  pub part_withdrawn : list_any (is_at (c k)) ks ≡ true →
      changed Withdraw (f k) (front ++ (map f ks ++ rest)) ≡
      Ok (front ++ (map f (remove_key (is_at (c k)) ks) ++ rest))
  part_withdrawn n =
      ap (λ b. cond b (Ok (remove_key (is_at (name_cmp (f k))) (front ++ (map f ks ++ rest))))
      (Err Unknown)) (part_name ∙ n)
      ∙ ap (λ l. Ok l) part_gone

  pub part_unknown : list_any (is_at (c k)) ks ≡ false →
      changed Withdraw (f k) (front ++ (map f ks ++ rest)) ≡ Err Unknown
  part_unknown n =
      ap (λ b. cond b (Ok (remove_key (is_at (name_cmp (f k))) (front ++ (map f ks ++ rest))))
      (Err Unknown)) (part_name ∙ n)

-- ---- the three kinds

pub origin_same : (a b : RouteOrigin) →
    name_cmp (origin_of a) (origin_of b) ≡ on origin_of payload_cmp a b
unfolding name_cmp
origin_same a b = refl

pub key_same : (a b : RouterKey) → name_cmp (key_of a) (key_of b) ≡ on key_of payload_cmp a b
unfolding name_cmp
key_same a b = refl

origin_plain : (o : RouteOrigin) → takes_place (origin_of o) ≡ false
unfolding takes_place
origin_plain o = refl

key_plain : (k : RouterKey) → takes_place (key_of k) ≡ false
unfolding takes_place
key_plain k = refl

entry_takes : (e : ℕ × List ℕ) → takes_place (entry_of e) ≡ true
unfolding takes_place
entry_takes e = refl

pub entry_same : (a : AspaParts) (e : ℕ × List ℕ) →
    name_cmp (aspa a) (entry_of e) ≡ nat_cmp a.customer e.0
unfolding name_cmp
entry_same a e = simp then_equal

pub origin_above : (o : RouteOrigin) (ks : List RouterKey) (es : List (ℕ × List ℕ)) →
    Above (origin_of o) (map key_of ks ++ map entry_of es)
unfolding name_cmp
origin_above o ks es =
    all_append _ (map key_of ks) (map entry_of es)
    (all_map (λ q. name_cmp (origin_of o) q ≡ Less) key_of (λ k. refl) ks)
    (all_map (λ q. name_cmp (origin_of o) q ≡ Less) entry_of (λ e. refl) es)

pub key_above : (k : RouterKey) (es : List (ℕ × List ℕ)) → Above (key_of k) (map entry_of es)
unfolding name_cmp
key_above k es = all_map (λ q. name_cmp (key_of k) q ≡ Less) entry_of (λ e. refl) es

pub key_below : (k : RouterKey) (os : List RouteOrigin) → Below (key_of k) (map origin_of os)
unfolding name_cmp
key_below k os = all_map (λ q. name_cmp (key_of k) q ≡ Greater) origin_of (λ o. refl) os

pub aspa_below_origins : (a : AspaParts) (os : List RouteOrigin) →
    Below (aspa a) (map origin_of os)
unfolding name_cmp
aspa_below_origins a os = all_map (λ q. name_cmp (aspa a) q ≡ Greater) origin_of (λ o. refl) os

pub aspa_below_keys : (a : AspaParts) (ks : List RouterKey) → Below (aspa a) (map key_of ks)
unfolding name_cmp
aspa_below_keys a ks = all_map (λ q. name_cmp (aspa a) q ≡ Greater) key_of (λ k. refl) ks

module _ (os : List RouteOrigin) (ks : List RouterKey) (es : List (ℕ × List ℕ)) where
  pub origin_announced : (o : RouteOrigin) →
      list_any (is_at (on origin_of payload_cmp o)) os ≡ false →
      changed Announce (origin_of o) (joined os ks es) ≡
      Ok (joined (insert_key (on origin_of payload_cmp) os o) ks es)
  origin_announced o n =
      part_announced origin_of (on origin_of payload_cmp) origin_same [] os
      (map key_of ks ++ map entry_of es) o tt (origin_above o ks es) (origin_plain o) n

  pub origin_duplicate : (o : RouteOrigin) →
      list_any (is_at (on origin_of payload_cmp o)) os ≡ true →
      changed Announce (origin_of o) (joined os ks es) ≡ Err Duplicate
  origin_duplicate o n =
      part_duplicate origin_of (on origin_of payload_cmp) origin_same [] os
      (map key_of ks ++ map entry_of es) o tt (origin_above o ks es) (origin_plain o) n

  pub origin_gone : (o : RouteOrigin) →
      remove_key (is_at (name_cmp (origin_of o))) (joined os ks es) ≡
      joined (remove_key (is_at (on origin_of payload_cmp o)) os) ks es
  origin_gone o =
      part_gone origin_of (on origin_of payload_cmp) origin_same [] os
      (map key_of ks ++ map entry_of es) o tt (origin_above o ks es)

  pub origin_withdrawn : (o : RouteOrigin) →
      list_any (is_at (on origin_of payload_cmp o)) os ≡ true →
      changed Withdraw (origin_of o) (joined os ks es) ≡
      Ok (joined (remove_key (is_at (on origin_of payload_cmp o)) os) ks es)
  origin_withdrawn o n =
      part_withdrawn origin_of (on origin_of payload_cmp) origin_same [] os
      (map key_of ks ++ map entry_of es) o tt (origin_above o ks es) n

  pub origin_unknown : (o : RouteOrigin) →
      list_any (is_at (on origin_of payload_cmp o)) os ≡ false →
      changed Withdraw (origin_of o) (joined os ks es) ≡ Err Unknown
  origin_unknown o n =
      part_unknown origin_of (on origin_of payload_cmp) origin_same [] os
      (map key_of ks ++ map entry_of es) o tt (origin_above o ks es) n

  pub key_announced : (k : RouterKey) → list_any (is_at (on key_of payload_cmp k)) ks ≡ false →
      changed Announce (key_of k) (joined os ks es) ≡
      Ok (joined os (insert_key (on key_of payload_cmp) ks k) es)
  key_announced k n =
      part_announced key_of (on key_of payload_cmp) key_same (map origin_of os) ks
      (map entry_of es) k (key_below k os) (key_above k es) (key_plain k) n

  pub key_duplicate : (k : RouterKey) → list_any (is_at (on key_of payload_cmp k)) ks ≡ true →
      changed Announce (key_of k) (joined os ks es) ≡ Err Duplicate
  key_duplicate k n =
      part_duplicate key_of (on key_of payload_cmp) key_same (map origin_of os) ks
      (map entry_of es) k (key_below k os) (key_above k es) (key_plain k) n

  pub key_gone : (k : RouterKey) →
      remove_key (is_at (name_cmp (key_of k))) (joined os ks es) ≡
      joined os (remove_key (is_at (on key_of payload_cmp k)) ks) es
  key_gone k =
      part_gone key_of (on key_of payload_cmp) key_same (map origin_of os) ks
      (map entry_of es) k (key_below k os) (key_above k es)

  pub key_withdrawn : (k : RouterKey) → list_any (is_at (on key_of payload_cmp k)) ks ≡ true →
      changed Withdraw (key_of k) (joined os ks es) ≡
      Ok (joined os (remove_key (is_at (on key_of payload_cmp k)) ks) es)
  key_withdrawn k n =
      part_withdrawn key_of (on key_of payload_cmp) key_same (map origin_of os) ks
      (map entry_of es) k (key_below k os) (key_above k es) n

  pub key_unknown : (k : RouterKey) → list_any (is_at (on key_of payload_cmp k)) ks ≡ false →
      changed Withdraw (key_of k) (joined os ks es) ≡ Err Unknown
  key_unknown k n =
      part_unknown key_of (on key_of payload_cmp) key_same (map origin_of os) ks
      (map entry_of es) k (key_below k os) (key_above k es) n

-- ---- entries

put_entry_at : (a : AspaParts) (e : ℕ × List ℕ) (es : List (ℕ × List ℕ)) (tail : List Payload) →
    tail ≡ map entry_of (insert_entry nat_cmp es a.customer a.providers) →
    (o : Ordering) → nat_cmp a.customer e.0 ≡ o →
    match_ordering o (aspa a ∷ entry_of e ∷ map entry_of es) (aspa a ∷ map entry_of es)
    (entry_of e ∷ tail) ≡
    map entry_of (match_ordering o ((a.customer, a.providers) ∷ e ∷ es)
    ((e.0, a.providers) ∷ es) (e ∷ insert_entry nat_cmp es a.customer a.providers))
put_entry_at a e es tail h Less q = refl
put_entry_at a e es tail h Equal q =
    ap (λ n. entry_of (n, a.providers) ∷ map entry_of es) (nat_cmp-IsAntisymmetric a.customer e.0 q)
put_entry_at a e es tail h Greater q = ap (λ l. entry_of e ∷ l) h

put_entry : (a : AspaParts) (es : List (ℕ × List ℕ)) →
    replace_key name_cmp (map entry_of es) (aspa a) ≡
    map entry_of (insert_entry nat_cmp es a.customer a.providers)
put_entry a [] = refl
put_entry a (e ∷ es) =
    ap (λ o. match_ordering o (aspa a ∷ entry_of e ∷ map entry_of es) (aspa a ∷ map entry_of es)
    (entry_of e ∷ replace_key name_cmp (map entry_of es) (aspa a))) (entry_same a e)
    ∙ put_entry_at a e es (replace_key name_cmp (map entry_of es) (aspa a)) (put_entry a es)
    (nat_cmp a.customer e.0) refl

take_entry_at : (e : ℕ × List ℕ) (es gone : List (ℕ × List ℕ)) (tail : List Payload) (b : Bool) →
    tail ≡ map entry_of gone →
    cond b (map entry_of es) (entry_of e ∷ tail) ≡ map entry_of (cond b es (e ∷ gone))
take_entry_at e es gone tail true h = refl
take_entry_at e es gone tail false h = ap (λ l. entry_of e ∷ l) h

take_entry : (a : AspaParts) (es : List (ℕ × List ℕ)) →
    remove_key (is_at (name_cmp (aspa a))) (map entry_of es) ≡
    map entry_of (remove_entry (is_at (nat_cmp a.customer)) es)
take_entry a [] = refl
take_entry a (e ∷ es) =
    ap (λ o. cond (is_eq o) (map entry_of es)
    (entry_of e ∷ remove_key (is_at (name_cmp (aspa a))) (map entry_of es))) (entry_same a e)
    ∙ take_entry_at e es (remove_entry (is_at (nat_cmp a.customer)) es) _
    (is_eq (nat_cmp a.customer e.0)) (take_entry a es)

some_at : (e : ℕ × List ℕ) (es : List (ℕ × List ℕ)) (test : ℕ → Bool) (b : Bool) (n : Bool) →
    n ≡ is_some (lookup test es) → (b || n) ≡ is_some (cond b (Some e.1) (lookup test es))
some_at e es test true n h = refl
some_at e es test false n h = h

pub entry_name : (a : AspaParts) (es : List (ℕ × List ℕ)) →
    has_name (map entry_of es) (aspa a) ≡ is_some (lookup (is_at (nat_cmp a.customer)) es)
entry_name a [] = refl
entry_name a (e ∷ es) =
    ap (λ o. is_eq o || has_name (map entry_of es) (aspa a)) (entry_same a e)
    ∙ some_at e es (is_at (nat_cmp a.customer)) (is_eq (nat_cmp a.customer e.0))
    (has_name (map entry_of es) (aspa a)) (entry_name a es)

aspa_takes : (a : AspaParts) → takes_place (aspa a) ≡ true
unfolding takes_place
aspa_takes a = refl

no_and : (b : Bool) → (b && false) ≡ false
no_and true = refl
no_and false = refl

module _ (os : List RouteOrigin) (ks : List RouterKey) (es : List (ℕ × List ℕ))
    (a : AspaParts) where
  aspa_name : has_name (joined os ks es) (aspa a) ≡
      is_some (lookup (is_at (nat_cmp a.customer)) es)
  aspa_name =
      no_name_below (aspa a) (map origin_of os) (map key_of ks ++ map entry_of es)
      (aspa_below_origins a os)
      ∙ no_name_below (aspa a) (map key_of ks) (map entry_of es) (aspa_below_keys a ks)
      ∙ entry_name a es

  pub aspa_announced : changed Announce (aspa a) (joined os ks es) ≡
      Ok (joined os ks (insert_entry nat_cmp es a.customer a.providers))
  aspa_announced =
      ap (λ b. cond (has_name (joined os ks es) (aspa a) && not b) (Err Duplicate)
      (Ok (replace_key name_cmp (joined os ks es) (aspa a)))) (aspa_takes a)
      ∙ ap (λ b. cond b (Err Duplicate) (Ok (replace_key name_cmp (joined os ks es) (aspa a))))
      (no_and (has_name (joined os ks es) (aspa a)))
      ∙ ap (λ l. Ok l)
      (replace_behind (aspa a) (map origin_of os) (map key_of ks ++ map entry_of es)
      (aspa_below_origins a os)
      ∙ ap (λ l. map origin_of os ++ l)
      (replace_behind (aspa a) (map key_of ks) (map entry_of es) (aspa_below_keys a ks)
      ∙ ap (λ l. map key_of ks ++ l) (put_entry a es)))

  pub aspa_gone : remove_key (is_at (name_cmp (aspa a))) (joined os ks es) ≡
      joined os ks (remove_entry (is_at (nat_cmp a.customer)) es)
  aspa_gone =
      remove_behind (aspa a) (map origin_of os) (map key_of ks ++ map entry_of es)
      (aspa_below_origins a os)
      ∙ ap (λ l. map origin_of os ++ l)
      (remove_behind (aspa a) (map key_of ks) (map entry_of es) (aspa_below_keys a ks)
      ∙ ap (λ l. map key_of ks ++ l) (take_entry a es))

  pub aspa_withdrawn : is_some (lookup (is_at (nat_cmp a.customer)) es) ≡ true →
      changed Withdraw (aspa a) (joined os ks es) ≡
      Ok (joined os ks (remove_entry (is_at (nat_cmp a.customer)) es))
  aspa_withdrawn n =
      ap (λ b. cond b (Ok (remove_key (is_at (name_cmp (aspa a))) (joined os ks es)))
      (Err Unknown)) (aspa_name ∙ n)
      ∙ ap (λ l. Ok l) aspa_gone

  pub aspa_unknown : is_some (lookup (is_at (nat_cmp a.customer)) es) ≡ false →
      changed Withdraw (aspa a) (joined os ks es) ≡ Err Unknown
  aspa_unknown n =
      ap (λ b. cond b (Ok (remove_key (is_at (name_cmp (aspa a))) (joined os ks es)))
      (Err Unknown)) (aspa_name ∙ n)

-- ---- a change of a value, by what the value is

pub moved : (action : Action) {p q : Payload} {old d : List Payload}
    {r : Result (List Payload) ChangeError} → p ≡ q → d ≡ old → changed action q d ≡ r →
    changed action p old ≡ r
moved action {p = p} {q = q} {old = old} {d = d} e v h =
    ap (λ x. changed action x old) e ∙ ap (λ l. changed action q l) (sym v) ∙ h

-- what is not refused
pub granted : {r : Result (List Payload) ChangeError} (d : List Payload) → r ≡ Ok d → IsOk r
granted d e = subst (λ x. IsOk x) (sym e) refl

-- what a withdrawal leaves
pub left_changed : {T : Type 0} {r : Result T ChangeError} {t : T}
    {wanted : Result (List Payload) ChangeError} (old : List Payload) {new : List Payload} →
    r ≡ Ok t → wanted ≡ Ok new → Makes r wanted old new
left_changed {wanted = wanted} old {new = new} e h =
    subst (λ x. Makes x wanted old new) (sym e) h

pub left_unknown : {T : Type 0} {r : Result T ChangeError}
    {wanted : Result (List Payload) ChangeError} {old new : List Payload} → r ≡ Err Unknown →
    wanted ≡ Err Unknown → new ≡ old → Makes r wanted old new
left_unknown {wanted = wanted} {old = old} {new = new} e h s =
    subst (λ x. Makes x wanted old new) (sym e) (h, s)

-- ---- the very payload

pub very_below : (p : Payload) (front ds : List Payload) → Below p front →
    has (front ++ ds) p ≡ has ds p
very_below p [] ds h = refl
very_below p (x ∷ xs) ds (g, h) =
    ap (λ b. b || has (xs ++ ds) p) (not_very p x (ap is_eq g)) ∙ very_below p xs ds h

pub part_very : {T : Type 0} (f : T → Payload) (k : T) (ks : List T) (rest : List Payload) →
    Above (f k) rest →
    has (map f ks ++ rest) (f k) ≡ list_any (is_at (on f payload_cmp k)) ks
part_very f k [] rest h = absent_very (f k) rest h
part_very f k (x ∷ ks) rest h =
    ap (λ b. is_eq (payload_cmp (f k) (f x)) || b) (part_very f k ks rest h)

-- whether these are the providers, where there are any
abbrev pub just_these : Option (List ℕ) → List ℕ → Bool
just_these None ps = false
just_these (Some qs) ps = is_eq (list_cmp ps qs)

entries_after : (e : ℕ × List ℕ) (es : List (ℕ × List ℕ)) →
    AllByRecursion (λ k. nat_cmp e.0 k ≡ Less) (keys_of es) → Above (entry_of e) (map entry_of es)
entries_after e [] h = tt
entries_after e (x ∷ es) (g, h) =
    (entry_same (record { customer = e.0; providers = e.1 }) x ∙ g, entries_after e es h)

entries_above : (a : AspaParts) (e : ℕ × List ℕ) (es : List (ℕ × List ℕ)) →
    nat_cmp a.customer e.0 ≡ Equal → AllByRecursion (λ k. nat_cmp e.0 k ≡ Less) (keys_of es) →
    Above (aspa a) (map entry_of es)
entries_above a e es h s =
    as_first (aspa a) (entry_of e) (entry_same a e ∙ h) (map entry_of es) (entries_after e es s)

or_nothing : (b : Bool) → (b || false) ≡ b
or_nothing true = refl
or_nothing false = refl

very_entry_at : (a : AspaParts) (e : ℕ × List ℕ) (es : List (ℕ × List ℕ)) →
    AllByRecursion (λ k. nat_cmp e.0 k ≡ Less) (keys_of es) →
    has (map entry_of es) (aspa a) ≡
    just_these (lookup (is_at (nat_cmp a.customer)) es) a.providers →
    (o : Ordering) → nat_cmp a.customer e.0 ≡ o →
    (is_eq (ordering_then o (list_cmp a.providers e.1)) || has (map entry_of es) (aspa a)) ≡
    just_these (cond (is_eq o) (Some e.1) (lookup (is_at (nat_cmp a.customer)) es)) a.providers
very_entry_at a e es s ih Less h = ih
very_entry_at a e es s ih Equal h =
    ap (λ b. is_eq (list_cmp a.providers e.1) || b)
    (absent_very (aspa a) (map entry_of es) (entries_above a e es h s))
    ∙ or_nothing (is_eq (list_cmp a.providers e.1))
very_entry_at a e es s ih Greater h = ih

pub very_entry : (a : AspaParts) (es : List (ℕ × List ℕ)) →
    IsStrictlySortedBy nat_cmp (keys_of es) →
    has (map entry_of es) (aspa a) ≡
    just_these (lookup (is_at (nat_cmp a.customer)) es) a.providers
unfolding IsStrictlySortedBy
very_entry a [] s = refl
very_entry a (e ∷ es) (g, s) =
    ap (λ o. is_eq o || has (map entry_of es) (aspa a))
    (aspa_chain a (record { customer = e.0; providers = e.1 }))
    ∙ very_entry_at a e es g (very_entry a es s) (nat_cmp a.customer e.0) refl

module _ (os : List RouteOrigin) (ks : List RouterKey) (es : List (ℕ × List ℕ)) where
  pub origin_there : (o : RouteOrigin) →
      has (joined os ks es) (origin_of o) ≡ list_any (is_at (on origin_of payload_cmp o)) os
  origin_there o =
      part_very origin_of o os (map key_of ks ++ map entry_of es) (origin_above o ks es)

  pub key_there : (k : RouterKey) →
      has (joined os ks es) (key_of k) ≡ list_any (is_at (on key_of payload_cmp k)) ks
  key_there k =
      very_below (key_of k) (map origin_of os) (map key_of ks ++ map entry_of es) (key_below k os)
      ∙ part_very key_of k ks (map entry_of es) (key_above k es)

  pub aspa_there : (a : AspaParts) → IsStrictlySortedBy nat_cmp (keys_of es) →
      has (joined os ks es) (aspa a) ≡
      just_these (lookup (is_at (nat_cmp a.customer)) es) a.providers
  aspa_there a s =
      very_below (aspa a) (map origin_of os) (map key_of ks ++ map entry_of es)
      (aspa_below_origins a os)
      ∙ very_below (aspa a) (map key_of ks) (map entry_of es) (aspa_below_keys a ks)
      ∙ very_entry a es s

-- ---- the parts in order

all_mapped : {T : Type 0} (f : T → Payload) (c : T → T → Ordering) →
    ((a b : T) → name_cmp (f a) (f b) ≡ c a b) → (k : T) (ks : List T) →
    AllByRecursion (λ x. c k x ≡ Less) ks → Above (f k) (map f ks)
all_mapped f c same k [] h = tt
all_mapped f c same k (x ∷ ks) (g, h) = (same k x ∙ g, all_mapped f c same k ks h)

sorted_map : {T : Type 0} (f : T → Payload) (c : T → T → Ordering) →
    ((a b : T) → name_cmp (f a) (f b) ≡ c a b) → (ks : List T) → IsStrictlySortedBy c ks →
    IsData (map f ks)
unfolding IsStrictlySortedBy
sorted_map f c same [] s = tt
sorted_map f c same (k ∷ ks) (g, s) = (all_mapped f c same k ks g, sorted_map f c same ks s)

sorted_append : (xs ys : List Payload) → IsData xs → IsData ys →
    AllByRecursion (λ x. Above x ys) xs → IsData (xs ++ ys)
unfolding IsStrictlySortedBy
sorted_append [] ys s t a = t
sorted_append (x ∷ xs) ys (g, s) t (h, a) =
    (all_append (λ q. name_cmp x q ≡ Less) xs ys g h, sorted_append xs ys s t a)

sorted_entries : (es : List (ℕ × List ℕ)) → IsStrictlySortedBy nat_cmp (keys_of es) →
    IsData (map entry_of es)
unfolding IsStrictlySortedBy
sorted_entries [] s = tt
sorted_entries (e ∷ es) (g, s) =
    (entries_after e es g, sorted_entries es s)

pub joined_data : (os : List RouteOrigin) (ks : List RouterKey) (es : List (ℕ × List ℕ)) →
    IsStrictlySortedBy (on origin_of payload_cmp) os →
    IsStrictlySortedBy (on key_of payload_cmp) ks → IsStrictlySortedBy nat_cmp (keys_of es) →
    IsData (joined os ks es)
joined_data os ks es s t u =
    sorted_append (map origin_of os) (map key_of ks ++ map entry_of es)
    (sorted_map origin_of (on origin_of payload_cmp) origin_same os s)
    (sorted_append (map key_of ks) (map entry_of es)
    (sorted_map key_of (on key_of payload_cmp) key_same ks t) (sorted_entries es u)
    (all_map (λ x. Above x (map entry_of es)) key_of (λ k. key_above k es) ks))
    (all_map (λ x. Above x (map key_of ks ++ map entry_of es)) origin_of
    (λ o. origin_above o ks es) os)

pub there_is : {b : Bool} {p q : Payload} {old d : List Payload} → p ≡ q → d ≡ old →
    b ≡ has d q → b ≡ has old p
there_is {p = p} {q = q} {old = old} {d = d} e v h =
    h ∙ ap (λ l. has l q) v ∙ ap (λ x. has old x) (sym e)
