-- A part of data and the same part of other data that are gone over at once.
use Rattle.std.proofs.Common.{◌≡◌, ℕ, Bool, true, false, not, ◌||◌, cond, List, [], ◌∷◌, ◌++◌}
use Rattle.std.proofs.Common.{map, Option, Some, None, refl, sym, ap, ◌∙◌, subst}
use Rattle.std.proofs.lemmas.List.{map-append}
use Rattle.std.proofs.lemmas.List.Elements.{filter-append}
use Rattle.std.specs.Cmp.{tied_back}
use Rattle.std.specs.List.{AllByRecursion}
use Rattle.std.specs.List.Sorted.{IsStrictlySortedBy}
use Rattle.std.specs.Map.Iter.{TakesFirst}
use Rattle.std.specs.Ordering.{is_eq, ordering_then}
use Rattle.std.specs.declared.cmp.Ordering.TheVariants.{Less, Equal, Greater}
use Rattle.rtr_base.specs.declared.action.Action.{Action}
use Rattle.rtr_base.specs.declared.action.Action.TheVariants.{Announce, Withdraw}
use Rattle.rtr_payload.proofs.Orders.{aspa_chain, payload_same}
use Rattle.rtr_payload.specs.Orders.{list_cmp, payload_cmp}
use Rattle.rtr_payload.specs.Payloads.{AspaParts, Payload}
use Rattle.rtr_payload.specs.Meanings.{key_of, origin_of}
use Rattle.rtr_payload.specs.declared.payload.RouteOrigin.{RouteOrigin}
use Rattle.rtr_payload.specs.declared.payload.RouterKey.{RouterKey}
use Rattle.data_memory.specs.Contents.{entry_of, joined}
use Rattle.data_memory.specs.Data.{IsData, has, has_name, name_cmp, takes_place}
use Rattle.data_memory.proofs.Names.{above, absent, absent_very, as_first, below, below_all}
use Rattle.data_memory.proofs.Names.{name_total, not_very, one_of_name}
use Rattle.data_memory.proofs.Segments.{Above, Below, all_map, no_name_below}
use Rattle.data_memory.proofs.Parts.{aspa_below_keys, aspa_below_origins, key_above, key_below}
use Rattle.data_memory.proofs.Parts.{entry_same, origin_above, very_below}
use Rattle.diff_work.specs.PrivateChanges.{behind, change_by, changed_in, changes_by}
use Rattle.diff_work.specs.PrivateChanges.{is_changed}

-- ---- data in order

first_above : (p : Payload) (ps : List Payload) → IsData (p ∷ ps) → Above p ps
unfolding IsStrictlySortedBy
first_above p ps (a, s) = a

pub rest_ordered : (p : Payload) (ps : List Payload) → IsData (p ∷ ps) → IsData ps
unfolding IsStrictlySortedBy
rest_ordered p ps (a, s) = s

pub none_ordered : IsData []
unfolding IsStrictlySortedBy
none_ordered = tt

-- ---- a payload below or above the others

-- what is below all others is changed
below_changed : (action : Action) (p : Payload) (os : List Payload) → Above p os →
    is_changed action os p ≡ true
below_changed Announce p os h = ap not (absent_very p os h)
below_changed Withdraw p os h = ap not (absent p os h)

first_below : (p o : Payload) (os : List Payload) → IsData (o ∷ os) → name_cmp p o ≡ Less →
    Above p (o ∷ os)
first_below p o os s e = (e, below_all p o e os (first_above o os s))

-- whether a payload is changed doesn't depend on another one below it
past_one : (action : Action) (o : Payload) (os : List Payload) (q : Payload) →
    name_cmp o q ≡ Less → is_changed action (o ∷ os) q ≡ is_changed action os q
past_one Announce o os q h =
    ap (λ b. not (b || has os q)) (not_very q o (ap is_eq (above o q h)))
past_one Withdraw o os q h = ap (λ c. not (is_eq c || has_name os q)) (above o q h)

past : (action : Action) (o : Payload) (os qs : List Payload) → Above o qs →
    changed_in action (o ∷ os) qs ≡ changed_in action os qs
past action o os [] h = refl
past action o os (q ∷ qs) (g, h) =
    λ i. cond (past_one action o os q g i) (q ∷ past action o os qs h i) (past action o os qs h i)

-- the later members are above the other payload
above_same : (p o : Payload) (ps : List Payload) → IsData (p ∷ ps) → name_cmp p o ≡ Equal →
    Above o ps
above_same p o ps s e = as_first o p (tied_back name_total p o e) ps (first_above p ps s)

above_lower : (p o : Payload) (ps : List Payload) → IsData (p ∷ ps) → name_cmp p o ≡ Greater →
    Above o (p ∷ ps)
above_lower p o ps s e =
    (below p o e, below_all o p (below p o e) ps (first_above p ps s))

-- ---- steps

keeps : (action : Action) (os ps : List Payload) (p : Payload) → is_changed action os p ≡ true →
    changed_in action os (p ∷ ps) ≡ p ∷ changed_in action os ps
keeps action os ps p e = ap (λ b. cond b (p ∷ changed_in action os ps) (changed_in action os ps)) e

-- of all changed payloads those of these members are left, by the others that aren't passed
pub record Passing (action : Action) (all : List Payload) (p : Payload)
    (ps os : List Payload) : Type 0 where
  pub members : IsData (p ∷ ps)
  pub others : IsData os
  pub rest : all ≡ changed_in action os (p ∷ ps)

pub same_changed : (action : Action) {os later ps left : List Payload} → later ≡ os →
    left ≡ ps → changed_in action later left ≡ changed_in action os ps
same_changed action e h = λ i. changed_in action (e i) (h i)

pub none_changed : (action : Action) (os ps : List Payload) → ps ≡ [] →
    changed_in action os ps ≡ []
none_changed action os ps is = ap (changed_in action os) is

pub passing_begins : (action : Action) (p : Payload) (members ps os : List Payload) →
    members ≡ p ∷ ps → IsData members → IsData os →
    Passing action (changed_in action os members) p ps os
passing_begins action p members ps os is s t = record {
  members = subst (λ l. IsData l) is s;
  others = t;
  rest = ap (changed_in action os) is;
}

-- the next payload was taken: with it those that are left are what they were
behind_taken : {T : Type 0} (meant : T → Payload) (old new : List Payload) (r : Option T) →
    TakesFirst meant old r new → behind meant r new ≡ old
behind_taken meant old new None (e, f) = sym e
behind_taken meant old new (Some x) e = sym e

pub next_as : (p q : Payload) (ps qs : List Payload) → ps ≡ p ∷ qs → q ≡ p → ps ≡ q ∷ qs
next_as p q ps qs is e = is ∙ ap (λ x. x ∷ qs) (sym e)

-- the next other payload is passed, and the one after it taken
pub other_taken : {T : Type 0} (meant : T → Payload) (other : Option T) (o : T)
    (old new : List Payload) (r : Option T) → other ≡ Some o → TakesFirst meant old r new →
    behind meant other old ≡ meant o ∷ behind meant r new
other_taken meant other o old new r is took =
    ap (λ x. behind meant x old) is
    ∙ ap (λ l. meant o ∷ l) (sym (behind_taken meant old new r took))

pub later_ordered : (o : Payload) (os later : List Payload) → os ≡ o ∷ later → IsData os →
    IsData later
later_ordered o os later is s = rest_ordered o later (subst (λ l. IsData l) is s)

-- no other payload is left
pub no_other : (action : Action) (all : List Payload) (p : Payload) (ps os : List Payload) →
    Passing action all p ps os → os ≡ [] → all ≡ p ∷ changed_in action os ps
no_other action all p ps os i is =
    i.rest ∙ keeps action os ps p
    (below_changed action p os (subst (λ l. Above p l) (sym is) tt))

-- the next other payload is above the member
pub is_below : (action : Action) (all : List Payload) (p o : Payload) (ps os later : List Payload) →
    Passing action all p ps os → os ≡ o ∷ later → name_cmp p o ≡ Less →
    all ≡ p ∷ changed_in action os ps
is_below action all p o ps os later i is e =
    i.rest ∙ keeps action os ps p
    (below_changed action p os
    (subst (λ l. Above p l) (sym is)
    (first_below p o later (subst (λ l. IsData l) is i.others) e)))

-- it is below the member, and is passed
pub is_above : (action : Action) (all : List Payload) (p o : Payload) (ps os later : List Payload) →
    Passing action all p ps os → os ≡ o ∷ later → name_cmp p o ≡ Greater →
    Passing action all p ps later
is_above action all p o ps os later i is e = record {
  members = i.members;
  others = later_ordered o os later is i.others;
  rest = i.rest ∙ ap (λ l. changed_in action l (p ∷ ps)) is
      ∙ past action o later (p ∷ ps) (above_lower p o ps i.members e);
}

-- it is of the member's name, and is passed with it
same_name : (action : Action) (p o : Payload) (os : List Payload) → IsData (o ∷ os) →
    name_cmp p o ≡ Equal → is_changed action (o ∷ os) p ≡ is_changed action (o ∷ []) p
same_name Announce p o os s e =
    ap (λ b. not (is_eq (payload_cmp p o) || b))
    (absent_very p os (as_first p o e os (first_above o os s)))
same_name Withdraw p o os s e =
    ap (λ b. not (is_eq (name_cmp p o) || b))
    (absent p os (as_first p o e os (first_above o os s)))

both_passed : (action : Action) (all : List Payload) (p o : Payload) (ps os later : List Payload)
    (b : Bool) → Passing action all p ps os → os ≡ o ∷ later → name_cmp p o ≡ Equal →
    is_changed action (o ∷ []) p ≡ b →
    all ≡ cond b (p ∷ changed_in action later ps) (changed_in action later ps)
both_passed action all p o ps os later b i is e asked =
    i.rest ∙ ap (λ l. changed_in action l (p ∷ ps)) is
    ∙ ap (λ c. cond c (p ∷ changed_in action (o ∷ later) ps) (changed_in action (o ∷ later) ps))
    (same_name action p o later (subst (λ l. IsData l) is i.others) e ∙ asked)
    ∙ ap (λ l. cond b (p ∷ l) l) (past action o later ps (above_same p o ps i.members e))

pub is_replaced : (action : Action) (all : List Payload) (p o : Payload)
    (ps os later : List Payload) → Passing action all p ps os → os ≡ o ∷ later →
    name_cmp p o ≡ Equal → is_changed action (o ∷ []) p ≡ true →
    all ≡ p ∷ changed_in action later ps
is_replaced action all p o ps os later i is e asked =
    both_passed action all p o ps os later true i is e asked

pub is_same : (action : Action) (all : List Payload) (p o : Payload)
    (ps os later : List Payload) → Passing action all p ps os → os ≡ o ∷ later →
    name_cmp p o ≡ Equal → is_changed action (o ∷ []) p ≡ false →
    all ≡ changed_in action later ps
is_same action all p o ps os later i is e asked =
    both_passed action all p o ps os later false i is e asked

-- the next member is taken
pub passing_on : (action : Action) (all : List Payload) (q : Payload) (ps qs os : List Payload) →
    all ≡ changed_in action os ps → ps ≡ q ∷ qs → IsData ps → IsData os →
    Passing action all q qs os
passing_on action all q ps qs os rest is s t = record {
  members = subst (λ l. IsData l) is s;
  others = t;
  rest = rest ∙ ap (changed_in action os) is;
}

-- ---- payloads of one name

or_false : (b : Bool) → (b || false) ≡ b
or_false true = refl
or_false false = refl

-- two that aren't ASPAs are one
plain_same : (p o : Payload) → takes_place p ≡ false → name_cmp p o ≡ Equal →
    false ≡ is_changed Announce (o ∷ []) p
plain_same p o plain e =
    sym (ap (λ x. not (is_eq x || false)) ((payload_same p o).1 (one_of_name p o e plain)))

pub same_origin : (a b : RouteOrigin) → name_cmp (origin_of a) (origin_of b) ≡ Equal →
    false ≡ is_changed Announce (origin_of b ∷ []) (origin_of a)
unfolding takes_place
same_origin a b e = plain_same (origin_of a) (origin_of b) refl e

pub same_key : (a b : RouterKey) → name_cmp (key_of a) (key_of b) ≡ Equal →
    false ≡ is_changed Announce (key_of b ∷ []) (key_of a)
unfolding takes_place
same_key a b e = plain_same (key_of a) (key_of b) refl e

-- two ASPAs are one if their providers are
pub aspa_replaces : (a b : ℕ × List ℕ) → name_cmp (entry_of a) (entry_of b) ≡ Equal →
    not (is_eq (list_cmp a.1 b.1)) ≡ is_changed Announce (entry_of b ∷ []) (entry_of a)
aspa_replaces a b e =
    let x : AspaParts = record { customer = a.0; providers = a.1 } in
    let y : AspaParts = record { customer = b.0; providers = b.1 } in
    sym (ap not (or_false (is_eq (payload_cmp (entry_of a) (entry_of b))))
    ∙ ap (λ o. not (is_eq o)) (aspa_chain x y)
    ∙ ap (λ o. not (is_eq (ordering_then o (list_cmp a.1 b.1)))) (sym (entry_same x b) ∙ e))

-- ---- parts of other data

-- the same payloads are changed if other data make each of them one
alike : (action : Action) (os qs ps : List Payload) →
    AllByRecursion (λ p. is_changed action os p ≡ is_changed action qs p) ps →
    changed_in action os ps ≡ changed_in action qs ps
alike action os qs [] h = refl
alike action os qs (p ∷ ps) (g, h) =
    λ i. cond (g i) (p ∷ alike action os qs ps h i) (alike action os qs ps h i)

has_before : (p : Payload) (xs ys : List Payload) → Above p ys → has (xs ++ ys) p ≡ has xs p
has_before p [] ys h = absent_very p ys h
has_before p (x ∷ xs) ys h = ap (λ b. is_eq (payload_cmp p x) || b) (has_before p xs ys h)

named_before : (p : Payload) (xs ys : List Payload) → Above p ys →
    has_name (xs ++ ys) p ≡ has_name xs p
named_before p [] ys h = absent p ys h
named_before p (x ∷ xs) ys h = ap (λ b. is_eq (name_cmp p x) || b) (named_before p xs ys h)

changed_before : (action : Action) (p : Payload) (xs ys : List Payload) → Above p ys →
    is_changed action (xs ++ ys) p ≡ is_changed action xs p
changed_before Announce p xs ys h = ap not (has_before p xs ys h)
changed_before Withdraw p xs ys h = ap not (named_before p xs ys h)

changed_behind : (action : Action) (p : Payload) (xs ys : List Payload) → Below p xs →
    is_changed action (xs ++ ys) p ≡ is_changed action ys p
changed_behind Announce p xs ys h = ap not (very_below p xs ys h)
changed_behind Withdraw p xs ys h = ap not (no_name_below p xs ys h)

-- other data of which these are the origins, the keys and the ASPAs
module _ (action : Action) (os : List RouteOrigin) (ks : List RouterKey)
    (es : List (ℕ × List ℕ)) where
  of_origins : (ps : List RouteOrigin) →
      changed_in action (joined os ks es) (map origin_of ps) ≡
      changed_in action (map origin_of os) (map origin_of ps)
  of_origins ps =
      alike action (joined os ks es) (map origin_of os) (map origin_of ps)
      (all_map _ origin_of
      (λ o. changed_before action (origin_of o) (map origin_of os)
      (map key_of ks ++ map entry_of es) (origin_above o ks es)) ps)

  of_keys : (ps : List RouterKey) →
      changed_in action (joined os ks es) (map key_of ps) ≡
      changed_in action (map key_of ks) (map key_of ps)
  of_keys ps =
      alike action (joined os ks es) (map key_of ks) (map key_of ps)
      (all_map _ key_of
      (λ k. changed_behind action (key_of k) (map origin_of os)
      (map key_of ks ++ map entry_of es) (key_below k os)
      ∙ changed_before action (key_of k) (map key_of ks) (map entry_of es) (key_above k es)) ps)

  of_aspas : (ps : List (ℕ × List ℕ)) →
      changed_in action (joined os ks es) (map entry_of ps) ≡
      changed_in action (map entry_of es) (map entry_of ps)
  of_aspas ps =
      alike action (joined os ks es) (map entry_of es) (map entry_of ps)
      (all_map _ entry_of
      (λ e. changed_behind action (entry_of e) (map origin_of os)
      (map key_of ks ++ map entry_of es)
      (aspa_below_origins (record { customer = e.0; providers = e.1 }) os)
      ∙ changed_behind action (entry_of e) (map key_of ks) (map entry_of es)
      (aspa_below_keys (record { customer = e.0; providers = e.1 }) ks)) ps)

by_append : (action : Action) (other ps qs : List Payload) →
    changes_by action other (ps ++ qs) ≡ changes_by action other ps ++ changes_by action other qs
by_append action other ps qs =
    ap (map (change_by action)) (filter-append (is_changed action other) ps qs)
    ∙ map-append (change_by action) (changed_in action other ps) (changed_in action other qs)

-- the changes of one action are those of each part by the same part of the other data
pub three_parts : (action : Action) (other d : List Payload) (os ps : List RouteOrigin)
    (ks qs : List RouterKey) (es rs : List (ℕ × List ℕ)) → other ≡ joined os ks es →
    d ≡ joined ps qs rs →
    changes_by action other d ≡
    changes_by action (map origin_of os) (map origin_of ps)
    ++ (changes_by action (map key_of ks) (map key_of qs)
    ++ changes_by action (map entry_of es) (map entry_of rs))
three_parts action other d os ps ks qs es rs beside is =
    let by = map (change_by action) in
    ap (λ l. changes_by action l d) beside
    ∙ ap (changes_by action (joined os ks es)) is
    ∙ by_append action (joined os ks es) (map origin_of ps) (map key_of qs ++ map entry_of rs)
    ∙ ap (λ l. changes_by action (joined os ks es) (map origin_of ps) ++ l)
    (by_append action (joined os ks es) (map key_of qs) (map entry_of rs))
    ∙ (λ i. by (of_origins action os ks es ps i)
    ++ (by (of_keys action os ks es qs i) ++ by (of_aspas action os ks es rs i)))

-- ---- parts of data in order

all_front : (P : Payload → Type 0) (xs ys : List Payload) → AllByRecursion P (xs ++ ys) →
    AllByRecursion P xs
all_front P [] ys h = tt
all_front P (x ∷ xs) ys (g, h) = (g, all_front P xs ys h)

front_ordered : (xs ys : List Payload) → IsData (xs ++ ys) → IsData xs
unfolding IsStrictlySortedBy
front_ordered [] ys s = tt
front_ordered (x ∷ xs) ys (a, s) = (all_front _ xs ys a, front_ordered xs ys s)

back_ordered : (xs ys : List Payload) → IsData (xs ++ ys) → IsData ys
back_ordered [] ys s = s
back_ordered (x ∷ xs) ys s = back_ordered xs ys (rest_ordered x (xs ++ ys) s)

module _ (d : List Payload) (os : List RouteOrigin) (ks : List RouterKey)
    (es : List (ℕ × List ℕ)) (is : d ≡ joined os ks es) (s : IsData d) where
  whole_ordered : IsData (joined os ks es)
  whole_ordered = subst (λ l. IsData l) is s

  pub origins_ordered : IsData (map origin_of os)
  origins_ordered =
      front_ordered (map origin_of os) (map key_of ks ++ map entry_of es) whole_ordered

  behind_ordered : IsData (map key_of ks ++ map entry_of es)
  behind_ordered =
      back_ordered (map origin_of os) (map key_of ks ++ map entry_of es) whole_ordered

  pub keys_ordered : IsData (map key_of ks)
  keys_ordered = front_ordered (map key_of ks) (map entry_of es) behind_ordered

  pub aspas_ordered : IsData (map entry_of es)
  aspas_ordered = back_ordered (map key_of ks) (map entry_of es) behind_ordered
