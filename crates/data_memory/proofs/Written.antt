-- What is written part by part is the delta.
use Rattle.std.proofs.Common.{◌≡◌, ℕ, ◌<◌, ◌≤◌, Bool, true, false, not, cond, List, []}
use Rattle.std.proofs.Common.{◌∷◌, ◌++◌, map}
use Rattle.std.proofs.Common.{refl, sym, ap, ◌∙◌, subst, ⊎_elim, arith}
use Rattle.std.proofs.lemmas.Bool.{cases_lt}
use Rattle.std.proofs.lemmas.List.{map-append}
use Rattle.std.proofs.lemmas.Grind.{flat_map-append}
use Rattle.std.proofs.lemmas.List.Elements.{filter-append}
use Rattle.std.specs.BTreeMap.{is_at}
use Rattle.std.specs.List.{filter, flat_map, list_any}
use Rattle.std.specs.Map.{lookup}
use Rattle.std.specs.Ordering.{nat_cmp, on}
use Rattle.std.specs.Prelude.{is_some, nat_le}
use Rattle.std.specs.declared.cmp.Ordering.TheVariants.{Less, Greater}
use Rattle.rtr_base.specs.Actions.{flags_of}
use Rattle.rtr_base.specs.declared.action.Action.{Action}
use Rattle.rtr_base.specs.declared.action.Action.TheVariants.{Announce, Withdraw}
use Rattle.rtr_payload.specs.Meanings.{origin_of, key_of}
use Rattle.rtr_payload.specs.Orders.{payload_cmp}
use Rattle.rtr_payload.specs.Payloads.{Payload, smallest_version}
use Rattle.rtr_payload.specs.Units.{form, form_of}
use Rattle.rtr_payload.specs.declared.payload.RouteOrigin.{RouteOrigin}
use Rattle.rtr_payload.specs.declared.payload.RouterKey.{RouterKey}
use Rattle.data_memory.specs.Contents.{entry_of, joined}
use Rattle.data_memory.specs.Data.{name_cmp, name_of, has, has_name, announcement, withdrawal}
use Rattle.data_memory.specs.Changes.{withdrawals, announcements}
use Rattle.data_memory.specs.Deltas.{all_for, change_forms, changes_for, data_for, unit_of}
use Rattle.data_memory.specs.PrivateForms.{payload_forms}
use Rattle.data_memory.proofs.Fronts.{forms_append, maps, none_for_version, all_for_version}
use Rattle.data_memory.proofs.Parts.{origin_same, key_same, origin_above, key_above, key_below}
use Rattle.data_memory.proofs.Parts.{aspa_below_origins, aspa_below_keys, entry_name, part_very}
use Rattle.data_memory.proofs.Parts.{very_below}
use Rattle.data_memory.proofs.Segments.{Above, Below, no_name_below, part_has}
use Rattle.data_memory.proofs.Merge.{all_filter}

withdrawn_forms : (v : ℕ) (ps : List Payload) →
    change_forms v (map withdrawal ps) ≡
    payload_forms v Withdraw (map name_of ps)
withdrawn_forms v [] = refl
withdrawn_forms v (p ∷ ps) =
    ap (λ l. form v (flags_of Withdraw) (name_of p) ++ l) (withdrawn_forms v ps)

announced_forms : (v : ℕ) (ps : List Payload) →
    change_forms v (map announcement ps) ≡ payload_forms v Announce ps
announced_forms v [] = refl
announced_forms v (p ∷ ps) =
    ap (λ l. form v (flags_of Announce) p ++ l) (announced_forms v ps)

filter_map : {T : Type 0} (f : T → Payload) (t : Payload → Bool) (u : T → Bool) →
    ((x : T) → t (f x) ≡ u x) → (xs : List T) → filter t (map f xs) ≡ map f (filter u xs)
filter_map f t u e [] = refl
filter_map f t u e (x ∷ xs) =
    ap (λ b. cond b (f x ∷ filter t (map f xs)) (filter t (map f xs))) (e x)
    ∙ elim (u x) as (λ b. cond b (f x ∷ filter t (map f xs)) (filter t (map f xs)) ≡
    map f (cond b (x ∷ filter u xs) (filter u xs))) [
      | true ↦ ap (λ l. f x ∷ l) (filter_map f t u e xs)
      | false ↦ filter_map f t u e xs
    ]

-- a test of one part that the version has
module _ {T : Type 0} (v n : ℕ) (f : T → Payload)
    (kind : (x : T) → smallest_version (f x) ≡ n) (t : Payload → Bool) (u : T → Bool)
    (is : n ≤ v → (x : T) → t (f x) ≡ u x) (xs : List T) where
  part_less : v < n → filter t (data_for v (map f xs)) ≡ data_for v (map f (filter u xs))
  part_less h =
      ap (filter t) (none_for_version v n f kind h xs)
      ∙ sym (none_for_version v n f kind h (filter u xs))

  part_more : n ≤ v → filter t (data_for v (map f xs)) ≡ data_for v (map f (filter u xs))
  part_more h =
      ap (filter t) (all_for_version v n f kind h xs)
      ∙ filter_map f t u (is h) xs
      ∙ sym (all_for_version v n f kind h (filter u xs))

  part_test : filter t (data_for v (map f xs)) ≡ data_for v (map f (filter u xs))
  part_test = ⊎_elim part_less part_more (cases_lt v n)

-- the parts that version v has
abbrev parted : ℕ → List RouteOrigin → List RouterKey → List (ℕ × List ℕ) → List Payload
parted v os ks es =
    data_for v (map origin_of os) ++
    (data_for v (map key_of ks) ++ data_for v (map entry_of es))

joined_parted : (v : ℕ) (os : List RouteOrigin) (ks : List RouterKey) (es : List (ℕ × List ℕ)) →
    data_for v (joined os ks es) ≡ parted v os ks es
joined_parted v os ks es =
    filter-append (λ p. nat_le (smallest_version p) v) (map origin_of os)
    (map key_of ks ++ map entry_of es)
    ∙ ap (λ l. data_for v (map origin_of os) ++ l)
    (filter-append (λ p. nat_le (smallest_version p) v) (map key_of ks) (map entry_of es))

filter_parted : (t : Payload → Bool) (a b c : List Payload) →
    filter t (a ++ (b ++ c)) ≡ filter t a ++ (filter t b ++ filter t c)
filter_parted t a b c =
    filter-append t a (b ++ c) ∙ ap (λ l. filter t a ++ l) (filter-append t b c)

forms_parted : (v : ℕ) (action : Action) (a b c : List Payload) →
    payload_forms v action (a ++ (b ++ c)) ≡
    payload_forms v action a ++ (payload_forms v action b ++ payload_forms v action c)
forms_parted v action a b c =
    forms_append v action a (b ++ c)
    ∙ ap (λ l. payload_forms v action a ++ l) (forms_append v action b c)

map_parted : (f : Payload → Payload) (a b c : List Payload) →
    map f (a ++ (b ++ c)) ≡ map f a ++ (map f b ++ map f c)
map_parted f a b c = map-append f a (b ++ c) ∙ ap (λ l. map f a ++ l) (map-append f b c)

parted_alike : (t : Payload → Bool) (a b c d e f : List Payload) → filter t a ≡ d →
    filter t b ≡ e → filter t c ≡ f → filter t (a ++ (b ++ c)) ≡ d ++ (e ++ f)
parted_alike t a b c d e f p q r =
    filter_parted t a b c ∙ ap (λ l. l ++ (filter t b ++ filter t c)) p
    ∙ ap (λ l. d ++ (l ++ filter t c)) q ∙ ap (λ l. d ++ (e ++ l)) r

-- ---- the names and payloads of other data

module _ (v : ℕ) (os : List RouteOrigin) (ks : List RouterKey) (es : List (ℕ × List ℕ)) where
  rest_above : (o : RouteOrigin) →
      Above (origin_of o) (data_for v (map key_of ks) ++ data_for v (map entry_of es))
  rest_above o =
      subst (λ l. Above (origin_of o) l)
      (filter-append (λ p. nat_le (smallest_version p) v) (map key_of ks) (map entry_of es))
      (all_filter (λ q. name_cmp (origin_of o) q ≡ Less) _ (map key_of ks ++ map entry_of es)
      (origin_above o ks es))

  origins_whole : data_for v (map origin_of os) ≡ map origin_of os
  origins_whole = all_for_version v 0 origin_of (λ o. refl) (omega arith) os

  origin_named : (o : RouteOrigin) →
      has_name (parted v os ks es) (origin_of o) ≡ list_any (is_at (on origin_of payload_cmp o)) os
  origin_named o =
      ap (λ l. has_name (l ++ (data_for v (map key_of ks) ++ data_for v (map entry_of es)))
      (origin_of o)) origins_whole
      ∙ part_has origin_of (on origin_of payload_cmp) origin_same o os _ (rest_above o)

  origin_has : (o : RouteOrigin) →
      has (parted v os ks es) (origin_of o) ≡ list_any (is_at (on origin_of payload_cmp o)) os
  origin_has o =
      ap (λ l. has (l ++ (data_for v (map key_of ks) ++ data_for v (map entry_of es)))
      (origin_of o)) origins_whole
      ∙ part_very origin_of o os _ (rest_above o)

  keys_below : (k : RouterKey) → Below (key_of k) (data_for v (map origin_of os))
  keys_below k =
      all_filter (λ q. name_cmp (key_of k) q ≡ Greater) _ (map origin_of os) (key_below k os)

  keys_above : (k : RouterKey) → Above (key_of k) (data_for v (map entry_of es))
  keys_above k =
      all_filter (λ q. name_cmp (key_of k) q ≡ Less) _ (map entry_of es) (key_above k es)

  key_named : 1 ≤ v → (k : RouterKey) →
      has_name (parted v os ks es) (key_of k) ≡ list_any (is_at (on key_of payload_cmp k)) ks
  key_named h k =
      no_name_below (key_of k) (data_for v (map origin_of os)) _ (keys_below k)
      ∙ ap (λ l. has_name (l ++ data_for v (map entry_of es)) (key_of k))
      (all_for_version v 1 key_of (λ j. refl) h ks)
      ∙ part_has key_of (on key_of payload_cmp) key_same k ks _ (keys_above k)

  key_has : 1 ≤ v → (k : RouterKey) →
      has (parted v os ks es) (key_of k) ≡ list_any (is_at (on key_of payload_cmp k)) ks
  key_has h k =
      very_below (key_of k) (data_for v (map origin_of os)) _ (keys_below k)
      ∙ ap (λ l. has (l ++ data_for v (map entry_of es)) (key_of k))
      (all_for_version v 1 key_of (λ j. refl) h ks)
      ∙ part_very key_of k ks _ (keys_above k)

  entries_below_origins : (e : ℕ × List ℕ) → Below (entry_of e) (data_for v (map origin_of os))
  entries_below_origins e =
      all_filter (λ q. name_cmp (entry_of e) q ≡ Greater) _ (map origin_of os)
      (aspa_below_origins _ os)

  entries_below_keys : (e : ℕ × List ℕ) → Below (entry_of e) (data_for v (map key_of ks))
  entries_below_keys e =
      all_filter (λ q. name_cmp (entry_of e) q ≡ Greater) _ (map key_of ks) (aspa_below_keys _ ks)

  entry_named : 2 ≤ v → (e : ℕ × List ℕ) →
      has_name (parted v os ks es) (entry_of e) ≡ is_some (lookup (is_at (nat_cmp e.0)) es)
  entry_named h e =
      no_name_below (entry_of e) (data_for v (map origin_of os)) _ (entries_below_origins e)
      ∙ no_name_below (entry_of e) (data_for v (map key_of ks)) _ (entries_below_keys e)
      ∙ ap (λ l. has_name l (entry_of e)) (all_for_version v 2 entry_of (λ j. refl) h es)
      ∙ entry_name _ es

  entry_has : 2 ≤ v → (e : ℕ × List ℕ) →
      has (parted v os ks es) (entry_of e) ≡ has (map entry_of es) (entry_of e)
  entry_has h e =
      very_below (entry_of e) (data_for v (map origin_of os)) _ (entries_below_origins e)
      ∙ very_below (entry_of e) (data_for v (map key_of ks)) _ (entries_below_keys e)
      ∙ ap (λ l. has l (entry_of e)) (all_for_version v 2 entry_of (λ j. refl) h es)

-- ---- the delta

names_kept : {T : Type 0} (f : T → Payload) → ((x : T) → name_of (f x) ≡ f x) →
    (t : Payload → Bool) (xs : List T) → map name_of (filter t (map f xs)) ≡ filter t (map f xs)
names_kept f h t [] = refl
names_kept f h t (x ∷ xs) =
    elim (t (f x)) as (λ b.
    map name_of (cond b (f x ∷ filter t (map f xs)) (filter t (map f xs))) ≡
    cond b (f x ∷ filter t (map f xs)) (filter t (map f xs))) [
      | true ↦ ap (λ p. p ∷ map name_of (filter t (map f xs))) (h x)
          ∙ ap (λ l. f x ∷ l) (names_kept f h t xs)
      | false ↦ names_kept f h t xs
    ]

-- the forms of withdrawals, and of announcements
abbrev Gone : ℕ → List Payload → List Payload → List ℕ
Gone v old new =
    change_forms v (withdrawals (data_for v old) (data_for v new))

abbrev Come : ℕ → List Payload → List Payload → List ℕ
Come v old new =
    change_forms v (announcements (data_for v old) (data_for v new))

module _ (v : ℕ) (os us : List RouteOrigin) (ks js : List RouterKey)
    (es ds : List (ℕ × List ℕ)) where
  withdrawn_list :
      filter (λ p. not (has_name (data_for v (joined us js ds)) p)) (data_for v (joined os ks es)) ≡
      map origin_of (filter (λ o. not (list_any (is_at (on origin_of payload_cmp o)) us)) os)
      ++ (data_for v
      (map key_of (filter (λ k. not (list_any (is_at (on key_of payload_cmp k)) js)) ks))
      ++ data_for v
      (map entry_of (filter (λ e. not (is_some (lookup (is_at (nat_cmp e.0)) ds))) es)))
  withdrawn_list =
      ap (λ n. filter (λ p. not (has_name n p)) (data_for v (joined os ks es)))
      (joined_parted v us js ds)
      ∙ ap (filter (λ p. not (has_name (parted v us js ds) p))) (joined_parted v os ks es)
      ∙ parted_alike (λ p. not (has_name (parted v us js ds) p)) (data_for v (map origin_of os))
      (data_for v (map key_of ks)) (data_for v (map entry_of es)) _ _ _
      (part_test v 0 origin_of (λ o. refl) (λ p. not (has_name (parted v us js ds) p))
      (λ o. not (list_any (is_at (on origin_of payload_cmp o)) us))
      (λ h o. ap not (origin_named v us js ds o)) os
      ∙ origins_whole v
      (filter (λ o. not (list_any (is_at (on origin_of payload_cmp o)) us)) os) [] [])
      (part_test v 1 key_of (λ k. refl) (λ p. not (has_name (parted v us js ds) p))
      (λ k. not (list_any (is_at (on key_of payload_cmp k)) js))
      (λ h k. ap not (key_named v us js ds h k)) ks)
      (part_test v 2 entry_of (λ e. refl) (λ p. not (has_name (parted v us js ds) p))
      (λ e. not (is_some (lookup (is_at (nat_cmp e.0)) ds)))
      (λ h e. ap not (entry_named v us js ds h e)) es)

  announced_list :
      filter (λ p. not (has (data_for v (joined os ks es)) p)) (data_for v (joined us js ds)) ≡
      map origin_of (filter (λ o. not (list_any (is_at (on origin_of payload_cmp o)) os)) us)
      ++ (data_for v
      (map key_of (filter (λ k. not (list_any (is_at (on key_of payload_cmp k)) ks)) js))
      ++ data_for v (map entry_of (filter (λ e. not (has (map entry_of es) (entry_of e))) ds)))
  announced_list =
      ap (λ n. filter (λ p. not (has n p)) (data_for v (joined us js ds)))
      (joined_parted v os ks es)
      ∙ ap (filter (λ p. not (has (parted v os ks es) p))) (joined_parted v us js ds)
      ∙ parted_alike (λ p. not (has (parted v os ks es) p)) (data_for v (map origin_of us))
      (data_for v (map key_of js)) (data_for v (map entry_of ds)) _ _ _
      (part_test v 0 origin_of (λ o. refl) (λ p. not (has (parted v os ks es) p))
      (λ o. not (list_any (is_at (on origin_of payload_cmp o)) os))
      (λ h o. ap not (origin_has v os ks es o)) us
      ∙ origins_whole v
      (filter (λ o. not (list_any (is_at (on origin_of payload_cmp o)) os)) us) [] [])
      (part_test v 1 key_of (λ k. refl) (λ p. not (has (parted v os ks es) p))
      (λ k. not (list_any (is_at (on key_of payload_cmp k)) ks))
      (λ h k. ap not (key_has v os ks es h k)) js)
      (part_test v 2 entry_of (λ e. refl) (λ p. not (has (parted v os ks es) p))
      (λ e. not (has (map entry_of es) (entry_of e)))
      (λ h e. ap not (entry_has v os ks es h e)) ds)

  pub withdrawn_parts : (old new : List Payload) → joined os ks es ≡ old → joined us js ds ≡ new →
      Gone v old new ≡
      payload_forms v Withdraw
      (map origin_of (filter (λ o. not (list_any (is_at (on origin_of payload_cmp o)) us)) os))
      ++ (payload_forms v Withdraw (data_for v
      (map key_of (filter (λ k. not (list_any (is_at (on key_of payload_cmp k)) js)) ks)))
      ++ payload_forms v Withdraw (map name_of (data_for v
      (map entry_of (filter (λ e. not (is_some (lookup (is_at (nat_cmp e.0)) ds))) es)))))
  withdrawn_parts old new is_old is_new =
      let gone = filter (λ o. not (list_any (is_at (on origin_of payload_cmp o)) us)) os in
      let keys = filter (λ k. not (list_any (is_at (on key_of payload_cmp k)) js)) ks in
      let entries = filter (λ e. not (is_some (lookup (is_at (nat_cmp e.0)) ds))) es in
      ap (λ d. Gone v d new) (sym is_old)
      ∙ ap (λ d. Gone v (joined os ks es) d) (sym is_new)
      ∙ withdrawn_forms v (filter (λ p. not (has_name (data_for v (joined us js ds)) p))
      (data_for v (joined os ks es)))
      ∙ ap (λ l. payload_forms v Withdraw (map name_of l)) withdrawn_list
      ∙ ap (payload_forms v Withdraw) (map_parted name_of (map origin_of gone)
      (data_for v (map key_of keys)) (data_for v (map entry_of entries)))
      ∙ forms_parted v Withdraw (map name_of (map origin_of gone))
      (map name_of (data_for v (map key_of keys)))
      (map name_of (data_for v (map entry_of entries)))
      ∙ ap (λ l. payload_forms v Withdraw l ++
      (payload_forms v Withdraw (map name_of (data_for v (map key_of keys)))
      ++ payload_forms v Withdraw (map name_of (data_for v (map entry_of entries)))))
      (maps origin_of name_of gone)
      ∙ ap (λ l. payload_forms v Withdraw (map origin_of gone) ++
      (payload_forms v Withdraw l
      ++ payload_forms v Withdraw (map name_of (data_for v (map entry_of entries)))))
      (names_kept key_of (λ k. refl) (λ p. nat_le (smallest_version p) v) keys)

  pub announced_parts : (old new : List Payload) → joined os ks es ≡ old → joined us js ds ≡ new →
      Come v old new ≡
      payload_forms v Announce
      (map origin_of (filter (λ o. not (list_any (is_at (on origin_of payload_cmp o)) os)) us))
      ++ (payload_forms v Announce (data_for v
      (map key_of (filter (λ k. not (list_any (is_at (on key_of payload_cmp k)) ks)) js)))
      ++ payload_forms v Announce (data_for v
      (map entry_of (filter (λ e. not (has (map entry_of es) (entry_of e))) ds))))
  announced_parts old new is_old is_new =
      ap (λ d. Come v d new) (sym is_old)
      ∙ ap (λ d. Come v (joined os ks es) d) (sym is_new)
      ∙ announced_forms v (filter (λ p. not (has (data_for v (joined os ks es)) p))
      (data_for v (joined us js ds)))
      ∙ ap (payload_forms v Announce) announced_list
      ∙ forms_parted v Announce
      (map origin_of (filter (λ o. not (list_any (is_at (on origin_of payload_cmp o)) os)) us))
      (data_for v
      (map key_of (filter (λ k. not (list_any (is_at (on key_of payload_cmp k)) ks)) js)))
      (data_for v (map entry_of (filter (λ e. not (has (map entry_of es) (entry_of e))) ds)))

-- announcements, and then withdrawals
pub delta_parts : (v : ℕ) (old new : List Payload) →
    change_forms v (changes_for v old new) ≡ Come v old new ++ Gone v old new
delta_parts v old new =
    ap (flat_map form_of) (map-append (unit_of v) (announcements (data_for v old) (data_for v new))
    (withdrawals (data_for v old) (data_for v new)))
    ∙ flat_map-append form_of
    (map (unit_of v) (announcements (data_for v old) (data_for v new)))
    (map (unit_of v) (withdrawals (data_for v old) (data_for v new)))

-- all of three parts
pub all_parts : (v : ℕ) (os : List RouteOrigin) (ks : List RouterKey) (es : List (ℕ × List ℕ))
    (d : List Payload) → joined os ks es ≡ d →
    change_forms v (all_for v d) ≡
    payload_forms v Announce (map origin_of os)
    ++ (payload_forms v Announce (data_for v (map key_of ks))
    ++ payload_forms v Announce (data_for v (map entry_of es)))
all_parts v os ks es d is =
    ap (λ l. change_forms v (all_for v l)) (sym is)
    ∙ announced_forms v (data_for v (joined os ks es))
    ∙ ap (payload_forms v Announce) (joined_parted v os ks es)
    ∙ forms_parted v Announce (data_for v (map origin_of os)) (data_for v (map key_of ks))
    (data_for v (map entry_of es))
    ∙ ap (λ l. payload_forms v Announce l
    ++ (payload_forms v Announce (data_for v (map key_of ks))
    ++ payload_forms v Announce (data_for v (map entry_of es)))) (origins_whole v os ks es)
