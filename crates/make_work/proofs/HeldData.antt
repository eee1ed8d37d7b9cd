-- What holds of data to which payloads are added one after the other.
use Rattle.std.proofs.Common.{◌≡◌, Bool, true, false, ◌||◌, cond, List, [], ◌∷◌}
use Rattle.std.proofs.Common.{◌++◌, refl, sym, ap, ◌∙◌}
use Rattle.std.proofs.lemmas.Bool.{true≢false, or_parts}
use Rattle.std.proofs.lemmas.List.Folds.{list_any-append}
use Rattle.std.specs.BTreeMap.{is_at}
use Rattle.std.specs.BTreeSet.{replace_key}
use Rattle.std.specs.Cmp.{Equal-is, IsEquivalence, eq_by_cmp_equiv}
use Rattle.std.specs.List.{list_any}
use Rattle.std.specs.List.Sorted.{IsStrictlySortedBy}
use Rattle.std.specs.Ordering.{eq_by_cmp, is_eq, match_ordering}
use Rattle.std.specs.declared.cmp.Ordering.{Ordering}
use Rattle.std.specs.declared.cmp.Ordering.TheVariants.{Less, Equal, Greater}
use Rattle.rtr_payload.proofs.Orders.{payload_same}
use Rattle.rtr_payload.specs.Orders.{payload_cmp}
use Rattle.rtr_payload.specs.Payloads.{Payload}
use Rattle.data_memory.specs.Data.{IsData, has, has_name, name_cmp}
use Rattle.data_memory.specs.Sequences.{IsInRange}
use Rattle.make_work.specs.Taking.{Held}
use Rattle.data_memory.proofs.Membership.{all_replace, replaced_data, replaced_has}
use Rattle.data_memory.proofs.Merge.{same_names}
use Rattle.data_memory.proofs.Names.{name_total, not_very}

laws : IsEquivalence (eq_by_cmp name_cmp)
laws = eq_by_cmp_equiv name_total

-- ---- tests

or_swap : (a b c : Bool) → (a || (b || c)) ≡ (b || (a || c))
or_swap true true c = refl
or_swap true false c = refl
or_swap false b c = refl

or_same : (b c : Bool) → (b || c) ≡ (b || (b || c))
or_same true c = refl
or_same false c = refl

or_later : (a b : Bool) → (a || (b || false)) ≡ (b || a)
or_later true true = refl
or_later true false = refl
or_later false true = refl
or_later false false = refl

absorbs : (b r : Bool) → (b ≡ true → r ≡ true) → r ≡ (b || r)
absorbs true r h = h refl
absorbs false r h = refl

picks : (n v w : Bool) → (n ≡ true → w ≡ false) → (n ≡ false → v ≡ false) →
    cond n v w ≡ (v || w)
picks true true w h k = refl
picks true false w h k = sym (h refl)
picks false v w h k = sym (ap (λ b. b || w) (k refl))

-- one more that is tested
one_more : (test : Payload → Bool) (ps : List Payload) (p : Payload) →
    list_any test (ps ++ p ∷ []) ≡ (test p || list_any test ps)
one_more test ps p = list_any-append test ps (p ∷ []) ∙ or_later (list_any test ps) (test p)

-- ---- names

named_at : (p q x : Payload) (d : List Payload) →
    has_name (replace_key name_cmp d p) q ≡ (is_eq (name_cmp q p) || has_name d q) →
    (o : Ordering) → name_cmp p x ≡ o →
    has_name (match_ordering o (p ∷ x ∷ d) (p ∷ d) (x ∷ replace_key name_cmp d p)) q ≡
    (is_eq (name_cmp q p) || has_name (x ∷ d) q)
named_at p q x d ih Less e = refl
named_at p q x d ih Equal e =
    or_same (is_eq (name_cmp q p)) (has_name d q)
    ∙ ap (λ b. is_eq (name_cmp q p) || (b || has_name d q))
    (laws.symm q p ∙ laws.congr p x q (ap is_eq e) ∙ laws.symm x q)
named_at p q x d ih Greater e =
    ap (λ b. is_eq (name_cmp q x) || b) ih
    ∙ or_swap (is_eq (name_cmp q x)) (is_eq (name_cmp q p)) (has_name d q)

-- the names that are there after an announcement
named_after : (p q : Payload) (d : List Payload) →
    has_name (replace_key name_cmp d p) q ≡ (is_eq (name_cmp q p) || has_name d q)
named_after p q [] = refl
named_after p q (x ∷ d) = named_at p q x d (named_after p q d) (name_cmp p x) refl

-- what has no name there isn't there
none_very : (q : Payload) (d : List Payload) → has_name d q ≡ false → has d q ≡ false
none_very q [] h = refl
none_very q (x ∷ d) h =
    let k = or_parts (is_eq (name_cmp q x)) (has_name d q) h in
    cc (none_very q d k.1, not_very q x k.0)

very_named : (q : Payload) (d : List Payload) → has d q ≡ true → (b : Bool) →
    has_name d q ≡ b → b ≡ true
very_named q d h true e = refl
very_named q d h false e = absurd (true≢false (sym h ∙ none_very q d e))

-- ---- members

-- after an announcement of a name that wasn't there
fresh_has : (p q : Payload) (d : List Payload) → IsData d → has_name d p ≡ false →
    has (replace_key name_cmp d p) q ≡ (is_eq (payload_cmp q p) || has d q)
fresh_has p q d s h =
    replaced_has p q d s
    ∙ picks (is_eq (name_cmp p q)) (is_eq (payload_cmp q p)) (has d q)
    (λ n. none_very q d (sym (same_names d p q n) ∙ h))
    (λ n. not_very q p (sym (laws.symm p q) ∙ n))

same_member : (p q : Payload) (d : List Payload) → is_eq (payload_cmp q p) ≡ true →
    has d p ≡ true → has d q ≡ true
same_member p q d e h =
    ap (has d) ((payload_same q p).0 ((Equal-is (payload_cmp q p)).0 e)) ∙ h

-- ---- data to which payloads were added

pub held_new : (p : Payload) (d ps : List Payload) → Held d ps → has_name d p ≡ false →
    IsInRange p → Held (replace_key name_cmp d p) (ps ++ p ∷ [])
held_new p d ps h n r = record {
  in_order = replaced_data p d h.in_order;
  members = λ q. fresh_has p q d h.in_order n
      ∙ ap (λ b. is_eq (payload_cmp q p) || b) (h.members q)
      ∙ sym (one_more (is_at (payload_cmp q)) ps p);
  names = λ q. named_after p q d ∙ ap (λ b. is_eq (name_cmp q p) || b) (h.names q)
      ∙ sym (one_more (is_at (name_cmp q)) ps p);
  ranges = all_replace (λ q. IsInRange q) p r d h.ranges;
}

pub held_again : (p : Payload) (d ps : List Payload) → Held d ps → has d p ≡ true →
    Held d (ps ++ p ∷ [])
held_again p d ps h t = record {
  in_order = h.in_order;
  members = λ q. h.members q
      ∙ absorbs (is_eq (payload_cmp q p)) (has ps q)
      (λ e. sym (h.members q) ∙ same_member p q d e t)
      ∙ sym (one_more (is_at (payload_cmp q)) ps p);
  names = λ q. h.names q
      ∙ absorbs (is_eq (name_cmp q p)) (has_name ps q)
      (λ e. sym (h.names q) ∙ same_names d q p e ∙ very_named p d t (has_name d p) refl)
      ∙ sym (one_more (is_at (name_cmp q)) ps p);
  ranges = h.ranges;
}

pub held_none : Held [] []
unfolding IsStrictlySortedBy
held_none = record {
  in_order = tt;
  members = λ p. refl;
  names = λ p. refl;
  ranges = tt;
}
