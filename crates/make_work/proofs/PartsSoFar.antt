-- Which members are a part, of an object of which some were looked at.
use Rattle.std.proofs.Common.{◌≡◌, ℕ, ◌+◌, ◌<◌, ◌≤◌, Bool, true, false, cond, List, [], ◌∷◌, ◌++◌}
use Rattle.std.proofs.Common.{take, length, get_or, Option, Some, None, refl, sym, ap, subst, ◌∙◌}
use Rattle.std.proofs.Common.{Global, drop, rules, suc}
use Rattle.std.proofs.lemmas.List.{append-nil, take_all}
use Rattle.json.specs.Json.{Json}
use Rattle.json.specs.Value.{members_view, value_view}
use Rattle.make_work.specs.JsonNames.{is_part}
use Rattle.make_work.specs.JsonPayloads.{values_of}
use Rattle.make_work.specs.JsonValues.{members_list}
use Rattle.make_work.specs.PrivateJson.{IsOnly}
use Rattle.make_work.specs.declared.json_names.Part.{Part}
use Rattle.make_work.specs.declared.json_objects.Member.{Member}
use Rattle.make_work.proofs.JsonSoFar as so_far
use Rattle.make_work.proofs.JsonSoFar.{members_to}
use Rattle.make_work.proofs.JsonRefused.{members_cut}

cons_more : (k : Bool) (v : Json) (l r : List Json) →
    cond k (v ∷ (l ++ r)) (l ++ r) ≡ cond k (v ∷ l) l ++ r
cons_more true v l r = refl
cons_more false v l r = refl

values_join : (p : Part) (xs ys : List (List ℕ × Json)) →
    values_of p (xs ++ ys) ≡ values_of p xs ++ values_of p ys
values_join p [] ys = refl
values_join p (x ∷ xs) ys =
    ap (λ l. cond (is_part p x.0) (x.1 ∷ l) l) (values_join p xs ys)
    ∙ cons_more (is_part p x.0) x.1 (values_of p xs) (values_of p ys)

values_more : (p : Part) (xs : List (List ℕ × Json)) (m : List ℕ × Json) (b : Bool) →
    is_part p m.0 ≡ b → values_of p (xs ++ m ∷ []) ≡ values_of p xs ++ cond b (m.1 ∷ []) []
values_more p [] m b e = ap (λ k. cond k (m.1 ∷ []) []) e
values_more p (x ∷ xs) m b e =
    ap (λ l. cond (is_part p x.0) (x.1 ∷ l) l) (values_more p xs m b e)
    ∙ cons_more (is_part p x.0) x.1 (values_of p xs) (cond b (m.1 ∷ []) [])

only_of : (p : Part) (ms others : List (List ℕ × Json)) (o : Option Member) →
    values_of p others ≡ values_of p ms → IsOnly p ms o → IsOnly p others o
only_of p ms others None e h = e ∙ h
only_of p ms others (Some m) e h = e ∙ h

module _ (p : Part) (ms : List (so_far.Member Global)) (i : ℕ)
    (x : so_far.Member Global) (small : i < length ms)
    (is : x ≡ get_or ms i x) where
  one_more : (b : Bool) → is_part p x.0.now ≡ b →
      values_of p (members_list (members_view (take (i + 1) ms)))
      ≡ values_of p (members_list (members_view (take i ms))) ++ cond b (value_view x.1 ∷ []) []
  one_more b e =
      ap (values_of p) (members_to ms i x small
      ∙ ap (λ (m : so_far.Member Global). members_list (members_view (take i ms))
      ++ (m.0.now, value_view m.1) ∷ []) (sym is))
      ∙ values_more p (members_list (members_view (take i ms))) (x.0.now, value_view x.1) b e

  pub passed : (o : Option Member) → is_part p x.0.now ≡ false →
      IsOnly p (members_list (members_view (take i ms))) o →
      IsOnly p (members_list (members_view (take (i + 1) ms))) o
  passed o e h = only_of p _ _ o (one_more false e ∙ append-nil _) h

  pub named : (m : Member) → is_part p x.0.now ≡ true → m.value.now ≡ x.1 →
      IsOnly p (members_list (members_view (take i ms))) None →
      IsOnly p (members_list (members_view (take (i + 1) ms))) (Some m)
  named m e v h =
      one_more true e ∙ ap (λ l. l ++ value_view x.1 ∷ []) h
      ∙ ap (λ w. value_view w ∷ []) (sym v)

  pub named_as : {m : Member} (o : Option Member) → o ≡ Some m → is_part p x.0.now ≡ true →
      m.value.now ≡ x.1 → IsOnly p (members_list (members_view (take i ms))) None →
      IsOnly p (members_list (members_view (take (i + 1) ms))) o
  named_as {m} o is_some e v h =
      subst (IsOnly p (members_list (members_view (take (i + 1) ms)))) (sym is_some)
      (named m e v h)

pub all : (p : Part) (ms : List (so_far.Member Global))
    (i : ℕ) (o : Option Member) → length ms ≤ i →
    IsOnly p (members_list (members_view (take i ms))) o →
    IsOnly p (members_list (members_view ms)) o
all p ms i o large h =
    subst (λ l. IsOnly p (members_list (members_view l)) o) (take_all i ms large) h

-- a member that is the part after one that is
values_there : (p : Part) (xs ys : List (List ℕ × Json)) (m : List ℕ × Json) (v : Json) →
    values_of p xs ≡ v ∷ [] → is_part p m.0 ≡ true →
    values_of p (xs ++ m ∷ ys) ≡ v ∷ (m.1 ∷ values_of p ys)
values_there p xs ys m v one e =
    values_join p xs (m ∷ ys)
    ∙ ap (λ l. l ++ values_of p (m ∷ ys)) one
    ∙ ap (λ k. v ∷ cond k (m.1 ∷ values_of p ys) (values_of p ys)) e

pub another : (p : Part) (ms : List (so_far.Member Global)) (i : ℕ) (x : so_far.Member Global)
    (o : Option Member) (m : Member) → i < length ms → x ≡ get_or ms i x → o ≡ Some m →
    is_part p x.0.now ≡ true → IsOnly p (members_list (members_view (take i ms))) o →
    1 < length (values_of p (members_list (members_view ms)))
another p ms i x o m small is found e h =
    let one = subst (IsOnly p (members_list (members_view (take i ms)))) found h in
    subst (λ l. 1 < length (values_of p l)) (sym (members_cut ms i x small is))
    (subst (λ l. 1 < length l)
    (sym (values_there p (members_list (members_view (take i ms)))
    (members_list (members_view (drop (suc i) ms))) (x.0.now, value_view x.1)
    (value_view m.value.now) one e)) (search rules))
