-- A document that is refused has no items: what is refused as a part of a payload means nothing,
-- and what means something means one thing.
use Rattle.std.proofs.Common.{◌≡◌, ◌≤◌, ◌<◌, ◌⊎◌, ℕ, suc, zero, Bool, true, false, List, [], ◌∷◌}
use Rattle.std.proofs.Common.{◌++◌, length, get_or, drop, Option, Some, None, inl, inr, refl, sym}
use Rattle.std.proofs.Common.{ap, subst, ◌∙◌, arith, codes, nat_cmp, Contains}
use Rattle.std.proofs.lemmas.Bool.{true≢false}
use Rattle.std.proofs.lemmas.Map.Keys.{below_from_sorted, sorted_from_strictly_increasing}
use Rattle.std.proofs.lemmas.Map.Keys.{sorted_tail}
use Rattle.std.specs.Bool.{MatchBool}
use Rattle.std.specs.List.{AllByRecursion}
use Rattle.std.specs.List.Sorted.{IsStrictlySortedBy}
use Rattle.json.specs.Json.{Json, null, number, string, array, object}
use Rattle.rtr_base.specs.Addresses.{BreaksMaxLen, IsMaxLenPrefix, PrefixParts}
use Rattle.rtr_base.specs.Numerals.{IsDigit, IsNumeral}
use Rattle.rtr_base.specs.ReadTexts.{IsAsnText}
use Rattle.rtr_base.specs.declared.addr.MaxLenError.{MaxLenError}
use Rattle.rtr_base.specs.declared.addr.MaxLenError.TheVariants.{Overflow, Underflow}
use Rattle.rtr_base.proofs.ReadBack.{form_unique, numeral_unique}
use Rattle.make_work.specs.JsonNames.{holding_named, is_family}
use Rattle.make_work.specs.JsonPayloads.{AreAuthorizations, AreFamilyPayloads, AreNoPayloads}
use Rattle.make_work.specs.JsonPayloads.{ArePayloadsBy, ArePayloadsIn, AreTopPayloads, Dated, Has}
use Rattle.make_work.specs.JsonPayloads.{HasItemsOf, IsJsonOf}
use Rattle.make_work.specs.JsonPayloads.{IsOriginObject, IsPayloadObject, MayHave, values_of}
use Rattle.make_work.specs.JsonRefusals.{HasFamilyPayloads, HasTopPayloads, IsSomeCustomer}
use Rattle.make_work.specs.JsonRefusals.{IsSomeItem, RefusesAny, RefusesArrayItem, RefusesAsn}
use Rattle.make_work.specs.JsonRefusals.{RefusesAuthorizations, RefusesBy, RefusesCustomer}
use Rattle.make_work.specs.JsonRefusals.{RefusesDocument, RefusesFamily, RefusesFirst, RefusesJson}
use Rattle.make_work.specs.JsonRefusals.{RefusesKeyIdentifier, RefusesKeyInfo, RefusesMaxLength}
use Rattle.make_work.specs.JsonRefusals.{RefusesOrigin, RefusesPart, RefusesPayloadObject}
use Rattle.make_work.specs.JsonRefusals.{RefusesPayloads, RefusesPrefixValue, RefusesProviders}
use Rattle.make_work.specs.JsonRefusals.{RefusesTop, RefusesUnknown, RefusesValue}
use Rattle.make_work.specs.JsonValues.{AreAsnValues, AreProviderValues, IsAsnValue}
use Rattle.make_work.specs.JsonValues.{IsKeyIdentifierValue, IsKeyInfoValue, IsMaxLengthValue}
use Rattle.make_work.specs.JsonValues.{IsPrefixValue, IsSetOf, IsSomeAsn, items_list, members_list}
use Rattle.make_work.specs.MakeWords.{is_one_of}
use Rattle.make_work.specs.declared.item.Item.{Item}
use Rattle.make_work.specs.declared.item.Reason.{Reason}
use Rattle.make_work.specs.declared.json_names.Holding.{Holding}
use Rattle.make_work.specs.declared.json_names.Holding.TheVariants as holdings
use Rattle.make_work.specs.declared.json_names.Kind.{Kind}
use Rattle.make_work.specs.declared.json_names.Kind.TheVariants.{Origins, RouterKeys, Aspas}
use Rattle.make_work.specs.declared.json_names.Part.{Part}
use Rattle.make_work.specs.declared.json_names.Part.TheVariants as parts
use Rattle.make_work.proofs.JsonRefused.{fine_asns, fine_customers, fine_each, fine_items}
use Rattle.make_work.proofs.NoPrefix.{no_prefix}
use Rattle.make_work.proofs.NoValue.{one_base64}

-- ---- one ASN at most

head_is : (c d : ℕ) (t u : List ℕ) → c ∷ t ≡ d ∷ u → c ≡ d
head_is c d t u e = ap (λ (l : List ℕ). get_or l 0 0) e

-- no number begins with a letter
no_letter : (c : ℕ) (t : List ℕ) (n : ℕ) → 57 < c → ¬ IsNumeral (c ∷ t) n
no_letter c t n letter h = elim h.form [
  | inl e ↦ absurd (omega (arith, head_is c 43 t h.digits e, letter))
  | inr e ↦ by_digits h.digits h.all e
]
  where
    by_digits : (ds : List ℕ) → AllByRecursion IsDigit ds → c ∷ t ≡ ds → ⊥
    by_digits [] all e = absurd cc
    by_digits (d ∷ ds) all e = absurd (omega (arith, head_is c d t ds e, all.0.1, letter))

abbrev Forms : (text digits : List ℕ) → Type 0
Forms text digits =
    (text ≡ codes "AS" ++ digits) ⊎ ((text ≡ codes "as" ++ digits) ⊎ (text ≡ digits))

asn_text_unique : (text : List ℕ) (m n : ℕ) → IsAsnText text m → IsAsnText text n → m ≡ n
asn_text_unique text m n a b = by_forms a.form b.form
  where
    same : a.digits ≡ b.digits → m ≡ n
    same e =
        numeral_unique b.digits m n
        (subst (λ (t : List ℕ). IsNumeral t m) e a.number.numeral) b.number.numeral

    by_forms : Forms text a.digits → Forms text b.digits → m ≡ n
    by_forms (inl e) (inl f) = same (ap (λ (t : List ℕ). drop 2 t) (sym e ∙ f))
    by_forms (inl e) (inr (inl f)) =
        absurd (omega (arith, ap (λ (t : List ℕ). get_or t 0 0) (sym e ∙ f)))
    by_forms (inl e) (inr (inr f)) =
        absurd (no_letter 65 (83 ∷ a.digits) n (omega arith)
        (subst (λ (t : List ℕ). IsNumeral t n) (sym f ∙ e) b.number.numeral))
    by_forms (inr (inl e)) (inl f) =
        absurd (omega (arith, ap (λ (t : List ℕ). get_or t 0 0) (sym e ∙ f)))
    by_forms (inr (inl e)) (inr (inl f)) = same (ap (λ (t : List ℕ). drop 2 t) (sym e ∙ f))
    by_forms (inr (inl e)) (inr (inr f)) =
        absurd (no_letter 97 (115 ∷ a.digits) n (omega arith)
        (subst (λ (t : List ℕ). IsNumeral t n) (sym f ∙ e) b.number.numeral))
    by_forms (inr (inr e)) (inl f) =
        absurd (no_letter 65 (83 ∷ b.digits) m (omega arith)
        (subst (λ (t : List ℕ). IsNumeral t m) (sym e ∙ f) a.number.numeral))
    by_forms (inr (inr e)) (inr (inl f)) =
        absurd (no_letter 97 (115 ∷ b.digits) m (omega arith)
        (subst (λ (t : List ℕ). IsNumeral t m) (sym e ∙ f) a.number.numeral))
    by_forms (inr (inr e)) (inr (inr f)) = same (sym e ∙ f)

asn_unique : (j : Json) (m n : ℕ) → IsAsnValue j m → IsAsnValue j n → m ≡ n
asn_unique (number s) m n a b = numeral_unique s m n a.numeral b.numeral
asn_unique (string s) m n a b = asn_text_unique s m n a.1 b.1
asn_unique other m n a b = absurd a

asns_unique : (js : List Json) (ms ns : List ℕ) → AreAsnValues js ms → AreAsnValues js ns → ms ≡ ns
asns_unique [] [] [] a b = refl
asns_unique [] [] (n ∷ ns) a b = absurd b
asns_unique [] (m ∷ ms) ns a b = absurd a
asns_unique (j ∷ js) [] ns a b = absurd a
asns_unique (j ∷ js) (m ∷ ms) [] a b = absurd b
asns_unique (j ∷ js) (m ∷ ms) (n ∷ ns) a b =
    let head = asn_unique j m n a.0 b.0 in
    let tail = asns_unique js ms ns a.1 b.1 in
    λ i. head i ∷ tail i

-- ---- one set at most

abbrev Rises : List ℕ → Type 0
Rises ns = IsStrictlySortedBy nat_cmp ns

here : (x : ℕ) (xs : List ℕ) → Contains (x ∷ xs) x
here x xs = (0, omega arith, refl)

later : (x y : ℕ) (xs : List ℕ) → Contains xs y → Contains (x ∷ xs) y
later x y xs (k, l, e) = (suc k, omega (arith, l), e)

either : (x y : ℕ) (xs : List ℕ) → Contains (x ∷ xs) y → (x ≡ y) ⊎ Contains xs y
either x y xs (zero, l, e) = inl e
either x y xs (suc k, l, e) = inr (k, omega (arith, l), e)

above : (x y : ℕ) (xs : List ℕ) → Rises (x ∷ xs) → Contains xs y → x < y
above x y xs s (k, l, e) =
    omega (arith, below_from_sorted (x ∷ xs) 0 (suc k) y s (omega arith) (omega (arith, l)), e)

no_longer : (xs ys : List ℕ) → Rises xs → Rises ys →
    ((n : ℕ) → Contains xs n → Contains ys n) → length xs ≤ length ys
no_longer [] ys s t all = omega arith
no_longer (x ∷ xs) [] s t all = let (k, l, e) = all x (here x xs) in absurd (omega (arith, l))
no_longer (x ∷ xs) (y ∷ ys) s t all = elim (either y x ys (all x (here x xs))) [
  | inl same ↦
      omega (
        arith,
        no_longer xs ys (sorted_tail nat_cmp x xs s) (sorted_tail nat_cmp y ys t)
            (λ n c. elim (either y n ys (all n (later x n xs c))) [
              | inl e ↦ absurd (omega (arith, above x n xs s c, same, e))
              | inr d ↦ d
            ]),
      )
  | inr there ↦
      omega (
        arith,
        no_longer (x ∷ xs) ys s (sorted_tail nat_cmp y ys t)
            (λ n c. elim (either y n ys (all n c)) [
              | inl e ↦
                  elim (either x n xs c) [
                    | inl f ↦ absurd (omega (arith, above y x ys t there, e, f))
                    | inr d ↦ absurd (omega (arith, above y x ys t there, above x n xs s d, e))
                  ]
              | inr d ↦ d
            ]),
      )
]

set_no_longer : (given ns ms : List ℕ) → IsSetOf given ns → IsSetOf given ms →
    length ns ≤ length ms
set_no_longer given ns ms a b =
    no_longer ns ms (sorted_from_strictly_increasing ns a.in_order)
    (sorted_from_strictly_increasing ms b.in_order)
    (λ n c. (b.same n).0 ((a.same n).1 c))

-- ---- values

not_first : {X : Type 0} (Fine Good : X → Type 0) (Refuses : X → Reason → Type 0) (why : Reason) →
    ((x : X) → Good x → Refuses x why → ⊥) → (xs : List X) → AllByRecursion Good xs →
    RefusesFirst Fine Refuses xs why → ⊥
not_first Fine Good Refuses why none [] all r = r
not_first Fine Good Refuses why none (x ∷ xs) all (inl r) = none x all.0 r
not_first Fine Good Refuses why none (x ∷ xs) all (inr (fine, r)) =
    not_first Fine Good Refuses why none xs all.1 r

prefix_value : (j : Json) (p : PrefixParts) (why : Reason) → IsPrefixValue j p →
    RefusesPrefixValue j why → ⊥
prefix_value (string s) p why h (inl (is, plus)) = true≢false (sym plus ∙ h.0)
prefix_value (string s) p why h (inr (none, e, is, r)) = no_prefix s p e r h.1
prefix_value other p why h r = absurd h

prefix_unique : (j : Json) (p q : PrefixParts) → IsPrefixValue j p → IsPrefixValue j q → p ≡ q
prefix_unique (string s) p q h g = form_unique s p q h.1.form g.1.form
prefix_unique other p q h g = absurd h

length_unique : (j : Json) (m n : ℕ) → IsMaxLengthValue j m → IsMaxLengthValue j n → m ≡ n
length_unique (number s) m n h g = numeral_unique s m n h.numeral g.numeral
length_unique other m n h g = absurd h

key_value : (j : Json) (b : List ℕ) (why : Reason) → IsKeyInfoValue j b →
    RefusesKeyInfo j why → ⊥
key_value (string s) b why h (inl (is, none)) = none b h.0
key_value (string s) b why h (inr (is, bytes, read, long)) =
    absurd (omega (arith, ap length (one_base64 s b bytes h.0 read), h.1, long))
key_value other b why h r = absurd h

identifier_value : (j : Json) (b : List ℕ) (why : Reason) → IsKeyIdentifierValue j b →
    RefusesKeyIdentifier j why → ⊥
identifier_value (string s) b why h r = r.0 b h
identifier_value other b why h r = absurd h

providers_value : (j : Json) (ps : List ℕ) (why : Reason) → AreProviderValues j ps →
    RefusesProviders j why → ⊥
providers_value (array js) ps why (given, asns, set, few) (inl r) =
    not_first IsSomeAsn IsSomeAsn RefusesAsn why (λ x some none. none.1 some.0 some.1)
    (items_list js) (fine_asns (items_list js) given asns) r
providers_value (array js) ps why (given, asns, set, few) (inr (is, many)) =
    let same = asns_unique (items_list js) many.given given many.asns asns in
    absurd (omega (
      arith,
      set_no_longer given many.set ps (subst (λ g. IsSetOf g many.set) same many.is_set) set,
      many.many,
      few,
    ))
providers_value other ps why h r = absurd h

-- ---- parts

module _ (p : Part) (ms : List (List ℕ × Json)) where
  single : (j k : Json) → values_of p ms ≡ j ∷ [] → values_of p ms ≡ k ∷ [] → j ≡ k
  single j k e f = let same : j ∷ [] ≡ k ∷ [] = sym e ∙ f in cc

  module _ {T : Type 0} (Means : Json → T → Type 0) (Refuses : Json → Reason → Type 0)
      (why : Reason) (none : (j : Json) (x : T) → Means j x → Refuses j why → ⊥) where
    not_any : (x : T) → Has p Means ms x → RefusesAny p Refuses ms why → ⊥
    not_any x (j, e, means) (inl (is, twice)) = absurd (omega (arith, ap length e, twice))
    not_any x (j, e, means) (inr (k, f, r)) =
        none k x (subst (λ i. Means i x) (single j k e f) means) r

    not_part : (x : T) → Has p Means ms x → RefusesPart p Refuses ms why → ⊥
    not_part x (j, e, means) (inl (is, lacks)) =
        absurd (omega (arith, ap length e, ap length lacks))
    not_part x h (inr r) = not_any x h r

    not_maybe : (x : Option T) → MayHave p Means ms x → RefusesAny p Refuses ms why → ⊥
    not_maybe None lacks (inl (is, twice)) = absurd (omega (arith, ap length lacks, twice))
    not_maybe None lacks (inr (k, f, r)) = absurd (omega (arith, ap length lacks, ap length f))
    not_maybe (Some x) h r = not_any x h r

  module _ {T : Type 0} (Means : Json → T → Type 0)
      (unique : (j : Json) (x y : T) → Means j x → Means j y → x ≡ y) where
    has_one : (x y : T) → Has p Means ms x → Has p Means ms y → x ≡ y
    has_one x y (j, e, means) (k, f, means') =
        unique k x y (subst (λ i. Means i x) (single j k e f) means) means'

    may_have_one : (x y : Option T) → MayHave p Means ms x → MayHave p Means ms y → x ≡ y
    may_have_one None None h g = refl
    may_have_one None (Some y) h (k, f, m) = absurd (omega (arith, ap length h, ap length f))
    may_have_one (Some x) None (k, f, m) g = absurd (omega (arith, ap length g, ap length f))
    may_have_one (Some x) (Some y) h g = ap (λ z. Some z) (has_one x y h g)

not_asn : (j : Json) (n : ℕ) (why : Reason) → IsAsnValue j n → RefusesAsn j why → ⊥
not_asn j n why h r = r.1 n h

-- ---- payloads

keeps_rule : (p : PrefixParts) (x : ℕ) (e : MaxLenError) →
    IsMaxLenPrefix (record { prefix = p; max_len = Some x }) → BreaksMaxLen p x e → ⊥
keeps_rule p x Overflow valid r = absurd (omega (arith, valid.upper, r))
keeps_rule p x Underflow valid r = absurd (omega (arith, valid.lower, r))

not_origin : (ms : List (List ℕ × Json)) (o : _) (why : Reason) → IsOriginObject ms o →
    RefusesOrigin ms why → ⊥
not_origin ms o why h (inl r) =
    not_part parts.Prefix ms IsPrefixValue RefusesPrefixValue why
    (λ j p m s. prefix_value j p why m s) o.prefix.prefix h.prefix r
not_origin ms o why h (inr (p, has, inl r)) =
    not_maybe parts.MaxLength ms IsMaxLengthValue RefusesMaxLength why (λ j n m s. s.1 n m)
    o.prefix.max_len h.max_length r
not_origin ms o why h (inr (p, has, inr (m, may, inl r))) =
    not_part parts.Asn ms IsAsnValue RefusesAsn why (λ j n m s. s.1 n m) o.asn h.asn r
not_origin ms o why h
    (inr (p, has, inr (m, may, inr (n, asn, (x, e, is, said, breaks))))) =
    let prefix = has_one parts.Prefix ms IsPrefixValue prefix_unique o.prefix.prefix p h.prefix has
    in
    let max =
    may_have_one parts.MaxLength ms IsMaxLengthValue length_unique o.prefix.max_len m h.max_length
    may ∙ is in
    keeps_rule p x e
    (subst IsMaxLenPrefix (λ i. record { prefix = prefix i; max_len = max i }) h.valid) breaks

not_payload : (kind : Kind) (ms : List (List ℕ × Json)) (p : _) (why : Reason) →
    IsPayloadObject kind ms p → RefusesPayloadObject kind ms why → ⊥
not_payload Origins ms p why (o, is, h) r = not_origin ms o why h r
not_payload RouterKeys ms p why (k, is, h) (inl r) =
    not_part parts.Asn ms IsAsnValue RefusesAsn why (λ j n m s. s.1 n m) k.asn h.asn r
not_payload RouterKeys ms p why (k, is, h) (inr (n, asn, inl r)) =
    not_part parts.KeyIdentifier ms IsKeyIdentifierValue RefusesKeyIdentifier why
    (λ j b m s. identifier_value j b why m s) k.key_identifier h.key_identifier r
not_payload RouterKeys ms p why (k, is, h) (inr (n, asn, inr (i, has, r))) =
    not_part parts.KeyInfo ms IsKeyInfoValue RefusesKeyInfo why
    (λ j b m s. key_value j b why m s) k.key_info h.key_info r
not_payload Aspas ms p why (a, is, h) (inl r) =
    not_part parts.Customer ms IsAsnValue RefusesAsn why (λ j n m s. s.1 n m) a.customer h.customer
    r
not_payload Aspas ms p why (a, is, h) (inr (n, customer, r)) =
    not_part parts.Providers ms AreProviderValues RefusesProviders why
    (λ j ps m s. providers_value j ps why m s) a.providers h.providers r

not_item : (kind : Kind) (j : Json) (why : Reason) → IsSomeItem kind j →
    RefusesArrayItem kind j why → ⊥
not_item kind (object ms) why (p, h) r = not_payload kind (members_list ms) p why h r
not_item kind other why (p, h) r = absurd h

not_customer : (m : List ℕ × Json) (why : Reason) → IsSomeCustomer m → RefusesCustomer m why → ⊥
not_customer m why (p, (a, is, name, ps)) (inl (said, none)) = none a.customer name
not_customer m why (p, (a, is, name, ps)) (inr (n, asn, r)) =
    providers_value m.1 a.providers why ps r

not_payloads : (kind : Kind) (j : Json) (ps : List Dated) (why : Reason) →
    ArePayloadsIn kind j ps → RefusesPayloads kind j why → ⊥
not_payloads kind null ps why h r = r
not_payloads kind (array js) ps why h r =
    not_first (IsSomeItem kind) (IsSomeItem kind) (RefusesArrayItem kind) why
    (λ j some s. not_item kind j why some s) (items_list js) (fine_items kind (items_list js) ps h)
    r
not_payloads Aspas (object ms) ps why h r =
    not_first IsSomeCustomer IsSomeCustomer RefusesCustomer why
    (λ m some s. not_customer m why some s) (members_list ms)
    (fine_customers (members_list ms) ps h) r
not_payloads kind other ps why h r = absurd h

-- ---- members

not_unknown : (j : Json) (ps : List Dated) (why : Reason) → AreNoPayloads j ps →
    RefusesUnknown j why → ⊥
not_unknown j ps why h r = h.0 r.1

not_family : (m : List ℕ × Json) (why : Reason) → HasFamilyPayloads m → RefusesFamily m why → ⊥
not_family m why (ps, h) r = by_name (is_family m.0) h r
  where
    by_name : (b : Bool) → MatchBool b (ArePayloadsIn Aspas m.1 ps) (AreNoPayloads m.1 ps) →
        MatchBool b (RefusesPayloads Aspas m.1 why) (RefusesUnknown m.1 why) → ⊥
    by_name true h r = not_payloads Aspas m.1 ps why h r
    by_name false h r = not_unknown m.1 ps why h r

not_authorizations : (j : Json) (ps : List Dated) (why : Reason) → AreAuthorizations j ps →
    RefusesAuthorizations j why → ⊥
not_authorizations (object ms) ps why h r =
    not_first HasFamilyPayloads HasFamilyPayloads RefusesFamily why
    (λ m some s. not_family m why some s) (members_list ms)
    (fine_each AreFamilyPayloads (members_list ms) ps h) r
not_authorizations other ps why h r = absurd h

not_by : (o : Option Holding) (j : Json) (ps : List Dated) (why : Reason) → ArePayloadsBy o j ps →
    RefusesBy o j why → ⊥
not_by (Some (holdings.Payloads kind)) j ps why h r = not_payloads kind j ps why h r
not_by (Some holdings.Authorizations) j ps why h r = not_authorizations j ps why h r
not_by (Some holdings.Metadata) j ps why h r = r
not_by None j ps why h r = not_unknown j ps why h r

not_top : (ignored : List (List ℕ)) (m : List ℕ × Json) (why : Reason) →
    HasTopPayloads ignored m → RefusesTop ignored m why → ⊥
not_top ignored m why (ps, h) r = by_name (is_one_of ignored m.0) h r
  where
    by_name : (b : Bool) → MatchBool b (ps ≡ []) (ArePayloadsBy (holding_named m.0) m.1 ps) →
        MatchBool b ⊥ (RefusesBy (holding_named m.0) m.1 why) → ⊥
    by_name true h r = r
    by_name false h r = not_by (holding_named m.0) m.1 ps why h r

-- ---- the document

not_value : (ignored : List (List ℕ)) (j : Json) (items : List Item) (why : Reason) →
    HasItemsOf ignored j items → RefusesValue ignored j why → ⊥
not_value ignored (object ms) items why h (inl r) =
    not_first (HasTopPayloads ignored) (HasTopPayloads ignored) (RefusesTop ignored) why
    (λ m some s. not_top ignored m why some s) (members_list ms)
    (fine_each (AreTopPayloads ignored) (members_list ms) _ h.payloads) r
not_value ignored (object ms) items why h (inr (is, lacks)) =
    true≢false (sym h.some ∙ lacks.none)
not_value ignored other items why h r = absurd h

pub excluded : (ignored : List (List ℕ)) (text : List ℕ) (items : List Item) (why : Reason) →
    IsJsonOf ignored text items → RefusesJson ignored text why → ⊥
excluded ignored text items why h (inl (is, none)) = none h.utf8
excluded ignored text items why h (inr (utf8, r)) =
    not_value ignored h.value items why h.has
    (subst (λ o. RefusesDocument ignored o why) h.whole r)
