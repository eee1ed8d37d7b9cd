-- What items have of a document of which some was read.
use Rattle.std.proofs.Common.{◌≡◌, ℕ, ◌+◌, ◌<◌, ◌≤◌, List, [], ◌∷◌, ◌++◌, take, length, get_or}
use Rattle.std.proofs.Common.{refl, sym, ap, subst, ◌∙◌, append_assoc, Vec, Some, Bool, true, false}
use Rattle.std.proofs.Common.{rules, inl, MatchResult, Result, Ok, Err}
use Rattle.std.proofs.lemmas.List.{append-nil, map-append, take_all, take_more}
use Rattle.std.specs.Bool.{MatchBool}
use Rattle.std.specs.Borrow.{Bor}
use Rattle.json.specs.Json.{Json, array, number, object, string}
use Rattle.json.specs.Value.{items_view, members_view, value_view}
use Rattle.json.proofs.Trees.{view-Array, view-Object}
use Rattle.json.specs.declared.value.Value.{Array, Number, Object, String, Value, the_lemmas}
use Rattle.make_work.specs.JsonPayloads.{AreCustomerAspas, AreItemPayloads, ArePayloadsOfEach}
use Rattle.make_work.specs.JsonNames.{holding_named}
use Rattle.make_work.specs.JsonPayloads.{ArePayloadsBy, AreTopPayloads, holds_part}
use Rattle.make_work.specs.JsonPayloads.{Dated, IsDatedCustomer, IsDatedItem, dated}
use Rattle.make_work.specs.MakeWords.{is_one_of}
use Rattle.make_work.specs.declared.json_names.Holding.TheVariants.{Metadata}
use Rattle.make_work.specs.JsonValues.{AreAsnValues, IsAsnValue, items_list, members_list}
use Rattle.make_work.specs.PrivateJson.{AddsOne, AddsPayloads, payloads_of}
use Rattle.rtr_payload.specs.declared.payload.Payload.{Payload}
use Rattle.make_work.specs.JsonRefusals.{OrMemory}
use Rattle.make_work.specs.declared.item.Expiry.{Expiry}
use Rattle.make_work.specs.declared.gathering.Gathering.{Gathering}
use Rattle.make_work.specs.declared.item.Reason.{Reason}
use Rattle.make_work.specs.declared.item.Reason.TheVariants.{Memory}
use Rattle.make_work.specs.declared.item.Refusal.{Refusal}
use Rattle.make_work.specs.declared.json_names.Kind.{Kind}
use Rattle.make_work.specs.declared.json_names.Part.{Part}
use Rattle.make_work.proofs.Takings.{takes_both, takes_none}

-- ---- one more

abbrev pub Member : Type 0 → Type 0
Member A = Bor (List ℕ) × Value A

module _ {A : Type 0} where
  values_more : (vs : List (Value A)) (v : Value A) →
      items_list (items_view (vs ++ v ∷ [])) ≡ items_list (items_view vs) ++ value_view v ∷ []
  values_more [] v = refl
  values_more (w ∷ vs) v = ap (λ l. value_view w ∷ l) (values_more vs v)

  members_more : (ms : List (Member A)) (m : Member A) →
      members_list (members_view (ms ++ m ∷ []))
      ≡ members_list (members_view ms) ++ (m.0.now, value_view m.1) ∷ []
  members_more [] m = refl
  members_more (n ∷ ms) m =
      ap (λ l. (n.0.now, value_view n.1) ∷ l) (members_more ms m)

  -- the values, and the members, of the first ones and one more
  pub values_to : (vs : List (Value A)) (i : ℕ) (d : Value A) → i < length vs →
      items_list (items_view (take (i + 1) vs))
      ≡ items_list (items_view (take i vs)) ++ value_view (get_or vs i d) ∷ []
  values_to vs i d h =
      ap (λ l. items_list (items_view l)) (take_more vs i d h)
      ∙ values_more (take i vs) (get_or vs i d)

  pub members_to : (ms : List (Member A)) (i : ℕ) (d : Member A) → i < length ms →
      members_list (members_view (take (i + 1) ms))
      ≡ members_list (members_view (take i ms))
      ++ ((get_or ms i d).0.now, value_view (get_or ms i d).1) ∷ []
  members_to ms i d h =
      ap (λ l. members_list (members_view l)) (take_more ms i d h)
      ∙ members_more (take i ms) (get_or ms i d)

pub asns_more : (js : List Json) (ns : List ℕ) (j : Json) (n : ℕ) → AreAsnValues js ns →
    IsAsnValue j n → AreAsnValues (js ++ j ∷ []) (ns ++ n ∷ [])
asns_more [] [] j n h k = (k, tt)
asns_more [] (m ∷ ns) j n h k = absurd h
asns_more (i ∷ js) [] j n h k = absurd h
asns_more (i ∷ js) (m ∷ ns) j n h k = (h.0, asns_more js ns j n h.1 k)

pub item_more : (kind : Kind) (js : List Json) (ps : List Dated) (j : Json) (p : Dated) →
    AreItemPayloads kind js ps → IsDatedItem kind j p →
    AreItemPayloads kind (js ++ j ∷ []) (ps ++ p ∷ [])
item_more kind [] [] j p h k = (k, tt)
item_more kind [] (q ∷ ps) j p h k = absurd h
item_more kind (i ∷ js) [] j p h k = absurd h
item_more kind (i ∷ js) (q ∷ ps) j p h k = (h.0, item_more kind js ps j p h.1 k)

pub customer_more : (ms : List (List ℕ × Json)) (ps : List Dated) (m : List ℕ × Json)
    (p : Dated) → AreCustomerAspas ms ps → IsDatedCustomer m.0 m.1 p →
    AreCustomerAspas (ms ++ m ∷ []) (ps ++ p ∷ [])
customer_more [] [] m p h k = (k, tt)
customer_more [] (q ∷ ps) m p h k = absurd h
customer_more (n ∷ ms) [] m p h k = absurd h
customer_more (n ∷ ms) (q ∷ ps) m p h k = (h.0, customer_more ms ps m p h.1 k)

pub each_more : (Each : List ℕ → Json → List Dated → Type 0) (ms : List (List ℕ × Json))
    (ps : List Dated) (m : List ℕ × Json) (more : List Dated) →
    ArePayloadsOfEach Each ms ps → Each m.0 m.1 more →
    ArePayloadsOfEach Each (ms ++ m ∷ []) (ps ++ more)
each_more Each [] ps m more h k =
    (more, [], ap (λ l. l ++ more) h ∙ sym (append-nil more), k, refl)
each_more Each (n ∷ ms) ps m more (first, later, is, here, rest) k = (
  first,
  later ++ more,
  ap (λ l. l ++ more) is ∙ append_assoc first later more,
  here,
  each_more Each ms later m more rest k,
)

-- ---- items that are taken

pub nothing : (Holds : List Dated → Type 0) (old : Gathering) → Holds [] →
    AddsPayloads Holds old old
nothing Holds old h = record { more = []; added = takes_none old; payloads = h }

-- first these, and then those
pub both : (First Second Whole : List Dated → Type 0) (old mid new : Gathering) →
    ((ps qs : List Dated) → First ps → Second qs → Whole (ps ++ qs)) →
    AddsPayloads First old mid → AddsPayloads Second mid new → AddsPayloads Whole old new
both First Second Whole old mid new whole a b = record {
  more = a.more ++ b.more;
  added = takes_both a.more b.more old mid new a.added b.added;
  payloads = subst Whole (sym (map-append dated a.more b.more))
      (whole (payloads_of a.more) (payloads_of b.more) a.payloads b.payloads);
}

-- an item more
pub one : (First Whole : List Dated → Type 0) (Means : Dated → Type 0)
    (old mid new : Gathering) →
    ((ps : List Dated) (p : Dated) → First ps → Means p → Whole (ps ++ p ∷ [])) →
    AddsPayloads First old mid → AddsOne Means mid new → AddsPayloads Whole old new
one First Whole Means old mid new whole a b =
    both First (λ l. (p : Dated) × (l ≡ p ∷ []) × Means p) Whole old mid new
    (λ ps qs h k. subst (λ l. Whole (ps ++ l)) (sym k.1) (whole ps k.0 h k.2)) a
    (record { more = b.item ∷ []; added = b.added; payloads = (dated b.item, refl, b.meant) })

-- ---- after the first elements

module _ {A : Type 0} where
  pub asns_step : (vs : List (Value A)) (i : ℕ) (x : Value A) (ns new : List ℕ) (n : ℕ) →
      i < length vs → x ≡ get_or vs i x → IsAsnValue (value_view x) n → new ≡ ns ++ n ∷ [] →
      AreAsnValues (items_list (items_view (take i vs))) ns →
      AreAsnValues (items_list (items_view (take (i + 1) vs))) new
  asns_step vs i x ns new n small is means added h =
      subst (AreAsnValues (items_list (items_view (take (i + 1) vs)))) (sym added)
      (subst (λ js. AreAsnValues js (ns ++ n ∷ [])) (sym (values_to vs i x small))
      (asns_more _ ns _ n h (subst (λ v. IsAsnValue (value_view v) n) is means)))

  pub asns_all : (vs : List (Value A)) (i : ℕ) (ns : List ℕ) → length vs ≤ i →
      AreAsnValues (items_list (items_view (take i vs))) ns →
      AreAsnValues (items_list (items_view vs)) ns
  asns_all vs i ns large h =
      subst (λ l. AreAsnValues (items_list (items_view l)) ns) (take_all i vs large) h

  pub list_step : (kind : Kind) (vs : List (Value A)) (i : ℕ) (x : Value A)
      (old mid new : Gathering) → i < length vs → x ≡ get_or vs i x →
      AddsPayloads (AreItemPayloads kind (items_list (items_view (take i vs)))) old mid →
      AddsOne (IsDatedItem kind (value_view x)) mid new →
      AddsPayloads (AreItemPayloads kind (items_list (items_view (take (i + 1) vs)))) old new
  list_step kind vs i x old mid new small is a b =
      one _ _ _ old mid new
      (λ ps p h k.
      subst (λ js. AreItemPayloads kind js (ps ++ p ∷ [])) (sym (values_to vs i x small))
      (item_more kind _ ps _ p h (subst (λ v. IsDatedItem kind (value_view v) p) is k))) a b

  pub list_all : (kind : Kind) (vs : List (Value A)) (i : ℕ) (old new : Gathering) →
      length vs ≤ i →
      AddsPayloads (AreItemPayloads kind (items_list (items_view (take i vs)))) old new →
      AddsPayloads (AreItemPayloads kind (items_list (items_view vs))) old new
  list_all kind vs i old new large h =
      subst (λ l. AddsPayloads (AreItemPayloads kind (items_list (items_view l))) old new)
      (take_all i vs large) h

  pub customer_step : (ms : List (Member A)) (i : ℕ) (x : Member A) (old mid new : Gathering) →
      i < length ms → x ≡ get_or ms i x →
      AddsPayloads (AreCustomerAspas (members_list (members_view (take i ms)))) old mid →
      AddsOne (IsDatedCustomer x.0.now (value_view x.1)) mid new →
      AddsPayloads (AreCustomerAspas (members_list (members_view (take (i + 1) ms)))) old new
  customer_step ms i x old mid new small is a b =
      one _ _ _ old mid new
      (λ ps p h k. subst (λ l. AreCustomerAspas l (ps ++ p ∷ [])) (sym (members_to ms i x small))
      (customer_more _ ps _ p h
      (subst (λ (m : Member A). IsDatedCustomer m.0.now (value_view m.1) p) is k))) a b

  pub customer_all : (ms : List (Member A)) (i : ℕ) (old new : Gathering) → length ms ≤ i →
      AddsPayloads (AreCustomerAspas (members_list (members_view (take i ms)))) old new →
      AddsPayloads (AreCustomerAspas (members_list (members_view ms))) old new
  customer_all ms i old new large h =
      subst (λ l. AddsPayloads (AreCustomerAspas (members_list (members_view l))) old new)
      (take_all i ms large) h

  pub each_step : (Each : List ℕ → Json → List Dated → Type 0) (ms : List (Member A)) (i : ℕ)
      (x : Member A) (old mid new : Gathering) → i < length ms → x ≡ get_or ms i x →
      AddsPayloads (ArePayloadsOfEach Each (members_list (members_view (take i ms)))) old mid →
      AddsPayloads (Each x.0.now (value_view x.1)) mid new →
      AddsPayloads (ArePayloadsOfEach Each (members_list (members_view (take (i + 1) ms)))) old new
  each_step Each ms i x old mid new small is a b =
      both _ _ _ old mid new
      (λ ps qs h k. subst (λ l. ArePayloadsOfEach Each l (ps ++ qs)) (sym (members_to ms i x small))
      (each_more Each _ ps _ qs h
      (subst (λ (m : Member A). Each m.0.now (value_view m.1) qs) is k))) a b

  pub each_all : (Each : List ℕ → Json → List Dated → Type 0) (ms : List (Member A)) (i : ℕ)
      (old new : Gathering) → length ms ≤ i →
      AddsPayloads (ArePayloadsOfEach Each (members_list (members_view (take i ms)))) old new →
      AddsPayloads (ArePayloadsOfEach Each (members_list (members_view ms))) old new
  each_all Each ms i old new large h =
      subst (λ l. AddsPayloads (ArePayloadsOfEach Each (members_list (members_view l))) old new)
      (take_all i ms large) h

-- an item more, by what its payload and its expiry mean; or memory ran out
pub pushed : {T : Type 0} (r : Result T Refusal) (p : Payload) (e : Expiry)
    (Means : Dated → Type 0) (Refuses : Reason → Type 0) (old new : Gathering) → Means (p, e) →
    MatchResult r (λ _. AddsOne (λ q. q ≡ (p, e)) old new) (λ x. x.reason ≡ Memory) →
    MatchResult r (λ _. AddsOne Means old new) (λ x. OrMemory Refuses x.reason)
pushed (Ok t) p e Means Refuses old new m a =
    record { item = a.item; meant = subst Means (sym a.meant) m; added = a.added }
pushed (Err x) p e Means Refuses old new m a = inl a

-- ---- what a value is that holds others

pub object_seen : {A : Type 0} (j : Value A) (v : Vec (Member A) A) (l : List (Member A)) →
    j ≡ Object v → l ≡ v.items → value_view j ≡ object (members_view l)
object_seen j v l e f =
    ap value_view e ∙ view-Object v ∙ ap (λ k. object (members_view k)) (sym f)

pub array_seen : {A : Type 0} (j : Value A) (v : Vec (Value A) A) (l : List (Value A)) →
    j ≡ Array v → l ≡ v.items → value_view j ≡ array (items_view l)
array_seen j v l e f = ap value_view e ∙ view-Array v ∙ ap (λ k. array (items_view k)) (sym f)

view-Number : (A : Type 0) (s : Bor (List ℕ)) → value_view {A = A} (Number s) ≡ number s.now
view-Number A s = search (rules, the_lemmas)

pub number_seen : {A : Type 0} (j : Value A) (s : Bor (List ℕ)) → j ≡ Number s →
    value_view j ≡ number s.now
number_seen {A} j s e = ap value_view e ∙ view-Number A s

view-String : (A : Type 0) (s : Bor (List ℕ)) → value_view {A = A} (String s) ≡ string s.now
view-String A s = search (rules, the_lemmas)

pub string_seen : {A : Type 0} (j : Value A) (s : Bor (List ℕ)) → j ≡ String s →
    value_view j ≡ string s.now
string_seen {A} j s e = ap value_view e ∙ view-String A s

-- what is to be ignored has no payloads
pub top_ignored : (ignored : List (List ℕ)) (name : List ℕ) (j : Json) →
    is_one_of ignored name ≡ true → AreTopPayloads ignored name j []
top_ignored ignored name j e =
    subst (λ b. MatchBool b (◌≡◌ {A = List Dated} [] [])
    (ArePayloadsBy (holding_named name) j [])) (sym e) refl

-- what the validator says of itself has no payloads
pub top_none : (ignored : List (List ℕ)) (name : List ℕ) (j : Json) →
    is_one_of ignored name ≡ false → holding_named name ≡ Some Metadata →
    AreTopPayloads ignored name j []
top_none ignored name j e f =
    subst (λ b. MatchBool b (◌≡◌ {A = List Dated} [] [])
    (ArePayloadsBy (holding_named name) j [])) (sym e)
    (subst (λ h. ArePayloadsBy h j []) (sym f) refl)

-- whether a member is this part
abbrev pub some_part : {A : Type 0} → Part → List (Member A) → Bool
some_part p ms = holds_part (members_list (members_view ms)) p
