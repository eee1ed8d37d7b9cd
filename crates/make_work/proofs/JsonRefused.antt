-- Why a document is refused, of which some was read.
use Rattle.std.proofs.Common.{◌≡◌, ℕ, ◌<◌, List, [], ◌∷◌, ◌++◌, suc, take, drop, length}
use Rattle.std.proofs.Common.{get_or, drop-cons, inl, inr, refl, sym, ap, subst, ◌∙◌}
use Rattle.std.proofs.Common.{MatchResult, Result, Ok, Err}
use Rattle.std.proofs.lemmas.List.{take-append-drop}
use Rattle.std.specs.List.{AllByRecursion}
use Rattle.json.specs.Json.{Json}
use Rattle.json.specs.Value.{items_view, members_view, value_view}
use Rattle.json.specs.declared.value.Value.{Value}
use Rattle.make_work.specs.JsonPayloads.{AreCustomerAspas, AreItemPayloads, ArePayloadsOfEach}
use Rattle.make_work.specs.JsonPayloads.{Dated}
use Rattle.make_work.specs.JsonRefusals.{IsSomeCustomer, IsSomeItem, OrMemory}
use Rattle.make_work.specs.JsonRefusals.{RefusesArrayItem, RefusesAsn}
use Rattle.make_work.specs.JsonRefusals.{RefusesCustomer, RefusesFirst}
use Rattle.make_work.specs.JsonValues.{AreAsnValues, IsSomeAsn, items_list, members_list}
use Rattle.make_work.specs.PrivateJson.{AddsPayloads}
use Rattle.make_work.specs.declared.gathering.Gathering.{Gathering}
use Rattle.make_work.specs.declared.item.Reason.{Reason}
use Rattle.make_work.specs.declared.item.Refusal.{Refusal}
use Rattle.make_work.specs.declared.json_names.Kind.{Kind}
use Rattle.make_work.proofs.JsonSoFar.{Member}

pub or_memory : (P Q : Reason → Type 0) (why : Reason) → ((w : Reason) → P w → Q w) →
    OrMemory P why → OrMemory Q why
or_memory P Q why f (inl e) = inl e
or_memory P Q why f (inr p) = inr (f why p)

-- ---- the first of many

pub first : {X : Type 0} (Fine : X → Type 0) (Refuses : X → Reason → Type 0) (before : List X)
    (x : X) (after : List X) (why : Reason) → AllByRecursion Fine before → Refuses x why →
    RefusesFirst Fine Refuses (before ++ x ∷ after) why
first Fine Refuses [] x after why h r = inl r
first Fine Refuses (b ∷ before) x after why h r =
    inr (h.0, first Fine Refuses before x after why h.1 r)

pub fine_asns : (js : List Json) (ns : List ℕ) → AreAsnValues js ns → AllByRecursion IsSomeAsn js
fine_asns [] ns h = tt
fine_asns (j ∷ js) [] h = absurd h
fine_asns (j ∷ js) (n ∷ ns) h = ((n, h.0), fine_asns js ns h.1)

pub fine_items : (kind : Kind) (js : List Json) (ps : List Dated) → AreItemPayloads kind js ps →
    AllByRecursion (IsSomeItem kind) js
fine_items kind [] ps h = tt
fine_items kind (j ∷ js) [] h = absurd h
fine_items kind (j ∷ js) (p ∷ ps) h = ((p.0, h.0.0), fine_items kind js ps h.1)

pub fine_customers : (ms : List (List ℕ × Json)) (ps : List Dated) → AreCustomerAspas ms ps →
    AllByRecursion IsSomeCustomer ms
fine_customers [] ps h = tt
fine_customers (m ∷ ms) [] h = absurd h
fine_customers (m ∷ ms) (p ∷ ps) h = ((p.0, h.0.0), fine_customers ms ps h.1)

pub fine_each : (Each : List ℕ → Json → List Dated → Type 0) (ms : List (List ℕ × Json))
    (ps : List Dated) → ArePayloadsOfEach Each ms ps →
    AllByRecursion (λ m. (qs : List Dated) × Each m.0 m.1 qs) ms
fine_each Each [] ps h = tt
fine_each Each (m ∷ ms) ps (here, later, is, means, rest) =
    ((here, means), fine_each Each ms later rest)

-- ---- where the first one that is refused stands

cut : {X : Type 0} (xs : List X) (i : ℕ) (x : X) → i < length xs → x ≡ get_or xs i x →
    xs ≡ take i xs ++ x ∷ drop (suc i) xs
cut xs i x small is =
    sym (take-append-drop i xs)
    ∙ ap (λ l. take i xs ++ l) (drop-cons xs i x small ∙ ap (λ y. y ∷ drop (suc i) xs) (sym is))

module _ {A : Type 0} where
  values_join : (vs ws : List (Value A)) →
      items_list (items_view (vs ++ ws))
      ≡ items_list (items_view vs) ++ items_list (items_view ws)
  values_join [] ws = refl
  values_join (v ∷ vs) ws = ap (λ l. value_view v ∷ l) (values_join vs ws)

  members_join : (ms ns : List (Member A)) →
      members_list (members_view (ms ++ ns))
      ≡ members_list (members_view ms) ++ members_list (members_view ns)
  members_join [] ns = refl
  members_join (m ∷ ms) ns = ap (λ l. (m.0.now, value_view m.1) ∷ l) (members_join ms ns)

  values_cut : (vs : List (Value A)) (i : ℕ) (x : Value A) → i < length vs → x ≡ get_or vs i x →
      items_list (items_view vs)
      ≡ items_list (items_view (take i vs))
      ++ value_view x ∷ items_list (items_view (drop (suc i) vs))
  values_cut vs i x small is =
      ap (λ l. items_list (items_view l)) (cut vs i x small is)
      ∙ values_join (take i vs) (x ∷ drop (suc i) vs)

  pub members_cut : (ms : List (Member A)) (i : ℕ) (x : Member A) → i < length ms →
      x ≡ get_or ms i x →
      members_list (members_view ms)
      ≡ members_list (members_view (take i ms))
      ++ (x.0.now, value_view x.1) ∷ members_list (members_view (drop (suc i) ms))
  members_cut ms i x small is =
      ap (λ l. members_list (members_view l)) (cut ms i x small is)
      ∙ members_join (take i ms) (x ∷ drop (suc i) ms)

  -- the value after those that are fine is refused
  values_refused : (Fine : Json → Type 0) (Refuses : Json → Reason → Type 0)
      (vs : List (Value A)) (i : ℕ) (x : Value A) (why : Reason) → i < length vs →
      x ≡ get_or vs i x → AllByRecursion Fine (items_list (items_view (take i vs))) →
      Refuses (value_view x) why →
      RefusesFirst Fine Refuses (items_list (items_view vs)) why
  values_refused Fine Refuses vs i x why small is fine r =
      subst (λ js. RefusesFirst Fine Refuses js why) (sym (values_cut vs i x small is))
      (first Fine Refuses (items_list (items_view (take i vs))) (value_view x)
      (items_list (items_view (drop (suc i) vs))) why fine r)

  members_refused : (Fine : List ℕ × Json → Type 0) (Refuses : List ℕ × Json → Reason → Type 0)
      (ms : List (Member A)) (i : ℕ) (x : Member A) (why : Reason) → i < length ms →
      x ≡ get_or ms i x → AllByRecursion Fine (members_list (members_view (take i ms))) →
      Refuses (x.0.now, value_view x.1) why →
      RefusesFirst Fine Refuses (members_list (members_view ms)) why
  members_refused Fine Refuses ms i x why small is fine r =
      subst (λ l. RefusesFirst Fine Refuses l why) (sym (members_cut ms i x small is))
      (first Fine Refuses (members_list (members_view (take i ms))) (x.0.now, value_view x.1)
      (members_list (members_view (drop (suc i) ms))) why fine r)

  pub asns_refused : (vs : List (Value A)) (i : ℕ) (x : Value A) (ns : List ℕ) (why : Reason) →
      i < length vs → x ≡ get_or vs i x →
      AreAsnValues (items_list (items_view (take i vs))) ns → RefusesAsn (value_view x) why →
      RefusesFirst IsSomeAsn RefusesAsn (items_list (items_view vs)) why
  asns_refused vs i x ns why small is h r =
      values_refused IsSomeAsn RefusesAsn vs i x why small is (fine_asns _ ns h) r

  pub list_refused : (kind : Kind) (vs : List (Value A)) (i : ℕ) (x : Value A)
      (old mid : Gathering) (why : Reason) → i < length vs → x ≡ get_or vs i x →
      AddsPayloads (AreItemPayloads kind (items_list (items_view (take i vs)))) old mid →
      OrMemory (RefusesArrayItem kind (value_view x)) why →
      OrMemory (RefusesFirst (IsSomeItem kind) (RefusesArrayItem kind)
      (items_list (items_view vs))) why
  list_refused kind vs i x old mid why small is a r =
      or_memory (RefusesArrayItem kind (value_view x))
      (RefusesFirst (IsSomeItem kind) (RefusesArrayItem kind) (items_list (items_view vs))) why
      (λ w k. values_refused (IsSomeItem kind) (RefusesArrayItem kind) vs i x w small is
      (fine_items kind _ _ a.payloads) k) r

  pub customer_refused : (ms : List (Member A)) (i : ℕ) (x : Member A) (old mid : Gathering)
      (why : Reason) → i < length ms → x ≡ get_or ms i x →
      AddsPayloads (AreCustomerAspas (members_list (members_view (take i ms)))) old mid →
      OrMemory (RefusesCustomer (x.0.now, value_view x.1)) why →
      OrMemory (RefusesFirst IsSomeCustomer RefusesCustomer (members_list (members_view ms))) why
  customer_refused ms i x old mid why small is a r =
      or_memory (RefusesCustomer (x.0.now, value_view x.1))
      (RefusesFirst IsSomeCustomer RefusesCustomer (members_list (members_view ms))) why
      (λ w k. members_refused IsSomeCustomer RefusesCustomer ms i x w small is
      (fine_customers _ _ a.payloads) k) r

  pub each_refused : (Each : List ℕ → Json → List Dated → Type 0)
      (Refuses : List ℕ × Json → Reason → Type 0) (ms : List (Member A)) (i : ℕ) (x : Member A)
      (old mid : Gathering) (why : Reason) → i < length ms → x ≡ get_or ms i x →
      AddsPayloads (ArePayloadsOfEach Each (members_list (members_view (take i ms)))) old mid →
      OrMemory (Refuses (x.0.now, value_view x.1)) why →
      OrMemory (RefusesFirst (λ m. (ps : List Dated) × Each m.0 m.1 ps) Refuses
      (members_list (members_view ms))) why
  each_refused Each Refuses ms i x old mid why small is a r =
      or_memory (Refuses (x.0.now, value_view x.1))
      (RefusesFirst (λ m. (ps : List Dated) × Each m.0 m.1 ps) Refuses
      (members_list (members_view ms))) why
      (λ w k. members_refused (λ m. (ps : List Dated) × Each m.0 m.1 ps) Refuses ms i x w small is
      (fine_each Each _ _ a.payloads) k) r

-- what needs no memory
pub without_memory : {T : Type 0} (r : Result T Refusal) (Is : T → Type 0)
    (Refuses : Reason → Type 0) → MatchResult r Is (λ e. Refuses e.reason) →
    MatchResult r Is (λ e. OrMemory Refuses e.reason)
without_memory (Ok x) Is Refuses h = h
without_memory (Err e) Is Refuses h = inr h
