-- What the grammar has of a document of which some tokens were read.
use Rattle.std.proofs.Common.{◌≡◌, ℕ, zero, suc, ◌-◌, ◌<◌, ◌≤◌, List, [], ◌∷◌, ◌++◌, length}
use Rattle.std.proofs.Common.{Option, Some, None, option_and_then, refl, sym, ap, ◌∙◌, arith}
use Rattle.std.proofs.Common.{subst}
use Rattle.std.specs.Prelude.{⊤}
use Rattle.std.proofs.lemmas.List.{append-nil}
use Rattle.json.specs.Token.{Token}
use Rattle.json.specs.Json.{Json, array, object, Items, no_items, item, Members, no_members, member}
use Rattle.json.specs.Json.{Parse, after_end_array, if_last, items, members, parse_map, read_key}
use Rattle.json.specs.Json.{value}
use Rattle.json.proofs.Grammar.{items_end, items_fail, items_more, members_end, members_fail}
use Rattle.json.proofs.Grammar.{left, members_more, members_no_key, read_key-shorter}
use Rattle.json.proofs.Grammar.{skip_value-shorter}
use Rattle.json.proofs.Grammar.{value-begin_array, value-begin_object}
use Rattle.json.proofs.Trees.{none_before}
use Rattle.make_work.specs.JsonValues.{items_list, members_list}
use Rattle.make_work.specs.PrivateReading.{sole_value}

-- ---- answers

abbrev pub IsSome : {A : Type 0} → Option A → Type 0
IsSome None = ⊥
IsSome (Some a) = ⊤

pub never : {A : Type 0} (P : Type 0) (o : Option A) (a : A) → o ≡ None → o ≡ Some a → P
never P o a e f = absurd (subst IsSome (sym f ∙ e) tt)

abbrev pub answer : {A : Type 0} → A → Option (A × List Token) → A
answer a None = a
answer a (Some p) = p.0

abbrev some_or : {A : Type 0} → A → Option A → A
some_or a None = a
some_or a (Some b) = b

abbrev after : {A : Type 0} → List Token → Option (A × List Token) → List Token
after ts None = ts
after ts (Some p) = p.1

-- of an answer that was mapped
mapped_from : {A B : Type 0} (f : A → B) (o : Option (A × List Token)) (b : B)
    (rest : List Token) → parse_map f o ≡ Some (b, rest) →
    (a : A) × (o ≡ Some (a, rest)) × (b ≡ f a)
mapped_from f None b rest e = absurd (subst IsSome (sym e) tt)
mapped_from f (Some q) b rest e =
    (q.0, ap (λ r. Some (q.0, r)) (ap (after rest) e), sym (ap (answer b) e))

-- a value takes a token
pub value_shorter : (depth : ℕ) (ts rest : List Token) (j : Json) →
    value depth ts ≡ Some (j, rest) → length rest < length ts
value_shorter depth ts rest j e = skip_value-shorter depth ts rest (ap left e)

-- ---- the items of an array

-- these items, and then the rest
abbrev pub items_after : List Json → Items → Items
items_after [] rest = rest
items_after (j ∷ js) rest = item j (items_after js rest)

list_after : (js : List Json) (rest : Items) →
    items_list (items_after js rest) ≡ js ++ items_list rest
list_after [] rest = refl
list_after (j ∷ js) rest = ap (λ l. j ∷ l) (list_after js rest)

item_after : (js : List Json) (j : Json) (rest : Items) →
    items_after js (item j rest) ≡ items_after (js ++ j ∷ []) rest
item_after [] j rest = refl
item_after (k ∷ js) j rest = ap (item k) (item_after js j rest)

one_item_more : (js : List Json) (j : Json) (o : Option (Items × List Token)) →
    parse_map (items_after js) (parse_map (item j) o)
    ≡ parse_map (items_after (js ++ j ∷ [])) o
one_item_more js j None = refl
one_item_more js j (Some p) = ap (λ k. Some (k, p.1)) (item_after js j p.0)

-- of these tokens those are left, after these items
pub record ItemsSoFar (p : Parse Json) (all now : List Token) (done : List Json) : Type 0 where
  pub turns : ℕ
  pub enough : length now ≤ turns
  pub read : items p (length all) all ≡ parse_map (items_after done) (items p turns now)

pub items_start : (p : Parse Json) (all : List Token) → ItemsSoFar p all all []
items_start p all = record { turns = length all; enough = omega arith; read = none_before _ }

-- the item that comes next, where all items are these
pub record ItemNext (p : Parse Json) (now : List Token) (done all : List Json) : Type 0 where
  pub item : Json
  pub rest : List Token
  pub later : List Json
  pub read : p now ≡ Some (item, rest)
  pub cut : all ≡ done ++ item ∷ later

module _ (p : Parse Json) (all now : List Token) (done : List Json)
    (far : ItemsSoFar p all now done) where
  pub items_next : (j : Json) (rest : List Token) → after_end_array now ≡ None →
      p now ≡ Some (j, rest) → length rest < length now →
      ItemsSoFar p all rest (done ++ j ∷ [])
  items_next j rest going here less = record {
    turns = far.turns - 1;
    enough = omega (arith, far.enough);
    read = far.read
        ∙ ap (parse_map (items_after done))
        (items_more p far.turns now rest j (omega (arith, far.enough)) going here)
        ∙ one_item_more done j _;
  }

  pub items_done : (rest : List Token) → after_end_array now ≡ Some rest →
      (js : Items) × (items p (length all) all ≡ Some (js, rest)) × (done ≡ items_list js)
  items_done rest closed = (
    items_after done no_items,
    far.read ∙ ap (parse_map (items_after done)) (items_end p far.turns now rest far.enough closed),
    sym (list_after done no_items ∙ append-nil done),
  )

  items_cut : (js k : Items) (turns : ℕ) (rest : List Token) → after_end_array now ≡ None →
      js ≡ items_after done k → items p turns now ≡ Some (k, rest) →
      (o : Option (Json × List Token)) → p now ≡ o → ItemNext p now done (items_list js)
  unfolding items
  items_cut js k zero rest going is left o here = absurd (subst IsSome (sym left) tt)
  items_cut js k (suc n) rest going is left None here =
      never (ItemNext p now done (items_list js)) (items p (suc n) now) (k, rest)
      (items_fail p (suc n) now going here) left
  items_cut js k (suc n) rest going is left (Some q) here =
      let turn = items_more p (suc n) now q.1 q.0 (omega arith) going here in
      let more = mapped_from (item q.0) (items p (suc n - 1) q.1) k rest (sym turn ∙ left) in
      record {
        item = q.0;
        rest = q.1;
        later = items_list more.0;
        read = here;
        cut = ap items_list (is ∙ ap (items_after done) more.2)
            ∙ list_after done (item q.0 more.0);
      }

  pub items_here : (js : Items) (rest : List Token) → after_end_array now ≡ None →
      items p (length all) all ≡ Some (js, rest) → ItemNext p now done (items_list js)
  items_here js rest going e =
      let k = mapped_from (items_after done) (items p far.turns now) js rest
      (sym far.read ∙ e) in
      items_cut js k.0 far.turns rest going k.2 k.1 (p now) refl

-- ---- the members of an object

-- these members, and then the rest
abbrev pub members_after : List (List ℕ × Json) → Members → Members
members_after [] rest = rest
members_after (m ∷ ms) rest = member m.0 m.1 (members_after ms rest)

named_after : (ms : List (List ℕ × Json)) (rest : Members) →
    members_list (members_after ms rest) ≡ ms ++ members_list rest
named_after [] rest = refl
named_after (m ∷ ms) rest = ap (λ l. m ∷ l) (named_after ms rest)

member_after : (ms : List (List ℕ × Json)) (k : List ℕ) (j : Json) (rest : Members) →
    members_after ms (member k j rest) ≡ members_after (ms ++ (k, j) ∷ []) rest
member_after [] k j rest = refl
member_after (m ∷ ms) k j rest = ap (member m.0 m.1) (member_after ms k j rest)

one_member_more : (ms : List (List ℕ × Json)) (k : List ℕ) (j : Json)
    (o : Option (Members × List Token)) →
    parse_map (members_after ms) (parse_map (member k j) o)
    ≡ parse_map (members_after (ms ++ (k, j) ∷ [])) o
one_member_more ms k j None = refl
one_member_more ms k j (Some p) = ap (λ l. Some (l, p.1)) (member_after ms k j p.0)

pub record MembersSoFar (p : Parse Json) (all now : List Token)
    (done : List (List ℕ × Json)) : Type 0 where
  pub turns : ℕ
  pub enough : length now ≤ turns
  pub read : members p (length all) all ≡ parse_map (members_after done) (members p turns now)

pub members_start : (p : Parse Json) (all : List Token) → MembersSoFar p all all []
members_start p all = record { turns = length all; enough = omega arith; read = none_before _ }

-- the value of this name that comes next, where all members are these
pub record MemberNext (p : Parse Json) (name : List ℕ) (named : List Token)
    (done all : List (List ℕ × Json)) : Type 0 where
  pub value : Json
  pub rest : List Token
  pub later : List (List ℕ × Json)
  pub read : p named ≡ Some (value, rest)
  pub cut : all ≡ done ++ (name, value) ∷ later

module _ (p : Parse Json) (all now : List Token) (done : List (List ℕ × Json))
    (far : MembersSoFar p all now done) where
  pub members_next : (k : List ℕ) (named rest : List Token) (j : Json) →
      read_key now ≡ Some (Some k, named) → p named ≡ Some (j, rest) →
      length rest < length named → MembersSoFar p all rest (done ++ (k, j) ∷ [])
  members_next k named rest j key here less =
      let lesser = read_key-shorter now (Some k) named key in
      record {
        turns = far.turns - 1;
        enough = omega (arith, far.enough, lesser);
        read = far.read
            ∙ ap (parse_map (members_after done))
            (members_more p far.turns k now named rest j (omega (arith, far.enough, lesser)) key
            here)
            ∙ one_member_more done k j _;
      }

  pub members_done : (rest : List Token) → read_key now ≡ Some (None, rest) →
      (ms : Members) × (members p (length all) all ≡ Some (ms, rest)) × (done ≡ members_list ms)
  members_done rest closed = (
    members_after done no_members,
    far.read
        ∙ ap (parse_map (members_after done)) (members_end p far.turns now rest far.enough closed),
    sym (named_after done no_members ∙ append-nil done),
  )

  -- without a name none of it is members
  pub members_none : (P : Type 0) (ms : Members) (rest : List Token) → read_key now ≡ None →
      members p (length all) all ≡ Some (ms, rest) → P
  members_none P ms rest key e =
      never P (members p (length all) all) (ms, rest)
      (far.read ∙ ap (parse_map (members_after done)) (members_no_key p far.turns now key)) e

  members_cut : (k : List ℕ) (named : List Token) (ms l : Members) (turns : ℕ)
      (rest : List Token) → read_key now ≡ Some (Some k, named) → ms ≡ members_after done l →
      members p turns now ≡ Some (l, rest) → (o : Option (Json × List Token)) → p named ≡ o →
      MemberNext p k named done (members_list ms)
  unfolding members
  members_cut k named ms l zero rest key is left o here = absurd (subst IsSome (sym left) tt)
  members_cut k named ms l (suc n) rest key is left None here =
      never (MemberNext p k named done (members_list ms)) (members p (suc n) now) (l, rest)
      (members_fail p (suc n) k now named key here) left
  members_cut k named ms l (suc n) rest key is left (Some q) here =
      let turn = members_more p (suc n) k now named q.1 q.0 (omega arith) key here in
      let more = mapped_from (member k q.0) (members p (suc n - 1) q.1) l rest
      (sym turn ∙ left) in
      record {
        value = q.0;
        rest = q.1;
        later = members_list more.0;
        read = here;
        cut = ap members_list (is ∙ ap (members_after done) more.2)
            ∙ named_after done (member k q.0 more.0);
      }

  pub members_here : (k : List ℕ) (named : List Token) (ms : Members) (rest : List Token) →
      read_key now ≡ Some (Some k, named) → members p (length all) all ≡ Some (ms, rest) →
      MemberNext p k named done (members_list ms)
  members_here k named ms rest key e =
      let l = mapped_from (members_after done) (members p far.turns now) ms rest
      (sym far.read ∙ e) in
      members_cut k named ms l.0 far.turns rest key l.2 l.1 (p named) refl

-- ---- the object at the top

pub whole_from : (o : Option (Json × List Token)) (j : Json) →
    option_and_then (λ p. if_last p.0 p.1) o ≡ Some j → o ≡ Some (j, [])
whole_from None j e = absurd (subst IsSome (sym e) tt)
whole_from (Some (k, [])) j e = ap (λ r. Some (r, [])) (ap (some_or j) e)
whole_from (Some (k, t ∷ ts)) j e = absurd (subst IsSome (sym e) tt)

pub whole_object : (ts rest : List Token) (ms : Members) →
    members (value 127) (length ts) ts ≡ Some (ms, rest) → rest ≡ [] →
    sole_value (Token.begin_object ∷ ts) ≡ Some (object ms)
whole_object ts rest ms e f =
    ap (option_and_then (λ p. if_last p.0 p.1))
    (value-begin_object 128 ts (omega arith) ∙ ap (parse_map object) e
    ∙ ap (λ r. Some (object ms, r)) f)

pub object_is : (depth : ℕ) (ts rest : List Token) (j : Json) → 0 < depth →
    value depth (Token.begin_object ∷ ts) ≡ Some (j, rest) →
    (ms : Members) × (members (value (depth - 1)) (length ts) ts ≡ Some (ms, rest))
    × (j ≡ object ms)
object_is depth ts rest j h e =
    mapped_from object (members (value (depth - 1)) (length ts) ts) j rest
    (sym (value-begin_object depth ts h) ∙ e)

pub object_from : (ts : List Token) (j : Json) → sole_value (Token.begin_object ∷ ts) ≡ Some j →
    (ms : Members) × (members (value 127) (length ts) ts ≡ Some (ms, [])) × (j ≡ object ms)
object_from ts j e = object_is 128 ts [] j (omega arith) (whole_from _ j e)

-- ---- an array in it

pub value_array : (ts rest : List Token) (js : Items) →
    items (value 126) (length ts) ts ≡ Some (js, rest) →
    value 127 (Token.begin_array ∷ ts) ≡ Some (array js, rest)
value_array ts rest js e =
    value-begin_array 127 ts (omega arith) ∙ ap (parse_map array) e

pub array_is : (depth : ℕ) (ts rest : List Token) (j : Json) → 0 < depth →
    value depth (Token.begin_array ∷ ts) ≡ Some (j, rest) →
    (js : Items) × (items (value (depth - 1)) (length ts) ts ≡ Some (js, rest))
    × (j ≡ array js)
array_is depth ts rest j h e =
    mapped_from array (items (value (depth - 1)) (length ts) ts) j rest
    (sym (value-begin_array depth ts h) ∙ e)
