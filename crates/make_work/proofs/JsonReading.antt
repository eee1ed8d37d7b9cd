-- What is known of a document when some of it was read, or refused.
use Rattle.std.proofs.Common.{◌≡◌, ◌≢◌, ℕ, Bool, true, false, ◌||◌, List, [], ◌∷◌, ◌++◌, length}
use Rattle.std.proofs.Common.{Option, Some, None, Result, Ok, Err, MatchResult, inl, inr, refl, sym}
use Rattle.std.proofs.Common.{ap, subst, ◌∙◌, arith, rules}
use Rattle.std.specs.Prelude.{⊤}
use Rattle.std.proofs.lemmas.Bool.{true≢false, false≢true}
use Rattle.std.proofs.lemmas.List.Folds.{list_any-append}
use Rattle.std.specs.Bool.{MatchBool}
use Rattle.std.specs.List.{list_any}
use Rattle.std.specs.Str.{IsUtf8}
use Rattle.csv.specs.Reading.{strip_bom}
use Rattle.json.specs.Lex.{tokens}
use Rattle.json.specs.Token.{Token}
use Rattle.json.specs.Json.{Items, Json, Members, array, boolean, document, items, members}
use Rattle.json.specs.Json.{null, number}
use Rattle.json.specs.Json.{object, string, value}
use Rattle.json.proofs.Grammar.{value_is}
use Rattle.json.specs.Value.{value_view}
use Rattle.json.specs.declared.value.Value.{Null, Value, the_lemmas}
use Rattle.make_work.specs.JsonNames.{holding_named}
use Rattle.make_work.specs.JsonPayloads.{AreItemPayloads, ArePayloadsBy, ArePayloadsIn}
use Rattle.make_work.specs.JsonPayloads.{ArePayloadsOfEach, AreTopPayloads, Dated, HasItemsOf}
use Rattle.make_work.specs.JsonPayloads.{IsJsonOf}
use Rattle.make_work.specs.JsonPayloads.{is_array}
use Rattle.make_work.specs.JsonRefusals.{HasTopPayloads, IsSomeItem, OrMemory}
use Rattle.make_work.specs.JsonRefusals.{RefusesArrayItem, RefusesBy, RefusesDocument, RefusesFirst}
use Rattle.make_work.specs.JsonRefusals.{RefusesJson}
use Rattle.make_work.specs.JsonRefusals.{RefusesPayloads, RefusesTop, RefusesValue}
use Rattle.make_work.specs.JsonValues.{items_list, members_list}
use Rattle.make_work.specs.MakeWords.{is_one_of}
use Rattle.make_work.specs.PrivateJson.{AddsPayloads, payloads_of}
use Rattle.make_work.specs.PrivateReading.{AreItems, IfItems, IfMembers, IfValue, IfSoleValue}
use Rattle.make_work.specs.PrivateReading.{IsNoObject, IsValue, IsSoleValue, TellsFound}
use Rattle.make_work.specs.PrivateReading.{is_begin_array, is_begin_object, is_null, sole_value}
use Rattle.make_work.specs.Taking.{TakesSome}
use Rattle.make_work.specs.declared.gathering.Gathering.{Gathering}
use Rattle.make_work.specs.declared.item.Reason.{Reason}
use Rattle.make_work.specs.declared.item.Reason.TheVariants.{Memory, NoArray, NotArray, NotObject}
use Rattle.make_work.specs.declared.item.Refusal.{Refusal}
use Rattle.make_work.specs.declared.json_names.Holding.TheVariants.{Payloads}
use Rattle.make_work.specs.declared.json_names.Kind.{Kind}
use Rattle.make_work.specs.declared.json_names.Kind.TheVariants.{Origins, RouterKeys, Aspas}
use Rattle.make_work.proofs.JsonRefused.{fine_each, fine_items, first, or_memory}
use Rattle.make_work.proofs.JsonSoFar.{nothing}
use Rattle.make_work.proofs.JsonTokens.{IsSome, ItemNext, MemberNext, answer, array_is, never}
use Rattle.make_work.proofs.JsonTokens.{object_from, object_is, value_array, whole_from}
use Rattle.make_work.proofs.JsonTokens.{whole_object}

-- ---- the token that comes first

-- the value that tokens are is one
same_value : (depth : ℕ) (old rest rest' : List Token) (j k : Json) →
    value depth old ≡ Some (j, rest) → value depth old ≡ Some (k, rest') → j ≡ k
same_value depth old rest rest' j k e f = ap (answer j) (sym e ∙ f)

no_object : (t : Token) (ts rest : List Token) (j : Json) → is_begin_object t ≡ false →
    value 128 (t ∷ ts) ≡ Some (j, rest) → IsNoObject j
no_object Token.begin_object ts rest j f e = absurd (true≢false f)
no_object Token.end_object ts rest j f e = never (IsNoObject j) _ _ (value_is 128 _) e
no_object Token.begin_array ts rest j f e =
    subst IsNoObject (sym (array_is 128 ts rest j (omega arith) e).2) tt
no_object Token.end_array ts rest j f e = never (IsNoObject j) _ _ (value_is 128 _) e
no_object (Token.key s) ts rest j f e = never (IsNoObject j) _ _ (value_is 128 _) e
no_object (Token.string s) ts rest j f e =
    subst IsNoObject (same_value 128 _ ts rest (string s) j (value_is 128 _) e) tt
no_object (Token.number s) ts rest j f e =
    subst IsNoObject (same_value 128 _ ts rest (number s) j (value_is 128 _) e) tt
no_object (Token.boolean b) ts rest j f e =
    subst IsNoObject (same_value 128 _ ts rest (boolean b) j (value_is 128 _) e) tt
no_object Token.null ts rest j f e =
    subst IsNoObject (same_value 128 _ ts rest null j (value_is 128 _) e) tt
no_object Token.bad ts rest j f e = never (IsNoObject j) _ _ (value_is 128 _) e

none_begins : (t : Token) (old new : List Token) → old ≡ t ∷ new → is_begin_object t ≡ false →
    IfSoleValue old IsNoObject
none_begins t old new e f j w =
    no_object t new [] j f (subst (λ l. value 128 l ≡ Some (j, [])) e (whole_from _ j w))

by_first : (t : Token) (old new : List Token) → old ≡ t ∷ new →
    MatchBool (is_begin_object t) (old ≡ Token.begin_object ∷ new) (IfSoleValue old IsNoObject)
by_first Token.begin_object old new e = e
by_first Token.end_object old new e = none_begins Token.end_object old new e refl
by_first Token.begin_array old new e = none_begins Token.begin_array old new e refl
by_first Token.end_array old new e = none_begins Token.end_array old new e refl
by_first (Token.key s) old new e = none_begins (Token.key s) old new e refl
by_first (Token.string s) old new e = none_begins (Token.string s) old new e refl
by_first (Token.number s) old new e = none_begins (Token.number s) old new e refl
by_first (Token.boolean b) old new e = none_begins (Token.boolean b) old new e refl
by_first Token.null old new e = none_begins Token.null old new e refl
by_first Token.bad old new e = none_begins Token.bad old new e refl

-- whether an object begins, by the first token
pub begins : (t : Token) (old new : List Token) (b : Bool) → old ≡ t ∷ new →
    b ≡ is_begin_object t →
    MatchBool b (old ≡ Token.begin_object ∷ new) (IfSoleValue old IsNoObject)
begins t old new b e f = subst
    (λ c. MatchBool c (old ≡ Token.begin_object ∷ new) (IfSoleValue old IsNoObject)) (sym f)
    (by_first t old new e)

-- no value is where no token is
pub nothing_begins : (old : List Token) → old ≡ [] → IfSoleValue old IsNoObject
nothing_begins old e j w =
    never (IsNoObject j) _ _ (value_is 128 [])
    (subst (λ l. value 128 l ≡ Some (j, [])) e (whole_from _ j w))

pub none_to_read : (depth : ℕ) (old : List Token) (Holds : Json → Type 0) → old ≡ [] →
    IfValue depth old Holds
none_to_read depth old Holds e j rest v =
    never (Holds j) _ _ (value_is depth []) (subst (λ l. value depth l ≡ Some (j, rest)) e v)

-- ---- where an array is wanted

-- the token is the one that is tested for
pub is_begin_array_is : (t : Token) → is_begin_array t ≡ true → t ≡ Token.begin_array
is_begin_array_is Token.begin_object e = absurd (false≢true e)
is_begin_array_is Token.end_object e = absurd (false≢true e)
is_begin_array_is Token.begin_array e = refl
is_begin_array_is Token.end_array e = absurd (false≢true e)
is_begin_array_is (Token.key s) e = absurd (false≢true e)
is_begin_array_is (Token.string s) e = absurd (false≢true e)
is_begin_array_is (Token.number s) e = absurd (false≢true e)
is_begin_array_is (Token.boolean s) e = absurd (false≢true e)
is_begin_array_is Token.null e = absurd (false≢true e)
is_begin_array_is Token.bad e = absurd (false≢true e)

pub is_null_is : (t : Token) → is_null t ≡ true → t ≡ Token.null
is_null_is Token.begin_object e = absurd (false≢true e)
is_null_is Token.end_object e = absurd (false≢true e)
is_null_is Token.begin_array e = absurd (false≢true e)
is_null_is Token.end_array e = absurd (false≢true e)
is_null_is (Token.key s) e = absurd (false≢true e)
is_null_is (Token.string s) e = absurd (false≢true e)
is_null_is (Token.number s) e = absurd (false≢true e)
is_null_is (Token.boolean s) e = absurd (false≢true e)
is_null_is Token.null e = refl
is_null_is Token.bad e = absurd (false≢true e)

by_value : (kind : Kind) (j k : Json) (why : Reason) → RefusesPayloads kind k why → k ≡ j →
    OrMemory (RefusesPayloads kind j) why
by_value kind j k why r e = inr (subst (λ l. RefusesPayloads kind l why) e r)

by_object : (kind : Kind) (j : Json) (ms : Members) (why : Reason) → kind ≢ Aspas →
    why ≡ NotArray → j ≡ object ms → OrMemory (RefusesPayloads kind j) why
by_object Origins j ms why other is e = by_value Origins j (object ms) why is (sym e)
by_object RouterKeys j ms why other is e = by_value RouterKeys j (object ms) why is (sym e)
by_object Aspas j ms why other is e = absurd (other refl)

string_refused : (kind : Kind) (s : List ℕ) (why : Reason) → why ≡ NotArray →
    RefusesPayloads kind (string s) why
string_refused Origins s why is = is
string_refused RouterKeys s why is = is
string_refused Aspas s why is = is

number_refused : (kind : Kind) (s : List ℕ) (why : Reason) → why ≡ NotArray →
    RefusesPayloads kind (number s) why
number_refused Origins s why is = is
number_refused RouterKeys s why is = is
number_refused Aspas s why is = is

boolean_refused : (kind : Kind) (b : Bool) (why : Reason) → why ≡ NotArray →
    RefusesPayloads kind (boolean b) why
boolean_refused Origins b why is = is
boolean_refused RouterKeys b why is = is
boolean_refused Aspas b why is = is

wants_array : (kind : Kind) (t : Token) (ts : List Token) (why : Reason) → kind ≢ Aspas →
    is_begin_array t ≡ false → is_null t ≡ false → why ≡ NotArray →
    IfValue 127 (t ∷ ts) (λ j. OrMemory (RefusesPayloads kind j) why)
wants_array kind Token.begin_object ts why other f g is j rest e =
    let o = object_is 127 ts rest j (omega arith) e in by_object kind j o.0 why other is o.2
wants_array kind Token.end_object ts why other f g is j rest e =
    never (OrMemory (RefusesPayloads kind j) why) _ _ (value_is 127 _) e
wants_array kind Token.begin_array ts why other f g is j rest e = absurd (true≢false f)
wants_array kind Token.end_array ts why other f g is j rest e =
    never (OrMemory (RefusesPayloads kind j) why) _ _ (value_is 127 _) e
wants_array kind (Token.key s) ts why other f g is j rest e =
    never (OrMemory (RefusesPayloads kind j) why) _ _ (value_is 127 _) e
wants_array kind (Token.string s) ts why other f g is j rest e =
    by_value kind j (string s) why (string_refused kind s why is)
    (same_value 127 _ ts rest (string s) j (value_is 127 _) e)
wants_array kind (Token.number s) ts why other f g is j rest e =
    by_value kind j (number s) why (number_refused kind s why is)
    (same_value 127 _ ts rest (number s) j (value_is 127 _) e)
wants_array kind (Token.boolean b) ts why other f g is j rest e =
    by_value kind j (boolean b) why (boolean_refused kind b why is)
    (same_value 127 _ ts rest (boolean b) j (value_is 127 _) e)
wants_array kind Token.null ts why other f g is j rest e = absurd (true≢false g)
wants_array kind Token.bad ts why other f g is j rest e =
    never (OrMemory (RefusesPayloads kind j) why) _ _ (value_is 127 _) e

pub array_wanted : (kind : Kind) (t : Token) (old new : List Token) (why : Reason) →
    kind ≢ Aspas → old ≡ t ∷ new → is_begin_array t ≡ false → is_null t ≡ false →
    why ≡ NotArray →
    IfValue 127 old (λ j. OrMemory (RefusesPayloads kind j) why)
array_wanted kind t old new why other e f g is =
    subst (λ l. IfValue 127 l (λ j. OrMemory (RefusesPayloads kind j) why)) (sym e)
    (wants_array kind t new why other f g is)

-- ---- an array

null_none : (kind : Kind) → ArePayloadsIn kind null []
null_none Origins = refl
null_none RouterKeys = refl
null_none Aspas = refl

view-Null : (A : Type 0) → value_view {A = A} Null ≡ null
view-Null A = search (rules, the_lemmas)

pub null_seen : {A : Type 0} (kind : Kind) (j : Value A) → j ≡ Null →
    ArePayloadsIn kind (value_view j) []
null_seen {A} kind j e =
    subst (λ k. ArePayloadsIn kind k []) (sym (ap value_view e ∙ view-Null A)) (null_none kind)

-- `null` has no payloads
pub null_read : (kind : Kind) (old new : List Token) (items : Gathering) →
    old ≡ Token.null ∷ new →
    IsValue 127 old new (λ j. AddsPayloads (ArePayloadsIn kind j) items items)
null_read kind old new items e =
    let none = nothing (ArePayloadsIn kind null) items (null_none kind) in
    (null, ap (value 127) e ∙ value_is 127 _, none)

in_array : (kind : Kind) (js : Items) (before after : Gathering) →
    AddsPayloads (AreItemPayloads kind (items_list js)) before after →
    AddsPayloads (ArePayloadsIn kind (array js)) before after
in_array Origins js before after h = h
in_array RouterKeys js before after h = h
in_array Aspas js before after h = h

array_refused : (kind : Kind) (js : Items) (why : Reason) →
    OrMemory (RefusesFirst (IsSomeItem kind) (RefusesArrayItem kind) (items_list js)) why →
    OrMemory (RefusesPayloads kind (array js)) why
array_refused Origins js why h = h
array_refused RouterKeys js why h = h
array_refused Aspas js why h = h

-- what was made of the items of an array, or why one is refused
pub array_read : {T : Type 0} (r : Result T Refusal) (kind : Kind) (old opened new : List Token)
    (before after : Gathering) → old ≡ Token.begin_array ∷ opened →
    MatchResult r
    (λ _. AreItems opened new (λ js. AddsPayloads (AreItemPayloads kind js) before after))
    (λ e. IfItems opened (λ js.
    OrMemory (RefusesFirst (IsSomeItem kind) (RefusesArrayItem kind) js) e.reason)) →
    MatchResult r
    (λ _. IsValue 127 old new (λ j. AddsPayloads (ArePayloadsIn kind j) before after))
    (λ e. IfValue 127 old (λ j. OrMemory (RefusesPayloads kind j) e.reason))
array_read (Ok t) kind old opened new before after is h = (
  array h.0,
  ap (value 127) is ∙ value_array opened new h.0 h.1,
  in_array kind h.0 before after h.2,
)
array_read (Err e) kind old opened new before after is h = λ j rest v.
    let a = array_is 127 opened rest j (omega arith)
    (subst (λ l. value 127 l ≡ Some (j, rest)) is v) in
    subst (λ k. OrMemory (RefusesPayloads kind k) e.reason) (sym a.2)
    (array_refused kind a.0 e.reason (h a.0 rest a.1))

-- the item that comes next is refused
pub item_refused : (kind : Kind) (now : List Token) (done js : List Json) (ps : List Dated)
    (why : Reason) → AreItemPayloads kind done ps → ItemNext (value 126) now done js →
    IfValue 126 now (λ j. OrMemory (RefusesArrayItem kind j) why) →
    OrMemory (RefusesFirst (IsSomeItem kind) (RefusesArrayItem kind) js) why
item_refused kind now done js ps why fine next refused =
    or_memory (RefusesArrayItem kind next.item)
    (RefusesFirst (IsSomeItem kind) (RefusesArrayItem kind) js) why
    (λ w k. subst (λ l. RefusesFirst (IsSomeItem kind) (RefusesArrayItem kind) l w) (sym next.cut)
    (first (IsSomeItem kind) (RefusesArrayItem kind) done next.item next.later w
    (fine_items kind done ps fine) k)) (refused next.item next.rest next.read)

-- ---- a member of the object at the top

-- the value of the member that comes next is refused
pub member_refused : (ignored : List (List ℕ)) (name : List ℕ) (named : List Token)
    (done ms : List (List ℕ × Json)) (ps : List Dated) (why : Reason) →
    ArePayloadsOfEach (AreTopPayloads ignored) done ps →
    MemberNext (value 127) name named done ms →
    IfValue 127 named (λ j. OrMemory (RefusesTop ignored (name, j)) why) →
    OrMemory (RefusesFirst (HasTopPayloads ignored) (RefusesTop ignored) ms) why
member_refused ignored name named done ms ps why fine next refused =
    or_memory (RefusesTop ignored (name, next.value))
    (RefusesFirst (HasTopPayloads ignored) (RefusesTop ignored) ms) why
    (λ w k. subst (λ l. RefusesFirst (HasTopPayloads ignored) (RefusesTop ignored) l w)
    (sym next.cut)
    (first (HasTopPayloads ignored) (RefusesTop ignored) done (name, next.value) next.later w
    (fine_each (AreTopPayloads ignored) done ps fine) k)) (refused next.value next.rest next.read)

-- under the name of payloads
top_listed : (ignored : List (List ℕ)) (name : List ℕ) (kind : Kind) (j : Json)
    (ps : List Dated) → is_one_of ignored name ≡ false →
    holding_named name ≡ Some (Payloads kind) → ArePayloadsIn kind j ps →
    AreTopPayloads ignored name j ps
top_listed ignored name kind j ps e f h =
    subst (λ b. MatchBool b (ps ≡ []) (ArePayloadsBy (holding_named name) j ps)) (sym e)
    (subst (λ o. ArePayloadsBy o j ps) (sym f) h)

list_refuses : (ignored : List (List ℕ)) (name : List ℕ) (kind : Kind) (j : Json)
    (why : Reason) → is_one_of ignored name ≡ false →
    holding_named name ≡ Some (Payloads kind) → RefusesPayloads kind j why →
    RefusesTop ignored (name, j) why
list_refuses ignored name kind j why e f h =
    subst (λ b. MatchBool b ⊥ (RefusesBy (holding_named name) j why)) (sym e)
    (subst (λ o. RefusesBy o j why) (sym f) h)

pub list_read : {T : Type 0} (r : Result T Refusal) (ignored : List (List ℕ)) (name : List ℕ)
    (kind : Kind) (old new : List Token) (before after : Gathering) →
    is_one_of ignored name ≡ false → holding_named name ≡ Some (Payloads kind) →
    MatchResult r
    (λ _. IsValue 127 old new (λ j. AddsPayloads (ArePayloadsIn kind j) before after))
    (λ e. IfValue 127 old (λ j. OrMemory (RefusesPayloads kind j) e.reason)) →
    MatchResult r
    (λ _. IsValue 127 old new (λ j.
    AddsPayloads (AreTopPayloads ignored name j) before after))
    (λ e. IfValue 127 old (λ j. OrMemory (RefusesTop ignored (name, j)) e.reason))
list_read (Ok t) ignored name kind old new before after e f h = (
  h.0,
  h.1,
  record {
    more = h.2.more;
    added = h.2.added;
    payloads = top_listed ignored name kind h.0 _ e f h.2.payloads;
  },
)
list_read (Err r) ignored name kind old new before after e f h = λ j rest v.
    or_memory (RefusesPayloads kind j) (RefusesTop ignored (name, j)) r.reason
    (λ w k. list_refuses ignored name kind j w e f k) (h j rest v)

-- one more name was looked at
or_none : (a b : Bool) → (a || (b || false)) ≡ (a || b)
or_none true b = refl
or_none false true = refl
or_none false false = refl

pub any_more : {X : Type 0} (test : X → Bool) (xs : List X) (x : X) (old new : Bool) →
    old ≡ list_any test xs → new ≡ (old || test x) → new ≡ list_any test (xs ++ x ∷ [])
any_more test xs x old new e f =
    f ∙ ap (λ b. b || test x) e ∙ sym (or_none (list_any test xs) (test x))
    ∙ sym (list_any-append test xs (x ∷ []))

-- ---- the document

no_object_at : (ignored : List (List ℕ)) (j : Json) (why : Reason) → why ≡ NotObject →
    IsNoObject j → OrMemory (RefusesValue ignored j) why
no_object_at ignored null why is h = inr is
no_object_at ignored (boolean b) why is h = inr is
no_object_at ignored (number s) why is h = inr is
no_object_at ignored (string s) why is h = inr is
no_object_at ignored (array js) why is h = inr is
no_object_at ignored (object ms) why is h = absurd h

pub no_object_refused : (ignored : List (List ℕ)) (old : List Token) (why : Reason) →
    why ≡ NotObject → IfSoleValue old IsNoObject →
    IfSoleValue old (λ j. OrMemory (RefusesValue ignored j) why)
no_object_refused ignored old why is h j w = no_object_at ignored j why is (h j w)

-- a member is refused
pub members_refuse : (ignored : List (List ℕ)) (old opened : List Token) (why : Reason) →
    old ≡ Token.begin_object ∷ opened →
    IfMembers opened (λ ms.
    OrMemory (RefusesFirst (HasTopPayloads ignored) (RefusesTop ignored) ms) why) →
    IfSoleValue old (λ j. OrMemory (RefusesValue ignored j) why)
members_refuse ignored old opened why is h j w =
    let o = object_from opened j (subst (λ l. sole_value l ≡ Some j) is w) in
    subst (λ k. OrMemory (RefusesValue ignored k) why) (sym o.2)
    (or_memory (RefusesFirst (HasTopPayloads ignored) (RefusesTop ignored) (members_list o.0))
    (RefusesValue ignored (object o.0)) why (λ v k. inl k) (h o.0 [] o.1))

abbrev IsCons : List Token → Type 0
IsCons [] = ⊥
IsCons (t ∷ ts) = ⊤

abbrev rest_of : List Token → Option (Members × List Token) → List Token
rest_of ts None = ts
rest_of ts (Some p) = p.1

rest_same : (o : Option (Members × List Token)) (r s : List Token) (m n : Members) →
    o ≡ Some (m, r) → o ≡ Some (n, s) → r ≡ s
rest_same o r s m n e f = ap (rest_of r) (sym e ∙ f)

-- something stands after the object
pub more_after : (ignored : List (List ℕ)) (old opened new after : List Token) (t : Token)
    (ms : Members) (why : Reason) → old ≡ Token.begin_object ∷ opened →
    members (value 127) (length opened) opened ≡ Some (ms, new) → new ≡ t ∷ after →
    IfSoleValue old (λ j. OrMemory (RefusesValue ignored j) why)
more_after ignored old opened new after t ms why is read more j w =
    let o = object_from opened j (subst (λ l. sole_value l ≡ Some j) is w) in
    absurd (subst IsCons (sym more ∙ rest_same _ new [] ms o.0 read o.1) tt)

-- no member has payloads by its name
pub none_named : (ignored : List (List ℕ)) (old opened new : List Token) (ms : Members)
    (before after : Gathering) (why : Reason) → old ≡ Token.begin_object ∷ opened →
    members (value 127) (length opened) opened ≡ Some (ms, new) →
    AddsPayloads (ArePayloadsOfEach (AreTopPayloads ignored) (members_list ms)) before after →
    list_any (λ m. is_array ignored m.0) (members_list ms) ≡ false → why ≡ NoArray →
    IfSoleValue old (λ j. OrMemory (RefusesValue ignored j) why)
none_named ignored old opened new ms before after why is read adds none e j w =
    let o = object_from opened j (subst (λ l. sole_value l ≡ Some j) is w) in
    let same : ms ≡ o.0 = ap (answer ms) (sym read ∙ o.1) in
    subst (λ k. OrMemory (RefusesValue ignored k) why) (ap object same ∙ sym o.2)
    (inr (inr (
      e,
      record {
        fine = fine_each (AreTopPayloads ignored) (members_list ms) (payloads_of adds.more)
            adds.payloads;
        none = none;
      },
    )))

-- the object at the top is all there is
pub object_read : {T : Type 0} (r : Result T Refusal) (ignored : List (List ℕ))
    (old opened rest : List Token) (ms : Members) (before after : Gathering)
    (has : Bool) → old ≡ Token.begin_object ∷ opened →
    members (value 127) (length opened) opened ≡ Some (ms, rest) → rest ≡ [] →
    AddsPayloads (ArePayloadsOfEach (AreTopPayloads ignored) (members_list ms)) before after →
    has ≡ list_any (λ m. is_array ignored m.0) (members_list ms) →
    MatchResult r (λ _. has ≡ true) (λ e. (has ≡ false) × (e.reason ≡ NoArray)) →
    MatchResult r
    (λ _. IsSoleValue old (λ j. TakesSome (HasItemsOf ignored j) before after))
    (λ e. IfSoleValue old (λ j. OrMemory (RefusesValue ignored j) e.reason))
object_read (Ok v) ignored old opened rest ms before after has is read no_more adds any h = (
  object ms,
  ap sole_value is ∙ whole_object opened rest ms read no_more,
  record {
    items = adds.more;
    are = record { some = sym any ∙ h; payloads = adds.payloads };
    taken = adds.added;
  },
)
object_read (Err e) ignored old opened rest ms before after has is read no_more adds any h =
    none_named ignored old opened rest ms before after e.reason is read adds (sym any ∙ h.0) h.1

-- ---- what is told

pub tells_found : (o : Option Json) (why : Reason) → IsSome o → TellsFound o why why
tells_found None why h = absurd h
tells_found (Some j) why h = inr refl

pub tells_memory : (o : Option Json) (found why : Reason) → why ≡ Memory → TellsFound o found why
tells_memory None found why e = inl e
tells_memory (Some j) found why e = inl e

pub refused_document : (ignored : List (List ℕ)) (o : Option Json) (found why : Reason) →
    ((j : Json) → o ≡ Some j → OrMemory (RefusesValue ignored j) found) →
    TellsFound o found why → OrMemory (RefusesDocument ignored o) why
refused_document ignored None found why h tells = tells
refused_document ignored (Some j) found why h (inl e) = inl e
refused_document ignored (Some j) found why h (inr e) =
    subst (OrMemory (RefusesDocument ignored (Some j))) (sym e) (h j refl)

-- the text is read
pub json_read : (ignored : List (List ℕ)) (text rest : List ℕ) (reader : List Token)
    (before after : Gathering) → rest ≡ strip_bom text → IsUtf8 rest → reader ≡ tokens rest →
    IsSoleValue reader (λ j. TakesSome (HasItemsOf ignored j) before after) →
    TakesSome (IsJsonOf ignored text) before after
json_read ignored text rest reader before after e utf8 is h = record {
  items = h.2.items;
  are = record {
    utf8 = subst IsUtf8 e utf8;
    value = h.0;
    whole = subst (λ l. document l ≡ Some h.0) e (ap sole_value (sym is) ∙ h.1);
    has = h.2.are;
  };
  taken = h.2.taken;
}

-- the text is refused
pub json_refused : (ignored : List (List ℕ)) (text rest : List ℕ) (reader : List Token)
    (found why : Reason) → rest ≡ strip_bom text → IsUtf8 rest → reader ≡ tokens rest →
    IfSoleValue reader (λ j. OrMemory (RefusesValue ignored j) found) →
    TellsFound (document rest) found why → OrMemory (RefusesJson ignored text) why
json_refused ignored text rest reader found why e utf8 is h tells =
    or_memory (RefusesDocument ignored (document (strip_bom text))) (RefusesJson ignored text) why
    (λ w k. inr (subst IsUtf8 e utf8, k))
    (subst (λ l. OrMemory (RefusesDocument ignored (document l)) why) e
    (refused_document ignored (document rest) found why (λ j d. h j (ap sole_value is ∙ d)) tells))
