-- Writing one piece after another.
use Rattle.std.proofs.Common.{◌≡◌, ℕ, ◌<◌, ◌≤◌, Bool, true, cond, List, [], ◌∷◌, ◌++◌, map}
use Rattle.std.proofs.Common.{Result, Ok, Err, refl, sym, ap, ◌∙◌, subst, arith}
use Rattle.std.proofs.KnownBytes.{Appends-nil}
use Rattle.std.proofs.lemmas.Bool.{lt-leb, le-leb}
use Rattle.std.proofs.lemmas.List.{append_assoc, append-nil, map-append, length-append}
use Rattle.std.proofs.lemmas.List.Elements.{filter-append}
use Rattle.std.specs.Prelude.{nat_le}
use Rattle.std.specs.Io.KnownBytes.{Appends}
use Rattle.std.specs.List.{filter}
use Rattle.rtr_base.specs.Actions.{flags_of}
use Rattle.rtr_base.specs.declared.action.Action.{Action}
use Rattle.rtr_units.specs.StopCauses.{WriterState}
use Rattle.rtr_units.specs.Stream.{PutsForm}
use Rattle.rtr_units.specs.declared.fault.Fault.{Fault}
use Rattle.rtr_payload.specs.Payloads.{Payload, smallest_version}
use Rattle.rtr_payload.specs.Units.{form}
use Rattle.rtr_payload.proofs.Joined.{both_put}
use Rattle.data_memory.specs.Deltas.{data_for}
use Rattle.data_memory.specs.PrivateForms.{payload_forms}

-- the state after some bytes were written
abbrev pub Wrote : WriterState → WriterState → List ℕ → Type 0
Wrote a b bytes = Appends a.held b.held bytes × (b.failed ≡ a.failed)

pub wrote_nothing : (a : WriterState) → Wrote a a []
wrote_nothing a = (Appends-nil a.held, refl)

-- a piece was not written whole, and others were to come
pub stopped_front : (a b : WriterState) (x y : List ℕ) (e : Fault) →
    PutsForm {T = Unit {0}} (Err e) a b x → PutsForm {T = Unit {0}} (Err e) a b (x ++ y)
stopped_front a b x y e ((first, others, put, parts, some, s), m) = (
  (
    first,
    others ++ y,
    put,
    ap (λ (l : List ℕ). l ++ y) parts ∙ append_assoc first others y,
    omega (arith, some, length-append others y),
    s,
  ),
  m,
)

pub as_pieces : (a b : WriterState) (r : Result (Unit {0}) Fault) (x all : List ℕ) → all ≡ x →
    PutsForm r a b x → PutsForm r a b all
as_pieces a b r x all e h = subst (λ l. PutsForm r a b l) (sym e) h

-- after some bytes were written
pub then_front : (a b c : WriterState) (x y : List ℕ) (r : Result (Unit {0}) Fault) →
    Wrote a b x → PutsForm r b c y → PutsForm r a c (x ++ y)
then_front a b c x y r w p = both_put r a b c x y w p

-- ---- forms

pub forms_append : (v : ℕ) (action : Action) (ps qs : List Payload) →
    payload_forms v action (ps ++ qs) ≡ payload_forms v action ps ++ payload_forms v action qs
forms_append v action [] qs = refl
forms_append v action (p ∷ ps) qs =
    ap (λ l. form v (flags_of action) p ++ l) (forms_append v action ps qs)
    ∙ sym (append_assoc (form v (flags_of action) p) (payload_forms v action ps)
    (payload_forms v action qs))

forms_push : (v : ℕ) (action : Action) (ps : List Payload) (p : Payload) (qs : List Payload) →
    payload_forms v action (ps ++ p ∷ qs) ≡
    payload_forms v action ps ++ (form v (flags_of action) p ++ payload_forms v action qs)
forms_push v action ps p qs = forms_append v action ps (p ∷ qs)

-- ---- units for payloads, one after another

-- the state after the units for these payloads were written
abbrev pub Sent : ℕ → Action → WriterState → WriterState → List Payload → Type 0
Sent v action a b ps = Wrote a b (payload_forms v action ps)

pub sent_more : (v : ℕ) (action : Action) (a b c : WriterState) (ps qs : List Payload) (p : Payload)
    → qs ≡ ps ++ p ∷ [] → Sent v action a b ps → Wrote b c (form v (flags_of action) p) →
    Sent v action a c qs
sent_more v action a b c ps qs p e w f =
    subst (λ l. Wrote a c l)
    (sym (ap (payload_forms v action) e ∙ forms_push v action ps p []
    ∙ ap (λ l. payload_forms v action ps ++ l) (append-nil (form v (flags_of action) p))))
    (both_put {T = Unit {0}} (Ok tt) a b c (payload_forms v action ps)
    (form v (flags_of action) p) w f)

pub sent_front : (v : ℕ) (action : Action) (a b c : WriterState) (ps qs all : List Payload)
    (p : Payload) (e : Fault) → all ≡ ps ++ p ∷ qs → Sent v action a b ps →
    PutsForm {T = Unit {0}} (Err e) b c (form v (flags_of action) p) →
    PutsForm {T = Unit {0}} (Err e) a c (payload_forms v action all)
sent_front v action a b c ps qs all p e is w f =
    as_pieces a c (Err e) _ (payload_forms v action all)
    (ap (payload_forms v action) is ∙ forms_push v action ps p qs)
    (then_front a b c (payload_forms v action ps) _ (Err e) w
    (stopped_front b c (form v (flags_of action) p) (payload_forms v action qs) e f))

pub sent_all : (v : ℕ) (action : Action) (a b : WriterState) (ps all : List Payload)
    (x : Unit {0}) →
    all ≡ ps → Sent v action a b ps →
    PutsForm {T = Unit {0}} (Ok x) a b (payload_forms v action all)
sent_all v action a b ps all x is w =
    subst (λ l. PutsForm {T = Unit {0}} (Ok x) a b (payload_forms v action l)) (sym is) w

-- ---- lists that are gone over

pub turn : {A B : Type 0} (f : A → B) (xs : List A) (x : A) (all s t : List B) →
    all ≡ map f xs ++ s → s ≡ f x ∷ t → all ≡ map f (xs ++ x ∷ []) ++ t
turn f xs x all s t e h =
    e ∙ ap (λ l. map f xs ++ l) h ∙ sym (append_assoc (map f xs) (f x ∷ []) t)
    ∙ ap (λ l. l ++ t) (sym (map-append f xs (x ∷ [])))

pub turned_all : {A B : Type 0} (f : A → B) (xs : List A) (all s : List B) →
    all ≡ map f xs ++ s → s ≡ [] → all ≡ map f xs
turned_all f xs all s e h = e ∙ ap (λ l. map f xs ++ l) h ∙ append-nil (map f xs)

-- what is picked of each so far, with one more
pub pushed : {A B C : Type 0} (f : A → B) (g : B → C) (xs : List A) (x : A) →
    map g (map f (xs ++ x ∷ [])) ≡ map g (map f xs) ++ g (f x) ∷ []
pushed f g xs x =
    ap (map g) (map-append f xs (x ∷ [])) ∙ map-append g (map f xs) (f x ∷ [])

pub cut : {A B C : Type 0} (f : A → B) (g : B → C) (xs : List A) (x : A) (all s t : List B) →
    all ≡ map f xs ++ s → s ≡ f x ∷ t →
    map g all ≡ map g (map f xs) ++ g (f x) ∷ map g t
cut f g xs x all s t e h =
    ap (map g) (e ∙ ap (λ l. map f xs ++ l) h) ∙ map-append g (map f xs) (f x ∷ t)

picked_append : {B C : Type 0} (g : B → C) (test : B → Bool) (xs ys : List B) →
    map g (filter test (xs ++ ys)) ≡ map g (filter test xs) ++ map g (filter test ys)
picked_append g test xs ys =
    ap (map g) (filter-append test xs ys) ∙ map-append g (filter test xs) (filter test ys)

pub picked_one : {A B C : Type 0} (f : A → B) (g : B → C) (test : B → Bool) (xs : List A) (x : A) →
    test (f x) ≡ true →
    map g (filter test (map f (xs ++ x ∷ []))) ≡ map g (filter test (map f xs)) ++ g (f x) ∷ []
picked_one f g test xs x e =
    ap (λ l. map g (filter test l)) (map-append f xs (x ∷ []))
    ∙ picked_append g test (map f xs) (f x ∷ [])
    ∙ ap (λ b. map g (filter test (map f xs)) ++ map g (cond b (f x ∷ []) [])) e

pub picked_cut : {A B C : Type 0} (f : A → B) (g : B → C) (test : B → Bool) (xs : List A) (x : A)
    (all s t : List B) → all ≡ map f xs ++ s → s ≡ f x ∷ t → test (f x) ≡ true →
    map g (filter test all) ≡
    map g (filter test (map f xs)) ++ g (f x) ∷ map g (filter test t)
picked_cut f g test xs x all s t e h is =
    ap (λ l. map g (filter test l)) (e ∙ ap (λ l. map f xs ++ l) h)
    ∙ picked_append g test (map f xs) (f x ∷ t)
    ∙ ap (λ b. map g (filter test (map f xs))
    ++ map g (cond b (f x ∷ filter test t) (filter test t))) is

-- ---- what a version has

pub none_for_version : {T : Type 0} (v n : ℕ) (f : T → Payload) →
    ((x : T) → smallest_version (f x) ≡ n) → v < n → (xs : List T) → data_for v (map f xs) ≡ []
none_for_version v n f k h [] = refl
none_for_version v n f k h (x ∷ xs) =
    ap (λ m. cond (nat_le m v) (f x ∷ data_for v (map f xs)) (data_for v (map f xs))) (k x)
    ∙ ap (λ b. cond b (f x ∷ data_for v (map f xs)) (data_for v (map f xs))) (lt-leb n v h)
    ∙ none_for_version v n f k h xs

pub all_for_version : {T : Type 0} (v n : ℕ) (f : T → Payload) →
    ((x : T) → smallest_version (f x) ≡ n) → n ≤ v → (xs : List T) →
    data_for v (map f xs) ≡ map f xs
all_for_version v n f k h [] = refl
all_for_version v n f k h (x ∷ xs) =
    ap (λ m. cond (nat_le m v) (f x ∷ data_for v (map f xs)) (data_for v (map f xs))) (k x)
    ∙ ap (λ b. cond b (f x ∷ data_for v (map f xs)) (data_for v (map f xs))) (le-leb n v h)
    ∙ ap (λ l. f x ∷ l) (all_for_version v n f k h xs)

-- ---- more on lists that are gone over

pub so_far : {A B C : Type 0} (f : A → B) (g : B → C) (xs : List A) (all s : List B) →
    all ≡ map f xs ++ s → map g all ≡ map g (map f xs) ++ map g s
so_far f g xs all s e = ap (map g) e ∙ map-append g (map f xs) s

pub maps : {A B C : Type 0} (f : A → B) (g : B → C) (xs : List A) →
    map g (map f xs) ≡ map (λ x. g (f x)) xs
maps f g [] = refl
maps f g (x ∷ xs) = ap (λ l. g (f x) ∷ l) (maps f g xs)

-- ---- pieces one after another

pub first_stops : (a b : WriterState) (x y all : List ℕ) (e : Fault) → all ≡ x ++ y →
    PutsForm {T = Unit {0}} (Err e) a b x → PutsForm {T = Unit {0}} (Err e) a b all
first_stops a b x y all e is h = as_pieces a b (Err e) (x ++ y) all is (stopped_front a b x y e h)

pub second_stops : (a b c : WriterState) (x y z all : List ℕ) (e : Fault) →
    all ≡ x ++ (y ++ z) → Wrote a b x → PutsForm {T = Unit {0}} (Err e) b c y →
    PutsForm {T = Unit {0}} (Err e) a c all
second_stops a b c x y z all e is h k =
    as_pieces a c (Err e) (x ++ (y ++ z)) all is
    (then_front a b c x (y ++ z) (Err e) h (stopped_front b c y z e k))

pub two_pieces : (a b c : WriterState) (x y all : List ℕ) (r : Result (Unit {0}) Fault) →
    all ≡ x ++ y → Wrote a b x → PutsForm r b c y → PutsForm r a c all
two_pieces a b c x y all r is h k = as_pieces a c r (x ++ y) all is (then_front a b c x y r h k)

pub three_pieces : (a b c d : WriterState) (x y z all : List ℕ) (r : Result (Unit {0}) Fault) →
    all ≡ x ++ (y ++ z) → Wrote a b x → Wrote b c y → PutsForm r c d z → PutsForm r a d all
three_pieces a b c d x y z all r is h k l =
    as_pieces a d r (x ++ (y ++ z)) all is
    (then_front a b d x (y ++ z) r h (then_front b c d y z r k l))
