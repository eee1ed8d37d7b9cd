-- What is written of units, one by one.
use Rattle.std.proofs.Common.{◌≡◌, ℕ, leb, Bool, true, false, cond, List, [], ◌∷◌, ◌++◌, map}
use Rattle.std.proofs.Common.{Option, Some, None, refl, ap, ◌∙◌, append-nil}
use Rattle.std.specs.Prelude.{is_some}
use Rattle.std.specs.List.{filter, cons_option}
use Rattle.std.proofs.lemmas.Bool.{cond_both}
use Rattle.std.proofs.lemmas.List.Elements.{filter_map-append}
use Rattle.rtr_payload.specs.Payloads.{Meaning, smallest_version}
use Rattle.rtr_payload.specs.Units.{form_of}
use Rattle.rtr_wire.specs.Sequences.{Output, everything, forms, written_units}
use Rattle.rtr_wire.specs.Sequences.{in_version, unit_for, units_for}
use Rattle.rtr_wire.proofs.Push.{forms_append}

-- the form of what is written for one unit: no bytes where nothing is
abbrev pub form_written : Option Meaning → List ℕ
form_written None = []
form_written (Some m) = form_of m

-- ---- one unit more

pub forms_cons : (o : Option Meaning) (ms : List Meaning) →
    forms (cons_option o ms) ≡ form_written o ++ forms ms
forms_cons None ms = refl
forms_cons (Some m) ms = refl

pub form_of_one : (o : Option Meaning) → forms (cons_option o []) ≡ form_written o
form_of_one o = forms_cons o [] ∙ append-nil (form_written o)

pub units_one_more : (what : Output) (ms : List Meaning) (m : Meaning) →
    written_units what (ms ++ m ∷ []) ≡ written_units what ms ++ cons_option (what.unit m) []
units_one_more what ms m = filter_map-append what.unit ms (m ∷ [])

pub forms_one_more : (what : Output) (ms : List Meaning) (m : Meaning) →
    forms (written_units what (ms ++ m ∷ [])) ≡
    forms (written_units what ms) ++ form_written (what.unit m)
forms_one_more what ms m =
    ap forms (units_one_more what ms m)
    ∙ forms_append (written_units what ms) (cons_option (what.unit m) [])
    ∙ ap (λ l. forms (written_units what ms) ++ l) (form_of_one (what.unit m))

-- ---- everything, and what a version has

pub all_written : (ms : List Meaning) → written_units everything ms ≡ ms
all_written [] = refl
all_written (m ∷ ms) = ap (λ l. m ∷ l) (all_written ms)

-- the units of a version are those that are kept by a filter, each in that version
filtered_one : (v : ℕ) (m : Meaning) (b : Bool) (xs ys : List Meaning) →
    xs ≡ map (in_version v) ys →
    cons_option (cond b (Some (in_version v m)) None) xs ≡ map (in_version v) (cond b (m ∷ ys) ys)
filtered_one v m true xs ys is = ap (λ l. in_version v m ∷ l) is
filtered_one v m false xs ys is = is

pub filtered : (v : ℕ) (ms : List Meaning) →
    units_for v ms ≡ map (in_version v) (filter (λ m. leb (smallest_version m.payload) v) ms)
filtered v [] = refl
filtered v (m ∷ ms) =
    filtered_one v m (leb (smallest_version m.payload) v) (units_for v ms)
    (filter (λ m. leb (smallest_version m.payload) v) ms) (filtered v ms)

-- ---- by whether a unit is written, and in which version

pub none_written : (o : Option Meaning) → is_some o ≡ false → o ≡ None
none_written None e = refl
none_written (Some n) e = absurd cc

pub one_written : (o : Option Meaning) (x : Meaning) → is_some o ≡ true →
    ((n : Meaning) → o ≡ Some n → n ≡ x) → o ≡ Some x
one_written None x e same = absurd cc
one_written (Some n) x e same = ap Some (same n refl)

some_same : (m n : Meaning) → Some m ≡ Some n → n ≡ m
some_same m n e = cc

pub version_kept : (m n : Meaning) (v : ℕ) → m.version ≡ v → Some m ≡ Some n → n ≡ in_version v m
version_kept m n v is e = some_same m n e ∙ ap (λ v. in_version v m) is

pub version_writes : (v : ℕ) (m : Meaning) →
    leb (smallest_version m.payload) v ≡ is_some (unit_for v m)
version_writes v m =
    cond_both (leb (smallest_version m.payload) v) (Some (in_version v m)) None
    (λ o. leb (smallest_version m.payload) v ≡ is_some o) (λ e. e) (λ e. e)

pub version_written : (v : ℕ) (m n : Meaning) → unit_for v m ≡ Some n → n ≡ in_version v m
version_written v m n =
    cond_both (leb (smallest_version m.payload) v) (Some (in_version v m)) None
    (λ o. o ≡ Some n → n ≡ in_version v m) (λ _ e. some_same (in_version v m) n e)
    (λ _ e. absurd cc)
