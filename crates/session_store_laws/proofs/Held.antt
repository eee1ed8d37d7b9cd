-- Each of the data that a cache's stores hold was served, but for those that were just taken.
use Rattle.std.proofs.Common.{◌≡◌, ◌++◌, ℕ, List, [], ◌∷◌, Option, Some, None, Ok, refl, sym, ap}
use Rattle.std.proofs.Common.{◌∙◌, subst, inl, inr}
use Rattle.std.specs.Prelude.{⊤}
use Rattle.std.specs.List.{AllByRecursion}
use Rattle.data_memory.specs.Changes.{after_all}
use Rattle.data_memory.specs.Data.{IsData}
use Rattle.data_slices.proofs.OneData.{one_data}
use Rattle.data_slices.proofs.Reapplied.{one_changes, same_made}
use Rattle.data_history.specs.Life.{IsLife, IsUnsavedLife}
use Rattle.data_history.specs.Life.{was_new, took_first, took, wrote, saved, gave_up, stopped}
use Rattle.data_history.specs.Life.{started}
use Rattle.data_history.specs.Life.{first_start, next_start, served_first, served_next}
use Rattle.data_history.specs.Parts.{part_bytes, part_rest}
use Rattle.data_history.specs.Snapshots.{GoesBack, HoldsHistory, LeadsTo, Snapshot}
use Rattle.data_history.specs.Store.{HoldsStore}
use Rattle.data_history.proofs.Advancing.{same_snapshot}
use Rattle.data_history.proofs.Steps.{not_empty}
use Rattle.session_cache.specs.Worlds.{IsIn}
use Rattle.session_store_laws.specs.HeldHistory.{AddsOnlyServed, AddsOnlyTaken, AllIn}
use Rattle.session_store_laws.specs.HeldHistory.{KeepsHistory, ServesHistory}
use Rattle.session_store_laws.specs.HeldHistory.ServesHistory.{serves_saved, serves_unsaved}
use Rattle.session_store_laws.specs.HeldHistory.KeepsHistory.{keeps_in_file, keeps_taken}

-- ---- bytes are one history

one_step : (b : List ℕ) (x y z : Snapshot) → LeadsTo b x y → LeadsTo b x z → z ≡ y
one_step b x y z g k =
    let one = one_changes b g.changes k.changes y.end z.end g.holds k.holds in
    same_snapshot y z
    (same_made z.payloads y.payloads
    (sym k.leads ∙ ap (λ cs. after_all cs (Ok x.payloads)) (sym one.0) ∙ g.leads)) (sym one.1)

one_back : (b : List ℕ) (x : Snapshot) (ys zs : List Snapshot) → GoesBack b x ys
    → GoesBack b x zs → zs ≡ ys
one_back b x [] [] g k = refl
one_back b x [] (z ∷ zs) g k = absurd (not_empty b k.0 g)
one_back b x (y ∷ ys) [] g k = absurd (not_empty b g.0 k)
one_back b x (y ∷ ys) (z ∷ zs) g k =
    let same : z ≡ y = one_step (part_bytes b) x y z g.1 k.1 in
    let rest : zs ≡ ys =
    one_back (part_rest b) y ys zs g.2
    (subst (λ (w : Snapshot). GoesBack (part_rest b) w zs) same k.2) in
    (λ i. same i ∷ rest i)

one_history : (b : List ℕ) (x z : Snapshot) (xs zs : List Snapshot) → HoldsHistory b x xs
    → HoldsHistory b z zs → z ∷ zs ≡ x ∷ xs
one_history b x z xs zs h j =
    let one =
    one_data (part_bytes b) z.payloads x.payloads z.end x.end j.holds h.holds in
    let same : z ≡ x = same_snapshot x z one.0 one.1 in
    let rest : zs ≡ xs =
    one_back (part_rest b) x xs zs h.back
    (subst (λ (w : Snapshot). GoesBack (part_rest b) w zs) same j.back) in
    (λ i. same i ∷ rest i)

-- ---- all are among others

pub all_more : (z : Snapshot) (xs ys : List Snapshot) → AllIn xs ys → AllIn (z ∷ xs) ys
all_more z xs [] all = tt
all_more z xs (y ∷ ys) all = (inr all.0, all_more z xs ys all.1)

pub one_of : (xs ys : List Snapshot) (y : Snapshot) → AllIn xs ys → IsIn ys y → IsIn xs y
one_of xs [] y all i = absurd i
one_of xs (z ∷ ys) y all (inl is) = subst (λ (w : Snapshot). IsIn xs w) is all.0
one_of xs (z ∷ ys) y all (inr i) = one_of xs ys y all.1 i

all_through : (xs ys zs : List Snapshot) → AllIn xs ys → AllIn ys zs → AllIn xs zs
all_through xs ys [] all more = tt
all_through xs ys (z ∷ zs) all more =
    (one_of xs ys z all more.0, all_through xs ys zs all more.1)

pub all_of_front : (front others : List Snapshot) → AllIn (front ++ others) front
all_of_front [] others = tt
all_of_front (x ∷ front) others =
    (inl refl, all_more x (front ++ others) front (all_of_front front others))

-- ---- what a store has

-- all its data are of these, or all but the present ones
record HasAll (served : List Snapshot) (b : List ℕ) : Type 0 where
  pub x : Snapshot
  pub ys : List Snapshot
  pub store : HoldsStore b x ys
  pub all : AllIn served (x ∷ ys)

record HasOthers (served : List Snapshot) (b : List ℕ) : Type 0 where
  pub x : Snapshot
  pub ys : List Snapshot
  pub store : HoldsStore b x ys
  pub others : AllIn served ys

all_at : (served : List Snapshot) (b : List ℕ) (x : Snapshot) (ys : List Snapshot)
    → HasAll served b → HoldsHistory (part_rest b) x ys → AllIn served (x ∷ ys)
all_at served b x ys a h =
    subst (λ l. AllIn served l)
    (one_history (part_rest b) x a.x ys a.ys h a.store.history) a.all

abbrev others_of : List Snapshot → List Snapshot
others_of [] = []
others_of (x ∷ xs) = xs

others_at : (served : List Snapshot) (b : List ℕ) (x : Snapshot) (ys : List Snapshot)
    → HasOthers served b → HoldsHistory (part_rest b) x ys → AllIn served ys
others_at served b x ys a h =
    subst (λ l. AllIn served (others_of l))
    (one_history (part_rest b) x a.x ys a.ys h a.store.history) a.others

-- ---- a life with a file

abbrev IfAll : List Snapshot → Option (List ℕ) → Type 0
IfAll served None = ⊤
IfAll served (Some b) = HasAll served b

abbrev IfOthers : List Snapshot → Option (List ℕ) → Type 0
IfOthers served None = ⊤
IfOthers served (Some b) = HasOthers served b

record Holds (served : List Snapshot) (file present taken : Option (List ℕ)) : Type 0 where
  pub of_file : IfOthers served file
  pub of_present : IfAll served present
  pub of_taken : IfOthers served taken

-- once they are served
now_served : (served : List Snapshot) (b : List ℕ) (z : Snapshot) (ys : List Snapshot)
    → HoldsStore b z ys → HasOthers served b → Holds (z ∷ served) (Some b) (Some b) None
now_served served b z ys h o =
    let more : AllIn (z ∷ served) ys =
    all_more z served ys (others_at served b z ys o h.history) in
    record {
      of_file = record { x = z; ys = ys; store = h; others = more };
      of_present = record { x = z; ys = ys; store = h; all = (inl refl, more) };
      of_taken = tt;
    }

holds : (served : List Snapshot) (file present taken : Option (List ℕ))
    (l : IsLife served file present taken) → AddsOnlyTaken served file present taken l
    → Holds served file present taken
holds served file present taken was_new a =
    record { of_file = tt; of_present = tt; of_taken = tt }
holds served file present taken (took_first f t b z ys l h) a =
    let i = holds [] f None t l a.1 in
    record {
      of_file = i.of_file;
      of_present = tt;
      of_taken = record {
        x = z;
        ys = ys;
        store = h;
        others = subst (λ l. AllIn [] l) (sym a.0) tt;
      };
    }
holds served file present taken (took s f t b b' z x ys l h is) a =
    let i = holds s f (Some b) t l a.1 in
    record {
      of_file = i.of_file;
      of_present = i.of_present;
      of_taken = record {
        x = z;
        ys = is.front;
        store = is.store;
        others = all_through s (x ∷ ys) is.front (all_at s b x ys i.of_present h.history) a.0;
      };
    }
holds served file present taken (wrote s f p b' l) a =
    let i = holds s f p (Some b') l a in
    record { of_file = i.of_taken; of_present = i.of_present; of_taken = i.of_taken }
holds served file present taken (saved s p b' z ys l h) a =
    now_served s b' z ys h (holds s (Some b') p (Some b') l a).of_taken
holds served file present taken (gave_up s f p t l) a =
    let i = holds s f p t l a in
    record { of_file = i.of_file; of_present = i.of_present; of_taken = tt }
holds served file present taken (stopped s f p t l) a =
    let i = holds s f p t l a in
    record { of_file = i.of_file; of_present = tt; of_taken = tt }
holds served file present taken (started s b z ys l h) a =
    now_served s b z ys h (holds s (Some b) None None l a).of_file

-- ---- a life without a file

holds_unsaved : (served : List Snapshot) (session : ℕ) (present : Option (List ℕ))
    (l : IsUnsavedLife served session present) → AddsOnlyServed served session present l
    → IfAll served present
holds_unsaved served session present (first_start s) a = tt
holds_unsaved served session present (next_start xs s t p l new) a = tt
holds_unsaved served session present (served_first xs s b z ys l h is) a =
    record {
      x = z;
      ys = ys;
      store = h;
      all = (inl refl, subst (λ l. AllIn (z ∷ xs) l) (sym a.0) tt);
    }
holds_unsaved served session present (served_next xs s b b' z x ys l h is of) a =
    let i = holds_unsaved xs s (Some b) l a.1 in
    record {
      x = z;
      ys = is.front;
      store = is.store;
      all = (
        inl refl,
        all_more z xs is.front
            (all_through xs (x ∷ ys) is.front (all_at xs b x ys i h.history) a.0),
      );
    }

-- ---- histories

pub serves : (served : List Snapshot) (history : List ℕ) (x : Snapshot) (ys : List Snapshot)
    → ServesHistory served history → HoldsHistory history x ys → AllIn served (x ∷ ys)
serves served history x ys (serves_saved s file taken b l) h =
    all_at s b x ys (holds s file (Some b) taken l.0 l.1).of_present h
serves served history x ys (serves_unsaved s session b l) h =
    all_at s b x ys (holds_unsaved s session (Some b) l.0 l.1) h

pub keeps : (served : List Snapshot) (history : List ℕ) (x : Snapshot) (ys : List Snapshot)
    → KeepsHistory served history → HoldsHistory history x ys → AllIn served ys
keeps served history x ys (keeps_taken s file present b l) h =
    others_at s b x ys (holds s file present (Some b) l.0 l.1).of_taken h
keeps served history x ys (keeps_in_file s present taken b l) h =
    others_at s b x ys (holds s (Some b) present taken l.0 l.1).of_file h

-- ---- what was served are data

abbrev pub AllData : List Snapshot → Type 0
AllData served = AllByRecursion (λ x. IsData x.payloads) served

of_store : (b : List ℕ) (x : Snapshot) (ys : List Snapshot) → HoldsStore b x ys
    → IsData x.payloads
of_store b x ys h = h.history.holds.in_order

pub served_data : (served : List Snapshot) (file present taken : Option (List ℕ))
    → IsLife served file present taken → AllData served
served_data served file present taken was_new = tt
served_data served file present taken (took_first f t b z ys l h) = tt
served_data served file present taken (took s f t b b' z x ys l h is) =
    served_data s f (Some b) t l
served_data served file present taken (wrote s f p b' l) = served_data s f p (Some b') l
served_data served file present taken (saved s p b' z ys l h) =
    (of_store b' z ys h, served_data s (Some b') p (Some b') l)
served_data served file present taken (gave_up s f p t l) = served_data s f p t l
served_data served file present taken (stopped s f p t l) = served_data s f p t l
served_data served file present taken (started s b z ys l h) =
    (of_store b z ys h, served_data s (Some b) None None l)

pub served_data_unsaved : (served : List Snapshot) (session : ℕ) (present : Option (List ℕ))
    → IsUnsavedLife served session present → AllData served
served_data_unsaved served session present (first_start s) = tt
served_data_unsaved served session present (next_start xs s t p l new) =
    served_data_unsaved xs s p l
served_data_unsaved served session present (served_first xs s b z ys l h is) =
    (of_store b z ys h, served_data_unsaved xs s None l)
served_data_unsaved served session present (served_next xs s b b' z x ys l h is of) =
    (of_store b' z is.front is.store, served_data_unsaved xs s (Some b) l)
