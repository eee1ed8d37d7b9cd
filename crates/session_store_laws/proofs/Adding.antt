-- The calls of `Stores` keep to lives in which each store adds only what was taken.
use Rattle.std.proofs.Common.{◌≡◌, ◌∙◌, ℕ, not, List, [], ◌∷◌, Option}
use Rattle.std.proofs.Common.{Some, None, Ok, refl, sym, ap, subst, take}
use Rattle.data_history.specs.Life.{MayTake}
use Rattle.data_history.specs.Life.{gave_up, saved, served_first, served_next, started, took}
use Rattle.data_history.specs.Life.{took_first}
use Rattle.data_history.specs.Next.{ContinuesHistory}
use Rattle.data_history.specs.Parts.{part_rest}
use Rattle.data_history.specs.Snapshots.{Snapshot}
use Rattle.data_history.specs.Store.{HoldsStore, IsTaken}
use Rattle.data_history.specs.Stores.{TakesAfter, TakesData, after_giving_up}
use Rattle.data_history.specs.Stores.{after_saving, after_taking, after_taking_in, fresh_stores}
use Rattle.data_history.specs.Stores.{front_of, held_of, MayBeOf, other_of, served_store}
use Rattle.data_history.specs.Stores.{taken_store}
use Rattle.data_history.specs.declared.stores.Stores.{Stores}
use Rattle.data_history.proofs.Living.{Extends, IsLast, lives, lives_unsaved}
use Rattle.data_history.proofs.Serving.{noted_to_save, other_held}
use Rattle.session_store_laws.specs.HeldHistory.{AllIn, HasLife, HasUnsavedLife}
use Rattle.session_store_laws.proofs.Held.{all_of_front}

-- ---- what was taken after a store

-- it goes on the history of that store
abbrev Continues : (since most : ℕ) (b b' : List ℕ) (z x : Snapshot) (ys : List Snapshot)
    → Type 0
Continues since most b b' z x ys =
    IsTaken b b' z x × ContinuesHistory since most (part_rest b') z x ys

abbrev taken_on : (since most : ℕ) (b b' : List ℕ) (z x : Snapshot) (ys : List Snapshot)
    → Continues since most b b' z x ys → IsTaken b b' z x
taken_on since most b b' z x ys k = record {
  front = k.1.front;
  store = record { first = k.0.store.first; history = k.1.history };
  name = k.0.name;
}

no_others : (since most : ℕ) (b b' : List ℕ) (z x : Snapshot) (ys : List Snapshot)
    (k : Continues since most b b' z x ys) → AllIn (x ∷ ys) k.1.front
no_others since most b b' z x ys k =
    subst (λ l. AllIn l k.1.front) (sym k.1.parts) (all_of_front k.1.front k.1.others)

-- ---- with a file

adds : (since most n : ℕ) (served : List Snapshot) (file o : Option (List ℕ)) (z : Snapshot)
    (after : List ℕ) → TakesAfter since most (Ok n) o z after → MayTake served o
    → HasLife served file o None → HasLife served file o (Some (take n after))
adds since most n served file None z after t may l =
    let k : HasLife [] file None None =
    subst (λ xs. HasLife xs file None None) may l in
    subst (λ xs. HasLife xs file None (Some (take n after))) (sym may)
    (took_first file None (take n after) z [] k.0 t.0, (refl, k.1))
adds since most n served file (Some b) z after t may l =
    let e : Extends served b = (lives served file (Some b) None l.0).of_present.extends in
    let k : Continues since most b (take n after) z e.z e.ys = t e.z e.ys e.store in (
      took served file None b (take n after) z e.z e.ys l.0 e.store
          (taken_on since most b (take n after) z e.z e.ys k),
      (no_others since most b (take n after) z e.z e.ys k, l.1),
    )

pub takes : (since most n : ℕ) (m m' : Stores) (f s f' s' : List ℕ) (served : List Snapshot)
    (file : Option (List ℕ)) (z : Snapshot) → m.unsaved ≡ None
    → MayTake served (served_store m f s)
    → TakesData since most (Ok n) m (served_store m f s) z (other_of m.second f' s')
    → m' ≡ after_taking n m → held_of m.second f' s' ≡ held_of m.second f s
    → HasLife served file (served_store m f s) (taken_store m f s)
    → HasLife served file (served_store m' f' s') (taken_store m' f' s')
takes since most n m m' f s f' s' served file z un may t after held l =
    let other = other_of m.second f' s' in
    let none : HasLife served file (served_store m f s) None =
    subst (λ (k : Option ℕ). HasLife served file (served_store m f s)
    (front_of k (other_of m.second f s))) t.0 l in
    let on : HasLife served file (served_store m f s) (Some (take n other)) =
    adds since most n served file (served_store m f s) z other t.2 may none in
    subst (λ (k : Stores). HasLife served file (served_store k f' s') (taken_store k f' s'))
    (sym (after ∙ noted_to_save m n un))
    (subst (λ (b : List ℕ). HasLife served file (front_of m.served b) (Some (take n other)))
    (sym held) on)

abbrev bytes_in : Option (List ℕ) → List ℕ
bytes_in None = []
bytes_in (Some b) = b

saves_in : (t : Option ℕ) (m : Stores) (served : List Snapshot) (f s b : List ℕ)
    (z : Snapshot) (ys : List Snapshot) → front_of t (other_of m.second f s) ≡ Some b
    → HoldsStore b z ys → HasLife served (Some b) (served_store m f s) (Some b)
    → HasLife (z ∷ served) (Some b) (served_store (after_saving t m) f s)
    (taken_store (after_saving t m) f s)
saves_in None m served f s b z ys is h l = absurd cc
saves_in (Some n) m served f s b z ys is h l =
    let same : b ≡ take n (held_of (not m.second) f s) =
    sym (ap bytes_in is) ∙ ap (take n) (sym (other_held m.second f s)) in
    subst (λ (c : List ℕ). HasLife (z ∷ served) (Some b) (Some c) None) same
    (saved served (served_store m f s) b z ys l.0 h, l.1)

pub saves : (m m' : Stores) (served : List Snapshot) (f s b : List ℕ) (z : Snapshot)
    (ys : List Snapshot) → m' ≡ after_saving m.taken m → taken_store m f s ≡ Some b
    → HoldsStore b z ys → HasLife served (Some b) (served_store m f s) (Some b)
    → HasLife (z ∷ served) (Some b) (served_store m' f s) (taken_store m' f s)
saves m m' served f s b z ys after is h l =
    subst (λ (k : Stores). HasLife (z ∷ served) (Some b) (served_store k f s)
    (taken_store k f s)) (sym after) (saves_in m.taken m served f s b z ys is h l)

pub gives_up : (m m' : Stores) (served : List Snapshot) (file : Option (List ℕ))
    (f s : List ℕ) → m' ≡ after_giving_up m
    → HasLife served file (served_store m f s) (taken_store m f s)
    → HasLife served file (served_store m' f s) (taken_store m' f s)
gives_up m m' served file f s after l =
    subst (λ (k : Stores). HasLife served file (served_store k f s) (taken_store k f s))
    (sym after)
    (gave_up served file (served_store m f s) (taken_store m f s) l.0, l.1)

pub starts : (m : Stores) (size : ℕ) (served : List Snapshot) (f s : List ℕ) (z : Snapshot)
    (ys : List Snapshot) → m ≡ fresh_stores (Some size) None → HoldsStore (take size f) z ys
    → HasLife served (Some (take size f)) None None
    → HasLife (z ∷ served) (Some (take size f)) (served_store m f s) (taken_store m f s)
starts m size served f s z ys is h l =
    subst (λ (k : Stores). HasLife (z ∷ served) (Some (take size f)) (served_store k f s)
    (taken_store k f s)) (sym is)
    (started served (take size f) z ys l.0 h, l.1)

-- ---- without a file

at_once : (since most n session : ℕ) (served : List Snapshot) (o : Option (List ℕ))
    (z : Snapshot) (after : List ℕ) → TakesAfter since most (Ok n) o z after
    → z.end.session ≡ session → HasUnsavedLife served session o
    → HasUnsavedLife (z ∷ served) session (Some (take n after))
at_once since most n session served None z after t is l =
    (served_first served session (take n after) z [] l.0 t.0 is, (refl, l.1))
at_once since most n session served (Some b) z after t is l =
    let e : IsLast served session b = (lives_unsaved served session (Some b) l.0).1 in
    let k : Continues since most b (take n after) z e.x e.ys = t e.x e.ys e.store in (
      served_next served session b (take n after) z e.x e.ys l.0 e.store
          (taken_on since most b (take n after) z e.x e.ys k) is,
      (no_others since most b (take n after) z e.x e.ys k, l.1),
    )

pub takes_unsaved : (since most n session : ℕ) (m m' : Stores) (f s f' s' : List ℕ)
    (served : List Snapshot) (z : Snapshot) → m.unsaved ≡ Some session
    → TakesData since most (Ok n) m (served_store m f s) z (other_of m.second f' s')
    → m' ≡ after_taking n m → HasUnsavedLife served session (served_store m f s)
    → HasUnsavedLife (z ∷ served) session (served_store m' f' s')
takes_unsaved since most n session m m' f s f' s' served z un t after l =
    let is : z.end.session ≡ session =
    subst (λ (u : Option ℕ). MayBeOf u z.end.session) un t.1 in
    subst (λ (k : Stores). HasUnsavedLife (z ∷ served) session (served_store k f' s'))
    (sym after)
    (subst (λ (u : Option ℕ). HasUnsavedLife (z ∷ served) session
    (served_store (after_taking_in u n m) f' s')) (sym un)
    (subst (λ (b : List ℕ). HasUnsavedLife (z ∷ served) session (Some (take n b)))
    (sym (other_held m.second f' s'))
    (at_once since most n session served (served_store m f s) z (other_of m.second f' s') t.2
    is l)))
