-- What a store served has one data under each name, and so have the editions of a cache that has
-- nothing else.
use Rattle.std.proofs.Common.{◌≡◌, ℕ, true, List, [], ◌∷◌, ◌++◌, sym, ap, ◌∙◌, subst}
use Rattle.std.proofs.Common.{Option, inl, inr, append_assoc}
use Rattle.rtr_payload.specs.Payloads.{Payload}
use Rattle.data_memory.specs.Deltas.{data_for}
use Rattle.data_history.specs.Life.{IsLife, IsUnsavedLife, StaysOnCircle}
use Rattle.data_history.specs.Snapshots.{Snapshot}
use Rattle.session_cache.specs.Worlds.{Edition, IsIn, IsOneDataPerName}
use Rattle.session_laws.specs.Editions.{PayloadEdition, edition_of, editions_of}
use Rattle.session_laws.proofs.Payloads.{edition_in}
use Rattle.session_store_laws.specs.ServedData.{AreServed, HasServed, IsEditionOf, StayOnCircles}
use Rattle.session_store_laws.specs.ServedData.HasServed.{served_saved, served_unsaved}

-- ---- where two of a list stand

pub record Split (xs : List Snapshot) (x : Snapshot) : Type 0 where
  pub front : List Snapshot
  pub others : List Snapshot
  pub parts : xs ≡ front ++ x ∷ others

split : (xs : List Snapshot) (x : Snapshot) → IsIn xs x → Split xs x
split [] x i = absurd i
split (y ∷ xs) x (inl is) =
    record { front = []; others = xs; parts = ap (λ (z : Snapshot). z ∷ xs) is }
split (y ∷ xs) x (inr i) =
    let s : Split xs x = split xs x i in
    record { front = y ∷ s.front; others = s.others; parts = ap (λ l. y ∷ l) s.parts }

data Standing (xs : List Snapshot) (x y : Snapshot) : Type 0 where
  at_once : x ≡ y → Standing xs x y
  in_order :
      (front between others : List Snapshot) → xs ≡ front ++ x ∷ (between ++ y ∷ others)
      → Standing xs x y
  turned :
      (front between others : List Snapshot) → xs ≡ front ++ y ∷ (between ++ x ∷ others)
      → Standing xs x y

behind_one : (z : Snapshot) (xs : List Snapshot) (x y : Snapshot) → Standing xs x y
    → Standing (z ∷ xs) x y
behind_one z xs x y (at_once is) = at_once is
behind_one z xs x y (in_order front between others is) =
    in_order (z ∷ front) between others (ap (λ l. z ∷ l) is)
behind_one z xs x y (turned front between others is) =
    turned (z ∷ front) between others (ap (λ l. z ∷ l) is)

standing : (xs : List Snapshot) (x y : Snapshot) → IsIn xs x → IsIn xs y → Standing xs x y
standing [] x y i j = absurd i
standing (z ∷ xs) x y (inl i) (inl j) = at_once (sym i ∙ j)
standing (z ∷ xs) x y (inl i) (inr j) =
    let s : Split xs y = split xs y j in
    in_order [] s.front s.others (λ k. (i k) ∷ (s.parts k))
standing (z ∷ xs) x y (inr i) (inl j) =
    let s : Split xs x = split xs x i in
    turned [] s.front s.others (λ k. (j k) ∷ (s.parts k))
standing (z ∷ xs) x y (inr i) (inr j) = behind_one z xs x y (standing xs x y i j)

-- ---- editions

pub of_edition : (served : List Snapshot) (had : List PayloadEdition) (e : PayloadEdition)
    → AreServed served had → IsIn had e → e.name.has ≡ true
    → (x : Snapshot) × IsIn served x × IsEditionOf x e
of_edition served [] e are i has = absurd i
of_edition served (y ∷ had) e are (inl is) has =
    subst (λ (z : PayloadEdition). z.name.has ≡ true
    → (x : Snapshot) × IsIn served x × IsEditionOf x z) is are.0 has
of_edition served (y ∷ had) e are (inr i) has = of_edition served had e are.1 i has

-- ---- one data under each name

abbrev pub SavedNames : Type 0
SavedNames =
    (served front between others : List Snapshot) (file present taken : Option (List ℕ))
    (x y : Snapshot) → IsLife served file present taken
    → served ≡ front ++ x ∷ (between ++ y ∷ others) → x.end.session ≡ y.end.session
    → x.end.serial ≡ y.end.serial → StaysOnCircle x between y → x ≡ y

abbrev pub UnsavedNames : Type 0
UnsavedNames =
    (served front between others : List Snapshot) (session : ℕ) (present : Option (List ℕ))
    (x y : Snapshot) → IsUnsavedLife served session present
    → served ≡ front ++ x ∷ (between ++ y ∷ others) → x.end.session ≡ y.end.session
    → x.end.serial ≡ y.end.serial → StaysOnCircle x between y → x ≡ y

module _ (saved : SavedNames) (unsaved : UnsavedNames) where
  by_place : (all front between others : List Snapshot) (x y : Snapshot) → HasServed all
      → all ≡ front ++ x ∷ (between ++ y ∷ others) → x.end.session ≡ y.end.session
      → x.end.serial ≡ y.end.serial → StaysOnCircle x between y → x ≡ y
  by_place all front between others x y (served_saved s file present taken life) is =
      saved s front between others file present taken x y life is
  by_place all front between others x y (served_unsaved s session present life) is =
      unsaved s front between others session present x y life is

  -- with what was served before
  longer : (served before front between others : List Snapshot) (x y : Snapshot)
      → served ≡ front ++ x ∷ (between ++ y ∷ others)
      → served ++ before ≡ front ++ x ∷ (between ++ y ∷ (others ++ before))
  longer served before front between others x y is =
      ap (λ l. l ++ before) is
      ∙ append_assoc front (x ∷ (between ++ y ∷ others)) before
      ∙ ap (λ l. front ++ x ∷ l) (append_assoc between (y ∷ others) before)

  pub one_snapshot : (served before : List Snapshot) → HasServed (served ++ before)
      → StayOnCircles served → (x y : Snapshot) → IsIn served x → IsIn served y
      → x.end.session ≡ y.end.session → x.end.serial ≡ y.end.serial → x ≡ y
  one_snapshot served before has on x y i j session serial = go (standing served x y i j)
    where
      go : Standing served x y → x ≡ y
      go (at_once is) = is
      go (in_order front between others is) =
          by_place (served ++ before) front between (others ++ before) x y has
          (longer served before front between others x y is) session serial
          (on front between others x y is session)
      go (turned front between others is) =
          sym (by_place (served ++ before) front between (others ++ before) y x has
          (longer served before front between others y x is) (sym session) (sym serial)
          (on front between others y x is (sym session)))

  pub one_per_name : (served before : List Snapshot) (had : List PayloadEdition)
      → HasServed (served ++ before) → StayOnCircles served → AreServed served had
      → IsOneDataPerName (editions_of had)
  one_per_name served before had has on are x y wx wy session serial v =
      let e : (e : PayloadEdition) × IsIn had e × (edition_of e ≡ x) = edition_in had x wx.1 in
      let f : (e : PayloadEdition) × IsIn had e × (edition_of e ≡ y) = edition_in had y wy.1 in
      let s : (z : Snapshot) × IsIn served z × IsEditionOf z e.0 =
      of_edition served had e.0 are e.1
      (ap (λ (z : Edition (List Payload)). z.name.has) e.2 ∙ wx.0) in
      let t : (z : Snapshot) × IsIn served z × IsEditionOf z f.0 =
      of_edition served had f.0 are f.1
      (ap (λ (z : Edition (List Payload)). z.name.has) f.2 ∙ wy.0) in
      let one : s.0 ≡ t.0 =
      one_snapshot served before has on s.0 t.0 s.1 t.1
      (sym s.2.session ∙ ap (λ (z : Edition (List Payload)). z.name.session) e.2 ∙ session
      ∙ sym (ap (λ (z : Edition (List Payload)). z.name.session) f.2) ∙ t.2.session)
      (sym s.2.serial ∙ ap (λ (z : Edition (List Payload)). z.name.serial) e.2 ∙ serial
      ∙ sym (ap (λ (z : Edition (List Payload)). z.name.serial) f.2) ∙ t.2.serial) in
      let same : e.0.payloads ≡ f.0.payloads =
      s.2.payloads ∙ ap (λ (z : Snapshot). z.payloads) one ∙ sym t.2.payloads in
      sym (ap (λ (z : Edition (List Payload)). z.for_version v) e.2) ∙ ap (data_for v) same
      ∙ ap (λ (z : Edition (List Payload)). z.for_version v) f.2
