-- Going over others in order, up to the first whose name isn't below a unit's.
use Rattle.std.proofs.Common.{◌≡◌, ℕ, Bool, true, false, ◌||◌, List, [], ◌∷◌, ◌++◌}
use Rattle.std.proofs.Common.{refl, sym, ap, ◌∙◌, append_assoc, inl, inr}
use Rattle.std.specs.List.{AllByRecursion}
use Rattle.std.specs.Ordering.{is_eq}
use Rattle.std.specs.declared.cmp.Ordering.{Ordering}
use Rattle.std.specs.declared.cmp.Ordering.TheVariants.{Less, Equal, Greater}
use Rattle.rtr_base.specs.declared.action.Action.TheVariants.{Announce}
use Rattle.rtr_payload.specs.Payloads.{Meaning, Payload}
use Rattle.data_memory.specs.Data.{has_name, name_cmp}
use Rattle.data_memory.proofs.Names.{absent, above, below, below_all}
use Rattle.data_slices.specs.Items.{meant}
use Rattle.data_slices.specs.PrivateChanges.{GoesPast, IsOrderOf}
use Rattle.data_slices.specs.PrivateChanges.{Seeks}
use Rattle.data_slices.specs.declared.item.PayloadView.{PayloadView}
use Rattle.data_slices.proofs.Units.{Head, head, nothing}

pub all_push : (P : Payload → Type 0) (ps : List Payload) (p : Payload) → AllByRecursion P ps →
    P p → AllByRecursion P (ps ++ p ∷ [])
all_push P [] p h g = (g, tt)
all_push P (x ∷ ps) p (f, h) g = (f, all_push P ps p h g)

pub starts : (p : Payload) (those : List ℕ) → GoesPast p those those
starts p those w ys j = record { passed = []; left = ys; all = refl; lower = tt; held = j }

pub joins : (p : Payload) (rest middle those : List ℕ) → GoesPast p middle those →
    GoesPast p rest middle → GoesPast p rest those
joins p rest middle those h k w ys j =
    let s = h w ys j in
    let t = k w s.left s.held in
    record {
      passed = s.passed ++ t.passed;
      left = t.left;
      all =
          s.all ∙ ap (λ l. s.passed ++ l) t.all ∙ sym (append_assoc s.passed t.passed t.left);
      lower = all_join (λ y. name_cmp p y ≡ Greater) s.passed t.passed s.lower t.lower;
      held = t.held;
    }
  where
    all_join : (P : Payload → Type 0) (xs zs : List Payload) → AllByRecursion P xs →
        AllByRecursion P zs → AllByRecursion P (xs ++ zs)
    all_join P [] zs h k = k
    all_join P (x ∷ xs) zs (g, h) k = (g, all_join P xs zs h k)

-- the order of a unit and the next of others, where its name is there or not
abbrev pub place : Bool → Ordering
place true = Equal
place false = Less

module _ (first : PayloadView) (those rest : List ℕ) (h : GoesPast (meant first).payload rest those)
    (right : List ℕ) (o : Ordering) where
  abbrev p : Payload
  p = (meant first).payload

  -- the next is below the unit
  pub passes : IsOrderOf o first right rest → o ≡ Greater → GoesPast p right those
  passes (inl (none, is)) e w ys j = absurd (let no = sym is ∙ e in cc)
  passes (inr (second, at, is)) e w ys j =
      let s = h w ys j in
      let g = head Announce w second right rest s.left at s.held in
      record {
        passed = s.passed ++ g.first ∷ [];
        left = g.others;
        all =
            s.all ∙ ap (λ l. s.passed ++ l) g.all
            ∙ sym (append_assoc s.passed (g.first ∷ []) g.others);
        lower =
            all_push (λ y. name_cmp p y ≡ Greater) s.passed g.first s.lower
            (ap (λ (m : Meaning). name_cmp p m.payload) (sym g.means) ∙ sym is ∙ e);
        held = g.held;
      }

  -- it isn't
  pub finds : (t : Bool) → IsOrderOf o first right rest → o ≡ place t → Seeks t first rest those
  finds t (inl (none, is)) e w ys j =
      let s = h w ys j in (
        s,
        ap (λ l. has_name l p) (nothing Announce w rest s.left none s.held)
            ∙ by_test t (sym is ∙ e),
      )
    where
      by_test : (t : Bool) → Less ≡ place t → false ≡ t
      by_test false e = refl
      by_test true e = absurd (let no = e in cc)
  finds t (inr (second, at, is)) e w ys j =
      let s = h w ys j in
      let g = head Announce w second right rest s.left at s.held in (
        s,
        ap (λ l. has_name l p) g.all
            ∙ by_test g t
            (sym e ∙ is ∙ ap (λ (m : Meaning). name_cmp p m.payload) g.means),
      )
    where
      by_test : {w : ℕ} {right : List ℕ} {ys : List Payload}
          (g : Head Announce w second right ys) (t : Bool) → place t ≡ name_cmp p g.first →
          has_name (g.first ∷ g.others) p ≡ t
      by_test g false e =
          absent p (g.first ∷ g.others) (sym e, below_all p g.first (sym e) g.others g.below)
      by_test g true e = ap (λ x. is_eq x || has_name g.others p) (sym e)

-- ---- names that are passed

-- a name that is below others isn't theirs
passed_one : (y : Payload) (qs ys xs : List Payload) →
    AllByRecursion (λ x. name_cmp y x ≡ Less) xs →
    AllByRecursion (λ x. has_name qs x ≡ has_name (y ∷ ys) x) xs →
    AllByRecursion (λ x. has_name qs x ≡ has_name ys x) xs
passed_one y qs ys [] h s = tt
passed_one y qs ys (x ∷ xs) (g, h) (e, s) =
    (e ∙ ap (λ o. is_eq o || has_name ys x) (above y x g), passed_one y qs ys xs h s)

-- names that are below the first of others aren't theirs
pub passed_all : (x : Payload) (xs : List Payload) →
    AllByRecursion (λ q. name_cmp x q ≡ Less) xs → (zs ys qs : List Payload) →
    AllByRecursion (λ z. name_cmp x z ≡ Greater) zs →
    AllByRecursion (λ q. has_name qs q ≡ has_name (zs ++ ys) q) (x ∷ xs) →
    AllByRecursion (λ q. has_name qs q ≡ has_name ys q) (x ∷ xs)
passed_all x xs under [] ys qs h s = s
passed_all x xs under (z ∷ zs) ys qs (g, h) s =
    let l = below x z g in
    passed_all x xs under zs ys qs h
    (passed_one z qs (zs ++ ys) (x ∷ xs) (l, below_all z x l xs under) s)
