-- Going over places in the order of names, beside data.
use Rattle.data_slices.specs.AtOffsets.{HaveUnits}
use Rattle.std.proofs.Common.{◌≡◌, ℕ, Bool, false, ◌||◌, cond, List, [], ◌∷◌, ◌++◌, Option}
use Rattle.std.proofs.Common.{Some, None, refl, sym, ap, subst, ◌∙◌, inl, inr}
use Rattle.std.specs.List.{AllByRecursion}
use Rattle.std.specs.Ordering.{is_eq, is_lt}
use Rattle.std.specs.declared.cmp.Ordering.TheVariants.{Greater}
use Rattle.rtr_base.specs.declared.action.Action.{Action}
use Rattle.rtr_base.specs.declared.action.Action.TheVariants.{Announce}
use Rattle.rtr_payload.specs.Payloads.{Payload}
use Rattle.data_memory.specs.Data.{Change, has_name, name_cmp}
use Rattle.data_memory.specs.Sequences.{change_of}
use Rattle.data_memory.proofs.Names.{above, below}
use Rattle.std.specs.Cmp.{tied_itself}
use Rattle.data_memory.proofs.Names.{name_total}
use Rattle.data_slices.specs.Items.{meant}
use Rattle.data_slices.specs.PrivateChanges.{HoldsUnits, Seeks}
use Rattle.data_slices.specs.PrivateInOrder.{FindsEarliest, InRow, KnowsThere, disallowed}
use Rattle.data_slices.specs.PrivateInOrder.{earlier_of, earliest, pairs, there_before}
use Rattle.data_slices.specs.PrivateOffsets.{HaveSome, Views, is_action}
use Rattle.data_slices.specs.declared.item.PayloadView.{PayloadView}
use Rattle.data_slices.proofs.Going.{Taken, some_left, taken}
use Rattle.data_slices.proofs.NetOrdered.{over}

abbrev pub last_change : Option PayloadView → Option Change
last_change None = None
last_change (Some view) = Some (change_of (meant view))

abbrev SameNames : (d ys : List Payload) → List Change → Type 0
SameNames d ys cs = AllByRecursion (λ c. has_name d c.payload ≡ has_name ys c.payload) cs

-- what is left decides as the whole
pub record Decided (d : List Payload) (w v : ℕ) (places : List ℕ) (cs : List Change)
    (input rest base_rest : List ℕ) (last : Option PayloadView) (found : Option (ℕ × Action)) :
    Type 0 where
  pub ds : List Change
  pub units : HaveUnits input v rest ds
  pub row : InRow ds
  pub ys : List Payload
  pub held : HoldsUnits Announce w base_rest ys
  pub same : SameNames d ys ds
  pub whole : earliest d None None (pairs places cs) ≡
      earliest d (last_change last) found (pairs rest ds)

pub record Deciding (base input places rest base_rest : List ℕ) (last : Option PayloadView)
    (found : Option (ℕ × Action)) : Type 0 where
  pub some : HaveSome input rest
  pub each : (v w : ℕ) (d : List Payload) (cs : List Change) → HoldsUnits Announce w base d →
      HaveUnits input v places cs → InRow cs →
      Decided d w v places cs input rest base_rest last found

all_same : (d : List Payload) (cs : List Change) → SameNames d d cs
all_same d [] = tt
all_same d (c ∷ cs) = (refl, all_same d cs)

pub starts : (base input places : List ℕ) → HaveSome input places →
    Deciding base input places places base None None
starts base input places some = record {
  some = some;
  each = λ v w d cs h j row. record {
    ds = cs;
    units = j;
    row = row;
    ys = d;
    held = h;
    same = all_same d cs;
    whole = refl;
  };
}

-- what is below a name isn't of a name that isn't below that one
skipped : (p q : Payload) (zs ys : List Payload) →
    AllByRecursion (λ z. name_cmp p z ≡ Greater) zs → is_lt (name_cmp q p) ≡ false →
    has_name (zs ++ ys) q ≡ has_name ys q
skipped p q [] ys a h = refl
skipped p q (z ∷ zs) ys (g, a) h =
    ap (λ o. is_eq o || has_name (zs ++ ys) q) (above z q (over z p q (below p z g) h))
    ∙ skipped p q zs ys a h

not_below_itself : (p : Payload) → is_lt (name_cmp p p) ≡ false
not_below_itself p = ap is_lt (tied_itself name_total p)

skip_all : (d : List Payload) (p : Payload) (zs ys old : List Payload) → old ≡ zs ++ ys →
    AllByRecursion (λ z. name_cmp p z ≡ Greater) zs → (cs : List Change) →
    AllByRecursion (λ c. is_lt (name_cmp c.payload p) ≡ false) cs → SameNames d old cs →
    SameNames d ys cs
skip_all d p zs ys old parts low [] a s = tt
skip_all d p zs ys old parts low (c ∷ cs) (g, a) (e, s) = (
  e ∙ ap (λ l. has_name l c.payload) parts ∙ skipped p c.payload zs ys low g,
  skip_all d p zs ys old parts low cs a s,
)

module _ (base input places rest base_rest : List ℕ) (last : Option PayloadView)
    (found : Option (ℕ × Action))
    (r : Deciding base input places rest base_rest last found) where
  pub ends : rest ≡ [] → FindsEarliest found base input places
  ends none v w d cs h j row =
      let k = r.each v w d cs h j row in
      sym (k.whole
      ∙ ap (λ l. earliest d (last_change last) found (pairs l k.ds)) none)

  module _ (place : ℕ) (view : PayloadView) (left : List ℕ)
      (takes : (rest ≡ place ∷ left) × Views input place view) (t : Bool) (base_left : List ℕ)
      (knows : KnowsThere last view t base_left base_rest) where
    abbrev c : Change
    c = change_of (meant view)

    abbrev now : Option (ℕ × Action)
    now = earlier_of found (disallowed t place (meant view).action (meant view).payload)

    module _ (v w : ℕ) (d : List Payload) (cs : List Change)
        (k : Decided d w v places cs input rest base_rest last found) where
      g : Taken input view left v k.ds
      g = taken input rest place view left v k.ds takes.0 takes.1 k.units

      parts : k.ds ≡ c ∷ g.ds
      parts = g.parts ∙ ap (λ x. x ∷ g.ds) (sym g.is)

      row_left : InRow (c ∷ g.ds)
      row_left = subst InRow parts k.row

      same_left : SameNames d k.ys (c ∷ g.ds)
      same_left = subst (SameNames d k.ys) parts k.same

      whole_by : there_before d (last_change last) c ≡ t →
          earliest d None None (pairs places cs) ≡
          earliest d (Some c) now (pairs left g.ds)
      whole_by is =
          k.whole
          ∙ (λ i. earliest d (last_change last) found (pairs (takes.0 i) (parts i)))
          ∙ ap (λ b. earliest d (Some c) (earlier_of found (disallowed b place c.action c.payload))
          (pairs left g.ds)) is

      by_seeking : Seeks t view base_left base_rest →
          (has_name d c.payload ≡ t → there_before d (last_change last) c ≡ t) →
          Decided d w v places cs input left base_left (Some view) now
      by_seeking seeks of =
          let (s, is) = seeks w k.ys k.held in
          record {
            ds = g.ds;
            units = g.left;
            row = row_left.1;
            ys = s.left;
            held = s.held;
            same =
                skip_all d c.payload s.passed s.left k.ys s.all s.lower g.ds row_left.0
                same_left.1;
            whole = whole_by (of
                (same_left.0 ∙ ap (λ l. has_name l c.payload) s.all
                ∙ skipped c.payload c.payload s.passed s.left s.lower
                (not_below_itself c.payload)
                ∙ is));
          }

      by_last : (l : Option PayloadView) → last ≡ l → KnowsThere l view t base_left base_rest →
          Decided d w v places cs input left base_left (Some view) now
      by_last None e seeks =
          by_seeking seeks (λ h. ap (λ x. there_before d (last_change x) c) e ∙ h)
      by_last (Some b) e (inl (same, is, stays)) = record {
        ds = g.ds;
        units = g.left;
        row = row_left.1;
        ys = k.ys;
        held = subst (λ l. HoldsUnits Announce w l k.ys) (sym stays) k.held;
        same = same_left.1;
        whole = whole_by
            (ap (λ x. there_before d (last_change x) c) e
            ∙ ap (λ x. cond x (is_action Announce (meant b).action) (has_name d c.payload)) same
            ∙ sym is);
      }
      by_last (Some b) e (inr (other, seeks)) =
          by_seeking seeks
          (λ h. ap (λ x. there_before d (last_change x) c) e
          ∙ ap (λ x. cond x (is_action Announce (meant b).action) (has_name d c.payload)) other
          ∙ h)

    pub goes_on : Deciding base input places left base_left (Some view) now
    goes_on = record {
      some = some_left input rest place view left takes.0 takes.1 r.some;
      each = λ v w d cs h j row.
          let k = r.each v w d cs h j row in
          by_last v w d cs k last refl knows;
    }
