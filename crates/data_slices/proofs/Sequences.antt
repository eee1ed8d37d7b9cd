-- Data at the front of a slice, item by item.
use Rattle.std.proofs.Common.{◌≡◌, ℕ, List, [], ◌∷◌, ◌++◌, None, refl, sym, ap, subst, ◌∙◌}
use Rattle.std.proofs.Common.{append_assoc, arith, length, length-append, ◌<◌, ◌≤◌}
use Rattle.std.specs.List.{AllByRecursion}
use Rattle.std.specs.List.Sorted.{IsStrictlySortedBy}
use Rattle.std.specs.declared.cmp.Ordering.TheVariants.{Less}
use Rattle.rtr_base.specs.declared.action.Action.TheVariants.{Announce}
use Rattle.rtr_units.specs.AnyEnd.{end_meaning}
use Rattle.rtr_units.specs.End.{EndMeaning, IsEnd}
use Rattle.rtr_units.proofs.Ends.{end_one}
use Rattle.rtr_payload.specs.AspaUnits.{aspa_at}
use Rattle.rtr_payload.specs.FirstFault.{first_fault}
use Rattle.rtr_payload.specs.KeyUnits.{key_at}
use Rattle.rtr_payload.specs.Payloads.{Meaning, Payload}
use Rattle.rtr_payload.specs.UnitFields.{HasFields, aspa_unit, meaning, key_unit}
use Rattle.rtr_payload.specs.Units.{IsUnit, form_of}
use Rattle.rtr_payload.proofs.Apart.{unit_or_end}
use Rattle.rtr_payload.proofs.Fields.{units_same}
use Rattle.rtr_payload.proofs.Rests.{begins_unit_none, begins_end_none}
use Rattle.unit_views.specs.Faults.{IsFirstFault}
use Rattle.unit_views.specs.Origins.{origin_meaning}
use Rattle.unit_views.specs.Views.{IsViewOf}
use Rattle.unit_views.specs.declared.fault.ViewFault.{ViewFault}
use Rattle.unit_views.specs.declared.fault.ViewFault.TheVariants.{Writer, Short, UnitType}
use Rattle.unit_views.specs.declared.fault.ViewFault.TheVariants.{UnitLength, TooLong}
use Rattle.unit_views.specs.declared.fault.ViewFault.TheVariants.{EmptyProviders, UnitVersion}
use Rattle.unit_views.specs.declared.fault.ViewFault.TheVariants.{Prefix, TooMany}
use Rattle.unit_views.specs.declared.view.UnitView.{UnitView}
use Rattle.unit_views.specs.declared.view.UnitView.TheVariants as units
use Rattle.unit_views.proofs.Agreement.{view_means}
use Rattle.rtr_wire.specs.Sequences.{Accepts, in_version}
use Rattle.rtr_wire.proofs.OneAnswer.{begins_end}
use Rattle.rtr_wire.proofs.Runs.{after}
use Rattle.data_memory.specs.Data.{announcement, name_cmp}
use Rattle.data_memory.specs.Deltas.{unit_of}
use Rattle.data_slices.specs.Canonical.{HoldsData, data_units}
use Rattle.data_slices.specs.Items.{IsItem, item_view, meant}
use Rattle.data_slices.specs.declared.item.Item.{Item}
use Rattle.data_slices.specs.declared.item.Item.TheVariants as items
use Rattle.data_slices.specs.declared.item.PayloadView.{PayloadView}

-- the item of a view
pub item_of_view : (v : UnitView) (b : List ℕ) → IsViewOf v b → IsItem (item_view v) b
item_of_view (units.Origin v) b is =
    (view_means (units.Origin v) b (origin_meaning v) is refl, tt, tt)
item_of_view (units.RouterKey v) b is = (
  view_means (units.RouterKey v) b (meaning (key_unit (key_at v.unit.now))) is refl,
  tt,
  subst (λ u. length (key_at u).key.info ≤ 65503) (sym is.0) is.1.limits,
)
item_of_view (units.Aspa v) b is = (
  view_means (units.Aspa v) b (meaning (aspa_unit (aspa_at v.unit.now))) is refl,
  subst (λ u. HasFields u (aspa_unit (aspa_at u))) (sym is.0) is.1,
  tt,
)
item_of_view (units.End e) b is = is

-- ---- the first item of a sequence

-- the sequence goes on after a unit with this meaning
abbrev pub StartsWith : Meaning → List ℕ → List Meaning → EndMeaning → Type 0
StartsWith m left ms e =
    (ns : List Meaning) × (b : List ℕ) × (ms ≡ m ∷ ns) × Accepts left b ns e

starts_with : (m : Meaning) (b r left y : List ℕ) (ms : List Meaning) (e : EndMeaning) →
    IsUnit b m → r ≡ b ++ left → Accepts r y ms e → StartsWith m left ms e
starts_with m b r left y [] e unit parts a =
    let q = a.sequence in
    absurd (unit_or_end b q.last left a.rest m e unit q.end
    (sym parts ∙ a.parts ∙ after y q.front q.last a.rest q.parts
    ∙ ap (λ f. f ++ (q.last ++ a.rest)) q.units))
starts_with m b r left y (n ∷ ms) e unit parts a =
    let q = a.sequence in
    let (x, more, at, u, rest) = q.units in
    let t = units_same b x left (more ++ (q.last ++ a.rest)) m n unit u
    (sym parts ∙ a.parts ∙ after y q.front q.last a.rest q.parts
    ∙ after q.front x more (q.last ++ a.rest) at) in (
      ms,
      more ++ q.last,
      ap (λ k. k ∷ ms) (sym t.1),
      record {
        rest = a.rest;
        parts = t.2 ∙ sym (append_assoc more q.last a.rest);
        sequence =
            record { front = more; last = q.last; parts = refl; units = rest; end = q.end };
      },
    )

-- by what it is: the sequence ends with it, or goes on after it
abbrev pub Splits : Item → List ℕ → List Meaning → EndMeaning → Type 0
Splits (items.End d) left ms e = (ms ≡ []) × (e ≡ end_meaning d)
Splits (items.Unit v) left ms e = StartsWith (meant v) left ms e

pub splits : (x : Item) (b r left y : List ℕ) (ms : List Meaning) (e : EndMeaning) → IsItem x b →
    r ≡ b ++ left → Accepts r y ms e → Splits x left ms e
splits (items.End d) b r left y [] e is parts a =
    let q = a.sequence in
    let eq : b ++ left ≡ q.last ++ a.rest =
    sym parts ∙ a.parts ∙ after y q.front q.last a.rest q.parts
    ∙ ap (λ f. f ++ (q.last ++ a.rest)) q.units in
    (refl, sym (end_one b q.last left a.rest (end_meaning d) e is.1 q.end eq).1)
splits (items.End d) b r left y (m ∷ ms) e is parts a =
    let q = a.sequence in
    let (x, more, at, u, rest) = q.units in
    absurd (unit_or_end x b (more ++ (q.last ++ a.rest)) left m (end_meaning d) u is.1
    (sym (after q.front x more (q.last ++ a.rest) at)
    ∙ sym (after y q.front q.last a.rest q.parts) ∙ sym a.parts ∙ parts))
splits (items.Unit v) b r left y ms e is parts a =
    starts_with (meant v) b r left y ms e is.0 parts a

-- a unit before a sequence
pub joins : (m : Meaning) (b r left y : List ℕ) (ms : List Meaning) (e : EndMeaning) → IsUnit b m →
    r ≡ b ++ left → Accepts left y ms e → Accepts r (b ++ y) (m ∷ ms) e
joins m b r left y ms e u parts a =
    let q = a.sequence in
    record {
      rest = a.rest;
      parts = parts ∙ ap (λ l. b ++ l) a.parts ∙ sym (append_assoc b y a.rest);
      sequence = record {
        front = b ++ q.front;
        last = q.last;
        parts = ap (λ l. b ++ l) q.parts ∙ sym (append_assoc b q.front q.last);
        units = (b, q.front, refl, u, q.units);
        end = q.end;
      };
    }

pub only_end : (b r left : List ℕ) (e : EndMeaning) → IsEnd b e → r ≡ b ++ left → Accepts r b [] e
only_end b r left e end parts = record {
  rest = left;
  parts = parts;
  sequence = record { front = []; last = b; parts = refl; units = refl; end = end };
}

-- a sequence begins with no fault
pub no_fault : (l b : List ℕ) (ms : List Meaning) (d : EndMeaning) → Accepts l b ms d →
    first_fault l ≡ None
no_fault l b [] d a =
    let q = a.sequence in
    ap first_fault (a.parts ∙ after b q.front q.last a.rest q.parts
    ∙ ap (λ f. f ++ (q.last ++ a.rest)) q.units)
    ∙ begins_end_none (q.last ++ a.rest) (begins_end q.last a.rest d q.end)
no_fault l b (m ∷ ms) d a =
    let q = a.sequence in
    let (x, more, at, u, rest) = q.units in
    begins_unit_none l
    (record {
      bytes = x;
      means = m;
      rest = more ++ (q.last ++ a.rest);
      unit = u;
      parts =
          a.parts ∙ after b q.front q.last a.rest q.parts
          ∙ after q.front x more (q.last ++ a.rest) at;
    })

-- ---- an item isn't empty

pub no_unit : (m : Meaning) → IsUnit [] m → ⊥
no_unit m u =
    let e = begins_unit_none []
    (record { bytes = []; means = m; rest = []; unit = u; parts = refl }) in
    absurd cc

pub no_end : (e : EndMeaning) → IsEnd [] e → ⊥
no_end e h = let n = begins_end_none [] (begins_end [] [] e h) in absurd cc

not_empty : (x : Item) (b : List ℕ) → IsItem x b → 0 < length b
not_empty (items.Unit v) [] is = absurd (no_unit (meant v) is.0)
not_empty (items.End d) [] is = absurd (no_end (end_meaning d) is.1)
not_empty (items.Unit v) (y ∷ ys) is = omega arith
not_empty (items.End d) (y ∷ ys) is = omega arith

pub shorter : (x : Item) (b r left : List ℕ) → IsItem x b → r ≡ b ++ left → length left < length r
shorter x b r left is parts =
    omega (arith, not_empty x b is, ap length parts, length-append b left)

-- where an item is, there is no fault
pub item_none : (x : Item) (b r left : List ℕ) → IsItem x b → r ≡ b ++ left →
    first_fault r ≡ None
item_none (items.Unit v) b r left is parts =
    begins_unit_none r
    (record { bytes = b; means = meant v; rest = left; unit = is.0; parts = parts })
item_none (items.End d) b r left is parts =
    ap first_fault parts
    ∙ begins_end_none (b ++ left) (begins_end b left (end_meaning d) is.1)

-- what has a fault doesn't begin without one
pub not_refused : (e : ViewFault) (r : List ℕ) → IsFirstFault r e → first_fault r ≡ None → ⊥
not_refused (Writer x) r h n = h
not_refused Short r h n = let s = sym n ∙ h in absurd cc
not_refused (UnitType t) r h n = let s = sym n ∙ h in absurd cc
not_refused UnitLength r h n = let s = sym n ∙ h in absurd cc
not_refused TooLong r h n = let s = sym n ∙ h in absurd cc
not_refused EmptyProviders r h n = let s = sym n ∙ h in absurd cc
not_refused (UnitVersion v) r h n = let s = sym n ∙ h in absurd cc
not_refused (Prefix rule) r h n = let s = sym n ∙ h in absurd cc
not_refused TooMany r h n = h

-- ---- the first unit of data

pub record First (m : Meaning) (left : List ℕ) (ps : List Payload) (e : EndMeaning) : Type 0 where
  pub others : List Payload
  pub first : ps ≡ m.payload ∷ others
  pub action : m.action ≡ Announce
  pub version : m.version ≡ e.version
  pub held : HoldsData left others e
  pub above : AllByRecursion (λ p. name_cmp m.payload p ≡ Less) others

pub first_meant : (m : Meaning) (b r left : List ℕ) (ps : List Payload) (e : EndMeaning) →
    IsUnit b m → r ≡ b ++ left → HoldsData r ps e → First m left ps e
unfolding IsStrictlySortedBy
first_meant m b r left [] e unit parts h =
    let (ns, y, eq, a) = starts_with m b r left h.bytes [] e unit parts h.accepts in absurd cc
first_meant m b r left (p ∷ ps) e unit parts h =
    let (ns, y, eq, a) =
    starts_with m b r left h.bytes (data_units e.version (p ∷ ps)) e unit parts h.accepts in
    let head : unit_of e.version (announcement p) ≡ m = cc in
    let tail : data_units e.version ps ≡ ns = cc in
    let same : p ≡ m.payload = ap (λ (m : Meaning). m.payload) head in
    record {
      others = ps;
      first = ap (λ x. x ∷ ps) same;
      action = sym (ap (λ (m : Meaning). m.action) head);
      version = sym (ap (λ (m : Meaning). m.version) head);
      held = record {
        bytes = y;
        accepts = subst (λ ms. Accepts left y ms e) (sym tail) a;
        in_order = h.in_order.1;
      };
      above =
          subst (λ x. AllByRecursion (λ q. name_cmp x q ≡ Less) ps) same h.in_order.0;
    }

pub first_unit : (v : PayloadView) (b r left : List ℕ) (ps : List Payload) (e : EndMeaning) →
    IsItem (items.Unit v) b → r ≡ b ++ left → HoldsData r ps e → First (meant v) left ps e
first_unit v b r left ps e is parts h = first_meant (meant v) b r left ps e is.0 parts h

-- ---- the form of an announcement

-- a meaning whose action is to announce, in this version
pub announced : (m : Meaning) (v : ℕ) → m.action ≡ Announce → m.version ≡ v →
    m ≡ unit_of v (announcement m.payload)
announced m v action version =
    λ i. record { version = version i; action = action i; payload = m.payload }

pub announced_form : (v : PayloadView) → (meant v).action ≡ Announce →
    form_of (meant v) ≡ form_of (unit_of (meant v).version (announcement (meant v).payload))
announced_form v h = ap form_of (announced (meant v) (meant v).version h refl)

pub announced_in : (w : ℕ) (v : PayloadView) → (meant v).action ≡ Announce →
    form_of (in_version w (meant v)) ≡ form_of (unit_of w (announcement (meant v).payload))
announced_in w v h = ap form_of (announced (in_version w (meant v)) w h refl)
