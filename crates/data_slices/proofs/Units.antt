-- Units that announce or withdraw, at the front of a slice.
use Rattle.std.proofs.Common.{◌≡◌, ℕ, List, [], ◌∷◌, ◌++◌, refl, sym, ap, subst, ◌∙◌}
use Rattle.std.proofs.Common.{append-nil, append_assoc, arith, length, true}
use Rattle.std.proofs.lemmas.Bool.Decides.{nat_tests}
use Rattle.std.specs.Bool.{◌==◌}
use Rattle.std.specs.List.{AllByRecursion}
use Rattle.std.specs.List.Sorted.{IsStrictlySortedBy}
use Rattle.std.specs.declared.cmp.Ordering.TheVariants.{Less}
use Rattle.std.specs.Ordering.{ordering_reverse}
use Rattle.rtr_base.specs.Actions.{act}
use Rattle.rtr_base.specs.declared.action.Action.{Action}
use Rattle.rtr_base.specs.declared.action.Action.TheVariants.{Announce, Withdraw}
use Rattle.rtr_units.specs.End.{EndMeaning, IsEnd}
use Rattle.rtr_payload.specs.AspaUnits.{meant_aspa}
use Rattle.rtr_payload.specs.Payloads.{Meaning, Payload, origin, key, aspa}
use Rattle.rtr_payload.specs.UnitFields.{Fields, aspa_unit, key_unit, meaning, prefix_unit}
use Rattle.rtr_payload.specs.UnitFields.{stripped}
use Rattle.rtr_payload.specs.Units.{IsUnit}
use Rattle.rtr_payload.proofs.ByFields.{unit_fields_of}
use Rattle.rtr_payload.proofs.Apart.{unit_or_end}
use Rattle.rtr_payload.proofs.Fields.{units_same}
use Rattle.rtr_payload.proofs.Rests.{begins_unit_none}
use Rattle.unit_views.specs.Faults.{IsFirstFault}
use Rattle.unit_views.specs.declared.fault.ViewFault.{ViewFault}
use Rattle.rtr_wire.specs.Sequences.{AreUnits}
use Rattle.rtr_wire.proofs.Push.{units_push}
use Rattle.rtr_wire.proofs.Runs.{after}
use Rattle.data_memory.specs.Data.{IsData, name_cmp}
use Rattle.data_memory.specs.Deltas.{unit_of}
use Rattle.data_memory.proofs.Names.{name_alike, name_total}
use Rattle.data_slices.specs.Canonical.{HoldsData, change}
use Rattle.data_slices.specs.Items.{meant}
use Rattle.data_slices.specs.PrivateChanges.{HoldsUnits, IsNext, NoUnit, units_of}
use Rattle.data_slices.specs.declared.item.PayloadView.{PayloadView}
use Rattle.data_slices.proofs.Sequences.{no_unit, not_refused}

-- ---- where no unit begins

pub none_at_end : (b left : List ℕ) (e : EndMeaning) → IsEnd b e → NoUnit (b ++ left)
none_at_end b left e end m x r u eq = unit_or_end x b r left m e u end (sym eq)

pub none_at_fault : (e : ViewFault) (r : List ℕ) → IsFirstFault r e → NoUnit r
none_at_fault e r fault m b s u eq =
    not_refused e r fault
    (begins_unit_none r (record { bytes = b; means = m; rest = s; unit = u; parts = eq }))

pub none_at_nothing : NoUnit []
none_at_nothing m [] r u eq = no_unit m u
none_at_nothing m (x ∷ b) r u eq = absurd cc

-- ---- the units of a slice

pub exactly : (a : Action) (v : ℕ) (b : List ℕ) (ps : List Payload) →
    AreUnits b (units_of a v ps) → IsData ps → HoldsUnits a v b ps
exactly a v b ps units s = record {
  bytes = b;
  rest = [];
  parts = sym (append-nil b);
  units = units;
  in_order = s;
  ends = none_at_nothing;
}

pub of_data : (input : List ℕ) (d : List Payload) (e : EndMeaning) → HoldsData input d e →
    HoldsUnits Announce e.version input d
of_data input d e h =
    let a = h.accepts in
    let q = a.sequence in
    record {
      bytes = q.front;
      rest = q.last ++ a.rest;
      parts = a.parts ∙ after h.bytes q.front q.last a.rest q.parts;
      units = q.units;
      in_order = h.in_order;
      ends = none_at_end q.last a.rest e q.end;
    }

-- the first of them
pub record Head (a : Action) (v : ℕ) (view : PayloadView) (left : List ℕ) (ps : List Payload) :
    Type 0 where
  pub first : Payload
  pub others : List Payload
  pub all : ps ≡ first ∷ others
  pub means : meant view ≡ unit_of v (change a first)
  pub held : HoldsUnits a v left others
  pub below : AllByRecursion (λ q. name_cmp first q ≡ Less) others

pub head : (a : Action) (v : ℕ) (view : PayloadView) (left input : List ℕ) (ps : List Payload) →
    IsNext view left input → HoldsUnits a v input ps → Head a v view left ps
unfolding IsStrictlySortedBy
head a v view left input [] (b, is, parts) h =
    absurd (h.ends (meant view) b left is.0
    (sym (h.parts ∙ ap (λ l. l ++ h.rest) h.units) ∙ parts))
head a v view left input (p ∷ ps) (b, is, parts) h =
    let (x, more, at, u, rest) = h.units in
    let t = units_same b x left (more ++ h.rest) (meant view) (unit_of v (change a p)) is.0 u
    (sym parts ∙ h.parts ∙ after h.bytes x more h.rest at) in
    record {
      first = p;
      others = ps;
      all = refl;
      means = t.1;
      held = record {
        bytes = more;
        rest = h.rest;
        parts = t.2;
        units = rest;
        in_order = h.in_order.1;
        ends = h.ends;
      };
      below = h.in_order.0;
    }

pub nothing : (a : Action) (v : ℕ) (input : List ℕ) (ps : List Payload) → NoUnit input →
    HoldsUnits a v input ps → ps ≡ []
nothing a v input [] none h = refl
nothing a v input (p ∷ ps) none h =
    let (x, more, at, u, rest) = h.units in
    absurd (none (unit_of v (change a p)) x (more ++ h.rest) u
    (h.parts ∙ after h.bytes x more h.rest at))

pub nothing_left : (l : List ℕ) → true ≡ (length l == 0) → l ≡ []
nothing_left [] e = refl
nothing_left (x ∷ l) e = absurd (grind (arith, nat_tests))

-- the unit that is all of a front
pub next_whole : (view : PayloadView) (after unit left input : List ℕ) → IsNext view after unit →
    after ≡ [] → input ≡ unit ++ left → IsNext view left input
next_whole view after unit left input (b, is, parts) none whole = (
  b,
  is,
  whole ∙ ap (λ l. l ++ left) (parts ∙ ap (λ l. b ++ l) none ∙ append-nil b),
)

-- ---- names of changes

-- the payload of a change is of the name
pub left_name : (a : Action) (p q : Payload) →
    name_cmp (change a p).payload q ≡ name_cmp p q
left_name Announce p q = refl
left_name Withdraw p q = name_alike p q

pub right_name : (a : Action) (p q : Payload) →
    name_cmp q (change a p).payload ≡ name_cmp q p
right_name a p q =
    name_total.antisymm q (change a p).payload ∙ ap ordering_reverse (left_name a p q)
    ∙ sym (name_total.antisymm q p)

pub action_is : (a : Action) (p : Payload) → (change a p).action ≡ a
action_is Announce p = refl
action_is Withdraw p = refl

of_payload : (a : Action) (p : Payload) → stripped a p ≡ p →
    change a p ≡ record { action = a; payload = p }
of_payload Announce p e = refl
of_payload Withdraw (origin o) e = refl
of_payload Withdraw (key k) e = refl
of_payload Withdraw (aspa x) e = ap (λ q. record { action = Withdraw; payload = q }) e

stripped_twice : (u : Fields) → stripped (meaning u).action (meaning u).payload
    ≡ (meaning u).payload
stripped_twice (prefix_unit u) = refl
stripped_twice (key_unit u) = refl
stripped_twice (aspa_unit u) = by_action (act u.flags)
  where
    by_action : (a : Action) → stripped a (aspa (meant_aspa a u.aspa)) ≡ aspa (meant_aspa a u.aspa)
    by_action Announce = refl
    by_action Withdraw = refl

-- a unit makes the change of its payload
pub its_change : (b : List ℕ) (m : Meaning) → IsUnit b m →
    m ≡ unit_of m.version (change m.action m.payload)
its_change b m u =
    let h = unit_fields_of b m u in
    let plain = subst (λ (n : Meaning). stripped n.action n.payload ≡ n.payload) (sym h.means)
    (stripped_twice h.fields) in
    ap (unit_of m.version) (sym (of_payload m.action m.payload plain))

-- ---- one more unit

pub units_append : (a : Action) (v : ℕ) (ps qs : List Payload) →
    units_of a v (ps ++ qs) ≡ units_of a v ps ++ units_of a v qs
units_append a v [] qs = refl
units_append a v (p ∷ ps) qs = ap (λ l. unit_of v (change a p) ∷ l) (units_append a v ps qs)

pub one_more : (a : Action) (v : ℕ) (front b : List ℕ) (ps : List Payload) (p : Payload)
    (m : Meaning) → AreUnits front (units_of a v ps) → IsUnit b m → m ≡ unit_of v (change a p) →
    AreUnits (front ++ b) (units_of a v (ps ++ p ∷ []))
one_more a v front b ps p m units u is =
    subst (AreUnits (front ++ b)) (sym (units_append a v ps (p ∷ [])))
    (units_push front b (units_of a v ps) (unit_of v (change a p)) units (subst (IsUnit b) is u))

pub units_join : (a b : List ℕ) (ms ns : List Meaning) → AreUnits a ms → AreUnits b ns →
    AreUnits (a ++ b) (ms ++ ns)
units_join a b [] ns h j = subst (λ (x : List ℕ). AreUnits (x ++ b) ns) (sym h) j
units_join a b (m ∷ ms) ns h j = (
  h.0,
  h.1 ++ b,
  ap (λ (x : List ℕ). x ++ b) h.2 ∙ append_assoc h.0 h.1 b,
  h.3,
  units_join h.1 b ms ns h.4 j,
)

-- ---- parts of a list in order

pub front_below : (p : Payload) (ps qs : List Payload) →
    AllByRecursion (λ q. name_cmp p q ≡ Less) (ps ++ qs) →
    AllByRecursion (λ q. name_cmp p q ≡ Less) ps
front_below p [] qs h = tt
front_below p (x ∷ ps) qs (g, h) = (g, front_below p ps qs h)

pub front_data : (ps qs : List Payload) → IsData (ps ++ qs) → IsData ps
unfolding IsStrictlySortedBy
front_data [] qs s = tt
front_data (p ∷ ps) qs (h, s) = (front_below p ps qs h, front_data ps qs s)
