-- The parts of changes: announcements, withdrawals, and an end of data.
use Rattle.std.proofs.Common.{◌≡◌, ℕ, ◌+◌, ◌-◌, false, List, [], ◌∷◌, ◌++◌, length}
use Rattle.std.proofs.Common.{map, Option, Some, None, refl, sym, ap, subst, ◌∙◌, append_assoc}
use Rattle.std.proofs.Common.{arith}
use Rattle.std.proofs.lemmas.Bool.{true≢false}
use Rattle.std.proofs.lemmas.List.{drop-drop, length-append, map-append}
use Rattle.std.proofs.Math.Seq.{drop-append_seam, take-append_seam}
use Rattle.std.specs.Prelude.{drop, take}
use Rattle.rtr_base.specs.declared.action.Action.TheVariants.{Announce, Withdraw}
use Rattle.rtr_units.specs.End.{EndMeaning, IsEnd}
use Rattle.rtr_payload.specs.Payloads.{Meaning, Payload}
use Rattle.rtr_payload.specs.Units.{IsUnit}
use Rattle.rtr_payload.proofs.Fields.{units_same}
use Rattle.unit_views.specs.Faults.{IsFirstFault}
use Rattle.unit_views.specs.declared.fault.ViewFault.{ViewFault}
use Rattle.rtr_wire.specs.Sequences.{AreUnits}
use Rattle.rtr_wire.proofs.Runs.{after}
use Rattle.data_memory.specs.Data.{Change, IsData, announcement, has_name, withdrawal}
use Rattle.data_memory.specs.Deltas.{unit_of}
use Rattle.data_memory.specs.Sequences.{change_of}
use Rattle.data_slices.specs.Canonical.{change}
use Rattle.data_slices.specs.CanonicalChanges.{AreOrdered, HasChanges, HoldsChanges}
use Rattle.data_slices.specs.Flaws.{AreUnitsOf, IsFlawOfChanges}
use Rattle.data_slices.specs.PrivateChanges.{BeginsAlso, Breaks, FindsAmong, FindsRefused}
use Rattle.data_slices.specs.PrivateChanges.{HoldsParts, HoldsUnits, InVersion, IsRun, NoUnit}
use Rattle.data_slices.specs.PrivateChanges.{NoUnitOf}
use Rattle.data_slices.specs.PrivateChanges.{units_of}
use Rattle.data_slices.specs.declared.fault.Flaw.{Flaw}
use Rattle.data_slices.specs.declared.fault.Reason.TheVariants.{Refused, NotCanonical}
use Rattle.data_slices.specs.declared.refused.Rule.TheVariants.{Apart}
use Rattle.data_slices.proofs.Applying.{IsApart}
use Rattle.data_slices.proofs.FirstFlaws.{Begins, also_unit, at_end, at_fault, at_next_unit}
use Rattle.data_slices.proofs.FirstFlaws.{at_unit}
use Rattle.data_slices.proofs.FirstFlaws.{changes_ended}
use Rattle.data_slices.proofs.Making.{both, named_there}
use Rattle.data_slices.proofs.Merging.{rest_is, rest_of}
use Rattle.data_slices.proofs.Units.{exactly, front_data, units_join}

also_after : (c x l : List ℕ) (ms : List Meaning) → AreUnits c ms → BeginsAlso x l →
    BeginsAlso (c ++ x) (c ++ l)
also_after c x l [] units also m b r u eq =
    subst (λ z. BeginsAlso (z ++ x) (z ++ l)) (sym units) also m b r u eq
also_after c x l (n ∷ ms) (first, more, at, unit, rest) also m b r u eq =
    let t = units_same first b (more ++ x) r n m unit u (sym (after c first more x at) ∙ eq) in
    (more ++ l, after c first more l at ∙ ap (λ z. z ++ (more ++ l)) t.0)

-- ---- units of two actions

-- the units of both, each with its bytes
record Split (b : List ℕ) (v : ℕ) (ps qs : List Payload) : Type 0 where
  front : List ℕ
  back : List ℕ
  parts : b ≡ front ++ back
  announced : AreUnits front (units_of Announce v ps)
  withdrawn : AreUnits back (units_of Withdraw v qs)

split : (b : List ℕ) (v : ℕ) (ps qs : List Payload) →
    AreUnits b (map (unit_of v) (both ps qs)) → Split b v ps qs
split b v [] qs units =
    record { front = []; back = b; parts = refl; announced = refl; withdrawn = units }
split b v (p ∷ ps) qs (first, more, at, unit, rest) =
    let s = split more v ps qs rest in
    record {
      front = first ++ s.front;
      back = s.back;
      parts =
          at ∙ ap (λ l. first ++ l) s.parts ∙ sym (append_assoc first s.front s.back);
      announced = (first, s.front, refl, unit, s.announced);
      withdrawn = s.withdrawn;
    }

pub join : (a b : List ℕ) (v : ℕ) (ps qs : List Payload) → AreUnits a (units_of Announce v ps) →
    AreUnits b (units_of Withdraw v qs) → AreUnits (a ++ b) (map (unit_of v) (both ps qs))
join a b v ps qs h j =
    subst (AreUnits (a ++ b))
    (sym (map-append (unit_of v) (map announcement ps) (map withdrawal qs)))
    (units_join a b (units_of Announce v ps) (units_of Withdraw v qs) h j)

-- no announcement follows
none_announced : (b tail : List ℕ) (v : ℕ) (qs : List Payload) →
    AreUnits b (units_of Withdraw v qs) → NoUnit tail → NoUnitOf Announce (b ++ tail)
none_announced b tail v [] units none m c r u eq is =
    none m c r u (ap (λ l. l ++ tail) (sym units) ∙ eq)
none_announced b tail v (q ∷ qs) (first, more, at, unit, units) none m c r u eq is =
    let t = units_same c first r (more ++ tail) m (unit_of v (withdrawal q)) u unit
    (sym eq ∙ after b first more tail at) in
    let no : Announce ≡ Withdraw = sym is ∙ ap (λ (n : Meaning). n.action) t.1 in
    absurd cc

-- ---- lists of changes, as payloads

announced_same : (ps qs : List Payload) → map (change Announce) ps ≡ map (change Announce) qs →
    ps ≡ qs
announced_same ps qs e = sym (payloads ps) ∙ ap (map (λ (c : Change). c.payload)) e ∙ payloads qs
  where
    payloads : (ps : List Payload) →
        map (λ (c : Change). c.payload) (map (change Announce) ps) ≡ ps
    payloads [] = refl
    payloads (p ∷ ps) = ap (λ l. p ∷ l) (payloads ps)

-- of withdrawals names count alone
same_name : (ps : List Payload) (p q : Payload) → withdrawal p ≡ withdrawal q →
    has_name ps p ≡ has_name ps q
same_name ps p q e =
    sym (named_there p ps) ∙ ap (λ (c : Change). has_name ps c.payload) e ∙ named_there q ps

-- the withdrawal at a place is of no name that is announced
apart_at : (v w : ℕ) (ps qs before : List Payload) (q : Payload) (others : List Meaning) →
    units_of Withdraw v qs ≡ units_of Withdraw w before ++ unit_of w (withdrawal q) ∷ others →
    IsApart ps qs → has_name ps q ≡ false
apart_at v w ps [] [] q others e h = absurd cc
apart_at v w ps [] (p ∷ before) q others e h = absurd cc
apart_at v w ps (x ∷ qs) [] q others e (g, h) =
    let same : unit_of v (withdrawal x) ≡ unit_of w (withdrawal q) = cc in
    sym (same_name ps x q (ap change_of same)) ∙ g
apart_at v w ps (x ∷ qs) (p ∷ before) q others e (g, h) =
    let rest : units_of Withdraw v qs ≡
    units_of Withdraw w before ++ unit_of w (withdrawal q) ∷ others = cc in
    apart_at v w ps qs before q others rest h

-- units at the front of units that no unit follows
prefix_units : (f u x b tail : List ℕ) (ms ns : List Meaning) (m : Meaning) → AreUnits f ms →
    IsUnit u m → AreUnits b ns → NoUnit tail → f ++ (u ++ x) ≡ b ++ tail →
    (others : List Meaning) × (ns ≡ ms ++ m ∷ others)
prefix_units f u x b tail [] [] m h unit j none eq =
    absurd (none m u x unit
    (ap (λ z. z ++ tail) (sym j) ∙ sym eq ∙ ap (λ z. z ++ (u ++ x)) h))
prefix_units f u x b tail [] (n ∷ ns) m h unit (first, more, at, v, j) none eq =
    let t = units_same u first x (more ++ tail) m n unit v
    (ap (λ z. z ++ (u ++ x)) (sym h) ∙ eq ∙ after b first more tail at) in
    (ns, ap (λ z. z ∷ ns) (sym t.1))
prefix_units f u x b tail (k ∷ ms) [] m (first, more, at, v, h) unit j none eq =
    absurd (none k first (more ++ (u ++ x)) v
    (ap (λ z. z ++ tail) (sym j) ∙ sym eq ∙ after f first more (u ++ x) at))
prefix_units f u x b tail (k ∷ ms) (n ∷ ns) m (first, more, at, v, h) unit
    (first', more', at', v', j) none eq =
    let t = units_same first first' (more ++ (u ++ x)) (more' ++ tail) k n v v'
    (sym (after f first more (u ++ x) at) ∙ eq ∙ after b first' more' tail at') in
    let (others, is) = prefix_units more u x more' tail ms ns m h unit j none t.2 in
    (others, λ i. sym t.1 i ∷ is i)

-- ---- two runs

module _ (input : List ℕ) (n : ℕ) (mid : Option ℕ) (a : IsRun Announce None input n mid) where
  left_cut : drop n input ≡ a.left
  left_cut =
      ap (drop n) a.parts ∙ ap (λ (m : ℕ). drop m (a.front ++ a.left)) a.size_is
      ∙ drop-append_seam a.front a.left

  front_cut : take n input ≡ a.front
  front_cut =
      ap (take n) a.parts ∙ ap (λ (m : ℕ). take m (a.front ++ a.left)) a.size_is
      ∙ take-append_seam a.front a.left

  -- a run of what is left
  pub second : (k : ℕ) (late : Option ℕ) → IsRun Withdraw mid (rest_of n input) k late →
      IsRun Withdraw mid a.left k late
  second k late run =
      subst (λ l. IsRun Withdraw mid l k late) (rest_is n input ∙ left_cut) run

module _ (input : List ℕ) (n k : ℕ) (mid late : Option ℕ) (a : IsRun Announce None input n mid)
    (b : IsRun Withdraw mid a.left k late) where
  whole : input ≡ a.front ++ (b.front ++ b.left)
  whole = a.parts ∙ ap (λ l. a.front ++ l) b.parts

  abbrev pub v : ℕ
  v = b.some.0

  announced_units : (w : ℕ) → InVersion late w → AreUnits a.front (units_of Announce w a.ps)
  announced_units w is = a.units w (b.known w is)

  -- changes whose announcements are those of the first run
  record Alike (x : List ℕ) (w : ℕ) (tail : List ℕ) : Type 0 where
    withdrawn : List Payload
    apart : IsApart a.ps withdrawn
    in_order : IsData withdrawn
    bytes : List ℕ
    units : AreUnits bytes (units_of Withdraw w withdrawn)
    parts : x ≡ bytes ++ tail
    in_version : InVersion mid w

  announces : (x : List ℕ) → BeginsAlso x a.left → (w : ℕ) (tail : List ℕ) →
      Begins AreOrdered (a.front ++ x) w tail → Alike x w tail
  announces x also w tail g =
      let o = g.such in
      let s = split g.bytes w o.announced o.withdrawn
      (subst (λ l. AreUnits g.bytes (map (unit_of w) l)) o.parts g.units) in
      let t = a.longest x also w o.announced s.front (s.back ++ tail) tt o.announced_in_order
      s.announced (g.parts ∙ after g.bytes s.front s.back tail s.parts)
      (none_announced s.back tail w o.withdrawn s.withdrawn g.ends) in
      record {
        withdrawn = o.withdrawn;
        apart =
            subst (λ l. IsApart l o.withdrawn) (announced_same o.announced a.ps t.0) o.apart;
        in_order = o.withdrawn_in_order;
        bytes = s.back;
        units = s.withdrawn;
        parts = sym t.1;
        in_version = t.2;
      }

  assoc : (x : List ℕ) → (a.front ++ b.front) ++ x ≡ a.front ++ (b.front ++ x)
  assoc x = append_assoc a.front b.front x

  -- changes that go on as the second run end after it
  so_far : (x : List ℕ) → BeginsAlso x b.left → (w : ℕ) (tail : List ℕ) →
      Begins AreOrdered ((a.front ++ b.front) ++ x) w tail → (tail ≡ x) × InVersion late w
  so_far x also w tail g =
      let l = announces (b.front ++ x)
      (subst (BeginsAlso (b.front ++ x)) (sym b.parts)
      (also_after b.front x b.left (units_of Withdraw v b.ps) (b.units v b.some.1) also)) w tail
      (subst (λ z. Begins AreOrdered z w tail) (assoc x) g) in
      let t = b.longest x also w l.withdrawn l.bytes tail l.in_version l.in_order l.units l.parts
      (λ m c r u eq is. g.ends m c r u eq) in
      (t.1, t.2)

  -- ---- the slices

  mid_cut : take ((n + k) - n) (drop n input) ≡ b.front
  mid_cut =
      let size : (n + k) - n ≡ length b.front = omega (arith, b.size_is) in
      (λ i. take (size i) ((left_cut input n mid a ∙ b.parts) i))
      ∙ take-append_seam b.front b.left

  pub stop_cut : rest_of (n + k) input ≡ b.left
  stop_cut =
      rest_is (n + k) input ∙ sym (drop-drop k n input)
      ∙ ap (drop k) (left_cut input n mid a ∙ b.parts)
      ∙ ap (λ (m : ℕ). drop m (b.front ++ b.left)) b.size_is
      ∙ drop-append_seam b.front b.left

  module _ (result : Option ℕ)
      (f : FindsRefused result Apart (take ((n + k) - n) (drop n input)) (take n input)) where
    among : FindsAmong result Apart v b.ps a.ps b.front
    among =
        subst (λ l. FindsAmong result Apart v b.ps a.ps l) mid_cut
        (f v v b.ps a.ps
        (subst (λ l. HoldsUnits Withdraw v l b.ps) (sym mid_cut)
        (exactly Withdraw v b.front b.ps (b.units v b.some.1) b.in_order))
        (subst (λ l. HoldsUnits Announce v l a.ps) (sym (front_cut input n mid a))
        (exactly Announce v a.front a.ps (announced_units v b.some.1) a.in_order)))

  pub apart_found : (at : ℕ) →
      FindsRefused (Some at) Apart (take ((n + k) - n) (drop n input)) (take n input) →
      Breaks Apart v b.ps a.ps b.front at
  apart_found at f = among (Some at) f

  pub apart_none :
      FindsRefused None Apart (take ((n + k) - n) (drop n input)) (take n input) →
      IsApart a.ps b.ps
  apart_none f = among None f

  -- ---- flaws

  -- after both runs
  module _ (f : Flaw) (size : f.offset ≡ n + k) (apart : IsApart a.ps b.ps) where
    before : AreUnitsOf AreOrdered (a.front ++ b.front)
    before = record {
      version = v;
      changes = both a.ps b.ps;
      units = join a.front b.front v a.ps b.ps (announced_units v b.some.1) (b.units v b.some.1);
      such = record {
        announced = a.ps;
        withdrawn = b.ps;
        parts = refl;
        announced_in_order = a.in_order;
        withdrawn_in_order = b.in_order;
        apart = apart;
      };
    }

    parts : input ≡ (a.front ++ b.front) ++ b.left
    parts = whole ∙ sym (assoc b.left)

    offset_is : f.offset ≡ length (a.front ++ b.front)
    offset_is = omega (arith, size, a.size_is, b.size_is, length-append a.front b.front)

    -- a unit that may not stand there
    pub unit_misplaced : f.reason ≡ NotCanonical → (c rest : List ℕ) → b.left ≡ c ++ rest →
        (m : Meaning) → IsUnit c m → IsFlawOfChanges input f
    unit_misplaced =
        at_next_unit AreOrdered HasChanges changes_ended input (a.front ++ b.front) b.left parts
        before f offset_is late so_far

    -- an end of data of another version
    pub end_misplaced : f.reason ≡ NotCanonical → (c rest : List ℕ) → b.left ≡ c ++ rest →
        (e : EndMeaning) → IsEnd c e → (InVersion late e.version → ⊥) → IsFlawOfChanges input f
    end_misplaced =
        at_end AreOrdered HasChanges changes_ended input (a.front ++ b.front) b.left parts
        before f offset_is late so_far

    -- what is no unit
    pub refused : (fault : ViewFault) → f.reason ≡ Refused fault → IsFirstFault b.left fault →
        IsFlawOfChanges input f
    refused =
        at_fault AreOrdered HasChanges changes_ended input (a.front ++ b.front) b.left parts
        before f offset_is late so_far

  -- a withdrawal of what is announced
  module _ (f : Flaw) (reason : f.reason ≡ NotCanonical) (at : ℕ) (size : f.offset ≡ n + at)
      (w : Breaks Apart v b.ps a.ps b.front at) where
    front_is : a.front ++ (b.front ++ b.left) ≡
        (a.front ++ w.front) ++ (w.unit ++ (w.left ++ b.left))
    front_is =
        ap (λ l. a.front ++ l)
        (ap (λ l. l ++ b.left) w.parts ∙ append_assoc w.front (w.unit ++ w.left) b.left
        ∙ ap (λ l. w.front ++ l) (append_assoc w.unit w.left b.left))
        ∙ sym (append_assoc a.front w.front (w.unit ++ (w.left ++ b.left)))

    left_is : a.left ≡ w.front ++ (w.unit ++ (w.left ++ b.left))
    left_is =
        b.parts ∙ ap (λ l. l ++ b.left) w.parts ∙ append_assoc w.front (w.unit ++ w.left) b.left
        ∙ ap (λ l. w.front ++ l) (append_assoc w.unit w.left b.left)

    no_more : (more : List ℕ) (u : ℕ) (tail : List ℕ) →
        Begins AreOrdered ((a.front ++ w.front) ++ (w.unit ++ more)) u tail → ⊥
    no_more more u tail g =
        let x = w.front ++ (w.unit ++ more) in
        let also : BeginsAlso x a.left =
        subst (BeginsAlso x) (sym left_is)
        (also_after w.front (w.unit ++ more) (w.unit ++ (w.left ++ b.left))
        (units_of Withdraw v w.before) w.units
        (also_unit w.unit more (w.left ++ b.left) (unit_of v (withdrawal w.first)) w.is_unit)) in
        let l = announces x also u tail
        (subst (λ z. Begins AreOrdered z u tail) (append_assoc a.front w.front (w.unit ++ more)) g)
        in
        let (others, is) = prefix_units w.front w.unit more l.bytes tail
        (units_of Withdraw v w.before) (units_of Withdraw u l.withdrawn)
        (unit_of v (withdrawal w.first)) w.units w.is_unit l.units g.ends l.parts in
        true≢false (sym w.against
        ∙ apart_at u v a.ps l.withdrawn w.before w.first others is l.apart)

    before_it : AreUnitsOf AreOrdered (a.front ++ w.front)
    before_it = record {
      version = v;
      changes = both a.ps w.before;
      units = join a.front w.front v a.ps w.before (announced_units v b.some.1) w.units;
      such = record {
        announced = a.ps;
        withdrawn = w.before;
        parts = refl;
        announced_in_order = a.in_order;
        withdrawn_in_order = front_data w.before (w.first ∷ w.others)
            (subst IsData w.all b.in_order);
        apart = w.within;
      };
    }

    pub not_apart : IsFlawOfChanges input f
    not_apart =
        at_unit AreOrdered HasChanges changes_ended input (a.front ++ w.front)
        (w.unit ++ (w.left ++ b.left)) (whole ∙ front_is) before_it f
        (omega (arith, size, a.size_is, w.size, length-append a.front w.front)) reason w.unit
        (w.left ++ b.left) refl (unit_of v (withdrawal w.first)) w.is_unit no_more

  -- ---- changes

  module _ (e : EndMeaning) (last rest : List ℕ) (parts : b.left ≡ last ++ rest)
      (end : IsEnd last e) (same : InVersion late e.version) (apart : IsApart a.ps b.ps) where
    pub holds_parts : HoldsParts input n (n + k) e
    holds_parts = record {
      announcing = a.front;
      withdrawing = b.front;
      last = last;
      rest = rest;
      parts = whole ∙ ap (λ l. a.front ++ (b.front ++ l)) parts;
      middle_is = a.size_is;
      stop_is = ap (λ (m : ℕ). n + m) b.size_is;
      announced = a.ps;
      withdrawn = b.ps;
      announcements = announced_units e.version same;
      withdrawals = b.units e.version same;
      announced_in_order = a.in_order;
      withdrawn_in_order = b.in_order;
      apart = apart;
      end = end;
    }

-- changes of which these are the parts
pub of_parts : (input : List ℕ) (middle stop : ℕ) (e : EndMeaning) →
    (p : HoldsParts input middle stop e) → HoldsChanges input (both p.announced p.withdrawn) e
of_parts input middle stop e p = record {
  bytes = (p.announcing ++ p.withdrawing) ++ p.last;
  accepts = record {
    rest = p.rest;
    parts =
        p.parts ∙ sym (append_assoc p.announcing p.withdrawing (p.last ++ p.rest))
        ∙ sym (append_assoc (p.announcing ++ p.withdrawing) p.last p.rest);
    sequence = record {
      front = p.announcing ++ p.withdrawing;
      last = p.last;
      parts = refl;
      units = join p.announcing p.withdrawing e.version p.announced p.withdrawn p.announcements
          p.withdrawals;
      end = p.end;
    };
  };
  in_order = record {
    announced = p.announced;
    withdrawn = p.withdrawn;
    parts = refl;
    announced_in_order = p.announced_in_order;
    withdrawn_in_order = p.withdrawn_in_order;
    apart = p.apart;
  };
}
