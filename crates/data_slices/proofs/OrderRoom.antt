-- What changes come to is never longer than the input that makes them.
use Rattle.std.proofs.Common.{◌≡◌, ◌≢◌, ℕ, zero, suc, ◌+◌, ◌≤◌, Bool, true, false, not, cond}
use Rattle.std.proofs.Common.{List, [], ◌∷◌, length, filter, map, sum_by, Result, Ok, Err}
use Rattle.std.proofs.Common.{refl, sym, ap, ◌∙◌, arith, length-append, subst}
use Rattle.std.proofs.lemmas.List.Filters.{length-filter_both, sum_by-filter_both}
use Rattle.std.proofs.lemmas.List.Sums.{sum_by-cons}
use Rattle.std.specs.Ordering.{is_eq}
use Rattle.rtr_units.specs.End.{EndMeaning, end_list}
use Rattle.rtr_payload.specs.Payloads.{Payload}
use Rattle.rtr_payload.specs.Units.{form_of}
use Rattle.data_memory.specs.Data.{Change, name_cmp}
use Rattle.data_memory.specs.Deltas.{change_forms, unit_of}
use Rattle.data_memory.proofs.Merge.{laws}
use Rattle.data_slices.specs.Net.{Nets, last_of, net, of_name, settles}
use Rattle.data_slices.specs.Order.{Orders, Sends}
use Rattle.data_slices.specs.declared.order_fault.OrderFault.{OrderFault}
use Rattle.data_slices.specs.declared.order_fault.OrderFault.TheVariants as faults
use Rattle.data_slices.proofs.DeltaRoom.{units_fit}
use Rattle.data_slices.proofs.Walking.{own_name}

-- ---- changes of one name, and those of other names

abbrev has_name_of : Payload → Change → Bool
has_name_of q c = is_eq (name_cmp q c.payload)

abbrev others : Payload → List Change → List Change
others q cs = filter (λ c. not (has_name_of q c)) cs

none_at : (p q : Payload) (c : Change) (cs : List Change) (b : Bool) → has_name_of q c ≡ b →
    is_eq (name_cmp p q) ≡ true → of_name p cs ≡ [] → of_name p (cond (not b) (c ∷ cs) cs) ≡ []
none_at p q c cs true e n h = h
none_at p q c cs false e n h =
    ap (λ x. cond x (c ∷ of_name p cs) (of_name p cs)) (laws.congr p q c.payload n ∙ e) ∙ h

-- of the name itself no others are
none_left : (p q : Payload) (cs : List Change) → is_eq (name_cmp p q) ≡ true →
    of_name p (others q cs) ≡ []
none_left p q [] n = refl
none_left p q (c ∷ cs) n =
    none_at p q c (others q cs) (has_name_of q c) refl n (none_left p q cs n)

all_at : (p q : Payload) (c : Change) (cs ds : List Change) (b : Bool) → has_name_of q c ≡ b →
    is_eq (name_cmp p q) ≡ false → of_name p ds ≡ of_name p cs →
    of_name p (cond (not b) (c ∷ ds) ds) ≡ of_name p (c ∷ cs)
all_at p q c cs ds true e n h =
    let other : is_eq (name_cmp p c.payload) ≡ false =
    laws.symm p c.payload
    ∙ sym (laws.congr q c.payload p e) ∙ sym (laws.symm p q) ∙ n in
    h ∙ sym (ap (λ x. cond x (c ∷ of_name p cs) (of_name p cs)) other)
all_at p q c cs ds false e n h = ap (λ l. cond (is_eq (name_cmp p c.payload)) (c ∷ l) l) h

-- of another name they are all
all_left : (p q : Payload) (cs : List Change) → is_eq (name_cmp p q) ≡ false →
    of_name p (others q cs) ≡ of_name p cs
all_left p q [] n = refl
all_left p q (c ∷ cs) n =
    all_at p q c cs (others q cs) (has_name_of q c) refl n (all_left p q cs n)

own_first : (n : Change) (ns : List Change) →
    of_name n.payload (n ∷ ns) ≡ n ∷ of_name n.payload ns
own_first n ns =
    ap (λ b. cond b (n ∷ of_name n.payload ns) (of_name n.payload ns)) (own_name n.payload)

fewer_others : (n : Change) (ns : List Change) → length (others n.payload (n ∷ ns)) ≤ length ns
fewer_others n ns =
    let both : length (of_name n.payload (n ∷ ns)) + length (others n.payload (n ∷ ns)) ≡
    length (n ∷ ns) =
    length-filter_both (has_name_of n.payload) (λ c. not (has_name_of n.payload c)) (λ c. refl)
    (n ∷ ns) in
    by_sizes (length (of_name n.payload (n ∷ ns))) (length (others n.payload (n ∷ ns)))
    (length (of_name n.payload ns)) (length ns) (ap length (own_first n ns)) both
  where
    by_sizes : (own left more all : ℕ) → own ≡ suc more → own + left ≡ suc all → left ≤ all
    by_sizes own left more all e h = omega (arith, e, h)

-- ---- a sum by names

joined : (own left m more rest n : ℕ) → own + left ≡ m → more + rest ≡ n → own ≤ more →
    left ≤ rest → m ≤ n
joined own left m more rest n g h few fewer = omega (arith, g, h, few, fewer)

module _ (size : Change → ℕ) where
  -- of each name there is no more of these than of those
  abbrev Few : (ns cs : List Change) → Type 0
  Few ns cs = (p : Payload) → sum_by size (of_name p ns) ≤ sum_by size (of_name p cs)

  split : (q : Payload) (cs : List Change) →
      sum_by size (of_name q cs) + sum_by size (others q cs) ≡ sum_by size cs
  split q cs =
      sum_by-filter_both (has_name_of q) (λ c. not (has_name_of q c)) (λ c. refl) size cs

  few_at : (p q : Payload) (ns cs : List Change) → Few ns cs → (b : Bool) →
      is_eq (name_cmp p q) ≡ b →
      sum_by size (of_name p (others q ns)) ≤ sum_by size (of_name p (others q cs))
  few_at p q ns cs few true e =
      omega (arith, ap (sum_by size) (none_left p q ns e))
  few_at p q ns cs few false e =
      omega (
        arith,
        few p,
        ap (sum_by size) (all_left p q ns e),
        ap (sum_by size) (all_left p q cs e),
      )

  few_others : (q : Payload) (ns cs : List Change) → Few ns cs → Few (others q ns) (others q cs)
  few_others q ns cs few p = few_at p q ns cs few (is_eq (name_cmp p q)) refl

  -- then there is no more of all of them
  in_all : (most : ℕ) (ns cs : List Change) → length ns ≤ most → Few ns cs →
      sum_by size ns ≤ sum_by size cs
  in_all most [] cs short few = omega arith
  in_all zero (n ∷ ns) cs short few = absurd (omega (arith, short))
  in_all (suc most) (n ∷ ns) cs short few =
      let q = n.payload in
      joined _ _ _ _ _ _ (split q (n ∷ ns)) (split q cs) (few q)
      (in_all most (others q (n ∷ ns)) (others q cs)
      (omega (arith, short, fewer_others n ns)) (few_others q (n ∷ ns) cs few))

  -- ---- what changes of one name come to

  last_in_all : (c : Change) (cs : List Change) → size (last_of c cs) ≤ sum_by size (c ∷ cs)
  last_in_all c [] = omega (arith, sum_by-cons size c [])
  last_in_all c (d ∷ ds) = omega (arith, last_in_all d ds, sum_by-cons size c (d ∷ ds))

  last_or_none : (c : Change) (cs : List Change) (b : Bool) →
      sum_by size (cond b (last_of c cs ∷ []) []) ≤ sum_by size (c ∷ cs)
  last_or_none c cs true =
      omega (arith, last_in_all c cs, sum_by-cons size (last_of c cs) [])
  last_or_none c cs false = omega arith

  net_in_all : (cs : List Change) → sum_by size (net cs) ≤ sum_by size cs
  net_in_all [] = omega arith
  net_in_all (c ∷ cs) =
      last_or_none c cs (settles c.action (last_of c cs).action (last_of c cs).payload)

  nets_in_all : (cs ns : List Change) → Nets cs ns → sum_by size ns ≤ sum_by size cs
  nets_in_all cs ns nets =
      in_all (length ns) ns cs (omega arith)
      (λ p. subst (λ l. sum_by size l ≤ sum_by size (of_name p cs)) (sym (nets.of_each p))
      (net_in_all (of_name p cs)))

-- ---- in bytes

abbrev form_size : ℕ → Change → ℕ
form_size v c = length (form_of (unit_of v c))

in_bytes : (v : ℕ) (cs : List Change) → length (change_forms v cs) ≡ sum_by (form_size v) cs
in_bytes v [] = refl
in_bytes v (c ∷ cs) =
    length-append (form_of (unit_of v c)) (change_forms v cs)
    ∙ ap (λ n. form_size v c + n) (in_bytes v cs) ∙ sym (sum_by-cons (form_size v) c cs)

nets_fit : (v : ℕ) (cs ns : List Change) → Nets cs ns →
    length (change_forms v ns) ≤ length (change_forms v cs)
nets_fit v cs ns nets =
    omega (arith, in_bytes v cs, in_bytes v ns, nets_in_all (form_size v) cs ns nets)

pub sent_fits : (input : List ℕ) (cs : List Change) (e : EndMeaning) → Sends input cs e →
    length (change_forms e.version cs) + length (end_list e) ≤ length input
sent_fits input cs e h =
    let s = h.accepts.sequence in
    omega (
      arith,
      units_fit s.front (map (unit_of e.version) cs) s.units,
      ap length s.end.bytes,
      ap length s.parts,
      length-append s.front s.last,
      ap length h.accepts.parts,
      length-append h.bytes h.accepts.rest,
    )

-- ---- there is room for it

pub room_to_order : (r : Result ℕ OrderFault) (input : List ℕ) (places : ℕ)
    (before after : List ℕ) → Orders r input places before after →
    length input ≤ length before → r ≢ Err faults.NoRoom
room_to_order (Ok n) input places before after w enough e = absurd cc
room_to_order (Err faults.NoRoom) input places before after w enough is =
    absurd (
    omega (
      arith,
      sent_fits input w.cs w.e w.sends,
      nets_fit w.e.version w.cs w.ns w.nets,
      length-append (change_forms w.e.version w.ns) (end_list w.e),
      w.written_form.0,
      enough,
    )
    )
room_to_order (Err (faults.Flaw f)) input places before after w enough e = absurd cc
room_to_order (Err faults.NoIndex) input places before after w enough e = absurd cc
room_to_order (Err (faults.Duplicate o)) input places before after w enough e = absurd cc
room_to_order (Err (faults.Unknown o)) input places before after w enough e = absurd cc
room_to_order (Err (faults.Undecided o)) input places before after w enough e = absurd cc
