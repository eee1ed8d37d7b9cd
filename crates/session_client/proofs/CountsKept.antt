-- The machine counts the payload units that are held.
use native.Mathlib.Omega.{arith}
use Rattle.std.proofs.Common.{◌≡◌, ℕ, Bool, ◌+◌, ◌-◌, ◌≤◌, List, [], ◌∷◌, ◌++◌, length, map}
use Rattle.std.proofs.Common.{take, drop, refl, sym, ap, subst, ◌∙◌, append_assoc, length-append}
use Rattle.std.proofs.lemmas.List.{append-nil, map-append, take-take}
use Rattle.rtr_payload.specs.Units.{IsUnit}
use Rattle.rtr_wire.specs.Sequences.{AreUnits}
use Rattle.rtr_wire.proofs.Push.{units_push}
use Rattle.data_memory.specs.Data.{Change}
use Rattle.data_memory.specs.Deltas.{unit_of}
use Rattle.data_slices.specs.InOrder.{RefusesInOrder}
use Rattle.data_slices.specs.declared.in_order_fault.InOrderFault.TheVariants.{NoIndex}
use Rattle.data_slices.proofs.Ordering.{one_sequence}
use Rattle.session_router.specs.declared.event.Action.TheVariants as actions
use Rattle.session_router.specs.declared.event.Event.{Event}
use Rattle.session_router.specs.declared.event.Event.TheVariants as events
use Rattle.session_router.specs.declared.head.Head.{Head}
use Rattle.session_router.specs.declared.router.Router.{Router}
use Rattle.session_router.specs.Rules.{Waits, known_of}
use Rattle.session_router.specs.Step.{IsStep}
use Rattle.session_bytes.specs.Heads.{HasHead}
use Rattle.session_bytes.specs.Reading.{KeepsAll, kept_none, kept_more}
use Rattle.session_bytes.proofs.Whole.{end_named, unit_change}
use Rattle.session_client.specs.Counting.{AreCounted, IsKeptCount, IsCountedAnswer}
use Rattle.session_client.specs.Holding.{IsHearing, due_after, due_size}
use Rattle.session_client.specs.declared.client.Holding.{Holding}
use Rattle.session_client.specs.declared.client.Holding.TheVariants as holdings
use Rattle.session_client.proofs.Places.{answer_of, joined, unit_there}

-- ---- units that are kept

one_more : (b u : List ℕ) (v n : ℕ) → AreCounted b v n →
    (c : Change) × IsUnit u (unit_of v c) → AreCounted (b ++ u) v (n + 1)
one_more b u v n x (c, is) = record {
  changes = x.changes ++ c ∷ [];
  are_units = subst (λ ms. AreUnits (b ++ u) ms) (sym (map-append (unit_of v) x.changes (c ∷ [])))
      (units_push b u (map (unit_of v) x.changes) (unit_of v c) x.are_units is);
  count = length-append x.changes (c ∷ []) ∙ ap (λ n. n + 1) x.count;
}

same_count : (b : List ℕ) (r r' : Router) → r'.version ≡ r.version → r'.units ≡ r.units →
    AreCounted b r.version r.units → AreCounted b r'.version r'.units
same_count b r r' version units x =
    subst (λ v. AreCounted b v r'.units) (sym version)
    (subst (λ n. AreCounted b r.version n) (sym units) x)

pub counts_kept : (n : ℕ) (r : Router) (b : List ℕ) (r' : Router) (front : List ℕ) →
    KeepsAll n r b r' → AreCounted front r.version r.units →
    AreCounted (front ++ b) r'.version r'.units
counts_kept n r b r' front (kept_none r₀) x =
    subst (λ l. AreCounted l r.version r.units) (sym (append-nil front)) x
counts_kept n r b r' front (kept_more r₀ b₀ u mid h r₁ before unit step) x =
    let y = counts_kept n r b₀ mid front before x in
    let z = one_more (front ++ b₀) u mid.version mid.units y
    (unit_change u h mid.version unit step.rule.kind step.rule.version) in
    subst (λ l. AreCounted l r'.version r'.units) (append_assoc front b₀ u)
    (subst (λ v. AreCounted ((front ++ b₀) ++ u) v r'.units) (sym step.rule.talk.version)
    (subst (λ n. AreCounted ((front ++ b₀) ++ u) mid.version n) (sym step.rule.units) z))

-- and are behind those that were held
pub counts_more : (now : ℕ) (r r' : Router) (m : Holding) (kept size filled : ℕ)
    (input : List ℕ) → IsHearing m → kept + size ≤ filled →
    KeepsAll now r (take size (drop kept (take filled input))) r' →
    IsKeptCount m r kept input → IsKeptCount m r' (kept + size) input
counts_more now r r' holdings.Nothing kept size filled input hears within all x = tt
counts_more now r r' holdings.Units kept size filled input hears within all x =
    subst (λ l. AreCounted l r'.version r'.units) (joined input kept size filled within)
    (counts_kept now r (take size (drop kept (take filled input))) r' (take kept input) all x)
counts_more now r r' (holdings.Answer n s) kept size filled input hears within all x =
    absurd hears

-- ---- an event at which nothing is done

pub counts_wait : (r r' : Router) (e : Event) (m : Holding) (kept : ℕ) (input : List ℕ) →
    Waits r e r' → IsKeptCount m r kept input → IsKeptCount m r' kept input
counts_wait r r' e holdings.Nothing kept input waits x = tt
counts_wait r r' e holdings.Units kept input waits x =
    same_count (take kept input) r r' waits.talk.version waits.response.units x
counts_wait r r' e (holdings.Answer n s) kept input waits x =
    subst (λ k. IsCountedAnswer (take (kept + n) input) k) (sym waits.response.units) x

-- a unit is taken out behind what is held
pub counts_there : (r : Router) (m : Holding) (kept : ℕ) (input input' : List ℕ) → IsHearing m →
    take kept input' ≡ take kept input → IsKeptCount m r kept input → IsKeptCount m r kept input'
counts_there r holdings.Nothing kept input input' hears same x = tt
counts_there r holdings.Units kept input input' hears same x =
    subst (λ l. AreCounted l r.version r.units) (sym same) x
counts_there r (holdings.Answer n s) kept input input' hears same x = absurd hears

-- ---- a response begins, and is whole

pub counts_begin : (r : Router) (input : List ℕ) → r.units ≡ 0 →
    IsKeptCount holdings.Units r 0 input
counts_begin r input none = record { changes = []; are_units = refl; count = sym none }

counts_whole : (r r' : Router) (now : ℕ) (u : Head) (since : Bool) (units unit : List ℕ) →
    HasHead unit u → IsStep r now (events.Came u) (actions.Apply since) r' →
    AreCounted units r.version r.units → IsCountedAnswer (units ++ unit) r'.units
counts_whole r r' now u since units unit has step x =
    let ends = end_named unit u (known_of u) has step.rule.kind refl in
    let version : r.version ≡ ends.end.version = sym step.rule.version ∙ ends.version in
    record {
      changes = x.changes;
      end = ends.end;
      sends = record {
        bytes = units ++ unit;
        accepts = record {
          rest = [];
          parts = sym (append-nil (units ++ unit));
          sequence = record {
            front = units;
            last = unit;
            parts = refl;
            units = subst (λ v. AreUnits units (map (unit_of v) x.changes)) version x.are_units;
            end = ends.is;
          };
        };
      };
      count = x.count ∙ sym (ap (λ (r : Router). r.units) step.becomes);
    }

pub counts_apply : (r r' : Router) (now : ℕ) (u : Head) (since : Bool) (m : Holding)
    (kept start end filled : ℕ) (input : List ℕ) → IsHearing m → start ≤ end →
    kept + end ≤ filled → HasHead (drop start (take end (drop kept (take filled input)))) u →
    IsStep r now (events.Came u) (actions.Apply since) r' →
    IsKeptCount m r (kept + start) input →
    (kept' : ℕ) → (m ≡ holdings.Units → kept' ≡ kept + start) →
    IsKeptCount (due_after m (end - start) since) r' kept' input
counts_apply r r' now u since holdings.Nothing kept start end filled input hears order within has
    step x kept' is =
    tt
counts_apply r r' now u since holdings.Units kept start end filled input hears order within has
    step x kept' is =
    let unit = drop start (take end (drop kept (take filled input))) in
    let there = unit_there input kept start end filled order within in
    subst (λ k. IsCountedAnswer (take (k + (end - start)) input) r'.units) (sym (is refl))
    (subst (λ l. IsCountedAnswer l r'.units)
    (ap (λ b. take (kept + start) input ++ b) there
    ∙ sym (answer_of input (take (kept + start) input) (kept + start) (end - start) refl))
    (counts_whole r r' now u since (take (kept + start) input) unit has step x))
counts_apply r r' now u since (holdings.Answer n s) kept start end filled input hears order within
    has step x kept' is =
    absurd hears

-- ---- what stands behind what is held doesn't matter

fronts : (a b : List ℕ) (n m : ℕ) → n ≤ m → take m a ≡ take m b → take n a ≡ take n b
fronts a b n m order same =
    sym (take-take n m a order) ∙ ap (take n) same ∙ take-take n m b order

pub counts_still : (r : Router) (m : Holding) (kept filled : ℕ) (input input' : List ℕ) →
    kept + due_size m ≤ filled → take filled input ≡ take filled input' →
    IsKeptCount m r kept input → IsKeptCount m r kept input'
counts_still r holdings.Nothing kept filled input input' within same x = tt
counts_still r holdings.Units kept filled input input' within same x =
    let here : kept ≤ filled = omega (arith, within) in
    subst (λ l. AreCounted l r.version r.units) (fronts input input' kept filled here same) x
counts_still r (holdings.Answer n s) kept filled input input' within same x =
    subst (λ l. IsCountedAnswer l r.units) (fronts input input' (kept + n) filled within same) x

-- ---- an index with a place for each unit

pub index_enough : (base answer : List ℕ) (units places : ℕ) → IsCountedAnswer answer units →
    units ≤ places → RefusesInOrder NoIndex base answer places → ⊥
index_enough base answer units places x room (d, e, cs, e', h, s, (v, t, less)) =
    let one = one_sequence answer cs x.changes e' x.end s x.sends in
    let same : length cs ≡ units = ap length one.0 ∙ x.count in
    omega (arith, same, room, less)
