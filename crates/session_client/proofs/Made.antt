-- What `apply_in_order` wrote, of an answer that stands at the front of the input.
use Rattle.std.proofs.Common.{◌≡◌, ℕ, take, subst, refl}
use Rattle.std.specs.Prelude.{Result, Ok, Err, IfOk}
use Rattle.data_memory.specs.declared.change_error.ChangeError.TheVariants as changes
use Rattle.data_slices.specs.InOrder.{AppliesInOrder, RefusesChange, RefusesInOrder}
use Rattle.data_slices.specs.declared.in_order_fault.InOrderFault.{InOrderFault}
use Rattle.data_slices.specs.declared.in_order_fault.InOrderFault.TheVariants.{Duplicate, NoIndex}
use Rattle.data_slices.specs.declared.in_order_fault.InOrderFault.TheVariants.{Unknown}
use Rattle.session_client.specs.Makings.{Octets, WasMade}

pub was_made : (r : Result ℕ InOrderFault) (base answer base' answer' : Octets) (places : ℕ)
    (before after : Octets) → base ≡ base' → answer ≡ answer' →
    AppliesInOrder r base answer places before after →
    IfOk r (λ n. WasMade (record { base = base'; answer = answer'; new = take n after }))
was_made (Err e) base answer base' answer' places before after b a applies = tt
was_made (Ok n) base answer base' answer' places before after b a applies = record {
  size = n;
  places = places;
  before = before;
  after = after;
  applies = subst (λ x. AppliesInOrder (Ok n) base' x places before after) a
      (subst (λ x. AppliesInOrder (Ok n) x answer places before after) b applies);
  new_is = refl;
}

-- ---- why nothing was written

pub duplicate_at : (f : InOrderFault) (offset : ℕ) (base answer : Octets) (places : ℕ)
    (before after : Octets) → f ≡ Duplicate offset →
    AppliesInOrder (Err f) base answer places before after →
    RefusesChange changes.Duplicate offset base answer places
duplicate_at f offset base answer places before after is applies =
    (subst (λ f. AppliesInOrder (Err f) base answer places before after) is applies).0

pub unknown_at : (f : InOrderFault) (offset : ℕ) (base answer : Octets) (places : ℕ)
    (before after : Octets) → f ≡ Unknown offset →
    AppliesInOrder (Err f) base answer places before after →
    RefusesChange changes.Unknown offset base answer places
unknown_at f offset base answer places before after is applies =
    (subst (λ f. AppliesInOrder (Err f) base answer places before after) is applies).0

pub no_index : (f : InOrderFault) (base answer : Octets) (places : ℕ) (before after : Octets) →
    f ≡ NoIndex → AppliesInOrder (Err f) base answer places before after →
    RefusesInOrder NoIndex base answer places
no_index f base answer places before after is applies =
    (subst (λ f. AppliesInOrder (Err f) base answer places before after) is applies).0
