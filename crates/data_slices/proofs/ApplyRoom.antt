-- What changes make of data is never longer than the data and the changes.
use Rattle.std.proofs.Common.{◌≡◌, ◌≢◌, ℕ, ◌+◌, ◌≤◌, Bool, true, false, not, ◌&&◌, cond}
use Rattle.std.proofs.Common.{List, [], ◌∷◌, length, map, Result, Ok, Err}
use Rattle.std.proofs.Common.{ap, arith, length-append, subst}
use Rattle.std.specs.BTreeMap.{is_at}
use Rattle.std.specs.BTreeSet.{replace_key}
use Rattle.std.specs.Ordering.{match_ordering}
use Rattle.std.specs.Set.{remove_key}
use Rattle.std.specs.declared.cmp.Ordering.{Ordering}
use Rattle.std.specs.declared.cmp.Ordering.TheVariants.{Less, Equal, Greater}
use Rattle.rtr_base.specs.declared.action.Action.{Action}
use Rattle.rtr_base.specs.declared.action.Action.TheVariants.{Announce, Withdraw}
use Rattle.rtr_units.specs.End.{EndMeaning, end_list}
use Rattle.rtr_payload.specs.Payloads.{Payload}
use Rattle.rtr_payload.specs.Units.{form_of}
use Rattle.data_memory.specs.Changes.{after_all}
use Rattle.data_memory.specs.Data.{Change, after, announcement, has_name, name_cmp, takes_place}
use Rattle.data_memory.specs.Deltas.{change_forms, unit_of}
use Rattle.data_memory.specs.declared.change_error.ChangeError.{ChangeError}
use Rattle.data_memory.specs.declared.change_error.ChangeError.TheVariants.{Duplicate, Unknown}
use Rattle.data_slices.specs.Apply.{AppliesChanges, data_form}
use Rattle.data_slices.specs.Canonical.{HoldsData}
use Rattle.data_slices.specs.Order.{Sends}
use Rattle.data_slices.specs.declared.fault.ApplyFault.{ApplyFault}
use Rattle.data_slices.specs.declared.fault.ApplyFault.TheVariants as faults
use Rattle.data_slices.proofs.DeltaRoom.{announced_size, data_fits}
use Rattle.data_slices.proofs.OrderRoom.{sent_fits}

module _ (v : ℕ) where
  abbrev one : Payload → ℕ
  one p = length (form_of (unit_of v (announcement p)))

  -- one payload and others
  both : (p : Payload) (ps : List Payload) → announced_size v (p ∷ ps) ≡ one p + announced_size v ps
  both p ps =
      length-append (form_of (unit_of v (announcement p))) (change_forms v (map announcement ps))

  -- ---- one change

  placed : (p x : Payload) (xs others : List Payload) →
      announced_size v others ≤ announced_size v xs + one p → (o : Ordering) →
      announced_size v (match_ordering o (p ∷ x ∷ xs) (p ∷ xs) (x ∷ others)) ≤
      announced_size v (x ∷ xs) + one p
  placed p x xs others few Less = omega (arith, both p (x ∷ xs), both x xs)
  placed p x xs others few Equal = omega (arith, both p xs, both x xs)
  placed p x xs others few Greater = omega (arith, few, both x others, both x xs)

  replaced : (ps : List Payload) (p : Payload) →
      announced_size v (replace_key name_cmp ps p) ≤ announced_size v ps + one p
  replaced [] p = omega (arith, both p [])
  replaced (x ∷ xs) p =
      placed p x xs (replace_key name_cmp xs p) (replaced xs p) (name_cmp p x)

  dropped : (x : Payload) (xs others : List Payload) →
      announced_size v others ≤ announced_size v xs → (b : Bool) →
      announced_size v (cond b xs (x ∷ others)) ≤ announced_size v (x ∷ xs)
  dropped x xs others few true = omega (arith, both x xs)
  dropped x xs others few false = omega (arith, few, both x others, both x xs)

  removed : (test : Payload → Bool) (ps : List Payload) →
      announced_size v (remove_key test ps) ≤ announced_size v ps
  removed test [] = omega arith
  removed test (x ∷ xs) = dropped x xs (remove_key test xs) (removed test xs) (test x)

  -- what a result holds, if anything, has no more bytes than this
  abbrev pub Within : Result (List Payload) ChangeError → ℕ → Type 0
  Within (Ok ps) n = announced_size v ps ≤ n
  Within (Err e) n = Unit {0}

  unless : (b : Bool) (e : ChangeError) (ps : List Payload) (n : ℕ) → announced_size v ps ≤ n →
      Within (cond b (Err e) (Ok ps)) n
  unless true e ps n few = tt
  unless false e ps n few = few

  if_there : (b : Bool) (e : ChangeError) (ps : List Payload) (n : ℕ) →
      announced_size v ps ≤ n → Within (cond b (Ok ps) (Err e)) n
  if_there true e ps n few = few
  if_there false e ps n few = tt

  one_made : (a : Action) (p : Payload) (ps : List Payload) →
      Within (after (record { action = a; payload = p }) ps)
      (announced_size v ps
      + length (form_of (unit_of v (record { action = a; payload = p }))))
  one_made Announce p ps =
      unless (has_name ps p && not (takes_place p)) Duplicate (replace_key name_cmp ps p) _
      (replaced ps p)
  one_made Withdraw p ps =
      if_there (has_name ps p) Unknown (remove_key (is_at (name_cmp p)) ps) _
      (omega (arith, removed (is_at (name_cmp p)) ps))

  -- ---- all changes

  pub all_made : (cs : List Change) (r : Result (List Payload) ChangeError) (n : ℕ) → Within r n →
      Within (after_all cs r) (n + length (change_forms v cs))
  all_made [] (Ok ps) n few = omega (arith, few)
  all_made [] (Err e) n few = tt
  all_made (c ∷ cs) (Err e) n few = tt
  all_made (c ∷ cs) (Ok ps) n few =
      let first = form_of (unit_of v c) in
      let next = all_made cs (after c ps) (announced_size v ps + length first)
      (one_made c.action c.payload ps) in
      wider (after_all cs (after c ps)) _ _
      (omega (arith, few, length-append first (change_forms v cs))) next
    where
      wider : (r : Result (List Payload) ChangeError) (m k : ℕ) → m ≤ k → Within r m → Within r k
      wider (Ok qs) m k less few = omega (arith, less, few)
      wider (Err e) m k less few = tt

-- ---- data and changes

pub made_fits : (base changes : List ℕ) (d d' : List Payload) (cs : List Change)
    (e e' : EndMeaning) →
    HoldsData base d e → Sends changes cs e' → e.version ≡ e'.version →
    after_all cs (Ok d) ≡ Ok d' → length (data_form d' e') ≤ length base + length changes
made_fits base changes d d' cs e e' h j same made =
    let v = e'.version in
    let few : announced_size v d' ≤ announced_size v d + length (change_forms v cs) =
    subst (λ r. Within v r (announced_size v d + length (change_forms v cs))) made
    (all_made v cs (Ok d) (announced_size v d) (omega arith)) in
    omega (
      arith,
      few,
      data_fits base d e h,
      ap (λ (n : ℕ). announced_size n d) same,
      sent_fits changes cs e' j,
      length-append (change_forms v (map announcement d')) (end_list e'),
    )

pub room_to_apply : (r : Result ℕ ApplyFault) (base changes before after : List ℕ) →
    AppliesChanges r base changes before after → length base + length changes ≤ length before →
    r ≢ Err faults.NoRoom
room_to_apply (Ok n) base changes before after w enough e = absurd cc
room_to_apply (Err faults.NoRoom) base changes before after
    (d, e, cs, e', h, j, (same, session, (d', made, placed))) enough is =
    let sent : Sends changes cs e' = record { bytes = j.bytes; accepts = j.accepts } in
    absurd (omega (arith, made_fits base changes d d' cs e e' h sent same made, placed.0, enough))
room_to_apply (Err (faults.Data f)) base changes before after w enough e = absurd cc
room_to_apply (Err (faults.Changes f)) base changes before after w enough e = absurd cc
room_to_apply (Err (faults.UnitVersion v)) base changes before after w enough e = absurd cc
room_to_apply (Err (faults.Session s)) base changes before after w enough e = absurd cc
room_to_apply (Err (faults.Duplicate o)) base changes before after w enough e = absurd cc
room_to_apply (Err (faults.Unknown o)) base changes before after w enough e = absurd cc
