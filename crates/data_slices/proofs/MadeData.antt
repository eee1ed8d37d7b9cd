-- What changes make of data, as units.
use Rattle.std.proofs.Common.{◌≡◌, ℕ, List, [], ◌∷◌, ◌++◌, drop, map}
use Rattle.std.proofs.Common.{Some, Result, Ok, Err, refl, sym, ap, subst, ◌∙◌}
use Rattle.std.specs.BTreeMap.{is_at}
use Rattle.std.specs.List.{AllByRecursion}
use Rattle.rtr_base.specs.declared.action.Action.{Action}
use Rattle.rtr_base.specs.declared.action.Action.TheVariants.{Announce, Withdraw}
use Rattle.rtr_units.specs.End.{EndMeaning, IsEndMeaning, end_list}
use Rattle.rtr_units.proofs.Ends.{end_made}
use Rattle.rtr_payload.specs.Payloads.{Payload}
use Rattle.rtr_payload.specs.Units.{IsUnit}
use Rattle.rtr_payload.proofs.Fields.{form_is_unit}
use Rattle.rtr_wire.specs.Sequences.{AreUnits}
use Rattle.data_memory.specs.Changes.{after_all}
use Rattle.data_memory.specs.Data.{Change, after, announcement, changed, name_cmp}
use Rattle.data_memory.specs.Deltas.{change_forms, unit_of}
use Rattle.data_memory.specs.declared.change_error.ChangeError.{ChangeError}
use Rattle.data_memory.proofs.Changes.{announced_is, withdrawn_is}
use Rattle.data_memory.proofs.Fewest.{after_all_data}
use Rattle.data_memory.proofs.Membership.{all_remove, all_replace}
use Rattle.data_slices.specs.Apply.{WritesApplied, data_form}
use Rattle.data_slices.specs.Canonical.{HoldsData}
use Rattle.data_slices.specs.CanonicalChanges.{HoldsChanges}
use Rattle.data_slices.proofs.OneData.{one_data}
use Rattle.data_slices.proofs.Reapplied.{one_changes, same_form, same_made}
use Rattle.data_slices.proofs.Sent.{AreSent, IsSent, all_sent, announced_sent}

-- ---- changes

-- what is announced, and in units
abbrev pub IsKept : ℕ → Change → Type 0
IsKept v c = c.action ≡ Announce → IsSent v (announcement c.payload)

pub are_kept : (v : ℕ) (b : List ℕ) (cs : List Change) → AreUnits b (map (unit_of v) cs) →
    AllByRecursion (IsKept v) cs
are_kept v b [] units = tt
are_kept v b (c ∷ cs) (first, more, at, unit, units) = (
  λ is.
      form_is_unit first (unit_of v (announcement c.payload))
      (subst (λ a. IsUnit first (unit_of v (record { action = a; payload = c.payload }))) is unit),
  are_kept v more cs units,
)

-- one change
after_one : (v : ℕ) (a : Action) (p : Payload) (d made : List Payload) →
    (a ≡ Announce → IsSent v (announcement p)) → AreSent v announcement d →
    changed a p d ≡ Ok made → AreSent v announcement made
after_one v Announce p d made kept sent is =
    subst (AreSent v announcement) (announced_is p d made is)
    (all_replace (λ q. IsSent v (announcement q)) p (kept refl) d sent)
after_one v Withdraw p d made kept sent is =
    subst (AreSent v announcement) (withdrawn_is p d made is)
    (all_remove (λ q. IsSent v (announcement q)) (is_at (name_cmp p)) d sent)

-- all of them
pub after_more : (v : ℕ) (cs : List Change) (r : Result (List Payload) ChangeError)
    (made : List Payload) → AllByRecursion (IsKept v) cs →
    ((d : List Payload) → r ≡ Ok d → AreSent v announcement d) → after_all cs r ≡ Ok made →
    AreSent v announcement made
after_more v [] r made kept sent is = sent made is
after_more v (c ∷ cs) (Err e) made kept sent is = absurd cc
after_more v (c ∷ cs) (Ok d) made (k, kept) sent is =
    after_more v cs (after c d) made kept
    (λ x one. after_one v c.action c.payload d x k (sent d refl) one) is

-- the units and the end of data that these changes make
pub holds_made : (base front rest : List ℕ) (d d' : List Payload) (cs : List Change)
    (e e' : EndMeaning) → HoldsData base d e →
    AreUnits front (map (unit_of e'.version) cs) → IsEndMeaning e' →
    e.version ≡ e'.version → after_all cs (Ok d) ≡ Ok d' →
    HoldsData (data_form d' e' ++ rest) d' e'
holds_made base front rest d d' cs e e' h units fits version made =
    let v = e'.version in
    let q = h.accepts.sequence in
    let old : AreSent v announcement d =
    subst (λ w. AreSent w announcement d) version (announced_sent e.version q.front d q.units) in
    let kept = are_kept v front cs units in
    let new = after_more v cs (Ok d) d' kept
    (λ x is. subst (AreSent v announcement) (same_made d x is) old) made in
    record {
      bytes = data_form d' e';
      accepts = record {
        rest = rest;
        parts = refl;
        sequence = record {
          front = change_forms v (map announcement d');
          last = end_list e';
          parts = refl;
          units = all_sent v announcement d' new;
          end = end_made e' fits;
        };
      };
      in_order = after_all_data cs d d' h.in_order made;
    }

-- what it writes is data
pub makes_data : (n : ℕ) (base input before after : List ℕ) (d d' : List Payload)
    (cs : List Change) (e e' : EndMeaning) → HoldsData base d e → HoldsChanges input cs e' →
    after_all cs (Ok d) ≡ Ok d' → WritesApplied (Some n) base input before after →
    HoldsData after d' e'
makes_data n base input before after d d' cs e e' h j made w =
    let (x, c, ds, c', k, l, (version, session, (y, is, placed))) = w in
    let same : e.version ≡ e'.version =
    sym (ap (λ (m : EndMeaning). m.version) (one_data base x d c e k h).1) ∙ version
    ∙ ap (λ (m : EndMeaning). m.version) (one_changes input ds cs c' e' l j).1 in
    let wrote = same_form base input before after d d' cs e e' h j made (Some n) w in
    subst (λ l. HoldsData l d' e') (sym wrote.2)
    (holds_made base j.accepts.sequence.front (drop n before) d d' cs e e' h
    j.accepts.sequence.units j.accepts.sequence.end.fits same made)
