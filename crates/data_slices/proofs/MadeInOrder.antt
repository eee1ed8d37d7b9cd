-- What changes in the order of names make of data is what they make as they came.
use Rattle.std.proofs.Common.{◌≡◌, ℕ, not, ◌&&◌, List, [], ◌∷◌, ◌++◌}
use Rattle.std.proofs.Common.{Option, Some, None, Result, Ok, Err, refl, sym, ap, subst, ◌∙◌}
use Rattle.std.specs.BTreeMap.{is_at}
use Rattle.std.specs.BTreeSet.{replace_key}
use Rattle.std.specs.Set.{remove_key}
use Rattle.rtr_base.specs.declared.action.Action.{Action}
use Rattle.rtr_base.specs.declared.action.Action.TheVariants.{Announce, Withdraw}
use Rattle.rtr_units.specs.End.{EndMeaning, end_list}
use Rattle.rtr_payload.specs.Payloads.{Payload}
use Rattle.data_memory.specs.Changes.{after_all}
use Rattle.data_memory.specs.Data.{Change, IsData, after, changed, has_name, name_cmp, takes_place}
use Rattle.data_memory.specs.declared.change_error.ChangeError.{ChangeError}
use Rattle.data_memory.specs.declared.change_error.ChangeError.TheVariants.{Duplicate, Unknown}
use Rattle.data_memory.proofs.Fewest.{after_all_data}
use Rattle.data_memory.proofs.Merge.{refused_all}
use Rattle.data_memory.proofs.Changes.{is_if, is_unless}
use Rattle.data_slices.specs.Apply.{data_form}
use Rattle.data_slices.specs.Canonical.{PlacesFront}
use Rattle.data_slices.specs.Net.{of_name}
use Rattle.data_slices.specs.PrivateChanges.{HoldsUnits}
use Rattle.data_slices.specs.PrivateInOrder.{MadeOf, Outcome, earliest, pairs, refused_with}
use Rattle.data_slices.specs.PrivateMade.{PlacesMadeAll, put, put_all, put_at, forms_of}
use Rattle.data_slices.specs.PrivateOffsets.{SendsAt}
use Rattle.data_slices.proofs.Netting.{all_allowed, of_each_name, steps}
use Rattle.data_slices.proofs.Refusal.{answers, in_row}
use Rattle.data_slices.proofs.SortedOffsets.{InOrder}
use Rattle.data_slices.proofs.There.{same_data, there}
use Rattle.data_slices.proofs.AsTheyCame.{ok_same}

put_is : (a : Action) (p : Payload) (d f : List Payload) → changed a p d ≡ Ok f → put_at a p d ≡ f
put_is Announce p d f h =
    is_if (has_name d p && not (takes_place p)) Duplicate (replace_key name_cmp d p) f h
put_is Withdraw p d f h =
    is_unless (has_name d p) Unknown (remove_key (is_at (name_cmp p)) d) f h

put_step : (c : Change) (cs : List Change) (d f : List Payload) →
    ((x : List Payload) → after_all cs (Ok x) ≡ Ok f → put_all cs x ≡ f) →
    (r : Result (List Payload) ChangeError) → after c d ≡ r → after_all cs r ≡ Ok f →
    put_all cs (put c d) ≡ f
put_step c cs d f ih (Ok x) is h = ap (put_all cs) (put_is c.action c.payload d x is) ∙ ih x h
put_step c cs d f ih (Err e) is h = absurd (let no = sym (refused_all cs e) ∙ h in cc)

put_all_is : (cs : List Change) (d f : List Payload) → after_all cs (Ok d) ≡ Ok f →
    put_all cs d ≡ f
put_all_is [] d f h = cc
put_all_is (c ∷ cs) d f h = put_step c cs d f (λ x g. put_all_is cs x f g) (after c d) refl h

module _ (input os : List ℕ) (cs : List Change) (e : EndMeaning) (ps : List ℕ)
    (r : InOrder input os cs e.version ps) (d : List Payload) (is : IsData d) (made : List Payload)
    (all : after_all cs (Ok d) ≡ Ok made) where
  of_name_made : (p : Payload) →
      steps (of_name p r.ds) (Ok (there p d)) ≡ Ok (there p made)
  of_name_made p =
      ap (λ l. steps l (Ok (there p d))) (r.same_of p) ∙ of_each_name p cs d made is all

  sorted_made : put_all r.ds d ≡ made
  sorted_made =
      let (f, to) = all_allowed r.ds d is (λ p. (there p made, of_name_made p)) in
      put_all_is r.ds d f to
      ∙ same_data f made (after_all_data r.ds d f is to) (after_all_data cs d made is all)
      (λ p. ok_same (there p f) (there p made)
      (sym (of_each_name p r.ds d f is to) ∙ of_name_made p))

  pub made_if : (base before after : List ℕ) → HoldsUnits Announce e.version base d →
      (n : Option ℕ) → PlacesMadeAll n base input ps e before after →
      PlacesFront n (data_form made e) before after
  made_if base before after held n placed =
      subst (λ l. PlacesFront n (forms_of e.version l ++ end_list e) before after) sorted_made
      (placed d r.ds held r.units (in_row r.ds r.ordered))

module _ (input os : List ℕ) (cs : List Change) (e : EndMeaning) (s : SendsAt input os cs e)
    (ps : List ℕ) (r : InOrder input os cs e.version ps) (d : List Payload) (is : IsData d) where
  module _ (base before after : List ℕ) (held : HoldsUnits Announce e.version base d) where
    pub made_of : (n : Option ℕ) → None ≡ earliest d None None (pairs ps r.ds) →
        PlacesMadeAll n base input ps e before after → MadeOf n d cs e before after
    made_of n none placed =
        let (made, all) = answers input os cs e s ps r d is None none in
        (made, all, made_if input os cs e ps r d is made all base before after held n placed)

  pub refused : (o : ℕ) (a : Action) → Some (o, a) ≡ earliest d None None (pairs ps r.ds) →
      (before : List ℕ) → Outcome (Err (refused_with o a)) input d cs e before before
  refused o Announce h before = (answers input os cs e s ps r d is (Some (o, Announce)) h, refl)
  refused o Withdraw h before = (answers input os cs e s ps r d is (Some (o, Withdraw)) h, refl)
