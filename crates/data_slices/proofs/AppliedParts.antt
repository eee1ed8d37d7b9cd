-- What changes make of data, and their end of data, written.
use Rattle.std.proofs.Common.{◌≡◌, ℕ, ◌+◌, ◌-◌, List, [], ◌++◌, length, drop, take}
use Rattle.std.proofs.Common.{Option, Some, None, refl, sym, ap, subst, ◌∙◌, append-nil, arith}
use Rattle.std.proofs.Math.Seq.{drop-append_seam, take-append_seam}
use borrow.Rule.Slice.PartMut.{put_mid}
use Rattle.rtr_base.specs.declared.action.Action.TheVariants.{Announce, Withdraw}
use Rattle.rtr_units.specs.End.{EndMeaning, end_list}
use Rattle.rtr_payload.specs.Payloads.{Payload}
use Rattle.unit_views.specs.Placing.{Places}
use Rattle.data_slices.specs.Canonical.{PlacesFront}
use Rattle.data_slices.specs.PrivateChanges.{FindsAmong, FindsRefused, HoldsParts, HoldsUnits}
use Rattle.data_slices.specs.PrivateChanges.{MakesNew}
use Rattle.data_slices.specs.PrivateChanges.{PlacesAll, PlacesApplied}
use Rattle.data_slices.specs.declared.refused.Rule.TheVariants.{Duplicate, Unknown}
use Rattle.data_slices.proofs.Applying.{announced_forms}
use Rattle.data_slices.proofs.Deltas.{joined, joined_none, longer}
use Rattle.data_slices.proofs.Merging.{rest_of}
use Rattle.data_slices.proofs.Units.{exactly}

-- the bytes of the parts
abbrev pub announcing : List ℕ → ℕ → List ℕ
announcing changes middle = take middle changes

abbrev pub withdrawing : List ℕ → (middle stop : ℕ) → List ℕ
withdrawing changes middle stop = take (stop - middle) (drop middle changes)

module _ (changes : List ℕ) (middle stop : ℕ) (e : EndMeaning)
    (p : HoldsParts changes middle stop e) where
  announcing_is : announcing changes middle ≡ p.announcing
  announcing_is =
      ap (take middle) p.parts
      ∙ ap (λ (n : ℕ). take n (p.announcing ++ (p.withdrawing ++ (p.last ++ p.rest)))) p.middle_is
      ∙ take-append_seam p.announcing (p.withdrawing ++ (p.last ++ p.rest))

  withdrawing_is : withdrawing changes middle stop ≡ p.withdrawing
  withdrawing_is =
      let size : stop - middle ≡ length p.withdrawing = omega (arith, p.stop_is) in
      let left : drop middle changes ≡ p.withdrawing ++ (p.last ++ p.rest) =
      ap (drop middle) p.parts
      ∙ ap (λ (n : ℕ). drop n (p.announcing ++ (p.withdrawing ++ (p.last ++ p.rest)))) p.middle_is
      ∙ drop-append_seam p.announcing (p.withdrawing ++ (p.last ++ p.rest)) in
      (λ i. take (size i) (left i)) ∙ take-append_seam p.withdrawing (p.last ++ p.rest)

  pub announced_held : HoldsUnits Announce e.version (announcing changes middle) p.announced
  announced_held =
      subst (λ l. HoldsUnits Announce e.version l p.announced) (sym announcing_is)
      (exactly Announce e.version p.announcing p.announced p.announcements p.announced_in_order)

  pub withdrawn_held :
      HoldsUnits Withdraw e.version (withdrawing changes middle stop) p.withdrawn
  withdrawn_held =
      subst (λ l. HoldsUnits Withdraw e.version l p.withdrawn) (sym withdrawing_is)
      (exactly Withdraw e.version p.withdrawing p.withdrawn p.withdrawals p.withdrawn_in_order)

  -- what was looked for in the announcements, and in the withdrawals
  pub duplicates : (result : Option ℕ) (old : List ℕ) (d : List Payload) →
      HoldsUnits Announce e.version old d →
      FindsRefused result Duplicate (announcing changes middle) old →
      FindsAmong result Duplicate e.version p.announced d p.announcing
  duplicates result old d h f =
      subst (λ l. FindsAmong result Duplicate e.version p.announced d l) announcing_is
      (f e.version e.version p.announced d announced_held h)

  pub unknowns : (result : Option ℕ) (old : List ℕ) (d : List Payload) →
      HoldsUnits Announce e.version old d →
      FindsRefused result Unknown (withdrawing changes middle stop) old →
      FindsAmong result Unknown e.version p.withdrawn d p.withdrawing
  unknowns result old d h f =
      subst (λ l. FindsAmong result Unknown e.version p.withdrawn d l) withdrawing_is
      (f e.version e.version p.withdrawn d withdrawn_held h)

module _ (old changes : List ℕ) (middle stop : ℕ) (e : EndMeaning) (before now : List ℕ) where
  placed : (result : Option ℕ) →
      PlacesApplied result old (announcing changes middle) (withdrawing changes middle stop) before
      now → (d d' : List Payload) → HoldsUnits Announce e.version old d →
      (p : HoldsParts changes middle stop e) → MakesNew d p.announced p.withdrawn d' →
      PlacesFront result (announced_forms e.version d') before now
  placed result w d d' h p makes =
      w e.version d p.announced p.withdrawn d' h (announced_held changes middle stop e p)
      (withdrawn_held changes middle stop e p) p.apart makes

  pub none_placed :
      PlacesApplied None old (announcing changes middle) (withdrawing changes middle stop) before
      now → PlacesAll None old changes middle stop e before now
  none_placed w d d' h p makes =
      longer (announced_forms e.version d') (end_list e) before now (placed None w d d' h p makes)

  module _ (n : ℕ)
      (w : PlacesApplied (Some n) old (announcing changes middle)
      (withdrawing changes middle stop) before now) (form part : List ℕ) (eq : form ≡ end_list e)
    where
      pub end_placed : (k : ℕ) → Places (Some k) (form ++ []) (rest_of n now) part →
          PlacesAll (Some (n + k)) old changes middle stop e before
          (put_mid n (length now - n) now part)
      end_placed k place d d' h p makes =
          joined (announced_forms e.version d') (end_list e) before now part n k
          (placed (Some n) w d d' h p makes)
          (subst (λ l. PlacesFront (Some k) l (rest_of n now) part) (append-nil form ∙ eq) place)

      pub no_end : Places None (form ++ []) (rest_of n now) part →
          PlacesAll None old changes middle stop e before (put_mid n (length now - n) now part)
      no_end (less, kept) d d' h p makes =
          joined_none (announced_forms e.version d') (end_list e) before now part n
          (placed (Some n) w d d' h p makes)
          (subst (λ l. PlacesFront None l (rest_of n now) part) (append-nil form ∙ eq)
          (less, ([], form ++ [], refl, kept)))
