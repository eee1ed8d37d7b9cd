-- Pieces of what is written, one after the other.
use Rattle.std.proofs.Common.{◌≡◌, ℕ, ◌+◌, ◌-◌, List, [], ◌++◌, length, Some, None}
use Rattle.std.proofs.Common.{refl, sym, ap, subst, ◌∙◌, append_assoc, append-nil}
use borrow.Rule.Slice.PartMut.{put_mid}
use Rattle.rtr_base.specs.declared.action.Action.TheVariants.{Announce, Withdraw}
use Rattle.rtr_units.specs.End.{EndMeaning, end_list}
use Rattle.unit_views.specs.Placing.{Places}
use Rattle.data_memory.specs.Data.{Change}
use Rattle.data_memory.specs.Deltas.{change_forms}
use Rattle.data_slices.specs.Canonical.{PlacesFront}
use Rattle.data_slices.specs.PrivateOffsets.{PlacesNets, PlacesOrdered, PlacesRest}
use Rattle.data_slices.specs.PrivateOffsets.{nets, ordered, with_action}
use Rattle.data_slices.proofs.Deltas.{forms_append, joined, joined_none, longer}
use Rattle.data_slices.proofs.Merging.{rest_of}

-- ---- withdrawals and the end of data

module _ (input os : List ℕ) (e : EndMeaning) (before now : List ℕ) where
  abbrev withdrawn : List Change → List ℕ
  withdrawn cs = change_forms e.version (with_action Withdraw (nets cs))

  abbrev announced : List Change → List ℕ
  announced cs = change_forms e.version (with_action Announce (nets cs))

  pub no_withdrawn : PlacesNets Withdraw None input os before now →
      PlacesRest None input os e before now
  no_withdrawn w cs h =
      longer (withdrawn cs) (end_list e) before now (w e.version cs h)

  module _ (n : ℕ) (w : PlacesNets Withdraw (Some n) input os before now)
      (form part : List ℕ) (eq : form ≡ end_list e) where
    pub end_after : (k : ℕ) → Places (Some k) (form ++ []) (rest_of n now) part →
        PlacesRest (Some (n + k)) input os e before (put_mid n (length now - n) now part)
    end_after k placed cs h =
        joined (withdrawn cs) (end_list e) before now part n k (w e.version cs h)
        (subst (λ l. PlacesFront (Some k) l (rest_of n now) part) (append-nil form ∙ eq) placed)

    pub no_end_after : Places None (form ++ []) (rest_of n now) part →
        PlacesRest None input os e before (put_mid n (length now - n) now part)
    no_end_after (less, kept) cs h =
        joined_none (withdrawn cs) (end_list e) before now part n (w e.version cs h)
        (subst (λ l. PlacesFront None l (rest_of n now) part) (append-nil form ∙ eq)
        (less, ([], form ++ [], refl, kept)))

  -- ---- all of it

  parts : (cs : List Change) → change_forms e.version (ordered cs) ++ end_list e ≡
      announced cs ++ (withdrawn cs ++ end_list e)
  parts cs =
      ap (λ l. l ++ end_list e)
      (forms_append e.version (with_action Announce (nets cs)) (with_action Withdraw (nets cs)))
      ∙ append_assoc (announced cs) (withdrawn cs) (end_list e)

  pub no_announced : PlacesNets Announce None input os before now →
      PlacesOrdered None input os e before now
  no_announced w cs h =
      subst (λ l. PlacesFront None l before now) (sym (parts cs))
      (longer (announced cs) (withdrawn cs ++ end_list e) before now (w e.version cs h))

  module _ (n : ℕ) (w : PlacesNets Announce (Some n) input os before now) (part : List ℕ) where
    pub all_after : (k : ℕ) → PlacesRest (Some k) input os e (rest_of n now) part →
        PlacesOrdered (Some (n + k)) input os e before (put_mid n (length now - n) now part)
    all_after k rest cs h =
        subst (λ l. PlacesFront (Some (n + k)) l before (put_mid n (length now - n) now part))
        (sym (parts cs))
        (joined (announced cs) (withdrawn cs ++ end_list e) before now part n k (w e.version cs h)
        (rest cs h))

    pub no_rest : PlacesRest None input os e (rest_of n now) part →
        PlacesOrdered None input os e before (put_mid n (length now - n) now part)
    no_rest rest cs h =
        subst (λ l. PlacesFront None l before (put_mid n (length now - n) now part))
        (sym (parts cs))
        (joined_none (announced cs) (withdrawn cs ++ end_list e) before now part n
        (w e.version cs h) (rest cs h))
