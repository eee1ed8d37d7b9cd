-- What changes in the order of names make of data, and an end of data, written.
use Rattle.std.proofs.Common.{◌≡◌, ℕ, ◌+◌, ◌-◌, List, [], ◌++◌, length, Some, None, refl}
use Rattle.std.proofs.Common.{subst, ◌∙◌, append-nil}
use borrow.Rule.Slice.PartMut.{put_mid}
use Rattle.rtr_units.specs.End.{EndMeaning, end_list}
use Rattle.unit_views.specs.Placing.{Places}
use Rattle.data_slices.specs.Canonical.{PlacesFront}
use Rattle.data_slices.specs.PrivateMade.{PlacesMade, PlacesMadeAll, put_all, forms_of}
use Rattle.data_slices.proofs.Deltas.{joined, joined_none, longer}
use Rattle.data_slices.proofs.Merging.{rest_of}

module _ (base input places : List ℕ) (e : EndMeaning) (before now : List ℕ) where
  pub none_made : PlacesMade None base input places before now →
      PlacesMadeAll None base input places e before now
  none_made w d cs h j row =
      longer (forms_of e.version (put_all cs d)) (end_list e) before now (w e.version d cs h j row)

  module _ (n : ℕ) (w : PlacesMade (Some n) base input places before now) (form part : List ℕ)
      (eq : form ≡ end_list e) where
    pub end_made : (k : ℕ) → Places (Some k) (form ++ []) (rest_of n now) part →
        PlacesMadeAll (Some (n + k)) base input places e before
        (put_mid n (length now - n) now part)
    end_made k place d cs h j row =
        joined (forms_of e.version (put_all cs d)) (end_list e) before now part n k
        (w e.version d cs h j row)
        (subst (λ l. PlacesFront (Some k) l (rest_of n now) part) (append-nil form ∙ eq) place)

    pub no_end : Places None (form ++ []) (rest_of n now) part →
        PlacesMadeAll None base input places e before (put_mid n (length now - n) now part)
    no_end (less, kept) d cs h j row =
        joined_none (forms_of e.version (put_all cs d)) (end_list e) before now part n
        (w e.version d cs h j row)
        (subst (λ l. PlacesFront None l (rest_of n now) part) (append-nil form ∙ eq)
        (less, ([], form ++ [], refl, kept)))
