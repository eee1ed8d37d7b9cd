-- The units of the answer that is open.
use Rattle.std.proofs.Common.{◌≡◌, ℕ, suc, Bool, true, false, cond, List, [], ◌∷◌, ◌++◌, length}
use Rattle.std.proofs.Common.{filter, append_assoc, refl, sym, ap, ◌∙◌}
use Rattle.std.proofs.lemmas.List.{flat_map_more}
use Rattle.std.specs.List.{flat_map}
use Rattle.unit_any.specs.AnyFields.{AnyFields, any_list}
use Rattle.data_recordings.specs.RecordingRead.{IsRecorded}
use Rattle.data_recordings.proofs.RecordingSoFar.{all_push}
use Rattle.data_loading.specs.Loading.{HasOpenAnswer, IsAtStart, IsInside, Taken, is_payload}

-- where it begins
pub none_yet : (input : List ℕ) (at : ℕ) (t : Taken input at) → IsAtStart t.units t.held →
    HasOpenAnswer 0 input t.left
none_yet input at t start = record {
  offset = at;
  before = t;
  start = start;
  units = [];
  parts = refl;
  are_recorded = tt;
  are_inside = tt;
  count = refl;
}

counts_by : (b : Bool) (f : AnyFields) → is_payload f ≡ b → (units : List AnyFields) →
    length (filter is_payload (units ++ f ∷ [])) ≡
    cond b (suc (length (filter is_payload units))) (length (filter is_payload units))
counts_by b f is [] = at_end b
  where
    at_end : (c : Bool) → length (cond (is_payload f) (f ∷ []) []) ≡ cond b 1 0
    at_end c = ap (λ x. length (cond x (f ∷ []) [])) is ∙ by_test b
      where
        by_test : (x : Bool) → length (cond x (f ∷ []) []) ≡ cond x 1 0
        by_test true = refl
        by_test false = refl
counts_by b f is (u ∷ us) = by_test (is_payload u) b (counts_by b f is us)
  where
    by_test : (c x : Bool) →
        length (filter is_payload (us ++ f ∷ [])) ≡
        cond x (suc (length (filter is_payload us))) (length (filter is_payload us)) →
        length (cond c (u ∷ filter is_payload (us ++ f ∷ [])) (filter is_payload (us ++ f ∷ []))) ≡
        cond x (suc (length (cond c (u ∷ filter is_payload us) (filter is_payload us))))
        (length (cond c (u ∷ filter is_payload us) (filter is_payload us)))
    by_test true true ih = ap suc ih
    by_test true false ih = ap suc ih
    by_test false true ih = ih
    by_test false false ih = ih

module _ (n : ℕ) (input left left' : List ℕ) (f : AnyFields) (o : HasOpenAnswer n input left)
    (recorded : IsRecorded f) (inside : IsInside f) (follows : left ≡ any_list f ++ left') where
  more : (b : Bool) → is_payload f ≡ b → HasOpenAnswer (cond b (suc n) n) input left'
  more b is = record {
    offset = o.offset;
    before = o.before;
    start = o.start;
    units = o.units ++ f ∷ [];
    parts =
        o.parts ∙ ap (λ l. flat_map any_list o.units ++ l) follows
        ∙ sym (append_assoc (flat_map any_list o.units) (any_list f) left')
        ∙ ap (λ l. l ++ left') (flat_map_more any_list [] o.units f);
    are_recorded = all_push IsRecorded o.units f o.are_recorded recorded;
    are_inside = all_push IsInside o.units f o.are_inside inside;
    count = ap (λ m. cond b (suc m) m) o.count ∙ sym (counts_by b f is o.units);
  }

  pub one_more : is_payload f ≡ true → HasOpenAnswer (suc n) input left'
  one_more is = more true is

  pub none_more : is_payload f ≡ false → HasOpenAnswer n input left'
  none_more is = more false is
