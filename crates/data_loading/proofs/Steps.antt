-- Units of a recording, taken one after the other.
use Rattle.std.proofs.Common.{◌≡◌, ◌≤◌, ℕ, ◌+◌, List, [], ◌∷◌, ◌++◌, length, take, drop, Option}
use Rattle.std.proofs.Common.{Result, Ok, Err, ap, sym, ◌∙◌, subst, arith, append_assoc}
use Rattle.std.specs.List.{flat_map}
use Rattle.std.proofs.lemmas.List.{length-append, length-take, flat_map_more, take-append-drop}
use Rattle.std.proofs.Math.Seq.{drop-append_seam}
use Rattle.unit_any.specs.AnyFields.{AnyFields, HasAnyFields, any_list}
use Rattle.data_recordings.specs.RecordingRead.{IsRecorded, KeepsPrefixRule}
use Rattle.data_recordings.specs.Recordings.{SoMuch, held_after, step}
use Rattle.data_recordings.specs.declared.stop.Refusal.{Refusal}
use Rattle.data_loading.specs.Loading.{BeginsWith, version_through, version_step}

pub ok_is : (m n : SoMuch) → ◌≡◌ {A = Result SoMuch Refusal} (Ok m) (Ok n) → m ≡ n
ok_is m n e = cc

pub version_more : (units : List AnyFields) (r : Result SoMuch Refusal) (w : Option ℕ)
    (h : SoMuch) (unit : AnyFields) → held_after units r ≡ Ok h →
    version_through (units ++ unit ∷ []) r w ≡ version_step unit h (version_through units r w)
version_more [] (Ok m) w h unit e = ap (λ x. version_step unit x w) (ok_is m h e)
version_more [] (Err x) w h unit e = absurd cc
version_more (u ∷ us) (Ok m) w h unit e =
    version_more us (step u m) (version_step u m w) h unit e
version_more (u ∷ us) (Err x) w h unit e = absurd cc

-- ---- the next unit

pub left_is : (input front left : List ℕ) (at : ℕ) → input ≡ front ++ left →
    at ≡ length front → drop at input ≡ left
left_is input front left at parts size =
    (λ i. drop (size i) (parts i)) ∙ drop-append_seam front left

module _ (input : List ℕ) (at size : ℕ) (units : List AnyFields) (left : List ℕ)
    (parts : input ≡ flat_map any_list units ++ left)
    (whole : at ≡ length (flat_map any_list units)) (f : AnyFields)
    (has : HasAnyFields (take size (drop at input)) f) (rule : KeepsPrefixRule f)
    (within : at + size ≤ length input) where
  there : drop at input ≡ left
  there = left_is input (flat_map any_list units) left at parts whole

  unit_is : take size left ≡ any_list f
  unit_is = ap (take size) (sym there) ∙ has.bytes

  pub recorded : IsRecorded f
  recorded = (subst (λ l. HasAnyFields l f) has.bytes has, rule)

  pub split : left ≡ any_list f ++ drop size left
  split = sym (take-append-drop size left) ∙ ap (λ l. l ++ drop size left) unit_is

  pub begins : BeginsWith f left
  begins = (recorded, drop size left, split)

  grows : flat_map any_list units ++ any_list f ≡ flat_map any_list (units ++ f ∷ [])
  grows = flat_map_more any_list [] units f

  pub parts_more : input ≡ flat_map any_list (units ++ f ∷ []) ++ drop size left
  parts_more =
      parts ∙ ap (λ l. flat_map any_list units ++ l) split
      ∙ sym (append_assoc (flat_map any_list units) (any_list f) (drop size left))
      ∙ ap (λ l. l ++ drop size left) grows

  pub size_is : size ≡ length (any_list f)
  size_is =
      sym (omega (
        arith,
        length-take size left,
        ap length parts,
        length-append (flat_map any_list units) left,
        whole,
        within,
        ap length unit_is,
      ))

  pub size_more : at + size ≡ length (flat_map any_list (units ++ f ∷ []))
  size_more =
      omega (
        arith,
        whole,
        size_is,
        ap length grows,
        length-append (flat_map any_list units) (any_list f),
      )
