-- What is shown of a unit whose fields are known.
use Rattle.std.proofs.Common.{◌≡◌, ℕ, List, [], ◌++◌, length, Option, Some, None}
use Rattle.std.proofs.Common.{Result, Ok, Err, sym, ap, subst, ◌∙◌, arith}
use Rattle.std.proofs.lemmas.Option.{none-some}
use Rattle.rtr_payload.specs.FaultSteps.{first_unit}
use Rattle.unit_views.specs.Faults.{NamesRefusal}
use Rattle.unit_views.specs.declared.fault.ViewFault.{ViewFault}
use Rattle.unit_views.specs.declared.fault.ViewFault.TheVariants as faults
use Rattle.rtr_units.specs.StopCauses.{Refusal}
use Rattle.unit_any.specs.AnyFields.{AnyFields, HasAnyFields}
use Rattle.unit_any.specs.SessionViews.{session_fault}
use Rattle.unit_any.proofs.Viewed.{whole_bounded}
use Rattle.unit_any.proofs.Wholes.{any_whole, any_one}
use Rattle.session_bytes.proofs.OneList.{one_list}
use Rattle.rtr_c.specs.Kept.{kept, kept_part, kept_text, IsShownAgain}
use Rattle.rtr_c.specs.WrittenUnits.{piece_said, part_said, text_said}
use Rattle.rtr_c.specs.ShownUnits.{CallShows, ShowsFirst}
use Rattle.rtr_c.specs.declared.unit.RtrUnit.{RtrUnit}
use Rattle.rtr_c.proofs.AgainPayload.{piece_steps}

-- b is a unit of which w is shown, whatever follows it, with this part and this text
pub record Made (b : List ℕ) (w : RtrUnit) (p t : Option (List ℕ)) : Type 0 where
  pub fields : AnyFields
  pub unit : HasAnyFields b fields
  pub shows : CallShows b fields w
  pub shown : (u : RtrUnit) → CallShows b fields u → u ≡ w
  pub sound : (r : List ℕ) → session_fault (b ++ r) ≡ None
  pub part : (r : List ℕ) → part_said w (b ++ r) ≡ p
  pub text : (r : List ℕ) → text_said w (b ++ r) ≡ t

-- ---- pieces

pub no_piece : (l : List ℕ) → piece_said 0 0 l ≡ Some []
no_piece l = piece_steps 0 (length l) _ _ (omega arith)

-- ---- what is shown at the front of an input

none_named : (b : List ℕ) (wrong : Option Refusal) (e : ViewFault) → wrong ≡ None →
    NamesRefusal b wrong e → ⊥
none_named b wrong (faults.Writer e) none is = is
none_named b wrong faults.Short none is = none-some _ (sym none ∙ is)
none_named b wrong (faults.UnitType t) none is = none-some _ (sym none ∙ is)
none_named b wrong faults.UnitLength none is = none-some _ (sym none ∙ is)
none_named b wrong faults.TooLong none is = none-some _ (sym none ∙ is)
none_named b wrong faults.EmptyProviders none is = none-some _ (sym none ∙ is)
none_named b wrong (faults.UnitVersion v) none is = none-some _ (sym none ∙ is)
none_named b wrong (faults.Prefix rule) none is = none-some _ (sym none ∙ is)
none_named b wrong faults.TooMany none is = is

module _ (b : List ℕ) (w : RtrUnit) (p t : Option (List ℕ)) (m : Made b w p t) where
  first_shown : (rest : List ℕ) (r : Result (List ℕ × AnyFields) ViewFault) (u : RtrUnit)
      (code : ℕ) → ShowsFirst r (b ++ rest) u code → (u ≡ w) × (code ≡ 0)
  first_shown rest (Ok (c, g)) u code (after, parts, has, order, shows, zero) =
      let same : b ≡ c = (any_one b c rest after m.fields g m.unit has parts).0 in
      let there = subst (λ l. HasAnyFields l g) (sym same) has in
      let fields : g ≡ m.fields = one_list b g m.fields there m.unit in
      let here = subst (λ l. CallShows l g u) (sym same) shows in
      (m.shown u (subst (λ f. CallShows b f u) fields here), zero)
  first_shown rest (Err e) u code (size, is, refused, told) =
      absurd (none_named (first_unit (b ++ rest)) (session_fault (b ++ rest)) e (m.sound rest) is.0)

  pub kept_by : (u : RtrUnit) (input : List ℕ) → w ≡ kept u → p ≡ kept_part u input →
      t ≡ kept_text u input → IsShownAgain u input b
  kept_by u input is whole rest = record {
    one = (m.fields, m.unit, subst (CallShows b m.fields) is m.shows);
    most = (whole_bounded b (any_whole b m.fields m.unit)).most;
    shown = λ left r v code first.
        let s = first_shown left r v code first in
        (s.0 ∙ is, s.1);
    part = λ left. ap (λ v. part_said v (b ++ left)) (sym is) ∙ m.part left ∙ whole;
    text = λ left. ap (λ v. text_said v (b ++ left)) (sym is) ∙ m.text left ∙ rest;
  }
