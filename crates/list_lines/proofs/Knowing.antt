-- What a checker knows after a unit, and that it finds what the rules say of it.
use Rattle.std.proofs.Common.{◌≡◌, List, ◌∷◌, Some, refl, sym, ap, ◌∙◌}
use Rattle.std.proofs.Common.{subst}
use Rattle.std.specs.Prelude.{Bool, cond, IfOk, OnOk, Result, Ok, Err}
use Rattle.std.specs.BTreeMap.{is_at}
use Rattle.std.specs.List.{find}
use Rattle.std.specs.Option.{option_map}
use Rattle.rtr_base.specs.Actions.{act}
use Rattle.rtr_base.specs.declared.action.Action.{Action}
use Rattle.rtr_payload.specs.Payloads.{Payload as Meant}
use Rattle.rtr_payload.specs.UnitBytes.{unit_fields, flags_in}
use Rattle.rtr_payload.specs.UnitFields.{Fields}
use Rattle.rtr_payload.specs.declared.pdu.payload.Payload.{Payload}
use Rattle.rtr_payload.specs.declared.pdu.payload.Payload.TheVariants as units
use Rattle.unit_any.specs.AnyFields.{AnyFields, payload}
use Rattle.data_memory.specs.Data.{has_name, name_cmp, name_of}
use Rattle.text_lines.specs.TextLines.{payload_flags}
use Rattle.text_findings.specs.CheckedUnits.{known_after}
use Rattle.text_findings.specs.KeptNames.{IsAnnouncedAs}
use Rattle.text_findings.specs.Rules.{findings}
use Rattle.text_findings.specs.SequenceSoFar.{announced, is_announce, is_same}
use Rattle.text_findings.specs.SequenceSoFar.{named_by, payload_named, sequence}
use Rattle.text_findings.specs.declared.finding.Finding.{Finding}
use Rattle.text_findings.proofs.KeptNames.{says_either}
use Rattle.list_lines.proofs.NamedPayloads.{named_in}
use Rattle.list_lines.specs.PrivateFollowing.{Finds, KeepsNames, KnowsNames, Names, payload_in}
use Rattle.list_lines.specs.declared.check.Checker.{Checker}

pub action_is : (u : Payload) → act (flags_in u) ≡ act (payload_flags (unit_fields u))
action_is (units.V4 u) = refl
action_is (units.V6 u) = refl
action_is (units.RouterKey u) = refl
action_is (units.Aspa u) = refl

-- ---- payload units

module _ (fields : Fields) (units : List AnyFields) (old new : List Meant) (p : Meant)
    (known : KnowsNames old units) (name : Some (name_of p) ≡ payload_named fields) where
  counted_after : (q : Meant) →
      has_name new q ≡
      cond (is_at (name_cmp p) q) (is_announce (act (payload_flags fields))) (has_name old q) →
      has_name new q ≡ announced (payload fields ∷ units) (name_of q)
  unfolding name_cmp
  counted_after q counts =
      counts
      ∙ ap (cond (is_at (name_cmp p) q) (is_announce (act (payload_flags fields)))) (known q)
      ∙ ap (λ o. cond (is_same o (name_of q)) (is_announce (act (payload_flags fields)))
      (announced units (name_of q))) name
      ∙ says_either (is_same (payload_named fields) (name_of q)) (Some (payload fields))
      (find (λ unit. is_same (named_by unit) (name_of q)) units)

pub payload_keeps : (u : Payload) (old new : List Meant) (p : Meant) (a : Action) (there : Bool) →
    a ≡ act (flags_in u) → Some p ≡ payload_in (unit_fields u) → there ≡ has_name old p →
    Names old new p (is_announce a) → KeepsNames old (payload (unit_fields u)) there new
payload_keeps u old new p a there a_is is said names =
    λ units known.
    let fields : Fields = unit_fields u in
    let name : Some (name_of p) ≡ payload_named fields =
    ap (option_map name_of) is ∙ named_in fields in
    let acts : Names old new p (is_announce (act (payload_flags fields))) =
    subst (λ x. Names old new p (is_announce x)) (a_is ∙ action_is u) names in (
      subst (IsAnnouncedAs there units) name (said ∙ known p),
      λ q. counted_after fields units old new p known name q (acts q),
    )

-- ---- any unit

pub unit_finds : (old new : Checker) (listed unit : AnyFields) (there : Bool)
    (found : List Finding) → listed ≡ unit → KeepsNames old.announced unit there new.announced →
    ((history : List AnyFields) → old.state ≡ known_after history →
    IsAnnouncedAs there (sequence history) (named_by listed) → found ≡ findings history listed) →
    ((history : List AnyFields) → old.state ≡ known_after history →
    new.state ≡ known_after (listed ∷ history)) →
    Finds old unit new found
unit_finds old new listed unit there found is keeps finds goes_on =
    λ history seen.
    let kept = keeps (sequence history) seen.1 in (
      finds history seen.0
          (subst (λ u. IsAnnouncedAs there (sequence history) (named_by u)) (sym is) kept.0)
          ∙ ap (findings history) is,
      (goes_on history seen.0 ∙ ap (λ u. known_after (u ∷ history)) is, kept.1),
    )

-- ---- answers that may lack memory

pub if_ok_both : {T E : Type 0} {A C : T → Type 0} {B : Type 0} (r : Result T E) → IfOk r A →
    OnOk r B → ((t : T) → A t → B → C t) → IfOk r C
if_ok_both (Ok x) a b f = f x a b
if_ok_both (Err e) a b f = a

pub on_ok_map : {T E A B : Type 0} (r : Result T E) → OnOk r A → (A → B) → OnOk r B
on_ok_map (Ok x) a f = f a
on_ok_map (Err e) a f = a
