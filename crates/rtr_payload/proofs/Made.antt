-- What a written form means when it is read again.
use Rattle.std.proofs.Common.{◌≡◌, ℕ, Option, Some, None, refl, sym, ap, ◌∙◌}
use Rattle.std.specs.Prelude.{IsSome}
use Rattle.rtr_base.specs.Actions.{act}
use Rattle.rtr_base.specs.declared.action.Action.{Action}
use Rattle.rtr_units.specs.StopCauses.{short, unit_type, unit_version, too_long, unit_length}
use Rattle.rtr_units.specs.StopCauses.{empty_providers, refused, Cause, by_reader}
use Rattle.rtr_units.specs.StopCauses.{by_writer, too_many, no_memory, wrong}
use Rattle.rtr_units.specs.Header.{version_field}
use Rattle.rtr_payload.specs.Payloads.{Payload, origin, key, aspa, Meaning, IsPayload}
use Rattle.rtr_payload.specs.FaultSteps.{rule_of}
use Rattle.rtr_payload.specs.UnitFields.{LengthsAgree}
use Rattle.rtr_payload.specs.UnitFields.{meaning, written_fields, stripped}
use Rattle.rtr_payload.specs.UnitBytes.{IsWritten, unit_bytes, unit_fields, flags_in, MeansPayload}
use Rattle.rtr_payload.specs.UnitBytes.{NeedsMemory, HasNoPayload, IsPrefixUnit}
use Rattle.rtr_payload.specs.Meanings.{payload_of}
use Rattle.rtr_payload.specs.declared.payload.Payload.{Payload as Value}
use Rattle.rtr_payload.specs.declared.pdu.payload.Payload.{Payload as Unit}
use Rattle.rtr_payload.specs.declared.pdu.payload.Payload.TheVariants.{V4, V6, RouterKey, Aspa}
use Rattle.rtr_payload.proofs.Fields.{flags_of_fields, meaning-written}
use Rattle.rtr_payload.proofs.Rests.{agree_kept}

flags_read : (u : Unit) → flags_in u ≡ flags_of_fields (unit_fields u)
flags_read (V4 u) = refl
flags_read (V6 u) = refl
flags_read (RouterKey u) = refl
flags_read (Aspa u) = refl

flags_there : (v f : ℕ) (p : Payload) → flags_of_fields (written_fields v f p) ≡ f
flags_there v f (origin o) = refl
flags_there v f (key k) = refl
flags_there v f (aspa a) = refl

pub made_flags : (v f : ℕ) (p : Payload) (u : Unit) → IsWritten v f p u → flags_in u ≡ f
made_flags v f p u h = flags_read u ∙ ap flags_of_fields h.fields ∙ flags_there v f p

pub made_means : (v f : ℕ) (p : Payload) (u : Unit) (a : Action) (q : Value) → IsPayload p →
    IsWritten v f p u → MeansPayload u a q →
    (version_field (unit_bytes u) ≡ v) × (a ≡ act f) × (payload_of q ≡ stripped (act f) p)
made_means v f p u a q valid h m =
    let same = m.means ∙ ap meaning h.fields ∙ meaning-written v f p valid in (
      ap (λ (m : Meaning). m.version) same,
      ap (λ (m : Meaning). m.action) same,
      ap (λ (m : Meaning). m.payload) same,
    )

-- a form keeps the rule on the lengths of a prefix
pub lengths_kept : (v f : ℕ) (p : Payload) → IsPayload p → LengthsAgree (written_fields v f p)
lengths_kept v f (origin o) h = h.lengths
lengths_kept v f (key k) h = tt
lengths_kept v f (aspa a) h = tt

no_rule : (v f : ℕ) (p : Payload) (u : Unit) → IsPayload p → IsWritten v f p u →
    rule_of (unit_fields u) ≡ None
no_rule v f p u valid h =
    ap rule_of h.fields ∙ agree_kept (written_fields v f p) (lengths_kept v f p valid)

not_some : {A : Type 0} (o : Option A) → o ≡ None → IsSome o → ⊥
not_some None e h = absurd cc
not_some (Some x) e h = absurd cc

no_report : (u : Unit) → rule_of (unit_fields u) ≡ None → IsPrefixUnit u →
    NeedsMemory (unit_fields u) → ⊥
no_report (V4 u) e k h = not_some _ e h
no_report (V6 u) e k h = not_some _ e h
no_report (RouterKey u) e k h = k
no_report (Aspa u) e k h = k

pub made_kept : (v f : ℕ) (p : Payload) (u : Unit) (c : Cause) → IsPayload p → IsWritten v f p u →
    HasNoPayload u c → (c ≡ no_memory) × (IsPrefixUnit u → ⊥)
made_kept v f p u (wrong (refused r)) valid h (rule, broken, is) =
    absurd
    (let none = no_rule v f p u valid h in let both : Some rule ≡ None = sym broken ∙ none in cc)
made_kept v f p u no_memory valid h s = (refl, λ k. no_report u (no_rule v f p u valid h) k s)
made_kept v f p u by_reader valid h s = absurd s
made_kept v f p u by_writer valid h s = absurd s
made_kept v f p u too_many valid h s = absurd s
made_kept v f p u (wrong short) valid h s = absurd s
made_kept v f p u (wrong (unit_type t)) valid h s = absurd s
made_kept v f p u (wrong (unit_version t)) valid h s = absurd s
made_kept v f p u (wrong too_long) valid h s = absurd s
made_kept v f p u (wrong unit_length) valid h s = absurd s
made_kept v f p u (wrong empty_providers) valid h s = absurd s
