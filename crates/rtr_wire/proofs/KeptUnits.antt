-- A router key or an ASPA unit was read, whose fields are known, and this was written for it.
use Rattle.std.proofs.Common.{◌≡◌, ℕ, cond, eqb, List, [], Option, Some, None}
use Rattle.std.proofs.Common.{Ok, Err}
use Rattle.std.proofs.Common.{refl, sym, subst, ◌∙◌, arith, inl}
use Rattle.std.specs.Io.KnownBytes.{Consumes, Appends}
use Rattle.std.proofs.KnownBytes.{Appends-nil}
use Rattle.std.proofs.lemmas.Bool.Decides.{nat_tests}
use Rattle.rtr_units.specs.declared.fault.Fault.{Fault}
use Rattle.rtr_units.specs.Header.{type_field}
use Rattle.rtr_units.specs.Reading.{IsWhole, ReadsBytes, of_type}
use Rattle.rtr_units.specs.StopCauses.{Refusal, by_writer}
use Rattle.rtr_units.specs.Stream.{StopsWriting, WritesPart}
use Rattle.rtr_payload.specs.Payloads.{Meaning}
use Rattle.rtr_payload.specs.UnitFields.{Fields, HasFields, LengthsAgree, meaning}
use Rattle.rtr_payload.specs.UnitKinds.{payload_unit, variable_unit}
use Rattle.rtr_payload.specs.Units.{IsUnit, form_of}
use Rattle.rtr_payload.proofs.ByFields.{fields_unit}
use Rattle.rtr_wire.specs.PrivateSteps.{StepTells, Steps}
use Rattle.rtr_wire.specs.Run.{Ends}
use Rattle.rtr_wire.specs.Sequences.{Output}
use Rattle.rtr_wire.specs.declared.run.Passed.TheVariants as passes
use Rattle.rtr_wire.proofs.Units.{always, by_writer_alone}

of_one_type : (t p : ℕ) (o : Option Refusal) (f : Refusal) → t ≡ p → o ≡ None →
    cond (eqb t p) o (Some f) ≡ None
of_one_type t p o f is none = grind (arith, nat_tests)

pub typed : (k : ℕ) (u : List ℕ) → type_field u ≡ k → IsWhole (variable_unit k) u →
    IsWhole (of_type k (variable_unit k)) u
typed k u kind whole = record {
  header = whole.header;
  in_order = of_one_type (type_field u) k _ _ kind whole.in_order;
  size = whole.size;
  are_bytes = whole.are_bytes;
}

module _ (what : Output) (u : List ℕ) (f : Fields) (shape : HasFields u f)
    (agree : LengthsAgree f) (a b : Option (List ℕ))
    (read : ReadsBytes payload_unit [] (Ok u) a b) where
  is_unit : IsUnit u (meaning f)
  is_unit = fields_unit u f shape agree

  took : Consumes a b u
  took = subst (Consumes a b) (sym read.0.2) read.0.1

  pub not_written : (held : Option (List ℕ)) → what.unit (meaning f) ≡ None →
      Steps what (Ok passes.LeftOut) a b held held
  not_written held none = (u, [], took, Appends-nil held, (meaning f, is_unit, (none, refl)))

  module _ (n : Meaning) (some : what.unit (meaning f) ≡ Some n) (form : List ℕ)
      (is : form ≡ form_of n) where
    pub written : (held holds : Option (List ℕ)) → Appends held holds form →
        Steps what (Ok passes.Written) a b held holds
    written held holds wrote = (u, form, took, wrote, (meaning f, is_unit, (n, some, is)))

    pub partly_written : (g : Fault) (held holds : Option (List ℕ)) →
        WritesPart (StopsWriting g) held holds form → Steps what (Err g) a b held holds
    partly_written g held holds (w, r, wrote, split, more, stop) =
        let told : StepTells what (Err by_writer) u w b =
        always (λ x. Ends what (Err by_writer) u x w) b
        (λ x. (form_of n, inl (meaning f, n, is_unit, some, refl), (r, sym is ∙ split, more))) in (
          u,
          w,
          took,
          wrote,
          subst (λ c. StepTells what (Err c) u w b) (sym (by_writer_alone g stop)) told,
        )
