-- What is written for one protocol version is a sequence, whose form is itself.
use Rattle.std.proofs.Common.{◌≡◌, ℕ, suc, ◌<◌, ◌≤◌, leb, List, [], ◌∷◌, length, Ok}
use Rattle.std.proofs.Common.{Some, None}
use Rattle.std.proofs.Common.{refl, sym, ap, ◌∙◌, subst, arith}
use Rattle.std.specs.List.{cons_option}
use Rattle.std.proofs.lemmas.Bool.{cond_both}
use Rattle.rtr_base.specs.Bytes.{IsBytes}
use Rattle.rtr_base.proofs.Numbers.{IsBytes-cons}
use Rattle.rtr_units.specs.End.{EndMeaning, end_list}
use Rattle.rtr_units.proofs.Ends.{end_made}
use Rattle.rtr_payload.specs.Payloads.{Meaning, smallest_version}
use Rattle.rtr_payload.specs.UnitFields.{Fields, prefix_unit, key_unit, aspa_unit, unit_list}
use Rattle.rtr_payload.specs.UnitFields.{HasFields}
use Rattle.rtr_payload.specs.UnitFields.{LengthsAgree, meaning}
use Rattle.rtr_payload.specs.Units.{IsUnit, form_of}
use Rattle.rtr_payload.proofs.ByFields.{unit_fields_of, unit_of_fields}
use Rattle.rtr_payload.proofs.Fields.{form_is_unit}
use Rattle.rtr_wire.specs.Run.{Run}
use Rattle.rtr_wire.specs.Sequences.{AreUnits, IsSequence, everything, for_version, forms}
use Rattle.rtr_wire.specs.Sequences.{sequence_form, in_version, units_for, end_for}
use Rattle.rtr_wire.proofs.OneAnswer.{only_accepted, sequence_run}
use Rattle.rtr_wire.proofs.Runs.{end_fits_for, again}
use Rattle.rtr_wire.proofs.Written.{all_written}

-- ---- a unit in another version is a unit

module _ (v : ℕ) (byte : v < 256) (b : List ℕ) (m : Meaning) where
  byte_first : (w : ℕ) (rest : List ℕ) → b ≡ w ∷ rest → IsBytes b → IsBytes (v ∷ rest)
  byte_first w rest is all =
      let known = subst (λ l. IsBytes l) is all in
      IsBytes-cons v rest byte (λ i. known (suc i))

  by_fields : (u : Fields) → HasFields b u → LengthsAgree u → m ≡ meaning u →
      (c : List ℕ) × IsUnit c (in_version v m)
  by_fields (prefix_unit u) shape agree is = (
    unit_list (prefix_unit (record u { version = v })),
    unit_of_fields _ _ (record {
      fields = prefix_unit (record u { version = v });
      shape = record {
        fits = shape.fits;
        limits = shape.limits;
        bytes = refl;
        are_bytes = byte_first u.version _ shape.bytes shape.are_bytes;
      };
      lengths = agree;
      means = ap (in_version v) is;
    }),
  )
  by_fields (key_unit u) shape agree is = (
    unit_list (key_unit (record u { version = v })),
    unit_of_fields _ _ (record {
      fields = key_unit (record u { version = v });
      shape = record {
        fits = shape.fits;
        limits = shape.limits;
        bytes = refl;
        are_bytes = byte_first u.version _ shape.bytes shape.are_bytes;
      };
      lengths = agree;
      means = ap (in_version v) is;
    }),
  )
  by_fields (aspa_unit u) shape agree is = (
    unit_list (aspa_unit (record u { version = v })),
    unit_of_fields _ _ (record {
      fields = aspa_unit (record u { version = v });
      shape = record {
        fits = shape.fits;
        limits = shape.limits;
        bytes = refl;
        are_bytes = byte_first u.version _ shape.bytes shape.are_bytes;
      };
      lengths = agree;
      means = ap (in_version v) is;
    }),
  )

  pub form_in_version : IsUnit b m → IsUnit (form_of (in_version v m)) (in_version v m)
  form_in_version whole =
      let h = unit_fields_of b m whole in
      let (c, unit) = by_fields h.fields h.shape h.lengths h.means in
      form_is_unit c (in_version v m) unit

-- ---- so the units of a version are units

units_in_version : (v : ℕ) → v < 256 → (b : List ℕ) (ms : List Meaning) → AreUnits b ms →
    AreUnits (forms (units_for v ms)) (units_for v ms)
units_in_version v byte b [] h = refl
units_in_version v byte b (m ∷ ms) h =
    let rest = units_in_version v byte h.1 ms h.4 in
    let others = units_for v ms in
    cond_both (leb (smallest_version m.payload) v) (Some (in_version v m)) None
    (λ o. AreUnits (forms (cons_option o others)) (cons_option o others))
    (λ _. (
      form_of (in_version v m),
      forms (units_for v ms),
      refl,
      form_in_version v byte h.0 m h.3,
      rest,
    ))
    (λ _. rest)

few_for : (v : ℕ) (ms : List Meaning) → length (units_for v ms) ≤ length ms
few_for v [] = omega arith
few_for v (m ∷ ms) =
    let rest = few_for v ms in
    cond_both (leb (smallest_version m.payload) v) (Some (in_version v m)) None
    (λ o. length (cons_option o (units_for v ms)) ≤ suc (length ms)) (λ _. omega (arith, rest))
    (λ _. omega (arith, rest))

pub sequence_for : (v : ℕ) (b : List ℕ) (ms : List Meaning) (e : EndMeaning) → v ≤ 2 →
    IsSequence b ms e →
    IsSequence (sequence_form (units_for v ms) (end_for v e)) (units_for v ms) (end_for v e)
sequence_for v b ms e le h = record {
  front = forms (units_for v ms);
  last = end_list (end_for v e);
  parts = refl;
  units = units_in_version v (omega (arith, le)) h.front ms h.units;
  end = end_made (end_for v e) (end_fits_for v e le h.end.fits);
}

-- ---- and a run over what was written writes it again

-- a run over the form of a sequence
run_over_form : (limit : ℕ) (b rest : List ℕ) (ms : List Meaning) (e : EndMeaning) →
    IsSequence (sequence_form ms e) ms e → length ms < limit → b ≡ sequence_form ms e →
    Run everything limit (Ok (length ms)) b rest b
run_over_form limit b rest ms e s lt is =
    subst (λ w. Run everything limit (Ok (length ms)) w rest w) (sym is)
    (subst (λ l. Run everything limit (Ok (length l)) (sequence_form ms e) rest (sequence_form l e))
    (all_written ms) (sequence_run everything limit (sequence_form ms e) rest ms e s lt))

pub run_again : (limit number : ℕ) (took left wrote rest : List ℕ) →
    Run everything limit (Ok number) took left wrote →
    Run everything limit (Ok number) wrote rest wrote
run_again limit number took left wrote rest p =
    let (ms, e, s, counted, lt, is) = only_accepted everything limit number took left wrote p in
    let same = all_written ms in
    subst (λ n. Run everything limit (Ok n) wrote rest wrote) (ap length (sym same) ∙ counted)
    (run_over_form limit wrote rest ms e (again took ms e s) lt
    (is ∙ ap (λ l. sequence_form l e) same))

pub run_for_again : (v limit number : ℕ) (took left wrote rest : List ℕ) → v ≤ 2 →
    Run (for_version v) limit (Ok number) took left wrote →
    Run everything limit (Ok number) wrote rest wrote
run_for_again v limit number took left wrote rest le p =
    let (ms, e, s, counted, lt, is) =
    only_accepted (for_version v) limit number took left wrote p in
    let few = few_for v ms in
    subst (λ n. Run everything limit (Ok n) wrote rest wrote) counted
    (run_over_form limit wrote rest (units_for v ms) (end_for v e)
    (sequence_for v took ms e le s) (omega (arith, few, lt)) is)
