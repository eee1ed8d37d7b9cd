-- Reading a unit after its header.
use Rattle.std.proofs.Common.{◌≡◌, ℕ, ◌≤◌, List, [], ◌++◌, length, Some, None, Result, Ok, Err}
use Rattle.std.proofs.Common.{refl, sym, ap, subst, ◌∙◌, get_or, arith, ◌⊎◌, inr}
use Rattle.std.proofs.lemmas.Bool.Decides.{nat_tests}
use Rattle.std.proofs.KnownBytes.{Consumes-nil}
use Rattle.std.proofs.lemmas.Bool.{cases_lt}
use Rattle.std.proofs.Common.{cond, eqb, ltb, inl}
use Rattle.rtr_base.specs.Addresses.{Family, v4, v6}
use Rattle.rtr_units.specs.StopCauses.{Refusal, short, unit_type, unit_version}
use Rattle.rtr_units.specs.StopCauses.{unit_length, refused, Cause, wrong}
use Rattle.rtr_units.specs.AnyEnd.{end_unit}
use Rattle.rtr_units.specs.PrefixUnits.{prefix_type, prefix_size}
use Rattle.rtr_units.specs.Header.{version_field, type_field, length_field}
use Rattle.rtr_units.specs.Reading.{of_size, IsPart, AsksAfter, Reads, ReadsAfter, by_bytes}
use Rattle.rtr_units.specs.declared.fault.Fault.{Fault}
use Rattle.rtr_units.proofs.UnitsRead.{AlikeAfter, reads_alike, at_header}
use Rattle.rtr_units.specs.StopCauses.{ReaderState}
use Rattle.rtr_units.specs.HeaderBytes.{AreBytes}
use Rattle.rtr_units.proofs.Headers.{same_header}
use Rattle.rtr_payload.specs.UnitKinds.{variable_unit, payload_unit}
use Rattle.rtr_units.specs.PrefixUnits.{prefix_at}
use Rattle.rtr_payload.specs.UnitFields.{prefix_unit, Fields, HasFields}
use Rattle.rtr_payload.specs.FirstFault.{IsPartial}
use Rattle.rtr_payload.specs.UnitBytes.{unit_bytes, unit_fields}
use Rattle.rtr_payload.specs.declared.pdu.payload.Payload.{Payload}
use Rattle.std.specs.Prelude.{IfOk, IsTrue}
use Rattle.rtr_payload.specs.FirstFault.{header_fault}
use Rattle.rtr_payload.specs.FaultSteps.{header_step}
use Rattle.rtr_payload.proofs.Frames.{shape_whole}
use Rattle.rtr_payload.proofs.Refusals.{IsRefused, header_short, unit_short, header_refused}
use Rattle.rtr_payload.proofs.Wholes.{prefix_whole}

-- ---- headers by their type

unknown_type : (v t g n : ℕ) → ¬ (t ≡ 4) → ¬ (t ≡ 6) → ¬ (t ≡ 7) → ¬ (t ≡ 9) → ¬ (t ≡ 11) →
    header_fault v t g n ≡ Some (unit_type t)
unfolding header_fault
unknown_type v t g n a b c d e = grind (arith, nat_tests)

-- ---- what is wrong with a unit, by its kind

-- what a header says, by its type
step_of : (k : ℕ) (u : List ℕ) → type_field u ≡ k → (variable_unit k).fault u ≡ header_step u
step_of k u kind = rw kind refl

size_step : (f : Family) (v g n : ℕ) →
    cond (eqb n (prefix_size f)) None (Some unit_length) ≡ header_fault v (prefix_type f) g n
unfolding header_fault
size_step v4 v g n = grind (arith, nat_tests)
size_step v6 v g n = grind (arith, nat_tests)

prefix_step : (f : Family) (u : List ℕ) → type_field u ≡ prefix_type f →
    (of_size (prefix_size f)).fault u ≡ header_step u
prefix_step f u kind =
    size_step f (version_field u) (get_or u 2 0) (length_field u) ∙ step_of (prefix_type f) u kind

ends_step : (v g n : ℕ) →
    cond (ltb 2 v) (Some (unit_version v))
    (cond (eqb n (cond (eqb v 0) 12 24)) None (Some unit_length)) ≡
    header_fault v 7 g n
unfolding header_fault
ends_step v g n = grind (arith, nat_tests)

end_step : (u : List ℕ) → type_field u ≡ 7 → end_unit.fault u ≡ header_step u
end_step u kind = ends_step (version_field u) (get_or u 2 0) (length_field u) ∙ step_of 7 u kind

module _ (h : List ℕ) (long : 8 ≤ length h) where
  kind_after : (k : ℕ) (t : List ℕ) → type_field h ≡ k → type_field (h ++ t) ≡ k
  kind_after k t kind = (same_header h t long).kind ∙ kind

  pub prefix_alike : (f : Family) → type_field h ≡ prefix_type f →
      AlikeAfter (of_size (prefix_size f)) payload_unit h
  prefix_alike f kind = record {
    fault = λ t. prefix_step f (h ++ t) (kind_after (prefix_type f) t kind);
    asks = λ t asks. absurd cc;
  }

  pub end_alike : type_field h ≡ 7 → AlikeAfter end_unit payload_unit h
  end_alike kind =
      record { fault = λ t. end_step (h ++ t) (kind_after 7 t kind); asks = λ t asks. absurd cc }

  pub key_alike : type_field h ≡ 9 → AlikeAfter (variable_unit 9) payload_unit h
  key_alike kind = record {
    fault = λ t. step_of 9 (h ++ t) (kind_after 9 t kind);
    asks = λ t asks. rw (kind_after 9 t kind) refl;
  }

  pub aspa_alike : type_field h ≡ 11 → AlikeAfter (variable_unit 11) payload_unit h
  aspa_alike kind = record {
    fault = λ t. step_of 11 (h ++ t) (kind_after 11 t kind);
    asks = λ t asks. rw (kind_after 11 t kind) refl;
  }

-- ---- a prefix unit after its header h

module _ (f : Family) (h u : List ℕ) (kind : type_field h ≡ prefix_type f) where
  prefix_fields_read : (a b : ReaderState) → ReadsAfter (of_size (prefix_size f)) h (Ok u) a b →
      HasFields u (prefix_unit (prefix_at f u))
  prefix_fields_read a b (is, (((t, took, parts), whole), counts)) =
      let l : 8 ≤ length h = omega (arith, is.0) in
      let kind_u : type_field u ≡ prefix_type f =
      ap type_field parts ∙ kind_after h l (prefix_type f) t kind in
      let order : header_step u ≡ None = sym (prefix_step f u kind_u) ∙ whole.in_order in
      prefix_whole f u whole.are_bytes
      (record { long = whole.header; in_order = order; size = sym whole.size }) kind_u

-- the unit u of the family f, whose rest was read after the header h, or reading stopped
module _ (f : Family) (u : Payload) (bytes : List ℕ) (n : ℕ) (same : unit_bytes u ≡ bytes)
    (fields : unit_fields u ≡ prefix_unit (prefix_at f bytes)) (size : n ≡ prefix_size f)
    (h : List ℕ) (kind : type_field h ≡ prefix_type f) where
  pub prefix_after : (r : Result (List ℕ) Cause) (a b : ReaderState) →
      ReadsAfter (of_size n) h r a b → ReadsAfter payload_unit h r a b
  prefix_after r a b (is, reads) = (
    is,
    reads_alike (of_size (prefix_size f)) payload_unit h r a b
        (prefix_alike h (omega (arith, is.0)) f kind)
        (subst (λ n. Reads (of_size n) h r a b) size reads),
  )

  pub prefix_has_fields : {T : Type 0} (r : Result T Fault) (a b : ReaderState) →
      ReadsAfter (of_size n) h (by_bytes (λ x. bytes) r) a b →
      IfOk r (λ x. HasFields (unit_bytes u) (unit_fields u))
  prefix_has_fields (Ok x) a b reads =
      rw (same, fields)
      (prefix_fields_read f h bytes kind a b
      (subst (λ n. ReadsAfter (of_size n) h (Ok bytes) a b) size reads))
  prefix_has_fields (Err e) a b reads = tt

-- ---- a unit of a kind by its type, after its header h

pub end_after : (h : List ℕ) (r : Result (List ℕ) Cause) (a b : ReaderState) → type_field h ≡ 7 →
    ReadsAfter end_unit h r a b → ReadsAfter payload_unit h r a b
end_after h r a b kind (is, reads) =
    (is, reads_alike end_unit payload_unit h r a b (end_alike h (omega (arith, is.0)) kind) reads)

-- a router key or an ASPA unit
pub variable_after : (k : ℕ) → (k ≡ 9) ⊎ (k ≡ 11) → (h : List ℕ) (r : Result (List ℕ) Cause)
    (a b : ReaderState) → type_field h ≡ k → ReadsAfter (variable_unit k) h r a b →
    ReadsAfter payload_unit h r a b
variable_after k (inl e) h r a b kind (is, reads) = (
  is,
  reads_alike (variable_unit 9) payload_unit h r a b (key_alike h (omega (arith, is.0)) (kind ∙ e))
      (subst (λ k. Reads (variable_unit k) h r a b) e reads),
)
variable_after k (inr e) h r a b kind (is, reads) = (
  is,
  reads_alike (variable_unit 11) payload_unit h r a b
      (aspa_alike h (omega (arith, is.0)) (kind ∙ e))
      (subst (λ k. Reads (variable_unit k) h r a b) e reads),
)

other_size : (n size : ℕ) → ¬ (n ≡ size) →
    cond (eqb n size) None (Some unit_length) ≡ Some unit_length
other_size n size other = grind (arith, nat_tests)

-- a header of a prefix unit, with another length than it has
pub size_after : (f : Family) (h : List ℕ) (a : ReaderState) → AreBytes 8 h →
    type_field h ≡ prefix_type f → ¬ (length_field h ≡ prefix_size f) →
    ReadsAfter payload_unit h (Err (wrong unit_length)) a a
size_after f h a is kind other = (
  is,
  (
    (
      [],
      Consumes-nil a.left,
      at_header payload_unit unit_length h is.0
          (sym (prefix_step f h kind) ∙ other_size (length_field h) (prefix_size f) other),
    ),
    refl,
  ),
)

-- a header of no unit that is read
pub none_after : (h : List ℕ) (t : ℕ) (a : ReaderState) → AreBytes 8 h → type_field h ≡ t →
    ¬ (t ≡ 4) → ¬ (t ≡ 6) → ¬ (t ≡ 7) → ¬ (t ≡ 9) → ¬ (t ≡ 11) →
    ReadsAfter payload_unit h (Err (wrong (unit_type t))) a a
none_after h t a is kind n4 n6 n7 n9 n11 = (
  is,
  (
    (
      [],
      Consumes-nil a.left,
      at_header payload_unit (unit_type t) h is.0
          (sym (step_of t h kind)
          ∙ unknown_type (version_field h) t (get_or h 2 0) (length_field h) n4 n6
          n7 n9 n11),
    ),
    refl,
  ),
)

-- ---- where reading stopped, by the steps

pub never_short : (v t g n : ℕ) → header_fault v t g n ≡ Some short → ⊥
unfolding header_fault
never_short v t g n e = grind (arith, nat_tests)

never_report : (v t g n : ℕ) (report : List ℕ) → header_fault v t g n ≡ Some (refused report) → ⊥
unfolding header_fault
never_report v t g n report e = grind (arith, nat_tests)

pub no_report : (h report : List ℕ) → header_step h ≡ Some (refused report) → ⊥
no_report h report e =
    never_report (version_field h) (type_field h) (get_or h 2 0) (length_field h) report e

pub part_short : (h : List ℕ) → IsPart payload_unit h → IsPartial h
part_short h part = elim (cases_lt (length h) 8) [
  | inl less ↦ header_short h less
  | inr long ↦ let p = part long in unit_short h long p.0 p.1
]

pub stop_refused : (h : List ℕ) (f : Refusal) → (length h ≡ 8) × (header_step h ≡ Some f) →
    IsRefused h f
stop_refused h f (eight, e) = header_refused h f eight e

pub asks_kind : (h : List ℕ) → IsTrue (payload_unit.asks h) →
    (type_field h ≡ 9) ⊎ (type_field h ≡ 11)
asks_kind h e = grind (arith, nat_tests)

-- the whole of a router key or an ASPA unit
pub shape_asks : (b : List ℕ) (u : Fields) → HasFields b u →
    (type_field b ≡ 9) ⊎ (type_field b ≡ 11) → AsksAfter payload_unit b
shape_asks b u h kind =
    let w = shape_whole b u h in
    record {
      header = w.long;
      asks = elim kind [ inl e ↦ rw e refl | inr e ↦ rw e refl ];
      in_order = w.in_order;
      place = inr (sym w.size);
    }
