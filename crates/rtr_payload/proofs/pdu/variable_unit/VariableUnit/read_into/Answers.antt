use Rattle.std.proofs.Common.{◌≡◌, ◌≤◌, ◌+◌, ◌-◌, ◌++◌, [], List, refl, inl}
use Rattle.std.proofs.Common.{length, take, drop, ap, sym, ◌∙◌, arith, rules, ℕ}
use Rattle.std.proofs.KnownBytes.{Consumes-nil}
use Rattle.std.proofs.lemmas.List.{length-drop, length-take-le, take-append-drop}
use Rattle.std.proofs.lemmas.Result.{err_from_is_err_and}
use Rattle.rtr_units.proofs.Headers.{same_header}
use Rattle.rtr_units.specs.StopCauses.{cause_of, no_memory}
use Rattle.rtr_units.specs.Header.{length_field, type_field}
use Rattle.rtr_units.specs.Reading.{IsWhole}
use Rattle.rtr_payload.specs.UnitKinds.{variable_unit}
use Rattle.rtr_units.specs.HeaderBytes.{header_bytes}
use Rattle.rtr_payload.proofs.Variable.{frame_stops, header_stops, is_read}
use Rattle.rtr_payload.proofs.Rests.{eight_said}
use Rattle.rtr_payload.proofs.pdu.variable_unit.VariableUnit.read_into.Given as Given
use Rattle.rtr_payload.proofs.pdu.variable_unit.VariableUnit.read_into.Goals as goal

pub returns-in_err-check_header-clause-bytes : goal.returns-in_err-check_header-clause-bytes
returns-in_err-check_header-clause-bytes g c =
    let p = err_from_is_err_and c.from_residual.result c.from_residual.ensures.1 in
    let cause = cause_of c.in_err-check_header.field-0.0 in
    rw (p.1, p.2) (
      c.length-size.ensures.header,
      header_stops g.B.Body.PDU (header_bytes c.args.header) cause _ c.length-size.ensures.header.0
          c.in_err-check_header.ensures.answer,
    )

pub returns-then-is_err-clause-bytes : goal.returns-then-is_err-clause-bytes
returns-then-is_err-clause-bytes g c =
    let h = header_bytes c.args.header in
    let size : length_field h ≡ 8 + (c.length-size.result - 8) =
    omega (
      arith,
      c.length-size.ensures.value,
      eight_said _ _ _ _ c.in_ok-check_header.ensures.answer,
    ) in (
      c.length-size.ensures.header,
      (
        (
          [],
          Consumes-nil _,
          frame_stops g.B.Body.PDU (c.length-size.result - 8) h c.length-size.ensures.header.0
              c.in_ok-check_header.ensures.answer size no_memory []
              (g.R.Source.state c.args.reader.now).left (inl refl),
        ),
        refl,
      ),
    )

pub fill_unit-requires-clause-size : goal.fill_unit-requires-clause-size
fill_unit-requires-clause-size g c =
    let within : c.length-size.result ≤ length c.deref_mut.result.now = search rules in
    omega (
      arith,
      within,
      length-take-le c.length-size.result c.deref_mut.result.now within,
      c.length-size.ensures.value,
      eight_said _ _ _ _ c.in_ok-check_header.ensures.answer,
    )

pub returns-in_err-fill_unit-clause-bytes : goal.returns-in_err-fill_unit-clause-bytes
returns-in_err-fill_unit-clause-bytes g c =
    let h = header_bytes c.args.header in
    let before = take c.length-size.result c.deref_mut.result.now in
    let within : c.length-size.result ≤ length c.deref_mut.result.now = search rules in
    let ((t, taken, stops), counts) = c.in_err-fill_unit.ensures.bytes in
    let size : length_field h ≡ 8 + (length before - 8) =
    omega (
      arith,
      within,
      length-take-le c.length-size.result c.deref_mut.result.now within,
      c.length-size.ensures.value,
      eight_said _ _ _ _ c.in_ok-check_header.ensures.answer,
    ) in
    let p = err_from_is_err_and c.from_residual-in_err-fill_unit.result
    c.from_residual-in_err-fill_unit.ensures.1 in
    rw (p.1, p.2) (
      c.length-size.ensures.header,
      (
        (
          t,
          taken,
          frame_stops g.B.Body.PDU (length before - 8) h c.length-size.ensures.header.0
              c.in_ok-check_header.ensures.answer size (cause_of c.in_err-fill_unit.field-0.0) t _
              stops,
        ),
        search rules,
      ),
    )

-- the bytes of the unit are those of its header and the rest
module _ (g : Given.Over) (c : goal.In_ok-fill_unit g) where
  abbrev h : List ℕ
  h = header_bytes c.args.header

  abbrev u : List ℕ
  u = c.fill_unit.new.unit

  parts : u ≡ h ++ drop 8 u
  parts =
      sym (take-append-drop 8 u)
      ∙ ap (λ (l : List ℕ). l ++ drop 8 u) (c.fill_unit.ensures.head ∙ c.as_ref.ensures.bytes)

  long : length u ≡ c.length-size.result
  long =
      let within : c.length-size.result ≤ length c.deref_mut.result.now = search rules in
      c.fill_unit.ensures.size ∙ length-take-le c.length-size.result c.deref_mut.result.now within

  whole : IsWhole (variable_unit g.B.Body.PDU) u
  whole =
      let size : length_field h ≡ 8 + length (drop 8 u) =
      omega (
        arith,
        long,
        length-drop 8 u,
        c.length-size.ensures.value,
        eight_said _ _ _ _ c.in_ok-check_header.ensures.answer,
      ) in
      rw parts
      (is_read g.B.Body.PDU h (drop 8 u) c.length-size.ensures.header c.fill_unit.ensures.range
      c.in_ok-check_header.ensures.answer size)

pub returns-clause-bytes : goal.returns-clause-bytes
returns-clause-bytes g c = (
  c.length-size.ensures.header,
  (((drop 8 (u g c), c.in_ok-fill_unit.ensures.bytes.0.0, parts g c), whole g c), search rules),
)

pub returns-clause-fields : goal.returns-clause-fields
returns-clause-fields g c kind =
    let same = same_header (h g c) (drop 8 (u g c))
    (omega (arith, c.length-size.ensures.header.0)) in
    (c.in_ok-check_header.ensures.whole (u g c) (whole g c)).2
    (ap type_field (parts g c) ∙ same.kind ∙ kind)

pub returns-clause-least : goal.returns-clause-least
returns-clause-least g c = (c.in_ok-check_header.ensures.whole (u g c) (whole g c)).0

pub returns-then-is_err-clause-fields : goal.returns-then-is_err-clause-fields
returns-then-is_err-clause-fields g c = tt

pub returns-then-is_err-clause-least : goal.returns-then-is_err-clause-least
returns-then-is_err-clause-least g c = tt

pub returns-then-is_err-clause-most : goal.returns-then-is_err-clause-most
returns-then-is_err-clause-most g c = tt

pub returns-then-is_err-clause-error : goal.returns-then-is_err-clause-error
returns-then-is_err-clause-error g c = tt

pub returns-clause-error : goal.returns-clause-error
returns-clause-error g c = tt
