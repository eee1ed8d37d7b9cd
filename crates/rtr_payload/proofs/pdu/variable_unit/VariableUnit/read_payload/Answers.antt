use Rattle.std.proofs.Common.{◌≡◌, ◌≤◌, ◌+◌, ◌-◌, ◌++◌, List}
use Rattle.std.proofs.Common.{length, drop, ap, ◌∙◌, arith, rules, ℕ}
use Rattle.std.proofs.lemmas.List.{length-append}
use Rattle.std.proofs.lemmas.Result.{err_from_is_err_and}
use Rattle.rtr_units.proofs.Headers.{same_header}
use Rattle.rtr_units.specs.StopCauses.{cause_of}
use Rattle.rtr_units.specs.Header.{length_field}
use Rattle.rtr_units.specs.HeaderBytes.{header_bytes}
use Rattle.rtr_payload.proofs.Variable.{frame_stops, header_stops, is_read}
use Rattle.rtr_payload.proofs.Rests.{eight_said}
use Rattle.rtr_payload.proofs.pdu.variable_unit.VariableUnit.read_payload.Goals as goal

pub returns-in_err-check_header-clause-bytes : goal.returns-in_err-check_header-clause-bytes
returns-in_err-check_header-clause-bytes g c =
    let p = err_from_is_err_and c.from_residual.result c.from_residual.ensures.1 in
    rw (p.1, p.2) (
      c.length-size.ensures.header,
      header_stops g.B.Body.PDU (header_bytes c.args.header)
          (cause_of c.in_err-check_header.field-0.0) _ c.length-size.ensures.header.0
          c.in_err-check_header.ensures.answer,
    )

pub overflow_sub-size : goal.overflow_sub-size
overflow_sub-size g c =
    omega (
      arith,
      c.length-size.ensures.value,
      eight_said _ _ _ _ c.in_ok-check_header.ensures.answer,
    )

pub from_frame-requires : goal.from_frame-requires
from_frame-requires g c =
    let h = header_bytes c.args.header in
    let t = c.in_ok-frame.frame in
    let size : length_field h ≡ 8 + length t =
    omega (
      arith,
      c.length-size.ensures.value,
      c.in_ok-frame.ensures.bytes.0.1,
      eight_said _ _ _ _ c.in_ok-check_header.ensures.answer,
    ) in
    let whole = is_read g.B.Body.PDU h t c.length-size.ensures.header c.in_ok-frame.ensures.range
    c.in_ok-check_header.ensures.answer size in
    let body = c.in_ok-check_header.ensures.whole (h ++ t) whole in
    let long : g.row.FIXED ≤ 8 + length t =
    omega (arith, body.0, length-append h t, c.length-size.ensures.header.0) in
    let fits : g.B.Body.is_body (drop g.row.FIXED (c.as_ref-head.result.now ++ t)) =
    rw c.as_ref-head.ensures.bytes body.1 in
    search rules

pub returns-clause-bytes : goal.returns-clause-bytes
returns-clause-bytes g c =
    let h = header_bytes c.args.header in
    let t = c.in_ok-frame.frame in
    let size : length_field h ≡ 8 + length t =
    omega (
      arith,
      c.length-size.ensures.value,
      c.in_ok-frame.ensures.bytes.0.1,
      eight_said _ _ _ _ c.in_ok-check_header.ensures.answer,
    ) in
    let is : c.from_frame.result ≡ h ++ t =
    c.from_frame.ensures ∙ ap (λ (l : List ℕ). l ++ t) c.as_ref-head.ensures.bytes in
    let whole = is_read g.B.Body.PDU h t c.length-size.ensures.header c.in_ok-frame.ensures.range
    c.in_ok-check_header.ensures.answer size in (
      c.length-size.ensures.header,
      (((t, c.in_ok-frame.ensures.bytes.0.0, is), rw is whole), search rules),
    )

pub returns-clause-fields : goal.returns-clause-fields
returns-clause-fields g c =
    let h = header_bytes c.args.header in
    let t = c.in_ok-frame.frame in
    let size : length_field h ≡ 8 + length t =
    omega (
      arith,
      c.length-size.ensures.value,
      c.in_ok-frame.ensures.bytes.0.1,
      eight_said _ _ _ _ c.in_ok-check_header.ensures.answer,
    ) in
    let is : c.from_frame.result ≡ h ++ t =
    c.from_frame.ensures ∙ ap (λ (l : List ℕ). l ++ t) c.as_ref-head.ensures.bytes in
    let whole = is_read g.B.Body.PDU h t c.length-size.ensures.header c.in_ok-frame.ensures.range
    c.in_ok-check_header.ensures.answer size in
    let same = same_header h t (omega (arith, c.length-size.ensures.header.0)) in
    λ kind. rw is ((c.in_ok-check_header.ensures.whole (h ++ t) whole).2 (same.kind ∙ kind))

pub returns-in_err-frame-clause-bytes : goal.returns-in_err-frame-clause-bytes
returns-in_err-frame-clause-bytes g c =
    let h = header_bytes c.args.header in
    let ((t, taken, stops), counts) = c.in_err-frame.ensures.bytes in
    let size : length_field h ≡ 8 + (c.length-size.result - 8) =
    omega (
      arith,
      c.length-size.ensures.value,
      eight_said _ _ _ _ c.in_ok-check_header.ensures.answer,
    ) in
    let p = err_from_is_err_and c.from_residual-in_err-frame.result
    c.from_residual-in_err-frame.ensures.1 in
    rw (p.1, p.2) (
      c.length-size.ensures.header,
      (
        (
          t,
          taken,
          frame_stops g.B.Body.PDU (c.length-size.result - 8) h
              c.length-size.ensures.header.0 c.in_ok-check_header.ensures.answer size
              (cause_of c.in_err-frame.field-0.0) t _ stops,
        ),
        search rules,
      ),
    )
