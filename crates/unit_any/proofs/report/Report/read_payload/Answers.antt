use Rattle.std.proofs.Common.{rules, ap, Some, refl, ◌≡◌, ◌+◌, ◌∙◌, [], length, sym, subst, arith}
use Rattle.std.proofs.lemmas.Result.{err_from_is_err_and}
use Rattle.std.proofs.KnownBytes.{Consumes-nil}
use Rattle.std.specs.Vec.{vec_len}
use Rattle.rtr_units.specs.StopCauses.{too_long, unit_length, unit_type, cause_of}
use Rattle.rtr_units.specs.Header.{type_field, length_field}
use Rattle.rtr_units.specs.HeaderBytes.{AreBytes, header_bytes}
use Rattle.rtr_units.proofs.UnitsRead.{at_header, rest_stops, typed_not}
use Rattle.unit_any.specs.SessionKinds.{report_sized, report_unit}
use Rattle.unit_any.specs.Reports.{IsReport}
use Rattle.unit_any.proofs.Headers.{report_by}
use Rattle.unit_any.proofs.Reports.{report_in_order, report_too_long, report_too_short}
use Rattle.unit_any.proofs.Reports.{report_read, frame_is}
use Rattle.unit_any.proofs.report.Report.read_payload.Goals as goal

pub returns-then-size-lt-MIN_SIZE : goal.returns-then-size-lt-MIN_SIZE
returns-then-size-lt-MIN_SIZE g c =
    let h = header_bytes c.args.header in
    let l : length h ≡ 8 = c.pdu.ensures.header.0 in
    let kind : type_field h ≡ 10 = sym c.pdu.ensures.value ∙ c.if-pdu-ne-PDU.false in record {
      bytes = (
        c.pdu.ensures.header,
        (
          (
            [],
            Consumes-nil _,
            at_header report_unit unit_length h l
                (report_too_short h kind (omega (arith, c.length-size.ensures.value))),
          ),
          refl,
        ),
      );
      error = search rules;
    }

pub invariant_of-result : goal.invariant_of-result
invariant_of-result g c =
    let h = header_bytes c.args.header in
    let t = c.fill.new.piece in
    let kind : type_field h ≡ 10 = sym c.pdu.ensures.value ∙ c.if-pdu-ne-PDU.false in
    let lent : AreBytes 8 c.as_ref.result.now = (c.as_ref.ensures.size, c.as_ref.ensures.range) in
    let bytes : AreBytes 8 h = subst (AreBytes 8) c.as_ref.ensures.bytes lent in
    let room : vec_len c.resize.new.self ≡ c.length-size.result =
    rw c.if-is_err.ensures.negation at c.resize.ensures.len in
    let size : length t + 8 ≡ c.length-size.result =
    omega (
      arith,
      c.fill.auto.piece,
      c.split_at_mut-front.ensures.back_len,
      c.as_mut_slice.ensures.len,
      room,
    ) in
    let is =
    frame_is (vec_len c.resize.new.self) h c.copy_from_slice.new.self t c.resize.new.self.items
    (c.copy_from_slice.ensures.after ∙ c.as_ref.ensures.bytes) bytes.0 (size ∙ sym room) in
    subst IsReport (sym is)
    (report_read h t bytes c.fill.ensures.range kind (omega (arith, c.length-size.ensures.value))
    (omega (arith, c.length-size.ensures.value)) (size ∙ c.length-size.ensures.value))

pub returns : goal.returns
returns g c =
    let h = header_bytes c.args.header in
    let t = c.fill.new.piece in
    let kind : type_field h ≡ 10 = sym c.pdu.ensures.value ∙ c.if-pdu-ne-PDU.false in
    let lent : AreBytes 8 c.as_ref.result.now = (c.as_ref.ensures.size, c.as_ref.ensures.range) in
    let bytes : AreBytes 8 h = subst (AreBytes 8) c.as_ref.ensures.bytes lent in
    let room : vec_len c.resize.new.self ≡ c.length-size.result =
    rw c.if-is_err.ensures.negation at c.resize.ensures.len in
    let size : length t + 8 ≡ c.length-size.result =
    omega (
      arith,
      c.fill.auto.piece,
      c.split_at_mut-front.ensures.back_len,
      c.as_mut_slice.ensures.len,
      room,
    ) in
    let is =
    frame_is (vec_len c.resize.new.self) h c.copy_from_slice.new.self t c.resize.new.self.items
    (c.copy_from_slice.ensures.after ∙ c.as_ref.ensures.bytes) bytes.0 (size ∙ sym room) in record {
      bytes = (
        c.pdu.ensures.header,
        (
          (
            (t, c.in_ok-fill.ensures.bytes.0.0, is),
            subst IsReport (sym is)
                (report_read h t bytes c.fill.ensures.range kind
                (omega (arith, c.length-size.ensures.value))
                (omega (arith, c.length-size.ensures.value))
                (size ∙ c.length-size.ensures.value)),
          ),
          c.in_ok-fill.ensures.bytes.1,
        ),
      );
      error = search rules;
    }

pub returns-in_err-fill : goal.returns-in_err-fill
returns-in_err-fill g c =
    let h = header_bytes c.args.header in
    let ((t, taken, s), counts) = c.in_err-fill.ensures.bytes in
    let kind : type_field h ≡ 10 = sym c.pdu.ensures.value ∙ c.if-pdu-ne-PDU.false in
    let l : length h ≡ 8 = c.pdu.ensures.header.0 in
    let room : vec_len c.resize.new.self ≡ c.length-size.result =
    rw c.if-is_err.ensures.negation at c.resize.ensures.len in
    let size : length_field h ≡ 8 + length c.fill.new.piece =
    omega (
      arith,
      c.fill.auto.piece,
      c.split_at_mut-front.ensures.back_len,
      c.as_mut_slice.ensures.len,
      room,
      c.length-size.ensures.value,
    ) in
    let order = report_in_order h kind (omega (arith, c.length-size.ensures.value))
    (omega (arith, c.length-size.ensures.value)) in
    let p = err_from_is_err_and c.from_residual.result c.from_residual.ensures.1 in
    rw (p.1, p.2) (record {
      bytes = (
        c.pdu.ensures.header,
        (
          (
            t,
            taken,
            rest_stops report_unit report_by (length c.fill.new.piece) h l order size
                (cause_of c.in_err-fill.field-0.0) t _ s,
          ),
          counts,
        ),
      );
      error = search rules;
    })

pub returns-then-pdu-ne-PDU : goal.returns-then-pdu-ne-PDU
returns-then-pdu-ne-PDU g c =
    let h = header_bytes c.args.header in
    let other : ¬ (type_field h ≡ 10) = λ ten. c.if-pdu-ne-PDU.true (c.pdu.ensures.value ∙ ten) in
    let fault =
    typed_not 10 report_sized h other
    ∙ ap (λ t. Some (unit_type t)) (sym c.pdu-then-pdu-ne-PDU.ensures.value) in record {
      bytes = (
        c.pdu.ensures.header,
        (([], Consumes-nil _, at_header report_unit _ h c.pdu.ensures.header.0 fault), refl),
      );
      error = search rules;
    }

pub returns-then-size-gt-MAX_SIZE : goal.returns-then-size-gt-MAX_SIZE
returns-then-size-gt-MAX_SIZE g c =
    let h = header_bytes c.args.header in
    let kind : type_field h ≡ 10 = sym c.pdu.ensures.value ∙ c.if-pdu-ne-PDU.false in record {
      bytes = (
        c.pdu.ensures.header,
        (
          (
            [],
            Consumes-nil _,
            at_header report_unit too_long h c.pdu.ensures.header.0
                (report_too_long h kind (omega (arith, c.length-size.ensures.value))),
          ),
          refl,
        ),
      );
      error = search rules;
    }
