use Rattle.std.proofs.Common.{refl, ◌≡◌, ◌≤◌, ◌∙◌, [], Ok, Err, sym, ap, arith}
use Rattle.std.proofs.lemmas.Result.{err_from_is_err_and}
use Rattle.std.proofs.KnownBytes.{Consumes-nil}
use Rattle.rtr_units.specs.StopCauses.{cause_of, unit_version}
use Rattle.rtr_units.specs.AnyEnd.{end_unit}
use Rattle.rtr_units.specs.Reading.{of_size}
use Rattle.rtr_units.specs.Header.{version_field, type_field, length_field}
use Rattle.rtr_units.specs.HeaderBytes.{header_bytes}
use Rattle.rtr_units.proofs.UnitsRead.{at_header, end_version, reads_alike, sized_from}
use Rattle.rtr_units.proofs.EndsRead.{end_of_later, end_of_zero, untimed_has}
use Rattle.rtr_units.proofs.EndUnits.{end_with_timing}
use Rattle.rtr_units.proofs.Headers.{same_header}
use Rattle.rtr_units.proofs.end.EndOfData.read_payload.Goals as goal

pub returns-then-version-gt-LAST_VERSION-clause-bytes :
    goal.returns-then-version-gt-LAST_VERSION-clause-bytes
returns-then-version-gt-LAST_VERSION-clause-bytes g c =
    let h = header_bytes c.args.header in
    let is = c.version-version.ensures.header in
    let v = c.version-version.ensures.value in (
      is,
      (
        (
          [],
          Consumes-nil _,
          rw v
              (at_header end_unit (unit_version (version_field h)) h is.0
              (end_version h (omega (arith, v)))),
        ),
        refl,
      ),
    )

pub returns-in_ok-read_payload-clause-end : goal.returns-in_ok-read_payload-clause-end
returns-in_ok-read_payload-clause-end g c is_type =
    let h = header_bytes c.args.header in
    let u = c.in_ok-read_payload.field-0.cells.bytes in
    let (is, (((t, taken, parts), whole), count)) = c.in_ok-read_payload.ensures.bytes in
    let is_version : version_field h ≡ 0 = cc in
    let same = same_header h t (omega (arith, is.0)) in
    let field : length_field u ≡ 12 = sized_from 12 u whole.in_order in
    untimed_has u whole.are_bytes (ap version_field parts ∙ same.version ∙ is_version)
    (ap type_field parts ∙ same.kind ∙ is_type) (whole.size ∙ field) field

pub returns-in_ok-read_payload-2-clause-end : goal.returns-in_ok-read_payload-2-clause-end
returns-in_ok-read_payload-2-clause-end g c is_type =
    let h = header_bytes c.args.header in
    let u = c.in_ok-read_payload-2.field-0.cells.bytes in
    let (is, (((t, taken, parts), whole), count)) = c.in_ok-read_payload-2.ensures.bytes in
    let small : version_field h ≤ 2 =
    rw (← c.version-version.ensures.value) c.if-version-gt-LAST_VERSION.false in
    let later : ¬ (version_field h ≡ 0) =
    λ zero. c.if-version-eq0.false (c.version-version.ensures.value ∙ zero) in
    let same = same_header h t (omega (arith, is.0)) in
    let version : version_field u ≡ version_field h = ap version_field parts ∙ same.version in
    let field : length_field u ≡ 24 = sized_from 24 u whole.in_order in
    end_with_timing u whole.are_bytes (whole.size ∙ field) (rw version small)
    (λ zero. later (sym version ∙ zero)) (ap type_field parts ∙ same.kind ∙ is_type) field

pub returns-in_err-read_payload-clause-bytes : goal.returns-in_err-read_payload-clause-bytes
returns-in_err-read_payload-clause-bytes g c =
    let h = header_bytes c.args.header in
    let (is, reads) = c.in_err-read_payload.ensures.bytes in
    let p = err_from_is_err_and c.from_residual.result c.from_residual.ensures.1 in
    rw (p.1, p.2) (
      is,
      reads_alike (of_size 12) end_unit h (Err (cause_of c.in_err-read_payload.field-0.0))
          (g.R.Source.state c.args.reader.now) (g.R.Source.state c.read_payload.new.reader)
          (end_of_zero h is.0 cc) reads,
    )

pub returns-in_err-read_payload-2-clause-bytes : goal.returns-in_err-read_payload-2-clause-bytes
returns-in_err-read_payload-2-clause-bytes g c =
    let h = header_bytes c.args.header in
    let (is, reads) = c.in_err-read_payload-2.ensures.bytes in
    let v = c.version-version.ensures.value in
    let p = err_from_is_err_and c.from_residual-in_err-read_payload-2.result
    c.from_residual-in_err-read_payload-2.ensures.1 in
    rw (p.1, p.2) (
      is,
      reads_alike (of_size 24) end_unit h (Err (cause_of c.in_err-read_payload-2.field-0.0))
          (g.R.Source.state c.args.reader.now)
          (g.R.Source.state c.read_payload-else-version-eq0.new.reader)
          (end_of_later h is.0 (rw (← v) c.if-version-gt-LAST_VERSION.false)
          (λ zero. c.if-version-eq0.false (v ∙ zero))) reads,
    )

pub returns-in_ok-read_payload-clause-bytes : goal.returns-in_ok-read_payload-clause-bytes
returns-in_ok-read_payload-clause-bytes g c =
    let h = header_bytes c.args.header in
    let (is, reads) = c.in_ok-read_payload.ensures.bytes in (
      is,
      reads_alike (of_size 12) end_unit h (Ok c.in_ok-read_payload.field-0.cells.bytes)
          (g.R.Source.state c.args.reader.now) (g.R.Source.state c.read_payload.new.reader)
          (end_of_zero h is.0 cc) reads,
    )

pub returns-in_ok-read_payload-2-clause-bytes : goal.returns-in_ok-read_payload-2-clause-bytes
returns-in_ok-read_payload-2-clause-bytes g c =
    let h = header_bytes c.args.header in
    let (is, reads) = c.in_ok-read_payload-2.ensures.bytes in
    let v = c.version-version.ensures.value in (
      is,
      reads_alike (of_size 24) end_unit h (Ok c.in_ok-read_payload-2.field-0.cells.bytes)
          (g.R.Source.state c.args.reader.now)
          (g.R.Source.state c.read_payload-else-version-eq0.new.reader)
          (end_of_later h is.0 (rw (← v) c.if-version-gt-LAST_VERSION.false)
          (λ zero. c.if-version-eq0.false (v ∙ zero))) reads,
    )
