use Rattle.std.proofs.Common.{◌++◌, ◌∙◌, Err, ap}
use Rattle.std.proofs.lemmas.Result.{err_from_is_err_and}
use Rattle.std.proofs.KnownBytes.{Consumes-trans}
use Rattle.rtr_units.specs.StopCauses.{cause_of}
use Rattle.rtr_units.specs.StopCauses.{reader_count}
use Rattle.rtr_units.specs.HeaderBytes.{header_bytes}
use Rattle.unit_any.specs.declared.any_unit.AnyUnit.{AnyUnit}
use Rattle.unit_any.proofs.any_unit.AnyUnit.read.Goals as goal

pub returns-in_err-read_payload-clause-bytes : goal.returns-in_err-read_payload-clause-bytes
returns-in_err-read_payload-clause-bytes g c =
    let p = err_from_is_err_and c.from_residual-in_err-read_payload.result
    c.from_residual-in_err-read_payload.ensures.1 in
    let h = header_bytes c.in-Some.header in
    let (took, same) = rw c.in-Some.is at c.in_ok-header.ensures.bytes in
    let ((t, taken, stops), counts) = c.in_err-read_payload.ensures.bytes in
    rw (p.1, p.2) (
      (h ++ t, Consumes-trans _ _ _ h t took taken, stops),
      counts
          ∙ ap (reader_count {T = AnyUnit} (Err (cause_of c.in_err-read_payload.field-0.0))) same,
    )

pub returns-in_default-clause-error : goal.returns-in_default-clause-error
returns-in_default-clause-error g c = tt

pub returns-clause-error : goal.returns-clause-error
returns-clause-error g c = tt
