use Rattle.std.proofs.Common.{◌≡◌, ◌+◌, ◌-◌, [], refl, arith, None}
use Rattle.std.proofs.KnownBytes.{Consumes-nil}
use Rattle.rtr_units.specs.StopCauses.{too_long, unit_length}
use Rattle.rtr_units.specs.Header.{length_field}
use Rattle.rtr_units.specs.Reading.{any_unit}
use Rattle.rtr_units.specs.HeaderBytes.{header_bytes}
use Rattle.rtr_units.proofs.UnitsRead.{any_is, any_long, any_low, any_by, at_header, rest_passed}
use Rattle.rtr_units.proofs.error.Error.skip_payload.Goals as goal

pub returns-then-length-gt-MAX_SIZE-clause-bytes : goal.returns-then-length-gt-MAX_SIZE-clause-bytes
returns-then-length-gt-MAX_SIZE-clause-bytes g c =
    let h = header_bytes c.args.header in
    let is = c.length-length.ensures.header in (
      [],
      (
        is,
        (
          (
            [],
            Consumes-nil _,
            at_header any_unit too_long h is.0
                (any_long h (omega (arith, c.length-length.ensures.value))),
          ),
          refl,
        ),
      ),
    )

pub returns-then-length-lt8-clause-bytes : goal.returns-then-length-lt8-clause-bytes
returns-then-length-lt8-clause-bytes g c =
    let h = header_bytes c.args.header in
    let is = c.length-length.ensures.header in (
      [],
      (
        is,
        (
          (
            [],
            Consumes-nil _,
            at_header any_unit unit_length h is.0
                (any_low h (omega (arith, c.length-length.ensures.value))),
          ),
          refl,
        ),
      ),
    )

pub returns-clause-bytes : goal.returns-clause-bytes
returns-clause-bytes g c =
    let h = header_bytes c.args.header in
    let is = c.length-length.ensures.header in
    let (t, filled) = c.skip.ensures.bytes in
    let order : any_unit.fault h ≡ None =
    any_is h (omega (arith, c.length-length.ensures.value))
    (omega (arith, c.length-length.ensures.value)) in
    let size : length_field h ≡ 8 + (c.length-length.result - 8) =
    omega (arith, c.length-length.ensures.value) in
    let (u, reads) = rest_passed any_unit any_by (c.length-length.result - 8) h is.0 order size
    c.skip.result t _ _ is.1 filled in
    (u, (is, reads))
