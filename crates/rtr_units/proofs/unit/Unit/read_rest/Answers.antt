use Rattle.std.proofs.Common.{◌≡◌, ◌∙◌, ◌+◌, ◌-◌, ◌++◌, length, arith, rules, None, ap, refl}
use Rattle.rtr_base.proofs.Numbers.{IsBytes-append}
use Rattle.rtr_units.specs.Header.{length_field}
use Rattle.rtr_units.specs.Reading.{of_size}
use Rattle.rtr_units.specs.HeaderBytes.{header_bytes}
use Rattle.rtr_units.proofs.UnitsRead.{sized_by, sized_is, rest_read}
use Rattle.rtr_units.proofs.unit.Unit.read_rest.Goals as goal

pub returns-clause-bytes : goal.returns-clause-bytes
returns-clause-bytes g c =
    let h = header_bytes c.args.header in
    let is = c.length.ensures.header in
    let n = g.Self.Unit.LENGTH - 8 in
    let piece = c.fill.new.piece in
    let field : length_field h ≡ g.Self.Unit.LENGTH = search rules in
    let order : (of_size g.Self.Unit.LENGTH).fault h ≡ None = sized_is g.Self.Unit.LENGTH h field in
    let size : length_field h ≡ 8 + n = omega (arith, field, (g.met.Self.Unit.sized).0) in
    let all : length piece ≡ n =
    omega
    (arith, c.fill.auto.piece, c.split_at_mut-front.ensures.back_len, c.as_mut.ensures.size) in
    let whole =
    g.met.Self.Unit.kept c.args.self.now (c.copy_from_slice.new.self ++ piece)
    ∙ ap (λ l. l ++ piece) (c.copy_from_slice.ensures.after ∙ c.as_ref.ensures.bytes) in (
      is,
      rest_read (of_size g.Self.Unit.LENGTH) (sized_by g.Self.Unit.LENGTH) n h is.0 order size
          c.fill.result _ piece _ _ (IsBytes-append h piece is.1 c.fill.ensures.range) all whole
          c.fill.ensures.bytes,
    )

pub returns-then-length-LENGTH-clause-left : goal.returns-then-length-LENGTH-clause-left
returns-then-length-LENGTH-clause-left g c = refl

pub returns-then-length-LENGTH-clause-error : goal.returns-then-length-LENGTH-clause-error
returns-then-length-LENGTH-clause-error g c = tt

pub returns-clause-error : goal.returns-clause-error
returns-clause-error g c = c.fill.ensures.error
