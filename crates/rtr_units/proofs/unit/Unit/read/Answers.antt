use Rattle.std.proofs.Common.{rules, ◌≡◌}
use Rattle.rtr_units.specs.Header.{type_field}
use Rattle.rtr_units.specs.Reading.{by_bytes, of_size}
use Rattle.rtr_units.specs.HeaderBytes.{header_bytes}
use Rattle.rtr_units.proofs.UnitsRead.{read_both}
use Rattle.rtr_units.proofs.unit.Unit.read.Goals as goal

pub returns : goal.returns
returns g c =
    let h = header_bytes c.in_ok-header.header in
    let is_type : type_field h ≡ g.Self.Unit.PDU = cc in
    record {
      bytes =
          read_both g.Self.Unit.PDU (of_size g.Self.Unit.LENGTH) h
          (by_bytes g.Self.Unit.bytes c.read_payload.result) _ _ _ is_type
          c.in_ok-header.ensures.bytes c.read_payload.ensures.bytes;
      error = search rules;
    }
