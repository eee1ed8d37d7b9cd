use Rattle.std.proofs.Common.{arith}
use Rattle.rtr_c.proofs.laws.ranged.Goals as goal

pub returns : goal.returns
returns c = record {
  version = omega arith;
  session = omega arith;
  code = omega arith;
  serial = omega arith;
  refresh = omega arith;
  retry = omega arith;
  expire = omega arith;
  asn = c.systems.ensures.asn;
  customer = c.systems.ensures.customer;
  address_size = omega arith;
  address = c.are_bytes.ensures;
  identifier_size = omega arith;
  identifier = c.are_bytes-2.ensures;
}
