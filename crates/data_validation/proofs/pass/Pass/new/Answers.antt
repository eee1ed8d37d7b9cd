use Rattle.rtr_base.specs.Addresses.{v4, v6}
use Rattle.data_validation.proofs.pass.Pass.new.Goals as goal

pub invariant_of-result : goal.invariant_of-result
invariant_of-result c = record {
  of_ipv4 = c.new.ensures v4 _ _ _;
  of_ipv6 = c.new-2.ensures v6 _ _ _;
}
