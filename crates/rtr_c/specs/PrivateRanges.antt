-- The ranges of the numbers of a unit for C. Only contracts of private functions cite these.
use Rattle.std.specs.Prelude.{◌≡◌, ◌<◌, ◌^◌, length}
use Rattle.rtr_base.specs.Bytes.{IsBytes}
use Rattle.rtr_c.specs.declared.unit.RtrUnit.{RtrUnit}

-- each number is one of its type, and so is each list of bytes
pub record IsRanged (u : RtrUnit) : Type 0 where
  pub version : u.version < 256
  pub session : u.session < 2 ^ 16
  pub code : u.code < 2 ^ 16
  pub serial : u.serial < 2 ^ 32
  pub refresh : u.refresh < 2 ^ 32
  pub retry : u.retry < 2 ^ 32
  pub expire : u.expire < 2 ^ 32
  pub asn : u.asn < 2 ^ 32
  pub customer : u.customer < 2 ^ 32
  pub address_size : length u.address ≡ 16
  pub address : IsBytes u.address
  pub identifier_size : length u.key_identifier ≡ 20
  pub identifier : IsBytes u.key_identifier
