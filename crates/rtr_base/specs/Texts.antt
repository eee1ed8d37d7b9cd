-- The texts of errors and address families, as in the Rust crate `rpki`.
use Rattle.std.specs.Prelude.{ℕ, ◌%◌, ◌==◌, List, codes, if◌then◌else◌}
use Rattle.rtr_base.specs.declared.addr.PrefixError.{PrefixError}
use Rattle.rtr_base.specs.declared.addr.PrefixError.TheVariants.{LenOverflow, NonZeroHost}
use Rattle.rtr_base.specs.declared.addr.MaxLenError.{MaxLenError}
use Rattle.rtr_base.specs.declared.addr.MaxLenError.TheVariants.{Overflow, Underflow}

abbrev pub prefix_error_text : PrefixError → List ℕ
prefix_error_text LenOverflow = codes "prefix length too large"
prefix_error_text NonZeroHost = codes "non-zero host portion"

abbrev pub max_len_error_text : MaxLenError → List ℕ
max_len_error_text Overflow = codes "max-length too large"
max_len_error_text Underflow = codes "max-length smaller than prefix length"

abbrev pub afi_text : ℕ → List ℕ
afi_text n = if n % 2 == 0 then codes "ipv4" else codes "ipv6"
