-- The texts of plain values: this library's own, with addresses as std writes them (IPv6 as RFC
-- 5952) and the names of error codes as in RFC 8210 section 12.
use Rattle.std.specs.Prelude.{ℕ, ◌==◌, List, [], ◌++◌, codes, decimal, Option, Some, None}
use Rattle.std.specs.Prelude.{if◌then◌else◌}
use Rattle.std.specs.Net.Addr.{segments_of}
use Rattle.std.specs.Net.Text.{ipv4_text, ipv6_text}
use Rattle.rtr_base.specs.Addresses.{Family, v4, v6, PrefixParts, MaxLenParts}
use Rattle.rtr_base.specs.Bytes.{be}
use Rattle.rtr_base.specs.declared.action.Action.{Action}
use Rattle.rtr_base.specs.declared.action.Action.TheVariants.{Announce, Withdraw}

-- AS65551
abbrev pub asn_text : ℕ → List ℕ
asn_text n = codes "AS" ++ decimal n

-- an address of the family
abbrev pub address_text : Family → ℕ → List ℕ
address_text v4 a = ipv4_text (be a 4)
address_text v6 a = ipv6_text (segments_of (be a 16))

-- 192.0.2.0/23
abbrev pub prefix_text : PrefixParts → List ℕ
prefix_text p = address_text p.family p.address ++ codes "/" ++ decimal p.len

-- a dash and the max length, where one was given
abbrev pub dash_text : Option ℕ → List ℕ
dash_text None = []
dash_text (Some x) = codes "-" ++ decimal x

-- 192.0.2.0/23-26, or 192.0.2.0/23 where no max length was given
abbrev pub max_len_text : MaxLenParts → List ℕ
max_len_text p = prefix_text p.prefix ++ dash_text p.max_len

abbrev pub action_text : Action → List ℕ
action_text Announce = codes "announce"
action_text Withdraw = codes "withdraw"

-- the names of RFC 8210 section 12, and above 8 those of the Rust crate in words
unfoldable pub code_name : ℕ → Option (List ℕ)
code_name n =
    if n == 0 then Some (codes "Corrupt Data")
    else if n == 1 then Some (codes "Internal Error")
    else if n == 2 then Some (codes "No Data Available")
    else if n == 3 then Some (codes "Invalid Request")
    else if n == 4 then Some (codes "Unsupported Protocol Version")
    else if n == 5 then Some (codes "Unsupported PDU Type")
    else if n == 6 then Some (codes "Withdrawal of Unknown Record")
    else if n == 7 then Some (codes "Duplicate Announcement Received")
    else if n == 8 then Some (codes "Unexpected Protocol Version")
    else if n == 9 then Some (codes "ASPA Provider List Error")
    else if n == 10 then Some (codes "Transport Error")
    else if n == 11 then Some (codes "Ordering Error")
    else None

-- a name in brackets after the number
abbrev pub bracketed : Option (List ℕ) → List ℕ
bracketed None = []
bracketed (Some name) = codes " (" ++ name ++ codes ")"

-- 2 (No Data Available), and of a code without a name the number alone
abbrev pub error_code_text : ℕ → List ℕ
error_code_text n = decimal n ++ bracketed (code_name n)
