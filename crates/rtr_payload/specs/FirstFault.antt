-- Why a list of bytes begins with neither a unit nor an end of data. The first of these steps that
-- holds names the fault (RFC 8210's sections, where no other is named; the order is this library's
-- own):
--   1  there are fewer than the 8 bytes of a header (section 5.1)
--   2  the type is none of those read here (sections 5.6 to 5.8 and 5.10; ASPA units as in the Rust
--      crate)
--   3  an end of data has a version above 2 (section 5.8; version 2 as in the Rust crate)
--   4  the length field of a router key or an ASPA is above 65535 (as in the Rust crate)
--   5  the length field does not suit the type, or the version of an end of data (sections 5.6 to
--      5.8 and 5.10, RFC 6810 section 5.8; ASPA units as in the Rust crate)
--   6  an ASPA is announced and its length leaves no room for a provider (as in the Rust crate)
--   7  there are fewer bytes than the length field says (section 5.1)
--   8  the lengths of a prefix break their rule (sections 5.1, 5.6 and 5.7)
use Rattle.std.specs.Prelude.{codes, ◌≡◌, ◌⊎◌, ℕ, ◌%◌, Bool, false, not, ◌&&◌, ◌||◌, List, ◌++◌}
use Rattle.std.specs.Prelude.{length, take, slice_index, Option, Some, None, option_map, nat_lt}
use Rattle.std.specs.Prelude.{nat_le}
use Rattle.std.specs.Prelude.{◌==◌, if◌then◌else◌}
use Rattle.std.specs.Option.{option_or}
use Rattle.rtr_units.specs.Header.{version_field, type_field, length_field}
use Rattle.rtr_units.specs.End.{EndMeaning, IsEnd}
use Rattle.rtr_units.specs.Report.{report}
use Rattle.rtr_units.specs.StopCauses.{Refusal, short, unit_type, unit_version, too_long}
use Rattle.rtr_units.specs.StopCauses.{unit_length}
use Rattle.rtr_units.specs.StopCauses.{empty_providers, refused}
use Rattle.rtr_payload.specs.Payloads.{Meaning}
use Rattle.rtr_payload.specs.Units.{IsUnit}
use Rattle.rtr_payload.specs.declared.pdu.prefix_rule.PrefixRule.{PrefixRule}
use Rattle.rtr_payload.specs.declared.pdu.prefix_rule.PrefixRule.TheVariants.{LenOverflow}
use Rattle.rtr_payload.specs.declared.pdu.prefix_rule.PrefixRule.TheVariants.{MaxOverflow}
use Rattle.rtr_payload.specs.declared.pdu.prefix_rule.PrefixRule.TheVariants.{MaxUnderflow}

-- prefixes, ends of data, router keys (RFC 8210 sections 5.6 to 5.8 and 5.10) and ASPA units
abbrev pub is_payload_or_end : ℕ → Bool
is_payload_or_end t = (t == 4) || (t == 6) || (t == 7) || (t == 9) || (t == 11)

-- the length field n suits the type t and the version v: the sizes of RFC 8210 sections 5.6 to 5.8
-- and 5.10, and four bytes for each provider
abbrev pub suits : ℕ → ℕ → ℕ → Bool
suits t v n = if t == 4 then n == 20
    else if t == 6 then n == 32
    else if t == 7 then (if v == 0 then n == 12 else n == 24)
    else if t == 9 then nat_le 32 n
    else if t == 11 then nat_le 12 n && (n % 4 == 0)
    else false

-- steps 2 to 6, by the version v, the type t, byte 2 and the length field n
unfoldable pub header_fault : ℕ → ℕ → ℕ → ℕ → Option Refusal
header_fault v t g n =
    if not (is_payload_or_end t) then Some (unit_type t)
    else if (t == 7) && nat_lt 2 v then Some (unit_version v)
    else if ((t == 9) || (t == 11)) && nat_lt 65535 n then Some too_long
    else if not (suits t v n) then Some unit_length
    else if (t == 11) && ((n == 12) && (g % 2 == 1)) then Some empty_providers
    else None

-- how these lengths break the rule, for an address of as many bits as its width (this library's own
-- order)
unfoldable pub broken_rule : (width prefix_len max_len : ℕ) → Option PrefixRule
broken_rule width prefix_len max_len = if nat_lt width prefix_len then Some LenOverflow
    else if nat_lt width max_len then Some MaxOverflow
    else if nat_lt max_len prefix_len then Some MaxUnderflow
    else None

-- the text of the report (this library's own)
abbrev pub text_of : PrefixRule → List ℕ
text_of LenOverflow = codes "prefix length too large"
text_of MaxOverflow = codes "max-length too large"
text_of MaxUnderflow = codes "max-length smaller than prefix length"

-- the report on the unit u, in its version and with error code 0, corrupt data (RFC 8210 section
-- 12)
abbrev pub refusal_report : List ℕ → PrefixRule → List ℕ
refusal_report u f = report (version_field u) 0 u (text_of f)

-- step 8, for a whole unit u of type t: bytes 9 and 10 of a prefix unit are its lengths (RFC 8210
-- sections 5.6 and 5.7)
abbrev pub prefix_fault : ℕ → List ℕ → Option Refusal
prefix_fault t u = option_map (λ rule. refused (refusal_report u rule))
    (if t == 4 then broken_rule 32 (slice_index u 9) (slice_index u 10)
    else if t == 6 then broken_rule 128 (slice_index u 9) (slice_index u 10)
    else None)

-- steps 1 to 8
abbrev pub first_fault : List ℕ → Option Refusal
first_fault r =
    if nat_lt (length r) 8 then Some short
    else option_or
    (header_fault (version_field r) (type_field r) (slice_index r 2) (length_field r))
    (if nat_lt (length r) (length_field r) then Some short
    else prefix_fault (type_field r) (take (length_field r) r))

-- the bytes that are taken: all, where they end too early; the header, where it is refused; the
-- unit, where its prefix lengths are
abbrev pub taken : Refusal → List ℕ → List ℕ
taken short r = r
taken (unit_type t) r = take 8 r
taken (unit_version v) r = take 8 r
taken too_long r = take 8 r
taken unit_length r = take 8 r
taken empty_providers r = take 8 r
taken (refused f) r = take (length_field r) r

-- a front of r is a unit
pub record BeginsUnit (r : List ℕ) : Type 0 where
  pub bytes : List ℕ
  pub means : Meaning
  pub rest : List ℕ
  pub unit : IsUnit bytes means
  pub parts : r ≡ bytes ++ rest

-- a front of r is an end of data
pub record BeginsEnd (r : List ℕ) : Type 0 where
  pub bytes : List ℕ
  pub means : EndMeaning
  pub rest : List ℕ
  pub end : IsEnd bytes means
  pub parts : r ≡ bytes ++ rest

-- ---- what the front of a list shows of the unit that it begins, whatever follows it

-- h is less than a whole unit, and nothing is wrong but that
abbrev pub IsPartial : List ℕ → Type 0
IsPartial h = first_fault h ≡ Some short

-- after h memory may be asked for: h is the header of a router key or an ASPA unit, with nothing
-- wrong, or all of such a unit
abbrev pub MayAskMemory : List ℕ → Type 0
MayAskMemory h = ((type_field h ≡ 9) ⊎ (type_field h ≡ 11)) ×
    ((IsPartial h × (length h ≡ 8)) ⊎ ((first_fault h ≡ None) × (length h ≡ length_field h)))
