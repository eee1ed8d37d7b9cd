-- What a unit in numbers says, and what is written for it (this library's own order of refusals;
-- the forms are those of RFC 8210 sections 5.2 to 5.11, of an ASPA as in the Rust crate).
use Rattle.std.specs.Prelude.{◌≡◌, ℕ, ◌+◌, ◌*◌, ◌/◌, ◌%◌, ◌||◌, not, List, [], length, take, drop}
use Rattle.std.specs.Prelude.{Bool, true, false}
use Rattle.std.specs.Prelude.{Option, Some, None, Result, Ok}
use Rattle.std.specs.Prelude.{Err, nat_lt, nat_le, ◌==◌, if◌then◌else◌}
use Rattle.rtr_base.specs.Addresses.{Family, v4, v6, width, cleared, ip_version}
use Rattle.rtr_base.specs.Bytes.{value}
use Rattle.rtr_base.specs.declared.timing.Timing.{Timing}
use Rattle.rtr_units.specs.End.{timed_list}
use Rattle.rtr_units.specs.Queries.{bare_list, serial_list}
use Rattle.rtr_units.specs.Report.{report}
use Rattle.rtr_units.specs.PrefixUnits.{address_bytes}
use Rattle.rtr_payload.specs.Payloads.{origin, key, aspa}
use Rattle.rtr_payload.specs.Providers.{words_of}
use Rattle.rtr_payload.specs.FirstFault.{broken_rule}
use Rattle.rtr_payload.specs.declared.pdu.prefix_rule.PrefixRule.{PrefixRule}
use Rattle.rtr_payload.specs.Units.{form}
use Rattle.unit_views.specs.Placing.{Places}
use Rattle.rtr_c.specs.Answers.{rtr_ok, rtr_unit_type, rtr_unit_version, rtr_too_long}
use Rattle.rtr_c.specs.Answers.{rtr_unit_length, rtr_empty_providers, rtr_prefix, rtr_no_room}
use Rattle.rtr_c.specs.Answers.{rtr_no_form}
use Rattle.rtr_c.specs.declared.unit.RtrUnit.{RtrUnit}

-- this many bytes of the input from this place on, where they lie in it
abbrev pub piece_said : (start size : ℕ) → List ℕ → Option (List ℕ)
piece_said start size input =
    if nat_le (start + size) (length input) then Some (take size (drop start input)) else None

-- the key info, the providers or the unit that a report is about
abbrev pub part_said : RtrUnit → List ℕ → Option (List ℕ)
part_said u input = piece_said u.part_start u.part_length input

-- the text of a report
abbrev pub text_said : RtrUnit → List ℕ → Option (List ℕ)
text_said u input = piece_said u.text_start u.text_length input

-- the provider of this index, of four bytes each
abbrev pub provider_in : Option (List ℕ) → ℕ → Option ℕ
provider_in None i = None
provider_in (Some ps) i =
    if nat_lt i (length ps / 4) then Some (value (take 4 (drop (4 * i) ps))) else None

-- the provider of this index of an ASPA, where its providers lie in the input
abbrev pub provider_said : RtrUnit → List ℕ → ℕ → Option ℕ
provider_said u input i = if u.kind == 11 then provider_in (part_said u input) i else None

-- a provider and that there is one, or 0 and that there is none
abbrev pub TellsProvider : Option ℕ → ℕ → Bool → Type 0
TellsProvider (Some p) provider said = (provider ≡ p) × (said ≡ true)
TellsProvider None provider said = (provider ≡ 0) × (said ≡ false)

-- a form, where the rule on prefix lengths is kept
abbrev pub unless_broken : Option PrefixRule → List ℕ → Result (List ℕ) ℕ
unless_broken None f = Ok f
unless_broken (Some fault) f = Err rtr_prefix

-- the form of a prefix with its address cleared, or the status that refuses it
abbrev pub prefix_said : Family → RtrUnit → Result (List ℕ) ℕ
prefix_said f u =
    if nat_lt 1 u.action || not (u.family == ip_version f) then Err rtr_no_form
    else unless_broken (broken_rule (width f) u.prefix_length u.max_length)
    (form u.version u.action (origin (record {
      family = f;
      address = cleared (width f) u.prefix_length (value (take (address_bytes f) u.address));
      prefix_len = u.prefix_length;
      max_len = u.max_length;
      asn = u.asn;
    })))

-- the form of a router key
abbrev pub key_said : RtrUnit → Option (List ℕ) → Result (List ℕ) ℕ
key_said u None = Err rtr_no_form
key_said u (Some info) =
    if nat_lt 1 u.action then Err rtr_no_form
    else if nat_lt 65503 (length info) then Err rtr_too_long
    else Ok (form u.version u.action
    (key (record { identifier = u.key_identifier; asn = u.asn; info = info })))

-- the form of the ASPA that the unit says, with these providers
abbrev pub aspa_form : RtrUnit → List ℕ → List ℕ
aspa_form u providers =
    form u.version u.action (aspa (record { customer = u.customer; providers = providers }))

-- the form of an ASPA unit, without providers where it is withdrawn
abbrev pub aspa_said : RtrUnit → Option (List ℕ) → Result (List ℕ) ℕ
aspa_said u None = Err rtr_no_form
aspa_said u (Some providers) =
    if nat_lt 1 u.action then Err rtr_no_form
    else if u.action == 0 then Ok (aspa_form u [])
    else if nat_lt 65520 (length providers) then Err rtr_too_long
    else if not (length providers % 4 == 0) then Err rtr_unit_length
    else if length providers == 0 then Err rtr_empty_providers
    else Ok (aspa_form u (words_of providers))

-- the timings of an end of data, which has none in version 0
abbrev pub timing_said : RtrUnit → Option Timing
timing_said u =
    if u.version == 0 then None
    else Some (record { refresh = u.refresh; retry = u.retry; expire = u.expire })

-- an end of data
abbrev pub end_said : RtrUnit → Result (List ℕ) ℕ
end_said u =
    if nat_lt 0 u.action then Err rtr_no_form
    else if nat_lt 2 u.version then Err rtr_unit_version
    else Ok (timed_list u.version u.session u.serial (timing_said u))

-- a unit that has no payload, with this form
abbrev pub plain_said : RtrUnit → List ℕ → Result (List ℕ) ℕ
plain_said u f = if nat_lt 0 u.action then Err rtr_no_form else Ok f

-- an error report about this unit with this text, which aren't cut
abbrev pub report_said : RtrUnit → Option (List ℕ) → Option (List ℕ) → Result (List ℕ) ℕ
report_said u None text = Err rtr_no_form
report_said u (Some p) None = Err rtr_no_form
report_said u (Some p) (Some t) =
    if nat_lt 0 u.action then Err rtr_no_form
    else if nat_lt 65519 (length p + length t) then Err rtr_too_long
    else Ok (report u.version u.code p t)

-- the form of a unit that is no payload unit and no end of data, or the status that refuses it
unfoldable pub session_said : RtrUnit → List ℕ → Result (List ℕ) ℕ
session_said u input =
    if u.kind == 0 then plain_said u (serial_list u.version 0 u.session u.serial)
    else if u.kind == 1 then plain_said u (serial_list u.version 1 u.session u.serial)
    else if u.kind == 2 then plain_said u (bare_list u.version 2 0)
    else if u.kind == 3 then plain_said u (bare_list u.version 3 u.session)
    else if u.kind == 8 then plain_said u (bare_list u.version 8 0)
    else if u.kind == 10 then report_said u (part_said u input) (text_said u input)
    else Err rtr_unit_type

-- the form of the unit, or the status that refuses it
abbrev pub said : RtrUnit → List ℕ → Result (List ℕ) ℕ
said u input =
    if u.kind == 4 then prefix_said v4 u
    else if u.kind == 6 then prefix_said v6 u
    else if u.kind == 7 then end_said u
    else if u.kind == 9 then key_said u (part_said u input)
    else if u.kind == 11 then aspa_said u (part_said u input)
    else session_said u input

-- A form is written where there is room for it, and refused where there is none; what has no form
-- is refused with its status.
abbrev pub Writes : Result (List ℕ) ℕ → Result ℕ ℕ → (before after : List ℕ) → Type 0
Writes (Ok f) (Ok n) before after = Places (Some n) f before after
Writes (Ok f) (Err s) before after = (s ≡ rtr_no_room) × Places None f before after
Writes (Err t) (Ok n) before after = ⊥
Writes (Err t) (Err s) before after = (s ≡ t) × (after ≡ before)

abbrev pub Told : Result ℕ ℕ → (n code : ℕ) → Type 0
Told (Ok k) n code = (n ≡ k) × (code ≡ rtr_ok)
Told (Err s) n code = (n ≡ 0) × (code ≡ s)

-- the same, reported by a status and the number of bytes that were written
abbrev pub TellsWritten : Result (List ℕ) ℕ → (before after : List ℕ) → (n code : ℕ) → Type 0
TellsWritten is before after n code = (r : Result ℕ ℕ) × Writes is r before after × Told r n code
