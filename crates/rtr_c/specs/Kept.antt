-- What is shown of a unit that was written from its fields (this library's own; the fields by RFC
-- 8210 sections 5.2 to 5.11, of an ASPA as in the Rust crate).
use Rattle.std.specs.Prelude.{◌≡◌, ◌≤◌, ℕ, ◌+◌, ◌&&◌, ◌||◌, Bool, List, [], ◌++◌, length, take}
use Rattle.std.specs.Prelude.{Option, Some, Result, ◌==◌, if◌then◌else◌}
use Rattle.rtr_base.specs.Addresses.{Family, v4, v6, width, cleared, ip_version}
use Rattle.rtr_base.specs.Bytes.{value}
use Rattle.rtr_units.specs.AnyEnd.{end_length}
use Rattle.rtr_units.specs.PrefixUnits.{prefix_type, prefix_size, address_bytes}
use Rattle.unit_views.specs.declared.fault.ViewFault.{ViewFault}
use Rattle.unit_any.specs.AnyFields.{AnyFields, HasAnyFields}
use Rattle.rtr_c.specs.Answers.{rtr_ok}
use Rattle.rtr_c.specs.WrittenUnits.{part_said, text_said, timing_said}
use Rattle.rtr_c.specs.ShownUnits.{none, serial_shown, bare_shown, end_shown, address_shown}
use Rattle.rtr_c.specs.ShownUnits.{report_shown, with_parts, CallShows, ShowsFirst}
use Rattle.rtr_c.specs.declared.unit.RtrUnit.{RtrUnit}

-- a prefix, with the bits of its address after the prefix length zero
abbrev pub prefix_kept : Family → RtrUnit → RtrUnit
prefix_kept f u = record none {
  size = prefix_size f;
  asn = u.asn;
  kind = prefix_type f;
  version = u.version;
  action = u.action;
  family = ip_version f;
  prefix_length = u.prefix_length;
  max_length = u.max_length;
  address =
      address_shown f
      (cleared (width f) u.prefix_length (value (take (address_bytes f) u.address)));
}

-- an end of data, in version 0 without timings
abbrev pub end_kept : RtrUnit → RtrUnit
end_kept u = end_shown (end_length u.version) (record {
  version = u.version;
  session = u.session;
  serial = u.serial;
  timing = timing_said u;
})

-- a router key, whose key info follows 32 bytes
abbrev pub key_kept : RtrUnit → RtrUnit
key_kept u = record none {
  size = 32 + u.part_length;
  part_start = 32;
  part_length = u.part_length;
  asn = u.asn;
  kind = 9;
  version = u.version;
  action = u.action;
  key_identifier = u.key_identifier;
}

-- an ASPA, whose providers, of this many bytes, follow 12 bytes
abbrev pub aspa_kept : (bytes : ℕ) → RtrUnit → RtrUnit
aspa_kept n u = record none {
  size = 12 + n;
  part_start = 12;
  part_length = n;
  customer = u.customer;
  kind = 11;
  version = u.version;
  action = u.action;
}

-- a report with its unit and its text
abbrev pub report_kept : RtrUnit → RtrUnit
report_kept u = with_parts u.part_length u.text_length
    (report_shown (16 + u.part_length + u.text_length) u.version u.code)

-- What is shown of the unit that is written of u: the fields of its kind as they are in u, and all
-- others zero. So a reset query and a cache reset have no session, and a withdrawn ASPA has no
-- providers; and key info, providers, unit and text stand at their places in the unit itself.
abbrev pub kept : RtrUnit → RtrUnit
kept u =
    if u.kind == 0 then serial_shown 0 12 u.version u.session u.serial
    else if u.kind == 1 then serial_shown 1 12 u.version u.session u.serial
    else if u.kind == 2 then bare_shown 2 8 u.version 0
    else if u.kind == 3 then bare_shown 3 8 u.version u.session
    else if u.kind == 4 then prefix_kept v4 u
    else if u.kind == 6 then prefix_kept v6 u
    else if u.kind == 7 then end_kept u
    else if u.kind == 8 then bare_shown 8 8 u.version 0
    else if u.kind == 9 then key_kept u
    else if u.kind == 10 then report_kept u
    else aspa_kept (if u.action == 0 then 0 else u.part_length) u

-- whether what is written has a part: key info, providers, or the unit that a report is about
abbrev pub has_part : RtrUnit → Bool
has_part u = (u.kind == 9) || (u.kind == 10) || ((u.kind == 11) && (u.action == 1))

-- its part and its text
abbrev pub kept_part : RtrUnit → List ℕ → Option (List ℕ)
kept_part u input = if has_part u then part_said u input else Some []

abbrev pub kept_text : RtrUnit → List ℕ → Option (List ℕ)
kept_text u input = if u.kind == 10 then text_said u input else Some []

-- What was written of u is one unit b of at most 65535 bytes, which has just these fields. They are
-- shown of it, whatever follows it, and its part and its text are those that u says of its input.
pub record IsShownAgain (u : RtrUnit) (input b : List ℕ) : Type 0 where
  pub one : (f : AnyFields) × HasAnyFields b f × CallShows b f (kept u)
  pub most : length b ≤ 65535
  pub shown : (rest : List ℕ) (r : Result (List ℕ × AnyFields) ViewFault) (w : RtrUnit)
      (code : ℕ) → ShowsFirst r (b ++ rest) w code → (w ≡ kept u) × (code ≡ rtr_ok)
  pub part : (rest : List ℕ) → part_said (kept u) (b ++ rest) ≡ kept_part u input
  pub text : (rest : List ℕ) → text_said (kept u) (b ++ rest) ≡ kept_text u input
