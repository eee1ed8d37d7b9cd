-- What C gets of a call, in numbers (this library's own).
use Rattle.std.specs.Prelude.{◌≡◌, ◌<◌, ◌≤◌, ◌⊎◌, ℕ, ◌+◌, List, ◌++◌, length, drop}
use Rattle.std.specs.Prelude.{Result, Ok, Err, nat_lt, if◌then◌else◌}
use Rattle.rtr_units.specs.End.{EndMeaning}
use Rattle.rtr_units.specs.Header.{length_field}
use Rattle.rtr_payload.specs.Payloads.{Meaning}
use Rattle.rtr_payload.specs.declared.pdu.prefix_rule.PrefixRule.{PrefixRule}
use Rattle.rtr_payload.specs.declared.pdu.prefix_rule.PrefixRule.TheVariants.{LenOverflow}
use Rattle.rtr_payload.specs.declared.pdu.prefix_rule.PrefixRule.TheVariants.{MaxOverflow}
use Rattle.rtr_payload.specs.declared.pdu.prefix_rule.PrefixRule.TheVariants.{MaxUnderflow}
use Rattle.unit_views.specs.declared.fault.ViewFault.{ViewFault}
use Rattle.unit_views.specs.declared.fault.ViewFault.TheVariants.{Writer, Short, UnitType}
use Rattle.unit_views.specs.declared.fault.ViewFault.TheVariants.{UnitLength, TooLong}
use Rattle.unit_views.specs.declared.fault.ViewFault.TheVariants.{EmptyProviders, UnitVersion}
use Rattle.unit_views.specs.declared.fault.ViewFault.TheVariants.{Prefix}
use Rattle.unit_views.specs.declared.fault.ViewFault.TheVariants as faults
use Rattle.rtr_wire.specs.Into.{NormalisesInto}
use Rattle.rtr_wire.specs.Sequences.{Accepts, Output, sequence_form, written_units}
use Rattle.rtr_wire.specs.declared.into.IntoFault.{IntoFault}
use Rattle.rtr_wire.specs.declared.into.IntoFault.TheVariants.{NoRoom, TooMany, Refused}
use Rattle.rtr_wire.specs.declared.into.Progress.{Progress}
use Rattle.rtr_c.specs.declared.answer.RtrAnswer.{RtrAnswer}

-- ---- statuses

abbrev pub rtr_ok : ℕ
rtr_ok = 0

abbrev pub rtr_short : ℕ
rtr_short = 1

abbrev pub rtr_unit_type : ℕ
rtr_unit_type = 2

abbrev pub rtr_unit_version : ℕ
rtr_unit_version = 3

abbrev pub rtr_too_long : ℕ
rtr_too_long = 4

abbrev pub rtr_unit_length : ℕ
rtr_unit_length = 5

abbrev pub rtr_empty_providers : ℕ
rtr_empty_providers = 6

abbrev pub rtr_prefix : ℕ
rtr_prefix = 7

abbrev pub rtr_too_many : ℕ
rtr_too_many = 8

abbrev pub rtr_no_room : ℕ
rtr_no_room = 9

abbrev pub rtr_no_form : ℕ
rtr_no_form = 10

abbrev pub rtr_not_canonical : ℕ
rtr_not_canonical = 12

abbrev pub rtr_other_session : ℕ
rtr_other_session = 13

abbrev pub rtr_duplicate : ℕ
rtr_duplicate = 14

abbrev pub rtr_unknown : ℕ
rtr_unknown = 15

abbrev pub rtr_undecided : ℕ
rtr_undecided = 16

abbrev pub rtr_no_index : ℕ
rtr_no_index = 17

abbrev pub rtr_too_many_members : ℕ
rtr_too_many_members = 18

abbrev pub rtr_other_version : ℕ
rtr_other_version = 19

abbrev pub rtr_old_serial : ℕ
rtr_old_serial = 20

abbrev pub rtr_reset_inside : ℕ
rtr_reset_inside = 21

abbrev pub rtr_report_inside : ℕ
rtr_report_inside = 22

-- a reader or a writer failed, as none does here
abbrev pub rtr_failed : ℕ
rtr_failed = 255

-- ---- what is reported of a call

-- the part of the rule on the lengths of a prefix
abbrev pub rule_number : PrefixRule → ℕ
rule_number LenOverflow = 1
rule_number MaxOverflow = 2
rule_number MaxUnderflow = 3

-- the status of a fault of one unit
abbrev pub fault_status : ViewFault → ℕ
fault_status Short = rtr_short
fault_status (UnitType t) = rtr_unit_type
fault_status (UnitVersion v) = rtr_unit_version
fault_status TooLong = rtr_too_long
fault_status UnitLength = rtr_unit_length
fault_status EmptyProviders = rtr_empty_providers
fault_status (Prefix rule) = rtr_prefix
fault_status faults.TooMany = rtr_too_many
fault_status (Writer e) = rtr_failed

-- the type or the version that is refused, or the rule that is broken
abbrev pub fault_detail : ViewFault → ℕ
fault_detail (UnitType t) = t
fault_detail (UnitVersion v) = v
fault_detail (Prefix rule) = rule_number rule
fault_detail _ = 0

-- the status of why a run stopped
abbrev pub stop_status : IntoFault → ℕ
stop_status (Refused e) = fault_status e
stop_status TooMany = rtr_too_many
stop_status NoRoom = rtr_no_room

abbrev pub stop_detail : IntoFault → ℕ
stop_detail (Refused e) = fault_detail e
stop_detail _ = 0

-- the status and the detail of a run, which is accepted where it came to the end of data
abbrev pub run_status : Result Unit IntoFault → ℕ
run_status (Ok done) = rtr_ok
run_status (Err f) = stop_status f

abbrev pub run_detail : Result Unit IntoFault → ℕ
run_detail (Ok done) = 0
run_detail (Err f) = stop_detail f

-- How many bytes are needed at least of a unit that b begins: those of a header, and then as
-- many as it says (RFC 8210 section 5.1).
abbrev pub wanted : List ℕ → ℕ
wanted b = if nat_lt (length b) 8 then 8 else length_field b

-- this many bytes are wanted of a unit of which these are there: more than these, first those of a
-- header, and never more than any unit has (RFC 8210 section 5.1; 65535 as in the Rust crate)
pub record IsWanted (b : List ℕ) (n : ℕ) : Type 0 where
  pub more : length b < n
  pub header : length b < 8 → n ≡ 8
  pub least : 8 ≤ n
  pub most : n ≤ 65535

-- the same of a run that left these bytes, where they are too few
abbrev pub run_wanted : Result Unit IntoFault → List ℕ → ℕ
run_wanted (Err (Refused Short)) left = wanted left
run_wanted r left = 0

-- a run over this input is reported: how far it came and how it ended
pub record Tells (input : List ℕ) (p : Progress) (r : Result Unit IntoFault) (a : RtrAnswer)
    (code : ℕ) : Type 0 where
  pub units : a.units ≡ p.units
  pub forms : a.forms ≡ p.forms
  pub taken : a.taken ≡ p.taken
  pub written : a.written ≡ p.written
  pub wanted : a.wanted ≡ run_wanted r (drop p.taken input)
  pub status : a.status ≡ run_status r
  pub detail : a.detail ≡ run_detail r
  pub answered : code ≡ run_status r

-- what a call that normalises promises of its answer and its status
abbrev pub CallNormalises : Output → (limit : ℕ) → (input before after : List ℕ) → RtrAnswer → ℕ →
    Type 0
CallNormalises what limit input before after a code =
    (p : Progress) × (r : Result Unit IntoFault)
    × NormalisesInto what limit r input before after p × Tells input p r a code

-- the answers of two calls, the second of which goes on where the first stopped, as one
abbrev pub joined_answer : RtrAnswer → RtrAnswer → RtrAnswer
joined_answer a b = record b {
  units = a.units + b.units;
  forms = a.forms + b.forms;
  taken = a.taken + b.taken;
  written = a.written + b.written;
}

-- the sequence b was taken, and the form of what is written of it stands at the front of the output
pub record TellsSequence (what : Output) (b : List ℕ) (ms : List Meaning) (e : EndMeaning)
    (before after : List ℕ) (a : RtrAnswer) (code : ℕ) : Type 0 where
  pub units : a.units ≡ length ms
  pub forms : a.forms ≡ length (written_units what ms)
  pub taken : a.taken ≡ length b
  pub written : a.written ≡ length (sequence_form (written_units what ms) (what.end e))
  pub fits : a.written ≤ length before
  pub output : after ≡ sequence_form (written_units what ms) (what.end e) ++ drop a.written before
  pub wanted : a.wanted ≡ 0
  pub status : a.status ≡ rtr_ok
  pub detail : a.detail ≡ 0
  pub answered : code ≡ rtr_ok

-- An input that begins with a sequence of fewer than limit units is accepted, where the output is
-- as long as what is written, or has this many bytes, which are enough for all inputs of that
-- length.
abbrev pub CallSucceeds : Output → (limit enough : ℕ) → (input before after : List ℕ) → RtrAnswer →
    ℕ → Type 0
CallSucceeds what limit enough input before after a code =
    (b : List ℕ) (ms : List Meaning) (e : EndMeaning) → Accepts input b ms e → length ms < limit →
    (enough ≤ length before)
    ⊎ (length (sequence_form (written_units what ms) (what.end e)) ≤ length before) →
    TellsSequence what b ms e before after a code

-- no other input is
abbrev pub CallSucceedsOnly : Output → ℕ → (input before after : List ℕ) → RtrAnswer → ℕ → Type 0
CallSucceedsOnly what limit input before after a code =
    code ≡ rtr_ok → (b : List ℕ) × (ms : List Meaning) × (e : EndMeaning) × Accepts input b ms e
    × (length ms < limit) × TellsSequence what b ms e before after a code
