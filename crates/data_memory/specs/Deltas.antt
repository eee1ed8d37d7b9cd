-- What leads a router of one protocol version from old data to new (RFC 8210 section 8.2; what a
-- version has: RFC 6810, RFC 8210, ASPAs as in the Rust crate).
use Rattle.std.specs.Prelude.{ℕ, List, map, filter, nat_le}
use Rattle.std.specs.List.{flat_map}
use Rattle.rtr_payload.specs.Payloads.{Payload, Meaning, smallest_version}
use Rattle.rtr_payload.specs.Units.{form_of}
use Rattle.data_memory.specs.Data.{Change, announcement}
use Rattle.data_memory.specs.Changes.{changes}

-- what version v has of the data
abbrev pub data_for : ℕ → List Payload → List Payload
data_for v d = filter (λ p. nat_le (smallest_version p) v) d

-- the changes from old data to new, of what version v has
abbrev pub changes_for : (v : ℕ) (old new : List Payload) → List Change
changes_for v old new = changes (data_for v old) (data_for v new)

-- all that version v has of the data, announced
abbrev pub all_for : (v : ℕ) (d : List Payload) → List Change
all_for v d = map announcement (data_for v d)

-- what the unit of version v means that makes the change
abbrev pub unit_of : ℕ → Change → Meaning
unit_of v c = record { version = v; action = c.action; payload = c.payload }

-- the written forms of the units of version v that make these changes, joined
abbrev pub change_forms : ℕ → List Change → List ℕ
change_forms v cs = flat_map form_of (map (unit_of v) cs)
