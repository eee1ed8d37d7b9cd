-- How many routes have each validity, by one list or by two (RFC 6811 section 2). The words are
-- this program's own.
use Rattle.std.specs.Prelude.{ℕ, ◌+◌, ◌-◌, ◌^◌, min, List, ◌++◌, decimal}
use Rattle.data_validation.specs.declared.validity.Validity.{Validity}
use Rattle.data_validation.specs.declared.validity.Validity.TheVariants.{NotFound, Valid, Invalid}
use Rattle.validate_work.specs.declared.states.States.{States}
use Rattle.validate_work.specs.declared.states.Turns.{Turns}

abbrev pub no_states : States
no_states = record { valid = 0; invalid = 0; not_found = 0 }

-- one more, or 2^64 - 1 where there are more
abbrev pub next_count : ℕ → ℕ
next_count n = min (n + 1) (2 ^ 64 - 1)

-- with one more route of this validity
abbrev pub with_state : Validity → States → States
with_state Valid s = record s { valid = next_count s.valid }
with_state Invalid s = record s { invalid = next_count s.invalid }
with_state NotFound s = record s { not_found = next_count s.not_found }

abbrev pub no_turns : Turns
no_turns = record { valid = no_states; invalid = no_states; not_found = no_states }

-- with one more route of this validity by the list in use, and of the next one by the other list
abbrev pub with_turn : (state next : Validity) → Turns → Turns
with_turn Valid next t = record t { valid = with_state next t.valid }
with_turn Invalid next t = record t { invalid = with_state next t.invalid }
with_turn NotFound next t = record t { not_found = with_state next t.not_found }

-- each number after its label
abbrev pub states_text : (valid invalid not_found end : List ℕ) → States → List ℕ
states_text valid invalid not_found end s =
    (valid ++ decimal s.valid) ++ (invalid ++ decimal s.invalid)
    ++ (not_found ++ decimal s.not_found) ++ end
