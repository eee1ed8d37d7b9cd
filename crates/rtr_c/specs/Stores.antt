-- The struct of C as what a cache serves and what it took (this library's own).
use Rattle.std.specs.Prelude.{ℕ, ◌==◌, ◌&&◌, ◌||◌, Bool, not, nat_le, Option, Some, None}
use Rattle.std.specs.Prelude.{Result, Ok, Err, if◌then◌else◌}
use Rattle.data_history.specs.Stores.{are_of_stores, stores_of}
use Rattle.data_history.specs.declared.numbers.Numbers.{Numbers}
use Rattle.data_history.specs.declared.stores.Stores.{Stores}
use Rattle.rtr_c.specs.Links.{are_flags, flag_set}
use Rattle.rtr_c.specs.declared.stores.RtrStores.{RtrStores}

-- ---- what the struct stands for

abbrev pub numbers_in : RtrStores → Numbers
numbers_in s = record {
  served = if flag_set s.serves then Some s.served else None;
  taken = if flag_set s.waits then Some s.taken else None;
  second = flag_set s.second;
  unsaved = if flag_set s.unsaved then Some s.session else None;
}

abbrev pub stores_in : RtrStores → Stores
stores_in s = stores_of (numbers_in s)

-- the mark, the flags and the numbers are those that calls leave
abbrev pub has_stores : RtrStores → Bool
has_stores s =
    (s.mark == 1398034258)
    && (are_flags s.serves s.waits s.second s.unsaved && are_of_stores (numbers_in s))

abbrev pub made_stores : RtrStores → Option Stores
made_stores s = if has_stores s then Some (stores_in s) else None

-- ---- how a call ended

abbrev pub stores_ok : ℕ
stores_ok = 0

abbrev pub stores_not_made : ℕ
stores_not_made = 1

abbrev pub stores_short_buffer : ℕ
stores_short_buffer = 2

abbrev pub stores_waits : ℕ
stores_waits = 3

abbrev pub stores_flaw : ℕ
stores_flaw = 4

abbrev pub stores_other_session : ℕ
stores_other_session = 5

abbrev pub stores_session_left : ℕ
stores_session_left = 6

abbrev pub stores_other_version : ℕ
stores_other_version = 7

abbrev pub stores_same_data : ℕ
stores_same_data = 8

abbrev pub stores_other_times : ℕ
stores_other_times = 9

abbrev pub stores_old_serial : ℕ
stores_old_serial = 10

abbrev pub stores_malformed : ℕ
stores_malformed = 11

abbrev pub stores_no_room : ℕ
stores_no_room = 12

abbrev pub stores_unknown_serial : ℕ
stores_unknown_serial = 13

abbrev pub stores_unit_version : ℕ
stores_unit_version = 14

-- buffers of these lengths have the stores in them
abbrev pub fits_buffers : RtrStores → (first second : ℕ) → Bool
fits_buffers s first second =
    (not (flag_set s.serves) || nat_le s.served (if flag_set s.second then second else first))
    && (not (flag_set s.waits) || nat_le s.taken (if flag_set s.second then first else second))

-- The stores that the struct stands for, if a call made it and buffers of these lengths have them,
-- or the status of what is wrong.
abbrev pub stores_within : RtrStores → (first second : ℕ) → Result Stores ℕ
stores_within s first second =
    if not (has_stores s) then Err stores_not_made
    else if not (fits_buffers s first second) then Err stores_short_buffer
    else Ok (stores_in s)
