-- What a summary says of units: this program's own. Units are a list, the newest first, and their
-- fields count as they stand in them.
use Rattle.std.specs.Prelude.{ℕ, Bool, true, false, ◌==◌, ◌&&◌, not, List, [], ◌∷◌, ◌++◌, length}
use Rattle.std.specs.Prelude.{Option, Some, None, codes, decimal, if◌then◌else◌, suc, zero, ◌^◌}
use Rattle.std.specs.Prelude.{nat_lt, take}
use Rattle.std.specs.List.{count_by, flat_map}
use Rattle.rtr_units.specs.Header.{type_field}
use Rattle.rtr_payload.specs.UnitFields.{prefix_unit}
use Rattle.unit_any.specs.AnyFields.{AnyFields, any_list, end_of_data, payload}
use Rattle.text_findings.specs.SequenceSoFar.{announces, sequence}
use Rattle.list_lines.specs.Listing.{offset_of}

-- ---- counts

-- the number is there, and is this one
abbrev pub is_number : Option ℕ → ℕ → Bool
is_number None k = false
is_number (Some n) k = n == k

-- of how many of these units the number is k
abbrev pub tally : (AnyFields → Option ℕ) → List AnyFields → ℕ → ℕ
tally number units k = count_by (λ unit. is_number (number unit) k) units

-- the type of the unit (RFC 8210 sections 5.2 to 5.11; ASPA units as in the Rust crate)
abbrev pub type_of : AnyFields → ℕ
type_of unit = type_field (any_list unit)

-- the same of a unit that announces, and of all others
abbrev pub announced_type : AnyFields → Option ℕ
announced_type unit = if announces unit then Some (type_of unit) else None

abbrev pub other_type : AnyFields → Option ℕ
other_type unit = if not (announces unit) then Some (type_of unit) else None

-- the prefix length that a unit of this type announces (RFC 8210 sections 5.6 and 5.7)
abbrev pub announced_length : ℕ → AnyFields → Option ℕ
announced_length kind (payload (prefix_unit u)) =
    if (type_of (payload (prefix_unit u)) == kind) && announces (payload (prefix_unit u))
    then Some u.origin.prefix_len else None
announced_length kind others = None

-- the AS whose prefix a unit announces (the same sections)
abbrev pub announced_as : AnyFields → Option ℕ
announced_as (payload (prefix_unit u)) =
    if announces (payload (prefix_unit u)) then Some u.origin.asn else None
announced_as others = None

-- ---- the ASes that announce most

-- an AS and how many prefixes it announces, put behind those that announce as many or more
abbrev pub ranked : ℕ × ℕ → List (ℕ × ℕ) → List (ℕ × ℕ)
ranked row [] = row ∷ []
ranked row (first ∷ rest) =
    if nat_lt first.1 row.1 then row ∷ first ∷ rest else first ∷ ranked row rest

-- The ASes below n that announce prefixes, put there in the order of their numbers: those that
-- announce most come first, and of those that announce as many the smaller number.
unfoldable pub ranking : (ℕ → ℕ) → ℕ → List (ℕ × ℕ)
ranking ases zero = []
ranking ases (suc n) =
    if ases n == 0 then ranking ases n else ranked (n, ases n) (ranking ases n)

-- the first ten of all
abbrev pub largest : (ℕ → ℕ) → List (ℕ × ℕ)
largest ases = take 10 (ranking ases (2 ^ 32))

-- ---- answers

-- a payload unit that doesn't announce withdraws (RFC 8210 section 5.1)
abbrev pub withdraws : AnyFields → Bool
withdraws (payload fields) = not (announces (payload fields))
withdraws others = false

-- ---- lines

-- what stands before a number, and it
abbrev pub count_line : List ℕ → ℕ → List ℕ
count_line name n = name ++ decimal n ++ codes "\n"

-- whether the input ended after the units
abbrev pub complete_line : Bool → List ℕ
complete_line true = codes "complete:             yes\n"
complete_line false = codes "complete:             no\n"

unfoldable pub size_lines : (complete : Bool) → (bytes units : ℕ) → List ℕ
size_lines complete bytes units =
    complete_line complete
    ++ count_line (codes "bytes:                ") bytes
    ++ count_line (codes "units:                ") units

-- units of each type, those that announce apart
unfoldable pub query_lines : (others : ℕ → ℕ) → List ℕ
query_lines others =
    count_line (codes "serial notify:        ") (others 0)
    ++ count_line (codes "serial query:         ") (others 1)
    ++ count_line (codes "reset query:          ") (others 2)
    ++ count_line (codes "cache response:       ") (others 3)

unfoldable pub prefix_lines : (announced others : ℕ → ℕ) → List ℕ
prefix_lines announced others =
    count_line (codes "IPv4 prefix announce: ") (announced 4)
    ++ count_line (codes "IPv4 prefix withdraw: ") (others 4)
    ++ count_line (codes "IPv6 prefix announce: ") (announced 6)
    ++ count_line (codes "IPv6 prefix withdraw: ") (others 6)

unfoldable pub key_lines : (announced others : ℕ → ℕ) → List ℕ
key_lines announced others =
    count_line (codes "router key announce:  ") (announced 9)
    ++ count_line (codes "router key withdraw:  ") (others 9)
    ++ count_line (codes "ASPA announce:        ") (announced 11)
    ++ count_line (codes "ASPA withdraw:        ") (others 11)

unfoldable pub other_lines : (others : ℕ → ℕ) → List ℕ
other_lines others =
    count_line (codes "end of data:          ") (others 7)
    ++ count_line (codes "cache reset:          ") (others 8)
    ++ count_line (codes "error report:         ") (others 10)

unfoldable pub kind_lines : (announced others : ℕ → ℕ) → List ℕ
kind_lines announced others =
    query_lines others ++ prefix_lines announced others ++ key_lines announced others
    ++ other_lines others

-- an answer: session and serial number of its end of data (RFC 8210 section 5.8), and how many of
-- its units announce and withdraw
abbrev pub whole_answer_line : (session serial announced withdrawn : ℕ) → List ℕ
whole_answer_line session serial announced withdrawn =
    (codes "answer:               session " ++ decimal session)
    ++ (codes " serial " ++ decimal serial) ++ (codes " announces " ++ decimal announced)
    ++ count_line (codes " withdraws ") withdrawn

-- a line of each answer, in their order: an end of data ends the sequence before it (RFC 8210
-- sections 8.1 and 8.2)
abbrev pub answer_lines : List AnyFields → List ℕ
answer_lines [] = []
answer_lines (end_of_data end ∷ before) =
    answer_lines before
    ++ whole_answer_line end.session end.serial
    (count_by announces (sequence before)) (count_by withdraws (sequence before))
answer_lines (others ∷ before) = answer_lines before

-- the same, or that there is none
abbrev pub lines_or_none : List ℕ → List ℕ
lines_or_none [] = codes "answer:               none\n"
lines_or_none lines = lines

-- what stands before a number, it, and its count
abbrev pub number_line : List ℕ → (number count : ℕ) → List ℕ
number_line name number count =
    name ++ decimal number ++ codes " " ++ decimal count ++ codes "\n"

-- of the prefix lengths below n those that came, each with its count
abbrev pub length_line : List ℕ → (len count : ℕ) → List ℕ
length_line name len count = if count == 0 then [] else number_line name len count

unfoldable pub length_lines : List ℕ → (ℕ → ℕ) → ℕ → List ℕ
length_lines name lengths zero = []
length_lines name lengths (suc n) = length_lines name lengths n ++ length_line name n (lengths n)

unfoldable pub all_length_lines : (v4_lengths v6_lengths : ℕ → ℕ) → List ℕ
all_length_lines v4_lengths v6_lengths =
    length_lines (codes "IPv4 prefix length:   /") v4_lengths 256
    ++ length_lines (codes "IPv6 prefix length:   /") v6_lengths 256

-- a line of each of the largest ASes, with its count
abbrev pub as_line : ℕ × ℕ → List ℕ
as_line row = number_line (codes "largest AS:           AS") row.0 row.1

unfoldable pub as_lines : (ℕ → ℕ) → List ℕ
as_lines ases = flat_map as_line (largest ases)

-- ---- a summary

-- the lines of these numbers, with those of answers
unfoldable pub number_lines : (complete : Bool) → (bytes units : ℕ) →
    (announced others : ℕ → ℕ) → (answers : List ℕ) → (v4_lengths v6_lengths ases : ℕ → ℕ) →
    List ℕ
number_lines complete bytes units announced others answers v4_lengths v6_lengths ases =
    size_lines complete bytes units ++ kind_lines announced others ++ lines_or_none answers
    ++ all_length_lines v4_lengths v6_lengths ++ as_lines ases

-- the text of the summary of these units, after which the input ended, or did not
abbrev pub summary_text : Bool → List AnyFields → List ℕ
summary_text complete units =
    number_lines complete (offset_of units) (length units)
    (tally announced_type units) (tally other_type units) (answer_lines units)
    (tally (announced_length 4) units) (tally (announced_length 6) units)
    (tally announced_as units)
