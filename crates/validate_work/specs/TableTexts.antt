-- Which words of a line of a table of routes are its prefix and its origin AS, in the formats in
-- which other programs print tables: this program's own, by what those programs print.
use Rattle.std.specs.Prelude.{◌≡◌, ◌⊎◌, ℕ, zero, suc, List, [], ◌∷◌, codes, bytes_eq, length}
use Rattle.std.specs.Prelude.{Bool, false, true, ◌==◌, if◌then◌else◌, get_or}
use Rattle.std.specs.Prelude.{Option, Some, None, Result, Ok, Err, MatchResult}
use Rattle.std.specs.Prelude.{option_and_then, option_map}
use Rattle.std.specs.Str.{IsUtf8, trim_end, trim_start}
use Rattle.rtr_base.specs.ReadTexts.{IsPrefixText}
use Rattle.validate_work.specs.RouteWords.{PrefixAndAsn, words_for}
use Rattle.validate_work.specs.RouteTexts.{HasRoute, IsOriginText, RefusesLine, RefusesWords}
use Rattle.validate_work.specs.declared.route_text.RouteError.{RouteError}
use Rattle.validate_work.specs.declared.route_text.RouteError.TheVariants as errors
use Rattle.validate_work.specs.declared.route_text.TableRoute.{TableRoute}
use Rattle.validate_work.specs.declared.table.Printer.{Printer}
use Rattle.validate_work.specs.declared.table.Printer.TheVariants.{Bgpdump, Bird, Frr}
use Rattle.validate_work.specs.declared.table.Table.{Table}
use Rattle.validate_work.specs.declared.table.Table.TheVariants.{Lines, Printed}
use Rattle.validate_work.specs.declared.words.RouteWords.{RouteWords}

-- ---- parts of a text

-- the text before the first of this byte and the text after it, if it has one
unfoldable pub split_first : (c : ℕ) → List ℕ → Option (List ℕ × List ℕ)
split_first c [] = None
split_first c (b ∷ text) = if b == c then Some ([], text)
    else option_map (λ p. (b ∷ p.0, p.1)) (split_first c text)

-- the same of the last of this byte
abbrev pub split_later : Option (List ℕ × List ℕ) → (c b : ℕ) → List ℕ → Option (List ℕ × List ℕ)
split_later None c b text = if b == c then Some ([], text) else None
split_later (Some p) c b text = Some (b ∷ p.0, p.1)

unfoldable pub split_last : (c : ℕ) → List ℕ → Option (List ℕ × List ℕ)
split_last c [] = None
split_last c (b ∷ text) = split_later (split_last c text) c b text

abbrev pub front_or : List ℕ → Option (List ℕ × List ℕ) → List ℕ
front_or text None = text
front_or text (Some p) = p.0

abbrev pub back_or : List ℕ → Option (List ℕ × List ℕ) → List ℕ
back_or text None = text
back_or text (Some p) = p.1

-- up to the first space, and after the last
abbrev pub first_word : List ℕ → List ℕ
first_word text = front_or text (split_first 32 text)

abbrev pub last_word : List ℕ → List ℕ
last_word text = back_or text (split_last 32 text)

-- the text after this byte, if it begins with it
abbrev pub after_char : (c : ℕ) → List ℕ → Option (List ℕ)
after_char c [] = None
after_char c (b ∷ text) = if b == c then Some text else None

-- the text without this byte at its front, where it has it
abbrev pub text_or : List ℕ → Option (List ℕ) → List ℕ
text_or text None = text
text_or text (Some rest) = rest

abbrev pub without_byte : (c : ℕ) → List ℕ → List ℕ
without_byte c text = text_or text (after_char c text)

-- ---- what a line has

-- the words for a prefix and an origin AS, or none, or why it is refused
abbrev pub Entry : Type 0
Entry = Result (Option PrefixAndAsn) RouteError

abbrev pub entry : (prefix asn : List ℕ) → Entry
entry prefix asn = Ok (Some (record { prefix = prefix; asn = asn }))

abbrev pub words_entry : Result (Option RouteWords) RouteError → Entry
words_entry (Ok None) = Ok None
words_entry (Ok (Some r)) = Ok (Some (words_for r))
words_entry (Err e) = Err e

-- ---- `bgpdump -m`

-- the text between two bars, of which the first has the number 0
unfoldable pub field_at : ℕ → List ℕ → Option (List ℕ)
field_at zero text = Some (front_or text (split_first 124 text))
field_at (suc n) text = option_and_then (λ p. field_at n p.1) (split_first 124 text)

abbrev pub is_text : List ℕ → Option (List ℕ) → Bool
is_text wanted None = false
is_text wanted (Some text) = bytes_eq text wanted

-- TABLE_DUMP2|time|B|: a route of a peer, in a dump of a table (RFC 6396 section 4.3)
abbrev pub is_table_dump : List ℕ → Bool
is_table_dump text = if is_text (codes "TABLE_DUMP2") (field_at 0 text)
    then is_text (codes "B") (field_at 2 text) else false

-- The origin AS is the last of the path. An empty path is that of a peer in the same AS, which is
-- the origin then (RFC 6811 section 2).
abbrev pub path_origin : (peer path : List ℕ) → List ℕ
path_origin peer path = if length path == 0 then peer else last_word path

abbrev pub dump_fields : (peer prefix path : Option (List ℕ)) → Entry
dump_fields (Some peer) (Some prefix) (Some path) = entry prefix (path_origin peer path)
dump_fields None prefix path = Err errors.Form
dump_fields (Some peer) None path = Err errors.Form
dump_fields (Some peer) (Some prefix) None = Err errors.Form

-- TABLE_DUMP2|time|B|peer|AS of the peer|prefix|path|..
abbrev pub bgpdump_entry : List ℕ → Entry
bgpdump_entry text = if is_table_dump text
    then dump_fields (field_at 4 text) (field_at 5 text) (field_at 6 text) else Err errors.Form

-- ---- BIRD's `show route`

-- what BIRD prints before a table
abbrev pub is_bird_heading : List ℕ → Bool
is_bird_heading word = if bytes_eq word (codes "BIRD") then true else
    if bytes_eq word (codes "Table") then true else bytes_eq word (codes "Access")

-- the text before this letter and a last bracket
abbrev pub before_bracket : Option (List ℕ × List ℕ) → Option (List ℕ)
before_bracket None = None
before_bracket (Some p) = if bytes_eq p.1 (codes "]") then Some p.0 else None

abbrev pub origin_before : (letter : ℕ) → List ℕ → Option (List ℕ)
origin_before letter text = before_bracket (split_last letter text)

abbrev pub or_text : Option (List ℕ) → Option (List ℕ) → Option (List ℕ)
or_text None other = other
or_text (Some text) other = Some text

-- AS64496i], the letter of its origin attribute, i, e or ?, and a bracket
abbrev pub origin_in_brackets : List ℕ → Option (List ℕ)
origin_in_brackets text =
    or_text (origin_before 105 text) (or_text (origin_before 101 text) (origin_before 63 text))

-- without an AS the path is empty, or ends with an AS_SET: which, BIRD doesn't print
abbrev pub bird_origin : (prefix : List ℕ) → Option (List ℕ) → Entry
bird_origin prefix None = Err errors.NoAsn
bird_origin prefix (Some origin) =
    if length origin == 0 then Err errors.NoAsn else entry prefix origin

abbrev pub bird_bracket : (prefix : List ℕ) → Option (List ℕ × List ℕ) → Entry
bird_bracket prefix None = Err errors.NoAsn
bird_bracket prefix (Some p) = bird_origin prefix (origin_in_brackets p.1)

-- 10.0.0.0/8 .. [AS64496i]. A line that begins with a tab says more of the route above it. One that
-- begins with a space is another route to the prefix above it.
abbrev pub bird_entry : List ℕ → Entry
bird_entry text = if get_or text 0 0 == 9 then Ok None else
    if get_or text 0 0 == 32 then Err errors.NoPrefix else
    if is_bird_heading (first_word text) then Ok None
    else bird_bracket (first_word text) (split_last 91 text)

-- ---- FRR's `show bgp`

-- what FRR prints before a table and after it, by its first word
abbrev pub is_frr_heading : List ℕ → Bool
is_frr_heading word = if bytes_eq word (codes "BGP") then true else
    if bytes_eq word (codes "Default") then true else
    if bytes_eq word (codes "Status") then true else
    if bytes_eq word (codes "i") then true else
    if bytes_eq word (codes "Nexthop") then true else
    if bytes_eq word (codes "Origin") then true else
    if bytes_eq word (codes "RPKI") then true else
    if bytes_eq word (codes "Network") then true else
    if bytes_eq word (codes "Displayed") then true else bytes_eq word (codes "Total")

-- V, I or N before the star: what FRR itself found
abbrev pub is_frr_state : List ℕ → Bool
is_frr_state text = if length text == 0 then true else
    if bytes_eq text (codes "V") then true else
    if bytes_eq text (codes "I") then true else bytes_eq text (codes "N")

-- what stands after the star: > or = of a path that is used, i of one from a peer in the same AS
abbrev pub after_codes : List ℕ → List ℕ
after_codes text = trim_start (without_byte 105 (without_byte 61 (without_byte 62 text)))

abbrev pub is_origin_code : List ℕ → Bool
is_origin_code word = if bytes_eq word (codes "i") then true else
    if bytes_eq word (codes "e") then true else bytes_eq word (codes "?")

-- Before the origin code stands the path, each AS after one space. Where the path is empty the
-- weight stands there: 0, or another number after several spaces.
abbrev pub is_weight : (before word : List ℕ) → Bool
is_weight before word = if bytes_eq word (codes "0") then true else length (last_word before) == 0

abbrev pub frr_origin : (prefix : List ℕ) → Option (List ℕ × List ℕ) → Entry
frr_origin prefix None = Err errors.NoAsn
frr_origin prefix (Some p) = if is_weight p.0 p.1 then Err errors.NoAsn else entry prefix p.1

abbrev pub frr_code : (prefix : List ℕ) → Option (List ℕ × List ℕ) → Entry
frr_code prefix None = Err errors.NoAsn
frr_code prefix (Some p) =
    if is_origin_code p.1 then frr_origin prefix (split_last 32 p.0) else Err errors.NoAsn

abbrev pub frr_path : List ℕ → Entry
frr_path text = frr_code (first_word text) (split_last 32 text)

abbrev pub frr_star : Option (List ℕ × List ℕ) → Entry
frr_star None = Err errors.Form
frr_star (Some p) = if is_frr_state p.0 then frr_path (after_codes p.1) else Err errors.Form

-- *> 10.0.0.0/8 192.0.2.1 0 0 64496 64497 i
abbrev pub frr_entry : List ℕ → Entry
frr_entry text =
    if is_frr_heading (first_word text) then Ok None else frr_star (split_first 42 text)

-- ---- a line

abbrev pub text_entry : Printer → List ℕ → Entry
text_entry Bgpdump text = bgpdump_entry text
text_entry Bird text = bird_entry text
text_entry Frr text = frr_entry (trim_start text)

-- a blank line has no route
abbrev pub printed_entry : Printer → List ℕ → Entry
printed_entry printer line =
    if length (trim_end line) == 0 then Ok None else text_entry printer (trim_end line)

-- the words are a prefix and an origin AS
abbrev pub HasEntry : Entry → Option TableRoute → Type 0
HasEntry (Ok None) r = r ≡ None
HasEntry (Ok (Some w)) (Some r) = IsPrefixText w.prefix r.prefix × IsOriginText w.asn r.origin
HasEntry (Ok (Some w)) None = ⊥
HasEntry (Err e) r = ⊥

abbrev pub RefusesEntry : Entry → RouteError → Type 0
RefusesEntry (Ok None) e = ⊥
RefusesEntry (Ok (Some w)) e = RefusesWords w.prefix w.asn e
RefusesEntry (Err f) e = e ≡ f

abbrev pub HasPrinted : Printer → List ℕ → Option TableRoute → Type 0
HasPrinted printer line r = IsUtf8 line × HasEntry (printed_entry printer line) r

abbrev pub RefusesPrinted : Printer → List ℕ → RouteError → Type 0
RefusesPrinted printer line e = ((IsUtf8 line → ⊥) × (e ≡ errors.NotText))
    ⊎ (IsUtf8 line × RefusesEntry (printed_entry printer line) e)

abbrev pub ReadsPrinted : Printer → List ℕ → Result (Option TableRoute) RouteError → Type 0
ReadsPrinted printer line r =
    MatchResult r (HasPrinted printer line) (RefusesPrinted printer line)

-- the route of a line in this format, if it has one, and why it is refused
abbrev pub HasTableRoute : Table → List ℕ → Option TableRoute → Type 0
HasTableRoute Lines line r = HasRoute line r
HasTableRoute (Printed printer) line r = HasPrinted printer line r

abbrev pub RefusesTable : Table → List ℕ → RouteError → Type 0
RefusesTable Lines line e = RefusesLine line e
RefusesTable (Printed printer) line e = RefusesPrinted printer line e

abbrev pub ReadsTable : Table → List ℕ → Result (Option TableRoute) RouteError → Type 0
ReadsTable table line r = MatchResult r (HasTableRoute table line) (RefusesTable table line)
