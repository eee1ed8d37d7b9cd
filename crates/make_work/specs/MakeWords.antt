-- What the program is asked for by the words after its name: this program's own.
use Rattle.std.specs.Prelude.{ℕ, ◌^◌, ◌&&◌, ◌||◌, ◌==◌, Bool, true, false}
use Rattle.std.specs.Prelude.{nat_lt}
use Rattle.std.specs.Prelude.{Option, Some, None, is_some, option_map, option_and_then, unwrap_or}
use Rattle.std.specs.Prelude.{List, [], ◌∷◌, map, length, codes, bytes_eq, if◌then◌else◌}
use Rattle.std.specs.Prelude.{String, string_bytes}
use Rattle.std.specs.Char.{is_digit}
use Rattle.std.specs.List.{list_any}
use Rattle.std.specs.Str.Parse.{digits_value, without_leading_plus}
use Rattle.rtr_base.specs.Timings.{default_timing}
use Rattle.rtr_base.specs.declared.timing.Timing.{Timing}
use Rattle.session_times.specs.AllowedTimes.{broken_time_rule}
use Rattle.session_times.specs.declared.times.TimeRule.{TimeRule}
use Rattle.make_work.specs.Making.{version_number}
use Rattle.make_work.specs.declared.words.Format.{Format}
use Rattle.make_work.specs.declared.words.Format.TheVariants.{Csv, Json}
use Rattle.make_work.specs.declared.words.Request.{Request}
use Rattle.make_work.specs.declared.words.Said.{Said}
use Rattle.make_work.specs.declared.words.Setting.{Setting}
use Rattle.make_work.specs.declared.words.Setting.TheVariants as settings
use Rattle.make_work.specs.declared.words.Version.{Version}
use Rattle.make_work.specs.declared.words.Version.TheVariants.{V0, V1, V2}

-- ---- the texts that follow options

abbrev pub version_of : List ℕ → Option Version
version_of text =
    if bytes_eq text (codes "0") then Some V0 else
    if bytes_eq text (codes "1") then Some V1 else
    if bytes_eq text (codes "2") then Some V2 else None

abbrev pub all_digits : List ℕ → Bool
all_digits [] = true
all_digits (c ∷ cs) = is_digit c 10 && all_digits cs

-- one decimal digit or more, and nothing else
abbrev pub is_decimal : List ℕ → Bool
is_decimal text = nat_lt 0 (length text) && all_digits text

-- The number of this many bits that a text is, as Rust's `from_str` reads it: an optional plus,
-- then decimal digits. Zeros may lead.
abbrev pub number_of : ℕ → List ℕ → Option ℕ
number_of bits text =
    let digits : List ℕ = without_leading_plus text in
    if is_decimal digits && nat_lt (digits_value 10 digits) (2 ^ bits)
    then Some (digits_value 10 digits) else None

-- ---- what words say

-- what no words say
abbrev pub nothing_said : Said
nothing_said = record {
  format = None;
  version = None;
  session = None;
  serial = None;
  refresh = None;
  retry = None;
  expire = None;
  leaves_out = None;
  takes_empty = None;
  takes_unended = None;
  at = None;
  ignores = false;
}

-- a value where none was said before: nothing is said twice
abbrev pub once : {T : Type 0} → Option T → T → Option T
once (Some before) x = None
once None x = Some x

-- a value that a text has to be, where none was said before
abbrev pub given : {T : Type 0} → Option T → Option T → Option T
given before (Some x) = once before x
given before None = None

-- a word that stands alone
abbrev pub said_alone : List ℕ → Said → Option Said
said_alone word s =
    if bytes_eq word (codes "--csv")
    then option_map (λ x. record s { format = Some x }) (once s.format Csv) else
    if bytes_eq word (codes "--json")
    then option_map (λ x. record s { format = Some x }) (once s.format Json) else
    if bytes_eq word (codes "--drop")
    then option_map (λ x. record s { leaves_out = Some x }) (once s.leaves_out true) else
    if bytes_eq word (codes "--empty")
    then option_map (λ x. record s { takes_empty = Some x }) (once s.takes_empty true) else
    if bytes_eq word (codes "--unended")
    then option_map (λ x. record s { takes_unended = Some x }) (once s.takes_unended true) else
    None

-- the option of this name, which a text has to follow
abbrev pub setting_named : List ℕ → Option Setting
setting_named word =
    if bytes_eq word (codes "--ignore") then Some settings.Ignore else
    if bytes_eq word (codes "--version") then Some settings.Version else
    if bytes_eq word (codes "--session") then Some settings.Session else
    if bytes_eq word (codes "--serial") then Some settings.Serial else
    if bytes_eq word (codes "--refresh") then Some settings.Refresh else
    if bytes_eq word (codes "--retry") then Some settings.Retry else
    if bytes_eq word (codes "--expire") then Some settings.Expire else
    if bytes_eq word (codes "--at") then Some settings.At else None

-- an option with the text after it; names to ignore may be any, and several
abbrev pub said_with : Setting → List ℕ → Said → Option Said
said_with settings.Ignore text s = Some (record s { ignores = true })
said_with settings.Version text s =
    option_map (λ x. record s { version = Some x }) (given s.version (version_of text))
said_with settings.Session text s =
    option_map (λ x. record s { session = Some x }) (given s.session (number_of 16 text))
said_with settings.Serial text s =
    option_map (λ x. record s { serial = Some x }) (given s.serial (number_of 32 text))
said_with settings.Refresh text s =
    option_map (λ x. record s { refresh = Some x }) (given s.refresh (number_of 32 text))
said_with settings.Retry text s =
    option_map (λ x. record s { retry = Some x }) (given s.retry (number_of 32 text))
said_with settings.Expire text s =
    option_map (λ x. record s { expire = Some x }) (given s.expire (number_of 32 text))
said_with settings.At text s =
    option_map (λ x. record s { at = Some x }) (given s.at (number_of 64 text))

-- where a word is the name of such an option, what that says, and else what it says alone
abbrev pub by_name : Option Setting → (Setting → Option Said) → Option Said → Option Said
by_name (Some setting) with_text alone = with_text setting
by_name None with_text alone = alone

-- The words in any order, after what was said: options with the texts after them, and words that
-- stand alone. An option in the last place has no text.
abbrev pub said_by : List (List ℕ) → Said → Option Said
said_by [] s = Some s
said_by (word ∷ []) s = by_name (setting_named word) (λ setting. None) (said_alone word s)
said_by (word ∷ text ∷ rest) s =
    by_name (setting_named word)
    (λ setting. option_and_then (said_by rest) (said_with setting text s))
    (option_and_then (said_by (text ∷ rest)) (said_alone word s))

-- ---- what they ask for

abbrev pub has_timing : Said → Bool
has_timing s = is_some s.refresh || (is_some s.retry || is_some s.expire)

-- version 2 unless one was said
abbrev pub version_said : Said → Version
version_said s = unwrap_or s.version V2

-- the timings that were said, and for the others those that RFC 8210 section 6 recommends
abbrev pub timing_asked : Said → Timing
timing_asked s = record {
  refresh = unwrap_or s.refresh default_timing.refresh;
  retry = unwrap_or s.retry default_timing.retry;
  expire = unwrap_or s.expire default_timing.expire;
}

-- a request in this format, with what was said and, for the rest, session 0, serial number 1, since
-- routers ask for what follows serial number 0 where they have nothing, and those timings
abbrev pub request_in : Said → Format → Request
request_in s format = record {
  format = format;
  version = version_said s;
  state = record { session = unwrap_or s.session 0; serial = unwrap_or s.serial 1 };
  timing = timing_asked s;
  leaves_out = unwrap_or s.leaves_out false;
  takes_empty = unwrap_or s.takes_empty false;
  takes_unended = unwrap_or s.takes_unended false;
  at = s.at;
}

-- names to ignore go with JSON alone, and a last line without an end with comma-separated values
abbrev pub is_misplaced : Said → Format → Bool
is_misplaced s Csv = s.ignores
is_misplaced s Json = is_some s.takes_unended

abbrev pub allowed_in : Said → Format → Option Request
allowed_in s format = if is_misplaced s format then None else Some (request_in s format)

-- a format has to be said, version 0 has no timings (RFC 6810 section 5.8), and in others they
-- break no rule of RFC 8210 section 6
abbrev pub request_of : Said → Option Request
request_of s =
    if (version_number (version_said s) == 0) && has_timing s then None else
    if is_some (broken_time_rule (timing_asked s)) then None else
    option_and_then (allowed_in s) s.format

-- the request, by the texts of the words; all other words ask for nothing
abbrev pub request_by_texts : List (List ℕ) → Option Request
request_by_texts words = option_and_then request_of (said_by words nothing_said)

-- the first rule that the timings break that the texts say
abbrev pub broken_by_texts : List (List ℕ) → Option TimeRule
broken_by_texts words =
    option_and_then (λ s. broken_time_rule (timing_asked s)) (said_by words nothing_said)

-- the same by the words
abbrev pub broken_by_words : {Z : Type 0} → List (String Z) → Option TimeRule
broken_by_words words = broken_by_texts (map string_bytes words)

abbrev pub request_by_words : {Z : Type 0} → List (String Z) → Option Request
request_by_words words = request_by_texts (map string_bytes words)

-- the names that stand after an `--ignore` in words that ask for something
abbrev pub names_ignored : List (List ℕ) → List (List ℕ)
names_ignored [] = []
names_ignored (word ∷ []) = []
names_ignored (word ∷ text ∷ rest) = if bytes_eq word (codes "--ignore")
    then text ∷ names_ignored rest else names_ignored (text ∷ rest)

-- the same by the words
abbrev pub ignored_by_words : {Z : Type 0} → List (String Z) → List (List ℕ)
ignored_by_words words = names_ignored (map string_bytes words)

-- whether a name is one of these
abbrev pub is_one_of : List (List ℕ) → List ℕ → Bool
is_one_of names name = list_any (λ text. bytes_eq text name) names
