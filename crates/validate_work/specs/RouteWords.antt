-- What the program is asked for by the words after its name: this program's own.
use Rattle.std.specs.Prelude.{ℕ, Bool, true, false, not, ◌==◌, ◌&&◌, Option, Some, None, List}
use Rattle.std.specs.Prelude.{[], ◌∷◌, map, codes, bytes_eq, if◌then◌else◌, option_and_then}
use Rattle.std.specs.Prelude.{option_map, String, string_bytes}
use Rattle.std.specs.Option.{is_some}
use Rattle.make_work.specs.MakeWords.{number_of}
use Rattle.validate_work.specs.declared.form.Form.{Form}
use Rattle.validate_work.specs.declared.form.Form.TheVariants.{Text, Json}
use Rattle.validate_work.specs.declared.table.Printer.TheVariants.{Bgpdump, Bird, Frr}
use Rattle.validate_work.specs.declared.table.Table.{Table}
use Rattle.validate_work.specs.declared.table.Table.TheVariants.{Lines, Printed}
use Rattle.validate_work.specs.declared.words.Flag.{Flag}
use Rattle.validate_work.specs.declared.words.Flag.TheVariants as flags
use Rattle.validate_work.specs.declared.words.Options.{Options}
use Rattle.validate_work.specs.declared.words.Request.{Request}
use Rattle.validate_work.specs.declared.words.RouteWords.{RouteWords}

-- the words for a prefix and the number of an AS
pub record PrefixAndAsn : Type 0 where
  pub prefix : List ℕ
  pub asn : List ℕ

-- what the options say, the name of a file, and a route, if one was given
pub record RoutesAsked : Type 0 where
  pub options : Options
  pub file : List ℕ
  pub route : Option PrefixAndAsn

abbrev pub words_for : RouteWords → PrefixAndAsn
words_for r = record { prefix = r.prefix.now; asn = r.asn.now }

abbrev pub routes_asked : Request → RoutesAsked
routes_asked a =
    record { options = a.options; file = a.file.now; route = option_map words_for a.route }

-- ---- options

abbrev pub flag_named : List ℕ → Option Flag
flag_named word =
    if bytes_eq word (codes "--json") then Some flags.Json else
    if bytes_eq word (codes "--strict") then Some flags.Strict else
    if bytes_eq word (codes "--summary") then Some flags.Summary else
    if bytes_eq word (codes "--at") then Some flags.At else
    if bytes_eq word (codes "--format") then Some flags.Format else None

-- each of them at most once
abbrev pub json_after : Form → Options → Option Options
json_after Text o = Some (record o { form = Json })
json_after Json o = None

abbrev pub as_json : Options → Option Options
as_json o = json_after o.form o

abbrev pub strictly : Options → Option Options
strictly o = if o.strict then None else Some (record o { strict = true })

abbrev pub summarily : Options → Option Options
summarily o = if o.summary then None else Some (record o { summary = true })

abbrev pub time_after : Option ℕ → Options → List ℕ → Option Options
time_after (Some t) o text = None
time_after None o text = option_map (λ t. record o { at = Some t }) (number_of 64 text)

-- a number of 64 bits
abbrev pub at_time : Options → List ℕ → Option Options
at_time o text = time_after o.at o text

-- the formats of lines by their names
abbrev pub table_named : List ℕ → Option Table
table_named word =
    if bytes_eq word (codes "lines") then Some Lines else
    if bytes_eq word (codes "mrt") then Some (Printed Bgpdump) else
    if bytes_eq word (codes "bird") then Some (Printed Bird) else
    if bytes_eq word (codes "frr") then Some (Printed Frr) else None

abbrev pub of_format : Options → List ℕ → Option Options
of_format o word = if o.has_format then None
    else option_map (λ t. record o { table = t; has_format = true }) (table_named word)

-- ---- a file, and a route

abbrev pub has_dash_first : List ℕ → Bool
has_dash_first [] = false
has_dash_first (c ∷ rest) = c == 45

-- a name of a file: one that doesn't begin with `-`, or `-`, standard input, where a route is given
abbrev pub is_vrps_name : List ℕ → (has_route : Bool) → Bool
is_vrps_name word has_route =
    if bytes_eq word (codes "-") then has_route else not (has_dash_first word)

-- another file can be named to compare with: where routes are read
abbrev pub can_compare : RoutesAsked → (name : List ℕ) → Bool
can_compare a name = not (is_some a.route) && is_vrps_name name false

-- no summary is made of a route that is given
abbrev pub named_for : Options → List ℕ → Option PrefixAndAsn → Option RoutesAsked
named_for o file route = if (if o.summary then is_some route else false) then None else
    if is_vrps_name file (is_some route)
    then Some (record { options = o; file = file; route = route }) else None

-- nothing follows the name, or a prefix and the number of an AS
abbrev pub named : Options → List ℕ → (rest : List (List ℕ)) → Option RoutesAsked
named o file [] = named_for o file None
named o file (prefix ∷ asn ∷ []) = named_for o file (Some (record { prefix = prefix; asn = asn }))
named o file others = None

-- ---- all words

-- what is asked for after this option, by what `with_value` and `after` make of the words
abbrev pub by_flag : Option Flag → Options →
    (with_value : (Options → List ℕ → Option Options) → Option RoutesAsked) →
    (after : Options → Option RoutesAsked) → (alone : Option RoutesAsked) → Option RoutesAsked
by_flag None o with_value after alone = alone
by_flag (Some flags.Json) o with_value after alone = option_and_then after (as_json o)
by_flag (Some flags.Strict) o with_value after alone = option_and_then after (strictly o)
by_flag (Some flags.Summary) o with_value after alone = option_and_then after (summarily o)
by_flag (Some flags.At) o with_value after alone = with_value at_time
by_flag (Some flags.Format) o with_value after alone = with_value of_format

-- Options, where those before said this, and then a file and a route. All other words ask for
-- nothing.
abbrev pub routes_by_texts : Options → List (List ℕ) → Option RoutesAsked
routes_by_texts o [] = None
routes_by_texts o (word ∷ []) =
    by_flag (flag_named word) o (λ set. None) (λ p. routes_by_texts p []) (named o word [])
routes_by_texts o (word ∷ text ∷ rest) =
    by_flag (flag_named word) o
    (λ set. option_and_then (λ p. routes_by_texts p rest) (set o text))
    (λ p. routes_by_texts p (text ∷ rest)) (named o word (text ∷ rest))

-- Without options lines are a prefix and the number of an AS, lines for people are printed, a line
-- that isn't a route is passed over, and the time is the present one.
abbrev pub no_options : Options
no_options =
    record {
      form = Text;
      strict = false;
      summary = false;
      at = None;
      table = Lines;
      has_format = false;
    }

-- the same by the words
abbrev pub routes_by_words : {Z : Type 0} → List (String Z) → Option RoutesAsked
routes_by_words words = routes_by_texts no_options (map string_bytes words)
