-- Whether the environment allows colours, by two variables: after no-color.org.
use Rattle.std.specs.Prelude.{Bool, true, false, ◌==◌, ◌&&◌, not, length, codes, bytes_eq}
use Rattle.std.specs.Prelude.{Result, Ok, Err, String, string_bytes}
use Rattle.std.specs.declared.env.VarError.{VarError}
use Rattle.std.specs.declared.env.VarError.TheVariants.{NotPresent}

-- it has a value that is not empty
abbrev pub is_set : {Z : Type 0} → Result (String Z) VarError → Bool
is_set (Ok value) = not (length (string_bytes value) == 0)
is_set (Err NotPresent) = false
-- one that could not be had
is_set (Err error) = true

abbrev pub is_dumb : {Z : Type 0} → Result (String Z) VarError → Bool
is_dumb (Ok value) = bytes_eq (string_bytes value) (codes "dumb")
is_dumb (Err error) = false

-- by the variables NO_COLOR and TERM
abbrev pub allows_colours : {Z : Type 0} → (no_color terminal : Result (String Z) VarError) → Bool
allows_colours no_color terminal = not (is_set no_color) && not (is_dumb terminal)
