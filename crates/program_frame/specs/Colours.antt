-- Which line has which colour on a terminal: these programs' own. The sequences are ECMA-48's, SGR.
use Rattle.std.specs.Prelude.{ℕ, ◌-◌, Bool, ◌==◌, ◌&&◌, not, if◌then◌else◌}
use Rattle.std.specs.Prelude.{List, [], ◌∷◌, ◌++◌, length, take, slice_index, codes, nat_eq}
use Rattle.std.specs.Prelude.{Option, Some, None}
use Rattle.std.specs.List.{list_any, starts_with}
use Rattle.std.specs.Option.{option_or}
use Rattle.rtr_units.specs.StopCauses.{WriterState}
use Rattle.program_frame.specs.declared.colours.Colour.{Colour}
use Rattle.program_frame.specs.declared.colours.Colour.TheVariants.{Green, Red}

-- ---- the colour of a line

-- what follows the first space
abbrev pub after_space : List ℕ → List ℕ
after_space [] = []
after_space (byte ∷ bytes) = if byte == 32 then bytes else after_space bytes

-- By the word that a text begins with, for what a payload unit does (RFC 8210 section 5.6): an
-- announcement is green, a withdrawal red.
unfoldable pub action_colour : List ℕ → Option Colour
action_colour text =
    if starts_with nat_eq text (codes "announce ") then Some Green else
    if starts_with nat_eq text (codes "withdraw ") then Some Red else None

-- Of a line of a listing, which has that word after an offset, a version, and a kind that is one
-- word or two.
unfoldable pub listed_colour : List ℕ → Option Colour
listed_colour line =
    let after_one : List ℕ = after_space (after_space (after_space line)) in
    option_or (action_colour after_one) (action_colour (after_space after_one))

-- of a line: one of a difference begins with + or with -
abbrev pub colour_of : List ℕ → Option Colour
colour_of line =
    if slice_index line 0 == 43 then Some Green else
    if slice_index line 0 == 45 then Some Red else listed_colour line

-- ---- what is written of a piece

-- the sequence that begins a colour
abbrev pub colour_sequence : Colour → List ℕ
colour_sequence Green = 27 ∷ codes "[32m"
colour_sequence Red = 27 ∷ codes "[31m"

-- the sequence that ends it, and then the line
abbrev pub colour_end : List ℕ
colour_end = 27 ∷ codes "[0m\n"

-- the last byte of what is not empty, and the bytes before it
abbrev pub final_byte : List ℕ → ℕ
final_byte piece = slice_index piece (length piece - 1)

abbrev pub line_text : List ℕ → List ℕ
line_text piece = take (length piece - 1) piece

-- a whole line: its last byte is a line feed, and no other is
unfoldable pub is_line : List ℕ → Bool
is_line piece = (final_byte piece == 10) && not (list_any (λ byte. byte == 10) (line_text piece))

-- the colour of a piece, where a line begins at its front: it has one if it is a whole line
unfoldable pub piece_colour : Bool → List ℕ → Option Colour
piece_colour begins piece = if begins && is_line piece then colour_of piece else None

-- a piece in a colour, if it has one: all before its line feed
abbrev pub painted_in : Option Colour → List ℕ → List ℕ
painted_in None piece = piece
painted_in (Some colour) piece = colour_sequence colour ++ line_text piece ++ colour_end

abbrev pub painted : Bool → List ℕ → List ℕ
painted begins piece = painted_in (piece_colour begins piece) piece

-- whether a line begins after the piece
abbrev pub begins_after : Bool → List ℕ → Bool
begins_after begins piece = if length piece == 0 then begins else final_byte piece == 10

-- what is seen of a writer in colours by that of the writer below: without colours it is this one
abbrev pub painted_state : (colours : Bool) → WriterState → WriterState
painted_state colours below =
    record { held = if colours then None else below.held; failed = below.failed }
