-- What the program is asked to say of itself by the words after its name, and how that ends.
use Rattle.std.specs.Prelude.{◌≡◌, ℕ, Bool, true, false, List, [], ◌∷◌, codes, bytes_eq}
use Rattle.std.specs.Prelude.{Option, Some, None, Result, Ok, Err, String, string_bytes}
use Rattle.std.specs.Prelude.{if◌then◌else◌}
use Rattle.rtr_units.specs.Stream.{Flushes, PutsForm}
use Rattle.rtr_units.specs.StopCauses.{WriterState}
use Rattle.rtr_units.specs.declared.fault.Fault.{Fault}
use Rattle.make_work.specs.declared.info.Info.{Info}
use Rattle.make_work.specs.declared.info.Info.TheVariants.{Help, Version}

abbrev pub info_named : List ℕ → Option Info
info_named word =
    if bytes_eq word (codes "--help") then Some Help else
    if bytes_eq word (codes "--version") then Some Version else None

-- one word alone
abbrev pub info_by_words : {Z : Type 0} → List (String Z) → Option Info
info_by_words [] = None
info_by_words (word ∷ []) = info_named (string_bytes word)
info_by_words (word ∷ other ∷ rest) = None

-- 0 where the text was written and flushed
abbrev pub told_status : {T : Type 0} → Result T Fault → Bool → ℕ
told_status (Ok t) true = 0
told_status (Ok t) false = 3
told_status (Err f) flushed = 3

-- some text was written, or a part of it and then the writer failed
abbrev pub PutsSomeText : {T : Type 0} → Result T Fault → WriterState → WriterState → Type 0
PutsSomeText answer old new = (text : List ℕ) × PutsForm answer old new text

-- a text is written, then the output flushed once, and both decide the status
abbrev pub TellsText : ℕ → WriterState → WriterState → Type 0
TellsText status before after = (answer : Result (Unit {0}) Fault) × (flushed : Bool)
    × (mid : WriterState) × PutsSomeText answer before mid × Flushes flushed mid after
    × (status ≡ told_status answer flushed)
