-- What one word leaves of what was said. Only contracts of private functions cite these.
use Rattle.std.specs.Prelude.{ℕ, Option, Some, None, List, option_map}
use Rattle.make_work.specs.MakeWords.{said_alone, said_with, setting_named}
use Rattle.make_work.specs.declared.words.Said.{Said}
use Rattle.make_work.specs.declared.words.Setting.{Setting}

abbrev pub taken_alone : Option Setting → List ℕ → Said → Option (Said × Option Setting)
taken_alone (Some setting) word s = Some (s, Some setting)
taken_alone None word s = option_map (λ said. (said, None)) (said_alone word s)

-- what was said, and the option that the next word has to follow
abbrev pub word_taken : Option Setting → List ℕ → Said → Option (Said × Option Setting)
word_taken (Some setting) word s = option_map (λ said. (said, None)) (said_with setting word s)
word_taken None word s = taken_alone (setting_named word) word s
