-- What SLURM files leave of items that were taken.
use Rattle.std.proofs.Common.{◌≡◌, ◌⊎◌, ℕ, List, [], ◌∷◌, ◌++◌, Bool, Option, Result, Err, ap}
use Rattle.std.proofs.Common.{subst, ◌∙◌, sym, refl}
use Rattle.std.specs.Borrow.{Bor}
use Rattle.data_recordings.specs.declared.recording.Recording.{Recording}
use Rattle.data_slurm.specs.Entries.{assertions_of}
use Rattle.data_slurm.specs.declared.entry.Entry.{Entry}
use Rattle.data_slurm.specs.declared.slurm.Slurm.{Slurm}
use Rattle.make_work.specs.Taking.{AreAsserted, entries_asked, kept_items}
use Rattle.make_work.specs.declared.item.Item.{Item}
use Rattle.validate_work.specs.Files.{LoadsAt, LoadsKept, LoadsOf, LoadsSlurm, LoadsWhole}
use Rattle.validate_work.specs.PrivateFiles.{LoadsKeptOf}
use Rattle.validate_work.specs.declared.file.LoadError.{LoadError}
use Rattle.validate_work.specs.declared.file.LoadError.TheVariants as errors
use Rattle.validate_work.specs.declared.file.Loaded.{Loaded}

abbrev pub LoadsBoth : (has_cut : Bool) → Option ℕ → (filters assertions : List Entry) →
    List Item → Result Loaded LoadError → Type 0
LoadsBoth cut at es fs items r = ((more : List Item) × AreAsserted (assertions_of fs) more
    × LoadsAt cut at (kept_items es items ++ more) r) ⊎ (r ≡ Err errors.Memory)

-- the gathering had these entries at the start, and has them still
pub by_slurm : (es : List Entry) (first last : Option (Bor Slurm)) (cut : Bool) (at : Option ℕ)
    (items : List Item) (r : Result Loaded LoadError) → entries_asked first ≡ es →
    last ≡ first → LoadsBoth cut at (entries_asked first) (entries_asked last) items r →
    LoadsSlurm cut at es items r
by_slurm es first last cut at items r is same made =
    subst (λ ds. LoadsBoth cut at ds es items r) is
    (subst (λ ds. LoadsBoth cut at (entries_asked first) ds items r)
    (ap entries_asked same ∙ is) made)

pub no_entries : (es : List Entry) (recording : Recording) (r : Result Loaded LoadError) →
    es ≡ [] → LoadsWhole recording r → LoadsOf es recording r
no_entries es recording r none h = subst (λ l. LoadsOf l recording r) (sym none) h

pub some_entries : (es : List Entry) (recording : Recording) (r : Result Loaded LoadError) →
    (es ≡ [] → ⊥) → LoadsKeptOf es recording r → LoadsOf es recording r
some_entries [] recording r some h = absurd (some refl)
some_entries (e ∷ es) recording r some h = h
