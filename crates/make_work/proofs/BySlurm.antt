-- What is made of items that were gathered with the entries of SLURM files.
use Rattle.std.proofs.Common.{◌≡◌, ◌⊎◌, ℕ, List, ◌++◌, Option, ap, subst, ◌∙◌}
use Rattle.std.specs.Borrow.{Bor}
use Rattle.rtr_units.specs.StopCauses.{WriterState}
use Rattle.data_slurm.specs.Entries.{assertions_of}
use Rattle.data_slurm.specs.declared.entry.Entry.{Entry}
use Rattle.data_slurm.specs.declared.slurm.Slurm.{Slurm}
use Rattle.make_work.specs.MakeStatus.{MakesItems, MakesSlurm}
use Rattle.make_work.specs.Taking.{AreAsserted, entries_asked, kept_items}
use Rattle.make_work.specs.declared.item.Item.{Item}
use Rattle.make_work.specs.declared.words.Request.{Request}

abbrev pub MakesBoth : Request → (now : ℕ) → (filters assertions : List Entry) → List Item → ℕ →
    WriterState → WriterState → (old new : Option (List ℕ)) → Type 0
MakesBoth a now es fs items status before after old new =
    ((more : List Item) × AreAsserted (assertions_of fs) more
    × MakesItems now a (kept_items es items ++ more) status before after old new)
    ⊎ ((after ≡ before) × (status ≡ 3))

-- the gathering had these entries at the start, and has them still
pub by_slurm : (es : List Entry) (first last : Option (Bor Slurm)) (a : Request) (now : ℕ)
    (items : List Item) (status : ℕ) (before after : WriterState) (old new : Option (List ℕ)) →
    entries_asked first ≡ es → last ≡ first →
    MakesBoth a now (entries_asked first) (entries_asked last) items status before after old new →
    MakesSlurm now a es items status before after old new
by_slurm es first last a now items status before after old new is same made =
    subst (λ ds. MakesBoth a now ds es items status before after old new) is
    (subst (λ ds. MakesBoth a now (entries_asked first) ds items status before after old new)
    (ap entries_asked same ∙ is) made)
