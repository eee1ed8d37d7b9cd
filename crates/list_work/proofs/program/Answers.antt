use Rattle.std.proofs.Common.{◌≡◌, ℕ, Bool, true, false, List, [], ◌∷◌, Option, Some, None}
use Rattle.std.proofs.Common.{IfSome, drop, refl, sym, ap, subst, ◌∙◌}
use Rattle.std.specs.Prelude.{String, codes, bytes_eq, string_bytes, if◌then◌else◌}
use Rattle.std.proofs.lemmas.Slice.Eq.{bytes_eq-Decides}
use Rattle.list_lines.specs.ListStatus.{wanted_by_words}
use Rattle.list_lines.specs.declared.run.Wanted.{Wanted}
use Rattle.list_lines.specs.declared.run.Wanted.TheVariants.{Findings, Json}
use Rattle.list_tables.specs.TableStatus.{table_by_words}
use Rattle.list_tables.specs.declared.words.Table.{Table}
use Rattle.list_tables.specs.declared.words.Table.TheVariants as tables
use Rattle.list_work.proofs.program.Goals as goal

-- what a word alone asks to list
abbrev listed : List ℕ → Option Wanted
listed word =
    if bytes_eq word (codes "--json") then Some Json else
    if bytes_eq word (codes "--check") then Some Findings else None

one_word : (word : List ℕ) (table : Table) (a b : Bool) → bytes_eq word (codes "--csv") ≡ a →
    bytes_eq word (codes "--vrps") ≡ b →
    (if a then Some tables.Csv else if b then Some tables.Json else None) ≡ Some table →
    listed word ≡ None
one_word word table true b is also e =
    subst (λ w. listed w ≡ None) (sym ((bytes_eq-Decides word (codes "--csv")).0 is)) refl
one_word word table false true is also e =
    subst (λ w. listed w ≡ None) (sym ((bytes_eq-Decides word (codes "--vrps")).0 also)) refl
one_word word table false false is also e = absurd cc

-- words that ask for a table ask for no lines
tables_apart : {Z : Type 0} (words : List (String Z)) (table : Table) →
    table_by_words words ≡ Some table → wanted_by_words words ≡ None
tables_apart [] table e = absurd cc
tables_apart (word ∷ []) table e = one_word (string_bytes word) table _ _ refl refl e
tables_apart (word ∷ second ∷ more) table e = refl

no_lines : {Z : Type 0} (words : List (String Z)) (P : Wanted → Type 0) (table : Table) →
    table_by_words words ≡ Some table → IfSome (wanted_by_words words) P
no_lines words P table e = subst (λ o. IfSome o P) (sym (tables_apart words table e)) tt

where_some : {A : Type 0} (o : Option A) (P : A → Type 0) (x : A) → o ≡ Some x → P x → IfSome o P
where_some o P x is h = subst (λ o. IfSome o P) (sym is) h

pub returns-in-Some-table_wanted-clause-quiet : goal.returns-in-Some-table_wanted-clause-quiet
returns-in-Some-table_wanted-clause-quiet g c =
    let words = c.words_after_name-words.ensures ∙ ap (λ l. drop 1 l) c.deref.ensures.value in
    let asked =
    subst (λ l. table_by_words l ≡ Some c.in-Some-table_wanted.table) words
    (sym c.table_wanted.ensures ∙ c.in-Some-table_wanted.is) in
    where_some _ _ _ c.in-Some.is (no_lines (drop 1 c.in-Some.all.items) _ _ asked)
