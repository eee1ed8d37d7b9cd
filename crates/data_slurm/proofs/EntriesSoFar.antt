-- The entries of the first items of an array.
use Rattle.std.proofs.Common.{◌≡◌, ℕ, ◌+◌, ◌<◌, ◌≤◌, List, [], zero, suc, arith}
use Rattle.std.proofs.Common.{◌∷◌, ◌++◌, take, length, get_or, inl, inr}
use Rattle.std.proofs.Common.{sym, subst, ◌∙◌, append_assoc}
use Rattle.std.proofs.lemmas.List.{append-nil, take_all, take_more}
use Rattle.json.specs.Value.{items_view, value_view}
use Rattle.json.specs.declared.value.Value.{Value}
use Rattle.data_slurm.specs.PrivateEntries.{AddsEntries}
use Rattle.data_slurm.specs.SlurmFiles.{AreEntries, EntryWrong, FirstWrong, IsEntry}
use Rattle.data_slurm.specs.SlurmFiles.{SomeEntryWrong}
use Rattle.data_slurm.specs.declared.entry.Entry.{Entry}
use Rattle.data_slurm.specs.declared.names.Kind.{Kind}
use Rattle.data_slurm.specs.declared.reason.SlurmReason.{SlurmReason}

module _ {A : Type 0} (kind : Kind) where
  one_more : (vs : List (Value A)) (es : List Entry) (v : Value A) (e : Entry) →
      AreEntries kind (items_view vs) es → IsEntry kind (value_view v) e →
      AreEntries kind (items_view (vs ++ v ∷ [])) (es ++ e ∷ [])
  one_more [] [] v e h k = (k, tt)
  one_more [] (d ∷ es) v e h k = absurd h
  one_more (w ∷ vs) [] v e h k = absurd h
  one_more (w ∷ vs) (d ∷ es) v e h k = (h.0, one_more vs es v e h.1 k)

  -- those of the first i items were added
  abbrev pub AddsFirst : List (Value A) → ℕ → List Entry → List Entry → Type 0
  AddsFirst vs i old new = AddsEntries (AreEntries kind (items_view (take i vs))) old new

  pub none_yet : (vs : List (Value A)) (old : List Entry) → AddsFirst vs 0 old old
  none_yet vs old = ([], tt, sym (append-nil old))

  pub next_too : (vs : List (Value A)) (i : ℕ) (v : Value A) (old mid new : List Entry)
      (e : Entry) → i < length vs → v ≡ get_or vs i v → IsEntry kind (value_view v) e →
      new ≡ mid ++ e ∷ [] → AddsFirst vs i old mid → AddsFirst vs (i + 1) old new
  next_too vs i v old mid new e small is k made (es, h, eq) = (
    es ++ e ∷ [],
    subst (λ l. AreEntries kind (items_view l) (es ++ e ∷ [])) (sym (take_more vs i v small))
        (subst (λ x. AreEntries kind (items_view (take i vs ++ x ∷ [])) (es ++ e ∷ [])) is
        (one_more (take i vs) es v e h k)),
    made ∙ (λ i. eq i ++ e ∷ []) ∙ append_assoc old es (e ∷ []),
  )

  pub all_done : (vs : List (Value A)) (i : ℕ) (old new : List Entry) → length vs ≤ i →
      AddsFirst vs i old new → AddsEntries (AreEntries kind (items_view vs)) old new
  all_done vs i old new large (es, h, eq) =
      (es, subst (λ l. AreEntries kind (items_view l) es) (take_all i vs large) h, eq)

  first_wrong : (vs : List (Value A)) (i : ℕ) (v : Value A) (es : List Entry)
      (why : SlurmReason) → i < length vs → v ≡ get_or vs i v →
      AreEntries kind (items_view (take i vs)) es → EntryWrong kind (value_view v) why →
      FirstWrong kind (items_view vs) why
  first_wrong [] i v es why small is h k = absurd (omega (arith, small))
  first_wrong (w ∷ vs) zero v es why small is h k =
      inl (subst (λ x. EntryWrong kind (value_view x) why) is k)
  first_wrong (w ∷ vs) (suc i) v [] why small is h k = absurd h
  first_wrong (w ∷ vs) (suc i) v (e ∷ es) why small is h k =
      inr (e, h.0, first_wrong vs i v es why (omega (arith, small)) is h.1 k)

  pub wrong_at : (vs : List (Value A)) (i : ℕ) (v : Value A) (why : SlurmReason)
      (old new : List Entry) → i < length vs → v ≡ get_or vs i v →
      AddsFirst vs i old new → EntryWrong kind (value_view v) why →
      SomeEntryWrong kind (items_view vs) why
  wrong_at vs i v why old new small is (es, h, eq) k = inr (first_wrong vs i v es why small is h k)
