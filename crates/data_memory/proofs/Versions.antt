-- What a version has of data, and the changes of it.
use Rattle.std.proofs.Common.{◌≡◌, ℕ, List, [], ◌∷◌, map, Ok, true, refl, sym, ap, ◌∙◌}
use Rattle.std.proofs.lemmas.List.{append-nil}
use Rattle.std.proofs.lemmas.List.Kept.{IsStrictlySortedBy-filter}
use Rattle.std.specs.List.{filter}
use Rattle.std.specs.List.Sorted.{IsStrictlySortedBy}
use Rattle.std.specs.Prelude.{nat_le}
use Rattle.rtr_payload.specs.Payloads.{Payload, smallest_version}
use Rattle.data_memory.specs.Data.{IsData, announcement, name_cmp}
use Rattle.data_memory.specs.Changes.{after_all, changes}
use Rattle.data_memory.specs.Deltas.{all_for, changes_for, data_for}
use Rattle.data_memory.proofs.Delta.{leads_to_new}

pub version_data : (v : ℕ) (d : List Payload) → IsData d → IsData (data_for v d)
version_data v d s = IsStrictlySortedBy-filter name_cmp (λ p. nat_le (smallest_version p) v) d s

pub delta_leads : (v : ℕ) (old new : List Payload) → IsData old → IsData new →
    after_all (changes_for v old new) (Ok (data_for v old)) ≡ Ok (data_for v new)
delta_leads v old new s t =
    leads_to_new (data_for v old) (data_for v new) (version_data v old s) (version_data v new t)

filter_all : (xs : List Payload) → filter (λ x. true) xs ≡ xs
filter_all [] = refl
filter_all (x ∷ xs) = ap (λ l. x ∷ l) (filter_all xs)

-- the changes from nothing
pub from_nothing : (d : List Payload) → changes [] d ≡ map announcement d
from_nothing d =
    append-nil (map announcement (filter (λ x. true) d)) ∙ ap (map announcement) (filter_all d)

pub no_data : IsData []
unfolding IsStrictlySortedBy
no_data = tt

pub all_lead : (v : ℕ) (d : List Payload) → IsData d →
    after_all (all_for v d) (Ok []) ≡ Ok (data_for v d)
all_lead v d s =
    ap (λ cs. after_all cs (Ok [])) (sym (from_nothing (data_for v d)))
    ∙ leads_to_new [] (data_for v d) no_data (version_data v d s)
