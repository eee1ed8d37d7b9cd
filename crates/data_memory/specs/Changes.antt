-- The changes from old data to new, and what changes make of data one after the other (RFC 8210
-- sections 5.6, 5.10 and 8.2; the order of changes is this library's own).
use Rattle.std.specs.Prelude.{◌≡◌, ⊤, Bool, false, not, List, [], ◌∷◌, ◌++◌, map, filter}
use Rattle.std.specs.Prelude.{Result, Ok, Err}
use Rattle.std.specs.BTreeMap.{is_at}
use Rattle.std.specs.List.{AllByRecursion, list_any}
use Rattle.rtr_payload.specs.Payloads.{Payload}
use Rattle.data_memory.specs.Data.{Change, after, announcement, withdrawal, has, has_name, name_cmp}
use Rattle.data_memory.specs.declared.change_error.ChangeError.{ChangeError}

-- what changes in turn make of it, up to the first that is refused
abbrev pub after_all : List Change → Result (List Payload) ChangeError →
    Result (List Payload) ChangeError
after_all [] r = r
after_all (c ∷ cs) (Ok d) = after_all cs (after c d)
after_all (c ∷ cs) (Err e) = Err e

-- what old data hasn't, announced
abbrev pub announcements : (old new : List Payload) → List Change
announcements old new = map announcement (filter (λ p. not (has old p)) new)

-- what new data has nothing of the name of, withdrawn
abbrev pub withdrawals : (old new : List Payload) → List Change
withdrawals old new = map withdrawal (filter (λ p. not (has_name new p)) old)

-- The changes from old data to new: first all announcements, so that nothing is missed in between,
-- then the withdrawals, each in the order of payloads.
abbrev pub changes : (old new : List Payload) → List Change
changes old new = announcements old new ++ withdrawals old new

-- no two of them are of one name
abbrev pub AreApart : List Change → Type 0
AreApart [] = ⊤
AreApart (c ∷ cs) =
    AllByRecursion (λ e. is_at (name_cmp c.payload) e.payload ≡ false) cs × AreApart cs

-- whether one of them is of the payload's name
abbrev pub touches : List Change → Payload → Bool
touches cs p = list_any (λ c. is_at (name_cmp p) c.payload) cs
