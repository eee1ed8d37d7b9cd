-- A life of stores with two data, in which the later ones are stored with a step back to the
-- earlier ones, which the prover computes, so that the premises of the laws are seen to be met.
use native.Mathlib.Omega.{arith}
use Rattle.std.proofs.Common.{◌≡◌, ◌<◌, ◌^◌, ◌∙◌, ℕ, List, [], ◌∷◌, ◌++◌, Option, Some, None, Ok}
use Rattle.std.proofs.Common.{length}
use Rattle.std.proofs.Common.{append-nil, ap, inl, lit<, refl, subst, sym, take}
use Rattle.std.proofs.lemmas.List.{take_all}
use Rattle.data_memory.proofs.Versions.{no_data}
use Rattle.data_slices.specs.Canonical.{HoldsData}
use Rattle.data_history.specs.Life.{first_start, saved, served_first, served_next, took}
use Rattle.data_history.specs.Life.{took_first, was_new, wrote}
use Rattle.data_history.specs.Parts.{part_form, part_rest}
use Rattle.data_history.specs.Snapshots.{HoldsHistory, Snapshot}
use Rattle.data_history.specs.Store.{HoldsStore, IsTaken, left_sessions, sessions_of}
use Rattle.data_history.specs.Stores.{TakesData, fresh_stores}
use Rattle.data_history.proofs.Examples.{a_history, named, two}
use Rattle.data_history.proofs.Parts.{formed}
use Rattle.session_store_laws.specs.HeldHistory.{HasLife, HasUnsavedLife, KeepsHistory}
use Rattle.session_store_laws.specs.HeldHistory.{ServesHistory}
use Rattle.session_store_laws.specs.HeldHistory.ServesHistory.{serves_saved}
use Rattle.session_store_laws.specs.HeldHistory.KeepsHistory.{keeps_taken}
use Rattle.session_store_laws.proofs.Example.{bytes_of}

-- ---- two histories

holds_one : HoldsData (bytes_of 1) [] (named 7 1).end
holds_one = record {
  bytes = bytes_of 1;
  accepts = record {
    rest = [];
    parts = sym (append-nil (bytes_of 1));
    sequence = record {
      front = [];
      last = bytes_of 1;
      parts = refl;
      units = refl;
      end = record {
        fits = record {
          session = lit< tt;
          serial = lit< tt;
          timing = (inl refl, lit< tt, lit< tt, lit< tt);
        };
        bytes = refl;
      };
    };
  };
  in_order = no_data;
}

abbrev pub one : List ℕ
one = part_form 10 (bytes_of 1) ++ []

has_one : HoldsHistory one (named 7 1) []
has_one =
    let few : length (bytes_of 1) < 2 ^ 64 = lit< tt in
    let p = formed 10 (bytes_of 1) [] (omega arith) few in
    record {
      first = p.has;
      holds = subst (λ l. HoldsData l [] (named 7 1).end) (sym p.bytes) holds_one;
      back = p.rest;
      order = tt;
    }

-- ---- their stores

abbrev pub store : List ℕ → List ℕ
store history = part_form 0 [] ++ history

stored : (history : List ℕ) (x : Snapshot) (ys : List Snapshot) → HoldsHistory history x ys
    → HoldsStore (store history) x ys
stored history x ys h =
    let none : length {A = ℕ} [] < 2 ^ 64 = omega arith in
    let p = formed 0 [] history (omega arith) none in
    record {
      first = p.has;
      history = subst (λ l. HoldsHistory l x ys) (sym p.rest) h;
    }

none_left : (history : List ℕ) → left_sessions (store history) ≡ []
unfolding left_sessions
none_left history =
    let none : length {A = ℕ} [] < 2 ^ 64 = omega arith in
    let p = formed 0 [] history (omega arith) none in
    (λ i. sessions_of (p.bytes i))

first_store : HoldsStore (store one) (named 7 1) []
first_store = stored one (named 7 1) [] has_one

pub second_store : HoldsStore (store two) (named 7 2) (named 7 1 ∷ [])
second_store = stored two (named 7 2) (named 7 1 ∷ []) a_history

abbrev is_next : IsTaken (store one) (store two) (named 7 2) (named 7 1)
is_next = record {
  front = named 7 1 ∷ [];
  store = second_store;
  name = inl (record {
    session = refl;
    later = refl;
    left = none_left two ∙ sym (none_left one);
  });
}

-- ---- both are taken, saved and served

abbrev pub first_served : List Snapshot
first_served = named 7 1 ∷ []

abbrev pub both_served : List Snapshot
both_served = named 7 2 ∷ first_served

abbrev first_file : Option (List ℕ)
first_file = Some (store one)

second_taken : HasLife first_served first_file first_file (Some (store two))
second_taken =
    let a = took_first None None (store one) (named 7 1) [] was_new first_store in
    let b = wrote [] None None (store one) a in
    let c = saved [] None (store one) (named 7 1) [] b first_store in (
      took first_served first_file None (store one) (store two) (named 7 2) (named 7 1) [] c
          first_store is_next,
      ((inl refl, tt), (refl, tt)),
    )

pub keeps_second : KeepsHistory first_served (part_rest (store two))
keeps_second = keeps_taken first_served first_file first_file (store two) second_taken

second_served : HasLife both_served (Some (store two)) (Some (store two)) None
second_served = (
  saved first_served first_file (store two) (named 7 2) (named 7 1 ∷ [])
      (wrote first_served first_file first_file (store two) second_taken.0) second_store,
  second_taken.1,
)

pub serves_both : ServesHistory both_served (part_rest (store two))
serves_both = serves_saved both_served (Some (store two)) None (store two) second_served

-- ---- without a file

pub both_unsaved : HasUnsavedLife both_served 7 (Some (store two))
both_unsaved =
    let a = served_first [] 7 (store one) (named 7 1) [] (first_start 7) first_store refl in (
      served_next first_served 7 (store one) (store two) (named 7 2) (named 7 1) [] a first_store
          is_next refl,
      ((inl refl, tt), (refl, tt)),
    )

-- ---- the first data are taken

abbrev pub size : ℕ
size = length (store one)

whole : take size (store one) ≡ store one
whole = take_all size (store one) (omega arith)

taken_first : HoldsStore (take size (store one)) (named 7 1) []
    × (left_sessions (take size (store one)) ≡ [])
taken_first = (
  subst (λ b. HoldsStore b (named 7 1) []) (sym whole) first_store,
  ap left_sessions whole ∙ none_left one,
)

pub takes_first : TakesData 0 0 (Ok size) (fresh_stores None None) None (named 7 1) (store one)
takes_first = (refl, tt, taken_first)

pub takes_first_unsaved : TakesData 0 0 (Ok size) (fresh_stores None (Some 7)) None (named 7 1)
    (store one)
takes_first_unsaved = (refl, refl, taken_first)

pub no_life : HasLife [] None None None
no_life = (was_new, tt)

pub first_unsaved : HasUnsavedLife [] 7 None
first_unsaved = (first_start 7, tt)
