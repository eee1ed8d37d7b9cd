-- The changes that are written of a history lead from data that the stores served.
use Rattle.std.proofs.Common.{◌≡◌, ◌++◌, ◌∙◌, ℕ, true, List, [], ◌∷◌, take, drop, Option, Some}
use Rattle.std.proofs.Common.{None, Ok, refl, sym, ap, subst, inl, inr}
use Rattle.std.proofs.lemmas.List.{take_at}
use Rattle.std.specs.Prelude.{unwrap_or}
use Rattle.rtr_base.specs.Timings.{default_timing}
use Rattle.rtr_base.specs.declared.timing.Timing.{Timing}
use Rattle.rtr_units.specs.Queries.{bare_list}
use Rattle.rtr_wire.specs.Sequences.{end_for}
use Rattle.data_memory.specs.Data.{IsData}
use Rattle.data_memory.specs.Deltas.{data_for}
use Rattle.data_slices.specs.Delta.{delta_form}
use Rattle.data_history.specs.Parts.{part_rest}
use Rattle.data_history.specs.Since.{WritesChangesSince}
use Rattle.data_history.specs.Snapshots.{HoldsHistory, Snapshot, snapshot_at}
use Rattle.session_cache.specs.declared.event.Answer.TheVariants as answers
use Rattle.session_cache.specs.Worlds.{IsIn}
use Rattle.session_bytes.specs.Answered.{opening_bytes}
use Rattle.session_laws.specs.Editions.{PayloadEdition}
use Rattle.session_server_laws.specs.Services.{Turn}
use Rattle.session_store_laws.specs.HeldHistory.{AllIn}
use Rattle.session_store_laws.specs.SentOfStore.{SendsChangesTo}
use Rattle.session_store_laws.specs.ServedData.{AreHad, AreServed, HasServed, IsEditionOf}
use Rattle.session_store_laws.specs.ServedData.HasServed.{served_saved, served_unsaved}
use Rattle.session_store_laws.proofs.Answering.{at_serial, edition_at, one_session}
use Rattle.session_store_laws.proofs.Held.{AllData, one_of, served_data, served_data_unsaved}

-- ---- the bytes

pub sends_changes : (served : List Snapshot) (t : Turn) (since size : ℕ)
    (history opening before after : List ℕ) (x : Snapshot) (ys : List Snapshot)
    → AllIn served (x ∷ ys) → HoldsHistory history x ys → IsEditionOf x t.present
    → t.answer ≡ answers.Changes since
    → opening_bytes t.version t.answer t.present.name ≡ Some opening
    → WritesChangesSince t.version (Ok size) (snapshot_at since x ys) x before after
    → t.bytes ≡ opening ++ take size after → SendsChangesTo x served since t
sends_changes served t n size history opening before after x ys all h is at opened written bytes =
    go (snapshot_at n x ys) refl written
  where
    opened_so : opening_bytes t.version (answers.Changes n) t.present.name ≡ Some opening
    opened_so = subst (λ a. opening_bytes t.version a t.present.name ≡ Some opening) at opened

    open_is : opening ≡ bare_list t.version 3 x.end.session
    open_is =
        sym (ap (λ (o : Option (List ℕ)). unwrap_or o []) opened_so)
        ∙ ap (bare_list t.version 3) is.session

    go : (o : Option Snapshot) → snapshot_at n x ys ≡ o
        → WritesChangesSince t.version (Ok size) o x before after
        → SendsChangesTo x served n t
    go None found w = absurd w
    go (Some y) found w =
        let i : IsIn (x ∷ ys) y × (y.end.serial ≡ n) = at_serial n x ys y found in
        let form : List ℕ =
        delta_form (data_for t.version y.payloads) (data_for t.version x.payloads)
        (end_for t.version x.end) in
        let front : take size after ≡ form =
        ap (take size) w.2 ∙ take_at form (drop size before) size (sym w.0) in (
          record {
            snapshot = x;
            was = all.0;
            old = y;
            old_was = one_of served (x ∷ ys) y all i.0;
            session = one_session (part_rest history) x ys y h.back i.0;
            serial = i.1;
            bytes = bytes ∙ (λ j. open_is j ++ front j);
          },
          refl,
        )

-- ---- editions of what was served

pub had_of_served : (had : List PayloadEdition) (served ys : List Snapshot) → AreHad had served
    → AllIn served ys → AreHad had ys
had_of_served had served [] are all = tt
had_of_served had served (y ∷ ys) are all =
    (edition_at had served y are all.0, had_of_served had served ys are all.1)

-- an edition of these data
abbrev times_of : Snapshot → Timing
times_of x = unwrap_or x.end.timing default_timing

abbrev edition_for : (x : Snapshot) → IsData x.payloads → PayloadEdition
edition_for x is = record {
  name = record { has = true; session = x.end.session; serial = x.end.serial };
  payloads = x.payloads;
  are_data = is;
  refresh = (times_of x).refresh;
  retry = (times_of x).retry;
  expire = (times_of x).expire;
}

is_edition_for : (x : Snapshot) (is : IsData x.payloads) → IsEditionOf x (edition_for x is)
is_edition_for x is =
    record { has = refl; session = refl; serial = refl; payloads = refl; times = refl }

more_served : (x : Snapshot) (served : List Snapshot) (had : List PayloadEdition)
    → AreServed served had → AreServed (x ∷ served) had
more_served x served [] are = tt
more_served x served (e ∷ had) are = (
  (λ has. let s = are.0 has in (s.0, inr s.1, s.2)),
  more_served x served had are.1,
)

more_had : (e : PayloadEdition) (had : List PayloadEdition) (xs : List Snapshot)
    → AreHad had xs → AreHad (e ∷ had) xs
more_had e had [] are = tt
more_had e had (x ∷ xs) are =
    ((are.0.0, inr are.0.1, are.0.2), more_had e had xs are.1)

abbrev Editions : List Snapshot → Type 0
Editions served = (had : List PayloadEdition) × AreServed served had × AreHad had served

all_editions : (served : List Snapshot) → AllData served → Editions served
all_editions [] all = ([], tt, tt)
all_editions (x ∷ served) all =
    let e : PayloadEdition = edition_for x all.0 in
    let is : IsEditionOf x e = is_edition_for x all.0 in
    let r : Editions served = all_editions served all.1 in (
      e ∷ r.0,
      ((λ has. (x, inl refl, is)), more_served x served r.0 r.1),
      ((e, inl refl, is), more_had e r.0 served r.2),
    )

-- with those that a cache had
all_served : (served : List Snapshot) (some more : List PayloadEdition) → AreServed served some
    → AreServed served more → AreServed served (some ++ more)
all_served served [] more are also = also
all_served served (e ∷ some) more are also =
    (are.0, all_served served some more are.1 also)

all_had : (some more : List PayloadEdition) (xs : List Snapshot) → AreHad more xs
    → AreHad (some ++ more) xs
all_had [] more xs are = are
all_had (e ∷ some) more xs are = more_had e (some ++ more) xs (all_had some more xs are)

of_all : (served : List Snapshot) → HasServed served → Editions served
of_all served (served_saved s file present taken life) =
    all_editions s (served_data s file present taken life)
of_all served (served_unsaved s session present life) =
    all_editions s (served_data_unsaved s session present life)

pub editions : (served : List Snapshot) (some : List PayloadEdition) → HasServed served
    → AreServed served some
    → (more : List PayloadEdition) × AreServed served (some ++ more)
    × AreHad (some ++ more) served
editions served some has are =
    let r : Editions served = of_all served has in
    (r.0, all_served served some r.0 are r.1, all_had some r.0 served r.2)
