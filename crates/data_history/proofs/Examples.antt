-- For each law a run that the prover computes, so that its premises are seen to be met.
use Rattle.std.proofs.Common.{◌≡◌, ◌<◌, ◌^◌, ℕ, List, [], ◌∷◌, ◌++◌, Some, None, append-nil, inl}
use Rattle.std.proofs.Common.{inr}
use Rattle.std.proofs.Common.{length, refl, ap, subst, sym, ◌∙◌, arith}
use Rattle.std.specs.declared.cmp.Ordering.TheVariants.{Less}
use Rattle.rtr_base.specs.Serial.{serial_cmp}
use Rattle.rtr_units.specs.End.{end_list}
use Rattle.data_slices.specs.Canonical.{HoldsData}
use Rattle.data_history.specs.Life.{IsLife, IsUnsavedLife}
use Rattle.data_history.specs.Life.{was_new, took_first, took, wrote, saved, gave_up, stopped}
use Rattle.data_history.specs.Life.{started}
use Rattle.data_history.specs.Life.{first_start, next_start, served_first, served_next}
use Rattle.data_history.specs.Parts.{part_form}
use Rattle.data_history.specs.Snapshots.{HoldsHistory, Snapshot}
use Rattle.data_history.specs.Store.{HoldsStore, IsAmong, IsTaken, left_sessions, sessions_of}
use Rattle.data_history.specs.Parts.{part_bytes}
use Rattle.data_memory.proofs.Versions.{no_data}
use Rattle.data_history.proofs.Parts.{formed, formed_length}
use Rattle.std.proofs.Common.{Ok, take}
use Rattle.std.proofs.lemmas.List.{drop_all, length-append}
use Rattle.data_slices.specs.CanonicalChanges.{HoldsChanges}
use Rattle.data_slices.specs.InOrder.{AppliesInOrder}
use Rattle.data_slices.proofs.OneData.{one_data}
use Rattle.data_history.specs.Next.{StartsHistory}
use Rattle.data_history.specs.Parts.{head_bytes, part_rest}
use Rattle.data_history.specs.Since.{WritesChangesSince}
use Rattle.data_history.specs.Snapshots.{GoesBack, LeadsTo, snapshot_at}
use Rattle.data_history.specs.Stored.{IsStored, began, went_on}
use Rattle.data_history.proofs.Advancing.{alone, goes_on}
use Rattle.data_history.proofs.Behind.{earlier_by}
use Rattle.data_history.proofs.Keeping.{keeps_none}
use Rattle.data_history.proofs.Storing.{found}

-- data without payloads, of session and serial number
abbrev pub named : (session serial : ℕ) → Snapshot
named s n = record {
  end = record {
    version = 1;
    session = s;
    serial = n;
    timing = Some (record { refresh = 3600; retry = 600; expire = 7200 });
  };
  payloads = [];
}

abbrev bytes : (session serial : ℕ) → List ℕ
bytes s n = end_list (named s n).end

holds : (s n : ℕ) → s < 2 ^ 16 → n < 2 ^ 32 → HoldsData (bytes s n) [] (named s n).end
holds s n hs hn = record {
  bytes = bytes s n;
  accepts = record {
    rest = [];
    parts = sym (append-nil (bytes s n));
    sequence = record {
      front = [];
      last = bytes s n;
      parts = refl;
      units = refl;
      end = record {
        fits = record {
          session = hs;
          serial = hn;
          timing = (inl refl, omega arith, omega arith, omega arith);
        };
        bytes = refl;
      };
    };
  };
  in_order = no_data;
}

-- a store with their history, and the sessions in these bytes left
abbrev store : (left : List ℕ) → (session serial : ℕ) → List ℕ
store left s n = part_form 0 left ++ (part_form 10 (bytes s n) ++ [])

stored : (left : List ℕ) (s n : ℕ) → length left < 2 ^ 64 → s < 2 ^ 16 → n < 2 ^ 32 →
    HoldsStore (store left s n) (named s n) []
stored left s n few hs hn =
    let p = formed 0 left (part_form 10 (bytes s n) ++ []) (omega arith) few in
    let q = formed 10 (bytes s n) [] (omega arith) (omega arith) in
    record {
      first = p.has;
      history = subst (λ l. HoldsHistory l (named s n) []) (sym p.rest) (record {
        first = q.has;
        holds = subst (λ l. HoldsData l [] (named s n).end) (sym q.bytes) (holds s n hs hn);
        back = q.rest;
        order = tt;
      });
    }

left_in : (left : List ℕ) (s n : ℕ) → length left < 2 ^ 64 →
    left_sessions (store left s n) ≡ sessions_of left
unfolding left_sessions
left_in left s n few =
    let p = formed 0 left (part_form 10 (bytes s n) ++ []) (omega arith) few in
    (λ i. sessions_of (p.bytes i))

goes_on_7 : IsTaken (store [] 7 1) (store [] 7 2) (named 7 2) (named 7 1)
goes_on_7 =
    let none : length {A = ℕ} [] < 2 ^ 64 = omega arith in
    record {
      front = [];
      store = stored [] 7 2 none (omega arith) (omega arith);
      name = inl (record {
        session = refl;
        later = refl;
        left = left_in [] 7 2 none ∙ sym (left_in [] 7 1 none);
      });
    }

begins_8 : IsTaken (store [] 7 2) (store (0 ∷ 7 ∷ []) 8 1) (named 8 1) (named 7 2)
begins_8 =
    let none : length {A = ℕ} [] < 2 ^ 64 = omega arith in
    let some : length {A = ℕ} (0 ∷ 7 ∷ []) < 2 ^ 64 = omega arith in
    record {
      front = [];
      store = stored (0 ∷ 7 ∷ []) 8 1 some (omega arith) (omega arith);
      name = inr (record {
        session = λ e. absurd (omega (arith, e));
        fresh = λ among. subst (IsAmong 8) (left_in [] 7 2 none) among;
        left = left_in (0 ∷ 7 ∷ []) 8 1 some ∙ ap (λ l. 7 ∷ l) (sym (left_in [] 7 2 none));
      });
    }

-- Serial number 1 of session 7 is taken, and its saving fails. It is taken again, saved and served.
-- Number 2 is taken and written, and power is cut before it is served: the start serves it. Then
-- session 8 is taken, saved and served.
pub a_life : IsLife (named 8 1 ∷ named 7 2 ∷ named 7 1 ∷ [])
    (Some (store (0 ∷ 7 ∷ []) 8 1)) (Some (store (0 ∷ 7 ∷ []) 8 1)) None
a_life =
    let none : length {A = ℕ} [] < 2 ^ 64 = omega arith in
    let first = stored [] 7 1 none (omega arith) (omega arith) in
    let some : length {A = ℕ} (0 ∷ 7 ∷ []) < 2 ^ 64 = omega arith in
    let second = stored [] 7 2 none (omega arith) (omega arith) in
    let third = stored (0 ∷ 7 ∷ []) 8 1 some (omega arith) (omega arith) in
    let at_7_1 = store [] 7 1 in
    let at_7_2 = store [] 7 2 in
    let at_8_1 = store (0 ∷ 7 ∷ []) 8 1 in
    let one = named 7 1 ∷ [] in
    let two = named 7 2 ∷ named 7 1 ∷ [] in
    let a = took_first None None at_7_1 (named 7 1) [] was_new first in
    let b = gave_up [] None None (Some at_7_1) a in
    let c = took_first None None at_7_1 (named 7 1) [] b first in
    let d = wrote [] None None at_7_1 c in
    let e = saved [] None at_7_1 (named 7 1) [] d first in
    let f = took one (Some at_7_1) None at_7_1 at_7_2 (named 7 2) (named 7 1) [] e first
    goes_on_7 in
    let g = wrote one (Some at_7_1) (Some at_7_1) at_7_2 f in
    let h = stopped one (Some at_7_2) (Some at_7_1) (Some at_7_2) g in
    let i = started one at_7_2 (named 7 2) [] h second in
    let j = took two (Some at_7_2) None at_7_2 at_8_1 (named 8 1) (named 7 2) [] i second
    begins_8 in
    let k = wrote two (Some at_7_2) (Some at_7_2) at_8_1 j in
    saved two (Some at_7_2) at_8_1 (named 8 1) [] k third

-- A cache that doesn't save: serial numbers 1 and 2 of session 7, and after another start number 1
-- of session 8.
pub an_unsaved_life : IsUnsavedLife (named 8 1 ∷ named 7 2 ∷ named 7 1 ∷ []) 8
    (Some (store [] 8 1))
an_unsaved_life =
    let none : length {A = ℕ} [] < 2 ^ 64 = omega arith in
    let first = stored [] 7 1 none (omega arith) (omega arith) in
    let other = stored [] 8 1 none (omega arith) (omega arith) in
    let a = served_first [] 7 (store [] 7 1) (named 7 1) [] (first_start 7) first refl in
    let b = served_next (named 7 1 ∷ []) 7 (store [] 7 1) (store [] 7 2) (named 7 2) (named 7 1) []
    a first goes_on_7 refl in
    let c = next_start (named 7 2 ∷ named 7 1 ∷ []) 7 8 (Some (store [] 7 2)) b
    (λ e. absurd (omega (arith, e)), (λ e. absurd (omega (arith, e)), tt)) in
    served_first (named 7 2 ∷ named 7 1 ∷ []) 8 (store [] 8 1) (named 8 1) [] c other refl

-- ---- a history

changes_hold : (s n : ℕ) → s < 2 ^ 16 → n < 2 ^ 32 →
    HoldsChanges (bytes s n) [] (named s n).end
changes_hold s n hs hn =
    let h = holds s n hs hn in
    record {
      bytes = h.bytes;
      accepts = h.accepts;
      in_order = record {
        announced = [];
        withdrawn = [];
        parts = refl;
        announced_in_order = no_data;
        withdrawn_in_order = no_data;
        apart = tt;
      };
    }

-- the step back from serial number 2 to 1
step : LeadsTo (bytes 7 1) (named 7 2) (named 7 1)
step = record {
  changes = [];
  holds = changes_hold 7 1 (omega arith) (omega arith);
  leads = refl;
  version = refl;
  session = refl;
}

abbrev pub two : List ℕ
two = part_form 20 (bytes 7 2) ++ (part_form 20 (bytes 7 1) ++ [])

pub a_history : HoldsHistory two (named 7 2) (named 7 1 ∷ [])
a_history =
    let p = formed 20 (bytes 7 2) (part_form 20 (bytes 7 1) ++ []) (omega arith) (omega arith) in
    let q = formed 20 (bytes 7 1) [] (omega arith) (omega arith) in
    let near = earlier_by 1 2 refl in
    record {
      first = p.has;
      holds = subst (λ l. HoldsData l [] (named 7 2).end) (sym p.bytes)
          (holds 7 2 (omega arith) (omega arith));
      back = subst (λ l. GoesBack l (named 7 2) (named 7 1 ∷ [])) (sym p.rest) (
        q.has,
        subst (λ l. LeadsTo l (named 7 2) (named 7 1)) (sym q.bytes) step,
        q.rest,
      );
      order = (near.0, near.1, tt);
    }

-- For the law of one data for a serial number: each snapshot of it is the one of its number.
pub a_snapshot : snapshot_at 1 (named 7 2) (named 7 1 ∷ []) ≡ Some (named 7 1)
a_snapshot = found two (named 7 2) (named 7 1) (named 7 1 ∷ []) (named 7 2 ∷ []) [] a_history refl

-- ---- an answer

-- For the law of what leads to the present data: the changes since serial number 1 were written,
-- and
-- a router that has the data of that number applied them.
pub a_told : WritesChangesSince 1 (Ok 24) (snapshot_at 1 (named 7 2) (named 7 1 ∷ [])) (named 7 2)
    (bytes 7 1) (bytes 7 2)
a_told = (refl, omega arith, refl)

pub a_made : AppliesInOrder (Ok 24) (bytes 7 1) (bytes 7 2) 0 (bytes 7 1) (bytes 7 2)
a_made =
    let h = holds 7 1 (omega arith) (omega arith) in
    let j = holds 7 2 (omega arith) (omega arith) in (
      [],
      (named 7 1).end,
      [],
      (named 7 2).end,
      h,
      record { bytes = j.bytes; accepts = j.accepts },
      (refl, refl, (omega arith, ([], refl, (refl, omega arith, refl)))),
    )

-- ---- what is stored

head_and_bytes : (t : ℕ) → length (part_form t (bytes 7 1)) ≡ 40
head_and_bytes t = omega (
  arith,
  formed_length t (bytes 7 1) [],
  length-append (part_form t (bytes 7
      1)) [],
)

two_size : length two ≡ 80
two_size =
    omega (
      arith,
      formed_length 20 (bytes 7 2) (part_form 20 (bytes 7 1) ++ []),
      formed_length 20 (bytes 7 1) [],
    )

-- For the law of what is stored: the data of serial number 1 were stored, and then those of 2.
first_stored : StartsHistory (Ok 40) (named 7 1) (part_form 10 (bytes 7 1)) (part_form 10 (bytes 7
    1))
first_stored =
    alone 10 40 (head_bytes 10 24) (bytes 7 1) (part_form 10 (bytes 7 1)) (part_form 10 (bytes 7 1))
    (named 7 1) (omega arith) (omega arith) refl (holds 7 1 (omega arith) (omega arith)) (
      sym (head_and_bytes 10),
      omega (arith, head_and_bytes 10),
      sym (append-nil (part_form 10 (bytes 7 1)))
          ∙ ap (λ l. part_form 10 (bytes 7 1) ++ l)
          (sym (drop_all 40 (part_form 10 (bytes 7 1)) (omega (arith, head_and_bytes 10)))),
    )

pub a_store : IsStored (named 7 2 ∷ named 7 1 ∷ []) (take 80 two)
a_store =
    went_on (named 7 1 ∷ []) (take 40 (part_form 10 (bytes 7 1))) (named 7 2) 0 40 80 (bytes 7 2)
    two
    two
    (began (named 7 1) 40 (bytes 7 1) (part_form 10 (bytes 7 1)) (part_form 10 (bytes 7 1))
    (holds 7 1 (omega arith) (omega arith)) first_stored)
    (holds 7 2 (omega arith) (omega arith))
    (λ x ys h.
    let t = first_stored.1 in
    let same = one_data (part_bytes (take 40 (part_form 10 (bytes 7 1)))) x.payloads [] x.end
    (named 7 1).end h.holds t.holds in
    let is : named 7 1 ≡ x = λ i. record { end = sym same.1 i; payloads = sym same.0 i } in
    goes_on 0 40 20 80 0 (bytes 7 2) (part_bytes (take 40 (part_form 10 (bytes 7 1)))) (bytes 7 1)
    (part_rest (take 40 (part_form 10 (bytes 7 1)))) two two (named 7 2) x ys (omega arith)
    (omega arith) (omega arith) (omega arith) (omega arith) (holds 7 2 (omega arith) (omega arith))
    h.holds (subst (LeadsTo (bytes 7 1) (named 7 2)) is step) h.order
    (subst (λ (y : Snapshot). serial_cmp y.end.serial 2 ≡ Some Less) is refl)
    (keeps_none (part_rest (take 40 (part_form 10 (bytes 7 1)))) 2 0 x ys h.back) (
      sym two_size,
      omega (arith, two_size),
      sym (append-nil two) ∙ ap (λ l. two ++ l) (sym (drop_all 80 two (omega (arith, two_size)))),
    ))
