-- The data that joined changes make, and the slices that they want.
use Rattle.std.proofs.Common.{◌≡◌, ◌≤◌, ◌<◌, ◌+◌, ◌*◌, ℕ, List, ◌++◌, Option, Some, None}
use Rattle.std.proofs.Common.{Result, Ok, Err, length, map, drop, take, refl, sym, ap, ◌∙◌}
use Rattle.std.proofs.Common.{arith, inl, inr}
use Rattle.std.proofs.lemmas.Bool.{cases_lt}
use Rattle.std.proofs.lemmas.List.{length-map}
use Rattle.rtr_units.specs.End.{EndMeaning, end_list}
use Rattle.rtr_wire.specs.Into.{NormalisesInto}
use Rattle.rtr_wire.specs.Sequences.{everything, sequence_form}
use Rattle.rtr_wire.specs.declared.into.IntoFault.{IntoFault}
use Rattle.rtr_wire.specs.declared.into.IntoFault.TheVariants as into
use Rattle.rtr_wire.specs.declared.into.Progress.{Progress}
use Rattle.rtr_wire.proofs.OneAnswer.{only_accepted}
use Rattle.rtr_wire.proofs.Runs.{accepted_same}
use Rattle.rtr_wire.proofs.Written.{all_written}
use Rattle.data_memory.specs.Data.{Change}
use Rattle.data_memory.specs.Deltas.{change_forms, unit_of}
use Rattle.data_slices.specs.Apply.{data_form}
use Rattle.data_slices.specs.Canonical.{HoldsData, PlacesFront}
use Rattle.data_slices.specs.CanonicalChanges.{HoldsChanges}
use Rattle.data_slices.specs.InOrder.{AppliesInOrder, IsMade}
use Rattle.data_slices.specs.PrivateInOrder.{MadeOf}
use Rattle.data_slices.specs.declared.in_order_fault.InOrderFault.{InOrderFault}
use Rattle.data_slices.specs.declared.in_order_fault.InOrderFault.TheVariants as faults
use Rattle.data_slices.proofs.AsTheyCame.{of_one, refuses_none, writes_data}
use Rattle.data_slices.proofs.RoomInOrder.{room_in_order}
use Rattle.data_history.specs.Snapshots.{Snapshot}
use Rattle.data_history.specs.PrivateJoins.{JoinedTo, Joins, LacksBuffer, LacksOutput, LacksSpare}
use Rattle.data_history.specs.PrivateJoins.{Returns, grown}
use Rattle.data_history.specs.Since.{IsShortForAnswer, WritesChangesSince}
use Rattle.data_history.specs.declared.room.Room.TheVariants.{Index, Buffer, Spare, Output}
use Rattle.data_history.specs.declared.since.SinceFault.{SinceFault}
use Rattle.data_history.specs.declared.since.SinceFault.TheVariants.{Unknown, UnitVersion}
use Rattle.data_history.specs.declared.since.SinceFault.TheVariants.{Malformed}
use Rattle.data_history.specs.declared.since.SinceFault.TheVariants.{NoRoom}
use Rattle.data_history.proofs.Joining.{changes_few}
use Rattle.data_history.proofs.Rooms.{stopped_run}

-- ---- a copy of changes

pub copied_form : (limit : ℕ) (input before after : List ℕ) (p : Progress) (cs : List Change)
    (e : EndMeaning) → HoldsChanges input cs e →
    NormalisesInto everything limit (Ok tt) input before after p →
    PlacesFront (Some p.written) (change_forms e.version cs ++ end_list e) before after
copied_form limit input before after p cs e h n =
    let (ms, e', s, counted, lt, is) =
    only_accepted everything limit p.forms n.viewed n.left n.form n.run in
    let t = accepted_same input n.viewed h.bytes ms (map (unit_of e.version) cs) e' e
    (record { rest = n.left; parts = n.parts; sequence = s }) h.accepts in
    let form : n.form ≡ change_forms e.version cs ++ end_list e =
    is ∙ ap (λ l. sequence_form l e') (all_written ms)
    ∙ (λ i. sequence_form (t.1 i) (t.2 i)) in
    (n.written ∙ ap length form, n.fits, n.output ∙ ap (λ l. l ++ drop p.written before) form)

pub never_stops : (limit : ℕ) (g : IntoFault) (input before after : List ℕ) (p : Progress)
    (cs : List Change) (e : EndMeaning) → HoldsChanges input cs e → length input < limit →
    NormalisesInto everything limit (Err g) input before after p → (g ≡ into.NoRoom → ⊥) → ⊥
never_stops limit g input before after p cs e h few n room =
    stopped_run everything limit g input before after p n room h.bytes
    (map (unit_of e.version) cs) e h.accepts
    (omega (
      arith,
      few,
      changes_few input cs e (record { bytes = h.bytes; accepts = h.accepts }),
      length-map cs (unit_of e.version),
    ))

-- ---- the data that they make

module _ (places : ℕ) (old input before after : List ℕ) (x y : Snapshot)
    (h : HoldsData old x.payloads x.end) (j : JoinedTo input x y) where
  pub made_again : (n : ℕ) → AppliesInOrder (Ok n) old input places before after →
      HoldsData after y.payloads y.end
  made_again n a =
      writes_data n old input before after x.payloads y.payloads j.changes x.end y.end h j.sends
      (sym j.alike.version) j.leads
      (of_one old input x.payloads j.changes x.end y.end h j.sends
      (λ d cs e. (length cs ≤ places) × MadeOf (Some n) d cs e before after) a).1

  only_room : (f : InOrderFault) → IsMade (Err f) (data_form y.payloads y.end) before after →
      ((f ≡ faults.NoRoom) → ⊥) → ⊥
  only_room faults.NoRoom m not = not refl
  only_room (faults.Data f) m not = m
  only_room (faults.Changes f) m not = m
  only_room (faults.UnitVersion v) m not = m
  only_room (faults.Session s) m not = m
  only_room faults.NoIndex m not = m
  only_room (faults.Duplicate o) m not = m
  only_room (faults.Unknown o) m not = m

  pub spare_short : (f : InOrderFault) → length j.changes ≤ places →
      AppliesInOrder (Err f) old input places before after →
      length before < length old + length input
  spare_short f few a =
      elim (cases_lt (length before) (length old + length input)) [
        | inl lt ↦ lt
        | inr le ↦
            absurd (only_room f
            (refuses_none places old input before after x.payloads y.payloads j.changes x.end
            y.end h j.sends (sym j.alike.version) (sym j.alike.session) few j.leads (Err f) a)
            (λ is. room_in_order (Err f) places old input before after a le (ap Err is)))
      ]

-- ---- of the whole answer

pub record Found (n : ℕ) (o : Option Snapshot) (x : Snapshot) (after : List ℕ) : Type 0 where
  pub y : Snapshot
  pub is : o ≡ Some y
  pub joined : JoinedTo (take n after) x y

pub found_by : (n : ℕ) (o : Option Snapshot) (x : Snapshot) (after : List ℕ) →
    Joins (Ok n) o x after → Found n o x after
found_by n None x after j = absurd j
found_by n (Some y) x after j = record { y = y; is = refl; joined = j }

pub not_returned : (v : ℕ) (f : SinceFault) (o : Option Snapshot) (x y : Snapshot)
    (spare before : List ℕ) → Returns (Err f) y spare →
    WritesChangesSince v (Err f) o x before before
not_returned v Unknown o x y spare before r = absurd r
not_returned v UnitVersion o x y spare before r = absurd r
not_returned v Malformed o x y spare before r = absurd r
not_returned v (NoRoom r m) o x y spare before w = tt

-- ---- which slice is too short

pub buffer_named : (f : SinceFault) (steps n w i b s o : ℕ) → LacksBuffer (Err f) steps b →
    steps ≤ w → w ≡ 2 * n → IsShortForAnswer (Err (grown f w)) n i b s o
buffer_named Unknown steps n w i b s o l le is = tt
buffer_named UnitVersion steps n w i b s o l le is = tt
buffer_named Malformed steps n w i b s o l le is = tt
buffer_named (NoRoom Index m) steps n w i b s o l le is = absurd l
buffer_named (NoRoom Buffer m) steps n w i b s o l le is = (omega (arith, l.1, le), is)
buffer_named (NoRoom Spare m) steps n w i b s o l le is = absurd l
buffer_named (NoRoom Output m) steps n w i b s o l le is = absurd l

pub spare_named : (f : SinceFault) (changes n i b s o : ℕ) →
    LacksSpare (Err f) changes n i s → changes ≤ n → IsShortForAnswer (Err f) n i b s o
spare_named Unknown changes n i b s o l le = tt
spare_named UnitVersion changes n i b s o l le = tt
spare_named Malformed changes n i b s o l le = tt
spare_named (NoRoom Index m) changes n i b s o l le = (l.1, omega (arith, l.0, le))
spare_named (NoRoom Buffer m) changes n i b s o l le = absurd l
spare_named (NoRoom Spare m) changes n i b s o l le = (l.1, l.0)
spare_named (NoRoom Output m) changes n i b s o l le = absurd l

pub output_named : (r : Result ℕ SinceFault) (w n i b s o : ℕ) → LacksOutput r w b o →
    w ≡ 2 * n → IsShortForAnswer r n i b s o
output_named (Ok m) w n i b s o l is = tt
output_named (Err Unknown) w n i b s o l is = tt
output_named (Err UnitVersion) w n i b s o l is = tt
output_named (Err Malformed) w n i b s o l is = tt
output_named (Err (NoRoom Index m)) w n i b s o l is = absurd l
output_named (Err (NoRoom Buffer m)) w n i b s o l is = (l.1, l.0 ∙ is)
output_named (Err (NoRoom Spare m)) w n i b s o l is = absurd l
output_named (Err (NoRoom Output m)) w n i b s o l is = (l.1, omega (arith, l.0, is))
