-- The data of a recording have no more bytes than the recording, and each of its payload units has
-- 12 bytes at least.
use Rattle.std.proofs.Common.{◌≡◌, ◌≢◌, ◌≤◌, ℕ, ◌+◌, ◌*◌, ◌/◌, Bool, true, false, List, [], ◌∷◌}
use Rattle.std.proofs.Common.{◌++◌, length, map, filter, Option, Some, None, Result, Ok, Err, refl}
use Rattle.std.proofs.Common.{sym, ap, subst, arith}
use Rattle.std.proofs.lemmas.List.{append-nil, length-append}
use Rattle.std.specs.List.{AllByRecursion, flat_map}
use Rattle.rtr_base.specs.Actions.{flags_of}
use Rattle.rtr_base.specs.Addresses.{Family, v4, v6}
use Rattle.rtr_base.specs.Bytes.{be}
use Rattle.rtr_units.specs.End.{EndMeaning, end_list}
use Rattle.rtr_units.specs.PrefixUnits.{PrefixFields, prefix_list}
use Rattle.rtr_payload.specs.Payloads.{Payload, origin, key, aspa}
use Rattle.rtr_payload.specs.UnitFields.{Fields, aspa_unit, key_unit, meaning, prefix_unit}
use Rattle.rtr_payload.specs.UnitFields.{unit_list}
use Rattle.rtr_payload.specs.Units.{IsUnit, form, form_of}
use Rattle.rtr_payload.proofs.ByFields.{fields_unit}
use Rattle.unit_any.specs.AnyFields.{AnyFields, any_list, cache_reset, cache_response}
use Rattle.unit_any.specs.AnyFields.{end_of_data, error_report, payload, reset_query}
use Rattle.unit_any.specs.AnyFields.{serial_notify, serial_query}
use Rattle.data_memory.specs.Data.{after, announcement}
use Rattle.data_memory.specs.Deltas.{change_forms, unit_of}
use Rattle.data_memory.specs.Sequences.{change_of}
use Rattle.data_memory.specs.declared.change_error.ChangeError.{ChangeError}
use Rattle.data_recordings.specs.RecordingRead.{IsRecorded}
use Rattle.data_recordings.specs.Recordings.{OpenAnswer, SoMuch, begins_anew, begun_if, current}
use Rattle.data_recordings.specs.Recordings.{held_after, last_session, nothing, open_in}
use Rattle.data_recordings.specs.Recordings.{refusal_in, step, unless_open, unless_refused, whole}
use Rattle.data_recordings.specs.Recordings.{with_change, with_open}
use Rattle.data_recordings.specs.declared.stop.Refusal.{Refusal}
use Rattle.data_slices.specs.Apply.{data_form}
use Rattle.data_slices.proofs.ApplyRoom.{Within, all_made}
use Rattle.data_slices.proofs.DeltaRoom.{announced_size, units_fit}
use Rattle.data_loading.specs.Loading.{LoadsFrom, Taken, is_payload}
use Rattle.data_loading.specs.declared.fault.LoadFault.{LoadFault}
use Rattle.data_loading.specs.declared.fault.LoadFault.TheVariants as faults
use Rattle.data_loading.specs.declared.recording.Loaded.{Loaded}

-- ---- the change of a unit

recorded_unit : (g : Fields) → IsRecorded (payload g) → IsUnit (unit_list g) (meaning g)
recorded_unit g is =
    fields_unit (unit_list g) g
    (record {
      fits = is.0.fits.0;
      limits = is.0.fits.1;
      bytes = is.0.bytes;
      are_bytes = is.0.are_bytes;
    }) is.1

same_size : (v w f : ℕ) (p : Payload) → length (form v f p) ≡ length (form w f p)
same_size v w f (origin o) = refl
same_size v w f (key k) = refl
same_size v w f (aspa a) = refl

module _ (v : ℕ) where
  -- the written form of a change has no more bytes than its unit, in any version
  change_size : (g : Fields) → IsRecorded (payload g) →
      length (change_forms v (change_of (meaning g) ∷ [])) ≤ length (unit_list g)
  change_size g is =
      let m = meaning g in
      let first = form_of (unit_of v (change_of m)) in
      omega (
        arith,
        units_fit (unit_list g) (m ∷ [])
            (unit_list g, [], sym (append-nil (unit_list g)), recorded_unit g is, refl),
        length-append first [],
        length-append (form_of m) [],
        same_size v m.version (flags_of m.action) m.payload,
      )

  wider : (r : Result (List Payload) ChangeError) (n k : ℕ) → n ≤ k → Within v r n → Within v r k
  wider (Ok d) n k less few = omega (arith, less, few)
  wider (Err e) n k less few = tt

  made_size : (g : Fields) (d : List Payload) (n : ℕ) → IsRecorded (payload g) →
      announced_size v d ≤ n →
      Within v (after (change_of (meaning g)) d) (n + length (unit_list g))
  made_size g d n is few =
      let c = change_of (meaning g) in
      wider (after c d) (n + length (change_forms v (c ∷ []))) (n + length (unit_list g))
      (omega (arith, change_size g is)) (all_made v (c ∷ []) (Ok d) n few)

  -- ---- what units leave has no more bytes than they have

  abbrev end_size : Option EndMeaning → ℕ
  end_size None = 0
  end_size (Some e) = length (end_list e)

  abbrev open_size : Option OpenAnswer → ℕ
  open_size None = 0
  open_size (Some o) = announced_size v o.payloads

  abbrev Fits : SoMuch → ℕ → Type 0
  Fits m n = (announced_size v m.kept + end_size m.end ≤ n) × (open_size m.pending ≤ n)

  abbrev FitsIn : Result SoMuch Refusal → ℕ → Type 0
  FitsIn (Ok m) n = Fits m n
  FitsIn (Err e) n = Unit {0}

  fits_more : (r : Result SoMuch Refusal) (n k : ℕ) → n ≤ k → FitsIn r n → FitsIn r k
  fits_more (Ok m) n k less f = (omega (arith, less, f.0), omega (arith, less, f.1))
  fits_more (Err e) n k less f = tt

  begun_size : (b : Bool) (m : SoMuch) (s : Option ℕ) (n : ℕ) → Fits m n →
      announced_size v (begun_if b m s).payloads ≤ n
  begun_size true m s n f = omega arith
  begun_size false m s n f = omega (arith, f.0)

  current_size : (p : Option OpenAnswer) (m : SoMuch) (n : ℕ) → Fits m n → open_size p ≤ n →
      announced_size v (open_in p m).payloads ≤ n
  current_size None m n f few =
      begun_size (begins_anew m (last_session m)) m (last_session m) n f
  current_size (Some o) m n f few = few

  changed_fits : (r : Result (List Payload) ChangeError) (m : SoMuch) (n k : ℕ) → n ≤ k →
      Fits m n → Within v r k → FitsIn (with_change m r) k
  changed_fits (Ok d) m n k less f few = (omega (arith, less, f.0), few)
  changed_fits (Err e) m n k less f few = tt

  closed_fits : (o : Option Refusal) (m : SoMuch) (d : List Payload) (e : EndMeaning) (n : ℕ) →
      announced_size v d ≤ n →
      FitsIn (unless_refused o (whole (with_open m) d e)) (n + length (end_list e))
  closed_fits None m d e n few = (omega (arith, few), omega arith)
  closed_fits (Some why) m d e n few = tt

  unless_fits : (o : Option OpenAnswer) (why : Refusal) (m : SoMuch) (n : ℕ) → Fits m n →
      FitsIn (unless_open o why m) n
  unless_fits None why m n f = f
  unless_fits (Some answer) why m n f = tt

  step_fits : (unit : AnyFields) (m : SoMuch) (n : ℕ) → IsRecorded unit → Fits m n →
      FitsIn (step unit m) (n + length (any_list unit))
  step_fits (payload g) m n is f =
      changed_fits (after (change_of (meaning g)) (current m).payloads) m n
      (n + length (unit_list g)) (omega arith) f
      (made_size g (current m).payloads n is (current_size m.pending m n f f.1))
  step_fits (cache_response w s) m n is f =
      (omega (arith, f.0), omega (arith, begun_size (begins_anew m (Some s)) m (Some s) n f))
  step_fits (end_of_data e) m n is f =
      closed_fits (refusal_in (current m) e) m (current m).payloads e n
      (current_size m.pending m n f f.1)
  step_fits (cache_reset w s) m n is f =
      fits_more (step (cache_reset w s) m) n _ (omega arith)
      (unless_fits m.pending _ (record m { asks_all = Some true }) n f)
  step_fits (error_report w c b) m n is f =
      fits_more (step (error_report w c b) m) n _ (omega arith) (unless_fits m.pending _ m n f)
  step_fits (reset_query w s) m n is f = (omega (arith, f.0), omega (arith, f.1))
  step_fits (serial_query w s q) m n is f = (omega (arith, f.0), omega (arith, f.1))
  step_fits (serial_notify w s q) m n is f = (omega (arith, f.0), omega (arith, f.1))

  all_fit : (units : List AnyFields) (r : Result SoMuch Refusal) (n : ℕ) →
      AllByRecursion IsRecorded units → FitsIn r n →
      FitsIn (held_after units r) (n + length (flat_map any_list units))
  all_fit [] r n are f = fits_more r n _ (omega arith) f
  all_fit (unit ∷ units) (Err e) n are f = tt
  all_fit (unit ∷ units) (Ok m) n are f =
      fits_more (held_after units (step unit m)) _ _
      (omega (arith, length-append (any_list unit) (flat_map any_list units)))
      (all_fit units (step unit m) (n + length (any_list unit)) are.1 (step_fits unit m n are.0 f))

-- ---- buffers as long as the recording are long enough

taken_fits : (input : List ℕ) (offset : ℕ) (t : Taken input offset) (e : EndMeaning) →
    t.held.end ≡ Some e → length (data_form t.held.kept e) ≤ length input
taken_fits input offset t e ended =
    let v = e.version in
    let f : Fits v t.held (0 + length (flat_map any_list t.units)) =
    subst (λ r. FitsIn v r (0 + length (flat_map any_list t.units))) t.makes
    (all_fit v t.units (Ok nothing) 0 t.are_recorded (omega arith, omega arith)) in
    omega (
      arith,
      f.0,
      ap (end_size v) ended,
      ap length t.parts,
      length-append (flat_map any_list t.units) t.left,
      length-append (change_forms v (map announcement t.held.kept)) (end_list e),
    )

pub room_to_load : (r : Result Loaded LoadFault) (input : List ℕ) (places room : ℕ)
    (after : List ℕ) → LoadsFrom r input places room after → length input ≤ room →
    r ≢ Err faults.NoRoom
room_to_load (Ok l) input places room after w enough e = absurd cc
room_to_load (Err (faults.Refused offset reason)) input places room after w enough e = absurd cc
room_to_load (Err (faults.NoIndex wanted)) input places room after w enough e = absurd cc
room_to_load (Err faults.NoRoom) input places room after (offset, t, e, ended, less) enough is =
    absurd (omega (arith, taken_fits input offset t e ended, less, enough))

-- ---- an index with an element for each 12 bytes of the recording is long enough

prefix_least : (u : PrefixFields) (f : Family) → u.origin.family ≡ f → 12 ≤ length (prefix_list u)
prefix_least u v4 e = rw e (omega arith)
prefix_least u v6 e = rw e (omega arith)

key_least : (v f z n asn : ℕ) (identifier info : List ℕ) →
    12 ≤ length (v ∷ 9 ∷ f ∷ z ∷ be n 4 ++ identifier ++ be asn 4 ++ info)
key_least v f z n asn identifier info =
    let front = v ∷ 9 ∷ f ∷ z ∷ be n 4 in
    omega (
      arith,
      length-append (front ++ identifier ++ be asn 4) info,
      length-append (front ++ identifier) (be asn 4),
      length-append front identifier,
    )

least_size : (g : Fields) → 12 ≤ length (unit_list g)
least_size (prefix_unit u) = prefix_least u u.origin.family refl
least_size (key_unit u) =
    key_least u.version u.flags u.free (32 + length u.key.info) u.key.asn u.key.identifier
    u.key.info
least_size (aspa_unit u) = omega arith

few_payloads : (units : List AnyFields) →
    12 * length (filter is_payload units) ≤ length (flat_map any_list units)
few_payloads [] = omega arith
few_payloads (payload g ∷ units) =
    omega (
      arith,
      least_size g,
      few_payloads units,
      length-append (unit_list g) (flat_map any_list units),
    )
few_payloads (cache_response w s ∷ units) = omega (arith, few_payloads units)
few_payloads (end_of_data e ∷ units) =
    omega (arith, few_payloads units, length-append (end_list e) (flat_map any_list units))
few_payloads (cache_reset w s ∷ units) = omega (arith, few_payloads units)
few_payloads (error_report w c b ∷ units) =
    omega (
      arith,
      few_payloads units,
      length-append (any_list (error_report w c b)) (flat_map any_list units),
    )
few_payloads (reset_query w s ∷ units) = omega (arith, few_payloads units)
few_payloads (serial_query w s q ∷ units) = omega (arith, few_payloads units)
few_payloads (serial_notify w s q ∷ units) = omega (arith, few_payloads units)

pub index_to_load : (r : Result Loaded LoadFault) (input : List ℕ) (places room : ℕ)
    (after : List ℕ) → LoadsFrom r input places room after → length input / 12 ≤ places →
    (wanted : ℕ) → r ≢ Err (faults.NoIndex wanted)
index_to_load (Ok l) input places room after w enough n e = absurd cc
index_to_load (Err (faults.Refused offset reason)) input places room after w enough n e = absurd cc
index_to_load (Err faults.NoRoom) input places room after w enough n e = absurd cc
index_to_load (Err (faults.NoIndex wanted)) input places room after
    (less, left, o) enough n e =
    absurd (omega (
      arith,
      less,
      o.count,
      enough,
      few_payloads o.units,
      ap length o.before.parts,
      length-append (flat_map any_list o.before.units) o.before.left,
      ap length o.parts,
      length-append (flat_map any_list o.units) left,
    ))
