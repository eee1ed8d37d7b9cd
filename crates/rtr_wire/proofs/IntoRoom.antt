-- What is written is never longer than what it is written for, but for an end of data.
use Rattle.std.proofs.Common.{◌≡◌, ◌≢◌, ℕ, ◌+◌, ◌<◌, ◌≤◌, leb, List, [], ◌∷◌, length, Option}
use Rattle.std.proofs.Common.{Some, None, Result, Ok, Err, refl}
use Rattle.std.proofs.Common.{ap, arith, inl, inr}
use Rattle.std.proofs.lemmas.Bool.{cond_both}
use Rattle.std.proofs.lemmas.List.{length-append}
use Rattle.rtr_base.specs.Actions.{act, flags_of}
use Rattle.rtr_base.specs.Addresses.{Family, v4, v6}
use Rattle.rtr_base.specs.Bytes.{be, words}
use Rattle.rtr_base.specs.declared.action.Action.{Action}
use Rattle.rtr_base.specs.declared.action.Action.TheVariants.{Announce, Withdraw}
use Rattle.rtr_units.specs.End.{EndMeaning, IsEnd, end_list, timed_list}
use Rattle.rtr_payload.specs.Payloads.{Meaning, Payload, origin, key, aspa, smallest_version}
use Rattle.rtr_units.specs.PrefixUnits.{PrefixFields, prefix_list}
use Rattle.rtr_payload.specs.AspaUnits.{aspa_list, meant_aspa}
use Rattle.rtr_payload.specs.UnitFields.{Fields, prefix_unit, key_unit, aspa_unit}
use Rattle.rtr_payload.specs.Units.{IsUnit, form_of}
use Rattle.rtr_payload.specs.UnitFields.{unit_list, meaning}
use Rattle.rtr_payload.proofs.ByFields.{unit_fields_of}
use Rattle.rtr_base.specs.declared.timing.Timing.{Timing}
use Rattle.rtr_wire.specs.Into.{LacksRoom, NormalisesInto}
use Rattle.rtr_wire.specs.Sequences.{AreUnits, Output, everything, for_version}
use Rattle.rtr_wire.specs.Sequences.{forms, written_units, in_version}
use Rattle.rtr_wire.specs.Sequences.{unit_for, end_for}
use Rattle.rtr_wire.specs.declared.into.IntoFault.{IntoFault}
use Rattle.rtr_wire.specs.declared.into.IntoFault.TheVariants.{NoRoom}
use Rattle.rtr_wire.specs.declared.into.Progress.{Progress}
use Rattle.rtr_wire.proofs.Written.{form_written, forms_cons}

-- a withdrawal names no providers
fewer : (v f g z c : ℕ) (a : Action) (ps : List ℕ) →
    length (aspa_list (record {
      version = v;
      flags = f;
      free = 0;
      aspa = meant_aspa a (record { customer = c; providers = ps });
    })) ≤
    length (aspa_list
    (record { version = v; flags = g; free = z; aspa = record { customer = c; providers = ps } }))
fewer v f g z c Announce ps = omega arith
fewer v f g z c Withdraw ps =
    omega (arith, length-append (be c 4) (words ps), length-append (be c 4) (words []))

prefix_fits : (u : PrefixFields) (f : Family) → u.origin.family ≡ f →
    length (form_of (meaning (prefix_unit u))) ≤ length (prefix_list u)
prefix_fits u v4 e = rw e (omega arith)
prefix_fits u v6 e = rw e (omega arith)

form_fits : (u : Fields) → length (form_of (meaning u)) ≤ length (unit_list u)
form_fits (prefix_unit u) = prefix_fits u u.origin.family refl
form_fits (key_unit u) = omega arith
form_fits (aspa_unit u) =
    fewer u.version (flags_of (act u.flags)) u.flags u.free u.aspa.customer (act u.flags)
    u.aspa.providers

pub unit_fits : (b : List ℕ) (m : Meaning) → IsUnit b m → length (form_of m) ≤ length b
unit_fits b m unit =
    let h = unit_fields_of b m unit in
    omega (arith, form_fits h.fields, ap length h.bytes, ap (λ m. length (form_of m)) h.means)

-- a version has one byte
same_size : (v : ℕ) (m : Meaning) → length (form_of (in_version v m)) ≡ length (form_of m)
same_size v m = by_payload m.payload refl
  where
    by_payload : (p : Payload) → m.payload ≡ p →
        length (form_of (in_version v m)) ≡ length (form_of m)
    by_payload (origin o) e = rw e refl
    by_payload (key k) e = rw e refl
    by_payload (aspa a) e = rw e refl

version_fits : (v : ℕ) (b : List ℕ) (m : Meaning) → IsUnit b m →
    length (form_written (unit_for v m)) ≤ length b
version_fits v b m unit =
    cond_both (leb (smallest_version m.payload) v) (Some (in_version v m)) None
    (λ o. length (form_written o) ≤ length b)
    (λ _. omega (arith, unit_fits b m unit, same_size v m)) (λ _. omega arith)

-- an end of data has at least 12 bytes, and at most 24
end_size : (v s q : ℕ) (t : Option Timing) →
    (12 ≤ length (timed_list v s q t)) × (length (timed_list v s q t) ≤ 24)
end_size v s q None = (omega arith, omega arith)
end_size v s q (Some t) = (omega arith, omega arith)

-- the next is written in no more bytes than it has, and these more
module _ (what : Output) (more : ℕ)
    (one_fits : (b : List ℕ) (m : Meaning) → IsUnit b m →
    length (form_written (what.unit m)) ≤ length b)
    (end_fits : (next : List ℕ) (e : EndMeaning) → IsEnd next e →
    length (end_list (what.end e)) ≤ length next + more) where
  units_fit : (us : List ℕ) (ms : List Meaning) → AreUnits us ms →
      length (forms (written_units what ms)) ≤ length us
  units_fit us [] h = omega arith
  units_fit us (m ∷ ms) (first, rest, parts, unit, others) =
      let one = what.unit m in
      let more = written_units what ms in
      omega (
        arith,
        one_fits first m unit,
        units_fit rest ms others,
        ap length parts,
        length-append first rest,
        ap length (forms_cons one more),
        length-append (form_written one) (forms more),
      )

  next_fits : (next : List ℕ) (room : ℕ) → LacksRoom what next room → room < length next + more
  next_fits next room (form, inl (m, n, unit, is, of), less) =
      let size = ap (λ o. length (form_written o)) is in
      omega (arith, less, ap length of, size, one_fits next m unit)
  next_fits next room (form, inr (e, end, of), less) =
      omega (arith, less, ap length of, end_fits next e end)

  pub always_room : (limit : ℕ) (result : Result Unit IntoFault) (input before after : List ℕ)
      (p : Progress) → NormalisesInto what limit result input before after p →
      length input + more ≤ length before → result ≢ Err NoRoom
  always_room limit (Ok done) input before after p f enough e = absurd cc
  always_room limit (Err g) input before after p f enough e = at_fault g f cc
    where
      at_fault : (g : IntoFault) → NormalisesInto what limit (Err g) input before after p →
          g ≡ NoRoom → ⊥
      at_fault NoRoom f e =
          let less = next_fits f.last f.room f.stops.0 in
          let units = forms (written_units what f.run.meanings) in
          omega (
            arith,
            less,
            units_fit f.run.units f.run.meanings f.run.are_units,
            f.room_is,
            f.written,
            ap length f.run.written_parts,
            length-append units f.run.last_written,
            ap length f.stops.1,
            ap length f.parts,
            length-append f.viewed f.left,
            ap length f.run.taken_parts,
            length-append f.run.units f.run.last,
            ap length f.last_is,
            enough,
          )
      at_fault g f e = absurd cc

pub room_for_all : (limit : ℕ) (result : Result Unit IntoFault) (input before after : List ℕ)
    (p : Progress) → NormalisesInto everything limit result input before after p →
    length input ≤ length before → result ≢ Err NoRoom
room_for_all limit result input before after p f enough =
    always_room everything 0 unit_fits (λ next e end. omega (arith, ap length end.bytes)) limit
    result input before after p f (omega (arith, enough))

pub room_for_version : (v limit : ℕ) (result : Result Unit IntoFault) (input before after : List ℕ)
    (p : Progress) → NormalisesInto (for_version v) limit result input before after p →
    length input + 12 ≤ length before → result ≢ Err NoRoom
room_for_version v limit result input before after p f enough =
    always_room (for_version v) 12 (version_fits v)
    (λ next e end.
    omega (
      arith,
      ap length end.bytes,
      (end_size e.version e.session e.serial e.timing).0,
      (end_size v e.session e.serial (end_for v e).timing).1,
    ))
    limit result input before after p f enough
