-- How much buffer is enough.
use Rattle.std.proofs.Common.{◌≡◌, ◌≤◌, ◌<◌, ◌+◌, ℕ, List, [], ◌∷◌, ◌++◌, length, Some}
use Rattle.std.proofs.Common.{None, Ok, Err, refl, sym, ap, subst, ◌∙◌, arith, inl, inr}
use Rattle.std.proofs.Common.{true, false, append-nil, nat_eq}
use Rattle.std.proofs.lemmas.List.{length-append}
use Rattle.std.proofs.lemmas.Bool.{cases_lt}
use Rattle.rtr_units.specs.End.{EndMeaning}
use Rattle.rtr_payload.specs.Payloads.{Meaning, Payload}
use Rattle.rtr_wire.specs.Into.{NormalisesInto}
use Rattle.rtr_wire.specs.Run.{Run}
use Rattle.rtr_wire.specs.Sequences.{Accepts, Output}
use Rattle.rtr_wire.specs.declared.into.IntoFault.{IntoFault}
use Rattle.rtr_wire.specs.declared.into.IntoFault.TheVariants as into
use Rattle.rtr_wire.specs.declared.into.Progress.{Progress}
use Rattle.rtr_wire.proofs.OneAnswer.{one_run, sequence_run}
use Rattle.rtr_units.specs.StopCauses.{too_many, wrong}
use Rattle.data_memory.specs.Changes.{after_all}
use Rattle.data_memory.specs.Data.{Change}
use Rattle.data_slices.specs.Apply.{AppliesChanges, data_form}
use Rattle.data_slices.specs.Canonical.{HoldsData}
use Rattle.data_slices.specs.CanonicalChanges.{HoldsChanges}
use Rattle.data_slices.specs.Delta.{IsPlaced, WritesDelta, delta_form}
use Rattle.data_slices.specs.declared.fault.ApplyFault.TheVariants as faults
use Rattle.data_slices.specs.declared.fault.DeltaFault.{DeltaFault}
use Rattle.data_slices.specs.declared.fault.DeltaFault.TheVariants as deltas
use Rattle.data_slices.proofs.Answered.{room}
use Rattle.data_slices.proofs.ApplyRoom.{room_to_apply}
use Rattle.data_slices.proofs.DeltaRoom.{enough_room}
use Rattle.data_slices.proofs.MadeData.{holds_made}
use Rattle.data_history.specs.Snapshots.{Snapshot, GoesBack, LeadsTo, snapshot_at}
use Rattle.data_history.specs.Parts.{part_bytes, part_rest}
use Rattle.data_history.proofs.Parts.{part_sizes}
use Rattle.data_history.proofs.Telling.{found, none_of}

-- ---- how long data and changes are

data_bound : (old input : List ℕ) (d d' : List Payload) (cs : List Change) (e e' : EndMeaning) →
    HoldsData old d e → HoldsChanges input cs e' → e.version ≡ e'.version →
    e.session ≡ e'.session → after_all cs (Ok d) ≡ Ok d' →
    length (data_form d' e') ≤ length old + length input
data_bound old input d d' cs e e' h j v s made =
    let form = data_form d' e' in
    let before = old ++ input in
    elim (cases_lt (length old + length input) (length form)) [
      | inl lt ↦
          let few : length before < length form = omega (arith, lt, length-append old input) in
          let w : AppliesChanges (Err faults.NoRoom) old input before before =
          (d, e, cs, e', h, j, (v, s, (d', made, (few, ([], form, refl, refl))))) in
          absurd (room_to_apply (Err faults.NoRoom) old input before before w
          (omega (arith, length-append old input)) refl)
      | inr le ↦ le
    ]

delta_bound : (old new : List ℕ) (d d' : List Payload) (e e' : EndMeaning) →
    HoldsData old d e → HoldsData new d' e' → e.version ≡ e'.version → e.session ≡ e'.session →
    length (delta_form d d' e') ≤ length old + length new
delta_bound old new d d' e e' h j v s =
    let form = delta_form d d' e' in
    let before = old ++ new in
    elim (cases_lt (length old + length new) (length form)) [
      | inl lt ↦
          let few : length before < length form = omega (arith, lt, length-append old new) in
          let w : WritesDelta None old new before before =
          (d, e, d', e', h, j, (v, s, (few, ([], form, refl, refl)))) in
          absurd (enough_room (Err deltas.NoRoom) old new before before w
          (omega (arith, length-append old new)) refl)
      | inr le ↦ le
    ]

-- ---- a step

-- bytes that hold a snapshot, no longer than this
pub record Held (n : ℕ) (y : Snapshot) : Type 0 where
  pub bytes : List ℕ
  pub holds : HoldsData bytes y.payloads y.end
  pub short : length bytes ≤ n

pub held_after : (b s : List ℕ) (x y : Snapshot) → HoldsData b x.payloads x.end → LeadsTo s x y →
    Held (length b + length s) y
held_after b s x y h step = record {
  bytes = data_form y.payloads y.end ++ [];
  holds =
      let q = step.holds.accepts.sequence in
      holds_made b q.front [] x.payloads y.payloads step.changes x.end y.end h q.units q.end.fits
      step.version step.leads;
  short = omega (
    arith,
    ap length (append-nil (data_form y.payloads y.end)),
    data_bound b s x.payloads y.payloads step.changes x.end y.end h step.holds step.version
        step.session step.leads,
  );
}

-- ---- the delta, and its form for a version

pub delta_fits : (f : DeltaFault) (old new before after : List ℕ) (d d' : List Payload)
    (e e' : EndMeaning) → HoldsData old d e → HoldsData new d' e' → e.version ≡ e'.version →
    e.session ≡ e'.session → IsPlaced (Err f) (delta_form d d' e') before after →
    length old + length new ≤ length before → ⊥
delta_fits f old new before after d d' e e' h j v s placed enough =
    let bound = delta_bound old new d d' e e' h j v s in
    let ok : false ≡ true =
    room (Err f) (delta_form d d' e') before after placed (omega (arith, bound, enough)) in
    absurd cc

pub delta_size : (old new : List ℕ) (d d' : List Payload) (e e' : EndMeaning) →
    HoldsData old d e → HoldsData new d' e' → e.version ≡ e'.version → e.session ≡ e'.session →
    length (delta_form d d' e') ≤ length old + length new
delta_size = delta_bound

-- a run over an input that begins with a sequence stops for want of buffer alone
pub stopped_run : (what : Output) (limit : ℕ) (g : IntoFault) (input before after : List ℕ)
    (p : Progress) → NormalisesInto what limit (Err g) input before after p →
    (g ≡ into.NoRoom → ⊥) → (b : List ℕ) (ms : List Meaning) (e : EndMeaning) →
    Accepts input b ms e → length ms < limit → ⊥
stopped_run what limit into.NoRoom input before after p f not b ms e acc few = not refl
stopped_run what limit into.TooMany input before after p f not b ms e acc few =
    let other = sequence_run what limit b acc.rest ms e acc.sequence few in
    let one = one_run what limit (Err too_many) _ f.viewed f.left f.form b acc.rest _ f.run other
    (sym f.parts ∙ acc.parts) tt tt in
    let same = one.0 in
    absurd cc
stopped_run what limit (into.Refused g) input before after p f not b ms e acc few =
    let (h, is) = f.stops in
    let other = sequence_run what limit b acc.rest ms e acc.sequence few in
    let run = subst (λ c. Run what limit (Err c) f.viewed f.left f.form) is f.run in
    let one = one_run what limit (Err (wrong h)) _ f.viewed f.left f.form b acc.rest _ run other
    (sym f.parts ∙ acc.parts) tt tt in
    let same = one.0 in
    absurd cc

-- ---- each snapshot of a history

pub held_at : (n : ℕ) (old b : List ℕ) (x y : Snapshot) (ys : List Snapshot) →
    HoldsData old x.payloads x.end → GoesBack b x ys → snapshot_at n x ys ≡ Some y →
    Held (length old + length b) y
held_at n old b x y [] h g is =
    found (Held (length old + length b) y) (nat_eq x.end.serial n) x y None is
    (λ e. record {
      bytes = old;
      holds = subst (λ (z : Snapshot). HoldsData old z.payloads z.end) e h;
      short = omega arith;
    })
    (λ e. absurd (none_of y e))
held_at n old b x y (z ∷ zs) h g is =
    found (Held (length old + length b) y) (nat_eq x.end.serial n) x y (snapshot_at n z zs) is
    (λ e. record {
      bytes = old;
      holds = subst (λ (z : Snapshot). HoldsData old z.payloads z.end) e h;
      short = omega arith;
    })
    (λ e.
    let s = held_after old (part_bytes b) x z h g.1 in
    let t = held_at n s.bytes (part_rest b) z y zs s.holds g.2 e in
    record {
      bytes = t.bytes;
      holds = t.holds;
      short = omega (arith, t.short, s.short, part_sizes b g.0);
    })
