-- Steps back, joined to one list of changes.
use Rattle.std.proofs.Common.{◌≡◌, ◌≢◌, ◌≤◌, ◌+◌, ◌-◌, ◌*◌, ℕ, List, [], ◌∷◌, ◌++◌}
use Rattle.std.proofs.Common.{Some, Ok, Err, length, take, drop, map, refl, sym, ap}
use Rattle.std.proofs.Common.{subst, ◌∙◌, arith, append-nil, append_assoc}
use Rattle.std.proofs.lemmas.List.{length-append, length-map, length-take-le, map-append, take_at}
use Rattle.std.proofs.lemmas.List.{take-append-drop}
use Rattle.rtr_base.specs.Addresses.{Family, v4, v6}
use Rattle.rtr_base.specs.Bytes.{be, words}
use Rattle.rtr_units.specs.End.{EndMeaning, IsEnd, end_list}
use Rattle.rtr_units.specs.PrefixUnits.{PrefixFields, prefix_list}
use Rattle.rtr_payload.specs.Payloads.{Meaning}
use Rattle.rtr_payload.specs.UnitFields.{Fields, prefix_unit, key_unit, aspa_unit, unit_list}
use Rattle.rtr_payload.specs.Units.{IsUnit}
use Rattle.rtr_payload.proofs.ByFields.{unit_fields_of}
use Rattle.rtr_wire.specs.Sequences.{AreUnits}
use Rattle.rtr_wire.proofs.Runs.{forms_are_units}
use Rattle.data_memory.specs.Changes.{after_all}
use Rattle.data_memory.specs.Data.{Change}
use Rattle.data_memory.specs.Deltas.{change_forms, unit_of}
use Rattle.data_memory.proofs.Delta.{after_append}
use Rattle.data_slices.specs.Canonical.{PlacesFront}
use Rattle.data_slices.specs.CanonicalChanges.{HoldsChanges}
use Rattle.data_slices.specs.Order.{Sends}
use Rattle.data_slices.proofs.DeltaRoom.{units_fit}
use Rattle.data_slices.proofs.Reapplied.{one_changes}
use Rattle.data_slices.proofs.Units.{units_join}
use Rattle.data_history.specs.Snapshots.{AreAlike, GoesBack, Snapshot, snapshot_at}
use Rattle.data_history.specs.Parts.{HasPart, part_bytes, part_rest}
use Rattle.data_history.specs.PrivateJoins.{Joins}
use Rattle.data_history.proofs.Checked.{leads_first}
use Rattle.data_history.specs.declared.since.SinceFault.TheVariants.{Unknown}
use Rattle.data_history.proofs.Parts.{part_sizes}
use Rattle.data_history.proofs.Steps.{behind, here, no_flaw, unknown}
use Rattle.data_slices.specs.Flaws.{IsFlawOfChanges}
use Rattle.data_slices.specs.declared.fault.Flaw.{Flaw}

-- ---- how long units are

prefix_size : (u : PrefixFields) (f : Family) → u.origin.family ≡ f → 12 ≤ length (prefix_list u)
prefix_size u v4 e = rw e (omega arith)
prefix_size u v6 e = rw e (omega arith)

fields_size : (u : Fields) → 12 ≤ length (unit_list u)
fields_size (prefix_unit u) = prefix_size u u.origin.family refl
fields_size (key_unit u) =
    omega (
      arith,
      length-append (u.key.identifier ++ be u.key.asn 4) u.key.info,
      length-append u.key.identifier (be u.key.asn 4),
    )
fields_size (aspa_unit u) =
    omega (arith, length-append (be u.aspa.customer 4) (words u.aspa.providers))

unit_size : (b : List ℕ) (m : Meaning) → IsUnit b m → 12 ≤ length b
unit_size b m unit =
    let h = unit_fields_of b m unit in
    omega (arith, fields_size h.fields, ap length h.bytes)

pub units_size : (b : List ℕ) (ms : List Meaning) → AreUnits b ms → 12 * length ms ≤ length b
units_size b [] h = omega arith
units_size b (m ∷ ms) (first, rest, parts, unit, units) =
    omega (
      arith,
      unit_size first m unit,
      units_size rest ms units,
      ap length parts,
      length-append first rest,
    )

-- ---- the changes of some steps, as far as they were joined

-- the front of the buffer makes the changes from x to y, behind which the steps go on
pub record IsJoined (b rest : List ℕ) (wanted size : ℕ) (x : Snapshot)
    (ys : List Snapshot) : Type 0 where
  pub y : Snapshot
  pub zs : List Snapshot
  pub changes : List Change
  pub units : AreUnits (take size b) (map (unit_of x.end.version) changes)
  pub leads : after_all changes (Ok x.payloads) ≡ Ok y.payloads
  pub alike : AreAlike x y
  pub more : GoesBack rest y zs
  pub same : snapshot_at wanted x ys ≡ snapshot_at wanted y zs
  pub other : y.end.serial ≢ wanted

pub none_joined : (b steps : List ℕ) (wanted : ℕ) (x : Snapshot) (ys : List Snapshot) →
    GoesBack steps x ys → x.end.serial ≢ wanted → IsJoined b steps wanted 0 x ys
none_joined b steps wanted x ys back other = record {
  y = x;
  zs = ys;
  changes = [];
  units = refl;
  leads = refl;
  alike = record { version = refl; session = refl };
  more = back;
  same = refl;
  other = other;
}

-- changes that were written behind others
module _ (b after : List ℕ) (size n : ℕ) (cs : List Change) (end : EndMeaning)
    (placed : PlacesFront (Some n) (take size b ++ (change_forms end.version cs ++ end_list end)) b
    after) where
  pub after_front : take n after ≡ (take size b ++ change_forms end.version cs) ++ end_list end
  after_front =
      let form = take size b ++ (change_forms end.version cs ++ end_list end) in
      ap (take n) placed.2 ∙ take_at form (drop n b) n (sym placed.0)
      ∙ sym (append_assoc (take size b) (change_forms end.version cs) (end_list end))

  pub front_of : take (n - length (end_list end)) after ≡ take size b ++ change_forms end.version cs
  front_of =
      let m = n - length (end_list end) in
      let front = take size b ++ change_forms end.version cs in
      let size_is : m ≡ length front = omega (
        arith,
        placed.0,
        length-append (take size b) (change_forms end.version cs ++ end_list end),
        length-append (change_forms end.version cs) (end_list end),
        length-append (take size b) (change_forms end.version cs),
      ) in
      ap (take m) (placed.2
      ∙ ap (λ l. l ++ drop n b)
      (sym (append_assoc (take size b) (change_forms end.version cs) (end_list end)))
      ∙ append_assoc front (end_list end) (drop n b))
      ∙ take_at front (end_list end ++ drop n b) m (sym size_is)

-- the next step
module _ (b after rest s left : List ℕ) (wanted size n : ℕ) (x : Snapshot) (ys : List Snapshot)
    (end : EndMeaning) (cs : List Change) (j : IsJoined b rest wanted size x ys)
    (part : HasPart rest) (is : s ≡ part_bytes rest) (is' : left ≡ part_rest rest)
    (h : HoldsChanges s cs end)
    (placed : PlacesFront (Some n) (take size b ++ (change_forms end.version cs ++ end_list end)) b
    after) where
  record Next : Type 0 where
    z : Snapshot
    more : List Snapshot
    at : z.end ≡ end
    same : snapshot_at wanted x ys ≡ snapshot_at wanted z more
    back : GoesBack left z more
    leads : after_all (j.changes ++ cs) (Ok x.payloads) ≡ Ok z.payloads
    alike : AreAlike x z
    units : AreUnits (take size b ++ change_forms end.version cs)
        (map (unit_of x.end.version) (j.changes ++ cs))

  next : Next
  next =
      leads_first rest s end cs j.y j.zs Next part is h j.more
      (λ z zs same step at back.
      let cs_are : step.changes ≡ cs = (one_changes s step.changes cs z.end end step.holds h).0 in
      let version : x.end.version ≡ end.version =
      sym j.alike.version ∙ step.version ∙ ap (λ (e : EndMeaning). e.version) at in
      let forms : AreUnits (change_forms end.version cs) (map (unit_of end.version) cs) =
      forms_are_units h.accepts.sequence.front (map (unit_of end.version) cs)
      h.accepts.sequence.units in
      record {
        z = z;
        more = zs;
        at = at;
        same = j.same ∙ ap (snapshot_at wanted j.y) same ∙ behind wanted j.y z zs j.other;
        back = subst (λ l. GoesBack l z zs) (sym is') back;
        leads = after_append j.changes cs (Ok x.payloads) ∙ ap (after_all cs) j.leads
            ∙ ap (λ l. after_all l (Ok j.y.payloads)) (sym cs_are) ∙ step.leads;
        alike = record {
          version = sym step.version ∙ j.alike.version;
          session = sym step.session ∙ j.alike.session;
        };
        units = subst (AreUnits (take size b ++ change_forms end.version cs))
            (sym (map-append (unit_of x.end.version) j.changes cs))
            (units_join (take size b) (change_forms end.version cs)
            (map (unit_of x.end.version) j.changes) (map (unit_of x.end.version) cs) j.units
            (subst (λ v. AreUnits (change_forms end.version cs) (map (unit_of v) cs)) (sym version)
            forms));
      })

  abbrev front : List ℕ
  front = take size b ++ change_forms end.version cs

  -- it leads to the wanted snapshot
  pub reached : end.serial ≡ wanted → Joins (Ok n) (snapshot_at wanted x ys) x after
  reached found =
      let t = next in
      let at : snapshot_at wanted x ys ≡ Some t.z =
      t.same ∙ here wanted t.z t.more (ap (λ (e : EndMeaning). e.serial) t.at ∙ found) in
      let version : x.end.version ≡ t.z.end.version = sym t.alike.version in
      subst (λ o. Joins (Ok n) o x after) (sym at) (record {
        changes = j.changes ++ cs;
        sends = record {
          bytes = front ++ end_list end;
          accepts = record {
            rest = [];
            parts = after_front b after size n cs end placed ∙ sym (append-nil (front ++ end_list
                end));
            sequence = record {
              front = front;
              last = end_list end;
              parts = refl;
              units = subst (λ v. AreUnits front (map (unit_of v) (j.changes ++ cs))) version
                  t.units;
              end = subst (λ e. IsEnd (end_list end) e) (sym t.at)
                  (record { fits = h.accepts.sequence.end.fits; bytes = refl });
            };
          };
        };
        leads = t.leads;
        alike = t.alike;
      })

  -- or to one before it
  pub went_on : end.serial ≢ wanted →
      IsJoined after left wanted (n - length (end_list end)) x ys
  went_on other =
      let t = next in
      record {
        y = t.z;
        zs = t.more;
        changes = j.changes ++ cs;
        units = subst (λ l. AreUnits l (map (unit_of x.end.version) (j.changes ++ cs)))
            (sym (front_of b after size n cs end placed)) t.units;
        leads = t.leads;
        alike = t.alike;
        more = t.back;
        same = t.same;
        other = λ e. other (ap (λ (e : EndMeaning). e.serial) (sym t.at) ∙ e);
      }

-- how long the form of changes is
pub form_size : (s : List ℕ) (cs : List Change) (end : EndMeaning) → HoldsChanges s cs end →
    length (change_forms end.version cs ++ end_list end) ≤ length s
form_size s cs end h =
    omega (
      arith,
      units_fit h.accepts.sequence.front (map (unit_of end.version) cs) h.accepts.sequence.units,
      ap length h.accepts.parts,
      ap length h.accepts.sequence.parts,
      ap length h.accepts.sequence.end.bytes,
      length-append h.bytes h.accepts.rest,
      length-append h.accepts.sequence.front h.accepts.sequence.last,
      length-append (change_forms end.version cs) (end_list end),
    )

-- how many changes there are
pub changes_few : (b : List ℕ) (cs : List Change) (e : EndMeaning) → Sends b cs e →
    12 * length cs ≤ length b
changes_few b cs e h =
    omega (
      arith,
      units_size h.accepts.sequence.front (map (unit_of e.version) cs) h.accepts.sequence.units,
      length-map cs (unit_of e.version),
      ap length h.accepts.parts,
      ap length h.accepts.sequence.parts,
      length-append h.bytes h.accepts.rest,
      length-append h.accepts.sequence.front h.accepts.sequence.last,
    )

-- a copy of a snapshot's data
pub written_behind : (b : List ℕ) (size : ℕ) → size ≤ length b →
    PlacesFront (Some size) (take size b) b b
written_behind b size le =
    (sym (length-take-le size b le), le, sym (take-append-drop size b))

-- ---- the loop

-- how many bytes were written, and are left
pub record RoomSoFar (steps rest buffer : List ℕ) (size : ℕ) : Type 0 where
  pub few : size + length rest ≤ length steps
  pub fits : size ≤ length buffer

pub room_so_far : (steps buffer : List ℕ) → RoomSoFar steps steps buffer 0
room_so_far steps buffer = record { few = omega arith; fits = omega arith }

pub room_more : (steps rest buffer after s left : List ℕ) (size n : ℕ) (end : EndMeaning)
    (cs : List Change) → RoomSoFar steps rest buffer size → HasPart rest → s ≡ part_bytes rest →
    left ≡ part_rest rest → HoldsChanges s cs end →
    PlacesFront (Some n) (take size buffer ++ (change_forms end.version cs ++ end_list end)) buffer
    after → length after ≡ length buffer →
    RoomSoFar steps left after (n - length (end_list end)) × (n ≤ length steps)
room_more steps rest buffer after s left size n end cs j part is is' h placed same =
    let before = length-take-le size buffer j.fits in
    let form = form_size s cs end h in
    let sum = length-append (take size buffer) (change_forms end.version cs ++ end_list end) in
    let sizes = part_sizes rest part in (
      record {
        few = omega (arith, j.few, before, form, sum, placed.0, sizes, ap length is, ap length is');
        fits = omega (arith, placed.1, same);
      },
      omega (arith, j.few, before, form, sum, placed.0, sizes, ap length is),
    )

abbrev pub JoinedSoFar : (steps rest buffer : List ℕ) (wanted size : ℕ) → Type 0
JoinedSoFar steps rest buffer wanted size =
    (x : Snapshot) (ys : List Snapshot) → GoesBack steps x ys → x.end.serial ≢ wanted →
    IsJoined buffer rest wanted size x ys

-- no snapshot of the number is behind the last step
pub not_there : (steps rest buffer after : List ℕ) (wanted size : ℕ) (x : Snapshot)
    (ys : List Snapshot) → JoinedSoFar steps rest buffer wanted size → (HasPart rest → ⊥) →
    GoesBack steps x ys → x.end.serial ≢ wanted →
    Joins (Err Unknown) (snapshot_at wanted x ys) x after
not_there steps rest buffer after wanted size x ys j absent back other =
    let t = j x ys back other in
    t.same ∙ unknown rest wanted t.y t.zs t.other absent t.more

-- a present part consists of changes
pub not_flawed : (steps rest s buffer : List ℕ) (wanted size : ℕ) (f : Flaw) (x : Snapshot)
    (ys : List Snapshot) → JoinedSoFar steps rest buffer wanted size → HasPart rest →
    s ≡ part_bytes rest → IsFlawOfChanges s f → GoesBack steps x ys → x.end.serial ≢ wanted → ⊥
not_flawed steps rest s buffer wanted size f x ys j part is flaw back other =
    let t = j x ys back other in no_flaw rest s f t.y t.zs part is flaw t.more
