-- How far a slice was found to hold data: a run of announcements.
use Rattle.std.proofs.Common.{◌≡◌, ℕ, ◌-◌, List, ◌++◌, length, map, Option, None, refl, sym, ap}
use Rattle.std.proofs.Common.{subst}
use Rattle.std.proofs.Common.{◌∙◌, append_assoc, arith}
use Rattle.std.proofs.lemmas.List.{length-append}
use Rattle.rtr_base.specs.declared.action.Action.TheVariants.{Announce}
use Rattle.rtr_units.specs.End.{EndMeaning, IsEnd}
use Rattle.rtr_payload.specs.Payloads.{Payload}
use Rattle.unit_views.specs.Faults.{IsFirstFault}
use Rattle.unit_views.specs.declared.fault.ViewFault.{ViewFault}
use Rattle.rtr_wire.specs.Sequences.{AreUnits}
use Rattle.data_memory.specs.Data.{announcement}
use Rattle.data_memory.specs.Deltas.{unit_of}
use Rattle.data_slices.specs.Canonical.{HasData, HoldsData}
use Rattle.data_slices.specs.Flaws.{AreAnnounced, AreUnitsOf, IsFlawOfData}
use Rattle.data_slices.specs.Items.{meant}
use Rattle.data_slices.specs.PrivateChanges.{BeginsAlso, InVersion, IsNext, NoUnit, RunsOn}
use Rattle.data_slices.specs.PrivateChanges.{last_version}
use Rattle.data_slices.specs.declared.fault.Flaw.{Flaw}
use Rattle.data_slices.specs.declared.fault.Reason.TheVariants.{Refused, NotCanonical}
use Rattle.data_slices.specs.declared.item.PayloadView.{PayloadView}
use Rattle.data_slices.proofs.FirstFlaws.{Begins, at_end, at_fault, at_next_unit, data_ended}
use Rattle.data_slices.proofs.Running.{Ran, Stops, in_order, longest, stops_at_none, stops_before}
use Rattle.data_slices.proofs.Units.{none_at_end, none_at_fault}

abbrev pub Checked : (input left : List ℕ) → Option PayloadView → Type 0
Checked input left last = Ran Announce None input left last (last_version last)

module _ (input r : List ℕ) (last : Option PayloadView) (c : Checked input r last) where
  abbrev Ends : Type 0
  Ends = Stops Announce None input r last (last_version last) c

  ordered : Ends → AreAnnounced (map announcement c.ps)
  ordered ends = (c.ps, refl, in_order Announce None input r last (last_version last) c ends)

  -- the data that the end of data makes of the units before it
  pub ends : (b left : List ℕ) (e : EndMeaning) → IsEnd b e → r ≡ b ++ left →
      InVersion (last_version last) e.version → (d : List Payload) × HoldsData input d e
  ends b left e end parts same = (
    c.ps,
    record {
      bytes = c.front ++ b;
      accepts = record {
        rest = left;
        parts =
            c.parts ∙ ap (λ l. c.front ++ l) parts ∙ sym (append_assoc c.front b left);
        sequence = record {
          front = c.front;
          last = b;
          parts = refl;
          units = c.units e.version same;
          end = end;
        };
      };
      in_order =
          in_order Announce None input r last (last_version last) c
          (stops_at_none Announce None input r last (last_version last) c
          (subst NoUnit (sym parts) (none_at_end b left e end)));
    },
  )

  -- ---- flaws

  module _ (f : Flaw) (size : f.offset ≡ length input - length r) where
    offset_is : f.offset ≡ length c.front
    offset_is = omega (arith, size, ap length c.parts, length-append c.front r)

    module _ (stop : Ends) where
      before : AreUnitsOf AreAnnounced c.front
      before = record {
        version = c.some.0;
        changes = map announcement c.ps;
        units = c.units c.some.0 c.some.1;
        such = ordered stop;
      }

      so_far : (x : List ℕ) → BeginsAlso x r → (v : ℕ) (tail : List ℕ) →
          Begins AreAnnounced (c.front ++ x) v tail →
          (tail ≡ x) × InVersion (last_version last) v
      so_far x also v tail g =
          let (d, is, s) = g.such in
          let t = longest Announce None input r last (last_version last) c stop x also v d g.bytes
          tail tt s (subst (λ l. AreUnits g.bytes (map (unit_of v) l)) is g.units) g.parts
          (λ m b k u eq on. g.ends m b k u eq) in
          (t.1, t.2)

    -- a unit that doesn't go on
    pub unit_misplaced : f.reason ≡ NotCanonical → (v : PayloadView) (left : List ℕ) →
        (next : IsNext v left r) →
        (RunsOn Announce (last_version last) last (meant v) → ⊥) → IsFlawOfData input f
    unit_misplaced is v left next not =
        let stop = stops_before Announce None input r last (last_version last) c v left next not in
        at_next_unit AreAnnounced HasData data_ended input c.front r c.parts (before stop) f
        offset_is (last_version last) (so_far stop) is next.0 left next.2 (meant v) next.1.0

    -- an end of data of another version
    pub end_misplaced : f.reason ≡ NotCanonical → (b left : List ℕ) (e : EndMeaning) → IsEnd b e →
        r ≡ b ++ left → (InVersion (last_version last) e.version → ⊥) → IsFlawOfData input f
    end_misplaced is b left e end parts not =
        let stop = stops_at_none Announce None input r last (last_version last) c
        (subst NoUnit (sym parts) (none_at_end b left e end)) in
        at_end AreAnnounced HasData data_ended input c.front r c.parts (before stop) f offset_is
        (last_version last) (so_far stop) is b left parts e end not

    -- what is no unit
    pub refused : (fault : ViewFault) → f.reason ≡ Refused fault → IsFirstFault r fault →
        IsFlawOfData input f
    refused fault is first =
        let stop = stops_at_none Announce None input r last (last_version last) c
        (none_at_fault fault r first) in
        at_fault AreAnnounced HasData data_ended input c.front r c.parts (before stop) f offset_is
        (last_version last) (so_far stop) fault is first
