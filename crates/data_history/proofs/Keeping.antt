-- Steps that are kept.
use Rattle.std.proofs.Common.{◌≡◌, ◌≤◌, ◌+◌, ◌-◌, ℕ, List, [], ◌∷◌, length, take, Some, sym, ap}
use Rattle.std.proofs.Common.{subst}
use Rattle.std.proofs.Common.{◌∙◌}
use Rattle.std.specs.declared.cmp.Ordering.TheVariants.{Less}
use Rattle.rtr_base.specs.Serial.{serial_cmp}
use Rattle.rtr_units.specs.End.{EndMeaning}
use Rattle.data_memory.specs.Data.{Change}
use Rattle.data_slices.specs.CanonicalChanges.{HoldsChanges}
use Rattle.data_slices.proofs.Reapplied.{one_changes}
use Rattle.data_history.specs.Snapshots.{Snapshot, GoesBack, LeadsTo}
use Rattle.data_history.specs.Next.{AreRecent, KeepsFront}
use Rattle.data_history.specs.Parts.{HasPart, part_bytes, part_rest, part_time}
use Rattle.std.proofs.Common.{arith, drop, refl}
use Rattle.std.proofs.lemmas.List.{drop-drop, length-drop}
use Rattle.data_history.proofs.Parts.{consumed, cut_after, left_after, part_sizes}
use Rattle.data_history.proofs.Steps.{not_empty}

pub keeps_more : (b s rest : List ℕ) (n serial since : ℕ) (end : EndMeaning) (cs : List Change)
    (x : Snapshot) (ys : List Snapshot) → HasPart b → s ≡ part_bytes b → rest ≡ part_rest b →
    HoldsChanges s cs end → serial_cmp end.serial serial ≡ Some Less → GoesBack b x ys →
    ((y : Snapshot) (zs : List Snapshot) → GoesBack rest y zs → KeepsFront n rest y zs serial since)
    →
    since ≤ part_time b → KeepsFront (length b - length rest + n) b x ys serial since
keeps_more b s rest n serial since end cs x [] part is is' j less g f late = absurd (not_empty b
    part g)
keeps_more b s rest n serial since end cs x (y ∷ ys) part is is' j less g f late =
    let k = f y ys (subst (λ t. GoesBack t y ys) (sym is') g.2) in
    let step : LeadsTo s x y = subst (λ t. LeadsTo t x y) (sym is) g.1 in
    let p = cut_after b (length b - length rest) n part (consumed b rest part is') in
    let number : y.end.serial ≡ end.serial =
    ap (λ (e : EndMeaning). e.serial)
    (one_changes s step.changes cs y.end end step.holds j).1 in
    record {
      front = y ∷ k.front;
      others = k.others;
      parts = ap (λ l. y ∷ l) k.parts;
      back = (
        p.has,
        subst (λ t. LeadsTo t x y) (sym p.bytes) g.1,
        subst (λ t. GoesBack t y k.front) (ap (take n) is' ∙ sym p.rest) k.back,
      );
      earlier = (
        (
          step.holds.accepts.sequence.end.fits.serial,
          ap (λ m. serial_cmp m serial) number ∙ less,
        ),
        k.earlier,
      );
      recent = (
        subst (λ m. since ≤ m) (sym p.time) late,
        subst (λ t. AreRecent since t k.front) (ap (take n) is' ∙ sym p.rest) k.recent,
      );
    }

-- ---- the steps that were kept so far

-- of steps back from any snapshot as many bytes are kept
abbrev pub Keeps : (n : ℕ) → List ℕ → (serial since : ℕ) → Type 0
Keeps n b serial since =
    (x : Snapshot) (ys : List Snapshot) → GoesBack b x ys → KeepsFront n b x ys serial since

pub record KeptSoFar (steps rest : List ℕ) (kept serial since : ℕ) : Type 0 where
  pub more : (n : ℕ) → Keeps n rest serial since → Keeps (kept + n) steps serial since
  pub left : rest ≡ drop kept steps
  pub within : kept ≤ length steps

pub none_kept : (steps : List ℕ) (serial since : ℕ) → KeptSoFar steps steps 0 serial since
none_kept steps serial since =
    record {
      more = λ n k.
          let same : n ≡ 0 + n = omega arith in subst (λ m. Keeps m steps serial since) same k;
      left = refl;
      within = omega arith;
    }

pub keeps_none : (b : List ℕ) (serial since : ℕ) → Keeps 0 b serial since
keeps_none b serial since = λ x ys back. record {
  front = [];
  others = ys;
  parts = refl;
  back = refl;
  earlier = tt;
  recent = tt;
}

pub kept_all : (steps rest : List ℕ) (kept serial since : ℕ) →
    KeptSoFar steps rest kept serial since → Keeps kept steps serial since
kept_all steps rest kept serial since k =
    let same : kept + 0 ≡ kept = omega arith in
    subst (λ n. Keeps n steps serial since) same (k.more 0 (keeps_none rest serial since))

pub kept_more : (steps rest s left : List ℕ) (kept serial since : ℕ) (end : EndMeaning)
    (cs : List Change) → KeptSoFar steps rest kept serial since → HasPart rest →
    s ≡ part_bytes rest → left ≡ part_rest rest → HoldsChanges s cs end →
    serial_cmp end.serial serial ≡ Some Less → since ≤ part_time rest →
    KeptSoFar steps left (kept + (length rest - length left)) serial since
kept_more steps rest s left kept serial since end cs k part is is' h less late =
    let size = length rest - length left in
    let sizes = part_sizes rest part in record {
      more = λ n keeps.
          let same : kept + (size + n) ≡ kept + size + n = omega arith in
          subst (λ m. Keeps m steps serial since) same
          (k.more (size + n) (λ x ys back.
          keeps_more rest s left n serial since end cs x ys part is is' h less back keeps late));
      left = sym (left_after rest left 0 part is')
          ∙ (let same : size + 0 ≡ size = omega arith in ap (λ m. drop m rest) same)
          ∙ ap (drop size) k.left ∙ drop-drop size kept steps;
      within = omega (
        arith,
        k.within,
        ap length k.left,
        length-drop kept steps,
        sizes,
        ap length
            is',
      );
    }
