-- The sequence that is asked for.
use Rattle.std.proofs.Common.{◌≡◌, ◌<◌, ◌^◌, ℕ, refl, inl, inr, arith}
use Rattle.std.proofs.Common.{List, [], ◌∷◌, ◌++◌, Result, Ok, Err, subst, sym, ap, ◌∙◌}
use Rattle.std.proofs.Common.{Bool, true, false}
use Rattle.std.proofs.Common.{not, ◌&&◌, nat_eq, length}
use Rattle.std.proofs.lemmas.Bool.{and_parts, eqb-true}
use Rattle.rtr_base.specs.declared.timing.Timing.{Timing}
use Rattle.rtr_units.specs.End.{IsEndMeaning, HasTimingOf, end_list}
use Rattle.rtr_units.specs.Stream.{PutsForm}
use Rattle.rtr_units.specs.StopCauses.{WriterState}
use Rattle.rtr_units.specs.declared.fault.Fault.{Fault}
use Rattle.rtr_payload.specs.Payloads.{Payload}
use Rattle.data_memory.specs.Deltas.{all_for, change_forms, data_for}
use Rattle.data_memory.proofs.Accepted.{all_sequence}
use Rattle.make_work.specs.Gathering.{Gathers, GathersAll, NamesFirst}
use Rattle.make_work.specs.Making.{HasNone, HasSome, IsSequenceOf, asked_end}
use Rattle.make_work.specs.Making.{sequence_of, timing_for, version_number}
use Rattle.make_work.specs.declared.gathering.Gathered.{Gathered}
use Rattle.make_work.specs.declared.item.Item.{Item}
use Rattle.make_work.specs.declared.item.Refusal.{Refusal}
use Rattle.make_work.specs.declared.words.Request.{Request}
use Rattle.make_work.specs.declared.words.Version.{Version}
use Rattle.make_work.specs.declared.words.Version.TheVariants.{V0, V1, V2}

pub has_timing : (v : Version) (t : Timing) → t.refresh < 2 ^ 32 → t.retry < 2 ^ 32 →
    t.expire < 2 ^ 32 → HasTimingOf (version_number v) (timing_for v t)
has_timing V0 t a b c = refl
has_timing V1 t a b c = (inl refl, a, b, c)
has_timing V2 t a b c = (inr refl, a, b, c)

pub version_is_byte : (v : Version) → version_number v < 256
version_is_byte V0 = omega arith
version_is_byte V1 = omega arith
version_is_byte V2 = omega arith

some_at : (takes b : Bool) → takes ≡ false → (not takes && b) ≡ false → b ≡ true → ⊥
some_at true b e f h = absurd cc
some_at false b e f h = absurd cc

is_nothing : (l : List Payload) → nat_eq (length l) 0 ≡ true → l ≡ []
is_nothing [] h = refl
is_nothing (p ∷ l) h = absurd (omega (arith, eqb-true (length (p ∷ l)) 0 h))

not_true : (b : Bool) → not b ≡ true → b ≡ false
not_true true e = absurd cc
not_true false e = refl

module _ (a : Request) (items : List Item) (d : List Payload) (v : ℕ)
    (is : v ≡ version_number a.version) where
  has_some : (b : Bool) → b ≡ nat_eq (length (data_for v d)) 0 →
      (not a.takes_empty && b) ≡ false → HasSome a d
  has_some b e f unasked none =
      some_at a.takes_empty b unasked f
      (e ∙ ap (λ w. nat_eq (length (data_for w d)) 0) is ∙ ap (λ l. nat_eq (length l) 0) none)

  -- no payload is left, and that isn't asked for
  pub lacks : (n : ℕ) (b : Bool) → GathersAll (version_number a.version) a.leaves_out items d n →
      b ≡ nat_eq (length (data_for v d)) 0 → (not a.takes_empty && b) ≡ true → HasNone a items
  lacks n b g e f =
      let p = and_parts (not a.takes_empty) b f in record {
        d = d;
        left_out = n;
        gathered = g;
        none = ap (λ w. data_for w d) (sym is) ∙ is_nothing (data_for v d) (sym e ∙ p.1);
        unasked = not_true a.takes_empty p.0;
      }

  pub made : (n : ℕ) (b : Bool) → GathersAll (version_number a.version) a.leaves_out items d n →
      b ≡ nat_eq (length (data_for v d)) 0 → (not a.takes_empty && b) ≡ false →
      IsEndMeaning (asked_end a) → IsSequenceOf a items d n
  made n b g e f fits = record {
    gathered = g;
    some = has_some b e f;
    accepted = all_sequence (version_number a.version) (version_is_byte a.version) d
        (asked_end a) g.sendable fits;
  }

  pub written : (r : Result (Unit {0}) Fault) (old new : WriterState) (end : List ℕ) →
      end ≡ end_list (asked_end a) →
      PutsForm r old new (change_forms v (all_for v d) ++ end) →
      PutsForm r old new (sequence_of a d)
  written r old new end e h =
      subst (λ l. PutsForm r old new l)
      (ap (λ l. change_forms v (all_for v d) ++ l) e
      ∙ ap (λ w. change_forms w (all_for w d) ++ end_list (asked_end a)) is) h

-- of what was gathered all is in the data, or the first item is refused
pub gathered_all : (a : Request) (items : List Item) (r : Result Gathered Refusal) (g : Gathered) →
    r ≡ Ok g → Gathers (version_number a.version) a.leaves_out items r →
    GathersAll (version_number a.version) a.leaves_out items g.payloads g.left_out
gathered_all a items r g e h =
    subst (Gathers (version_number a.version) a.leaves_out items) e h

pub gathered_none : (a : Request) (items : List Item) (r : Result Gathered Refusal)
    (f : Refusal) → r ≡ Err f → Gathers (version_number a.version) a.leaves_out items r →
    NamesFirst (version_number a.version) a.leaves_out items f f.reason
gathered_none a items r f e h =
    subst (Gathers (version_number a.version) a.leaves_out items) e h
