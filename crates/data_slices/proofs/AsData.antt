-- What a value of data makes of a sequence is what it makes of data in a slice.
use Rattle.std.proofs.Common.{◌≡◌, ◌<◌, ℕ, List, length, map, Ok, sym, ap, ◌∙◌, arith}
use Rattle.std.proofs.Common.{[], ◌∷◌, refl}
use Rattle.rtr_units.specs.End.{EndMeaning}
use Rattle.rtr_payload.specs.Payloads.{Payload}
use Rattle.rtr_wire.proofs.Runs.{accepted_same}
use Rattle.data_memory.specs.Applying.{IsApplicable}
use Rattle.data_memory.specs.Changes.{after_all}
use Rattle.data_memory.specs.Data.{Change}
use Rattle.data_memory.specs.Deltas.{unit_of}
use Rattle.data_memory.specs.Sequences.{change_of}
use Rattle.data_memory.proofs.Accepted.{again}
use Rattle.data_slices.specs.Order.{Sends}

-- the sequence makes this of data that keep to it
pub applies_all : (limit : ℕ) (input b : List ℕ) (e : EndMeaning) (d d' : List Payload)
    (cs : List Change) → IsApplicable limit input b e d d' → Sends input cs e →
    after_all cs (Ok d) ≡ Ok d'
applies_all limit input b e d d' cs a s =
    let same = accepted_same input b s.bytes a.meanings (map (unit_of e.version) cs) e e a.accepts
    s.accepts in
    ap (λ l. after_all l (Ok d)) (sym (ap (map change_of) same.1 ∙ again e.version cs))
    ∙ a.allowed

as_many : (v : ℕ) (cs : List Change) → length (map (unit_of v) cs) ≡ length cs
as_many v [] = refl
as_many v (c ∷ cs) = omega (arith, as_many v cs)

-- and back
pub applicable : (limit : ℕ) (input : List ℕ) (e : EndMeaning) (d d' : List Payload)
    (cs : List Change) → Sends input cs e → length cs < limit → after_all cs (Ok d) ≡ Ok d' →
    (b : List ℕ) × IsApplicable limit input b e d d'
applicable limit input e d d' cs s few all = (
  s.bytes,
  record {
    meanings = map (unit_of e.version) cs;
    accepts = s.accepts;
    below = omega (arith, few, as_many e.version cs);
    allowed = ap (λ l. after_all l (Ok d)) (again e.version cs) ∙ all;
  },
)
