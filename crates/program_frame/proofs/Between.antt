-- Pieces that are written one after the other.
use Rattle.std.proofs.Common.{ℕ, List, ◌++◌, Ok, Err, Result, ap, sym, ◌∙◌}
use Rattle.std.proofs.Common.{append_assoc, arith}
use Rattle.std.specs.Prelude.{false}
use Rattle.std.specs.declared.io.Error.{Error}
use Rattle.std.proofs.KnownBytes.{Appends-trans}
use Rattle.std.proofs.lemmas.List.{length-append}
use Rattle.rtr_units.specs.Calls.{WritesAll}
use Rattle.rtr_units.specs.StopCauses.{count_after}
use Rattle.rtr_units.specs.declared.source.Sink as sinks

-- the first of two pieces was not written
pub first_not_written : {W : Type 0} (sink : sinks.Ghosts W) {T : Type 0} (e : Error) (old new : W)
    (a b : List ℕ) → WritesAll sink {T = T} (Err e) old new a →
    WritesAll sink {T = T} (Err e) old new (a ++ b)
first_not_written sink e old new a b h = record {
  bytes = (
    h.bytes.0,
    h.bytes.1 ++ b,
    h.bytes.2,
    ap (λ (l : List ℕ). l ++ b) h.bytes.3 ∙ append_assoc h.bytes.0 h.bytes.1 b,
    omega (arith, length-append h.bytes.1 b, h.bytes.4),
    h.bytes.5,
  );
  count = h.count;
  error = h.error;
}

-- the first was written, and then the second was or was not
pub then_written : {W : Type 0} (sink : sinks.Ghosts W) {T U : Type 0} (x : U) (r : Result T Error)
    (old mid new : W) (a b : List ℕ) → WritesAll sink {T = U} (Ok x) old mid a →
    WritesAll sink r mid new b → WritesAll sink r old new (a ++ b)
then_written sink x (Ok y) old mid new a b h k = record {
  bytes = Appends-trans (sink.state old).held (sink.state mid).held (sink.state new).held a b
      h.bytes k.bytes;
  count = k.count ∙ h.count;
  error = k.error;
}
then_written sink x (Err e) old mid new a b h k = record {
  bytes = (
    a ++ k.bytes.0,
    k.bytes.1,
    Appends-trans (sink.state old).held (sink.state mid).held (sink.state new).held a k.bytes.0
        h.bytes k.bytes.2,
    ap (λ (l : List ℕ). a ++ l) k.bytes.3 ∙ sym (append_assoc a k.bytes.0 k.bytes.1),
    k.bytes.4,
    k.bytes.5,
  );
  count = k.count ∙ ap (λ n. count_after n false) h.count;
  error = k.error;
}
