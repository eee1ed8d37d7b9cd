-- The payloads that are kept change with an end of data alone.
use Rattle.std.proofs.Common.{◌≡◌, List, [], ◌∷◌, Option, Some, None, Result, Ok, Err, refl, ap}
use Rattle.std.proofs.Common.{true, sym, ◌∙◌}
use Rattle.rtr_payload.specs.Payloads.{Payload}
use Rattle.rtr_payload.specs.UnitFields.{meaning}
use Rattle.data_memory.specs.Data.{after}
use Rattle.data_memory.specs.Sequences.{change_of}
use Rattle.data_memory.specs.declared.change_error.ChangeError.{ChangeError}
use Rattle.unit_any.specs.AnyFields.{AnyFields, serial_notify, serial_query, reset_query}
use Rattle.unit_any.specs.AnyFields.{cache_response, payload, end_of_data, cache_reset}
use Rattle.unit_any.specs.AnyFields.{error_report}
use Rattle.data_recordings.specs.Recordings.{HasNoEnd, IsNoEnd, OpenAnswer, SoMuch, current}
use Rattle.data_recordings.specs.Recordings.{held_after, step, unless_open, with_change}
use Rattle.data_recordings.specs.declared.stop.Refusal.{Refusal}
use Rattle.data_recordings.specs.declared.stop.Refusal.TheVariants as refusals

abbrev taken : SoMuch → Result SoMuch Refusal
taken m = Ok m

same : (m n : SoMuch) → taken m ≡ taken n → m ≡ n
same m n e = cc

changed : (m n : SoMuch) (r : Result (List Payload) ChangeError) → with_change m r ≡ Ok n →
    n.kept ≡ m.kept
changed m n (Ok d) e = ap (λ x. x.kept) (sym (same _ n e))
changed m n (Err x) e = absurd cc

unless : (o : Option OpenAnswer) (why : Refusal) (m n : SoMuch) → unless_open o why m ≡ Ok n →
    n.kept ≡ m.kept
unless (Some answer) why m n e = absurd cc
unless None why m n e = ap (λ x. x.kept) (sym (same m n e))

one_stays : (unit : AnyFields) (m n : SoMuch) → IsNoEnd unit → step unit m ≡ Ok n →
    n.kept ≡ m.kept
one_stays (serial_notify v s number) m n fine e = ap (λ x. x.kept) (sym (same _ n e))
one_stays (serial_query v s number) m n fine e = ap (λ x. x.kept) (sym (same _ n e))
one_stays (reset_query v s) m n fine e = ap (λ x. x.kept) (sym (same _ n e))
one_stays (cache_response v s) m n fine e = ap (λ x. x.kept) (sym (same _ n e))
one_stays (payload f) m n fine e =
    changed m n (after (change_of (meaning f)) (current m).payloads) e
one_stays (end_of_data end) m n fine e = absurd fine
one_stays (cache_reset v s) m n fine e =
    unless m.pending refusals.CacheReset (record m { asks_all = Some true }) n e
one_stays (error_report v c body) m n fine e = unless m.pending refusals.ErrorReport m n e

-- units in turn, by what the first makes
module _ (units : List AnyFields)
    (later : (m n : SoMuch) → held_after units (Ok m) ≡ Ok n → n.kept ≡ m.kept) where
  in_turn : (m n : SoMuch) (r : Result SoMuch Refusal) →
      ((g : SoMuch) → r ≡ Ok g → g.kept ≡ m.kept) → held_after units r ≡ Ok n → n.kept ≡ m.kept
  in_turn m n (Ok g) first e = later g n e ∙ first g refl
  in_turn m n (Err x) first e = absurd (none units x e) where
    none : (units : List AnyFields) (x : Refusal) → held_after units (Err x) ≡ Ok n → ⊥
    none [] x e = cc
    none (unit ∷ units) x e = cc

pub stay : (units : List AnyFields) (m n : SoMuch) → HasNoEnd units →
    held_after units (Ok m) ≡ Ok n → n.kept ≡ m.kept
stay [] m n fine e = ap (λ x. x.kept) (sym (same m n e))
stay (unit ∷ units) m n fine e =
    in_turn units (λ g k. stay units g k fine.1) m n (step unit m)
    (λ g. one_stays unit m g fine.0) e
