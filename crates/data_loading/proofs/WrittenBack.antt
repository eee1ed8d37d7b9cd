-- What changes make of data, written over them.
use Rattle.std.proofs.Common.{◌≡◌, ◌≤◌, ℕ, List, [], ◌++◌, length, take, drop}
use Rattle.std.proofs.Common.{Some, None, Ok, Err, sym, ap, subst, ◌∙◌}
use Rattle.std.proofs.Common.{arith, append-nil}
use Rattle.std.proofs.lemmas.List.{length-append, length-drop, take_at}
use Rattle.rtr_units.specs.AnyEnd.{end_meaning}
use Rattle.rtr_units.specs.declared.end.EndOfData.{EndOfData}
use Rattle.rtr_payload.specs.Payloads.{Payload}
use Rattle.unit_views.specs.Placing.{Places}
use Rattle.data_memory.specs.Data.{Change}
use Rattle.data_slices.specs.Apply.{data_form}
use Rattle.data_slices.specs.AtOffsets.{WritesMade}
use Rattle.data_slices.specs.Canonical.{HoldsData}
use Rattle.data_loading.specs.PrivateLoading.{WritesBack}
use Rattle.data_loading.specs.declared.fault.LoadFault.TheVariants as faults

front_is : (n : ℕ) (piece rest : List ℕ) → n ≡ length piece → take n (piece ++ rest) ≡ piece
front_is n piece rest is = take_at piece rest n (sym is)

module _ (n : ℕ) (xs : List (ℕ × Change)) (d : List Payload) (x : EndOfData)
    (before after : List ℕ) (w : WritesMade (Some n) xs d (end_meaning x) before after) where
  abbrev form : List ℕ
  form = data_form w.0 (end_meaning x)

  pub written_within : n ≤ length after
  written_within =
      omega (
        arith,
        ap length w.3.2,
        length-append form (drop n before),
        length-drop n before,
        w.3.0,
        w.3.1,
      )

  copied : take n after ++ [] ≡ form
  copied =
      append-nil (take n after) ∙ ap (take n) w.3.2 ∙ front_is n form (drop n before) w.3.0

  pub written_back : (m : ℕ) (out out' : List ℕ) (room : ℕ) →
      Places (Some m) (take n after ++ []) out out' → WritesBack (Ok n) xs d x room out'
  written_back m out out' room p =
      let same : n ≡ m = w.3.0 ∙ sym (ap length copied) ∙ sym p.0 in
      let all : out' ≡ form ++ drop m out = p.2 ∙ ap (λ l. l ++ drop m out) copied in
      let is : take n out' ≡ form = ap (take n) all ∙ front_is n form (drop m out) w.3.0 in (
        w.0,
        w.1,
        (
          omega (arith, ap length all, length-append form (drop m out), w.3.0),
          w.3.0,
          is,
          subst (λ l. HoldsData l w.0 (end_meaning x)) (sym is) w.2,
        ),
      )

  pub no_room_back : (out out' : List ℕ) (room : ℕ) → room ≤ length out →
      Places None (take n after ++ []) out out' → WritesBack (Err faults.NoRoom) xs d x room out'
  no_room_back out out' room le p =
      (w.0, w.1, omega (arith, p.0, ap length copied, le))
