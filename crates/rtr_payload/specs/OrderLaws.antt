-- Laws of the order of payloads, also for values that are compared by what they mean, on which
-- their comparisons and hashes rest (this library's own).
use Rattle.std.specs.Prelude.{◌≡◌, true}
use Rattle.std.specs.Cmp.{Equal-is, IsEquivalence, IsPartialEquivalence, IsPartialOrder}
use Rattle.std.specs.Cmp.{IsTotalOrder}
use Rattle.std.specs.Cmp.{eq_by_cmp_equiv, on_equiv, on_po, on_total}
use Rattle.std.specs.Cmp.{partial_equiv_from_equiv, partial_order_from_total}
use Rattle.std.specs.Cmp.Lexicographic.{lists_total, nat_list_cmp_total}
use Rattle.std.specs.FinMap.{nat_cmp-IsAntisymmetric, slice_cmp-IsAntisymmetric}
use Rattle.std.specs.Ordering.{as_partial_cmp, eq_by_cmp, on}
use Rattle.rtr_payload.specs.Orders.{parts, payload_cmp}
use Rattle.rtr_payload.specs.Payloads.{Payload}

-- an instance of std's law on lists
pub payload_total : IsTotalOrder payload_cmp
payload_total = on_total parts (lists_total nat_list_cmp_total)

module _ {T : Type 0} (means : T → Payload) where
  pub meant_equiv : IsEquivalence (on means (eq_by_cmp payload_cmp))
  meant_equiv = on_equiv means (eq_by_cmp_equiv payload_total)

  pub meant_partial_equiv : IsPartialEquivalence (on means (eq_by_cmp payload_cmp))
  meant_partial_equiv = partial_equiv_from_equiv meant_equiv

  pub meant_partial_order :
      IsPartialOrder (on means (eq_by_cmp payload_cmp)) (on means (as_partial_cmp payload_cmp))
  meant_partial_order = on_po means (partial_order_from_total payload_total)

  pub meant_total : IsTotalOrder (on means payload_cmp)
  meant_total = on_total means payload_total

  pub same_meant : (a b : T) → on means (eq_by_cmp payload_cmp) a b ≡ true →
      parts (means a) ≡ parts (means b)
  same_meant a b e =
      slice_cmp-IsAntisymmetric (slice_cmp-IsAntisymmetric nat_cmp-IsAntisymmetric) _ _
      ((Equal-is (payload_cmp (means a) (means b))).0 e)
