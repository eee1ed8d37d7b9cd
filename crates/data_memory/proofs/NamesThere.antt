-- Whether a name is there, in the part that has payloads of its kind.
use Rattle.std.proofs.Common.{◌≡◌, ℕ, Bool, List, ◌++◌, map, ap, sym, ◌∙◌}
use Rattle.std.specs.Prelude.{is_some}
use Rattle.std.specs.BTreeMap.{is_at}
use Rattle.std.specs.List.{list_any}
use Rattle.std.specs.Map.{lookup}
use Rattle.std.specs.Ordering.{on, nat_cmp}
use Rattle.rtr_payload.specs.Meanings.{origin_of, key_of}
use Rattle.rtr_payload.specs.Orders.{payload_cmp}
use Rattle.rtr_payload.specs.Payloads.{Payload, AspaParts, aspa}
use Rattle.rtr_payload.specs.declared.payload.RouteOrigin.{RouteOrigin}
use Rattle.rtr_payload.specs.declared.payload.RouterKey.{RouterKey}
use Rattle.data_memory.specs.Contents.{joined, entry_of}
use Rattle.data_memory.specs.Data.{has_name}
use Rattle.data_memory.proofs.Parts.{origin_same, key_same, origin_above, key_above, key_below}
use Rattle.data_memory.proofs.Parts.{aspa_below_origins, aspa_below_keys, entry_name}
use Rattle.data_memory.proofs.Segments.{part_has, no_name_below}

module _ (os : List RouteOrigin) (ks : List RouterKey) (es : List (ℕ × List ℕ)) where
  pub origin_named : (o : RouteOrigin) →
      has_name (joined os ks es) (origin_of o) ≡ list_any (is_at (on origin_of payload_cmp o)) os
  origin_named o =
      part_has origin_of (on origin_of payload_cmp) origin_same o os
      (map key_of ks ++ map entry_of es) (origin_above o ks es)

  pub key_named : (k : RouterKey) →
      has_name (joined os ks es) (key_of k) ≡ list_any (is_at (on key_of payload_cmp k)) ks
  key_named k =
      no_name_below (key_of k) (map origin_of os) (map key_of ks ++ map entry_of es)
      (key_below k os)
      ∙ part_has key_of (on key_of payload_cmp) key_same k ks (map entry_of es) (key_above k es)

  pub aspa_named : (a : AspaParts) →
      has_name (joined os ks es) (aspa a) ≡ is_some (lookup (is_at (nat_cmp a.customer)) es)
  aspa_named a =
      no_name_below (aspa a) (map origin_of os) (map key_of ks ++ map entry_of es)
      (aspa_below_origins a os)
      ∙ no_name_below (aspa a) (map key_of ks) (map entry_of es) (aspa_below_keys a ks)
      ∙ entry_name a es

pub named_there : {b : Bool} {p q : Payload} {old d : List Payload} → p ≡ q → d ≡ old →
    b ≡ has_name d q → b ≡ has_name old p
named_there {p = p} {q = q} {old = old} {d = d} e v h =
    h ∙ ap (λ l. has_name l q) v ∙ ap (λ x. has_name old x) (sym e)
