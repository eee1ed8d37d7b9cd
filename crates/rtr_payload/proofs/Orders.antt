-- The order of payloads part by part, as the code compares them, and that it tells them apart.
use Rattle.std.proofs.Common.{◌≡◌, refl, sym, ap, ◌∙◌, ◌↔◌}
use Rattle.std.specs.Bool.{Decides}
use Rattle.std.specs.Cmp.{Equal-is, tied_itself}
use Rattle.std.specs.FinMap.{IsAntisymmetric, nat_cmp-IsAntisymmetric, slice_cmp-IsAntisymmetric}
use Rattle.std.specs.declared.cmp.Ordering.{Ordering}
use Rattle.std.specs.declared.cmp.Ordering.TheVariants.{Less, Equal, Greater}
use Rattle.std.specs.Ordering.{eq_by_cmp, nat_cmp, ordering_then}
use Rattle.rtr_base.proofs.Prefixes.{same_version}
use Rattle.rtr_payload.specs.Payloads.{AspaParts, Payload, origin, key, aspa}
use Rattle.rtr_payload.specs.OrderLaws.{payload_total}
use Rattle.rtr_payload.specs.Orders.{list_cmp, parts, payload_cmp}

pub then_equal : (o : Ordering) → ordering_then o Equal ≡ o
then_equal Less = refl
then_equal Equal = refl
then_equal Greater = refl

pub aspa_chain : (a b : AspaParts) →
    payload_cmp (aspa a) (aspa b) ≡
    ordering_then (nat_cmp a.customer b.customer) (list_cmp a.providers b.providers)
aspa_chain a b = simp then_equal

same_parts : (p q : Payload) → parts p ≡ parts q → p ≡ q
same_parts (origin o) (origin p) e =
    let family = same_version o.family p.family cc in
    let address : o.address ≡ p.address = cc in
    let prefix_len : o.prefix_len ≡ p.prefix_len = cc in
    let max_len : o.max_len ≡ p.max_len = cc in
    let asn : o.asn ≡ p.asn = cc in
    λ i. origin (record {
      family = family i;
      address = address i;
      prefix_len = prefix_len i;
      max_len = max_len i;
      asn = asn i;
    })
same_parts (origin o) (key k) e = absurd cc
same_parts (origin o) (aspa a) e = absurd cc
same_parts (key k) (origin o) e = absurd cc
same_parts (key k) (key j) e =
    let identifier : k.identifier ≡ j.identifier = cc in
    let asn : k.asn ≡ j.asn = cc in
    let info : k.info ≡ j.info = cc in
    λ i. key (record { identifier = identifier i; asn = asn i; info = info i })
same_parts (key k) (aspa a) e = absurd cc
same_parts (aspa a) (origin o) e = absurd cc
same_parts (aspa a) (key k) e = absurd cc
same_parts (aspa a) (aspa b) e =
    let customer : a.customer ≡ b.customer = cc in
    let providers : a.providers ≡ b.providers = cc in
    λ i. aspa (record { customer = customer i; providers = providers i })

payload_exact : IsAntisymmetric payload_cmp
payload_exact p q e =
    let exact = slice_cmp-IsAntisymmetric (slice_cmp-IsAntisymmetric nat_cmp-IsAntisymmetric) in
    same_parts p q (exact (parts p) (parts q) e)

pub payload_same : (p q : Payload) → (payload_cmp p q ≡ Equal) ↔ (p ≡ q)
payload_same p q =
    (payload_exact p q, λ e. ap (payload_cmp p) (sym e) ∙ tied_itself payload_total p)

-- the test by the order finds out whether payloads are one
pub payload_decides : (p q : Payload) → Decides (eq_by_cmp payload_cmp p q) (p ≡ q)
payload_decides p q = (
  λ h. payload_exact p q ((Equal-is (payload_cmp p q)).0 h),
  λ e. (Equal-is (payload_cmp p q)).1 ((payload_same p q).1 e),
)
