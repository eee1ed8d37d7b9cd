-- Names of payloads, compared part by part.
use Rattle.std.proofs.Common.{◌≡◌, [], true, false, refl, ◌∙◌}
use Rattle.std.specs.Ordering.{nat_cmp}
use Rattle.std.specs.declared.cmp.Ordering.TheVariants.{Less, Greater}
use Rattle.rtr_units.specs.PrefixUnits.{OriginParts}
use Rattle.rtr_payload.specs.Orders.{payload_cmp}
use Rattle.rtr_payload.specs.Payloads.{AspaParts, KeyParts, origin, key, aspa}
use Rattle.rtr_payload.proofs.Orders.{aspa_chain, then_equal}
use Rattle.data_memory.specs.Data.{name_cmp, takes_place}

pub origin_names : (o p : OriginParts) →
    name_cmp (origin o) (origin p) ≡ payload_cmp (origin o) (origin p)
unfolding name_cmp
origin_names o p = refl

pub key_names : (k j : KeyParts) → name_cmp (key k) (key j) ≡ payload_cmp (key k) (key j)
unfolding name_cmp
key_names k j = refl

pub aspa_names : (a b : AspaParts) → name_cmp (aspa a) (aspa b) ≡ nat_cmp a.customer b.customer
unfolding name_cmp
aspa_names a b =
    aspa_chain (record { customer = a.customer; providers = [] })
    (record { customer = b.customer; providers = [] })
    ∙ then_equal (nat_cmp a.customer b.customer)

-- ---- payloads of two kinds

pub origin_key : (o : OriginParts) (k : KeyParts) → name_cmp (origin o) (key k) ≡ Less
unfolding name_cmp
origin_key o k = refl

pub origin_aspa : (o : OriginParts) (a : AspaParts) → name_cmp (origin o) (aspa a) ≡ Less
unfolding name_cmp
origin_aspa o a = refl

pub key_aspa : (k : KeyParts) (a : AspaParts) → name_cmp (key k) (aspa a) ≡ Less
unfolding name_cmp
key_aspa k a = refl

pub key_origin : (k : KeyParts) (o : OriginParts) → name_cmp (key k) (origin o) ≡ Greater
unfolding name_cmp
key_origin k o = refl

pub aspa_origin : (a : AspaParts) (o : OriginParts) → name_cmp (aspa a) (origin o) ≡ Greater
unfolding name_cmp
aspa_origin a o = refl

pub aspa_key : (a : AspaParts) (k : KeyParts) → name_cmp (aspa a) (key k) ≡ Greater
unfolding name_cmp
aspa_key a k = refl

-- ---- which payloads take the place of others

pub origin_stays : (o : OriginParts) → false ≡ takes_place (origin o)
unfolding takes_place
origin_stays o = refl

pub key_stays : (k : KeyParts) → false ≡ takes_place (key k)
unfolding takes_place
key_stays k = refl

pub aspa_takes : (a : AspaParts) → true ≡ takes_place (aspa a)
unfolding takes_place
aspa_takes a = refl
