-- Payloads are one exactly where their names are.
use Rattle.std.proofs.Common.{◌≡◌, ℕ, ◌<◌, ◌^◌, List, [], ◌∷◌, ◌++◌, length, take, drop}
use Rattle.std.proofs.Common.{refl, sym, ap, ◌∙◌, arith}
use Rattle.std.specs.Bool.{Decides}
use Rattle.std.specs.Ordering.{is_eq}
use Rattle.std.specs.Str.{bytes_eq}
use Rattle.std.proofs.lemmas.Bool.Decides.{same_from_decides}
use Rattle.std.proofs.lemmas.Slice.Eq.{bytes_eq-Decides}
use Rattle.std.proofs.Math.Seq.{take-append_seam, drop-append_seam}
use Rattle.rtr_base.specs.Addresses.{Family, v4, v6, width}
use Rattle.rtr_base.specs.Bytes.{be}
use Rattle.rtr_base.proofs.Numbers.{be-injective}
use Rattle.rtr_units.specs.PrefixUnits.{OriginParts, address_bytes, prefix_type}
use Rattle.rtr_payload.specs.Orders.{payload_cmp}
use Rattle.rtr_payload.specs.Payloads.{AspaParts, KeyParts, Payload, origin, key, aspa}
use Rattle.rtr_payload.proofs.Orders.{payload_decides}
use Rattle.text_findings.specs.PayloadNames.{IsNamed, payload_name}

abbrev first : List ℕ → ℕ
first [] = 0
first (b ∷ bytes) = b

-- ---- families

same_family : (f g : Family) → prefix_type f ≡ prefix_type g → f ≡ g
same_family v4 v4 e = refl
same_family v4 v6 e = absurd (omega (arith, e))
same_family v6 v4 e = absurd (omega (arith, e))
same_family v6 v6 e = refl

no_key : (f : Family) → prefix_type f ≡ 9 → ⊥
no_key v4 e = omega (arith, e)
no_key v6 e = omega (arith, e)

no_aspa : (f : Family) → prefix_type f ≡ 11 → ⊥
no_aspa v4 e = omega (arith, e)
no_aspa v6 e = omega (arith, e)

same_address : (f g : Family) (a b : ℕ) → prefix_type f ≡ prefix_type g → a < 2 ^ width f →
    b < 2 ^ width g → be a (address_bytes f) ≡ be b (address_bytes g) → a ≡ b
same_address v4 v4 a b e ha hb h = be-injective a b 4 ha hb h
same_address v4 v6 a b e ha hb h = absurd (omega (arith, e))
same_address v6 v4 a b e ha hb h = absurd (omega (arith, e))
same_address v6 v6 a b e ha hb h = be-injective a b 16 ha hb h

-- ---- each kind

same_origin : (o r : OriginParts) → IsNamed (origin o) → IsNamed (origin r) →
    payload_name (origin o) ≡ payload_name (origin r) → o ≡ r
same_origin o r ho hr e =
    let types : prefix_type o.family ≡ prefix_type r.family = ap first e in
    let family = same_family o.family r.family types in
    let prefix_len : o.prefix_len ≡ r.prefix_len = ap (λ l. first (drop 1 l)) e in
    let max_len : o.max_len ≡ r.max_len = ap (λ l. first (drop 2 l)) e in
    let asn : o.asn ≡ r.asn =
    be-injective o.asn r.asn 4 ho.1 hr.1 (ap (λ l. take 4 (drop 3 l)) e) in
    let address : o.address ≡ r.address =
    same_address o.family r.family o.address r.address types ho.0 hr.0
    (ap (λ l. drop 7 l) e) in
    λ i. record {
      family = family i;
      address = address i;
      prefix_len = prefix_len i;
      max_len = max_len i;
      asn = asn i;
    }

front_of : (n : ℕ) (xs ys : List ℕ) → length xs ≡ n → take n (xs ++ ys) ≡ xs
front_of n xs ys e = ap (λ m. take m (xs ++ ys)) (sym e) ∙ take-append_seam xs ys

back_of : (n : ℕ) (xs ys : List ℕ) → length xs ≡ n → drop n (xs ++ ys) ≡ ys
back_of n xs ys e = ap (λ m. drop m (xs ++ ys)) (sym e) ∙ drop-append_seam xs ys

same_key : (k j : KeyParts) → IsNamed (key k) → IsNamed (key j) →
    payload_name (key k) ≡ payload_name (key j) → k ≡ j
same_key k j hk hj e =
    let rest : k.identifier ++ k.info ≡ j.identifier ++ j.info = ap (λ l. drop 5 l) e in
    let asn : k.asn ≡ j.asn =
    be-injective k.asn j.asn 4 hk.1 hj.1 (ap (λ l. take 4 (drop 1 l)) e) in
    let identifier : k.identifier ≡ j.identifier =
    sym (front_of 20 k.identifier k.info hk.0) ∙ ap (take 20) rest
    ∙ front_of 20 j.identifier j.info hj.0 in
    let info : k.info ≡ j.info =
    sym (back_of 20 k.identifier k.info hk.0) ∙ ap (drop 20) rest
    ∙ back_of 20 j.identifier j.info hj.0 in
    λ i. record { identifier = identifier i; asn = asn i; info = info i }

same_aspa : (a b : AspaParts) → IsNamed (aspa a) → IsNamed (aspa b) →
    payload_name (aspa a) ≡ payload_name (aspa b) → a ≡ b
same_aspa a b ha hb e =
    let customer : a.customer ≡ b.customer =
    be-injective a.customer b.customer 4 ha.0 hb.0 (ap (λ l. drop 1 l) e) in
    let providers : a.providers ≡ b.providers = ha.1 ∙ sym hb.1 in
    λ i. record { customer = customer i; providers = providers i }

same_payload : (p q : Payload) → IsNamed p → IsNamed q → payload_name p ≡ payload_name q → p ≡ q
same_payload (origin o) (origin r) hp hq e = ap (λ x. origin x) (same_origin o r hp hq e)
same_payload (origin o) (key k) hp hq e = absurd (no_key o.family (ap first e))
same_payload (origin o) (aspa a) hp hq e = absurd (no_aspa o.family (ap first e))
same_payload (key k) (origin o) hp hq e = absurd (no_key o.family (sym (ap first e)))
same_payload (key k) (key j) hp hq e = ap (λ x. key x) (same_key k j hp hq e)
same_payload (key k) (aspa a) hp hq e =
    let h : 9 ≡ 11 = ap first e in absurd (omega (arith, h))
same_payload (aspa a) (origin o) hp hq e = absurd (no_aspa o.family (sym (ap first e)))
same_payload (aspa a) (key k) hp hq e =
    let h : 11 ≡ 9 = ap first e in absurd (omega (arith, h))
same_payload (aspa a) (aspa b) hp hq e = ap (λ x. aspa x) (same_aspa a b hp hq e)

names_decide : (p q : Payload) → IsNamed p → IsNamed q →
    Decides (bytes_eq (payload_name p) (payload_name q)) (p ≡ q)
names_decide p q hp hq =
    let tests = bytes_eq-Decides (payload_name p) (payload_name q) in
    (λ h. same_payload p q hp hq (tests.0 h), λ e. tests.1 (ap payload_name e))

pub names_alike : (p q : Payload) → IsNamed p → IsNamed q →
    bytes_eq (payload_name p) (payload_name q) ≡ is_eq (payload_cmp p q)
names_alike p q hp hq = same_from_decides _ _ (names_decide p q hp hq) (payload_decides p q)
