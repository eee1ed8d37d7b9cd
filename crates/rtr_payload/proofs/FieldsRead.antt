-- The fields that are read off a list of bytes, and the units that lists of bytes are.
use Rattle.std.proofs.Common.{◌≡◌, ◌≢◌, ℕ, ◌+◌, ◌-◌, ◌*◌, ◌%◌, ◌^◌, ◌<◌, ◌≤◌, List, [], ◌∷◌, ◌++◌}
use Rattle.std.proofs.Common.{length, take, drop, get_or, refl, sym, ap, ◌∙◌, append_assoc, arith}
use Rattle.std.proofs.Common.{eqb, inl, inr}
use Rattle.std.specs.List.{AllByRecursion}
use Rattle.std.proofs.lemmas.Bool.{cases_lt, cond_both, eqb-true}
use Rattle.std.proofs.lemmas.List.{take_at, drop_at, drop-drop, length-drop, length-take-le}
use Rattle.rtr_base.specs.declared.action.Action.TheVariants.{Announce, Withdraw}
use Rattle.rtr_base.specs.Actions.{act}
use Rattle.rtr_base.specs.Bytes.{be, value, words, IsBytes}
use Rattle.rtr_base.proofs.Numbers.{value-be, IsBytes-drop}
use Rattle.rtr_base.proofs.Cuts.{cut_byte, cut_bytes, cut_number, cut_end, number_fits}
use Rattle.rtr_base.specs.Addresses.{Family, v4, v6, width, IsMaxLenPrefix}
use Rattle.rtr_units.specs.PrefixUnits.{PrefixFields, prefix_type, prefix_size, address_bytes}
use Rattle.rtr_units.specs.PrefixUnits.{prefix_list, prefix_at}
use Rattle.rtr_units.specs.Header.{version_field, type_field, session_field, length_field, header}
use Rattle.rtr_units.proofs.Headers.{header_read, header_cells, session_fits}
use Rattle.rtr_payload.proofs.ByFields.{form_is}
use Rattle.rtr_payload.proofs.Fields.{address_below, Fit-written}
use Rattle.rtr_payload.specs.Providers.{words_of}
use Rattle.rtr_payload.specs.Payloads.{IsKey, IsAspa, Payload, IsPayload}
use Rattle.rtr_payload.specs.KeyUnits.{KeyFields, key_list, key_at}
use Rattle.rtr_payload.specs.AspaUnits.{AspaFields, aspa_list, aspa_at, HasProviders}
use Rattle.rtr_payload.specs.declared.payload.RouteOrigin.{RouteOrigin}
use Rattle.rtr_payload.specs.Meanings.{origin_of}
use Rattle.rtr_payload.specs.RouteOrigins.{PrefixFits}
use Rattle.rtr_payload.specs.UnitFields.{Fields, prefix_unit, key_unit, aspa_unit, fields_like}
use Rattle.rtr_payload.specs.UnitFields.{unit_list, Fit, HasFields, written_fields}
use Rattle.rtr_payload.specs.Units.{form}

-- ---- the fields of a unit's list are those of the unit

pub words_of-words : (ps : List ℕ) → AllByRecursion (λ p. p < 2 ^ 32) ps → words_of (words ps) ≡ ps
words_of-words [] h = refl
words_of-words (p ∷ ps) h =
    let a = value-be p 4 h.0 in
    let b = words_of-words ps h.1 in
    λ i. a i ∷ b i

-- the address and the ASN stand at their places
prefix_places : (u : PrefixFields) (f : Family) →
    let b = prefix_list (record u { origin = record u.origin { family = f } }) in
    (take (address_bytes f) (drop 12 b) ≡ be u.origin.address (address_bytes f))
    × (take 4 (drop (12 + address_bytes f) b) ≡ be u.origin.asn 4)
prefix_places u v4 = (refl, refl)
prefix_places u v6 = (refl, refl)

prefix_read : (u : PrefixFields) → PrefixFits u → prefix_at u.origin.family (prefix_list u) ≡ u
prefix_read u h =
    let o = u.origin in
    let p = prefix_places u o.family in
    let es = value-be u.session 2 h.0 in
    let ea =
    ap value p.0
    ∙ value-be o.address (address_bytes o.family) (address_below o.family o.address h.1) in
    let en = ap value p.1 ∙ value-be o.asn 4 h.2 in
    λ i. record u { session = es i; origin = record u.origin { address = ea i; asn = en i } }

key_read : (u : KeyFields) → IsKey u.key → key_at (key_list u) ≡ u
key_read u h =
    let i = u.key.identifier in
    let n = u.key.asn in
    let k = u.key.info in
    let e : i ++ be n 4 ++ k ≡ i ++ (be n 4 ++ k) = append_assoc i (be n 4) k in
    let d28 : drop 20 (i ++ be n 4 ++ k) ≡ be n 4 ++ k =
    ap (drop 20) e ∙ drop_at i (be n 4 ++ k) 20 h.identifier in
    let ei : take 20 (i ++ be n 4 ++ k) ≡ i =
    ap (take 20) e ∙ take_at i (be n 4 ++ k) 20 h.identifier in
    let en : value (take 4 (drop 20 (i ++ be n 4 ++ k))) ≡ n =
    ap (λ l. value (take 4 l)) d28 ∙ value-be n 4 h.asn in
    let ek : drop 24 (i ++ be n 4 ++ k) ≡ k =
    sym (drop-drop 4 20 (i ++ be n 4 ++ k)) ∙ ap (drop 4) d28 in
    λ j. record u { key = record { identifier = ei j; asn = en j; info = ek j } }

aspa_read : (u : AspaFields) → IsAspa u.aspa → aspa_at (aspa_list u) ≡ u
aspa_read u h =
    let ec = value-be u.aspa.customer 4 h.customer in
    let ep = words_of-words u.aspa.providers h.providers.each in
    λ i. record u { aspa = record { customer = ec i; providers = ep i } }

pub fields_read : (u : Fields) → Fit u → fields_like u (unit_list u) ≡ u
fields_read (prefix_unit u) h = ap prefix_unit (prefix_read u h)
fields_read (key_unit u) h = ap key_unit (key_read u h)
fields_read (aspa_unit u) h = ap aspa_unit (aspa_read u h)

-- bytes that are a form have the fields that were written
pub form_fields : (u : List ℕ) (v f : ℕ) (p : Payload) → IsPayload p → u ≡ form v f p →
    fields_like (written_fields v f p) u ≡ written_fields v f p
form_fields u v f p h e =
    ap (fields_like (written_fields v f p)) (e ∙ form_is v f p)
    ∙ fields_read (written_fields v f p) (Fit-written v f p h)

-- the parts of an origin are in their ranges
pub IsOrigin-of : (o : RouteOrigin) → IsMaxLenPrefix o.prefix → o.asn < 2 ^ 32 →
    IsPayload (origin_of o)
IsOrigin-of o h n = record {
  lengths = (h.lower, h.upper);
  address = h.prefix.address;
  host_bits = h.prefix.host_bits;
  asn = n;
}

-- ---- bytes whose type and length field say so are a unit with the fields that are read off them

address_number : (f : Family) (a : ℕ) → a < 256 ^ address_bytes f → a < 2 ^ width f
address_number v4 a h = h
address_number v6 a h = h

size_is : (f : Family) → prefix_size f ≡ 12 + address_bytes f + 4
size_is v4 = refl
size_is v6 = refl

pub prefix_has : (f : Family) (b : List ℕ) → IsBytes b → length b ≡ prefix_size f →
    type_field b ≡ prefix_type f → length_field b ≡ prefix_size f →
    HasFields b (prefix_unit (prefix_at f b))
prefix_has f b h l t e =
    let size = size_is f in
    let k = address_bytes f in
    let after = cut_byte b _ 8 (omega arith)
    (cut_byte b _ 9 (omega arith)
    (cut_byte b _ 10 (omega arith)
    (cut_byte b _ 11 (omega arith)
    (cut_number b _ 12 k h (omega arith)
    (cut_number b [] (12 + k) 4 h (omega arith) (cut_end b (12 + k + 4) (l ∙ size))))))) in
    record {
      fits = (
        session_fits b h (omega arith),
        address_number f _ (number_fits b 12 k h (omega arith)),
        number_fits b (12 + k) 4 h (omega arith),
      );
      limits = tt;
      bytes =
          header_read b _ h (omega arith) after
          ∙ (λ i.
          header (version_field b) (t i) (session_field b) (e i) ++
          (get_or b 8 0 ∷ get_or b 9 0 ∷ get_or b 10 0 ∷ get_or b 11 0 ∷
          be (value (take k (drop 12 b))) k ++ be (value (take 4 (drop (12 + k) b))) 4));
      are_bytes = h;
    }

pub key_has : (b : List ℕ) → IsBytes b → 32 ≤ length b → length b ≤ 65535 → type_field b ≡ 9 →
    length_field b ≡ length b → HasFields b (key_unit (key_at b))
key_has b h low high t e =
    let i = take 20 (drop 8 b) in
    let n = value (take 4 (drop 28 b)) in
    let k = drop 32 b in
    let len : length k ≡ length b - 32 = length-drop 32 b in
    let size : length_field b ≡ 32 + length k = omega (arith, len) in
    let after : drop 8 b ≡ i ++ (be n 4 ++ k) =
    cut_bytes b _ 8 20 (cut_number b k 28 4 h (omega arith) refl) in
    record {
      fits = record {
        identifier = length-take-le 20 (drop 8 b) (omega (arith, length-drop 8 b));
        asn = number_fits b 28 4 h (omega arith);
        info = omega (arith, len);
      };
      limits = omega (arith, len);
      bytes =
          header_cells b _ h (omega arith) (after ∙ sym (append_assoc i (be n 4) k))
          ∙ (λ j.
          version_field b ∷ t j ∷ get_or b 2 0 ∷ get_or b 3 0 ∷ be (size j) 4 ++
          (i ++ be n 4 ++ k));
      are_bytes = h;
    }

-- what numbers of four bytes are read off bytes
pub record IsWords (b : List ℕ) : Type 0 where
  pub count : 4 * length (words_of b) ≡ length b
  pub each : AllByRecursion (λ p. p < 2 ^ 32) (words_of b)
  pub bytes : b ≡ words (words_of b)

pub is_words : (b : List ℕ) → IsBytes b → length b % 4 ≡ 0 → IsWords b
is_words [] h l = record { count = refl; each = tt; bytes = refl }
is_words (a ∷ b ∷ c ∷ d ∷ bs) h l =
    let t = is_words bs (IsBytes-drop 4 (a ∷ b ∷ c ∷ d ∷ bs) h) (omega arith) in
    record {
      count = omega (arith, t.count);
      each = (number_fits (a ∷ b ∷ c ∷ d ∷ bs) 0 4 h (omega arith), t.each);
      bytes =
          cut_number (a ∷ b ∷ c ∷ d ∷ bs) bs 0 4 h (omega arith) refl
          ∙ ap (λ (x : List ℕ). be (value (a ∷ b ∷ c ∷ d ∷ [])) 4 ++ x) t.bytes;
    }
is_words b h l = absurd (omega arith)

providers_there : (g : ℕ) (ps : List ℕ) → (length ps ≡ 0 → g % 2 ≢ 1) → HasProviders (act g) ps
providers_there g ps h =
    cond_both (eqb (g % 2) 1) Announce Withdraw (λ a. HasProviders a ps)
    (λ e. some_there (eqb-true _ _ e)) (λ e. tt)
  where
    some_there : g % 2 ≡ 1 → 1 ≤ length ps
    some_there e =
        elim (cases_lt 0 (length ps)) [ inl some ↦ some | inr none ↦ absurd (h (omega arith) e) ]

pub aspa_has : (b : List ℕ) → IsBytes b → 12 ≤ length b → length b ≤ 65535 → length b % 4 ≡ 0 →
    (length b ≡ 12 → get_or b 2 0 % 2 ≢ 1) → type_field b ≡ 11 → length_field b ≡ length b →
    HasFields b (aspa_unit (aspa_at b))
aspa_has b h low high by_four named t e =
    let c = value (take 4 (drop 8 b)) in
    let w = is_words (drop 12 b) (IsBytes-drop 12 b h) (omega (arith, length-drop 12 b)) in
    let ps = words_of (drop 12 b) in
    let len : length (drop 12 b) ≡ length b - 12 = length-drop 12 b in
    let size : length_field b ≡ 12 + 4 * length ps = omega (arith, w.count) in
    let after : drop 8 b ≡ be c 4 ++ words ps =
    cut_number b (words ps) 8 4 h (omega arith) w.bytes in
    record {
      fits = record {
        customer = number_fits b 8 4 h (omega arith);
        providers = record { count = omega (arith, w.count); each = w.each };
      };
      limits = providers_there (get_or b 2 0) ps (λ none. named (omega (arith, w.count, none)));
      bytes =
          header_cells b _ h (omega arith) after
          ∙ (λ j.
          version_field b ∷ t j ∷ get_or b 2 0 ∷ get_or b 3 0 ∷ be (size j) 4 ++
          (be c 4 ++ words ps));
      are_bytes = h;
    }

pub below_push : (ps : List ℕ) (p : ℕ) → AllByRecursion (λ q. q < 2 ^ 32) ps → p < 2 ^ 32 →
    AllByRecursion (λ q. q < 2 ^ 32) (ps ++ p ∷ [])
below_push [] p h l = (l, tt)
below_push (q ∷ ps) p h l = (h.0, below_push ps p h.1 l)
