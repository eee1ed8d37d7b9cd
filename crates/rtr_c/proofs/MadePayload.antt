-- Payload units, as they are written.
use Rattle.std.proofs.Common.{◌≡◌, ◌≢◌, ℕ, ◌+◌, ◌*◌, ◌%◌, ◌^◌, ◌<◌, ◌≤◌}
use Rattle.std.proofs.Common.{List, [], ◌∷◌, ◌++◌, length, take, Some, None, refl, sym, ap, subst}
use Rattle.std.proofs.Common.{◌∙◌, arith, length-append, Option}
use Rattle.std.proofs.lemmas.Bool.Decides.{nat_tests}
use Rattle.std.proofs.lemmas.List.{length-take-le}
use Rattle.std.specs.Prelude.{IsTrue}
use Rattle.rtr_base.specs.Actions.{act}
use Rattle.rtr_base.specs.Addresses.{Family, v4, v6, width, cleared, ip_version}
use Rattle.rtr_base.specs.Bytes.{be, value, words, IsBytes}
use Rattle.rtr_base.proofs.Numbers.{IsBytes-append, IsBytes-be, IsBytes-take}
use Rattle.rtr_base.proofs.Numbers.{IsBytes-words, length-words, value_below}
use Rattle.rtr_units.specs.Header.{type_field}
use Rattle.rtr_units.specs.PrefixUnits.{OriginParts, PrefixFields, prefix_list, prefix_type}
use Rattle.rtr_units.specs.PrefixUnits.{prefix_size, address_bytes}
use Rattle.rtr_units.proofs.Headers.{header_bytes}
use Rattle.rtr_payload.specs.AspaUnits.{AspaFields, aspa_list, HasProviders}
use Rattle.rtr_payload.specs.FirstFault.{broken_rule, is_payload_or_end}
use Rattle.rtr_payload.specs.KeyUnits.{KeyFields, key_list}
use Rattle.rtr_payload.specs.Payloads.{IsKey, IsAspa, AreProviders, IsOrigin}
use Rattle.rtr_payload.specs.Providers.{words_of}
use Rattle.rtr_payload.specs.UnitFields.{Fields, prefix_unit, key_unit, aspa_unit, unit_list}
use Rattle.rtr_payload.specs.UnitFields.{HasFields, LengthsAgree, meaning}
use Rattle.rtr_payload.proofs.ByFields.{fields_unit}
use Rattle.rtr_payload.proofs.Fields.{cells_bytes, meaning_fits}
use Rattle.rtr_payload.proofs.ProviderBytes.{provider_bytes_of, provider_count}
use Rattle.rtr_payload.proofs.Rests.{begins_unit_none}
use Rattle.unit_any.specs.AnyFields.{payload}
use Rattle.unit_any.specs.SessionViews.{session_fault}
use Rattle.unit_any.proofs.Agreement.{same_faults}
use Rattle.unit_any.proofs.Units.{payload_has}
use Rattle.rtr_c.proofs.AgainPayload.{cleared_once, info_back, providers_back}
use Rattle.rtr_c.proofs.Made.{Made, no_piece}
use Rattle.rtr_c.specs.Kept.{prefix_kept, key_kept, aspa_kept}
use Rattle.rtr_c.specs.PrivateRanges.{IsRanged}
use Rattle.rtr_c.specs.WrittenUnits.{piece_said, part_said, text_said, aspa_form}
use Rattle.rtr_c.specs.ShownUnits.{none, payload_shown, address_shown}
use Rattle.rtr_c.specs.declared.unit.RtrUnit.{RtrUnit}

-- ---- of any kind

unit_sound : (g : Fields) (r : List ℕ) → HasFields (unit_list g) g → LengthsAgree g →
    IsTrue (is_payload_or_end (type_field (unit_list g ++ r))) →
    session_fault (unit_list g ++ r) ≡ None
unit_sound g r has agree typed =
    same_faults (unit_list g ++ r) typed
    ∙ begins_unit_none (unit_list g ++ r) (record {
      bytes = unit_list g;
      means = meaning g;
      rest = r;
      unit = fields_unit (unit_list g) g has agree;
      parts = refl;
    })

unit_made : (g : Fields) (w : RtrUnit) (part text : Option (List ℕ)) →
    HasFields (unit_list g) g → LengthsAgree g →
    ((r : List ℕ) → IsTrue (is_payload_or_end (type_field (unit_list g ++ r)))) →
    w ≡ payload_shown (length (unit_list g)) g →
    ((r : List ℕ) → part_said w (unit_list g ++ r) ≡ part) →
    ((r : List ℕ) → text_said w (unit_list g ++ r) ≡ text) → Made (unit_list g) w part text
unit_made g w part text has agree typed is whole rest = record {
  fields = payload g;
  unit = payload_has (unit_list g) g has;
  shows = is;
  shown = λ u same. same ∙ sym is;
  sound = λ r. unit_sound g r has agree (typed r);
  part = whole;
  text = rest;
}

bit : (a : ℕ) → a ≤ 1 → a ≡ a % 2
bit a h = omega arith

-- ---- prefixes

of_family : (f : Family) → IsTrue (is_payload_or_end (prefix_type f))
of_family v4 = refl
of_family v6 = refl

of_size : (f : Family) (v s g l m e a n : ℕ) →
    prefix_size f ≡ length (prefix_list (record {
      version = v;
      session = s;
      flags = g;
      free = e;
      origin = record { family = f; address = a; prefix_len = l; max_len = m; asn = n };
    }))
of_size v4 v s g l m e a n = refl
of_size v6 v s g l m e a n = refl

pub rule_kept : (w l m : ℕ) → broken_rule w l m ≡ None → (l ≤ m) × (m ≤ w)
unfolding broken_rule
rule_kept w l m e = (grind (arith, nat_tests), grind (arith, nat_tests))

most_bits : (f : Family) → width f ≤ 128
most_bits v4 = omega arith
most_bits v6 = omega arith

address_below : (f : Family) (l : List ℕ) → length l ≡ 16 → IsBytes l →
    value (take (address_bytes f) l) < 2 ^ width f
address_below v4 l size h =
    subst (λ (n : ℕ). value (take 4 l) < 256 ^ n) (length-take-le 4 l (omega (arith, size)))
    (value_below (take 4 l) (IsBytes-take 4 l h))
address_below v6 l size h =
    subst (λ (n : ℕ). value (take 16 l) < 256 ^ n) (length-take-le 16 l (omega (arith, size)))
    (value_below (take 16 l) (IsBytes-take 16 l h))

module _ (f : Family) (u : RtrUnit) where
  -- the address as it was given
  abbrev given : ℕ
  given = value (take (address_bytes f) u.address)

  abbrev origin_of : ℕ → OriginParts
  origin_of a = record {
    family = f;
    address = a;
    prefix_len = u.prefix_length;
    max_len = u.max_length;
    asn = u.asn;
  }

  abbrev pub fields_of : ℕ → PrefixFields
  fields_of a = record {
    version = u.version;
    session = 0;
    flags = u.action;
    free = 0;
    origin = origin_of a;
  }

  abbrev pub cut : ℕ
  cut = cleared (width f) u.prefix_length given

  module _ (ranged : IsRanged u) (one : u.action ≤ 1)
      (order : (u.prefix_length ≤ u.max_length) × (u.max_length ≤ width f)) where
    meant : IsOrigin (origin_of cut)
    meant =
        let small = address_below f u.address ranged.address_size ranged.address in
        meaning_fits (prefix_unit (fields_of given)) (omega arith, small, ranged.asn) order

    bytes : IsBytes (prefix_list (fields_of cut))
    bytes =
        let most = most_bits f in
        let address = be cut (address_bytes f) in
        let tail =
        IsBytes-append address (be u.asn 4) (IsBytes-be cut (address_bytes f)) (IsBytes-be u.asn 4)
        in
        header_bytes u.version (prefix_type f) 0 (prefix_size f)
        (u.action ∷ u.prefix_length ∷ u.max_length ∷ 0 ∷ address ++ be u.asn 4) ranged.version
        (small_type f)
        (cells_bytes u.action u.prefix_length u.max_length 0 (address ++ be u.asn 4)
        (omega (arith, one)) (omega (arith, order, most)) (omega (arith, order, most)) (omega arith)
        tail)
      where
        small_type : (f : Family) → prefix_type f < 256
        small_type v4 = omega arith
        small_type v6 = omega arith

    has : HasFields (prefix_list (fields_of cut)) (prefix_unit (fields_of cut))
    has = record {
      fits = (omega arith, meant.address, ranged.asn);
      limits = tt;
      bytes = refl;
      are_bytes = bytes;
    }

    pub prefix_made : Made (prefix_list (fields_of cut)) (prefix_kept f u) (Some []) (Some [])
    prefix_made =
        let once = cleared_once (width f) u.prefix_length cut meant.host_bits in
        let size = of_size f u.version 0 u.action u.prefix_length u.max_length 0 cut u.asn in
        unit_made (prefix_unit (fields_of cut)) (prefix_kept f u) (Some []) (Some []) has order
        (λ r. of_family f)
        (λ i. record none {
          size = size i;
          asn = u.asn;
          kind = prefix_type f;
          version = u.version;
          action = bit u.action one i;
          family = ip_version f;
          prefix_length = u.prefix_length;
          max_length = u.max_length;
          address = address_shown f (sym once i);
        })
        (λ r. no_piece (prefix_list (fields_of cut) ++ r))
        (λ r. no_piece (prefix_list (fields_of cut) ++ r))

-- ---- router keys

module _ (u : RtrUnit) (info : List ℕ) where
  abbrev pub key_fields : KeyFields
  key_fields = record {
    version = u.version;
    flags = u.action;
    free = 0;
    key = record { identifier = u.key_identifier; asn = u.asn; info = info };
  }

  abbrev key_bytes : List ℕ
  key_bytes = key_list key_fields

  key_size : IsRanged u → 32 + length info ≡ length key_bytes
  key_size ranged =
      omega (
        arith,
        ranged.identifier_size,
        length-append u.key_identifier (be u.asn 4),
        length-append (u.key_identifier ++ be u.asn 4) info,
      )

  pub key_made : IsRanged u → u.action ≤ 1 → length info ≡ u.part_length → length info ≤ 65503 →
      IsBytes info → Made key_bytes (key_kept u) (Some info) (Some [])
  key_made ranged one said few h =
      let is : IsKey key_fields.key = record {
        identifier = ranged.identifier_size;
        asn = ranged.asn;
        info = omega (arith, few);
      } in
      let front = u.key_identifier ++ be u.asn 4 in
      let tail = IsBytes-append front info
      (IsBytes-append u.key_identifier (be u.asn 4) ranged.identifier (IsBytes-be u.asn 4)) h in
      let size = be (32 + length info) 4 in
      let all = IsBytes-append size (front ++ info) (IsBytes-be (32 + length info) 4) tail in
      unit_made (key_unit key_fields) (key_kept u) (Some info) (Some []) (record {
        fits = is;
        limits = few;
        bytes = refl;
        are_bytes =
            cells_bytes u.version 9 u.action 0 (size ++ (front ++ info)) ranged.version
            (omega arith) (omega (arith, one)) (omega arith) all;
      }) tt (λ r. refl)
      (λ i. record none {
        size = (ap (λ n. 32 + n) (sym said) ∙ key_size ranged) i;
        part_start = 32;
        part_length = sym said i;
        asn = u.asn;
        kind = 9;
        version = u.version;
        action = bit u.action one i;
        key_identifier = u.key_identifier;
      })
      (λ r.
      ap (λ n. piece_said 32 n (key_bytes ++ r)) (sym said)
      ∙ info_back key_fields is few r)
      (λ r. no_piece (key_bytes ++ r))

-- ---- ASPA units

module _ (u : RtrUnit) (n : ℕ) (ps part : List ℕ) where
  abbrev aspa_fields : AspaFields
  aspa_fields = record {
    version = u.version;
    flags = u.action;
    free = 0;
    aspa = record { customer = u.customer; providers = ps };
  }

  aspa_of : IsRanged u → u.action ≤ 1 → AreProviders ps → HasProviders (act u.action) ps →
      n ≡ 4 * length ps → words ps ≡ part →
      Made (aspa_form u ps) (aspa_kept n u) (Some part) (Some [])
  aspa_of ranged one are named count whole =
      let is : IsAspa aspa_fields.aspa =
      record { customer = ranged.customer; providers = are } in
      let size = be (12 + 4 * length ps) 4 in
      let tail = IsBytes-append (be u.customer 4) (words ps) (IsBytes-be u.customer 4)
      (IsBytes-words ps) in
      let all = IsBytes-append size (be u.customer 4 ++ words ps)
      (IsBytes-be (12 + 4 * length ps) 4) tail in
      let sized : 12 + 4 * length ps ≡ length (aspa_list aspa_fields) =
      omega (arith, length-words ps) in
      unit_made (aspa_unit aspa_fields) (aspa_kept n u) (Some part) (Some []) (record {
        fits = is;
        limits = named;
        bytes = refl;
        are_bytes =
            cells_bytes u.version 11 u.action 0 (size ++ (be u.customer 4 ++ words ps))
            ranged.version (omega arith) (omega (arith, one)) (omega arith) all;
      }) tt (λ r. refl)
      (λ i. record none {
        size = (ap (λ m. 12 + m) count ∙ sized) i;
        part_start = 12;
        part_length = count i;
        customer = u.customer;
        kind = 11;
        version = u.version;
        action = bit u.action one i;
      })
      (λ r.
      ap (λ m. piece_said 12 m (aspa_list aspa_fields ++ r)) count
      ∙ providers_back aspa_fields is r ∙ ap Some whole)
      (λ r. no_piece (aspa_list aspa_fields ++ r))

pub withdrawn_made : (u : RtrUnit) → IsRanged u → u.action ≡ 0 →
    Made (aspa_form u []) (aspa_kept 0 u) (Some []) (Some [])
withdrawn_made u ranged zero =
    aspa_of u 0 [] [] ranged (omega (arith, zero))
    (record { count = omega arith; each = tt })
    (subst (λ a. HasProviders (act a) []) (sym zero) tt) refl refl

pub announced_made : (u : RtrUnit) (ps : List ℕ) → IsRanged u → u.action ≡ 1 → IsBytes ps →
    length ps ≤ 65520 → length ps % 4 ≡ 0 → length ps ≢ 0 → length ps ≡ u.part_length →
    Made (aspa_form u (words_of ps)) (aspa_kept u.part_length u) (Some ps) (Some [])
announced_made u ps ranged one h few fours some said =
    let known = provider_bytes_of ps h fours few in
    let count = provider_count ps known in
    aspa_of u u.part_length (words_of ps) ps ranged (omega (arith, one)) known.providers
    (subst (λ a. HasProviders (act a) (words_of ps)) (sym one)
    (at_least (length ps) (length (words_of ps)) some count))
    (sym said ∙ count) known.again
  where
    at_least : (n m : ℕ) → n ≢ 0 → n ≡ 4 * m → 1 ≤ m
    at_least n m some e = grind (arith, nat_tests)
