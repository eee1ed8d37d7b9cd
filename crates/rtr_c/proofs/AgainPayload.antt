-- What is shown of payload units says all of their forms.
use Rattle.std.proofs.Common.{◌≡◌, ℕ, ◌+◌, ◌-◌, ◌*◌, ◌^◌, ◌%◌, ◌<◌, ◌≤◌, not, cond, ltb, eqb}
use Rattle.std.proofs.Common.{nat_le, List}
use Rattle.std.proofs.Common.{false, None, [], ◌++◌, length, take, drop, Some, Ok, refl, sym, ap}
use Rattle.std.proofs.Common.{◌∙◌}
use Rattle.std.proofs.Common.{append_assoc, arith, length-append, inl, inr, ◌⊎◌, Err}
use Rattle.std.proofs.lemmas.Bool.Decides.{nat_tests}
use Rattle.std.proofs.lemmas.List.{take_at, drop_at, drop-drop}
use Rattle.rtr_base.specs.Actions.{act, flags_of}
use Rattle.rtr_base.specs.declared.action.Action.{Action}
use Rattle.rtr_base.specs.declared.action.Action.TheVariants.{Announce, Withdraw}
use Rattle.std.specs.Prelude.{◌||◌}
use Rattle.rtr_base.specs.Addresses.{Family, v4, v6, width, cleared, ip_version}
use Rattle.rtr_base.specs.Bytes.{be, value, words}
use Rattle.rtr_base.proofs.Numbers.{length-words, value-be}
use Rattle.rtr_units.specs.PrefixUnits.{PrefixFields, prefix_type}
use Rattle.rtr_payload.specs.FirstFault.{broken_rule}
use Rattle.rtr_payload.specs.RouteOrigins.{meant_origin}
use Rattle.rtr_payload.proofs.Fields.{meaning_fits}
use Rattle.unit_any.specs.AnyFields.{HasAnyFields, payload}
use Rattle.rtr_payload.specs.AspaUnits.{AspaFields, aspa_list, HasProviders, meant_aspa}
use Rattle.rtr_payload.specs.KeyUnits.{KeyFields, key_list}
use Rattle.rtr_payload.specs.Payloads.{IsOrigin, IsKey, IsAspa, origin, key, aspa}
use Rattle.rtr_payload.specs.Providers.{words_of}
use Rattle.rtr_payload.specs.Units.{form, form_of}
use Rattle.rtr_payload.specs.UnitFields.{Fields, Fit, LengthsAgree, prefix_unit, key_unit}
use Rattle.rtr_payload.specs.UnitFields.{aspa_unit, meaning}
use Rattle.rtr_payload.proofs.FieldsRead.{words_of-words}
use Rattle.rtr_c.specs.Answers.{rtr_no_form, rtr_too_long, rtr_unit_length, rtr_empty_providers}
use Rattle.rtr_c.specs.declared.unit.RtrUnit.{RtrUnit}
use Rattle.rtr_c.specs.WrittenUnits.{said, piece_said, unless_broken, key_said, aspa_said}
use Rattle.rtr_c.specs.WrittenUnits.{aspa_form}
use Rattle.rtr_c.specs.ShownUnits.{none, address_shown, prefix_shown, key_shown, aspa_shown}
use Rattle.rtr_c.specs.ShownUnits.{payload_shown}

pub piece_steps : {A : Type 0} (m n : ℕ) (x y : A) → m ≤ n → cond (nat_le m n) x y ≡ x
piece_steps m n x y h = grind (arith, nat_tests)

two : (m : ℕ) → m < 2 → flags_of (cond (eqb m 1) Announce Withdraw) ≡ m
two m h = elim (zero_or_one m h) [ inl e ↦ rw e refl | inr e ↦ rw e refl ]
  where
    zero_or_one : (m : ℕ) → m < 2 → (m ≡ 0) ⊎ (m ≡ 1)
    zero_or_one m h = grind (arith, nat_tests)

-- of the flags the lowest bit is written
flag : (g : ℕ) → flags_of (act g) ≡ g % 2
flag g = two (g % 2) (omega arith)

-- ---- prefixes

in_order : (w l m : ℕ) → l ≤ m → m ≤ w → broken_rule w l m ≡ None
unfolding broken_rule
in_order w l m h k = grind (arith, nat_tests)

act_steps : {A : Type 0} (a : ℕ) (p x : A) → a ≤ 1 → cond (ltb 1 a || false) p x ≡ x
act_steps a p x h = grind (arith, nat_tests)

pub cleared_once : (w l a : ℕ) → a % 2 ^ (w - l) ≡ 0 → cleared w l a ≡ a
cleared_once w l a h = omega arith

module _ (n v g l m asn a : ℕ) (input : List ℕ) where
  abbrev shown_of : Family → RtrUnit
  shown_of f = record none {
    size = n;
    asn = asn;
    kind = prefix_type f;
    version = v;
    action = g % 2;
    family = ip_version f;
    prefix_length = l;
    max_length = m;
    address = address_shown f a;
  }

  abbrev form_with : Family → ℕ → List ℕ
  form_with f b = form v (g % 2) (origin (record {
    family = f;
    address = b;
    prefix_len = l;
    max_len = m;
    asn = asn;
  }))

  by_family : (f : Family) → a < 2 ^ width f → a % 2 ^ (width f - l) ≡ 0 → l ≤ m → m ≤ width f →
      said (shown_of f) input ≡ Ok (form_with f a)
  by_family v4 small clear less most =
      ap (λ r. cond (ltb 1 (g % 2) || false) (Err rtr_no_form)
      (unless_broken r (form_with v4 (cleared 32 l (value (be a 4)))))) (in_order 32 l m less most)
      ∙ act_steps (g % 2) _ _ (omega arith)
      ∙ ap (λ b. Ok (form_with v4 (cleared 32 l b))) (value-be a 4 small)
      ∙ ap (λ b. Ok (form_with v4 b)) (cleared_once 32 l a clear)
  by_family v6 small clear less most =
      ap (λ r. cond (ltb 1 (g % 2) || false) (Err rtr_no_form)
      (unless_broken r (form_with v6 (cleared 128 l (value (be a 16))))))
      (in_order 128 l m less most)
      ∙ act_steps (g % 2) _ _ (omega arith)
      ∙ ap (λ b. Ok (form_with v6 (cleared 128 l b))) (value-be a 16 small)
      ∙ ap (λ b. Ok (form_with v6 b)) (cleared_once 128 l a clear)

prefix_back : (n : ℕ) (u : PrefixFields) (input : List ℕ) → Fit (prefix_unit u) →
    LengthsAgree (prefix_unit u) →
    said (prefix_shown n u) input ≡ Ok (form_of (meaning (prefix_unit u)))
prefix_back n u input fits agree =
    let o = meant_origin u.origin in
    let is : IsOrigin o = meaning_fits (prefix_unit u) fits agree in
    by_family n u.version u.flags o.prefix_len o.max_len o.asn o.address input o.family is.address
    is.host_bits agree.0 agree.1
    ∙ ap (λ g. Ok (form u.version g (origin o))) (sym (flag u.flags))

-- ---- router keys

pub key_steps : {A : Type 0} (a n : ℕ) (p q x : A) → a ≤ 1 → n ≤ 65503 →
    cond (ltb 1 a) p (cond (ltb 65503 n) q x) ≡ x
key_steps a n p q x h k = grind (arith, nat_tests)

module _ (k : KeyFields) (is : IsKey k.key) (few : length k.key.info ≤ 65503) (rest : List ℕ) where
  abbrev all : List ℕ
  all = key_list k ++ rest

  abbrev front : List ℕ
  front = k.key.identifier ++ be k.key.asn 4

  front_size : length front ≡ 24
  front_size = omega (arith, is.identifier, length-append k.key.identifier (be k.key.asn 4))

  after : drop 32 all ≡ k.key.info ++ rest
  after =
      sym (drop-drop 24 8 all) ∙ ap (drop 24) (append_assoc front k.key.info rest)
      ∙ drop_at front (k.key.info ++ rest) 24 front_size

  long : 32 + length k.key.info ≤ length all
  long =
      omega (
        arith,
        is.identifier,
        length-append k.key.identifier (be k.key.asn 4),
        length-append front k.key.info,
        length-append (front ++ k.key.info) rest,
      )

  pub info_back : piece_said 32 (length k.key.info) all ≡ Some k.key.info
  info_back =
      piece_steps (32 + length k.key.info) (length all) _ _ long
      ∙ ap (λ l. Some (take (length k.key.info) l)) after
      ∙ ap Some (take_at k.key.info rest (length k.key.info) refl)

  pub key_back : (n : ℕ) → said (key_shown n k) all ≡ Ok (form_of (meaning (key_unit k)))
  key_back n =
      ap (key_said (key_shown n k)) info_back
      ∙ key_steps (k.flags % 2) (length k.key.info) _ _ _ (omega arith) few
      ∙ ap (λ g. Ok (form k.version g (key k.key))) (sym (flag k.flags))

-- ---- ASPA units

withdrawn_steps : {A : Type 0} (a : ℕ) (p q r : A) → a ≡ 0 →
    cond (ltb 1 a) p (cond (eqb a 0) q r) ≡ q
withdrawn_steps a p q r h = grind (arith, nat_tests)

announced_steps : {A : Type 0} (a n : ℕ) (p q r s t x : A) → a ≡ 1 → n ≤ 16380 → 1 ≤ n →
    cond (ltb 1 a) p
    (cond (eqb a 0) q
    (cond (ltb 65520 (4 * n)) r
    (cond (not (eqb ((4 * n) % 4) 0)) s (cond (eqb (4 * n) 0) t x)))) ≡
    x
announced_steps a n p q r s t x one most some = grind (arith, nat_tests)

module _ (u : AspaFields) (is : IsAspa u.aspa) (rest : List ℕ) where
  abbrev bytes : List ℕ
  bytes = words u.aspa.providers

  abbrev unit : List ℕ
  unit = aspa_list u ++ rest

  size : length bytes ≡ 4 * length u.aspa.providers
  size = length-words u.aspa.providers

  providers_long : 12 + 4 * length u.aspa.providers ≤ length unit
  providers_long = omega (arith, size, length-append bytes rest)

  pub providers_back : piece_said 12 (4 * length u.aspa.providers) unit ≡ Some bytes
  providers_back =
      piece_steps (12 + 4 * length u.aspa.providers) (length unit) _ _ providers_long
      ∙ ap Some (take_at bytes rest (4 * length u.aspa.providers) size)

  abbrev shown : ℕ → RtrUnit
  shown n = aspa_shown n (4 * length u.aspa.providers) u

  abbrev IsForm : ℕ → Action → Type 0
  IsForm n a = aspa_said (shown n) (Some bytes) ≡
      Ok (form u.version (flags_of a) (aspa (meant_aspa a u.aspa)))

  by_action : (n : ℕ) (a : Action) → flags_of a ≡ u.flags % 2 →
      HasProviders a u.aspa.providers → IsForm n a
  by_action n Withdraw zero has =
      withdrawn_steps (u.flags % 2) _ _ _ (sym zero)
      ∙ ap (λ g. Ok (form u.version g (aspa (meant_aspa Withdraw u.aspa)))) (sym zero)
  by_action n Announce one has =
      (λ i. cond (ltb 1 (u.flags % 2)) (Err rtr_no_form)
      (cond (eqb (u.flags % 2) 0) (Ok (aspa_form (shown n) []))
      (cond (ltb 65520 (size i)) (Err rtr_too_long)
      (cond (not (eqb (size i % 4) 0)) (Err rtr_unit_length)
      (cond (eqb (size i) 0) (Err rtr_empty_providers)
      (Ok (aspa_form (shown n) (words_of bytes))))))))
      ∙ announced_steps (u.flags % 2) (length u.aspa.providers) _ _ _ _ _ _ (sym one)
      is.providers.count has
      ∙ (λ i. Ok (form u.version (sym one i) (aspa (record {
        customer = u.aspa.customer;
        providers = words_of-words u.aspa.providers is.providers.each i;
      }))))

  pub aspa_back : (n : ℕ) → HasProviders (act u.flags) u.aspa.providers →
      said (shown n) unit ≡ Ok (form_of (meaning (aspa_unit u)))
  aspa_back n has =
      ap (aspa_said (shown n)) providers_back ∙ by_action n (act u.flags) (flag u.flags) has

-- ---- each

pub payload_again : (input b rest : List ℕ) (f : Fields) → input ≡ b ++ rest →
    HasAnyFields b (payload f) → LengthsAgree f →
    said (payload_shown (length b) f) input ≡ Ok (form_of (meaning f))
payload_again input b rest (prefix_unit u) at has agree =
    prefix_back (length b) u input has.fits.0 agree
payload_again input b rest (key_unit k) at has agree =
    ap (said (key_shown (length b) k)) (at ∙ ap (λ l. l ++ rest) has.bytes)
    ∙ key_back k has.fits.0 has.fits.1 rest (length b)
payload_again input b rest (aspa_unit u) at has agree =
    ap (said (aspa_shown (length b) (4 * length u.aspa.providers) u))
    (at ∙ ap (λ l. l ++ rest) has.bytes)
    ∙ aspa_back u has.fits.0 rest (length b) has.fits.1
