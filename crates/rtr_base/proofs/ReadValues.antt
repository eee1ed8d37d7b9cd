-- What is read of texts.
use Rattle.std.proofs.Common.{◌≡◌, ◌≢◌, ℕ, ◌<◌, List, [], ◌∷◌, ◌++◌, length, drop, get_or, codes}
use Rattle.std.proofs.Common.{Option, Err, refl, sym, ap, ◌∙◌, subst, inl, inr, arith}
use Rattle.std.specs.Result.{IsErrOf}
use Rattle.std.specs.List.{AllByRecursion, AllPass}
use Rattle.std.specs.declared.net.ip_addr.IpAddr.{IpAddr}
use Rattle.std.specs.Net.Grammar.{IsIpText}
use Rattle.hex.specs.Hex.{decode_sized, is_hex_digit}
use Rattle.hex.specs.declared.error.FromHexError.{FromHexError}
use Rattle.hex.proofs.HexLemmas.{IsOk-decode_sized}
use Rattle.rtr_base.specs.Addresses.{PrefixParts, MaxLenParts, IsMaxLenPrefix, BreaksMaxLen}
use Rattle.rtr_base.specs.Addresses.{prefix_of_address, width}
use Rattle.rtr_base.specs.declared.addr.MaxLenError.{MaxLenError}
use Rattle.rtr_base.specs.declared.addr.MaxLenError.TheVariants.{Overflow, Underflow}
use Rattle.rtr_base.specs.Numerals.{IsDigit, IsNumeral, IsSerialText}
use Rattle.rtr_base.specs.PrivateAsn.{IsWithoutAs}
use Rattle.rtr_base.specs.ReadTexts.{IsAsnText, IsLenText, IsAddressAndLen}
use Rattle.rtr_base.specs.ReadTexts.{SplitsAt, MaxLenTextBy, IsMaxLenText}

-- the number stands after AS or as, or alone
pub asn_read : (text digits : List ℕ) (n : ℕ) → IsWithoutAs text digits → IsSerialText digits n →
    IsAsnText text n
asn_read text digits n w h = record {
  digits = digits;
  form =
      elim w [
        | inl upper ↦ inl upper
        | inr other ↦
            elim other [
              | inl lower ↦ inr (inl lower)
              | inr plain ↦ inr (inr plain.0)
            ]
      ];
  number = h;
}

first_digit : (digits : List ℕ) (c : ℕ) (rest : List ℕ) → 57 < c → AllByRecursion IsDigit digits →
    digits ≢ c ∷ rest
first_digit [] c rest high all e = absurd (omega (arith, ap length e))
first_digit (d ∷ ds) c rest high all e =
    let h : d ≡ c = ap (λ (t : List ℕ). get_or t 0 0) e in
    omega (arith, all.0)

-- a numeral begins with no letter
pub not_letter : (text : List ℕ) (n c : ℕ) (rest : List ℕ) → 57 < c → IsNumeral text n →
    text ≢ c ∷ rest
not_letter text n c rest high m e =
    elim m.form [
      | inl plus ↦ let h : 43 ≡ c = ap (λ (t : List ℕ). get_or t 0 0) (sym plus ∙ e) in omega arith
      | inr plain ↦ first_digit m.digits c rest high m.all (sym plain ∙ e)
    ]

pub address_and_len : (text front back : List ℕ) (ip : IpAddr) (l : ℕ) (p : PrefixParts) →
    SplitsAt 47 text front back → IsIpText front ip → IsLenText back l →
    p ≡ prefix_of_address ip l →
    IsAddressAndLen text p
address_and_len text front back ip l p split address len e =
    subst (IsAddressAndLen text) (sym e) (record {
      front = front;
      back = back;
      split = split;
      ip = ip;
      address = address;
      len = len;
      value = refl;
    })

cases_differ : (xs ys : List ℕ) → 97 ∷ xs ≢ 65 ∷ ys
cases_differ xs ys e = let h : 97 ≡ 65 = ap (λ (t : List ℕ). get_or t 0 0) e in omega (arith, h)

pub after_upper : (text digits : List ℕ) → text ≡ codes "AS" ++ digits → (n : ℕ)
    (h : IsAsnText text n) → h.digits ≡ digits
after_upper text digits e n h =
    elim h.form [
      | inl upper ↦ ap (drop 2) (sym upper ∙ e)
      | inr rest ↦
          elim rest [
            | inl lower ↦ absurd (cases_differ (115 ∷ h.digits) (83 ∷ digits) (sym lower ∙ e))
            | inr alone ↦
                absurd (not_letter h.digits n 65 (83 ∷ digits) (omega arith) h.number.numeral
                (sym alone ∙ e))
          ]
    ]

after_lower : (text digits : List ℕ) → text ≡ codes "as" ++ digits → (n : ℕ)
    (h : IsAsnText text n) → h.digits ≡ digits
after_lower text digits e n h =
    elim h.form [
      | inl upper ↦ absurd (cases_differ (115 ∷ digits) (83 ∷ h.digits) (sym e ∙ upper))
      | inr rest ↦
          elim rest [
            | inl lower ↦ ap (drop 2) (sym lower ∙ e)
            | inr alone ↦
                absurd (not_letter h.digits n 97 (115 ∷ digits) (omega arith) h.number.numeral
                (sym alone ∙ e))
          ]
    ]

-- what is no number after AS or as, where the text begins so, is none at all
pub asn_refused : (text digits : List ℕ) → IsWithoutAs text digits →
    ((n : ℕ) → ¬ IsSerialText digits n) → (n : ℕ) → ¬ IsAsnText text n
asn_refused text digits w none n h =
    elim w [
      | inl upper ↦
          none n
          (subst (λ (t : List ℕ). IsSerialText t n) (after_upper text digits upper n h) h.number)
      | inr other ↦
          elim other [
            | inl lower ↦
                none n
                (subst (λ (t : List ℕ). IsSerialText t n)
                (after_lower text digits lower n h) h.number)
            | inr plain ↦
                elim h.form [
                  | inl upper ↦ plain.1 h.digits upper
                  | inr rest ↦
                      elim rest [
                        | inl lower ↦ plain.2 h.digits lower
                        | inr alone ↦
                            none n
                            (subst (λ (t : List ℕ). IsSerialText t n)
                            (sym alone ∙ plain.0) h.number)
                      ]
                ]
          ]
    ]

-- 40 characters that don't decode aren't all digits
pub refused_digit : (text : List ℕ) (e : FromHexError) → length text ≡ 40 →
    decode_sized text 20 ≡ Err e → ¬ AllPass is_hex_digit text
refused_digit text e len h all =
    let ok = (IsOk-decode_sized text 20).1 (len, all) in
    cc (rw h at ok)

-- a prefix and what stands after a dash are the parts of what they make
pub max_len_read : (text : List ℕ) (p : MaxLenParts) (q : PrefixParts) (x : Option ℕ) →
    MaxLenTextBy text q x → p ≡ record { prefix = q; max_len = x } → IsMaxLenPrefix p →
    IsMaxLenText text p
max_len_read text p q x h e valid =
    let form : MaxLenTextBy text p.prefix p.max_len =
    subst (λ (m : MaxLenParts). MaxLenTextBy text m.prefix m.max_len) (sym e) h in
    record { form = form; valid = valid }

-- which of the two orders is broken
pub broken_by : {T : Type 0} (p : PrefixParts) (x : ℕ) (e : MaxLenError) →
    (IsErrOf {T = T} (Err e) Overflow → width p.family < x) →
    (IsErrOf {T = T} (Err e) Underflow → x < p.len) → BreaksMaxLen p x e
broken_by p x Overflow over under = over refl
broken_by p x Underflow over under = under refl
