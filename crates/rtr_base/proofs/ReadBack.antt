-- What `FromStr` answers on the text that `Display` writes.
use Rattle.std.proofs.Common.{◌≡◌, ◌≢◌, ℕ, suc, ◌+◌, ◌^◌, ◌<◌, ◌≤◌, List, [], ◌∷◌, ◌++◌, length}
use Rattle.std.proofs.Common.{get_or, drop, decimal, All, Option, Some, None, Result, Ok, Err, refl}
use Rattle.std.proofs.Common.{sym, ap, ◌∙◌, subst, append_assoc, append-nil, length-append, arith}
use Rattle.std.proofs.Common.{inl, inr, IfSome, unwrap_or}
use Rattle.std.specs.declared.net.ip_addr.IpAddr.{IpAddr}
use Rattle.std.specs.declared.net.ip_addr.IpAddr.TheVariants.{V4, V6}
use Rattle.std.specs.Net.Addr.{segments_of}
use Rattle.std.specs.Net.Grammar.{IsIpText}
use Rattle.std.proofs.NetLemmas.Texts.{IsDotted-ipv4_text, IsColonHex-ipv6_text}
use Rattle.std.proofs.NetLemmas.Theorems.{IsIpText_unique}
use Rattle.std.proofs.lemmas.Fmt.{decimal_nonempty, digits_decimal, digits_value-decimal}
use Rattle.std.proofs.lemmas.Str.Parse.{not_in_digits}
use Rattle.std.proofs.lemmas.List.Elements.{All-get_or, All-append, All-cons, All-nil, All-weaker}
use Rattle.std.specs.List.{AllByRecursion}
use Rattle.hex.specs.Hex.{encode_lower, lower_digits}
use Rattle.hex.specs.declared.error.FromHexError.{FromHexError}
use Rattle.std.specs.Result.{result_unwrap_or}
use Rattle.hex.proofs.HexLemmas.{IsOk-decode_sized, decode_sized-encode_lower, length-encode_with}
use Rattle.rtr_base.specs.Addresses.{Family, v4, v6, PrefixParts, MaxLenParts, IsPrefix}
use Rattle.rtr_base.specs.Addresses.{IsMaxLenPrefix, prefix_of_address, width, BreaksPrefix}
use Rattle.rtr_base.specs.Addresses.{BreaksMaxLen}
use Rattle.rtr_base.specs.Bytes.{be, IsBytes}
use Rattle.rtr_base.specs.Numerals.{IsDigit, number_after, IsNumeral}
use Rattle.rtr_base.specs.PlainTexts.{asn_text, address_text, prefix_text, dash_text, max_len_text}
use Rattle.rtr_base.specs.ReadTexts.{ParsesAsn, SplitsAt, Lacks, IsLenText, IsAddressAndLen}
use Rattle.rtr_base.specs.ReadTexts.{IsPrefixText, RefusesPrefix, ParsesPrefix, MaxLenTextBy}
use Rattle.rtr_base.specs.ReadTexts.{RefusesMaxLen, ParsesMaxLen, ParsesKey}
use Rattle.rtr_base.specs.declared.addr.PrefixError.TheVariants.{LenOverflow, NonZeroHost}
use Rattle.rtr_base.specs.declared.addr.MaxLenError.TheVariants.{Overflow, Underflow}
use Rattle.rtr_base.specs.declared.parse.ParseAsnError.{ParseAsnError}
use Rattle.rtr_base.specs.declared.parse.ParsePrefixError.{ParsePrefixError}
use Rattle.rtr_base.specs.declared.parse.ParsePrefixError.TheVariants as prefixes
use Rattle.rtr_base.specs.declared.parse.ParseMaxLenPrefixError.{ParseMaxLenPrefixError}
use Rattle.rtr_base.specs.declared.parse.ParseMaxLenPrefixError.TheVariants as max_lens
use Rattle.rtr_base.specs.declared.parse.ParseKeyIdentifierError.{ParseKeyIdentifierError}
use Rattle.rtr_base.specs.declared.parse.ParseKeyIdentifierError.TheVariants as keys
use Rattle.rtr_base.proofs.AddressNumbers.{ipv4_bits-be, ipv6_bits-be, ipv6_octets-segments}
use Rattle.rtr_base.proofs.Alphabets.{IsPlain, plain_address, plain_decimal, segments_small}
use Rattle.rtr_base.proofs.Numbers.{IsBytes-be}
use Rattle.rtr_base.proofs.Parsing.{own}
use Rattle.rtr_base.proofs.ReadValues.{after_upper}

-- ---- numerals

-- no digit is a plus
no_plus : (ds rest : List ℕ) → AllByRecursion IsDigit ds → 0 < length ds → ds ≢ 43 ∷ rest
no_plus ds rest all some e =
    not_in_digits own ds 43 all (λ r. omega (arith, r)) 0 some (ap (λ (t : List ℕ). get_or t 0 0) e)

-- a text is one number at most
pub numeral_unique : (text : List ℕ) (m n : ℕ) → IsNumeral text m → IsNumeral text n → m ≡ n
numeral_unique text m n a b =
    let same : a.digits ≡ b.digits → m ≡ n = λ e. sym a.number ∙ ap (number_after 0) e ∙ b.number in
    elim a.form [
      | inl plus ↦
          elim b.form [
            | inl plus' ↦ same (ap (λ (t : List ℕ). drop 1 t) (sym plus ∙ plus'))
            | inr plain ↦ absurd (no_plus b.digits a.digits b.all b.some (sym plain ∙ plus))
          ]
      | inr plain ↦
          elim b.form [
            | inl plus ↦ absurd (no_plus a.digits b.digits a.all a.some (sym plain ∙ plus))
            | inr plain' ↦ same (sym plain ∙ plain')
          ]
    ]

decimal_numeral : (n : ℕ) → n < 2 ^ 64 → IsNumeral (decimal n) n
decimal_numeral n h = record {
  digits = decimal n;
  form = inr refl;
  some = decimal_nonempty n h;
  all = digits_decimal own n h;
  number = digits_value-decimal own n h;
}

-- ---- numbers of autonomous systems

pub asn_back : (n : ℕ) (r : Result ℕ ParseAsnError) → n < 2 ^ 32 → ParsesAsn (asn_text n) r →
    r ≡ Ok n
asn_back n (Ok m) small h =
    let digits = after_upper (asn_text n) (decimal n) refl m h in
    let read : IsNumeral (decimal n) m =
    subst (λ (t : List ℕ). IsNumeral t m) digits h.number.numeral in
    ap Ok (numeral_unique (decimal n) m n read (decimal_numeral n (omega arith)))
asn_back n (Err e) small h =
    absurd (h n (record {
      digits = decimal n;
      form = inl refl;
      number = record { numeral = decimal_numeral n (omega arith); fits = omega arith };
    }))

-- ---- where a text is cut

same_cut : (c : ℕ) (f b g d : List ℕ) → f ++ (c ∷ b) ≡ g ++ (c ∷ d) → Lacks c f → Lacks c g →
    (f ≡ g) × (b ≡ d)
same_cut c [] b [] d e hf hg = (refl, ap (λ (t : List ℕ). drop 1 t) e)
same_cut c [] b (y ∷ g) d e hf hg =
    absurd (hg 0 (omega arith) (sym (ap (λ (t : List ℕ). get_or t 0 0) e)))
same_cut c (x ∷ f) b [] d e hf hg =
    absurd (hf 0 (omega arith) (ap (λ (t : List ℕ). get_or t 0 0) e))
same_cut c (x ∷ f) b (y ∷ g) d e hf hg =
    let head : x ≡ y = ap (λ (t : List ℕ). get_or t 0 0) e in
    let rest = same_cut c f b g d (ap (λ (t : List ℕ). drop 1 t) e)
    (λ i h. hf (suc i) (omega arith)) (λ i h. hg (suc i) (omega arith)) in
    (λ i. head i ∷ rest.0 i, rest.1)

pub split_unique : (c : ℕ) (text f b g d : List ℕ) → SplitsAt c text f b → SplitsAt c text g d →
    (f ≡ g) × (b ≡ d)
split_unique c text f b g d s t = same_cut c f b g d (sym s.parts ∙ t.parts) s.first t.first

at_cut : (c : ℕ) (f b : List ℕ) → get_or (f ++ (c ∷ b)) (length f) 0 ≡ c
at_cut c [] b = refl
at_cut c (x ∷ f) b = at_cut c f b

pub split_not_lacks : (c : ℕ) (text f b : List ℕ) → SplitsAt c text f b → ¬ Lacks c text
split_not_lacks c text f b s none =
    let long : length text ≡ length f + suc (length b) =
    ap length s.parts ∙ length-append f (c ∷ b) in
    none (length f) (omega (arith, long))
    (ap (λ (t : List ℕ). get_or t (length f) 0) s.parts ∙ at_cut c f b)

lacks_slash : (text : List ℕ) → All IsPlain text → Lacks 47 text
lacks_slash text h i l e = (All-get_or IsPlain text i 0 l h).slash e

-- ---- prefixes

abbrev ip_of : Family → ℕ → IpAddr
ip_of v4 a = V4 (record { octets = be a 4 })
ip_of v6 a = V6 (record { segments = segments_of (be a 16) })

is_ip : (f : Family) (a : ℕ) → IsIpText (address_text f a) (ip_of f a)
is_ip v4 a = IsDotted-ipv4_text (be a 4) refl (IsBytes-be a 4)
is_ip v6 a =
    IsColonHex-ipv6_text (segments_of (be a 16)) refl (segments_small (be a 16) (IsBytes-be a 16))

is_at : (p : PrefixParts) → IsPrefix p → p ≡ prefix_of_address (ip_of p.family p.address) p.len
is_at p h = at p.family p.address p.len h.address
  where
    at : (f : Family) (a l : ℕ) → a < 2 ^ width f →
        record { family = f; address = a; len = l } ≡ prefix_of_address (ip_of f a) l
    at v4 a l small = λ i. record {
      family = v4;
      address = sym (ipv4_bits-be (record { octets = be a 4 }) a small refl) i;
      len = l;
    }
    at v6 a l small =
        let octets = ipv6_octets-segments (record { segments = segments_of (be a 16) }) (be a 16)
        refl (IsBytes-be a 16) refl in
        λ i.
        record {
          family = v6;
          address =
              sym (ipv6_bits-be (record { segments = segments_of (be a 16) }) a small octets) i;
          len = l;
        }

prefix_split : (p : PrefixParts) →
    SplitsAt 47 (prefix_text p) (address_text p.family p.address) (decimal p.len)
prefix_split p = record {
  parts = append_assoc (address_text p.family p.address) (47 ∷ []) (decimal p.len);
  first = lacks_slash (address_text p.family p.address) (plain_address p.family p.address);
}

within_width : (f : Family) (l : ℕ) → l ≤ width f → l ≤ 128
within_width v4 l h = omega arith
within_width v6 l h = h

len_small : (p : PrefixParts) → IsPrefix p → p.len ≤ 128
len_small p h = within_width p.family p.len h.len

len_form : (p : PrefixParts) → IsPrefix p → IsLenText (decimal p.len) p.len
len_form p h =
    let small = len_small p h in
    record { numeral = decimal_numeral p.len (omega (arith, small)); fits = omega (arith, small) }

prefix_form : (p : PrefixParts) → IsPrefix p → IsAddressAndLen (prefix_text p) p
prefix_form p h =
    record {
      front = address_text p.family p.address;
      back = decimal p.len;
      split = prefix_split p;
      ip = ip_of p.family p.address;
      address = is_ip p.family p.address;
      len = len_form p h;
      value = is_at p h;
    }

pub form_unique : (text : List ℕ) (p q : PrefixParts) → IsAddressAndLen text p →
    IsAddressAndLen text q → p ≡ q
form_unique text p q a b =
    let cut = split_unique 47 text a.front a.back b.front b.back a.split b.split in
    let ip = IsIpText_unique b.front a.ip b.ip
    (subst (λ (t : List ℕ). IsIpText t a.ip) cut.0 a.address) b.address in
    let len = numeral_unique b.back p.len q.len
    (subst (λ (t : List ℕ). IsNumeral t p.len) cut.1 a.len.numeral) b.len.numeral in
    a.value ∙ (λ i. prefix_of_address (ip i) (len i)) ∙ sym b.value

pub not_broken : (p : PrefixParts) (e : _) → IsPrefix p → ¬ BreaksPrefix p e
not_broken p LenOverflow h b = let le = h.len in omega (arith, le, b)
not_broken p NonZeroHost h b = let zero_bits = h.host_bits in b.1 (omega (arith, zero_bits))

pub prefix_not_refused : (p : PrefixParts) (e : ParsePrefixError) → IsPrefix p →
    ¬ RefusesPrefix (prefix_text p) e
prefix_not_refused p prefixes.MissingLen h r = split_not_lacks 47 _ _ _ (prefix_split p) r
prefix_not_refused p (prefixes.Addr e) h (front, back, split, none) =
    let cut = split_unique 47 (prefix_text p) (address_text p.family p.address) (decimal p.len)
    front back (prefix_split p) split in
    none (ip_of p.family p.address)
    (subst (λ (t : List ℕ). IsIpText t (ip_of p.family p.address)) cut.0 (is_ip p.family p.address))
prefix_not_refused p (prefixes.Len e) h (front, back, split, ip, none) =
    let cut = split_unique 47 (prefix_text p) (address_text p.family p.address) (decimal p.len)
    front back (prefix_split p) split in
    none p.len (subst (λ (t : List ℕ). IsLenText t p.len) cut.1 (len_form p h))
prefix_not_refused p (prefixes.Prefix e) h (q, form, broken) =
    not_broken p e h
    (subst (λ (x : PrefixParts). BreaksPrefix x e)
    (form_unique (prefix_text p) q p form (prefix_form p h)) broken)

pub prefix_back : (p : PrefixParts) (r : Result PrefixParts ParsePrefixError) → IsPrefix p →
    ParsesPrefix (prefix_text p) r → r ≡ Ok p
prefix_back p (Ok q) h t = ap Ok (form_unique (prefix_text p) q p t.form (prefix_form p h))
prefix_back p (Err e) h t = absurd (prefix_not_refused p e h t)

-- ---- prefixes with a max length

-- a prefix has no dash
prefix_no_dash : (q : PrefixParts) → IsPrefix q → Lacks 45 (prefix_text q)
prefix_no_dash q h i l =
    let NoDash : ℕ → Type 0 = λ c. c ≢ 45 in
    let weaker = All-weaker IsPlain NoDash (λ c p. p.dash) in
    let address = weaker (address_text q.family q.address) (plain_address q.family q.address) in
    let small = len_small q h in
    let len = weaker (decimal q.len) (plain_decimal q.len (omega (arith, small))) in
    let slash = All-cons NoDash 47 [] (λ e. omega (arith, e)) (All-nil NoDash) in
    let front = All-append NoDash (address_text q.family q.address) (47 ∷ []) address slash in
    All-get_or NoDash (prefix_text q) i 0 l
    (All-append NoDash (address_text q.family q.address ++ (47 ∷ [])) (decimal q.len) front len)

alone_no_dash : (q : PrefixParts) → IsPrefix q → Lacks 45 (prefix_text q ++ [])
alone_no_dash q h = subst (Lacks 45) (sym (append-nil (prefix_text q))) (prefix_no_dash q h)

dash_split : (q : PrefixParts) (x : ℕ) → IsPrefix q →
    SplitsAt 45 (prefix_text q ++ dash_text (Some x)) (prefix_text q) (decimal x)
dash_split q x h = record { parts = refl; first = prefix_no_dash q h }

prefix_read : (q p : PrefixParts) → IsPrefix q → IsPrefixText (prefix_text q) p → p ≡ q
prefix_read q p h t = form_unique (prefix_text q) p q t.form (prefix_form q h)

max_len_read_back : (q : PrefixParts) (m : Option ℕ) (p : PrefixParts) (o : Option ℕ) → IsPrefix q →
    IfSome m (λ x. x ≤ 128) → MaxLenTextBy (prefix_text q ++ dash_text m) p o →
    ◌≡◌ {A = MaxLenParts} (record { prefix = p; max_len = o }) (record { prefix = q; max_len = m })
max_len_read_back q None p None h fits t =
    let same =
    prefix_read q p h (subst (λ (s : List ℕ). IsPrefixText s p) (append-nil (prefix_text q)) t.1) in
    λ i. record { prefix = same i; max_len = None }
max_len_read_back q None p (Some y) h fits (front, back, split, read, len) =
    absurd (split_not_lacks 45 _ front back split (alone_no_dash q h))
max_len_read_back q (Some x) p None h fits t =
    absurd (split_not_lacks 45 _ _ _ (dash_split q x h) t.0)
max_len_read_back q (Some x) p (Some y) h fits (front, back, split, read, len) =
    let cut = split_unique 45 _ front back (prefix_text q) (decimal x) split (dash_split q x h) in
    let same = prefix_read q p h (subst (λ (s : List ℕ). IsPrefixText s p) cut.0 read) in
    let number =
    numeral_unique (decimal x) y x (subst (λ (s : List ℕ). IsNumeral s y) cut.1 len.numeral)
    (decimal_numeral x (omega (arith, fits))) in
    λ i. record { prefix = same i; max_len = Some (number i) }

not_broken_max : (q : PrefixParts) (x : ℕ) (e : _) → q.len ≤ x → x ≤ width q.family →
    ¬ BreaksMaxLen q x e
not_broken_max q x Overflow low high b = omega (arith, high, b)
not_broken_max q x Underflow low high b = omega (arith, low, b)

max_len_not_refused : (q : PrefixParts) (m : Option ℕ) (e : ParseMaxLenPrefixError) →
    IsMaxLenPrefix (record { prefix = q; max_len = m }) → IfSome m (λ x. x ≤ 128) →
    ¬ RefusesMaxLen (prefix_text q ++ dash_text m) e
max_len_not_refused q None (max_lens.Prefix e) h fits (inl r) =
    prefix_not_refused q e h.prefix
    (subst (λ (s : List ℕ). RefusesPrefix s e) (append-nil (prefix_text q)) r.1)
max_len_not_refused q None (max_lens.Prefix e) h fits (inr r) =
    split_not_lacks 45 _ r.0 r.1 r.2 (alone_no_dash q h.prefix)
max_len_not_refused q None (max_lens.MaxLen e) h fits r =
    split_not_lacks 45 _ r.0 r.1 r.2 (alone_no_dash q h.prefix)
max_len_not_refused q None (max_lens.Value e) h fits
    (p, x, (front, back, split, read, len), broken) =
    split_not_lacks 45 _ front back split (alone_no_dash q h.prefix)
max_len_not_refused q (Some x) (max_lens.Prefix e) h fits (inl r) =
    split_not_lacks 45 _ _ _ (dash_split q x h.prefix) r.0
max_len_not_refused q (Some x) (max_lens.Prefix e) h fits (inr (front, back, split, refused)) =
    let cut =
    split_unique 45 _ front back (prefix_text q) (decimal x) split (dash_split q x h.prefix) in
    prefix_not_refused q e h.prefix (subst (λ (s : List ℕ). RefusesPrefix s e) cut.0 refused)
max_len_not_refused q (Some x) (max_lens.MaxLen e) h fits (front, back, split, read, none) =
    let cut =
    split_unique 45 _ front back (prefix_text q) (decimal x) split (dash_split q x h.prefix) in
    none x
    (subst (λ (s : List ℕ). IsLenText s x) (sym cut.1)
    (record { numeral = decimal_numeral x (omega (arith, fits)); fits = omega (arith, fits) }))
max_len_not_refused q (Some x) (max_lens.Value e) h fits (p, y, form, broken) =
    let same = max_len_read_back q (Some x) p (Some y) h.prefix fits form in
    not_broken_max q x e h.lower h.upper
    (subst (λ (t : MaxLenParts). BreaksMaxLen t.prefix (unwrap_or t.max_len 0) e) same broken)

max_len_small : (q : PrefixParts) (m : Option ℕ) →
    IsMaxLenPrefix (record { prefix = q; max_len = m }) → IfSome m (λ x. x ≤ 128)
max_len_small q None h = tt
max_len_small q (Some x) h = within_width q.family x h.upper

pub max_len_back : (p : MaxLenParts) (r : Result MaxLenParts ParseMaxLenPrefixError) →
    IsMaxLenPrefix p → ParsesMaxLen (max_len_text p) r → r ≡ Ok p
max_len_back p (Ok q) h t =
    ap Ok
    (max_len_read_back p.prefix p.max_len q.prefix q.max_len h.prefix
    (max_len_small p.prefix p.max_len h) t.form)
max_len_back p (Err e) h t =
    absurd (max_len_not_refused p.prefix p.max_len e h (max_len_small p.prefix p.max_len h) t)

-- ---- identifiers of keys

ok_injective : (a b : List ℕ) → ◌≡◌ {A = Result (List ℕ) FromHexError} (Ok a) (Ok b) → a ≡ b
ok_injective a b e = ap (λ (r : Result (List ℕ) FromHexError). result_unwrap_or r []) e

pub key_back : (bytes : List ℕ) (r : Result (List ℕ) ParseKeyIdentifierError) → length bytes ≡ 20 →
    IsBytes bytes → ParsesKey (encode_lower bytes) r → r ≡ Ok bytes
key_back bytes (Ok b) l h t =
    ap Ok (ok_injective b bytes (sym t ∙ decode_sized-encode_lower bytes 20 l h))
key_back bytes (Err keys.Length) l h t =
    absurd (t (omega (arith, l, length-encode_with lower_digits bytes)))
key_back bytes (Err keys.Digit) l h t =
    let read = decode_sized-encode_lower bytes 20 l h in
    absurd (t.1 ((IsOk-decode_sized (encode_lower bytes) 20).0 (rw read refl)).1)
