-- The fields of a unit can be read off its list.
use Rattle.std.proofs.Common.{◌≡◌, ℕ, ◌+◌, ◌-◌, ◌*◌, ◌/◌, ◌%◌, ◌^◌, ◌<◌, List, [], ◌∷◌, ◌++◌}
use Rattle.std.proofs.Common.{length, take, drop, subst, refl, sym, ap, ◌∙◌, append_assoc, arith}
use Rattle.std.proofs.Common.{get_or, inl, inr, ◌⊎◌}
use Rattle.std.specs.List.{AllByRecursion}
use Rattle.rtr_base.specs.declared.action.Action.{Action}
use Rattle.rtr_base.specs.declared.action.Action.TheVariants.{Announce, Withdraw}
use Rattle.std.proofs.lemmas.Nat.{mod-mul-add, div-add-mod', pow_pos}
use Rattle.rtr_base.specs.Bytes.{be, words, IsBytes}
use Rattle.rtr_base.specs.Addresses.{Family, cleared}
use Rattle.rtr_base.proofs.Numbers.{be-injective, length-be, IsBytes-cons, IsBytes-append}
use Rattle.rtr_base.proofs.Numbers.{IsBytes-be, IsBytes-words, IsBytes-drop}
use Rattle.rtr_units.specs.PrefixUnits.{PrefixFields, prefix_type, prefix_size, address_bytes}
use Rattle.rtr_units.specs.PrefixUnits.{prefix_list}
use Rattle.rtr_units.proofs.Headers.{header_bytes}
use Rattle.rtr_base.specs.Addresses.{v4, v6, width}
use Rattle.rtr_payload.specs.Payloads.{Payload, origin, key, aspa, Meaning, IsPayload, AspaParts}
use Rattle.rtr_payload.specs.Payloads.{IsAspa, IsKey}
use Rattle.rtr_base.specs.Actions.{act}
use Rattle.rtr_payload.specs.UnitFields.{Fields, prefix_unit, key_unit, aspa_unit, unit_list, Fit}
use Rattle.rtr_payload.specs.UnitFields.{WithinLimits, LengthsAgree, HasMeaning, meaning}
use Rattle.rtr_payload.specs.UnitFields.{written_fields, stripped}
use Rattle.rtr_payload.specs.Units.{IsUnit, form, form_of}
use Rattle.rtr_payload.specs.AspaUnits.{AspaFields, aspa_list, meant_providers, HasProviders}
use Rattle.rtr_payload.specs.AspaUnits.{meant_aspa}
use Rattle.rtr_payload.specs.KeyUnits.{KeyFields, key_list}
use Rattle.rtr_payload.specs.RouteOrigins.{PrefixFits}
use Rattle.rtr_payload.proofs.ByFields.{unit_fields_of, unit_of_fields, form_is}
use Rattle.rtr_base.specs.Actions.{flags_of}

-- where two lists go on from parts that are as long, the parts are equal and so is the rest
pub append_same : (a b r s : List ℕ) → length a ≡ length b → a ++ r ≡ b ++ s → (a ≡ b) × (r ≡ s)
append_same [] [] r s l e = (refl, e)
append_same [] (y ∷ b) r s l e = absurd (omega arith)
append_same (x ∷ a) [] r s l e = absurd (omega arith)
append_same (x ∷ a) (y ∷ b) r s l e =
    let h : x ≡ y = cc in
    let t = append_same a b r s (omega arith) cc in
    (λ i. h i ∷ t.0 i, t.1)

pub words_same : (ps qs r s : List ℕ) → AllByRecursion (λ p. p < 2 ^ 32) ps →
    AllByRecursion (λ p. p < 2 ^ 32) qs → length ps ≡ length qs → words ps ++ r ≡ words qs ++ s →
    (ps ≡ qs) × (r ≡ s)
words_same [] [] r s hp hq l e = (refl, e)
words_same [] (q ∷ qs) r s hp hq l e = absurd (omega arith)
words_same (p ∷ ps) [] r s hp hq l e = absurd (omega arith)
words_same (p ∷ ps) (q ∷ qs) r s hp hq l e =
    let h : p ≡ q = be-injective p q 4 hp.0 hq.0 (ap (λ l. take 4 l) e) in
    let t = words_same ps qs r s hp.1 hq.1 (omega arith) (ap (λ l. drop 4 l) e) in
    (λ i. h i ∷ t.0 i, t.1)

-- what two units that begin one list have in common
abbrev Same : Fields → Fields → List ℕ → List ℕ → Type 0
Same u w r s = (u ≡ w) × (r ≡ s)

byte : {b c : List ℕ} (i : ℕ) → b ≡ c → get_or b i 0 ≡ get_or c i 0
byte i e = ap (λ l. get_or l i 0) e

-- an address fits in its bytes
pub address_below : (f : Family) (a : ℕ) → a < 2 ^ width f → a < 256 ^ address_bytes f
address_below v4 a h = h
address_below v6 a h = h

-- the type of a prefix unit says its family, and is no other
family_same : (f g : Family) → prefix_type f ≡ prefix_type g → f ≡ g
family_same v4 v4 e = refl
family_same v4 v6 e = absurd (omega arith)
family_same v6 v4 e = absurd (omega arith)
family_same v6 v6 e = refl

other_type : (f : Family) → (prefix_type f ≡ 9) ⊎ (prefix_type f ≡ 11) → ⊥
other_type v4 h = elim h [ inl e ↦ absurd (omega arith) | inr e ↦ absurd (omega arith) ]
other_type v6 h = elim h [ inl e ↦ absurd (omega arith) | inr e ↦ absurd (omega arith) ]

-- after the first twelve bytes of a prefix unit
prefix_tail : (u : PrefixFields) (r : List ℕ) →
    drop 12 (prefix_list u ++ r) ≡
    be u.origin.address (address_bytes u.origin.family) ++ (be u.origin.asn 4 ++ r)
prefix_tail u r =
    append_assoc (be u.origin.address (address_bytes u.origin.family)) (be u.origin.asn 4) r

prefix_same : (u w : PrefixFields) (r t : List ℕ) → PrefixFits u → PrefixFits w →
    prefix_list u ++ r ≡ prefix_list w ++ t → Same (prefix_unit u) (prefix_unit w) r t
prefix_same u w r t h j e =
    let f = u.origin.family in
    let a = u.origin.address in
    let n = u.origin.asn in
    let f' = w.origin.family in
    let a' = w.origin.address in
    let n' = w.origin.asn in
    let ef : f ≡ f' = family_same f f' (byte 1 e) in
    let es : u.session ≡ w.session =
    be-injective u.session w.session 2 h.0 j.0 (ap (λ b. take 2 (drop 2 b)) e) in
    let e12 : be a (address_bytes f) ++ (be n 4 ++ r) ≡ be a' (address_bytes f') ++ (be n' 4 ++ t) =
    sym (prefix_tail u r) ∙ ap (drop 12) e ∙ prefix_tail w t in
    let k =
    length-be a (address_bytes f) ∙ ap address_bytes ef ∙ sym (length-be a' (address_bytes f')) in
    let p = append_same (be a (address_bytes f)) (be a' (address_bytes f')) (be n 4 ++ r)
    (be n' 4 ++ t) k e12 in
    let below : a' < 256 ^ address_bytes f =
    subst (λ (f : Family). a' < 256 ^ address_bytes f) (sym ef) (address_below f' a' j.1) in
    let ea : a ≡ a' =
    be-injective a a' (address_bytes f) (address_below f a h.1) below
    (p.0 ∙ ap (λ f. be a' (address_bytes f)) (sym ef)) in
    let en : n ≡ n' = be-injective n n' 4 h.2 j.2 (ap (take 4) p.1) in (
      λ i. prefix_unit (record {
        version = byte 0 e i;
        session = es i;
        flags = byte 8 e i;
        free = byte 11 e i;
        origin = record {
          family = ef i;
          address = ea i;
          prefix_len = byte 9 e i;
          max_len = byte 10 e i;
          asn = en i;
        };
      }),
      ap (drop 4) p.1,
    )

key_same : (u w : KeyFields) (r t : List ℕ) → IsKey u.key → IsKey w.key →
    key_list u ++ r ≡ key_list w ++ t → Same (key_unit u) (key_unit w) r t
key_same u w r t h j e =
    let i = u.key.identifier in
    let n = u.key.asn in
    let k = u.key.info in
    let i' = w.key.identifier in
    let n' = w.key.asn in
    let k' = w.key.info in
    let el : 32 + length k ≡ 32 + length k' =
    be-injective (32 + length k) (32 + length k') 4 (omega (arith, h.info)) (omega (arith, j.info))
    (ap (λ l. take 4 (drop 4 l)) e) in
    let e8 : i ++ be n 4 ++ k ++ r ≡ i' ++ be n' 4 ++ k' ++ t = ap (drop 8) e in
    let e9 : i ++ (be n 4 ++ (k ++ r)) ≡ i' ++ (be n' 4 ++ (k' ++ t)) =
    sym (simp append_assoc) ∙ e8 ∙ simp append_assoc in
    let p = append_same i i' (be n 4 ++ (k ++ r)) (be n' 4 ++ (k' ++ t))
    (h.identifier ∙ sym j.identifier) e9 in
    let en : n ≡ n' = be-injective n n' 4 h.asn j.asn (ap (take 4) p.1) in
    let q = append_same k k' r t (omega arith) (ap (drop 4) p.1) in (
      λ m. key_unit (record {
        version = byte 0 e m;
        flags = byte 2 e m;
        free = byte 3 e m;
        key = record { identifier = p.0 m; asn = en m; info = q.0 m };
      }),
      q.1,
    )

aspa_same : (u w : AspaFields) (r t : List ℕ) → IsAspa u.aspa → IsAspa w.aspa →
    aspa_list u ++ r ≡ aspa_list w ++ t → Same (aspa_unit u) (aspa_unit w) r t
aspa_same u w r t h j e =
    let c = u.aspa.customer in
    let ps = u.aspa.providers in
    let c' = w.aspa.customer in
    let ps' = w.aspa.providers in
    let el : 12 + 4 * length ps ≡ 12 + 4 * length ps' =
    be-injective (12 + 4 * length ps) (12 + 4 * length ps') 4 (omega (arith, h.providers.count))
    (omega (arith, j.providers.count)) (ap (λ l. take 4 (drop 4 l)) e) in
    let ec : c ≡ c' = be-injective c c' 4 h.customer j.customer (ap (λ l. take 4 (drop 8 l)) e) in
    let q =
    words_same ps ps' r t h.providers.each j.providers.each (omega arith) (ap (drop 12) e) in (
      λ m. aspa_unit (record {
        version = byte 0 e m;
        flags = byte 2 e m;
        free = byte 3 e m;
        aspa = record { customer = ec m; providers = q.0 m };
      }),
      q.1,
    )

pub fields_same : (u w : Fields) (r s : List ℕ) → Fit u → Fit w →
    unit_list u ++ r ≡ unit_list w ++ s → Same u w r s
fields_same (prefix_unit u) (prefix_unit w) r t h j e = prefix_same u w r t h j e
fields_same (key_unit u) (key_unit w) r t h j e = key_same u w r t h j e
fields_same (aspa_unit u) (aspa_unit w) r t h j e = aspa_same u w r t h j e
fields_same (prefix_unit u) (key_unit w) r t h j e =
    absurd (other_type u.origin.family (inl (byte 1 e)))
fields_same (prefix_unit u) (aspa_unit w) r t h j e =
    absurd (other_type u.origin.family (inr (byte 1 e)))
fields_same (key_unit u) (prefix_unit w) r t h j e =
    absurd (other_type w.origin.family (inl (sym (byte 1 e))))
fields_same (aspa_unit u) (prefix_unit w) r t h j e =
    absurd (other_type w.origin.family (inr (sym (byte 1 e))))
fields_same (key_unit u) (aspa_unit w) r t h j e = absurd (let d : _ ≡ _ = byte 1 e in omega arith)
fields_same (aspa_unit u) (key_unit w) r t h j e = absurd (let d : _ ≡ _ = byte 1 e in omega arith)

pub lists_same : (u w : Fields) → Fit u → Fit w → unit_list u ≡ unit_list w → u ≡ w
lists_same u w h j e = (fields_same u w [] [] h j (ap (λ (l : List ℕ). l ++ []) e)).0

pub Fit-written : (v f : ℕ) (p : Payload) → IsPayload p → Fit (written_fields v f p)
Fit-written v f (origin o) h = (omega arith, h.address, h.asn)
Fit-written v f (key k) h = h
Fit-written v f (aspa a) h = h

-- the kind and the parts of a payload, read off the fields of its form
abbrev parts_of : Fields → Payload
parts_of (prefix_unit u) = origin u.origin
parts_of (key_unit u) = key u.key
parts_of (aspa_unit u) = aspa u.aspa

abbrev version_of : Fields → ℕ
version_of (prefix_unit u) = u.version
version_of (key_unit u) = u.version
version_of (aspa_unit u) = u.version

abbrev pub flags_of_fields : Fields → ℕ
flags_of_fields (prefix_unit u) = u.flags
flags_of_fields (key_unit u) = u.flags
flags_of_fields (aspa_unit u) = u.flags

written_parts : (v f : ℕ) (p : Payload) →
    (version_of (written_fields v f p) ≡ v) × (flags_of_fields (written_fields v f p) ≡ f)
    × (parts_of (written_fields v f p) ≡ p)
written_parts v f (origin o) = (refl, refl, refl)
written_parts v f (key k) = (refl, refl, refl)
written_parts v f (aspa a) = (refl, refl, refl)

pub written_same : (v f w g : ℕ) (p q : Payload) → written_fields v f p ≡ written_fields w g q →
    (v ≡ w) × (f ≡ g) × (p ≡ q)
written_same v f w g p q e =
    let h = written_parts v f p in
    let j = written_parts w g q in (
      sym h.0 ∙ ap version_of e ∙ j.0,
      sym h.1 ∙ ap flags_of_fields e ∙ j.1,
      sym h.2 ∙ ap parts_of e ∙ j.2,
    )

pub form_same : (v f : ℕ) (p q : Payload) → IsPayload p → IsPayload q → form v f p ≡ form v f q →
    p ≡ q
form_same v f p q hp hq e =
    let lists = sym (form_is v f p) ∙ e ∙ form_is v f q in
    (written_same v f v f p q
    (lists_same (written_fields v f p) (written_fields v f q) (Fit-written v f p hp)
    (Fit-written v f q hq) lists)).2

flags_same : (a b : Action) → flags_of a ≡ flags_of b → a ≡ b
flags_same Announce Announce e = refl
flags_same Withdraw Withdraw e = refl
flags_same a b e = absurd (omega arith)

pub forms_same : (m n : Meaning) (r s : List ℕ) → IsPayload m.payload → IsPayload n.payload →
    form_of m ++ r ≡ form_of n ++ s → (m ≡ n) × (r ≡ s)
forms_same m n r s hm hn e =
    let lists = sym (ap (λ l. l ++ r) (form_is m.version (flags_of m.action) m.payload)) ∙ e
    ∙ ap (λ l. l ++ s) (form_is n.version (flags_of n.action) n.payload) in
    let t = fields_same (written_fields m.version (flags_of m.action) m.payload)
    (written_fields n.version (flags_of n.action) n.payload) r s (Fit-written _ _ m.payload hm)
    (Fit-written _ _ n.payload hn) lists in
    let w = written_same m.version (flags_of m.action) n.version (flags_of n.action) m.payload
    n.payload t.0 in
    let a = flags_same m.action n.action w.1 in
    (λ i. record { version = w.0 i; action = a i; payload = w.2 i }, t.1)

pub units_same : (a b r s : List ℕ) (m n : Meaning) → IsUnit a m → IsUnit b n → a ++ r ≡ b ++ s →
    (a ≡ b) × (m ≡ n) × (r ≡ s)
units_same a b r s m n unit other e =
    let h = unit_fields_of a m unit in
    let j = unit_fields_of b n other in
    let t = fields_same h.fields j.fields r s h.fits j.fits cc in
    (h.bytes ∙ ap unit_list t.0 ∙ sym j.bytes, h.means ∙ ap meaning t.0 ∙ sym j.means, t.1)

-- ---- what the fields of a form mean

cleared_none : (w l a : ℕ) → a % 2 ^ (w - l) ≡ 0 → cleared w l a ≡ a
cleared_none w l a h = omega arith

pub meaning-written : (v f : ℕ) (p : Payload) → IsPayload p →
    meaning (written_fields v f p) ≡
    record { version = v; action = act f; payload = stripped (act f) p }
meaning-written v f (origin o) h =
    ap
    (λ (b : ℕ). record { version = v; action = act f; payload = origin (record o { address = b }) })
    (cleared_none (width o.family) o.prefix_len o.address h.host_bits)
meaning-written v f (key k) h = refl
meaning-written v f (aspa a) h = refl

-- ---- the form of a unit's meaning is a unit with that meaning

cleared_again : (p a : ℕ) → 0 < p → (a - a % p) % p ≡ 0
cleared_again p a h =
    let e : a - a % p ≡ a / p * p + 0 = omega (arith, div-add-mod' a p) in
    rw e (mod-mul-add (a / p) p 0 h)

IsAspa-named : (action : Action) (a : AspaParts) → IsAspa a → IsAspa (meant_aspa action a)
IsAspa-named Announce a h = h
IsAspa-named Withdraw a h =
    record { customer = h.customer; providers = record { count = omega arith; each = tt } }

-- what a unit means is a payload
pub meaning_fits : (u : Fields) → Fit u → LengthsAgree u → IsPayload (meaning u).payload
meaning_fits (prefix_unit u) h j = record {
  lengths = j;
  address = let less : u.origin.address < 2 ^ width u.origin.family = h.1 in omega arith;
  host_bits =
      cleared_again (2 ^ (width u.origin.family - u.origin.prefix_len)) u.origin.address
      (pow_pos (width u.origin.family - u.origin.prefix_len));
  asn = h.2;
}
meaning_fits (key_unit u) h j = h
meaning_fits (aspa_unit u) h j = IsAspa-named (act u.flags) u.aspa h

pub unit_payload : (b : List ℕ) (m : Meaning) → IsUnit b m → IsPayload m.payload
unit_payload b m unit =
    let h = unit_fields_of b m unit in rw h.means (meaning_fits h.fields h.fits h.lengths)

act_again : (a : Action) → act (flags_of a) ≡ a
act_again Announce = refl
act_again Withdraw = refl

named_again : (a : Action) (ps : List ℕ) →
    meant_providers a (meant_providers a ps) ≡ meant_providers a ps
named_again Announce ps = refl
named_again Withdraw ps = refl

-- what a unit means has nothing to strip
stripped_again : (u : Fields) →
    stripped (meaning u).action (meaning u).payload ≡ (meaning u).payload
stripped_again (prefix_unit u) = refl
stripped_again (key_unit u) = refl
stripped_again (aspa_unit u) =
    ap (λ ps. aspa (record { customer = u.aspa.customer; providers = ps }))
    (named_again (act u.flags) u.aspa.providers)

HasProviders-named : (a : Action) (ps : List ℕ) → HasProviders a ps →
    HasProviders (act (flags_of a)) (meant_providers a ps)
HasProviders-named Announce ps h = h
HasProviders-named Withdraw ps h = tt

limits_again : (u : Fields) → WithinLimits u →
    WithinLimits
    (written_fields (meaning u).version (flags_of (meaning u).action) (meaning u).payload)
limits_again (prefix_unit u) h = tt
limits_again (key_unit u) h = h
limits_again (aspa_unit u) h = HasProviders-named (act u.flags) u.aspa.providers h

lengths_again : (u : Fields) → LengthsAgree u →
    LengthsAgree
    (written_fields (meaning u).version (flags_of (meaning u).action) (meaning u).payload)
lengths_again (prefix_unit u) h = h
lengths_again (key_unit u) h = tt
lengths_again (aspa_unit u) h = tt

form_means : (m : Meaning) → IsPayload m.payload → stripped m.action m.payload ≡ m.payload →
    meaning (written_fields m.version (flags_of m.action) m.payload) ≡ m
form_means m h e =
    let a = act_again m.action in
    meaning-written m.version (flags_of m.action) m.payload h
    ∙ (λ i. record { version = m.version; action = a i; payload = stripped (a i) m.payload })
    ∙ (λ i. record { version = m.version; action = m.action; payload = e i })

-- ---- and its bytes are bytes

pub flags_byte : (a : Action) → flags_of a < 256
flags_byte Announce = omega arith
flags_byte Withdraw = omega arith

-- four bytes in front of others
pub cells_bytes : (a b c d : ℕ) (r : List ℕ) → a < 256 → b < 256 → c < 256 → d < 256 → IsBytes r →
    IsBytes (a ∷ b ∷ c ∷ d ∷ r)
cells_bytes a b c d r ha hb hc hd h =
    IsBytes-cons a (b ∷ c ∷ d ∷ r) ha
    (IsBytes-cons b (c ∷ d ∷ r) hb (IsBytes-cons c (d ∷ r) hc (IsBytes-cons d r hd h)))

form_bytes : (u : Fields) → IsBytes (unit_list u) → IsBytes (form_of (meaning u))
form_bytes (prefix_unit u) h =
    let f = u.origin.family in
    let n = u.origin.asn in
    let cut = cleared (width f) u.origin.prefix_len u.origin.address in
    let address = be cut (address_bytes f) in
    let tail =
    IsBytes-append address (be n 4) (IsBytes-be cut (address_bytes f)) (IsBytes-be n 4) in
    header_bytes u.version (prefix_type f) 0 (prefix_size f)
    (flags_of (act u.flags) ∷ u.origin.prefix_len ∷ u.origin.max_len ∷ 0 ∷ address ++ be n 4) (h 0)
    (h 1)
    (cells_bytes (flags_of (act u.flags)) u.origin.prefix_len u.origin.max_len 0 (address ++ be n 4)
    (flags_byte (act u.flags)) (h 9) (h 10) (omega arith) tail)
form_bytes (key_unit u) h =
    cells_bytes u.version 9 (flags_of (act u.flags)) 0
    (be (32 + length u.key.info) 4 ++ u.key.identifier ++ be u.key.asn 4 ++ u.key.info) (h 0)
    (omega arith) (flags_byte (act u.flags)) (omega arith)
    (IsBytes-drop 4 (key_list u) h)
form_bytes (aspa_unit u) h =
    let c = u.aspa.customer in
    let qs = meant_providers (act u.flags) u.aspa.providers in
    let size = be (12 + 4 * length qs) 4 in
    let tail = IsBytes-append (be c 4) (words qs) (IsBytes-be c 4) (IsBytes-words qs) in
    cells_bytes u.version 11 (flags_of (act u.flags)) 0 (size ++ be c 4 ++ words qs) (h 0)
    (omega arith) (flags_byte (act u.flags)) (omega arith)
    (IsBytes-append size (be c 4 ++ words qs) (IsBytes-be (12 + 4 * length qs) 4) tail)

form_has : (b : List ℕ) (m : Meaning) → HasMeaning b m → HasMeaning (form_of m) m
form_has b m h = rw h.means (record {
  fields =
      written_fields (meaning h.fields).version (flags_of (meaning h.fields).action)
      (meaning h.fields).payload;
  shape = record {
    fits = Fit-written _ _ _ (meaning_fits h.fields h.fits h.lengths);
    limits = limits_again h.fields h.limits;
    bytes = form_is _ _ (meaning h.fields).payload;
    are_bytes = form_bytes h.fields (subst IsBytes h.bytes h.are_bytes);
  };
  lengths = lengths_again h.fields h.lengths;
  means =
      sym (form_means (meaning h.fields) (meaning_fits h.fields h.fits h.lengths)
      (stripped_again h.fields));
})

pub form_is_unit : (b : List ℕ) (m : Meaning) → IsUnit b m → IsUnit (form_of m) m
form_is_unit b m h = unit_of_fields (form_of m) m (form_has b m (unit_fields_of b m h))
