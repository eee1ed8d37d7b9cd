-- The units of data, as the tables find them.
use Rattle.std.proofs.Common.{◌≡◌, ℕ, ◌≤◌, ◌⊎◌, inl, inr, refl, sym, ap, arith}
use Rattle.std.proofs.Common.{List, [], ◌∷◌, ◌++◌, ◌∙◌, length, take, drop, append_assoc}
use Rattle.std.proofs.Common.{length-append}
use Rattle.std.proofs.Math.Seq.{take-append_seam, drop-append_seam}
use Rattle.std.specs.List.Sorted.{IsStrictlySortedBy}
use Rattle.rtr_base.specs.Addresses.{Family, v4, v6}
use Rattle.rtr_units.specs.End.{EndMeaning, IsEnd}
use Rattle.rtr_units.specs.Header.{type_field}
use Rattle.rtr_units.specs.PrefixUnits.{OriginParts, PrefixFields, prefix_at, prefix_list}
use Rattle.rtr_units.specs.PrefixUnits.{prefix_size, prefix_type}
use Rattle.rtr_payload.specs.AspaUnits.{IsAspaUnit}
use Rattle.rtr_payload.specs.KeyUnits.{IsKeyUnit}
use Rattle.rtr_payload.specs.Payloads.{Meaning, Payload, origin, key, aspa, IsPayload}
use Rattle.rtr_payload.specs.RouteOrigins.{IsOriginUnit, meant_origin}
use Rattle.rtr_payload.specs.UnitFields.{prefix_unit}
use Rattle.rtr_payload.proofs.Apart.{end_type}
use Rattle.rtr_payload.proofs.Fields.{unit_payload}
use Rattle.rtr_payload.proofs.FieldsRead.{fields_read}
use Rattle.rtr_wire.specs.Sequences.{AreUnits}
use Rattle.data_memory.specs.Data.{IsData, announcement}
use Rattle.data_memory.specs.Deltas.{unit_of}
use Rattle.data_slices.specs.Canonical.{HoldsData, data_units}
use Rattle.data_validation.specs.Tables.{vrp_of}
use Rattle.data_validation.proofs.Order.{class, class_few, class_of}

-- ---- one unit

same_type : (f g : Family) → prefix_type f ≡ prefix_type g → f ≡ g
same_type v4 v4 e = refl
same_type v4 v6 e = absurd cc
same_type v6 v4 e = absurd cc
same_type v6 v6 e = refl

not_seven : (f : Family) → 7 ≡ prefix_type f → ⊥
not_seven v4 e = omega arith
not_seven v6 e = omega arith

not_nine : (f : Family) → 9 ≡ prefix_type f → ⊥
not_nine v4 e = omega arith
not_nine v6 e = omega arith

not_eleven : (f : Family) → 11 ≡ prefix_type f → ⊥
not_eleven v4 e = omega arith
not_eleven v6 e = omega arith

list_size : (u : PrefixFields) (f : Family) → u.origin.family ≡ f →
    length (prefix_list u) ≡ prefix_size f
list_size u v4 e =
    ap (λ g. length (prefix_list (record u { origin = record u.origin { family = g } }))) e
list_size u v6 e =
    ap (λ g. length (prefix_list (record u { origin = record u.origin { family = g } }))) e

-- what begins with the type of a prefix unit is one, and is read off its bytes
pub record IsPrefixUnit (f : Family) (x : List ℕ) (p : Payload) : Type 0 where
  pub size : length x ≡ prefix_size f
  pub means : p ≡ origin (vrp_of f x)

by_kind : (f : Family) (x r : List ℕ) (m : Meaning) →
    IsOriginUnit x m ⊎ (IsKeyUnit x m ⊎ IsAspaUnit x m) →
    type_field (x ++ r) ≡ prefix_type f → IsPrefixUnit f x m.payload
unfolding vrp_of
by_kind f x r m (inl k) h =
    let t : prefix_type k.unit.origin.family ≡ prefix_type f =
    ap (λ (l : List ℕ). type_field (l ++ r)) (sym k.bytes) ∙ h in
    let same : k.unit.origin.family ≡ f = same_type _ _ t in
    let whole : prefix_unit (prefix_at k.unit.origin.family (prefix_list k.unit))
    ≡ prefix_unit k.unit =
    fields_read (prefix_unit k.unit) k.ranges in
    let read : prefix_at k.unit.origin.family (prefix_list k.unit) ≡ k.unit = cc in
    let e : prefix_at f x ≡ k.unit =
    ap (λ (l : List ℕ). prefix_at f l) k.bytes
    ∙ ap (λ (g : Family). prefix_at g (prefix_list k.unit)) (sym same) ∙ read in
    record {
      size = ap length k.bytes ∙ list_size k.unit f same;
      means =
          ap (λ (n : Meaning). n.payload) k.means
          ∙ ap (λ (u : PrefixFields). origin (meant_origin u.origin)) (sym e);
    }
by_kind f x r m (inr (inl k)) h =
    absurd (not_nine f (ap (λ (l : List ℕ). type_field (l ++ r)) (sym k.bytes) ∙ h))
by_kind f x r m (inr (inr k)) h =
    absurd (not_eleven f (ap (λ (l : List ℕ). type_field (l ++ r)) (sym k.bytes) ∙ h))

-- the unit of an origin
pub record IsOf (f : Family) (x r : List ℕ) : Type 0 where
  pub type_is : type_field (x ++ r) ≡ prefix_type f
  pub size : length x ≡ prefix_size f

of_origin : (o : OriginParts) (x r : List ℕ) (m : Meaning) →
    IsOriginUnit x m ⊎ (IsKeyUnit x m ⊎ IsAspaUnit x m) → m.payload ≡ origin o →
    IsOf o.family x r
of_origin o x r m (inl k) e =
    let p : origin (meant_origin k.unit.origin) ≡ origin o =
    sym (ap (λ (n : Meaning). n.payload) k.means) ∙ e in
    let q : meant_origin k.unit.origin ≡ o = cc in
    let f : k.unit.origin.family ≡ o.family = ap (λ (w : OriginParts). w.family) q in
    record {
      type_is = ap (λ (l : List ℕ). type_field (l ++ r)) k.bytes ∙ ap prefix_type f;
      size = ap length k.bytes ∙ list_size k.unit o.family f;
    }
of_origin o x r m (inr (inl k)) e =
    let p : key k.unit.key ≡ origin o = sym (ap (λ (n : Meaning). n.payload) k.means) ∙ e in
    absurd cc
of_origin o x r m (inr (inr k)) e =
    let p = sym (ap (λ (n : Meaning). n.payload) k.means) ∙ e in
    absurd cc

-- ---- what is left of data

-- the bytes begin with units that announce these payloads, in order, and an end of data
pub record Left (v : ℕ) (b : List ℕ) (d : List Payload) (e : EndMeaning) : Type 0 where
  pub bytes : List ℕ
  pub last : List ℕ
  pub rest : List ℕ
  pub parts : b ≡ bytes ++ (last ++ rest)
  pub units : AreUnits bytes (data_units v d)
  pub end : IsEnd last e
  pub in_order : IsData d

pub of_data : (b : List ℕ) (d : List Payload) (e : EndMeaning) → HoldsData b d e →
    Left e.version b d e
of_data b d e h =
    let q = h.accepts.sequence in
    record {
      bytes = q.front;
      last = q.last;
      rest = h.accepts.rest;
      parts =
          h.accepts.parts ∙ ap (λ (l : List ℕ). l ++ h.accepts.rest) q.parts
          ∙ append_assoc q.front q.last h.accepts.rest;
      units = q.units;
      end = q.end;
      in_order = h.in_order;
    }

cut_take : (k : ℕ) (x r : List ℕ) → length x ≡ k → take k (x ++ r) ≡ x
cut_take k x r e = ap (λ (n : ℕ). take n (x ++ r)) (sym e) ∙ take-append_seam x r

cut_drop : (k : ℕ) (x r : List ℕ) → length x ≡ k → drop k (x ++ r) ≡ r
cut_drop k x r e = ap (λ (n : ℕ). drop n (x ++ r)) (sym e) ∙ drop-append_seam x r

pub nothing_left : (f : Family) (v : ℕ) (b : List ℕ) (e : EndMeaning) → Left v b [] e →
    type_field b ≡ prefix_type f → ⊥
nothing_left f v b e h t =
    let parts : b ≡ h.last ++ h.rest =
    h.parts ∙ ap (λ (l : List ℕ). l ++ (h.last ++ h.rest)) h.units in
    let seven = end_type b
    (record { bytes = h.last; means = e; rest = h.rest; end = h.end; parts = parts }) in
    not_seven f (sym seven ∙ t)

-- the first unit
pub record First (f : Family) (v : ℕ) (b : List ℕ) (p : Payload) (ps : List Payload)
    (e : EndMeaning) : Type 0 where
  pub means : p ≡ origin (vrp_of f (take (prefix_size f) b))
  pub range : IsPayload p
  pub left : Left v (drop (prefix_size f) b) ps e

pub first_unit : (f : Family) (v : ℕ) (b : List ℕ) (p : Payload) (ps : List Payload)
    (e : EndMeaning) → Left v b (p ∷ ps) e → type_field b ≡ prefix_type f → First f v b p ps e
unfolding IsStrictlySortedBy
first_unit f v b p ps e h t =
    let (x, more, at, u, us) = h.units in
    let parts : b ≡ x ++ (more ++ (h.last ++ h.rest)) =
    h.parts ∙ ap (λ (l : List ℕ). l ++ (h.last ++ h.rest)) at
    ∙ append_assoc x more (h.last ++ h.rest) in
    let k = by_kind f x (more ++ (h.last ++ h.rest)) (unit_of v (announcement p)) u.kind
    (sym (ap type_field parts) ∙ t) in
    let front : take (prefix_size f) b ≡ x =
    ap (take (prefix_size f)) parts ∙ cut_take (prefix_size f) x _ k.size in
    record {
      means = k.means ∙ ap (λ (l : List ℕ). origin (vrp_of f l)) (sym front);
      range = unit_payload x (unit_of v (announcement p)) u;
      left = record {
        bytes = more;
        last = h.last;
        rest = h.rest;
        parts = ap (drop (prefix_size f)) parts ∙ cut_drop (prefix_size f) x _ k.size;
        units = us;
        end = h.end;
        in_order = h.in_order.1;
      };
    }

-- a first unit that isn't of the family
pub apart_first : (f : Family) (v : ℕ) (b : List ℕ) (p : Payload) (ps : List Payload)
    (e : EndMeaning) → Left v b (p ∷ ps) e →
    (prefix_size f ≤ length b → type_field b ≡ prefix_type f → ⊥) → class p ≡ class_of f → ⊥
apart_first f v b (origin o) ps e h none c =
    let (x, more, at, u, us) = h.units in
    let r = more ++ (h.last ++ h.rest) in
    let parts : b ≡ x ++ (more ++ (h.last ++ h.rest)) =
    h.parts ∙ ap (λ (l : List ℕ). l ++ (h.last ++ h.rest)) at
    ∙ append_assoc x more (h.last ++ h.rest) in
    let k = of_origin o x (more ++ (h.last ++ h.rest)) (unit_of v (announcement (origin o)))
    u.kind refl in
    let same : o.family ≡ f = same_class o.family f c in
    none
    (omega (
      arith,
      ap length parts,
      length-append x (more ++ (h.last ++ h.rest)),
      k.size,
      ap prefix_size same,
    ))
    (ap type_field parts ∙ k.type_is ∙ ap prefix_type same)
  where
    same_class : (f g : Family) → class_of f ≡ class_of g → f ≡ g
    same_class v4 v4 e = refl
    same_class v4 v6 e = absurd (omega arith)
    same_class v6 v4 e = absurd (omega arith)
    same_class v6 v6 e = refl
apart_first f v b (key k) ps e h none c = let w = class_few f in omega arith
apart_first f v b (aspa a) ps e h none c = let w = class_few f in omega arith
