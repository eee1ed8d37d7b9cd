-- The steps of a list of bytes by its front: what a header, a unit and an end of data say
-- whatever follows them.
use Rattle.std.proofs.Common.{◌≡◌, ◌≢◌, ℕ, ◌+◌, ◌*◌, ◌%◌, ◌<◌, ◌≤◌, Bool, true, false, cond, ltb}
use Rattle.std.proofs.Common.{eqb}
use Rattle.std.proofs.Common.{List, ◌++◌, length, Option, Some, None, refl, sym, ap, subst, ◌∙◌}
use Rattle.std.proofs.Common.{arith, inl, inr}
use Rattle.std.proofs.lemmas.Bool.{le-ltb, lt-ltb, ltb-false, eq-eqb, cond-true}
use Rattle.std.proofs.lemmas.Bool.Decides.{nat_tests}
use Rattle.std.proofs.lemmas.List.{length-append, take_at}
use Rattle.rtr_base.specs.declared.action.Action.{Action}
use Rattle.rtr_base.specs.declared.action.Action.TheVariants.{Announce, Withdraw}
use Rattle.rtr_base.specs.declared.timing.Timing.{Timing}
use Rattle.rtr_base.specs.Actions.{act}
use Rattle.rtr_base.specs.Addresses.{Family, v4, v6, width}
use Rattle.rtr_base.specs.Bytes.{be, value}
use Rattle.rtr_base.proofs.Numbers.{length-words, value-be}
use Rattle.rtr_units.specs.StopCauses.{Refusal, short, refused}
use Rattle.rtr_payload.specs.declared.pdu.prefix_rule.PrefixRule.{PrefixRule}
use Rattle.std.specs.Option.{option_or}
use Rattle.std.specs.Prelude.{option_map}
use Rattle.rtr_units.specs.End.{EndMeaning, IsEnd, HasTimingOf, timed_list}
use Rattle.rtr_units.specs.PrefixUnits.{PrefixFields, prefix_type, prefix_size, prefix_list}
use Rattle.rtr_units.specs.Header.{type_field, length_field}
use Rattle.rtr_units.proofs.Headers.{same_header}
use Rattle.rtr_payload.specs.FirstFault.{header_fault, prefix_fault, refusal_report, first_fault}
use Rattle.rtr_payload.specs.FirstFault.{broken_rule}
use Rattle.rtr_payload.specs.FaultSteps.{header_step, frame_fault, first_unit, rule_of}
use Rattle.rtr_payload.specs.UnitFields.{Fields, prefix_unit, key_unit, aspa_unit, unit_list, Fit}
use Rattle.rtr_payload.specs.UnitFields.{WithinLimits, HasFields}
use Rattle.rtr_payload.specs.AspaUnits.{HasProviders, aspa_list}
use Rattle.rtr_payload.specs.KeyUnits.{key_list}

-- ---- the first of two steps

guard_none : {A : Type 0} (b : Bool) (f : A) (o : Option A) → cond b (Some f) o ≡ None →
    (b ≡ false) × (o ≡ None)
guard_none true f o e = absurd cc
guard_none false f o e = (refl, e)

pub first_none : (a b : Option Refusal) → option_or a b ≡ None → (a ≡ None) × (b ≡ None)
first_none None b e = (refl, e)
first_none (Some f) b e = absurd cc

-- the report on a unit whose prefix breaks this rule
abbrev pub refuse : List ℕ → Option PrefixRule → Option Refusal
refuse u rule = option_map (λ rule. refused (refusal_report u rule)) rule

-- step 7
abbrev length_step : List ℕ → Option Refusal
length_step r = cond (ltb (length r) (length_field r)) (Some short) None

-- ---- steps 1 to 7

-- they come before step 8
steps : (b c : Bool) (h p : Option Refusal) →
    cond b (Some short) (option_or h (cond c (Some short) p)) ≡
    option_or (cond b (Some short) (option_or h (cond c (Some short) None))) p
steps true c h p = refl
steps false c (Some f) p = refl
steps false true None p = refl
steps false false None p = refl

pub steps_are : (r : List ℕ) →
    first_fault r ≡ option_or (frame_fault r) (prefix_fault (type_field r) (first_unit r))
steps_are r =
    steps (ltb (length r) 8) (ltb (length r) (length_field r)) (header_step r)
    (prefix_fault (type_field r) (first_unit r))

-- a whole header is there, it is in order, and so much follows as it says
pub record InFrame (r : List ℕ) : Type 0 where
  pub whole_header : 8 ≤ length r
  pub in_order : header_step r ≡ None
  pub whole : length_field r ≤ length r

pub none_in_frame : (r : List ℕ) → frame_fault r ≡ None → InFrame r
none_in_frame r e =
    let a = guard_none (ltb (length r) 8) short (option_or (header_step r) (length_step r)) e in
    let b = first_none (header_step r) (length_step r) a.1 in
    let c = guard_none (ltb (length r) (length_field r)) short None b.1 in
    record {
      whole_header = ltb-false (length r) 8 a.0;
      in_order = b.0;
      whole = ltb-false (length r) (length_field r) c.0;
    }

-- after eight bytes the steps go on with the header
pub after_header : (r : List ℕ) → 8 ≤ length r →
    frame_fault r ≡ option_or (header_step r) (length_step r)
after_header r l =
    ap (λ b. cond b (Some short) (option_or (header_step r) (length_step r)))
    (le-ltb (length r) 8 l)

pub in_frame_none : (r : List ℕ) → InFrame r → frame_fault r ≡ None
in_frame_none r h =
    after_header r h.whole_header ∙ ap (λ o. option_or o (length_step r)) h.in_order
    ∙ ap (λ (b : Bool). cond b (Some short) None) (le-ltb (length r) (length_field r) h.whole)

-- what is wrong with the header comes first
pub header_first : (r : List ℕ) (f : Refusal) → 8 ≤ length r → header_step r ≡ Some f →
    first_fault r ≡ Some f
header_first r f l e =
    steps_are r
    ∙ ap (λ o. option_or o (prefix_fault (type_field r) (first_unit r)))
    (after_header r l ∙ ap (λ o. option_or o (length_step r)) e)

-- then that there is too little
pub length_next : (r : List ℕ) → 8 ≤ length r → header_step r ≡ None → length r < length_field r →
    first_fault r ≡ Some short
length_next r l e less =
    steps_are r
    ∙ ap (λ o. option_or o (prefix_fault (type_field r) (first_unit r)))
    (after_header r l ∙ ap (λ o. option_or o (length_step r)) e
    ∙ ap (λ (b : Bool). cond b (Some short) None) (lt-ltb (length r) (length_field r) less))

-- and then what is wrong with a prefix
pub in_frame_fault : (r : List ℕ) → InFrame r →
    first_fault r ≡ prefix_fault (type_field r) (first_unit r)
in_frame_fault r h =
    steps_are r
    ∙ ap (λ o. option_or o (prefix_fault (type_field r) (first_unit r))) (in_frame_none r h)

-- what follows a header does not change what is wrong with it
pub same_step : (h r : List ℕ) → 8 ≤ length h → header_step (h ++ r) ≡ header_step h
same_step h r l =
    let s = same_header h r l in
    λ i. header_fault (s.version i) (s.kind i) (s.flags i) (s.size i)

pub in_frame_front : (u r : List ℕ) → 8 ≤ length u → header_step u ≡ None →
    length_field u ≡ length u → InFrame (u ++ r)
in_frame_front u r l e n =
    let len = length-append u r in
    let s = same_header u r l in
    record {
      whole_header = omega arith;
      in_order = same_step u r l ∙ e;
      whole = omega (arith, s.size);
    }

-- ---- a list with the shape of a unit

pub nine_in_order : (v g n : ℕ) → 32 ≤ n → n ≤ 65535 → header_fault v 9 g n ≡ None
unfolding header_fault
nine_in_order v g n h k = grind (arith, nat_tests)

pub eleven_in_order : (v g n : ℕ) → 12 ≤ n → n ≤ 65535 → n % 4 ≡ 0 → (n ≡ 12 → g % 2 ≢ 1) →
    header_fault v 11 g n ≡ None
unfolding header_fault
eleven_in_order v g n h k d e = grind (arith, nat_tests)

prefix_in_order : (f : Family) (v g : ℕ) → header_fault v (prefix_type f) g (prefix_size f) ≡ None
unfolding header_fault
prefix_in_order v4 v g = refl
prefix_in_order v6 v g = refl

providers_named : (g : ℕ) (ps : List ℕ) → HasProviders (act g) ps → 12 + 4 * length ps ≡ 12 →
    g % 2 ≢ 1
providers_named g ps h e odd = absurd (omega (arith, one_named))
  where
    one_named : 1 ≤ length ps
    one_named =
        let acts : act g ≡ Announce =
        cond-true (eqb (g % 2) 1) Announce Withdraw (eq-eqb (g % 2) 1 odd) in
        let P : Action → Type 0 = λ a. HasProviders a ps in
        subst P acts h

-- a list whose header is in order and says its length
pub record Whole (b : List ℕ) : Type 0 where
  pub long : 8 ≤ length b
  pub in_order : header_step b ≡ None
  pub size : length_field b ≡ length b

prefix_length : (u : PrefixFields) (f : Family) →
    length (prefix_list (record u { origin = record u.origin { family = f } })) ≡ prefix_size f
prefix_length u v4 = refl
prefix_length u v6 = refl

prefix_size_said : (f : Family) →
    (8 ≤ prefix_size f) × (value (be (prefix_size f) 4) ≡ prefix_size f)
prefix_size_said v4 = (omega arith, refl)
prefix_size_said v6 = (omega arith, refl)

unit_whole : (u : Fields) → Fit u → WithinLimits u → Whole (unit_list u)
unit_whole (prefix_unit u) h w =
    let p = prefix_size_said u.origin.family in
    record {
      long = omega arith;
      in_order =
          ap (header_fault u.version (prefix_type u.origin.family) _) p.1
          ∙ prefix_in_order u.origin.family u.version _;
      size = p.1 ∙ sym (prefix_length u u.origin.family);
    }
unit_whole (key_unit u) h w =
    let i = u.key.identifier in
    let n = u.key.asn in
    let k = u.key.info in
    let len : value (be (32 + length k) 4) ≡ 32 + length k =
    value-be (32 + length k) 4 (omega (arith, h.info)) in
    let size : length (key_list u) ≡ 32 + length k =
    omega (arith, h.identifier, length-append (i ++ be n 4) k, length-append i (be n 4)) in
    record {
      long = omega arith;
      in_order =
          ap (header_fault u.version 9 u.flags) len
          ∙ nine_in_order u.version u.flags (32 + length k) (omega arith) (omega arith);
      size = len ∙ sym size;
    }
unit_whole (aspa_unit u) h w =
    let ps = u.aspa.providers in
    let len : value (be (12 + 4 * length ps) 4) ≡ 12 + 4 * length ps =
    value-be (12 + 4 * length ps) 4 (omega (arith, h.providers.count)) in
    let size : length (aspa_list u) ≡ 12 + 4 * length ps = omega (arith, length-words ps) in
    record {
      long = omega arith;
      in_order =
          ap (header_fault u.version 11 u.flags) len
          ∙ eleven_in_order u.version u.flags (12 + 4 * length ps) (omega arith)
          (omega (arith, h.providers.count)) (omega arith) (providers_named u.flags ps w);
      size = len ∙ sym size;
    }

pub shape_whole : (b : List ℕ) (u : Fields) → HasFields b u → Whole b
shape_whole b u h = subst Whole (sym h.bytes) (unit_whole u h.fits h.limits)

end_whole : (v s q : ℕ) (t : Option Timing) → HasTimingOf v t → Whole (timed_list v s q t)
unfolding header_fault
end_whole v s q None h = record { long = omega arith; in_order = rw h refl; size = refl }
end_whole v s q (Some t) h = record {
  long = omega arith;
  in_order = elim h.0 [ inl e ↦ rw e refl | inr e ↦ rw e refl ];
  size = refl;
}

-- the unit is what its length field cuts off
whole_front : (b r : List ℕ) → Whole b → (frame_fault (b ++ r) ≡ None) × (first_unit (b ++ r) ≡ b)
whole_front b r h =
    let n : length_field (b ++ r) ≡ length b = (same_header b r h.long).size ∙ h.size in (
      in_frame_none (b ++ r) (in_frame_front b r h.long h.in_order h.size),
      rw n (take_at b r (length b) refl),
    )

-- and only step 8 is left
step_eight : (b r : List ℕ) → Whole b → first_fault (b ++ r) ≡ prefix_fault (type_field b) b
step_eight b r w =
    let f = whole_front b r w in
    let same : type_field (b ++ r) ≡ type_field b = (same_header b r w.long).kind in
    steps_are (b ++ r)
    ∙ ap (λ o. option_or o (prefix_fault (type_field (b ++ r)) (first_unit (b ++ r)))) f.0
    ∙ (λ i. prefix_fault (same i) (f.1 i))

-- which is the rule on the fields
lengths_are : (u : Fields) →
    prefix_fault (type_field (unit_list u)) (unit_list u) ≡ refuse (unit_list u) (rule_of u)
lengths_are (prefix_unit u) = by_family u.origin.family
  where
    by_family : (f : Family) →
        prefix_fault (prefix_type f) (prefix_list u) ≡
        refuse (prefix_list u) (broken_rule (width f) u.origin.prefix_len u.origin.max_len)
    by_family v4 = refl
    by_family v6 = refl
lengths_are (key_unit u) = refl
lengths_are (aspa_unit u) = refl

-- after a list with the shape of a unit the one fault is that of its prefix lengths
pub shape_fault : (b r : List ℕ) (u : Fields) → HasFields b u →
    first_fault (b ++ r) ≡ refuse b (rule_of u)
shape_fault b r u h =
    step_eight b r (shape_whole b u h) ∙ ap (λ c. prefix_fault (type_field c) c) h.bytes
    ∙ lengths_are u ∙ ap (λ c. refuse c (rule_of u)) (sym h.bytes)

-- a list with the shape of a unit, or an end of data, is framed and cut off by its length field
pub shape_cut : (b r : List ℕ) (u : Fields) → HasFields b u →
    (frame_fault (b ++ r) ≡ None) × (first_unit (b ++ r) ≡ b)
shape_cut b r u h = whole_front b r (shape_whole b u h)

pub end_cut : (b r : List ℕ) (e : EndMeaning) → IsEnd b e →
    (frame_fault (b ++ r) ≡ None) × (first_unit (b ++ r) ≡ b)
end_cut b r e h =
    whole_front b r
    (subst Whole (sym h.bytes) (end_whole e.version e.session e.serial e.timing h.fits.timing))

end_lengths : (v s q : ℕ) (t : Option Timing) →
    prefix_fault (type_field (timed_list v s q t)) (timed_list v s q t) ≡ None
end_lengths v s q None = refl
end_lengths v s q (Some t) = refl

pub end_fault : (b r : List ℕ) (e : EndMeaning) → IsEnd b e → first_fault (b ++ r) ≡ None
end_fault b r e h =
    let w : Whole b =
    subst Whole (sym h.bytes) (end_whole e.version e.session e.serial e.timing h.fits.timing) in
    step_eight b r w ∙ ap (λ c. prefix_fault (type_field c) c) h.bytes
    ∙ end_lengths e.version e.session e.serial e.timing
