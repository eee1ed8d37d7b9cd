-- Going over units and others at once, up to the first that breaks a rule.
use Rattle.std.proofs.Common.{◌≡◌, ℕ, ◌-◌, ◌≤◌, Bool, true, false, List, [], ◌∷◌, ◌++◌}
use Rattle.std.proofs.Common.{length, refl, sym, ap, subst, ◌∙◌, append_assoc}
use Rattle.std.proofs.Common.{append-nil, arith}
use Rattle.std.proofs.lemmas.List.{length-append}
use Rattle.std.specs.BTreeMap.{is_at}
use Rattle.std.specs.List.{AllByRecursion, list_any}
use Rattle.std.specs.declared.cmp.Ordering.{Ordering}
use Rattle.std.specs.declared.cmp.Ordering.TheVariants.{Greater}
use Rattle.rtr_base.specs.declared.action.Action.TheVariants.{Announce}
use Rattle.rtr_payload.specs.Payloads.{Meaning, Payload}
use Rattle.rtr_payload.specs.Units.{IsUnit}
use Rattle.rtr_wire.specs.Sequences.{AreUnits}
use Rattle.data_memory.specs.Data.{has_name, name_cmp}
use Rattle.data_memory.specs.Deltas.{unit_of}
use Rattle.data_slices.specs.Canonical.{change}
use Rattle.data_slices.specs.Items.{meant}
use Rattle.data_slices.specs.PrivateChanges.{Breaks, HoldsUnits, IsNext, IsWithin, NoUnit}
use Rattle.data_slices.specs.PrivateChanges.{Passed, Seeks}
use Rattle.data_slices.specs.PrivateChanges.{rule_action, is_against, units_of}
use Rattle.data_slices.specs.declared.item.PayloadView.{PayloadView}
use Rattle.data_slices.specs.declared.refused.Rule.{Rule}
use Rattle.data_slices.specs.declared.refused.Rule.TheVariants.{Apart, Duplicate, Unknown}
use Rattle.data_slices.proofs.Seeking.{all_push, passed_all}
use Rattle.data_slices.proofs.Units.{Head, head, left_name, nothing, one_more}

-- how far both were gone over
pub record Finding (rule : Rule) (v w : ℕ) (ps qs : List Payload)
    (these these_rest those_rest : List ℕ) : Type 0 where
  pub before : List Payload
  pub xs : List Payload
  pub ys : List Payload
  pub all : ps ≡ before ++ xs
  pub front : List ℕ
  pub parts : these ≡ front ++ these_rest
  pub units : AreUnits front (units_of (rule_action rule) v before)
  pub within : AllByRecursion (IsWithin rule qs) before
  pub held : HoldsUnits (rule_action rule) v these_rest xs
  pub others : HoldsUnits Announce w those_rest ys
  pub same : AllByRecursion (λ x. has_name qs x ≡ has_name ys x) xs

pub record Going (rule : Rule) (these those these_rest those_rest : List ℕ) : Type 0 where
  pub fits : length these_rest ≤ length these
  pub finding : (v w : ℕ) (ps qs : List Payload) → HoldsUnits (rule_action rule) v these ps →
      HoldsUnits Announce w those qs → Finding rule v w ps qs these these_rest those_rest

all_same : (qs ps : List Payload) → AllByRecursion (λ x. has_name qs x ≡ has_name qs x) ps
all_same qs [] = tt
all_same qs (p ∷ ps) = (refl, all_same qs ps)

pub begins : (rule : Rule) (these those : List ℕ) → Going rule these those these those
begins rule these those = record {
  fits = omega arith;
  finding = λ v w ps qs h j. record {
    before = [];
    xs = ps;
    ys = qs;
    all = refl;
    front = [];
    parts = refl;
    units = refl;
    within = tt;
    held = h;
    others = j;
    same = all_same qs ps;
  };
}

-- only an announcement may take the place of what is there
against_name : (rule : Rule) (there : Bool) (p : Payload) →
    is_against rule there (change (rule_action rule) p).payload ≡ is_against rule there p
against_name Apart there p = refl
against_name Duplicate there p = refl
against_name Unknown there p = refl

module _ (rule : Rule) (v w : ℕ) (ps qs : List Payload) (these these_rest those_rest : List ℕ)
    (f : Finding rule v w ps qs these these_rest those_rest) where
  -- none breaks the rule
  pub found_none : NoUnit these_rest → AllByRecursion (IsWithin rule qs) ps
  found_none none =
      let is = nothing (rule_action rule) v these_rest f.xs none f.held in
      subst (AllByRecursion (IsWithin rule qs))
      (sym (f.all ∙ ap (λ l. f.before ++ l) is ∙ append-nil f.before)) f.within

  module _ (first : PayloadView) (left : List ℕ) (next : IsNext first left these_rest) where
    h : Head (rule_action rule) v first left f.xs
    h = head (rule_action rule) v first left these_rest f.xs next f.held

    name_is : (q : Payload) → name_cmp (meant first).payload q ≡ name_cmp h.first q
    name_is q =
        ap (λ (m : Meaning). name_cmp m.payload q) h.means ∙ left_name (rule_action rule) h.first q

    same : AllByRecursion (λ x. has_name qs x ≡ has_name f.ys x) (h.first ∷ h.others)
    same = subst (AllByRecursion (λ x. has_name qs x ≡ has_name f.ys x)) h.all f.same

    unit_is : IsUnit next.0 (unit_of v (change (rule_action rule) h.first))
    unit_is = subst (IsUnit next.0) h.means next.1.0

    -- what is left of those, and whether the name is there
    module _ (t : Bool) (right : List ℕ) (seeks : Seeks t first right those_rest) where
      abbrev found_left : Passed (meant first).payload w right f.ys
      found_left = (seeks w f.ys f.others).0

      renamed : (zs : List Payload) →
          AllByRecursion (λ z. name_cmp (meant first).payload z ≡ Greater) zs →
          AllByRecursion (λ z. name_cmp h.first z ≡ Greater) zs
      renamed [] l = tt
      renamed (z ∷ zs) (g, l) = (sym (name_is z) ∙ g, renamed zs l)

      left_same : AllByRecursion (λ x. has_name qs x ≡ has_name found_left.left x)
          (h.first ∷ h.others)
      left_same =
          passed_all h.first h.others h.below found_left.passed found_left.left qs
          (renamed found_left.passed found_left.lower)
          (subst (λ l. AllByRecursion (λ x. has_name qs x ≡ has_name l x) (h.first ∷ h.others))
          found_left.all same)

      there : has_name qs h.first ≡ t
      there =
          left_same.0
          ∙ sym (ap (λ (c : Payload → Ordering). list_any (is_at c) found_left.left)
          (λ i q. name_is q i))
          ∙ (seeks w f.ys f.others).1

      -- by what was found of it
      judged : (b : Bool) → b ≡ is_against rule t (meant first).payload →
          is_against rule (has_name qs h.first) h.first ≡ b
      judged b is =
          ap (λ x. is_against rule x h.first) there ∙ sym (against_name rule t h.first)
          ∙ ap (λ (m : Meaning). is_against rule t m.payload) (sym h.means) ∙ sym is

      -- it breaks the rule
      pub found : (b : Bool) (n : ℕ) → b ≡ is_against rule t (meant first).payload → b ≡ true →
          n ≡ length these - length these_rest → Breaks rule v ps qs these n
      found b n is e size = record {
        before = f.before;
        first = h.first;
        others = h.others;
        all = f.all ∙ ap (λ l. f.before ++ l) h.all;
        within = f.within;
        against = judged b is ∙ e;
        front = f.front;
        unit = next.0;
        left = left;
        parts = f.parts ∙ ap (λ l. f.front ++ l) next.2;
        size = omega (arith, size, ap length f.parts, length-append f.front these_rest);
        units = f.units;
        is_unit = unit_is;
      }

      -- it doesn't
      pub advances : (b : Bool) → b ≡ is_against rule t (meant first).payload → b ≡ false →
          Finding rule v w ps qs these left right
      advances b is e = record {
        before = f.before ++ h.first ∷ [];
        xs = h.others;
        ys = found_left.left;
        all =
            f.all ∙ ap (λ l. f.before ++ l) h.all
            ∙ sym (append_assoc f.before (h.first ∷ []) h.others);
        front = f.front ++ next.0;
        parts =
            f.parts ∙ ap (λ l. f.front ++ l) next.2 ∙ sym (append_assoc f.front next.0 left);
        units = one_more (rule_action rule) v f.front next.0 f.before h.first (meant first)
            f.units next.1.0 h.means;
        within =
            all_push (IsWithin rule qs) f.before h.first f.within (judged b is ∙ e);
        held = h.held;
        others = found_left.held;
        same = left_same.1;
      }

-- ---- the loop

pub shorter_left : (b rest left : List ℕ) → rest ≡ b ++ left → length left ≤ length rest
shorter_left b rest left parts = omega (arith, ap length parts, length-append b left)

module _ (rule : Rule) (these those these_rest those_rest : List ℕ)
    (g : Going rule these those these_rest those_rest) (first : PayloadView) (left : List ℕ)
    (next : IsNext first left these_rest) (t : Bool) (right : List ℕ)
    (seeks : Seeks t first right those_rest) (b : Bool)
    (is : b ≡ is_against rule t (meant first).payload) where
  pub advance : b ≡ false → Going rule these those left right
  advance e = record {
    fits = omega (arith, g.fits, shorter_left next.0 these_rest left next.2);
    finding = λ v w ps qs h j.
        advances rule v w ps qs these these_rest those_rest (g.finding v w ps qs h j) first left
        next t right seeks b is e;
  }

  pub stop : b ≡ true → (v w : ℕ) (ps qs : List Payload) →
      HoldsUnits (rule_action rule) v these ps → HoldsUnits Announce w those qs →
      Breaks rule v ps qs these (length these - length these_rest)
  stop e v w ps qs h j =
      found rule v w ps qs these these_rest those_rest (g.finding v w ps qs h j) first left next
      t right seeks b (length these - length these_rest) is e refl
