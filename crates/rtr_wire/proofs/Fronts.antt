-- What is at the front of two inputs, by the views of it.
use Rattle.std.proofs.Common.{◌≡◌, ◌≢◌, ℕ, true, false, List, [], ◌∷◌, ◌++◌, None}
use Rattle.std.proofs.Common.{refl, sym, ap, subst, ◌∙◌, append_assoc}
use Rattle.rtr_units.specs.AnyEnd.{end_bytes, end_meaning}
use Rattle.rtr_units.specs.End.{EndMeaning, IsEnd, end_list}
use Rattle.rtr_units.proofs.Ends.{end_one}
use Rattle.rtr_payload.specs.AspaUnits.{aspa_at}
use Rattle.rtr_payload.specs.FirstFault.{first_fault}
use Rattle.rtr_payload.specs.KeyUnits.{key_at}
use Rattle.rtr_payload.specs.Payloads.{Meaning}
use Rattle.rtr_payload.specs.UnitFields.{meaning, key_unit, aspa_unit}
use Rattle.rtr_payload.specs.Units.{IsUnit}
use Rattle.rtr_payload.proofs.Apart.{unit_or_end}
use Rattle.rtr_payload.proofs.Fields.{units_same}
use Rattle.rtr_payload.proofs.Rests.{begins_unit_none, begins_end_none}
use Rattle.unit_views.specs.Faults.{IsFirstFault}
use Rattle.unit_views.specs.Origins.{origin_meaning}
use Rattle.unit_views.specs.Views.{IsViewOf}
use Rattle.unit_views.specs.declared.fault.ViewFault.{ViewFault}
use Rattle.unit_views.specs.declared.fault.ViewFault.TheVariants.{Writer, Short, UnitType}
use Rattle.unit_views.specs.declared.fault.ViewFault.TheVariants.{UnitLength, TooLong}
use Rattle.unit_views.specs.declared.fault.ViewFault.TheVariants.{EmptyProviders, UnitVersion}
use Rattle.unit_views.specs.declared.fault.ViewFault.TheVariants.{Prefix, TooMany}
use Rattle.unit_views.specs.declared.view.UnitView.{UnitView}
use Rattle.unit_views.specs.declared.view.UnitView.TheVariants as views
use Rattle.unit_views.proofs.Agreement.{view_means}
use Rattle.rtr_wire.specs.PrivateSteps.{AreDifferent, SameFront, is_payload_unit}
use Rattle.rtr_wire.specs.PrivateSteps.{unit, end, viewed}
use Rattle.rtr_wire.specs.Sequences.{Accepts}
use Rattle.rtr_wire.proofs.OneAnswer.{begins_end}
use Rattle.rtr_wire.proofs.Runs.{after}

-- ---- a view at the front of a unit or an end of data

-- it shows what the unit means
unit_viewed : (v : UnitView) (b r left x s : List ℕ) (m : Meaning) → IsViewOf v b →
    r ≡ b ++ left → IsUnit x m → r ≡ x ++ s → (viewed v ≡ unit m) × (left ≡ s)
unit_viewed (views.Origin v) b r left x s m is parts u e =
    let n = origin_meaning v in
    let t = units_same b x left s n m (view_means (views.Origin v) b n is refl) u
    (sym parts ∙ e) in
    (ap unit t.1, t.2)
unit_viewed (views.RouterKey v) b r left x s m is parts u e =
    let n = meaning (key_unit (key_at v.unit.now)) in
    let t = units_same b x left s n m (view_means (views.RouterKey v) b n is refl) u
    (sym parts ∙ e) in
    (ap unit t.1, t.2)
unit_viewed (views.Aspa v) b r left x s m is parts u e =
    let n = meaning (aspa_unit (aspa_at v.unit.now)) in
    let t = units_same b x left s n m (view_means (views.Aspa v) b n is refl) u
    (sym parts ∙ e) in
    (ap unit t.1, t.2)
unit_viewed (views.End d) b r left x s m (is, h) parts u e =
    absurd (unit_or_end x b s left m (end_meaning d) u h (sym e ∙ parts))

-- it shows the end of data
end_viewed : (v : UnitView) (b r left x s : List ℕ) (e : EndMeaning) → IsViewOf v b →
    r ≡ b ++ left → IsEnd x e → r ≡ x ++ s → viewed v ≡ end x
end_viewed (views.Origin v) b r left x s e is parts h eq =
    absurd (unit_or_end b x left s (origin_meaning v) e
    (view_means (views.Origin v) b (origin_meaning v) is refl) h (sym parts ∙ eq))
end_viewed (views.RouterKey v) b r left x s e is parts h eq =
    absurd (unit_or_end b x left s (meaning (key_unit (key_at v.unit.now))) e
    (view_means (views.RouterKey v) b (meaning (key_unit (key_at v.unit.now))) is refl) h
    (sym parts ∙ eq))
end_viewed (views.Aspa v) b r left x s e is parts h eq =
    absurd (unit_or_end b x left s (meaning (aspa_unit (aspa_at v.unit.now))) e
    (view_means (views.Aspa v) b (meaning (aspa_unit (aspa_at v.unit.now))) is refl) h
    (sym parts ∙ eq))
end_viewed (views.End d) b r left x s e (is, j) parts h eq =
    ap end (is ∙ (end_one b x left s (end_meaning d) e j h (sym parts ∙ eq)).0)

-- what was viewed is a unit, or an end of data
pub unit_seen : (v : UnitView) (x : List ℕ) → IsViewOf v x → is_payload_unit v ≡ true →
    (m : Meaning) × IsUnit x m
unit_seen (views.Origin v) x is e =
    (origin_meaning v, view_means (views.Origin v) x (origin_meaning v) is refl)
unit_seen (views.RouterKey v) x is e =
    let m = meaning (key_unit (key_at v.unit.now)) in
    (m, view_means (views.RouterKey v) x m is refl)
unit_seen (views.Aspa v) x is e =
    let m = meaning (aspa_unit (aspa_at v.unit.now)) in
    (m, view_means (views.Aspa v) x m is refl)
unit_seen (views.End d) x is e = absurd cc

pub end_seen : (v : UnitView) (x : List ℕ) → IsViewOf v x → is_payload_unit v ≡ false →
    (e : EndMeaning) × IsEnd x e
end_seen (views.Origin v) x is e = absurd cc
end_seen (views.RouterKey v) x is e = absurd cc
end_seen (views.Aspa v) x is e = absurd cc
end_seen (views.End d) x is e = (end_meaning d, is.1)

-- what is at the front of both means the same
front_shown : (w : UnitView) (y : List ℕ) (m : Meaning) → IsViewOf w y → viewed w ≡ unit m →
    IsUnit y m
front_shown (views.Origin v) y m is e = view_means (views.Origin v) y m is cc
front_shown (views.RouterKey v) y m is e = view_means (views.RouterKey v) y m is cc
front_shown (views.Aspa v) y m is e = view_means (views.Aspa v) y m is cc
front_shown (views.End d) y m is e = absurd cc

end_shown : (w : UnitView) (y b : List ℕ) → IsViewOf w y → viewed w ≡ end b → y ≡ b
end_shown (views.Origin v) y b is e = absurd cc
end_shown (views.RouterKey v) y b is e = absurd cc
end_shown (views.Aspa v) y b is e = absurd cc
end_shown (views.End d) y b is e =
    let bytes : end_bytes d ≡ b = cc in
    sym is.0 ∙ bytes

pub same_front : (v w : UnitView) (x y left right l r : List ℕ) → IsViewOf v x → IsViewOf w y →
    left ≡ x ++ l → right ≡ y ++ r → viewed v ≡ viewed w →
    SameFront (is_payload_unit v) left right l r
same_front (views.Origin v) w x y left right l r is is' p q e =
    let m = origin_meaning v in
    (x, y, m, p, q, front_shown (views.Origin v) x m is refl, front_shown w y m is' (sym e))
same_front (views.RouterKey v) w x y left right l r is is' p q e =
    let m = meaning (key_unit (key_at v.unit.now)) in
    (x, y, m, p, q, front_shown (views.RouterKey v) x m is refl, front_shown w y m is' (sym e))
same_front (views.Aspa v) w x y left right l r is is' p q e =
    let m = meaning (aspa_unit (aspa_at v.unit.now)) in
    (x, y, m, p, q, front_shown (views.Aspa v) x m is refl, front_shown w y m is' (sym e))
same_front (views.End d) w x y left right l r is is' p q e =
    let bytes : y ≡ x = end_shown w y (end_bytes d) is' (sym e) ∙ is.0 in (
      x,
      y,
      end_meaning d,
      p,
      q,
      is.1,
      subst (λ b. IsEnd b (end_meaning d)) (sym bytes) is.1,
    )

-- ---- the front of a sequence

-- the first unit, and what follows it
record First (l : List ℕ) (ms : List Meaning) (m : Meaning) (d : EndMeaning) : Type 0 where
  x : List ℕ
  s : List ℕ
  b : List ℕ
  is_unit : IsUnit x m
  parts : l ≡ x ++ s
  others : Accepts s b ms d

first_of : (l b : List ℕ) (ms : List Meaning) (m : Meaning) (d : EndMeaning) →
    Accepts l b (m ∷ ms) d → First l ms m d
first_of l b ms m d a =
    let q = a.sequence in
    let (x, rest, is, u, more) = q.units in
    record {
      x = x;
      s = rest ++ (q.last ++ a.rest);
      b = rest ++ q.last;
      is_unit = u;
      parts =
          a.parts ∙ after b q.front q.last a.rest q.parts
          ∙ after q.front x rest (q.last ++ a.rest) is;
      others = record {
        rest = a.rest;
        parts = sym (append_assoc rest q.last a.rest);
        sequence = record { front = rest; last = q.last; parts = refl; units = more; end = q.end };
      };
    }

-- after no unit comes the end of data
record Last (l : List ℕ) (d : EndMeaning) : Type 0 where
  x : List ℕ
  s : List ℕ
  is_end : IsEnd x d
  parts : l ≡ x ++ s

last_of : (l b : List ℕ) (d : EndMeaning) → Accepts l b [] d → Last l d
last_of l b d a =
    let q = a.sequence in
    let empty : q.front ≡ [] = q.units in
    record {
      x = q.last;
      s = a.rest;
      is_end = q.end;
      parts =
          a.parts ∙ after b q.front q.last a.rest q.parts
          ∙ ap (λ f. f ++ (q.last ++ a.rest)) empty;
    }

-- a sequence begins with no fault
no_first_fault : (l b : List ℕ) (ms : List Meaning) (d : EndMeaning) → Accepts l b ms d →
    first_fault l ≡ None
no_first_fault l b [] d a =
    let t = last_of l b d a in
    ap first_fault t.parts ∙ begins_end_none (t.x ++ t.s) (begins_end t.x t.s d t.is_end)
no_first_fault l b (m ∷ ms) d a =
    let t = first_of l b ms m d a in
    begins_unit_none l
    (record { bytes = t.x; means = m; rest = t.s; unit = t.is_unit; parts = t.parts })

some_fault : (e : ViewFault) (r : List ℕ) → IsFirstFault r e → first_fault r ≡ None → ⊥
some_fault (Writer x) r is none = is
some_fault Short r is none = absurd cc
some_fault (UnitType t) r is none = absurd cc
some_fault UnitLength r is none = absurd cc
some_fault TooLong r is none = absurd cc
some_fault EmptyProviders r is none = absurd cc
some_fault (UnitVersion v) r is none = absurd cc
some_fault (Prefix rule) r is none = absurd cc
some_fault TooMany r is none = is

pub left_refused : (e : ViewFault) (l r : List ℕ) → IsFirstFault l e → AreDifferent l r
left_refused e l r is a b ms ns d f h j same ends =
    some_fault e l is (no_first_fault l a ms d h)

pub right_refused : (e : ViewFault) (l r : List ℕ) → IsFirstFault r e → AreDifferent l r
right_refused e l r is a b ms ns d f h j same ends =
    some_fault e r is (no_first_fault r b ns f j)

-- what is at the front of both doesn't mean the same
pub differs : (v w : UnitView) (x y left right l r : List ℕ) → IsViewOf v x → IsViewOf w y →
    left ≡ x ++ l → right ≡ y ++ r → viewed v ≢ viewed w → AreDifferent left right
differs v w x y left right l r is is' p q not a b [] [] d e h j same ends =
    let t = last_of left a d h in
    let u = last_of right b e j in
    not (end_viewed v x left l t.x t.s d is p t.is_end t.parts
    ∙ ap end (t.is_end.bytes ∙ ap end_list ends ∙ sym u.is_end.bytes)
    ∙ sym (end_viewed w y right r u.x u.s e is' q u.is_end u.parts))
differs v w x y left right l r is is' p q not a b [] (n ∷ ns) d e h j same ends = absurd cc
differs v w x y left right l r is is' p q not a b (m ∷ ms) [] d e h j same ends = absurd cc
differs v w x y left right l r is is' p q not a b (m ∷ ms) (n ∷ ns) d e h j same ends =
    let t = first_of left a ms m d h in
    let u = first_of right b ns n e j in
    let heads : m ≡ n = cc in
    not ((unit_viewed v x left l t.x t.s m is p t.is_unit t.parts).0 ∙ ap unit heads
    ∙ sym (unit_viewed w y right r u.x u.s n is' q u.is_unit u.parts).0)
