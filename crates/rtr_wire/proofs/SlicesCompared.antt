-- Comparing two inputs in slices, a unit of each after the other.
use Rattle.std.proofs.Common.{◌≡◌, ◌≢◌, ℕ, ◌+◌, ◌-◌, ◌<◌, Bool, true, false, List, [], ◌∷◌, ◌++◌}
use Rattle.std.proofs.Common.{length, Result, Ok, Err, refl, sym, ap, subst, ◌∙◌}
use Rattle.std.proofs.Common.{◌⊎◌, inl, inr}
use Rattle.std.specs.Prelude.{IsOk}
use Rattle.std.proofs.lemmas.Bool.Decides.{same_from_decides}
use Rattle.std.proofs.lemmas.List.{append_cancel_left}
use Rattle.rtr_units.specs.StopCauses.{Cause, by_reader, by_writer, too_many, no_memory, wrong}
use Rattle.rtr_units.specs.StopCauses.{by_cause, cause_of}
use Rattle.rtr_units.specs.StopCauses.{short, unit_type, unit_version, too_long, unit_length}
use Rattle.rtr_units.specs.StopCauses.{empty_providers, refused}
use Rattle.rtr_units.specs.declared.fault.Fault.{Fault}
use Rattle.rtr_payload.specs.FirstFault.{refusal_report}
use Rattle.unit_views.specs.Faults.{IsWriterFault}
use Rattle.unit_views.specs.declared.fault.ViewFault.{ViewFault}
use Rattle.unit_views.specs.declared.fault.ViewFault.TheVariants.{Writer, Short, UnitType}
use Rattle.unit_views.specs.declared.fault.ViewFault.TheVariants.{UnitLength, TooLong}
use Rattle.unit_views.specs.declared.fault.ViewFault.TheVariants.{EmptyProviders, UnitVersion}
use Rattle.unit_views.specs.declared.fault.ViewFault.TheVariants.{Prefix, TooMany}
use Rattle.rtr_wire.specs.Comparison.{IsAccepted, IsFaultOf, SaysWhetherSame}
use Rattle.rtr_wire.specs.Comparison.{IsViewFaultAt, IsViewFaultOf, IsFaultOn}
use Rattle.rtr_wire.specs.Comparison.{Compares, ComparesMeanings, ComparesSlices}
use Rattle.rtr_wire.specs.Comparison.{by_place, by_view_cause}
use Rattle.rtr_wire.specs.PrivateSteps.{AreDifferent, SameFront}
use Rattle.rtr_wire.specs.Run.{HasRun, BlamesNobody}
use Rattle.rtr_wire.specs.Sequences.{IsKept, everything, written_units}
use Rattle.rtr_wire.specs.SliceRun.{view_cause}
use Rattle.rtr_wire.specs.declared.compare_slices.ComparisonFault.{ComparisonFault}
use Rattle.rtr_wire.specs.declared.compare_slices.Side.{Side}
use Rattle.rtr_wire.specs.declared.compare_slices.Side.TheVariants.{Left, Right}
use Rattle.rtr_wire.proofs.Comparing.{no_fault}
use Rattle.rtr_wire.proofs.OneAnswer.{one_has, accepted_run}
use Rattle.rtr_wire.proofs.Promises.{fault_of_run, limit_of_run}
use Rattle.rtr_wire.proofs.Runs.{accepted_same, kept_same}
use Rattle.rtr_wire.proofs.Walking.{Walked, starts, goes_on, at_end, at_limit, accepted_after}
use Rattle.rtr_wire.proofs.Walking.{fault_after}

-- ---- the whole comparison

blames_nobody : (last : List ℕ) (e : ViewFault) → (IsWriterFault e → ⊥) →
    BlamesNobody (Err (view_cause last e))
blames_nobody last (Writer x) not = absurd (not tt)
blames_nobody last Short not = tt
blames_nobody last (UnitType t) not = tt
blames_nobody last UnitLength not = tt
blames_nobody last TooLong not = tt
blames_nobody last EmptyProviders not = tt
blames_nobody last (UnitVersion t) not = tt
blames_nobody last (Prefix t) not = tt
blames_nobody last TooMany not = tt

-- a run over the input has the fault, and it blames nobody
view_fault_run : (limit : ℕ) (input last : List ℕ) (e : ViewFault) →
    IsViewFaultOf limit input last e →
    HasRun everything limit (Err (view_cause last e)) input
    × BlamesNobody (Err (view_cause last e))
view_fault_run limit input last e (offset, h) = (h.some, blames_nobody last e h.not_writer)

no_view_fault : (limit : ℕ) (input last : List ℕ) (e : ViewFault) → IsAccepted limit input →
    IsViewFaultOf limit input last e → ⊥
no_view_fault limit input last e (ms, d, a) h =
    let f = view_fault_run limit input last e h in
    no_such (one_has everything limit (Err (view_cause last e))
    (Ok (length (written_units everything ms))) input f.0
    (accepted_run everything limit input a.b ms d a.accepts a.below) f.1 tt)
  where
    no_such : Err (view_cause last e) ≡ Ok (length (written_units everything ms)) → ⊥
    no_such e = absurd cc

not_on : (limit : ℕ) (left right : List ℕ) (side : Side) (offset : ℕ) (last : List ℕ)
    (e : ViewFault) → IsAccepted limit left → IsAccepted limit right →
    IsFaultOn side limit left right offset last e → ⊥
not_on limit left right Left offset last e l r s = no_view_fault limit left last e l (offset, s)
not_on limit left right Right offset last e l r s = no_view_fault limit right last e r (offset, s.1)

stops : (limit : ℕ) (f : ComparisonFault) (left right last : List ℕ) →
    IsFaultOn f.side limit left right f.offset last f.fault →
    ComparesMeanings limit (Err f) left right
stops limit f left right last s = record {
  answers = tt;
  last = last;
  stops = s;
  succeeds = λ l r. absurd (not_on limit left right f.side f.offset last f.fault l r s);
}

answers : (limit : ℕ) (same : Bool) (left right : List ℕ) → SaysWhetherSame limit same left right →
    ComparesMeanings limit (Ok same) left right
answers limit same left right told =
    record { answers = told; last = []; stops = tt; succeeds = λ l r. refl }

-- ---- both inputs at once

-- what is left of both, where as many units before mean the same
pub record Both (count : ℕ) (left right l r : List ℕ) : Type 0 where
  pub first : Walked count left l
  pub second : Walked count right r
  pub same : first.ms ≡ second.ms

pub both_start : (left right : List ℕ) → Both 0 left right left right
both_start left right = record { first = starts left; second = starts right; same = refl }

pub both_go_on : (count : ℕ) (left right l r l' r' : List ℕ) → Both count left right l r →
    SameFront true l r l' r' → Both (count + 1) left right l' r'
both_go_on count left right l r l' r' both (x, y, m, p, q, u, w) = record {
  first = goes_on count left l x l' m both.first p u;
  second = goes_on count right r y r' m both.second q w;
  same = ap (λ ms. ms ++ m ∷ []) both.same;
}

pub both_end : (limit count : ℕ) (left right l r l' r' : List ℕ) → count < limit →
    Both count left right l r → SameFront false l r l' r' →
    ComparesMeanings limit (Ok true) left right
both_end limit count left right l r l' r' less both (x, y, e, p, q, h, j) =
    answers limit true left right (
      both.first.ms,
      both.second.ms,
      e,
      e,
      at_end limit count left l x l' e less both.first p h,
      at_end limit count right r y r' e less both.second q j,
      (λ yes. (both.same, refl), λ equal. refl),
    )

pub both_differ : (limit count : ℕ) (left right l r : List ℕ) → count < limit →
    Both count left right l r → AreDifferent l r → IsAccepted (limit - count) l →
    IsAccepted (limit - count) r → ComparesMeanings limit (Ok false) left right
both_differ limit count left right l r less both different (ms, d, a) (ns, e, b) =
    let first = both.first in
    let second = both.second in
    answers limit false left right (
      first.ms ++ ms,
      second.ms ++ ns,
      d,
      e,
      accepted_after limit count left l first less ms d a,
      accepted_after limit count right r second less ns e b,
      (
        λ yes. absurd cc,
        λ equal.
            absurd (different a.b b.b ms ns d e a.accepts b.accepts
            (append_cancel_left second.ms ms ns
            (ap (λ t. t ++ ms) (sym both.same) ∙ equal.0)) equal.1),
      ),
    )

pub left_stops : (limit count : ℕ) (left right l : List ℕ) (f : ComparisonFault)
    (offset : ℕ) (last : List ℕ) → count < limit → Walked count left l → f.side ≡ Left →
    f.offset ≡ length left - length l + offset →
    IsViewFaultAt (limit - count) l offset last f.fault → ComparesMeanings limit (Err f) left right
left_stops limit count left right l f offset last less p side at is =
    stops limit f left right last (rw side (
    subst (λ n. IsViewFaultAt limit left n last f.fault) (sym at)
    (fault_after limit count left l p less offset last f.fault is)))

pub right_stops : (limit count : ℕ) (left right l r : List ℕ) (f : ComparisonFault)
    (offset : ℕ) (last : List ℕ) → count < limit → Walked count left l → Walked count right r →
    IsAccepted (limit - count) l → f.side ≡ Right →
    f.offset ≡ length right - length r + offset →
    IsViewFaultAt (limit - count) r offset last f.fault → ComparesMeanings limit (Err f) left right
right_stops limit count left right l r f offset last less p q (ms, d, a) side at is =
    stops limit f left right last (rw side (
      (p.ms ++ ms, d, accepted_after limit count left l p less ms d a),
      subst (λ n. IsViewFaultAt limit right n last f.fault) (sym at)
          (fault_after limit count right r q less offset last f.fault is),
    ))

pub left_too_many : (limit : ℕ) (left right l : List ℕ) → Walked limit left l →
    ComparesMeanings limit
    (Err (record { side = Left; offset = length left - length l; fault = TooMany })) left right
left_too_many limit left right l p =
    stops limit (record { side = Left; offset = length left - length l; fault = TooMany })
    left right
    [] (at_limit limit left l p)

-- ---- the answer without the side

pub fault_told : (limit : ℕ) (f : ComparisonFault) (left right : List ℕ) →
    ComparesMeanings limit (Err f) left right → ComparesSlices limit (Err f.fault) left right
fault_told limit f left right p = record {
  answers = tt;
  last = p.last;
  stops = on f.side p.stops;
  succeeds = λ l r. absurd (no_answer (Err f) refl (p.succeeds l r));
}
  where
    on : (side : Side) → IsFaultOn side limit left right f.offset p.last f.fault →
        IsViewFaultOf limit left p.last f.fault
        ⊎ (IsAccepted limit left × IsViewFaultOf limit right p.last f.fault)
    on Left s = inl (f.offset, s)
    on Right s = inr (s.0, (f.offset, s.1))

    no_answer : (r : Result Bool ComparisonFault) → r ≡ Err f → IsOk r → ⊥
    no_answer (Ok same) e h = absurd cc
    no_answer (Err g) e h = absurd cc

-- ---- both ways

fault_run : (limit : ℕ) (input : List ℕ) (c : Cause) → c ≢ no_memory → IsFaultOf limit input c →
    HasRun everything limit (Err c) input × BlamesNobody (Err c)
fault_run limit input by_reader not h = absurd h
fault_run limit input by_writer not h = absurd h
fault_run limit input no_memory not h = absurd (not refl)
fault_run limit input too_many not h = (h, tt)
fault_run limit input (wrong f) not h = (h, tt)

one_fault : (limit : ℕ) (input last : List ℕ) (c : Cause) (e : ViewFault) → c ≢ no_memory →
    IsFaultOf limit input c → IsViewFaultOf limit input last e → c ≡ view_cause last e
one_fault limit input last c e not h j =
    let f = fault_run limit input c not h in
    let g = view_fault_run limit input last e j in
    let one = one_has everything limit (Err c) (Err (view_cause last e)) input f.0 g.0 f.1 g.1 in
    cc

accepts_left : (limit : ℕ) (same : Bool) (left right : List ℕ) →
    SaysWhetherSame limit same left right →
    IsAccepted limit left × IsAccepted limit right
accepts_left limit same left right (ms, ns, d, e, a, b, h) = ((ms, d, a), (ns, e, b))

one_told : (limit : ℕ) (x y : Bool) (left right : List ℕ) → SaysWhetherSame limit x left right →
    SaysWhetherSame limit y left right → x ≡ y
one_told limit x y left right (ms, ns, d, e, a, b, h) (ms', ns', d', e', a', b', j) =
    let l = accepted_same left a.b a'.b ms ms' d d' a.accepts a'.accepts in
    let r = accepted_same right b.b b'.b ns ns' e e' b.accepts b'.accepts in
    same_from_decides {P = (ms ≡ ns) × (d ≡ e)} x y (h.0, h.1) (
      λ yes. let t = j.0 yes in (l.1 ∙ t.0 ∙ sym r.1, l.2 ∙ t.1 ∙ sym r.2),
      λ equal. j.1 (sym l.1 ∙ equal.0 ∙ r.1, sym l.2 ∙ equal.1 ∙ r.2),
    )

pub same_comparison : (limit : ℕ) (r : Result Bool Fault) (s : Result Bool ViewFault)
    (left right : List ℕ) → Compares limit r left right → (q : ComparesSlices limit s left right) →
    by_cause r ≢ Err no_memory → by_cause r ≡ by_view_cause q.last s
same_comparison limit (Ok x) (Ok y) left right p q not =
    ap Ok (one_told limit x y left right p.answers q.answers)
same_comparison limit (Ok x) (Err e) left right p q not =
    let a = accepts_left limit x left right p.answers in
    absurd (elim q.stops [
      | inl fault ↦ no_view_fault limit left q.last e a.0 fault
      | inr fault ↦ no_view_fault limit right q.last e a.1 fault.1
    ])
same_comparison limit (Err f) (Ok y) left right p q not =
    let a = accepts_left limit y left right q.answers in
    let other : cause_of f ≢ no_memory = λ e. not (ap Err e) in
    absurd (elim p.stops [
      | inl fault ↦ no_fault limit left (cause_of f) other a.0 fault
      | inr fault ↦ no_fault limit right (cause_of f) other a.1 fault.1
    ])
same_comparison limit (Err f) (Err e) left right p q not =
    let other : cause_of f ≢ no_memory = λ e. not (ap Err e) in
    elim p.stops [
      | inl fault ↦ elim q.stops [
        | inl same ↦ ap Err (one_fault limit left q.last (cause_of f) e other fault same)
        | inr same ↦ absurd (no_fault limit left (cause_of f) other same.0 fault)
      ]
      | inr fault ↦ elim q.stops [
        | inl same ↦ absurd (no_view_fault limit left q.last e fault.0 same)
        | inr same ↦ ap Err (one_fault limit right q.last (cause_of f) e other fault.1 same.1)
      ]
    ]

-- ---- one answer

-- the units before a fault are the longest front of units
kept : (limit offset : ℕ) (input last : List ℕ) (e : ViewFault) →
    (h : IsViewFaultAt limit input offset last e) →
    (rest : List ℕ) × IsKept input limit h.some.run.units h.some.run.meanings rest
kept limit offset input last (Writer x) h = absurd (h.not_writer tt)
kept limit offset input last Short h =
    (_, (fault_of_run everything limit short input h.some).kept)
kept limit offset input last (UnitType t) h =
    (_, (fault_of_run everything limit (unit_type t) input h.some).kept)
kept limit offset input last UnitLength h =
    (_, (fault_of_run everything limit unit_length input h.some).kept)
kept limit offset input last TooLong h =
    (_, (fault_of_run everything limit too_long input h.some).kept)
kept limit offset input last EmptyProviders h =
    (_, (fault_of_run everything limit empty_providers input h.some).kept)
kept limit offset input last (UnitVersion v) h =
    (_, (fault_of_run everything limit (unit_version v) input h.some).kept)
kept limit offset input last (Prefix rule) h =
    (_, (fault_of_run everything limit (refused (refusal_report last rule)) input h.some).kept)
kept limit offset input last TooMany h =
    (_, (limit_of_run everything limit input h.some).kept)

one_place : (limit : ℕ) (input last last' : List ℕ) (n m : ℕ) (e f : ViewFault) →
    IsViewFaultAt limit input n last e → IsViewFaultAt limit input m last' f →
    (n ≡ m) × (view_cause last e ≡ view_cause last' f)
one_place limit input last last' n m e f h j =
    let (rest, k) = kept limit n input last e h in
    let (rest', l) = kept limit m input last' f j in
    let front = kept_same input limit h.some.run.units j.some.run.units rest rest'
    h.some.run.meanings j.some.run.meanings k l in
    let one : Err (view_cause last e) ≡ Err (view_cause last' f) =
    one_has everything limit (Err (view_cause last e)) (Err (view_cause last' f)) input h.some
    j.some (blames_nobody last e h.not_writer) (blames_nobody last' f j.not_writer) in
    (h.offset_is ∙ ap length front.0 ∙ sym j.offset_is, cc)

one_fault_on : (limit : ℕ) (left right : List ℕ) (x y : Side) (n m : ℕ) (last last' : List ℕ)
    (e f : ViewFault) → IsFaultOn x limit left right n last e →
    IsFaultOn y limit left right m last' f →
    (x ≡ y) × (n ≡ m) × (view_cause last e ≡ view_cause last' f)
one_fault_on limit left right Left Left n m last last' e f h j =
    let t = one_place limit left last last' n m e f h j in
    (refl, t.0, t.1)
one_fault_on limit left right Left Right n m last last' e f h j =
    absurd (no_view_fault limit left last e j.0 (n, h))
one_fault_on limit left right Right Left n m last last' e f h j =
    absurd (no_view_fault limit left last' f h.0 (m, j))
one_fault_on limit left right Right Right n m last last' e f h j =
    let t = one_place limit right last last' n m e f h.1 j.1 in
    (refl, t.0, t.1)

pub one_comparison : (limit : ℕ) (r s : Result Bool ComparisonFault) (left right : List ℕ)
    (p : ComparesMeanings limit r left right) (q : ComparesMeanings limit s left right) →
    by_place p.last r ≡ by_place q.last s
one_comparison limit (Ok x) (Ok y) left right p q =
    ap Ok (one_told limit x y left right p.answers q.answers)
one_comparison limit (Ok x) (Err f) left right p q =
    let a = accepts_left limit x left right p.answers in
    absurd (not_on limit left right f.side f.offset q.last f.fault a.0 a.1 q.stops)
one_comparison limit (Err f) (Ok y) left right p q =
    let a = accepts_left limit y left right q.answers in
    absurd (not_on limit left right f.side f.offset p.last f.fault a.0 a.1 p.stops)
one_comparison limit (Err f) (Err g) left right p q =
    let t = one_fault_on limit left right f.side g.side f.offset g.offset p.last q.last f.fault
    g.fault p.stops q.stops in
    λ i. Err (t.0 i, t.1 i, t.2 i)
