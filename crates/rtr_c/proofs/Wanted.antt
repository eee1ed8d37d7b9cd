-- How many bytes are wanted where an input is too short.
use Rattle.std.proofs.Common.{◌≡◌, inl, inr, ℕ, ◌<◌, ◌≤◌, Bool, true, false, cond, ltb, List}
use Rattle.std.proofs.Common.{◌++◌, length, drop, Option, Some, None, Result, Ok, Err}
use Rattle.std.proofs.Common.{refl, sym, ap, subst, ◌∙◌, arith, append-nil}
use Rattle.std.proofs.lemmas.Bool.Decides.{nat_tests}
use Rattle.std.proofs.lemmas.List.{drop_at}
use Rattle.std.specs.Option.{option_or}
use Rattle.std.specs.Prelude.{option_map}
use Rattle.rtr_units.specs.Header.{version_field, type_field, length_field}
use Rattle.rtr_units.specs.StopCauses.{Refusal, short, too_long, unit_length, refused}
use Rattle.rtr_units.specs.Reading.{exact_length, least_length}
use Rattle.rtr_payload.specs.FirstFault.{first_fault, header_fault}
use Rattle.rtr_payload.specs.declared.pdu.prefix_rule.PrefixRule.{PrefixRule}
use Rattle.rtr_payload.proofs.Reading.{never_short}
use Rattle.unit_views.specs.declared.fault.ViewFault.{ViewFault}
use Rattle.unit_views.specs.declared.fault.ViewFault.TheVariants as faults
use Rattle.unit_any.specs.AnyFields.{AnyFields}
use Rattle.unit_any.specs.SessionKinds.{any_header_fault}
use Rattle.unit_any.specs.SessionViews.{session_fault}
use Rattle.unit_any.proofs.Lengths.{bounded}
use Rattle.rtr_wire.specs.Comparison.{IsViewFaultAt, IsFaultOn, ComparesMeanings}
use Rattle.rtr_wire.specs.Into.{NormalisesInto}
use Rattle.rtr_wire.specs.Sequences.{Output}
use Rattle.rtr_wire.specs.declared.compare_slices.ComparisonFault.{ComparisonFault}
use Rattle.rtr_wire.specs.declared.compare_slices.Side.{Side}
use Rattle.rtr_wire.specs.declared.compare_slices.Side.TheVariants.{Left, Right}
use Rattle.rtr_wire.specs.declared.into.IntoFault.{IntoFault}
use Rattle.rtr_wire.specs.declared.into.IntoFault.TheVariants.{NoRoom, TooMany, Refused}
use Rattle.rtr_wire.specs.declared.into.Progress.{Progress}
use Rattle.rtr_c.specs.Answers.{IsWanted, wanted, fault_status, Tells, CallNormalises}
use Rattle.rtr_c.specs.Compared.{WantsMore, fault_wanted, refusal_told, comparison_told}
use Rattle.rtr_c.specs.Compared.{TellsComparison}
use Rattle.rtr_c.specs.declared.answer.RtrAnswer.{RtrAnswer}
use Rattle.rtr_c.specs.declared.compare.RtrComparison.{RtrComparison}
use Rattle.rtr_c.specs.ShownUnits.{ShowsFirst}
use Rattle.rtr_c.specs.declared.unit.RtrUnit.{RtrUnit}

-- ---- no other fault of a unit is that it is too short

abbrev Never : Option Refusal → Type 0
Never x = x ≡ Some short → ⊥

neither : (b : Bool) (x y : Option Refusal) → Never x → Never y → Never (cond b x y)
neither true x y h k = h
neither false x y h k = k

none_never : Never None
none_never e = absurd cc

length_never : Never (Some unit_length)
length_never e = absurd cc

long_never : Never (Some too_long)
long_never e = absurd cc

exact_never : (m n : ℕ) → Never (exact_length m n)
exact_never m n = neither _ _ _ none_never length_never

least_never : (m n : ℕ) → Never (least_length m n)
least_never m n = neither _ _ _ long_never (neither _ _ _ length_never none_never)

any_never_short : (v t g n : ℕ) → Never (any_header_fault v t g n)
unfolding any_header_fault
any_never_short v t g n =
    neither _ _ _ (exact_never 12 n)
    (neither _ _ _ (exact_never 8 n) (neither _ _ _ (least_never 16 n) (never_short v t g n)))

payload_bounded : (v t g n : ℕ) → header_fault v t g n ≡ None → (8 ≤ n) × (n ≤ 65535)
unfolding header_fault
payload_bounded v t g n e = (grind (arith, nat_tests), grind (arith, nat_tests))

broken_else : (x : Option PrefixRule) (report : PrefixRule → List ℕ) →
    option_map (λ rule. refused (report rule)) x ≡ Some short → ⊥
broken_else None report e = absurd cc
broken_else (Some rule) report e = absurd cc

-- ---- k bytes of a unit of n bytes are there, and these are its faults

module _ (k n : ℕ) (prefix : Option Refusal) (never : prefix ≡ Some short → ⊥) where
  abbrev rest_fault : Bool → Option Refusal
  rest_fault b = cond b (Some short) prefix

  cut_off : (b : Bool) → ltb k n ≡ b → rest_fault b ≡ Some short → k < n
  cut_off true is e = grind (arith, nat_tests)
  cut_off false is e = absurd (never e)

  past_header : (header : Option Refusal) → (header ≡ Some short → ⊥) →
      (header ≡ None → (8 ≤ n) × (n ≤ 65535)) →
      option_or header (rest_fault (ltb k n)) ≡ Some short → (k < n) × ((8 ≤ n) × (n ≤ 65535))
  past_header None not bounds e = (cut_off (ltb k n) refl e, bounds refl)
  past_header (Some f) not bounds e = absurd (not e)

  abbrev Wants : Bool → Type 0
  Wants b = (k < cond b 8 n)
      × ((k < 8 → cond b 8 n ≡ 8) × ((8 ≤ cond b 8 n) × (cond b 8 n ≤ 65535)))

  pub wants : (header : Option Refusal) → (header ≡ Some short → ⊥) →
      (header ≡ None → (8 ≤ n) × (n ≤ 65535)) → (b : Bool) → ltb k 8 ≡ b →
      cond b (Some short) (option_or header (rest_fault (ltb k n))) ≡ Some short → Wants b
  wants header not bounds true is e =
      (grind (arith, nat_tests), ((λ less. refl), (omega arith, omega arith)))
  wants header not bounds false is e =
      let (more, (least, most)) = past_header header not bounds e in
      (more, ((λ less. grind (arith, nat_tests)), (least, most)))

pub session_wants : (b : List ℕ) → session_fault b ≡ Some short → IsWanted b (wanted b)
session_wants b e =
    let v = version_field b in
    let t = type_field b in
    let n = length_field b in
    let (more, (header, (least, most))) = wants (length b) n _ (broken_else _ _)
    _ (any_never_short v t _ n)
    (λ none. (let s = bounded v t _ n none in (s.least, s.most))) (ltb (length b) 8) refl e in
    record { more = more; header = header; least = least; most = most }

pub sequence_wants : (b : List ℕ) → first_fault b ≡ Some short → IsWanted b (wanted b)
sequence_wants b e =
    let v = version_field b in
    let t = type_field b in
    let n = length_field b in
    let (more, (header, (least, most))) = wants (length b) n _ (broken_else _ _)
    _ (never_short v t _ n) (payload_bounded v t _ n) (ltb (length b) 8) refl e in
    record { more = more; header = header; least = least; most = most }

-- ---- the calls

pub next_wants : (r : Result (List ℕ × AnyFields) ViewFault) (input : List ℕ) (u : RtrUnit)
    (code : ℕ) → ShowsFirst r input u code → code ≡ 1 → IsWanted input u.wanted
next_wants (Ok (b, f)) input u code (rest, parts, has, order, shows, zero) one =
    absurd (omega (arith, zero, one))
next_wants (Err faults.Short) input u code (size, is, shown, said) one =
    subst (IsWanted input) (sym (ap (λ (u : RtrUnit). u.wanted) shown))
    (session_wants input is.0)
next_wants (Err (faults.Writer e)) input u code (size, is, shown, said) one = absurd is.0
next_wants (Err (faults.UnitType t)) input u code (size, is, shown, said) one =
    absurd (omega (arith, said, one))
next_wants (Err faults.UnitLength) input u code (size, is, shown, said) one =
    absurd (omega (arith, said, one))
next_wants (Err faults.TooLong) input u code (size, is, shown, said) one =
    absurd (omega (arith, said, one))
next_wants (Err faults.EmptyProviders) input u code (size, is, shown, said) one =
    absurd (omega (arith, said, one))
next_wants (Err (faults.UnitVersion v)) input u code (size, is, shown, said) one =
    absurd (omega (arith, said, one))
next_wants (Err (faults.Prefix rule)) input u code (size, is, shown, said) one =
    absurd (omega (arith, said, one))
next_wants (Err faults.TooMany) input u code (size, is, shown, said) one = absurd is.0

module _ (what : Output) (limit : ℕ) (input before after : List ℕ) (p : Progress) (a : RtrAnswer)
    (code : ℕ) where
  cut_at_end : NormalisesInto what limit (Err (Refused faults.Short)) input before after p →
      Tells input p (Err (Refused faults.Short)) a code → IsWanted (drop a.taken input) a.wanted
  cut_at_end f t =
      let (partial, none, wrote) = f.run.ends in
      let parts : input ≡ f.run.units ++ f.run.last =
      f.parts ∙ (λ i. f.run.taken_parts i ++ none i) ∙ append-nil (f.run.units ++ f.run.last) in
      let left : drop p.taken input ≡ f.run.last =
      ap (drop p.taken) parts ∙ drop_at f.run.units f.run.last p.taken (sym f.taken) in
      let last = subst (λ l. IsWanted l (wanted l)) (sym left)
      (sequence_wants f.run.last partial) in
      subst (λ (n : ℕ). IsWanted (drop n input) a.wanted) (sym t.taken)
      (subst (IsWanted (drop p.taken input)) (sym t.wanted) last)

  run_wants : (r : Result Unit IntoFault) → NormalisesInto what limit r input before after p →
      Tells input p r a code → code ≡ 1 → IsWanted (drop a.taken input) a.wanted
  run_wants (Ok done) f t one = absurd (omega (arith, t.answered, one))
  run_wants (Err NoRoom) f t one = absurd (omega (arith, t.answered, one))
  run_wants (Err TooMany) f t one = absurd (omega (arith, t.answered, one))
  run_wants (Err (Refused faults.Short)) f t one = cut_at_end f t
  run_wants (Err (Refused (faults.Writer e))) f t one = absurd (omega (arith, t.answered, one))
  run_wants (Err (Refused (faults.UnitType v))) f t one =
      absurd (omega (arith, t.answered, one))
  run_wants (Err (Refused faults.UnitLength)) f t one = absurd (omega (arith, t.answered, one))
  run_wants (Err (Refused faults.TooLong)) f t one = absurd (omega (arith, t.answered, one))
  run_wants (Err (Refused faults.EmptyProviders)) f t one =
      absurd (omega (arith, t.answered, one))
  run_wants (Err (Refused (faults.UnitVersion v))) f t one =
      absurd (omega (arith, t.answered, one))
  run_wants (Err (Refused (faults.Prefix rule))) f t one =
      absurd (omega (arith, t.answered, one))
  run_wants (Err (Refused faults.TooMany)) f t one = absurd (omega (arith, t.answered, one))

pub call_wants : (what : Output) (limit : ℕ) (input before after : List ℕ) (a : RtrAnswer)
    (code : ℕ) → CallNormalises what limit input before after a code → code ≡ 1 →
    IsWanted (drop a.taken input) a.wanted
call_wants what limit input before after a code (p, r, f, t) one =
    run_wants what limit input before after p a code r f t one

module _ (limit : ℕ) (input : List ℕ) (o : ℕ) (last : List ℕ) where
  fault_wants : (e : ViewFault) → IsViewFaultAt limit input o last e → fault_status e ≡ 1 →
      IsWanted (drop o input) (fault_wanted e (drop o input))
  fault_wants faults.Short is one =
      let run = is.some.run in
      let (partial, none, wrote) = run.ends in
      let parts : input ≡ run.units ++ run.last =
      is.some.parts ∙ (λ i. run.taken_parts i ++ none i) ∙ append-nil (run.units ++ run.last) in
      let left : drop o input ≡ run.last =
      ap (drop o) parts ∙ drop_at run.units run.last o (sym is.offset_is) in
      subst (λ l. IsWanted l (wanted l)) (sym left) (sequence_wants run.last partial)
  fault_wants (faults.Writer e) is one = absurd (omega (arith, one))
  fault_wants (faults.UnitType v) is one = absurd (omega (arith, one))
  fault_wants faults.UnitLength is one = absurd (omega (arith, one))
  fault_wants faults.TooLong is one = absurd (omega (arith, one))
  fault_wants faults.EmptyProviders is one = absurd (omega (arith, one))
  fault_wants (faults.UnitVersion v) is one = absurd (omega (arith, one))
  fault_wants (faults.Prefix rule) is one = absurd (omega (arith, one))
  fault_wants faults.TooMany is one = absurd (omega (arith, one))

module _ (limit : ℕ) (left right : List ℕ) where
  side_wants : (side : Side) (o : ℕ) (last : List ℕ) (e : ViewFault) →
      IsFaultOn side limit left right o last e → (refusal_told side o e left right).status ≡ 1 →
      WantsMore left right (refusal_told side o e left right)
  side_wants Left o last e is one = inl (refl, fault_wants limit left o last e is one)
  side_wants Right o last e (accepted, is) one =
      inr (refl, fault_wants limit right o last e is one)

pub comparison_wants : (limit : ℕ) (r : Result Bool ComparisonFault) (left right : List ℕ)
    (c : RtrComparison) (code : ℕ) → ComparesMeanings limit r left right →
    TellsComparison (comparison_told r left right) c code → code ≡ 1 → WantsMore left right c
comparison_wants limit (Ok same) left right c code compares tells one =
    absurd (omega (arith, tells.1, one))
comparison_wants limit (Err f) left right c code compares tells one =
    subst (WantsMore left right) (sym tells.0)
    (side_wants limit left right f.side f.offset compares.last f.fault compares.stops
    (sym tells.1 ∙ one))
