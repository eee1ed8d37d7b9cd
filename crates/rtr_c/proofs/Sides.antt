-- Which of two inputs that are compared is refused, and where: a call that normalises it stops
-- there, and tells the same.
use Rattle.std.proofs.Common.{◌≡◌, ◌≢◌, ◌⊎◌, inl, inr, ℕ, ◌+◌, Bool, false, List, ◌++◌, length}
use Rattle.std.proofs.Common.{drop}
use Rattle.std.proofs.Common.{Result, Ok, Err, refl, sym, ap, subst, ◌∙◌, arith, length-append}
use Rattle.std.proofs.lemmas.Bool.{cases_order}
use Rattle.rtr_base.specs.Bytes.{be}
use Rattle.rtr_units.specs.Header.{version_field}
use Rattle.rtr_units.specs.Report.{report}
use Rattle.rtr_units.specs.StopCauses.{Refusal, short, unit_type, unit_version, too_long}
use Rattle.rtr_units.specs.StopCauses.{unit_length, empty_providers, refused, Cause, by_reader}
use Rattle.rtr_units.specs.StopCauses.{by_writer, too_many, no_memory, wrong}
use Rattle.rtr_payload.specs.FirstFault.{refusal_report, taken, text_of}
use Rattle.rtr_payload.specs.declared.pdu.prefix_rule.PrefixRule.{PrefixRule}
use Rattle.rtr_payload.specs.declared.pdu.prefix_rule.PrefixRule.TheVariants.{LenOverflow}
use Rattle.rtr_payload.specs.declared.pdu.prefix_rule.PrefixRule.TheVariants.{MaxOverflow}
use Rattle.rtr_payload.specs.declared.pdu.prefix_rule.PrefixRule.TheVariants.{MaxUnderflow}
use Rattle.unit_views.specs.Faults.{IsWriterFault}
use Rattle.unit_views.specs.declared.fault.ViewFault.{ViewFault}
use Rattle.unit_views.specs.declared.fault.ViewFault.TheVariants as faults
use Rattle.rtr_wire.specs.Comparison.{IsAccepted, IsViewFaultAt, IsFaultOn, ComparesMeanings}
use Rattle.rtr_wire.specs.Into.{NormalisesInto, into_answer}
use Rattle.rtr_wire.specs.Run.{Run, HasRun, BlamesNobody}
use Rattle.rtr_wire.specs.Sequences.{everything, written_units}
use Rattle.rtr_wire.specs.SliceRun.{view_cause}
use Rattle.rtr_wire.specs.declared.compare_slices.ComparisonFault.{ComparisonFault}
use Rattle.rtr_wire.specs.declared.compare_slices.Side.{Side}
use Rattle.rtr_wire.specs.declared.compare_slices.Side.TheVariants.{Left, Right}
use Rattle.rtr_wire.specs.declared.into.IntoFault.{IntoFault}
use Rattle.rtr_wire.specs.declared.into.IntoFault.TheVariants.{NoRoom, TooMany, Refused}
use Rattle.rtr_wire.specs.declared.into.Progress.{Progress}
use Rattle.rtr_wire.proofs.OneAnswer.{one_has, accepted_run, refused_at, no_unit}
use Rattle.rtr_wire.proofs.Runs.{after, same_run, goes_on}
use Rattle.rtr_c.specs.Answers.{rtr_ok, rtr_short, rtr_unit_type, rtr_unit_version, rtr_too_long}
use Rattle.rtr_c.specs.Answers.{rtr_unit_length, rtr_empty_providers, rtr_prefix, rtr_too_many}
use Rattle.rtr_c.specs.Answers.{rtr_failed, rtr_no_room, rule_number, fault_status, fault_detail}
use Rattle.rtr_c.specs.Answers.{wanted, run_wanted, Tells, CallNormalises}
use Rattle.rtr_c.specs.Compared.{rtr_left, rtr_right, fault_wanted, unit_refused, refusal_told}
use Rattle.rtr_c.specs.Compared.{comparison_told, TellsComparison, stop_compared}
use Rattle.rtr_c.specs.declared.answer.RtrAnswer.{RtrAnswer}
use Rattle.rtr_c.specs.declared.compare.RtrComparison.{RtrComparison}

-- ---- what is told of a cause

abbrev refusal_status : Refusal → ℕ
refusal_status short = rtr_short
refusal_status (unit_type t) = rtr_unit_type
refusal_status (unit_version v) = rtr_unit_version
refusal_status too_long = rtr_too_long
refusal_status unit_length = rtr_unit_length
refusal_status empty_providers = rtr_empty_providers
refusal_status (refused report) = rtr_prefix

abbrev cause_status : Cause → ℕ
cause_status by_reader = rtr_failed
cause_status by_writer = rtr_failed
cause_status too_many = rtr_too_many
cause_status no_memory = rtr_failed
cause_status (wrong f) = refusal_status f

view_status : (u : List ℕ) (e : ViewFault) → fault_status e ≡ cause_status (view_cause u e)
view_status u (faults.Writer e) = refl
view_status u faults.Short = refl
view_status u (faults.UnitType t) = refl
view_status u faults.UnitLength = refl
view_status u faults.TooLong = refl
view_status u faults.EmptyProviders = refl
view_status u (faults.UnitVersion v) = refl
view_status u (faults.Prefix rule) = refl
view_status u faults.TooMany = refl

abbrev cause_wanted : Cause → List ℕ → ℕ
cause_wanted (wrong short) rest = wanted rest
cause_wanted c rest = 0

view_wanted : (u rest : List ℕ) (e : ViewFault) →
    fault_wanted e rest ≡ cause_wanted (view_cause u e) rest
view_wanted u rest (faults.Writer e) = refl
view_wanted u rest faults.Short = refl
view_wanted u rest (faults.UnitType t) = refl
view_wanted u rest faults.UnitLength = refl
view_wanted u rest faults.TooLong = refl
view_wanted u rest faults.EmptyProviders = refl
view_wanted u rest (faults.UnitVersion v) = refl
view_wanted u rest (faults.Prefix rule) = refl
view_wanted u rest faults.TooMany = refl

nobody_of : (u : List ℕ) (e : ViewFault) → (IsWriterFault e → ⊥) →
    BlamesNobody (Err (view_cause u e))
nobody_of u (faults.Writer e) not = absurd (not tt)
nobody_of u faults.Short not = tt
nobody_of u (faults.UnitType t) not = tt
nobody_of u faults.UnitLength not = tt
nobody_of u faults.TooLong not = tt
nobody_of u faults.EmptyProviders not = tt
nobody_of u (faults.UnitVersion v) not = tt
nobody_of u (faults.Prefix rule) not = tt
nobody_of u faults.TooMany not = tt

-- ---- the detail of a cause, of which u are the last bytes

report_length : (u t : List ℕ) (v : ℕ) → length (report v 0 u t) ≡ 16 + length u + length t
report_length u t v =
    omega (arith, length-append (u ++ be (length t) 4) t, length-append u (be (length t) 4))

-- the texts have different lengths
one_rule : (r s : PrefixRule) → length (text_of r) ≡ length (text_of s) → r ≡ s
one_rule LenOverflow LenOverflow e = refl
one_rule LenOverflow MaxOverflow e = absurd (omega (arith, e))
one_rule LenOverflow MaxUnderflow e = absurd (omega (arith, e))
one_rule MaxOverflow LenOverflow e = absurd (omega (arith, e))
one_rule MaxOverflow MaxOverflow e = refl
one_rule MaxOverflow MaxUnderflow e = absurd (omega (arith, e))
one_rule MaxUnderflow LenOverflow e = absurd (omega (arith, e))
one_rule MaxUnderflow MaxOverflow e = absurd (omega (arith, e))
one_rule MaxUnderflow MaxUnderflow e = refl

abbrev Details : List ℕ → Cause → ℕ → Type 0
Details u (wrong (unit_type t)) d = d ≡ t
Details u (wrong (unit_version v)) d = d ≡ v
Details u (wrong (refused report)) d =
    (rule : PrefixRule) × (report ≡ refusal_report u rule) × (d ≡ rule_number rule)
Details u c d = d ≡ 0

view_details : (u : List ℕ) (e : ViewFault) → Details u (view_cause u e) (fault_detail e)
view_details u (faults.Writer e) = refl
view_details u faults.Short = refl
view_details u (faults.UnitType t) = refl
view_details u faults.UnitLength = refl
view_details u faults.TooLong = refl
view_details u faults.EmptyProviders = refl
view_details u (faults.UnitVersion v) = refl
view_details u (faults.Prefix rule) = (rule, refl, refl)
view_details u faults.TooMany = refl

one_detail : (u : List ℕ) (c : Cause) (d n : ℕ) → Details u c d → Details u c n → d ≡ n
one_detail u by_reader d n p q = p ∙ sym q
one_detail u by_writer d n p q = p ∙ sym q
one_detail u too_many d n p q = p ∙ sym q
one_detail u no_memory d n p q = p ∙ sym q
one_detail u (wrong short) d n p q = p ∙ sym q
one_detail u (wrong (unit_type t)) d n p q = p ∙ sym q
one_detail u (wrong (unit_version v)) d n p q = p ∙ sym q
one_detail u (wrong too_long) d n p q = p ∙ sym q
one_detail u (wrong unit_length) d n p q = p ∙ sym q
one_detail u (wrong empty_providers) d n p q = p ∙ sym q
one_detail u (wrong (refused r)) d n (a, p, x) (b, q, y) =
    let texts : length (text_of a) ≡ length (text_of b) = omega (
      arith,
      ap length (sym p ∙ q),
      report_length u (text_of a) (version_field u),
      report_length u (text_of b) (version_field u),
    ) in
    x ∙ ap rule_number (one_rule a b texts) ∙ sym y

-- ---- two runs that end at one cause

module _ (took left units last took' left' units' last' : List ℕ) where
  same_parts : took ≡ units ++ last → took' ≡ units' ++ last' → took ++ left ≡ took' ++ left' →
      units ++ (last ++ left) ≡ units' ++ (last' ++ left')
  same_parts p q eq =
      sym (after took units last left p) ∙ eq ∙ after took' units' last' left' q

-- they took the same units before it, and the same last bytes
same_units : (limit : ℕ) (c : Cause) (took left wrote took' left' wrote' : List ℕ)
    (p : Run everything limit (Err c) took left wrote)
    (q : Run everything limit (Err c) took' left' wrote') → BlamesNobody (Err c) →
    took ++ left ≡ took' ++ left' → (p.units ≡ q.units) × (p.last ≡ q.last)
same_units limit by_reader took left wrote took' left' wrote' p q well eq = absurd well
same_units limit by_writer took left wrote took' left' wrote' p q well eq = absurd well
same_units limit no_memory took left wrote took' left' wrote' p q well eq = absurd well
same_units limit too_many took left wrote took' left' wrote' p q well eq =
    let t = same_run p.units (p.last ++ left) q.units (q.last ++ left') p.meanings q.meanings
    p.are_units q.are_units
    (same_parts took left p.units p.last took' left' q.units q.last p.taken_parts q.taken_parts eq)
    (p.counts ∙ sym q.counts) in
    (t.0, p.ends.0 ∙ sym q.ends.0)
same_units limit (wrong f) took left wrote took' left' wrote' p q well eq =
    let v = refused_at everything f p.last left p.last_written p.ends in
    let w = refused_at everything f q.last left' q.last_written q.ends in
    let parts = same_parts took left p.units p.last took' left' q.units q.last p.taken_parts
    q.taken_parts eq in
    elim (cases_order (length p.meanings) (length q.meanings)) [
      | inl same ↦
          let t = same_run p.units (p.last ++ left) q.units (q.last ++ left') p.meanings q.meanings
          p.are_units q.are_units parts same in
          (t.0, sym v.1 ∙ ap (taken f) t.2 ∙ w.1)
      | inr (inl fewer) ↦
          absurd (no_unit (p.last ++ left) f v.0
          (goes_on p.units (p.last ++ left) q.units (q.last ++ left') p.meanings q.meanings
          p.are_units q.are_units parts fewer))
      | inr (inr more) ↦
          absurd (no_unit (q.last ++ left') f w.0
          (goes_on q.units (q.last ++ left') p.units (p.last ++ left) q.meanings p.meanings
          q.are_units p.are_units (sym parts) more))
    ]

-- ---- how a call ended that had room

-- it stopped for this cause
record Stops (limit : ℕ) (input : List ℕ) (a : RtrAnswer) (code : ℕ) (c : Cause) : Type 0 where
  run : HasRun everything limit (Err c) input
  nobody : BlamesNobody (Err c)
  status : code ≡ cause_status c
  answered : a.status ≡ code
  taken : a.taken ≡ length run.run.units
  wanted : a.wanted ≡ cause_wanted c (drop a.taken input)
  detail : Details run.run.last c a.detail

abbrev Ended : ℕ → List ℕ → RtrAnswer → ℕ → Type 0
Ended limit input a code =
    ((n : ℕ) × HasRun everything limit (Ok n) input × (code ≡ rtr_ok))
    ⊎ ((c : Cause) × Stops limit input a code c)

told_wanted : (rest : List ℕ) (e : ViewFault) →
    run_wanted (Err (Refused e)) rest ≡ fault_wanted e rest
told_wanted rest (faults.Writer e) = refl
told_wanted rest faults.Short = refl
told_wanted rest (faults.UnitType t) = refl
told_wanted rest faults.UnitLength = refl
told_wanted rest faults.TooLong = refl
told_wanted rest faults.EmptyProviders = refl
told_wanted rest (faults.UnitVersion v) = refl
told_wanted rest (faults.Prefix rule) = refl
told_wanted rest faults.TooMany = refl

module _ (limit : ℕ) (input before after : List ℕ) (p : Progress) (a : RtrAnswer) (code : ℕ) where
  abbrev has : (r : Result Unit IntoFault)
      (f : NormalisesInto everything limit r input before after p) →
      HasRun everything limit (into_answer p.forms f.last r) input
  has r f = record {
    taken = f.viewed;
    left = f.left;
    written = f.form;
    parts = f.parts;
    run = f.run;
  }

  ended_by : (r : Result Unit IntoFault) → NormalisesInto everything limit r input before after p →
      Tells input p r a code → code ≢ rtr_no_room → Ended limit input a code
  ended_by (Ok done) f t room = inl (p.forms, has (Ok done) f, t.answered)
  ended_by (Err NoRoom) f t room = absurd (room t.answered)
  ended_by (Err TooMany) f t room = inr (
    too_many,
    record {
      run = has (Err TooMany) f;
      nobody = tt;
      status = t.answered;
      answered = t.status ∙ sym t.answered;
      taken = t.taken ∙ f.taken;
      wanted = t.wanted;
      detail = t.detail;
    },
  )
  ended_by (Err (Refused e)) f t room = inr (
    view_cause f.last e,
    record {
      run = has (Err (Refused e)) f;
      nobody = subst (λ c. BlamesNobody (Err c)) (sym f.stops.1) tt;
      status = t.answered ∙ view_status f.last e;
      answered = t.status ∙ sym t.answered;
      taken = t.taken ∙ f.taken;
      wanted = t.wanted ∙ ap (λ n. run_wanted (Err (Refused e)) (drop n input)) (sym t.taken)
          ∙ told_wanted (drop a.taken input) e ∙ view_wanted f.last (drop a.taken input) e;
      detail = subst (λ d. Details f.run.last (view_cause f.last e) d) (sym t.detail)
          (subst (λ u. Details u (view_cause f.last e) (fault_detail e)) f.last_is
          (view_details f.last e));
    },
  )

ended : (limit : ℕ) (input before after : List ℕ) (a : RtrAnswer) (code : ℕ) →
    CallNormalises everything limit input before after a code → code ≢ rtr_no_room →
    Ended limit input a code
ended limit input before after a code (p, r, f, t) room =
    ended_by limit input before after p a code r f t room

-- ---- what a comparison says of one input

refusal_told_of : (f : Refusal) → 0 ≡ refusal_status f → ⊥
refusal_told_of short e = absurd (omega arith)
refusal_told_of (unit_type t) e = absurd (omega arith)
refusal_told_of (unit_version v) e = absurd (omega arith)
refusal_told_of too_long e = absurd (omega arith)
refusal_told_of unit_length e = absurd (omega arith)
refusal_told_of empty_providers e = absurd (omega arith)
refusal_told_of (refused report) e = absurd (omega arith)

stops_tell : (c : Cause) → 0 ≡ cause_status c → ⊥
stops_tell by_reader e = absurd (omega arith)
stops_tell by_writer e = absurd (omega arith)
stops_tell too_many e = absurd (omega arith)
stops_tell no_memory e = absurd (omega arith)
stops_tell (wrong f) e = refusal_told_of f e

module _ (limit : ℕ) (input : List ℕ) where
  number_run : IsAccepted limit input → (n : ℕ) × HasRun everything limit (Ok n) input
  number_run (ms, d, a) = (
    length (written_units everything ms),
    accepted_run everything limit input a.b ms d a.accepts a.below,
  )

  never : (n : ℕ) (c : Cause) → HasRun everything limit (Ok n) input →
      HasRun everything limit (Err c) input → BlamesNobody (Err c) → ⊥
  never n c p q well = apart (one_has everything limit (Ok n) (Err c) input p q tt well)
    where
      apart : ◌≡◌ {A = Result ℕ Cause} (Ok n) (Err c) → ⊥
      apart e = absurd cc

  -- an accepted input is one at whose end of data the call ended
  ok_status : (a : RtrAnswer) (code : ℕ) → Ended limit input a code → IsAccepted limit input →
      code ≡ rtr_ok
  ok_status a code (inl (n, run, ok)) accepted = ok
  ok_status a code (inr (c, s)) accepted =
      let (n, number) = number_run accepted in
      absurd (never n c number s.run s.nobody)

  module _ (offset : ℕ) (last : List ℕ) (e : ViewFault)
      (is : IsViewFaultAt limit input offset last e) where
    well : BlamesNobody (Err (view_cause last e))
    well = nobody_of last e is.not_writer

    not_accepted : IsAccepted limit input → ⊥
    not_accepted accepted =
        let (n, number) = number_run accepted in
        never n (view_cause last e) number is.some well

    told : (side : ℕ) (a : RtrAnswer) (code : ℕ) → Stops limit input a code (view_cause last e) →
        unit_refused side offset e input ≡ stop_compared side a
    told side a code s =
        let p = is.some in
        let q = s.run in
        let same = same_units limit (view_cause last e) p.taken p.left p.written q.taken q.left
        q.written p.run q.run well (sym p.parts ∙ q.parts) in
        let place : offset ≡ a.taken = is.offset_is ∙ ap length same.0 ∙ sym s.taken in
        let status : fault_status e ≡ a.status =
        view_status last e ∙ sym s.status ∙ sym s.answered in
        let wants : fault_wanted e (drop offset input) ≡ a.wanted =
        ap (λ n. fault_wanted e (drop n input)) place ∙ view_wanted last (drop a.taken input) e
        ∙ sym s.wanted in
        let detail : fault_detail e ≡ a.detail = one_detail last (view_cause last e)
        (fault_detail e) a.detail (view_details last e)
        (subst (λ u. Details u (view_cause last e) a.detail) (sym (is.last_is ∙ same.1)) s.detail)
        in
        λ i. record {
          offset = place i;
          wanted = wants i;
          status = status i;
          side = side;
          detail = detail i;
          same = false;
        }

    one_cause : (c : Cause) (a : RtrAnswer) (code : ℕ) → Stops limit input a code c →
        c ≡ view_cause last e
    one_cause c a code s =
        let same = one_has everything limit (Err c) (Err (view_cause last e)) input s.run is.some
        s.nobody well in
        cc

    -- it is told as of the call, which stopped
    stopped : (side : ℕ) (a : RtrAnswer) (code : ℕ) → Ended limit input a code →
        (unit_refused side offset e input ≡ stop_compared side a) × (a.status ≡ code)
    stopped side a code (inl (n, run, ok)) =
        absurd (never n (view_cause last e) run is.some well)
    stopped side a code (inr (c, s)) =
        (told side a code (subst (Stops limit input a code) (one_cause c a code s) s), s.answered)

-- ---- the two sides

module _ (limit : ℕ) (left right : List ℕ) (a b : RtrAnswer) (code : ℕ) where
  left_refused : (side : Side) (o : ℕ) (last : List ℕ) (e : ViewFault) →
      IsFaultOn side limit left right o last e → Ended limit left a code → code ≢ rtr_ok →
      (refusal_told side o e left right ≡ stop_compared rtr_left a) × (a.status ≡ code)
  left_refused Left o last e is ended not = stopped limit left o last e is rtr_left a code ended
  left_refused Right o last e (accepted, is) ended not =
      absurd (not (ok_status limit left a code ended accepted))

  right_refused : (side : Side) (o : ℕ) (last : List ℕ) (e : ViewFault) →
      IsFaultOn side limit left right o last e → Ended limit left a rtr_ok →
      Ended limit right b code →
      (refusal_told side o e left right ≡ stop_compared rtr_right b) × (b.status ≡ code)
  right_refused Left o last e is (inl (n, run, ok)) other =
      absurd (never limit left n (view_cause last e) run is.some (well limit left o last e is))
  right_refused Left o last e is (inr (c, s)) other = absurd (stops_tell c s.status)
  right_refused Right o last e (accepted, is) ended other =
      stopped limit right o last e is rtr_right b code other

abbrev ToldOf : (side : ℕ) → RtrAnswer → RtrComparison → (status code : ℕ) → Type 0
ToldOf side a c status code = (status ≡ code) × (c ≡ stop_compared side a)

told_of : (side : ℕ) (a : RtrAnswer) (c told : RtrComparison) (status code : ℕ) →
    TellsComparison told c status → told ≡ stop_compared side a → a.status ≡ code →
    ToldOf side a c status code
told_of side a c told status code (is, answered) same ends =
    (answered ∙ ap (λ (x : RtrComparison). x.status) same ∙ ends, is ∙ same)

pub of_left : (limit : ℕ) (r : Result Bool ComparisonFault) (left right before after : List ℕ)
    (c : RtrComparison) (a : RtrAnswer) (status code : ℕ) → ComparesMeanings limit r left right →
    TellsComparison (comparison_told r left right) c status →
    CallNormalises everything limit left before after a code → code ≢ rtr_ok →
    code ≢ rtr_no_room → (status ≡ code) × (c ≡ stop_compared rtr_left a)
of_left limit (Ok same) left right before after c a status code compares tells call not room =
    let (ms, ns, d, e, accepted, other, decides) = compares.answers in
    absurd (not (ok_status limit left a code (ended limit left before after a code call room)
    (ms, d, accepted)))
of_left limit (Err f) left right before after c a status code compares tells call not room =
    let t = left_refused limit left right a a code f.side f.offset compares.last f.fault
    compares.stops (ended limit left before after a code call room) not in
    told_of rtr_left a c (comparison_told (Err f) left right) status code tells t.0 t.1

pub of_right : (limit : ℕ) (r : Result Bool ComparisonFault)
    (left right before after room filled : List ℕ) (c : RtrComparison) (a b : RtrAnswer)
    (status code : ℕ) → ComparesMeanings limit r left right →
    TellsComparison (comparison_told r left right) c status →
    CallNormalises everything limit left before after a rtr_ok →
    CallNormalises everything limit right room filled b code → code ≢ rtr_no_room →
    (status ≡ code) × (code ≢ rtr_ok → c ≡ stop_compared rtr_right b)
of_right limit (Ok same) left right before after room filled c a b status code compares tells first
    call not =
    let (ms, ns, d, e, accepted, other, decides) = compares.answers in
    let ok = ok_status limit right b code (ended limit right room filled b code call not)
    (ns, e, other) in
    (tells.1 ∙ sym ok, λ refused. absurd (refused ok))
of_right limit (Err f) left right before after room filled c a b status code compares tells first
    call not =
    let t = right_refused limit left right a b code f.side f.offset compares.last f.fault
    compares.stops (ended limit left before after a rtr_ok first (λ e. absurd (omega (arith, e))))
    (ended limit right room filled b code call not) in
    let all = told_of rtr_right b c (comparison_told (Err f) left right) status code tells t.0 t.1
    in
    (all.0, λ refused. all.1)
