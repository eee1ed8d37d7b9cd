-- Views one after the other are a run.
use Rattle.std.proofs.Common.{◌≡◌, ℕ, ◌-◌, ◌<◌, not, List, ◌++◌, [], length, Option, Some, Result}
use Rattle.std.proofs.Common.{Ok, Err, refl, sym, ap, subst, ◌∙◌}
use Rattle.std.proofs.Common.{append_assoc, arith, inl, inr}
use Rattle.std.specs.Prelude.{IsOk, IfOk}
use Rattle.std.proofs.lemmas.List.{length-append}
use Rattle.std.specs.Io.KnownBytes.{Appends}
use Rattle.std.proofs.KnownBytes.{Appends-trans, Appends-nil}
use Rattle.rtr_base.specs.Bytes.{IsBytes}
use Rattle.rtr_units.specs.declared.fault.Fault.{Fault}
use Rattle.rtr_units.specs.StopCauses.{Refusal, short, unit_type, unit_version, too_long}
use Rattle.rtr_units.specs.StopCauses.{unit_length}
use Rattle.rtr_units.specs.StopCauses.{empty_providers, refused, Cause, by_reader}
use Rattle.rtr_units.specs.StopCauses.{by_writer, too_many, no_memory, wrong}
use Rattle.rtr_units.specs.AnyEnd.{end_meaning}
use Rattle.rtr_units.specs.Stream.{WritesPart}
use Rattle.rtr_units.specs.StopCauses.{ReaderState, WriterState, count_after}
use Rattle.rtr_payload.specs.Payloads.{Meaning}
use Rattle.rtr_payload.specs.KeyUnits.{key_at}
use Rattle.rtr_payload.specs.UnitFields.{key_unit, aspa_unit}
use Rattle.rtr_payload.specs.AspaUnits.{aspa_at}
use Rattle.rtr_payload.specs.FirstFault.{first_fault, refusal_report, taken}
use Rattle.rtr_payload.specs.FaultSteps.{first_unit}
use Rattle.rtr_payload.specs.UnitFields.{meaning}
use Rattle.rtr_payload.specs.Units.{form_of}
use Rattle.unit_views.specs.Faults.{IsFirstFault, IsWriterFault, is_view_writer_fault}
use Rattle.unit_views.specs.Origins.{origin_meaning}
use Rattle.unit_views.specs.Views.{IsViewOf, ViewMeans, view_form}
use Rattle.unit_views.specs.declared.fault.ViewFault.{ViewFault}
use Rattle.unit_views.specs.declared.fault.ViewFault.TheVariants.{Writer, Short, UnitType}
use Rattle.unit_views.specs.declared.fault.ViewFault.TheVariants.{UnitLength, TooLong}
use Rattle.unit_views.specs.declared.fault.ViewFault.TheVariants.{EmptyProviders, UnitVersion}
use Rattle.unit_views.specs.declared.fault.ViewFault.TheVariants.{Prefix, TooMany}
use Rattle.unit_views.specs.declared.view.UnitView.{UnitView}
use Rattle.unit_views.specs.declared.view.UnitView.TheVariants as views
use Rattle.unit_views.proofs.Agreement.{view_means, form_meant}
use Rattle.rtr_wire.specs.PrivateSteps.{StepTells, Steps, StopsStep, is_payload_unit, passed}
use Rattle.rtr_units.specs.StopCauses.{by_cause}
use Rattle.rtr_wire.specs.Run.{IsProperPrefix, IsToWrite, Run, HasRun, Ends, BlamesNobody}
use Rattle.rtr_wire.specs.Run.{Normalises}
use Rattle.rtr_wire.specs.Sequences.{AreUnits, Output, everything, forms, written_units}
use Rattle.rtr_wire.specs.declared.run.Passed.TheVariants as passes
use Rattle.rtr_wire.specs.SliceRun.{view_cause, slice_answer, NormalisesSlice}
use Rattle.rtr_wire.proofs.Calls.{over}
use Rattle.rtr_wire.proofs.OneAnswer.{one_run, no_unit, no_end, refused_at}
use Rattle.rtr_wire.proofs.SomeAnswer.{next}
use Rattle.rtr_wire.proofs.Stepping.{SoFar, Ran, finishes, reaches_limit}

-- ---- one step

-- the form of a unit was written
unit_step : (v : UnitView) (m : Meaning) (r b left : List ℕ) (held holds : Option (List ℕ)) →
    IsViewOf v b → ViewMeans v m → r ≡ b ++ left → Appends held holds (view_form v) →
    Steps everything (Ok passes.Written) (Some r) (Some left) held holds
unit_step v m r b left held holds is means parts wrote = (
  b,
  view_form v,
  parts,
  wrote,
  (m, view_means v b m is means, (m, refl, form_meant v m means)),
)

pub view_step : (v : UnitView) (r b left : List ℕ) (held holds : Option (List ℕ)) → IsViewOf v b →
    r ≡ b ++ left → Appends held holds (view_form v) →
    Steps everything (Ok (passed (is_payload_unit v))) (Some r) (Some left) held holds
view_step (views.Origin v) r b left held holds is parts wrote =
    unit_step (views.Origin v) (origin_meaning v) r b left held holds is refl parts wrote
view_step (views.RouterKey v) r b left held holds is parts wrote =
    unit_step (views.RouterKey v) (meaning (key_unit (key_at v.unit.now))) r b left held holds is
    refl parts wrote
view_step (views.Aspa v) r b left held holds is parts wrote =
    unit_step (views.Aspa v) (meaning (aspa_unit (aspa_at v.unit.now))) r b left held holds is refl
    parts wrote
view_step (views.End e) r b left held holds (is, end) parts wrote =
    (b, view_form (views.End e), parts, wrote, (end_meaning e, end, is ∙ end.bytes))

-- a part of the form was written
part_of_view : (v : UnitView) (b t others : List ℕ) → IsViewOf v b → view_form v ≡ t ++ others →
    0 < length others → (form : List ℕ) × IsToWrite everything b form × IsProperPrefix t form
part_of_view (views.Origin v) b t others is e some =
    let m = origin_meaning v in
    (form_of m, inl (m, m, view_means (views.Origin v) b m is refl, refl, refl), (others, e, some))
part_of_view (views.RouterKey v) b t others is e some =
    let m = meaning (key_unit (key_at v.unit.now)) in (
      form_of m,
      inl (m, m, view_means (views.RouterKey v) b m is refl, refl, refl),
      (others, e, some),
    )
part_of_view (views.Aspa v) b t others is e some =
    let m = meaning (aspa_unit (aspa_at v.unit.now)) in
    (form_of m, inl (m, m, view_means (views.Aspa v) b m is refl, refl, refl), (others, e, some))
part_of_view (views.End d) b t others (is, end) e some =
    (b, inr (end_meaning d, end, end.bytes), (others, sym is ∙ e, some))

pub not_written : (v : UnitView) (e : ViewFault) (r b left : List ℕ)
    (held holds : Option (List ℕ)) → IsViewOf v b → r ≡ b ++ left →
    WritesPart (IsWriterFault e) held holds (view_form v) → StopsStep e r held holds
not_written v (Writer x) r b left held holds is parts (t, others, wrote, e, some, by) =
    (b, left, t, parts, wrote, part_of_view v b t others is e some)
not_written v Short r b left held holds is parts (t, others, wrote, e, some, by) = absurd by
not_written v (UnitType k) r b left held holds is parts (t, others, wrote, e, some, by) = absurd by
not_written v UnitLength r b left held holds is parts (t, others, wrote, e, some, by) = absurd by
not_written v TooLong r b left held holds is parts (t, others, wrote, e, some, by) = absurd by
not_written v EmptyProviders r b left held holds is parts (t, others, wrote, e, some, by) =
    absurd by
not_written v (UnitVersion k) r b left held holds is parts (t, others, wrote, e, some, by) =
    absurd by
not_written v (Prefix rule) r b left held holds is parts (t, others, wrote, e, some, by) = absurd by
not_written v TooMany r b left held holds is parts (t, others, wrote, e, some, by) = absurd by

-- the first fault of the rest, with the bytes that it takes
record Stopped (r : List ℕ) (f : Refusal) : Type 0 where
  last : List ℕ
  left : List ℕ
  parts : r ≡ last ++ left
  takes : taken f r ≡ last
  ends : Ends everything (Err (wrong f)) last left []

stopped_at : (r : List ℕ) (f : Refusal) → IsBytes r → first_fault r ≡ Some f → Stopped r f
stopped_at r f h e = elim (next r h) [
  | inl u ↦ absurd (no_unit r f e u)
  | inr (inl d) ↦ absurd (no_end r f e d)
  | inr (inr s) ↦
      let at = refused_at everything s.f s.last s.left [] s.ends in
      let there : Some s.f ≡ Some f = sym at.0 ∙ ap first_fault (sym s.parts) ∙ e in
      let same : s.f ≡ f = cc in
      record {
        last = s.last;
        left = s.left;
        parts = s.parts;
        takes = (λ i. taken (sym same i) (s.parts i)) ∙ at.1;
        ends = subst (λ g. Ends everything (Err (wrong g)) s.last s.left []) same s.ends;
      }
]

-- a fault of the input ends each run alike, whatever it writes
any_output : (what : Output) (f : Refusal) (last left written : List ℕ) →
    Ends everything (Err (wrong f)) last left written → Ends what (Err (wrong f)) last left written
any_output what short last left written h = h
any_output what (unit_type t) last left written h = h
any_output what (unit_version v) last left written h = h
any_output what too_long last left written h = h
any_output what unit_length last left written h = h
any_output what empty_providers last left written h = h
any_output what (refused report) last left written h = h

-- the last bytes of a run that this fault ends
abbrev pub EndsAt : Output → ViewFault → List ℕ → Type 0
EndsAt what e r = (last left : List ℕ) × (r ≡ last ++ left)
    × (f : Refusal) × (view_cause last e ≡ wrong f) × Ends what (Err (wrong f)) last left []

ends_at : (what : Output) (e : ViewFault) (r : List ℕ) (f : Refusal) → (s : Stopped r f) →
    view_cause s.last e ≡ wrong f → EndsAt what e r
ends_at what e r f s is =
    (s.last, s.left, s.parts, f, is, any_output what f s.last s.left [] s.ends)

-- no unit was viewed
pub first_ends : (what : Output) (e : ViewFault) (r : List ℕ) → IsBytes r → IsFirstFault r e →
    EndsAt what e r
first_ends what (Writer x) r h e = absurd e
first_ends what Short r h e = ends_at what Short r short (stopped_at r short h e) refl
first_ends what (UnitType t) r h e =
    ends_at what (UnitType t) r (unit_type t) (stopped_at r (unit_type t) h e) refl
first_ends what UnitLength r h e =
    ends_at what UnitLength r unit_length (stopped_at r unit_length h e) refl
first_ends what TooLong r h e = ends_at what TooLong r too_long (stopped_at r too_long h e) refl
first_ends what EmptyProviders r h e =
    ends_at what EmptyProviders r empty_providers (stopped_at r empty_providers h e) refl
first_ends what (UnitVersion v) r h e =
    ends_at what (UnitVersion v) r (unit_version v) (stopped_at r (unit_version v) h e) refl
first_ends what (Prefix rule) r h e =
    let report = refusal_report (first_unit r) rule in
    let s = stopped_at r (refused report) h e in
    ends_at what (Prefix rule) r (refused report) s
    (ap (λ u. wrong (refused (refusal_report u rule))) (sym s.takes))
first_ends what TooMany r h e = absurd e

pub not_viewed : (e : ViewFault) (r : List ℕ) (held : Option (List ℕ)) → IsBytes r →
    IsFirstFault r e → StopsStep e r held held
not_viewed e r held h is =
    let (last, left, parts, f, cause, ends) = first_ends everything e r h is in (
      last,
      left,
      [],
      parts,
      Appends-nil held,
      subst (λ c. StepTells everything (Err c) last [] (Some left)) (sym cause) ends,
    )

-- ---- the whole run

pub normalises_slice : (limit : ℕ) (r : Result (ℕ × ℕ) ViewFault)
    (input took left wrote last : List ℕ) (old new : WriterState) → input ≡ took ++ left →
    Appends old.held new.held wrote →
    (run : Run everything limit (slice_answer last r) took left wrote) → last ≡ run.last →
    IfOk r (λ p. p.1 ≡ length took) →
    new.failed ≡ count_after old.failed (not (is_view_writer_fault r)) →
    NormalisesSlice limit r input old new
normalises_slice limit r input took left wrote last old new parts writes run is bytes failed =
    record {
      taken = took;
      left = left;
      written = wrote;
      parts = parts;
      writes = writes;
      last = last;
      run = run;
      last_is = is;
      bytes = bytes;
      writer_failures = failed;
    }

none_less : (n : ℕ) → n - 0 ≡ n
none_less n = omega arith

-- at an end of data
pub slice_ends : (limit count : ℕ) (input rest left : List ℕ) (mid : Option (List ℕ))
    (old new : WriterState) → count < limit →
    SoFar everything count 0 (Some input) (Some rest) old.held mid →
    Steps everything (Ok passes.End) (Some rest) (Some left) mid new.held →
    new.failed ≡ old.failed →
    NormalisesSlice limit (Ok (count, length input - length left)) input old new
slice_ends limit count input rest left mid old new lt gone step failed =
    let ran = subst (λ n. Ran everything limit (Ok n) (Some input) (Some left) old.held new.held)
    (none_less count)
    (finishes everything limit count 0 (Some input) (Some rest) (Some left) old.held mid new.held lt
    gone step) in
    let size : length input - length left ≡ length ran.taken =
    omega (arith, ap length ran.takes, length-append ran.taken left) in
    normalises_slice limit (Ok (count, length input - length left)) input ran.taken left ran.written
    ran.run.last old new ran.takes ran.appends ran.run refl size failed

-- at the limit
pub slice_fills : (limit count : ℕ) (input rest : List ℕ) (old new : WriterState) → count ≡ limit →
    SoFar everything count 0 (Some input) (Some rest) old.held new.held → new.failed ≡ old.failed →
    NormalisesSlice limit (Err TooMany) input old new
slice_fills limit count input rest old new full gone failed =
    let ran =
    reaches_limit everything limit count 0 (Some input) (Some rest) old.held new.held full gone in
    normalises_slice limit (Err TooMany) input ran.taken rest ran.written ran.run.last old new
    ran.takes ran.appends ran.run refl tt failed

-- at a fault
record Broke (limit : ℕ) (c : Cause) (us t w left : List ℕ) (ms : List Meaning) : Type 0 where
  run : Run everything limit (Err c) (us ++ t) left (forms (written_units everything ms) ++ w)
  last : t ≡ run.last

broke : (limit : ℕ) (c : Cause) (us t w left : List ℕ) (ms : List Meaning) → AreUnits us ms →
    length ms < limit → StepTells everything (Err c) t w (Some left) → Broke limit c us t w left ms
broke limit by_reader us t w left ms units lt told = record {
  run = record {
    units = us;
    last = t;
    taken_parts = refl;
    meanings = ms;
    are_units = units;
    last_written = w;
    written_parts = refl;
    counts = lt;
    ends = told;
  };
  last = refl;
}
broke limit by_writer us t w left ms units lt told = record {
  run = record {
    units = us;
    last = t;
    taken_parts = refl;
    meanings = ms;
    are_units = units;
    last_written = w;
    written_parts = refl;
    counts = lt;
    ends = told;
  };
  last = refl;
}
broke limit too_many us t w left ms units lt told = absurd told
broke limit no_memory us t w left ms units lt told = record {
  run = record {
    units = us;
    last = t;
    taken_parts = refl;
    meanings = ms;
    are_units = units;
    last_written = w;
    written_parts = refl;
    counts = lt;
    ends = told;
  };
  last = refl;
}
broke limit (wrong f) us t w left ms units lt told = record {
  run = record {
    units = us;
    last = t;
    taken_parts = refl;
    meanings = ms;
    are_units = units;
    last_written = w;
    written_parts = refl;
    counts = lt;
    ends = told;
  };
  last = refl;
}

pub slice_breaks : (limit count : ℕ) (e : ViewFault) (input rest : List ℕ) (mid : Option (List ℕ))
    (old new : WriterState) → count < limit →
    SoFar everything count 0 (Some input) (Some rest) old.held mid → StopsStep e rest mid new.held →
    new.failed ≡ count_after old.failed (not (is_view_writer_fault {T = ℕ × ℕ} (Err e))) →
    NormalisesSlice limit (Err e) input old new
slice_breaks limit count e input rest mid old new lt p (t, left, w, parts, wrote, told) failed =
    let b =
    broke limit (view_cause t e) p.us t w left p.ms p.units (omega (arith, p.counted)) told in
    let all : input ≡ (p.us ++ t) ++ left =
    p.taken ∙ ap (λ l. p.us ++ l) parts ∙ sym (append_assoc p.us t left) in
    let units = forms (written_units everything p.ms) in
    normalises_slice limit (Err e) input (p.us ++ t) left (units ++ w) t old new all
    (Appends-trans old.held mid new.held units w p.written wrote) b.run b.last tt failed

-- ---- whose fault it is doesn't depend on what would have been answered

same_writer : (S T : Type 0) (f : ViewFault) →
    is_view_writer_fault {T = S} (Err f) ≡ is_view_writer_fault {T = T} (Err f)
same_writer S T (Writer e) = refl
same_writer S T f = refl

pub view_writer_count : (S T : Type 0) (f : ViewFault) (first before after : ℕ) →
    after ≡ count_after before (not (is_view_writer_fault {T = S} (Err f))) → before ≡ first →
    after ≡ count_after first (not (is_view_writer_fault {T = T} (Err f)))
view_writer_count S T f first before after e same =
    e ∙ (λ i. count_after (same i) (not (same_writer S T f i)))

-- ---- a call over an input over which some run succeeds

is_ok_of : (u : List ℕ) (r : Result (ℕ × ℕ) ViewFault) (n : ℕ) → slice_answer u r ≡ Ok n → IsOk r
is_ok_of u (Ok (m, k)) n e = refl
is_ok_of u (Err f) n e = absurd cc

pub slice_answers : (limit : ℕ) (r : Result (ℕ × ℕ) ViewFault) (input : List ℕ)
    (old new : WriterState) (p : NormalisesSlice limit r input old new) (number : ℕ) →
    HasRun everything limit (Ok number) input → BlamesNobody (slice_answer p.last r) → IsOk r
slice_answers limit r input old new p number some well =
    is_ok_of p.last r number
    (one_run everything limit (slice_answer p.last r) (Ok number) p.taken p.left p.written
    some.taken some.left some.written p.run some.run (sym p.parts ∙ some.parts) well tt).0

-- ---- both ways

pub both_ways : (limit : ℕ) (input : List ℕ) (first : Result ℕ Fault)
    (second : Result (ℕ × ℕ) ViewFault) (old new : ReaderState)
    (before after before' after' : WriterState)
    (p : Normalises everything limit first old new before after)
    (q : NormalisesSlice limit second input before' after') →
    old.left ≡ Some input → BlamesNobody (by_cause first) →
    BlamesNobody (slice_answer q.last second) →
    (by_cause first ≡ slice_answer q.last second) × (p.taken ≡ q.taken) × (new.left ≡ Some q.left)
    × (p.written ≡ q.written)
both_ways limit input first second old new before after before' after' p q is well fine =
    let o = over everything limit (by_cause first) input p.taken p.written old new before after is
    p.takes p.writes p.run in
    let one = one_run everything limit (by_cause first) (slice_answer q.last second) p.taken o.left
    p.written q.taken q.left q.written o.run q.run (sym o.parts ∙ q.parts) well fine in
    (one.0, one.1, o.at ∙ ap Some one.2, one.3)
