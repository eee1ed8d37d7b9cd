-- Sequences that are applied: what reading a unit leaves, and data that is announced anew.
use Rattle.std.proofs.Common.{◌≡◌, ℕ, ◌+◌, ◌<◌, ◌≤◌, List, [], ◌∷◌, ◌++◌, map, length, Option}
use Rattle.std.proofs.Common.{Some, None, Result, Ok, Err, refl, sym, ap, ◌∙◌, subst, append-nil}
use Rattle.std.proofs.Common.{arith, inl, inr}
use Rattle.std.proofs.KnownBytes.{Consumes-nil, Consumes-trans}
use Rattle.std.proofs.lemmas.Bool.Decides.{nat_tests}
use Rattle.std.proofs.lemmas.List.{length-append, map-append}
use Rattle.std.specs.Prelude.{◌≢◌, IfSome, IsOk}
use Rattle.std.specs.Io.KnownBytes.{Consumes}
use Rattle.rtr_base.specs.Actions.{act}
use Rattle.rtr_base.specs.declared.action.Action.{Action}
use Rattle.rtr_base.specs.declared.action.Action.TheVariants.{Announce, Withdraw}
use Rattle.rtr_units.specs.AnyEnd.{end_bytes}
use Rattle.rtr_units.specs.Header.{version_field}
use Rattle.rtr_units.specs.Reading.{ReadsBytes, Stops}
use Rattle.rtr_units.specs.StopCauses.{Cause, by_reader, by_writer, too_many, no_memory, wrong}
use Rattle.rtr_units.specs.StopCauses.{ReaderState, cause_of, reader_count}
use Rattle.rtr_units.specs.declared.end.EndOfData.{EndOfData}
use Rattle.rtr_units.specs.declared.fault.Fault.{Fault}
use Rattle.rtr_units.specs.declared.fault.Fault.TheVariants.{TooMany}
use Rattle.rtr_payload.proofs.ByFields.{fields_unit}
use Rattle.rtr_payload.specs.AspaUnits.{HasProviders, meant_aspa}
use Rattle.rtr_payload.specs.Meanings.{key_of, origin_of, payload_of}
use Rattle.rtr_payload.specs.Payloads.{AspaParts, KeyParts, Meaning, Payload, aspa, key}
use Rattle.rtr_payload.specs.UnitBytes.{HasNoPayload, MeansPayload, unit_bytes, unit_fields}
use Rattle.rtr_payload.specs.UnitFields.{HasFields}
use Rattle.rtr_payload.specs.UnitKinds.{payload_unit}
use Rattle.rtr_payload.specs.Units.{IsUnit}
use Rattle.rtr_payload.specs.declared.payload.Payload.{Payload as Value}
use Rattle.rtr_payload.specs.declared.payload.RouteOrigin.{RouteOrigin}
use Rattle.rtr_payload.specs.declared.payload.RouterKey.{RouterKey}
use Rattle.rtr_payload.specs.declared.pdu.payload.Payload.{Payload as ReadUnit}
use Rattle.rtr_wire.proofs.Push.{units_push}
use Rattle.rtr_wire.specs.PrivateSteps.{StepTells, Steps}
use Rattle.rtr_wire.specs.Run.{Counts, Ends}
use Rattle.rtr_wire.specs.Sequences.{AreUnits, everything}
use Rattle.data_memory.specs.Applying.{Applies, CountsUnits, StopsApplying, StopsChange}
use Rattle.data_memory.specs.PrivateApplying.{ReadsChange}
use Rattle.data_memory.specs.Applying.{cause_count}
use Rattle.data_memory.specs.Changes.{after_all}
use Rattle.data_memory.specs.Contents.{IsFit, Leaves, announcing, entry_of, joined, unfit}
use Rattle.data_memory.specs.Contents.{unless_unfit}
use Rattle.data_memory.specs.Data.{IsData, after, announcement, changed}
use Rattle.data_memory.specs.Sequences.{change_of}
use Rattle.data_memory.specs.declared.apply_error.ApplyCause.{ApplyCause}
use Rattle.data_memory.specs.declared.apply_error.ApplyCause.TheVariants.{Read, Change}
use Rattle.data_memory.specs.declared.change_error.ChangeError.{ChangeError}
use Rattle.data_memory.specs.declared.change_error.ChangeError.TheVariants.{Duplicate, Unknown}
use Rattle.data_memory.specs.declared.change_error.ChangeError.TheVariants.{KeyTooLong, Memory}
use Rattle.data_memory.specs.declared.change_error.ChangeError.TheVariants.{NoProviders}
use Rattle.data_memory.proofs.Delta.{after_append, leads_to_new}
use Rattle.data_memory.proofs.Versions.{from_nothing, no_data}

-- ---- one unit

from_step : (f : Fault) (a b : Option (List ℕ)) → cause_of f ≢ by_writer →
    Steps everything (Err f) a b (Some []) (Some []) → ReadsChange (Err f) a b
from_step f a b n (t, w, took, wrote, tells) = (
  t,
  took,
  n,
  subst (λ (l : List ℕ). StepTells everything (Err (cause_of f)) t l b) (sym wrote) tells,
)

pub not_read : (f : Fault) (a b : Option (List ℕ)) →
    ReadsBytes payload_unit [] (Err (cause_of f)) a b →
    Steps everything (Err f) a b (Some []) (Some []) → ReadsChange (Err f) a b
not_read f a b (t, took, stops) step =
    from_step f a b (λ e. subst (λ c. Stops payload_unit c t b) e stops) step

pub not_meant : (u : ReadUnit) (f : Fault) (a b : Option (List ℕ)) → HasNoPayload u (cause_of f) →
    Steps everything (Err f) a b (Some []) (Some []) → ReadsChange (Err f) a b
not_meant u f a b none step = from_step f a b (λ e. subst (λ c. HasNoPayload u c) e none) step

pub unit_read : (u : ReadUnit) (action : Action) (p : Value) (a b : Option (List ℕ)) →
    ReadsBytes payload_unit [] (Ok (unit_bytes u)) a b →
    HasFields (unit_bytes u) (unit_fields u) → MeansPayload u action p →
    ReadsChange (Ok (Ok (action, p))) a b
unit_read u action p a b ((t, took, is), whole) shape means = (
  unit_bytes u,
  record { version = version_field (unit_bytes u); action = action; payload = payload_of p },
  subst (Consumes a b) (sym is) took,
  subst (λ m. IsUnit (unit_bytes u) m) (sym means.means)
      (fields_unit (unit_bytes u) (unit_fields u) shape means.lengths),
  refl,
)

-- ---- data announced anew

pub one_ok : (r : Result (List Payload) ChangeError) (c d : List Payload) → r ≡ Ok c → r ≡ Ok d →
    c ≡ d
one_ok (Ok x) c d h k =
    let first : x ≡ c = cc in
    let second : x ≡ d = cc in
    sym first ∙ second
one_ok (Err e) c d h k = absurd cc

fit_change : (o : Option ChangeError) (r : Result (List Payload) ChangeError) (x : List Payload) →
    unless_unfit o r ≡ Ok x → r ≡ Ok x
fit_change None r x h = h
fit_change (Some e) r x h = absurd cc

pub announced_more : (ps qs : List Payload) (p : Payload) (d e x : List Payload) →
    qs ≡ ps ++ p ∷ [] → after_all (map announcement ps) (Ok d) ≡ Ok e →
    announcing p e ≡ Ok x → after_all (map announcement qs) (Ok d) ≡ Ok x
announced_more ps qs p d e x is so one =
    ap (λ l. after_all (map announcement l) (Ok d)) is
    ∙ ap (λ l. after_all l (Ok d)) (map-append announcement ps (p ∷ []))
    ∙ after_append (map announcement ps) (announcement p ∷ []) (Ok d)
    ∙ ap (after_all (announcement p ∷ [])) so
    ∙ fit_change (unfit p) _ x one

all_announced : (d : List Payload) → IsData d → after_all (map announcement d) (Ok []) ≡ Ok d
all_announced d s =
    ap (λ cs. after_all cs (Ok [])) (sym (from_nothing d)) ∙ leads_to_new [] d no_data s

-- what is announced part by part to no data is the data
pub copied : (os : List RouteOrigin) (ks : List RouterKey) (es : List (ℕ × List ℕ))
    (d z a b c : List Payload) → IsData d → joined os ks es ≡ d → z ≡ [] →
    after_all (map announcement (map origin_of os)) (Ok z) ≡ Ok a →
    after_all (map announcement (map key_of ks)) (Ok a) ≡ Ok b →
    after_all (map announcement (map entry_of es)) (Ok b) ≡ Ok c → c ≡ d
copied os ks es d z a b c s is nothing first second third =
    let xs = map announcement (map origin_of os) in
    let ys = map announcement (map key_of ks) in
    let zs = map announcement (map entry_of es) in
    let parts : map announcement (joined os ks es) ≡ xs ++ (ys ++ zs) =
    map-append announcement (map origin_of os) (map key_of ks ++ map entry_of es)
    ∙ ap (λ l. xs ++ l) (map-append announcement (map key_of ks) (map entry_of es)) in
    let all : after_all (map announcement (joined os ks es)) (Ok []) ≡ Ok c =
    ap (λ l. after_all l (Ok [])) parts ∙ after_append xs (ys ++ zs) (Ok [])
    ∙ ap (λ l. after_all (ys ++ zs) (after_all xs (Ok l))) (sym nothing)
    ∙ ap (after_all (ys ++ zs)) first ∙ after_append ys zs (Ok a) ∙ ap (after_all zs) second
    ∙ third in
    one_ok (after_all (map announcement (joined os ks es)) (Ok [])) c d all
    (ap (λ l. after_all (map announcement l) (Ok [])) is ∙ all_announced d s)

-- ---- what is read is fit

pub fit_key : (k : KeyParts) → length k.info ≤ 65503 → IsFit (key k)
fit_key k h = grind (arith, nat_tests)

fit_aspa : (action : Action) (a : AspaParts) → HasProviders action a.providers →
    action ≡ Announce → IsFit (aspa (meant_aspa action a))
fit_aspa Announce a h e = grind (arith, nat_tests)
fit_aspa Withdraw a h e = absurd cc

abbrev FitAsMeant : Meaning → Type 0
FitAsMeant m = m.action ≡ Announce → IsFit m.payload

unit_fit : (b : List ℕ) (m : Meaning) → IsUnit b m → FitAsMeant m
unit_fit b m u = elim u.kind [
  | inl o ↦ subst (λ x. FitAsMeant x) (sym o.means) (λ e. refl)
  | inr (inl k) ↦ subst (λ x. FitAsMeant x) (sym k.means) (λ e. fit_key k.unit.key k.limit)
  | inr (inr a) ↦ subst (λ x. FitAsMeant x) (sym a.means)
      (λ e. fit_aspa (act a.unit.flags) a.unit.aspa a.has_providers e)
]

pub read_fit : (action : Action) (p : Value) (a b : Option (List ℕ)) →
    ReadsChange (Ok (Ok (action, p))) a b → action ≡ Announce → IsFit (payload_of p)
read_fit action p a b (t, m, took, unit, is) e =
    subst (λ q. IsFit q) (ap (λ c. c.payload) is)
    (unit_fit t m unit (ap (λ c. c.action) is ∙ e))

-- ---- units one after the other

-- so many units were taken, and their changes make this
pub record SoFar (count : ℕ) (old new : Option (List ℕ)) (before made : List Payload) : Type 0 where
  pub us : List ℕ
  pub ms : List Meaning
  pub taken : Consumes old new us
  pub units : AreUnits us ms
  pub counted : length ms ≡ count
  pub allowed : after_all (map change_of ms) (Ok before) ≡ Ok made

pub starts : (a : Option (List ℕ)) (before : List Payload) → SoFar 0 a a before before
starts a before = record {
  us = [];
  ms = [];
  taken = Consumes-nil a;
  units = refl;
  counted = refl;
  allowed = refl;
}

unfoldable pub goes_on : (count : ℕ) (a b c : Option (List ℕ)) (before made more : List Payload)
    (action : Action) (p : Value) → SoFar count a b before made →
    ReadsChange (Ok (Ok (action, p))) b c → changed action (payload_of p) made ≡ Ok more →
    SoFar (count + 1) a c before more
goes_on count a b c before made more action p s (t, m, took, unit, is) so = record {
  us = s.us ++ t;
  ms = s.ms ++ m ∷ [];
  taken = Consumes-trans a b c s.us t s.taken took;
  units = units_push s.us t s.ms m s.units unit;
  counted = omega (arith, length-append s.ms (m ∷ []), s.counted);
  allowed =
      ap (λ l. after_all l (Ok before)) (map-append change_of s.ms (m ∷ []))
      ∙ after_append (map change_of s.ms) (change_of m ∷ []) (Ok before)
      ∙ ap (after_all (change_of m ∷ [])) s.allowed
      ∙ ap (λ x. after x made) is ∙ so;
}

unfoldable pub finishes : (limit count : ℕ) (d : EndOfData) (old mid new : ReaderState)
    (before made : List Payload) → count < limit → SoFar count old.left mid.left before made →
    mid.failed ≡ old.failed → ReadsChange (Ok (Err d)) mid.left new.left →
    new.failed ≡ mid.failed → Applies limit (Ok d) old new before made
finishes limit count d old mid new before made lt s kept (took, end) well = record {
  units = s.us;
  last = end_bytes d;
  takes = Consumes-trans old.left mid.left new.left s.us (end_bytes d) s.taken took;
  meanings = s.ms;
  are_units = s.units;
  made = made;
  allowed = s.allowed;
  ends = (omega (arith, s.counted, lt), refl, end, refl);
  reader_failures = well ∙ kept;
}

-- a call stopped at these last bytes
module _ (limit count : ℕ) (cause : ApplyCause) (old mid new : ReaderState)
    (before made left_as : List Payload) (same : left_as ≡ before)
    (s : SoFar count old.left mid.left before made)
    (kept : mid.failed ≡ old.failed) (t : List ℕ) (took : Consumes mid.left new.left t) where
  unfoldable pub stopped : CountsUnits cause limit s.ms → StopsApplying cause t new.left made →
      new.failed ≡ cause_count cause mid.failed →
      Applies limit (Err (record { units = count; cause = cause })) old new before left_as
  stopped counts stops well = record {
    units = s.us;
    last = t;
    takes = Consumes-trans old.left mid.left new.left s.us t s.taken took;
    meanings = s.ms;
    are_units = s.units;
    made = made;
    allowed = s.allowed;
    ends = (sym s.counted, counts, stops, same);
    reader_failures = well ∙ ap (cause_count cause) kept;
  }

pub told_ends : (c : Cause) (t : List ℕ) (left : Option (List ℕ)) →
    StepTells everything (Err c) t [] left → IfSome left (λ rest. Ends everything (Err c) t rest [])
told_ends by_reader t left told = told
told_ends by_writer t left told = told
told_ends too_many t left told = absurd told
told_ends no_memory t left told = told
told_ends (wrong f) t left told = told

pub few : (c : Cause) (limit : ℕ) (ms : List Meaning) (t : List ℕ) (left : Option (List ℕ)) →
    StepTells everything (Err c) t [] left → length ms < limit →
    Counts everything limit (Err c) ms
few by_reader limit ms t left told lt = lt
few by_writer limit ms t left told lt = lt
few too_many limit ms t left told lt = absurd told
few no_memory limit ms t left told lt = lt
few (wrong f) limit ms t left told lt = lt

pub always : {P : List ℕ → Type 0} (o : Option (List ℕ)) → ((x : List ℕ) → P x) → IfSome o P
always None h = tt
always (Some x) h = h x

unfoldable pub breaks : (limit count : ℕ) (f : Fault) (old mid new : ReaderState)
    (before made left_as : List Payload) → left_as ≡ before → count < limit →
    SoFar count old.left mid.left before made →
    mid.failed ≡ old.failed → ReadsChange (Err f) mid.left new.left →
    new.failed ≡ reader_count {T = ℕ} (Err (cause_of f)) mid.failed →
    Applies limit (Err (record { units = count; cause = Read f })) old new before left_as
breaks limit count f old mid new before made left_as same lt s kept
    (t, took, no_writer, told) well =
    stopped limit count (Read f) old mid new before made left_as same s kept t took
    (few (cause_of f) limit s.ms t new.left told (omega (arith, s.counted, lt)))
    (no_writer, told_ends (cause_of f) t new.left told) well

-- where a change was not made
pub stops_change : (e : ChangeError) (action : Action) (p : Value) (a b : Option (List ℕ))
    (made x : List Payload) (r : ReadsChange (Ok (Ok (action, p))) a b) →
    Leaves {T = Unit {0}} (Err e) (changed action (payload_of p) made) made x →
    StopsChange e r.0 made
stops_change Memory action p a b made x (t, m, took, unit, is) h =
    inr (m, unit, subst (λ c. IsOk (after c made)) (sym is) h.0)
stops_change Duplicate action p a b made x (t, m, took, unit, is) h =
    (m, unit, ap (λ c. after c made) is ∙ h.0)
stops_change Unknown action p a b made x (t, m, took, unit, is) h =
    (m, unit, ap (λ c. after c made) is ∙ h.0)
stops_change KeyTooLong action p a b made x (t, m, took, unit, is) h =
    (m, unit, ap (λ c. after c made) is ∙ h.0)
stops_change NoProviders action p a b made x (t, m, took, unit, is) h =
    (m, unit, ap (λ c. after c made) is ∙ h.0)

pub counts_change : (e : ChangeError) (limit : ℕ) (ms : List Meaning) → length ms < limit →
    CountsUnits (Change e) limit ms
counts_change Memory limit ms lt = omega (arith, lt)
counts_change Duplicate limit ms lt = lt
counts_change Unknown limit ms lt = lt
counts_change KeyTooLong limit ms lt = lt
counts_change NoProviders limit ms lt = lt

unfoldable pub refuses : (limit count : ℕ) (e : ChangeError) (old mid new : ReaderState)
    (before made left_as x : List Payload) (action : Action) (p : Value) → left_as ≡ before →
    count < limit → SoFar count old.left mid.left before made → mid.failed ≡ old.failed →
    ReadsChange (Ok (Ok (action, p))) mid.left new.left → new.failed ≡ mid.failed →
    Leaves {T = Unit {0}} (Err e) (changed action (payload_of p) made) made x →
    Applies limit (Err (record { units = count; cause = Change e })) old new before left_as
refuses limit count e old mid new before made left_as x action p same lt s kept r well h =
    stopped limit count (Change e) old mid new before made left_as same s kept r.0 r.2
    (counts_change e limit s.ms (omega (arith, s.counted, lt)))
    (stops_change e action p mid.left new.left made x r h) well

unfoldable pub reaches_limit : (limit count : ℕ) (old new : ReaderState)
    (before made left_as : List Payload) → left_as ≡ before → count ≡ limit →
    SoFar count old.left new.left before made → new.failed ≡ old.failed →
    Applies limit (Err (record { units = limit; cause = Read TooMany })) old new before left_as
reaches_limit limit count old new before made left_as same full s kept = record {
  units = s.us;
  last = [];
  takes = subst (Consumes old.left new.left) (sym (append-nil s.us)) s.taken;
  meanings = s.ms;
  are_units = s.units;
  made = made;
  allowed = s.allowed;
  ends = (
    sym (s.counted ∙ full),
    s.counted ∙ full,
    (λ e. absurd cc, always new.left (λ x. (refl, refl))),
    same,
  );
  reader_failures = kept;
}

pub starves : (limit : ℕ) (old : ReaderState) (before : List Payload) →
    Applies limit (Err (record { units = 0; cause = Change Memory })) old old before before
starves limit old before = record {
  units = [];
  last = [];
  takes = Consumes-nil old.left;
  meanings = [];
  are_units = refl;
  made = before;
  allowed = refl;
  ends = (refl, omega arith, inl refl, refl);
  reader_failures = refl;
}
