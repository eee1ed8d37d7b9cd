-- What a unit makes of where loading stands.
use Rattle.std.proofs.Common.{◌≡◌, ◌≢◌, ◌≤◌, ◌<◌, ℕ, ◌+◌, Bool, true, false, List, []}
use Rattle.std.proofs.Common.{◌∷◌, ◌++◌, length, take, drop, Option, Some, None, Ok}
use Rattle.std.proofs.Common.{Err, inl, inr, refl, sym, ap, subst, ◌∙◌, arith}
use Rattle.std.proofs.lemmas.List.{length-append}
use Rattle.std.specs.List.{AllByRecursion, flat_map}
use Rattle.std.specs.Option.{is_some, option_map}
use Rattle.std.specs.Prelude.{◌||◌}
use Rattle.rtr_base.specs.declared.action.Action.{Action}
use Rattle.rtr_units.specs.AnyEnd.{end_meaning}
use Rattle.rtr_units.specs.End.{EndMeaning}
use Rattle.rtr_units.specs.declared.end.EndOfData.{EndOfData}
use Rattle.rtr_payload.specs.Payloads.{Payload}
use Rattle.unit_views.specs.declared.fault.ViewFault.{ViewFault}
use Rattle.unit_views.specs.declared.fault.ViewFault.TheVariants.{Short}
use Rattle.unit_any.specs.AnyFields.{AnyFields, HasAnyFields, any_list}
use Rattle.unit_any.specs.AnyFields.{cache_response, end_of_data}
use Rattle.unit_any.specs.SessionViews.{IsSessionFault}
use Rattle.data_memory.specs.Changes.{after_all}
use Rattle.data_memory.specs.Data.{Change}
use Rattle.data_recordings.specs.RecordingRead.{IsRecorded, KeepsPrefixRule}
use Rattle.data_recordings.specs.Recordings.{OpenAnswer, SoMuch, asked_since, begins_anew}
use Rattle.data_recordings.specs.Recordings.{begun_if, current}
use Rattle.data_recordings.specs.Recordings.{is_whole, last_session, nothing, opens_answer}
use Rattle.data_recordings.specs.Recordings.{refusal_in, step, unless_refused, whole, with_open}
use Rattle.data_recordings.specs.Recordings.{with_payloads}
use Rattle.data_recordings.specs.declared.stop.Refusal.{Refusal}
use Rattle.data_recordings.specs.declared.stop.Refusal.TheVariants as refusals
use Rattle.data_slices.specs.AtOffsets.{ChecksAt, HaveLying, IsBase, made_by}
use Rattle.data_slices.specs.AtOffsets.{why}
use Rattle.data_loading.specs.Loading.{HasOpenAnswer, IsInside, Loads, RefusesLoad}
use Rattle.data_loading.specs.Loading.{Taken, begun_version, current_version, is_payload}
use Rattle.data_loading.specs.Loading.{version_borne, version_step, version_taken}
use Rattle.data_loading.specs.PrivateLoading.{GathersAnswer, Idle, IsBased, IsBegun, IsCurrent}
use Rattle.data_slices.specs.AtOffsets.{IsOf}
use Rattle.data_slices.proofs.AsTheyCame.{ok_same}
use Rattle.data_recordings.proofs.RecordingSoFar.{all_push, held_more}
use Rattle.data_loading.specs.PrivateLoading.{IsRightReason, IsStateOf, KeepsData, ReadsSoMuch}
use Rattle.data_loading.specs.PrivateLoading.{StandsAt}
use Rattle.data_loading.specs.PrivateLoading.{StandsWhole, WritesBack, base_size, change_fault_of}
use Rattle.data_loading.specs.PrivateLoading.{made_in, opened_answer, payloads_begun, so_much}
use Rattle.data_loading.specs.declared.fault.LoadFault.{LoadFault}
use Rattle.data_loading.specs.declared.fault.LoadFault.TheVariants as faults
use Rattle.data_loading.specs.declared.fault.LoadReason.TheVariants as reasons
use Rattle.data_loading.specs.declared.held.Answer.{Answer}
use Rattle.data_loading.specs.declared.held.Held.{Held}
use Rattle.data_loading.proofs.Ready.{Leaves, Ready, none_stopped}
use Rattle.data_loading.proofs.Steps.{begins, left_is, parts_more, recorded}
use Rattle.data_loading.proofs.Steps.{size_more, split, version_more}
use Rattle.data_loading.proofs.Opened.{none_more, none_yet}

-- ---- the data that an answer changes

pub kept_within : (n : ℕ) (end : Option EndOfData) (d : List Payload) (output : List ℕ) →
    KeepsData n end d output → n ≤ length output
kept_within n None d output k = omega (arith, k.0)
kept_within n (Some x) d output k = k.0

pub base_is : (anew : Bool) (n : ℕ) (end : Option EndOfData) (d : List Payload)
    (output : List ℕ) → KeepsData n end d output →
    (w : ℕ) × IsBase w (take (base_size anew n) output) (payloads_begun anew d)
base_is true n end d output k = (0, inl (refl, refl))
base_is false n None d output k = (0, inl (ap (λ i. take i output) k.0, k.1))
base_is false n (Some x) d output k =
    ((end_meaning x).version, inr (end_meaning x, refl, k.3))

-- for an end of data of the version of the answer
pub base_of_end : (a : Answer) (anew : Bool) → a.is_anew ≡ anew → (n : ℕ)
    (end : Option EndOfData) (d : List Payload) (output : List ℕ) (v : ℕ) →
    KeepsData n end d output → IsBased a end → IsOf a.version v →
    IsBase v (take (base_size anew n) output) (payloads_begun anew d)
base_of_end a true e n end d output v k b o = inl (refl, refl)
base_of_end a false e n None d output v k b o = inl (ap (λ i. take i output) k.0, k.1)
base_of_end a false e n (Some x) d output v k b o =
    inr (end_meaning x, of_is (subst (λ w. IsOf w v) (b e) o), k.3)
  where
    of_is : IsOf (Some (end_meaning x).version) v → (end_meaning x).version ≡ v
    of_is o = o

-- ---- the open answer's changes

module _ (h : Held) (b : Answer) (e : h.pending ≡ Some b) (at : ℕ)
    (input index output : List ℕ) (s : StandsAt h at input index output) where
  pub gathers : GathersAnswer input at (so_much h s.d) (opened_answer s.d b) b index h.end
  gathers = subst (λ p. ReadsSoMuch p input at (so_much h s.d) s.d index h.end) e s.reads

  pub lying : b.count ≤ length index → HaveLying input (take b.count index) gathers.v
  lying le = (gathers.xs, gathers.indexed le, gathers.lies)

  pub no_index : (room : ℕ) → length index < b.count →
      RefusesLoad (faults.NoIndex b.count) input (length index) room
  no_index room lt = (lt, gathers.left, gathers.opened)

  module _ (le : b.count ≤ length index) (x : Option (ℕ × Action))
      (check : ChecksAt x (take (base_size b.is_anew h.length) output) input
      (take b.count index)) where
    pub all_allowed : x ≡ None → StandsWhole h s.d input at
    all_allowed none =
        let g = gathers in
        let k = base_is b.is_anew h.length h.end s.d output s.keeps in
        let (made, all) = subst (λ y. ChecksAt y (take (base_size b.is_anew h.length) output) input
        (take b.count index)) none check g.v k.0 (payloads_begun b.is_anew s.d) g.xs k.1
        (g.indexed le) g.lies in
        let (makes, version) = g.if_allowed made all in (
          record {
            units = g.units;
            left = g.left;
            parts = g.parts;
            size = g.size;
            are_recorded = g.are_recorded;
            held = made_in (so_much h s.d) (opened_answer s.d b) made;
            makes = makes;
          },
          subst (λ p. IsStateOf p (so_much h s.d) s.d g.units
              (made_in (so_much h s.d) (opened_answer s.d b) made)) (sym e) (made, refl, version),
        )

    pub refused : (room : ℕ) (o : ℕ) (a : Action) → x ≡ Some (o, a) →
        RefusesLoad (change_fault_of o a) input (length index) room
    refused room o a some =
        let g = gathers in
        let k = base_is b.is_anew h.length h.end s.d output s.keeps in
        g.stops (o, a)
        (subst (λ y. ChecksAt y (take (base_size b.is_anew h.length) output) input
        (take b.count index)) some check g.v k.0 (payloads_begun b.is_anew s.d) g.xs k.1
        (g.indexed le) g.lies)

pub idle_whole : (h : Held) (e : h.pending ≡ None) (at : ℕ) (input index output : List ℕ)
    (s : StandsAt h at input index output) → StandsWhole h s.d input at
idle_whole h e at input index output s =
    let i : Idle input at (so_much h s.d) =
    subst (λ p. ReadsSoMuch p input at (so_much h s.d) s.d index h.end) e s.reads in (
      record {
        units = i.units;
        left = i.left;
        parts = i.parts;
        size = i.size;
        are_recorded = i.are_recorded;
        held = so_much h s.d;
        makes = i.makes;
      },
      subst (λ p. IsStateOf p (so_much h s.d) s.d i.units (so_much h s.d)) (sym e) refl,
    )

-- ---- what is right of a unit, whatever the units before it leave

record Knows (d : List Payload) (a : Answer) (units : List AnyFields) (held : SoMuch) : Type 0 where
  made : List Payload
  is_current : current held ≡ with_payloads (opened_answer d a) made
  version : current_version held (version_taken units) ≡ a.version

knows : (h : Held) (p : Option Answer) (a : Answer) (d : List Payload) (units : List AnyFields)
    (held : SoMuch) → IsStateOf p (so_much (record h { pending = p }) d) d units held →
    IsCurrent p a (record h { pending = p }) → Knows d a units held
knows h None a d units held is c =
    let m = so_much (record h { pending = None }) d in
    let b : IsBegun a (record h { pending = None }) d (last_session m) = c d in
    record {
      made = payloads_begun a.is_anew d;
      is_current = ap current is ∙ sym b.answer;
      version =
          ap (λ (x : SoMuch). current_version x (version_taken units)) is ∙ sym b.version;
    }
knows h (Some b) a d units held (made, is, version) c = record {
  made = made;
  is_current = ap current is ∙ ap (λ (x : Answer). with_payloads (opened_answer d x) made) (sym c);
  version =
      ap (λ (x : SoMuch). current_version x (version_taken units)) is ∙ version
      ∙ ap (λ (x : Answer). x.version) (sym c);
}

some_other : (version : Option ℕ) (v : ℕ) → (IsOf version v → ⊥) →
    (w : ℕ) × (version ≡ Some w) × (w ≢ v)
some_other None v n = absurd (n tt)
some_other (Some w) v n = (w, refl, n)

module _ (h : Held) (a : Answer) (c : IsCurrent h.pending a h) (at size : ℕ) (input : List ℕ)
    (f : AnyFields) (has : HasAnyFields (take size (drop at input)) f) (rule : KeepsPrefixRule f)
    (within : at + size ≤ length input) where
  pub other_version : (v : ℕ) → version_borne f ≡ Some v → (IsOf a.version v → ⊥) →
      IsRightReason (reasons.UnitVersion v) h input at
  other_version v of n d t is =
      let k = knows h h.pending a d t.units t.held is c in
      let (w, some, other) = some_other a.version v n in (
        f,
        begins input at size t.units t.left t.parts t.size f has rule within,
        (of, w, k.version ∙ some, other),
      )

  pub end_refused : (e : EndMeaning) (same : f ≡ end_of_data e) (why : Refusal) →
      ((d : List Payload) → refusal_in (opened_answer d a) e ≡ Some why) →
      IsRightReason (reasons.Refused why) h input at
  end_refused e same why is d t st =
      let k = knows h h.pending a d t.units t.held st c in (
        f,
        begins input at size t.units t.left t.parts t.size f has rule within,
        ap (λ x. step x t.held) same
            ∙ ap (λ x. unless_refused x (whole (with_open t.held) (current t.held).payloads e))
            (ap (λ (o : OpenAnswer). refusal_in o e) k.is_current ∙ is d),
      )

-- a unit that may not stand in an open answer
module _ (h : Held) (b : Answer) (e : h.pending ≡ Some b) (at size : ℕ) (input : List ℕ)
    (f : AnyFields) (has : HasAnyFields (take size (drop at input)) f) (rule : KeepsPrefixRule f)
    (within : at + size ≤ length input) (why : Refusal)
    (stops : (m : SoMuch) (o : OpenAnswer) → m.pending ≡ Some o → step f m ≡ Err why) where
  pub not_alone : IsRightReason (reasons.Refused why) h input at
  not_alone d t st =
      let (made, is, version) = subst (λ p. IsStateOf p (so_much h d) d t.units t.held) e st in (
        f,
        begins input at size t.units t.left t.parts t.size f has rule within,
        stops t.held (with_payloads (opened_answer d b) made)
            (ap (λ (m : SoMuch). m.pending) is),
      )

-- ---- a unit more, where no answer is open

module _ (input : List ℕ) (at size : ℕ) (m n : SoMuch) (i : Idle input at m) (f : AnyFields)
    (has : HasAnyFields (take size (drop at input)) f) (rule : KeepsPrefixRule f)
    (within : at + size ≤ length input) (so : step f m ≡ Ok n) where
  pub idle_more : Idle input (at + size) n
  idle_more = record {
    units = i.units ++ f ∷ [];
    left = drop size i.left;
    parts = parts_more input at size i.units i.left i.parts i.size f has rule within;
    size = size_more input at size i.units i.left i.parts i.size f has rule within;
    are_recorded =
        all_push IsRecorded i.units f i.are_recorded
        (recorded input at size i.units i.left i.parts i.size f has rule within);
    makes = held_more i.units (Ok nothing) m f i.makes ∙ so;
  }

below_more : (n m : ℕ) (xs : List (ℕ × Change)) → n ≤ m →
    AllByRecursion (λ (y : ℕ × Change). y.0 < n) xs →
    AllByRecursion (λ (y : ℕ × Change). y.0 < m) xs
below_more n m [] le h = tt
below_more n m (x ∷ xs) le (g, h) = (omega arith, below_more n m xs le h)

-- ---- a query or a notify, which says at most what is asked for

module _ (h : Held) (at size : ℕ) (input index output : List ℕ) (x : Option Bool) (f : AnyFields)
    (has : HasAnyFields (take size (drop at input)) f) (rule : KeepsPrefixRule f)
    (within : at + size ≤ length input)
    (asks : (m : SoMuch) → m.asks_all ≡ h.asks_all → step f m ≡ Ok (record m { asks_all = x }))
    (keeps_version : (m : SoMuch) (w : Option ℕ) → version_step f m w ≡ w) (inside : IsInside f)
    (other : is_payload f ≡ false) where
  asked : (p : Option Answer) (d : List Payload) →
      ReadsSoMuch p input at (so_much (record h { pending = p }) d) d index h.end →
      ReadsSoMuch p input (at + size) (so_much (record h { pending = p; asks_all = x }) d) d index
      h.end
  asked None d i =
      let m = so_much (record h { pending = None }) d in
      idle_more input at size m (record m { asks_all = x }) i f has rule within (asks m refl)
  asked (Some b) d g =
      let m = so_much (record h { pending = Some b }) d in
      let o = opened_answer d b in
      record {
        units = g.units ++ f ∷ [];
        left = drop size g.left;
        parts = parts_more input at size g.units g.left g.parts g.size f has rule within;
        size = size_more input at size g.units g.left g.parts g.size f has rule within;
        are_recorded =
            all_push IsRecorded g.units f g.are_recorded
            (recorded input at size g.units g.left g.parts g.size f has rule within);
        xs = g.xs;
        if_allowed = λ made all.
            let (makes, version) = g.if_allowed made all in (
              held_more g.units (Ok nothing) (made_in m o made) f makes
                  ∙ asks (made_in m o made) refl,
              version_more g.units (Ok nothing) None (made_in m o made) f makes
                  ∙ keeps_version (made_in m o made) (version_taken g.units) ∙ version,
            );
        stops = g.stops;
        v = g.v;
        lies = g.lies;
        of_version = g.of_version;
        below = below_more at (at + size) g.xs (omega arith) g.below;
        within = omega (arith, g.within);
        counted = g.counted;
        indexed = g.indexed;
        opened = none_more b.count input g.left (drop size g.left) f g.opened
            (recorded input at size g.units g.left g.parts g.size f has rule within) inside
            (split input at size g.units g.left g.parts g.size f has rule within) other;
        based = g.based;
      }

  pub asked_more : (s : StandsAt h at input index output) →
      StandsAt (record h { asks_all = x }) (at + size) input index output
  asked_more s = record { d = s.d; keeps = s.keeps; reads = asked h.pending s.d s.reads }

-- ---- a cache response

module _ (h : Held) (a : Answer) (at size session : ℕ) (input index index' output : List ℕ)
    (v : ℕ) (has : HasAnyFields (take size (drop at input)) (cache_response v session))
    (within : at + size ≤ length input)
    (begun_so : (d : List Payload) → IsBegun a h d (Some session)) where
  abbrev next_held : Held
  next_held = record h {
    pending = Some a;
    asks_all = None;
    has_cut = h.has_cut || is_some h.pending;
  }

  abbrev before : Option Answer → Option Bool → List Payload → SoMuch
  before p k d = so_much (record h { pending = p; asks_all = k }) d

  abbrev Opens : Option Answer → Option Bool → List Payload → SoMuch → Type 0
  Opens p k d held =
      (opens_answer held session ≡ record (before p k d) {
        pending = Some (opened_answer d a);
        asks_all = None;
        has_cut = h.has_cut || is_some p;
      }) × (begun_version held (Some session) ≡ a.version)

  -- of what the cut answer made nothing counts
  cut_begun : (c : Answer) (k : Option Bool) (d made : List Payload) (anew : Bool) →
      begun_if anew (made_in (before (Some c) k d) (opened_answer d c) made) (Some session) ≡
      begun_if anew (before (Some c) k d) (Some session)
  cut_begun c None d made true = refl
  cut_begun c None d made false = refl
  cut_begun c (Some all) d made true = refl
  cut_begun c (Some all) d made false = refl

  opens_cut : (c : Answer) (k : Option Bool) (d made : List Payload) →
      IsBegun a (record h { pending = Some c; asks_all = k }) d (Some session) →
      Opens (Some c) k d (made_in (before (Some c) k d) (opened_answer d c) made)
  opens_cut c None d made b = (
    ap (λ (o : OpenAnswer). record (before (Some c) None d) {
      pending = Some o;
      asks_all = None;
      has_cut = h.has_cut || true;
    })
        (cut_begun c None d made (begins_anew (before (Some c) None d) (Some session))
        ∙ sym b.answer),
    sym b.version,
  )
  opens_cut c (Some all) d made b = (
    ap (λ (o : OpenAnswer). record (before (Some c) (Some all) d) {
      pending = Some o;
      asks_all = None;
      has_cut = h.has_cut || true;
    })
        (cut_begun c (Some all) d made
        (begins_anew (before (Some c) (Some all) d) (Some session)) ∙ sym b.answer),
    sym b.version,
  )

  opens_so : (p : Option Answer) (k : Option Bool) (d : List Payload) (units : List AnyFields)
      (held : SoMuch) → IsStateOf p (before p k d) d units held →
      IsBegun a (record h { pending = p; asks_all = k }) d (Some session) → Opens p k d held
  opens_so None k d units held is b =
      subst (Opens None k d) (sym is) (
        ap (λ (o : OpenAnswer). record (before None k d) {
          pending = Some o;
          asks_all = None;
          has_cut = h.has_cut || false;
        }) (sym b.answer),
        sym b.version,
      )
  opens_so (Some c) k d units held (made, is, version) b =
      subst (Opens (Some c) k d) (sym is) (opens_cut c k d made b)

  module _ (s : StandsAt h at input index output) (w : StandsWhole h s.d input at) where
    abbrev t : Taken input at
    t = w.0

    abbrev f : AnyFields
    f = cache_response v session

    opens : (opens_answer t.held session ≡ so_much next_held s.d)
        × (begun_version t.held (Some session) ≡ a.version)
    opens = opens_so h.pending h.asks_all s.d t.units t.held w.1 (begun_so s.d)

    pub responds : StandsAt next_held (at + size) input index' output
    responds = record {
      d = s.d;
      keeps = s.keeps;
      reads = record {
        units = t.units ++ f ∷ [];
        left = drop size t.left;
        parts = parts_more input at size t.units t.left t.parts t.size f has tt within;
        size = size_more input at size t.units t.left t.parts t.size f has tt within;
        are_recorded =
            all_push IsRecorded t.units f t.are_recorded
            (recorded input at size t.units t.left t.parts t.size f has tt within);
        xs = [];
        if_allowed = λ made all.
            let same : payloads_begun a.is_anew s.d ≡ made =
            ok_same (payloads_begun a.is_anew s.d) made all in (
              held_more t.units (Ok nothing) t.held f t.makes ∙ ap (λ m. Ok m) opens.0
                  ∙ ap (λ d. Ok (made_in (so_much next_held s.d) (opened_answer s.d a) d)) same,
              version_more t.units (Ok nothing) None t.held f t.makes ∙ opens.1,
            );
        stops = λ r x. absurd (none_stopped (payloads_begun a.is_anew s.d) r x);
        v = 0;
        lies = record { units = tt; rising = tt };
        of_version = inl refl;
        below = tt;
        within = omega arith;
        counted = sym (begun_so s.d).count;
        indexed = λ le. subst (λ n. take n index' ≡ []) (sym (begun_so s.d).count) refl;
        opened = subst (λ n. HasOpenAnswer n input (drop size t.left)) (sym (begun_so s.d).count)
            (none_yet input (at + size) (record {
              units = t.units ++ f ∷ [];
              left = drop size t.left;
              parts = parts_more input at size t.units t.left t.parts t.size f has tt within;
              size = size_more input at size t.units t.left t.parts t.size f has tt within;
              are_recorded =
                  all_push IsRecorded t.units f t.are_recorded
                  (recorded input at size t.units t.left t.parts t.size f has tt within);
              held = opens_answer t.held session;
              makes = held_more t.units (Ok nothing) t.held f t.makes;
            }) (inr (t.units, v, session, refl)));
        based = (begun_so s.d).based;
      };
    }

-- ---- an end of data

module _ (h : Held) (a : Answer) (at size : ℕ) (input index output : List ℕ)
    (r : Ready h a at input index output) (x : EndOfData)
    (has : HasAnyFields (take size (drop at input)) (end_of_data (end_meaning x)))
    (within : at + size ≤ length input)
    (fits : refusal_in (opened_answer r.d a) (end_meaning x) ≡ None) (asked : Option Bool)
    (is_asked : asked ≡ asked_since (so_much h r.d).pending h.asks_all) where
  abbrev ends : AnyFields
  ends = end_of_data (end_meaning x)

  abbrev pub closed_held : ℕ → Held
  closed_held n = record {
    length = n;
    end = Some x;
    pending = None;
    asks_all = asked;
    has_cut = h.has_cut;
  }

  abbrev left_so : List Payload → SoMuch
  left_so made = record {
    kept = made;
    end = Some (end_meaning x);
    pending = None;
    asks_all = asked;
    has_cut = h.has_cut;
  }

  makes_closed : (made : List Payload) → (l : Leaves h r.d a r.units made) →
      step ends l.held ≡ Ok (left_so made)
  makes_closed made l =
      ap (λ y. unless_refused y (whole (with_open l.held) (current l.held).payloads (end_meaning
      x)))
      (ap (λ (o : OpenAnswer). refusal_in o (end_meaning x)) l.is_current ∙ fits)
      ∙ (λ i. Ok (whole (l.is_open i) (l.is_current i).payloads (end_meaning x)))
      ∙ (λ i. Ok (record (left_so made) { asks_all = sym is_asked i }))

  pub closed_idle : (made : List Payload) →
      after_all (made_by r.xs) (Ok (payloads_begun a.is_anew r.d)) ≡ Ok made →
      Idle input (at + size) (left_so made)
  closed_idle made all =
      let l = r.if_allowed made all in
      idle_more input at size l.held (left_so made)
      (record {
        units = r.units;
        left = r.left;
        parts = r.parts;
        size = r.size;
        are_recorded = r.are_recorded;
        makes = l.makes;
      }) ends has tt within (makes_closed made l)

  pub closes : (n : ℕ) (index' output' : List ℕ) (made : List Payload) →
      after_all (made_by r.xs) (Ok (payloads_begun a.is_anew r.d)) ≡ Ok made →
      KeepsData n (Some x) made output' →
      StandsAt (closed_held n) (at + size) input index' output'
  closes n index' output' made all keeps = record {
    d = made;
    keeps = keeps;
    reads = closed_idle made all;
  }

  pub back_refuses : (g : LoadFault) (places room : ℕ) (after : List ℕ) →
      WritesBack (Err g) r.xs (payloads_begun a.is_anew r.d) x room after →
      RefusesLoad g input places room
  back_refuses (faults.Refused o (reasons.Refused (refusals.Change e))) places room after w =
      let (b, stopped, is) = w in
      subst (λ y. RefusesLoad (faults.Refused o (reasons.Refused (refusals.Change y))) input places
      room) (sym is) (r.stops (o, b) stopped)
  back_refuses (faults.Refused o (reasons.Refused (refusals.Session s b))) places room after w =
      absurd w
  back_refuses (faults.Refused o (reasons.Refused (refusals.Serial s b))) places room after w =
      absurd w
  back_refuses (faults.Refused o (reasons.Refused refusals.CacheReset)) places room after w =
      absurd w
  back_refuses (faults.Refused o (reasons.Refused refusals.ErrorReport)) places room after w =
      absurd w
  back_refuses (faults.Refused o (reasons.Read e)) places room after w = absurd w
  back_refuses (faults.Refused o (reasons.UnitVersion v)) places room after w = absurd w
  back_refuses (faults.NoIndex n) places room after w = absurd w
  back_refuses faults.NoRoom places room after (made, all, long) =
      let i = closed_idle made all in (
        at + size,
        record {
          units = i.units;
          left = i.left;
          parts = i.parts;
          size = i.size;
          are_recorded = i.are_recorded;
          held = left_so made;
          makes = i.makes;
        },
        end_meaning x,
        refl,
        long,
      )

-- ---- the end of the input

module _ (h : Held) (input index output : List ℕ)
    (s : StandsAt h (length input) input index output) where
  pub loads : (x : EndOfData) → h.pending ≡ None → h.end ≡ Some x →
      Loads (record { length = h.length; end = x; has_cut = h.has_cut }) input output
  loads x none some =
      let i : Idle input (length input) (so_much h s.d) =
      subst (λ p. ReadsSoMuch p input (length input) (so_much h s.d) s.d index h.end) none s.reads
      in
      let k : KeepsData h.length (Some x) s.d output =
      subst (λ e. KeepsData h.length e s.d output) some s.keeps in
      record {
        taken = record {
          units = i.units;
          left = i.left;
          parts = i.parts;
          size = i.size;
          are_recorded = i.are_recorded;
          held = so_much h s.d;
          makes = i.makes;
        };
        none_open = ap (option_map (opened_answer s.d)) none;
        end = ap (option_map end_meaning) some;
        has_cut = refl;
        written_form = k.2;
        size = k.1;
        canonical = k.3;
      }

nothing_left : (input front left : List ℕ) → input ≡ front ++ left →
    length input ≡ length front → left ≡ []
nothing_left input front [] parts size = refl
nothing_left input front (x ∷ left) parts size =
    absurd (omega (arith, ap length parts, length-append front (x ∷ left), size))

not_whole : (h : Held) (p : Option Answer) (end : Option EndOfData) (d : List Payload)
    (units : List AnyFields) (held : SoMuch) →
    IsStateOf p (so_much (record h { pending = p; end = end }) d) d units held →
    ((x : EndOfData) → p ≡ None → end ≡ Some x → ⊥) → is_whole held ≡ false
not_whole h None None d units held is n = ap is_whole is
not_whole h None (Some x) d units held is n = absurd (n x refl refl)
not_whole h (Some b) end d units held (made, is, version) n = ap is_whole is

pub ends_short : (h : Held) (input : List ℕ) →
    ((x : EndOfData) → h.pending ≡ None → h.end ≡ Some x → ⊥) →
    IsRightReason (reasons.Read Short) h input (length input)
ends_short h input n d t st =
    inl (
      nothing_left input (flat_map any_list t.units) t.left t.parts t.size,
      refl,
      not_whole h h.pending h.end d t.units t.held st n,
    )

pub reads_wrong : (h : Held) (input : List ℕ) (at : ℕ) (e : ViewFault) (size : Option ℕ) →
    at < length input → IsSessionFault (drop at input) e size →
    IsRightReason (reasons.Read e) h input at
reads_wrong h input at e size below fault d t st =
    let is : drop at input ≡ t.left =
    left_is input (flat_map any_list t.units) t.left at t.parts t.size in
    inr (
      λ none.
          omega (
            arith,
            ap length t.parts,
            ap length none,
            length-append (flat_map any_list t.units) t.left,
            t.size,
            below,
          ),
      size,
      subst (λ l. IsSessionFault l e size) is fault,
    )

-- ---- before the first unit

pub begins_with_nothing : (input index output : List ℕ) →
    StandsAt (record {
      length = 0;
      end = None;
      pending = None;
      asks_all = None;
      has_cut = false;
    }) 0 input index output
begins_with_nothing input index output = record {
  d = [];
  keeps = (refl, refl);
  reads = record {
    units = [];
    left = input;
    parts = refl;
    size = refl;
    are_recorded = tt;
    makes = refl;
  };
}
