-- Where loading stands before a payload unit or an end of data.
use Rattle.std.proofs.Common.{◌≡◌, ◌≤◌, ◌<◌, ℕ, ◌+◌, Bool, List, [], ◌∷◌, ◌++◌}
use Rattle.std.proofs.Common.{length, take, drop, Option, Some, None, Result, Ok, Err}
use Rattle.std.proofs.Common.{◌⊎◌, inl, inr, refl, sym, ap, subst, ◌∙◌, arith}
use Rattle.std.proofs.lemmas.List.{length-append, take-append-drop}
use Rattle.std.specs.List.{AllByRecursion, flat_map}
use Rattle.rtr_base.specs.declared.action.Action.{Action}
use Rattle.rtr_units.specs.AnyEnd.{end_meaning}
use Rattle.rtr_units.specs.declared.end.EndOfData.{EndOfData}
use Rattle.rtr_payload.specs.Payloads.{Payload}
use Rattle.rtr_payload.specs.UnitFields.{Fields, meaning}
use Rattle.rtr_payload.specs.Units.{IsUnit}
use Rattle.unit_any.specs.AnyFields.{AnyFields, HasAnyFields, any_list, payload}
use Rattle.data_memory.specs.Changes.{after_all}
use Rattle.data_memory.specs.Data.{Change, after}
use Rattle.data_memory.specs.Deltas.{unit_of}
use Rattle.data_memory.specs.Sequences.{change_of}
use Rattle.data_memory.specs.declared.change_error.ChangeError.{ChangeError}
use Rattle.data_recordings.specs.RecordingRead.{IsRecorded, KeepsPrefixRule}
use Rattle.data_recordings.specs.Recordings.{OpenAnswer, SoMuch, asked_since, begun_in, current}
use Rattle.data_recordings.specs.Recordings.{held_after, last_session, nothing, step, with_change}
use Rattle.data_recordings.specs.Recordings.{with_open, with_payloads}
use Rattle.data_recordings.specs.declared.stop.Refusal.TheVariants as refusals
use Rattle.data_slices.specs.AtOffsets.{HasUnit, HaveUnits, LieAt, Over, StoppedAt, Up, made_by}
use Rattle.data_slices.specs.AtOffsets.{offsets_of, why}
use Rattle.data_slices.proofs.Refusal.{some_bytes}
use Rattle.data_loading.specs.Loading.{HasOpenAnswer, IsWrong, Taken, current_version}
use Rattle.data_loading.specs.Loading.{version_taken}
use Rattle.data_loading.specs.PrivateLoading.{IsBased, IsBegun, IsCurrent, KeepsData}
use Rattle.data_slices.specs.AtOffsets.{IsOf}
use Rattle.data_slices.proofs.AsTheyCame.{ok_same}
use Rattle.data_recordings.proofs.RecordingSoFar.{all_push, held_more}
use Rattle.data_loading.specs.PrivateLoading.{RefusedThere, StandsAt, made_in, opened_answer}
use Rattle.data_loading.specs.PrivateLoading.{payloads_begun}
use Rattle.data_loading.specs.PrivateLoading.{so_much}
use Rattle.data_loading.specs.declared.fault.LoadReason.TheVariants as reasons
use Rattle.data_loading.specs.declared.held.Answer.{Answer}
use Rattle.data_loading.specs.declared.held.Held.{Held}
use Rattle.data_loading.proofs.Steps.{begins, parts_more, recorded, size_is}
use Rattle.data_loading.proofs.Steps.{size_more, split, version_more}
use Rattle.data_loading.proofs.Opened.{none_yet, one_more}

-- what the units leave where they made these payloads of those of their answer
pub record Leaves (h : Held) (d : List Payload) (a : Answer) (units : List AnyFields)
    (made : List Payload) : Type 0 where
  pub held : SoMuch
  pub makes : held_after units (Ok nothing) ≡ Ok held
  pub is_current : current held ≡ with_payloads (opened_answer d a) made
  pub is_open : with_open held ≡
      record (with_open (so_much h d)) { pending = Some (with_payloads (opened_answer d a) made) }
  pub version : current_version held (version_taken units) ≡ a.version

-- the answer is open, or begins next
pub record Ready (h : Held) (a : Answer) (at : ℕ) (input index output : List ℕ) : Type 0 where
  pub d : List Payload
  pub keeps : KeepsData h.length h.end d output
  pub units : List AnyFields
  pub left : List ℕ
  pub parts : input ≡ flat_map any_list units ++ left
  pub size : at ≡ length (flat_map any_list units)
  pub are_recorded : AllByRecursion IsRecorded units
  pub xs : List (ℕ × Change)
  pub if_allowed : (made : List Payload) →
      after_all (made_by xs) (Ok (payloads_begun a.is_anew d)) ≡ Ok made → Leaves h d a units made
  pub stops : (r : ℕ × Action) → StoppedAt xs (payloads_begun a.is_anew d) r → RefusedThere input r
  pub v : ℕ
  pub lies : LieAt input v xs
  pub of_version : (xs ≡ []) ⊎ (a.version ≡ Some v)
  pub below : AllByRecursion (λ (y : ℕ × Change). y.0 < at) xs
  pub within : length xs ≤ at
  pub counted : length xs ≡ a.count
  pub indexed : a.count ≤ length index → take a.count index ≡ offsets_of xs
  pub opened : HasOpenAnswer a.count input left
  pub based : IsBased a h.end

pub none_stopped : (d : List Payload) (r : ℕ × Action) → StoppedAt [] d r → ⊥
none_stopped d r s = none s.before s.parts
  where
    none : (before : List (ℕ × Change)) → [] ≡ before ++ (r.0, s.c) ∷ s.later → ⊥
    none [] e = absurd cc
    none (b ∷ bs) e = absurd cc

module _ (h : Held) (a : Answer) (at : ℕ) (input index output : List ℕ) where
  ready_idle : (s : StandsAt (record h { pending = None }) at input index output) →
      IsCurrent None a (record h { pending = None }) →
      Ready (record h { pending = None }) a at input index output
  ready_idle s is =
      let d = s.d in
      let m = so_much (record h { pending = None }) d in
      let b : IsBegun a (record h { pending = None }) d (last_session m) = is d in
      let now : begun_in m (last_session m) ≡ opened_answer d a = sym b.answer in
      record {
        d = d;
        keeps = s.keeps;
        units = s.reads.units;
        left = s.reads.left;
        parts = s.reads.parts;
        size = s.reads.size;
        are_recorded = s.reads.are_recorded;
        xs = [];
        if_allowed = λ made all.
            let same : payloads_begun a.is_anew d ≡ made =
            ok_same (payloads_begun a.is_anew d) made all in
            let whole : begun_in m (last_session m) ≡ with_payloads (opened_answer d a) made =
            now ∙ ap (λ x. with_payloads (opened_answer d a) x) same in
            record {
              held = m;
              makes = s.reads.makes;
              is_current = whole;
              is_open = ap (λ (o : OpenAnswer). record m { pending = Some o; asks_all = None })
                  whole;
              version = sym b.version;
            };
        stops = λ r x. absurd (none_stopped (payloads_begun a.is_anew d) r x);
        v = 0;
        lies = record { units = tt; rising = tt };
        of_version = inl refl;
        below = tt;
        within = omega arith;
        counted = sym b.count;
        indexed = λ le. subst (λ n. take n index ≡ []) (sym b.count) refl;
        opened = subst (λ n. HasOpenAnswer n input s.reads.left) (sym b.count)
            (none_yet input at (record {
              units = s.reads.units;
              left = s.reads.left;
              parts = s.reads.parts;
              size = s.reads.size;
              are_recorded = s.reads.are_recorded;
              held = m;
              makes = s.reads.makes;
            }) (inl refl));
        based = b.based;
      }

  ready_open : (b : Answer) (s : StandsAt (record h { pending = Some b }) at input index output) →
      a ≡ b → Ready (record h { pending = Some b }) a at input index output
  ready_open b s is =
      subst (λ x. Ready (record h { pending = Some b }) x at input index output) (sym is) (record {
        d = s.d;
        keeps = s.keeps;
        units = s.reads.units;
        left = s.reads.left;
        parts = s.reads.parts;
        size = s.reads.size;
        are_recorded = s.reads.are_recorded;
        xs = s.reads.xs;
        if_allowed = λ made all.
            let (makes, version) = s.reads.if_allowed made all in
            record {
              held = made_in (so_much (record h { pending = Some b }) s.d) (opened_answer s.d b)
                  made;
              makes = makes;
              is_current = refl;
              is_open = refl;
              version = version;
            };
        stops = s.reads.stops;
        v = s.reads.v;
        lies = s.reads.lies;
        of_version = s.reads.of_version;
        below = s.reads.below;
        within = s.reads.within;
        counted = s.reads.counted;
        indexed = s.reads.indexed;
        opened = s.reads.opened;
        based = s.reads.based;
      })

  ready_by : (p : Option Answer) → StandsAt (record h { pending = p }) at input index output →
      IsCurrent p a (record h { pending = p }) →
      Ready (record h { pending = p }) a at input index output
  ready_by None s is = ready_idle s is
  ready_by (Some b) s is = ready_open b s is

pub ready : (h : Held) (a : Answer) (at : ℕ) (input index output : List ℕ) →
    StandsAt h at input index output → IsCurrent h.pending a h →
    Ready h a at input index output
ready h a at input index output s is = ready_by h a at input index output h.pending s is

-- ---- one change more

made_snoc : (xs : List (ℕ × Change)) (x : ℕ × Change) → made_by (xs ++ x ∷ []) ≡ made_by xs ++ x.1
    ∷ []
made_snoc [] x = refl
made_snoc (y ∷ ys) x = ap (λ l. y.1 ∷ l) (made_snoc ys x)

pub offsets_snoc : (xs : List (ℕ × Change)) (x : ℕ × Change) →
    offsets_of (xs ++ x ∷ []) ≡ offsets_of xs ++ x.0 ∷ []
offsets_snoc [] x = refl
offsets_snoc (y ∷ ys) x = ap (λ l. y.0 ∷ l) (offsets_snoc ys x)

-- what all but the last make, and what the last makes of it
record Lasts (cs : List Change) (c : Change) (r : Result (List Payload) ChangeError)
    (made : List Payload) : Type 0 where
  first : List Payload
  firsts : after_all cs r ≡ Ok first
  last : after c first ≡ Ok made

lasts : (cs : List Change) (c : Change) (r : Result (List Payload) ChangeError)
    (made : List Payload) → after_all (cs ++ c ∷ []) r ≡ Ok made → Lasts cs c r made
lasts [] c (Ok d) made e = record { first = d; firsts = refl; last = e }
lasts [] c (Err x) made e = absurd cc
lasts (b ∷ bs) c (Ok d) made e =
    let l = lasts bs c (after b d) made e in
    record { first = l.first; firsts = l.firsts; last = l.last }
lasts (b ∷ bs) c (Err x) made e = absurd cc

-- one of a list with one more is that, or one of the list
abbrev Where : (xs : List (ℕ × Change)) → (x : ℕ × Change) → (before : List (ℕ × Change)) →
    (y : ℕ × Change) → Type 0
Where xs x before y =
    ((before ≡ xs) × (y ≡ x))
    ⊎ ((later : List (ℕ × Change)) × (xs ≡ before ++ y ∷ later))

further : (z b : ℕ × Change) (zs bs : List (ℕ × Change)) (x y : ℕ × Change) → z ≡ b →
    Where zs x bs y → Where (z ∷ zs) x (b ∷ bs) y
further z b zs bs x y same (inl (e, f)) = inl ((λ i. sym same i ∷ e i), f)
further z b zs bs x y same (inr (later, e)) = inr (later, (λ i. same i ∷ e i))

where_is : (xs : List (ℕ × Change)) (x : ℕ × Change) (before : List (ℕ × Change))
    (y : ℕ × Change) (later : List (ℕ × Change)) → xs ++ x ∷ [] ≡ before ++ y ∷ later →
    Where xs x before y
where_is [] x [] y later e = inl (refl, cc)
where_is [] x (b ∷ []) y later e = absurd cc
where_is [] x (b ∷ (c ∷ bs)) y later e = absurd cc
where_is (z ∷ zs) x [] y later e =
    let same : z ≡ y = cc in
    inr (zs, ap (λ w. w ∷ zs) same)
where_is (z ∷ zs) x (b ∷ bs) y later e =
    let same : z ≡ b = cc in
    let rest : zs ++ x ∷ [] ≡ bs ++ y ∷ later = cc in
    further z b zs bs x y same (where_is zs x bs y later rest)

units_push : (input : List ℕ) (v : ℕ) (xs : List (ℕ × Change)) (x : ℕ × Change) →
    HaveUnits input v (offsets_of xs) (made_by xs) → HasUnit input x.0 (unit_of v x.1) →
    HaveUnits input v (offsets_of (xs ++ x ∷ [])) (made_by (xs ++ x ∷ []))
units_push input v [] x h u = (u, tt)
units_push input v (y ∷ ys) x h u = (h.0, units_push input v ys x h.1 u)

over_push : (n : ℕ) (xs : List (ℕ × Change)) (x : ℕ × Change) → Over n xs → n < x.0 →
    Over n (xs ++ x ∷ [])
over_push n [] x a l = (l, tt)
over_push n (y ∷ ys) x a l = (a.0, over_push n ys x a.1 l)

up_push : (xs : List (ℕ × Change)) (x : ℕ × Change) → Up xs →
    AllByRecursion (λ (y : ℕ × Change). y.0 < x.0) xs → Up (xs ++ x ∷ [])
up_push [] x u b = (tt, tt)
up_push (y ∷ ys) x u b = (over_push y.0 ys x u.0 b.0, up_push ys x u.1 b.1)

below_push : (n m : ℕ) (xs : List (ℕ × Change)) (x : ℕ × Change) → n ≤ m → x.0 < m →
    AllByRecursion (λ (y : ℕ × Change). y.0 < n) xs →
    AllByRecursion (λ (y : ℕ × Change). y.0 < m) (xs ++ x ∷ [])
below_push n m [] x le l b = (l, tt)
below_push n m (y ∷ ys) x le l b = (omega arith, below_push n m ys x le l b.1)

module _ (h : Held) (a : Answer) (at size : ℕ) (input index output : List ℕ)
    (r : Ready h a at input index output) (g : Fields)
    (has : HasAnyFields (take size (drop at input)) (payload g))
    (rule : KeepsPrefixRule (payload g)) (unit : IsUnit (take size (drop at input)) (meaning g))
    (within : at + size ≤ length input) (follows : IsOf a.version (meaning g).version) where
  abbrev d : List Payload
  d = r.d

  abbrev f : AnyFields
  f = payload g

  abbrev x : ℕ × Change
  x = (at, change_of (meaning g))

  abbrev v : ℕ
  v = (meaning g).version

  -- the unit has bytes
  has_bytes : 0 < size
  has_bytes =
      omega (
        arith,
        some_bytes (take size (drop at input)) (meaning g) unit,
        ap length has.bytes,
        size_is input at size r.units r.left r.parts r.size f has rule within,
      )

  there : HasUnit input at (unit_of v (change_of (meaning g)))
  there = record {
    bytes = take size (drop at input);
    left = drop size (drop at input);
    unit = unit;
    parts = sym (take-append-drop size (drop at input));
  }

  lies_first : (a.version ≡ Some r.v) → IsOf a.version v → r.v ≡ v
  lies_first is o = of_is (subst (λ w. IsOf w v) is o)
    where
      of_is : IsOf (Some r.v) v → r.v ≡ v
      of_is o = o

  lies_before : LieAt input v r.xs
  lies_before = elim r.of_version [
    | inl none ↦ subst (LieAt input v) (sym none) (record { units = tt; rising = tt })
    | inr is ↦ subst (λ w. LieAt input w r.xs) (lies_first is follows) r.lies
  ]

  -- the change of the unit is refused
  refused_last : (made : List Payload) (e : ChangeError) →
      after_all (made_by r.xs) (Ok (payloads_begun a.is_anew d)) ≡ Ok made →
      after (change_of (meaning g)) made ≡ Err e →
      (t : Taken input at)
      × IsWrong (reasons.Refused (refusals.Change e)) t.units t.held t.left
  refused_last made e all wrong =
      let l = r.if_allowed made all in (
        record {
          units = r.units;
          left = r.left;
          parts = r.parts;
          size = r.size;
          are_recorded = r.are_recorded;
          held = l.held;
          makes = l.makes;
        },
        (
          f,
          begins input at size r.units r.left r.parts r.size f has rule within,
          ap (with_change l.held)
              (ap (λ (o : OpenAnswer). after (change_of (meaning g)) o.payloads) l.is_current
              ∙ wrong),
        ),
      )

  stops_push : (q : ℕ × Action) → StoppedAt (r.xs ++ x ∷ []) (payloads_begun a.is_anew d) q →
      RefusedThere input q
  stops_push q s = by_place (where_is r.xs x s.before (q.0, s.c) s.later s.parts)
    where
      by_place : Where r.xs x s.before (q.0, s.c) → RefusedThere input q
      by_place (inr (later, e)) =
          r.stops q (record {
            before = s.before;
            c = s.c;
            later = later;
            parts = e;
            made = s.made;
            allowed = s.allowed;
            wrong = s.wrong;
          })
      by_place (inl (e, is)) =
          let same : at ≡ q.0 = sym (ap (λ (y : ℕ × Change). y.0) is) in
          let change : s.c ≡ change_of (meaning g) = ap (λ (y : ℕ × Change). y.1) is in
          subst (λ n. (t : Taken input n)
          × IsWrong (reasons.Refused (refusals.Change (why q.1))) t.units t.held t.left) same
          (refused_last s.made (why q.1)
          (ap (λ l. after_all (made_by l) (Ok (payloads_begun a.is_anew d))) (sym e) ∙ s.allowed)
          (ap (λ c. after c s.made) (sym change) ∙ s.wrong))

  abbrev next_answer : Answer
  next_answer = record a { count = a.count + 1; version = Some v }

  based_next : (end : Option EndOfData) → IsBased a end → IsBased next_answer end
  based_next None b = tt
  based_next (Some x) b = λ anew.
      let is : a.version ≡ Some (end_meaning x).version = b anew in
      ap (λ w. Some w) (sym (of_is (subst (λ w. IsOf w v) is follows)))
    where
      of_is : IsOf (Some (end_meaning x).version) v → (end_meaning x).version ≡ v
      of_is o = o

  module _ (asked : Option Bool) (is_asked : asked ≡ asked_since (so_much h d).pending h.asks_all)
      (index' : List ℕ) (same : length index' ≡ length index)
      (put : (os : List ℕ) → (a.count ≤ length index → take a.count index ≡ os) →
      a.count + 1 ≤ length index' → take (a.count + 1) index' ≡ os ++ at ∷ []) where
    abbrev next_held : Held
    next_held = record h { asks_all = asked; pending = Some next_answer }

    allowed_push : (made : List Payload) →
        after_all (made_by (r.xs ++ x ∷ [])) (Ok (payloads_begun a.is_anew d)) ≡ Ok made →
        (held_after (r.units ++ f ∷ []) (Ok nothing) ≡
        Ok (made_in (so_much next_held d) (opened_answer d next_answer) made))
        × (version_taken (r.units ++ f ∷ []) ≡ Some v)
    allowed_push made all =
        let y = lasts (made_by r.xs) (change_of (meaning g)) (Ok (payloads_begun a.is_anew d)) made
        (ap (λ l. after_all l (Ok (payloads_begun a.is_anew d))) (sym (made_snoc r.xs x)) ∙ all) in
        let l = r.if_allowed y.first y.firsts in
        let step_is : step f l.held ≡
        Ok (record (with_open l.held) { pending = Some (with_payloads (current l.held) made) }) =
        ap (with_change l.held)
        (ap (λ (o : OpenAnswer). after (change_of (meaning g)) o.payloads) l.is_current
        ∙ y.last) in
        let leads : record (with_open l.held) {
          pending = Some (with_payloads (current l.held)
              made);
        } ≡
        made_in (so_much next_held d) (opened_answer d next_answer) made =
        (λ i. record (l.is_open i) { pending = Some (with_payloads (l.is_current i) made) })
        ∙ (λ i. record (made_in (so_much next_held d) (opened_answer d next_answer) made) {
          asks_all = sym is_asked i;
        }) in (
          held_more r.units (Ok nothing) l.held f l.makes ∙ step_is ∙ ap (λ m. Ok m) leads,
          version_more r.units (Ok nothing) None l.held f l.makes,
        )

    pub pushes : StandsAt next_held (at + size) input index' output
    pushes = record {
      d = d;
      keeps = r.keeps;
      reads = record {
        units = r.units ++ f ∷ [];
        left = drop size r.left;
        parts = parts_more input at size r.units r.left r.parts r.size f has rule within;
        size = size_more input at size r.units r.left r.parts r.size f has rule within;
        are_recorded =
            all_push IsRecorded r.units f r.are_recorded
            (recorded input at size r.units r.left r.parts r.size f has rule within);
        xs = r.xs ++ x ∷ [];
        if_allowed = allowed_push;
        stops = stops_push;
        v = v;
        lies = record {
          units = units_push input v r.xs x lies_before.units there;
          rising = up_push r.xs x r.lies.rising r.below;
        };
        of_version = inr refl;
        below = below_push at (at + size) r.xs x (omega arith) (omega (arith, has_bytes)) r.below;
        within =
            omega (arith, length-append r.xs (x ∷ []), r.within, has_bytes);
        counted = omega (arith, length-append r.xs (x ∷ []), r.counted);
        indexed = λ le. put (offsets_of r.xs) r.indexed le ∙ sym (offsets_snoc r.xs x);
        opened = subst (λ n. HasOpenAnswer n input (drop size r.left)) (omega arith)
            (one_more a.count input r.left (drop size r.left) f r.opened
            (recorded input at size r.units r.left r.parts r.size f has rule within) tt
            (split input at size r.units r.left r.parts r.size f has rule within) refl);
        based = based_next h.end r.based;
      };
    }

-- ---- for an end of data

pub lies_at_end : (h : Held) (a : Answer) (at : ℕ) (input index output : List ℕ)
    (r : Ready h a at input index output) (v : ℕ) → IsOf a.version v → LieAt input v r.xs
lies_at_end h a at input index output r v o = elim r.of_version [
  | inl none ↦ subst (LieAt input v) (sym none) (record { units = tt; rising = tt })
  | inr is ↦
      subst (λ w. LieAt input w r.xs) (of_is r.v (subst (λ w. IsOf w v) is o)) r.lies
]
  where
    of_is : (w : ℕ) → IsOf (Some w) v → w ≡ v
    of_is w o = o
