-- How each unit is taken, by what is seen of it.
use Rattle.std.proofs.Common.{◌≡◌, ◌≤◌, ℕ, ◌+◌, Bool, true, false, List, [], ◌∷◌, ◌++◌, length}
use Rattle.std.proofs.Common.{take, drop, Option, Some, None, Ok, Err, refl, sym, ap, subst}
use Rattle.std.specs.Option.{is_some, option_map}
use Rattle.std.specs.Prelude.{◌||◌}
use Rattle.rtr_units.specs.AnyEnd.{end_bytes, end_meaning}
use Rattle.rtr_units.specs.End.{IsEnd}
use Rattle.rtr_units.specs.declared.end.EndOfData.{EndOfData}
use Rattle.rtr_payload.specs.Payloads.{Payload}
use Rattle.rtr_payload.specs.UnitFields.{Fields, meaning}
use Rattle.rtr_payload.specs.Units.{IsUnit}
use Rattle.unit_any.specs.AnyFields.{HasAnyFields, cache_reset}
use Rattle.unit_any.specs.AnyFields.{end_of_data, error_report, payload, reset_query}
use Rattle.unit_any.specs.AnyFields.{serial_notify, serial_query}
use Rattle.data_recordings.specs.RecordingRead.{KeepsPrefixRule}
use Rattle.data_recordings.specs.Recordings.{SoMuch, asked_since, refusal_in, unless_open}
use Rattle.data_recordings.specs.declared.stop.Refusal.{Refusal}
use Rattle.data_recordings.specs.declared.stop.Refusal.TheVariants as refusals
use Rattle.data_slices.specs.AtOffsets.{HaveLying, IsBase}
use Rattle.data_loading.specs.PrivateLoading.{IsBegun, IsCurrent, IsRightReason}
use Rattle.data_slices.specs.AtOffsets.{IsOf}
use Rattle.data_loading.specs.Loading.{RefusesLoad}
use Rattle.data_loading.specs.PrivateLoading.{ReadsSoMuch, Sees, StandsAt, StandsWhole}
use Rattle.data_loading.specs.PrivateLoading.{WritesBackAll}
use Rattle.data_loading.specs.PrivateLoading.{base_size, opened_answer, payloads_begun, so_much}
use Rattle.data_loading.specs.declared.fault.LoadReason.TheVariants as reasons
use Rattle.data_loading.specs.declared.held.Answer.{Answer}
use Rattle.data_loading.specs.declared.held.Held.{Held}
use Rattle.data_loading.specs.declared.seen.Seen.TheVariants as seens
use Rattle.data_loading.specs.declared.fault.LoadFault.{LoadFault}
use Rattle.data_loading.proofs.Ready.{Ready, lies_at_end, pushes, ready}
use Rattle.data_loading.proofs.Settling.{asked_more, end_refused, idle_more, not_alone}
use Rattle.data_loading.proofs.Settling.{other_version}
use Rattle.data_loading.proofs.Settling.{back_refuses, base_of_end, closes, kept_within, responds}

-- ---- payload units

record PayloadSeen (b : List ℕ) (v : ℕ) : Type 0 where
  g : Fields
  has : HasAnyFields b (payload g)
  rule : KeepsPrefixRule (payload g)
  version : (meaning g).version ≡ v
  unit : IsUnit b (meaning g)

payload_seen : (b : List ℕ) (v : ℕ) → Sees (seens.Payload v) b → PayloadSeen b v
payload_seen b v (f, has, rule, (g, is, version, unit)) = record {
  g = g;
  has = subst (HasAnyFields b) is has;
  rule = subst KeepsPrefixRule is rule;
  version = version;
  unit = unit;
}

module _ (h : Held) (a : Answer) (c : IsCurrent h.pending a h) (at size : ℕ)
    (input index output : List ℕ) (s : StandsAt h at input index output)
    (within : at + size ≤ length input) where
  pub unit_refused : (v : ℕ) → Sees (seens.Payload v) (take size (drop at input)) →
      (IsOf a.version v → ⊥) → IsRightReason (reasons.UnitVersion v) h input at
  unit_refused v sees n =
      let p = payload_seen (take size (drop at input)) v sees in
      other_version h a c at size input (payload p.g) p.has p.rule within v
      (ap (λ w. Some w) p.version) n

  pub unit_taken : (v : ℕ) → Sees (seens.Payload v) (take size (drop at input)) →
      IsOf a.version v → (asked : Option Bool) →
      ((d : List Payload) → asked ≡ asked_since (so_much h d).pending h.asks_all) →
      (index' : List ℕ) → length index' ≡ length index →
      ((os : List ℕ) → (a.count ≤ length index → take a.count index ≡ os) →
      a.count + 1 ≤ length index' → take (a.count + 1) index' ≡ os ++ at ∷ []) →
      StandsAt (record h {
        asks_all = asked;
        pending = Some (record a { count = a.count + 1; version = Some v });
      }) (at + size) input index' output
  unit_taken v sees o asked is_asked index' same put =
      let p = payload_seen (take size (drop at input)) v sees in
      let r = ready h a at input index output s c in
      subst (λ w. StandsAt (record h {
        asks_all = asked;
        pending = Some (record a { count = a.count + 1; version = Some w });
      }) (at + size) input index' output) p.version
      (pushes h a at size input index output r p.g p.has p.rule p.unit within
      (subst (IsOf a.version) (sym p.version) o) asked (is_asked r.d) index' same put)

  -- ---- ends of data

  pub end_of_other : (x : EndOfData) (v : ℕ) → v ≡ (end_meaning x).version →
      Sees (seens.End x) (take size (drop at input)) → (IsOf a.version v → ⊥) →
      IsRightReason (reasons.UnitVersion v) h input at
  end_of_other x v is (f, has, rule, (same, end)) n =
      other_version h a c at size input (end_of_data (end_meaning x))
      (subst (HasAnyFields (take size (drop at input))) same has) tt within v
      (ap (λ w. Some w) (sym is)) n

  pub end_refuses : (x : EndOfData) (why : Refusal) →
      Sees (seens.End x) (take size (drop at input)) →
      ((d : List Payload) → Some why ≡ refusal_in (opened_answer d a) (end_meaning x)) →
      IsRightReason (reasons.Refused why) h input at
  end_refuses x why (f, has, rule, (same, end)) is =
      end_refused h a c at size input f has rule within (end_meaning x) same why
      (λ d. sym (is d))

-- ---- other units

module _ (h : Held) (at size : ℕ) (input index output : List ℕ)
    (s : StandsAt h at input index output) (within : at + size ≤ length input) where
  pub asks_all_taken : Sees seens.AsksAll (take size (drop at input)) →
      StandsAt (record h { asks_all = Some true }) (at + size) input index output
  asks_all_taken (f, has, rule, (v, session, is)) =
      asked_more h at size input index output (Some true) (reset_query v session)
      (subst (HasAnyFields (take size (drop at input))) is has) tt within (λ m e. refl)
      (λ m w. refl) tt refl s

  pub asks_changes_taken : Sees seens.AsksChanges (take size (drop at input)) →
      StandsAt (record h { asks_all = Some false }) (at + size) input index output
  asks_changes_taken (f, has, rule, (v, session, serial, is)) =
      asked_more h at size input index output (Some false) (serial_query v session serial)
      (subst (HasAnyFields (take size (drop at input))) is has) tt within (λ m e. refl)
      (λ m w. refl) tt refl s

  pub notify_taken : Sees seens.Notifies (take size (drop at input)) →
      StandsAt h (at + size) input index output
  notify_taken (f, has, rule, (v, session, serial, is)) =
      asked_more h at size input index output h.asks_all (serial_notify v session serial)
      (subst (HasAnyFields (take size (drop at input))) is has) tt within
      (λ m e. ap (λ (x : Option Bool). Ok (record m { asks_all = x })) e) (λ m w. refl) tt refl s

  -- where no answer is open
  module _ (none : h.pending ≡ None) where
    pub reset_taken : Sees seens.Reset (take size (drop at input)) →
        StandsAt (record h { asks_all = Some true }) (at + size) input index output
    reset_taken (f, has, rule, (v, session, is)) =
        let i = subst (λ p. ReadsSoMuch p input at (so_much h s.d) s.d index h.end) none s.reads in
        record {
          d = s.d;
          keeps = s.keeps;
          reads = subst (λ p. ReadsSoMuch p input (at + size)
              (so_much (record h { asks_all = Some true }) s.d) s.d index h.end) (sym none)
              (idle_more input at size (so_much h s.d) (so_much (record h { asks_all = Some true })
              s.d)
              i (cache_reset v session) (subst (HasAnyFields (take size (drop at input))) is has) tt
              within (alone (so_much h s.d) none));
        }
      where
        alone : (m : SoMuch) → h.pending ≡ None →
            unless_open (so_much h s.d).pending refusals.CacheReset
            (record (so_much h s.d) { asks_all = Some true }) ≡
            Ok (so_much (record h { asks_all = Some true }) s.d)
        alone m e =
            ap (λ p. unless_open p refusals.CacheReset
            (record (so_much h s.d) { asks_all = Some true })) (ap (option_map (opened_answer s.d))
            e)

    pub report_taken : Sees seens.Report (take size (drop at input)) →
        StandsAt h (at + size) input index output
    report_taken (f, has, rule, (v, code, body, is)) =
        let i = subst (λ p. ReadsSoMuch p input at (so_much h s.d) s.d index h.end) none s.reads in
        record {
          d = s.d;
          keeps = s.keeps;
          reads = subst (λ p. ReadsSoMuch p input (at + size) (so_much h s.d) s.d index h.end) (sym
              none)
              (idle_more input at size (so_much h s.d) (so_much h s.d) i (error_report v code body)
              (subst (HasAnyFields (take size (drop at input))) is has) tt within
              (ap (λ p. unless_open p refusals.ErrorReport (so_much h s.d))
              (ap (option_map (opened_answer s.d)) none)));
        }

-- in an open answer
module _ (h : Held) (b : Answer) (e : h.pending ≡ Some b) (at size : ℕ) (input : List ℕ)
    (within : at + size ≤ length input) where
  pub reset_refused : Sees seens.Reset (take size (drop at input)) →
      IsRightReason (reasons.Refused refusals.CacheReset) h input at
  reset_refused (f, has, rule, (v, session, is)) =
      not_alone h b e at size input (cache_reset v session)
      (subst (HasAnyFields (take size (drop at input))) is has) tt within refusals.CacheReset
      (λ m o some. ap (λ p. unless_open p refusals.CacheReset (record m { asks_all = Some true }))
      some)

  pub report_refused : Sees seens.Report (take size (drop at input)) →
      IsRightReason (reasons.Refused refusals.ErrorReport) h input at
  report_refused (f, has, rule, (v, code, body, is)) =
      not_alone h b e at size input (error_report v code body)
      (subst (HasAnyFields (take size (drop at input))) is has) tt within refusals.ErrorReport
      (λ m o some. ap (λ p. unless_open p refusals.ErrorReport m) some)

pub response_taken : (h : Held) (a : Answer) (at size session : ℕ)
    (input index index' output : List ℕ) → at + size ≤ length input →
    Sees (seens.Response session) (take size (drop at input)) →
    ((d : List Payload) → IsBegun a h d (Some session)) →
    (s : StandsAt h at input index output) → StandsWhole h s.d input at →
    StandsAt (record h {
      pending = Some a;
      asks_all = None;
      has_cut = h.has_cut || is_some h.pending;
    }) (at + size) input index' output
response_taken h a at size session input index index' output within (f, has, rule, (v, is)) b s w =
    responds h a at size session input index index' output v
    (subst (HasAnyFields (take size (drop at input))) is has) within b s w

-- ---- an end of data that is right

module _ (h : Held) (a : Answer) (c : IsCurrent h.pending a h) (at size : ℕ)
    (input index output : List ℕ) (s : StandsAt h at input index output)
    (within : at + size ≤ length input) (x : EndOfData)
    (sees : Sees (seens.End x) (take size (drop at input)))
    (o : IsOf a.version (end_meaning x).version) where
  abbrev r : Ready h a at input index output
  r = ready h a at input index output s c

  abbrev v : ℕ
  v = (end_meaning x).version

  abbrev kept : List ℕ
  kept = take (base_size a.is_anew h.length) output

  end_has : HasAnyFields (take size (drop at input)) (end_of_data (end_meaning x))
  end_has =
      let (f, has, rule, (same, end)) = sees in
      subst (HasAnyFields (take size (drop at input))) same has

  pub end_lies : a.count ≤ length index → HaveLying input (take a.count index) v
  end_lies le = (r.xs, r.indexed le, lies_at_end h a at input index output r v o)

  abbrev pub end_base : (d : List Payload) × IsBase v kept d
  end_base = (
    payloads_begun a.is_anew r.d,
    base_of_end a a.is_anew refl h.length h.end r.d output v r.keeps r.based o,
  )

  pub end_is : IsEnd (end_bytes x) (end_meaning x)
  end_is = let (f, has, rule, (same, end)) = sees in end

  pub end_within : h.length ≤ length output
  end_within = kept_within h.length h.end r.d output r.keeps

  module _ (fits : (d : List Payload) → None ≡ refusal_in (opened_answer d a) (end_meaning x))
      (le : a.count ≤ length index) (room : ℕ) (after : List ℕ) where
    pub end_kept : (asked : Option Bool) →
        ((d : List Payload) → asked ≡ asked_since (so_much h d).pending h.asks_all) → (n : ℕ)
        (index' : List ℕ) →
        WritesBackAll (Ok n) kept input (take a.count index) x room after →
        StandsAt (record {
          length = n;
          end = Some x;
          pending = None;
          asks_all = asked;
          has_cut = h.has_cut;
        }) (at + size) input index' after
    end_kept asked is_asked n index' back =
        let w = back (payloads_begun a.is_anew r.d) r.xs end_base.1 (r.indexed le)
        (lies_at_end h a at input index output r v o) in
        closes h a at size input index output r x end_has within (sym (fits r.d)) asked
        (is_asked r.d) n index' after w.0 w.1 w.2

    pub end_lost : (g : LoadFault) (places : ℕ) →
        WritesBackAll (Err g) kept input (take a.count index) x room after →
        RefusesLoad g input places room
    end_lost g places back =
        back_refuses h a at size input index output r x end_has within (sym (fits r.d))
        (asked_since (so_much h r.d).pending h.asks_all) refl g places room after
        (back (payloads_begun a.is_anew r.d) r.xs end_base.1 (r.indexed le)
        (lies_at_end h a at input index output r v o))
