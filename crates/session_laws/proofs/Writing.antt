-- What a cache and a router write in bytes are the units that they write.
use native.Mathlib.Omega.{arith}
use Rattle.std.proofs.Common.{◌≡◌, ◌⊎◌, inl, inr, ◌≤◌, ◌<◌, ◌^◌, ◌++◌, ℕ, Bool, true, false}
use Rattle.std.proofs.Common.{List, []}
use Rattle.std.proofs.Common.{◌∷◌, Option, Some, None, map, length, refl, sym, ap, subst, ◌∙◌}
use Rattle.std.proofs.Common.{append-nil, append_assoc, if◌then◌else◌}
use Rattle.std.specs.List.{AllByRecursion, concat}
use Rattle.std.proofs.lemmas.Bool.Decides.{nat_tests}
use Rattle.rtr_base.specs.Bytes.{IsBytes, be}
use Rattle.rtr_base.proofs.Numbers.{IsBytes-be}
use Rattle.rtr_units.specs.End.{EndMeaning, IsEndMeaning, end_list}
use Rattle.rtr_units.specs.Queries.{bare_list, serial_list}
use Rattle.rtr_units.proofs.Ends.{end_made}
use Rattle.rtr_units.proofs.Headers.{header_bytes}
use Rattle.rtr_payload.specs.Payloads.{Meaning, Payload}
use Rattle.rtr_payload.specs.UnitFields.{Fields, prefix_unit, key_unit, aspa_unit, meaning}
use Rattle.rtr_payload.specs.Units.{IsUnit, form_of}
use Rattle.rtr_payload.proofs.ByFields.{unit_fields_of}
use Rattle.rtr_payload.proofs.Fields.{form_is_unit}
use Rattle.rtr_wire.specs.Sequences.{AreUnits}
use Rattle.unit_any.specs.AnyFields.{cache_reset, cache_response, end_of_data, error_report}
use Rattle.unit_any.specs.AnyFields.{payload, reset_query, serial_notify, serial_query}
use Rattle.unit_any.proofs.Units.{end_has, payload_has}
use Rattle.data_memory.specs.Data.{Change}
use Rattle.data_memory.specs.Deltas.{all_for, change_forms, changes_for, data_for, unit_of}
use Rattle.data_memory.proofs.Accepted.{all_sequence, delta_sequence}
use Rattle.session_router.specs.declared.head.Kind.TheVariants as kinds
use Rattle.session_router.specs.declared.head.Query.{Query}
use Rattle.session_router.specs.declared.event.Action.{Action}
use Rattle.session_router.specs.declared.event.Action.TheVariants as actions
use Rattle.session_router.specs.declared.event.Event.{Event}
use Rattle.session_router.specs.declared.router.Router.{Router}
use Rattle.session_router.specs.Rules.{IsPayloadOf, Rule, query}
use Rattle.session_router.proofs.Pacing.{query_by}
use Rattle.session_cache.specs.declared.cache.Cache.{Cache}
use Rattle.session_cache.specs.declared.event.Answer.{Answer}
use Rattle.session_cache.specs.declared.event.Answer.TheVariants as answers
use Rattle.session_cache.specs.declared.event.CacheEvent.{CacheEvent}
use Rattle.session_cache.specs.declared.event.CacheEvent.TheVariants as asked
use Rattle.session_cache.specs.declared.event.OwedReport.{OwedReport}
use Rattle.session_cache.specs.declared.event.Present.{Present}
use Rattle.session_cache.specs.CacheRules.{CacheRule}
use Rattle.session_cache.specs.Worlds.{Sent, cache_writes, change_unit, data_end, plain_head}
use Rattle.session_cache.specs.Worlds.{plain_unit}
use Rattle.session_cache.specs.Worlds.{report_sent, sized_report, response, router_writes}
use Rattle.session_bytes.specs.Heads.{HasHead, bare_head, head_of, payload_head}
use Rattle.session_laws.specs.Editions.{PayloadEdition, answered_with, edition_of}
use Rattle.session_laws.specs.Editions.{payload_source, unit_kind}
use Rattle.session_laws.specs.Pipes.{AreOnTheirWay, AreQueries, IsOnItsWay}
use Rattle.session_laws.specs.Written.{CacheWrites, FitsAction, FitsEdition, IsOwed}
use Rattle.session_laws.specs.Written.{IsReportOf, end_of_edition, response_bytes, router_bytes}
use Rattle.session_laws.proofs.OnTheWay.{more_way}

-- ---- units without a payload

pub bare_bytes : (v k s : ℕ) → v < 256 → k < 256 → IsBytes (bare_list v k s)
bare_bytes v k s hv hk =
    subst IsBytes (append-nil (bare_list v k s)) (header_bytes v k s 8 [] hv hk (IsBytes-be 0 0))

pub serial_bytes : (v k s n : ℕ) → v < 256 → k < 256 → IsBytes (serial_list v k s n)
serial_bytes v k s n hv hk = header_bytes v k s 12 (be n 4) hv hk (IsBytes-be n 4)

-- a unit without a payload is on its way
plain_way : (b : List ℕ) (x : Sent Change) → HasHead b x.head → x.body ≡ [] →
    ((v : ℕ) → IsPayloadOf v x.head.kind → ⊥) → IsOnItsWay b x
plain_way b x has none never = record { has = has; carries = λ v p. absurd (never v p) }

response_has : (v s : ℕ) → v < 256 → s < 2 ^ 16 →
    HasHead (bare_list v 3 s) (plain_head kinds.CacheResponse v s 0 0)
response_has v s hv hs = record {
  fields = cache_response v s;
  has = record { fits = hs; bytes = refl; are_bytes = bare_bytes v 3 s hv (omega arith) };
  in_order = tt;
  head = refl;
}

reset_has : (v : ℕ) → v < 256 → HasHead (bare_list v 8 0) (plain_head kinds.CacheReset v 0 0 0)
reset_has v hv = record {
  fields = cache_reset v 0;
  has = record { fits = omega arith; bytes = refl; are_bytes = bare_bytes v 8 0 hv (omega arith) };
  in_order = tt;
  head = refl;
}

notify_has : (v s n : ℕ) → v < 256 → s < 2 ^ 16 → n < 2 ^ 32 →
    HasHead (serial_list v 0 s n) (plain_head kinds.SerialNotify v s n 0)
notify_has v s n hv hs hn = record {
  fields = serial_notify v s n;
  has = record {
    fits = (hs, hn);
    bytes = refl;
    are_bytes = serial_bytes v 0 s n hv (omega arith);
  };
  in_order = tt;
  head = refl;
}

report_has : (v code : ℕ) (b : List ℕ) → IsReportOf v code b →
    IsOnItsWay b (sized_report Change v code (length b))
report_has v code b r =
    plain_way b (sized_report Change v code (length b)) (record {
      fields = error_report v code r.0;
      has = r.1;
      in_order = tt;
      head = refl;
    }) refl (λ v p. p)

-- ---- ends of data

pub three : (v : ℕ) → v ≤ 2 → (v ≡ 0) ⊎ ((v ≡ 1) ⊎ (v ≡ 2))
three v most = grind (arith, nat_tests)

pub end_fits : (v : ℕ) (p : PayloadEdition) → FitsEdition p → v ≤ 2 →
    IsEndMeaning (end_of_edition v p)
end_fits v p fits most = record {
  session = fits.session;
  serial = fits.serial;
  timing = elim (three v most) [
    | inl e ↦ rw e refl
    | inr (inl e) ↦ rw e (inl refl, fits.refresh, fits.retry, fits.expire)
    | inr (inr e) ↦ rw e (inr refl, fits.refresh, fits.retry, fits.expire)
  ];
}

pub end_head_is : (v : ℕ) (p : PayloadEdition) → v ≤ 2 →
    (data_end (List Payload) Change v (edition_of p)).head
    ≡ head_of (end_of_data (end_of_edition v p)) (length (end_list (end_of_edition v p)))
end_head_is v p most = elim (three v most) [
  | inl e ↦ rw e refl
  | inr (inl e) ↦ rw e refl
  | inr (inr e) ↦ rw e refl
]

end_way : (v : ℕ) (p : PayloadEdition) → FitsEdition p → v ≤ 2 →
    IsOnItsWay (end_list (end_of_edition v p)) (data_end (List Payload) Change v (edition_of p))
end_way v p fits most =
    let e : EndMeaning = end_of_edition v p in
    plain_way (end_list e) (data_end (List Payload) Change v (edition_of p)) (record {
      fields = end_of_data e;
      has = end_has (end_list e) e (end_made e (end_fits v p fits most));
      in_order = tt;
      head = end_head_is v p most;
    }) refl (λ v p. p)

-- ---- payloads

-- the form of each change's unit is a unit with its meaning
abbrev pub AreFormed : ℕ → List Change → Type 0
AreFormed v cs = AllByRecursion (λ c. IsUnit (form_of (unit_of v c)) (unit_of v c)) cs

pub formed : (v : ℕ) (cs : List Change) (b : List ℕ) → AreUnits b (map (unit_of v) cs) →
    AreFormed v cs
formed v [] b units = tt
formed v (c ∷ cs) b (first, rest, is, unit, more) =
    (form_is_unit first (unit_of v c) unit, formed v cs rest more)

pub carried_head : (f : Fields) (n : ℕ) →
    bare_head (unit_kind (meaning f).payload) (meaning f).version n ≡ payload_head f n
carried_head (prefix_unit u) n = refl
carried_head (key_unit u) n = refl
carried_head (aspa_unit u) n = refl

change_way : (v : ℕ) (c : Change) → IsUnit (form_of (unit_of v c)) (unit_of v c) →
    IsOnItsWay (form_of (unit_of v c)) (change_unit (List Payload) Change payload_source v c)
change_way v c unit =
    let b : List ℕ = form_of (unit_of v c) in
    let is = unit_fields_of b (unit_of v c) unit in
    record {
      has = record {
        fields = payload is.fields;
        has = payload_has b is.fields is.shape;
        in_order = is.lengths;
        head = ap (λ (m : Meaning). bare_head (unit_kind m.payload) m.version (length b)) is.means
            ∙ carried_head is.fields (length b);
      };
      carries = λ w p. (c, refl, unit);
    }

abbrev pub forms_each : ℕ → List Change → List (List ℕ)
forms_each v cs = map (λ c. form_of (unit_of v c)) cs

changes_way : (v : ℕ) (cs : List Change) → AreFormed v cs →
    AreOnTheirWay (forms_each v cs) (map (change_unit (List Payload) Change payload_source v) cs)
changes_way v [] all = tt
changes_way v (c ∷ cs) all = (change_way v c all.0, changes_way v cs all.1)

pub joined : (v : ℕ) (cs : List Change) (last : List ℕ) →
    concat (forms_each v cs ++ last ∷ []) ≡ change_forms v cs ++ last
joined v [] last = append-nil last
joined v (c ∷ cs) last =
    let b : List ℕ = form_of (unit_of v c) in
    ap (λ (l : List ℕ). b ++ l) (joined v cs last) ∙ sym (append_assoc b (change_forms v cs) last)

-- ---- what a cache writes

pub record IsWritten (v : ℕ) (old p : PayloadEdition) (a : Answer) (b : List ℕ) : Type 0 where
  pub size : ℕ
  pub units : List (List ℕ)
  pub bytes : concat units ≡ b
  pub way :
      AreOnTheirWay units
      (cache_writes (List Payload) Change payload_source v size (edition_of old) (edition_of p) a)

-- in units
abbrev writes : (v size : ℕ) → (old present : PayloadEdition) → Answer → List (Sent Change)
writes v size old p a =
    cache_writes (List Payload) Change payload_source v size (edition_of old) (edition_of p) a

-- one unit
one_written : (v size : ℕ) (old p : PayloadEdition) (a : Answer) (b : List ℕ)
    (x : Sent Change) → IsOnItsWay b x → writes v size old p a ≡ x ∷ [] → IsWritten v old p a b
one_written v size old p a b x way is = record {
  size = size;
  units = b ∷ [];
  bytes = append-nil b;
  way = subst (λ xs. AreOnTheirWay (b ∷ []) xs) (sym is) (way, tt);
}

responded : (v : ℕ) (from p : PayloadEdition) (a : Answer) (old : Option (List Payload))
    (cs : List Change) (b : List ℕ) → FitsEdition p → v ≤ 2 →
    AreFormed v cs → b ≡ response_bytes v p cs →
    answered_with old (data_for v p.payloads) ≡ cs →
    writes v 0 from p a
    ≡ response (List Payload) Change payload_source v (edition_of p) old → IsWritten v from p a b
responded v from p a old cs b fits most all is delta same =
    let D : Type 0 = List Payload in
    let start : List ℕ = bare_list v 3 p.name.session in
    let last : List ℕ = end_list (end_of_edition v p) in
    record {
      size = 0;
      units = start ∷ (forms_each v cs ++ last ∷ []);
      bytes = ap (λ (l : List ℕ). start ++ l) (joined v cs last) ∙ sym is;
      way = subst (λ ys. AreOnTheirWay (start ∷ (forms_each v cs ++ last ∷ [])) ys)
          (sym (same
          ∙ ap (λ (cs : List Change). plain_unit Change kinds.CacheResponse v p.name.session 0 0
          ∷ (map (change_unit D Change payload_source v) cs
          ++ data_end D Change v (edition_of p) ∷ [])) delta)) (
            plain_way start (plain_unit Change kinds.CacheResponse v p.name.session 0 0)
                (response_has v p.name.session (omega (arith, most)) fits.session) refl (λ v p. p),
            more_way (forms_each v cs) (last ∷ [])
                (map (change_unit D Change payload_source v) cs)
                (data_end D Change v (edition_of p) ∷ [])
                (changes_way v cs all)
                (end_way v p fits most, tt),
          );
    }

nothing_written : (v : ℕ) (old p : PayloadEdition) (a : Answer) (b : List ℕ) → b ≡ [] →
    writes v 0 old p a ≡ [] → IsWritten v old p a b
nothing_written v old p a b none is = record {
  size = 0;
  units = [];
  bytes = sym none;
  way = subst (λ xs. AreOnTheirWay [] xs) (sym is) tt;
}

owed_written : (v : ℕ) (old p : PayloadEdition) (a : Answer) (r : Option OwedReport)
    (b : List ℕ) → IsOwed r b →
    ((m : ℕ) → writes v m old p a ≡ report_sent Change m r) → IsWritten v old p a b
owed_written v old p a None b owed is = nothing_written v old p a b owed (is 0)
owed_written v old p a (Some r) b owed is =
    one_written v (length b) old p a b (sized_report Change r.version r.code.0 (length b))
    (report_has r.version r.code.0 b owed) (is (length b))

-- the version of an answer with data is one that there is
pub all_version : (c c' : Cache) (n : ℕ) (p : Present) (e : CacheEvent) →
    CacheRule c n p e answers.All c' → c'.version ≤ 2
all_version c c' n p (asked.Came u kept) w =
    subst (λ v. v ≤ 2) (sym (ap (λ (c : Cache). c.version) w.1.after)) w.1.query.version.most
all_version c c' n p asked.Tick w = absurd w
all_version c c' n p asked.Full w = absurd w
all_version c c' n p asked.Lost w = absurd w
all_version c c' n p (asked.Faulty f) w = absurd w

pub changes_version : (c c' : Cache) (n since : ℕ) (p : Present) (e : CacheEvent) →
    CacheRule c n p e (answers.Changes since) c' → c'.version ≤ 2
changes_version c c' n since p (asked.Came u kept) w =
    subst (λ v. v ≤ 2) (sym (ap (λ (c : Cache). c.version) w.1.after)) w.1.query.version.most
changes_version c c' n since p asked.Tick w = absurd w
changes_version c c' n since p asked.Full w = absurd w
changes_version c c' n since p asked.Lost w = absurd w
changes_version c c' n since p (asked.Faulty f) w = absurd w

pub written_units : (c c' : Cache) (n : ℕ) (old p : PayloadEdition) (e : CacheEvent)
    (a : Answer) (b : List ℕ) → ((since : ℕ) → a ≡ answers.Changes since → FitsEdition old) →
    FitsEdition p → CacheRule c n p.name e a c' →
    c'.version < 2 ^ 8 → CacheWrites c'.version old p a b → IsWritten c'.version old p a b
written_units c c' n old p e answers.Wait b had fits rule small is =
    nothing_written c'.version old p answers.Wait b is refl
written_units c c' n old p e answers.All b had fits rule small is =
    let v : ℕ = c'.version in
    let most : v ≤ 2 = all_version c c' n p.name e rule in
    let s = all_sequence v small p.payloads (end_of_edition v p) fits.payloads
    (end_fits v p fits most) in
    responded v old p answers.All None (all_for v p.payloads) b fits most
    (formed v (all_for v p.payloads) s.front s.units) is refl refl
written_units c c' n old p e (answers.Changes since) b had fits rule small is =
    let v : ℕ = c'.version in
    let most : v ≤ 2 = changes_version c c' n since p.name e rule in
    let s = delta_sequence v small old.payloads p.payloads (end_of_edition v p)
    (had since refl).payloads fits.payloads (end_fits v p fits most) in
    responded v old p (answers.Changes since)
    (Some (data_for v old.payloads)) (changes_for v old.payloads p.payloads) b fits most
    (formed v (changes_for v old.payloads p.payloads) s.front s.units) is refl refl
written_units c c' n old p e answers.Reset b had fits rule small is =
    let v : ℕ = c'.version in
    one_written v 0 old p answers.Reset b (plain_unit Change kinds.CacheReset v 0 0 0)
    (subst (λ l. IsOnItsWay l (plain_unit Change kinds.CacheReset v 0 0 0)) (sym is)
    (plain_way (bare_list v 8 0) (plain_unit Change kinds.CacheReset v 0 0 0) (reset_has v small)
    refl (λ v p. p))) refl
written_units c c' n old p e answers.NoData b had fits rule small is =
    let v : ℕ = c'.version in
    one_written v (length b) old p answers.NoData b (sized_report Change v 2 (length b))
    (report_has v 2 b is) refl
written_units c c' n old p e answers.Notify b had fits rule small is =
    let v : ℕ = c'.version in
    let x : Sent Change =
    plain_unit Change kinds.SerialNotify v p.name.session p.name.serial 0 in
    one_written v 0 old p answers.Notify b x
    (subst (λ l. IsOnItsWay l x) (sym is)
    (plain_way (serial_list v 0 p.name.session p.name.serial) x
    (notify_has v p.name.session p.name.serial small fits.session fits.serial) refl (λ v p. p)))
    refl
written_units c c' n old p e (answers.End x) b had fits rule small is =
    owed_written c'.version old p (answers.End x) x.report b is (λ m. refl)

-- ---- what a router writes

query_has : (q : Query) (changes : Bool) → q.changes ≡ changes →
    (changes ≡ false → (q.session ≡ 0) × (q.serial ≡ 0)) →
    q.version < 2 ^ 8 → q.session < 2 ^ 16 → q.serial < 2 ^ 32 →
    HasHead
    (if changes then serial_list q.version 1 q.session q.serial else bare_list q.version 2 0)
    (plain_head (if changes then kinds.SerialQuery else kinds.ResetQuery) q.version q.session
    q.serial 0)
query_has q true is none hv hs hn = record {
  fields = serial_query q.version q.session q.serial;
  has = record {
    fits = (hs, hn);
    bytes = refl;
    are_bytes = serial_bytes q.version 1 q.session q.serial hv (omega arith);
  };
  in_order = tt;
  head = refl;
}
query_has q false is none hv hs hn =
    let zero : (q.session ≡ 0) × (q.serial ≡ 0) = none refl in
    record {
      fields = reset_query q.version 0;
      has = record {
        fits = omega arith;
        bytes = refl;
        are_bytes = bare_bytes q.version 2 0 hv (omega arith);
      };
      in_order = tt;
      head = (λ i. plain_head kinds.ResetQuery q.version (zero.0 i) (zero.1 i) 0);
    }

-- a reset query names no data
names_none : (r : Router) (changes : Bool) → r.changes ≡ changes → (query r).changes ≡ false →
    ((query r).session ≡ 0) × ((query r).serial ≡ 0)
names_none r true is none =
    let changes = ap (λ (s : Bool). (query_by r s).changes) is in absurd cc
names_none r false is none = (
  ap (λ (s : Bool). (query_by r s).session) is,
  ap (λ (s : Bool). (query_by r s).serial) is,
)

pub record IsAsked (a : Action) : Type 0 where
  pub queries : List (List ℕ)
  pub bytes : concat queries ≡ router_bytes a
  pub way : AreQueries queries (router_writes a)

nothing_asked : (a : Action) → router_bytes a ≡ [] → router_writes a ≡ [] → IsAsked a
nothing_asked a none is = record {
  queries = [];
  bytes = sym none;
  way = subst (λ us. AreQueries [] us) (sym is) tt;
}

pub asked_units : (n : ℕ) (e : Event) (a : Action) (r r' : Router) → Rule r n e a r' →
    FitsAction a → IsAsked a
asked_units n e (actions.Ask q) r r' rule fits = record {
  queries = router_bytes (actions.Ask q) ∷ [];
  bytes = append-nil (router_bytes (actions.Ask q));
  way = (
    query_has q q.changes refl
        (subst (λ (p : Query). p.changes ≡ false → (p.session ≡ 0) × (p.serial ≡ 0))
        (sym rule.query) (names_none r' r'.changes refl))
        fits.0 fits.1 fits.2,
    tt,
  );
}
asked_units n e actions.Wait r r' rule fits = nothing_asked actions.Wait refl refl
asked_units n e actions.Connect r r' rule fits = nothing_asked actions.Connect refl refl
asked_units n e actions.Begin r r' rule fits = nothing_asked actions.Begin refl refl
asked_units n e actions.Keep r r' rule fits = nothing_asked actions.Keep refl refl
asked_units n e (actions.Apply on) r r' rule fits = nothing_asked (actions.Apply on) refl refl
asked_units n e actions.Show r r' rule fits = nothing_asked actions.Show refl refl
asked_units n e actions.NoData r r' rule fits = nothing_asked actions.NoData refl refl
asked_units n e actions.Drop r r' rule fits = nothing_asked actions.Drop refl refl
asked_units n e (actions.End x) r r' rule fits = nothing_asked (actions.End x) refl refl
