-- What a cache of ours writes are units, and an end of data among them names its present data (RFC
-- 8210 section 5.8).
use native.Mathlib.Omega.{arith}
use Rattle.std.proofs.Common.{◌≡◌, ◌≤◌, ◌<◌, ◌^◌, ◌++◌, ℕ, List, [], ◌∷◌}
use Rattle.std.proofs.Common.{Option, Some, None, length, refl, sym, ap, ◌∙◌}
use Rattle.std.proofs.Common.{append-nil}
use Rattle.std.specs.List.{concat}
use Rattle.rtr_units.specs.End.{EndMeaning, end_list}
use Rattle.rtr_units.specs.Queries.{bare_list, serial_list}
use Rattle.rtr_units.proofs.Ends.{end_made}
use Rattle.rtr_payload.specs.Payloads.{Meaning, Payload}
use Rattle.rtr_payload.specs.Payloads.Payload.{aspa, key, origin}
use Rattle.rtr_payload.specs.Units.{IsUnit, form_of}
use Rattle.rtr_payload.proofs.ByFields.{unit_fields_of}
use Rattle.unit_any.specs.AnyFields.{cache_reset, cache_response, end_of_data, error_report}
use Rattle.unit_any.specs.AnyFields.{payload, serial_notify}
use Rattle.unit_any.proofs.Units.{end_has, payload_has}
use Rattle.data_memory.specs.Data.{Change}
use Rattle.data_memory.specs.Deltas.{all_for, changes_for, unit_of}
use Rattle.data_memory.proofs.Accepted.{all_sequence, delta_sequence}
use Rattle.session_laws.proofs.Writing.{AreFormed, bare_bytes, end_fits, end_head_is, serial_bytes}
use Rattle.session_router.specs.declared.head.Head.{Head}
use Rattle.session_router.specs.declared.head.Kind.TheVariants as kinds
use Rattle.session_cache.specs.declared.cache.Cache.{Cache}
use Rattle.session_cache.specs.declared.event.Answer.{Answer}
use Rattle.session_cache.specs.declared.event.Answer.TheVariants as answers
use Rattle.session_cache.specs.declared.event.CacheEvent.{CacheEvent}
use Rattle.session_cache.specs.declared.event.OwedReport.{OwedReport}
use Rattle.session_cache.specs.declared.event.Present.{Present}
use Rattle.session_cache.specs.CacheRules.{CacheRule}
use Rattle.session_cache.specs.Worlds.{change_unit, data_end, plain_head}
use Rattle.session_bytes.specs.Heads.{HasHead, bare_head}
use Rattle.session_bytes.specs.Sending.{AreWhole}
use Rattle.session_laws.specs.Editions.{PayloadEdition, edition_of, payload_source, unit_kind}
use Rattle.session_laws.specs.Written.{CacheWrites, FitsEdition, IsOwed, IsReportOf}
use Rattle.session_laws.specs.Written.{end_of_edition, response_bytes}
use Rattle.session_laws.proofs.Writing.{all_version, carried_head, formed, forms_each, joined}
use Rattle.session_laws.proofs.Writing.{changes_version}

-- ---- units, one by one, whose ends of data name these data

abbrev pub Names : Present → Head → Type 0
Names these u =
    u.kind ≡ kinds.EndOfData → (u.session ≡ these.session) × (u.serial ≡ these.serial)

abbrev pub IsNamingUnit : Present → List ℕ → Type 0
IsNamingUnit these b = (u : Head) × HasHead b u × Names these u

abbrev pub AreNaming : Present → List (List ℕ) → Type 0
AreNaming these [] = Unit {0}
AreNaming these (b ∷ bs) = IsNamingUnit these b × AreNaming these bs

pub record IsNaming (these : Present) (b : List ℕ) : Type 0 where
  pub units : List (List ℕ)
  pub bytes : concat units ≡ b
  pub names : AreNaming these units

pub naming_whole : (these : Present) (bs : List (List ℕ)) → AreNaming these bs → AreWhole bs
naming_whole these [] names = tt
naming_whole these (b ∷ bs) names =
    let first = names.0 in ((first.0, first.1), naming_whole these bs names.1)

pub naming_left : (these : Present) (bs cs : List (List ℕ)) → AreNaming these (bs ++ cs) →
    AreNaming these cs
naming_left these [] cs names = names
naming_left these (b ∷ bs) cs names = naming_left these bs cs names.1

pub naming_more : (these : Present) (bs cs : List (List ℕ)) → AreNaming these bs →
    AreNaming these cs → AreNaming these (bs ++ cs)
naming_more these [] cs names more = more
naming_more these (b ∷ bs) cs names more = (names.0, naming_more these bs cs names.1 more)

-- ---- units that are no end of data

response_names : (these : Present) (v s : ℕ) → v < 256 → s < 2 ^ 16 →
    IsNamingUnit these (bare_list v 3 s)
response_names these v s hv hs = (
  plain_head kinds.CacheResponse v s 0 0,
  record {
    fields = cache_response v s;
    has = record { fits = hs; bytes = refl; are_bytes = bare_bytes v 3 s hv (omega arith) };
    in_order = tt;
    head = refl;
  },
  λ is. absurd (let z = is in cc),
)

reset_names : (these : Present) (v : ℕ) → v < 256 → IsNamingUnit these (bare_list v 8 0)
reset_names these v hv = (
  plain_head kinds.CacheReset v 0 0 0,
  record {
    fields = cache_reset v 0;
    has = record {
      fits = omega arith;
      bytes = refl;
      are_bytes = bare_bytes v 8 0 hv (omega arith);
    };
    in_order = tt;
    head = refl;
  },
  λ is. absurd (let z = is in cc),
)

notify_names : (these : Present) (v s n : ℕ) → v < 256 → s < 2 ^ 16 → n < 2 ^ 32 →
    IsNamingUnit these (serial_list v 0 s n)
notify_names these v s n hv hs hn = (
  plain_head kinds.SerialNotify v s n 0,
  record {
    fields = serial_notify v s n;
    has = record {
      fits = (hs, hn);
      bytes = refl;
      are_bytes = serial_bytes v 0 s n hv (omega arith);
    };
    in_order = tt;
    head = refl;
  },
  λ is. absurd (let z = is in cc),
)

report_names : (these : Present) (v code : ℕ) (b : List ℕ) → IsReportOf v code b →
    IsNamingUnit these b
report_names these v code b r = (
  record (plain_head kinds.ErrorReport v 0 0 code) { size = length b },
  record { fields = error_report v code r.0; has = r.1; in_order = tt; head = refl },
  λ is. absurd (let z = is in cc),
)

-- ---- ends of data

end_names : (v : ℕ) (p : PayloadEdition) → FitsEdition p → v ≤ 2 →
    IsNamingUnit p.name (end_list (end_of_edition v p))
end_names v p fits most =
    let e : EndMeaning = end_of_edition v p in (
      (data_end (List Payload) Change v (edition_of p)).head,
      record {
        fields = end_of_data e;
        has = end_has (end_list e) e (end_made e (end_fits v p fits most));
        in_order = tt;
        head = end_head_is v p most;
      },
      λ is. (refl, refl),
    )

-- ---- payloads

no_end : (x : Payload) → unit_kind x ≡ kinds.EndOfData → ⊥
no_end (origin o) is = let z = is in cc
no_end (key k) is = let z = is in cc
no_end (aspa a) is = let z = is in cc

change_names : (these : Present) (v : ℕ) (c : Change) →
    IsUnit (form_of (unit_of v c)) (unit_of v c) → IsNamingUnit these (form_of (unit_of v c))
change_names these v c unit =
    let b : List ℕ = form_of (unit_of v c) in
    let is = unit_fields_of b (unit_of v c) unit in (
      (change_unit (List Payload) Change payload_source v c).head,
      record {
        fields = payload is.fields;
        has = payload_has b is.fields is.shape;
        in_order = is.lengths;
        head = ap (λ (m : Meaning). bare_head (unit_kind m.payload) m.version (length b)) is.means
            ∙ carried_head is.fields (length b);
      },
      λ end. absurd (no_end c.payload end),
    )

-- and behind them an end of data
changes_name : (these : Present) (v : ℕ) (cs : List Change) (last : List ℕ) → AreFormed v cs →
    IsNamingUnit these last → AreNaming these (forms_each v cs ++ last ∷ [])
changes_name these v [] last all end = (end, tt)
changes_name these v (c ∷ cs) last all end =
    (change_names these v c all.0, changes_name these v cs last all.1 end)

-- ---- what a cache writes

none_written : (these : Present) (b : List ℕ) → b ≡ [] → IsNaming these b
none_written these b none = record { units = []; bytes = sym none; names = tt }

one_written : (these : Present) (b c : List ℕ) → b ≡ c → IsNamingUnit these c → IsNaming these b
one_written these b c is unit =
    record { units = c ∷ []; bytes = append-nil c ∙ sym is; names = (unit, tt) }

responded : (v : ℕ) (p : PayloadEdition) (cs : List Change) (b : List ℕ) → FitsEdition p → v ≤ 2 →
    AreFormed v cs → b ≡ response_bytes v p cs → IsNaming p.name b
responded v p cs b fits most all is =
    let start : List ℕ = bare_list v 3 p.name.session in
    let last : List ℕ = end_list (end_of_edition v p) in
    record {
      units = start ∷ (forms_each v cs ++ last ∷ []);
      bytes = ap (λ (l : List ℕ). start ++ l) (joined v cs last) ∙ sym is;
      names = (
        response_names p.name v p.name.session (omega (arith, most)) fits.session,
        changes_name p.name v cs last all (end_names v p fits most),
      );
    }

owed_written : (these : Present) (r : Option OwedReport) (b : List ℕ) → IsOwed r b →
    IsNaming these b
owed_written these None b owed = none_written these b owed
owed_written these (Some r) b owed =
    one_written these b b refl (report_names these r.version r.code.0 b owed)

pub written_names : (c c' : Cache) (n : ℕ) (old p : PayloadEdition) (e : CacheEvent) (a : Answer)
    (b : List ℕ) → ((since : ℕ) → a ≡ answers.Changes since → FitsEdition old) → FitsEdition p →
    CacheRule c n p.name e a c' → c'.version < 2 ^ 8 → CacheWrites c'.version old p a b →
    IsNaming p.name b
written_names c c' n old p e answers.Wait b had fits rule small is = none_written p.name b is
written_names c c' n old p e answers.All b had fits rule small is =
    let v : ℕ = c'.version in
    let most : v ≤ 2 = all_version c c' n p.name e rule in
    let s = all_sequence v small p.payloads (end_of_edition v p) fits.payloads
    (end_fits v p fits most) in
    responded v p (all_for v p.payloads) b fits most
    (formed v (all_for v p.payloads) s.front s.units) is
written_names c c' n old p e (answers.Changes since) b had fits rule small is =
    let v : ℕ = c'.version in
    let most : v ≤ 2 = changes_version c c' n since p.name e rule in
    let s = delta_sequence v small old.payloads p.payloads (end_of_edition v p)
    (had since refl).payloads fits.payloads (end_fits v p fits most) in
    responded v p (changes_for v old.payloads p.payloads) b fits most
    (formed v (changes_for v old.payloads p.payloads) s.front s.units) is
written_names c c' n old p e answers.Reset b had fits rule small is =
    one_written p.name b (bare_list c'.version 8 0) is (reset_names p.name c'.version small)
written_names c c' n old p e answers.NoData b had fits rule small is =
    one_written p.name b b refl (report_names p.name c'.version 2 b is)
written_names c c' n old p e answers.Notify b had fits rule small is =
    one_written p.name b (serial_list c'.version 0 p.name.session p.name.serial) is
    (notify_names p.name c'.version p.name.session p.name.serial small fits.session fits.serial)
written_names c c' n old p e (answers.End x) b had fits rule small is =
    owed_written p.name x.report b is
