-- A run that the prover computes: a router sends a reset query and a serial query of another
-- session at once, and is sent all data, and then a cache reset.
use native.Mathlib.Omega.{arith}
use Rattle.std.proofs.Common.{false, Some, List, [], ◌∷◌, ◌++◌, append-nil, refl, inl, lit<, lit≤}
use Rattle.std.proofs.Common.{subst}
use Rattle.rtr_base.specs.Bytes.{IsBytes, be}
use Rattle.rtr_base.proofs.Numbers.{IsBytes-be}
use Rattle.rtr_units.specs.Queries.{bare_list, serial_list}
use Rattle.rtr_units.proofs.Headers.{header_bytes}
use Rattle.unit_any.specs.AnyFields.{reset_query, serial_query}
use Rattle.session_router.specs.declared.head.Head.{Head}
use Rattle.session_router.specs.declared.head.Kind.TheVariants as kinds
use Rattle.session_router.specs.Rules.{query}
use Rattle.session_cache.specs.CacheRules.{heard, sent_back}
use Rattle.session_cache.specs.CacheSteps.{IsCacheStep}
use Rattle.session_cache.specs.Worlds.{plain_head, query_head}
use Rattle.session_cache.specs.declared.cache.Cache.{Cache}
use Rattle.session_cache.specs.declared.event.Answer.TheVariants as answers
use Rattle.session_cache.specs.declared.event.CacheEvent.TheVariants as told
use Rattle.session_cache.proofs.Examples.{cache₀, named}
use Rattle.session_cache.proofs.ExampleCalm.{gives_all_so}
use Rattle.session_cache.proofs.ExampleWorlds.{asked, cache₁}
use Rattle.session_bytes.specs.Heads.{HasHead}
use Rattle.session_bytes.specs.declared.serving.Served.TheVariants as served
use Rattle.session_bytes.proofs.Examples.{data_bytes, response_bytes}
use Rattle.session_laws.specs.Editions.{PayloadEdition}
use Rattle.session_laws.specs.Pipes.{Bytes}
use Rattle.session_laws.proofs.Examples.{edition}
use Rattle.session_server.specs.Limits.{usual_server_settings}
use Rattle.session_server.specs.Paces.{new_connection, sent}
use Rattle.session_server_laws.specs.Services.{ServiceGoes, IsRunOfService, Service, Turn}
use Rattle.session_server_laws.specs.Services.{turn_begun, bytes_read, takes}
use Rattle.session_server_laws.specs.Services.Does.{as_answered}
use Rattle.session_server_laws.specs.Services.ServiceGoes.{hears_input, reads_bytes, sends_piece}
use Rattle.session_server_laws.specs.Services.IsRunOfService.{service_begins, service_goes_on}

-- ---- the data of the cache

abbrev pub had : List PayloadEdition
had = edition ∷ []

-- ---- the queries

abbrev first : Bytes
first = bare_list 2 2 0

abbrev second : Bytes
second = serial_list 2 1 8 5

abbrev second_head : Head
second_head = plain_head kinds.SerialQuery 2 8 5 0

first_bytes : IsBytes first
first_bytes = subst IsBytes (append-nil first)
    (header_bytes 2 2 0 8 [] (lit< tt) (lit< tt) (IsBytes-be 0 0))

first_has : HasHead first (query_head (query asked))
first_has = record {
  fields = reset_query 2 0;
  has = record { fits = lit< tt; bytes = refl; are_bytes = first_bytes };
  in_order = tt;
  head = refl;
}

second_has : HasHead second second_head
second_has = record {
  fields = serial_query 2 8 5;
  has = record {
    fits = (lit< tt, lit< tt);
    bytes = refl;
    are_bytes = header_bytes 2 1 8 12 (be 5 4) (lit< tt) (lit< tt) (IsBytes-be 5 4);
  };
  in_order = tt;
  head = refl;
}

abbrev cache₂ : Cache
cache₂ = sent_back (heard cache₁ 40 2) (named 7 5)

resets_so : IsCacheStep cache₁ 40 (named 7 5) (told.Came second_head false) answers.Reset cache₂
resets_so = record {
  rule = (
    refl,
    record {
      query = record {
        kind = refl;
        version = record { most = lit≤ tt; same = λ e. refl };
        has = refl;
        session = λ e. refl;
      };
      unknown = inl (λ e. absurd (omega (arith, e)));
      chosen = refl;
      after = refl;
    },
  );
  serves = λ l t. record {
    all = λ q. let e = q.kind in cc;
    changes = λ q k. let e = k.session in absurd (omega (arith, e));
    resets = λ q k r. refl;
    refuses = λ q k r. cc;
    none = λ k v h. cc;
    other_session = λ k v o. absurd (o.session refl);
    no_query = λ k. absurd k;
    other_version = λ k e v. absurd (v refl);
    no_version = λ k e v. cc;
    reported = λ k. cc;
  };
  late = λ l d. absurd (omega (arith, d));
  ended = λ e. cc;
  acts = λ e. cc;
}

-- ---- the run

abbrev pub all_turn : Turn
all_turn = record {
  unit = Some first;
  answer = answers.All;
  version = 2;
  present = edition;
  old = edition;
  bytes = response_bytes ++ data_bytes;
}

abbrev pub reset_turn : Turn
reset_turn = record {
  unit = Some second;
  answer = answers.Reset;
  version = 2;
  present = edition;
  old = edition;
  bytes = bare_list 2 8 0;
}

abbrev service₀ : Service
service₀ = record {
  connection = new_connection 0 usual_server_settings;
  cache = cache₀;
  came = [];
  input = [];
  handed = [];
  output = [];
  turns = [];
}

abbrev service₁ : Service
service₁ = bytes_read service₀ 10 (first ++ second)

abbrev service₂ : Service
service₂ = turn_begun answers.All (takes service₁ 20 8) 20 1 cache₁ all_turn

-- the response is sent before the data
abbrev service₃ : Service
service₃ = record service₂ {
  connection = sent service₂.connection 30 8;
  handed = response_bytes;
  output = data_bytes;
}

abbrev service₄ : Service
service₄ = record service₃ {
  connection = sent service₃.connection 35 44;
  handed = response_bytes ++ data_bytes;
  output = [];
}

abbrev service₅ : Service
service₅ = turn_begun answers.Reset (takes service₄ 40 12) 40 1 cache₂ reset_turn

abbrev pub service₆ : Service
service₆ = record service₅ {
  connection = sent service₅.connection 50 8;
  handed = (response_bytes ++ data_bytes) ++ bare_list 2 8 0;
  output = [];
}

came_both : IsRunOfService usual_server_settings had service₁
came_both = service_goes_on service₀ service₁
    (service_begins 0 cache₀
    (record { settings = refl; asked = refl; told = refl; notify_from = refl }) refl)
    (reads_bytes service₀ 10 (first ++ second) (lit< tt))

hears_first : ServiceGoes had service₁ service₂
hears_first = hears_input service₁ 20 20 20 1 (named 7 5) [] (served.Answered 8 answers.All)
    all_turn cache₁ service₂ refl
    (record {
      head = query_head (query asked);
      unit = first_has;
      some = lit< tt;
      within = lit≤ tt;
      step = gives_all_so;
    })
    refl refl
    (as_answered (record { version_is = refl; present = inl refl; from = tt; bytes = refl }))

hears_second : ServiceGoes had service₄ service₅
hears_second = hears_input service₄ 40 40 40 1 (named 7 5) [] (served.Answered 12 answers.Reset)
    reset_turn cache₂ service₅ refl
    (record {
      head = second_head;
      unit = second_has;
      some = lit< tt;
      within = lit≤ tt;
      step = resets_so;
    })
    refl refl
    (as_answered (record { version_is = refl; present = inl refl; from = tt; bytes = refl }))

all_sent : IsRunOfService usual_server_settings had service₄
all_sent = service_goes_on service₃ service₄
    (service_goes_on service₂ service₃
    (service_goes_on service₁ service₂ came_both hears_first)
    (sends_piece service₂ 30 response_bytes data_bytes refl))
    (sends_piece service₃ 35 data_bytes [] refl)

pub run : IsRunOfService usual_server_settings had service₆
run = service_goes_on service₅ service₆
    (service_goes_on service₄ service₅ all_sent hears_second)
    (sends_piece service₅ 50 (bare_list 2 8 0) [] refl)
