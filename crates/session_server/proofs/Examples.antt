-- A connection that the prover computes, so that the premises of the laws are seen to be met: a
-- query, an answer that is sent in two parts, a notify of new data, and a report.
use Rattle.std.proofs.Common.{[], ◌∷◌, refl, arith, lit≤}
use Rattle.session_cache.specs.declared.cache.Cache.{Cache}
use Rattle.session_cache.specs.declared.event.Answer.TheVariants as said
use Rattle.session_cache.specs.declared.event.CacheEvent.TheVariants as events
use Rattle.session_cache.specs.CacheRules.{heard, informed}
use Rattle.session_cache.specs.CacheSteps.{IsCacheStep}
use Rattle.session_cache.specs.Serving.{HasNoNews}
use Rattle.session_cache.specs.Serving.HasNoNews.{knows_newest, was_reset, none_there, never_asked}
use Rattle.session_cache.proofs.Examples.{cache₀, named}
use Rattle.session_server.specs.declared.connection.Connection.{Connection}
use Rattle.session_server.specs.Limits.{usual_server_settings}
use Rattle.session_server.specs.Paces.{IsServed, answered, input_taken, new_connection}
use Rattle.session_server.specs.Paces.{once_received, report_begun, sent}
use Rattle.session_server.specs.Paces.IsServed.{answers, ends, host_hears, is_accepted}
use Rattle.session_server.specs.Paces.IsServed.{receives, sends}

-- ---- the connection

abbrev accepted : Connection
accepted = new_connection 0 usual_server_settings

-- a reset query comes, and all data are the answer
abbrev asked_all : Connection
asked_all = input_taken (once_received accepted 10 8) 10 8

-- a notify doesn't begin inside of it
abbrev answering : Connection
answering = answered (answered asked_all 10 52 1) 11 12 2

abbrev pub half_sent : Connection
half_sent = sent answering 20 20

abbrev pub all_sent : Connection
all_sent = sent half_sent 30 32

abbrev pub notified : Connection
notified = sent (answered all_sent 300 12 2) 310 12

abbrev pub reported : Connection
reported = sent (report_begun notified 400 16) 410 16

is_asked : IsServed usual_server_settings asked_all [] 0
is_asked = host_hears (once_received accepted 10 8) [] 0 10 8
    (receives accepted [] 0 10 8 (is_accepted 0))

is_answering : IsServed usual_server_settings answering (52 ∷ []) 0
is_answering = answers (answered asked_all 10 52 1) (52 ∷ []) 0 11 12 2
    (answers asked_all [] 0 10 52 1 is_asked)

pub is_half_sent : IsServed usual_server_settings half_sent (52 ∷ []) 20
is_half_sent = sends answering (52 ∷ []) 0 20 20 is_answering (lit≤ tt)

pub is_all_sent : IsServed usual_server_settings all_sent (52 ∷ []) 52
is_all_sent = sends half_sent (52 ∷ []) 20 30 32 is_half_sent (lit≤ tt)

pub is_notified : IsServed usual_server_settings notified (12 ∷ 52 ∷ []) 64
is_notified = sends (answered all_sent 300 12 2) (12 ∷ 52 ∷ []) 52 310 12
    (answers all_sent (52 ∷ []) 52 300 12 2 is_all_sent) (lit≤ tt)

pub is_reported : IsServed usual_server_settings reported (16 ∷ 12 ∷ 52 ∷ []) 80
is_reported = sends (report_begun notified 400 16) (16 ∷ 12 ∷ 52 ∷ []) 64 410 16
    (ends notified (12 ∷ 52 ∷ []) 64 400 16 is_notified) (lit≤ tt)

-- ---- its cache

-- all data were the answer to the query
abbrev pub cache : Cache
cache = informed (heard cache₀ 10 1) (named 7 5)

-- the router is notified of new data
abbrev pub cache_then : Cache
cache_then = record (informed cache (named 7 6)) { notify_from = 60300 }

pub notifies_so : IsCacheStep cache 300 (named 7 6) events.Tick said.Notify cache_then
notifies_so = record {
  rule = (
    refl,
    record {
      asked = refl;
      has = refl;
      session = λ e. refl;
      serial = λ e f. omega (arith, f);
      pause = omega arith;
      after = refl;
    },
  );
  serves = λ l t. record {
    notifies = λ n d. refl;
    pauses = λ n d. absurd (omega (arith, d));
    other_session = λ o. absurd (o.session refl);
    rests = λ r. absurd (has_news_then r);
  };
  late = λ l d. absurd (omega (arith, d));
  ended = λ e. cc;
  acts = λ e l w. λ is. cc;
}
  where
    has_news_then : HasNoNews cache (named 7 6) → ⊥
    has_news_then (knows_newest a s n) = omega (arith, n)
    has_news_then (was_reset t r s) = cc
    has_news_then (none_there h) = cc
    has_news_then (never_asked a t) = cc
