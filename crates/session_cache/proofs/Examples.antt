-- For each law a run that the prover computes, so that its premises are seen to be met.
use Rattle.std.proofs.Common.{◌≡◌, ℕ, true, false, inl, arith}
use Rattle.std.proofs.Common.{Some, refl, List, [], ◌∷◌}
use Rattle.session_router.specs.declared.head.Head.{Head}
use Rattle.session_router.specs.declared.head.Kind.TheVariants as kinds
use Rattle.session_cache.specs.declared.cache.Cache.{Cache}
use Rattle.session_cache.specs.declared.event.Answer.{Answer}
use Rattle.session_cache.specs.declared.event.Answer.TheVariants as answers
use Rattle.session_cache.specs.declared.event.CacheEvent.{CacheEvent}
use Rattle.session_cache.specs.declared.event.CacheEvent.TheVariants as told
use Rattle.session_cache.specs.declared.event.Present.{Present}
use Rattle.session_cache.specs.declared.settings.CacheSettings.{CacheSettings}
use Rattle.session_cache.specs.CacheRules.{heard, informed, sent_back}
use Rattle.session_cache.specs.Connections.{CacheMoment, IsAllowedConnection, IsOrderly}
use Rattle.session_cache.specs.Connections.{last_notify}
use Rattle.session_cache.specs.Connections.{answered_version, told_session}
use Rattle.session_cache.specs.Connections.IsConnectionBy.{connection_begins, connection_goes_on}
use Rattle.session_cache.specs.Worlds.{plain_head}
use Rattle.session_cache.proofs.Orderly.{orderly}

-- the usual settings, a connection at time 0, and data under two names of one session
abbrev pub usual : CacheSettings
usual = record { first_limit = 30000; idle_limit = 90000000; pause = 60000; refuses = false }

abbrev pub cache₀ : Cache
cache₀ = record {
  settings = usual;
  live = true;
  asked = false;
  version = 0;
  told = false;
  reset = false;
  session = 0;
  serial = 0;
  notify_from = 0;
  due = 30000;
}

abbrev pub named : (session serial : ℕ) → Present
named s n = record { has = true; session = s; serial = n }

abbrev reset_query : Head
reset_query = plain_head kinds.ResetQuery 1 0 0 0

abbrev serial_query : (session serial : ℕ) → Head
serial_query s n = plain_head kinds.SerialQuery 1 s n 0

-- ---- a connection: a serial query of another session gets a cache reset; the data are of another
-- session then, and the reset query gets all of them; new data are notified, and asked for

abbrev was_reset : Cache
was_reset = sent_back (heard cache₀ 100 1) (named 7 5)

abbrev has_all : Cache
has_all = informed (heard was_reset 200 1) (named 8 1)

abbrev was_notified : Cache
was_notified = record (informed has_all (named 8 2)) { notify_from = 60300 }

abbrev has_changes : Cache
has_changes = informed (heard was_notified 400 1) (named 8 2)

abbrev moment : (now : ℕ) → Present → CacheEvent → Answer → CacheMoment
moment n p e a = record { now = n; present = p; event = e; answer = a }

abbrev reset_then : List CacheMoment
reset_then = moment 100 (named 7 5) (told.Came (serial_query 3 5) true) answers.Reset ∷ []

abbrev all_then : List CacheMoment
all_then = moment 200 (named 8 1) (told.Came reset_query false) answers.All ∷ reset_then

abbrev notify_then : List CacheMoment
notify_then = moment 300 (named 8 2) told.Tick answers.Notify ∷ all_then

abbrev changes_then : List CacheMoment
changes_then =
    moment 400 (named 8 2) (told.Came (serial_query 8 1) true) (answers.Changes 1) ∷ notify_then

is_reset : IsAllowedConnection usual reset_then was_reset
is_reset = connection_goes_on (moment 100 (named 7 5) (told.Came (serial_query 3 5) true)
    answers.Reset) [] cache₀ was_reset
    (connection_begins cache₀ (record {
      settings = refl;
      asked = refl;
      told = refl;
      notify_from = refl;
    })) (
      refl,
      record {
        query = record {
          kind = refl;
          version = record { most = omega arith; same = λ e. cc };
          has = refl;
          session = λ e. cc;
        };
        unknown = inl (λ e. omega (arith, e));
        chosen = refl;
        after = refl;
      },
    )

is_given_all : IsAllowedConnection usual all_then has_all
is_given_all = connection_goes_on (moment 200 (named 8 1) (told.Came reset_query false) answers.All)
    reset_then was_reset has_all is_reset (
      refl,
      record {
        query = record {
          kind = refl;
          version = record { most = omega arith; same = λ e. refl };
          has = refl;
          session = λ e. cc;
        };
        after = refl;
      },
    )

is_notified : IsAllowedConnection usual notify_then was_notified
is_notified = connection_goes_on (moment 300 (named 8 2) told.Tick answers.Notify) all_then has_all
    was_notified is_given_all (
      refl,
      record {
        asked = refl;
        has = refl;
        session = λ e. refl;
        serial = λ e f. omega (arith, f);
        pause = omega arith;
        after = refl;
      },
    )

is_given_changes : IsAllowedConnection usual changes_then has_changes
is_given_changes = connection_goes_on (moment 400 (named 8 2) (told.Came (serial_query 8 1) true)
    (answers.Changes 1)) notify_then was_notified has_changes is_notified (
      refl,
      record {
        query = record {
          kind = refl;
          version = record { most = omega arith; same = λ e. refl };
          has = refl;
          session = λ e. refl;
        };
        known = record { session = refl; serial = inl refl };
        since_is = refl;
        after = refl;
      },
    )

-- `orderly`
is_orderly : IsOrderly 60000 changes_then
is_orderly = orderly usual changes_then has_changes is_given_changes

tells_so : (last_notify changes_then ≡ Some 300)
    × ((answered_version changes_then ≡ Some 1) × (told_session changes_then ≡ Some 8))
tells_so = (refl, (refl, refl))
