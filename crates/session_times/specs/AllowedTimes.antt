-- The times that a cache may name (RFC 8210 section 6).
use Rattle.std.specs.Prelude.{ℕ, ◌<◌, ◌≤◌, ◌&&◌, Bool, List, Option, Some, None, codes, nat_le, not}
use Rattle.std.specs.Prelude.{if◌then◌else◌}
use Rattle.rtr_base.specs.declared.timing.Timing.{Timing}
use Rattle.session_times.specs.declared.times.TimeRule.{TimeRule}
use Rattle.session_times.specs.declared.times.TimeRule.TheVariants as rules

-- Each is within its bounds, in seconds, and data are there for longer than a router waits.
pub record AreAllowedTimes (t : Timing) : Type 0 where
  pub least_refresh : 1 ≤ t.refresh
  pub most_refresh : t.refresh ≤ 86400
  pub least_retry : 1 ≤ t.retry
  pub most_retry : t.retry ≤ 7200
  pub least_expire : 600 ≤ t.expire
  pub most_expire : t.expire ≤ 172800
  pub above_refresh : t.refresh < t.expire
  pub above_retry : t.retry < t.expire

abbrev is_outside : (least most n : ℕ) → Bool
is_outside least most n = not (nat_le least n && nat_le n most)

-- the first rule that is broken
abbrev pub broken_time_rule : Timing → Option TimeRule
broken_time_rule t =
    if is_outside 1 86400 t.refresh then Some rules.Refresh
    else if is_outside 1 7200 t.retry then Some rules.Retry
    else if is_outside 600 172800 t.expire then Some rules.Expire
    else if nat_le t.expire t.refresh then Some rules.AboveRefresh
    else if nat_le t.expire t.retry then Some rules.AboveRetry
    else None

abbrev pub rule_text : TimeRule → List ℕ
rule_text rules.Refresh = codes "the refresh time has to be 1 to 86400 seconds"
rule_text rules.Retry = codes "the retry time has to be 1 to 7200 seconds"
rule_text rules.Expire = codes "the expire time has to be 600 to 172800 seconds"
rule_text rules.AboveRefresh = codes "the expire time has to be longer than the refresh time"
rule_text rules.AboveRetry = codes "the expire time has to be longer than the retry time"
