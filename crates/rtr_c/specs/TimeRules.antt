-- The rules on the times that a cache names, as C is told of them (this library's own).
use Rattle.std.specs.Prelude.{ℕ, List, Option, Some, None, ◌==◌, if◌then◌else◌}
use Rattle.rtr_base.specs.declared.timing.Timing.{Timing}
use Rattle.session_times.specs.AllowedTimes.{broken_time_rule, rule_text}
use Rattle.session_times.specs.declared.times.TimeRule.{TimeRule}
use Rattle.session_times.specs.declared.times.TimeRule.TheVariants as rules

-- 0 where none is broken
abbrev pub time_rule_number : Option TimeRule → ℕ
time_rule_number None = 0
time_rule_number (Some rules.Refresh) = 1
time_rule_number (Some rules.Retry) = 2
time_rule_number (Some rules.Expire) = 3
time_rule_number (Some rules.AboveRefresh) = 4
time_rule_number (Some rules.AboveRetry) = 5

-- An end of data has times from version 1 on (section 5.8).
abbrev pub end_rule : (version : ℕ) → Timing → ℕ
end_rule version t = if version == 0 then 0 else time_rule_number (broken_time_rule t)

abbrev pub time_rule_name : ℕ → Option (List ℕ)
time_rule_name n =
    if n == 1 then Some (rule_text rules.Refresh)
    else if n == 2 then Some (rule_text rules.Retry)
    else if n == 3 then Some (rule_text rules.Expire)
    else if n == 4 then Some (rule_text rules.AboveRefresh)
    else if n == 5 then Some (rule_text rules.AboveRetry)
    else None
