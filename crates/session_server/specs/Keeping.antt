-- What a server keeps (this library's own).
use Rattle.std.specs.Prelude.{ℕ, Bool, ◌+◌, ◌*◌, ◌==◌, ◌&&◌, min, nat_le, if◌then◌else◌}
use Rattle.session_cache.specs.declared.event.Present.{Present}
use Rattle.session_server.specs.declared.settings.ServerSettings.{ServerSettings}

-- `more` bytes of encoded changes are kept, beside `kept` bytes that already are
abbrev pub keeps_more : ServerSettings → (kept more : ℕ) → Bool
keeps_more s kept more = nat_le (kept + more) s.keep_bytes

-- The version to which new data of session `session` and version `new` are converted, where the
-- present data have version `version`. Data of one session follow each other in one version, and no
-- version below that of the new data has a form for all of their payloads.
abbrev pub kept_version : Present → (version session new : ℕ) → ℕ
kept_version p version session new =
    if p.has && ((p.session == session) && nat_le new version) then version else 2

-- the pause in milliseconds before a failed save is retried, after that before the last try, or 0
abbrev pub retry_after : (previous : ℕ) → ℕ
retry_after previous = if previous == 0 then 1000 else min (2 * previous) 60000
