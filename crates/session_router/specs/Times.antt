-- The times of data, in milliseconds (RFC 8210 section 6).
use Rattle.std.specs.Prelude.{ℕ, ◌-◌, ◌*◌, ◌/◌, ◌+◌, ◌==◌, if◌then◌else◌, min, max, nat_lt}
use Rattle.session_router.specs.declared.head.Known.{Known}
use Rattle.session_router.specs.declared.router.Router.{Router}
use Rattle.session_router.specs.declared.settings.Settings.{Settings}

-- the caller's setting, or this if that is 0
abbrev pub set_or : ℕ → ℕ → ℕ
set_or set n = if set == 0 then n else set

-- The seconds of an end of data, within these limits. Version 0 has none, and before the first data
-- there are none either; then the recommended ones.
abbrev pub milliseconds : Known → (seconds recommended least most : ℕ) → ℕ
milliseconds k seconds recommended least most =
    1000 * (if k.version == 0 then recommended else min most (max least seconds))

abbrev pub expire_ms : Settings → Known → ℕ
expire_ms s k = set_or s.expire (milliseconds k k.expire 7200 600 172800)

abbrev pub retry_ms : Settings → Known → ℕ
retry_ms s k = set_or s.retry (milliseconds k k.retry 600 1 7200)

abbrev pub named_refresh_ms : Settings → Known → ℕ
named_refresh_ms s k = set_or s.refresh (milliseconds k k.refresh 3600 1 86400)

-- The refresh time, lowered if it isn't below the expire time, since otherwise data would expire
-- while the cache is alive.
abbrev pub refresh_ms : Settings → Known → ℕ
refresh_ms s k =
    if nat_lt (named_refresh_ms s k) (expire_ms s k)
    then named_refresh_ms s k
    else expire_ms s k / 2

-- when the end of data of the answer came
abbrev pub received : Router → (now : ℕ) → ℕ
received r n = min r.came n

-- when data adopted now expire: the expire time starts when the end of data is received
abbrev pub expires_at_show : Router → (now : ℕ) → ℕ
expires_at_show r n = received r n + expire_ms r.settings r.answer

-- a wait that is shortened by chance, by less than half
abbrev pub shortened : (chance wait : ℕ) → ℕ
shortened chance wait = wait - wait * chance / 131072
