-- The limits of a server.
use Rattle.std.specs.Prelude.{false}
use Rattle.session_cache.specs.declared.settings.CacheSettings.{CacheSettings}
use Rattle.session_server.specs.declared.settings.ServerSettings.{ServerSettings}

-- 30 seconds to the first query, 25 hours between two, since a router asks once a day at least
-- (section 6), a minute between two notifies (section 8.2), and cache resets (section 8.3)
abbrev pub usual_cache_settings : CacheSettings
usual_cache_settings = record {
  first_limit = 30000;
  idle_limit = 90000000;
  pause = 60000;
  refuses = false;
}

abbrev pub usual_server_settings : ServerSettings
usual_server_settings = record {
  cache = usual_cache_settings;
  unit_limit = 10000;
  write_limit = 30000;
  response_limit = 600000;
  report_limit = 10000;
  keep = 7200000;
  keep_bytes = 67108864;
  most_connections = 1024;
  most_refused = 64;
  most_behind = 2;
}
