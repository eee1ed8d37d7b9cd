-- The structs of C as a cache's machine (this library's own).
use Rattle.session_cache.specs.declared.cache.Cache.{Cache}
use Rattle.session_cache.specs.declared.event.Present.{Present}
use Rattle.session_cache.specs.declared.settings.CacheSettings.{CacheSettings}
use Rattle.rtr_c.specs.declared.cache.RtrCache.{RtrCache}
use Rattle.rtr_c.specs.declared.cache.RtrCacheSettings.{RtrCacheSettings}
use Rattle.rtr_c.specs.declared.cache.RtrPresent.{RtrPresent}

abbrev pub present_of : RtrPresent → Present
present_of p = record { has = p.has; session = p.session; serial = p.serial }

abbrev pub cache_settings_of : RtrCacheSettings → CacheSettings
cache_settings_of s = record {
  first_limit = s.first_limit;
  idle_limit = s.idle_limit;
  pause = s.pause;
  refuses = s.refuses;
}

abbrev pub cache_of : RtrCache → Cache
cache_of c = record {
  settings = cache_settings_of c.settings;
  live = c.live;
  asked = c.asked;
  version = c.version;
  told = c.told;
  reset = c.reset;
  session = c.session;
  serial = c.serial;
  notify_from = c.notify_from;
  due = c.due;
}
