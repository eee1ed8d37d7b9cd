-- The structs of C as the limits of a server, and as its door (this library's own).
use Rattle.std.specs.Prelude.{ℕ, ◌==◌, if◌then◌else◌}
use Rattle.session_server.specs.declared.door.Door.{Door}
use Rattle.session_server.specs.declared.door.Entry.{Entry}
use Rattle.session_server.specs.declared.door.Entry.TheVariants as entries
use Rattle.session_server.specs.declared.settings.ServerSettings.{ServerSettings}
use Rattle.rtr_c.specs.Caches.{cache_settings_of}
use Rattle.rtr_c.specs.declared.server_calls.RtrDoor.{RtrDoor}
use Rattle.rtr_c.specs.declared.server_calls.RtrServerSettings.{RtrServerSettings}

abbrev pub server_settings_of : RtrServerSettings → ServerSettings
server_settings_of s = record {
  cache = cache_settings_of s.cache;
  unit_limit = s.unit_limit;
  write_limit = s.write_limit;
  response_limit = s.response_limit;
  report_limit = s.report_limit;
  keep = s.keep;
  keep_bytes = s.keep_bytes;
  most_connections = s.most_connections;
  most_refused = s.most_refused;
  most_behind = s.most_behind;
}

abbrev pub door_of : RtrDoor → Door
door_of d = record {
  most_connections = d.most_connections;
  most_refused = d.most_refused;
  served = d.served;
  refused = d.refused;
}

abbrev pub entry_number : Entry → ℕ
entry_number entries.Serve = 0
entry_number entries.Refuse = 1
entry_number entries.Wait = 2

abbrev pub numbered_entry : ℕ → Entry
numbered_entry n =
    if n == 0 then entries.Serve
    else if n == 1 then entries.Refuse
    else entries.Wait
