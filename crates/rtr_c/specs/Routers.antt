-- The structs of C as a router's machine (this library's own).
use Rattle.std.specs.Prelude.{ℕ, ◌-◌, ◌^◌, min, ◌==◌, if◌then◌else◌}
use Rattle.session_router.specs.declared.head.Known.{Known}
use Rattle.session_router.specs.declared.settings.Settings.{Settings}
use Rattle.session_router.specs.declared.router.Router.{Router}
use Rattle.session_router.specs.declared.router.Phase.{Phase}
use Rattle.session_router.specs.declared.router.Phase.TheVariants as phases
use Rattle.rtr_c.specs.declared.router.RtrKnown.{RtrKnown}
use Rattle.rtr_c.specs.declared.router.RtrRouter.{RtrRouter}
use Rattle.rtr_c.specs.declared.router.RtrSettings.{RtrSettings}

-- the time that a machine is told: later ones than it knows are the last that it knows
abbrev pub clock : ℕ → ℕ
clock n = min n (2 ^ 63 - 1)

abbrev pub settings_of : RtrSettings → Settings
settings_of s = record {
  highest = s.highest;
  pause = s.pause;
  connect_limit = s.connect_limit;
  response_limit = s.response_limit;
  refresh = s.refresh;
  retry = s.retry;
  expire = s.expire;
  most_units = s.most_units;
  most_bytes = s.most_bytes;
  chance = s.chance;
}

abbrev pub shown_known : RtrKnown → Known
shown_known k = record {
  version = k.version;
  session = k.session;
  serial = k.serial;
  refresh = k.refresh;
  retry = k.retry;
  expire = k.expire;
}

abbrev pub phase_number : Phase → ℕ
phase_number phases.Offline = 0
phase_number phases.Connecting = 1
phase_number phases.Asked = 2
phase_number phases.Reading = 3
phase_number phases.Applying = 4
phase_number phases.Waiting = 5

-- a number that is no phase is without a connection
abbrev pub phase_of : ℕ → Phase
phase_of n =
    if n == 1 then phases.Connecting
    else if n == 2 then phases.Asked
    else if n == 3 then phases.Reading
    else if n == 4 then phases.Applying
    else if n == 5 then phases.Waiting
    else phases.Offline

abbrev pub router_of : RtrRouter → Router
router_of r = record {
  settings = settings_of r.settings;
  phase = phase_of r.phase;
  version = r.version;
  agreed = r.agreed;
  fell = r.fell;
  silent = r.silent;
  rise_wait = r.rise_wait;
  rises = r.rises;
  floor = r.floor;
  changes = r.changes;
  resync = r.resync;
  answered = r.answered;
  wait = r.wait;
  session = r.session;
  units = r.units;
  bytes = r.bytes;
  noted = r.noted;
  note = r.note;
  answer = shown_known r.answer;
  has_data = r.has_data;
  known = shown_known r.known;
  came = r.came;
  expires = r.expires;
  asked = r.asked;
  tried = r.tried;
  due = r.due;
}
