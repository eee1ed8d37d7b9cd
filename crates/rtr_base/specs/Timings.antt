-- The timing parameters of a cache (RFC 8210 section 6).
use Rattle.rtr_base.specs.declared.timing.Timing.{Timing}

-- the timings that are recommended, in seconds
abbrev pub default_timing : Timing
default_timing = record { refresh = 3600; retry = 600; expire = 7200 }
