-- The end of data (RFC 6810 section 5.8, RFC 8210 section 5.8; version 2 as in the Rust crate
-- `rpki`, laid out as version 1).
use Rattle.std.specs.Prelude.{◌≡◌, ℕ, ◌^◌, ◌<◌, ◌⊎◌, List, ◌++◌, take, drop, Option, Some, None}
use Rattle.rtr_base.specs.declared.timing.Timing.{Timing}
use Rattle.rtr_base.specs.Bytes.{be, value}
use Rattle.rtr_units.specs.Header.{header, version_field, session_field}
use Rattle.rtr_units.specs.Queries.{serial_field}

-- what an end of data means: in version 0 without timings
pub record EndMeaning : Type 0 where
  pub version : ℕ
  pub session : ℕ
  pub serial : ℕ
  pub timing : Option Timing

-- its list of bytes
abbrev pub timed_list : ℕ → ℕ → ℕ → Option Timing → List ℕ
timed_list v s q None = header v 7 s 12 ++ be q 4
timed_list v s q (Some t) = header v 7 s 24 ++
    (be q 4 ++ be t.refresh 4 ++ be t.retry 4 ++ be t.expire 4)

abbrev pub end_list : EndMeaning → List ℕ
end_list e = timed_list e.version e.session e.serial e.timing

-- version 0 has no timings, versions 1 and 2 have three
abbrev pub HasTimingOf : ℕ → Option Timing → Type 0
HasTimingOf v None = v ≡ 0
HasTimingOf v (Some t) = ((v ≡ 1) ⊎ (v ≡ 2)) × (t.refresh < 2 ^ 32) × (t.retry < 2 ^ 32) ×
    (t.expire < 2 ^ 32)

pub record IsEndMeaning (e : EndMeaning) : Type 0 where
  pub session : e.session < 2 ^ 16
  pub serial : e.serial < 2 ^ 32
  pub timing : HasTimingOf e.version e.timing

-- the bytes are an end of data with this meaning
pub record IsEnd (b : List ℕ) (e : EndMeaning) : Type 0 where
  pub fits : IsEndMeaning e
  pub bytes : b ≡ end_list e

-- ---- what the bytes of an end of data mean, read off at their places

abbrev pub timing_fields : List ℕ → Timing
timing_fields b =
    record {
      refresh = value (take 4 (drop 12 b));
      retry = value (take 4 (drop 16 b));
      expire = value (take 4 (drop 20 b));
    }

-- as one of version 0, whatever their version field says
abbrev pub untimed_meaning : List ℕ → EndMeaning
untimed_meaning b =
    record {
      version = 0;
      session = session_field b;
      serial = serial_field b;
      timing = None;
    }

-- as one of a later version
abbrev pub timed_meaning : List ℕ → EndMeaning
timed_meaning b =
    record {
      version = version_field b;
      session = session_field b;
      serial = serial_field b;
      timing = Some (timing_fields b);
    }
