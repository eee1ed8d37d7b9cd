-- A life of stores, and a client at a cache that serves what they serve, which the prover computes,
-- so that the premises of the laws are seen to be met.
use native.Mathlib.Omega.{arith}
use Rattle.std.proofs.Common.{◌≡◌, ◌<◌, ◌^◌, ℕ, List, [], ◌∷◌, ◌++◌, Option, Some, None, length}
use Rattle.std.proofs.Common.{◌≢◌, append-nil, false, Ok, true}
use Rattle.std.proofs.Common.{refl, sym, ◌∙◌, subst, inl, inr, lit<, lit≤}
use Rattle.rtr_units.specs.End.{end_list}
use Rattle.rtr_base.specs.Bytes.{be}
use Rattle.rtr_base.proofs.Numbers.{IsBytes-be}
use Rattle.rtr_units.specs.Queries.{bare_list, serial_list}
use Rattle.rtr_units.proofs.Headers.{header_bytes}
use Rattle.rtr_payload.specs.UnitFields.{meaning}
use Rattle.rtr_wire.specs.Into.{NormalisesInto}
use Rattle.rtr_wire.specs.Sequences.{for_version}
use Rattle.rtr_wire.specs.declared.into.Progress.{Progress}
use Rattle.unit_any.specs.AnyFields.{serial_query}
use Rattle.data_memory.proofs.Versions.{no_data}
use Rattle.data_slices.specs.Canonical.{HoldsData}
use Rattle.data_history.specs.Life.{IsLife, gone_on}
use Rattle.data_history.specs.Life.{saved, took, took_first, was_new, wrote}
use Rattle.data_history.specs.Parts.{part_form}
use Rattle.data_history.specs.Serials.{serials_of}
use Rattle.data_history.specs.Snapshots.{HoldsHistory, Snapshot, behind_by}
use Rattle.data_history.specs.Store.{HoldsStore, IsTaken, left_sessions, sessions_of}
use Rattle.data_history.proofs.Examples.{named}
use Rattle.data_history.proofs.Parts.{formed}
use Rattle.session_router.specs.Heeding.{IsTalking}
use Rattle.session_router.specs.Step.{IsInTime}
use Rattle.session_router.specs.declared.event.Action.TheVariants as actions
use Rattle.session_router.specs.declared.head.Head.{Head}
use Rattle.session_router.specs.declared.head.Kind.TheVariants as kinds
use Rattle.session_cache.specs.CacheRules.{CannotTell, heard, informed}
use Rattle.session_cache.specs.CacheSteps.{IsCacheStep}
use Rattle.session_cache.specs.Worlds.{IsPeaceful, plain_head}
use Rattle.session_cache.specs.declared.cache.Cache.{Cache}
use Rattle.session_cache.specs.declared.event.Answer.TheVariants as answers
use Rattle.session_cache.specs.declared.event.CacheEvent.TheVariants as told
use Rattle.session_cache.proofs.ExampleCalm.{begins_so}
use Rattle.session_cache.proofs.ExampleWorlds.{asked, reading, response_head}
use Rattle.session_cache.proofs.Examples.{cache₀}
use Rattle.session_bytes.specs.Heads.{HasHead}
use Rattle.session_bytes.specs.Reading.{Acts, kept_none}
use Rattle.session_bytes.specs.Serving.{HearsRouter}
use Rattle.session_bytes.specs.declared.serving.Served.TheVariants as served_as
use Rattle.session_bytes.proofs.Examples.{data_bytes, end, end_bytes, is_end, is_prefix, prefix}
use Rattle.session_bytes.proofs.Examples.{fields, prefix_bytes, response_bytes, response_has}
use Rattle.session_laws.specs.Editions.{PayloadEdition}
use Rattle.session_laws.proofs.Examples.{is_data}
use Rattle.session_client_laws.proofs.Example.{came₃, pair₀, pair₇}
use Rattle.session_server_laws.specs.Services.{Turn}
use Rattle.session_server_laws.proofs.Example.{all_turn, had}
use Rattle.session_store_laws.specs.ServedData.{AreHad, AreServed, HasServed, IsEditionOf}
use Rattle.session_store_laws.specs.ServedData.{StayOnCircles}
use Rattle.session_store_laws.specs.ServedData.HasServed.{served_saved}
use Rattle.session_store_laws.proofs.Circles.{on_circles}

-- ---- data without payloads, and then a prefix

abbrev earlier : Snapshot
earlier = named 7 4

abbrev earlier_bytes : List ℕ
earlier_bytes = end_list earlier.end

abbrev pub later : Snapshot
later = record { end = end; payloads = prefix ∷ [] }

holds_earlier : HoldsData earlier_bytes earlier.payloads earlier.end
holds_earlier = record {
  bytes = earlier_bytes;
  accepts = record {
    rest = [];
    parts = sym (append-nil earlier_bytes);
    sequence = record {
      front = [];
      last = earlier_bytes;
      parts = refl;
      units = refl;
      end = record {
        fits = record {
          session = lit< tt;
          serial = lit< tt;
          timing = (inl refl, lit< tt, lit< tt, lit< tt);
        };
        bytes = refl;
      };
    };
  };
  in_order = no_data;
}

pub holds_later : HoldsData data_bytes later.payloads later.end
holds_later = record {
  bytes = data_bytes;
  accepts = record {
    rest = [];
    parts = refl;
    sequence = record {
      front = prefix_bytes;
      last = end_bytes;
      parts = refl;
      units = (prefix_bytes, [], refl, is_prefix, refl);
      end = is_end;
    };
  };
  in_order = is_data;
}

-- ---- their stores

abbrev store : List ℕ → List ℕ
store b = part_form 0 [] ++ (part_form 10 b ++ [])

stored : (b : List ℕ) (x : Snapshot) → length b < 2 ^ 64 → HoldsData b x.payloads x.end
    → HoldsStore (store b) x []
stored b x few h =
    let none : length {A = ℕ} [] < 2 ^ 64 = omega arith in
    let p = formed 0 [] (part_form 10 b ++ []) (omega arith) none in
    let q = formed 10 b [] (omega arith) few in
    record {
      first = p.has;
      history = subst (λ l. HoldsHistory l x []) (sym p.rest) (record {
        first = q.has;
        holds = subst (λ l. HoldsData l x.payloads x.end) (sym q.bytes) h;
        back = q.rest;
        order = tt;
      });
    }

none_left : (b : List ℕ) → left_sessions (store b) ≡ []
unfolding left_sessions
none_left b =
    let none : length {A = ℕ} [] < 2 ^ 64 = omega arith in
    let p = formed 0 [] (part_form 10 b ++ []) (omega arith) none in
    (λ i. sessions_of (p.bytes i))

has_earlier : HoldsStore (store earlier_bytes) earlier []
has_earlier = stored earlier_bytes earlier (lit< tt) holds_earlier

has_later : HoldsStore (store data_bytes) later []
has_later = stored data_bytes later (lit< tt) holds_later

goes_on : IsTaken (store earlier_bytes) (store data_bytes) later earlier
goes_on = record {
  front = [];
  store = has_later;
  name = inl (record {
    session = refl;
    later = refl;
    left = none_left data_bytes ∙ sym (none_left earlier_bytes);
  });
}

-- ---- both are taken, saved and served

abbrev pub served : List Snapshot
served = later ∷ earlier ∷ []

abbrev file : Option (List ℕ)
file = Some (store earlier_bytes)

abbrev next : Option (List ℕ)
next = Some (store data_bytes)

life : IsLife served next next None
life =
    let a = took_first None None (store earlier_bytes) earlier [] was_new has_earlier in
    let b = wrote [] None None (store earlier_bytes) a in
    let c = saved [] None (store earlier_bytes) earlier [] b has_earlier in
    let d = took (earlier ∷ []) file None (store earlier_bytes) (store data_bytes) later earlier
    [] c has_earlier goes_on in
    let e = wrote (earlier ∷ []) file file (store data_bytes) d in
    saved (earlier ∷ []) file (store data_bytes) later [] e has_later

pub has_served : HasServed (served ++ [])
has_served = served_saved served next next None life

few : gone_on served < 2 ^ 32
unfolding behind_by
few = omega arith

pub stay : StayOnCircles served
stay = on_circles served few

-- ---- the cache has the later ones

is_edition : IsEditionOf later pair₇.present
is_edition = record {
  has = refl;
  session = refl;
  serial = refl;
  payloads = refl;
  times = refl;
}

pub are_served : AreServed served pair₇.had
are_served = ((λ has. (later, inl refl, is_edition)), tt)

pub are_served_first : AreServed served pair₀.had
are_served_first = ((λ has. (later, inl refl, is_edition)), tt)

pub are_served_then : AreServed served came₃.had
are_served_then = ((λ has. (later, inl refl, is_edition)), tt)

pub none_before : 0 < 0 → ⊥
none_before more = omega (arith, more)

pub not_kept : actions.Begin ≢ actions.Keep
not_kept e = cc

-- a cache response comes
abbrev pub acts_first : Acts asked 30 (response_bytes ++ data_bytes) 0 8 actions.Begin reading
acts_first = record {
  before = asked;
  kept = kept_none asked;
  head = response_head;
  unit = response_has;
  order = lit< tt;
  within = lit≤ tt;
  step = begins_so;
  other = not_kept;
  alone = λ more. absurd (none_before more);
}

pub is_talking : IsTalking asked
is_talking = ((λ e. cc), (λ e. cc))

pub asked_in_time : IsInTime asked 30
asked_in_time = ((λ limited. lit< tt), (λ e. cc))

pub is_peaceful : IsPeaceful asked response_head
is_peaceful = record {
  session = λ p k h. cc;
  order = λ k c. cc;
  room = λ p. absurd p;
  report = λ k. cc;
}

-- and the cache of `two_queries_are_answered`
pub is_edition_there : IsEditionOf later all_turn.present
is_edition_there =
    record { has = refl; session = refl; serial = refl; payloads = refl; times = refl }

pub are_served_there : AreServed served had
are_served_there = ((λ has. (later, inl refl, is_edition_there)), tt)

-- ---- changes of a history

abbrev pub with_serial : ℕ → PayloadEdition
with_serial n = record {
  name = record { has = true; session = 7; serial = n };
  payloads = [];
  are_data = no_data;
  refresh = 3600;
  retry = 600;
  expire = 7200;
}

abbrev pub both : List PayloadEdition
both = with_serial 2 ∷ with_serial 1 ∷ []

abbrev pub bytes_of : ℕ → List ℕ
bytes_of n = end_list (named 7 n).end

abbrev pub turn : Turn
turn = record {
  unit = None;
  answer = answers.Changes 1;
  version = 1;
  present = with_serial 2;
  old = with_serial 1;
  bytes = bare_list 1 3 7 ++ bytes_of 2;
}

pub of_serial : (n : ℕ) → IsEditionOf (named 7 n) (with_serial n)
of_serial n =
    record { has = refl; session = refl; serial = refl; payloads = refl; times = refl }

pub both_had : AreHad both (named 7 2 ∷ named 7 1 ∷ [])
both_had = (
  (with_serial 2, inl refl, of_serial 2),
  ((with_serial 1, inr (inl refl), of_serial 1), tt),
)

-- ---- a router asks for them

abbrev serial_head : Head
serial_head = plain_head kinds.SerialQuery 1 7 1 0

abbrev pub query : List ℕ
query = serial_list 1 1 7 1

abbrev pub informed_cache : Cache
informed_cache = informed (heard cache₀ 100 1) (with_serial 2).name

query_has : HasHead query serial_head
query_has = record {
  fields = serial_query 1 7 1;
  has = record {
    fits = (lit< tt, lit< tt);
    bytes = refl;
    are_bytes = header_bytes 1 1 7 12 (be 1 4) (lit< tt) (lit< tt) (IsBytes-be 1 4);
  };
  in_order = tt;
  head = refl;
}

can_tell : CannotTell (with_serial 2).name serial_head true → ⊥
can_tell (inl other) = other refl
can_tell (inr d) = let e = d.0 in cc

gives_changes : IsCacheStep cache₀ 100 (with_serial 2).name (told.Came serial_head true)
    (answers.Changes 1) informed_cache
gives_changes = record {
  rule = (
    refl,
    record {
      query = record {
        kind = refl;
        version = record { most = lit≤ tt; same = λ e. cc };
        has = refl;
        session = λ e. cc;
      };
      known = record { session = refl; serial = inl refl };
      since_is = refl;
      after = refl;
    },
  );
  serves = λ l t. record {
    all = λ q. let e = q.kind in cc;
    changes = λ q k. refl;
    resets = λ q k r. absurd (can_tell k);
    refuses = λ q k r. cc;
    none = λ k v h. cc;
    other_session = λ k v o. let e = o.told in cc;
    no_query = λ k. absurd k;
    other_version = λ k e v. cc;
    no_version = λ k e v. absurd (omega (arith, v));
    reported = λ k. cc;
  };
  late = λ l d. absurd (omega (arith, d));
  ended = λ e. cc;
  acts = λ e. cc;
}

pub is_asked : HearsRouter cache₀ 100 (with_serial 2).name (serials_of (named 7 1 ∷ [])) query
    false (served_as.Answered 12 (answers.Changes 1)) informed_cache
is_asked = record {
  head = serial_head;
  unit = query_has;
  some = lit< tt;
  within = lit≤ tt;
  step = gives_changes;
}

-- ---- all data

abbrev pub all_progress : Progress
all_progress = record { units = 1; forms = 1; taken = 44; written = 44 }

pub all_written : NormalisesInto (for_version 2) 2 (Ok tt) data_bytes data_bytes data_bytes
    all_progress
all_written = record {
  viewed = data_bytes;
  left = [];
  form = data_bytes;
  parts = refl;
  last = end_bytes;
  run = record {
    units = prefix_bytes;
    last = end_bytes;
    taken_parts = refl;
    meanings = meaning fields ∷ [];
    are_units = (prefix_bytes, [], refl, is_prefix, refl);
    last_written = end_bytes;
    written_parts = refl;
    counts = (refl, lit< tt);
    ends = (end, is_end, refl);
  };
  last_is = refl;
  units = refl;
  forms = refl;
  taken = refl;
  written = refl;
  fits = lit≤ tt;
  output = refl;
  room = 0;
  room_is = refl;
  stops = tt;
}
