-- A run of a client and a cache that the prover computes, so that the premises of the laws are seen
-- to be met: a reset query, a cache response, a prefix and an end of data.
use native.Mathlib.Omega.{arith}
use Rattle.std.proofs.Common.{false, Some, None, [], ◌∷◌, ◌++◌, refl}
use Rattle.std.proofs.Common.{append-nil, inl, inr, lit<, lit≤, subst, true}
use Rattle.rtr_base.specs.Bytes.{IsBytes}
use Rattle.rtr_base.proofs.Numbers.{IsBytes-be}
use Rattle.rtr_units.specs.Queries.{bare_list}
use Rattle.rtr_units.proofs.Headers.{header_bytes}
use Rattle.rtr_payload.proofs.Apart.{begins_apart}
use Rattle.unit_any.specs.AnyFields.{reset_query}
use Rattle.session_router.specs.declared.event.Action.TheVariants as actions
use Rattle.session_router.specs.declared.event.Event.TheVariants as events
use Rattle.session_router.specs.Exchange.{Exchange, exchange_after, none_yet}
use Rattle.session_router.specs.Histories.{IsNew, at}
use Rattle.session_router.specs.Recovery.{ComesInTime}
use Rattle.session_router.specs.Recovery.AnswersWell.{responds}
use Rattle.session_router.specs.Recovery.GoesOnWell.{ends_data, sends_payload}
use Rattle.session_router.specs.Rules.{query}
use Rattle.session_cache.specs.declared.event.Answer.TheVariants as answers
use Rattle.session_cache.specs.Worlds.{query_head}
use Rattle.session_cache.proofs.Examples.{cache₀}
use Rattle.session_cache.proofs.ExampleCalm.{adopts_so, asks_so, begins_so, completes_so}
use Rattle.session_cache.proofs.ExampleCalm.{connects_so, gives_all_so, keeps_so}
use Rattle.session_cache.proofs.ExampleWorlds.{applying, asked, cache₁, connecting, end_head}
use Rattle.session_cache.proofs.ExampleWorlds.{keeping, payload_head, reading, response_head}
use Rattle.session_cache.proofs.ExampleWorlds.{router₀, settings, waiting}
use Rattle.session_bytes.specs.Heads.{HasHead}
use Rattle.session_bytes.specs.Reading.{Acts, kept_more, kept_none}
use Rattle.session_bytes.specs.declared.telling.Told.TheVariants as told
use Rattle.session_bytes.proofs.Examples.{data_bytes, end, end_bytes, end_has_head, is_end}
use Rattle.session_bytes.proofs.Examples.{prefix_bytes, prefix_has, response_bytes, response_has}
use Rattle.session_client.specs.Makings.{Octets}
use Rattle.session_client.specs.Tells.{of_bytes, of_itself}
use Rattle.session_client.specs.declared.client.Client.{Client}
use Rattle.session_client.specs.declared.client.Holding.TheVariants as holdings
use Rattle.session_client.specs.declared.next.Todo.TheVariants as todos
use Rattle.session_client.proofs.Example.{made, was}
use Rattle.session_client.proofs.Runs.{made_is}
use Rattle.session_client.proofs.Takes.{has_apply, has_kept, has_made}
use Rattle.session_laws.specs.Written.{router_bytes}
use Rattle.session_laws.proofs.Examples.{edition, fits}
use Rattle.session_client_laws.specs.Again.{IsServedAgain}
use Rattle.session_client_laws.specs.Again.IsServedAgain.{again_calls, again_from}
use Rattle.session_client_laws.specs.Again.IsServedAgain.{again_meanwhile, again_opens}
use Rattle.session_client_laws.specs.Runs.{Calls, Goes, IsRunOfClient, Pair}
use Rattle.session_client_laws.specs.Runs.Goes.{asks, calls, opens, takes_bytes, says}
use Rattle.session_client_laws.specs.Runs.IsRunOfClient.{pair_begins, pair_goes_on}
use Rattle.session_client_laws.specs.Served.{IsServedFrom, WellServed}
use Rattle.session_client_laws.specs.Served.IsServedFrom.{says_between, serves_from, serves_on}
use Rattle.session_client_laws.specs.Served.WellServed.{served_more, served_none}

-- ---- the data of the cache

-- ---- the client and its buffers

abbrev query_list : Octets
query_list = router_bytes (actions.Ask (query asked))

abbrev sent_bytes : Octets
sent_bytes = response_bytes ++ data_bytes

abbrev pub client₀ : Client
client₀ = record {
  router = router₀;
  holding = holdings.Nothing;
  kept = 0;
  filled = 0;
  shown = None;
  unsent = 0;
  second = false;
  opened = false;
  closed = false;
}

pub new₀ : IsNew settings client₀.router
new₀ = record {
  settings = refl;
  phase = refl;
  has_data = refl;
  due = refl;
  asked = refl;
  rises = refl;
  fell = refl;
}

abbrev client₁ : Client
client₁ = record client₀ { router = connecting }

abbrev client₂ : Client
client₂ = record client₀ { router = asked; unsent = 8 }

abbrev client₃ : Client
client₃ = record client₀ { router = asked; filled = 52 }

abbrev client₄ : Client
client₄ = record client₀ { router = reading; holding = holdings.Units; filled = 44 }

abbrev client₅ : Client
client₅ = record client₄ { router = keeping; kept = 20 }

abbrev pub client₆ : Client
client₆ = record client₅ { router = applying; holding = holdings.Answer 24 false }

abbrev pub client₇ : Client
client₇ = record client₀ { router = waiting; shown = Some 44; second = true }

abbrev pub pair₀ : Pair
pair₀ = record {
  client = client₀;
  input = [];
  held = [];
  cache = cache₀;
  present = edition;
  had = edition ∷ [];
  to_cache = [];
  to_router = [];
}

abbrev pair₁ : Pair
pair₁ = record pair₀ { client = client₁ }

abbrev pair₂ : Pair
pair₂ = record pair₀ { client = client₂; to_cache = query_list }

abbrev pair₃ : Pair
pair₃ = record pair₂ { cache = cache₁; to_cache = []; to_router = sent_bytes }

abbrev sent₃ : Pair
sent₃ = record pair₃ { client = record client₂ { unsent = 0 } }

abbrev pub came₃ : Pair
came₃ = record pair₃ { client = client₃; input = sent_bytes; to_router = [] }

abbrev pair₄ : Pair
pair₄ = record came₃ { client = client₄; input = data_bytes }

abbrev pair₅ : Pair
pair₅ = record pair₄ { client = client₅ }

abbrev pub pair₆ : Pair
pair₆ = record pair₄ { client = client₆ }

abbrev pub pair₇ : Pair
pair₇ = record pair₄ { client = client₇; held = data_bytes }

-- ---- its calls

connects : Calls pair₀ client₁ [] [] (Some actions.Connect)
connects = record {
  now = 0;
  todo = todos.Connect;
  is_todo = tt;
  output = [];
  output' = [];
  did = record {
    units = [];
    mid = router₀;
    kept = kept_none router₀;
    event = events.Tick;
    step = connects_so;
    refusal = None;
    unit = [];
    puts = (refl, lit≤ tt, refl);
  };
  takes = record {
    word = of_itself events.Tick actions.Connect;
    is_told = (refl, tt, connects_so, refl);
    front = refl;
    size = refl;
    made = [];
    were = tt;
    says = λ c h makes x. tt;
    has = λ c h makes x. x;
  };
  fits = tt;
}

asks_all : Calls pair₁ client₂ [] [] (Some (actions.Ask (query asked)))
asks_all = record {
  now = 10;
  todo = todos.Go;
  is_todo = tt;
  output = [];
  output' = query_list;
  did = record {
    units = [];
    mid = connecting;
    kept = kept_none connecting;
    event = events.Connected;
    step = asks_so;
    refusal = None;
    unit = [];
    puts = (refl, lit≤ tt, refl);
  };
  takes = record {
    word = of_itself events.Connected (actions.Ask (query asked));
    is_told = (refl, tt, asks_so, refl);
    front = refl;
    size = refl;
    made = [];
    were = tt;
    says = λ c h makes x. refl;
    has = λ c h makes x. x;
  };
  fits = (lit< tt, lit< tt, lit< tt);
}

acts_begin : Acts asked 30 sent_bytes 0 8 actions.Begin reading
acts_begin = record {
  before = asked;
  kept = kept_none asked;
  head = response_head;
  unit = response_has;
  order = lit< tt;
  within = lit≤ tt;
  step = begins_so;
  other = λ e. cc;
  alone = λ more. absurd (omega (arith, more));
}

begins_answer : Calls came₃ client₄ data_bytes [] (Some actions.Begin)
begins_answer = record {
  now = 30;
  todo = todos.Go;
  is_todo = tt;
  output = [];
  output' = [];
  did = record {
    units = [];
    mid = asked;
    kept = kept_none asked;
    event = events.Came response_head;
    step = begins_so;
    refusal = None;
    unit = [];
    puts = (refl, lit≤ tt, refl);
  };
  takes = record {
    word = of_bytes false (told.Acted 0 8 actions.Begin);
    is_told = (refl, acts_begin, refl);
    front = refl;
    size = refl;
    made = [];
    were = tt;
    says = λ c h makes x. tt;
    has = λ c h makes x. (x.0, refl);
  };
  fits = tt;
}

keeps_prefix : Calls pair₄ client₅ data_bytes [] None
keeps_prefix = record {
  now = 31;
  todo = todos.Go;
  is_todo = tt;
  output = [];
  output' = [];
  did = (
    inr (record {
      units = prefix_bytes;
      kept = kept_more reading [] prefix_bytes reading payload_head keeping (kept_none reading)
          prefix_has keeps_so;
    }),
    refl,
    refl,
  );
  takes = record {
    word = of_bytes false (told.Kept 20);
    is_told = (
      refl,
      record {
        some = lit< tt;
        within = lit≤ tt;
        kept = kept_more reading [] prefix_bytes reading payload_head keeping (kept_none reading)
            prefix_has keeps_so;
        no_more = λ more. begins_apart end_bytes more (record {
          bytes = end_bytes;
          means = end;
          rest = [];
          end = is_end;
          parts = refl;
        });
      },
      refl,
    );
    front = refl;
    size = refl;
    made = [];
    were = tt;
    says = λ c h makes x. tt;
    has = λ c h makes x.
        has_kept c h holdings.Units 0 20 44 None data_bytes [] tt (lit≤ tt) x;
  };
  fits = tt;
}

acts_apply : Acts keeping 32 end_bytes 0 24 (actions.Apply false) applying
acts_apply = record {
  before = keeping;
  kept = kept_none keeping;
  head = end_head;
  unit = end_has_head;
  order = lit< tt;
  within = lit≤ tt;
  step = completes_so;
  other = λ e. cc;
  alone = λ more. absurd (omega (arith, more));
}

ends_answer : Calls pair₅ client₆ data_bytes [] (Some (actions.Apply false))
ends_answer = record {
  now = 32;
  todo = todos.Go;
  is_todo = tt;
  output = [];
  output' = [];
  did = record {
    units = [];
    mid = keeping;
    kept = kept_none keeping;
    event = events.Came end_head;
    step = completes_so;
    refusal = None;
    unit = [];
    puts = (refl, lit≤ tt, refl);
  };
  takes = record {
    word = of_bytes false (told.Acted 0 24 (actions.Apply false));
    is_told = (refl, acts_apply, refl);
    front = refl;
    size = refl;
    made = [];
    were = tt;
    says = λ c h makes x. tt;
    has = λ c h makes x.
        has_apply c h holdings.Units false 32 20 20 0 24 44 keeping applying None data_bytes [] tt
        (lit≤ tt) (lit≤ tt) (λ is. refl) acts_apply x;
  };
  fits = tt;
}

pub shows_answer : Calls pair₆ client₇ data_bytes data_bytes (Some actions.Show)
shows_answer = record {
  now = 33;
  todo = todos.Data;
  is_todo = tt;
  output = [];
  output' = [];
  did = record {
    units = [];
    mid = applying;
    kept = kept_none applying;
    event = events.Applied;
    step = adopts_so;
    refusal = None;
    unit = [];
    puts = (refl, lit≤ tt, refl);
  };
  takes = record {
    word = of_itself events.Applied actions.Show;
    is_told = (refl, tt, adopts_so, refl);
    front = refl;
    size = tt;
    made = made ∷ [];
    were = (was, tt);
    says = λ c h makes x. (
      data_bytes,
      made_is c h 24 false 20 None data_bytes [] data_bytes x.0 makes.0 x.1,
    );
    has = λ c h makes x.
        has_made c h 44 0 data_bytes data_bytes
        (made_is c h 24 false 20 None data_bytes [] data_bytes x.0 makes.0 x.1);
  };
  fits = tt;
}

-- ---- the run

query_bytes : IsBytes query_list
query_bytes = subst IsBytes (append-nil (bare_list 2 2 0))
    (header_bytes 2 2 0 8 [] (lit< tt) (lit< tt) (IsBytes-be 0 0))

query_has : HasHead query_list (query_head (query asked))
query_has = record {
  fields = reset_query 2 0;
  has = record {
    fits = lit< tt;
    bytes = refl;
    are_bytes = query_bytes;
  };
  in_order = tt;
  head = refl;
}

pub begins : IsRunOfClient pair₀
begins = pair_begins client₀ [] [] cache₀ edition (record {
  phase = refl;
  has_data = refl;
  holding = refl;
  kept = refl;
  filled = refl;
  shown = refl;
}) fits

asks_then : IsRunOfClient pair₂
unfolding connects asks_all
asks_then = pair_goes_on pair₁ pair₂
    (pair_goes_on pair₀ pair₁ begins
    (calls pair₀ client₁ [] [] (Some actions.Connect) connects (λ opening. opening)))
    (opens pair₁ client₂ [] [] (Some (actions.Ask (query asked))) cache₀ asks_all tt refl)

hears_query : Goes pair₂ pair₃
hears_query = asks pair₂ 20 [] query_list [] false 8 answers.All cache₁ sent_bytes edition refl
    (record {
      head = query_head (query asked);
      unit = query_has;
      some = lit< tt;
      within = lit≤ tt;
      step = gives_all_so;
    })
    (lit< tt) tt refl

says_sent : Goes pair₃ sent₃
says_sent = says pair₃ false false 0

receives : Goes sent₃ came₃
receives = takes_bytes sent₃ 52 sent_bytes sent_bytes [] ((λ is. cc), (λ is. cc))
    (record { kept = lit≤ tt; due = lit≤ tt; filled = lit≤ tt }) (lit≤ tt) refl refl refl

pub comes_then : IsRunOfClient came₃
comes_then = pair_goes_on sent₃ came₃
    (pair_goes_on pair₃ sent₃ (pair_goes_on pair₂ pair₃ asks_then hears_query) says_sent) receives

pub run : IsRunOfClient pair₇
unfolding begins_answer keeps_prefix ends_answer shows_answer
run = pair_goes_on pair₆ pair₇
    (pair_goes_on pair₅ pair₆
    (pair_goes_on pair₄ pair₅
    (pair_goes_on came₃ pair₄ comes_then
    (calls came₃ client₄ data_bytes [] (Some actions.Begin) begins_answer (λ opening. opening)))
    (calls pair₄ client₅ data_bytes [] None keeps_prefix (λ opening. opening)))
    (calls pair₅ client₆ data_bytes [] (Some (actions.Apply false)) ends_answer
    (λ opening. opening)))
    (calls pair₆ client₇ data_bytes data_bytes (Some actions.Show) shows_answer
    (λ opening. opening))

-- ---- beside a cache that keeps the rules, until the answer is whole

abbrev exchange₁ : Exchange
exchange₁ = exchange_after router₀.settings 0 events.Tick actions.Connect none_yet

abbrev exchange₂ : Exchange
exchange₂ =
    exchange_after connecting.settings 10 events.Connected (actions.Ask (query asked)) exchange₁

abbrev exchange₃ : Exchange
exchange₃ = exchange_after asked.settings 30 (events.Came response_head) actions.Begin exchange₂

abbrev exchange₄ : Exchange
exchange₄ = exchange_after reading.settings 31 (events.Came payload_head) actions.Keep exchange₃

abbrev pub exchange₅ : Exchange
exchange₅ =
    exchange_after keeping.settings 32 (events.Came end_head) (actions.Apply false) exchange₄

untimed : ComesInTime none_yet 0
untimed (inl limited) = absurd limited
untimed (inr is) = absurd (let e = is in cc)

connects_well : WellServed 2 0 router₀ none_yet (at 0 events.Tick [] actions.Connect ∷ [])
    connecting exchange₁
connects_well = served_more router₀ none_yet [] router₀ none_yet events.Tick [] actions.Connect
    connecting (served_none router₀ none_yet) connects_so untimed (inl refl) ((λ is. cc), tt)

asks_well : WellServed 2 10 connecting exchange₁
    (at 10 events.Connected [] (actions.Ask (query asked)) ∷ []) asked exchange₂
asks_well = served_more connecting exchange₁ [] connecting exchange₁ events.Connected []
    (actions.Ask (query asked)) asked (served_none connecting exchange₁) asks_so (λ l. lit< tt)
    (inr (inr refl)) ((λ is. cc), tt)

begins_well : WellServed 2 30 asked exchange₂
    (at 30 (events.Came response_head) response_bytes actions.Begin ∷ []) reading exchange₃
begins_well = served_more asked exchange₂ [] asked exchange₂ (events.Came response_head)
    response_bytes actions.Begin reading (served_none asked exchange₂) begins_so (λ l. lit< tt)
    (inr (inr (responds response_head refl refl))) ((λ is. cc), tt)

keeps_well : WellServed 2 31 reading exchange₃
    (at 31 (events.Came payload_head) prefix_bytes actions.Keep ∷ []) keeping exchange₄
keeps_well = served_more reading exchange₃ [] reading exchange₃ (events.Came payload_head)
    prefix_bytes actions.Keep keeping (served_none reading exchange₃) keeps_so (λ l. lit< tt)
    (inr (inr (sends_payload payload_head tt refl (lit≤ tt) (lit≤ tt)))) ((λ is. cc), tt)

ends_well : WellServed 2 32 keeping exchange₄
    (at 32 (events.Came end_head) end_bytes (actions.Apply false) ∷ []) applying exchange₅
ends_well = served_more keeping exchange₄ [] keeping exchange₄ (events.Came end_head) end_bytes
    (actions.Apply false) applying (served_none keeping exchange₄) completes_so (λ l. lit< tt)
    (inr (inr (ends_data end_head (record { kind = refl; version = refl; session = refl })
    (λ is. cc) (λ is. cc)))) ((λ is. cc), tt)

asks_served : IsServedFrom 2 client₀ none_yet 0 client₂ exchange₂ 10
unfolding connects asks_all
asks_served = serves_on client₁ exchange₁ 0 10 (Some (actions.Ask (query asked))) [] [] client₂ []
    [] (at 10 events.Connected [] (actions.Ask (query asked))) [] exchange₂
    (serves_on client₀ none_yet 0 0 (Some actions.Connect) [] [] client₁ [] []
    (at 0 events.Tick [] actions.Connect) [] exchange₁ serves_from (lit≤ tt) (lit≤ tt)
    connects.takes (0, refl) connects_well)
    (lit≤ tt) (lit≤ tt) asks_all.takes (10, refl) asks_well

begins_served : IsServedFrom 2 client₀ none_yet 0 client₄ exchange₃ 30
unfolding begins_answer
begins_served = serves_on client₃ exchange₂ 10 30 (Some actions.Begin) sent_bytes [] client₄
    data_bytes [] (at 30 (events.Came response_head) response_bytes actions.Begin) [] exchange₃
    (says_between client₂ exchange₂ 10 client₃ asks_served refl) (lit≤ tt) (lit≤ tt)
    begins_answer.takes (((response_head, refl, response_has), tt), refl) begins_well

pub is_served : IsServedFrom 2 client₀ none_yet 0 client₆ exchange₅ 32
unfolding keeps_prefix ends_answer
is_served = serves_on client₅ exchange₄ 31 32 (Some (actions.Apply false)) data_bytes [] client₆
    data_bytes [] (at 32 (events.Came end_head) end_bytes (actions.Apply false)) [] exchange₅
    (serves_on client₄ exchange₃ 30 31 None data_bytes [] client₅ data_bytes []
    (at 31 (events.Came payload_head) prefix_bytes actions.Keep) [] exchange₄ begins_served
    (lit≤ tt) (lit≤ tt) keeps_prefix.takes (((payload_head, refl, prefix_has), tt), refl)
    keeps_well)
    (lit≤ tt) (lit≤ tt) ends_answer.takes (((end_head, refl, end_has_head), tt), refl) ends_well

-- ---- the same in bytes and in time

asks_again : IsServedAgain 2 pair₀ none_yet 0 pair₂ exchange₂ 10
unfolding connects asks_all
asks_again = again_opens pair₁ exchange₁ 0 client₂ [] [] (Some (actions.Ask (query asked))) cache₀
    asks_all exchange₂
    (again_calls pair₀ none_yet 0 client₁ [] [] (Some actions.Connect) connects exchange₁
    again_from
    (record {
      later = lit≤ tt;
      awake = lit≤ tt;
      first = at 0 events.Tick [] actions.Connect;
      others = [];
      of_word = (0, refl);
      well = connects_well;
    })
    (λ opening. opening))
    (record {
      later = lit≤ tt;
      awake = lit≤ tt;
      first = at 10 events.Connected [] (actions.Ask (query asked));
      others = [];
      of_word = (10, refl);
      well = asks_well;
    })
    tt refl

comes_again : IsServedAgain 2 pair₀ none_yet 0 came₃ exchange₂ 10
comes_again = again_meanwhile sent₃ came₃ exchange₂ 10
    (again_meanwhile pair₃ sent₃ exchange₂ 10
    (again_meanwhile pair₂ pair₃ exchange₂ 10 asks_again hears_query refl refl) says_sent refl
    refl)
    receives refl refl

begins_again : IsServedAgain 2 pair₀ none_yet 0 pair₄ exchange₃ 30
unfolding begins_answer
begins_again = again_calls came₃ exchange₂ 10 client₄ data_bytes [] (Some actions.Begin)
    begins_answer exchange₃ comes_again
    (record {
      later = lit≤ tt;
      awake = lit≤ tt;
      first = at 30 (events.Came response_head) response_bytes actions.Begin;
      others = [];
      of_word = (((response_head, refl, response_has), tt), refl);
      well = begins_well;
    })
    (λ opening. opening)

keeps_again : IsServedAgain 2 pair₀ none_yet 0 pair₅ exchange₄ 31
unfolding keeps_prefix
keeps_again = again_calls pair₄ exchange₃ 30 client₅ data_bytes [] None keeps_prefix exchange₄
    begins_again
    (record {
      later = lit≤ tt;
      awake = lit≤ tt;
      first = at 31 (events.Came payload_head) prefix_bytes actions.Keep;
      others = [];
      of_word = (((payload_head, refl, prefix_has), tt), refl);
      well = keeps_well;
    })
    (λ opening. opening)

pub is_again : IsServedAgain 2 pair₀ none_yet 0 pair₆ exchange₅ 32
unfolding ends_answer
is_again = again_calls pair₅ exchange₄ 31 client₆ data_bytes [] (Some (actions.Apply false))
    ends_answer exchange₅ keeps_again
    (record {
      later = lit≤ tt;
      awake = lit≤ tt;
      first = at 32 (events.Came end_head) end_bytes (actions.Apply false);
      others = [];
      of_word = (((end_head, refl, end_has_head), tt), refl);
      well = ends_well;
    })
    (λ opening. opening)
