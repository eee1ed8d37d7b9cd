-- A run that the prover computes, so that the premises of the laws of buffers are seen to be met: a
-- client has the whole answer of its cache in its input, makes its changes, and the group shows the
-- bytes that they came to.
use Rattle.std.proofs.Common.{◌≡◌, ℕ, false, None, List, [], ◌∷◌, refl}
use Rattle.std.proofs.Common.{sym}
use Rattle.data_memory.specs.Data.{announcement}
use Rattle.session_router.specs.declared.event.Action.TheVariants as actions
use Rattle.session_router.specs.declared.event.Event.TheVariants as router_events
use Rattle.session_router.specs.declared.settings.Settings as routers
use Rattle.session_router.specs.Histories.{Caller, Host, IsHistory, Moment, at, empty_host}
use Rattle.session_router.specs.Histories.IsHistory.{run_begins, run_goes_on}
use Rattle.session_router.specs.Rules.{query}
use Rattle.session_cache.proofs.ExampleCalm.{adopts_so, asks_so, begins_so, completes_so}
use Rattle.session_cache.proofs.ExampleCalm.{connects_so, keeps_so}
use Rattle.session_cache.proofs.ExampleWorlds.{applying, asked, connecting, end_head, keeping}
use Rattle.session_cache.proofs.ExampleWorlds.{payload_head, reading, response_head, router₀}
use Rattle.session_cache.proofs.ExampleWorlds.{settings, waiting}
use Rattle.session_bytes.proofs.Examples.{data_bytes, end, end_bytes, end_has_head, sends}
use Rattle.session_bytes.proofs.Examples.{prefix, prefix_bytes, prefix_has}
use Rattle.session_bytes.proofs.Examples.{response_bytes, response_has}
use Rattle.session_client.specs.Counting.{IsCountedAnswer}
use Rattle.session_client.specs.Makings.{Octets}
use Rattle.session_client.specs.declared.client.Holding.TheVariants as holdings
use Rattle.session_client.specs.declared.next.Todo.TheVariants as todos
use Rattle.session_client.proofs.Example.{kept_host, made, was}
use Rattle.session_client.proofs.Runs.{made_is, shows_made}
use Rattle.session_group.specs.declared.event.Event.TheVariants as events
use Rattle.session_group.specs.Runs.{first_caller}
use Rattle.session_group_laws.specs.Buffers.{CallsClient, IsMemberClient, IsRunOfClients}
use Rattle.session_group_laws.specs.Buffers.IsRunOfClients.{client_tells, clients_begin}
use Rattle.session_group_laws.specs.Members.{with_member}
use Rattle.session_group_laws.proofs.Example.{after, before, both, group₁, history₁, listener₁}
use Rattle.session_group_laws.proofs.Example.{pair_group, pair_is_new, patient, shows_data}

-- ---- the client that has a whole answer, of any caller

abbrev until_asked : List (Moment Octets)
until_asked =
    at 10 router_events.Connected [] (actions.Ask (query asked))
    ∷ at 0 router_events.Tick [] actions.Connect ∷ []

abbrev until_read : List (Moment Octets)
until_read =
    at 31 (router_events.Came payload_head) prefix_bytes actions.Keep
    ∷ at 30 (router_events.Came response_head) response_bytes actions.Begin ∷ until_asked

abbrev until_whole : List (Moment Octets)
until_whole =
    at 32 (router_events.Came end_head) end_bytes (actions.Apply false) ∷ until_read

abbrev made_host : Caller Octets Octets → Host Octets Octets
made_host c = record {
  kept = prefix_bytes ∷ [];
  made = c.make None (prefix_bytes ∷ []) end_bytes;
  shown = None;
}

asks_then : (c : Caller Octets Octets) → c.settings ≡ settings →
    IsHistory c until_asked asked empty_host
asks_then c same = run_goes_on 10 [] router_events.Connected (actions.Ask (query asked)) asked
    (at 0 router_events.Tick [] actions.Connect ∷ []) connecting empty_host
    (run_goes_on 0 [] router_events.Tick actions.Connect connecting [] router₀ empty_host
    (run_begins router₀ (record {
      settings = sym same;
      phase = refl;
      has_data = refl;
      due = refl;
      asked = refl;
      rises = refl;
      fell = refl;
    })) tt connects_so)
    refl asks_so

keeps_then : (c : Caller Octets Octets) → c.settings ≡ settings →
    IsHistory c until_read keeping kept_host
keeps_then c same = run_goes_on 31 prefix_bytes (router_events.Came payload_head) actions.Keep
    keeping
    (at 30 (router_events.Came response_head) response_bytes actions.Begin ∷ until_asked) reading
    empty_host
    (run_goes_on 30 response_bytes (router_events.Came response_head) actions.Begin reading
    until_asked asked empty_host (asks_then c same) tt begins_so)
    tt keeps_so

completes_then : (c : Caller Octets Octets) → c.settings ≡ settings →
    IsHistory c until_whole applying (made_host c)
completes_then c same = run_goes_on 32 end_bytes (router_events.Came end_head)
    (actions.Apply false) applying until_read keeping kept_host (keeps_then c same) tt completes_so

counted : IsCountedAnswer data_bytes 1
counted = record {
  changes = announcement prefix ∷ [];
  end = end;
  sends = sends;
  count = refl;
}

is_client : IsMemberClient settings before
is_client = record {
  made = [];
  were = tt;
  counts = counted;
  stands = λ c same makes. record {
    history = until_whole;
    host = made_host c;
    run = completes_then c same;
    heard = (end_has_head, (prefix_has, (response_has, (tt, (tt, tt)))));
    shows = tt;
    holds = record {
      units = prefix_bytes ∷ [];
      end = end_bytes;
      made = refl;
      units_are = refl;
      end_is = refl;
    };
  };
}

-- ---- its call

stays_client : (s : routers.Settings) → IsMemberClient s before → IsMemberClient s after
stays_client s x = record {
  made = made ∷ x.made;
  were = (was, x.were);
  counts = tt;
  stands = λ c same makes.
      let y = x.stands c same makes.1 in
      shows_made c applying waiting (holdings.Answer 24 false) 33 44 20 0 None data_bytes
      data_bytes [] data_bytes y
      (made_is c y.host 24 false 20 None data_bytes [] data_bytes y.shows makes.0 y.holds)
      adopts_so;
}

calls : CallsClient before after todos.Data
calls = record { calls = shows_data; serves = stays_client }

-- ---- the run

abbrev pub alike : ℕ → routers.Settings
alike i = settings

abbrev pub data_of : ℕ → Octets
data_of d = data_bytes

pub run : IsRunOfClients 2 patient alike data_of history₁ group₁ listener₁
    (with_member both 0 after)
run = client_tells 0 33 1 44 todos.Data (events.Shows 1) after [] pair_group
    (first_caller 2 patient 0) both
    (clients_begin 0 pair_group both pair_is_new (λ i. is_client)) calls refl refl
