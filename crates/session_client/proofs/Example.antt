-- A client that the prover computes, which shows data: so the premise of
-- `only_whole_answers_are_shown` is met. It connects, asks for all data, and gets a prefix.
use Rattle.std.proofs.Common.{◌≡◌, List, [], ◌∷◌, Option, Some, None, refl, sym, subst}
use Rattle.std.proofs.Common.{true, false}
use Rattle.session_router.specs.declared.event.Action.TheVariants as actions
use Rattle.session_router.specs.declared.event.Event.TheVariants as events
use Rattle.session_router.specs.Histories.{Caller, Host, IsHistory, Moment, at, empty_host}
use Rattle.session_router.specs.Histories.IsHistory.{run_begins, run_goes_on}
use Rattle.session_router.specs.Rules.{query}
use Rattle.session_cache.proofs.ExampleCalm.{adopts_so, asks_so, begins_so, completes_so}
use Rattle.session_cache.proofs.ExampleCalm.{connects_so}
use Rattle.session_cache.proofs.ExampleCalm.{keeps_so}
use Rattle.session_cache.proofs.ExampleWorlds.{applying, asked, connecting, end_head, keeping}
use Rattle.session_cache.proofs.ExampleWorlds.{payload_head, reading, response_head, router₀}
use Rattle.session_cache.proofs.ExampleWorlds.{settings}
use Rattle.session_cache.proofs.ExampleWorlds.{waiting}
use Rattle.session_bytes.specs.ShownData.{AreHeard}
use Rattle.session_bytes.proofs.Examples.{data_bytes, end_bytes, end_has_head, in_order}
use Rattle.session_bytes.proofs.Examples.{prefix_bytes, prefix_has}
use Rattle.session_bytes.proofs.Examples.{response_bytes, response_has}
use Rattle.session_client.specs.Holding.{IsClient, ShowsFront}
use Rattle.session_client.specs.Makings.{MadeAnswer, Octets, WasMade}
use Rattle.session_client.specs.declared.client.Client.{Client}
use Rattle.session_client.specs.declared.client.Holding.TheVariants as holdings

abbrev pub example : Client
example = record {
  router = waiting;
  holding = holdings.Nothing;
  kept = 0;
  filled = 0;
  shown = Some 44;
  unsent = 0;
  second = true;
  opened = false;
  closed = false;
}

abbrev pub made : MadeAnswer
made = record { base = end_bytes; answer = data_bytes; new = data_bytes }

pub was : WasMade made
was = record {
  size = 44;
  places = 1;
  before = data_bytes;
  after = data_bytes;
  applies = in_order;
  new_is = refl;
}

-- ---- the run, of any caller that makes the same of it

abbrev until_asked : List (Moment Octets)
until_asked =
    at 10 events.Connected [] (actions.Ask (query asked))
    ∷ at 0 events.Tick [] actions.Connect ∷ []

abbrev until_read : List (Moment Octets)
until_read =
    at 31 (events.Came payload_head) prefix_bytes actions.Keep
    ∷ at 30 (events.Came response_head) response_bytes actions.Begin ∷ until_asked

abbrev history : List (Moment Octets)
history =
    at 33 events.Applied [] actions.Show
    ∷ at 32 (events.Came end_head) end_bytes (actions.Apply false) ∷ until_read

abbrev makes_of : Caller Octets Octets → Option Octets
makes_of c = c.make None (prefix_bytes ∷ []) end_bytes

abbrev pub kept_host : Host Octets Octets
kept_host = record { kept = prefix_bytes ∷ []; made = None; shown = None }

abbrev made_host : Caller Octets Octets → Host Octets Octets
made_host c = record { kept = prefix_bytes ∷ []; made = makes_of c; shown = None }

abbrev shown_host : Caller Octets Octets → Host Octets Octets
shown_host c = record { kept = prefix_bytes ∷ []; made = makes_of c; shown = makes_of c }

asks_then : (c : Caller Octets Octets) → c.settings ≡ settings →
    IsHistory c until_asked asked empty_host
asks_then c same = run_goes_on 10 [] events.Connected (actions.Ask (query asked)) asked
    (at 0 events.Tick [] actions.Connect ∷ []) connecting empty_host
    (run_goes_on 0 [] events.Tick actions.Connect connecting [] router₀ empty_host
    (run_begins router₀ (record {
      settings = sym same;
      phase = refl;
      has_data = refl;
      due = refl;
      asked = refl;
      rises = refl;
      fell = refl;
    })) tt connects_so)
    refl asks_so

keeps_then : (c : Caller Octets Octets) → c.settings ≡ settings →
    IsHistory c until_read keeping kept_host
keeps_then c same = run_goes_on 31 prefix_bytes (events.Came payload_head) actions.Keep keeping
    (at 30 (events.Came response_head) response_bytes actions.Begin ∷ until_asked) reading
    empty_host
    (run_goes_on 30 response_bytes (events.Came response_head) actions.Begin reading until_asked
    asked empty_host (asks_then c same) tt begins_so)
    tt keeps_so

shows_then : (c : Caller Octets Octets) → c.settings ≡ settings → makes_of c ≡ Some data_bytes →
    IsHistory c history waiting (shown_host c)
shows_then c same makes = run_goes_on 33 [] events.Applied actions.Show waiting
    (at 32 (events.Came end_head) end_bytes (actions.Apply false) ∷ until_read) applying
    (made_host c)
    (run_goes_on 32 end_bytes (events.Came end_head) (actions.Apply false) applying until_read
    keeping kept_host (keeps_then c same) tt completes_so)
    (data_bytes, makes) adopts_so

heard : AreHeard history
heard = (tt, (end_has_head, (prefix_has, (response_has, (tt, (tt, tt))))))

pub is_client : IsClient settings example [] data_bytes
is_client = record {
  made = made ∷ [];
  were = (was, tt);
  counts = tt;
  stands = λ c same makes.
      let is = makes.0 None (prefix_bytes ∷ []) end_bytes refl refl in
      record {
        history = history;
        host = shown_host c;
        run = shows_then c same is;
        heard = heard;
        shows = subst (λ o. ShowsFront o (Some 44) data_bytes) (sym is) refl;
        holds = tt;
      };
}
