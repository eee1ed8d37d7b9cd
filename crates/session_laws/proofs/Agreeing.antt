-- What holds of runs over units holds of runs over bytes.
use Rattle.std.proofs.Common.{◌≡◌, ◌++◌, ℕ, Bool, true, List, take, drop}
use Rattle.std.proofs.Common.{Option, Some, None, refl, sym, ap, subst, ◌∙◌, append_assoc}
use Rattle.std.specs.List.{concat}
use Rattle.rtr_payload.specs.Payloads.{Payload}
use Rattle.data_memory.specs.Data.{Change}
use Rattle.data_memory.specs.Deltas.{data_for}
use Rattle.session_router.specs.declared.event.Action.{Action}
use Rattle.session_router.specs.declared.event.Event.TheVariants as events
use Rattle.session_router.specs.declared.head.Head.{Head}
use Rattle.session_router.specs.declared.router.Router.{Router}
use Rattle.session_router.specs.Histories.{Caller}
use Rattle.session_router.specs.Rules.{Fresh}
use Rattle.session_router.specs.Step.{IsInTime, IsStep}
use Rattle.session_cache.specs.declared.cache.Cache.{Cache}
use Rattle.session_cache.specs.Worlds.{Agrees, Edition, GoesOn, IsIn, IsListening}
use Rattle.session_cache.specs.Worlds.{IsOneDataPerName, IsPeaceful, World}
use Rattle.session_cache.proofs.Agreement.{agreement}
use Rattle.session_cache.proofs.Peace.{peace}
use Rattle.session_cache.proofs.Runs.{by_rules}
use Rattle.session_bytes.specs.Reading.{Acts, Hears}
use Rattle.session_bytes.specs.Sending.{AreWhole, CacheHearsSent, HearsSent}
use Rattle.session_bytes.specs.Serving.{HearsRouter}
use Rattle.session_bytes.specs.declared.serving.Served.{Served}
use Rattle.session_bytes.specs.ShownData.{AppliesAnswers}
use Rattle.session_bytes.specs.declared.telling.Told.{Told}
use Rattle.session_bytes.proofs.Sending.{Heard, cut_twice, front_of, hears_asked, hears_sent}
use Rattle.session_bytes.proofs.Sending.{keeps_heard}
use Rattle.session_bytes.proofs.Sending.{next, one_head, whole_left}
use Rattle.session_bytes.proofs.Sending.{Next as NextUnit}
use Rattle.session_laws.specs.Editions.{PayloadEdition, edition_of, editions_of}
use Rattle.session_laws.specs.Editions.{payload_source}
use Rattle.session_laws.specs.Pipes.{AreOnTheirWay, Bytes, IsRunOfUnits, Joined, IsRunInBytes}
use Rattle.session_laws.specs.Pipes.{ShowsBytes}
use Rattle.session_laws.specs.Pipes.{as_units}
use Rattle.session_laws.proofs.Holding.{IsShown}
use Rattle.session_laws.proofs.InBytes.{Chained, Stands, chain, stands}
use Rattle.session_laws.proofs.OnTheWay.{First, all_whole, first_way, queries_whole}
use Rattle.session_laws.proofs.Payloads.{edition_in, is_source}

module _ (c : Caller Bytes Bytes) (applies : AppliesAnswers c) (w : Joined)
    (run : IsRunInBytes c w) where
  x : Stands w
  x = stands c applies w run

  pub shows : IsOneDataPerName (editions_of w.had) → w.router.has_data ≡ true → ShowsBytes w
  shows one has = go w.host.shown refl x.holds.shown_is
    where
      agrees : Agrees (List Payload) Change (as_units w x.is.host x.is.heads x.is.sent)
      agrees = agreement (List Payload) Change payload_source
          (as_units w x.is.host x.is.heads x.is.sent) (is_source w.had) one
          (by_rules (List Payload) Change payload_source
          (as_units w x.is.host x.is.heads x.is.sent) x.is.run) has

      of : (e : PayloadEdition) × IsIn w.had e × (edition_of e ≡ agrees.edition)
      of = edition_in w.had agrees.edition agrees.was.1

      payloads : List Payload
      payloads = data_for w.router.known.version of.0.payloads

      same : x.is.host.shown ≡ Some payloads
      same = agrees.same
          ∙ ap (λ (e : Edition (List Payload)). Some (e.for_version w.router.known.version))
          (sym of.2)

      go : (o : Option Bytes) → w.host.shown ≡ o → IsShown w.router o x.is.host.shown →
          ShowsBytes w
      go None is shown = absurd (subst (λ d. IsShown w.router None d) same shown)
      go (Some b) is shown =
          let y : IsShown w.router (Some b) (Some payloads) =
          subst (λ d. IsShown w.router (Some b) d) same shown in
          record {
            edition = of.0;
            has = ap (λ (e : Edition (List Payload)). e.name.has) of.2 ∙ agrees.was.0;
            was = of.1;
            session = ap (λ (e : Edition (List Payload)). e.name.session) of.2 ∙ agrees.session;
            serial = ap (λ (e : Edition (List Payload)). e.name.serial) of.2 ∙ agrees.serial;
            bytes = b;
            shown = is;
            end = y.0;
            holds = y.1;
            named = y.2 has;
          }

  pub units : IsRunOfUnits w
  units = x.is

  pub router_hears : (n : ℕ) (input later : List ℕ) (ended : Bool) (t : Told) (r : Router) →
      w.to_router ≡ input ++ later → Hears w.router n input ended t r →
      (y : IsRunOfUnits w) × HearsSent w.router n y.units input ended t r
  router_hears n input later ended t r is heard = (
    x.is,
    hears_sent w.router n x.is.units input later ended t r
        (all_whole x.is.units x.is.sent x.is.are_units) (x.is.to_router ∙ is) heard,
  )

  pub cache_hears : (n : ℕ) (kept input later : List ℕ) (ended : Bool) (s : Served)
      (after : Cache) →
      w.to_cache ≡ input ++ later → HearsRouter w.cache n w.present.name kept input ended s after →
      (y : IsRunOfUnits w)
      × CacheHearsSent w.cache n w.present.name kept y.queries input ended s after
  cache_hears n kept input later ended s after is heard = (
    x.is,
    hears_asked w.cache n w.present.name kept x.is.queries input later ended s after
        (queries_whole x.is.queries x.is.heads x.is.are_queries) (x.is.to_cache ∙ is) heard,
  )

  pub in_peace : IsOneDataPerName (editions_of w.had) → (n : ℕ) (input later : List ℕ)
      (start end : ℕ) (a : Action) (r : Router) →
      w.to_router ≡ input ++ later → (heard : Acts w.router n input start end a r) →
      IsListening heard.before.phase → Fresh heard.before n → IsInTime heard.before n →
      IsPeaceful heard.before heard.head → GoesOn a
  in_peace one n input later start end a r is heard listens fresh soon peaceful =
      let whole : AreWhole x.is.units = all_whole x.is.units x.is.sent x.is.are_units in
      let u : List ℕ = drop start (take end input) in
      let rest : List ℕ = drop end input ++ later in
      let y : Heard n w.router x.is.units (take start input) (drop start input ++ later)
      heard.before =
      keeps_heard n w.router (take start input) heard.before x.is.units (drop start input ++ later)
      heard.kept whole (x.is.to_router ∙ is ∙ front_of start input later) in
      let z : NextUnit u y.left rest =
      next u heard.head y.left rest (whole_left y.heard y.left (subst AreWhole y.parts whole))
      heard.unit
      (y.rest
      ∙ ap (λ (l : List ℕ). l ++ later) (cut_twice start end input heard.order heard.within)
      ∙ append_assoc u (drop end input) later) in
      let on : Chained w heard.before (concat w.host.kept ++ concat y.heard) w.host.made
      w.host.shown x.is.heads y.left =
      chain w n w.router y.heard heard.before y.left (concat w.host.kept) w.host.made w.host.shown
      x.is.host x.is.heads x.is.sent y.kept x.is.run
      (subst (λ l. AreOnTheirWay l x.is.sent) y.parts x.is.are_units) x.holds in
      let f : First u z.others on.sent =
      first_way u z.others on.sent (subst (λ l. AreOnTheirWay l on.sent) z.is on.way) in
      let same : heard.head ≡ f.unit.head =
      one_head u heard.head f.unit.head heard.unit f.is.0.has in
      let at : World (List Payload) Change =
      as_units (record w { router = heard.before }) on.holding x.is.heads on.sent in
      peace (List Payload) Change payload_source at (is_source w.had) one f.unit f.others n a r
      (by_rules (List Payload) Change payload_source at on.run) f.parts listens fresh soon
      (subst (λ (u : Head). IsPeaceful heard.before u) same peaceful)
      (subst (λ (u : Head). IsStep heard.before n (events.Came u) a r) same heard.step)
