-- Each run of a router and a cache over bytes is a run over units.
use native.Mathlib.Omega.{arith}
use Rattle.std.proofs.Common.{◌≡◌, ◌++◌, ℕ, zero, suc, Bool, List, [], ◌∷◌, inl, inr}
use Rattle.std.proofs.Common.{Option, take, drop, refl, sym, ap, subst, ◌∙◌}
use Rattle.std.proofs.Common.{append-nil, append_assoc}
use Rattle.std.specs.List.{concat}
use Rattle.std.proofs.lemmas.List.{append_cancel_left}
use Rattle.std.proofs.lemmas.List.Folds.{concat-append}
use Rattle.rtr_payload.specs.Payloads.{Payload}
use Rattle.data_memory.specs.Data.{Change}
use Rattle.session_router.specs.declared.event.Action.{Action}
use Rattle.session_router.specs.declared.event.Action.TheVariants as actions
use Rattle.session_router.specs.declared.event.Event.{Event}
use Rattle.session_router.specs.declared.event.Event.TheVariants as events
use Rattle.unit_views.specs.declared.fault.ViewFault.{ViewFault}
use Rattle.session_router.specs.declared.head.Fault.{Fault}
use Rattle.session_router.specs.declared.head.Head.{Head}
use Rattle.session_router.specs.declared.router.Router.{Router}
use Rattle.session_router.specs.Histories.{Caller, empty_host, host_after}
use Rattle.session_router.specs.Rules.{Rule}
use Rattle.session_router.specs.Step.{IsStep}
use Rattle.session_cache.specs.declared.event.CacheEvent.TheVariants as asked
use Rattle.session_cache.specs.declared.event.Answer.{Answer}
use Rattle.session_cache.specs.declared.event.Answer.TheVariants as answers
use Rattle.session_cache.specs.Worlds.{AreFrom, IsIn, IsLived, Sent, TellsItself}
use Rattle.session_cache.specs.Worlds.{cache_writes, router_writes}
use Rattle.session_cache.specs.Worlds.IsReachedBy.{world_begins, world_goes_on}
use Rattle.session_cache.specs.Worlds.Next.{cache_hears, cache_told, connected, renewed}
use Rattle.session_cache.specs.Worlds.Next.{router_hears, router_told}
use Rattle.session_bytes.specs.Heads.{HasHead}
use Rattle.session_bytes.specs.Reading.{Acts, Hears, HearsRefused, fault_of}
use Rattle.session_bytes.specs.Sending.{HearsSent, KeepsEach, KeepsSent, ActsOnSent}
use Rattle.session_bytes.specs.Sending.{keeps_next, keeps_none}
use Rattle.session_bytes.specs.Serving.{is_kept}
use Rattle.session_bytes.specs.ShownData.{AppliesAnswers}
use Rattle.session_bytes.specs.declared.telling.Told.{Told}
use Rattle.session_bytes.specs.declared.telling.Told.TheVariants as told
use Rattle.session_bytes.proofs.Sending.{cut_twice, front_of, hears_sent, next, one_head}
use Rattle.session_bytes.proofs.Sending.{Next as NextUnit}
use Rattle.session_laws.specs.Editions.{PayloadEdition, PayloadHost, edition_of, editions_of}
use Rattle.session_laws.specs.Editions.{payload_source}
use Rattle.session_laws.specs.Pipes.{AreOnTheirWay, AreQueries, Bytes, FitsTold, IsRunOfUnits}
use Rattle.session_laws.specs.Pipes.{Joined, NextBytes, IsRunInBytes, TellsOfItself, as_units}
use Rattle.session_laws.specs.Pipes.{IsOnItsWay, host_told, left_of, told_bytes}
use Rattle.session_laws.specs.Pipes.NextBytes.{asked_in_bytes, data_renewed, heard_bytes}
use Rattle.session_laws.specs.Pipes.NextBytes.{joined_anew, told_cache, told_router}
use Rattle.session_laws.specs.Pipes.IsRunInBytes.{pipes_begin, pipes_go_on}
use Rattle.session_laws.specs.Written.{FitsAction, FitsEdition, IsSentFrom, router_bytes}
use Rattle.session_laws.proofs.Holding.{Holds, HostHolds, kept_more, on_connects, on_keep}
use Rattle.session_laws.proofs.Holding.{on_end_alone, on_refused, on_tells, on_unit}
use Rattle.session_laws.proofs.Holding.{payload_caller}
use Rattle.session_laws.proofs.Payloads.{in_editions}
use Rattle.session_laws.proofs.OnTheWay.{First, FirstQuery, all_whole, first_query, first_way}
use Rattle.session_laws.proofs.OnTheWay.{more_queries, more_way, queries_whole}
use Rattle.session_laws.proofs.Writing.{IsAsked, IsWritten, asked_units, written_units}

abbrev Held : Type 0
Held = PayloadHost

abbrev Reached : Joined → Held → List Head → List (Sent Change) → Type 0
Reached w h tc tr =
    IsLived (List Payload) Change payload_source (as_units w h tc tr)

-- ---- where a run is

pub record Stands (w : Joined) : Type 0 where
  pub is : IsRunOfUnits w
  pub holds : HostHolds w.router w.host is.host
  pub fits : (e : PayloadEdition) → IsIn w.had e → FitsEdition e
  pub present : IsIn w.had w.present

-- more queries are on their way
queries_more : (queries more : List (List ℕ)) (b c : List ℕ) → concat queries ≡ b →
    concat more ≡ c → concat (queries ++ more) ≡ b ++ c
queries_more queries more b c is more_is =
    concat-append queries more ∙ (λ i. is i ++ more_is i)

-- ---- units that the router keeps, one by one

pub record Chained (w : Joined) (r : Router) (kept : List ℕ)
    (made shown : Option Bytes) (tc : List Head) (left : List (List ℕ)) : Type 0 where
  pub holding : Held
  pub sent : List (Sent Change)
  pub run : Reached (record w { router = r }) holding tc sent
  pub way : AreOnTheirWay left sent
  pub holds : Holds r kept made shown holding

pub chain : (w : Joined) (n : ℕ) (r : Router) (us : List (List ℕ)) (r' : Router)
    (left : List (List ℕ)) (kept : List ℕ) (made shown : Option Bytes) (h : Held)
    (tc : List Head) (tr : List (Sent Change)) → KeepsEach n r us r' →
    Reached (record w { router = r }) h tc tr → AreOnTheirWay (us ++ left) tr →
    Holds r kept made shown h → Chained w r' (kept ++ concat us) made shown tc left
chain w n r us r' left kept made shown h tc tr (keeps_none r₀) run way holds = record {
  holding = h;
  sent = tr;
  run = run;
  way = way;
  holds = subst (λ l. Holds r l made shown h) (sym (append-nil kept)) holds;
}
chain w n r us r' left kept made shown h tc tr (keeps_next r₀ b bs u mid r₁ has step more) run
    way holds =
    let f : First b (bs ++ left) tr = first_way b (bs ++ left) tr way in
    let same : u ≡ f.unit.head = one_head b u f.unit.head has f.is.0.has in
    let came : IsStep r n (events.Came f.unit.head) actions.Keep mid =
    subst (λ (u : Head). IsStep r n (events.Came u) actions.Keep mid) same step in
    let h' : Held = host_after (payload_caller r.settings) h f.unit.body actions.Keep in
    let run' : Reached (record w { router = mid }) h' tc f.others =
    subst (λ tc. Reached (record w { router = mid }) h' tc f.others) (append-nil tc)
    (world_goes_on (as_units (record w { router = r }) h tc tr)
    (as_units (record w { router = mid }) h' (tc ++ []) f.others) run
    (router_hears (as_units (record w { router = r }) h tc tr) n f.unit f.others actions.Keep
    mid f.parts came)) in
    let y : Chained w r' ((kept ++ b) ++ concat bs) made shown tc left =
    chain w n mid bs r' left (kept ++ b) made shown h' tc f.others more run' f.is.1
    (on_keep b f.unit r mid kept made shown h came.rule f.is.0 holds) in
    record {
      holding = y.holding;
      sent = y.sent;
      run = y.run;
      way = y.way;
      holds = subst (λ l. Holds r' l made shown y.holding) (append_assoc kept b (concat bs))
          y.holds;
    }

-- ---- the router hears

-- what is left of what was sent
rest_is : (units heard left : List (List ℕ)) (front rest : List ℕ) → units ≡ heard ++ left →
    concat heard ≡ front → concat units ≡ front ++ rest → concat left ≡ rest
rest_is units heard left front rest parts is all =
    append_cancel_left front (concat left) rest
    (ap (λ (l : List ℕ). l ++ concat left) (sym is) ∙ sym (concat-append heard left)
    ∙ ap concat (sym parts) ∙ all)

module _ (c : Caller Bytes Bytes) (applies : AppliesAnswers c) (w : Joined)
    (x : Stands w) (n : ℕ) (input later : List ℕ) (is : w.to_router ≡ input ++ later)
    (r : Router) where
  abbrev after : Told → Joined
  after t = record w {
    router = r;
    host = host_told c w.host input t;
    to_cache = w.to_cache ++ told_bytes t;
    to_router = left_of input t ++ later;
  }

  hears_nothing : r ≡ w.router → Stands (after told.Awaits)
  hears_nothing same = record {
    is = record {
      host = x.is.host;
      heads = x.is.heads;
      sent = x.is.sent;
      run = subst
          (λ (r : Router). Reached (record w { router = r }) x.is.host x.is.heads x.is.sent)
          (sym same) x.is.run;
      queries = x.is.queries;
      to_cache = x.is.to_cache ∙ sym (append-nil w.to_cache);
      are_queries = x.is.are_queries;
      units = x.is.units;
      to_router = x.is.to_router ∙ is;
      are_units = x.is.are_units;
    };
    holds = subst (λ (r : Router). HostHolds r w.host x.is.host) (sym same) x.holds;
    fits = x.fits;
    present = x.present;
  }

  -- the units that were kept, and what is left
  kept_first : (heard left : List (List ℕ)) (mid : Router) → x.is.units ≡ heard ++ left →
      KeepsEach n w.router heard mid →
      Chained w mid (concat w.host.kept ++ concat heard) w.host.made w.host.shown x.is.heads left
  kept_first heard left mid parts kept =
      chain w n w.router heard mid left (concat w.host.kept) w.host.made w.host.shown
      x.is.host x.is.heads x.is.sent kept x.is.run
      (subst (λ l. AreOnTheirWay l x.is.sent) parts x.is.are_units) x.holds

  hears_kept : (k : ℕ) → KeepsSent w.router n x.is.units input k r → Stands (after (told.Kept k))
  hears_kept k s =
      let y = kept_first s.heard s.left r s.parts s.kept in
      record {
        is = record {
          host = y.holding;
          heads = x.is.heads;
          sent = y.sent;
          run = y.run;
          queries = x.is.queries;
          to_cache = x.is.to_cache ∙ sym (append-nil w.to_cache);
          are_queries = x.is.are_queries;
          units = s.left;
          to_router = rest_is x.is.units s.heard s.left (take k input) (drop k input ++ later)
              s.parts s.bytes (x.is.to_router ∙ is ∙ front_of k input later);
          are_units = y.way;
        };
        holds = kept_more r w.host (take k input) y.holding
            (subst (λ l. Holds r (concat w.host.kept ++ l) w.host.made w.host.shown y.holding)
            s.bytes y.holds);
        fits = x.fits;
        present = x.present;
      }

  -- the rest after the unit that made it act
  acted_rest : (start end : ℕ) (a : Action) → Acts w.router n input start end a r →
      (s : ActsOnSent w.router n x.is.units input start end a r) →
      concat s.left ≡ drop end input ++ later
  acted_rest start end a acts s =
      let u : List ℕ = drop start (take end input) in
      append_cancel_left u (concat s.left) (drop end input ++ later)
      (ap (λ (b : List ℕ). b ++ concat s.left) (sym s.unit_bytes)
      ∙ rest_is x.is.units s.heard (s.unit ∷ s.left) (take start input) (drop start input ++ later)
      s.parts s.bytes (x.is.to_router ∙ is ∙ front_of start input later)
      ∙ ap (λ (b : List ℕ). b ++ later) (cut_twice start end input acts.order acts.within)
      ∙ append_assoc u (drop end input) later)

  -- what the caller has after it, without the units that were kept before
  acted_holds : (start end : ℕ) (a : Action) → Acts w.router n input start end a r →
      (before : Router) (heard : List (List ℕ)) (b : List ℕ) (u : Sent Change) (h : Held) →
      concat heard ≡ take start input → IsOnItsWay b u →
      Rule before n (events.Came u.head) a r →
      Holds before (concat w.host.kept ++ concat heard) w.host.made w.host.shown h →
      HostHolds r (host_after c w.host b a) (host_after (payload_caller before.settings) h u.body a)
  acted_holds zero end a acts before heard b u h bytes way rule holds =
      on_unit c n b u a before r w.host h applies way rule
      (subst (λ l. Holds before l w.host.made w.host.shown h)
      (ap (λ (l : List ℕ). concat w.host.kept ++ l) bytes ∙ append-nil (concat w.host.kept)) holds)
  acted_holds (suc k) end a acts before heard b u h bytes way rule holds =
      on_end_alone c n b u a before r (concat w.host.kept ++ concat heard) w.host h
      (acts.alone (omega arith)) rule holds

  hears_acted : (start end : ℕ) (a : Action) → FitsAction a →
      Acts w.router n input start end a r → ActsOnSent w.router n x.is.units input start end a r →
      Stands (after (told.Acted start end a))
  hears_acted start end a fits acts s =
      let y = kept_first s.heard (s.unit ∷ s.left) s.before s.parts s.kept in
      let f : First s.unit s.left y.sent = first_way s.unit s.left y.sent y.way in
      let same : s.head ≡ f.unit.head = one_head s.unit s.head f.unit.head s.has f.is.0.has in
      let came : IsStep s.before n (events.Came f.unit.head) a r =
      subst (λ (u : Head). IsStep s.before n (events.Came u) a r) same s.step in
      let q : IsAsked a = asked_units n (events.Came f.unit.head) a s.before r came.rule fits in
      let h' : Held = host_after (payload_caller s.before.settings) y.holding f.unit.body a in
      record {
        is = record {
          host = h';
          heads = x.is.heads ++ router_writes a;
          sent = f.others;
          run = world_goes_on
              (as_units (record w { router = s.before }) y.holding x.is.heads y.sent)
              (as_units (record w { router = r }) h' (x.is.heads ++ router_writes a) f.others) y.run
              (router_hears
              (as_units (record w { router = s.before }) y.holding x.is.heads y.sent) n f.unit
              f.others a r f.parts came);
          queries = x.is.queries ++ q.queries;
          to_cache = queries_more x.is.queries q.queries w.to_cache (router_bytes a) x.is.to_cache
              q.bytes;
          are_queries = more_queries x.is.queries q.queries x.is.heads (router_writes a)
              x.is.are_queries q.way;
          units = s.left;
          to_router = acted_rest start end a acts s;
          are_units = f.is.1;
        };
        holds = subst (λ b. HostHolds r (host_after c w.host b a) h') s.unit_bytes
            (acted_holds start end a acts s.before s.heard s.unit f.unit y.holding s.bytes f.is.0
            came.rule y.holds);
        fits = x.fits;
        present = x.present;
      }

  hears_refused : (ended : Bool) (e : ViewFault) (a : Action) → FitsAction a →
      HearsRefused w.router n input ended e a r → Stands (after (told.Refused e a))
  hears_refused ended e a fits s =
      let f : Fault = fault_of input e in
      let q : IsAsked a = asked_units n (events.Faulty f) a w.router r s.step.rule fits in
      let h' : Held = host_after (payload_caller w.router.settings) x.is.host [] a in
      record {
        is = record {
          host = h';
          heads = x.is.heads ++ router_writes a;
          sent = x.is.sent;
          run = world_goes_on (as_units w x.is.host x.is.heads x.is.sent)
              (as_units (record w { router = r }) h' (x.is.heads ++ router_writes a) x.is.sent)
              x.is.run
              (router_told (as_units w x.is.host x.is.heads x.is.sent) n (events.Faulty f)
              a r tt s.step);
          queries = x.is.queries ++ q.queries;
          to_cache = queries_more x.is.queries q.queries w.to_cache (router_bytes a) x.is.to_cache
              q.bytes;
          are_queries = more_queries x.is.queries q.queries x.is.heads (router_writes a)
              x.is.are_queries q.way;
          units = x.is.units;
          to_router = x.is.to_router ∙ is;
          are_units = x.is.are_units;
        };
        holds = on_refused c n f a w.router r w.host x.is.host s.step.rule x.holds;
        fits = x.fits;
        present = x.present;
      }

  hears : (ended : Bool) (t : Told) → FitsTold t → Hears w.router n input ended t r →
      HearsSent w.router n x.is.units input ended t r → Stands (after t)
  hears ended told.Awaits fits heard s = hears_nothing s.1
  hears ended (told.Kept k) fits heard s = hears_kept k s
  hears ended (told.Acted start end a) fits heard s = hears_acted start end a fits heard s
  hears ended (told.Refused e a) fits heard s = hears_refused ended e a fits heard

-- ---- the cache hears

-- a query that is heard is the first that is on its way
pub record HeardQuery (queries : List (List ℕ)) (heads : List Head) (u : Head) (later : List ℕ) :
    Type 0 where
  pub rest : List (List ℕ)
  pub bytes : concat rest ≡ later
  pub others : List Head
  pub parts : heads ≡ u ∷ others
  pub way : AreQueries rest others

pub heard_query : (queries : List (List ℕ)) (heads : List Head) (b later : List ℕ) (u : Head) →
    AreQueries queries heads → concat queries ≡ b ++ later → HasHead b u →
    HeardQuery queries heads u later
heard_query queries heads b later u way is has =
    let y : NextUnit b queries later =
    next b u queries later (queries_whole queries heads way) has is in
    let f : FirstQuery b y.others heads =
    first_query b y.others heads (subst (λ l. AreQueries l heads) y.is way) in
    let same : u ≡ f.head = one_head b u f.head has f.is.0 in
    record {
      rest = y.others;
      bytes = y.rest;
      others = f.others;
      parts = f.parts ∙ ap (λ (u : Head). u ∷ f.others) (sym same);
      way = f.is.1;
    }

-- ---- the data that changes are from

pub sent_fits : (had : List PayloadEdition) (p old : PayloadEdition) (a : Answer) →
    ((e : PayloadEdition) → IsIn had e → FitsEdition e) → IsSentFrom had p a old →
    (since : ℕ) → a ≡ answers.Changes since → FitsEdition old
sent_fits had p old a fits from since is =
    let f : IsSentFrom had p (answers.Changes since) old =
    subst (λ (a : Answer). IsSentFrom had p a old) is from in
    fits old f.1

units_from : (had : List PayloadEdition) (p old : PayloadEdition) (a : Answer) →
    IsSentFrom had p a old → AreFrom (editions_of had) (edition_of p) a (edition_of old)
units_from had p old (answers.Changes since) f = ((f.0, in_editions had old f.1), f.2, f.3)
units_from had p old _ f = tt

-- ---- one step

step : (c : Caller Bytes Bytes) → AppliesAnswers c → (w w' : Joined) → NextBytes c w w' →
    Stands w → Stands w'
step c applies w w' (told_router w₀ n e a r tells came fits) x =
    let u = as_units w₀ x.is.host x.is.heads x.is.sent in
    let q : IsAsked a = asked_units n e a w₀.router r came.rule fits in
    let h' : Held = host_after (payload_caller w₀.router.settings) x.is.host [] a in
    record {
      is = record {
        host = h';
        heads = x.is.heads ++ router_writes a;
        sent = x.is.sent;
        run = world_goes_on u
            (as_units (record w₀ { router = r }) h' (x.is.heads ++ router_writes a) x.is.sent)
            x.is.run
            (router_told u n e a r (itself e tells) came);
        queries = x.is.queries ++ q.queries;
        to_cache = queries_more x.is.queries q.queries w₀.to_cache (router_bytes a) x.is.to_cache
            q.bytes;
        are_queries = more_queries x.is.queries q.queries x.is.heads (router_writes a)
            x.is.are_queries q.way;
        units = x.is.units;
        to_router = x.is.to_router;
        are_units = x.is.are_units;
      };
      holds = on_tells c n e a w₀.router r w₀.host x.is.host tells came.rule x.holds;
      fits = x.fits;
      present = x.present;
    }
  where
    itself : (e : Event) → TellsOfItself w₀.host e →
        TellsItself (List Payload) Change x.is.host e
    itself (events.Came u) t = absurd t
    itself (events.Faulty f) t = tt
    itself events.Connected t = absurd t
    itself events.Applied t = x.holds.has_made t.0 t.1
    itself events.Tick t = tt
    itself events.Asked t = tt
    itself events.Lost t = tt
    itself (events.NotApplied code) t = tt
step c applies w w' (joined_anew w₀ n a r new phase anew came fits) x =
    let u = as_units w₀ x.is.host x.is.heads x.is.sent in
    let q : IsAsked a = asked_units n events.Connected a w₀.router r came.rule fits in
    let h' : Held = host_after (payload_caller w₀.router.settings) x.is.host [] a in
    record {
      is = record {
        host = h';
        heads = router_writes a;
        sent = [];
        run = world_goes_on u
            (as_units (record w₀ { router = r; cache = new }) h' (router_writes a) []) x.is.run
            (connected u n a r new phase anew came);
        queries = q.queries;
        to_cache = q.bytes;
        are_queries = q.way;
        units = [];
        to_router = refl;
        are_units = tt;
      };
      holds = on_connects c n a w₀.router r w₀.host x.is.host came.rule x.holds;
      fits = x.fits;
      present = x.present;
    }
step c applies w w' (heard_bytes w₀ n input later ended t r is heard fits) x =
    hears c applies w₀ x n input later is r ended t fits heard
    (hears_sent w₀.router n x.is.units input later ended t r
    (all_whole x.is.units x.is.sent x.is.are_units) (x.is.to_router ∙ is) heard)
step c applies w w' (asked_in_bytes w₀ n kept input later ended size a new b old is heard
    small from writes) x =
    let u : Head = heard.head in
    let listed : Bool = is_kept kept u.serial in
    let v = as_units w₀ x.is.host x.is.heads x.is.sent in
    let f : HeardQuery x.is.queries x.is.heads u (drop size input ++ later) =
    heard_query x.is.queries x.is.heads (take size input) (drop size input ++ later) u
    x.is.are_queries (x.is.to_cache ∙ is ∙ front_of size input later) heard.unit in
    let y : IsWritten new.version old w₀.present a b =
    written_units w₀.cache new n old w₀.present (asked.Came u listed) a b
    (sent_fits w₀.had w₀.present old a x.fits from) (x.fits w₀.present x.present)
    heard.step.rule small writes in
    let sent : List (Sent Change) =
    cache_writes (List Payload) Change payload_source new.version y.size (edition_of old)
    (edition_of w₀.present) a in
    record {
      is = record {
        host = x.is.host;
        heads = f.others;
        sent = x.is.sent ++ sent;
        run = world_goes_on v
            (as_units (record w₀ { cache = new }) x.is.host f.others (x.is.sent ++ sent))
            x.is.run
            (cache_hears v n y.size u f.others listed a new (edition_of old) f.parts heard.step
            (units_from w₀.had w₀.present old a from));
        queries = f.rest;
        to_cache = f.bytes;
        are_queries = f.way;
        units = x.is.units ++ y.units;
        to_router = queries_more x.is.units y.units w₀.to_router b x.is.to_router y.bytes;
        are_units = more_way x.is.units y.units x.is.sent sent x.is.are_units y.way;
      };
      holds = x.holds;
      fits = x.fits;
      present = x.present;
    }
step c applies w w' (told_cache w₀ n e a new b tells came small writes) x =
    let v = as_units w₀ x.is.host x.is.heads x.is.sent in
    let here : FitsEdition w₀.present = x.fits w₀.present x.present in
    let y : IsWritten new.version w₀.present w₀.present a b =
    written_units w₀.cache new n w₀.present w₀.present e a b (λ since is. here) here came.rule
    small writes in
    let sent : List (Sent Change) =
    cache_writes (List Payload) Change payload_source new.version y.size (edition_of w₀.present)
    (edition_of w₀.present) a in
    record {
      is = record {
        host = x.is.host;
        heads = x.is.heads;
        sent = x.is.sent ++ sent;
        run = world_goes_on v
            (as_units (record w₀ { cache = new }) x.is.host x.is.heads (x.is.sent ++ sent))
            x.is.run (cache_told v n y.size e a new tells came);
        queries = x.is.queries;
        to_cache = x.is.to_cache;
        are_queries = x.is.are_queries;
        units = x.is.units ++ y.units;
        to_router = queries_more x.is.units y.units w₀.to_router b x.is.to_router y.bytes;
        are_units = more_way x.is.units y.units x.is.sent sent x.is.are_units y.way;
      };
      holds = x.holds;
      fits = x.fits;
      present = x.present;
    }
step c applies w w' (data_renewed w₀ p fits) x =
    let v = as_units w₀ x.is.host x.is.heads x.is.sent in
    record {
      is = record {
        host = x.is.host;
        heads = x.is.heads;
        sent = x.is.sent;
        run = world_goes_on v
            (as_units (record w₀ { present = p; had = p ∷ w₀.had }) x.is.host x.is.heads
            x.is.sent)
            x.is.run (renewed v (edition_of p));
        queries = x.is.queries;
        to_cache = x.is.to_cache;
        are_queries = x.is.are_queries;
        units = x.is.units;
        to_router = x.is.to_router;
        are_units = x.is.are_units;
      };
      holds = x.holds;
      fits = λ e i. one_more e i;
      present = inl refl;
    }
  where
    one_more : (e : PayloadEdition) → IsIn (p ∷ w₀.had) e → FitsEdition e
    one_more e (inl is) = subst FitsEdition is fits
    one_more e (inr i) = x.fits e i

-- ---- whole runs

pub stands : (c : Caller Bytes Bytes) → AppliesAnswers c → (w : Joined) → IsRunInBytes c w →
    Stands w
stands c applies w (pipes_begin r new p phase none fits) = record {
  is = record {
    host = empty_host;
    heads = [];
    sent = [];
    run = world_begins r new (edition_of p) phase none;
    queries = [];
    to_cache = refl;
    are_queries = tt;
    units = [];
    to_router = refl;
    are_units = tt;
  };
  holds = record {
    kept_is = λ e. refl;
    made_is = λ e b m. absurd cc;
    has_made = λ b m. absurd cc;
    shown_is = tt;
  };
  fits = λ e i. the_first e i;
  present = inl refl;
}
  where
    the_first : (e : PayloadEdition) → IsIn (p ∷ []) e → FitsEdition e
    the_first e (inl is) = subst FitsEdition is fits
    the_first e (inr i) = absurd i
stands c applies w (pipes_go_on w₀ w₁ run on) =
    step c applies w₀ w₁ on (stands c applies w₀ run)
