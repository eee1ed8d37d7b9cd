-- Each run of a client and a cache is a run in bytes of the client's machine, its caller, and the
-- cache.
use native.Mathlib.Omega.{arith}
use Rattle.std.proofs.Common.{◌≡◌, ◌≢◌, ◌⊎◌, ℕ, Bool, true, false, ◌+◌, ◌<◌, ◌≤◌, List, [], ◌∷◌}
use Rattle.std.proofs.Common.{◌++◌, length, take, drop, refl, sym, ap, ◌∙◌, subst, Option, Some}
use Rattle.std.proofs.Common.{None, append-nil, append_assoc, inl, inr}
use Rattle.std.proofs.Math.Seq.{take-add}
use Rattle.std.proofs.Math.Seq.{drop-nil}
use Rattle.std.proofs.lemmas.List.{drop-append-le, length-take-le}
use Rattle.data_memory.specs.Deltas.{data_for}
use Rattle.data_slices.specs.Canonical.{HoldsData}
use Rattle.session_router.specs.declared.event.Action.{Action}
use Rattle.session_router.specs.declared.event.Action.TheVariants as actions
use Rattle.session_router.specs.declared.event.Event.{Event}
use Rattle.session_router.specs.declared.event.Event.TheVariants as events
use Rattle.session_router.specs.declared.head.Head.{Head}
use Rattle.session_router.specs.declared.router.Phase.{Phase}
use Rattle.session_router.specs.declared.router.Phase.TheVariants as phases
use Rattle.session_router.specs.declared.router.Router.{Router}
use Rattle.session_router.specs.Heeding.{IsTalking}
use Rattle.session_router.specs.Histories.{Caller, Host, MaySay, empty_host, host_after}
use Rattle.session_router.specs.Rules.{MayAsk, Rule}
use Rattle.session_router.specs.Step.{IsStep}
use Rattle.session_cache.specs.declared.cache.Cache.{Cache}
use Rattle.session_cache.specs.Worlds.{IsOneDataPerName}
use Rattle.session_bytes.specs.Reading.{EndsConnection, Hears}
use Rattle.session_bytes.specs.ShownData.{AppliesAnswers}
use Rattle.session_bytes.specs.declared.telling.Told.{Told}
use Rattle.session_bytes.specs.declared.telling.Told.TheVariants as told
use Rattle.session_client.specs.Holding.{Fits, Holds, LeavesInput, LeavesTold, SameThere}
use Rattle.session_client.specs.Holding.{ShowsFront}
use Rattle.session_client.specs.Holding.{due_size, untold}
use Rattle.session_client.specs.Makings.{MadeAnswer, MakesAll, Octets, WereMade}
use Rattle.session_client.specs.Tells.{HostHas, IsNoUnit, IsTold, MaySayThis, Word, action_of}
use Rattle.session_client.specs.Tells.{host_heard, host_then, of_bytes, of_itself, of_nothing}
use Rattle.session_client.specs.declared.client.Client.{Client}
use Rattle.session_client.proofs.Makings.{caller_applies, caller_makes, caller_of}
use Rattle.session_client.proofs.Runs.{holds_still, shows_still}
use Rattle.session_client.proofs.Steps.{connects_then, faulty_ends, same_kept}
use Rattle.session_laws.specs.Editions.{editions_of}
use Rattle.session_laws.specs.Pipes.{IsRunInBytes, Joined, ShowsBytes, TellsOfItself}
use Rattle.session_laws.specs.Pipes.IsRunInBytes.{pipes_begin, pipes_go_on}
use Rattle.session_laws.specs.Pipes.NextBytes.{asked_in_bytes, data_renewed, heard_bytes}
use Rattle.session_laws.specs.Pipes.NextBytes.{joined_anew, told_cache, told_router}
use Rattle.session_laws.specs.Written.{FitsAction, router_bytes}
use Rattle.session_client_laws.specs.Runs.{Calls, FitsTaken, Goes, IsOpening}
use Rattle.session_client_laws.specs.Runs.{IsRunOfClient, Pair, RunsInBytes, ShowsHad, sent_by}
use Rattle.session_client_laws.specs.Runs.Goes.{asks, calls, moves, opens, takes_bytes, renews}
use Rattle.session_client_laws.specs.Runs.Goes.{says}
use Rattle.session_client_laws.specs.Runs.Goes.{tells_cache}
use Rattle.session_client_laws.specs.Runs.IsRunOfClient.{pair_begins, pair_goes_on}

-- ---- the relation

abbrev Made : Type 0
Made = Host Octets Octets

-- the machine, what its caller has, and the cache; what is on its way to the machine is what it
-- wasn't told of yet, and behind it what the client didn't receive yet
abbrev joined_of : Pair → Made → Octets → Joined
joined_of p h pipe = record {
  router = p.client.router;
  host = h;
  cache = p.cache;
  present = p.present;
  had = p.had;
  to_cache = p.to_cache;
  to_router = pipe;
}

record Along (c : Caller Octets Octets) (p : Pair) : Type 0 where
  pub host : Made
  pub pipe : Octets
  pub run : IsRunInBytes c (joined_of p host pipe)
  pub has : HostHas c host p.client.holding p.client.kept p.client.shown p.input p.held
  pub talks : IsTalking p.client.router → pipe ≡ untold p.client p.input ++ p.to_router
  pub rests : (IsTalking p.client.router → ⊥) → untold p.client p.input ≡ []

record Follows (p : Pair) : Type 0 where
  pub made : List MadeAnswer
  pub were : WereMade made
  pub along : (c : Caller Octets Octets) → MakesAll c made → Along c p

-- ---- lists

pub left_none : (a : Action) (before after : Octets) → before ≡ [] → LeavesInput a 0 before after →
    after ≡ []
left_none (actions.End x) before after none left = left
left_none actions.Connect before after none left = left
left_none actions.Wait before after none left = left ∙ none
left_none (actions.Ask q) before after none left = left ∙ none
left_none actions.Begin before after none left = left ∙ none
left_none actions.Keep before after none left = left ∙ none
left_none (actions.Apply s) before after none left = left ∙ none
left_none actions.Show before after none left = left ∙ none
left_none actions.NoData before after none left = left ∙ none
left_none actions.Drop before after none left = left ∙ none

pub some_there : (n : ℕ) (b : Octets) → 0 < n → n ≤ length b → b ≡ [] → ⊥
some_there n b some within none =
    let e : length b ≡ 0 = ap length none in absurd (omega (arith, some, within, e))

-- what was received stands behind what was there
pub received : (a filled size : ℕ) (input input' : Octets) → a ≤ filled →
    filled + size ≤ length input' → take filled input ≡ take filled input' →
    drop a (take (filled + size) input')
    ≡ drop a (take filled input) ++ take size (drop filled input')
received a filled size input input' order within same =
    let here : filled ≤ length input' = omega (arith, within) in
    let long = length-take-le filled input' here in
    let some : a ≤ length (take filled input') = omega (arith, long, order) in
    ap (drop a) (take-add filled size input')
    ∙ drop-append-le a (take filled input') (take size (drop filled input')) some
    ∙ ap (λ l. drop a l ++ take size (drop filled input')) (sym same)

-- ---- phases

pub same_talk : (r r' : Router) → r'.phase ≡ r.phase → IsTalking r → IsTalking r'
same_talk r r' same talks = (λ is. talks.0 (sym same ∙ is), λ is. talks.1 (sym same ∙ is))

talks_asked : (r : Router) → r.phase ≡ phases.Asked → IsTalking r
talks_asked r at = (λ is. let e = sym at ∙ is in cc, λ is. let e = sym at ∙ is in cc)

talks_reading : (r : Router) → r.phase ≡ phases.Reading → IsTalking r
talks_reading r at = (λ is. let e = sym at ∙ is in cc, λ is. let e = sym at ∙ is in cc)

talks_applying : (r : Router) → r.phase ≡ phases.Applying → IsTalking r
talks_applying r at = (λ is. let e = sym at ∙ is in cc, λ is. let e = sym at ∙ is in cc)

talks_waiting : (r : Router) → r.phase ≡ phases.Waiting → IsTalking r
talks_waiting r at = (λ is. let e = sym at ∙ is in cc, λ is. let e = sym at ∙ is in cc)

pub talks_or_not : (r : Router) → IsTalking r ⊎ (IsTalking r → ⊥)
talks_or_not r = go r.phase refl
  where
    go : (p : Phase) → r.phase ≡ p → IsTalking r ⊎ (IsTalking r → ⊥)
    go phases.Offline is = inr (λ t. t.0 is)
    go phases.Connecting is = inr (λ t. t.1 is)
    go phases.Asked is = inl (talks_asked r is)
    go phases.Reading is = inl (talks_reading r is)
    go phases.Applying is = inl (talks_applying r is)
    go phases.Waiting is = inl (talks_waiting r is)

-- ---- an event that is no unit

no_begin : (r r' : Router) (n : ℕ) (e : Event) → IsNoUnit e → Rule r n e actions.Begin r' → ⊥
no_begin r r' n events.Tick none rule = rule
no_begin r r' n events.Asked none rule = rule
no_begin r r' n events.Connected none rule = rule
no_begin r r' n events.Lost none rule = rule
no_begin r r' n (events.Came u) none rule = absurd none
no_begin r r' n (events.Faulty f) none rule = absurd none
no_begin r r' n events.Applied none rule = rule
no_begin r r' n (events.NotApplied code) none rule = rule

no_keep : (r r' : Router) (n : ℕ) (e : Event) → IsNoUnit e → Rule r n e actions.Keep r' → ⊥
no_keep r r' n events.Tick none rule = rule
no_keep r r' n events.Asked none rule = rule
no_keep r r' n events.Connected none rule = rule
no_keep r r' n events.Lost none rule = rule
no_keep r r' n (events.Came u) none rule = absurd none
no_keep r r' n (events.Faulty f) none rule = absurd none
no_keep r r' n events.Applied none rule = rule
no_keep r r' n (events.NotApplied code) none rule = rule

no_apply : (r r' : Router) (n : ℕ) (on : Bool) (e : Event) → IsNoUnit e →
    Rule r n e (actions.Apply on) r' → ⊥
no_apply r r' n on events.Tick none rule = rule
no_apply r r' n on events.Asked none rule = rule
no_apply r r' n on events.Connected none rule = rule
no_apply r r' n on events.Lost none rule = rule
no_apply r r' n on (events.Came u) none rule = absurd none
no_apply r r' n on (events.Faulty f) none rule = absurd none
no_apply r r' n on events.Applied none rule = rule
no_apply r r' n on (events.NotApplied code) none rule = rule

no_none : (r r' : Router) (n : ℕ) (e : Event) → IsNoUnit e → Rule r n e actions.NoData r' → ⊥
no_none r r' n events.Tick none rule = rule
no_none r r' n events.Asked none rule = rule
no_none r r' n events.Connected none rule = rule
no_none r r' n events.Lost none rule = rule
no_none r r' n (events.Came u) none rule = absurd none
no_none r r' n (events.Faulty f) none rule = absurd none
no_none r r' n events.Applied none rule = rule
no_none r r' n (events.NotApplied code) none rule = rule

asks_from : (r r' : Router) (n : ℕ) (e : Event) → IsNoUnit e → (e ≡ events.Connected → ⊥) →
    MayAsk r n e r' → r.phase ≡ phases.Waiting
asks_from r r' n events.Tick none other may = may.0
asks_from r r' n events.Asked none other may = absurd may
asks_from r r' n events.Connected none other may = absurd (other refl)
asks_from r r' n events.Lost none other may = absurd may
asks_from r r' n (events.Came u) none other may = absurd none
asks_from r r' n (events.Faulty f) none other may = absurd none
asks_from r r' n events.Applied none other may = absurd may
asks_from r r' n (events.NotApplied code) none other may = absurd may

shows_from : (r r' : Router) (n : ℕ) (e : Event) → Rule r n e actions.Show r' →
    (r.phase ≡ phases.Applying) × (r'.phase ≡ phases.Waiting)
shows_from r r' n events.Tick rule = absurd rule
shows_from r r' n events.Asked rule = absurd rule
shows_from r r' n events.Connected rule = absurd rule
shows_from r r' n events.Lost rule = absurd rule
shows_from r r' n (events.Came u) rule = absurd rule
shows_from r r' n (events.Faulty f) rule = absurd rule
shows_from r r' n events.Applied rule = (rule.from, rule.phase)
shows_from r r' n (events.NotApplied code) rule = absurd rule

-- where it talks after a step it talked before, and where it doesn't nothing is left
pub record Left (r r' : Router) (before after : Octets) : Type 0 where
  pub talks : IsTalking r' → IsTalking r × (after ≡ before)
  pub rests : (IsTalking r' → ⊥) → ((IsTalking r → ⊥) → before ≡ []) → after ≡ []

pub left_by : (r r' : Router) (n : ℕ) (e : Event) (a : Action) (before after : Octets) → IsNoUnit e
    → (e ≡ events.Connected → ⊥) → Rule r n e a r' → LeavesInput a 0 before after →
    Left r r' before after
left_by r r' n e actions.Wait before after none other rule left = record {
  talks = λ t. (same_talk r' r (sym rule.talk.phase) t, left);
  rests = λ no empty. left ∙ empty (λ t. no (same_talk r r' rule.talk.phase t));
}
left_by r r' n e actions.Connect before after none other rule left = record {
  talks = λ t. absurd (t.1 (connects_then r r' n e rule));
  rests = λ no empty. left;
}
left_by r r' n e (actions.Ask q) before after none other rule left = record {
  talks = λ t. (talks_waiting r (asks_from r r' n e none other rule.may), left);
  rests = λ no empty. absurd (no (talks_asked r' rule.phase));
}
left_by r r' n e actions.Begin before after none other rule left =
    absurd (no_begin r r' n e none rule)
left_by r r' n e actions.Keep before after none other rule left =
    absurd (no_keep r r' n e none rule)
left_by r r' n e (actions.Apply on) before after none other rule left =
    absurd (no_apply r r' n on e none rule)
left_by r r' n e actions.Show before after none other rule left =
    let x = shows_from r r' n e rule in
    record {
      talks = λ t. (talks_applying r x.0, left);
      rests = λ no empty. absurd (no (talks_waiting r' x.1));
    }
left_by r r' n e actions.NoData before after none other rule left =
    absurd (no_none r r' n e none rule)
left_by r r' n e actions.Drop before after none other rule left = record {
  talks = λ t. absurd (t.0 rule.phase);
  rests = λ no empty. left ∙ empty (λ t. t.0 rule.from);
}
left_by r r' n e (actions.End x) before after none other rule left = record {
  talks = λ t. absurd (t.0 rule.phase);
  rests = λ no empty. left;
}

-- ---- bytes

pub record LeftOf (r' : Router) (rest after : Octets) : Type 0 where
  pub talks : IsTalking r' → after ≡ rest
  pub rests : (IsTalking r' → ⊥) → after ≡ []

pub left_acted : (r before r' : Router) (n size : ℕ) (u : Head) (a : Action) (rest after : Octets) →
    IsTalking before → a ≢ actions.Keep → Rule before n (events.Came u) a r' →
    LeavesInput a size rest after → LeftOf r' (drop size rest) after
left_acted r before r' n size u actions.Wait rest after t other rule left =
    record { talks = λ t'. left; rests = λ no. absurd (no (same_talk before r' rule.talk.phase t)) }
left_acted r before r' n size u actions.Connect rest after t other rule left = absurd rule
left_acted r before r' n size u (actions.Ask q) rest after t other rule left =
    record { talks = λ t'. left; rests = λ no. absurd (no (talks_asked r' rule.phase)) }
left_acted r before r' n size u actions.Begin rest after t other rule left =
    record { talks = λ t'. left; rests = λ no. absurd (no (talks_reading r' rule.phase)) }
left_acted r before r' n size u actions.Keep rest after t other rule left = absurd (other refl)
left_acted r before r' n size u (actions.Apply on) rest after t other rule left =
    record { talks = λ t'. left; rests = λ no. absurd (no (talks_applying r' rule.phase)) }
left_acted r before r' n size u actions.Show rest after t other rule left = absurd rule
left_acted r before r' n size u actions.NoData rest after t other rule left =
    record { talks = λ t'. left; rests = λ no. absurd (no (talks_waiting r' rule.phase)) }
left_acted r before r' n size u actions.Drop rest after t other rule left =
    absurd (t.0 rule.from)
left_acted r before r' n size u (actions.End x) rest after t other rule left =
    record { talks = λ t'. absurd (t'.0 rule.phase); rests = λ no. left }

pub left_ended : (r r' : Router) (n : ℕ) (e : Event) (a : Action) (rest after : Octets) →
    EndsConnection a → Rule r n e a r' → LeavesInput a 0 rest after → LeftOf r' rest after
left_ended r r' n e (actions.End x) rest after ends rule left =
    record { talks = λ t. absurd (t.0 rule.phase); rests = λ no. left }
left_ended r r' n e actions.Wait rest after ends rule left = absurd ends
left_ended r r' n e actions.Connect rest after ends rule left = absurd ends
left_ended r r' n e (actions.Ask q) rest after ends rule left = absurd ends
left_ended r r' n e actions.Begin rest after ends rule left = absurd ends
left_ended r r' n e actions.Keep rest after ends rule left = absurd ends
left_ended r r' n e (actions.Apply on) rest after ends rule left = absurd ends
left_ended r r' n e actions.Show rest after ends rule left = absurd ends
left_ended r r' n e actions.NoData rest after ends rule left = absurd ends
left_ended r r' n e actions.Drop rest after ends rule left = absurd ends

-- ---- a call

abbrev called : Pair → Client → (input held : Octets) → Option Action → Pair
called p k input held a =
    record p { client = k; input = input; held = held; to_cache = p.to_cache ++ sent_by a }

module _ (c : Caller Octets Octets) (p : Pair) (k : Client) (input held : Octets) (now : ℕ)
    (y : Along c p) where
  abbrev before : Octets
  before = untold p.client p.input

  abbrev after : Octets
  after = untold k input

  abbrev r : Router
  r = p.client.router

  abbrev HasThen : Made → Type 0
  HasThen h = HostHas c h k.holding k.kept k.shown input held

  nothing_said : (a : Option Action) → a ≡ None → k.router ≡ r → after ≡ before →
      HasThen y.host → Along c (called p k input held a)
  nothing_said a none same left has = record {
    host = y.host;
    pipe = y.pipe;
    run = subst (λ (x : Router). IsRunInBytes c (record (joined_of p y.host y.pipe) {
      router = x;
      to_cache = p.to_cache ++ sent_by a;
    })) (sym same)
        (subst (λ b. IsRunInBytes c (record (joined_of p y.host y.pipe) { to_cache = b }))
        (sym (ap (λ o. p.to_cache ++ sent_by o) none ∙ append-nil p.to_cache)) y.run);
    has = has;
    talks = λ t. y.talks (subst IsTalking same t) ∙ ap (λ l. l ++ p.to_router) (sym left);
    rests = λ no. left ∙ y.rests (λ t. no (subst IsTalking (sym same) t));
  }

  says_so : (e : Event) (h : Made) → IsNoUnit e → (e ≡ events.Connected → ⊥) → MaySay r h e →
      TellsOfItself h e
  says_so events.Tick h none other may = tt
  says_so events.Asked h none other may = tt
  says_so events.Connected h none other may = absurd (other refl)
  says_so events.Lost h none other may = tt
  says_so (events.Came u) h none other may = absurd none
  says_so (events.Faulty f) h none other may = absurd none
  says_so events.Applied h none other may = may
  says_so (events.NotApplied code) h none other may = tt

  itself_said : (e : Event) (x : Action) → IsNoUnit e → (e ≡ events.Connected → ⊥) →
      MaySay r y.host e → IsStep r now e x k.router → LeavesInput x 0 before after → FitsAction x →
      HasThen (host_after c y.host [] x) → Along c (called p k input held (Some x))
  itself_said e x none other may step leaves fits has =
      let j = joined_of p y.host y.pipe in
      let left = left_by r k.router now e x before after none other step.rule leaves in
      record {
        host = host_after c y.host [] x;
        pipe = y.pipe;
        run = pipes_go_on j (record j {
          router = k.router;
          host = host_after c y.host [] x;
          to_cache = p.to_cache ++ router_bytes x;
        }) y.run
            (told_router j now e x k.router (says_so e y.host none other may) step fits);
        has = has;
        talks = λ t.
            let z = left.talks t in y.talks z.0 ∙ ap (λ l. l ++ p.to_router) (sym z.1);
        rests = λ no. left.rests no y.rests;
      }

  -- it talked where some bytes were heard
  talked : (n : ℕ) → 0 < n → n ≤ length before → IsTalking r
  talked n some within = go (talks_or_not r)
    where
      go : IsTalking r ⊎ (IsTalking r → ⊥) → IsTalking r
      go (inl t) = t
      go (inr silent) = absurd (some_there n before some within (y.rests silent))

  bytes_said : (ended : Bool) (t : Told) → Hears r now before ended t k.router →
      LeavesTold t before after → FitsTaken (action_of t) →
      HasThen (host_heard c y.host before t) → Along c (called p k input held (action_of t))
  bytes_said ended told.Awaits hears left fits has = nothing_said None refl hears.same left has
  bytes_said ended (told.Kept size) hears left fits has =
      let j = joined_of p y.host y.pipe in
      let t = talked size hears.some hears.within in
      let h = host_heard c y.host before (told.Kept size) in
      record {
        host = h;
        pipe = drop size before ++ p.to_router;
        run = pipes_go_on j (record j {
          router = k.router;
          host = h;
          to_cache = p.to_cache ++ [];
          to_router = drop size before ++ p.to_router;
        }) y.run
            (heard_bytes j now before p.to_router ended (told.Kept size) k.router (y.talks t) hears
            tt);
        has = has;
        talks = λ t'. ap (λ l. l ++ p.to_router) (sym left);
        rests = λ no.
            absurd (no (same_talk r k.router
            (same_kept now r (take size before) k.router hears.kept).0 t));
      }
  bytes_said ended (told.Acted start end a) hears leaves fits has =
      let j = joined_of p y.host y.pipe in
      let t = talked end (omega (arith, hears.order)) hears.within in
      let h = host_heard c y.host before (told.Acted start end a) in
      let t' = same_talk r hears.before
      (same_kept now r (take start before) hears.before hears.kept).0 t in
      let left = left_acted r hears.before k.router now end hears.head a before after t' hears.other
      hears.step.rule leaves in
      record {
        host = h;
        pipe = drop end before ++ p.to_router;
        run = pipes_go_on j (record j {
          router = k.router;
          host = h;
          to_cache = p.to_cache ++ router_bytes a;
          to_router = drop end before ++ p.to_router;
        }) y.run
            (heard_bytes j now before p.to_router ended (told.Acted start end a) k.router
            (y.talks t) hears fits);
        has = has;
        talks = λ talks. ap (λ l. l ++ p.to_router) (sym (left.talks talks));
        rests = left.rests;
      }
  bytes_said ended (told.Refused e a) hears leaves fits has =
      let j = joined_of p y.host y.pipe in
      let t = talked (length before) hears.some (omega arith) in
      let h = host_heard c y.host before (told.Refused e a) in
      let left = left_ended r k.router now _ a before after
      (faulty_ends r k.router now _ a t hears.step.rule) hears.step.rule leaves in
      record {
        host = h;
        pipe = before ++ p.to_router;
        run = pipes_go_on j (record j {
          router = k.router;
          host = h;
          to_cache = p.to_cache ++ router_bytes a;
          to_router = before ++ p.to_router;
        }) y.run
            (heard_bytes j now before p.to_router ended (told.Refused e a) k.router
            (y.talks t) hears fits);
        has = has;
        talks = λ talks. ap (λ l. l ++ p.to_router) (sym (left.talks talks));
        rests = left.rests;
      }

  not_opened : (e : Event) (x : Action) → (IsOpening (of_itself e x) → ⊥) →
      e ≡ events.Connected → ⊥
  not_opened e x other is = other (subst (λ e. IsOpening (of_itself e x)) (sym is) tt)

  said : (w : Word) (a : Option Action) → IsTold w now r before after a k.router →
      (IsOpening w → ⊥) → FitsTaken a → MaySayThis r y.host w →
      HasThen (host_then c y.host before w) → Along c (called p k input held a)
  said of_nothing a is_told other fits may has =
      nothing_said a is_told.0 is_told.1 is_told.2 has
  said (of_itself e x) a is_told other fits may has =
      subst (λ o. FitsTaken o → Along c (called p k input held o)) (sym is_told.0)
      (λ fits. itself_said e x is_told.1 (not_opened e x other) may is_told.2 is_told.3 fits has)
      fits
  said (of_bytes ended t) a is_told other fits may has =
      subst (λ o. FitsTaken o → Along c (called p k input held o)) (sym is_told.0)
      (λ fits. bytes_said ended t is_told.1 is_told.2 fits has) fits

  -- ---- a connection is there

  opened_with : (x : Action) (new : Cache) → r.phase ≡ phases.Connecting → new.asked ≡ false →
      IsStep r now events.Connected x k.router → LeavesInput x 0 before after → FitsAction x →
      HasThen (host_after c y.host [] x) →
      Along c (record p {
        client = k;
        input = input;
        held = held;
        cache = new;
        to_cache = router_bytes x;
        to_router = [];
      })
  opened_with x new connecting asked step leaves fits has =
      let j = joined_of p y.host y.pipe in
      let none = left_none x before after (y.rests (λ t. t.1 connecting)) leaves in
      record {
        host = host_after c y.host [] x;
        pipe = [];
        run = pipes_go_on j (record j {
          router = k.router;
          host = host_after c y.host [] x;
          cache = new;
          to_cache = router_bytes x;
          to_router = [];
        }) y.run
            (joined_anew j now x k.router new connecting asked step fits);
        has = has;
        talks = λ t. ap (λ l. l ++ []) (sym none);
        rests = λ no. none;
      }

  opened : (w : Word) (a : Option Action) (new : Cache) → IsTold w now r before after a k.router →
      IsOpening w → new.asked ≡ false → FitsTaken a → MaySayThis r y.host w →
      HasThen (host_then c y.host before w) →
      Along c (record p {
        client = k;
        input = input;
        held = held;
        cache = new;
        to_cache = sent_by a;
        to_router = [];
      })
  opened of_nothing a new is_told opening asked fits may has = absurd opening
  opened (of_bytes ended t) a new is_told opening asked fits may has = absurd opening
  opened (of_itself events.Connected x) a new is_told opening asked fits may has =
      subst (λ o. FitsTaken o → Along c (record p {
        client = k;
        input = input;
        held = held;
        cache = new;
        to_cache = sent_by o;
        to_router = [];
      })) (sym is_told.0)
      (λ fits. opened_with x new may asked is_told.2 is_told.3 fits has) fits
  opened (of_itself events.Tick x) a new is_told opening asked fits may has = absurd opening
  opened (of_itself events.Asked x) a new is_told opening asked fits may has = absurd opening
  opened (of_itself events.Lost x) a new is_told opening asked fits may has = absurd opening
  opened (of_itself (events.Came u) x) a new is_told opening asked fits may has = absurd opening
  opened (of_itself (events.Faulty f) x) a new is_told opening asked fits may has = absurd opening
  opened (of_itself events.Applied x) a new is_told opening asked fits may has = absurd opening
  opened (of_itself (events.NotApplied code) x) a new is_told opening asked fits may has =
      absurd opening

-- ---- all that may happen next

makes_both : (c : Caller Octets Octets) (a b : List MadeAnswer) → MakesAll c (a ++ b) →
    MakesAll c a × MakesAll c b
makes_both c [] b makes = (tt, makes)
makes_both c (m ∷ ms) b makes =
    let x = makes_both c ms b makes.1 in ((makes.0, x.0), x.1)

were_both : (a b : List MadeAnswer) → WereMade a → WereMade b → WereMade (a ++ b)
were_both [] b w v = v
were_both (m ∷ ms) b w v = (w.0, were_both ms b w.1 v)

along_received : (c : Caller Octets Octets) (p : Pair) (size : ℕ) (input piece later : Octets) →
    IsTalking p.client.router → Fits p.client input → p.client.filled + size ≤ length input →
    take p.client.filled p.input ≡ take p.client.filled input →
    take size (drop p.client.filled input) ≡ piece → p.to_router ≡ piece ++ later → Along c p →
    Along c (record p {
      client = record p.client { filled = p.client.filled + size };
      input = input;
      to_router = later;
    })
along_received c p size input piece later talks fits within same piece_is parts y =
    let k = p.client in
    let before = untold k p.input in
    let there = received (k.kept + due_size k.holding) k.filled size p.input input fits.due within
    same ∙ ap (λ l. before ++ l) piece_is in
    record {
      host = y.host;
      pipe = y.pipe;
      run = y.run;
      has = (
        y.has.0,
        holds_still c y.host k.holding k.kept k.filled p.input input fits.due same y.has.1,
      );
      talks = λ t. y.talks t ∙ ap (λ l. before ++ l) parts ∙ sym (append_assoc before piece later)
          ∙ ap (λ l. l ++ later) (sym there);
      rests = λ no. absurd (no talks);
    }

along_moved : (c : Caller Octets Octets) (p : Pair) (input held : Octets) → Fits p.client p.input →
    SameThere p.client p.input input p.held held → Along c p →
    Along c (record p { input = input; held = held })
along_moved c p input held fits same y =
    let k = p.client in
    let there = ap (drop (k.kept + due_size k.holding)) same.front in
    record {
      host = y.host;
      pipe = y.pipe;
      run = y.run;
      has = (
        shows_still y.host.shown k.shown p.held held same.shown y.has.0,
        holds_still c y.host k.holding k.kept k.filled p.input input fits.due same.front y.has.1,
      );
      talks = λ t. y.talks t ∙ ap (λ l. l ++ p.to_router) there;
      rests = λ no. sym there ∙ y.rests no;
    }

next : (p p' : Pair) → Goes p p' → Follows p → Follows p'
next p p' (calls _ k input held a x other) f = record {
  made = x.takes.made ++ f.made;
  were = were_both x.takes.made f.made x.takes.were f.were;
  along = λ c makes.
      let both = makes_both c x.takes.made f.made makes in
      let y = f.along c both.1 in
      said c p k input held x.now y x.takes.word a x.takes.is_told other x.fits
      (x.takes.says c y.host both.0 y.has) (x.takes.has c y.host both.0 y.has);
}
next p p' (opens _ k input held a new x opening asked) f = record {
  made = x.takes.made ++ f.made;
  were = were_both x.takes.made f.made x.takes.were f.were;
  along = λ c makes.
      let both = makes_both c x.takes.made f.made makes in
      let y = f.along c both.1 in
      opened c p k input held x.now y x.takes.word a new x.takes.is_told opening asked x.fits
      (x.takes.says c y.host both.0 y.has) (x.takes.has c y.host both.0 y.has);
}
next p p' (takes_bytes _ size input piece later talks fits within same piece_is parts) f = record {
  made = f.made;
  were = f.were;
  along = λ c makes.
      along_received c p size input piece later talks fits within same piece_is parts
      (f.along c makes);
}
next p p' (says _ o l unsent) f = record {
  made = f.made;
  were = f.were;
  along = λ c makes.
      let y = f.along c makes in
      record {
        host = y.host;
        pipe = y.pipe;
        run = y.run;
        has = y.has;
        talks = y.talks;
        rests = y.rests;
      };
}
next p p' (moves _ input held fits same) f = record {
  made = f.made;
  were = f.were;
  along = λ c makes. along_moved c p input held fits same (f.along c makes);
}
next p p' (asks _ n kept input later ended size a after b old is heard fits sent writes) f =
    record {
      made = f.made;
      were = f.were;
      along = λ c makes.
          let y = f.along c makes in
          let j = joined_of p y.host y.pipe in
          record {
            host = y.host;
            pipe = y.pipe ++ b;
            run = pipes_go_on j (record j {
              cache = after;
              to_cache = drop size input ++ later;
              to_router = y.pipe ++ b;
            }) y.run
                (asked_in_bytes j n kept input later ended size a after b old is heard fits sent
                writes);
            has = y.has;
            talks = λ t. ap (λ l. l ++ b) (y.talks t)
                ∙ append_assoc (untold p.client p.input) p.to_router b;
            rests = y.rests;
          };
    }
next p p' (tells_cache _ n e a after b tells step fits writes) f = record {
  made = f.made;
  were = f.were;
  along = λ c makes.
      let y = f.along c makes in
      let j = joined_of p y.host y.pipe in
      record {
        host = y.host;
        pipe = y.pipe ++ b;
        run = pipes_go_on j (record j { cache = after; to_router = y.pipe ++ b }) y.run
            (told_cache j n e a after b tells step fits writes);
        has = y.has;
        talks = λ t. ap (λ l. l ++ b) (y.talks t)
            ∙ append_assoc (untold p.client p.input) p.to_router b;
        rests = y.rests;
      };
}
next p p' (renews _ e fits) f = record {
  made = f.made;
  were = f.were;
  along = λ c makes.
      let y = f.along c makes in
      let j = joined_of p y.host y.pipe in
      record {
        host = y.host;
        pipe = y.pipe;
        run = pipes_go_on j (record j { present = e; had = e ∷ p.had }) y.run
            (data_renewed j e fits);
        has = y.has;
        talks = y.talks;
        rests = y.rests;
      };
}

along_run : (p : Pair) → IsRunOfClient p → Follows p
along_run p (pair_begins k input held new e is fits) = record {
  made = [];
  were = tt;
  along = λ c makes. record {
    host = empty_host;
    pipe = [];
    run = pipes_begin k.router new e is.phase is.has_data fits;
    has = (
      subst (λ n. ShowsFront None n held) (sym is.shown) tt,
      subst (λ m. Holds c empty_host m k.kept input) (sym is.holding) tt,
    );
    talks = λ t. absurd (t.0 is.phase);
    rests = λ no. ap (λ f. drop (k.kept + due_size k.holding) (take f input)) is.filled
        ∙ drop-nil (k.kept + due_size k.holding);
  };
}
along_run p (pair_goes_on before _ run step) = next before p step (along_run before run)

-- a caller that makes all that was made, and where the run is beside it
record Standing (p : Pair) : Type 0 where
  pub caller : Caller Octets Octets
  pub along : Along caller p

standing : (p : Pair) → IsRunOfClient p → Standing p
standing p run =
    let f = along_run p run in
    let s = p.client.router.settings in
    let c = caller_of s f.made in
    record { caller = c; along = f.along c (caller_makes s f.made f.were) }

-- without a connection nothing is left that the machine wasn't told of
pub nothing_untold : (p : Pair) → IsRunOfClient p → (IsTalking p.client.router → ⊥) →
    untold p.client p.input ≡ []
nothing_untold p run silent = (standing p run).along.rests silent

-- a connection is there only where it was to be made
pub opens_connecting : (p : Pair) (k : Client) (input held : Octets) (a : Option Action)
    (x : Calls p k input held a) → IsRunOfClient p → IsOpening x.takes.word →
    p.client.router.phase ≡ phases.Connecting
opens_connecting p k input held a x run opening =
    let f = along_run p run in
    let s = p.client.router.settings in
    let made = x.takes.made ++ f.made in
    let c = caller_of s made in
    let both = makes_both c x.takes.made f.made
    (caller_makes s made (were_both x.takes.made f.made x.takes.were f.were)) in
    let y = f.along c both.1 in
    go x.takes.word y.host (x.takes.says c y.host both.0 y.has) opening
  where
    go : (w : Word) (h : Made) → MaySayThis p.client.router h w → IsOpening w
        → p.client.router.phase ≡ phases.Connecting
    go of_nothing h may opening = absurd opening
    go (of_bytes ended t) h may opening = absurd opening
    go (of_itself events.Connected x) h may opening = may
    go (of_itself events.Tick x) h may opening = absurd opening
    go (of_itself events.Asked x) h may opening = absurd opening
    go (of_itself events.Lost x) h may opening = absurd opening
    go (of_itself (events.Came u) x) h may opening = absurd opening
    go (of_itself (events.Faulty f) x) h may opening = absurd opening
    go (of_itself events.Applied x) h may opening = absurd opening
    go (of_itself (events.NotApplied code) x) h may opening = absurd opening

-- ---- what is shown

some_shown : (n : Option ℕ) (buffer d : Octets) (o : Option Octets) → o ≡ Some d →
    ShowsFront o n buffer → (m : ℕ) × (n ≡ Some m) × (d ≡ take m buffer)
some_shown None buffer d o is shows =
    absurd (subst (λ o. ShowsFront o None buffer) is shows)
some_shown (Some n) buffer d o is shows =
    (n, refl, subst (λ o. ShowsFront o (Some n) buffer) is shows)

pub runs_in_bytes : (p : Pair) → IsRunOfClient p → RunsInBytes p
runs_in_bytes p run =
    let f = along_run p run in
    let s = p.client.router.settings in
    let c = caller_of s f.made in
    let y = f.along c (caller_makes s f.made f.were) in
    record {
      caller = c;
      applies = caller_applies s f.made f.were;
      host = y.host;
      on_its_way = y.pipe;
      run = y.run;
      shows = y.has.0;
      comes = y.talks;
    }

abbrev pub BytesAgree : Type 0
BytesAgree = (c : Caller Octets Octets) (w : Joined) → AppliesAnswers c →
    IsOneDataPerName (editions_of w.had) → IsRunInBytes c w → w.router.has_data ≡ true →
    ShowsBytes w

pub shows_had : BytesAgree → (p : Pair) → IsOneDataPerName (editions_of p.had) →
    IsRunOfClient p → p.client.router.has_data ≡ true → ShowsHad p
shows_had agree p one run has =
    let y = runs_in_bytes p run in
    let x = agree y.caller (joined_of p y.host y.on_its_way) y.applies one y.run has in
    let z = some_shown p.client.shown p.held x.bytes y.host.shown x.shown y.shows in
    record {
      edition = x.edition;
      has = x.has;
      was = x.was;
      session = x.session;
      serial = x.serial;
      size = z.0;
      shown = z.1;
      end = x.end;
      holds = subst (λ b. HoldsData b (data_for p.client.router.known.version x.edition.payloads)
          x.end) z.2 x.holds;
      named = x.named;
    }
