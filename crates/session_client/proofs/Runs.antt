-- What a client holds goes on as the run of its machine does.
use native.Mathlib.Omega.{arith}
use Rattle.std.proofs.Common.{◌≡◌, ◌≢◌, ℕ, Bool, true, false, ◌+◌, ◌-◌, ◌≤◌, List, [], ◌∷◌}
use Rattle.std.proofs.Common.{◌++◌, length, take, drop, refl, sym, ap, ◌∙◌, subst, if◌then◌else◌}
use Rattle.std.proofs.Common.{Option, Some, None, add-zero}
use Rattle.std.specs.List.{concat}
use Rattle.std.proofs.lemmas.List.{drop-drop, drop-take, length-drop, length-take-le, take-take}
use Rattle.std.proofs.lemmas.List.Folds.{concat-append}
use Rattle.session_router.specs.declared.event.Action.{Action}
use Rattle.session_router.specs.declared.event.Action.TheVariants as actions
use Rattle.session_router.specs.declared.event.Ending.{Ending}
use Rattle.session_router.specs.declared.event.Event.{Event}
use Rattle.session_router.specs.declared.event.Event.TheVariants as events
use Rattle.session_router.specs.declared.router.Router.{Router}
use Rattle.session_router.specs.declared.settings.Settings.{Settings}
use Rattle.session_router.specs.Histories.{Caller, Host, MaySay, Moment, at, host_after}
use Rattle.session_router.specs.Histories.IsHistory.{run_goes_on}
use Rattle.session_router.specs.Rules.{Rule}
use Rattle.session_router.specs.Step.{IsStep}
use Rattle.session_bytes.specs.Reading.{Acts}
use Rattle.session_bytes.specs.ShownData.{ActsOn, AreHeard, KeepsOn, base_of}
use Rattle.session_client.specs.Counting.{IsKeptCount}
use Rattle.session_client.specs.Holding.{Holds, IsDue, IsHearing, LeavesInput, Running, RunsBeside}
use Rattle.session_client.specs.Holding.{SameShown}
use Rattle.session_client.specs.Holding.{SaysItself, ShowsFront}
use Rattle.session_client.specs.Holding.{due_after, due_size}
use Rattle.session_client.specs.Holding.{shown_after}
use Rattle.session_client.specs.Makings.{Octets, MakesThis, onto}
use Rattle.session_client.specs.declared.client.Holding.{Holding}
use Rattle.session_client.specs.declared.client.Holding.TheVariants as holdings
use Rattle.session_client.proofs.Places.{answer_of, joined, unit_there}

-- what is kept, and more units
pub grown : (c : Caller Octets Octets) (h : Host Octets Octets) (m : Holding)
    (kept start filled : ℕ) (input : Octets) (units : List Octets) → IsHearing m →
    kept + start ≤ filled →
    Holds c h m kept input → concat units ≡ take start (drop kept (take filled input)) →
    Holds c (record { kept = h.kept ++ units; made = h.made; shown = h.shown }) m (kept + start)
    input
grown c h holdings.Nothing kept start filled input units hearing within holds are = tt
grown c h holdings.Units kept start filled input units hearing within holds are =
    concat-append h.kept units ∙ ap (λ l. l ++ concat units) holds
    ∙ ap (λ l. take kept input ++ l) are ∙ joined input kept start filled within
grown c h (holdings.Answer n s) kept start filled input units hearing within holds are =
    absurd hearing

pub keeps_more : (c : Caller Octets Octets) (r r' : Router) (m : Holding) (kept size filled : ℕ)
    (shown : Option ℕ) (input buffer : Octets) → IsHearing m → kept + size ≤ filled →
    (x : RunsBeside c r m kept shown input buffer) →
    KeepsOn c x.host (take size (drop kept (take filled input))) r' →
    RunsBeside c r' m (kept + size) shown input buffer
keeps_more c r r' m kept size filled shown input buffer hearing within x on = record {
  history = on.history;
  host = record { kept = x.host.kept ++ on.units; made = x.host.made; shown = x.host.shown };
  run = on.run;
  heard = on.heard;
  shows = x.shows;
  holds = grown c x.host m kept size filled input on.units hearing within x.holds on.joined;
}

-- ---- a unit at which the machine acts

abbrev ActsAt : Caller Octets Octets → Host Octets Octets → (now kept start end filled : ℕ) →
    Octets → Action → Router → Type 0
ActsAt c h now kept start end filled input a r' =
    let rest = drop kept (take filled input) in
    ActsOn c h now (take start rest) (drop start (take end rest)) a r'

-- it changes nothing: it is taken out
pub acts_wait : (c : Caller Octets Octets) (r r' : Router) (m : Holding)
    (now kept start end filled : ℕ) (shown : Option ℕ) (input input' buffer : Octets) →
    IsHearing m → kept + start ≤ filled → take (kept + start) input' ≡ take (kept + start) input →
    (x : RunsBeside c r m kept shown input buffer) →
    ActsAt c x.host now kept start end filled input actions.Wait r' →
    RunsBeside c r' m (kept + start) shown input' buffer
acts_wait c r r' m now kept start end filled shown input input' buffer hearing within same x on =
    let k = on.kept in
    let h : Host Octets Octets =
    record { kept = x.host.kept ++ k.units; made = x.host.made; shown = x.host.shown } in
    record {
      history = at now (events.Came on.head) (drop start (take end (drop kept (take filled input))))
          actions.Wait ∷ k.history;
      host = h;
      run = on.run;
      heard = (on.heard, k.heard);
      shows = x.shows;
      holds = moved_units c h m (kept + start) input input' hearing same
          (grown c x.host m kept start filled input k.units hearing within x.holds k.joined);
    }
  where
    moved_units : (c : Caller Octets Octets) (h : Host Octets Octets) (m : Holding) (kept : ℕ)
        (input input' : Octets) → IsHearing m → take kept input' ≡ take kept input →
        Holds c h m kept input → Holds c h m kept input'
    moved_units c h holdings.Nothing kept input input' hearing same holds = tt
    moved_units c h holdings.Units kept input input' hearing same holds = holds ∙ sym same
    moved_units c h (holdings.Answer n s) kept input input' hearing same holds = absurd hearing

-- a response begins
pub acts_begin : (c : Caller Octets Octets) (r r' : Router) (m : Holding)
    (now kept start end filled : ℕ) (shown : Option ℕ) (input input' buffer : Octets) →
    (x : RunsBeside c r m kept shown input buffer) →
    ActsAt c x.host now kept start end filled input actions.Begin r' →
    RunsBeside c r' holdings.Units 0 shown input' buffer
acts_begin c r r' m now kept start end filled shown input input' buffer x on = record {
  history = at now (events.Came on.head) (drop start (take end (drop kept (take filled input))))
      actions.Begin ∷ on.kept.history;
  host = record { kept = []; made = x.host.made; shown = x.host.shown };
  run = on.run;
  heard = (on.heard, on.kept.heard);
  shows = x.shows;
  holds = refl;
}

-- a response is whole
pub acts_apply : (c : Caller Octets Octets) (r r' : Router) (since : Bool)
    (now kept start end filled : ℕ) (shown : Option ℕ) (input buffer : Octets) →
    start ≤ end → kept + end ≤ filled →
    (x : RunsBeside c r holdings.Units kept shown input buffer) →
    ActsAt c x.host now kept start end filled input (actions.Apply since) r' →
    RunsBeside c r' (holdings.Answer (end - start) since) (kept + start) shown input buffer
acts_apply c r r' since now kept start end filled shown input buffer order within x on =
    let unit = drop start (take end (drop kept (take filled input))) in
    let units = x.host.kept ++ on.kept.units in
    let old = if since then x.host.shown else None in
    record {
      history = at now (events.Came on.head) unit (actions.Apply since) ∷ on.kept.history;
      host = record { kept = units; made = c.make old units unit; shown = x.host.shown };
      run = on.run;
      heard = (on.heard, on.kept.heard);
      shows = x.shows;
      holds = record {
        units = units;
        end = unit;
        made = refl;
        units_are = grown c x.host holdings.Units kept start filled input on.kept.units tt
            (omega (arith, order, within)) x.holds on.kept.joined;
        end_is = unit_there input kept start end filled order within;
      };
    }

-- what is kept doesn't matter any more
pub forgets : (c : Caller Octets Octets) (r : Router) (m : Holding) (kept kept' : ℕ)
    (shown : Option ℕ) (input input' buffer : Octets) →
    RunsBeside c r m kept shown input buffer → RunsBeside c r holdings.Nothing kept' shown input'
    buffer
forgets c r m kept kept' shown input input' buffer x = record {
  history = x.history;
  host = x.host;
  run = x.run;
  heard = x.heard;
  shows = x.shows;
  holds = tt;
}

-- ---- any other action

-- data are dropped, or stay
dropped : (c : Caller Octets Octets) (h : Host Octets Octets) (b : Octets) (x : Ending)
    (shown : Option ℕ) (buffer : Octets) → ShowsFront h.shown shown buffer →
    ShowsFront (host_after c h b (actions.End x)).shown (shown_after (actions.End x) shown) buffer
dropped c h b x shown buffer shows =
    elim x.drop as (λ d. ShowsFront (if d then None else h.shown) (if d then None else shown)
    buffer)
    [ true ↦ tt | false ↦ shows ]

pub shows_after : (c : Caller Octets Octets) (h : Host Octets Octets) (b : Octets) (a : Action)
    (shown : Option ℕ) (buffer : Octets) → a ≢ actions.Show → ShowsFront h.shown shown buffer →
    ShowsFront (host_after c h b a).shown (shown_after a shown) buffer
shows_after c h b actions.Show shown buffer other shows = absurd (other refl)
shows_after c h b actions.Drop shown buffer other shows = tt
shows_after c h b (actions.End x) shown buffer other shows = dropped c h b x shown buffer shows
shows_after c h b actions.Wait shown buffer other shows = shows
shows_after c h b actions.Connect shown buffer other shows = shows
shows_after c h b (actions.Ask q) shown buffer other shows = shows
shows_after c h b actions.Begin shown buffer other shows = shows
shows_after c h b actions.Keep shown buffer other shows = shows
shows_after c h b (actions.Apply s) shown buffer other shows = shows
shows_after c h b actions.NoData shown buffer other shows = shows

-- at a unit nothing is shown
pub no_show : (r : Router) (n : ℕ) (e : Event) (a : Action) (r' : Router) → e ≢ events.Applied →
    Rule r n e a r' → a ≢ actions.Show
no_show r n e a r' other rule is = go e other (subst (λ a. Rule r n e a r') is rule)
  where
    go : (e : Event) → e ≢ events.Applied → Rule r n e actions.Show r' → ⊥
    go events.Tick other rule = rule
    go events.Asked other rule = rule
    go events.Connected other rule = rule
    go events.Lost other rule = rule
    go (events.Came u) other rule = rule
    go (events.Faulty f) other rule = rule
    go events.Applied other rule = other refl
    go (events.NotApplied code) other rule = rule

pub acts_other : (c : Caller Octets Octets) (r before r' : Router) (m : Holding)
    (now kept kept' start end filled : ℕ) (a : Action) (shown : Option ℕ)
    (input input' buffer : Octets) →
    Acts before now (drop kept (take filled input)) start end a r' →
    (x : RunsBeside c r m kept shown input buffer) →
    ActsAt c x.host now kept start end filled input a r' →
    RunsBeside c r' holdings.Nothing kept' (shown_after a shown) input' buffer
acts_other c r before r' m now kept kept' start end filled a shown input input' buffer acts x on =
    let unit = drop start (take end (drop kept (take filled input))) in
    let h : Host Octets Octets =
    record { kept = x.host.kept ++ on.kept.units; made = x.host.made; shown = x.host.shown } in
    record {
      history = at now (events.Came on.head) unit a ∷ on.kept.history;
      host = host_after c h unit a;
      run = on.run;
      heard = (on.heard, on.kept.heard);
      shows = shows_after c h unit a shown buffer
          (no_show acts.before now (events.Came acts.head) a r' (λ e. cc) acts.step.rule) x.shows;
      holds = tt;
    }

-- ---- what the machine is told of itself

pub heard_none : (e : Event) (r : Router) → SaysItself r e → (h : Host Octets Octets) → MaySay r h e
heard_none events.Tick r says h = tt
heard_none events.Asked r says h = tt
heard_none events.Connected r says h = says
heard_none events.Lost r says h = tt
heard_none (events.Came u) r says h = tt
heard_none (events.Faulty f) r says h = tt
heard_none events.Applied r says h = absurd says
heard_none (events.NotApplied code) r says h = tt

pub not_applied : (e : Event) (r : Router) → SaysItself r e → e ≢ events.Applied
not_applied e r says is = subst (SaysItself r) is says

-- the moment at which it was told, of nothing that came
told : (n : ℕ) (e : Event) (a : Action) (ms : List (Moment Octets)) (r : Router) → SaysItself r e →
    AreHeard ms → AreHeard (at n e [] a ∷ ms)
told n events.Tick a ms r says heard = (tt, heard)
told n events.Asked a ms r says heard = (tt, heard)
told n events.Connected a ms r says heard = (tt, heard)
told n events.Lost a ms r says heard = (tt, heard)
told n (events.Came u) a ms r says heard = absurd says
told n (events.Faulty f) a ms r says heard = (tt, heard)
told n events.Applied a ms r says heard = absurd says
told n (events.NotApplied code) a ms r says heard = (tt, heard)

-- it changes nothing
pub says_wait : (c : Caller Octets Octets) (r r' : Router) (m : Holding) (now kept : ℕ) (e : Event)
    (shown : Option ℕ) (input buffer : Octets) → SaysItself r e →
    RunsBeside c r m kept shown input buffer → IsStep r now e actions.Wait r' →
    RunsBeside c r' m kept shown input buffer
says_wait c r r' m now kept e shown input buffer says x step = record {
  history = at now e [] actions.Wait ∷ x.history;
  host = x.host;
  run = run_goes_on now [] e actions.Wait r' x.history r x.host x.run
      (heard_none e r says x.host) step;
  heard = told now e actions.Wait x.history r says x.heard;
  shows = x.shows;
  holds = x.holds;
}

pub says_other : (c : Caller Octets Octets) (r r' : Router) (m : Holding) (now kept kept' : ℕ)
    (e : Event) (a : Action) (shown : Option ℕ) (input input' buffer : Octets) → SaysItself r e →
    RunsBeside c r m kept shown input buffer → IsStep r now e a r' →
    RunsBeside c r' holdings.Nothing kept' (shown_after a shown) input' buffer
says_other c r r' m now kept kept' e a shown input input' buffer says x step = record {
  history = at now e [] a ∷ x.history;
  host = host_after c x.host [] a;
  run = run_goes_on now [] e a r' x.history r x.host x.run (heard_none e r says x.host) step;
  heard = told now e a x.history r says x.heard;
  shows = shows_after c x.host [] a shown buffer
      (no_show r now e a r' (not_applied e r says) step.rule) x.shows;
  holds = tt;
}

-- ---- a whole answer

onto_old : (since : Bool) (old : Option Octets) (shown : Option ℕ) (held end : Octets) →
    ShowsFront old shown held →
    base_of (if since then old else None) end ≡ onto since shown held end
onto_old true None None held end shows = refl
onto_old false None None held end shows = refl
onto_old true (Some d) (Some n) held end shows = shows
onto_old false (Some d) (Some n) held end shows = refl
onto_old since None (Some n) held end shows = absurd shows
onto_old since (Some d) None held end shows = absurd shows

pub made_is : (c : Caller Octets Octets) (h : Host Octets Octets) (size : ℕ) (since : Bool)
    (kept : ℕ) (shown : Option ℕ) (input held new : Octets) → ShowsFront h.shown shown held →
    MakesThis c (record {
      base = onto since shown held (take size (drop kept input));
      answer = take (kept + size) input;
      new = new;
    }) →
    IsDue c h size since kept input → h.made ≡ Some new
made_is c h size since kept shown input held new shows makes x =
    let end = take size (drop kept input) in
    x.made ∙ makes (if since then h.shown else None) x.units x.end
    (ap (base_of (if since then h.shown else None)) x.end_is
    ∙ onto_old since h.shown shown held end shows)
    (ap (λ e. concat x.units ++ e) x.end_is
    ∙ sym (answer_of input (concat x.units) kept size x.units_are))

pub shows_made : (c : Caller Octets Octets) (r r' : Router) (m : Holding)
    (now n kept kept' : ℕ) (shown : Option ℕ) (input input' buffer made : Octets) →
    (x : RunsBeside c r m kept shown input buffer) → x.host.made ≡ Some (take n made) →
    IsStep r now events.Applied actions.Show r' →
    RunsBeside c r' holdings.Nothing kept' (Some n) input' made
shows_made c r r' m now n kept kept' shown input input' buffer made x is step = record {
  history = at now events.Applied [] actions.Show ∷ x.history;
  host = host_after c x.host [] actions.Show;
  run = run_goes_on now [] events.Applied actions.Show r' x.history r x.host x.run
      (take n made, is) step;
  heard = (tt, x.heard);
  shows = subst (λ o. ShowsFront o (Some n) made) (sym is) refl;
  holds = tt;
}

pub fails_made : (c : Caller Octets Octets) (r r' : Router) (m : Holding)
    (now n kept kept' : ℕ) (a : Action) (shown : Option ℕ) (input input' buffer made : Octets) →
    (x : RunsBeside c r m kept shown input buffer) → x.host.made ≡ Some (take n made) →
    IsStep r now events.Applied a r' → a ≢ actions.Show →
    RunsBeside c r' holdings.Nothing kept' (shown_after a shown) input' buffer
fails_made c r r' m now n kept kept' a shown input input' buffer made x is step other = record {
  history = at now events.Applied [] a ∷ x.history;
  host = host_after c x.host [] a;
  run = run_goes_on now [] events.Applied a r' x.history r x.host x.run (take n made, is) step;
  heard = (tt, x.heard);
  shows = shows_after c x.host [] a shown buffer other x.shows;
  holds = tt;
}

-- a response is whole, and its units were kept, or nothing was
pub acts_complete : (c : Caller Octets Octets) (r r' : Router) (m : Holding) (since : Bool)
    (now kept kept' start end filled : ℕ) (shown : Option ℕ) (input buffer : Octets) →
    IsHearing m → start ≤ end → kept + end ≤ filled →
    (m ≡ holdings.Units → kept' ≡ kept + start) →
    Acts r now (drop kept (take filled input)) start end (actions.Apply since) r' →
    (x : RunsBeside c r m kept shown input buffer) →
    ActsAt c x.host now kept start end filled input (actions.Apply since) r' →
    RunsBeside c r' (due_after m (end - start) since) kept' shown input buffer
acts_complete c r r' holdings.Nothing since now kept kept' start end filled shown input buffer
    hearing order within is acts x on =
    acts_other c r r r' holdings.Nothing now kept kept' start end filled
    (actions.Apply since) shown input input buffer acts x on
acts_complete c r r' holdings.Units since now kept kept' start end filled shown input buffer
    hearing order within is acts x on =
    subst (λ k. RunsBeside c r' (holdings.Answer (end - start) since) k shown input buffer)
    (sym (is refl))
    (acts_apply c r r' since now kept start end filled shown input buffer order within x on)
acts_complete c r r' (holdings.Answer n s) since now kept kept' start end filled shown input buffer
    hearing order within is acts x on =
    absurd hearing

pub inside : (input : List ℕ) (kept size filled : ℕ) → kept ≤ filled → filled ≤ length input →
    size ≤ length (drop kept (take filled input)) → kept + size ≤ filled
inside input kept size filled order within some =
    let here = length-take-le filled input within in
    let left = length-drop kept (take filled input) in
    omega (arith, order, some, here, left)

-- ---- places

pub due_none : (m : Holding) → IsHearing m → due_size m ≡ 0
due_none holdings.Nothing hearing = refl
due_none holdings.Units hearing = refl
due_none (holdings.Answer n s) hearing = absurd hearing

pub due_here : (m : Holding) (kept start end filled : ℕ) (since : Bool) → start ≤ end →
    kept + end ≤ filled → (kept + start) + due_size (due_after m (end - start) since) ≤ filled
due_here holdings.Nothing kept start end filled since order within = omega (arith, order, within)
due_here holdings.Units kept start end filled since order within = omega (arith, order, within)
due_here (holdings.Answer n s) kept start end filled since order within =
    omega (arith, order, within)

pub due_is : (m : Holding) (size : ℕ) (since : Bool) → m ≡ holdings.Answer size since →
    due_size m ≡ size
due_is m size since is = ap due_size is

-- ---- what stands behind what is there doesn't matter

fronts : (a b : Octets) (n m : ℕ) → n ≤ m → take m a ≡ take m b → take n a ≡ take n b
fronts a b n m order same =
    sym (take-take n m a order) ∙ ap (take n) same ∙ take-take n m b order

middles : (a b : Octets) (n k m : ℕ) → n + k ≤ m → take m a ≡ take m b →
    take k (drop n a) ≡ take k (drop n b)
middles a b n k m order same =
    sym (drop-take n k a) ∙ ap (drop n) (fronts a b (n + k) m order same) ∙ drop-take n k b

pub holds_still : (c : Caller Octets Octets) (h : Host Octets Octets) (m : Holding)
    (kept filled : ℕ) (input input' : Octets) → kept + due_size m ≤ filled →
    take filled input ≡ take filled input' →
    Holds c h m kept input → Holds c h m kept input'
holds_still c h holdings.Nothing kept filled input input' within same holds = tt
holds_still c h holdings.Units kept filled input input' within same holds =
    let here : kept ≤ filled = omega (arith, within) in
    holds ∙ fronts input input' kept filled here same
holds_still c h (holdings.Answer n s) kept filled input input' within same holds =
    let here : kept ≤ filled = omega (arith, within) in
    record {
      units = holds.units;
      end = holds.end;
      made = holds.made;
      units_are = holds.units_are ∙ fronts input input' kept filled here same;
      end_is = holds.end_is ∙ middles input input' kept n filled within same;
    }

pub shows_still : (o : Option Octets) (n : Option ℕ) (buffer buffer' : Octets) →
    SameShown n buffer buffer' → ShowsFront o n buffer → ShowsFront o n buffer'
shows_still None None buffer buffer' same shows = tt
shows_still (Some d) (Some n) buffer buffer' same shows = shows ∙ same
shows_still None (Some n) buffer buffer' same shows = absurd shows
shows_still (Some d) None buffer buffer' same shows = absurd shows

pub same_shown : (n : Option ℕ) (buffer : Octets) → SameShown n buffer buffer
same_shown None buffer = tt
same_shown (Some n) buffer = refl

pub runs_still : (c : Caller Octets Octets) (r : Router) (m : Holding) (kept filled : ℕ)
    (shown : Option ℕ) (input input' buffer buffer' : Octets) → kept + due_size m ≤ filled →
    take filled input ≡ take filled input' → SameShown shown buffer buffer' →
    RunsBeside c r m kept shown input buffer → RunsBeside c r m kept shown input' buffer'
runs_still c r m kept filled shown input input' buffer buffer' within same data_same x = record {
  history = x.history;
  host = x.host;
  run = x.run;
  heard = x.heard;
  shows = shows_still x.host.shown shown buffer buffer' data_same x.shows;
  holds = holds_still c x.host m kept filled input input' within same x.holds;
}

-- what holds of each caller's run holds of all
pub goes_on : (s : Settings) (r r' : Router) (m m' : Holding) (kept kept' : ℕ)
    (shown shown' : Option ℕ) (input input' buffer buffer' : Octets) →
    (IsKeptCount m r kept input → IsKeptCount m' r' kept' input') →
    ((c : Caller Octets Octets) → RunsBeside c r m kept shown input buffer →
    RunsBeside c r' m' kept' shown' input' buffer') →
    Running s r m kept shown input buffer → Running s r' m' kept' shown' input' buffer'
goes_on s r r' m m' kept kept' shown shown' input input' buffer buffer' counts step x = record {
  made = x.made;
  were = x.were;
  stands = λ c settings makes. step c (x.stands c settings makes);
  counts = counts x.counts;
}

pub untold_hearing : (m : Holding) (kept filled : ℕ) (input : Octets) → IsHearing m →
    drop (kept + due_size m) (take filled input) ≡ drop kept (take filled input)
untold_hearing m kept filled input hearing =
    ap (λ n. drop n (take filled input)) (ap (λ n. kept + n) (due_none m hearing) ∙ add-zero kept)

-- what is left at a place behind what is kept
pub leaves_at : (a : Action) (kept n : ℕ) (there after : Octets) → LeavesInput a (kept + n) there
    after →
    LeavesInput a n (drop kept there) after
leaves_at (actions.End x) kept n there after left = left
leaves_at actions.Connect kept n there after left = left
leaves_at actions.Wait kept n there after left = left ∙ sym (drop-drop n kept there)
leaves_at (actions.Ask q) kept n there after left = left ∙ sym (drop-drop n kept there)
leaves_at actions.Begin kept n there after left = left ∙ sym (drop-drop n kept there)
leaves_at actions.Keep kept n there after left = left ∙ sym (drop-drop n kept there)
leaves_at (actions.Apply s) kept n there after left = left ∙ sym (drop-drop n kept there)
leaves_at actions.Show kept n there after left = left ∙ sym (drop-drop n kept there)
leaves_at actions.NoData kept n there after left = left ∙ sym (drop-drop n kept there)
leaves_at actions.Drop kept n there after left = left ∙ sym (drop-drop n kept there)
