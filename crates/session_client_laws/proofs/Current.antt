-- A client and a cache that gets no new data, from when the client has no connection: all ends of
-- data that come name the present data of the cache, and so do the changes that are made.
use native.Mathlib.Omega.{arith}
use Rattle.std.proofs.Common.{◌≡◌, ◌⊎◌, ℕ, Bool, ◌+◌, ◌<◌, ◌≤◌, List, [], ◌∷◌, ◌++◌, length}
use Rattle.std.proofs.Common.{take, drop, Option, refl, sym, ap, subst, ◌∙◌, append_assoc, inl, inr}
use Rattle.std.proofs.lemmas.List.Folds.{concat-append}
use Rattle.session_router.specs.declared.event.Action.{Action}
use Rattle.session_router.specs.declared.event.Action.TheVariants as actions
use Rattle.session_router.specs.declared.event.Event.{Event}
use Rattle.session_router.specs.declared.event.Event.TheVariants as events
use Rattle.session_router.specs.declared.head.Head.{Head}
use Rattle.session_router.specs.declared.head.Known.{Known}
use Rattle.session_router.specs.declared.router.Phase.TheVariants as phases
use Rattle.session_router.specs.declared.router.Router.{Router}
use Rattle.session_router.specs.Heeding.{IsTalking}
use Rattle.session_router.specs.Rules.{Adopts, Rule}
use Rattle.session_cache.specs.declared.event.CacheEvent.TheVariants as asked
use Rattle.session_cache.specs.declared.event.Present.{Present}
use Rattle.session_cache.specs.Worlds.{IsIn}
use Rattle.session_bytes.specs.Heads.{HasHead}
use Rattle.session_bytes.specs.Reading.{Acts, KeepsAll, kept_more, kept_none}
use Rattle.session_bytes.specs.Serving.{is_kept}
use Rattle.session_bytes.specs.Sending.{AreWhole}
use Rattle.session_bytes.specs.declared.telling.Told.TheVariants as told
use Rattle.session_bytes.proofs.Sending.{cut_twice, front_of, keeps_heard, next, one_head}
use Rattle.session_bytes.proofs.Sending.{whole_left}
use Rattle.session_client.specs.Holding.{due_size, untold}
use Rattle.session_client.specs.Makings.{Octets}
use Rattle.session_client.specs.Tells.{IsNoUnit, IsTold, Word, of_bytes, of_itself, of_nothing}
use Rattle.session_client.proofs.Steps.{connects_then, faulty_ends, same_kept}
use Rattle.session_laws.specs.Editions.{PayloadEdition}
use Rattle.session_laws.specs.Written.{FitsEdition}
use Rattle.session_laws.proofs.InBytes.{sent_fits}
use Rattle.session_client_laws.specs.Runs.{Goes, IsOpening, IsRunOfClient, Pair}
use Rattle.session_client_laws.specs.Runs.Goes.{asks, calls, moves, opens, renews, says}
use Rattle.session_client_laws.specs.Runs.Goes.{takes_bytes, tells_cache}
use Rattle.session_client_laws.specs.Runs.IsRunOfClient.{pair_begins, pair_goes_on}
use Rattle.session_client_laws.proofs.Along.{left_acted, left_by, left_ended, left_none}
use Rattle.session_client_laws.proofs.Along.{nothing_untold, opens_connecting, received}
use Rattle.session_client_laws.proofs.Along.{same_talk, some_there, talks_or_not}
use Rattle.session_client_laws.proofs.Naming.{AreNaming, IsNaming, IsNamingUnit, Names}
use Rattle.session_client_laws.proofs.Naming.{naming_left, naming_more, naming_whole}
use Rattle.session_client_laws.proofs.Naming.{written_names}

-- ---- the changes that are made are those of an answer that names these data

abbrev pub IsNamed : Present → Known → Type 0
IsNamed these k = (k.session ≡ these.session) × (k.serial ≡ these.serial)

-- what comes names these data, if it is an end of data
abbrev EventNames : Present → Event → Type 0
EventNames these (events.Came u) = Names these u
EventNames these e = Unit {0}

abbrev pub MakesThese : Present → Router → Type 0
MakesThese these r = r.phase ≡ phases.Applying → IsNamed these r.answer

begins_then : (r r' : Router) (n : ℕ) (e : Event) → Rule r n e actions.Begin r' →
    r'.phase ≡ phases.Reading
begins_then r r' n events.Tick rule = absurd rule
begins_then r r' n events.Asked rule = absurd rule
begins_then r r' n events.Connected rule = absurd rule
begins_then r r' n events.Lost rule = absurd rule
begins_then r r' n (events.Came u) rule = rule.phase
begins_then r r' n (events.Faulty f) rule = absurd rule
begins_then r r' n events.Applied rule = absurd rule
begins_then r r' n (events.NotApplied code) rule = absurd rule

keeps_then : (r r' : Router) (n : ℕ) (e : Event) → Rule r n e actions.Keep r' →
    r'.phase ≡ phases.Reading
keeps_then r r' n events.Tick rule = absurd rule
keeps_then r r' n events.Asked rule = absurd rule
keeps_then r r' n events.Connected rule = absurd rule
keeps_then r r' n events.Lost rule = absurd rule
keeps_then r r' n (events.Came u) rule = rule.talk.phase ∙ rule.phase
keeps_then r r' n (events.Faulty f) rule = absurd rule
keeps_then r r' n events.Applied rule = absurd rule
keeps_then r r' n (events.NotApplied code) rule = absurd rule

applies_then : (these : Present) (r r' : Router) (n : ℕ) (on : Bool) (e : Event) →
    EventNames these e → Rule r n e (actions.Apply on) r' → IsNamed these r'.answer
applies_then these r r' n on events.Tick names rule = absurd rule
applies_then these r r' n on events.Asked names rule = absurd rule
applies_then these r r' n on events.Connected names rule = absurd rule
applies_then these r r' n on events.Lost names rule = absurd rule
applies_then these r r' n on (events.Came u) names rule =
    let named = names rule.kind in (
      ap (λ (k : Known). k.session) rule.answer ∙ named.0,
      ap (λ (k : Known). k.serial) rule.answer ∙ named.1,
    )
applies_then these r r' n on (events.Faulty f) names rule = absurd rule
applies_then these r r' n on events.Applied names rule = absurd rule
applies_then these r r' n on (events.NotApplied code) names rule = absurd rule

pub adopts_then : (r r' : Router) (n : ℕ) (e : Event) → Rule r n e actions.Show r' →
    Adopts r n r' × (e ≡ events.Applied)
adopts_then r r' n events.Tick rule = absurd rule
adopts_then r r' n events.Asked rule = absurd rule
adopts_then r r' n events.Connected rule = absurd rule
adopts_then r r' n events.Lost rule = absurd rule
adopts_then r r' n (events.Came u) rule = absurd rule
adopts_then r r' n (events.Faulty f) rule = absurd rule
adopts_then r r' n events.Applied rule = (rule, refl)
adopts_then r r' n (events.NotApplied code) rule = absurd rule

lacks_then : (r r' : Router) (n : ℕ) (e : Event) → Rule r n e actions.NoData r' →
    r'.phase ≡ phases.Waiting
lacks_then r r' n events.Tick rule = absurd rule
lacks_then r r' n events.Asked rule = absurd rule
lacks_then r r' n events.Connected rule = absurd rule
lacks_then r r' n events.Lost rule = absurd rule
lacks_then r r' n (events.Came u) rule = rule.phase
lacks_then r r' n (events.Faulty f) rule = absurd rule
lacks_then r r' n events.Applied rule = absurd rule
lacks_then r r' n (events.NotApplied code) rule = absurd rule

makes_next : (these : Present) (r r' : Router) (n : ℕ) (e : Event) (a : Action) →
    EventNames these e → Rule r n e a r' → MakesThese these r → MakesThese these r'
makes_next these r r' n e actions.Wait names rule makes = λ is.
    let named = makes (sym rule.talk.phase ∙ is) in (
      ap (λ (k : Known). k.session) rule.talk.answer ∙ named.0,
      ap (λ (k : Known). k.serial) rule.talk.answer ∙ named.1,
    )
makes_next these r r' n e actions.Connect names rule makes = λ is.
    absurd (let z = sym (connects_then r r' n e rule) ∙ is in cc)
makes_next these r r' n e (actions.Ask q) names rule makes = λ is.
    absurd (let z = sym rule.phase ∙ is in cc)
makes_next these r r' n e actions.Begin names rule makes = λ is.
    absurd (let z = sym (begins_then r r' n e rule) ∙ is in cc)
makes_next these r r' n e actions.Keep names rule makes = λ is.
    absurd (let z = sym (keeps_then r r' n e rule) ∙ is in cc)
makes_next these r r' n e (actions.Apply on) names rule makes = λ is.
    applies_then these r r' n on e names rule
makes_next these r r' n e actions.Show names rule makes = λ is.
    absurd (let z = sym (adopts_then r r' n e rule).0.phase ∙ is in cc)
makes_next these r r' n e actions.NoData names rule makes = λ is.
    absurd (let z = sym (lacks_then r r' n e rule) ∙ is in cc)
makes_next these r r' n e actions.Drop names rule makes = λ is.
    absurd (let z = sym rule.phase ∙ is in cc)
makes_next these r r' n e (actions.End x) names rule makes = λ is.
    absurd (let z = sym rule.phase ∙ is in cc)

no_unit_names : (these : Present) (e : Event) → IsNoUnit e → EventNames these e
no_unit_names these events.Tick none = tt
no_unit_names these events.Asked none = tt
no_unit_names these events.Connected none = tt
no_unit_names these events.Lost none = tt
no_unit_names these (events.Came u) none = absurd none
no_unit_names these (events.Faulty f) none = absurd none
no_unit_names these events.Applied none = tt
no_unit_names these (events.NotApplied code) none = tt

kept_makes : (these : Present) (n : ℕ) (r : Router) (b : Octets) (r' : Router) →
    KeepsAll n r b r' → MakesThese these r → MakesThese these r'
kept_makes these n r b r' (kept_none r₀) makes = makes
kept_makes these n r b r' (kept_more r₀ b₀ u mid h r₁ before unit step) makes = λ is.
    absurd (let z = sym (keeps_then mid r₁ n (events.Came h) step.rule) ∙ is in cc)

-- whatever is seen of a unit
unit_named : (these : Present) (b : Octets) (u : Head) → IsNamingUnit these b → HasHead b u →
    Names these u
unit_named these b u x has = subst (λ (u : Head). Names these u) (one_head b x.0 u x.1 has) x.2

-- ---- a call

record Then (these : Present) (r' : Router) (after tr : Octets) : Type 0 where
  pub makes : MakesThese these r'
  pub reads : IsTalking r' → IsNaming these (after ++ tr)

module _ (these : Present) (r r' : Router) (now : ℕ) (before after tr : Octets)
    (makes : MakesThese these r) (reads : IsTalking r → IsNaming these (before ++ tr))
    (rests : (IsTalking r → ⊥) → before ≡ []) where
  nothing_said : r' ≡ r → after ≡ before → Then these r' after tr
  nothing_said same left = record {
    makes = subst (λ (r : Router). MakesThese these r) (sym same) makes;
    reads = λ t. subst (λ l. IsNaming these (l ++ tr)) (sym left)
        (reads (subst IsTalking same t));
  }

  -- it talked where some bytes were heard
  talked : (n : ℕ) → 0 < n → n ≤ length before → IsTalking r
  talked n some within = go (talks_or_not r)
    where
      go : IsTalking r ⊎ (IsTalking r → ⊥) → IsTalking r
      go (inl t) = t
      go (inr silent) = absurd (some_there n before some within (rests silent))

  kept_said : (size : ℕ) → KeepsAll now r (take size before) r' → after ≡ drop size before →
      Then these r' after tr
  kept_said size kept left = record {
    makes = kept_makes these now r (take size before) r' kept makes;
    reads = λ t.
        let was : IsTalking r =
        same_talk r' r (sym (same_kept now r (take size before) r' kept).0) t in
        let n = reads was in
        let x = keeps_heard now r (take size before) r' n.units (drop size before ++ tr) kept
        (naming_whole these n.units n.names) (n.bytes ∙ front_of size before tr) in
        record {
          units = x.left;
          bytes = x.rest ∙ ap (λ (l : Octets). l ++ tr) (sym left);
          names = naming_left these x.heard x.left (subst (AreNaming these) x.parts n.names);
        };
  }

  acted_said : (start end : ℕ) (a : Action) (acts : Acts r now before start end a r') →
      (IsTalking r' → after ≡ drop end before) → Then these r' after tr
  acted_said start end a acts left =
      let t = talked end (omega (arith, acts.order)) acts.within in
      let u = drop start (take end before) in
      let n = reads t in
      let whole = naming_whole these n.units n.names in
      let x = keeps_heard now r (take start before) acts.before n.units (drop start before ++ tr)
      acts.kept whole (n.bytes ∙ front_of start before tr) in
      let y = next u acts.head x.left (drop end before ++ tr)
      (whole_left x.heard x.left (subst AreWhole x.parts whole)) acts.unit
      (x.rest
      ∙ ap (λ (l : Octets). l ++ tr) (cut_twice start end before acts.order acts.within)
      ∙ append_assoc u (drop end before) tr) in
      let names : AreNaming these (u ∷ y.others) =
      subst (AreNaming these) y.is
      (naming_left these x.heard x.left (subst (AreNaming these) x.parts n.names)) in
      let named = unit_named these u acts.head names.0 acts.unit in
      record {
        makes = makes_next these acts.before r' now (events.Came acts.head) a named
            acts.step.rule (kept_makes these now r (take start before) acts.before acts.kept makes);
        reads = λ t'. record {
          units = y.others;
          bytes = y.rest ∙ ap (λ (l : Octets). l ++ tr) (sym (left t'));
          names = names.1;
        };
      }

  said : (w : Word) (a : Option Action) → IsTold w now r before after a r' →
      (IsOpening w → ⊥) → Then these r' after tr
  said of_nothing a is_told other = nothing_said is_told.1 is_told.2
  said (of_itself e x) a is_told other =
      let left = left_by r r' now e x before after is_told.1
      (λ is. other (subst (λ e. IsOpening (of_itself e x)) (sym is) tt)) is_told.2.rule is_told.3 in
      record {
        makes = makes_next these r r' now e x (no_unit_names these e is_told.1) is_told.2.rule
            makes;
        reads = λ t. subst (λ l. IsNaming these (l ++ tr)) (sym (left.talks t).1)
            (reads (left.talks t).0);
      }
  said (of_bytes ended told.Awaits) a is_told other = nothing_said is_told.1.same is_told.2
  said (of_bytes ended (told.Kept size)) a is_told other =
      kept_said size is_told.1.kept is_told.2
  said (of_bytes ended (told.Acted start end x)) a is_told other =
      let acts = is_told.1 in
      let t = talked end (omega (arith, acts.order)) acts.within in
      let mid : IsTalking acts.before =
      same_talk r acts.before (same_kept now r (take start before) acts.before acts.kept).0 t in
      let left = left_acted r acts.before r' now end acts.head x before after mid acts.other
      acts.step.rule is_told.2 in
      acted_said start end x acts left.talks
  said (of_bytes ended (told.Refused e x)) a is_told other =
      let s = is_told.1 in
      let t = talked (length before) s.some (omega arith) in
      let left = left_ended r r' now _ x before after
      (faulty_ends r r' now _ x t s.step.rule) s.step.rule is_told.2 in
      record {
        makes = makes_next these r r' now _ x tt s.step.rule makes;
        reads = λ t'. subst (λ l. IsNaming these (l ++ tr)) (sym (left.talks t')) (reads t);
      }

  -- a connection is there; nothing is on its way
  opened : (w : Word) (a : Option Action) → IsTold w now r before after a r' → IsOpening w →
      before ≡ [] → Then these r' after []
  opened of_nothing a is_told opening none = absurd opening
  opened (of_bytes ended t) a is_told opening none = absurd opening
  opened (of_itself events.Connected x) a is_told opening none = record {
    makes = makes_next these r r' now events.Connected x tt is_told.2.rule makes;
    reads = λ t. record {
      units = [];
      bytes = ap (λ (l : Octets). l ++ []) (sym (left_none x before after none is_told.3));
      names = tt;
    };
  }
  opened (of_itself events.Tick x) a is_told opening none = absurd opening
  opened (of_itself events.Asked x) a is_told opening none = absurd opening
  opened (of_itself events.Lost x) a is_told opening none = absurd opening
  opened (of_itself (events.Came u) x) a is_told opening none = absurd opening
  opened (of_itself (events.Faulty f) x) a is_told opening none = absurd opening
  opened (of_itself events.Applied x) a is_told opening none = absurd opening
  opened (of_itself (events.NotApplied code) x) a is_told opening none = absurd opening

-- ---- the cache

had_next : (q p : Pair) → Goes q p → IsIn q.had q.present → IsIn p.had p.present
had_next q p (calls _ k input held a x other) i = i
had_next q p (opens _ k input held a new x opening asked) i = i
had_next q p (takes_bytes _ size input piece later talks fits within same piece_is parts) i = i
had_next q p (says _ o l unsent) i = i
had_next q p (moves _ input held fits same) i = i
had_next q p (asks _ n kept input later ended size a after b old is heard fits sent writes) i = i
had_next q p (tells_cache _ n e a after b tells step fits writes) i = i
had_next q p (renews _ e fits) i = inl refl

pub had_present : (p : Pair) → IsRunOfClient p → IsIn p.had p.present
had_present p (pair_begins k input held new e is fits) = inl refl
had_present p (pair_goes_on q _ run goes) = had_next q p goes (had_present q run)

fits_next : (q p : Pair) → Goes q p → ((e : PayloadEdition) → IsIn q.had e → FitsEdition e) →
    (e : PayloadEdition) → IsIn p.had e → FitsEdition e
fits_next q p (calls _ k input held a x other) all = all
fits_next q p (opens _ k input held a new x opening asked) all = all
fits_next q p (takes_bytes _ size input piece later talks fits within same piece_is parts) all = all
fits_next q p (says _ o l unsent) all = all
fits_next q p (moves _ input held fits same) all = all
fits_next q p (asks _ n kept input later ended size a after b old is heard fits sent writes) all =
    all
fits_next q p (tells_cache _ n e a after b tells step fits writes) all = all
fits_next q p (renews _ new fits) all = λ e i. one_more e i
  where
    one_more : (e : PayloadEdition) → IsIn (new ∷ q.had) e → FitsEdition e
    one_more e (inl is) = subst FitsEdition is fits
    one_more e (inr i) = all e i

all_fit : (p : Pair) → IsRunOfClient p → (e : PayloadEdition) → IsIn p.had e → FitsEdition e
all_fit p (pair_begins k input held new first is fits) = λ e i. the_first e i
  where
    the_first : (e : PayloadEdition) → IsIn (first ∷ []) e → FitsEdition e
    the_first e (inl is) = subst FitsEdition is fits
    the_first e (inr i) = absurd i
all_fit p (pair_goes_on q _ run goes) = fits_next q p goes (all_fit q run)

more_naming : (these : Present) (a b c : Octets) → IsNaming these (a ++ b) → IsNaming these c →
    IsNaming these (a ++ (b ++ c))
more_naming these a b c x y = record {
  units = x.units ++ y.units;
  bytes = concat-append x.units y.units ∙ (λ i. x.bytes i ++ y.bytes i) ∙ append_assoc a b c;
  names = naming_more these x.units y.units x.names y.names;
}

-- ---- what holds from then on

pub record Current (before p : Pair) : Type 0 where
  pub run : IsRunOfClient p
  pub had : p.had ≡ before.had
  pub present : p.present ≡ before.present
  pub makes : MakesThese before.present.name p.client.router
  pub reads :
      IsTalking p.client.router
      → IsNaming before.present.name (untold p.client p.input ++ p.to_router)

pub first_current : (p : Pair) → IsRunOfClient p → (IsTalking p.client.router → ⊥) → Current p p
first_current p run silent = record {
  run = run;
  had = refl;
  present = refl;
  makes = λ is. absurd (silent ((λ e. let z = sym is ∙ e in cc), (λ e. let z = sym is ∙ e in cc)));
  reads = λ t. absurd (silent t);
}

longer : (e : PayloadEdition) (had : List PayloadEdition) → e ∷ had ≡ had → ⊥
longer e had is = let n = ap length is in omega (arith, n)

pub next_current : (before q p : Pair) → Goes q p → p.had ≡ q.had → Current before q →
    Current before p
next_current before q p (calls _ k input held a c other) same x =
    let t = said before.present.name q.client.router k.router c.now (untold q.client q.input)
    (untold k input) q.to_router x.makes x.reads (nothing_untold q x.run) c.takes.word a
    c.takes.is_told other in
    record {
      run = pair_goes_on q p x.run (calls q k input held a c other);
      had = x.had;
      present = x.present;
      makes = t.makes;
      reads = t.reads;
    }
next_current before q p (opens _ k input held a new c opening asked) same x =
    let connecting = opens_connecting q k input held a c x.run opening in
    let rests = nothing_untold q x.run in
    let t = opened before.present.name q.client.router k.router c.now (untold q.client q.input)
    (untold k input) q.to_router x.makes x.reads rests c.takes.word a c.takes.is_told opening
    (rests (λ t. t.1 connecting)) in
    record {
      run = pair_goes_on q p x.run (opens q k input held a new c opening asked);
      had = x.had;
      present = x.present;
      makes = t.makes;
      reads = t.reads;
    }
next_current before q p
    (takes_bytes _ size input piece later talks fits within front piece_is parts) same x =
    let k = q.client in
    let before_it = untold k q.input in
    let there = received (k.kept + due_size k.holding) k.filled size q.input input fits.due within
    front ∙ ap (λ (l : Octets). before_it ++ l) piece_is in
    record {
      run = pair_goes_on q p x.run
          (takes_bytes q size input piece later talks fits within front piece_is parts);
      had = x.had;
      present = x.present;
      makes = x.makes;
      reads = λ t. subst (λ l. IsNaming before.present.name l)
          (ap (λ (l : Octets). before_it ++ l) parts ∙ sym (append_assoc before_it piece later)
          ∙ ap (λ (l : Octets). l ++ later) (sym there)) (x.reads t);
    }
next_current before q p (says _ o l unsent) same x = record {
  run = pair_goes_on q p x.run (says q o l unsent);
  had = x.had;
  present = x.present;
  makes = x.makes;
  reads = x.reads;
}
next_current before q p (moves _ input held fits there) same x =
    let k = q.client in
    record {
      run = pair_goes_on q p x.run (moves q input held fits there);
      had = x.had;
      present = x.present;
      makes = x.makes;
      reads = λ t. subst (λ l. IsNaming before.present.name (l ++ q.to_router))
          (ap (drop (k.kept + due_size k.holding)) there.front) (x.reads t);
    }
next_current before q p
    (asks _ n kept input later ended size a after b old is heard fits sent writes) same x =
    let all = all_fit q x.run in
    let here = had_present q x.run in
    let y = written_names q.cache after n old q.present
    (asked.Came heard.head (is_kept kept heard.head.serial)) a b
    (sent_fits q.had q.present old a all sent) (all q.present here) heard.step.rule fits writes in
    record {
      run = pair_goes_on q p x.run
          (asks q n kept input later ended size a after b old is heard fits sent writes);
      had = x.had;
      present = x.present;
      makes = x.makes;
      reads = λ t. more_naming before.present.name (untold q.client q.input) q.to_router b
          (x.reads t) (subst (λ (e : PayloadEdition). IsNaming e.name b) x.present y);
    }
next_current before q p (tells_cache _ n e a after b tells step fits writes) same x =
    let here = all_fit q x.run q.present (had_present q x.run) in
    let y = written_names q.cache after n q.present q.present e a b (λ since is. here) here
    step.rule fits writes in
    record {
      run = pair_goes_on q p x.run (tells_cache q n e a after b tells step fits writes);
      had = x.had;
      present = x.present;
      makes = x.makes;
      reads = λ t. more_naming before.present.name (untold q.client q.input) q.to_router b
          (x.reads t) (subst (λ (e : PayloadEdition). IsNaming e.name b) x.present y);
    }
next_current before q p (renews _ e fits) same x = absurd (longer e q.had same)
