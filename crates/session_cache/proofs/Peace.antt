-- What a cache of ours sends is of the router's version and session, and it answers queries: an
-- invariant over what is on its way.
use Rattle.std.proofs.Common.{◌≡◌, ◌⊎◌, ℕ, Bool, true, false, ◌≤◌, ◌+◌, if◌then◌else◌, ◌==◌, ◌&&◌}
use Rattle.std.proofs.Common.{◌||◌}
use Rattle.std.proofs.Common.{List, [], ◌∷◌, ◌++◌, refl, sym, ap, ◌∙◌, subst}
use Rattle.std.proofs.Common.{inl, inr, append-nil, arith}
use Rattle.session_router.specs.declared.head.Head.{Head}
use Rattle.session_router.specs.declared.head.Query.{Query}
use Rattle.session_router.specs.declared.head.Kind.{Kind}
use Rattle.session_router.specs.declared.head.Kind.TheVariants as kinds
use Rattle.session_router.specs.declared.router.Router.{Router}
use Rattle.session_router.specs.declared.router.Phase.{Phase}
use Rattle.session_router.specs.declared.router.Phase.TheVariants as phases
use Rattle.session_router.specs.declared.event.Event.{Event}
use Rattle.session_router.specs.declared.event.Event.TheVariants as events
use Rattle.session_router.specs.declared.event.Action.{Action}
use Rattle.session_router.specs.declared.event.Action.TheVariants as actions
use Rattle.session_router.specs.Histories.{Host}
use Rattle.session_router.specs.Rules.{Adopts, Asks, Begins, Completes, Fresh}
use Rattle.session_router.specs.Rules.{HasNoData, IsPayloadOf, Keeps, MayAnswer, PassesOver}
use Rattle.session_router.specs.Rules.{Rule, SameKnown, SameTalk, Waits, query}
use Rattle.session_router.specs.Heeding.{HeedsAsked, HeedsReading, HeedsUnit, HeedsWaiting}
use Rattle.session_router.specs.Heeding.{asks_for_all}
use Rattle.session_router.specs.Step.{IsInTime, IsStep}
use Rattle.session_cache.specs.declared.cache.Cache.{Cache}
use Rattle.session_cache.specs.declared.event.Present.{Present}
use Rattle.session_cache.specs.declared.event.CacheEvent.{CacheEvent}
use Rattle.session_cache.specs.declared.event.CacheEvent.TheVariants as told
use Rattle.session_cache.specs.declared.event.Answer.{Answer}
use Rattle.session_cache.specs.declared.event.Answer.TheVariants as answers
use Rattle.std.proofs.lemmas.Bool.Decides.{eqb_tells}
use Rattle.session_cache.specs.CacheRules.{CacheRule, HasVersion, IsAnswerable, IsQuery}
use Rattle.session_cache.specs.CacheSteps.{IsCacheStep}
use Rattle.session_cache.specs.Serving.{ServesUnit}
use Rattle.session_cache.specs.Worlds.{IsAnswering, query_answer, answer_to}
use Rattle.session_cache.specs.Worlds.{AreFrom, Edition, IsOneDataPerName, IsSource}
use Rattle.session_cache.specs.Worlds.{GoesOn, IsListening, IsPeaceful}
use Rattle.session_cache.specs.Worlds.{IsReached, Next, Sent, Source, TellsCache, TellsItself}
use Rattle.session_cache.specs.Worlds.{World}
use Rattle.session_cache.specs.Worlds.{cache_writes, query_head}
use Rattle.session_cache.specs.Worlds.{router_writes}
use Rattle.session_cache.specs.Worlds.Next.{cache_hears, cache_told, connected, renewed}
use Rattle.session_cache.specs.Worlds.Next.{router_hears}
use Rattle.session_cache.specs.Worlds.Next.{router_told}
use Rattle.session_cache.specs.Worlds.IsReachedBy.{world_begins, world_goes_on}
use Rattle.session_cache.proofs.Had.{AreAmong, IsOld, among_next, one_before, present_old}
use Rattle.session_cache.proofs.Had.{source_before}
use Rattle.session_cache.proofs.Speaking.{Coming, InVersion, Left, Notified, Quiet, UnderWay}
use Rattle.session_cache.proofs.Speaking.{answer_comes, coming_after, coming_more, in_version}
use Rattle.session_cache.proofs.Speaking.{left_more, notifies, query_changes, query_serial}
use Rattle.session_cache.proofs.Speaking.{query_session, query_version, quiet_more, same_query}
use Rattle.session_cache.proofs.Agreement.{cons_eq, no_payload}

-- ---- what holds in each phase

pub record TalkAsked (C : Type 0) (r : Router) (c : Cache) (tc : List Head) (tr : List (Sent C))
    : Type 0 where
  pub version : InVersion c r.version
  pub coming : UnderWay C (query r) tc tr

pub record TalkReading (C : Type 0) (r : Router) (c : Cache) (tc : List Head) (tr : List (Sent C))
    : Type 0 where
  pub version : InVersion c r.version
  pub none : tc ≡ []
  pub left : Left C (query r) r.session r.units tr

pub record TalkQuiet (C : Type 0) (r : Router) (c : Cache) (tc : List Head) (tr : List (Sent C))
    : Type 0 where
  pub version : InVersion c r.version
  pub none : tc ≡ []
  pub quiet : Quiet C r.version tr

abbrev pub Talk : (C : Type 0) → Router → Cache → List Head → List (Sent C) → Phase → Type 0
Talk C r c tc tr phases.Offline = Unit {0}
Talk C r c tc tr phases.Connecting = Unit {0}
Talk C r c tc tr phases.Asked = TalkAsked C r c tc tr
Talk C r c tc tr phases.Reading = TalkReading C r c tc tr
Talk C r c tc tr phases.Applying = TalkQuiet C r c tc tr
Talk C r c tc tr phases.Waiting = TalkQuiet C r c tc tr

to_phase : (C : Type 0) (r : Router) (c : Cache) (tc : List Head) (tr : List (Sent C))
    (p : Phase) → r.phase ≡ p → Talk C r c tc tr p → Talk C r c tc tr r.phase
to_phase C r c tc tr p e x = subst (λ p. Talk C r c tc tr p) (sym e) x

pub at_phase : (C : Type 0) (r : Router) (c : Cache) (tc : List Head) (tr : List (Sent C))
    (p : Phase) → r.phase ≡ p → Talk C r c tc tr r.phase → Talk C r c tc tr p
at_phase C r c tc tr p e x = subst (λ p. Talk C r c tc tr p) e x

now_quiet : (C : Type 0) (r r' : Router) (c : Cache) (tc : List Head) (tr : List (Sent C))
    → r'.version ≡ r.version → TalkQuiet C r c tc tr → TalkQuiet C r' c tc tr
now_quiet C r r' c tc tr e x = record {
  version = subst (λ v. InVersion c v) (sym e) x.version;
  none = x.none;
  quiet = subst (λ v. Quiet C v tr) (sym e) x.quiet;
}

reads_on : (C : Type 0) (r r' : Router) (c : Cache) (tc : List Head) (tr : List (Sent C))
    → SameKnown r r' → SameTalk r r' → InVersion c r.version → tc ≡ []
    → Left C (query r) r.session r'.units tr → TalkReading C r' c tc tr
reads_on C r r' c tc tr same talk v none left = record {
  version = subst (λ v. InVersion c v) (sym talk.version) v;
  none = none;
  left = subst (λ (q : Query). Left C q r'.session r'.units tr)
      (sym (same_query r r' same talk.version talk.changes))
      (subst (λ s. Left C (query r) s r'.units tr) (sym talk.session) left);
}

talk_same : (C : Type 0) (e : Event) (r r' : Router) (c : Cache) (tc : List Head)
    (tr : List (Sent C)) (p : Phase) → Waits r e r' → Talk C r c tc tr p → Talk C r' c tc tr p
talk_same C e r r' c tc tr phases.Offline w x = tt
talk_same C e r r' c tc tr phases.Connecting w x = tt
talk_same C e r r' c tc tr phases.Waiting w x = now_quiet C r r' c tc tr w.talk.version x
talk_same C e r r' c tc tr phases.Applying w x = now_quiet C r r' c tc tr w.talk.version x
talk_same C e r r' c tc tr phases.Asked w x = record {
  version = subst (λ v. InVersion c v) (sym w.talk.version) x.version;
  coming = subst (λ (q : Query). UnderWay C q tc tr)
      (sym (same_query r r' w.same w.talk.version w.talk.changes)) x.coming;
}
talk_same C e r r' c tc tr phases.Reading w x =
    reads_on C r r' c tc tr w.same w.talk x.version x.none
    (subst (λ n. Left C (query r) r.session n tr) (sym w.response.units) x.left)

on_wait : (C : Type 0) (e : Event) (r r' : Router) (c : Cache) (tc : List Head)
    (tr : List (Sent C)) → Waits r e r' → Talk C r c tc tr r.phase
    → Talk C r' c (tc ++ []) tr r'.phase
on_wait C e r r' c tc tr w x =
    subst (λ tc. Talk C r' c tc tr r'.phase) (sym (append-nil tc))
    (to_phase C r' c tc tr r.phase w.talk.phase (talk_same C e r r' c tc tr r.phase w x))

-- ---- a unit that is passed over is a notify, or comes when none is awaited

drop_notify : (C : Type 0) (q : Query) (x : Sent C) (xs : List (Sent C))
    → x.head.kind ≡ kinds.SerialNotify → Coming C q (x ∷ xs) → Coming C q xs
drop_notify C q x xs k (inl w) = w.2
drop_notify C q x xs k (inr (inl w)) = let e = w.0.kind in cc
drop_notify C q x xs k (inr (inr (inl w))) = let e = w.0.kind in cc
drop_notify C q x xs k (inr (inr (inr w))) = let e = w.0 in cc

drop_coming : (C : Type 0) (q : Query) (tc : List Head) (x : Sent C) (xs : List (Sent C))
    → x.head.kind ≡ kinds.SerialNotify → UnderWay C q tc (x ∷ xs) → UnderWay C q tc xs
drop_coming C q tc x xs k (inl w) = inl (w.0, w.1.2)
drop_coming C q tc x xs k (inr w) = inr (w.0, drop_notify C q x xs k w.1)

no_notify : (C : Type 0) (q : Query) (s n : ℕ) (x : Sent C) (xs : List (Sent C))
    → x.head.kind ≡ kinds.SerialNotify → Left C q s n (x ∷ xs) → ⊥
no_notify C q s n x xs k (inl w) =
    no_payload q.version x.head.kind kinds.SerialNotify k (λ p. p) w.0.kind
no_notify C q s n x xs k (inr w) = let e = w.0.kind in cc

drop_talk : (C : Type 0) (r : Router) (c : Cache) (tc : List Head) (x : Sent C)
    (xs : List (Sent C)) (p : Phase) → r.phase ≡ p → PassesOver r (events.Came x.head)
    → Talk C r c tc (x ∷ xs) p → Talk C r c tc xs p
drop_talk C r c tc x xs phases.Offline e w t = tt
drop_talk C r c tc x xs phases.Connecting e w t = tt
drop_talk C r c tc x xs phases.Waiting e w t =
    record { version = t.version; none = t.none; quiet = t.quiet.2 }
drop_talk C r c tc x xs phases.Applying e w t =
    record { version = t.version; none = t.none; quiet = t.quiet.2 }
drop_talk C r c tc x xs phases.Asked e (inl w) t = cc
drop_talk C r c tc x xs phases.Asked e (inr (inl w)) t = cc
drop_talk C r c tc x xs phases.Asked e (inr (inr w)) t =
    record { version = t.version; coming = drop_coming C (query r) tc x xs w.1 t.coming }
drop_talk C r c tc x xs phases.Reading e (inl w) t = cc
drop_talk C r c tc x xs phases.Reading e (inr (inl w)) t = cc
drop_talk C r c tc x xs phases.Reading e (inr (inr w)) t =
    absurd (no_notify C (query r) r.session r.units x xs w.1 t.left)

-- ---- the router asks

of_query : (C : Type 0) (r : Router) (tr : List (Sent C)) → Quiet C (query r).version tr
    → Quiet C r.version tr
of_query C r tr w = subst (λ v. Quiet C v tr) (query_version r r.changes refl) w

to_query : (C : Type 0) (r : Router) (tr : List (Sent C)) → Quiet C r.version tr
    → Quiet C (query r).version tr
to_query C r tr w = subst (λ v. Quiet C v tr) (sym (query_version r r.changes refl)) w

on_ask : (C : Type 0) (n : ℕ) (e : Event) (q : Query) (r r' : Router) (c : Cache)
    (tc : List Head) (tr : List (Sent C)) → Asks r n e q r' → InVersion c r.version → tc ≡ []
    → Quiet C r.version tr → Talk C r' c (tc ++ query_head q ∷ []) tr r'.phase
on_ask C n e q r r' c tc tr w version none quiet =
    to_phase C r' c (tc ++ query_head q ∷ []) tr phases.Asked w.phase (record {
      version = subst (λ v. InVersion c v) (sym w.version) version;
      coming = inl (
        ap (λ (t : List Head). t ++ query_head q ∷ []) none
            ∙ ap (λ (q : Query). query_head q ∷ []) w.query,
        to_query C r' tr (subst (λ v. Quiet C v tr) (sym w.version) quiet),
      );
    })

after_reset : (C : Type 0) (r : Router) (c : Cache) (tc : List Head) (x : Sent C)
    (xs : List (Sent C)) → InVersion c r.version → x.head.kind ≡ kinds.CacheReset
    → UnderWay C (query r) tc (x ∷ xs) → TalkQuiet C r c tc xs
after_reset C r c tc x xs i k (inl w) = let e = w.1.0 in cc
after_reset C r c tc x xs i k (inr (t, inl w)) = let e = w.0 in cc
after_reset C r c tc x xs i k (inr (t, inr (inl w))) = let e = w.0.kind in cc
after_reset C r c tc x xs i k (inr (t, inr (inr (inl w)))) =
    record { version = i; none = t; quiet = of_query C r xs w.1 }
after_reset C r c tc x xs i k (inr (t, inr (inr (inr w)))) = let e = w.0 in cc

after_report : (C : Type 0) (r : Router) (c : Cache) (tc : List Head) (x : Sent C)
    (xs : List (Sent C)) → InVersion c r.version → x.head.kind ≡ kinds.ErrorReport
    → UnderWay C (query r) tc (x ∷ xs) → TalkQuiet C r c tc xs
after_report C r c tc x xs i k (inl w) = let e = w.1.0 in cc
after_report C r c tc x xs i k (inr (t, inl w)) = let e = w.0 in cc
after_report C r c tc x xs i k (inr (t, inr (inl w))) = let e = w.0.kind in cc
after_report C r c tc x xs i k (inr (t, inr (inr (inl w)))) = let e = w.0.kind in cc
after_report C r c tc x xs i k (inr (t, inr (inr (inr w)))) =
    record { version = i; none = t; quiet = of_query C r xs w.1 }

-- ---- the router reads

record Begun (C : Type 0) (r : Router) (tc : List Head) (x : Sent C) (xs : List (Sent C))
    : Type 0 where
  none : tc ≡ []
  version : x.head.version ≡ r.version
  left : Left C (query r) x.head.session 0 xs

after_begin : (C : Type 0) (r : Router) (tc : List Head) (x : Sent C) (xs : List (Sent C))
    → x.head.kind ≡ kinds.CacheResponse → UnderWay C (query r) tc (x ∷ xs) → Begun C r tc x xs
after_begin C r tc x xs k (inl w) = let e = w.1.0 in cc
after_begin C r tc x xs k (inr (t, inl w)) = let e = w.0 in cc
after_begin C r tc x xs k (inr (t, inr (inl w))) = record {
  none = t;
  version = w.0.version ∙ query_version r r.changes refl;
  left = w.1;
}
after_begin C r tc x xs k (inr (t, inr (inr (inl w)))) = let e = w.0.kind in cc
after_begin C r tc x xs k (inr (t, inr (inr (inr w)))) = let e = w.0 in cc

on_begin : (C : Type 0) (x : Sent C) (r r' : Router) (c : Cache) (tc : List Head)
    (xs : List (Sent C)) → Begins r x.head r' → Talk C r c tc (x ∷ xs) r.phase
    → Talk C r' c (tc ++ []) xs r'.phase
on_begin C x r r' c tc xs w y =
    let t : TalkAsked C r c tc (x ∷ xs) = at_phase C r c tc (x ∷ xs) phases.Asked w.from y in
    let l : Begun C r tc x xs = after_begin C r tc x xs w.kind t.coming in
    let v : r'.version ≡ r.version = w.version ∙ l.version in
    to_phase C r' c (tc ++ []) xs phases.Reading w.phase (record {
      version = subst (λ v. InVersion c v) (sym v) t.version;
      none = append-nil tc ∙ l.none;
      left = subst (λ (q : Query). Left C q r'.session r'.units xs)
          (sym (same_query r r' w.same v w.changes))
          (subst (λ n. Left C (query r) r'.session n xs) (sym w.units)
          (subst (λ s. Left C (query r) s 0 xs) (sym w.session) l.left));
    })

one_more : (C : Type 0) (q : Query) (s n v : ℕ) (x : Sent C) (xs : List (Sent C))
    → IsPayloadOf v x.head.kind → Left C q s n (x ∷ xs) → Left C q s (n + 1) xs
one_more C q s n v x xs p (inl w) = w.1
one_more C q s n v x xs p (inr w) =
    absurd (no_payload v x.head.kind kinds.EndOfData w.0.kind (λ p. p) p)

on_keep : (C : Type 0) (x : Sent C) (r r' : Router) (c : Cache) (tc : List Head)
    (xs : List (Sent C)) → Keeps r x.head r' → Talk C r c tc (x ∷ xs) r.phase
    → Talk C r' c (tc ++ []) xs r'.phase
on_keep C x r r' c tc xs w y =
    let t : TalkReading C r c tc (x ∷ xs) = at_phase C r c tc (x ∷ xs) phases.Reading w.phase y in
    let l : Left C (query r) r.session r'.units xs =
    subst (λ n. Left C (query r) r.session n xs) (sym w.units)
    (one_more C (query r) r.session r.units r.version x xs w.kind t.left) in
    subst (λ tc. Talk C r' c tc xs r'.phase) (sym (append-nil tc))
    (to_phase C r' c tc xs phases.Reading (w.talk.phase ∙ w.phase)
    (reads_on C r r' c tc xs w.same w.talk t.version t.none l))

the_end : (C : Type 0) (q : Query) (s n : ℕ) (x : Sent C) (xs : List (Sent C))
    → x.head.kind ≡ kinds.EndOfData → Left C q s n (x ∷ xs) → Quiet C q.version xs
the_end C q s n x xs k (inl w) =
    absurd (no_payload q.version x.head.kind kinds.EndOfData k (λ p. p) w.0.kind)
the_end C q s n x xs k (inr w) = w.1

now_rests : (C : Type 0) (r r' : Router) (c : Cache) (tc : List Head) (tr : List (Sent C))
    → r'.version ≡ r.version → TalkQuiet C r c tc tr → TalkQuiet C r' c (tc ++ []) tr
now_rests C r r' c tc tr e x =
    subst (λ tc. TalkQuiet C r' c tc tr) (sym (append-nil tc)) (now_quiet C r r' c tc tr e x)

on_apply : (C : Type 0) (n : ℕ) (x : Sent C) (on : Bool) (r r' : Router) (c : Cache)
    (tc : List Head)
    (xs : List (Sent C)) → Completes r n x.head on r' → Talk C r c tc (x ∷ xs) r.phase
    → Talk C r' c (tc ++ []) xs r'.phase
on_apply C n x on r r' c tc xs w y =
    let t : TalkReading C r c tc (x ∷ xs) = at_phase C r c tc (x ∷ xs) phases.Reading w.from y in
    to_phase C r' c (tc ++ []) xs phases.Applying w.phase
    (now_rests C r r' c tc xs w.same_version (record {
      version = t.version;
      none = t.none;
      quiet = of_query C r xs (the_end C (query r) r.session r.units x xs w.kind t.left);
    }))

on_show : (C : Type 0) (n : ℕ) (r r' : Router) (c : Cache) (tc : List Head) (tr : List (Sent C))
    → Adopts r n r' → Talk C r c tc tr r.phase → Talk C r' c (tc ++ []) tr r'.phase
on_show C n r r' c tc tr w y =
    to_phase C r' c (tc ++ []) tr phases.Waiting w.phase
    (now_rests C r r' c tc tr w.same_version (at_phase C r c tc tr phases.Applying w.from y))

no_left : (C : Type 0) (q : Query) (s n : ℕ) (x : Sent C) (xs : List (Sent C))
    → x.head.kind ≡ kinds.ErrorReport → Left C q s n (x ∷ xs) → ⊥
no_left C q s n x xs k (inl w) =
    no_payload q.version x.head.kind kinds.ErrorReport k (λ p. p) w.0.kind
no_left C q s n x xs k (inr w) = let e = w.0.kind in cc

on_none : (C : Type 0) (x : Sent C) (r r' : Router) (c : Cache) (tc : List Head)
    (xs : List (Sent C)) → HasNoData r x.head r' → Talk C r c tc (x ∷ xs) r.phase
    → Talk C r' c (tc ++ []) xs r'.phase
on_none C x r r' c tc xs w y =
    to_phase C r' c (tc ++ []) xs phases.Waiting w.phase
    (now_rests C r r' c tc xs w.same_version (go w.from))
  where
    go : (r.phase ≡ phases.Asked) ⊎ (r.phase ≡ phases.Reading) → TalkQuiet C r c tc xs
    go (inl p) =
        let t : TalkAsked C r c tc (x ∷ xs) = at_phase C r c tc (x ∷ xs) phases.Asked p y in
        after_report C r c tc x xs t.version w.kind t.coming
    go (inr p) =
        let t : TalkReading C r c tc (x ∷ xs) = at_phase C r c tc (x ∷ xs) phases.Reading p y in
        absurd (no_left C (query r) r.session r.units x xs w.kind t.left)

-- ---- one step

on_tells : (D C : Type 0) (n : ℕ) (e : Event) (a : Action) (r r' : Router) (h : Host (List C) D)
    (c : Cache) (tc : List Head) (tr : List (Sent C)) → TellsItself D C h e → Rule r n e a r'
    → Talk C r c tc tr r.phase → Talk C r' c (tc ++ router_writes a) tr r'.phase
on_tells D C n e actions.Wait r r' h c tc tr i w y = on_wait C e r r' c tc tr w y
on_tells D C n e (actions.End x) r r' h c tc tr i w y =
    to_phase C r' c (tc ++ []) tr phases.Offline w.phase tt
on_tells D C n e actions.Drop r r' h c tc tr i w y =
    to_phase C r' c (tc ++ []) tr phases.Offline w.phase tt
on_tells D C n events.Tick actions.Connect r r' h c tc tr i w y =
    to_phase C r' c (tc ++ []) tr phases.Connecting w.phase tt
on_tells D C n events.Tick (actions.Ask q) r r' h c tc tr i w y =
    let t : TalkQuiet C r c tc tr = at_phase C r c tc tr phases.Waiting w.may.0 y in
    on_ask C n events.Tick q r r' c tc tr w t.version t.none t.quiet
on_tells D C n events.Lost (actions.Ask q) r r' h c tc tr i w y = absurd w.may
on_tells D C n events.Asked (actions.Ask q) r r' h c tc tr i w y = absurd w.may
on_tells D C n (events.Faulty f) (actions.Ask q) r r' h c tc tr i w y = absurd w.may
on_tells D C n events.Applied (actions.Ask q) r r' h c tc tr i w y = absurd w.may
on_tells D C n (events.NotApplied code) (actions.Ask q) r r' h c tc tr i w y = absurd w.may
on_tells D C n events.Applied actions.Show r r' h c tc tr i w y = on_show C n r r' c tc tr w y
on_tells D C n (events.Came u) _ r r' h c tc tr i w y = absurd i
on_tells D C n events.Connected _ r r' h c tc tr i w y = absurd i
on_tells D C n _ _ r r' h c tc tr i w y = absurd w

on_hears : (C : Type 0) (n : ℕ) (x : Sent C) (a : Action) (r r' : Router) (c : Cache)
    (tc : List Head) (xs : List (Sent C)) → Rule r n (events.Came x.head) a r'
    → Talk C r c tc (x ∷ xs) r.phase → Talk C r' c (tc ++ router_writes a) xs r'.phase
on_hears C n x actions.Wait r r' c tc xs w y =
    on_wait C (events.Came x.head) r r' c tc xs w (drop_talk C r c tc x xs r.phase refl w.passes y)
on_hears C n x (actions.End z) r r' c tc xs w y =
    to_phase C r' c (tc ++ []) xs phases.Offline w.phase tt
on_hears C n x actions.Drop r r' c tc xs w y =
    to_phase C r' c (tc ++ []) xs phases.Offline w.phase tt
on_hears C n x (actions.Ask q) r r' c tc xs w y =
    let t : TalkAsked C r c tc (x ∷ xs) = at_phase C r c tc (x ∷ xs) phases.Asked w.may.0 y in
    let z : TalkQuiet C r c tc xs = after_reset C r c tc x xs t.version w.may.2 t.coming in
    on_ask C n (events.Came x.head) q r r' c tc xs w z.version z.none z.quiet
on_hears C n x actions.Begin r r' c tc xs w y = on_begin C x r r' c tc xs w y
on_hears C n x actions.Keep r r' c tc xs w y = on_keep C x r r' c tc xs w y
on_hears C n x (actions.Apply b) r r' c tc xs w y = on_apply C n x b r r' c tc xs w y
on_hears C n x actions.NoData r r' c tc xs w y = on_none C x r r' c tc xs w y
on_hears C n x actions.Connect r r' c tc xs w y = absurd w
on_hears C n x actions.Show r r' c tc xs w y = absurd w

not_asked : (c : Cache) (v : ℕ) → c.asked ≡ false → InVersion c v
not_asked c v e o f = cc

on_connects : (C : Type 0) (n : ℕ) (a : Action) (r r' : Router) (c : Cache)
    → r.phase ≡ phases.Connecting → c.asked ≡ false → Rule r n events.Connected a r'
    → Talk C r' c (router_writes a) [] r'.phase
on_connects C n actions.Wait r r' c p e w = absurd (w.passes p)
on_connects C n (actions.End x) r r' c p e w = to_phase C r' c [] [] phases.Offline w.phase tt
on_connects C n actions.Drop r r' c p e w = to_phase C r' c [] [] phases.Offline w.phase tt
on_connects C n (actions.Ask q) r r' c p e w =
    on_ask C n events.Connected q r r' c [] [] w (not_asked c r.version e) refl tt
on_connects C n actions.Connect r r' c p e w = absurd w
on_connects C n actions.Begin r r' c p e w = absurd w
on_connects C n actions.Keep r r' c p e w = absurd w
on_connects C n (actions.Apply z) r r' c p e w = absurd w
on_connects C n actions.Show r r' c p e w = absurd w
on_connects C n actions.NoData r r' c p e w = absurd w

no_more : (u : Head) (us tc : List Head) → tc ≡ u ∷ us → tc ≡ [] → ⊥
no_more u us tc e f = cc

answered : (D C : Type 0) (S : Source D C) (had : List (Edition D)) (I : IsSource D C S had)
    (one : IsOneDataPerName had) (c c' : Cache) (n m : ℕ) (old p : Edition D) (u : Head)
    (kept : Bool) (a : Answer) (us : List Head) (r : Router) (tc : List Head)
    (tr : List (Sent C)) → IsOld had p → CacheRule c n p.name (told.Came u kept) a c'
    → AreFrom had p a old → tc ≡ u ∷ us
    → InVersion c r.version → UnderWay C (query r) tc tr
    → TalkAsked C r c' us (tr ++ cache_writes D C S c'.version m old p a)
answered D C S had I one c c' n m old p u kept a us r tc tr was w from e i (inr x) =
    absurd (no_more u us tc e x.0)
answered D C S had I one c c' n m old p u kept a us r tc tr was w from e i (inl x) =
    let two : (query_head (query r) ≡ u) × (us ≡ []) = cons_eq (query r) u us (sym x.0 ∙ e) in
    let w' : CacheRule c n p.name (told.Came (query_head (query r)) kept) a c' =
    subst (λ (u : Head). CacheRule c n p.name (told.Came u kept) a c') (sym two.0) w in
    let v : (query r).version ≡ r.version = query_version r r.changes refl in
    record {
      version = subst (λ v. InVersion c' v) v
          (in_version c c' n p.name (query r) kept a (subst (λ v. InVersion c v) (sym v) i) w');
      coming = inr (
        two.1,
        coming_after C (query r) tr (cache_writes D C S c'.version m old p a) x.1
            (answer_comes D C S had I one c c' n m old p (query r) kept a was w' from),
      );
    }

on_answer : (D C : Type 0) (S : Source D C) (had : List (Edition D)) (I : IsSource D C S had)
    (one : IsOneDataPerName had) (c c' : Cache) (n m : ℕ) (old p : Edition D) (u : Head)
    (kept : Bool) (a : Answer) (us : List Head) (r : Router) (tc : List Head)
    (tr : List (Sent C)) (f : Phase) → IsOld had p
    → CacheRule c n p.name (told.Came u kept) a c' → AreFrom had p a old → tc ≡ u ∷ us
    → Talk C r c tc tr f → Talk C r c' us (tr ++ cache_writes D C S c'.version m old p a) f
on_answer D C S had I one c c' n m old p u kept a us r tc tr phases.Offline was w from e x = tt
on_answer D C S had I one c c' n m old p u kept a us r tc tr phases.Connecting was w from e x = tt
on_answer D C S had I one c c' n m old p u kept a us r tc tr phases.Asked was w from e x =
    answered D C S had I one c c' n m old p u kept a us r tc tr was w from e x.version x.coming
on_answer D C S had I one c c' n m old p u kept a us r tc tr phases.Reading was w from e x =
    absurd (no_more u us tc e x.none)
on_answer D C S had I one c c' n m old p u kept a us r tc tr phases.Applying was w from e x =
    absurd (no_more u us tc e x.none)
on_answer D C S had I one c c' n m old p u kept a us r tc tr phases.Waiting was w from e x =
    absurd (no_more u us tc e x.none)

more_coming : (C : Type 0) (q : Query) (tc : List Head) (tr ys : List (Sent C))
    → Quiet C q.version ys → UnderWay C q tc tr → UnderWay C q tc (tr ++ ys)
more_coming C q tc tr ys w (inl x) = inl (x.0, quiet_more C q.version tr ys x.1 w)
more_coming C q tc tr ys w (inr x) = inr (x.0, coming_more C q tr ys x.1 w)

still_quiet : (D C : Type 0) (S : Source D C) (c c' : Cache) (n m : ℕ) (old p : Edition D)
    (e : CacheEvent) (a : Answer) (r : Router) (tc : List Head) (tr : List (Sent C))
    → TellsCache e → CacheRule c n p.name e a c' → TalkQuiet C r c tc tr
    → TalkQuiet C r c' tc (tr ++ cache_writes D C S c'.version m old p a)
still_quiet D C S c c' n m old p e a r tc tr t w x =
    let ys : List (Sent C) = cache_writes D C S c'.version m old p a in
    let y : Notified D C S c' m old p a r.version =
    notifies D C S c c' n m old p e a r.version t x.version w in
    record {
      version = y.version;
      none = x.none;
      quiet = quiet_more C r.version tr ys x.quiet y.quiet;
    }

on_notify : (D C : Type 0) (S : Source D C) (c c' : Cache) (n m : ℕ) (old p : Edition D)
    (e : CacheEvent) (a : Answer) (r : Router) (tc : List Head) (tr : List (Sent C)) (f : Phase)
    → TellsCache e → CacheRule c n p.name e a c' → Talk C r c tc tr f
    → Talk C r c' tc (tr ++ cache_writes D C S c'.version m old p a) f
on_notify D C S c c' n m old p e a r tc tr phases.Offline t w x = tt
on_notify D C S c c' n m old p e a r tc tr phases.Connecting t w x = tt
on_notify D C S c c' n m old p e a r tc tr phases.Asked t w x =
    let ys : List (Sent C) = cache_writes D C S c'.version m old p a in
    let y : Notified D C S c' m old p a r.version =
    notifies D C S c c' n m old p e a r.version t x.version w in
    record {
      version = y.version;
      coming = more_coming C (query r) tc tr ys (to_query C r ys y.quiet) x.coming;
    }
on_notify D C S c c' n m old p e a r tc tr phases.Reading t w x =
    let ys : List (Sent C) = cache_writes D C S c'.version m old p a in
    let y : Notified D C S c' m old p a r.version =
    notifies D C S c c' n m old p e a r.version t x.version w in
    record {
      version = y.version;
      none = x.none;
      left = left_more C (query r) r.session r.units tr ys x.left (to_query C r ys y.quiet);
    }
on_notify D C S c c' n m old p e a r tc tr phases.Applying t w x =
    still_quiet D C S c c' n m old p e a r tc tr t w x
on_notify D C S c c' n m old p e a r tc tr phases.Waiting t w x =
    still_quiet D C S c c' n m old p e a r tc tr t w x

-- ---- whole runs

abbrev InPeace : (D C : Type 0) → World D C → Type 0
InPeace D C w = Talk C w.router w.cache w.to_cache w.to_router w.router.phase

next : (D C : Type 0) (S : Source D C) (w w' : World D C) (I : IsSource D C S w.had)
    (one : IsOneDataPerName w.had) → IsOld w.had w.present → Next D C S Rule CacheRule w w'
    → InPeace D C w → InPeace D C w'
next D C S w w' I one was (router_told w₀ n e a r itself step) y =
    on_tells D C n e a w₀.router r w₀.host w₀.cache w₀.to_cache w₀.to_router itself step y
next D C S w w' I one was (connected w₀ n a r c phase anew step) y =
    on_connects C n a w₀.router r c phase anew step
next D C S w w' I one was (router_hears w₀ n x xs a r is step) y =
    on_hears C n x a w₀.router r w₀.cache w₀.to_cache xs step
    (subst (λ tr. Talk C w₀.router w₀.cache w₀.to_cache tr w₀.router.phase) is y)
next D C S w w' I one was (cache_hears w₀ n m u us kept a c old is step from) y =
    on_answer D C S w₀.had I one w₀.cache c n m old w₀.present u kept a us w₀.router w₀.to_cache
    w₀.to_router w₀.router.phase was step from is y
next D C S w w' I one was (cache_told w₀ n m e a c tells step) y =
    on_notify D C S w₀.cache c n m w₀.present w₀.present e a w₀.router w₀.to_cache w₀.to_router
    w₀.router.phase tells step y
next D C S w w' I one was (renewed w₀ p) y = y

pub in_peace : (D C : Type 0) (S : Source D C) (w : World D C) → IsSource D C S w.had
    → IsOneDataPerName w.had → IsReached D C S w → InPeace D C w
in_peace D C S w I one (world_begins r c p phase none) =
    to_phase C r c [] [] phases.Offline phase tt
in_peace D C S w I one (world_goes_on w₀ w₁ run step) =
    let among : AreAmong w₀.had w₁.had = among_next D C S Rule CacheRule w₀ w₁ step in
    let I₀ : IsSource D C S w₀.had = source_before D C S w₀.had w₁.had among I in
    let one₀ : IsOneDataPerName w₀.had = one_before w₀.had w₁.had among one in
    next D C S w₀ w₁ I₀ one₀ (present_old D C S Rule CacheRule w₀ run) step
    (in_peace D C S w₀ I₀ one₀ run)

-- ---- what the router does with it

goes_on : (a b : Action) → a ≡ b → GoesOn b → GoesOn a
goes_on a b e x = subst (λ (a : Action). GoesOn a) (sym e) x

same_most : (a b : ℕ) → a ≡ b → a ≤ b
same_most a b e = omega arith

may_answer : (r : Router) (u : Head) → u.version ≡ r.version → MayAnswer r u
may_answer r u e =
    record { most = same_most u.version r.version e; agreed = λ f. e; changes = λ f. e }

heard_asked : (C : Type 0) (r : Router) (tc : List Head) (x : Sent C) (xs : List (Sent C))
    (a : Action) → IsPeaceful r x.head → HeedsAsked r x.head a
    → UnderWay C (query r) tc (x ∷ xs) → GoesOn a
heard_asked C r tc x xs a y h (inl w) =
    goes_on a actions.Wait
    (h.notes w.1.0 (w.1.1 ∙ query_version r r.changes refl)) tt
heard_asked C r tc x xs a y h (inr (t, inl w)) =
    goes_on a actions.Wait (h.notes w.0 (w.1 ∙ query_version r r.changes refl)) tt
heard_asked C r tc x xs a y h (inr (t, inr (inl w))) =
    let v : x.head.version ≡ r.version = w.0.version ∙ query_version r r.changes refl in
    goes_on a actions.Begin (h.begins w.0.kind (may_answer r x.head v)
    (λ s. w.0.session (query_changes r r.changes refl ∙ s) ∙ query_session r s)) tt
heard_asked C r tc x xs a y h (inr (t, inr (inr (inl w)))) =
    goes_on a (asks_for_all r)
    (h.resets w.0.kind (w.0.version ∙ query_version r r.changes refl)
    (sym (query_changes r r.changes refl) ∙ w.0.changes)) tt
heard_asked C r tc x xs a y h (inr (t, inr (inr (inr w)))) =
    let z : (x.head.code.0 ≡ 2) × (x.head.version ≡ r.version) = y.report w.0 in
    goes_on a actions.NoData (h.has_none w.0 z.1 z.0) tt

heard_reading : (C : Type 0) (r : Router) (x : Sent C) (xs : List (Sent C)) (a : Action)
    → IsPeaceful r x.head → HeedsReading r x.head a
    → Left C (query r) r.session r.units (x ∷ xs) → GoesOn a
heard_reading C r x xs a y h (inl w) =
    let v : (query r).version ≡ r.version = query_version r r.changes refl in
    let k : IsPayloadOf r.version x.head.kind =
    subst (λ v. IsPayloadOf v x.head.kind) v w.0.kind in
    goes_on a actions.Keep (h.keeps k (w.0.version ∙ v) (y.room k)) tt
heard_reading C r x xs a y h (inr w) =
    let v : (query r).version ≡ r.version = query_version r r.changes refl in
    goes_on a (actions.Apply r.changes)
    (h.applies (record { kind = w.0.kind; version = w.0.version ∙ v; session = w.0.session })
    (y.order w.0.kind)
    (λ s e. w.0.fresh (query_changes r r.changes refl ∙ s) (e ∙ sym (query_serial r s)))) tt

heard : (C : Type 0) (r : Router) (n : ℕ) (c : Cache) (tc : List Head) (x : Sent C)
    (xs : List (Sent C)) (a : Action) (r' : Router) (f : Phase) → r.phase ≡ f → IsListening f
    → IsPeaceful r x.head → HeedsUnit r n x.head a r' → Talk C r c tc (x ∷ xs) f → GoesOn a
heard C r n c tc x xs a r' phases.Offline p l y h t = absurd l
heard C r n c tc x xs a r' phases.Connecting p l y h t = absurd l
heard C r n c tc x xs a r' phases.Applying p l y h t = absurd l
heard C r n c tc x xs a r' phases.Asked p l y h t =
    heard_asked C r tc x xs a y (h.asked p) t.coming
heard C r n c tc x xs a r' phases.Reading p l y h t =
    heard_reading C r x xs a y (h.reading p) t.left
heard C r n c tc x xs a r' phases.Waiting p l y h t =
    let z : HeedsWaiting r n x.head a r' = h.waiting p in
    goes_on a actions.Wait (z.notified (record {
      kind = t.quiet.0;
      version = t.quiet.1;
      session = y.session p t.quiet.0;
    })) tt

pub peace : (D C : Type 0) (S : Source D C) (w : World D C) → IsSource D C S w.had
    → IsOneDataPerName w.had → (x : Sent C) (xs : List (Sent C))
    (n : ℕ) (a : Action) (r' : Router) → IsReached D C S w → w.to_router ≡ x ∷ xs
    → IsListening w.router.phase → Fresh w.router n → IsInTime w.router n
    → IsPeaceful w.router x.head → IsStep w.router n (events.Came x.head) a r' → GoesOn a
peace D C S w I one x xs n a r' run is l fresh soon y step =
    heard C w.router n w.cache w.to_cache x xs a r' w.router.phase refl l y
    (step.heeds fresh soon)
    (subst (λ tr. Talk C w.router w.cache w.to_cache tr w.router.phase) is
    (in_peace D C S w I one run))

-- ---- what the cache does with a query

told_since : (s s' n n' : ℕ) (kept : Bool) (A : Type 0) (a x y : A)
    → (s ≡ s' → (kept ≡ true) ⊎ (n ≡ n') → a ≡ x)
    → ((s ≡ s' → ⊥) ⊎ ((kept ≡ false) × (n ≡ n' → ⊥)) → a ≡ y)
    → a ≡ (if (s == s') && (kept || (n == n')) then x else y)
told_since s s' n n' kept A a x y f g = go kept refl (eqb_tells s s') (eqb_tells n n')
  where
    go : (k : Bool) → kept ≡ k
        → (((s == s') ≡ true) × (s ≡ s')) ⊎ (((s == s') ≡ false) × (s ≡ s' → ⊥))
        → (((n == n') ≡ true) × (n ≡ n')) ⊎ (((n == n') ≡ false) × (n ≡ n' → ⊥))
        → a ≡ (if (s == s') && (kept || (n == n')) then x else y)
    go k e (inr d) w =
        g (inl d.1)
        ∙ sym (ap (λ (t : Bool). if t && (kept || (n == n')) then x else y) d.0)
    go true e (inl d) w =
        f d.1 (inl e)
        ∙ sym (λ i. if (d.0 i) && ((e i) || (n == n')) then x else y)
    go false e (inl d) (inl w) =
        f d.1 (inr w.1)
        ∙ sym (λ i. if (d.0 i) && ((e i) || (w.0 i)) then x else y)
    go false e (inl d) (inr w) =
        g (inr (e, w.1))
        ∙ sym (λ i. if (d.0 i) && ((e i) || (w.0 i)) then x else y)

-- a query of either kind, with or without data
query_answered : (c : Cache) (n : ℕ) (p : Present) (u : Head) (kept : Bool) (a : Answer)
    (has changes : Bool) → p.has ≡ has
    → u.kind ≡ (if changes then kinds.SerialQuery else kinds.ResetQuery) → HasVersion c u
    → IsAnswering c n p → ServesUnit c p u kept a
    → a ≡ (if has
    then query_answer p u kept (if changes then kinds.SerialQuery else kinds.ResetQuery)
    else answers.NoData)
query_answered c n p u kept a false false e k v i h =
    h.none (subst (λ (k : Kind). IsQuery k) (sym k) tt) v e
query_answered c n p u kept a false true e k v i h =
    h.none (subst (λ (k : Kind). IsQuery k) (sym k) tt) v e
query_answered c n p u kept a true false e k v i h =
    h.all (record { kind = k; version = v; has = e; session = i.session e })
query_answered c n p u kept a true true e k v i h =
    let q : IsAnswerable c p u kinds.SerialQuery =
    record { kind = k; version = v; has = e; session = i.session e } in
    told_since u.session p.session u.serial p.serial kept Answer a (answers.Changes u.serial)
    answers.Reset (λ s t. h.changes q (record { session = s; serial = t }))
    (λ x. h.resets q x i.resets)

pub queries_answered : (D C : Type 0) (S : Source D C) (w : World D C) → IsSource D C S w.had
    → IsOneDataPerName w.had → (u : Head) (us : List Head) (kept : Bool) (n : ℕ) (a : Answer)
    (c' : Cache)
    → IsReached D C S w → w.to_cache ≡ u ∷ us → w.router.phase ≡ phases.Asked
    → w.router.version ≤ 2 → IsAnswering w.cache n w.present.name
    → IsCacheStep w.cache n w.present.name (told.Came u kept) a c'
    → a ≡ answer_to w.present.name u kept
queries_answered D C S w I one u us kept n a c' run is p most i step = go t.coming
  where
    t : TalkAsked C w.router w.cache w.to_cache w.to_router
    t = at_phase C w.router w.cache w.to_cache w.to_router phases.Asked p
        (in_peace D C S w I one run)

    version : (query w.router).version ≡ w.router.version
    version = query_version w.router w.router.changes refl

    go : UnderWay C (query w.router) w.to_cache w.to_router → a ≡ answer_to w.present.name u kept
    go (inr x) = absurd (no_more u us w.to_cache is x.0)
    go (inl x) =
        let two : (query_head (query w.router) ≡ u) × (us ≡ []) =
        cons_eq (query w.router) u us (sym x.0 ∙ is) in
        let v : u.version ≡ w.router.version =
        ap (λ (u : Head). u.version) (sym two.0) ∙ version in
        let kind : u.kind
        ≡ (if (query w.router).changes then kinds.SerialQuery else kinds.ResetQuery) =
        ap (λ (u : Head). u.kind) (sym two.0) in
        query_answered w.cache n w.present.name u kept a w.present.name.has (query w.router).changes
        refl kind
        (record {
          most = subst (λ v. v ≤ 2) (sym v) most;
          same = λ asked. v ∙ sym (t.version i.live asked);
        })
        i (step.serves i.live i.in_time)
        ∙ sym (ap
        (λ (k : Kind). if w.present.name.has then query_answer w.present.name u kept k else
        answers.NoData) kind)

-- a unit that comes to the cache meanwhile is a query
pub query_comes : (D C : Type 0) (S : Source D C) (w : World D C) → IsSource D C S w.had
    → IsOneDataPerName w.had → (u : Head) (us : List Head) → IsReached D C S w
    → w.to_cache ≡ u ∷ us → w.router.phase ≡ phases.Asked → IsQuery u.kind
query_comes D C S w I one u us run is p = go t.coming
  where
    t : TalkAsked C w.router w.cache w.to_cache w.to_router
    t = at_phase C w.router w.cache w.to_cache w.to_router phases.Asked p
        (in_peace D C S w I one run)

    either : (b : Bool) → IsQuery (if b then kinds.SerialQuery else kinds.ResetQuery)
    either true = tt
    either false = tt

    go : UnderWay C (query w.router) w.to_cache w.to_router → IsQuery u.kind
    go (inr x) = absurd (no_more u us w.to_cache is x.0)
    go (inl x) =
        subst (λ (u : Head). IsQuery u.kind) (cons_eq (query w.router) u us (sym x.0 ∙ is)).0
        (either (query w.router).changes)
