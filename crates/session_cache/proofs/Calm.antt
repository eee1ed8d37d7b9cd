-- After the last disturbance a router has the present data of a cache of ours by a time that is
-- named.
use Rattle.std.proofs.Common.{◌≡◌, ◌≢◌, ◌⊎◌, ℕ, Bool, true, false, ◌≤◌, map}
use Rattle.std.proofs.Common.{Option, Some, None, List, [], ◌∷◌, ◌++◌, refl, sym, ap, ◌∙◌, subst}
use Rattle.std.proofs.Common.{inl, inr}
use Rattle.std.specs.declared.cmp.Ordering.TheVariants.{Less}
use Rattle.rtr_base.specs.Serial.{serial_cmp}
use Rattle.session_router.specs.declared.head.Head.{Head}
use Rattle.session_router.specs.declared.head.Kind.TheVariants as kinds
use Rattle.session_router.specs.declared.head.Known.{Known}
use Rattle.session_router.specs.declared.router.Router.{Router}
use Rattle.session_router.specs.declared.router.Phase.{Phase}
use Rattle.session_router.specs.declared.router.Phase.TheVariants as phases
use Rattle.session_router.specs.declared.event.Action.{Action}
use Rattle.session_router.specs.declared.event.Action.TheVariants as actions
use Rattle.session_router.specs.declared.event.Event.{Event}
use Rattle.session_router.specs.declared.event.Event.TheVariants as events
use Rattle.session_router.specs.Recovery.{served_until}
use Rattle.session_router.proofs.Served.{AnswersWell, GoesOnWell, IsAboveFloor, IsServed}
use Rattle.session_router.proofs.Served.{IsServedBy}
use Rattle.session_router.proofs.Served.AnswersWell.{not_yet, notifies as notifies_well}
use Rattle.session_router.proofs.Served.AnswersWell.{resets_well}
use Rattle.session_router.proofs.Served.AnswersWell.{responds, wished}
use Rattle.session_router.proofs.Served.GoesOnWell.{ends_data, not_more_yet, sends_payload}
use Rattle.session_router.proofs.Served.GoesOnWell.{wished_inside}
use Rattle.session_router.proofs.Served.IsMadeWell.{are_made, not_made_yet, wished_meanwhile}
use Rattle.session_router.proofs.Served.LeavesWell.{not_asked_yet, notifies_then, wished_then}
use Rattle.session_router.proofs.Served.IsServed.{served_from, served_on}
use Rattle.session_router.specs.Pace.{Paces}
use Rattle.session_router.specs.Histories.{Host}
use Rattle.session_router.specs.Rules.{AsksOwn, Drops, IsPayloadOf, Rule, query}
use Rattle.session_router.specs.Step.{IsStep}
use Rattle.session_router.proofs.Connections.{Holds}
use Rattle.session_router.proofs.Serving.{recovers}
use Rattle.session_router.proofs.Versions.{Stands}
use Rattle.session_cache.specs.declared.cache.Cache.{Cache}
use Rattle.session_cache.specs.declared.event.Answer.{Answer}
use Rattle.session_cache.specs.declared.event.Answer.TheVariants as answers
use Rattle.session_cache.specs.declared.event.CacheEvent.TheVariants as told
use Rattle.session_cache.specs.declared.event.Present.{Present}
use Rattle.session_cache.specs.CacheRules.{CacheRule}
use Rattle.session_cache.specs.CacheSteps.{IsCacheStep}
use Rattle.session_cache.specs.Calm.{AreNotifies, HasRoomFor, IsAtRest, IsCalm, ShowsPresent}
use Rattle.session_cache.specs.Calm.{MayBeginCalm, StaysOpen, TellsCalmly}
use Rattle.session_cache.specs.Calm.MayBeginCalm.{asked_then, connecting_then, offline_then}
use Rattle.session_cache.specs.Calm.MayBeginCalm.{waiting_then}
use Rattle.session_cache.specs.Calm.IsCalm.{calm_cache_hears, calm_cache_told, calm_connected}
use Rattle.session_cache.specs.Calm.IsCalm.{calm_from, calm_hears, calm_told}
use Rattle.session_cache.specs.Worlds.{Agrees, Edition, IsListening, IsLived, IsOneDataPerName}
use Rattle.session_cache.specs.Worlds.{IsReached, IsSource, Next, Sent, WasHad}
use Rattle.session_cache.proofs.Runs.{by_rules}
use Rattle.session_cache.specs.Worlds.{Source, TellsItself, World, cache_writes, change_unit}
use Rattle.session_cache.specs.Worlds.{data_end, response}
use Rattle.session_cache.specs.Worlds.Next.{cache_hears, cache_told, connected, renewed}
use Rattle.session_cache.specs.Worlds.Next.{router_hears}
use Rattle.session_cache.specs.Worlds.Next.{router_told}
use Rattle.session_cache.specs.Worlds.IsReachedBy.{world_begins, world_goes_on}
use Rattle.session_cache.proofs.Agreement.{agreement, asks_own_then}
use Rattle.session_cache.proofs.Answering.{Quiet, quiet_more}
use Rattle.session_cache.proofs.Had.{present_old}
use Rattle.session_cache.proofs.Peace.{Talk, in_peace}
use Rattle.session_cache.proofs.Speaking.{Left, UnderWay, query_changes, query_serial}
use Rattle.session_cache.proofs.Speaking.{query_session, query_version}
use Rattle.session_cache.proofs.Speaking.{Quiet as QuietIn}

-- ---- what is on its way is of the present data

record IsLast (p : Present) (u : Head) : Type 0 where
  kind : u.kind ≡ kinds.EndOfData
  session : u.session ≡ p.session
  serial : u.serial ≡ p.serial

-- the rest of a response
abbrev LeftOf : (C : Type 0) → Present → List (Sent C) → Type 0
LeftOf C p [] = ⊥
LeftOf C p (x ∷ xs) =
    (IsPayloadOf 2 x.head.kind × LeftOf C p xs) ⊎ (IsLast p x.head × Quiet C xs)

-- notifies, and then a response or a cache reset, if any
abbrev ComingOf : (C : Type 0) → Present → List (Sent C) → Type 0
ComingOf C p [] = Unit {0}
ComingOf C p (x ∷ xs) =
    ((x.head.kind ≡ kinds.SerialNotify) × ComingOf C p xs)
    ⊎ (((x.head.kind ≡ kinds.CacheReset) × Quiet C xs)
    ⊎ ((x.head.kind ≡ kinds.CacheResponse) × (x.head.session ≡ p.session) × LeftOf C p xs))

as_quiet : (C : Type 0) (p : Present) (xs : List (Sent C)) → AreNotifies C p xs → Quiet C xs
as_quiet C p [] q = tt
as_quiet C p (x ∷ xs) q = (q.0, as_quiet C p xs q.2)

quiet_of_more : (C : Type 0) (p : Present) (xs ys : List (Sent C)) → AreNotifies C p xs
    → AreNotifies C p ys → AreNotifies C p (xs ++ ys)
quiet_of_more C p [] ys w q = q
quiet_of_more C p (x ∷ xs) ys w q = (w.0, w.1, quiet_of_more C p xs ys w.2 q)

left_more : (C : Type 0) (p : Present) (xs ys : List (Sent C)) → LeftOf C p xs → Quiet C ys
    → LeftOf C p (xs ++ ys)
left_more C p [] ys w q = absurd w
left_more C p (x ∷ xs) ys (inl w) q = inl (w.0, left_more C p xs ys w.1 q)
left_more C p (x ∷ xs) ys (inr w) q = inr (w.0, quiet_more C xs ys w.1 q)

from_quiet : (C : Type 0) (p : Present) (xs : List (Sent C)) → Quiet C xs → ComingOf C p xs
from_quiet C p [] q = tt
from_quiet C p (x ∷ xs) q = inl (q.0, from_quiet C p xs q.1)

coming_more : (C : Type 0) (p : Present) (xs ys : List (Sent C)) → ComingOf C p xs → Quiet C ys
    → ComingOf C p (xs ++ ys)
coming_more C p [] ys w q = from_quiet C p ys q
coming_more C p (x ∷ xs) ys (inl w) q = inl (w.0, coming_more C p xs ys w.1 q)
coming_more C p (x ∷ xs) ys (inr (inl w)) q = inr (inl (w.0, quiet_more C xs ys w.1 q))
coming_more C p (x ∷ xs) ys (inr (inr w)) q = inr (inr (w.0, w.1, left_more C p xs ys w.2 q))

coming_after : (C : Type 0) (p : Present) (xs ys : List (Sent C)) → Quiet C xs → ComingOf C p ys
    → ComingOf C p (xs ++ ys)
coming_after C p [] ys q w = w
coming_after C p (x ∷ xs) ys q w = inl (q.0, coming_after C p xs ys q.1 w)

-- ---- what the cache writes

left_written : (D C : Type 0) (S : Source D C) (had : List (Edition D)) → IsSource D C S had
    → (v : ℕ) (p : Edition D) (bs : List C)
    → LeftOf C p.name (map (change_unit D C S v) bs ++ data_end D C v p ∷ [])
left_written D C S had I v p [] =
    inr (record { kind = refl; session = refl; serial = refl }, tt)
left_written D C S had I v p (b ∷ bs) = inl (I.is_payload b, left_written D C S had I v p bs)

response_comes : (D C : Type 0) (S : Source D C) (had : List (Edition D)) → IsSource D C S had
    → (v : ℕ) (p : Edition D) (old : Option D) → ComingOf C p.name (response D C S v p old)
response_comes D C S had I v p old =
    inr (inr (refl, refl, left_written D C S had I v p (S.delta old (p.for_version v))))

written : (D C : Type 0) (S : Source D C) (had : List (Edition D)) → IsSource D C S had
    → (c c' : Cache) (k v m : ℕ) (old p : Edition D) (u : Head) (kept : Bool) (a : Answer)
    → p.name.has ≡ true → CacheRule c k p.name (told.Came u kept) a c' → StaysOpen a
    → ComingOf C p.name (cache_writes D C S v m old p a)
written D C S had I c c' k v m old p u kept answers.Wait has w stays = tt
written D C S had I c c' k v m old p u kept answers.All has w stays =
    response_comes D C S had I v p None
written D C S had I c c' k v m old p u kept (answers.Changes since) has w stays =
    response_comes D C S had I v p (Some (old.for_version v))
written D C S had I c c' k v m old p u kept answers.Reset has w stays = inr (inl (refl, tt))
written D C S had I c c' k v m old p u kept answers.NoData has w stays =
    let none = w.1.has in absurd cc
written D C S had I c c' k v m old p u kept answers.Notify has w stays = absurd w
written D C S had I c c' k v m old p u kept (answers.End x) has w stays = absurd stays

-- by itself it writes notifies of the present data
told_more : (D C : Type 0) (S : Source D C) (c c' : Cache) (k v m : ℕ) (old p : Edition D)
    (a : Answer) → CacheRule c k p.name told.Tick a c' → StaysOpen a
    → AreNotifies C p.name (cache_writes D C S v m old p a)
told_more D C S c c' k v m old p answers.Wait w stays = tt
told_more D C S c c' k v m old p answers.Notify w stays = (refl, refl, tt)
told_more D C S c c' k v m old p answers.All w stays = absurd w
told_more D C S c c' k v m old p (answers.Changes since) w stays = absurd w
told_more D C S c c' k v m old p answers.Reset w stays = absurd w
told_more D C S c c' k v m old p answers.NoData w stays = absurd w
told_more D C S c c' k v m old p (answers.End x) w stays = absurd stays

-- ---- what holds in each phase, until data are shown

record CalmReading (C : Type 0) (p : Present) (r : Router) (tr : List (Sent C)) : Type 0 where
  left : LeftOf C p tr
  own : r.changes ≡ true → r.known.session ≡ p.session

record CalmApplying (C : Type 0) (p : Present) (r : Router) : Type 0 where
  session : r.answer.session ≡ p.session
  serial : r.answer.serial ≡ p.serial

record CalmWaiting (C : Type 0) (p : Present) (r : Router) (tr : List (Sent C)) : Type 0 where
  quiet : AreNotifies C p tr
  own : r.has_data ≡ true → r.known.session ≡ p.session

abbrev CalmIn : (C : Type 0) → Present → Router → List (Sent C) → Phase → Type 0
CalmIn C p r tr phases.Offline = Unit {0}
CalmIn C p r tr phases.Connecting = Unit {0}
CalmIn C p r tr phases.Asked = ComingOf C p tr
CalmIn C p r tr phases.Reading = CalmReading C p r tr
CalmIn C p r tr phases.Applying = CalmApplying C p r
CalmIn C p r tr phases.Waiting = CalmWaiting C p r tr

to_phase : (C : Type 0) (p : Present) (r : Router) (tr : List (Sent C)) (f : Phase)
    → r.phase ≡ f → CalmIn C p r tr f → CalmIn C p r tr r.phase
to_phase C p r tr f e x = subst (λ f. CalmIn C p r tr f) (sym e) x

from_phase : (C : Type 0) (p : Present) (r : Router) (tr : List (Sent C)) (f : Phase)
    → r.phase ≡ f → CalmIn C p r tr r.phase → CalmIn C p r tr f
from_phase C p r tr f e x = subst (λ f. CalmIn C p r tr f) e x

-- what is known of the data stays, whether they are dropped or not
known_left : (drop : Bool) (r r' : Router) → Drops drop r r' → r'.known ≡ r.known
known_left true r r' w = w.known
known_left false r r' w = w.known

-- a router and what is on its way, after a step
record Went (C : Type 0) (p : Present) (r r' : Router) (tr : List (Sent C)) : Type 0 where
  known : r'.known ≡ r.known
  calm : CalmIn C p r' tr r'.phase

-- the router waits, and nothing came but perhaps a notify
waits : (C : Type 0) (p : Present) (e : Event) (r r' : Router) (tr : List (Sent C))
    → Rule r 0 e actions.Wait r' → CalmIn C p r tr r.phase → Went C p r r' tr
waits C p e r r' tr w x = record {
  known = w.same.known;
  calm = to_phase C p r' tr r.phase w.talk.phase (go r.phase x);
}
  where
    go : (f : Phase) → CalmIn C p r tr f → CalmIn C p r' tr f
    go phases.Offline x = tt
    go phases.Connecting x = tt
    go phases.Asked x = x
    go phases.Reading x = record {
      left = x.left;
      own = λ c. ap (λ (k : Known). k.session) w.same.known ∙ x.own (sym w.talk.changes ∙ c);
    }
    go phases.Applying x = record {
      session = ap (λ (k : Known). k.session) w.talk.answer ∙ x.session;
      serial = ap (λ (k : Known). k.serial) w.talk.answer ∙ x.serial;
    }
    go phases.Waiting x = record {
      quiet = x.quiet;
      own = λ h. ap (λ (k : Known). k.session) w.same.known ∙ x.own (sym w.same.has_data ∙ h);
    }

-- ---- the router is told of itself

tells : (D C : Type 0) (p : Present) (h : Host (List C) D) (n : ℕ) (e : Event) (a : Action)
    (r r' : Router) (tr : List (Sent C)) → TellsCalmly D C h r e → Rule r n e a r'
    → a ≢ actions.Show → CalmIn C p r tr r.phase → Went C p r r' tr
tells D C p h n e actions.Wait r r' tr t w s x = waits C p e r r' tr w x
tells D C p h n e (actions.End z) r r' tr t w s x = record {
  known = known_left z.drop r r' w.data_then;
  calm = to_phase C p r' tr phases.Offline w.phase tt;
}
tells D C p h n e actions.Drop r r' tr t w s x = record {
  known = w.lost.known;
  calm = to_phase C p r' tr phases.Offline w.phase tt;
}
tells D C p h n events.Tick actions.Connect r r' tr t w s x = record {
  known = w.same.known;
  calm = to_phase C p r' tr phases.Connecting w.phase tt;
}
tells D C p h n events.Tick (actions.Ask q) r r' tr t w s x =
    let y : CalmWaiting C p r tr = from_phase C p r tr phases.Waiting w.may.0 x in
    record {
      known = w.same.known;
      calm = to_phase C p r' tr phases.Asked w.phase (from_quiet C p tr (as_quiet C p tr y.quiet));
    }
tells D C p h n events.Applied (actions.Ask q) r r' tr t w s x = absurd w.may
tells D C p h n events.Asked (actions.Ask q) r r' tr t w s x = absurd w.may
tells D C p h n events.Applied actions.Show r r' tr t w s x = absurd (s refl)
tells D C p h n (events.Came u) _ r r' tr t w s x = absurd t
tells D C p h n (events.Faulty f) _ r r' tr t w s x = absurd t
tells D C p h n (events.NotApplied code) _ r r' tr t w s x = absurd t
tells D C p h n events.Connected _ r r' tr t w s x = absurd t
tells D C p h n events.Lost _ r r' tr t w s x = absurd t
tells D C p h n _ _ r r' tr t w s x = absurd w

connects : (C : Type 0) (p : Present) (n : ℕ) (a : Action) (r r' : Router)
    → Rule r n events.Connected a r' → r.phase ≡ phases.Connecting → Went C p r r' []
connects C p n actions.Wait r r' w at = absurd (w.passes at)
connects C p n (actions.End z) r r' w at = record {
  known = known_left z.drop r r' w.data_then;
  calm = to_phase C p r' [] phases.Offline w.phase tt;
}
connects C p n actions.Drop r r' w at = record {
  known = w.lost.known;
  calm = to_phase C p r' [] phases.Offline w.phase tt;
}
connects C p n (actions.Ask q) r r' w at = record {
  known = w.same.known;
  calm = to_phase C p r' [] phases.Asked w.phase tt;
}
connects C p n actions.Connect r r' w at = absurd w
connects C p n actions.Begin r r' w at = absurd w
connects C p n actions.Keep r r' w at = absurd w
connects C p n (actions.Apply on) r r' w at = absurd w
connects C p n actions.Show r r' w at = absurd w
connects C p n actions.NoData r r' w at = absurd w

-- ---- the router hears

-- a notify is passed over
drop_notify : (C : Type 0) (p : Present) (r : Router) (x : Sent C) (xs : List (Sent C)) (f : Phase)
    → IsListening f → x.head.kind ≡ kinds.SerialNotify → CalmIn C p r (x ∷ xs) f → CalmIn C p r xs f
drop_notify C p r x xs phases.Asked l k (inl w) = w.1
drop_notify C p r x xs phases.Asked l k (inr (inl w)) = let e = w.0 in cc
drop_notify C p r x xs phases.Asked l k (inr (inr w)) = let e = w.0 in cc
drop_notify C p r x xs phases.Reading l k w = absurd (go w.left)
  where
    go : LeftOf C p (x ∷ xs) → ⊥
    go (inl w) = subst (λ k. IsPayloadOf 2 k) k w.0
    go (inr w) = let e = w.0.kind in cc
drop_notify C p r x xs phases.Waiting l k w = record { quiet = w.quiet.2; own = w.own }
drop_notify C p r x xs phases.Offline l k w = absurd l
drop_notify C p r x xs phases.Connecting l k w = absurd l
drop_notify C p r x xs phases.Applying l k w = absurd l

passed : (r : Router) (u : Head) → IsListening r.phase
    → (r.phase ≡ phases.Offline) ⊎ (r.phase ≡ phases.Connecting)
    ⊎ ((r.phase ≢ phases.Applying) × (u.kind ≡ kinds.SerialNotify)) → u.kind ≡ kinds.SerialNotify
passed r u l (inl e) = absurd (subst (λ f. IsListening f) e l)
passed r u l (inr (inl e)) = absurd (subst (λ f. IsListening f) e l)
passed r u l (inr (inr w)) = w.1

after_reset : (C : Type 0) (p : Present) (x : Sent C) (xs : List (Sent C))
    → x.head.kind ≡ kinds.CacheReset → ComingOf C p (x ∷ xs) → Quiet C xs
after_reset C p x xs k (inl w) = let e = w.0 in cc
after_reset C p x xs k (inr (inl w)) = w.1
after_reset C p x xs k (inr (inr w)) = let e = w.0 in cc

record Begun (C : Type 0) (p : Present) (x : Sent C) (xs : List (Sent C)) : Type 0 where
  session : x.head.session ≡ p.session
  left : LeftOf C p xs

after_begin : (C : Type 0) (p : Present) (x : Sent C) (xs : List (Sent C))
    → x.head.kind ≡ kinds.CacheResponse → ComingOf C p (x ∷ xs) → Begun C p x xs
after_begin C p x xs k (inl w) = let e = w.0 in cc
after_begin C p x xs k (inr (inl w)) = let e = w.0 in cc
after_begin C p x xs k (inr (inr w)) = record { session = w.1; left = w.2 }

after_payload : (C : Type 0) (p : Present) (v : ℕ) (x : Sent C) (xs : List (Sent C))
    → IsPayloadOf v x.head.kind → LeftOf C p (x ∷ xs) → LeftOf C p xs
after_payload C p v x xs k (inl w) = w.1
after_payload C p v x xs k (inr w) = absurd (subst (λ k. IsPayloadOf v k) w.0.kind k)

at_end : (C : Type 0) (p : Present) (x : Sent C) (xs : List (Sent C))
    → x.head.kind ≡ kinds.EndOfData → LeftOf C p (x ∷ xs) → IsLast p x.head
at_end C p x xs k (inl w) = absurd (subst (λ k. IsPayloadOf 2 k) k w.0)
at_end C p x xs k (inr w) = w.0

-- no report is on its way
no_report : (C : Type 0) (p : Present) (r : Router) (x : Sent C) (xs : List (Sent C))
    → x.head.kind ≡ kinds.ErrorReport → (r.phase ≡ phases.Asked) ⊎ (r.phase ≡ phases.Reading)
    → CalmIn C p r (x ∷ xs) r.phase → ⊥
no_report C p r x xs k (inl e) w = go (from_phase C p r (x ∷ xs) phases.Asked e w)
  where
    go : ComingOf C p (x ∷ xs) → ⊥
    go (inl w) = let e = w.0 in cc
    go (inr (inl w)) = let e = w.0 in cc
    go (inr (inr w)) = let e = w.0 in cc
no_report C p r x xs k (inr e) w = go (from_phase C p r (x ∷ xs) phases.Reading e w).left
  where
    go : LeftOf C p (x ∷ xs) → ⊥
    go (inl w) = subst (λ k. IsPayloadOf 2 k) k w.0
    go (inr w) = let e = w.0.kind in cc

hears : (C : Type 0) (p : Present) (n : ℕ) (x : Sent C) (xs : List (Sent C)) (a : Action)
    (r r' : Router) → IsListening r.phase → Rule r n (events.Came x.head) a r'
    → CalmIn C p r (x ∷ xs) r.phase → Went C p r r' xs
hears C p n x xs actions.Wait r r' l w y =
    waits C p (events.Came x.head) r r' xs w
    (drop_notify C p r x xs r.phase l (passed r x.head l w.passes) y)
hears C p n x xs (actions.End z) r r' l w y = record {
  known = known_left z.drop r r' w.data_then;
  calm = to_phase C p r' xs phases.Offline w.phase tt;
}
hears C p n x xs actions.Drop r r' l w y = record {
  known = w.lost.known;
  calm = to_phase C p r' xs phases.Offline w.phase tt;
}
hears C p n x xs (actions.Ask q) r r' l w y = record {
  known = w.same.known;
  calm = to_phase C p r' xs phases.Asked w.phase
      (from_quiet C p xs
      (after_reset C p x xs w.may.2 (from_phase C p r (x ∷ xs) phases.Asked w.may.0 y)));
}
hears C p n x xs actions.Begin r r' l w y =
    let b : Begun C p x xs =
    after_begin C p x xs w.kind (from_phase C p r (x ∷ xs) phases.Asked w.from y) in
    record {
      known = w.same.known;
      calm = to_phase C p r' xs phases.Reading w.phase (record {
        left = b.left;
        own = λ c. ap (λ (k : Known). k.session) w.same.known ∙ sym (w.own (sym w.changes ∙ c))
            ∙ b.session;
      });
    }
hears C p n x xs actions.Keep r r' l w y =
    let z : CalmReading C p r (x ∷ xs) = from_phase C p r (x ∷ xs) phases.Reading w.phase y in
    record {
      known = w.same.known;
      calm = to_phase C p r' xs phases.Reading (w.talk.phase ∙ w.phase) (record {
        left = after_payload C p r.version x xs w.kind z.left;
        own = λ c. ap (λ (k : Known). k.session) w.same.known ∙ z.own (sym w.talk.changes ∙ c);
      });
    }
hears C p n x xs (actions.Apply on) r r' l w y =
    let z : CalmReading C p r (x ∷ xs) = from_phase C p r (x ∷ xs) phases.Reading w.from y in
    let last : IsLast p x.head = at_end C p x xs w.kind z.left in
    record {
      known = w.same.known;
      calm = to_phase C p r' xs phases.Applying w.phase (record {
        session = ap (λ (k : Known). k.session) w.answer ∙ last.session;
        serial = ap (λ (k : Known). k.serial) w.answer ∙ last.serial;
      });
    }
hears C p n x xs actions.NoData r r' l w y = absurd (no_report C p r x xs w.kind w.from y)
hears C p n x xs actions.Connect r r' l w y = absurd w
hears C p n x xs actions.Show r r' l w y = absurd w

-- ---- what the router hears is what a cache that keeps the rules sends

answers_well : (C : Type 0) (p : Present) (r : Router) (tc : List Head) (x : Sent C)
    (xs : List (Sent C)) → UnderWay C (query r) tc (x ∷ xs) → ComingOf C p (x ∷ xs)
    → AnswersWell IsAboveFloor 2 r (events.Came x.head)
answers_well C p r tc x xs (inl w) y =
    notifies_well x.head w.1.0 (λ e. w.1.1 ∙ query_version r r.changes refl)
answers_well C p r tc x xs (inr (t, inl w)) y =
    notifies_well x.head w.0 (λ e. w.1 ∙ query_version r r.changes refl)
answers_well C p r tc x xs (inr (t, inr (inl w))) y =
    responds x.head w.0.kind (w.0.version ∙ query_version r r.changes refl)
    (λ c. w.0.session (query_changes r r.changes refl ∙ c) ∙ query_session r c)
answers_well C p r tc x xs (inr (t, inr (inr (inl w)))) y =
    resets_well x.head w.0.kind (w.0.version ∙ query_version r r.changes refl)
    (sym (query_changes r r.changes refl) ∙ w.0.changes)
answers_well C p r tc x xs (inr (t, inr (inr (inr w)))) y = absurd (go y)
  where
    go : ComingOf C p (x ∷ xs) → ⊥
    go (inl v) = let e = v.0 in let f = w.0 in cc
    go (inr (inl v)) = let e = v.0 in let f = w.0 in cc
    go (inr (inr v)) = let e = v.0 in let f = w.0 in cc

goes_on_well : (C : Type 0) (p : Present) (r : Router) (x : Sent C) (xs : List (Sent C))
    → (r.known.session ≡ p.session → serial_cmp p.serial r.known.serial ≢ Some Less)
    → HasRoomFor r x.head → Left C (query r) r.session r.units (x ∷ xs)
    → CalmReading C p r (x ∷ xs) → GoesOnWell r (events.Came x.head)
goes_on_well C p r x xs order room (inl w) y =
    let v : (query r).version ≡ r.version = query_version r r.changes refl in
    let k : IsPayloadOf r.version x.head.kind =
    subst (λ v. IsPayloadOf v x.head.kind) v w.0.kind in
    sends_payload x.head k (w.0.version ∙ v) (room k)
goes_on_well C p r x xs order room (inr w) y =
    let v : (query r).version ≡ r.version = query_version r r.changes refl in
    let last : IsLast p x.head = at_end C p x xs w.0.kind y.left in
    ends_data x.head
    (record { kind = w.0.kind; version = w.0.version ∙ v; session = w.0.session })
    (λ c less. order (y.own c)
    (ap (λ n. serial_cmp n r.known.serial) (sym last.serial) ∙ less))
    (λ c e. w.0.fresh (query_changes r r.changes refl ∙ c) (e ∙ sym (query_serial r c)))

served : (C : Type 0) (p : Present) (r : Router) (c : Cache) (tc : List Head) (x : Sent C)
    (xs : List (Sent C)) (f : Phase) → IsListening f
    → (r.known.session ≡ p.session → serial_cmp p.serial r.known.serial ≢ Some Less)
    → HasRoomFor r x.head → Talk C r c tc (x ∷ xs) f → CalmIn C p r (x ∷ xs) f
    → IsServedBy IsAboveFloor 2 f r (events.Came x.head)
served C p r c tc x xs phases.Asked l order room t y = answers_well C p r tc x xs t.coming y
served C p r c tc x xs phases.Reading l order room t y =
    goes_on_well C p r x xs order room t.left y
served C p r c tc x xs phases.Waiting l order room t y =
    notifies_then x.head y.quiet.0 t.quiet.1
served C p r c tc x xs phases.Offline l order room t y = absurd l
served C p r c tc x xs phases.Connecting l order room t y = absurd l
served C p r c tc x xs phases.Applying l order room t y = absurd l

served_told : (D C : Type 0) (p : Present) (h : Host (List C) D) (r : Router) (tr : List (Sent C))
    (e : Event) (f : Phase) → r.phase ≡ f → TellsCalmly D C h r e → CalmIn C p r tr f
    → IsServedBy IsAboveFloor 2 f r e
served_told D C p h r tr events.Asked phases.Offline at t y = inr refl
served_told D C p h r tr events.Asked phases.Connecting at t y = inr (inl refl)
served_told D C p h r tr events.Asked phases.Asked at t y = wished
served_told D C p h r tr events.Asked phases.Reading at t y = wished_inside
served_told D C p h r tr events.Asked phases.Applying at t y = wished_meanwhile
served_told D C p h r tr events.Asked phases.Waiting at t y = wished_then
served_told D C p h r tr events.Tick phases.Offline at t y = inl refl
served_told D C p h r tr events.Tick phases.Connecting at t y = inl refl
served_told D C p h r tr events.Tick phases.Asked at t y = not_yet
served_told D C p h r tr events.Tick phases.Reading at t y = not_more_yet
served_told D C p h r tr events.Tick phases.Applying at t y = not_made_yet
served_told D C p h r tr events.Tick phases.Waiting at t y = not_asked_yet
served_told D C p h r tr events.Applied phases.Applying at t y = are_made
served_told D C p h r tr events.Applied phases.Waiting at t y = let e = t.0 in absurd cc
served_told D C p h r tr events.Applied phases.Offline at t y = let e = t.0 in absurd cc
served_told D C p h r tr events.Applied phases.Connecting at t y = let e = t.0 in absurd cc
served_told D C p h r tr events.Applied phases.Asked at t y = let e = t.0 in absurd cc
served_told D C p h r tr events.Applied phases.Reading at t y = let e = t.0 in absurd cc
served_told D C p h r tr (events.Came u) f at t y = absurd t
served_told D C p h r tr (events.Faulty g) f at t y = absurd t
served_told D C p h r tr (events.NotApplied code) f at t y = absurd t
served_told D C p h r tr events.Connected f at t y = absurd t
served_told D C p h r tr events.Lost f at t y = absurd t

-- ---- whole runs

record InCalm (D C : Type 0) (S : Source D C) (before : World D C) (start : ℕ) (w : World D C)
    (n : ℕ) : Type 0 where
  reached : IsReached D C S w
  present : w.present ≡ before.present
  had : w.had ≡ before.had
  known : w.router.known ≡ before.router.known
  calm : CalmIn C w.present.name w.router w.to_router w.router.phase
  served : IsServed 2 before.router start w.router n

shows_none : (r r' : Router) (n : ℕ) (e : Event) (a : Action) → Rule r n e a r'
    → (Rule r n e actions.Show r' → ⊥) → a ≢ actions.Show
shows_none r r' n e a w never is = never (subst (λ (a : Action). Rule r n e a r') is w)

-- notifies of one version are notifies
unversioned : (C : Type 0) (v : ℕ) (xs : List (Sent C)) → QuietIn C v xs → Quiet C xs
unversioned C v [] q = tt
unversioned C v (x ∷ xs) q = (q.0, unversioned C v xs q.2)

-- the cache answers a query: the router awaits it, and nothing but notifies is on its way
asked_more : (C : Type 0) (p : Present) (r : Router) (c : Cache) (tc : List Head)
    (tr ys : List (Sent C)) (u : Head) (us : List Head) (f : Phase) → tc ≡ u ∷ us
    → Talk C r c tc tr f → ComingOf C p ys → CalmIn C p r tr f → CalmIn C p r (tr ++ ys) f
asked_more C p r c tc tr ys u us phases.Offline is t w y = tt
asked_more C p r c tc tr ys u us phases.Connecting is t w y = tt
asked_more C p r c tc tr ys u us phases.Asked is t w y = go t.coming
  where
    go : UnderWay C (query r) tc tr → ComingOf C p (tr ++ ys)
    go (inl v) = coming_after C p tr ys (unversioned C (query r).version tr v.1) w
    go (inr v) = let e = v.0 in absurd cc
asked_more C p r c tc tr ys u us phases.Reading is t w y = let e = t.none in absurd cc
asked_more C p r c tc tr ys u us phases.Applying is t w y = let e = t.none in absurd cc
asked_more C p r c tc tr ys u us phases.Waiting is t w y = let e = t.none in absurd cc

quiet_then : (C : Type 0) (p : Present) (r : Router) (tr ys : List (Sent C)) (f : Phase)
    → AreNotifies C p ys → CalmIn C p r tr f → CalmIn C p r (tr ++ ys) f
quiet_then C p r tr ys phases.Offline q y = tt
quiet_then C p r tr ys phases.Connecting q y = tt
quiet_then C p r tr ys phases.Asked q y = coming_more C p tr ys y (as_quiet C p ys q)
quiet_then C p r tr ys phases.Reading q y =
    record { left = left_more C p tr ys y.left (as_quiet C p ys q); own = y.own }
quiet_then C p r tr ys phases.Applying q y = record { session = y.session; serial = y.serial }
quiet_then C p r tr ys phases.Waiting q y =
    record { quiet = quiet_of_more C p tr ys y.quiet q; own = y.own }

-- ---- a connection that is there was made by a router that hasn't fallen since

stands_at : (f : Phase) (r : Router) → r.phase ≡ f → Stands f r → Stands r.phase r
stands_at f r e x = subst (λ f. Stands f r) (sym e) x

stands_from : (f : Phase) (r : Router) → r.phase ≡ f → Stands r.phase r → Stands f r
stands_from f r e x = subst (λ f. Stands f r) e x

stands_still : (f : Phase) (r r' : Router) → r'.fell ≡ r.fell → Stands f r → Stands f r'
stands_still phases.Offline r r' e x = tt
stands_still phases.Connecting r r' e x = e ∙ x
stands_still phases.Asked r r' e x = e ∙ x
stands_still phases.Reading r r' e x = e ∙ x
stands_still phases.Applying r r' e x = e ∙ x
stands_still phases.Waiting r r' e x = e ∙ x

no_data_from : (r : Router) → (r.phase ≡ phases.Asked) ⊎ (r.phase ≡ phases.Reading)
    → Stands r.phase r → r.fell ≡ false
no_data_from r (inl e) x = stands_from phases.Asked r e x
no_data_from r (inr e) x = stands_from phases.Reading r e x

stands_step : (n : ℕ) (e : Event) (a : Action) (r r' : Router) → Rule r n e a r'
    → Paces r n e a r' → Stands r.phase r → Stands r'.phase r'
stands_step n e actions.Wait r r' w t x =
    stands_at r.phase r' w.talk.phase (stands_still r.phase r r' t.same.fell x)
stands_step n e (actions.End z) r r' w t x = stands_at phases.Offline r' w.phase tt
stands_step n e actions.Drop r r' w t x = stands_at phases.Offline r' w.phase tt
stands_step n events.Tick actions.Connect r r' w t x =
    stands_at phases.Connecting r' w.phase t.fell
stands_step n events.Tick (actions.Ask q) r r' w t x =
    stands_at phases.Asked r' w.phase (t.fell ∙ stands_from phases.Waiting r w.may.0 x)
stands_step n events.Connected (actions.Ask q) r r' w t x =
    stands_at phases.Asked r' w.phase (t.fell ∙ stands_from phases.Connecting r w.may.0 x)
stands_step n (events.Came u) (actions.Ask q) r r' w t x =
    stands_at phases.Asked r' w.phase (t.fell ∙ stands_from phases.Asked r w.may.0 x)
stands_step n events.Lost (actions.Ask q) r r' w t x = absurd w.may
stands_step n events.Asked (actions.Ask q) r r' w t x = absurd w.may
stands_step n (events.Faulty f) (actions.Ask q) r r' w t x = absurd w.may
stands_step n events.Applied (actions.Ask q) r r' w t x = absurd w.may
stands_step n (events.NotApplied code) (actions.Ask q) r r' w t x = absurd w.may
stands_step n (events.Came u) actions.Begin r r' w t x =
    stands_at phases.Reading r' w.phase (t.same.fell ∙ stands_from phases.Asked r w.from x)
stands_step n (events.Came u) actions.Keep r r' w t x =
    stands_at r.phase r' w.talk.phase (stands_still r.phase r r' t.same.fell x)
stands_step n (events.Came u) (actions.Apply on) r r' w t x =
    stands_at phases.Applying r' w.phase (t.same.fell ∙ stands_from phases.Reading r w.from x)
stands_step n (events.Came u) actions.NoData r r' w t x =
    stands_at phases.Waiting r' w.phase (t.same.fell ∙ no_data_from r w.from x)
stands_step n events.Applied actions.Show r r' w t x =
    stands_at phases.Waiting r' w.phase (t.fell ∙ stands_from phases.Applying r w.from x)
stands_step n _ _ r r' w t x = absurd w

stands : (D C : Type 0) (S : Source D C) (w : World D C) → IsLived D C S w
    → Stands w.router.phase w.router
stands D C S w (world_begins r c p phase none) = stands_at phases.Offline r phase tt
stands D C S w (world_goes_on w₀ w₁ run on) = go w₀ w₁ on (stands D C S w₀ run)
  where
    go : (w w' : World D C) → Next D C S IsStep IsCacheStep w w' → Stands w.router.phase w.router
        → Stands w'.router.phase w'.router
    go w w' (router_told w₀ n e a r itself step) x =
        stands_step n e a w₀.router r step.rule step.paces x
    go w w' (connected w₀ n a r c phase anew step) x =
        stands_step n events.Connected a w₀.router r step.rule step.paces x
    go w w' (router_hears w₀ n u xs a r is step) x =
        stands_step n (events.Came u.head) a w₀.router r step.rule step.paces x
    go w w' (cache_hears w₀ n m u us kept a c old is step from) x = x
    go w w' (cache_told w₀ n m e a c tells step) x = x
    go w w' (renewed w₀ p) x = x

-- ---- where a calm begins

begins_calm : (D C : Type 0) (w : World D C) → MayBeginCalm D C w
    → CalmIn C w.present.name w.router w.to_router w.router.phase
begins_calm D C w (offline_then e) = to_phase C w.present.name w.router w.to_router phases.Offline e
    tt
begins_calm D C w (connecting_then e) =
    to_phase C w.present.name w.router w.to_router phases.Connecting e tt
begins_calm D C w (asked_then e q) =
    to_phase C w.present.name w.router w.to_router phases.Asked e
    (from_quiet C w.present.name w.to_router (as_quiet C w.present.name w.to_router q))
begins_calm D C w (waiting_then e q own) =
    to_phase C w.present.name w.router w.to_router phases.Waiting e
    (record { quiet = q; own = own })

begins_held : (D C : Type 0) (S : Source D C) (w : World D C) → IsSource D C S w.had
    → IsOneDataPerName w.had → IsLived D C S w → MayBeginCalm D C w
    → Holds w.router.phase w.router
begins_held D C S w I one run (offline_then e) = subst (λ f. Holds f w.router) (sym e) tt
begins_held D C S w I one run (connecting_then e) =
    subst (λ f. Holds f w.router) (sym e)
    (stands_from phases.Connecting w.router e (stands D C S w run))
begins_held D C S w I one run (asked_then e q) =
    let own : w.router.changes ≡ true → AsksOwn w.router =
    asks_own_then D C S w I one (by_rules D C S w run) e in
    subst (λ f. Holds f w.router) (sym e) (record {
      fell = stands_from phases.Asked w.router e (stands D C S w run);
      has_data = λ c. (own c).has_data;
      resync = λ c. (own c).resync;
    })
begins_held D C S w I one run (waiting_then e q own) =
    subst (λ f. Holds f w.router) (sym e)
    (stands_from phases.Waiting w.router e (stands D C S w run))

module _ (D C : Type 0) (S : Source D C) (before : World D C) (I : IsSource D C S before.had)
    (one : IsOneDataPerName before.had) (start : ℕ)
    (old : IsLived D C S before) (rest : IsAtRest D C before) where
  -- no data come
  source_then : (w : World D C) (n : ℕ) → InCalm D C S before start w n → IsSource D C S w.had
  source_then w n x = subst (λ had. IsSource D C S had) (sym x.had) I

  one_then : (w : World D C) (n : ℕ) → InCalm D C S before start w n → IsOneDataPerName w.had
  one_then w n x = subst (λ (had : List (Edition D)). IsOneDataPerName had) (sym x.had) one

  peace_then : (w : World D C) (n : ℕ) → InCalm D C S before start w n
      → Talk C w.router w.cache w.to_cache w.to_router w.router.phase
  peace_then w n x = in_peace D C S w (source_then w n x) (one_then w n x) x.reached

  in_calm : (w : World D C) (n : ℕ) → IsCalm D C S before start w n → InCalm D C S before start w n
  in_calm w n calm_from = record {
    reached = by_rules D C S before old;
    present = refl;
    had = refl;
    known = refl;
    calm = begins_calm D C before rest.rests;
    served = served_from;
  }
  in_calm w n' (calm_told w₀ n n₁ e a r run on t step other) =
      let x : InCalm D C S before start w₀ n = in_calm w₀ n run in
      let y : Went C w₀.present.name w₀.router r w₀.to_router =
      tells D C w₀.present.name w₀.host n' e a w₀.router r w₀.to_router t step.rule other x.calm in
      record {
        reached = world_goes_on w₀ w x.reached
            (router_told w₀ n' e a r (itself e t) step.rule);
        present = x.present;
        had = x.had;
        known = y.known ∙ x.known;
        calm = y.calm;
        served = served_on w₀.router n n' e a r x.served on.later on.awake on.in_time
            (served_told D C w₀.present.name w₀.host w₀.router w₀.to_router e w₀.router.phase refl t
            x.calm)
            step other;
      }
    where
      itself : (e : Event) → TellsCalmly D C w₀.host w₀.router e
          → TellsItself D C w₀.host e
      itself events.Tick t = tt
      itself events.Asked t = tt
      itself events.Applied t = t.1
      itself (events.Came u) t = absurd t
      itself (events.Faulty f) t = absurd t
      itself (events.NotApplied code) t = absurd t
      itself events.Connected t = absurd t
      itself events.Lost t = absurd t
  in_calm w n' (calm_connected w₀ n n₁ a r c run on at anew step) =
      let x : InCalm D C S before start w₀ n = in_calm w₀ n run in
      let y : Went C w₀.present.name w₀.router r [] =
      connects C w₀.present.name n' a w₀.router r step.rule at in
      record {
        reached = world_goes_on w₀ w x.reached (connected w₀ n' a r c at anew step.rule);
        present = x.present;
        had = x.had;
        known = y.known ∙ x.known;
        calm = y.calm;
        served = served_on w₀.router n n' events.Connected a r x.served on.later on.awake on.in_time
            (subst (λ f. IsServedBy IsAboveFloor 2 f w₀.router events.Connected) (sym at)
            (inr (inr refl))) step
            (shows_none w₀.router r n' events.Connected a step.rule (λ z. z));
      }
  in_calm w n' (calm_hears w₀ n n₁ u xs a r run on is listens room step) =
      let x : InCalm D C S before start w₀ n = in_calm w₀ n run in
      let calm : CalmIn C w₀.present.name w₀.router (u ∷ xs) w₀.router.phase =
      subst (λ tr. CalmIn C w₀.present.name w₀.router tr w₀.router.phase) is x.calm in
      let talk : Talk C w₀.router w₀.cache w₀.to_cache (u ∷ xs) w₀.router.phase =
      subst (λ tr. Talk C w₀.router w₀.cache w₀.to_cache tr w₀.router.phase) is
      (peace_then w₀ n x) in
      let y : Went C w₀.present.name w₀.router r xs =
      hears C w₀.present.name n' u xs a w₀.router r listens step.rule calm in
      record {
        reached = world_goes_on w₀ w x.reached (router_hears w₀ n' u xs a r is step.rule);
        present = x.present;
        had = x.had;
        known = y.known ∙ x.known;
        calm = y.calm;
        served = served_on w₀.router n n' (events.Came u.head) a r x.served on.later on.awake
            on.in_time
            (served C w₀.present.name w₀.router w₀.cache w₀.to_cache u xs w₀.router.phase listens
            (order w₀ x) room talk calm)
            step (shows_none w₀.router r n' (events.Came u.head) a step.rule (λ z. z));
      }
    where
      order : (w₀ : World D C) → InCalm D C S before start w₀ n
          → w₀.router.known.session ≡ w₀.present.name.session
          → serial_cmp w₀.present.name.serial w₀.router.known.serial ≢ Some Less
      order w₀ x = subst
          (λ (k : Known). k.session ≡ w₀.present.name.session
          → serial_cmp w₀.present.name.serial k.serial ≢ Some Less) (sym x.known)
          (subst
          (λ (p : Edition D). before.router.known.session ≡ p.name.session
          → serial_cmp p.name.serial before.router.known.serial ≢ Some Less) (sym x.present)
          rest.order)
  in_calm w n (calm_cache_hears w₀ n₀ k m u us kept a c old run is step from stays) =
      let x : InCalm D C S before start w₀ n = in_calm w₀ n run in
      let has : w₀.present.name.has ≡ true =
      ap (λ (p : Edition D). p.name.has) x.present ∙ rest.has in
      record {
        reached = world_goes_on w₀ w x.reached
            (cache_hears w₀ k m u us kept a c old is step.rule from);
        present = x.present;
        had = x.had;
        known = x.known;
        calm = asked_more C w₀.present.name w₀.router w₀.cache w₀.to_cache w₀.to_router
            (cache_writes D C S c.version m old w₀.present a) u us w₀.router.phase is
            (peace_then w₀ n x)
            (written D C S w₀.had (source_then w₀ n x) w₀.cache c k c.version m old w₀.present u
            kept a has step.rule stays)
            x.calm;
        served = x.served;
      }
  in_calm w n (calm_cache_told w₀ n₀ k m a c run step stays) =
      let x : InCalm D C S before start w₀ n = in_calm w₀ n run in
      record {
        reached = world_goes_on w₀ w x.reached (cache_told w₀ k m told.Tick a c tt step.rule);
        present = x.present;
        had = x.had;
        known = x.known;
        calm = quiet_then C w₀.present.name w₀.router w₀.to_router
            (cache_writes D C S c.version m w₀.present w₀.present a) w₀.router.phase
            (told_more D C S w₀.cache c k c.version m w₀.present w₀.present a step.rule stays)
            x.calm;
        served = x.served;
      }

  pub soon : (w : World D C) (n : ℕ) → IsCalm D C S before start w n
      → n ≤ served_until before.router start
  soon w n run =
      recovers 2 before.router start w.router n (begins_held D C S before I one old rest.rests)
      (in_calm w n run).served

  pub shown : (w : World D C) (n n' : ℕ) (d : D) (r : Router) → IsCalm D C S before start w n
      → w.host.made ≡ Some d → IsStep w.router n' events.Applied actions.Show r
      → ShowsPresent D before.present r w.host.made
  shown w n n' d r run made step =
      let x : InCalm D C S before start w n = in_calm w n run in
      let y : CalmApplying C w.present.name w.router =
      from_phase C w.present.name w.router w.to_router phases.Applying step.rule.from x.calm in
      let w' : World D C = record w {
        router = r;
        host = record { kept = w.host.kept; made = w.host.made; shown = w.host.made };
        to_cache = w.to_cache ++ [];
      } in
      let agrees : Agrees D C w' =
      agreement D C S w' (source_then w n x) (one_then w n x) (world_goes_on w w' x.reached
      (router_told w n' events.Applied actions.Show r (d, made) step.rule)) step.rule.has_data in
      let session : r.known.session ≡ before.present.name.session =
      ap (λ (k : Known). k.session) step.rule.known ∙ y.session
      ∙ ap (λ (p : Edition D). p.name.session) x.present in
      let serial : r.known.serial ≡ before.present.name.serial =
      ap (λ (k : Known). k.serial) step.rule.known ∙ y.serial
      ∙ ap (λ (p : Edition D). p.name.serial) x.present in
      let was : WasHad before.had agrees.edition =
      subst (λ (had : List (Edition D)). WasHad had agrees.edition) x.had agrees.was in
      record {
        session = session;
        serial = serial;
        data_are = agrees.same
            ∙ ap (λ (d : D). Some d)
            (one agrees.edition before.present was
            (present_old D C S IsStep IsCacheStep before old rest.has)
            (agrees.session ∙ session) (agrees.serial ∙ serial) r.known.version);
      }
