-- What a connection of a cache keeps to, as an invariant of the machine.
use Rattle.std.proofs.Common.{◌≡◌, ◌≢◌, ℕ, Bool, true, false, ◌+◌, ◌≤◌, Option, Some, None, List}
use Rattle.std.proofs.Common.{◌||◌, [], ◌∷◌, refl, sym, ap, ◌∙◌, subst}
use Rattle.session_router.specs.declared.head.Head.{Head}
use Rattle.session_cache.specs.declared.settings.CacheSettings.{CacheSettings}
use Rattle.session_cache.specs.declared.cache.Cache.{Cache}
use Rattle.session_cache.specs.declared.event.Present.{Present}
use Rattle.session_cache.specs.declared.event.CacheEvent.{CacheEvent}
use Rattle.session_cache.specs.declared.event.CacheEvent.TheVariants as events
use Rattle.session_cache.specs.declared.event.Answer.{Answer}
use Rattle.session_cache.specs.declared.event.Answer.TheVariants as answers
use Rattle.session_cache.specs.CacheRules.{CacheRule, HasVersion, heard, informed}
use Rattle.session_cache.specs.CacheRules.{is_advised, once_closed, sent_back}
use Rattle.session_cache.specs.Connections.{CacheMoment, IsAllowedConnection, IsNewConnection}
use Rattle.session_cache.specs.Connections.{IsOrderly, IsOrderlyHere, NotifiesHere, StaysThere}
use Rattle.session_cache.specs.Connections.{answered_version}
use Rattle.session_cache.specs.Connections.{has_ended, last_notify, told_session}
use Rattle.session_cache.specs.Connections.IsConnectionBy.{connection_begins, connection_goes_on}

-- the time from which a notify may be sent
abbrev pause_after : ℕ → Option ℕ → ℕ
pause_after pause None = 0
pause_after pause (Some at) = at + pause

-- the version that the connection has, and the session of what was told
abbrev IsVersion : Cache → Option ℕ → Type 0
IsVersion c None = c.asked ≡ false
IsVersion c (Some v) = (c.asked ≡ true) × (c.version ≡ v)

abbrev IsSession : Cache → Option ℕ → Type 0
IsSession c None = Unit {0}
IsSession c (Some s) = (c.told ≡ true) × (c.session ≡ s)

record Keeps (s : CacheSettings) (c : Cache) (last v t : Option ℕ) (b : Bool) : Type 0 where
  settings : c.settings ≡ s
  notify_from : c.notify_from ≡ pause_after s.pause last
  version : IsVersion c v
  session : IsSession c t
  ended : b ≡ true → c.live ≡ false

-- what was there stays where it is the version of the query, or the session of the data
same_version : (c : Cache) (u : Head) (o : Option ℕ) → HasVersion c u → IsVersion c o
    → StaysThere o (Some u.version)
same_version c u None v w = tt
same_version c u (Some n) v w = ap Some (v.same w.0 ∙ w.1)

same_session : (c : Cache) (s : ℕ) (o : Option ℕ) → (c.told ≡ true → c.session ≡ s)
    → IsSession c o → StaysThere o (Some s)
same_session c s None f w = tt
same_session c s (Some n) f w = ap Some (sym (f w.0) ∙ w.1)

stays_itself : (o : Option ℕ) → StaysThere o o
stays_itself None = tt
stays_itself (Some n) = refl

told_advised : (c : Cache) → c.told ≡ true → is_advised c ≡ true
told_advised c t = ap (λ b. b || c.reset) t

not_ended : (c : Cache) (b : Bool) (A : Type 0) → c.live ≡ true → (b ≡ true → c.live ≡ false)
    → b ≡ true → A
not_ended c b A live f e = absurd (go (f e))
  where
    go : c.live ≡ false → ⊥
    go g = cc

some_version : (c : Cache) (o : Option ℕ) → c.asked ≡ true → IsVersion c o → o ≢ None
some_version c None a w e = cc
some_version c (Some v) a w e = cc

-- the time of a notify
notified_well : (pause n at : ℕ) (o version : Option ℕ) → at ≡ pause_after pause o → at ≤ n
    → version ≢ None → NotifiesHere pause answers.Notify n o version
notified_well pause n at None version e p v = v
notified_well pause n at (Some m) version e p v = (subst (λ x. x ≤ n) e p, v)

-- after a query that is answered, with or without data
after_heard : (s : CacheSettings) (c c' : Cache) (n v : ℕ) (last version session : Option ℕ)
    (ended ended' : Bool) → Keeps s c last version session ended
    → c' ≡ heard c n v → (ended' ≡ true → c'.live ≡ false)
    → Keeps s c' last (Some v) session ended'
after_heard s c c' n v last version session ended ended' k e f =
    let told : c'.told ≡ c.told = ap (λ (c : Cache). c.told) e in
    let session_is : c'.session ≡ c.session = ap (λ (c : Cache). c.session) e in
    record {
      settings = ap (λ (c : Cache). c.settings) e ∙ k.settings;
      notify_from = ap (λ (c : Cache). c.notify_from) e ∙ k.notify_from;
      version = (ap (λ (c : Cache). c.asked) e, ap (λ (c : Cache). c.version) e);
      session = go session told session_is k.session;
      ended = f;
    }
  where
    go : (o : Option ℕ) → c'.told ≡ c.told → c'.session ≡ c.session → IsSession c o
        → IsSession c' o
    go None a b w = tt
    go (Some x) a b w = (a ∙ w.0, b ∙ w.1)

after_told : (s : CacheSettings) (c c' : Cache) (n v : ℕ) (p : Present)
    (last version session : Option ℕ) (ended ended' : Bool) → Keeps s c last version session ended
    → c' ≡ informed (heard c n v) p → (ended' ≡ true → c'.live ≡ false)
    → Keeps s c' last (Some v) (Some p.session) ended'
after_told s c c' n v p last version session ended ended' k e f = record {
  settings = ap (λ (c : Cache). c.settings) e ∙ k.settings;
  notify_from = ap (λ (c : Cache). c.notify_from) e ∙ k.notify_from;
  version = (ap (λ (c : Cache). c.asked) e, ap (λ (c : Cache). c.version) e);
  session = (ap (λ (c : Cache). c.told) e, ap (λ (c : Cache). c.session) e);
  ended = f;
}

-- a cache reset tells of no data, and where the router was told of some, they are of this session
after_reset : (s : CacheSettings) (c c' : Cache) (n v : ℕ) (p : Present)
    (last version session : Option ℕ) (ended ended' : Bool) → Keeps s c last version session ended
    → (c.told ≡ true → c.session ≡ p.session)
    → c' ≡ sent_back (heard c n v) p → (ended' ≡ true → c'.live ≡ false)
    → Keeps s c' last (Some v) session ended'
after_reset s c c' n v p last version session ended ended' k same e f = record {
  settings = ap (λ (c : Cache). c.settings) e ∙ k.settings;
  notify_from = ap (λ (c : Cache). c.notify_from) e ∙ k.notify_from;
  version = (ap (λ (c : Cache). c.asked) e, ap (λ (c : Cache). c.version) e);
  session = go session (ap (λ (c : Cache). c.told) e) (ap (λ (c : Cache). c.session) e) k.session;
  ended = f;
}
  where
    go : (o : Option ℕ) → c'.told ≡ c.told → c'.session ≡ p.session → IsSession c o
        → IsSession c' o
    go None a b w = tt
    go (Some x) a b w = (a ∙ w.0, b ∙ sym (same w.0) ∙ w.1)

ended_now : (s : CacheSettings) (c c' : Cache) (last version session : Option ℕ) (ended : Bool)
    → Keeps s c last version session ended → c' ≡ once_closed c
    → Keeps s c' last version session true
ended_now s c c' last version session ended k e = record {
  settings = ap (λ (c : Cache). c.settings) e ∙ k.settings;
  notify_from = ap (λ (c : Cache). c.notify_from) e ∙ k.notify_from;
  version = go version (ap (λ (c : Cache). c.asked) e) (ap (λ (c : Cache). c.version) e) k.version;
  session = told session (ap (λ (c : Cache). c.told) e) (ap (λ (c : Cache). c.session) e)
      k.session;
  ended = λ x. ap (λ (c : Cache). c.live) e;
}
  where
    go : (o : Option ℕ) → c'.asked ≡ c.asked → c'.version ≡ c.version → IsVersion c o
        → IsVersion c' o
    go None a b w = a ∙ w
    go (Some x) a b w = (a ∙ w.0, b ∙ w.1)

    told : (o : Option ℕ) → c'.told ≡ c.told → c'.session ≡ c.session → IsSession c o
        → IsSession c' o
    told None a b w = tt
    told (Some x) a b w = (a ∙ w.0, b ∙ w.1)

notified_now : (s : CacheSettings) (c c' : Cache) (n : ℕ) (p : Present)
    (last version session : Option ℕ) (ended : Bool) → Keeps s c last version session ended
    → c' ≡ record (informed c p) { notify_from = n + c.settings.pause }
    → Keeps s c' (Some n) version (Some p.session) ended
notified_now s c c' n p last version session ended k e = record {
  settings = ap (λ (c : Cache). c.settings) e ∙ k.settings;
  notify_from = ap (λ (c : Cache). c.notify_from) e
      ∙ ap (λ (s : CacheSettings). n + s.pause) k.settings;
  version = go version (ap (λ (c : Cache). c.asked) e) (ap (λ (c : Cache). c.version) e) k.version;
  session = (ap (λ (c : Cache). c.told) e, ap (λ (c : Cache). c.session) e);
  ended = λ x. ap (λ (c : Cache). c.live) e ∙ k.ended x;
}
  where
    go : (o : Option ℕ) → c'.asked ≡ c.asked → c'.version ≡ c.version → IsVersion c o
        → IsVersion c' o
    go None a b w = a ∙ w
    go (Some x) a b w = (a ∙ w.0, b ∙ w.1)

-- what holds after a step, and of it
record Steps (s : CacheSettings) (m : CacheMoment) (ms : List CacheMoment) (c' : Cache)
    : Type 0 where
  here : IsOrderlyHere s.pause m ms
  keeps :
      Keeps s c' (last_notify (m ∷ ms)) (answered_version (m ∷ ms)) (told_session (m ∷ ms))
      (has_ended (m ∷ ms))

abbrev KeepsTo : CacheSettings → List CacheMoment → Cache → Type 0
KeepsTo s ms c = Keeps s c (last_notify ms) (answered_version ms) (told_session ms) (has_ended ms)

abbrev pub moment : ℕ → Present → CacheEvent → Answer → CacheMoment
moment n p e a = record { now = n; present = p; event = e; answer = a }

alive : (c c' : Cache) (b : Bool) → c'.live ≡ c.live → (b ≡ true → c.live ≡ false)
    → b ≡ true → c'.live ≡ false
alive c c' b e f g = e ∙ f g

on_step : (s : CacheSettings) (n : ℕ) (p : Present) (e : CacheEvent) (a : Answer)
    (ms : List CacheMoment) (c c' : Cache) → KeepsTo s ms c → CacheRule c n p e a c'
    → Steps s (moment n p e a) ms c'
on_step s n p e answers.Wait ms c c' k w = record {
  here = record {
    notifies = tt;
    version = stays_itself (answered_version ms);
    session = stays_itself (told_session ms);
    silent = λ e. refl;
  };
  keeps = subst (λ (c : Cache). KeepsTo s ms c) (sym w.after) k;
}
on_step s n p e (answers.End x) ms c c' k w = record {
  here = record {
    notifies = tt;
    version = stays_itself (answered_version ms);
    session = stays_itself (told_session ms);
    silent = not_ended c (has_ended ms) (answers.End x ≡ answers.Wait) w.0 k.ended;
  };
  keeps = ended_now s c c' (last_notify ms) (answered_version ms) (told_session ms)
      (has_ended ms) k w.1.after;
}
on_step s n p (events.Came u kept) answers.All ms c c' k w = record {
  here = record {
    notifies = tt;
    version = same_version c u (answered_version ms) w.1.query.version k.version;
    session = same_session c p.session (told_session ms) w.1.query.session k.session;
    silent = not_ended c (has_ended ms) (answers.All ≡ answers.Wait) w.0 k.ended;
  };
  keeps = after_told s c c' n u.version p (last_notify ms) (answered_version ms)
      (told_session ms) (has_ended ms) (has_ended ms) k w.1.after
      (alive c c' (has_ended ms) (ap (λ (c : Cache). c.live) w.1.after) k.ended);
}
on_step s n p (events.Came u kept) (answers.Changes since) ms c c' k w = record {
  here = record {
    notifies = tt;
    version = same_version c u (answered_version ms) w.1.query.version k.version;
    session = same_session c p.session (told_session ms) w.1.query.session k.session;
    silent = not_ended c (has_ended ms) (answers.Changes since ≡ answers.Wait) w.0 k.ended;
  };
  keeps = after_told s c c' n u.version p (last_notify ms) (answered_version ms)
      (told_session ms) (has_ended ms) (has_ended ms) k w.1.after
      (alive c c' (has_ended ms) (ap (λ (c : Cache). c.live) w.1.after) k.ended);
}
on_step s n p (events.Came u kept) answers.Reset ms c c' k w = record {
  here = record {
    notifies = tt;
    version = same_version c u (answered_version ms) w.1.query.version k.version;
    session = stays_itself (told_session ms);
    silent = not_ended c (has_ended ms) (answers.Reset ≡ answers.Wait) w.0 k.ended;
  };
  keeps = after_reset s c c' n u.version p (last_notify ms) (answered_version ms)
      (told_session ms) (has_ended ms) (has_ended ms) k w.1.query.session w.1.after
      (alive c c' (has_ended ms) (ap (λ (c : Cache). c.live) w.1.after) k.ended);
}
on_step s n p (events.Came u kept) answers.NoData ms c c' k w = record {
  here = record {
    notifies = tt;
    version = same_version c u (answered_version ms) w.1.version k.version;
    session = stays_itself (told_session ms);
    silent = not_ended c (has_ended ms) (answers.NoData ≡ answers.Wait) w.0 k.ended;
  };
  keeps = after_heard s c c' n u.version (last_notify ms) (answered_version ms)
      (told_session ms) (has_ended ms) (has_ended ms) k w.1.after
      (alive c c' (has_ended ms) (ap (λ (c : Cache). c.live) w.1.after) k.ended);
}
on_step s n p events.Tick answers.Notify ms c c' k w = record {
  here = record {
    notifies = notified_well s.pause n c.notify_from (last_notify ms) (answered_version ms)
        k.notify_from w.1.pause (some_version c (answered_version ms) w.1.asked k.version);
    version = stays_itself (answered_version ms);
    session = same_session c p.session (told_session ms)
        (λ t. w.1.session (told_advised c t)) k.session;
    silent = not_ended c (has_ended ms) (answers.Notify ≡ answers.Wait) w.0 k.ended;
  };
  keeps = notified_now s c c' n p (last_notify ms) (answered_version ms) (told_session ms)
      (has_ended ms) k w.1.after;
}
on_step s n p _ _ ms c c' k w = absurd w

first : (s : CacheSettings) (c : Cache) → IsNewConnection s c → KeepsTo s [] c
first s c w = record {
  settings = w.settings;
  notify_from = w.notify_from;
  version = w.asked;
  session = tt;
  ended = λ e. cc;
}

record Both (s : CacheSettings) (ms : List CacheMoment) (c : Cache) : Type 0 where
  orderly : IsOrderly s.pause ms
  keeps : KeepsTo s ms c

both : (s : CacheSettings) (ms : List CacheMoment) (c : Cache) → IsAllowedConnection s ms c
    → Both s ms c
both s ms c (connection_begins c₀ w) = record { orderly = tt; keeps = first s c₀ w }
both s ms c (connection_goes_on m ms₀ c₀ c₁ run step) =
    let b : Both s ms₀ c₀ = both s ms₀ c₀ run in
    let x : Steps s m ms₀ c₁ =
    on_step s m.now m.present m.event m.answer ms₀ c₀ c₁ b.keeps step in
    record { orderly = (x.here, b.orderly); keeps = x.keeps }

pub orderly : (s : CacheSettings) (ms : List CacheMoment) (c : Cache) → IsAllowedConnection s ms c
    → IsOrderly s.pause ms
orderly s ms c run = (both s ms c run).orderly
