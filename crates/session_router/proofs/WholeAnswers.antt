-- What is shown is what a whole answer made: an invariant of the run, by what the router did last.
use Rattle.std.proofs.Common.{◌≡◌, ◌≢◌, ◌⊎◌, ℕ, Bool, true, false, ◌+◌, ◌<◌, ◌≤◌, if◌then◌else◌}
use Rattle.std.proofs.Common.{Option, Some, None, List, [], ◌∷◌, ◌++◌, refl, sym, ap, ap₂, ◌∙◌}
use Rattle.std.proofs.Common.{subst, inl, inr, arith, min}
use Rattle.std.specs.declared.cmp.Ordering.TheVariants.{Less}
use Rattle.rtr_base.specs.Serial.{serial_cmp}
use Rattle.session_router.specs.declared.head.Head.{Head}
use Rattle.session_router.specs.declared.head.Known.{Known}
use Rattle.session_router.specs.declared.head.Query.{Query}
use Rattle.session_router.specs.declared.settings.Settings.{Settings}
use Rattle.session_router.specs.declared.router.Router.{Router}
use Rattle.session_router.specs.declared.router.Phase.{Phase}
use Rattle.session_router.specs.declared.router.Phase.TheVariants as phases
use Rattle.session_router.specs.declared.event.Event.{Event}
use Rattle.session_router.specs.declared.event.Event.TheVariants as events
use Rattle.session_router.specs.declared.event.Action.{Action}
use Rattle.session_router.specs.declared.event.Action.TheVariants as actions
use Rattle.session_router.specs.declared.event.Ending.{Ending}
use Rattle.session_router.specs.Rules.{Adopts, Asks, AsksOwn, Begins, Closes, Completes, Drops}
use Rattle.session_router.specs.Rules.{Fresh}
use Rattle.session_router.specs.Rules.{Keeps, PassesOver, Rule, SameKnown, Waits, query}
use Rattle.session_router.specs.Times.{expire_ms, expires_at_show}
use Rattle.session_router.specs.Histories.{Caller, HistoryHas, Host, IsAnswered, IsOut}
use Rattle.session_router.specs.Histories.{IsRead, IsHistory}
use Rattle.session_router.specs.Histories.{IsStill, WasAnswered, LeavesData, MaySay, Moment, at}
use Rattle.session_router.specs.Histories.{Made, empty_host}
use Rattle.session_router.specs.Histories.{host_after}
use Rattle.session_router.specs.Histories.IsOut.{was_asked, still_out}
use Rattle.session_router.specs.Histories.IsRead.{was_begun, was_kept, still_read}
use Rattle.session_router.specs.Histories.WasAnswered.{was_ended, still_whole}
use Rattle.session_router.specs.Histories.HistoryHas.{made_anew, made_of, still_had}
use Rattle.session_router.specs.Safety.{IsAllowed}
use Rattle.session_router.specs.Safety.IsAllowed.{allowed_begins, allowed_on}
use Rattle.session_router.proofs.Allowed.{allowed, settled_allowed}

-- the query that is out is the router's, and about the data that it has
pub record IsOf (q : Query) (r : Router) : Type 0 where
  pub changes : q.changes ≡ r.changes
  pub has_data : r.changes ≡ true → r.has_data ≡ true
  pub session : r.changes ≡ true → q.session ≡ r.known.session
  pub serial : r.changes ≡ true → q.serial ≡ r.known.serial
  pub version : r.changes ≡ true → q.version ≡ r.known.version

-- an answer to it is of the version and the session of the data
pub record IsOwn (r : Router) (v s : ℕ) : Type 0 where
  pub version : r.changes ≡ true → v ≡ r.known.version
  pub session : r.changes ≡ true → s ≡ r.known.session

pub record AtAsked {B : Type 0} (ms : List (Moment B)) (r : Router) : Type 0 where
  pub q : Query
  pub out : IsOut q ms
  pub of : IsOf q r
  pub own : r.changes ≡ true → r.version ≡ r.known.version

pub record AtReading {B D : Type 0} (ms : List (Moment B)) (r : Router) (h : Host B D) :
    Type 0 where
  pub q : Query
  pub read : IsRead q r.version r.session ms h.kept
  pub of : IsOf q r
  pub own : IsOwn r r.version r.session

pub record AtApplying {B D : Type 0} (c : Caller B D) (ms : List (Moment B)) (r : Router)
    (h : Host B D) : Type 0 where
  pub q : Query
  pub last : B
  pub whole : WasAnswered q r.answer r.came ms h.kept last
  pub made : h.made ≡ c.make (if r.changes then h.shown else None) h.kept last
  pub of : IsOf q r
  pub own : IsOwn r r.answer.version r.answer.session
  pub order : r.changes ≡ true → serial_cmp r.answer.serial r.known.serial ≢ Some Less

abbrev At : {B D : Type 0} → Caller B D → List (Moment B) → Router → Host B D → Phase → Type 0
At c ms r h phases.Offline = Unit {0}
At c ms r h phases.Connecting = Unit {0}
At c ms r h phases.Asked = AtAsked ms r
At c ms r h phases.Reading = AtReading ms r h
At c ms r h phases.Applying = AtApplying c ms r h
At c ms r h phases.Waiting = Unit {0}

pub record HasNow {B D : Type 0} (c : Caller B D) (ms : List (Moment B)) (r : Router)
    (h : Host B D) :
    Type 0 where
  pub has_data : r.has_data ≡ true
  pub since : ℕ
  pub value : D
  pub shows : h.shown ≡ Some value
  pub has : HistoryHas c.settings (Made c) ms r.known since value
  pub expires : r.expires ≤ since + expire_ms c.settings r.known

pub record HasNot {B D : Type 0} (r : Router) (h : Host B D) : Type 0 where
  pub has_data : r.has_data ≡ false
  pub shows : h.shown ≡ None

abbrev Shows : {B D : Type 0} → Caller B D → List (Moment B) → Router → Host B D → Type 0
Shows c ms r h = HasNot r h ⊎ HasNow c ms r h

pub record Holds {B D : Type 0} (c : Caller B D) (ms : List (Moment B)) (r : Router)
    (h : Host B D) :
    Type 0 where
  pub has : Shows c ms r h
  pub talk : At c ms r h r.phase

-- ---- phases

lt_le : (a b c : ℕ) → a < b → b ≤ c → a < c
lt_le a b c p q = omega arith

le_self : (n : ℕ) → n ≤ n
le_self n = omega arith

-- ---- data

expiry : {B D : Type 0} (c : Caller B D) (n a b t : ℕ) (k k' : Known) → n < b → b ≡ a → k' ≡ k
    → a ≤ t + expire_ms c.settings k → n < t + expire_ms c.settings k
expiry c n a b t k k' p e f q = lt_le n a (t + expire_ms c.settings k) (subst (λ x. n < x) e p) q

-- data that nothing touches stay, until they expire
stay : {B D : Type 0} (c : Caller B D) (n : ℕ) (b : B) (e : Event) (a : Action)
    (ms : List (Moment B)) (r r' : Router)
    (h h' : Host B D) → SameKnown r r' → h'.shown ≡ h.shown → LeavesData a → Fresh r' n
    → Shows c ms r h
    → Shows c (at n e b a ∷ ms) r' h'
stay c n b e a ms r r' h h' same shown leaves fresh (inl x) = inl
    (record { has_data = same.has_data ∙ x.has_data; shows = shown ∙ x.shows })
stay {B = B} c n b e a ms r r' h h' same shown leaves fresh (inr x) =
    let has_now : r'.has_data ≡ true = same.has_data ∙ x.has_data in
    let soon : n < x.since + expire_ms c.settings r.known = expiry c n r.expires r'.expires x.since
    r.known r'.known (fresh has_now) same.expires same.known x.expires in
    let m : Moment B = at n e b a in
    inr (record {
      has_data = has_now;
      since = x.since;
      value = x.value;
      shows = shown ∙ x.shows;
      has = subst (λ k. HistoryHas c.settings (Made c) (m ∷ ms) k x.since x.value) (sym same.known)
          (still_had n b e a ms r.known x.since x.value x.has leaves soon);
      expires = subst (λ k. r'.expires ≤ x.since + expire_ms c.settings k) (sym same.known)
          (subst (λ t. t ≤ x.since + expire_ms c.settings r.known) (sym same.expires) x.expires);
    })

is_of : (q : Query) (r r' : Router) → SameKnown r r' → r'.changes ≡ r.changes → IsOf q r → IsOf q r'
is_of q r r' same serial x = record {
  changes = x.changes ∙ sym serial;
  has_data = λ p. same.has_data ∙ x.has_data (sym serial ∙ p);
  session = λ p. x.session (sym serial ∙ p) ∙ ap (λ (k : Known). k.session) (sym same.known);
  serial = λ p. x.serial (sym serial ∙ p) ∙ ap (λ (k : Known). k.serial) (sym same.known);
  version = λ p. x.version (sym serial ∙ p) ∙ ap (λ (k : Known). k.version) (sym same.known);
}

is_own : (r r' : Router) (v s v' s' : ℕ) → SameKnown r r' → r'.changes ≡ r.changes → v' ≡ v → s' ≡ s
    → IsOwn r v s → IsOwn r' v' s'
is_own r r' v s v' s' same serial ve se x = record {
  version = λ p. ve ∙ x.version (sym serial ∙ p) ∙ ap (λ (k : Known). k.version) (sym same.known);
  session = λ p. se ∙ x.session (sym serial ∙ p) ∙ ap (λ (k : Known). k.session) (sym same.known);
}

in_order : (r r' : Router) (n n' : ℕ) → SameKnown r r' → r'.changes ≡ r.changes → n' ≡ n
    → (r.changes ≡ true → serial_cmp n r.known.serial ≢ Some Less) → r'.changes ≡ true
    → serial_cmp n' r'.known.serial ≢ Some Less
in_order r r' n n' same serial ne x p e =
    x (sym serial ∙ p) (ap₂ serial_cmp (sym ne) (ap (λ (k : Known). k.serial) (sym same.known)) ∙ e)

-- ---- what may be passed over

-- where a query or its answer is under way
pub data IsBusy (p : Phase) : Type 0 where
  asked : p ≡ phases.Asked → IsBusy p
  reading : p ≡ phases.Reading → IsBusy p
  applying : p ≡ phases.Applying → IsBusy p

not_offline : (p : Phase) → IsBusy p → p ≢ phases.Offline
not_offline p (asked e) f = cc
not_offline p (reading e) f = cc
not_offline p (applying e) f = cc

not_connecting : (p : Phase) → IsBusy p → p ≢ phases.Connecting
not_connecting p (asked e) f = cc
not_connecting p (reading e) f = cc
not_connecting p (applying e) f = cc

still : {B D : Type 0} (r : Router) (h : Host B D) (e : Event) → IsBusy r.phase → MaySay r h e
    → PassesOver r e
    → IsStill e
still r h (events.Came u) p said (inl x) = absurd (not_offline r.phase p x)
still r h (events.Came u) p said (inr (inl x)) = absurd (not_connecting r.phase p x)
still r h (events.Came u) p said (inr (inr x)) = x.1
still r h events.Lost p said x = absurd (not_offline r.phase p x)
still r h events.Asked p said x = tt
still r h (events.Faulty f) p said (inl x) = absurd (not_offline r.phase p x)
still r h (events.Faulty f) p said (inr x) = absurd (not_connecting r.phase p x)
still r h events.Tick p said x = tt
still r h events.Connected p said x = absurd (not_connecting r.phase p said)
still r h events.Applied p said x = tt
still r h (events.NotApplied code) p said x = tt

-- ---- each action

wait_at : {B D : Type 0} (c : Caller B D) (n : ℕ) (b : B) (e : Event) (ms : List (Moment B))
    (r r' : Router) (h : Host B D)
    (p : Phase) → r.phase ≡ p → MaySay r h e → Waits r e r' → At c ms r h p
    → At c (at n e b actions.Wait ∷ ms) r' h p
wait_at c n b e ms r r' h phases.Offline pe said w x = tt
wait_at c n b e ms r r' h phases.Connecting pe said w x = tt
wait_at c n b e ms r r' h phases.Waiting pe said w x = tt
wait_at c n b e ms r r' h phases.Asked pe said w x = record {
  q = x.q;
  out = still_out n b e ms (still r h e (asked pe) said w.passes) x.out;
  of = is_of x.q r r' w.same w.talk.changes x.of;
  own = λ p. w.talk.version ∙ x.own (sym w.talk.changes ∙ p) ∙ ap (λ (k : Known). k.version)
      (sym w.same.known);
}
wait_at {B = B} c n b e ms r r' h phases.Reading pe said w x =
    let m : Moment B = at n e b actions.Wait in
    let on : IsRead x.q r.version r.session (m ∷ ms) h.kept =
    still_read n b e ms h.kept (still r h e (reading pe) said w.passes) x.read in
    record {
      q = x.q;
      read = subst (λ v. IsRead x.q v r'.session (m ∷ ms) h.kept) (sym w.talk.version)
          (subst (λ s. IsRead x.q r.version s (m ∷ ms) h.kept) (sym w.talk.session) on);
      of = is_of x.q r r' w.same w.talk.changes x.of;
      own = is_own r r' r.version r.session r'.version r'.session w.same w.talk.changes
          w.talk.version w.talk.session x.own;
    }
wait_at {B = B} c n b e ms r r' h phases.Applying pe said w x =
    let m : Moment B = at n e b actions.Wait in
    record {
      q = x.q;
      last = x.last;
      whole = subst (λ k. WasAnswered x.q k r'.came (m ∷ ms) h.kept x.last) (sym w.talk.answer)
          (subst (λ t. WasAnswered x.q r.answer t (m ∷ ms) h.kept x.last) (sym w.talk.came)
          (still_whole n b e ms h.kept x.last (still r h e (applying pe) said w.passes) x.whole));
      made = x.made ∙ ap (λ (s : Bool). c.make (if s then h.shown else None) h.kept x.last)
          (sym w.talk.changes);
      of = is_of x.q r r' w.same w.talk.changes x.of;
      own = is_own r r' r.answer.version r.answer.session r'.answer.version r'.answer.session w.same
          w.talk.changes (ap (λ (k : Known). k.version) w.talk.answer)
          (ap (λ (k : Known). k.session) w.talk.answer) x.own;
      order = in_order r r' r.answer.serial r'.answer.serial w.same w.talk.changes
          (ap (λ (k : Known). k.serial) w.talk.answer) x.order;
    }

on_wait : {B D : Type 0} (c : Caller B D) (n : ℕ) (b : B) (e : Event) (ms : List (Moment B))
    (r r' : Router) (h : Host B D)
    → MaySay r h e → Waits r e r' → Fresh r' n → Holds c ms r h
    → Holds c (at n e b actions.Wait ∷ ms) r' h
on_wait {B = B} c n b e ms r r' h said w fresh x =
    let m : Moment B = at n e b actions.Wait in
    record {
      has = stay c n b e actions.Wait ms r r' h h w.same refl tt fresh x.has;
      talk = subst (λ p. At c (m ∷ ms) r' h p) (sym w.talk.phase)
          (wait_at c n b e ms r r' h r.phase refl said w x.talk);
    }

-- at rest nothing has to be known of an answer
at_rest : {B D : Type 0} (c : Caller B D) (ms : List (Moment B)) (r : Router) (h : Host B D)
    (p : Phase) → r.phase ≡ p
    → At c ms r h p → At c ms r h r.phase
at_rest c ms r h p e x = subst (λ p. At c ms r h p) (sym e) x

on_ask : {B D : Type 0} (c : Caller B D) (n : ℕ) (b : B) (e : Event) (q : Query)
    (ms : List (Moment B)) (r r' : Router)
    (h : Host B D) → Asks r n e q r' → Fresh r' n → Holds c ms r h
    → Holds c (at n e b (actions.Ask q) ∷ ms) r' h
on_ask {B = B} c n b e q ms r r' h w fresh x =
    let m : Moment B = at n e b (actions.Ask q) in
    let same_query : (s : Bool) → r'.changes ≡ s → IsOf q r' = asked_of q r' w.query w.own in
    record {
      has = stay c n b e (actions.Ask q) ms r r' h h w.same refl tt fresh x.has;
      talk = at_rest c (m ∷ ms) r' h phases.Asked w.phase (record {
        q = q;
        out = was_asked n b e ms;
        of = same_query r'.changes refl;
        own = λ p. sym (w.own p).version;
      });
    }
  where
    asked_of : (q : Query) (r : Router) → q ≡ query r → (r.changes ≡ true → AsksOwn r) → (s : Bool)
        → r.changes ≡ s → IsOf q r
    asked_of q r e own true s = let q_is : q ≡ record
        { changes = true; version = r.version; session = r.known.session; serial = r.known.serial }
        = e ∙ ap (λ (c : Bool). if c then record
        { changes = true; version = r.version; session = r.known.session; serial = r.known.serial }
        else record { changes = false; version = r.version; session = 0; serial = 0 }) s in record {
          changes = ap (λ (q : Query). q.changes) q_is ∙ sym s;
          has_data = λ p. (own p).has_data;
          session = λ p. ap (λ (q : Query). q.session) q_is;
          serial = λ p. ap (λ (q : Query). q.serial) q_is;
          version = λ p. ap (λ (q : Query). q.version) q_is ∙ sym (own p).version;
        }
    asked_of q r e own false s = let q_is : q ≡ record
        { changes = false; version = r.version; session = 0; serial = 0 } =
        e ∙ ap (λ (c : Bool). if c then record
        { changes = true; version = r.version; session = r.known.session; serial = r.known.serial }
        else record { changes = false; version = r.version; session = 0; serial = 0 }) s in record {
          changes = ap (λ (q : Query). q.changes) q_is ∙ sym s;
          has_data = λ p. cc;
          session = λ p. cc;
          serial = λ p. cc;
          version = λ p. cc;
        }

on_begin : {B D : Type 0} (c : Caller B D) (n : ℕ) (b : B) (u : Head) (ms : List (Moment B))
    (r r' : Router) (h : Host B D)
    → Begins r u r' → Fresh r' n → Holds c ms r h
    → Holds c (at n (events.Came u) b actions.Begin ∷ ms) r'
    (record { kept = []; made = h.made; shown = h.shown })
on_begin {B = B} {D = D} c n b u ms r r' h w fresh x =
    let m : Moment B = at n (events.Came u) b actions.Begin in
    let h' : Host B D = record { kept = []; made = h.made; shown = h.shown } in
    let y : AtAsked ms r = subst (λ p. At c ms r h p) w.from x.talk in
    record {
      has = stay c n b (events.Came u) actions.Begin ms r r' h h' w.same refl tt fresh x.has;
      talk = at_rest c (m ∷ ms) r' h' phases.Reading w.phase (record {
        q = y.q;
        read = was_begun n b u ms y.out w.kind (sym w.version) (sym w.session);
        of = is_of y.q r r' w.same w.changes y.of;
        own = record {
          version = λ p. w.version ∙ w.may.changes (sym w.changes ∙ p) ∙ y.own (sym w.changes ∙ p) ∙
              ap (λ (k : Known). k.version) (sym w.same.known);
          session = λ p. w.session ∙ w.own (sym w.changes ∙ p) ∙ ap (λ (k : Known). k.session)
              (sym w.same.known);
        };
      });
    }

on_keep : {B D : Type 0} (c : Caller B D) (n : ℕ) (b : B) (u : Head) (ms : List (Moment B))
    (r r' : Router) (h : Host B D)
    → Keeps r u r' → Fresh r' n → Holds c ms r h
    → Holds c (at n (events.Came u) b actions.Keep ∷ ms) r'
    (record { kept = h.kept ++ b ∷ []; made = h.made; shown = h.shown })
on_keep {B = B} {D = D} c n b u ms r r' h w fresh x =
    let m : Moment B = at n (events.Came u) b actions.Keep in
    let h' : Host B D = record { kept = h.kept ++ b ∷ []; made = h.made; shown = h.shown } in
    let y : AtReading ms r h = subst (λ p. At c ms r h p) w.phase x.talk in
    let on : IsRead y.q r.version r.session (m ∷ ms) h'.kept = was_kept n b u ms h.kept y.read
    w.kind w.version in
    record {
      has = stay c n b (events.Came u) actions.Keep ms r r' h h' w.same refl tt fresh x.has;
      talk = at_rest c (m ∷ ms) r' h' phases.Reading (w.talk.phase ∙ w.phase) (record {
        q = y.q;
        read = subst (λ v. IsRead y.q v r'.session (m ∷ ms) h'.kept) (sym w.talk.version)
            (subst (λ s. IsRead y.q r.version s (m ∷ ms) h'.kept) (sym w.talk.session) on);
        of = is_of y.q r r' w.same w.talk.changes y.of;
        own = is_own r r' r.version r.session r'.version r'.session w.same w.talk.changes
            w.talk.version w.talk.session y.own;
      });
    }

on_apply : {B D : Type 0} (c : Caller B D) (n : ℕ) (b : B) (u : Head) (on : Bool)
    (ms : List (Moment B)) (r r' : Router)
    (h : Host B D) → Completes r n u on r' → Fresh r' n → Holds c ms r h
    → Holds c (at n (events.Came u) b (actions.Apply on) ∷ ms) r'
    (record {
      kept = h.kept;
      made = c.make (if on then h.shown else None) h.kept b;
      shown = h.shown;
    })
on_apply {B = B} {D = D} c n b u on ms r r' h w fresh x =
    let m : Moment B = at n (events.Came u) b (actions.Apply on) in
    let h' : Host B D = record {
      kept = h.kept;
      made = c.make (if on then h.shown else None) h.kept b;
      shown = h.shown;
    } in
    let y : AtReading ms r h = subst (λ p. At c ms r h p) w.from x.talk in
    let on_is : y.q.changes ≡ on = y.of.changes ∙ sym w.base in
    let read : IsRead y.q u.version u.session ms h.kept =
    subst (λ v. IsRead y.q v u.session ms h.kept) (sym w.version)
    (subst (λ s. IsRead y.q r.version s ms h.kept) (sym w.session) y.read) in
    record {
      has = stay c n b (events.Came u) (actions.Apply on) ms r r' h h' w.same refl tt fresh x.has;
      talk = at_rest c (m ∷ ms) r' h' phases.Applying w.phase (record {
        q = y.q;
        last = b;
        whole = subst (λ (on : Bool). WasAnswered y.q r'.answer r'.came
            (at n (events.Came u) b (actions.Apply on) ∷ ms) h.kept b) on_is
            (was_ended n b u ms h.kept read w.kind w.answer w.came);
        made = ap (λ (s : Bool). c.make (if s then h.shown else None) h.kept b)
            (w.base ∙ sym w.same_changes);
        of = is_of y.q r r' w.same w.same_changes y.of;
        own = is_own r r' r.version r.session r'.answer.version r'.answer.session w.same
            w.same_changes (ap (λ (k : Known). k.version) w.answer ∙ w.version)
            (ap (λ (k : Known). k.session) w.answer ∙ w.session) y.own;
        order = in_order r r' u.serial r'.answer.serial w.same w.same_changes
            (ap (λ (k : Known). k.serial) w.answer) w.order;
      });
    }

-- what the changes of a whole answer made
shown_now : {B D : Type 0} (c : Caller B D) (n : ℕ) (b : B) (ms : List (Moment B))
    (r r' : Router) (h : Host B D) (d : D) (s : Bool)
    → r.changes ≡ s → h.made ≡ Some d → AtApplying c ms r h → Shows c ms r h
    → n < r.came + expire_ms c.settings r.answer
    → HistoryHas c.settings (Made c) (at n events.Applied b actions.Show ∷ ms) r.answer r.came d
shown_now c n b ms r r' h d false s m y x soon =
    made_anew n b ms y.q r.answer r.came h.kept y.last d (y.of.changes ∙ s) y.whole
    (ap (λ (s : Bool). c.make (if s then h.shown else None) h.kept y.last) (sym s) ∙ sym y.made ∙ m)
    soon
shown_now c n b ms r r' h d true s m y (inl x) soon = let no : r.has_data ≡ false =
    x.has_data in let some : r.has_data ≡ true = y.of.has_data s in cc
shown_now {D = D} c n b ms r r' h d true s m y (inr x) soon =
    made_of n b ms y.q r.answer r.came h.kept y.last d r.known x.since x.value x.has
    (record {
      changes = y.of.changes ∙ s;
      session = y.of.session s;
      serial = y.of.serial s;
      version = y.of.version s;
      new_session = y.own.session s;
      new_version = y.own.version s;
      order = y.order s;
    })
    y.whole
    (ap (λ (o : Option D). c.make o h.kept y.last) (sym x.shows) ∙ ap
    (λ (s : Bool). c.make (if s then h.shown else None) h.kept y.last) (sym s) ∙ sym y.made ∙ m)
    soon

later : {B D : Type 0} (c : Caller B D) (n : ℕ) (r r' : Router) → r.settings ≡ c.settings
    → r'.known ≡ r.answer
    → r'.expires ≡ expires_at_show r n
    → r'.expires ≤ r.came + expire_ms c.settings r'.known
later c n r r' s k e =
    least r.came n (expire_ms c.settings r'.known) r'.expires
    (e ∙ ap (λ (x : Settings). min r.came n + expire_ms x r.answer) s ∙ ap
    (λ (x : Known). min r.came n + expire_ms c.settings x) (sym k))
  where
    least : (t n x d : ℕ) → d ≡ min t n + x → d ≤ t + x
    least t n x d e = omega arith

on_show : {B D : Type 0} (c : Caller B D) (n : ℕ) (b : B) (ms : List (Moment B))
    (r r' : Router) (h : Host B D)
    → r.settings ≡ c.settings → (d : D) × (h.made ≡ Some d) → Adopts r n r' → Fresh r' n
    → Holds c ms r h → Holds c (at n events.Applied b actions.Show ∷ ms) r'
    (record { kept = h.kept; made = h.made; shown = h.made })
on_show {B = B} {D = D} c n b ms r r' h s said w fresh x =
    let m : Moment B = at n events.Applied b actions.Show in
    let h' : Host B D = record { kept = h.kept; made = h.made; shown = h.made } in
    let y : AtApplying c ms r h = subst (λ p. At c ms r h p) w.from x.talk in
    let soon : r'.expires ≤ r.came + expire_ms c.settings r'.known =
    later c n r r' s w.known w.expires in
    let has : HistoryHas c.settings (Made c) (m ∷ ms) r.answer r.came said.0 =
    shown_now c n b ms r r' h said.0 r.changes
    refl said.1 y x.has (subst (λ (k : Known). n < r.came + expire_ms c.settings k) w.known
    (lt_le n r'.expires (r.came + expire_ms c.settings r'.known) (fresh w.has_data) soon)) in
    record {
      has = inr (record {
        has_data = w.has_data;
        since = r.came;
        value = said.0;
        shows = said.1;
        has = subst (λ k. HistoryHas c.settings (Made c) (m ∷ ms) k r.came said.0) (sym w.known)
            has;
        expires = soon;
      });
      talk = at_rest c (m ∷ ms) r' h' phases.Waiting w.phase tt;
    }

on_end : {B D : Type 0} (c : Caller B D) (n : ℕ) (b : B) (e : Event) (x : Ending)
    (ms : List (Moment B)) (r r' : Router)
    (h : Host B D) → Closes r e x r' → Fresh r' n → Holds c ms r h
    → Holds c (at n e b (actions.End x) ∷ ms) r'
    (record { kept = h.kept; made = h.made; shown = if x.drop then None else h.shown })
on_end c n b e x ms r r' h w fresh y = record {
  has = go x.drop refl w.data_then;
  talk = at_rest c (at n e b (actions.End x) ∷ ms) r'
      (record { kept = h.kept; made = h.made; shown = if x.drop then None else h.shown })
      phases.Offline w.phase tt;
}
  where
    go : (d : Bool) → x.drop ≡ d → Drops d r r'
        → Shows c (at n e b (actions.End x) ∷ ms) r'
        (record { kept = h.kept; made = h.made; shown = if d then None else h.shown })
    go true p drops = inl (record { has_data = drops.has_data; shows = refl })
    go false p drops = stay c n b e (actions.End x) ms r r' h
        (record { kept = h.kept; made = h.made; shown = h.shown }) drops refl p fresh y.has

on_rest : {B D : Type 0} (c : Caller B D) (n : ℕ) (b : B) (e : Event) (a : Action) (p : Phase)
    (ms : List (Moment B))
    (r r' : Router) (h : Host B D) → SameKnown r r' → r'.phase ≡ p → At c (at n e b a ∷ ms) r' h p
    → LeavesData a → Fresh r' n → Holds c ms r h → Holds c (at n e b a ∷ ms) r' h
on_rest c n b e a p ms r r' h same phase there leaves fresh x = record {
  has = stay c n b e a ms r r' h h same refl leaves fresh x.has;
  talk = at_rest c (at n e b a ∷ ms) r' h p phase there;
}

-- one step
step : {B D : Type 0} (c : Caller B D) (n : ℕ) (b : B) (e : Event) (a : Action)
    (ms : List (Moment B)) (r r' : Router) (h : Host B D)
    → r.settings ≡ c.settings → Holds c ms r h → MaySay r h e → Rule r n e a r' → Fresh r' n
    → Holds c (at n e b a ∷ ms) r' (host_after c h b a)
step c n b e actions.Wait ms r r' h s x said rule fresh = on_wait c n b e ms r r' h said rule
    fresh x
step c n b e (actions.Ask q) ms r r' h s x said rule fresh = on_ask c n b e q ms r r' h rule
    fresh x
step c n b e (actions.End end) ms r r' h s x said rule fresh =
    on_end c n b e end ms r r' h rule fresh x
step c n b e actions.Drop ms r r' h s x said rule fresh = record {
  has = inl (record { has_data = rule.lost.has_data; shows = refl });
  talk = at_rest c (at n e b actions.Drop ∷ ms) r'
      (record { kept = h.kept; made = h.made; shown = None }) phases.Offline rule.phase tt;
}
step c n b events.Tick actions.Connect ms r r' h s x said rule fresh =
    on_rest c n b events.Tick actions.Connect phases.Connecting ms r r' h rule.same rule.phase tt tt
    fresh x
step c n b (events.Came u) actions.Begin ms r r' h s x said rule fresh =
    on_begin c n b u ms r r' h rule fresh x
step c n b (events.Came u) actions.Keep ms r r' h s x said rule fresh =
    on_keep c n b u ms r r' h rule fresh x
step c n b (events.Came u) (actions.Apply on) ms r r' h s x said rule fresh =
    on_apply c n b u on ms r r' h rule fresh x
step c n b (events.Came u) actions.NoData ms r r' h s x said rule fresh =
    on_rest c n b (events.Came u) actions.NoData phases.Waiting ms r r' h rule.same rule.phase tt tt
    fresh x
step c n b events.Applied actions.Show ms r r' h s x said rule fresh =
    on_show c n b ms r r' h s said rule fresh x
step c n b _ _ ms r r' h s x said rule fresh = absurd rule

holds : {B D : Type 0} (c : Caller B D) (ms : List (Moment B)) (r : Router) (h : Host B D)
    → IsAllowed c ms r h
    → Holds c ms r h
holds c ms r h (allowed_begins r₀ new) = record {
  has = inl (record { has_data = new.has_data; shows = refl });
  talk = at_rest c [] r₀ empty_host phases.Offline new.phase tt;
}
holds c ms r h (allowed_on n b e a r' ms₀ r₀ h₀ run said went) =
    step c n b e a ms₀ r₀ r' h₀ (settled_allowed c ms₀ r₀ h₀ run) (holds c ms₀ r₀ h₀ run) said
    went.rule went.fresh

answered : {B D : Type 0} (c : Caller B D) (ms : List (Moment B)) (r : Router) (h : Host B D)
    → Shows c ms r h
    → (h.shown ≡ None) ⊎ IsAnswered c ms r.known h.shown
answered c ms r h (inl x) = inl x.shows
answered c ms r h (inr x) = inr (record {
  since = x.since;
  value = x.value;
  shows = x.shows;
  has =
      x.has;
})

abbrev pub HasForChanges : Phase → Router → Type 0
HasForChanges phases.Asked r = r.changes ≡ true → r.has_data ≡ true
HasForChanges phases.Reading r = r.changes ≡ true → r.has_data ≡ true
HasForChanges phases.Applying r = r.changes ≡ true → r.has_data ≡ true
HasForChanges _ r = Unit {0}

pub whole_answers_allowed : {B D : Type 0} (c : Caller B D) (ms : List (Moment B)) (r : Router)
    (h : Host B D) → IsAllowed c ms r h
    → (h.shown ≡ None) ⊎ IsAnswered c ms r.known h.shown
whole_answers_allowed c ms r h run = answered c ms r h (holds c ms r h run).has

pub whole_answers : {B D : Type 0} (c : Caller B D) (ms : List (Moment B)) (r : Router)
    (h : Host B D) → IsHistory c ms r h
    → (h.shown ≡ None) ⊎ IsAnswered c ms r.known h.shown
whole_answers c ms r h run = whole_answers_allowed c ms r h (allowed c ms r h run)

-- a serial query is about data that are there
pub has_for_changes : {B D : Type 0} (p : Phase) (c : Caller B D) (ms : List (Moment B))
    (r : Router) (h : Host B D) → IsHistory c ms r h → r.phase ≡ p → HasForChanges p r
has_for_changes p c ms r h run e =
    go p e (subst (λ (p : Phase). At c ms r h p) e (holds c ms r h (allowed c ms r h run)).talk)
  where
    go : (p : Phase) → r.phase ≡ p → At c ms r h p → HasForChanges p r
    go phases.Offline e x = tt
    go phases.Connecting e x = tt
    go phases.Waiting e x = tt
    go phases.Asked e x = x.of.has_data
    go phases.Reading e x = x.of.has_data
    go phases.Applying e x = x.of.has_data
