-- The laws for a cache whose data are a function of version, session and serial number, which is
-- right at each name, also at those that the cache never had. They were stated so before; laws.rt
-- says more, since it speaks only of the data that the cache had.
use Rattle.std.proofs.Common.{◌≡◌, ℕ, Bool, true, false, ◌+◌, ◌≤◌, max, List, [], ◌∷◌}
use Rattle.std.proofs.Common.{Option, Some, None, if◌then◌else◌, sym, ap, ◌∙◌, subst, ◌==◌}
use Rattle.std.specs.Prelude.{◌&&◌, ◌||◌}
use Rattle.session_router.specs.declared.head.Head.{Head}
use Rattle.session_router.specs.declared.head.Kind.{Kind}
use Rattle.session_router.specs.declared.head.Kind.TheVariants as kinds
use Rattle.session_router.specs.declared.router.Router.{Router}
use Rattle.session_router.specs.declared.router.Phase.TheVariants as phases
use Rattle.session_router.specs.declared.event.Event.TheVariants as events
use Rattle.session_router.specs.declared.event.Action.{Action}
use Rattle.session_router.specs.declared.event.Action.TheVariants as actions
use Rattle.session_router.specs.Recovery.{served_until, time_needed}
use Rattle.session_router.specs.Rules.{Fresh, IsPayloadOf}
use Rattle.session_router.specs.Step.{IsInTime, IsStep}
use Rattle.session_cache.specs.declared.cache.Cache.{Cache}
use Rattle.session_cache.specs.declared.event.Answer.{Answer}
use Rattle.session_cache.specs.declared.event.Answer.TheVariants as answers
use Rattle.session_cache.specs.declared.event.CacheEvent.TheVariants as told
use Rattle.session_cache.specs.declared.event.Present.{Present}
use Rattle.session_cache.specs.CacheRules.{IsQuery}
use Rattle.session_cache.specs.CacheSteps.{IsCacheStep}
use Rattle.session_cache.specs.Calm.{IsAtRest, IsCalm, IsToldOfNews, ShowsPresent}
use Rattle.session_cache.specs.Worlds.{Agrees, AreChangesOf, Edition, GoesOn, IsAnswering}
use Rattle.session_cache.specs.Worlds.{IsListening}
use Rattle.session_cache.specs.Worlds.{IsLived, IsOneDataPerName, IsPeaceful, IsReached, IsSource}
use Rattle.session_cache.specs.Worlds.{Sent}
use Rattle.session_cache.specs.Worlds.{Source, WasHad, World, query_answer}
use Rattle.session_cache.proofs.Agreement as agreeing
use Rattle.session_cache.proofs.Calm as calm
use Rattle.session_cache.proofs.News as telling
use Rattle.session_cache.proofs.Peace as peaceful
use Rattle.session_cache.proofs.Had.{Archive, IsArchive, WasPresent, present_old}
use Rattle.session_cache.proofs.Runs.{by_rules}

-- ---- such data

-- What a cache sends leads from none to the data at each name, and from those at each name to those
-- at each other one of the session.
pub record IsSourceOf (D C : Type 0) (S : Source D C) (A : Archive D) : Type 0 where
  pub all_lead : (v s n : ℕ) → S.make None (S.delta None (A v s n)) ≡ Some (A v s n)
  pub changes_lead :
      (v s m n : ℕ) → S.make (Some (A v s m)) (S.delta (Some (A v s m)) (A v s n)) ≡ Some (A v s n)
  pub none_at_once : (v s n : ℕ) → S.delta (Some (A v s n)) (A v s n) ≡ []
  pub is_payload : (change : C) → IsPayloadOf 2 (S.kind change)
  pub all_are : (v s n : ℕ) → AreChangesOf C S.kind v (S.delta None (A v s n))
  pub changes_are :
      (v s m n : ℕ) → AreChangesOf C S.kind v (S.delta (Some (A v s m)) (A v s n))

-- they are those that the cache had
source_of : (D C : Type 0) (S : Source D C) (A : Archive D) (had : List (Edition D))
    → IsSourceOf D C S A → IsArchive A had → IsSource D C S had
source_of D C S A had I K = record {
  all_lead = λ v x was.
      subst (λ (d : D). S.make None (S.delta None d) ≡ Some d) (K x was v)
      (I.all_lead v x.name.session x.name.serial);
  changes_lead = λ v x y wx wy s.
      both v x y wx wy s (λ d e. S.make (Some d) (S.delta (Some d) e) ≡ Some e)
      (I.changes_lead v y.name.session x.name.serial y.name.serial);
  none_at_once = λ v x was.
      subst (λ (d : D). S.delta (Some d) d ≡ []) (K x was v)
      (I.none_at_once v x.name.session x.name.serial);
  is_payload = I.is_payload;
  all_are = λ v x was.
      subst (λ (d : D). AreChangesOf C S.kind v (S.delta None d)) (K x was v)
      (I.all_are v x.name.session x.name.serial);
  changes_are = λ v x y wx wy s.
      both v x y wx wy s (λ d e. AreChangesOf C S.kind v (S.delta (Some d) e))
      (I.changes_are v y.name.session x.name.serial y.name.serial);
}
  where
    both : (v : ℕ) (x y : Edition D) → WasHad had x → WasHad had y
        → x.name.session ≡ y.name.session → (P : D → D → Type 0)
        → P (A v y.name.session x.name.serial) (A v y.name.session y.name.serial)
        → P (x.for_version v) (y.for_version v)
    both v x y wx wy s P p =
        subst (λ (d : D). P d (y.for_version v)) (K x wx v)
        (subst (λ (t : ℕ). P (A v t x.name.serial) (y.for_version v)) (sym s)
        (subst (λ (e : D). P (A v y.name.session x.name.serial) e) (K y wy v) p))

one_of : (D : Type 0) (A : Archive D) (had : List (Edition D)) → IsArchive A had
    → IsOneDataPerName had
one_of D A had K = λ x y wx wy s n v.
    sym (K x wx v) ∙ (λ i. A v (s i) (n i)) ∙ K y wy v

-- ---- agreement

pub record AgreesByName (D C : Type 0) (A : Archive D) (w : World D C) : Type 0 where
  pub was : WasPresent w.had w.router.known.session w.router.known.serial
  pub same :
      w.host.shown
      ≡ Some (A w.router.known.version w.router.known.session w.router.known.serial)

pub agreement : (D C : Type 0) (S : Source D C) (A : Archive D) (w : World D C)
    → IsSourceOf D C S A → IsArchive A w.had → IsLived D C S w → w.router.has_data ≡ true
    → AgreesByName D C A w
agreement D C S A w I K run has =
    let x : Agrees D C w =
    agreeing.agreement D C S w (source_of D C S A w.had I K) (one_of D A w.had K)
    (by_rules D C S w run) has in
    let v : ℕ = w.router.known.version in
    let session : x.edition.name.session ≡ w.router.known.session = x.session in
    let serial : x.edition.name.serial ≡ w.router.known.serial = x.serial in
    record {
      was = (x.edition, x.was, session, serial);
      same = x.same ∙ ap (λ (d : D). Some d) (sym (K x.edition x.was v))
          ∙ (λ i. Some (A v (session i) (serial i)));
    }

-- ---- peace

pub peace : (D C : Type 0) (S : Source D C) (A : Archive D) (w : World D C)
    → IsSourceOf D C S A → IsArchive A w.had → (x : Sent C) (rest : List (Sent C)) (n : ℕ)
    (a : Action) (after : Router)
    → IsLived D C S w → w.to_router ≡ x ∷ rest → IsListening w.router.phase → Fresh w.router n
    → IsInTime w.router n → IsPeaceful w.router x.head
    → IsStep w.router n (events.Came x.head) a after → GoesOn a
peace D C S A w I K x rest n a after run is listens fresh soon peaceful_here step =
    peaceful.peace D C S w (source_of D C S A w.had I K) (one_of D A w.had K) x rest n a after
    (by_rules D C S w run) is listens fresh soon peaceful_here step

-- ---- each query is answered

-- an answer to a query
abbrev pub AnswersIt : Answer → Type 0
AnswersIt answers.All = Unit {0}
AnswersIt (answers.Changes since) = Unit {0}
AnswersIt answers.Reset = Unit {0}
AnswersIt answers.NoData = Unit {0}
AnswersIt _ = ⊥

answers_it : (p : Present) (u : Head) (kept has : Bool) (k : Kind) → IsQuery k
    → AnswersIt (if has then query_answer p u kept k else answers.NoData)
answers_it p u kept false k q = tt
answers_it p u kept true kinds.ResetQuery q = tt
answers_it p u kept true kinds.SerialQuery q =
    either ((u.session == p.session) && (kept || (u.serial == p.serial)))
  where
    either : (b : Bool) → AnswersIt (if b then answers.Changes u.serial else answers.Reset)
    either true = tt
    either false = tt
answers_it p u kept true _ q = absurd q

pub queries_are_answered : (D C : Type 0) (S : Source D C) (A : Archive D) (w : World D C)
    → IsSourceOf D C S A → IsArchive A w.had → (u : Head) (rest : List Head) (kept : Bool) (n : ℕ)
    (a : Answer) (after : Cache)
    → IsLived D C S w → w.to_cache ≡ u ∷ rest → w.router.phase ≡ phases.Asked
    → w.router.version ≤ 2 → IsAnswering w.cache n w.present.name
    → IsCacheStep w.cache n w.present.name (told.Came u kept) a after → AnswersIt a
queries_are_answered D C S A w I K u rest kept n a after run is asked most answering step =
    let J : IsSource D C S w.had = source_of D C S A w.had I K in
    let one : IsOneDataPerName w.had = one_of D A w.had K in
    let r : IsReached D C S w = by_rules D C S w run in
    subst AnswersIt
    (sym (peaceful.queries_answered D C S w J one u rest kept n a after r is asked most answering
    step))
    (answers_it w.present.name u kept w.present.name.has u.kind
    (peaceful.query_comes D C S w J one u rest r is asked))

-- ---- the router is current again

pub soon : (D C : Type 0) (S : Source D C) (A : Archive D) (before w : World D C)
    → IsSourceOf D C S A → IsArchive A before.had → (start n : ℕ)
    → IsLived D C S before → IsAtRest D C before → IsCalm D C S before start w n
    → n ≤ served_until before.router start
soon D C S A before w I K start n old rest run =
    calm.soon D C S before (source_of D C S A before.had I K) (one_of D A before.had K) start old
    rest w n run

pub record ShowsByName (D : Type 0) (A : Archive D) (p : Present) (r : Router)
    (shown : Option D) : Type 0 where
  pub session : r.known.session ≡ p.session
  pub serial : r.known.serial ≡ p.serial
  pub data_are : shown ≡ Some (A r.known.version p.session p.serial)

pub present : (D C : Type 0) (S : Source D C) (A : Archive D) (before w : World D C)
    → IsSourceOf D C S A → IsArchive A before.had → (start n later : ℕ) (d : D) (after : Router)
    → IsLived D C S before → IsAtRest D C before → IsCalm D C S before start w n
    → w.host.made ≡ Some d → IsStep w.router later events.Applied actions.Show after
    → ShowsByName D A before.present.name after w.host.made
present D C S A before w I K start n later d after old rest run made step =
    let x : ShowsPresent D before.present after w.host.made =
    calm.shown D C S before (source_of D C S A before.had I K) (one_of D A before.had K) start old
    rest w n later d after run made step in
    record {
      session = x.session;
      serial = x.serial;
      data_are = x.data_are
          ∙ ap (λ (d : D). Some d)
          (sym (K before.present (present_old D C S IsStep IsCacheStep before old rest.has)
          after.known.version));
    }

pub news : (D C : Type 0) (S : Source D C) (A : Archive D) (before w : World D C)
    → IsSourceOf D C S A → IsArchive A before.had → (start d heard n : ℕ) (c : Cache) (r : Router)
    → IsLived D C S before → IsAtRest D C before → IsToldOfNews D C start d c r heard before
    → IsCalm D C S before heard w n
    → n ≤ max (max start c.notify_from + d) (r.asked + r.settings.pause)
    + time_needed phases.Waiting before.router
news D C S A before w I K start d heard n c r old rest told_so run =
    telling.news D C S before (source_of D C S A before.had I K) (one_of D A before.had K) start d
    heard c r old rest told_so w n run
