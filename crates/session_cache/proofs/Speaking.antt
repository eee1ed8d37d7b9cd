-- What a cache of ours sends is of the version and the session of the query.
use Rattle.std.proofs.Common.{◌≡◌, ◌⊎◌, ℕ, Bool, true, false, ◌+◌, if◌then◌else◌, map}
use Rattle.std.proofs.Common.{Option, Some, None, List, [], ◌∷◌, ◌++◌, refl, sym, ap, ◌∙◌, subst}
use Rattle.std.proofs.Common.{inl, inr}
use Rattle.session_router.specs.declared.head.Head.{Head}
use Rattle.session_router.specs.declared.head.Query.{Query}
use Rattle.session_router.specs.declared.head.Kind.TheVariants as kinds
use Rattle.session_router.specs.declared.router.Router.{Router}
use Rattle.session_router.specs.Rules.{IsPayloadOf}
use Rattle.session_router.specs.Rules.{SameKnown, query}
use Rattle.session_router.proofs.Pacing.{query_by}
use Rattle.session_cache.specs.declared.cache.Cache.{Cache}
use Rattle.session_cache.specs.declared.event.Present.{Present}
use Rattle.session_cache.specs.declared.event.CacheEvent.{CacheEvent}
use Rattle.session_cache.specs.declared.event.CacheEvent.TheVariants as told
use Rattle.session_cache.specs.declared.event.Answer.{Answer}
use Rattle.session_cache.specs.declared.event.Answer.TheVariants as answers
use Rattle.session_cache.specs.declared.event.OwedReport.{OwedReport}
use Rattle.session_cache.specs.CacheRules.{CacheRule}
use Rattle.session_cache.specs.Worlds.{AreChangesOf, AreFrom, Edition, IsOneDataPerName, IsSource}
use Rattle.session_cache.specs.Worlds.{Sent, Source, TellsCache, WasHad}
use Rattle.session_cache.specs.Worlds.{cache_writes, change_unit, data_end, query_head, report_sent}
use Rattle.session_cache.specs.Worlds.{response}
use Rattle.session_cache.proofs.Had.{IsOld}

-- ---- the query of a router

pub query_version : (r : Router) (s : Bool) → r.changes ≡ s → (query r).version ≡ r.version
query_version r false e = ap (λ (s : Bool). (query_by r s).version) e
query_version r true e = ap (λ (s : Bool). (query_by r s).version) e

pub query_changes : (r : Router) (s : Bool) → r.changes ≡ s → (query r).changes ≡ r.changes
query_changes r false e = ap (λ (s : Bool). (query_by r s).changes) e ∙ sym e
query_changes r true e = ap (λ (s : Bool). (query_by r s).changes) e ∙ sym e

pub query_session : (r : Router) → r.changes ≡ true → (query r).session ≡ r.known.session
query_session r e = ap (λ (s : Bool). (query_by r s).session) e

pub query_serial : (r : Router) → r.changes ≡ true → (query r).serial ≡ r.known.serial
query_serial r e = ap (λ (s : Bool). (query_by r s).serial) e

pub same_query : (r r' : Router) → SameKnown r r' → r'.version ≡ r.version → r'.changes ≡ r.changes
    → query r' ≡ query r
same_query r r' same v s = cc (same.known, v, s)

-- ---- what is on its way to the router

abbrev pub Quiet : (C : Type 0) → ℕ → List (Sent C) → Type 0
Quiet C v [] = Unit {0}
Quiet C v (x ∷ xs) = (x.head.kind ≡ kinds.SerialNotify) × (x.head.version ≡ v) × Quiet C v xs

pub record IsChange (v : ℕ) (u : Head) : Type 0 where
  pub kind : IsPayloadOf v u.kind
  pub version : u.version ≡ v

-- the end of data, after so many changes: none at the serial number of the query
pub record IsEnd (q : Query) (s n : ℕ) (u : Head) : Type 0 where
  pub kind : u.kind ≡ kinds.EndOfData
  pub version : u.version ≡ q.version
  pub session : u.session ≡ s
  pub fresh : q.changes ≡ true → u.serial ≡ q.serial → n ≡ 0

-- the rest of the answer to a query, of a session, after so many changes
abbrev pub Left : (C : Type 0) → Query → (session changes : ℕ) → List (Sent C) → Type 0
Left C q s n [] = ⊥
Left C q s n (x ∷ xs) =
    (IsChange q.version x.head × Left C q s (n + 1) xs)
    ⊎ (IsEnd q s n x.head × Quiet C q.version xs)

pub record IsStart (q : Query) (u : Head) : Type 0 where
  pub kind : u.kind ≡ kinds.CacheResponse
  pub version : u.version ≡ q.version
  pub session : q.changes ≡ true → u.session ≡ q.session

pub record IsReset (q : Query) (u : Head) : Type 0 where
  pub kind : u.kind ≡ kinds.CacheReset
  pub version : u.version ≡ q.version
  pub changes : q.changes ≡ true

abbrev pub AnswersQuery : (C : Type 0) → Query → Sent C → List (Sent C) → Type 0
AnswersQuery C q x xs =
    (IsStart q x.head × Left C q x.head.session 0 xs)
    ⊎ ((IsReset q x.head × Quiet C q.version xs)
    ⊎ ((x.head.kind ≡ kinds.ErrorReport) × Quiet C q.version xs))

abbrev pub Coming : (C : Type 0) → Query → List (Sent C) → Type 0
Coming C q [] = Unit {0}
Coming C q (x ∷ xs) =
    ((x.head.kind ≡ kinds.SerialNotify) × (x.head.version ≡ q.version) × Coming C q xs)
    ⊎ AnswersQuery C q x xs

abbrev pub UnderWay : (C : Type 0) → Query → List Head → List (Sent C) → Type 0
UnderWay C q tc tr =
    ((tc ≡ query_head q ∷ []) × Quiet C q.version tr) ⊎ ((tc ≡ []) × Coming C q tr)

pub quiet_more : (C : Type 0) (v : ℕ) (xs ys : List (Sent C)) → Quiet C v xs → Quiet C v ys
    → Quiet C v (xs ++ ys)
quiet_more C v [] ys p q = q
quiet_more C v (x ∷ xs) ys p q = (p.0, p.1, quiet_more C v xs ys p.2 q)

pub left_more : (C : Type 0) (q : Query) (s n : ℕ) (xs ys : List (Sent C)) → Left C q s n xs
    → Quiet C q.version ys → Left C q s n (xs ++ ys)
left_more C q s n [] ys p w = absurd p
left_more C q s n (x ∷ xs) ys (inl p) w = inl (p.0, left_more C q s (n + 1) xs ys p.1 w)
left_more C q s n (x ∷ xs) ys (inr p) w = inr (p.0, quiet_more C q.version xs ys p.1 w)

pub quiet_coming : (C : Type 0) (q : Query) (xs : List (Sent C)) → Quiet C q.version xs
    → Coming C q xs
quiet_coming C q [] p = tt
quiet_coming C q (x ∷ xs) p = inl (p.0, p.1, quiet_coming C q xs p.2)

pub coming_more : (C : Type 0) (q : Query) (xs ys : List (Sent C)) → Coming C q xs
    → Quiet C q.version ys → Coming C q (xs ++ ys)
coming_more C q [] ys p w = quiet_coming C q ys w
coming_more C q (x ∷ xs) ys (inl p) w = inl (p.0, p.1, coming_more C q xs ys p.2 w)
coming_more C q (x ∷ xs) ys (inr (inl p)) w =
    inr (inl (p.0, left_more C q x.head.session 0 xs ys p.1 w))
coming_more C q (x ∷ xs) ys (inr (inr (inl p))) w =
    inr (inr (inl (p.0, quiet_more C q.version xs ys p.1 w)))
coming_more C q (x ∷ xs) ys (inr (inr (inr p))) w =
    inr (inr (inr (p.0, quiet_more C q.version xs ys p.1 w)))

pub coming_after : (C : Type 0) (q : Query) (xs ys : List (Sent C)) → Quiet C q.version xs
    → Coming C q ys → Coming C q (xs ++ ys)
coming_after C q [] ys p w = w
coming_after C q (x ∷ xs) ys p w = inl (p.0, p.1, coming_after C q xs ys p.2 w)

-- ---- what a cache writes

-- at the serial number of the query there are no changes
abbrev pub IsFresh : (C : Type 0) → Query → Present → ℕ → List C → Type 0
IsFresh C q p n bs = q.changes ≡ true → p.serial ≡ q.serial → (n ≡ 0) × (bs ≡ [])

pub no_cons : (C : Type 0) (b : C) (bs : List C) (A : Type 0) → b ∷ bs ≡ [] → A
no_cons C b bs A e = absurd (go e)
  where
    go : b ∷ bs ≡ [] → ⊥
    go e = cc

pub left_written : (D C : Type 0) (S : Source D C) (q : Query) (p : Edition D) (n : ℕ)
    (bs : List C) → AreChangesOf C S.kind q.version bs → IsFresh C q p.name n bs
    → Left C q p.name.session n
    (map (change_unit D C S q.version) bs ++ data_end D C q.version p ∷ [])
left_written D C S q p n [] w f =
    inr (record { kind = refl; version = refl; session = refl; fresh = λ a b. (f a b).0 }, tt)
left_written D C S q p n (b ∷ bs) w f =
    inl (
      record { kind = w.0; version = refl },
      left_written D C S q p (n + 1) bs w.1
          (λ x y. no_cons C b bs ((n + 1 ≡ 0) × (bs ≡ [])) (f x y).1),
    )

pub no_changes : (c : Bool) → (if c then kinds.SerialQuery else kinds.ResetQuery) ≡ kinds.ResetQuery
    → c ≡ true → ⊥
no_changes true k e = cc
no_changes false k e = cc

pub are_changes : (c : Bool)
    → (if c then kinds.SerialQuery else kinds.ResetQuery) ≡ kinds.SerialQuery → c ≡ true
are_changes true k = refl
are_changes false k = cc

-- a report that ends a connection
pub report_comes : (C : Type 0) (q : Query) (m : ℕ) (r : Option OwedReport)
    → Coming C q (report_sent C m r)
report_comes C q m None = tt
report_comes C q m (Some r) = inr (inr (inr (refl, tt)))

pub none_since : (D C : Type 0) (S : Source D C) (had : List (Edition D)) (I : IsSource D C S had)
    (one : IsOneDataPerName had) (v : ℕ) (old p : Edition D) → WasHad had old → WasHad had p
    → old.name.session ≡ p.name.session → old.name.serial ≡ p.name.serial
    → S.delta (Some (old.for_version v)) (p.for_version v) ≡ []
none_since D C S had I one v old p was here s n =
    subst (λ (d : D). S.delta (Some (old.for_version v)) d ≡ []) (one old p was here s n v)
    (I.none_at_once v old was)

pub changes_come : (D C : Type 0) (S : Source D C) (had : List (Edition D))
    (I : IsSource D C S had) (one : IsOneDataPerName had) (v : ℕ) (old p : Edition D) (q : Query)
    → WasHad had old → WasHad had p → v ≡ q.version → old.name.session ≡ p.name.session
    → p.name.session ≡ q.session → old.name.serial ≡ q.serial
    → Coming C q (response D C S v p (Some (old.for_version v)))
changes_come D C S had I one v old p q was here ve os se ne = subst
    (λ v. Coming C q (response D C S v p (Some (old.for_version v)))) (sym ve)
    (inr (inl (
      record { kind = refl; version = refl; session = λ e. se },
      left_written D C S q p 0
          (S.delta (Some (old.for_version q.version)) (p.for_version q.version))
          (I.changes_are q.version old p was here os)
          (λ a b.
          (refl, none_since D C S had I one q.version old p was here os (ne ∙ sym b))),
    )))

pub all_come : (D C : Type 0) (S : Source D C) (had : List (Edition D)) (I : IsSource D C S had)
    (v : ℕ) (p : Edition D) (q : Query) → WasHad had p → v ≡ q.version
    → (q.changes ≡ true → ⊥) → Coming C q (response D C S v p None)
all_come D C S had I v p q here ve never = subst (λ v. Coming C q (response D C S v p None))
    (sym ve)
    (inr (inl (
      record { kind = refl; version = refl; session = λ e. absurd (never e) },
      left_written D C S q p 0 (S.delta None (p.for_version q.version))
          (I.all_are q.version p here) (λ a b. absurd (never a)),
    )))

pub answer_comes : (D C : Type 0) (S : Source D C) (had : List (Edition D))
    (I : IsSource D C S had) (one : IsOneDataPerName had)
    (c c' : Cache) (n m : ℕ) (old p : Edition D) (q : Query)
    (kept : Bool) (a : Answer) → IsOld had p
    → CacheRule c n p.name (told.Came (query_head q) kept) a c' → AreFrom had p a old
    → Coming C q (cache_writes D C S c'.version m old p a)
answer_comes D C S had I one c c' n m old p q kept answers.Wait is w from = tt
answer_comes D C S had I one c c' n m old p q kept answers.All is w from =
    all_come D C S had I c'.version p q (is w.1.query.has) (ap (λ (c : Cache). c.version) w.1.after)
    (no_changes q.changes w.1.query.kind)
answer_comes D C S had I one c c' n m old p q kept (answers.Changes since) is w from =
    changes_come D C S had I one c'.version old p q from.0 (is w.1.query.has)
    (ap (λ (c : Cache). c.version) w.1.after) from.1 (sym w.1.known.session)
    (from.2 ∙ w.1.since_is)
answer_comes D C S had I one c c' n m old p q kept answers.Reset is w from = inr (inr (inl (
  record {
    kind = refl;
    version = ap (λ (c : Cache). c.version) w.1.after;
    changes = are_changes q.changes w.1.query.kind;
  },
  tt,
)))
answer_comes D C S had I one c c' n m old p q kept answers.NoData is w from =
    inr (inr (inr (refl, tt)))
answer_comes D C S had I one c c' n m old p q kept answers.Notify is w from = absurd w
answer_comes D C S had I one c c' n m old p q kept (answers.End x) is w from =
    report_comes C q m x.report

-- ---- the cache is in the router's version, once it was asked

abbrev pub InVersion : Cache → ℕ → Type 0
InVersion c v = c.live ≡ true → c.asked ≡ true → c.version ≡ v

pub ended_no : (c : Cache) (v : ℕ) → c.live ≡ false → InVersion c v
ended_no c v f e g = cc

pub in_version : (c c' : Cache) (n : ℕ) (p : Present) (q : Query) (kept : Bool) (a : Answer)
    → InVersion c q.version → CacheRule c n p (told.Came (query_head q) kept) a c'
    → InVersion c' q.version
in_version c c' n p q kept answers.Wait y w =
    subst (λ (c : Cache). InVersion c q.version) (sym w.after) y
in_version c c' n p q kept answers.All y w = λ o e. ap (λ (c : Cache). c.version) w.1.after
in_version c c' n p q kept (answers.Changes since) y w =
    λ o e. ap (λ (c : Cache). c.version) w.1.after
in_version c c' n p q kept answers.Reset y w = λ o e. ap (λ (c : Cache). c.version) w.1.after
in_version c c' n p q kept answers.NoData y w = λ o e. ap (λ (c : Cache). c.version) w.1.after
in_version c c' n p q kept answers.Notify y w = absurd w
in_version c c' n p q kept (answers.End x) y w =
    ended_no c' q.version (ap (λ (c : Cache). c.live) w.1.after)

-- ---- by itself a cache writes notifies alone

pub record Notified (D C : Type 0) (S : Source D C) (c' : Cache) (m : ℕ)
    (old p : Edition D) (a : Answer) (v : ℕ) : Type 0 where
  pub quiet : Quiet C v (cache_writes D C S c'.version m old p a)
  pub version : InVersion c' v

pub unreported : (C : Type 0) (v m : ℕ) (r : Option OwedReport) → r ≡ None
    → Quiet C v (report_sent C m r)
unreported C v m None e = tt
unreported C v m (Some r) e = cc

pub notifies : (D C : Type 0) (S : Source D C) (c c' : Cache) (n m : ℕ)
    (old p : Edition D) (e : CacheEvent) (a : Answer) (v : ℕ) → TellsCache e → InVersion c v →
    CacheRule c n p.name e a c'
    → Notified D C S c' m old p a v
notifies D C S c c' n m old p e answers.Wait v t y w =
    record { quiet = tt; version = subst (λ (c : Cache). InVersion c v) (sym w.after) y }
notifies D C S c c' n m old p told.Tick answers.Notify v t y w =
    let e : c'.version ≡ v =
    ap (λ (c : Cache). c.version) w.1.after ∙ y w.0 w.1.asked in
    record { quiet = (refl, e, tt); version = λ o a. e }
notifies D C S c c' n m old p told.Lost answers.Notify v t y w = absurd w
notifies D C S c c' n m old p told.Tick (answers.End x) v t y w = record {
  quiet = unreported C v m x.report (w.1.silent tt);
  version = ended_no c' v (ap (λ (c : Cache). c.live) w.1.after);
}
notifies D C S c c' n m old p told.Lost (answers.End x) v t y w = record {
  quiet = unreported C v m x.report (w.1.silent tt);
  version = ended_no c' v (ap (λ (c : Cache). c.live) w.1.after);
}
notifies D C S c c' n m old p told.Tick answers.All v t y w = absurd w
notifies D C S c c' n m old p told.Tick (answers.Changes since) v t y w = absurd w
notifies D C S c c' n m old p told.Tick answers.Reset v t y w = absurd w
notifies D C S c c' n m old p told.Tick answers.NoData v t y w = absurd w
notifies D C S c c' n m old p told.Lost answers.All v t y w = absurd w
notifies D C S c c' n m old p told.Lost (answers.Changes since) v t y w = absurd w
notifies D C S c c' n m old p told.Lost answers.Reset v t y w = absurd w
notifies D C S c c' n m old p told.Lost answers.NoData v t y w = absurd w
notifies D C S c c' n m old p told.Full _ v t y w = absurd t
notifies D C S c c' n m old p (told.Came u kept) _ v t y w = absurd t
notifies D C S c c' n m old p (told.Faulty f) _ v t y w = absurd t
