-- What a cache of ours sends makes its data of those that a query is about.
use Rattle.std.proofs.Common.{◌≡◌, ◌⊎◌, ℕ, Bool, true, false, if◌then◌else◌, map, refl, sym}
use Rattle.std.proofs.Common.{Option, Some, None, List, [], ◌∷◌, ◌++◌, ap, ◌∙◌, subst, inl, inr}
use Rattle.std.proofs.Common.{append_assoc, append-nil}
use Rattle.session_router.specs.declared.head.Head.{Head}
use Rattle.session_router.specs.declared.head.Query.{Query}
use Rattle.session_router.specs.declared.head.Kind.TheVariants as kinds
use Rattle.session_router.specs.Rules.{IsPayloadOf}
use Rattle.session_cache.specs.declared.cache.Cache.{Cache}
use Rattle.session_cache.specs.declared.event.CacheEvent.{CacheEvent}
use Rattle.session_cache.specs.declared.event.CacheEvent.TheVariants as told
use Rattle.session_cache.specs.declared.event.Answer.{Answer}
use Rattle.session_cache.specs.declared.event.Answer.TheVariants as answers
use Rattle.session_cache.specs.declared.event.OwedReport.{OwedReport}
use Rattle.session_cache.specs.CacheRules.{CacheRule}
use Rattle.session_cache.specs.Worlds.{AreFrom, Edition, IsSource}
use Rattle.session_cache.specs.Worlds.{Sent, Source, TellsCache, WasHad}
use Rattle.session_cache.specs.Worlds.{cache_writes, change_unit}
use Rattle.session_cache.specs.Worlds.{data_end}
use Rattle.session_cache.specs.Worlds.{query_head, report_sent, response}
use Rattle.session_cache.proofs.Had.{Archive, IsArchive, IsOld, WasPresent, present_news}
use Rattle.session_cache.proofs.Had.{was_present}

-- ---- what is on its way to the router

-- notifies alone
abbrev pub Quiet : (C : Type 0) → List (Sent C) → Type 0
Quiet C [] = Unit {0}
Quiet C (x ∷ xs) = (x.head.kind ≡ kinds.SerialNotify) × Quiet C xs

pub record EndsHere (D C : Type 0) (S : Source D C) (A : Archive D) (had : List (Edition D))
    (old : Option D)
    (kept : List C) (x : Sent C) (xs : List (Sent C)) : Type 0 where
  pub kind : x.head.kind ≡ kinds.EndOfData
  pub makes : S.make old kept ≡ Some (A x.head.version x.head.session x.head.serial)
  pub was : WasPresent had x.head.session x.head.serial
  pub rest : Quiet C xs

-- the rest of a response, which with what is kept makes data of the cache of the old ones
abbrev pub Left : (D C : Type 0) → Source D C → Archive D → List (Edition D) → Option D → List C →
    List (Sent C)
    → Type 0
Left D C S A had old kept [] = ⊥
Left D C S A had old kept (x ∷ xs) =
    (IsPayloadOf 2 x.head.kind × Left D C S A had old (kept ++ x.body) xs)
    ⊎ EndsHere D C S A had old kept x xs

-- the data that a query is about
abbrev pub old_of : (D C : Type 0) → Source D C → Archive D → Query → Option D
old_of D C S A q = if q.changes then Some (A q.version q.session q.serial) else None

abbrev pub AnswersQuery : (D C : Type 0) → Source D C → Archive D → List (Edition D) → Query → Sent
    C
    → List (Sent C) → Type 0
AnswersQuery D C S A had q x xs =
    ((x.head.kind ≡ kinds.CacheResponse) × Left D C S A had (old_of D C S A q) [] xs)
    ⊎ (((x.head.kind ≡ kinds.CacheReset) × Quiet C xs)
    ⊎ ((x.head.kind ≡ kinds.ErrorReport) × Quiet C xs))

-- the answer to a query, if one comes
abbrev pub Coming : (D C : Type 0) → Source D C → Archive D → List (Edition D) → Query → List
    (Sent C) → Type 0
Coming D C S A had q [] = Unit {0}
Coming D C S A had q (x ∷ xs) =
    ((x.head.kind ≡ kinds.SerialNotify) × Coming D C S A had q xs)
    ⊎ AnswersQuery D C S A had q x xs

-- the query is on its way, or its answer is
abbrev pub UnderWay : (D C : Type 0) → Source D C → Archive D → List (Edition D) → Query → List Head
    → List (Sent C)
    → Type 0
UnderWay D C S A had q tc tr =
    ((tc ≡ query_head q ∷ []) × Quiet C tr) ⊎ ((tc ≡ []) × Coming D C S A had q tr)

pub quiet_more : (C : Type 0) (xs ys : List (Sent C)) → Quiet C xs → Quiet C ys → Quiet C (xs ++ ys)
quiet_more C [] ys p q = q
quiet_more C (x ∷ xs) ys p q = (p.0, quiet_more C xs ys p.1 q)

pub left_more : (D C : Type 0) (S : Source D C) (A : Archive D) (had : List (Edition D))
    (old : Option D)
    (kept : List C) (xs ys : List (Sent C)) → Left D C S A had old kept xs → Quiet C ys
    → Left D C S A had old kept (xs ++ ys)
left_more D C S A had old kept [] ys p q = absurd p
left_more D C S A had old kept (x ∷ xs) ys (inl p) q =
    inl (p.0, left_more D C S A had old (kept ++ x.body) xs ys p.1 q)
left_more D C S A had old kept (x ∷ xs) ys (inr p) q =
    inr (record { kind = p.kind; makes = p.makes; was = p.was; rest = quiet_more C xs ys p.rest q })

pub quiet_coming : (D C : Type 0) (S : Source D C) (A : Archive D) (had : List (Edition D))
    (q : Query)
    (xs : List (Sent C)) → Quiet C xs → Coming D C S A had q xs
quiet_coming D C S A had q [] p = tt
quiet_coming D C S A had q (x ∷ xs) p = inl (p.0, quiet_coming D C S A had q xs p.1)

pub coming_more : (D C : Type 0) (S : Source D C) (A : Archive D) (had : List (Edition D))
    (q : Query)
    (xs ys : List (Sent C)) → Coming D C S A had q xs → Quiet C ys → Coming D C S A had q (xs ++ ys)
coming_more D C S A had q [] ys p w = quiet_coming D C S A had q ys w
coming_more D C S A had q (x ∷ xs) ys (inl p) w = inl (p.0, coming_more D C S A had q xs ys p.1 w)
coming_more D C S A had q (x ∷ xs) ys (inr (inl p)) w =
    inr (inl (p.0, left_more D C S A had (old_of D C S A q) [] xs ys p.1 w))
coming_more D C S A had q (x ∷ xs) ys (inr (inr (inl p))) w =
    inr (inr (inl (p.0, quiet_more C xs ys p.1 w)))
coming_more D C S A had q (x ∷ xs) ys (inr (inr (inr p))) w =
    inr (inr (inr (p.0, quiet_more C xs ys p.1 w)))

pub coming_after : (D C : Type 0) (S : Source D C) (A : Archive D) (had : List (Edition D))
    (q : Query)
    (xs ys : List (Sent C)) → Quiet C xs → Coming D C S A had q ys → Coming D C S A had q (xs ++ ys)
coming_after D C S A had q [] ys p w = w
coming_after D C S A had q (x ∷ xs) ys p w = inl (p.0, coming_after D C S A had q xs ys p.1 w)

-- what was there stays so at news
pub left_news : (D C : Type 0) (S : Source D C) (A : Archive D) (had : List (Edition D))
    (p : Edition D) (old : Option D)
    (kept : List C) (xs : List (Sent C)) → Left D C S A had old kept xs
    → Left D C S A (p ∷ had) old kept xs
left_news D C S A had p old kept [] w = w
left_news D C S A had p old kept (x ∷ xs) (inl w) =
    inl (w.0, left_news D C S A had p old (kept ++ x.body) xs w.1)
left_news D C S A had p old kept (x ∷ xs) (inr w) =
    inr (record {
      kind = w.kind;
      makes = w.makes;
      was = present_news had p x.head.session x.head.serial w.was;
      rest = w.rest;
    })

pub coming_news : (D C : Type 0) (S : Source D C) (A : Archive D) (had : List (Edition D))
    (p : Edition D) (q : Query)
    (xs : List (Sent C)) → Coming D C S A had q xs → Coming D C S A (p ∷ had) q xs
coming_news D C S A had p q [] w = w
coming_news D C S A had p q (x ∷ xs) (inl w) = inl (w.0, coming_news D C S A had p q xs w.1)
coming_news D C S A had p q (x ∷ xs) (inr (inl w)) =
    inr (inl (w.0, left_news D C S A had p (old_of D C S A q) [] xs w.1))
coming_news D C S A had p q (x ∷ xs) (inr (inr w)) = inr (inr w)

-- ---- what a cache writes

pub left_written : (D C : Type 0) (S : Source D C) (A : Archive D) (had : List (Edition D))
    (I : IsSource D C S had) (v : ℕ) (p : Edition D)
    (old : Option D) (kept bs : List C) → WasPresent had p.name.session p.name.serial
    → S.make old (kept ++ bs) ≡ Some (A v p.name.session p.name.serial)
    → Left D C S A had old kept (map (change_unit D C S v) bs ++ data_end D C v p ∷ [])
left_written D C S A had I v p old kept [] was e =
    inr (record {
      kind = refl;
      makes = ap (λ k. S.make old k) (sym (append-nil kept)) ∙ e;
      was = was;
      rest = tt;
    })
left_written D C S A had I v p old kept (b ∷ bs) was e =
    inl (
      I.is_payload b,
      left_written D C S A had I v p old (kept ++ b ∷ []) bs was
          (ap (λ k. S.make old k) (append_assoc kept (b ∷ []) bs) ∙ e),
    )

pub response_comes : (D C : Type 0) (S : Source D C) (A : Archive D) (had : List (Edition D))
    (I : IsSource D C S had) (K : IsArchive A had) (v : ℕ) (p : Edition D)
    (q : Query) (old : Option D) → WasHad had p → old_of D C S A q ≡ old
    → S.make old (S.delta old (p.for_version v)) ≡ Some (p.for_version v)
    → Coming D C S A had q (response D C S v p old)
response_comes D C S A had I K v p q old was e leads =
    let new : D = p.for_version v in
    let rest : List (Sent C) =
    map (change_unit D C S v) (S.delta old new) ++ data_end D C v p ∷ [] in
    let left : Left D C S A had old [] rest =
    left_written D C S A had I v p old [] (S.delta old new) (was_present had p was)
    (leads ∙ ap (λ (d : D). Some d) (sym (K p was v))) in
    inr (inl (refl, subst (λ o. Left D C S A had o [] rest) (sym e) left))

-- a query's kind says what it asks for
pub for_all : (D C : Type 0) (S : Source D C) (A : Archive D) (q : Query) (c : Bool) → q.changes ≡ c
    → (if c then kinds.SerialQuery else kinds.ResetQuery) ≡ kinds.ResetQuery
    → old_of D C S A q ≡ None
for_all D C S A q true e k = cc
for_all D C S A q false e k =
    ap (λ (c : Bool). if c then Some (A q.version q.session q.serial) else None) e

pub for_changes : (D C : Type 0) (S : Source D C) (A : Archive D) (q : Query) (c : Bool) → q.changes
    ≡ c
    → (if c then kinds.SerialQuery else kinds.ResetQuery) ≡ kinds.SerialQuery
    → old_of D C S A q ≡ Some (A q.version q.session q.serial)
for_changes D C S A q true e k =
    ap (λ (c : Bool). if c then Some (A q.version q.session q.serial) else None) e
for_changes D C S A q false e k = cc

pub at_same : (D C : Type 0) (S : Source D C) (A : Archive D) (v v' s s' n n' : ℕ) → v ≡ v' → s ≡ s'
    → n ≡ n'
    → Some (A v s n) ≡ Some (A v' s' n')
at_same D C S A v v' s s' n n' a b c = cc

pub report_comes : (D C : Type 0) (S : Source D C) (A : Archive D) (had : List (Edition D))
    (q : Query)
    (m : ℕ) (r : Option OwedReport) → Coming D C S A had q (report_sent C m r)
report_comes D C S A had q m None = tt
report_comes D C S A had q m (Some r) = inr (inr (inr (refl, tt)))

pub answer_comes : (D C : Type 0) (S : Source D C) (A : Archive D) (had : List (Edition D))
    (I : IsSource D C S had) (K : IsArchive A had) (c c' : Cache) (n m : ℕ)
    (old p : Edition D) (q : Query) (kept : Bool) (a : Answer) → IsOld had p
    → CacheRule c n p.name (told.Came (query_head q) kept) a c' → AreFrom had p a old
    → Coming D C S A had q (cache_writes D C S c'.version m old p a)
answer_comes D C S A had I K c c' n m old p q kept answers.Wait was w from = tt
answer_comes D C S A had I K c c' n m old p q kept answers.All was w from =
    let here : WasHad had p = was w.1.query.has in
    response_comes D C S A had I K c'.version p q None here
    (for_all D C S A q q.changes refl w.1.query.kind) (I.all_lead c'.version p here)
answer_comes D C S A had I K c c' n m old p q kept (answers.Changes since) was w from =
    let here : WasHad had p = was w.1.query.has in
    let version : q.version ≡ c'.version = sym (ap (λ (c : Cache). c.version) w.1.after) in
    response_comes D C S A had I K c'.version p q (Some (old.for_version c'.version)) here
    (for_changes D C S A q q.changes refl w.1.query.kind
    ∙ at_same D C S A q.version c'.version q.session old.name.session q.serial old.name.serial
    version (w.1.known.session ∙ sym from.1) (sym w.1.since_is ∙ sym from.2)
    ∙ ap (λ (d : D). Some d) (K old from.0 c'.version))
    (I.changes_lead c'.version old p from.0 here from.1)
answer_comes D C S A had I K c c' n m old p q kept answers.Reset was w from =
    inr (inr (inl (refl, tt)))
answer_comes D C S A had I K c c' n m old p q kept answers.NoData was w from =
    inr (inr (inr (refl, tt)))
answer_comes D C S A had I K c c' n m old p q kept answers.Notify was w from = absurd w
answer_comes D C S A had I K c c' n m old p q kept (answers.End x) was w from =
    report_comes D C S A had q m x.report

-- by itself a cache writes notifies alone
pub unreported : (C : Type 0) (m : ℕ) (r : Option OwedReport) → r ≡ None
    → Quiet C (report_sent C m r)
unreported C m None e = tt
unreported C m (Some r) e = cc

pub notifies : (D C : Type 0) (S : Source D C) (c c' : Cache) (n m : ℕ) (old p : Edition D)
    (e : CacheEvent) (a : Answer) → TellsCache e → CacheRule c n p.name e a c'
    → Quiet C (cache_writes D C S c'.version m old p a)
notifies D C S c c' n m old p e answers.Wait t w = tt
notifies D C S c c' n m old p told.Tick answers.Notify t w = (refl, tt)
notifies D C S c c' n m old p told.Lost answers.Notify t w = absurd w
notifies D C S c c' n m old p told.Tick (answers.End x) t w = unreported C m x.report
    (w.1.silent tt)
notifies D C S c c' n m old p told.Lost (answers.End x) t w = unreported C m x.report
    (w.1.silent tt)
notifies D C S c c' n m old p told.Tick answers.All t w = absurd w
notifies D C S c c' n m old p told.Tick (answers.Changes since) t w = absurd w
notifies D C S c c' n m old p told.Tick answers.Reset t w = absurd w
notifies D C S c c' n m old p told.Tick answers.NoData t w = absurd w
notifies D C S c c' n m old p told.Lost answers.All t w = absurd w
notifies D C S c c' n m old p told.Lost (answers.Changes since) t w = absurd w
notifies D C S c c' n m old p told.Lost answers.Reset t w = absurd w
notifies D C S c c' n m old p told.Lost answers.NoData t w = absurd w
notifies D C S c c' n m old p told.Full _ t w = absurd t
notifies D C S c c' n m old p (told.Came u kept) _ t w = absurd t
notifies D C S c c' n m old p (told.Faulty f) _ t w = absurd t
