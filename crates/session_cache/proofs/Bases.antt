-- Changes are asked for only from data that the cache had: so a run in which they are sent goes on.
use Rattle.std.proofs.Common.{◌≡◌, ℕ, Bool, true, refl, sym, ap, ◌∙◌, subst}
use Rattle.std.proofs.Common.{List, [], ◌∷◌, ◌++◌}
use Rattle.session_router.specs.declared.head.Head.{Head}
use Rattle.session_router.specs.declared.head.Kind.TheVariants as kinds
use Rattle.session_router.specs.declared.head.Known.{Known}
use Rattle.session_router.specs.declared.head.Query.{Query}
use Rattle.session_router.specs.declared.router.Router.{Router}
use Rattle.session_router.specs.declared.event.Action.{Action}
use Rattle.session_router.specs.declared.event.Action.TheVariants as actions
use Rattle.session_router.specs.declared.event.Event.{Event}
use Rattle.session_router.specs.Rules.{Asks, AsksOwn, Rule}
use Rattle.session_cache.specs.declared.cache.Cache.{Cache}
use Rattle.session_cache.specs.declared.event.Answer.TheVariants as answers
use Rattle.session_cache.specs.declared.event.CacheEvent.TheVariants as told
use Rattle.session_cache.specs.CacheRules.{CacheRule}
use Rattle.session_cache.specs.Worlds.{AreFrom, Edition, IsOneDataPerName, IsReached, IsSource}
use Rattle.session_cache.specs.Worlds.{Next}
use Rattle.session_cache.specs.Worlds.{Source, World, query_head, router_writes}
use Rattle.session_cache.specs.Worlds.Next.{cache_hears, cache_told, connected, renewed}
use Rattle.session_cache.specs.Worlds.Next.{router_hears}
use Rattle.session_cache.specs.Worlds.Next.{router_told}
use Rattle.session_cache.specs.Worlds.IsReachedBy.{world_begins, world_goes_on}
use Rattle.session_cache.proofs.Agreement.{known_had}
use Rattle.session_cache.proofs.Had.{AreAmong, WasPresent, among_next, one_before, present_news}
use Rattle.session_cache.proofs.Had.{source_before}
use Rattle.session_cache.proofs.Speaking.{are_changes, query_changes, query_serial, query_session}

-- each serial query on its way names data that the cache had
abbrev AreKnown : {D : Type 0} → List (Edition D) → List Head → Type 0
AreKnown had [] = Unit {0}
AreKnown had (u ∷ us) =
    (u.kind ≡ kinds.SerialQuery → WasPresent had u.session u.serial) × AreKnown had us

known_more : {D : Type 0} (had : List (Edition D)) (us vs : List Head) → AreKnown had us
    → AreKnown had vs → AreKnown had (us ++ vs)
known_more had [] vs a b = b
known_more had (u ∷ us) vs a b = (a.0, known_more had us vs a.1 b)

known_news : {D : Type 0} (had : List (Edition D)) (p : Edition D) (us : List Head)
    → AreKnown had us → AreKnown (p ∷ had) us
known_news had p [] a = tt
known_news had p (u ∷ us) a =
    (λ k. present_news had p u.session u.serial (a.0 k), known_news had p us a.1)

asked_known : {D : Type 0} (had : List (Edition D)) (n : ℕ) (e : Event) (q : Query) (r r' : Router)
    → Asks r n e q r'
    → (r.has_data ≡ true → WasPresent had r.known.session r.known.serial)
    → (query_head q).kind ≡ kinds.SerialQuery → WasPresent had q.session q.serial
asked_known had n e q r r' w has kind =
    let changes : q.changes ≡ true = are_changes q.changes kind in
    let asks : r'.changes ≡ true =
    sym (query_changes r' r'.changes refl) ∙ ap (λ (q : Query). q.changes) (sym w.query)
    ∙ changes in
    let own : AsksOwn r' = w.own asks in
    let session : r.known.session ≡ q.session =
    sym (ap (λ (q : Query). q.session) w.query ∙ query_session r' asks
    ∙ ap (λ (k : Known). k.session) w.same.known) in
    let serial : r.known.serial ≡ q.serial =
    sym (ap (λ (q : Query). q.serial) w.query ∙ query_serial r' asks
    ∙ ap (λ (k : Known). k.serial) w.same.known) in
    subst (λ s. WasPresent had s q.serial) session
    (subst (λ n. WasPresent had r.known.session n) serial
    (has (sym w.same.has_data ∙ own.has_data)))

-- what a router writes
writes_known : {D : Type 0} (had : List (Edition D)) (n : ℕ) (e : Event) (a : Action)
    (r r' : Router) → Rule r n e a r'
    → (r.has_data ≡ true → WasPresent had r.known.session r.known.serial)
    → AreKnown had (router_writes a)
writes_known had n e (actions.Ask q) r r' w has = (asked_known had n e q r r' w has, tt)
writes_known had n e actions.Wait r r' w has = tt
writes_known had n e actions.Connect r r' w has = tt
writes_known had n e actions.Begin r r' w has = tt
writes_known had n e actions.Keep r r' w has = tt
writes_known had n e (actions.Apply on) r r' w has = tt
writes_known had n e actions.Show r r' w has = tt
writes_known had n e actions.NoData r r' w has = tt
writes_known had n e actions.Drop r r' w has = tt
writes_known had n e (actions.End x) r r' w has = tt

rest_known : {D : Type 0} (had : List (Edition D)) (u : Head) (us tc : List Head) → tc ≡ u ∷ us
    → AreKnown had tc → AreKnown had (u ∷ us)
rest_known had u us tc is a = subst (λ (l : List Head). AreKnown had l) is a

next : (D C : Type 0) (S : Source D C) (w w' : World D C)
    → (w.router.has_data ≡ true
    → WasPresent w.had w.router.known.session w.router.known.serial)
    → Next D C S Rule CacheRule w w' → AreKnown w.had w.to_cache → AreKnown w'.had w'.to_cache
next D C S w w' has (router_told w₀ n e a r itself step) y =
    known_more w₀.had w₀.to_cache (router_writes a) y
    (writes_known w₀.had n e a w₀.router r step has)
next D C S w w' has (connected w₀ n a r c phase anew step) y =
    writes_known w₀.had n _ a w₀.router r step has
next D C S w w' has (router_hears w₀ n x xs a r is step) y =
    known_more w₀.had w₀.to_cache (router_writes a) y
    (writes_known w₀.had n _ a w₀.router r step has)
next D C S w w' has (cache_hears w₀ n m u us kept a c old is step from) y =
    (rest_known w₀.had u us w₀.to_cache is y).1
next D C S w w' has (cache_told w₀ n m e a c tells step) y = y
next D C S w w' has (renewed w₀ p) y = known_news w₀.had p w₀.to_cache y

are_known : (D C : Type 0) (S : Source D C) (w : World D C) → IsSource D C S w.had
    → IsOneDataPerName w.had → IsReached D C S w → AreKnown w.had w.to_cache
are_known D C S w I one (world_begins r c p phase none) = tt
are_known D C S w I one (world_goes_on w₀ w₁ run step) =
    let among : AreAmong w₀.had w₁.had = among_next D C S Rule CacheRule w₀ w₁ step in
    let I₀ : IsSource D C S w₀.had = source_before D C S w₀.had w₁.had among I in
    let one₀ : IsOneDataPerName w₀.had = one_before w₀.had w₁.had among one in
    next D C S w₀ w₁ (known_had D C S w₀ I₀ one₀ run) step (are_known D C S w₀ I₀ one₀ run)

-- so where changes are the answer there are data that they are from
pub base_had : (D C : Type 0) (S : Source D C) (w : World D C) → IsSource D C S w.had
    → IsOneDataPerName w.had → (u : Head) (us : List Head) (kept : Bool) (n since : ℕ) (c : Cache)
    → IsReached D C S w → w.to_cache ≡ u ∷ us
    → CacheRule w.cache n w.present.name (told.Came u kept) (answers.Changes since) c
    → (old : Edition D) × AreFrom w.had w.present (answers.Changes since) old
base_had D C S w I one u us kept n since c run is rule =
    let known : AreKnown w.had (u ∷ us) =
    rest_known w.had u us w.to_cache is (are_known D C S w I one run) in
    let x : WasPresent w.had u.session u.serial = known.0 rule.1.query.kind in
    (x.0, (x.1, x.2 ∙ rule.1.known.session, x.3 ∙ sym rule.1.since_is))
