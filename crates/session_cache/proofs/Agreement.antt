-- A router's data are the cache's: an invariant over what is on its way between them.
use Rattle.std.proofs.Common.{◌≡◌, ◌⊎◌, ℕ, Bool, true, false, if◌then◌else◌, refl, sym}
use Rattle.std.proofs.Common.{Option, Some, None, List, [], ◌∷◌, ◌++◌, ap, ◌∙◌, subst, inl, inr}
use Rattle.std.proofs.Common.{append-nil}
use Rattle.std.proofs.lemmas.List.Concat.{flat_map-append}
use Rattle.session_router.specs.declared.head.Head.{Head}
use Rattle.session_router.specs.declared.head.Known.{Known}
use Rattle.session_router.specs.declared.head.Query.{Query}
use Rattle.session_router.specs.declared.head.Kind.{Kind}
use Rattle.session_router.specs.declared.head.Kind.TheVariants as kinds
use Rattle.session_router.specs.declared.router.Router.{Router}
use Rattle.session_router.specs.declared.router.Phase.{Phase}
use Rattle.session_router.specs.declared.router.Phase.TheVariants as phases
use Rattle.session_router.specs.declared.event.Event.{Event}
use Rattle.session_router.specs.declared.event.Event.TheVariants as events
use Rattle.session_router.specs.declared.event.Action.{Action}
use Rattle.session_router.specs.declared.event.Action.TheVariants as actions
use Rattle.session_router.specs.declared.event.Ending.{Ending}
use Rattle.session_router.specs.Histories.{Host, empty_host, host_after}
use Rattle.session_router.specs.Rules.{Adopts, Asks, AsksOwn, Begins, Closes, Completes, Connects}
use Rattle.session_router.specs.Rules.{Drops}
use Rattle.session_router.specs.Rules.{HasNoData, IsPayloadOf, Keeps, Loses, PassesOver, Rule}
use Rattle.session_router.specs.Rules.{SameKnown}
use Rattle.session_router.specs.Rules.{SameTalk, Waits, query}
use Rattle.session_router.proofs.Pacing.{query_by}
use Rattle.session_cache.specs.declared.cache.Cache.{Cache}
use Rattle.session_cache.specs.declared.event.CacheEvent.TheVariants as told
use Rattle.session_cache.specs.declared.event.Answer.{Answer}
use Rattle.session_cache.specs.CacheRules.{CacheRule}
use Rattle.session_cache.specs.Worlds.{Agrees, AreFrom, Edition, IsOneDataPerName, IsReached}
use Rattle.session_cache.specs.Worlds.{IsSource, Next, Sent, Source}
use Rattle.session_cache.specs.Worlds.{TellsItself, World, cache_writes}
use Rattle.session_cache.specs.Worlds.{caller_of, changes_of}
use Rattle.session_cache.specs.Worlds.{query_head, router_writes}
use Rattle.session_cache.specs.Worlds.Next.{cache_hears, cache_told, connected, renewed}
use Rattle.session_cache.specs.Worlds.Next.{router_hears}
use Rattle.session_cache.specs.Worlds.Next.{router_told}
use Rattle.session_cache.specs.Worlds.IsReachedBy.{world_begins, world_goes_on}
use Rattle.session_cache.proofs.Had.{Archive, AreAmong, IsArchive, IsOld, WasPresent, among_next}
use Rattle.session_cache.proofs.Had.{archive_before, first_of, is_archive, present_news}
use Rattle.session_cache.proofs.Had.{present_old}
use Rattle.session_cache.proofs.Had.{source_before}
use Rattle.session_cache.proofs.Answering.{Coming, EndsHere, Left, Quiet, UnderWay, answer_comes}
use Rattle.session_cache.proofs.Answering.{at_same, coming_after, coming_more, coming_news}
use Rattle.session_cache.proofs.Answering.{left_more}
use Rattle.session_cache.proofs.Answering.{left_news, notifies, old_of, quiet_more}

-- ---- what holds in each phase

record TalkAsked (D C : Type 0) (S : Source D C) (A : Archive D) (had : List (Edition D))
    (r : Router)
    (tc : List Head) (tr : List (Sent C)) : Type 0 where
  own : r.changes ≡ true → AsksOwn r
  coming : UnderWay D C S A had (query r) tc tr

record TalkReading (D C : Type 0) (S : Source D C) (A : Archive D) (had : List (Edition D))
    (r : Router)
    (h : Host (List C) D) (tc : List Head) (tr : List (Sent C)) : Type 0 where
  none : tc ≡ []
  left : Left D C S A had (if r.changes then h.shown else None) (changes_of h.kept) tr

record TalkApplying (D C : Type 0) (S : Source D C) (A : Archive D) (had : List (Edition D))
    (r : Router)
    (h : Host (List C) D) (tc : List Head) (tr : List (Sent C)) : Type 0 where
  none : tc ≡ []
  quiet : Quiet C tr
  was : WasPresent had r.answer.session r.answer.serial
  made : h.made ≡ Some (A r.answer.version r.answer.session r.answer.serial)

record TalkWaiting (C : Type 0) (tc : List Head) (tr : List (Sent C)) : Type 0 where
  none : tc ≡ []
  quiet : Quiet C tr

abbrev Talk : (D C : Type 0) → Source D C → Archive D → List (Edition D) → Router → Host (List C) D
    → List Head
    → List (Sent C) → Phase → Type 0
Talk D C S A had r h tc tr phases.Offline = Unit {0}
Talk D C S A had r h tc tr phases.Connecting = Unit {0}
Talk D C S A had r h tc tr phases.Asked = TalkAsked D C S A had r tc tr
Talk D C S A had r h tc tr phases.Reading = TalkReading D C S A had r h tc tr
Talk D C S A had r h tc tr phases.Applying = TalkApplying D C S A had r h tc tr
Talk D C S A had r h tc tr phases.Waiting = TalkWaiting C tc tr

record HasSame (D C : Type 0) (S : Source D C) (A : Archive D) (had : List (Edition D)) (r : Router)
    (h : Host (List C) D) : Type 0 where
  was : WasPresent had r.known.session r.known.serial
  same : h.shown ≡ Some (A r.known.version r.known.session r.known.serial)

record Holds (D C : Type 0) (S : Source D C) (A : Archive D) (had : List (Edition D)) (r : Router)
    (h : Host (List C) D)
    (tc : List Head) (tr : List (Sent C)) : Type 0 where
  has : r.has_data ≡ true → HasSame D C S A had r h
  talk : Talk D C S A had r h tc tr r.phase

to_phase : (D C : Type 0) (S : Source D C) (A : Archive D) (had : List (Edition D)) (r : Router)
    (h : Host (List C) D)
    (tc : List Head) (tr : List (Sent C)) (p : Phase) → r.phase ≡ p → Talk D C S A had r h tc tr p
    → Talk D C S A had r h tc tr r.phase
to_phase D C S A had r h tc tr p e x = subst (λ p. Talk D C S A had r h tc tr p) (sym e) x

at_phase : (D C : Type 0) (S : Source D C) (A : Archive D) (had : List (Edition D)) (r : Router)
    (h : Host (List C) D)
    (tc : List Head) (tr : List (Sent C)) (p : Phase) → r.phase ≡ p
    → Talk D C S A had r h tc tr r.phase → Talk D C S A had r h tc tr p
at_phase D C S A had r h tc tr p e x = subst (λ p. Talk D C S A had r h tc tr p) e x

-- ---- data that nothing touches

has_still : (D C : Type 0) (S : Source D C) (A : Archive D) (had : List (Edition D)) (r r' : Router)
    (h h' : Host (List C) D) → SameKnown r r' → h'.shown ≡ h.shown
    → (r.has_data ≡ true → HasSame D C S A had r h) → r'.has_data ≡ true → HasSame D C S A had r' h'
has_still D C S A had r r' h h' same shown x p =
    let y : HasSame D C S A had r h = x (sym same.has_data ∙ p) in
    record {
      was = subst (λ (k : Known). WasPresent had k.session k.serial) (sym same.known) y.was;
      same = shown ∙ y.same
          ∙ ap (λ (k : Known). Some (A k.version k.session k.serial)) (sym same.known);
    }

-- ---- the router waits

same_query : (r r' : Router) → SameKnown r r' → SameTalk r r' → query r' ≡ query r
same_query r r' same talk = cc (same.known, talk.version, talk.changes)

asks_own : (r r' : Router) → SameKnown r r' → SameTalk r r' → (r.changes ≡ true → AsksOwn r)
    → r'.changes ≡ true → AsksOwn r'
asks_own r r' same talk x p =
    let y : AsksOwn r = x (sym talk.changes ∙ p) in
    record {
      has_data = same.has_data ∙ y.has_data;
      version = ap (λ (k : Known). k.version) same.known ∙ y.version ∙ sym talk.version;
      resync = talk.resync ∙ y.resync;
    }

talk_same : (D C : Type 0) (S : Source D C) (A : Archive D) (had : List (Edition D)) (r r' : Router)
    (h : Host (List C) D) (tc : List Head) (tr : List (Sent C)) (p : Phase) → SameKnown r r'
    → SameTalk r r' → Talk D C S A had r h tc tr p → Talk D C S A had r' h tc tr p
talk_same D C S A had r r' h tc tr phases.Offline same talk x = tt
talk_same D C S A had r r' h tc tr phases.Connecting same talk x = tt
talk_same D C S A had r r' h tc tr phases.Waiting same talk x = x
talk_same D C S A had r r' h tc tr phases.Asked same talk x = record {
  own = asks_own r r' same talk x.own;
  coming = subst (λ (q : Query). UnderWay D C S A had q tc tr) (sym (same_query r r' same talk))
      x.coming;
}
talk_same D C S A had r r' h tc tr phases.Reading same talk x = record {
  none = x.none;
  left = subst (λ (s : Bool). Left D C S A had (if s then h.shown else None) (changes_of h.kept) tr)
      (sym talk.changes) x.left;
}
talk_same D C S A had r r' h tc tr phases.Applying same talk x = record {
  none = x.none;
  quiet = x.quiet;
  was = subst (λ (k : Known). WasPresent had k.session k.serial) (sym talk.answer) x.was;
  made = x.made
      ∙ ap (λ (k : Known). Some (A k.version k.session k.serial)) (sym talk.answer);
}

on_wait : (D C : Type 0) (S : Source D C) (A : Archive D) (had : List (Edition D)) (e : Event)
    (r r' : Router)
    (h : Host (List C) D) (tc : List Head) (tr : List (Sent C)) → Waits r e r'
    → Holds D C S A had r h tc tr → Holds D C S A had r' h (tc ++ []) tr
on_wait D C S A had e r r' h tc tr w x =
    subst (λ tc. Holds D C S A had r' h tc tr) (sym (append-nil tc)) (record {
      has = has_still D C S A had r r' h h w.same refl x.has;
      talk = to_phase D C S A had r' h tc tr r.phase w.talk.phase
          (talk_same D C S A had r r' h tc tr r.phase w.same w.talk x.talk);
    })

-- a unit that is passed over is a notify, or comes when none is awaited
drop_notify : (D C : Type 0) (S : Source D C) (A : Archive D) (had : List (Edition D)) (q : Query)
    (x : Sent C)
    (xs : List (Sent C)) → x.head.kind ≡ kinds.SerialNotify → Coming D C S A had q (x ∷ xs)
    → Coming D C S A had q xs
drop_notify D C S A had q x xs k (inl w) = w.1
drop_notify D C S A had q x xs k (inr (inl w)) = let e = w.0 in cc
drop_notify D C S A had q x xs k (inr (inr (inl w))) = let e = w.0 in cc
drop_notify D C S A had q x xs k (inr (inr (inr w))) = let e = w.0 in cc

drop_coming : (D C : Type 0) (S : Source D C) (A : Archive D) (had : List (Edition D)) (q : Query)
    (tc : List Head)
    (x : Sent C) (xs : List (Sent C)) → x.head.kind ≡ kinds.SerialNotify
    → UnderWay D C S A had q tc (x ∷ xs) → UnderWay D C S A had q tc xs
drop_coming D C S A had q tc x xs k (inl w) = inl (w.0, w.1.1)
drop_coming D C S A had q tc x xs k (inr w) = inr (w.0, drop_notify D C S A had q x xs k w.1)

pub no_payload : (v : ℕ) (k k' : Kind) → k ≡ k' → (IsPayloadOf v k' → ⊥) → IsPayloadOf v k → ⊥
no_payload v k k' e f p = f (subst (λ k. IsPayloadOf v k) e p)

no_notify : (D C : Type 0) (S : Source D C) (A : Archive D) (had : List (Edition D))
    (old : Option D)
    (kept : List C) (x : Sent C) (xs : List (Sent C)) → x.head.kind ≡ kinds.SerialNotify
    → Left D C S A had old kept (x ∷ xs) → ⊥
no_notify D C S A had old kept x xs k (inl w) =
    no_payload 2 x.head.kind kinds.SerialNotify k (λ p. p) w.0
no_notify D C S A had old kept x xs k (inr w) = let e = w.kind in cc

drop_talk : (D C : Type 0) (S : Source D C) (A : Archive D) (had : List (Edition D)) (r : Router)
    (h : Host (List C) D)
    (tc : List Head) (x : Sent C) (xs : List (Sent C)) (p : Phase) → r.phase ≡ p
    → PassesOver r (events.Came x.head) → Talk D C S A had r h tc (x ∷ xs) p
    → Talk D C S A had r h tc xs p
drop_talk D C S A had r h tc x xs phases.Offline e w t = tt
drop_talk D C S A had r h tc x xs phases.Connecting e w t = tt
drop_talk D C S A had r h tc x xs phases.Waiting e w t =
    record { none = t.none; quiet = t.quiet.1 }
drop_talk D C S A had r h tc x xs phases.Asked e (inl w) t = cc
drop_talk D C S A had r h tc x xs phases.Asked e (inr (inl w)) t = cc
drop_talk D C S A had r h tc x xs phases.Asked e (inr (inr w)) t =
    record { own = t.own; coming = drop_coming D C S A had (query r) tc x xs w.1 t.coming }
drop_talk D C S A had r h tc x xs phases.Reading e (inl w) t = cc
drop_talk D C S A had r h tc x xs phases.Reading e (inr (inl w)) t = cc
drop_talk D C S A had r h tc x xs phases.Reading e (inr (inr w)) t =
    absurd (no_notify D C S A had (if r.changes then h.shown else None) (changes_of h.kept) x xs w.1
    t.left)
drop_talk D C S A had r h tc x xs phases.Applying e w t =
    record { none = t.none; quiet = t.quiet.1; was = t.was; made = t.made }

-- ---- the router asks

on_ask : (D C : Type 0) (S : Source D C) (A : Archive D) (had : List (Edition D)) (n : ℕ)
    (e : Event) (q : Query)
    (r r' : Router) (h : Host (List C) D) (tc : List Head) (tr : List (Sent C)) → Asks r n e q r'
    → tc ≡ [] → Quiet C tr → (r.has_data ≡ true → HasSame D C S A had r h)
    → Holds D C S A had r' h (tc ++ query_head q ∷ []) tr
on_ask D C S A had n e q r r' h tc tr w none quiet has = record {
  has = has_still D C S A had r r' h h w.same refl has;
  talk = to_phase D C S A had r' h (tc ++ query_head q ∷ []) tr phases.Asked w.phase (record {
    own = w.own;
    coming = inl (
      ap (λ (t : List Head). t ++ query_head q ∷ []) none
          ∙ ap (λ (q : Query). query_head q ∷ []) w.query,
      quiet,
    );
  });
}

-- after a cache reset or a report nothing but notifies is on its way
after_reset : (D C : Type 0) (S : Source D C) (A : Archive D) (had : List (Edition D)) (q : Query)
    (tc : List Head)
    (x : Sent C) (xs : List (Sent C)) → x.head.kind ≡ kinds.CacheReset
    → UnderWay D C S A had q tc (x ∷ xs) → TalkWaiting C tc xs
after_reset D C S A had q tc x xs k (inl w) = let e = w.1.0 in cc
after_reset D C S A had q tc x xs k (inr (t, inl w)) = let e = w.0 in cc
after_reset D C S A had q tc x xs k (inr (t, inr (inl w))) = let e = w.0 in cc
after_reset D C S A had q tc x xs k (inr (t, inr (inr (inl w)))) =
    record { none = t; quiet = w.1 }
after_reset D C S A had q tc x xs k (inr (t, inr (inr (inr w)))) = let e = w.0 in cc

after_report : (D C : Type 0) (S : Source D C) (A : Archive D) (had : List (Edition D)) (q : Query)
    (tc : List Head)
    (x : Sent C) (xs : List (Sent C)) → x.head.kind ≡ kinds.ErrorReport
    → UnderWay D C S A had q tc (x ∷ xs) → TalkWaiting C tc xs
after_report D C S A had q tc x xs k (inl w) = let e = w.1.0 in cc
after_report D C S A had q tc x xs k (inr (t, inl w)) = let e = w.0 in cc
after_report D C S A had q tc x xs k (inr (t, inr (inl w))) = let e = w.0 in cc
after_report D C S A had q tc x xs k (inr (t, inr (inr (inl w)))) = let e = w.0 in cc
after_report D C S A had q tc x xs k (inr (t, inr (inr (inr w)))) =
    record { none = t; quiet = w.1 }

after_begin : (D C : Type 0) (S : Source D C) (A : Archive D) (had : List (Edition D)) (q : Query)
    (tc : List Head)
    (x : Sent C) (xs : List (Sent C)) → x.head.kind ≡ kinds.CacheResponse
    → UnderWay D C S A had q tc (x ∷ xs)
    → (tc ≡ []) × Left D C S A had (old_of D C S A q) [] xs
after_begin D C S A had q tc x xs k (inl w) = let e = w.1.0 in cc
after_begin D C S A had q tc x xs k (inr (t, inl w)) = let e = w.0 in cc
after_begin D C S A had q tc x xs k (inr (t, inr (inl w))) = (t, w.1)
after_begin D C S A had q tc x xs k (inr (t, inr (inr (inl w)))) = let e = w.0 in cc
after_begin D C S A had q tc x xs k (inr (t, inr (inr (inr w)))) = let e = w.0 in cc

-- ---- the router reads

-- what the query is about is what is shown
old_shown : (D C : Type 0) (S : Source D C) (A : Archive D) (had : List (Edition D)) (r : Router)
    (h : Host (List C) D)
    (s : Bool) → r.changes ≡ s → (r.changes ≡ true → AsksOwn r)
    → (r.has_data ≡ true → HasSame D C S A had r h)
    → old_of D C S A (query r) ≡ (if s then h.shown else None)
old_shown D C S A had r h false e own has = ap (λ (s : Bool). old_of D C S A (query_by r s)) e
old_shown D C S A had r h true e own has =
    let o : AsksOwn r = own e in
    let y : HasSame D C S A had r h = has o.has_data in
    ap (λ (s : Bool). old_of D C S A (query_by r s)) e
    ∙ at_same D C S A r.version r.known.version r.known.session r.known.session r.known.serial
    r.known.serial (sym o.version) refl refl
    ∙ sym y.same

on_begin : (D C : Type 0) (S : Source D C) (A : Archive D) (had : List (Edition D)) (x : Sent C)
    (r r' : Router)
    (h : Host (List C) D) (tc : List Head) (xs : List (Sent C)) → Begins r x.head r'
    → Holds D C S A had r h tc (x ∷ xs)
    → Holds D C S A had r' (record { kept = []; made = h.made; shown = h.shown }) (tc ++ []) xs
on_begin D C S A had x r r' h tc xs w y =
    let h' : Host (List C) D = record { kept = []; made = h.made; shown = h.shown } in
    let t : TalkAsked D C S A had r tc (x ∷ xs) =
    at_phase D C S A had r h tc (x ∷ xs) phases.Asked w.from y.talk in
    let l : (tc ≡ []) × Left D C S A had (old_of D C S A (query r)) [] xs =
    after_begin D C S A had (query r) tc x xs w.kind t.coming in
    let old_is : old_of D C S A (query r) ≡ (if r'.changes then h.shown else None) =
    old_shown D C S A had r h r.changes refl t.own y.has
    ∙ ap (λ (s : Bool). if s then h.shown else None) (sym w.changes) in
    record {
      has = has_still D C S A had r r' h h' w.same refl y.has;
      talk = to_phase D C S A had r' h' (tc ++ []) xs phases.Reading w.phase (record {
        none = append-nil tc ∙ l.0;
        left = subst (λ (o : Option D). Left D C S A had o [] xs) old_is l.1;
      });
    }

one_more : (D C : Type 0) (S : Source D C) (A : Archive D) (had : List (Edition D)) (old : Option D)
    (kept : List C) (v : ℕ) (x : Sent C) (xs : List (Sent C)) → IsPayloadOf v x.head.kind
    → Left D C S A had old kept (x ∷ xs) → Left D C S A had old (kept ++ x.body) xs
one_more D C S A had old kept v x xs p (inl w) = w.1
one_more D C S A had old kept v x xs p (inr w) =
    absurd (no_payload v x.head.kind kinds.EndOfData w.kind (λ p. p) p)

-- the changes that are kept then
pub keeps_one : {C : Type 0} (kept : List (List C)) (b : List C)
    → changes_of (kept ++ b ∷ []) ≡ changes_of kept ++ b
keeps_one {C} kept b =
    flat_map-append (λ (changes : List C). changes) kept (b ∷ [])
    ∙ ap (λ (l : List C). changes_of kept ++ l) (append-nil b)

on_keep : (D C : Type 0) (S : Source D C) (A : Archive D) (had : List (Edition D)) (x : Sent C)
    (r r' : Router)
    (h : Host (List C) D) (tc : List Head) (xs : List (Sent C)) → Keeps r x.head r'
    → Holds D C S A had r h tc (x ∷ xs)
    → Holds D C S A had r' (record { kept = h.kept ++ x.body ∷ []; made = h.made; shown = h.shown })
    (tc ++ []) xs
on_keep D C S A had x r r' h tc xs w y =
    let old : Option D = if r.changes then h.shown else None in
    let h' : Host (List C) D =
    record { kept = h.kept ++ x.body ∷ []; made = h.made; shown = h.shown } in
    let t : TalkReading D C S A had r h tc (x ∷ xs) =
    at_phase D C S A had r h tc (x ∷ xs) phases.Reading w.phase y.talk in
    let l : Left D C S A had old (changes_of (h.kept ++ x.body ∷ [])) xs =
    subst (λ cs. Left D C S A had old cs xs) (sym (keeps_one h.kept x.body))
    (one_more D C S A had old (changes_of h.kept) r.version x xs w.kind t.left) in
    record {
      has = has_still D C S A had r r' h h' w.same refl y.has;
      talk = to_phase D C S A had r' h' (tc ++ []) xs phases.Reading (w.talk.phase ∙ w.phase)
          (record {
            none = append-nil tc ∙ t.none;
            left = subst
                (λ (s : Bool). Left D C S A had (if s then h.shown else None)
                (changes_of (h.kept ++ x.body ∷ [])) xs)
                (sym w.talk.changes) l;
          });
    }

the_end : (D C : Type 0) (S : Source D C) (A : Archive D) (had : List (Edition D)) (old : Option D)
    (kept : List C)
    (x : Sent C) (xs : List (Sent C)) → x.head.kind ≡ kinds.EndOfData
    → Left D C S A had old kept (x ∷ xs) → EndsHere D C S A had old kept x xs
the_end D C S A had old kept x xs k (inl w) =
    absurd (no_payload 2 x.head.kind kinds.EndOfData k (λ p. p) w.0)
the_end D C S A had old kept x xs k (inr w) = w

on_apply : (D C : Type 0) (S : Source D C) (A : Archive D) (had : List (Edition D)) (n : ℕ)
    (x : Sent C) (on : Bool)
    (r r' : Router) (h : Host (List C) D) (tc : List Head) (xs : List (Sent C))
    → Completes r n x.head on r' → Holds D C S A had r h tc (x ∷ xs)
    → Holds D C S A had r' (host_after (caller_of D C S r.settings) h x.body (actions.Apply on))
    (tc ++ []) xs
on_apply D C S A had n x on r r' h tc xs w y =
    let h' : Host (List C) D = host_after (caller_of D C S r.settings) h x.body (actions.Apply on)
    in
    let old : Option D = if r.changes then h.shown else None in
    let t : TalkReading D C S A had r h tc (x ∷ xs) =
    at_phase D C S A had r h tc (x ∷ xs) phases.Reading w.from y.talk in
    let l : EndsHere D C S A had old (changes_of h.kept) x xs =
    the_end D C S A had old (changes_of h.kept) x xs w.kind t.left in
    record {
      has = has_still D C S A had r r' h h' w.same refl y.has;
      talk = to_phase D C S A had r' h' (tc ++ []) xs phases.Applying w.phase (record {
        none = append-nil tc ∙ t.none;
        quiet = l.rest;
        was = subst (λ (k : Known). WasPresent had k.session k.serial) (sym w.answer) l.was;
        made = ap (λ (s : Bool). S.make (if s then h.shown else None) (changes_of h.kept)) w.base
            ∙ l.makes
            ∙ ap (λ (k : Known). Some (A k.version k.session k.serial)) (sym w.answer);
      });
    }

on_show : (D C : Type 0) (S : Source D C) (A : Archive D) (had : List (Edition D)) (n : ℕ)
    (r r' : Router)
    (h : Host (List C) D) (tc : List Head) (tr : List (Sent C)) → Adopts r n r'
    → Holds D C S A had r h tc tr
    → Holds D C S A had r' (record { kept = h.kept; made = h.made; shown = h.made }) (tc ++ []) tr
on_show D C S A had n r r' h tc tr w y =
    let h' : Host (List C) D = record { kept = h.kept; made = h.made; shown = h.made } in
    let t : TalkApplying D C S A had r h tc tr =
    at_phase D C S A had r h tc tr phases.Applying w.from y.talk in
    record {
      has = λ p. record {
        was = subst (λ (k : Known). WasPresent had k.session k.serial) (sym w.known) t.was;
        same = t.made
            ∙ ap (λ (k : Known). Some (A k.version k.session k.serial)) (sym w.known);
      };
      talk = to_phase D C S A had r' h' (tc ++ []) tr phases.Waiting w.phase
          (record { none = append-nil tc ∙ t.none; quiet = t.quiet });
    }

no_left : (D C : Type 0) (S : Source D C) (A : Archive D) (had : List (Edition D)) (old : Option D)
    (kept : List C)
    (x : Sent C) (xs : List (Sent C)) → x.head.kind ≡ kinds.ErrorReport
    → Left D C S A had old kept (x ∷ xs) → ⊥
no_left D C S A had old kept x xs k (inl w) =
    no_payload 2 x.head.kind kinds.ErrorReport k (λ p. p) w.0
no_left D C S A had old kept x xs k (inr w) = let e = w.kind in cc

on_none : (D C : Type 0) (S : Source D C) (A : Archive D) (had : List (Edition D)) (x : Sent C)
    (r r' : Router)
    (h : Host (List C) D) (tc : List Head) (xs : List (Sent C)) → HasNoData r x.head r'
    → Holds D C S A had r h tc (x ∷ xs) → Holds D C S A had r' h (tc ++ []) xs
on_none D C S A had x r r' h tc xs w y =
    subst (λ tc. Holds D C S A had r' h tc xs) (sym (append-nil tc)) (record {
      has = has_still D C S A had r r' h h w.same refl y.has;
      talk = to_phase D C S A had r' h tc xs phases.Waiting w.phase (go w.from);
    })
  where
    go : (r.phase ≡ phases.Asked) ⊎ (r.phase ≡ phases.Reading) → TalkWaiting C tc xs
    go (inl p) =
        let t : TalkAsked D C S A had r tc (x ∷ xs) =
        at_phase D C S A had r h tc (x ∷ xs) phases.Asked p y.talk in
        after_report D C S A had (query r) tc x xs w.kind t.coming
    go (inr p) =
        let t : TalkReading D C S A had r h tc (x ∷ xs) =
        at_phase D C S A had r h tc (x ∷ xs) phases.Reading p y.talk in
        absurd (no_left D C S A had (if r.changes then h.shown else None) (changes_of h.kept) x xs
        w.kind t.left)

-- ---- a connection ends, or is made

no_data : (D C : Type 0) (S : Source D C) (A : Archive D) (had : List (Edition D)) (r : Router)
    (h : Host (List C) D)
    → r.has_data ≡ false → r.has_data ≡ true → HasSame D C S A had r h
no_data D C S A had r h p q = cc

on_end : (D C : Type 0) (S : Source D C) (A : Archive D) (had : List (Edition D)) (e : Event)
    (x : Ending)
    (r r' : Router) (h : Host (List C) D) (tc tc' : List Head) (tr tr' : List (Sent C))
    → Closes r e x r' → Holds D C S A had r h tc tr
    → Holds D C S A had r'
    (record { kept = h.kept; made = h.made; shown = if x.drop then None else h.shown }) tc' tr'
on_end D C S A had e x r r' h tc tc' tr tr' w y = record {
  has = go x.drop w.data_then;
  talk = to_phase D C S A had r'
      (record { kept = h.kept; made = h.made; shown = if x.drop then None else h.shown }) tc' tr'
      phases.Offline w.phase tt;
}
  where
    go : (d : Bool) → Drops d r r' → r'.has_data ≡ true
        → HasSame D C S A had r'
        (record { kept = h.kept; made = h.made; shown = if d then None else h.shown })
    go true drops p =
        no_data D C S A had r' (record { kept = h.kept; made = h.made; shown = None })
        drops.has_data p
    go false drops p =
        has_still D C S A had r r' h
        (record { kept = h.kept; made = h.made; shown = h.shown }) drops refl y.has p

on_drop : (D C : Type 0) (S : Source D C) (A : Archive D) (had : List (Edition D)) (r r' : Router)
    (h : Host (List C) D) (tc : List Head) (tr : List (Sent C)) → Loses r r'
    → Holds D C S A had r' (record { kept = h.kept; made = h.made; shown = None }) tc tr
on_drop D C S A had r r' h tc tr w = record {
  has = no_data D C S A had r' (record { kept = h.kept; made = h.made; shown = None })
      w.lost.has_data;
  talk = to_phase D C S A had r' (record { kept = h.kept; made = h.made; shown = None }) tc tr
      phases.Offline w.phase tt;
}

on_connect : (D C : Type 0) (S : Source D C) (A : Archive D) (had : List (Edition D)) (n : ℕ)
    (r r' : Router)
    (h : Host (List C) D) (tc tc' : List Head) (tr : List (Sent C)) → Connects r n r'
    → Holds D C S A had r h tc tr → Holds D C S A had r' h tc' tr
on_connect D C S A had n r r' h tc tc' tr w y = record {
  has = has_still D C S A had r r' h h w.same refl y.has;
  talk = to_phase D C S A had r' h tc' tr phases.Connecting w.phase tt;
}

-- ---- one step

on_tells : (D C : Type 0) (S : Source D C) (A : Archive D) (had : List (Edition D)) (n : ℕ)
    (e : Event) (a : Action)
    (r r' : Router) (h : Host (List C) D) (tc : List Head) (tr : List (Sent C))
    → TellsItself D C h e → Rule r n e a r' → Holds D C S A had r h tc tr
    → Holds D C S A had r' (host_after (caller_of D C S r.settings) h [] a) (tc ++ router_writes a)
    tr
on_tells D C S A had n e actions.Wait r r' h tc tr i w y = on_wait D C S A had e r r' h tc tr w y
on_tells D C S A had n e (actions.End x) r r' h tc tr i w y =
    on_end D C S A had e x r r' h tc (tc ++ []) tr tr w y
on_tells D C S A had n e actions.Drop r r' h tc tr i w y =
    on_drop D C S A had r r' h (tc ++ []) tr w
on_tells D C S A had n events.Tick actions.Connect r r' h tc tr i w y =
    on_connect D C S A had n r r' h tc (tc ++ []) tr w y
on_tells D C S A had n events.Tick (actions.Ask q) r r' h tc tr i w y =
    let t : TalkWaiting C tc tr =
    at_phase D C S A had r h tc tr phases.Waiting w.may.0 y.talk in
    on_ask D C S A had n events.Tick q r r' h tc tr w t.none t.quiet y.has
on_tells D C S A had n events.Lost (actions.Ask q) r r' h tc tr i w y = absurd w.may
on_tells D C S A had n events.Asked (actions.Ask q) r r' h tc tr i w y = absurd w.may
on_tells D C S A had n (events.Faulty f) (actions.Ask q) r r' h tc tr i w y = absurd w.may
on_tells D C S A had n events.Applied (actions.Ask q) r r' h tc tr i w y = absurd w.may
on_tells D C S A had n (events.NotApplied code) (actions.Ask q) r r' h tc tr i w y = absurd w.may
on_tells D C S A had n events.Applied actions.Show r r' h tc tr i w y =
    on_show D C S A had n r r' h tc tr w y
on_tells D C S A had n (events.Came u) _ r r' h tc tr i w y = absurd i
on_tells D C S A had n events.Connected _ r r' h tc tr i w y = absurd i
on_tells D C S A had n _ _ r r' h tc tr i w y = absurd w

on_hears : (D C : Type 0) (S : Source D C) (A : Archive D) (had : List (Edition D)) (n : ℕ)
    (x : Sent C) (a : Action)
    (r r' : Router) (h : Host (List C) D) (tc : List Head) (xs : List (Sent C))
    → Rule r n (events.Came x.head) a r' → Holds D C S A had r h tc (x ∷ xs)
    → Holds D C S A had r' (host_after (caller_of D C S r.settings) h x.body a)
    (tc ++ router_writes a) xs
on_hears D C S A had n x actions.Wait r r' h tc xs w y =
    on_wait D C S A had (events.Came x.head) r r' h tc xs w (record {
      has = y.has;
      talk = drop_talk D C S A had r h tc x xs r.phase refl w.passes y.talk;
    })
on_hears D C S A had n x (actions.End z) r r' h tc xs w y =
    on_end D C S A had (events.Came x.head) z r r' h tc (tc ++ []) (x ∷ xs) xs w y
on_hears D C S A had n x actions.Drop r r' h tc xs w y =
    on_drop D C S A had r r' h (tc ++ []) xs w
on_hears D C S A had n x (actions.Ask q) r r' h tc xs w y =
    let t : TalkAsked D C S A had r tc (x ∷ xs) =
    at_phase D C S A had r h tc (x ∷ xs) phases.Asked w.may.0 y.talk in
    let z : TalkWaiting C tc xs =
    after_reset D C S A had (query r) tc x xs w.may.2 t.coming in
    on_ask D C S A had n (events.Came x.head) q r r' h tc xs w z.none z.quiet y.has
on_hears D C S A had n x actions.Begin r r' h tc xs w y = on_begin D C S A had x r r' h tc xs w y
on_hears D C S A had n x actions.Keep r r' h tc xs w y = on_keep D C S A had x r r' h tc xs w y
on_hears D C S A had n x (actions.Apply on) r r' h tc xs w y =
    on_apply D C S A had n x on r r' h tc xs w y
on_hears D C S A had n x actions.NoData r r' h tc xs w y = on_none D C S A had x r r' h tc xs w y
on_hears D C S A had n x actions.Connect r r' h tc xs w y = absurd w
on_hears D C S A had n x actions.Show r r' h tc xs w y = absurd w

on_connects : (D C : Type 0) (S : Source D C) (A : Archive D) (had : List (Edition D)) (n : ℕ)
    (a : Action)
    (r r' : Router) (h : Host (List C) D) (tc : List Head) (tr : List (Sent C))
    → r.phase ≡ phases.Connecting → Rule r n events.Connected a r'
    → Holds D C S A had r h tc tr
    → Holds D C S A had r' (host_after (caller_of D C S r.settings) h [] a) (router_writes a) []
on_connects D C S A had n actions.Wait r r' h tc tr c w y = absurd (w.passes c)
on_connects D C S A had n (actions.End x) r r' h tc tr c w y =
    on_end D C S A had events.Connected x r r' h tc [] tr [] w y
on_connects D C S A had n actions.Drop r r' h tc tr c w y = on_drop D C S A had r r' h [] [] w
on_connects D C S A had n (actions.Ask q) r r' h tc tr c w y =
    on_ask D C S A had n events.Connected q r r' h [] [] w refl tt y.has
on_connects D C S A had n actions.Connect r r' h tc tr c w y = absurd w
on_connects D C S A had n actions.Begin r r' h tc tr c w y = absurd w
on_connects D C S A had n actions.Keep r r' h tc tr c w y = absurd w
on_connects D C S A had n (actions.Apply z) r r' h tc tr c w y = absurd w
on_connects D C S A had n actions.Show r r' h tc tr c w y = absurd w
on_connects D C S A had n actions.NoData r r' h tc tr c w y = absurd w

-- ---- the cache answers

pub cons_eq : (q : Query) (u : Head) (us : List Head) → query_head q ∷ [] ≡ u ∷ us
    → (query_head q ≡ u) × (us ≡ [])
cons_eq q u us e = (cc, cc)

no_more : (u : Head) (us tc : List Head) → tc ≡ u ∷ us → tc ≡ [] → ⊥
no_more u us tc e f = cc

answered : (D C : Type 0) (S : Source D C) (A : Archive D) (had : List (Edition D))
    (I : IsSource D C S had) (K : IsArchive A had) (c c' : Cache) (n m : ℕ)
    (old p : Edition D) (u : Head) (kept : Bool) (a : Answer) (q : Query) (us : List Head)
    (tc : List Head) (tr : List (Sent C)) → IsOld had p
    → CacheRule c n p.name (told.Came u kept) a c' → AreFrom had p a old → tc ≡ u ∷ us
    → UnderWay D C S A had q tc tr
    → UnderWay D C S A had q us (tr ++ cache_writes D C S c'.version m old p a)
answered D C S A had I K c c' n m old p u kept a q us tc tr was w from e (inr x) =
    absurd (no_more u us tc e x.0)
answered D C S A had I K c c' n m old p u kept a q us tc tr was w from e (inl x) =
    let two : (query_head q ≡ u) × (us ≡ []) = cons_eq q u us (sym x.0 ∙ e) in
    let w' : CacheRule c n p.name (told.Came (query_head q) kept) a c' =
    subst (λ (u : Head). CacheRule c n p.name (told.Came u kept) a c') (sym two.0) w in
    inr (
      two.1,
      coming_after D C S A had q tr (cache_writes D C S c'.version m old p a) x.1
          (answer_comes D C S A had I K c c' n m old p q kept a was w' from),
    )

on_answer : (D C : Type 0) (S : Source D C) (A : Archive D) (had : List (Edition D))
    (I : IsSource D C S had) (K : IsArchive A had) (c c' : Cache) (n m : ℕ)
    (old p : Edition D) (u : Head) (kept : Bool) (a : Answer) (us : List Head) (r : Router)
    (h : Host (List C) D) (tc : List Head) (tr : List (Sent C)) (f : Phase) → IsOld had p
    → CacheRule c n p.name (told.Came u kept) a c' → AreFrom had p a old → tc ≡ u ∷ us
    → Talk D C S A had r h tc tr f
    → Talk D C S A had r h us (tr ++ cache_writes D C S c'.version m old p a) f
on_answer D C S A had I K c c' n m old p u kept a us r h tc tr phases.Offline was w from e x = tt
on_answer D C S A had I K c c' n m old p u kept a us r h tc tr phases.Connecting was w from e x = tt
on_answer D C S A had I K c c' n m old p u kept a us r h tc tr phases.Asked was w from e x =
    record {
      own = x.own;
      coming = answered D C S A had I K c c' n m old p u kept a (query r) us tc tr was w from e
          x.coming;
    }
on_answer D C S A had I K c c' n m old p u kept a us r h tc tr phases.Reading was w from e x =
    absurd (no_more u us tc e x.none)
on_answer D C S A had I K c c' n m old p u kept a us r h tc tr phases.Applying was w from e x =
    absurd (no_more u us tc e x.none)
on_answer D C S A had I K c c' n m old p u kept a us r h tc tr phases.Waiting was w from e x =
    absurd (no_more u us tc e x.none)

more_coming : (D C : Type 0) (S : Source D C) (A : Archive D) (had : List (Edition D)) (q : Query)
    (tc : List Head)
    (tr ys : List (Sent C)) → Quiet C ys → UnderWay D C S A had q tc tr
    → UnderWay D C S A had q tc (tr ++ ys)
more_coming D C S A had q tc tr ys w (inl x) = inl (x.0, quiet_more C tr ys x.1 w)
more_coming D C S A had q tc tr ys w (inr x) = inr (x.0, coming_more D C S A had q tr ys x.1 w)

on_notify : (D C : Type 0) (S : Source D C) (A : Archive D) (had : List (Edition D)) (r : Router)
    (h : Host (List C) D)
    (tc : List Head) (tr ys : List (Sent C)) (f : Phase) → Quiet C ys
    → Talk D C S A had r h tc tr f → Talk D C S A had r h tc (tr ++ ys) f
on_notify D C S A had r h tc tr ys phases.Offline w x = tt
on_notify D C S A had r h tc tr ys phases.Connecting w x = tt
on_notify D C S A had r h tc tr ys phases.Asked w x =
    record { own = x.own; coming = more_coming D C S A had (query r) tc tr ys w x.coming }
on_notify D C S A had r h tc tr ys phases.Reading w x = record {
  none = x.none;
  left = left_more D C S A had (if r.changes then h.shown else None) (changes_of h.kept) tr ys
      x.left w;
}
on_notify D C S A had r h tc tr ys phases.Applying w x =
    record { none = x.none; quiet = quiet_more C tr ys x.quiet w; was = x.was; made = x.made }
on_notify D C S A had r h tc tr ys phases.Waiting w x =
    record { none = x.none; quiet = quiet_more C tr ys x.quiet w }

news_coming : (D C : Type 0) (S : Source D C) (A : Archive D) (had : List (Edition D))
    (p : Edition D) (q : Query)
    (tc : List Head) (tr : List (Sent C)) → UnderWay D C S A had q tc tr
    → UnderWay D C S A (p ∷ had) q tc tr
news_coming D C S A had p q tc tr (inl x) = inl x
news_coming D C S A had p q tc tr (inr x) = inr (x.0, coming_news D C S A had p q tr x.1)

on_news : (D C : Type 0) (S : Source D C) (A : Archive D) (had : List (Edition D)) (p : Edition D)
    (r : Router)
    (h : Host (List C) D) (tc : List Head) (tr : List (Sent C)) (f : Phase)
    → Talk D C S A had r h tc tr f → Talk D C S A (p ∷ had) r h tc tr f
on_news D C S A had p r h tc tr phases.Offline x = tt
on_news D C S A had p r h tc tr phases.Connecting x = tt
on_news D C S A had p r h tc tr phases.Asked x =
    record { own = x.own; coming = news_coming D C S A had p (query r) tc tr x.coming }
on_news D C S A had p r h tc tr phases.Reading x = record {
  none = x.none;
  left = left_news D C S A had p (if r.changes then h.shown else None) (changes_of h.kept) tr
      x.left;
}
on_news D C S A had p r h tc tr phases.Applying x =
    record {
      none = x.none;
      quiet = x.quiet;
      was = present_news had p r.answer.session r.answer.serial x.was;
      made = x.made;
    }
on_news D C S A had p r h tc tr phases.Waiting x = x

-- ---- whole runs

abbrev InWorld : (D C : Type 0) → Source D C → Archive D → World D C → Type 0
InWorld D C S A w = Holds D C S A w.had w.router w.host w.to_cache w.to_router

next : (D C : Type 0) (S : Source D C) (A : Archive D) (w w' : World D C)
    (I : IsSource D C S w.had) (K : IsArchive A w.had) → IsOld w.had w.present
    → Next D C S Rule CacheRule w w' → InWorld D C S A w → InWorld D C S A w'
next D C S A w w' I K was (router_told w₀ n e a r itself step) y =
    on_tells D C S A w₀.had n e a w₀.router r w₀.host w₀.to_cache w₀.to_router itself step y
next D C S A w w' I K was (connected w₀ n a r c phase anew step) y =
    on_connects D C S A w₀.had n a w₀.router r w₀.host w₀.to_cache w₀.to_router phase step y
next D C S A w w' I K was (router_hears w₀ n x xs a r is step) y =
    on_hears D C S A w₀.had n x a w₀.router r w₀.host w₀.to_cache xs step
    (subst (λ tr. Holds D C S A w₀.had w₀.router w₀.host w₀.to_cache tr) is y)
next D C S A w w' I K was (cache_hears w₀ n m u us kept a c old is step from) y = record {
  has = y.has;
  talk = on_answer D C S A w₀.had I K w₀.cache c n m old w₀.present u kept a us w₀.router w₀.host
      w₀.to_cache w₀.to_router w₀.router.phase was step from is y.talk;
}
next D C S A w w' I K was (cache_told w₀ n m e a c tells step) y = record {
  has = y.has;
  talk = on_notify D C S A w₀.had w₀.router w₀.host w₀.to_cache w₀.to_router
      (cache_writes D C S c.version m w₀.present w₀.present a) w₀.router.phase
      (notifies D C S w₀.cache c n m w₀.present w₀.present e a tells step) y.talk;
}
next D C S A w w' I K was (renewed w₀ p) y = record {
  has = λ d.
      let z : HasSame D C S A w₀.had w₀.router w₀.host = y.has d in
      record {
        was = present_news w₀.had p w₀.router.known.session w₀.router.known.serial z.was;
        same = z.same;
      };
  talk = on_news D C S A w₀.had p w₀.router w₀.host w₀.to_cache w₀.to_router w₀.router.phase
      y.talk;
}

in_world : (D C : Type 0) (S : Source D C) (A : Archive D) (w : World D C)
    (I : IsSource D C S w.had) (K : IsArchive A w.had) → IsReached D C S w → InWorld D C S A w
in_world D C S A w I K (world_begins r c p phase none) = record {
  has = no_data D C S A (p ∷ []) r empty_host none;
  talk = to_phase D C S A (p ∷ []) r empty_host [] [] phases.Offline phase tt;
}
in_world D C S A w I K (world_goes_on w₀ w₁ run step) =
    let among : AreAmong w₀.had w₁.had = among_next D C S Rule CacheRule w₀ w₁ step in
    let I₀ : IsSource D C S w₀.had = source_before D C S w₀.had w₁.had among I in
    let K₀ : IsArchive A w₀.had = archive_before A w₀.had w₁.had among K in
    next D C S A w₀ w₁ I₀ K₀ (present_old D C S Rule CacheRule w₀ run) step
    (in_world D C S A w₀ I₀ K₀ run)

-- the data under each name
abbrev archive_of : (D C : Type 0) → World D C → Archive D
archive_of D C w = first_of w.had (w.present.for_version 0)

in_archive : (D C : Type 0) (S : Source D C) (w : World D C) → IsSource D C S w.had
    → IsOneDataPerName w.had → IsReached D C S w → InWorld D C S (archive_of D C w) w
in_archive D C S w I one run =
    in_world D C S (archive_of D C w) w I (is_archive w.had (w.present.for_version 0) one) run

pub agreement : (D C : Type 0) (S : Source D C) (w : World D C) → IsSource D C S w.had
    → IsOneDataPerName w.had → IsReached D C S w → w.router.has_data ≡ true → Agrees D C w
agreement D C S w I one run has =
    let A : Archive D = archive_of D C w in
    let x : HasSame D C S A w.had w.router w.host = (in_archive D C S w I one run).has has in
    let e : Edition D = x.was.0 in
    let session : e.name.session ≡ w.router.known.session = x.was.2 in
    let serial : e.name.serial ≡ w.router.known.serial = x.was.3 in
    record {
      edition = e;
      was = x.was.1;
      session = session;
      serial = serial;
      same = x.same
          ∙ sym (λ i. Some (A w.router.known.version (session i) (serial i)))
          ∙ ap (λ (d : D). Some d)
          (is_archive w.had (w.present.for_version 0) one e x.was.1 w.router.known.version);
    }

-- a serial query that is out is about the data that are there
pub asks_own_then : (D C : Type 0) (S : Source D C) (w : World D C) → IsSource D C S w.had
    → IsOneDataPerName w.had → IsReached D C S w → w.router.phase ≡ phases.Asked
    → w.router.changes ≡ true → AsksOwn w.router
asks_own_then D C S w I one run e =
    let A : Archive D = archive_of D C w in
    let t : TalkAsked D C S A w.had w.router w.to_cache w.to_router =
    at_phase D C S A w.had w.router w.host w.to_cache w.to_router phases.Asked e
    (in_archive D C S w I one run).talk in
    t.own

-- what a router knows of, the cache had
pub known_had : (D C : Type 0) (S : Source D C) (w : World D C) → IsSource D C S w.had
    → IsOneDataPerName w.had → IsReached D C S w → w.router.has_data ≡ true
    → WasPresent w.had w.router.known.session w.router.known.serial
known_had D C S w I one run has = ((in_archive D C S w I one run).has has).was
