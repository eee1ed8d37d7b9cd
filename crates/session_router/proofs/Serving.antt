-- A router that a cache serves by the rules has data in time: what is left of the time, at most,
-- never grows.
use Rattle.std.proofs.Common.{◌≡◌, ◌≢◌, ◌⊎◌, ℕ, Bool, true, false, ◌+◌, ◌*◌, ◌<◌, ◌≤◌, min}
use Rattle.std.proofs.Common.{max, ◌-◌}
use Rattle.std.proofs.Common.{Some, None, if◌then◌else◌, refl, sym, ap, ◌∙◌, subst}
use Rattle.std.proofs.Common.{inl, inr, arith}
use Rattle.std.proofs.lemmas.Bool.{cases_eq, cases_lt}
use Rattle.session_router.specs.declared.head.Head.{Head}
use Rattle.session_router.specs.declared.head.Kind.TheVariants as kinds
use Rattle.session_router.specs.declared.settings.Settings.{Settings}
use Rattle.session_router.specs.declared.router.Router.{Router}
use Rattle.session_router.specs.declared.router.Phase.{Phase}
use Rattle.session_router.specs.declared.router.Phase.TheVariants as phases
use Rattle.session_router.specs.declared.event.Event.{Event}
use Rattle.session_router.specs.declared.event.Event.TheVariants as events
use Rattle.session_router.specs.declared.event.Action.{Action}
use Rattle.session_router.specs.declared.event.Action.TheVariants as actions
use Rattle.session_router.specs.declared.event.Cause.TheVariants as causes
use Rattle.session_router.specs.Rules.{Fresh, Keeps, MayAnswer, Rule}
use Rattle.session_router.specs.Rules.{query}
use Rattle.session_router.specs.Heeding.{HeedsAsked, HeedsLoss, HeedsTick, HeedsWaiting}
use Rattle.session_router.specs.Heeding.{asks_for_all}
use Rattle.session_router.specs.Heeding.{ends_for, ends_with}
use Rattle.session_router.specs.Pace.{Paces}
use Rattle.session_router.specs.Pace.{SameDue, due_in}
use Rattle.session_router.specs.Pace.{wakes_at}
use Rattle.session_router.specs.Step.{IsInTime, IsStep}
use Rattle.session_router.specs.Recovery.{connection_time, served_until, time_needed}
use Rattle.session_router.proofs.Served.{AnswersWell, GoesOnWell, IsAboveFloor, IsMadeWell}
use Rattle.session_router.proofs.Served.{IsServed}
use Rattle.session_router.proofs.Served.{IsServedBy, LeavesWell}
use Rattle.session_router.proofs.Served.LeavesWell.{not_asked_yet, notifies_then, wished_then}
use Rattle.session_router.proofs.Served.AnswersWell.{answers_anew, refuses_session, closes_session}
use Rattle.session_router.proofs.Served.AnswersWell.{not_yet, notifies, responds, resets_well}
use Rattle.session_router.proofs.Served.AnswersWell.{wished}
use Rattle.session_router.proofs.Served.AnswersWell.{refuses_version, answers_lower}
use Rattle.session_router.proofs.Served.AnswersWell.{closes_silently}
use Rattle.session_router.proofs.Served.GoesOnWell.{not_more_yet, notifies_inside, sends_payload}
use Rattle.session_router.proofs.Served.GoesOnWell.{ends_data, wished_inside}
use Rattle.session_router.proofs.Served.IsMadeWell.{not_made_yet, are_made, are_refused}
use Rattle.session_router.proofs.Served.IsMadeWell.{wished_meanwhile}
use Rattle.session_router.proofs.Served.IsServed.{served_from, served_on}
use Rattle.session_router.proofs.Settled.{same_settings}
use Rattle.session_router.proofs.Connections.{Holds, Kept, UnderWay, after}
use Rattle.session_router.proofs.Connections.{left, more_le}
use Rattle.session_router.proofs.Connections.{self_le, then_waiting}
use Rattle.session_router.proofs.Connections.{after_waiting, times}
use Rattle.session_router.proofs.Acting.{on_still, equal_le, on_wait, on_connect, on_connected}
use Rattle.session_router.proofs.Acting.{on_asked, on_reset, on_begin, on_apply, on_fall, on_rise}
use Rattle.session_router.proofs.Acting.{on_failure, on_loss, on_drop}

-- ---- what is done at what such a cache sends

-- how a connection ends at another session
abbrev flushed_with : Bool → Action
flushed_with dropped = ends_with dropped (Some (record { 0 = 0 })) causes.OtherSession

pub record Done (r : Router) (n : ℕ) (e : Event) (x : Action) (r' : Router) : Type 0 where
  pub rule : Rule r n e x r'
  pub paces : Paces r n e x r'

done :
    (r r' : Router) (n : ℕ) (e : Event) (a x : Action) → IsStep r n e a r' → a ≡ x
    → Done r n e x r'
done r r' n e a x w q = record {
  rule = subst (λ (y : Action). Rule r n e y r') q w.rule;
  paces = subst (λ (y : Action). Paces r n e y r') q w.paces;
}

-- time
soonest : (r : Router) → wakes_at r ≤ due_in r.phase r
soonest r = bounded r.has_data (due_in r.phase r) r.expires
  where
    bounded : (b : Bool) (x y : ℕ) → (if b then min x y else x) ≤ x
    bounded true x y = omega arith
    bounded false x y = omega arith

max_le : (n n' w d : ℕ) → n' ≤ max n w → w ≤ d → n' ≤ max n d
max_le n n' w d h k = omega arith

pub fresh_or_not : (r : Router) (n : ℕ) → Fresh r n ⊎ ((r.has_data ≡ true) × (r.expires ≤ n))
fresh_or_not r n = go r.has_data refl (cases_lt n r.expires)
  where
    go : (b : Bool) → r.has_data ≡ b → (n < r.expires) ⊎ (r.expires ≤ n)
        → Fresh r n ⊎ ((r.has_data ≡ true) × (r.expires ≤ n))
    go false e x = inl (λ q. cc)
    go true e (inl x) = inl (λ q. x)
    go true e (inr x) = inr (e, x)

-- the data have expired
expired :
    (p : Phase) (s : Settings) (r r' : Router) (n n' : ℕ) (e : Event) (a : Action)
    → r.settings ≡ s → r.phase ≡ p → Holds p r → n' ≤ max n (due_in p r)
    → r.has_data ≡ true → r.expires ≤ n' → IsStep r n' e a r' → Kept s r r' n n'
expired p s r r' n n' e a g q h t has late w = go p q h t
  where
    online : (p : Phase) → r.phase ≡ p → r.phase ≢ phases.Offline → r.fell ≡ false
        → s.pause + after s r * connection_time s ≤ left p s r → n' ≤ max n (due_in p r)
        → Kept s r r' n n'
    online p q differs f room t =
        let d : Done r n' e (ends_with true None causes.Expired) r' =
        done r r' n' e a (ends_with true None causes.Expired) w
        ((w.expires has late).online differs) in
        on_loss p s r r' n n' g q f has t room d.rule.data_then d.rule.phase d.paces

    room_more : (a p x : ℕ) → p + x ≤ a + p + x
    room_more a p x = omega arith

    room_two : (a p x : ℕ) → p + x ≤ a + a + p + x
    room_two a p x = omega arith

    room_more_then : (a p x y : ℕ) → x ≤ y → p + x ≤ a + a + p + y
    room_more_then a p x y h = omega arith

    room_self : (x : ℕ) → x ≤ x
    room_self x = omega arith

    not_in : (p : Phase) → r.phase ≡ p → p ≢ phases.Offline → r.phase ≢ phases.Offline
    not_in p q differs e = differs (sym q ∙ e)

    go : (p : Phase) → r.phase ≡ p → Holds p r → n' ≤ max n (due_in p r) → Kept s r r' n n'
    go phases.Offline q h t =
        let d : Done r n' e actions.Drop r' = done r r' n' e a actions.Drop w
        ((w.expires has late).offline q) in
        on_drop s r r' n n' t d.rule d.paces
    go phases.Connecting q h t = online phases.Connecting q (not_in phases.Connecting q (λ f. cc)) h
        (room_two s.response_limit s.pause (after s r * connection_time s)) t
    go phases.Asked q h t = online phases.Asked q (not_in phases.Asked q (λ f. cc)) h.fell
        (room_more (if r.changes then s.response_limit else 0) s.pause
        (after s r * connection_time s)) t
    go phases.Reading q h t = online phases.Reading q (not_in phases.Reading q (λ f. cc)) h.fell
        (room_self (s.pause + after s r * connection_time s)) t
    go phases.Applying q h t = online phases.Applying q (not_in phases.Applying q (λ f. cc)) h.fell
        (room_self (s.pause + after s r * connection_time s)) t
    go phases.Waiting q h t = online phases.Waiting q (not_in phases.Waiting q (λ f. cc)) h
        (room_more_then s.response_limit s.pause (after s r * connection_time s)
        (then_waiting s r * connection_time s)
        (times (after s r) (then_waiting s r) (connection_time s) (after_waiting s r))) t

-- it waits
passed :
    (p : Phase) (s : Settings) (r r' : Router) (n n' : ℕ) (e : Event) (a : Action)
    → r.phase ≡ p → Holds p r → n' ≤ max n (due_in p r) → IsStep r n' e a r' → a ≡ actions.Wait
    → Kept s r r' n n'
passed p s r r' n n' e a q h t w f =
    let d : Done r n' e actions.Wait r' = done r r' n' e a actions.Wait w f in
    on_wait p s r r' n n' e q t d.rule d.paces h

-- a query is awaited or an answer read, so time alone says nothing
idle : (p : Phase) (r : Router) → r.phase ≡ p → p ≢ phases.Offline → p ≢ phases.Waiting
    → (r.phase ≢ phases.Offline) × (r.phase ≢ phases.Waiting)
idle p r q x y = ((λ e. x (sym q ∙ e)), (λ e. y (sym q ∙ e)))

fell_away :
    (s : Settings) (r r' : Router) (n n' : ℕ) (e : Event) (a : Action) → n' ≤ max n r.due
    → IsStep r n' e a r' → a ≡ ends_for causes.Lower → Kept s r r' n n'
fell_away s r r' n n' e a t w f =
    let d : Done r n' e (ends_for causes.Lower) r' = done r r' n' e a (ends_for causes.Lower) w f in
    on_fall s r r' n n' e t d.rule d.paces

began :
    (s : Settings) (r r' : Router) (n n' : ℕ) (u : Head) (a : Action) → n' ≤ max n r.due
    → UnderWay r → IsStep r n' (events.Came u) a r' → a ≡ actions.Begin → Kept s r r' n n'
began s r r' n n' u a t h w f =
    let d : Done r n' (events.Came u) actions.Begin r' = done r r' n' (events.Came u) a
    actions.Begin w f in
    on_begin s r r' n n' u t d.rule d.paces h

asked :
    (most : ℕ) (s : Settings) (r r' : Router) (n n' : ℕ) (e : Event) (a : Action)
    → r.settings ≡ s → r.phase ≡ phases.Asked → UnderWay r → n' ≤ max n r.due
    → Fresh r n' → IsInTime r n' → AnswersWell IsAboveFloor most r e → IsStep r n' e a r'
    → Kept s r r' n n'
asked most s r r' n n' e a g q h t fresh soon not_yet w =
    passed phases.Asked s r r' n n' events.Tick a q h t w
    (w.idles fresh soon (idle phases.Asked r q (λ f. cc) (λ f. cc)))
asked most s r r' n n' e a g q h t fresh soon wished w =
    passed phases.Asked s r r' n n' events.Asked a q h t w (w.idles fresh soon tt)
asked most s r r' n n' e a g q h t fresh soon (notifies u k v) w =
    passed phases.Asked s r r' n n' (events.Came u) a q h t w (go r.agreed refl)
  where
    heeds : HeedsAsked r u a
    heeds = (w.heeds fresh soon).asked q

    go : (b : Bool) → r.agreed ≡ b → a ≡ actions.Wait
    go true e = heeds.notes k (v e)
    go false e = heeds.ignores k e
asked most s r r' n n' e a g q h t fresh soon (responds u k v x) w =
    began s r r' n n' u a t h w (((w.heeds fresh soon).asked q).begins k may x)
  where
    may_le : (a b : ℕ) → a ≡ b → a ≤ b
    may_le a b e = omega arith

    may : MayAnswer r u
    may = record { most = may_le u.version r.version v; agreed = λ e. v; changes = λ e. v }
asked most s r r' n n' e a g q h t fresh soon (resets_well u k v c) w =
    let d : Done r n' (events.Came u) (asks_for_all r) r' = done r r' n' (events.Came u) a
    (asks_for_all r) w (((w.heeds fresh soon).asked q).resets k v c) in
    on_reset s r r' n n' u (record {
      changes = false;
      version = r.version;
      session = 0;
      serial =
          0;
    }) g t d.rule d.paces h
asked most s r r' n n' e a g q h t fresh soon (refuses_version u l unagreed k x) w =
    fell_away s r r' n n' (events.Came u) a t w
    (((w.heeds fresh soon).asked q).falls k x unagreed (positive most r.version l))
  where
    positive : (a b : ℕ) → a < b → 1 ≤ b
    positive a b h = omega arith
asked most s r r' n n' e a g q h t fresh soon (answers_lower u v l unagreed x) w =
    go r.changes refl x
  where
    heeds : HeedsAsked r u a
    heeds = (w.heeds fresh soon).asked q

    below : (a b m : ℕ) → a ≡ m → m < b → a < b
    below a b m e h = omega arith

    below_le : (a b m : ℕ) → a ≡ m → m < b → a ≤ b
    below_le a b m e h = omega arith

    may : r.changes ≡ false → MayAnswer r u
    may c = record {
      most = below_le u.version r.version most v l;
      agreed = λ f. cc;
      changes =
          λ f. cc;
    }

    either : (u.kind ≡ kinds.CacheResponse) ⊎ ((u.kind ≡ kinds.CacheReset) × (r.changes ≡ true))
        → (u.kind ≡ kinds.CacheResponse) ⊎ (u.kind ≡ kinds.CacheReset)
    either (inl k) = inl k
    either (inr k) = inr k.0

    go : (b : Bool) → r.changes ≡ b → (u.kind ≡ kinds.CacheResponse) ⊎
        ((u.kind ≡ kinds.CacheReset) × (r.changes ≡ true)) → Kept s r r' n n'
    go true c x = fell_away s r r' n n' (events.Came u) a t w
        (heeds.falls_to (either x) (below u.version r.version most v l) c unagreed)
    go false c (inl k) = began s r r' n n' u a t h w (heeds.begins k (may c) (λ f. cc))
    go false c (inr k) = let f : r.changes ≡ true = k.1 in cc
asked most s r r' n n' e a g q h t fresh soon (closes_silently l unagreed x) w =
    fell_away s r r' n n' events.Lost a t w ((w.heeds fresh soon).falls (q, unagreed) x)
asked most s r r' n n' e a g q h t fresh soon (answers_anew u k v c x) w =
    go r.has_data refl
  where
    heeds : HeedsAsked r u a
    heeds = (w.heeds fresh soon).asked q

    go : (b : Bool) → r.has_data ≡ b → Kept s r r' n n'
    go false f = let has : r.has_data ≡ true = h.has_data c in cc
    go true f =
        let flushed : a ≡ flushed_with true =
        heeds.other_session k v c x
        ∙ ap flushed_with f in
        let d : Done r n' (events.Came u) (flushed_with true) r' =
        done r r' n' (events.Came u) a (flushed_with true) w
        flushed in
        on_loss phases.Asked s r r' n n' g q h.fell f t
        (more_le (if r.changes then s.response_limit else 0) s.pause
        (after s r * connection_time s))
        d.rule.data_then d.rule.phase d.paces
asked most s r r' n n' e a g q h t fresh soon (refuses_session u k c x y) w =
    let d : Done r n' (events.Came u) (ends_for causes.Reported) r' =
    done r r' n' (events.Came u) a (ends_for causes.Reported) w
    (((w.heeds fresh soon).asked q).reported k x y) in
    on_failure phases.Asked s r r' n n' g q refl c t
    (more_le (if r.changes then s.response_limit else 0) s.pause (after s r * connection_time s))
    d.rule.data_then d.rule.phase d.rule.by d.paces h
asked most s r r' n n' e a g q h t fresh soon (closes_session c) w = go r.agreed refl
  where
    heeds : HeedsLoss r a
    heeds = w.heeds fresh soon

    lost : a ≡ ends_for causes.Lost → Kept s r r' n n'
    lost f =
        let d : Done r n' events.Lost (ends_for causes.Lost) r' =
        done r r' n' events.Lost a (ends_for causes.Lost) w f in
        on_failure phases.Asked s r r' n n' g q refl c t
        (more_le (if r.changes then s.response_limit else 0) s.pause
        (after s r * connection_time s))
        d.rule.data_then d.rule.phase d.rule.by d.paces h

    online : r.phase ≢ phases.Offline
    online f = let p : r.phase ≡ phases.Asked = q in cc

    silent : r.agreed ≡ false → (r.floor < r.version) ⊎ (r.version ≤ r.floor) → Kept s r r' n n'
    silent f (inl l) = fell_away s r r' n n' events.Lost a t w (heeds.falls (q, f) l)
    silent f (inr l) = lost (heeds.answered (q, f) l)

    go : (b : Bool) → r.agreed ≡ b → Kept s r r' n n'
    go true f = lost (heeds.ends online (inr f))
    go false f = silent f (cases_lt r.floor r.version)

reading :
    (s : Settings) (r r' : Router) (n n' : ℕ) (e : Event) (a : Action)
    → r.phase ≡ phases.Reading → UnderWay r → n' ≤ max n r.due
    → Fresh r n' → IsInTime r n' → GoesOnWell r e → IsStep r n' e a r' → Kept s r r' n n'
reading s r r' n n' e a q h t fresh soon not_more_yet w =
    passed phases.Reading s r r' n n' events.Tick a q h t w
    (w.idles fresh soon (idle phases.Reading r q (λ f. cc) (λ f. cc)))
reading s r r' n n' e a q h t fresh soon wished_inside w =
    passed phases.Reading s r r' n n' events.Asked a q h t w (w.idles fresh soon tt)
reading s r r' n n' e a q h t fresh soon (notifies_inside u x) w =
    passed phases.Reading s r r' n n' (events.Came u) a q h t w
    (((w.heeds fresh soon).reading q).notes x)
reading s r r' n n' e a q h t fresh soon (sends_payload u k v x) w =
    let d : Done r n' (events.Came u) actions.Keep r' = done r r' n' (events.Came u) a actions.Keep
    w (((w.heeds fresh soon).reading q).keeps k v x) in
    let rule : Keeps r u r' = d.rule in
    let paces : SameDue r r' = d.paces in
    on_still phases.Reading s r r' n n' q (rule.talk.phase ∙ q) t rule.same rule.talk.version
    rule.talk.silent rule.talk.resync rule.talk.changes paces.same.fell
    (equal_le r.due r'.due paces.due) h
reading s r r' n n' e a q h t fresh soon (ends_data u x y z) w =
    let d : Done r n' (events.Came u) (actions.Apply r.changes) r' = done r r' n' (events.Came u) a
    (actions.Apply r.changes) w (((w.heeds fresh soon).reading q).applies x y z) in
    on_apply s r r' n n' u r.changes t d.rule d.paces h

applying :
    (s : Settings) (r r' : Router) (n n' : ℕ) (e : Event) (a : Action)
    → r.settings ≡ s → r.phase ≡ phases.Applying → UnderWay r → n' ≤ max n r.due
    → Fresh r n' → IsInTime r n' → IsMadeWell r e → IsStep r n' e a r' → a ≢ actions.Show
    → Kept s r r' n n'
applying s r r' n n' e a g q h t fresh soon not_made_yet w unshown =
    passed phases.Applying s r r' n n' events.Tick a q h t w
    (w.idles fresh soon (idle phases.Applying r q (λ f. cc) (λ f. cc)))
applying s r r' n n' e a g q h t fresh soon wished_meanwhile w unshown =
    passed phases.Applying s r r' n n' events.Asked a q h t w (w.idles fresh soon tt)
applying s r r' n n' e a g q h t fresh soon are_made w unshown =
    absurd (unshown (w.heeds fresh soon q))
applying s r r' n n' e a g q h t fresh soon (are_refused code c) w unshown =
    let d : Done r n' (events.NotApplied code) (ends_with false code causes.NotApplied) r' =
    done r r' n' (events.NotApplied code) a (ends_with false code causes.NotApplied) w
    (w.heeds fresh soon (inr q)) in
    on_failure phases.Applying s r r' n n' g q refl c t
    (self_le (s.pause + after s r * connection_time s))
    d.rule.data_then d.rule.phase d.rule.by d.paces h

offline :
    (s : Settings) (r r' : Router) (n n' : ℕ) (a : Action)
    → r.settings ≡ s → r.phase ≡ phases.Offline → n' ≤ max n r.due
    → Fresh r n' → IsInTime r n' → IsStep r n' events.Tick a r' → Kept s r r' n n'
offline s r r' n n' a g q t fresh soon w = go (cases_lt n' r.due)
  where
    heeds : HeedsTick r n' a r'
    heeds = w.heeds fresh soon

    go : (n' < r.due) ⊎ (r.due ≤ n') → Kept s r r' n n'
    go (inl x) = passed phases.Offline s r r' n n' events.Tick a q tt t w (heeds.rests q x)
    go (inr x) =
        let d : Done r n' events.Tick actions.Connect r' =
        done r r' n' events.Tick a actions.Connect w (heeds.connects q x) in
        on_connect s r r' n n' g t d.rule d.paces

waiting :
    (s : Settings) (r r' : Router) (n n' : ℕ) (e : Event) (a : Action)
    → r.settings ≡ s → r.phase ≡ phases.Waiting → r.fell ≡ false
    → n' ≤ max n (due_in phases.Waiting r)
    → Fresh r n' → IsInTime r n' → LeavesWell r e → IsStep r n' e a r' → Kept s r r' n n'
waiting s r r' n n' e a g q h t fresh soon (notifies_then u k v) w =
    go r.has_data refl (cases_eq u.session r.known.session)
  where
    heeds : HeedsWaiting r n' u a r'
    heeds = (w.heeds fresh soon).waiting q

    noted : (r.has_data ≡ true → u.session ≡ r.known.session) → Kept s r r' n n'
    noted x = passed phases.Waiting s r r' n n' (events.Came u) a q h t w
        (heeds.notified (record { kind = k; version = v; session = x }))

    room : (a p x y : ℕ) → x ≤ y → p + x ≤ a + a + p + y
    room a p x y h = omega arith

    go : (b : Bool) → r.has_data ≡ b
        → (u.session ≡ r.known.session) ⊎ (u.session ≡ r.known.session → ⊥) → Kept s r r' n n'
    go false f x = noted (λ e. cc)
    go true f (inl x) = noted (λ e. x)
    go true f (inr x) =
        let flushed : a ≡ flushed_with true =
        heeds.other_session k v f x
        ∙ ap flushed_with f in
        let d : Done r n' (events.Came u) (flushed_with true) r' =
        done r r' n' (events.Came u) a (flushed_with true) w
        flushed in
        on_loss phases.Waiting s r r' n n' g q h f t
        (room s.response_limit s.pause (after s r * connection_time s)
        (then_waiting s r * connection_time s)
        (times (after s r) (then_waiting s r) (connection_time s) (after_waiting s r)))
        d.rule.data_then d.rule.phase d.paces
waiting s r r' n n' e a g q h t fresh soon wished_then w =
    passed phases.Waiting s r r' n n' events.Asked a q h t w (w.idles fresh soon tt)
waiting s r r' n n' e a g q h t fresh soon not_asked_yet w =
    go (cases_lt n' r.due) (cases_lt (n' - r.asked) r.settings.pause)
  where
    heeds : HeedsTick r n' a r'
    heeds = w.heeds fresh soon

    go : (n' < r.due) ⊎ (r.due ≤ n')
        → (n' - r.asked < r.settings.pause) ⊎ (r.settings.pause ≤ n' - r.asked)
        → Kept s r r' n n'
    go (inl x) y = passed phases.Waiting s r r' n n' events.Tick a q h t w (heeds.waits q x)
    go (inr x) (inl y) =
        passed phases.Waiting s r r' n n' events.Tick a q h t w (heeds.pauses q y)
    go (inr x) (inr y) = by_silence r.silent refl (cases_lt n' r.rises)
      where
        asks : (r.silent ≡ true → n' < r.rises) → Kept s r r' n n'
        asks z =
            let d : Done r n' events.Tick (actions.Ask (query r')) r' =
            done r r' n' events.Tick a (actions.Ask (query r')) w (heeds.asks q x y z) in
            on_asked s r r' n n' (query r') g t d.rule d.paces h

        by_silence : (b : Bool) → r.silent ≡ b → (n' < r.rises) ⊎ (r.rises ≤ n')
            → Kept s r r' n n'
        by_silence false f z = asks (λ e. cc)
        by_silence true f (inl z) = asks (λ e. z)
        by_silence true f (inr z) =
            let d : Done r n' events.Tick (ends_for causes.Higher) r' =
            done r r' n' events.Tick a (ends_for causes.Higher) w (heeds.rises q x y f z) in
            on_rise s r r' n n' t d.rule d.paces h

served :
    (most : ℕ) (p : Phase) (s : Settings) (r r' : Router) (n n' : ℕ) (e : Event) (a : Action)
    → r.settings ≡ s → r.phase ≡ p → Holds p r → n' ≤ max n (due_in p r)
    → Fresh r n' → IsInTime r n' → IsServedBy IsAboveFloor most p r e → IsStep r n' e a r'
    → a ≢ actions.Show → Kept s r r' n n'
served most phases.Offline s r r' n n' e a g q h t fresh soon (inl x) w unshown =
    offline s r r' n n' a g q t fresh soon (subst (λ (y : Event). IsStep r n' y a r') x w)
served most phases.Offline s r r' n n' e a g q h t fresh soon (inr x) w unshown =
    let w' : IsStep r n' events.Asked a r' = subst (λ (y : Event). IsStep r n' y a r') x w in
    passed phases.Offline s r r' n n' events.Asked a q h t w' (w'.idles fresh soon tt)
served most phases.Connecting s r r' n n' e a g q h t fresh soon (inl x) w unshown =
    let w' : IsStep r n' events.Tick a r' = subst (λ (y : Event). IsStep r n' y a r') x w in
    passed phases.Connecting s r r' n n' events.Tick a q h t w'
    (w'.idles fresh soon (idle phases.Connecting r q (λ f. cc) (λ f. cc)))
served most phases.Connecting s r r' n n' e a g q h t fresh soon (inr (inl x)) w unshown =
    let w' : IsStep r n' events.Asked a r' = subst (λ (y : Event). IsStep r n' y a r') x w in
    passed phases.Connecting s r r' n n' events.Asked a q h t w' (w'.idles fresh soon tt)
served most phases.Connecting s r r' n n' e a g q h t fresh soon (inr (inr x)) w unshown =
    let w' : IsStep r n' events.Connected a r' = subst (λ (y : Event). IsStep r n' y a r') x w in
    let d : Done r n' events.Connected (actions.Ask (query r')) r' = done r r' n' events.Connected a
    (actions.Ask (query r')) w' (w'.heeds fresh soon q) in
    on_connected s r r' n n' (query r') g t d.rule d.paces h
served most phases.Asked s r r' n n' e a g q h t fresh soon x w unshown =
    asked most s r r' n n' e a g q h t fresh soon x w
served most phases.Reading s r r' n n' e a g q h t fresh soon x w unshown =
    reading s r r' n n' e a q h t fresh soon x w
served most phases.Applying s r r' n n' e a g q h t fresh soon x w unshown =
    applying s r r' n n' e a g q h t fresh soon x w unshown
served most phases.Waiting s r r' n n' e a g q h t fresh soon x w unshown =
    waiting s r r' n n' e a g q h t fresh soon x w

step :
    (most : ℕ) (s : Settings) (r r' : Router) (n n' : ℕ) (e : Event) (a : Action)
    → r.settings ≡ s → Holds r.phase r → n' ≤ max n (wakes_at r) → IsInTime r n'
    → IsServedBy IsAboveFloor most r.phase r e → IsStep r n' e a r' → a ≢ actions.Show
    → Kept s r r' n n'
step most s r r' n n' e a g h t soon x w unshown = go (fresh_or_not r n')
  where
    in_time : n' ≤ max n (due_in r.phase r)
    in_time = max_le n n' (wakes_at r) (due_in r.phase r) t (soonest r)

    go : Fresh r n' ⊎ ((r.has_data ≡ true) × (r.expires ≤ n')) → Kept s r r' n n'
    go (inl fresh) = served most r.phase s r r' n n' e a g refl h in_time fresh soon x w unshown
    go (inr late) = expired r.phase s r r' n n' e a g refl h in_time late.0 late.1 w

record Lasts (s : Settings) (r₀ r : Router) (start n : ℕ) : Type 0 where
  settings : r.settings ≡ s
  holds : Holds r.phase r
  less :
      max n (due_in r.phase r) + left r.phase s r
      ≤ max start (due_in r₀.phase r₀) + left r₀.phase s r₀

lasts :
    (most : ℕ) (r₀ : Router) (start : ℕ) (r : Router) (n : ℕ) → Holds r₀.phase r₀
    → IsServed most r₀ start r n → Lasts r₀.settings r₀ r start n
lasts most r₀ start r n q served_from = record {
  settings = refl;
  holds = q;
  less = self (max start (due_in r₀.phase r₀) + left r₀.phase r₀.settings r₀);
}
  where
    self : (x : ℕ) → x ≤ x
    self x = omega arith
lasts most r₀ start r n q (served_on r₁ n₁ n₂ e a r₂ run l t soon x w unshown) =
    let y : Lasts r₀.settings r₀ r₁ start n₁ = lasts most r₀ start r₁ n₁ q run in
    let z : Kept r₀.settings r₁ r₂ n₁ n₂ = step most r₀.settings r₁ r₂ n₁ n₂ e a y.settings y.holds
    t soon x w unshown in
    record {
      settings = same_settings r₁ r₂ n₂ e a w.paces ∙ y.settings;
      holds = z.holds;
      less = through (max n₂ (due_in r₂.phase r₂) + left r₂.phase r₀.settings r₂)
          (max n₁ (due_in r₁.phase r₁) + left r₁.phase r₀.settings r₁)
          (max start (due_in r₀.phase r₀) + left r₀.phase r₀.settings r₀) z.less y.less;
    }
  where
    through : (a b c : ℕ) → a ≤ b → b ≤ c → a ≤ c
    through a b c h k = omega arith

-- nor does the time at which it acts by itself come later
pub acts_by :
    (most : ℕ) (r₀ : Router) (start : ℕ) (r : Router) (n : ℕ) → Holds r₀.phase r₀
    → IsServed most r₀ start r n → max n (wakes_at r) ≤ served_until r₀ start
acts_by most r₀ start r n q run =
    let y : Lasts r₀.settings r₀ r start n = lasts most r₀ start r n q run in
    bound n (wakes_at r) (due_in r.phase r) (left r.phase r₀.settings r)
    (max start (due_in r₀.phase r₀)) (left r₀.phase r₀.settings r₀) (time_needed r₀.phase r₀)
    (soonest r) y.less (same r₀.phase)
  where
    bound : (n w d x t l y : ℕ) → w ≤ d → max n d + x ≤ t + l → l ≡ y → max n w ≤ t + y
    bound n w d x t l y k h e = omega arith

    same : (p : Phase) → left p r₀.settings r₀ ≡ time_needed p r₀
    same phases.Offline = refl
    same phases.Connecting = refl
    same phases.Asked = refl
    same phases.Reading = refl
    same phases.Applying = refl
    same phases.Waiting = refl

pub recovers :
    (most : ℕ) (r₀ : Router) (start : ℕ) (r : Router) (n : ℕ) → Holds r₀.phase r₀
    → IsServed most r₀ start r n → n ≤ served_until r₀ start
recovers most r₀ start r n q run =
    least n (wakes_at r) (served_until r₀ start) (acts_by most r₀ start r n q run)
  where
    least : (n w t : ℕ) → max n w ≤ t → n ≤ t
    least n w t h = omega arith

pub recovers_offline :
    (most : ℕ) (r₀ : Router) (start : ℕ) (r : Router) (n : ℕ) → r₀.phase ≡ phases.Offline
    → IsServed most r₀ start r n → n ≤ served_until r₀ start
recovers_offline most r₀ start r n q run =
    recovers most r₀ start r n (subst (λ (p : Phase). Holds p r₀) (sym q) tt) run
