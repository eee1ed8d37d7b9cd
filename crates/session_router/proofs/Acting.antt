-- What each action of a router leaves of the time that it has, while a cache serves it by the
-- rules.
use Rattle.std.proofs.Common.{◌≡◌, ℕ, Bool, true, false, ◌+◌, ◌*◌, ◌<◌, ◌≤◌, min}
use Rattle.std.proofs.Common.{max, ◌-◌, ◌^◌}
use Rattle.std.proofs.Common.{if◌then◌else◌, sym, ap, ap₂, ◌∙◌, subst}
use Rattle.std.proofs.Common.{arith, ◌&&◌}
use Rattle.session_router.specs.declared.head.Head.{Head}
use Rattle.session_router.specs.declared.head.Query.{Query}
use Rattle.session_router.specs.declared.settings.Settings.{Settings}
use Rattle.session_router.specs.declared.router.Router.{Router}
use Rattle.session_router.specs.declared.router.Phase.{Phase}
use Rattle.session_router.specs.declared.router.Phase.TheVariants as phases
use Rattle.session_router.specs.declared.event.Event.{Event}
use Rattle.session_router.specs.declared.event.Event.TheVariants as events
use Rattle.session_router.specs.declared.event.Cause.TheVariants as causes
use Rattle.session_router.specs.Rules.{Asks, Begins, Completes, Connects}
use Rattle.session_router.specs.Rules.{Fails, FallsOver, HasLost}
use Rattle.session_router.specs.Rules.{Loses, Rule, SameKnown, Waits}
use Rattle.session_router.specs.Rules.{awaits_changes, is_answering}
use Rattle.session_router.specs.Heeding.{ends_for}
use Rattle.session_router.specs.Pace.{PacesAsk, PacesConnect, PacesDrop, PacesFailure}
use Rattle.session_router.specs.Pace.{PacesFall, PacesRise, PacesWait, SameDue, SamePace, due_in}
use Rattle.session_router.specs.Pace.{due_waiting, grows, rest}
use Rattle.session_router.specs.Recovery.{connection_time, restarts}
use Rattle.session_router.proofs.Soon.{at_most, waits_no_later}
use Rattle.session_router.proofs.Connections.{Holds, Kept, UnderWay, after, after_same, all}
use Rattle.session_router.proofs.Connections.{all_same}
use Rattle.session_router.proofs.Connections.{ask_le, begin_le, connect_le, fail_le, fall_le, kept}
use Rattle.session_router.proofs.Connections.{left, less_le, min_le, no_restarts, once_more}
use Rattle.session_router.proofs.Connections.{opening, reset_le, restarts_reset, restarts_same}
use Rattle.session_router.proofs.Connections.{same_le}
use Rattle.session_router.proofs.Connections.{some_restarts, still_le, then_waiting}
use Rattle.session_router.proofs.Connections.{after_waiting, ask_less_le, rise_le, times}

-- ---- each action

-- where all but `due` stays
pub on_still :
    (p : Phase) (s : Settings) (r r' : Router) (n n' : ℕ) → r.phase ≡ p → r'.phase ≡ p
    → n' ≤ max n (due_in p r) → SameKnown r r' → r'.version ≡ r.version
    → r'.silent ≡ r.silent → r'.resync ≡ r.resync → r'.changes ≡ r.changes → r'.fell ≡ r.fell
    → due_in p r' ≤ due_in p r → Holds p r → Kept s r r' n n'
on_still p s r r' n n' e e' t same v i y c f d h =
    kept p p s r r' n n' e e' (holding p h)
    (still_le n n' (due_in p r) (due_in p r') (left p s r) (left p s r') t d (leaving p))
  where
    under : UnderWay r → UnderWay r'
    under x = record {
      fell = f ∙ x.fell;
      has_data = λ q. same.has_data ∙ x.has_data (sym c ∙ q);
      resync = λ q. y ∙ x.resync (sym c ∙ q);
    }

    holding : (p : Phase) → Holds p r → Holds p r'
    holding phases.Offline x = tt
    holding phases.Connecting x = f ∙ x
    holding phases.Asked x = under x
    holding phases.Reading x = under x
    holding phases.Applying x = under x
    holding phases.Waiting x = f ∙ x

    next : after s r' ≡ after s r
    next = after_same s r r' v same.has_data y

    leaving : (p : Phase) → left p s r' ≡ left p s r
    leaving phases.Offline = ap (λ (x : ℕ). x * connection_time s)
        (all_same s r r' f v same.has_data y)
    leaving phases.Connecting = ap (λ (x : ℕ). s.response_limit + s.response_limit + s.pause + x *
        connection_time s) next
    leaving phases.Asked = ap₂ (λ (b : Bool) (x : ℕ). (if b then s.response_limit else 0) + s.pause
        + x * connection_time s) c next
    leaving phases.Reading = ap (λ (x : ℕ). s.pause + x * connection_time s) next
    leaving phases.Applying = ap (λ (x : ℕ). s.pause + x * connection_time s) next
    leaving phases.Waiting = ap₂ (λ (x : ℕ) (b : Bool). s.response_limit + s.response_limit
        + s.pause + (x + (if b then s.highest + 1 else 0)) * connection_time s) next i

-- while it waits a notify makes it ask sooner, and not later
sooner :
    (p : Phase) (r r' : Router) (n' : ℕ) → SamePace r r' → r'.due ≤ r.due
    → due_in p r' ≤ due_in p r
sooner phases.Waiting r r' n' same h =
    least r.due r'.due (r.asked + r.settings.pause) (r'.asked + r'.settings.pause) (2 ^ 64 - 1) h
    (ap₂ (λ (a : ℕ) (x : Settings). a + x.pause) same.asked same.settings)
  where
    least : (d d' a a' c : ℕ) → d' ≤ d → a' ≡ a → max d' (min a' c) ≤ max d (min a c)
    least d d' a a' c h e = omega arith
sooner phases.Offline r r' n' same h = h
sooner phases.Connecting r r' n' same h = h
sooner phases.Asked r r' n' same h = h
sooner phases.Reading r r' n' same h = h
sooner phases.Applying r r' n' same h = h

pub equal_le : (d d' : ℕ) → d' ≡ d → d' ≤ d
equal_le d d' e = omega arith

pub on_wait :
    (p : Phase) (s : Settings) (r r' : Router) (n n' : ℕ) (e : Event) → r.phase ≡ p
    → n' ≤ max n (due_in p r) → Waits r e r' → PacesWait r n' e r' → Holds p r
    → Kept s r r' n n'
on_wait p s r r' n n' e f t w d h =
    on_still p s r r' n n' f (w.talk.phase ∙ f) t w.same w.talk.version w.talk.silent
    w.talk.resync w.talk.changes d.same.fell
    (sooner p r r' n' d.same
    (at_most (due_waiting r.phase r n' e) r.due r'.due d.due (waits_no_later r.phase r n' e)))
    h

pub on_connect :
    (s : Settings) (r r' : Router) (n n' : ℕ) → r.settings ≡ s → n' ≤ max n r.due
    → Connects r n' r' → PacesConnect r n' r' → Kept s r r' n n'
on_connect s r r' n n' g t w d =
    kept phases.Offline phases.Connecting s r r' n n' w.from w.phase d.fell
    (connect_le n n' r.due r'.due s.connect_limit s.response_limit s.pause
    (after s r' * connection_time s) (all s r * connection_time s) t
    (d.due ∙ ap (λ (x : Settings). n' + x.connect_limit) g)
    (ap (λ (x : ℕ). x * connection_time s) count ∙ once_more (after s r') (connection_time s)))
  where
    opens : r'.version ≡ opening s r
    opens = w.version ∙ ap (λ (x : Settings). if r.fell then r.version else x.highest) g

    shift : (o x : ℕ) → o + 1 + x ≡ o + x + 1
    shift o x = omega arith

    count : all s r ≡ after s r' + 1
    count = shift (opening s r) (restarts r * (s.highest + 1))
        ∙ ap₂ (λ (v x : ℕ). v + x * (s.highest + 1) + 1) (sym opens)
        (sym (restarts_same r r' w.same.has_data w.resync))

pub on_connected :
    (s : Settings) (r r' : Router) (n n' : ℕ) (q : Query) → r.settings ≡ s → n' ≤ max n r.due
    → Asks r n' events.Connected q r' → PacesAsk r n' events.Connected r' → r.fell ≡ false
    → Kept s r r' n n'
on_connected s r r' n n' q g t w d f =
    kept phases.Connecting phases.Asked s r r' n n' w.may.0 w.phase
    (record {
      fell = d.fell ∙ f;
      has_data = λ c. (w.own c).has_data;
      resync = λ c. (w.own c).resync;
    })
    (ask_le n n' r.due r'.due s.response_limit s.pause (if r'.changes then s.response_limit else 0)
    (after s r * connection_time s) (after s r' * connection_time s) t
    (d.due ∙ ap (λ (x : Settings). n' + x.response_limit) g)
    (most r'.changes s.response_limit)
    (ap (λ (x : ℕ). x * connection_time s) (after_same s r r' w.version w.same.has_data w.may.2)))
  where
    most : (b : Bool) (a : ℕ) → (if b then a else 0) ≤ a
    most true a = omega arith
    most false a = omega arith

-- while it waits, when it is time
pub on_asked :
    (s : Settings) (r r' : Router) (n n' : ℕ) (q : Query) → r.settings ≡ s
    → n' ≤ max n (due_in phases.Waiting r) → Asks r n' events.Tick q r'
    → PacesAsk r n' events.Tick r' → r.fell ≡ false → Kept s r r' n n'
on_asked s r r' n n' q g t w d f =
    kept phases.Waiting phases.Asked s r r' n n' w.may.0 w.phase
    (record {
      fell = d.fell ∙ f;
      has_data = λ c. (w.own c).has_data;
      resync = λ c. (w.own c).resync;
    })
    (ask_less_le n n' (due_in phases.Waiting r) r'.due s.response_limit s.pause
    (if r'.changes then s.response_limit else 0)
    (then_waiting s r * connection_time s) (after s r' * connection_time s) t
    (d.due ∙ ap (λ (x : Settings). n' + x.response_limit) g)
    (most r'.changes s.response_limit)
    (times (after s r') (then_waiting s r) (connection_time s)
    (subst (λ (x : ℕ). x ≤ then_waiting s r)
    (sym (after_same s r r' w.version w.same.has_data w.may.2)) (after_waiting s r))))
  where
    most : (b : Bool) (a : ℕ) → (if b then a else 0) ≤ a
    most true a = omega arith
    most false a = omega arith

pub on_reset :
    (s : Settings) (r r' : Router) (n n' : ℕ) (u : Head) (q : Query) → r.settings ≡ s
    → n' ≤ max n r.due → Asks r n' (events.Came u) q r' → PacesAsk r n' (events.Came u) r'
    → UnderWay r → Kept s r r' n n'
on_reset s r r' n n' u q g t w d x =
    kept phases.Asked phases.Asked s r r' n n' w.may.0 w.phase
    (record {
      fell = d.fell ∙ x.fell;
      has_data = λ c. absurd (still c);
      resync = λ c. absurd (still c);
    })
    (reset_le n n' r.due r'.due s.response_limit s.pause
    (if r.changes then s.response_limit else 0) (if r'.changes then s.response_limit else 0)
    (after s r * connection_time s) (after s r' * connection_time s) t
    (d.due ∙ ap (λ (x : Settings). n' + x.response_limit) g)
    (ap (λ (b : Bool). if b then s.response_limit else 0) w.may.1)
    (ap (λ (b : Bool). if b then s.response_limit else 0) w.may.4)
    (times (after s r') (after s r) (connection_time s) fewer))
  where
    still : r'.changes ≡ true → ⊥
    still c = let e : r'.changes ≡ false = w.may.4 in cc

    sum_le : (v v' a b : ℕ) → v' ≡ v → a ≤ b → v' + a ≤ v + b
    sum_le v v' a b e h = omega arith

    fewer : after s r' ≤ after s r
    fewer = sum_le r.version r'.version (restarts r' * (s.highest + 1))
        (restarts r * (s.highest + 1)) w.version
        (times (restarts r') (restarts r) (s.highest + 1)
        (restarts_reset r r' w.same.has_data w.may.5))

pub on_begin :
    (s : Settings) (r r' : Router) (n n' : ℕ) (u : Head) → n' ≤ max n r.due
    → Begins r u r' → SameDue r r' → UnderWay r → Kept s r r' n n'
on_begin s r r' n n' u t w d x =
    kept phases.Asked phases.Reading s r r' n n' w.from w.phase
    (record {
      fell = d.same.fell ∙ x.fell;
      has_data = λ c. w.same.has_data ∙ x.has_data (sym w.changes ∙ c);
      resync = λ c. w.resync ∙ x.resync (sym w.changes ∙ c);
    })
    (begin_le n n' r.due r'.due s.pause (if r.changes then s.response_limit else 0)
    (after s r * connection_time s) (after s r' * connection_time s) t d.due
    (times (after s r') (after s r) (connection_time s) fewer))
  where
    sum_le : (v v' u a b : ℕ) → v' ≡ u → u ≤ v → a ≡ b → v' + a ≤ v + b
    sum_le v v' u a b e h f = omega arith

    fewer : after s r' ≤ after s r
    fewer = sum_le r.version r'.version u.version (restarts r' * (s.highest + 1))
        (restarts r * (s.highest + 1)) w.version w.may.most
        (ap (λ (x : ℕ). x * (s.highest + 1)) (restarts_same r r' w.same.has_data w.resync))

pub on_apply :
    (s : Settings) (r r' : Router) (n n' : ℕ) (u : Head) (on : Bool) → n' ≤ max n r.due
    → Completes r n' u on r' → SameDue r r' → UnderWay r → Kept s r r' n n'
on_apply s r r' n n' u on t w d x =
    kept phases.Reading phases.Applying s r r' n n' w.from w.phase
    (record {
      fell = d.same.fell ∙ x.fell;
      has_data = λ c. w.same.has_data ∙ x.has_data (sym w.same_changes ∙ c);
      resync = λ c. w.resync ∙ x.resync (sym w.same_changes ∙ c);
    })
    (same_le n n' r.due r'.due (left phases.Reading s r) (left phases.Applying s r') t d.due
    (ap (λ (x : ℕ). s.pause + x * connection_time s)
    (after_same s r r' w.same_version w.same.has_data w.resync)))

-- it falls to a lower version
pub lower : (r r' : Router) (e : Event) → FallsOver r e r' → r'.version < r.version
lower r r' (events.Came u) w = w.lower
lower r r' events.Lost w = below r'.version r.version w.by_one
  where
    below : (a b : ℕ) → a + 1 ≡ b → a < b
    below a b e = omega arith
lower r r' events.Tick w = absurd w
lower r r' events.Asked w = absurd w
lower r r' events.Connected w = absurd w
lower r r' (events.Faulty f) w = absurd w
lower r r' events.Applied w = absurd w
lower r r' (events.NotApplied code) w = absurd w

pub on_fall :
    (s : Settings) (r r' : Router) (n n' : ℕ) (e : Event) → n' ≤ max n r.due
    → Rule r n' e (ends_for causes.Lower) r' → PacesFall r n' r' → Kept s r r' n n'
on_fall s r r' n n' e t w d =
    kept phases.Asked phases.Offline s r r' n n' w.by.from w.phase tt
    (fall_le n n' r.due r'.due s.pause (if r.changes then s.response_limit else 0)
    (after s r * connection_time s) (all s r' * connection_time s) t d.due
    (times (all s r') (after s r) (connection_time s) fewer))
  where
    sum_le : (v v' o a b : ℕ) → o ≡ v' → v' < v → a ≡ b → o + 1 + a ≤ v + b
    sum_le v v' o a b e h f = omega arith

    fewer : all s r' ≤ after s r
    fewer = sum_le r.version r'.version (opening s r') (restarts r' * (s.highest + 1))
        (restarts r * (s.highest + 1))
        (ap (λ (b : Bool). if b then r'.version else s.highest) d.fell)
        (lower r r' e w.by.over)
        (ap (λ (x : ℕ). x * (s.highest + 1)) (restarts_same r r' w.data_then.has_data w.by.resync))

-- it rises to the highest version
pub on_rise :
    (s : Settings) (r r' : Router) (n n' : ℕ) → n' ≤ max n (due_in phases.Waiting r)
    → Rule r n' events.Tick (ends_for causes.Higher) r' → PacesRise r n' r' → r.fell ≡ false
    → Kept s r r' n n'
on_rise s r r' n n' t w d f =
    kept phases.Waiting phases.Offline s r r' n n' w.by.from w.phase tt
    (rise_le n n' (due_in phases.Waiting r) r'.due s.response_limit s.pause
    (then_waiting s r * connection_time s) (all s r' * connection_time s) t d.due
    (times (all s r') (then_waiting s r) (connection_time s) fewer))
  where
    opens : opening s r' ≡ s.highest
    opens = ap (λ (b : Bool). if b then r'.version else s.highest) (d.fell ∙ f)

    sum_le : (v h o a b x : ℕ) → o ≡ h → a ≡ b → x ≡ h + 1 → o + 1 + a ≤ v + b + x
    sum_le v h o a b x e f g = omega arith

    fewer : all s r' ≤ then_waiting s r
    fewer = sum_le r.version s.highest (opening s r') (restarts r' * (s.highest + 1))
        (restarts r * (s.highest + 1)) (if r.silent then s.highest + 1 else 0) opens
        (ap (λ (x : ℕ). x * (s.highest + 1)) (restarts_same r r' w.data_then.has_data w.by.resync))
        (ap (λ (b : Bool). if b then s.highest + 1 else 0) w.by.silent)

-- a serial query fails, or the changes that answer it: a reset query follows
pub on_failure :
    (p : Phase) (s : Settings) (r r' : Router) (n n' : ℕ) → r.settings ≡ s
    → r.phase ≡ p → is_answering p ≡ true → r.changes ≡ true → n' ≤ max n (due_in p r)
    → s.pause + after s r * connection_time s ≤ left p s r
    → SameKnown r r' → r'.phase ≡ phases.Offline → Fails r r' → PacesFailure r n' false r'
    → UnderWay r → Kept s r r' n n'
on_failure p s r r' n n' g q answers c t room same phase w d x =
    kept p phases.Offline s r r' n n' q phase tt
    (fail_le n n' (due_in p r) r'.due s.pause (after s r * connection_time s)
    (all s r' * connection_time s) (left p s r) t
    (d.due ∙ ap (λ (b : Bool). n' + (if b then r.settings.pause else rest (grows r) r)) since
    ∙ ap (λ (x : Settings). n' + x.pause) g)
    (times (all s r') (after s r) (connection_time s) fewer) room)
  where
    since : awaits_changes r ≡ true
    since = ap₂ (λ (x y : Bool). x && y) (ap (λ (p : Phase). is_answering p) q ∙ answers) c

    was : restarts r ≡ 2
    was = ap₂ (λ (d y : Bool). if d then (if y then 1 else 2) else 0) (x.has_data c) (x.resync c)

    is : restarts r' ≡ 1
    is = ap₂ (λ (d y : Bool). if d then (if y then 1 else 2) else 0)
        (same.has_data ∙ x.has_data c) (w.since since)

    opens : opening s r' ≡ s.highest
    opens = ap (λ (b : Bool). if b then r'.version else s.highest) (d.fell ∙ x.fell)

    two : (v h o a b : ℕ) → o ≡ h → a ≡ 1 * (h + 1) → b ≡ 2 * (h + 1) → o + 1 + a ≤ v + b
    two v h o a b e f g = omega arith

    fewer : all s r' ≤ after s r
    fewer = two r.version s.highest (opening s r') (restarts r' * (s.highest + 1))
        (restarts r * (s.highest + 1)) opens
        (ap (λ (x : ℕ). x * (s.highest + 1)) is)
        (ap (λ (x : ℕ). x * (s.highest + 1)) was)

-- data are dropped on a connection
pub on_loss :
    (p : Phase) (s : Settings) (r r' : Router) (n n' : ℕ) → r.settings ≡ s
    → r.phase ≡ p → r.fell ≡ false → r.has_data ≡ true → n' ≤ max n (due_in p r)
    → s.pause + after s r * connection_time s ≤ left p s r
    → HasLost r r' → r'.phase ≡ phases.Offline → PacesFailure r n' true r'
    → Kept s r r' n n'
on_loss p s r r' n n' g q f h t room lost phase d =
    kept p phases.Offline s r r' n n' q phase tt
    (fail_le n n' (due_in p r) r'.due s.pause (after s r * connection_time s)
    (all s r' * connection_time s)
    (left p s r) t (d.due ∙ ap (λ (x : Settings). n' + x.pause) g)
    (times (all s r') (after s r) (connection_time s) fewer) room)
  where
    opens : opening s r' ≡ s.highest
    opens = ap (λ (b : Bool). if b then r'.version else s.highest) (d.fell ∙ f)

    one : (v h o a b : ℕ) → o ≡ h → a ≡ 0 * (h + 1) → 1 * (h + 1) ≤ b → o + 1 + a ≤ v + b
    one v h o a b e f g = omega arith

    fewer : all s r' ≤ after s r
    fewer = one r.version s.highest (opening s r') (restarts r' * (s.highest + 1))
        (restarts r * (s.highest + 1)) opens
        (ap (λ (x : ℕ). x * (s.highest + 1)) (no_restarts r' lost.has_data))
        (times 1 (restarts r) (s.highest + 1) (some_restarts r h))

-- and without one
pub on_drop :
    (s : Settings) (r r' : Router) (n n' : ℕ) → n' ≤ max n r.due → Loses r r' → PacesDrop r n' r'
    → Kept s r r' n n'
on_drop s r r' n n' t w d =
    kept phases.Offline phases.Offline s r r' n n' w.from w.phase tt
    (less_le n n' r.due r'.due (all s r * connection_time s) (all s r' * connection_time s) t
    (min_le r'.due r.due (n' + r.settings.pause) d.due)
    (times (all s r') (all s r) (connection_time s) fewer))
  where
    sum_le : (o o' a b h : ℕ) → o' ≡ o → a ≡ 0 * (h + 1) → o' + 1 + a ≤ o + 1 + b
    sum_le o o' a b h e f = omega arith

    fewer : all s r' ≤ all s r
    fewer = sum_le (opening s r) (opening s r') (restarts r' * (s.highest + 1))
        (restarts r * (s.highest + 1)) s.highest
        (ap₂ (λ (b : Bool) (v : ℕ). if b then v else s.highest) d.fell w.version)
        (ap (λ (x : ℕ). x * (s.highest + 1)) (no_restarts r' w.lost.has_data))
