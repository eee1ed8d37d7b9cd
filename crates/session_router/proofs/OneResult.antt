-- A step has one result: what it has to do says the action, and the action what it is then.
use Rattle.std.proofs.Common.{◌≡◌, ◌≢◌, ◌⊎◌, ℕ, Bool, true, false, ◌+◌, ◌-◌, ◌<◌, ◌≤◌}
use Rattle.std.proofs.Common.{Option, Some, None, refl, sym, ap, ◌∙◌, subst, inl, inr, arith}
use Rattle.std.proofs.lemmas.Bool.{cases_eq, cases_lt, cases_order}
use Rattle.std.specs.declared.cmp.Ordering.{Ordering}
use Rattle.std.specs.declared.cmp.Ordering.TheVariants as orders
use Rattle.std.specs.declared.cmp.Ordering.TheVariants.{Less}
use Rattle.rtr_base.specs.declared.error_code.ErrorCode.{ErrorCode}
use Rattle.rtr_base.specs.Serial.{serial_cmp}
use Rattle.session_router.specs.declared.head.Fault.{Fault}
use Rattle.session_router.specs.declared.head.Head.{Head}
use Rattle.session_router.specs.declared.head.Kind.{Kind}
use Rattle.session_router.specs.declared.head.Kind.TheVariants as kinds
use Rattle.session_router.specs.declared.router.Router.{Router}
use Rattle.session_router.specs.declared.router.Phase.{Phase}
use Rattle.session_router.specs.declared.router.Phase.TheVariants as phases
use Rattle.session_router.specs.declared.event.Event.{Event}
use Rattle.session_router.specs.declared.event.Event.TheVariants as events
use Rattle.session_router.specs.declared.event.Action.{Action}
use Rattle.session_router.specs.declared.event.Action.TheVariants as actions
use Rattle.session_router.specs.declared.event.Cause.TheVariants as causes
use Rattle.session_router.specs.Rules.{Fresh, IsPayloadOf, MayAnswer, query}
use Rattle.session_router.specs.Heeding.{HeedsAsked}
use Rattle.session_router.specs.Heeding.{HeedsReading, HeedsWaiting}
use Rattle.session_router.specs.Heeding.{IsComplaint, IsIdle, IsNoAnswer, IsNoPart}
use Rattle.session_router.specs.Heeding.{IsOfResponse, IsPayloadAbove, IsTalking, StandsStill}
use Rattle.session_router.specs.Heeding.{asks_for_all, breaks, ends_for, ends_with, flushes}
use Rattle.session_router.specs.Heeding.StandsStill.{agreed_on, lowest, other_code}
use Rattle.session_router.specs.Pace.{IsLimited}
use Rattle.session_router.specs.After.{router_after, once_asked_at}
use Rattle.session_router.specs.Step.{IsInTime, IsStep, made_until}
use Rattle.session_router.proofs.Serving.{fresh_or_not}

-- all that a step may do at one place
record Decided (P : Action → Type 0) : Type 0 where
  is : Action
  one : (a : Action) → P a → a ≡ is

-- ---- cases

-- whether a number is another one, below it or above it
data Order (a b : ℕ) : Type 0 where
  same : a ≡ b → Order a b
  below : a < b → Order a b
  above : b < a → Order a b

order : (a b : ℕ) → Order a b
order a b = go (cases_order a b)
  where
    go : (a ≡ b) ⊎ ((a < b) ⊎ (b < a)) → Order a b
    go (inl e) = same e
    go (inr (inl h)) = below h
    go (inr (inr h)) = above h

lt_ne : (a b : ℕ) → a < b → a ≢ b
lt_ne a b h e = omega arith

gt_ne : (a b : ℕ) → b < a → a ≢ b
gt_ne a b h e = omega arith

eq_le : (a b : ℕ) → a ≡ b → a ≤ b
eq_le a b e = omega arith

lt_le : (a b : ℕ) → a < b → a ≤ b
lt_le a b h = omega arith

-- the serial number of an end of data comes before that of the query, or it doesn't
before_or_not : (o : Option Ordering) → (o ≡ Some Less) ⊎ (o ≢ Some Less)
before_or_not None = inr (λ e. cc)
before_or_not (Some orders.Less) = inl refl
before_or_not (Some orders.Equal) = inr (λ e. cc)
before_or_not (Some orders.Greater) = inr (λ e. cc)

-- ---- the first unit of an answer

-- units that answer nothing
abbrev IsOther : Router → Head → Type 0
IsOther r u = (u.version ≤ r.version) → (r.agreed ≡ true → u.version ≡ r.version)
    → (a : Action) → HeedsAsked r u a → a ≡ breaks 5 causes.OutOfPlace

other : (r : Router) (u : Head) (b : Bool) → r.agreed ≡ b → u.kind ≢ kinds.ErrorReport
    → u.kind ≢ kinds.SerialNotify → IsOther r u → Order u.version r.version
    → Decided (HeedsAsked r u)
other r u true g k m x (same e) =
    record { is = breaks 5 causes.OutOfPlace; one = x (eq_le u.version r.version e) (λ f. e) }
other r u true g k m x (below h) = record {
  is = breaks 8 causes.OtherVersion;
  one = λ a w. w.other_version k (lt_ne u.version r.version h) g;
}
other r u true g k m x (above h) = record {
  is = breaks 8 causes.OtherVersion;
  one = λ a w. w.other_version k (gt_ne u.version r.version h) g;
}
other r u false g k m x (same e) =
    record { is = breaks 5 causes.OutOfPlace; one = x (eq_le u.version r.version e) (λ f. e) }
other r u false g k m x (below h) =
    record { is = breaks 5 causes.OutOfPlace; one = x (lt_le u.version r.version h) (λ f. cc) }
other r u false g k m x (above h) = record {
  is = breaks 4 causes.HigherVersion;
  one = λ a w. w.higher_version k m h g;
}

-- a cache response
responds :
    (r : Router) (u : Head) (g c : Bool) → r.agreed ≡ g → r.changes ≡ c
    → u.kind ≡ kinds.CacheResponse → u.kind ≢ kinds.ErrorReport → u.kind ≢ kinds.SerialNotify
    → Order u.version r.version → Decided (HeedsAsked r u)
responds r u g true ge ce k m s (same e) = go (cases_eq u.session r.known.session)
  where
    may : MayAnswer r u
    may = record { most = eq_le u.version r.version e; agreed = λ f. e; changes = λ f. e }

    go : (u.session ≡ r.known.session) ⊎ (u.session ≢ r.known.session) → Decided (HeedsAsked r u)
    go (inl x) = record { is = actions.Begin; one = λ a w. w.begins k may (λ f. x) }
    go (inr x) = record { is = flushes r; one = λ a w. w.other_session k e ce x }
responds r u g false ge ce k m s (same e) = record {
  is = actions.Begin;
  one = λ a w. w.begins k
      (record { most = eq_le u.version r.version e; agreed = λ f. e; changes = λ f. e })
      (λ f. cc);
}
responds r u true c ge ce k m s (below h) = record {
  is = breaks 8 causes.OtherVersion;
  one = λ a w. w.other_version m (lt_ne u.version r.version h) ge;
}
responds r u true c ge ce k m s (above h) = record {
  is = breaks 8 causes.OtherVersion;
  one = λ a w. w.other_version m (gt_ne u.version r.version h) ge;
}
responds r u false c ge ce k m s (above h) = record {
  is = breaks 4 causes.HigherVersion;
  one = λ a w. w.higher_version m s h ge;
}
responds r u false true ge ce k m s (below h) = record {
  is = ends_for causes.Lower;
  one = λ a w. w.falls_to (inl k) h ce ge;
}
responds r u false false ge ce k m s (below h) = record {
  is = actions.Begin;
  one = λ a w. w.begins k
      (record { most = lt_le u.version r.version h; agreed = λ f. cc; changes = λ f. cc })
      (λ f. cc);
}

-- a cache reset
resets :
    (r : Router) (u : Head) (g c : Bool) → r.agreed ≡ g → r.changes ≡ c
    → u.kind ≡ kinds.CacheReset → u.kind ≢ kinds.ErrorReport → u.kind ≢ kinds.SerialNotify
    → (r.changes ≡ false → IsOther r u)
    → Order u.version r.version → Decided (HeedsAsked r u)
resets r u g false ge ce k m s x o = other r u g ge m s (x ce) o
resets r u g true ge ce k m s x (same e) =
    record { is = asks_for_all r; one = λ a w. w.resets k e ce }
resets r u true true ge ce k m s x (below h) = record {
  is = breaks 8 causes.OtherVersion;
  one = λ a w. w.other_version m (lt_ne u.version r.version h) ge;
}
resets r u true true ge ce k m s x (above h) = record {
  is = breaks 8 causes.OtherVersion;
  one = λ a w. w.other_version m (gt_ne u.version r.version h) ge;
}
resets r u false true ge ce k m s x (below h) = record {
  is = ends_for causes.Lower;
  one = λ a w. w.falls_to (inr k) h ce ge;
}
resets r u false true ge ce k m s x (above h) = record {
  is = breaks 4 causes.HigherVersion;
  one = λ a w. w.higher_version m s h ge;
}

-- a report
reports : (r : Router) (u : Head) → u.kind ≡ kinds.ErrorReport → Decided (HeedsAsked r u)
reports r u k = go (cases_eq u.version r.version) (cases_eq u.code.0 2)
  where
    complains : IsComplaint r u → StandsStill r u → Decided (HeedsAsked r u)
    complains x y = record { is = ends_for causes.Reported; one = λ a w. w.reported k x y }

    falls : (u.code.0 ≡ 4) ⊎ (u.version < r.version) → r.agreed ≡ false → 1 ≤ r.version
        → Decided (HeedsAsked r u)
    falls x g l = record { is = ends_for causes.Lower; one = λ a w. w.falls k x g l }

    at_zero : (v : ℕ) → v < 1 → v ≡ 0
    at_zero v h = omega arith

    by_code : IsComplaint r u → r.agreed ≡ false → 1 ≤ r.version
        → (u.code.0 ≡ 4) ⊎ (u.code.0 ≢ 4) → (u.version < r.version) ⊎ (r.version ≤ u.version)
        → Decided (HeedsAsked r u)
    by_code x g l (inl y) z = falls (inl y) g l
    by_code x g l (inr y) (inl z) = falls (inr z) g l
    by_code x g l (inr y) (inr z) = complains x (other_code y z)

    by_version : IsComplaint r u → r.agreed ≡ false → (r.version < 1) ⊎ (1 ≤ r.version)
        → Decided (HeedsAsked r u)
    by_version x g (inl l) = complains x (lowest (at_zero r.version l))
    by_version x g (inr l) =
        by_code x g l (cases_eq u.code.0 4) (cases_lt u.version r.version)

    complaint : (b : Bool) → r.agreed ≡ b → IsComplaint r u → Decided (HeedsAsked r u)
    complaint true g x = complains x (agreed_on g)
    complaint false g x = by_version x g (cases_lt r.version 1)

    go : (u.version ≡ r.version) ⊎ (u.version ≢ r.version) → (u.code.0 ≡ 2) ⊎ (u.code.0 ≢ 2)
        → Decided (HeedsAsked r u)
    go (inl e) (inl c) = record { is = actions.NoData; one = λ a w. w.has_none k e c }
    go (inl e) (inr c) = complaint r.agreed refl (inl c)
    go (inr e) c = complaint r.agreed refl (inr e)

-- a notify
notifies : (r : Router) (u : Head) (b : Bool) → r.agreed ≡ b → u.kind ≡ kinds.SerialNotify
    → u.kind ≢ kinds.ErrorReport → (u.version ≡ r.version) ⊎ (u.version ≢ r.version)
    → Decided (HeedsAsked r u)
notifies r u false g k m x = record { is = actions.Wait; one = λ a w. w.ignores k g }
notifies r u true g k m (inl e) = record { is = actions.Wait; one = λ a w. w.notes k e }
notifies r u true g k m (inr e) =
    record { is = breaks 8 causes.OtherVersion; one = λ a w. w.other_version m e g }

-- what a kind is, it is not another one
asked_at_unit : (r : Router) (u : Head) (k : Kind) → u.kind ≡ k → Decided (HeedsAsked r u)
asked_at_unit r u kinds.ErrorReport k = reports r u k
asked_at_unit r u kinds.SerialNotify k =
    notifies r u r.agreed refl k (λ e. cc) (cases_eq u.version r.version)
asked_at_unit r u kinds.CacheResponse k =
    responds r u r.agreed r.changes refl refl k (λ e. cc) (λ e. cc) (order u.version r.version)
asked_at_unit r u kinds.CacheReset k =
    resets r u r.agreed r.changes refl refl k (λ e. cc) (λ e. cc)
    (λ c l g a w. w.out_of_place (subst (λ (x : Kind). IsNoAnswer r x) (sym k) c) l g)
    (order u.version r.version)
asked_at_unit r u kinds.SerialQuery k = other r u r.agreed refl (λ e. cc) (λ e. cc)
    (λ l g a w. w.out_of_place (subst (λ (x : Kind). IsNoAnswer r x) (sym k) tt) l g)
    (order u.version r.version)
asked_at_unit r u kinds.ResetQuery k = other r u r.agreed refl (λ e. cc) (λ e. cc)
    (λ l g a w. w.out_of_place (subst (λ (x : Kind). IsNoAnswer r x) (sym k) tt) l g)
    (order u.version r.version)
asked_at_unit r u kinds.Prefix k = other r u r.agreed refl (λ e. cc) (λ e. cc)
    (λ l g a w. w.out_of_place (subst (λ (x : Kind). IsNoAnswer r x) (sym k) tt) l g)
    (order u.version r.version)
asked_at_unit r u kinds.RouterKey k = other r u r.agreed refl (λ e. cc) (λ e. cc)
    (λ l g a w. w.out_of_place (subst (λ (x : Kind). IsNoAnswer r x) (sym k) tt) l g)
    (order u.version r.version)
asked_at_unit r u kinds.Aspa k = other r u r.agreed refl (λ e. cc) (λ e. cc)
    (λ l g a w. w.out_of_place (subst (λ (x : Kind). IsNoAnswer r x) (sym k) tt) l g)
    (order u.version r.version)
asked_at_unit r u kinds.EndOfData k = other r u r.agreed refl (λ e. cc) (λ e. cc)
    (λ l g a w. w.out_of_place (subst (λ (x : Kind). IsNoAnswer r x) (sym k) tt) l g)
    (order u.version r.version)

-- ---- a unit of a response

-- one of another version, or one of the version
at_version : (r : Router) (u : Head) → u.kind ≢ kinds.ErrorReport
    → (u.version ≡ r.version → Decided (HeedsReading r u)) → Decided (HeedsReading r u)
at_version r u m x = go (cases_eq u.version r.version)
  where
    go : (u.version ≡ r.version) ⊎ (u.version ≢ r.version) → Decided (HeedsReading r u)
    go (inl e) = x e
    go (inr e) = record { is = breaks 8 causes.OtherVersion; one = λ a w. w.other_version m e }

payload : (r : Router) (u : Head) → IsPayloadOf r.version u.kind → u.version ≡ r.version
    → Decided (HeedsReading r u)
payload r u k v = go (cases_lt r.settings.most_units (r.units + 1))
    (cases_lt r.settings.most_bytes (r.bytes + u.size))
  where
    go : (r.settings.most_units < r.units + 1) ⊎ (r.units + 1 ≤ r.settings.most_units)
        → (r.settings.most_bytes < r.bytes + u.size) ⊎ (r.bytes + u.size ≤ r.settings.most_bytes)
        → Decided (HeedsReading r u)
    go (inl x) y = record { is = ends_for causes.TooLong; one = λ a w. w.too_long k v (inl x) }
    go (inr x) (inl y) =
        record { is = ends_for causes.TooLong; one = λ a w. w.too_long k v (inr y) }
    go (inr x) (inr y) =
        record { is = actions.Keep; one = λ a w. w.keeps k v (record { units = x; bytes = y }) }

out_of_place : (r : Router) (u : Head) → IsNoPart u.kind → u.version ≡ r.version
    → Decided (HeedsReading r u)
out_of_place r u k v =
    record { is = breaks 5 causes.OutOfPlace; one = λ a w. w.out_of_place k v }

ends : (r : Router) (u : Head) → u.kind ≡ kinds.EndOfData → u.version ≡ r.version
    → Decided (HeedsReading r u)
ends r u k v = go (cases_eq u.session r.session)
  where
    by_units : IsOfResponse r u kinds.EndOfData → r.changes ≡ true
        → serial_cmp u.serial r.known.serial ≢ Some Less → u.serial ≡ r.known.serial
        → (r.units < 1) ⊎ (1 ≤ r.units) → Decided (HeedsReading r u)
    by_units x c o s (inl l) = record {
      is = actions.Apply r.changes;
      one = λ a w. w.applies x (λ f. o) (λ f y. none r.units l);
    }
      where
        none : (n : ℕ) → n < 1 → n ≡ 0
        none n h = omega arith
    by_units x c o s (inr l) =
        record { is = breaks 0 causes.OtherData; one = λ a w. w.other_data x c s l }

    by_serial : IsOfResponse r u kinds.EndOfData → r.changes ≡ true
        → (serial_cmp u.serial r.known.serial ≡ Some Less)
        ⊎ (serial_cmp u.serial r.known.serial ≢ Some Less)
        → (u.serial ≡ r.known.serial) ⊎ (u.serial ≢ r.known.serial) → Decided (HeedsReading r u)
    by_serial x c (inl o) s =
        record { is = breaks 0 causes.OldSerial; one = λ a w. w.old_serial x c o }
    by_serial x c (inr o) (inl s) = by_units x c o s (cases_lt r.units 1)
    by_serial x c (inr o) (inr s) = record {
      is = actions.Apply r.changes;
      one = λ a w. w.applies x (λ f. o) (λ f y. absurd (s y));
    }

    by_changes : (b : Bool) → r.changes ≡ b → IsOfResponse r u kinds.EndOfData
        → Decided (HeedsReading r u)
    by_changes true c x = by_serial x c (before_or_not (serial_cmp u.serial r.known.serial))
        (cases_eq u.serial r.known.serial)
    by_changes false c x = record {
      is = actions.Apply r.changes;
      one = λ a w. w.applies x (λ f. cc) (λ f. cc);
    }

    go : (u.session ≡ r.session) ⊎ (u.session ≢ r.session) → Decided (HeedsReading r u)
    go (inl s) = by_changes r.changes refl (record { kind = k; version = v; session = s })
    go (inr s) = record { is = flushes r; one = λ a w. w.other_session (inl k) v s }

notes : (r : Router) (u : Head) → u.kind ≡ kinds.SerialNotify → u.version ≡ r.version
    → Decided (HeedsReading r u)
notes r u k v = go (cases_eq u.session r.session)
  where
    go : (u.session ≡ r.session) ⊎ (u.session ≢ r.session) → Decided (HeedsReading r u)
    go (inl s) = record {
      is = actions.Wait;
      one = λ a w. w.notes (record { kind = k; version = v; session = s });
    }
    go (inr s) = record { is = flushes r; one = λ a w. w.other_session (inr k) v s }

reports_inside : (r : Router) (u : Head) → u.kind ≡ kinds.ErrorReport
    → Decided (HeedsReading r u)
reports_inside r u k = go (cases_eq u.version r.version) (cases_eq u.code.0 2)
  where
    complains : IsComplaint r u → Decided (HeedsReading r u)
    complains x = record { is = ends_for causes.Reported; one = λ a w. w.reported k x }

    go : (u.version ≡ r.version) ⊎ (u.version ≢ r.version) → (u.code.0 ≡ 2) ⊎ (u.code.0 ≢ 2)
        → Decided (HeedsReading r u)
    go (inl e) (inl c) = record { is = actions.NoData; one = λ a w. w.has_none k e c }
    go (inl e) (inr c) = complains (inl c)
    go (inr e) c = complains (inr e)

-- a payload that versions from m on have
payload_from :
    (m : ℕ) (r : Router) (u : Head) → (m ≤ r.version → IsPayloadOf r.version u.kind)
    → (r.version < m → IsPayloadAbove r.version u.kind) → u.version ≡ r.version
    → Decided (HeedsReading r u)
payload_from m r u has lacks v = go (cases_lt r.version m)
  where
    go : (r.version < m) ⊎ (m ≤ r.version) → Decided (HeedsReading r u)
    go (inl l) = record {
      is = breaks 5 causes.NoSuchPayload;
      one = λ a w. w.no_such_payload (lacks l) v;
    }
    go (inr l) = payload r u (has l) v

reading_at_unit : (r : Router) (u : Head) (k : Kind) → u.kind ≡ k → Decided (HeedsReading r u)
reading_at_unit r u kinds.ErrorReport k = reports_inside r u k
reading_at_unit r u kinds.SerialNotify k = at_version r u (λ e. cc) (notes r u k)
reading_at_unit r u kinds.EndOfData k = at_version r u (λ e. cc) (ends r u k)
reading_at_unit r u kinds.Prefix k = at_version r u (λ e. cc)
    (payload r u (subst (λ (x : Kind). IsPayloadOf r.version x) (sym k) tt))
reading_at_unit r u kinds.RouterKey k = at_version r u (λ e. cc)
    (payload_from 1 r u
    (λ l. subst (λ (x : Kind). IsPayloadOf r.version x) (sym k) l)
    (λ l. subst (λ (x : Kind). IsPayloadAbove r.version x) (sym k) l))
reading_at_unit r u kinds.Aspa k = at_version r u (λ e. cc)
    (payload_from 2 r u
    (λ l. subst (λ (x : Kind). IsPayloadOf r.version x) (sym k) l)
    (λ l. subst (λ (x : Kind). IsPayloadAbove r.version x) (sym k) l))
reading_at_unit r u kinds.SerialQuery k = at_version r u (λ e. cc)
    (out_of_place r u (subst (λ (x : Kind). IsNoPart x) (sym k) tt))
reading_at_unit r u kinds.ResetQuery k = at_version r u (λ e. cc)
    (out_of_place r u (subst (λ (x : Kind). IsNoPart x) (sym k) tt))
reading_at_unit r u kinds.CacheResponse k = at_version r u (λ e. cc)
    (out_of_place r u (subst (λ (x : Kind). IsNoPart x) (sym k) tt))
reading_at_unit r u kinds.CacheReset k = at_version r u (λ e. cc)
    (out_of_place r u (subst (λ (x : Kind). IsNoPart x) (sym k) tt))

-- ---- a unit that comes unasked

abbrev HeardWaiting : Router → ℕ → Head → Action → Type 0
HeardWaiting r n u a = (r' : Router) × HeedsWaiting r n u a r'

waiting_notify : (r : Router) (n : ℕ) (u : Head) → u.kind ≡ kinds.SerialNotify
    → u.version ≡ r.version → Decided (HeardWaiting r n u)
waiting_notify r n u k v = go r.has_data refl (cases_eq u.session r.known.session)
  where
    news : (r.has_data ≡ true → u.session ≡ r.known.session) → Decided (HeardWaiting r n u)
    news s = record {
      is = actions.Wait;
      one = λ a w. w.1.notified (record { kind = k; version = v; session = s });
    }

    go : (b : Bool) → r.has_data ≡ b
        → (u.session ≡ r.known.session) ⊎ (u.session ≢ r.known.session)
        → Decided (HeardWaiting r n u)
    go false h s = news (λ e. cc)
    go true h (inl s) = news (λ e. s)
    go true h (inr s) = record { is = flushes r; one = λ a w. w.1.other_session k v h s }

-- a unit that is no report, of another version or of the version
waiting_version : (r : Router) (n : ℕ) (u : Head) → u.kind ≢ kinds.ErrorReport
    → (u.version ≡ r.version → Decided (HeardWaiting r n u)) → Decided (HeardWaiting r n u)
waiting_version r n u m x = go (cases_eq u.version r.version)
  where
    go : (u.version ≡ r.version) ⊎ (u.version ≢ r.version) → Decided (HeardWaiting r n u)
    go (inl e) = x e
    go (inr e) = record { is = breaks 8 causes.OtherVersion; one = λ a w. w.1.other_version m e }

waiting_other : (r : Router) (n : ℕ) (u : Head) → u.kind ≢ kinds.ErrorReport
    → u.kind ≢ kinds.SerialNotify → Decided (HeardWaiting r n u)
waiting_other r n u m s = waiting_version r n u m (λ e. record {
  is = breaks 5 causes.OutOfPlace;
  one = λ a w. w.1.out_of_place m s e;
})

waiting_at_unit : (r : Router) (n : ℕ) (u : Head) (k : Kind) → u.kind ≡ k
    → Decided (HeardWaiting r n u)
waiting_at_unit r n u kinds.ErrorReport k =
    record { is = ends_for causes.Reported; one = λ a w. w.1.reported k }
waiting_at_unit r n u kinds.SerialNotify k =
    waiting_version r n u (λ e. cc) (waiting_notify r n u k)
waiting_at_unit r n u kinds.SerialQuery k = waiting_other r n u (λ e. cc) (λ e. cc)
waiting_at_unit r n u kinds.ResetQuery k = waiting_other r n u (λ e. cc) (λ e. cc)
waiting_at_unit r n u kinds.CacheResponse k = waiting_other r n u (λ e. cc) (λ e. cc)
waiting_at_unit r n u kinds.CacheReset k = waiting_other r n u (λ e. cc) (λ e. cc)
waiting_at_unit r n u kinds.Prefix k = waiting_other r n u (λ e. cc) (λ e. cc)
waiting_at_unit r n u kinds.RouterKey k = waiting_other r n u (λ e. cc) (λ e. cc)
waiting_at_unit r n u kinds.Aspa k = waiting_other r n u (λ e. cc) (λ e. cc)
waiting_at_unit r n u kinds.EndOfData k = waiting_other r n u (λ e. cc) (λ e. cc)

-- ---- a whole step

abbrev Steps : Router → ℕ → Event → Action → Type 0
Steps r n e a = (r' : Router) × IsStep r n e a r'

-- the query that goes out is that of the router as it is then
ask_one : (r r' : Router) (n : ℕ) (e : Event) (a : Action) → IsStep r n e a r'
    → a ≡ actions.Ask (query r') → a ≡ actions.Ask (query (once_asked_at r n e))
ask_one r r' n e a w h = h ∙ ap (λ (x : Router). actions.Ask (query x)) is
  where
    is : r' ≡ once_asked_at r n e
    is = w.becomes ∙ ap (λ (x : Action). router_after r n e x) h

record Place (r : Router) (n : ℕ) : Type 0 where
  fresh : Fresh r n
  soon : IsInTime r n

idle : (r : Router) (n : ℕ) (e : Event) → Place r n → IsIdle e r → Decided (Steps r n e)
idle r n e at i = record { is = actions.Wait; one = λ a w. w.1.idles at.fresh at.soon i }

at_tick : (p : Phase) (r : Router) (n : ℕ) → r.phase ≡ p → Place r n
    → Decided (Steps r n events.Tick)
at_tick phases.Offline r n q at = go (cases_lt n r.due)
  where
    go : (n < r.due) ⊎ (r.due ≤ n) → Decided (Steps r n events.Tick)
    go (inl l) = record {
      is = actions.Wait;
      one = λ a w. (w.1.heeds at.fresh at.soon).rests q l;
    }
    go (inr l) = record {
      is = actions.Connect;
      one = λ a w. (w.1.heeds at.fresh at.soon).connects q l;
    }
at_tick phases.Waiting r n q at =
    go (cases_lt n r.due) (cases_lt (n - r.asked) r.settings.pause)
  where
    go : (n < r.due) ⊎ (r.due ≤ n)
        → (n - r.asked < r.settings.pause) ⊎ (r.settings.pause ≤ n - r.asked)
        → Decided (Steps r n events.Tick)
    go (inl l) k = record {
      is = actions.Wait;
      one = λ a w. (w.1.heeds at.fresh at.soon).waits q l;
    }
    go (inr l) (inl k) = record {
      is = actions.Wait;
      one = λ a w. (w.1.heeds at.fresh at.soon).pauses q k;
    }
    go (inr l) (inr k) = by_silence r.silent refl (cases_lt n r.rises)
      where
        asks : (r.silent ≡ true → n < r.rises) → Decided (Steps r n events.Tick)
        asks z = record {
          is = actions.Ask (query (once_asked_at r n events.Tick));
          one = λ a w. ask_one r w.0 n events.Tick a w.1
              ((w.1.heeds at.fresh at.soon).asks q l k z);
        }

        by_silence : (b : Bool) → r.silent ≡ b → (n < r.rises) ⊎ (r.rises ≤ n)
            → Decided (Steps r n events.Tick)
        by_silence false f z = asks (λ e. cc)
        by_silence true f (inl z) = asks (λ e. z)
        by_silence true f (inr z) = record {
          is = ends_for causes.Higher;
          one = λ a w. (w.1.heeds at.fresh at.soon).rises q l k f z;
        }
at_tick phases.Connecting r n q at =
    idle r n events.Tick at (
      (λ e. let f : r.phase ≡ phases.Connecting = q in cc),
      (λ e. let f : r.phase ≡ phases.Connecting = q in cc),
    )
at_tick phases.Asked r n q at =
    idle r n events.Tick at (
      (λ e. let f : r.phase ≡ phases.Asked = q in cc),
      (λ e. let f : r.phase ≡ phases.Asked = q in cc),
    )
at_tick phases.Reading r n q at =
    idle r n events.Tick at (
      (λ e. let f : r.phase ≡ phases.Reading = q in cc),
      (λ e. let f : r.phase ≡ phases.Reading = q in cc),
    )
at_tick phases.Applying r n q at =
    idle r n events.Tick at (
      (λ e. let f : r.phase ≡ phases.Applying = q in cc),
      (λ e. let f : r.phase ≡ phases.Applying = q in cc),
    )

is_not : (p p' : Phase) (r : Router) → r.phase ≡ p → p ≢ p' → r.phase ≢ p'
is_not p p' r q differs e = differs (sym q ∙ e)

at_connected : (p : Phase) (r : Router) (n : ℕ) → r.phase ≡ p → Place r n
    → Decided (Steps r n events.Connected)
at_connected phases.Connecting r n q at = record {
  is = actions.Ask (query (once_asked_at r n events.Connected));
  one = λ a w. ask_one r w.0 n events.Connected a w.1 (w.1.heeds at.fresh at.soon q);
}
at_connected phases.Offline r n q at =
    idle r n events.Connected at (is_not phases.Offline phases.Connecting r q (λ e. cc))
at_connected phases.Asked r n q at =
    idle r n events.Connected at (is_not phases.Asked phases.Connecting r q (λ e. cc))
at_connected phases.Reading r n q at =
    idle r n events.Connected at (is_not phases.Reading phases.Connecting r q (λ e. cc))
at_connected phases.Applying r n q at =
    idle r n events.Connected at (is_not phases.Applying phases.Connecting r q (λ e. cc))
at_connected phases.Waiting r n q at =
    idle r n events.Connected at (is_not phases.Waiting phases.Connecting r q (λ e. cc))

at_applied : (p : Phase) (r : Router) (n : ℕ) → r.phase ≡ p → Place r n
    → Decided (Steps r n events.Applied)
at_applied phases.Applying r n q at =
    record { is = actions.Show; one = λ a w. w.1.heeds at.fresh at.soon q }
at_applied phases.Offline r n q at =
    idle r n events.Applied at (is_not phases.Offline phases.Applying r q (λ e. cc))
at_applied phases.Connecting r n q at =
    idle r n events.Applied at (is_not phases.Connecting phases.Applying r q (λ e. cc))
at_applied phases.Asked r n q at =
    idle r n events.Applied at (is_not phases.Asked phases.Applying r q (λ e. cc))
at_applied phases.Reading r n q at =
    idle r n events.Applied at (is_not phases.Reading phases.Applying r q (λ e. cc))
at_applied phases.Waiting r n q at =
    idle r n events.Applied at (is_not phases.Waiting phases.Applying r q (λ e. cc))

at_not_applied : (p : Phase) (code : Option ErrorCode) (r : Router) (n : ℕ) → r.phase ≡ p
    → Place r n → Decided (Steps r n (events.NotApplied code))
at_not_applied phases.Applying code r n q at = record {
  is = ends_with false code causes.NotApplied;
  one = λ a w. w.1.heeds at.fresh at.soon (inr q);
}
at_not_applied phases.Reading code r n q at = record {
  is = ends_with false code causes.NotApplied;
  one = λ a w. w.1.heeds at.fresh at.soon (inl q);
}
at_not_applied phases.Offline code r n q at = idle r n (events.NotApplied code) at (
  is_not phases.Offline phases.Reading r q (λ e. cc),
  is_not phases.Offline phases.Applying r q (λ e. cc),
)
at_not_applied phases.Connecting code r n q at = idle r n (events.NotApplied code) at (
  is_not phases.Connecting phases.Reading r q (λ e. cc),
  is_not phases.Connecting phases.Applying r q (λ e. cc),
)
at_not_applied phases.Asked code r n q at = idle r n (events.NotApplied code) at (
  is_not phases.Asked phases.Reading r q (λ e. cc),
  is_not phases.Asked phases.Applying r q (λ e. cc),
)
at_not_applied phases.Waiting code r n q at = idle r n (events.NotApplied code) at (
  is_not phases.Waiting phases.Reading r q (λ e. cc),
  is_not phases.Waiting phases.Applying r q (λ e. cc),
)

-- a connection ends
loses : (r : Router) (n : ℕ) → Place r n → r.phase ≢ phases.Offline
    → (r.phase ≢ phases.Asked) ⊎ (r.agreed ≡ true) → Decided (Steps r n events.Lost)
loses r n at on x = record {
  is = ends_for causes.Lost;
  one = λ a w. (w.1.heeds at.fresh at.soon).ends on x;
}

at_lost : (p : Phase) (r : Router) (n : ℕ) → r.phase ≡ p → Place r n
    → Decided (Steps r n events.Lost)
at_lost phases.Offline r n q at = idle r n events.Lost at q
at_lost phases.Asked r n q at = go r.agreed refl (cases_lt r.floor r.version)
  where
    go : (b : Bool) → r.agreed ≡ b → (r.floor < r.version) ⊎ (r.version ≤ r.floor)
        → Decided (Steps r n events.Lost)
    go true g l = loses r n at (is_not phases.Asked phases.Offline r q (λ e. cc)) (inr g)
    go false g (inl l) = record {
      is = ends_for causes.Lower;
      one = λ a w. (w.1.heeds at.fresh at.soon).falls (q, g) l;
    }
    go false g (inr l) = record {
      is = ends_for causes.Lost;
      one = λ a w. (w.1.heeds at.fresh at.soon).answered (q, g) l;
    }
at_lost phases.Connecting r n q at =
    loses r n at (is_not phases.Connecting phases.Offline r q (λ e. cc))
    (inl (is_not phases.Connecting phases.Asked r q (λ e. cc)))
at_lost phases.Reading r n q at =
    loses r n at (is_not phases.Reading phases.Offline r q (λ e. cc))
    (inl (is_not phases.Reading phases.Asked r q (λ e. cc)))
at_lost phases.Applying r n q at =
    loses r n at (is_not phases.Applying phases.Offline r q (λ e. cc))
    (inl (is_not phases.Applying phases.Asked r q (λ e. cc)))
at_lost phases.Waiting r n q at =
    loses r n at (is_not phases.Waiting phases.Offline r q (λ e. cc))
    (inl (is_not phases.Waiting phases.Asked r q (λ e. cc)))

-- a unit that is refused
agreed_fault :
    (r : Router) (n : ℕ) (f : Fault) (code : ErrorCode) → Place r n → IsTalking r
    → f.code ≡ Some code → (r.phase ≢ phases.Asked) ⊎ (r.agreed ≡ true)
    → (f.version ≡ r.version) ⊎ (f.version ≢ r.version) → Decided (Steps r n (events.Faulty f))
agreed_fault r n f code at on c x (inl v) = record {
  is = ends_with false f.code causes.Faulty;
  one = λ a w. (w.1.heeds at.fresh at.soon).owed on v;
}
agreed_fault r n f code at on c x (inr v) = record {
  is = breaks 8 causes.OtherVersion;
  one = λ a w. (w.1.heeds at.fresh at.soon).other_version on x v code c;
}

fault_by_code :
    (r : Router) (n : ℕ) (f : Fault) → Place r n → IsTalking r
    → ((code : ErrorCode) → f.code ≡ Some code → Decided (Steps r n (events.Faulty f)))
    → Decided (Steps r n (events.Faulty f))
fault_by_code r n f at on x = go f.code refl
  where
    go : (o : Option ErrorCode) → f.code ≡ o → Decided (Steps r n (events.Faulty f))
    go None c = record {
      is = ends_for causes.Faulty;
      one = λ a w. (w.1.heeds at.fresh at.soon).unowed on c;
    }
    go (Some code) c = x code c

at_fault : (p : Phase) (r : Router) (n : ℕ) (f : Fault) → r.phase ≡ p → Place r n
    → Decided (Steps r n (events.Faulty f))
at_fault phases.Offline r n f q at = idle r n (events.Faulty f) at (inl q)
at_fault phases.Connecting r n f q at = idle r n (events.Faulty f) at (inr q)
at_fault phases.Asked r n f q at =
    fault_by_code r n f at on (λ code c. go code c r.agreed refl (cases_lt r.version f.version))
  where
    on : IsTalking r
    on = (
      is_not phases.Asked phases.Offline r q (λ e. cc),
      is_not phases.Asked phases.Connecting r q (λ e. cc),
    )

    go : (code : ErrorCode) → f.code ≡ Some code → (b : Bool) → r.agreed ≡ b
        → (r.version < f.version) ⊎ (f.version ≤ r.version) → Decided (Steps r n (events.Faulty f))
    go code c true g l =
        agreed_fault r n f code at on c (inr g) (cases_eq f.version r.version)
    go code c false g (inl l) = record {
      is = breaks 4 causes.HigherVersion;
      one = λ a w. (w.1.heeds at.fresh at.soon).higher_version (q, g) l code c;
    }
    go code c false g (inr l) = record {
      is = ends_with false f.code causes.Faulty;
      one = λ a w. (w.1.heeds at.fresh at.soon).lower (q, g) l;
    }
at_fault phases.Reading r n f q at =
    let on : IsTalking r = (
      is_not phases.Reading phases.Offline r q (λ e. cc),
      is_not phases.Reading phases.Connecting r q (λ e. cc),
    ) in
    fault_by_code r n f at on (λ code c. agreed_fault r n f code at on c
    (inl (is_not phases.Reading phases.Asked r q (λ e. cc))) (cases_eq f.version r.version))
at_fault phases.Applying r n f q at =
    let on : IsTalking r = (
      is_not phases.Applying phases.Offline r q (λ e. cc),
      is_not phases.Applying phases.Connecting r q (λ e. cc),
    ) in
    fault_by_code r n f at on (λ code c. agreed_fault r n f code at on c
    (inl (is_not phases.Applying phases.Asked r q (λ e. cc))) (cases_eq f.version r.version))
at_fault phases.Waiting r n f q at =
    let on : IsTalking r = (
      is_not phases.Waiting phases.Offline r q (λ e. cc),
      is_not phases.Waiting phases.Connecting r q (λ e. cc),
    ) in
    fault_by_code r n f at on (λ code c. agreed_fault r n f code at on c
    (inl (is_not phases.Waiting phases.Asked r q (λ e. cc))) (cases_eq f.version r.version))

-- a unit
at_unit : (p : Phase) (r : Router) (n : ℕ) (u : Head) → r.phase ≡ p → Place r n
    → Decided (Steps r n (events.Came u))
at_unit phases.Offline r n u q at = idle r n (events.Came u) at (inl q)
at_unit phases.Connecting r n u q at = idle r n (events.Came u) at (inr q)
at_unit phases.Asked r n u q at =
    let d : Decided (HeedsAsked r u) = asked_at_unit r u u.kind refl in
    record { is = d.is; one = λ a w. d.one a ((w.1.heeds at.fresh at.soon).asked q) }
at_unit phases.Reading r n u q at =
    let d : Decided (HeedsReading r u) = reading_at_unit r u u.kind refl in
    record { is = d.is; one = λ a w. d.one a ((w.1.heeds at.fresh at.soon).reading q) }
at_unit phases.Applying r n u q at = record {
  is = ends_for causes.NotApplied;
  one = λ a w. (w.1.heeds at.fresh at.soon).applying q;
}
at_unit phases.Waiting r n u q at =
    let d : Decided (HeardWaiting r n u) = waiting_at_unit r n u u.kind refl in
    record { is = d.is; one = λ a w. d.one a (w.0, (w.1.heeds at.fresh at.soon).waiting q) }

at_event : (e : Event) (r : Router) (n : ℕ) → Place r n → Decided (Steps r n e)
at_event events.Tick r n at = at_tick r.phase r n refl at
at_event events.Asked r n at = idle r n events.Asked at tt
at_event events.Connected r n at = at_connected r.phase r n refl at
at_event events.Lost r n at = at_lost r.phase r n refl at
at_event (events.Came u) r n at = at_unit r.phase r n u refl at
at_event (events.Faulty f) r n at = at_fault r.phase r n f refl at
at_event events.Applied r n at = at_applied r.phase r n refl at
at_event (events.NotApplied code) r n at = at_not_applied r.phase code r n refl at

-- ---- and what comes before

expires_in : (p : Phase) (r : Router) (n : ℕ) (e : Event) → r.phase ≡ p → r.has_data ≡ true
    → r.expires ≤ n → Decided (Steps r n e)
expires_in phases.Offline r n e q has late = record {
  is = actions.Drop;
  one = λ a w. (w.1.expires has late).offline q;
}
expires_in p r n e q has late = record {
  is = ends_with true None causes.Expired;
  one = λ a w. (w.1.expires has late).online (is_not p phases.Offline r q (λ e. cc));
}

in_time : (p : Phase) (r : Router) (n : ℕ) (e : Event) → r.phase ≡ p → Fresh r n
    → Decided (Steps r n e)
in_time phases.Applying r n e q fresh = go (cases_lt n (made_until r))
  where
    go : (n < made_until r) ⊎ (made_until r ≤ n) → Decided (Steps r n e)
    go (inl l) = at_event e r n (record {
      fresh = fresh;
      soon = ((λ x. absurd (subst (λ (p : Phase). IsLimited p) q x)), (λ x. l));
    })
    go (inr l) =
        record { is = ends_for causes.Expired; one = λ a w. w.1.stale fresh q l }
in_time phases.Offline r n e q fresh = at_event e r n (record {
  fresh = fresh;
  soon = (
    (λ x. absurd (subst (λ (p : Phase). IsLimited p) q x)),
    (λ x. absurd (is_not phases.Offline phases.Applying r q (λ e. cc) x)),
  );
})
in_time phases.Waiting r n e q fresh = at_event e r n (record {
  fresh = fresh;
  soon = (
    (λ x. absurd (subst (λ (p : Phase). IsLimited p) q x)),
    (λ x. absurd (is_not phases.Waiting phases.Applying r q (λ e. cc) x)),
  );
})
in_time p r n e q fresh = go (cases_lt n r.due)
  where
    go : (n < r.due) ⊎ (r.due ≤ n) → Decided (Steps r n e)
    go (inl l) = at_event e r n (record {
      fresh = fresh;
      soon = ((λ x. l), (λ x. absurd (is_not p phases.Applying r q (λ e. cc) x)));
    })
    go (inr l) = record {
      is = ends_for causes.Slow;
      one = λ a w. w.1.late fresh (subst (λ (p : Phase). IsLimited p) (sym q) tt) l;
    }

decided : (r : Router) (n : ℕ) (e : Event) → Decided (Steps r n e)
decided r n e = go (fresh_or_not r n)
  where
    go : Fresh r n ⊎ ((r.has_data ≡ true) × (r.expires ≤ n)) → Decided (Steps r n e)
    go (inl fresh) = in_time r.phase r n e refl fresh
    go (inr x) = expires_in r.phase r n e refl x.0 x.1

pub one_result :
    (r : Router) (n : ℕ) (e : Event) (a b : Action) (r₁ r₂ : Router)
    → IsStep r n e a r₁ → IsStep r n e b r₂ → (a ≡ b) × (r₁ ≡ r₂)
one_result r n e a b r₁ r₂ x y = (
  same,
  x.becomes ∙ ap (λ (c : Action). router_after r n e c) same
      ∙ sym y.becomes,
)
  where
    d : Decided (Steps r n e)
    d = decided r n e

    same : a ≡ b
    same = d.one a (r₁, x) ∙ sym (d.one b (r₂, y))
