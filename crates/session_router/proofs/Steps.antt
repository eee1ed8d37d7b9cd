-- Steps of a router that is any: that such steps exist, and what it is then.
use Rattle.std.proofs.Common.{◌≡◌, ◌≢◌, ◌⊎◌, ℕ, Bool, true, false, ◌+◌, ◌-◌, ◌*◌, ◌<◌, ◌≤◌, min}
use Rattle.std.proofs.Common.{max}
use Rattle.std.proofs.Common.{◌&&◌, ◌==◌, not, None, Some, if◌then◌else◌, refl, sym, ◌∙◌, subst}
use Rattle.std.proofs.Common.{inl, inr, arith}
use Rattle.std.specs.declared.cmp.Ordering.TheVariants.{Less}
use Rattle.rtr_base.specs.Serial.{serial_cmp}
use Rattle.std.proofs.lemmas.Bool.{and_cases, and_parts, eqb-false, eqb-true}
use Rattle.session_router.specs.declared.head.Head.{Head}
use Rattle.session_router.specs.declared.head.Known.{Known}
use Rattle.session_router.specs.declared.head.Kind.{Kind}
use Rattle.session_router.specs.declared.head.Kind.TheVariants as kinds
use Rattle.session_router.specs.declared.settings.Settings.{Settings}
use Rattle.session_router.specs.declared.router.Router.{Router}
use Rattle.session_router.specs.declared.router.Phase.{Phase}
use Rattle.session_router.specs.declared.router.Phase.TheVariants as phases
use Rattle.session_router.specs.declared.event.Event.TheVariants as events
use Rattle.session_router.specs.declared.event.Action.{Action}
use Rattle.session_router.specs.declared.event.Action.TheVariants as actions
use Rattle.session_router.specs.declared.event.Cause.TheVariants as causes
use Rattle.session_router.specs.Rules.{AsksOwn, Fresh, IsPayloadOf, query}
use Rattle.session_router.specs.Heeding.{HeedsExpiry, IsNoAnswer, IsNoPart, IsPayloadAbove}
use Rattle.session_router.specs.Heeding.{ends_for}
use Rattle.session_router.specs.Heeding.{ends_with}
use Rattle.session_router.specs.Pace.{IsLimited}
use Rattle.session_router.specs.Times.{expire_ms, milliseconds, set_or}
use Rattle.session_router.specs.After.{asks_changes, once_adopted, once_asked, once_begun}
use Rattle.session_router.specs.After.{once_completed}
use Rattle.session_router.specs.After.{once_connected, once_dropped, once_fallen_silently}
use Rattle.session_router.specs.After.{once_lost}
use Rattle.session_router.specs.After.{once_risen}
use Rattle.session_router.specs.Step.{IsStep, made_until}

-- ---- what isn't so

contrary : (a b : ℕ) → a < b → b ≤ a → ⊥
contrary a b h k = omega arith

below_self : (a b : ℕ) → a ≡ b → a < b → ⊥
below_self a b e h = omega arith

above_self : (a b : ℕ) → a ≡ b → b < a → ⊥
above_self a b e h = omega arith

le_self : (a b : ℕ) → a ≡ b → a ≤ b
le_self a b e = omega arith

unexpired : (r : Router) (n : ℕ) (a : Action) → Fresh r n → r.has_data ≡ true → r.expires ≤ n
    → HeedsExpiry r a
unexpired r n a f h l = absurd (contrary n r.expires (f h) l)

unlimited : (p : Phase) (r : Router) → r.phase ≡ p → (IsLimited p → ⊥) → IsLimited r.phase → ⊥
unlimited p r q x l = x (subst (λ (p : Phase). IsLimited p) q l)

busy : (p : Phase) (r : Router) → r.phase ≡ p → p ≢ phases.Offline → p ≢ phases.Connecting
    → (r.phase ≡ phases.Offline) ⊎ (r.phase ≡ phases.Connecting) → ⊥
busy p r q x y (inl e) = x (sym q ∙ e)
busy p r q x y (inr e) = y (sym q ∙ e)

-- ---- a connection, and a query

pub connects_at : (r : Router) (n : ℕ) → r.phase ≡ phases.Offline → r.due ≤ n → Fresh r n
    → IsStep r n events.Tick actions.Connect (once_connected r n)
connects_at r n q d f = record {
  rule = record {
    same = record { has_data = refl; known = refl; expires = refl };
    from = q;
    due = d;
    phase = refl;
    version = refl;
    agreed = refl;
    floor = refl;
    resync = refl;
  };
  fresh = f;
  paces = record {
    settings = refl;
    asked = refl;
    fell = refl;
    wait = refl;
    answered = refl;
    due = refl;
  };
  becomes = refl;
  heeds = λ g s. record {
    connects = λ p e. refl;
    rests = λ p l. absurd (contrary n r.due l d);
    asks = λ p e k z. cc;
    rises = λ p e k z y. cc;
    pauses = λ p l. cc;
    waits = λ p l. cc;
  };
  idles = λ g s i. absurd (i.0 q);
  expires = unexpired r n actions.Connect f;
  late = λ g l e. absurd (unlimited phases.Offline r q (λ x. x) l);
  stale = λ g p l. cc;
  acts = λ e w p g. cc;
}

asks_own : (r : Router) → asks_changes r ≡ true
    → (r.has_data ≡ true) × (r.known.version ≡ r.version) × (r.resync ≡ false)
asks_own r e =
    let x : (r.has_data && not r.resync ≡ true) × ((r.known.version == r.version) ≡ true) =
    and_parts (r.has_data && not r.resync) (r.known.version == r.version) e in
    let y : (r.has_data ≡ true) × (not r.resync ≡ true) =
    and_parts r.has_data (not r.resync) x.0 in
    (y.0, eqb-true r.known.version r.version x.1, no r.resync y.1)
  where
    no : (b : Bool) → not b ≡ true → b ≡ false
    no true e = cc
    no false e = refl

asks_all : (r : Router) → asks_changes r ≡ false
    → (r.has_data ≡ false) ⊎ (r.known.version ≢ r.version) ⊎ (r.resync ≡ true)
asks_all r e =
    go (and_cases (r.has_data && not r.resync) (r.known.version == r.version) e)
  where
    yes : (b : Bool) → not b ≡ false → b ≡ true
    yes true e = refl
    yes false e = cc

    first : (r.has_data ≡ false) ⊎ (not r.resync ≡ false)
        → (r.has_data ≡ false) ⊎ (r.known.version ≢ r.version) ⊎ (r.resync ≡ true)
    first (inl x) = inl x
    first (inr x) = inr (inr (yes r.resync x))

    go : ((r.has_data && not r.resync) ≡ false) ⊎ ((r.known.version == r.version) ≡ false)
        → (r.has_data ≡ false) ⊎ (r.known.version ≢ r.version) ⊎ (r.resync ≡ true)
    go (inl x) = first (and_cases r.has_data (not r.resync) x)
    go (inr x) = inr (inl (eqb-false r.known.version r.version x))

own_then : (r : Router) (n : ℕ) → (once_asked r n).changes ≡ true → AsksOwn (once_asked r n)
own_then r n e =
    let x : (r.has_data ≡ true) × (r.known.version ≡ r.version) × (r.resync ≡ false) =
    asks_own r e in
    record { has_data = x.0; version = x.1; resync = x.2 }

pub asks_at : (r : Router) (n : ℕ) → r.phase ≡ phases.Connecting → n < r.due → Fresh r n
    → IsStep r n events.Connected
    (actions.Ask (query (once_asked (record r { answered = false }) n)))
    (once_asked (record r { answered = false }) n)
asks_at r n q d f = record {
  rule = record {
    same = record { has_data = refl; known = refl; expires = refl };
    phase = refl;
    query = refl;
    own = own_then (record r { answered = false }) n;
    all = asks_all r;
    may = (q, refl, refl, refl);
    agreed = λ e. e;
    version = refl;
    noted = refl;
  };
  fresh = f;
  paces = record {
    settings = refl;
    asked = refl;
    fell = refl;
    wait = refl;
    answered = refl;
    due = refl;
  };
  becomes = refl;
  heeds = λ g s p. refl;
  idles = λ g s i. absurd (i q);
  expires = unexpired r n (actions.Ask (query (once_asked (record r { answered = false }) n))) f;
  late = λ g l e. absurd (contrary n r.due d e);
  stale = λ g p l. cc;
  acts = λ e w p g. cc;
}

-- while it waits, when it is time
pub asks_then : (r : Router) (n : ℕ) → r.phase ≡ phases.Waiting → r.due ≤ n
    → r.settings.pause ≤ n - r.asked → (r.silent ≡ true → n < r.rises) → Fresh r n
    → IsStep r n events.Tick (actions.Ask (query (once_asked r n))) (once_asked r n)
asks_then r n q d k z f = record {
  rule = record {
    same = record { has_data = refl; known = refl; expires = refl };
    phase = refl;
    query = refl;
    own = own_then r n;
    all = asks_all r;
    may = (q, k, refl, refl, d);
    agreed = λ e. e;
    version = refl;
    noted = refl;
  };
  fresh = f;
  paces = record {
    settings = refl;
    asked = refl;
    fell = refl;
    wait = refl;
    answered = refl;
    due = refl;
  };
  becomes = refl;
  heeds = λ g s. record {
    connects = λ p e. cc;
    rests = λ p l. cc;
    asks = λ p e k z. refl;
    rises = λ p e k y l. absurd (contrary n r.rises (z y) l);
    pauses = λ p l. absurd (contrary (n - r.asked) r.settings.pause l k);
    waits = λ p l. absurd (contrary n r.due l d);
  };
  idles = λ g s i. absurd (i.1 q);
  expires = unexpired r n (actions.Ask (query (once_asked r n))) f;
  late = λ g l e. absurd (unlimited phases.Waiting r q (λ x. x) l);
  stale = λ g p l. cc;
  acts = λ e w p g. cc;
}

-- or the highest version is tried again
pub rises_at : (r : Router) (n : ℕ) → r.phase ≡ phases.Waiting → r.due ≤ n
    → r.settings.pause ≤ n - r.asked → r.silent ≡ true → r.rises ≤ n → Fresh r n
    → IsStep r n events.Tick (ends_for causes.Higher) (once_risen r n)
rises_at r n q d k y z f = record {
  rule = record {
    from = λ p. cc;
    phase = refl;
    data_then = record { has_data = refl; known = refl; expires = refl };
    reports = tt;
    by = record {
      from = q;
      silent = y;
      keeps = refl;
      report = refl;
      fell = refl;
      floor = refl;
      resync = refl;
    };
  };
  fresh = f;
  paces = record {
    settings = refl;
    asked = refl;
    fell = refl;
    wait = refl;
    answered = refl;
    pause = k;
    due = refl;
  };
  becomes = refl;
  heeds = λ g s. record {
    connects = λ p e. cc;
    rests = λ p l. cc;
    asks = λ p e k x. absurd (contrary n r.rises (x y) z);
    rises = λ p e k y l. refl;
    pauses = λ p l. absurd (contrary (n - r.asked) r.settings.pause l k);
    waits = λ p l. absurd (contrary n r.due l d);
  };
  idles = λ g s i. absurd (i.1 q);
  expires = unexpired r n (ends_for causes.Higher) f;
  late = λ g l e. absurd (unlimited phases.Waiting r q (λ x. x) l);
  stale = λ g p l. cc;
  acts = λ e w p g. cc;
}

-- ---- an answer

pub begins_at : (r : Router) (n : ℕ) (u : Head) → r.phase ≡ phases.Asked → n < r.due → Fresh r n
    → u.kind ≡ kinds.CacheResponse → u.version ≡ r.version
    → (r.changes ≡ true → u.session ≡ r.known.session)
    → IsStep r n (events.Came u) actions.Begin (once_begun r u)
begins_at r n u q d f k v s = record {
  rule = record {
    same = record { has_data = refl; known = refl; expires = refl };
    kind = k;
    from = q;
    phase = refl;
    version = refl;
    session = refl;
    may = record { most = le_self u.version r.version v; agreed = λ e. v; changes = λ e. v };
    agreed = refl;
    floor = refl;
    changes = refl;
    resync = refl;
    own = s;
    units = refl;
    bytes = refl;
    noted = refl;
    note = refl;
  };
  fresh = f;
  paces = record {
    same = record {
      settings = refl;
      asked = refl;
      fell = refl;
      wait = refl;
      answered = refl;
    };
    due = refl;
  };
  becomes = refl;
  heeds = λ g t. record {
    asked = λ p. record {
      begins = λ e m o. refl;
      other_session = λ e w c x. absurd (x (s c));
      resets = λ e w c. cc;
      falls_to = λ e l c x. absurd (below_self u.version r.version v l);
      has_none = λ e w c. cc;
      falls = λ e x y l. cc;
      reported = λ e x y. cc;
      ignores = λ e x. cc;
      notes = λ e w. cc;
      other_version = λ e w x. absurd (w v);
      higher_version = λ e m l x. absurd (above_self u.version r.version v l);
      out_of_place = λ x l y. absurd (subst (λ (k : Kind). IsNoAnswer r k) k x);
    };
    reading = λ p. cc;
    waiting = λ p. cc;
    applying = λ p. cc;
  };
  idles = λ g t i. absurd (busy phases.Asked r q (λ e. cc) (λ e. cc) i);
  expires = unexpired r n actions.Begin f;
  late = λ g l e. absurd (contrary n r.due d e);
  stale = λ g p l. cc;
  acts = λ e w p g. cc;
}

none_left : (r : Router) (u : Head) → (r.changes ≡ true → u.serial ≡ r.known.serial → r.units ≡ 0)
    → r.changes ≡ true → u.serial ≡ r.known.serial → 1 ≤ r.units → ⊥
none_left r u z c e l = zero r.units (z c e) l
  where
    zero : (k : ℕ) → k ≡ 0 → 1 ≤ k → ⊥
    zero k e h = omega arith

pub completes_at : (r : Router) (n : ℕ) (u : Head) → r.phase ≡ phases.Reading → n < r.due
    → Fresh r n → u.kind ≡ kinds.EndOfData → u.version ≡ r.version → u.session ≡ r.session
    → (r.changes ≡ true → serial_cmp u.serial r.known.serial ≢ Some Less)
    → (r.changes ≡ true → u.serial ≡ r.known.serial → r.units ≡ 0)
    → IsStep r n (events.Came u) (actions.Apply r.changes) (once_completed r n u)
completes_at r n u q d f k v s o z = record {
  rule = record {
    same = record { has_data = refl; known = refl; expires = refl };
    from = q;
    phase = refl;
    kind = k;
    version = v;
    session = s;
    base = refl;
    order = o;
    news = z;
    same_changes = refl;
    answer = refl;
    came = refl;
    noted = refl;
    note = refl;
    same_version = refl;
    agreed = λ e. e;
    floor = refl;
    resync = refl;
  };
  fresh = f;
  paces = record {
    same = record {
      settings = refl;
      asked = refl;
      fell = refl;
      wait = refl;
      answered = refl;
    };
    due = refl;
  };
  becomes = refl;
  heeds = λ g t. record {
    asked = λ p. cc;
    reading = λ p. record {
      keeps = λ x w y. absurd (subst (λ (k : Kind). IsPayloadOf r.version k) k x);
      too_long = λ x w y. absurd (subst (λ (k : Kind). IsPayloadOf r.version k) k x);
      no_such_payload = λ x w. absurd (subst (λ (k : Kind). IsPayloadAbove r.version k) k x);
      applies = λ x y w. refl;
      old_serial = λ x c l. absurd (o c l);
      other_data = λ x c e l. absurd (none_left r u z c e l);
      notes = λ x. let e : u.kind ≡ kinds.SerialNotify = x.kind in cc;
      other_session = λ x w e. absurd (e s);
      has_none = λ e w c. cc;
      reported = λ e x. cc;
      other_version = λ e w. absurd (w v);
      out_of_place = λ x w. absurd (subst (λ (k : Kind). IsNoPart k) k x);
    };
    waiting = λ p. cc;
    applying = λ p. cc;
  };
  idles = λ g t i. absurd (busy phases.Reading r q (λ e. cc) (λ e. cc) i);
  expires = unexpired r n (actions.Apply r.changes) f;
  late = λ g l e. absurd (contrary n r.due d e);
  stale = λ g p l. cc;
  acts = λ e w p g. cc;
}

pub expires_later : (s : Settings) (k : Known) → 1 ≤ expire_ms s k
expires_later s k =
    chosen s.expire (milliseconds k k.expire 7200 600 172800) (least (k.version == 0))
  where
    least : (b : Bool) → 1 ≤ 1000 * (if b then 7200 else min 172800 (max 600 k.expire))
    least true = omega arith
    least false = omega arith

    positive : (set n : ℕ) → (set ≡ 0 → ⊥) → 1 ≤ n → 1 ≤ set
    positive set n e h = omega arith

    chosen : (set n : ℕ) → 1 ≤ n → 1 ≤ set_or set n
    chosen set n h = go (set == 0) (λ e. eqb-false set 0 e)
      where
        go : (b : Bool) → (b ≡ false → set ≡ 0 → ⊥) → 1 ≤ (if b then n else set)
        go true e = h
        go false e = positive set n (e refl) h

pub shows_at : (r : Router) (n : ℕ) → r.phase ≡ phases.Applying → n < made_until r → Fresh r n
    → IsStep r n events.Applied actions.Show (once_adopted r n)
shows_at r n q m f = record {
  rule = record {
    from = q;
    phase = refl;
    has_data = refl;
    known = refl;
    expires = refl;
    same_version = refl;
    agreed = λ e. e;
    floor = refl;
    resync = refl;
  };
  fresh = λ e. later n r.came (expire_ms r.settings r.answer)
      (expires_later r.settings r.answer) m;
  paces = record {
    settings = refl;
    asked = refl;
    fell = refl;
    wait = refl;
    answered = refl;
    due = refl;
    expires = refl;
  };
  becomes = refl;
  heeds = λ g s p. refl;
  idles = λ g s i. absurd (i q);
  expires = unexpired r n actions.Show f;
  late = λ g l e. absurd (unlimited phases.Applying r q (λ x. x) l);
  stale = λ g p l. absurd (contrary n (made_until r) m l);
  acts = λ e w p g. cc;
}
  where
    later : (n c x : ℕ) → 1 ≤ x → n < c + x → n < min c n + x
    later n c x h k = omega arith

-- ---- data that expire

pub drops_at : (r : Router) (n : ℕ) → r.phase ≡ phases.Offline → r.has_data ≡ true → r.expires ≤ n
    → IsStep r n events.Tick actions.Drop (once_lost r n)
drops_at r n q h l = record {
  rule = record {
    from = q;
    phase = q;
    lost = record { has_data = refl; known = refl };
    version = refl;
    resync = refl;
  };
  fresh = λ e. cc;
  paces = record {
    settings = refl;
    asked = refl;
    fell = refl;
    wait = refl;
    answered = refl;
    due = refl;
  };
  becomes = refl;
  heeds = λ g s. absurd (contrary n r.expires (g h) l);
  idles = λ g s i. absurd (i.0 q);
  expires = λ e k. record { offline = λ p. refl; online = λ p. absurd (p q) };
  late = λ g x e. absurd (unlimited phases.Offline r q (λ x. x) x);
  stale = λ g p e. cc;
  acts = λ e w p g. cc;
}

pub expires_at : (r : Router) (n : ℕ) → r.phase ≢ phases.Offline → r.has_data ≡ true
    → r.expires ≤ n
    → IsStep r n events.Tick (ends_with true None causes.Expired) (once_dropped r n)
expires_at r n q h l = record {
  rule = record {
    from = q;
    phase = refl;
    data_then = record { has_data = refl; known = refl };
    reports = tt;
    by = record {
      fell = refl;
      version = refl;
      since = λ e. refl;
      resync = λ e. refl;
      floor = λ e. cc;
    };
  };
  fresh = λ e. cc;
  paces = record {
    settings = refl;
    asked = refl;
    fell = refl;
    answered = refl;
    wait = refl;
    due = refl;
  };
  becomes = refl;
  heeds = λ g s. absurd (contrary n r.expires (g h) l);
  idles = λ g s i. absurd (contrary n r.expires (g h) l);
  expires = λ e k. record { offline = λ p. absurd (q p); online = λ p. refl };
  late = λ g x e. absurd (contrary n r.expires (g h) l);
  stale = λ g p e. absurd (contrary n r.expires (g h) l);
  acts = λ e w p g. cc;
}

-- ---- a close without a word

pub falls_at : (r : Router) (n : ℕ) → r.phase ≡ phases.Asked → n < r.due → Fresh r n
    → r.agreed ≡ false → r.floor < r.version
    → IsStep r n events.Lost (ends_for causes.Lower) (once_fallen_silently r n)
falls_at r n q d f g l = record {
  rule = record {
    from = λ p. cc;
    phase = refl;
    data_then = record { has_data = refl; known = refl; expires = refl };
    reports = tt;
    by = record {
      from = q;
      agreed = g;
      keeps = refl;
      report = refl;
      over = record { by_one = one r.floor r.version l; not_below = below r.floor r.version l };
      fell = refl;
      floor = refl;
      resync = refl;
    };
  };
  fresh = f;
  paces = record {
    settings = refl;
    asked = refl;
    fell = refl;
    wait = refl;
    answered = refl;
    due = refl;
  };
  becomes = refl;
  heeds = λ h s. record {
    falls = λ i k. refl;
    answered = λ i k. absurd (contrary r.floor r.version l k);
    ends = λ p x. absurd (never x);
  };
  idles = λ h s i. cc;
  expires = unexpired r n (ends_for causes.Lower) f;
  late = λ h k e. absurd (contrary n r.due d e);
  stale = λ h p k. cc;
  acts = λ e w p h. cc;
}
  where
    one : (f v : ℕ) → f < v → v - 1 + 1 ≡ v
    one f v h = omega arith

    below : (f v : ℕ) → f < v → f ≤ v - 1
    below f v h = omega arith

    never : (r.phase ≢ phases.Asked) ⊎ (r.agreed ≡ true) → ⊥
    never (inl x) = x q
    never (inr x) = cc
