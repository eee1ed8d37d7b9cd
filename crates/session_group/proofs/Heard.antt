-- What a member that runs makes of a group, and of itself.
use Rattle.std.proofs.Common.{◌≡◌, ◌≢◌, ℕ, Bool, true, false, ◌+◌, ◌<◌, ◌≤◌, ◌⊎◌, inl, inr, arith}
use Rattle.std.proofs.Common.{None, Some, refl, sym, ◌∙◌, ap, length, subst}
use Rattle.std.specs.Prelude.{min, get_or, is_some}
use Rattle.std.proofs.lemmas.Bool.{cases_lt, cases_eq, cases_Bool}
use Rattle.std.proofs.lemmas.List.{get_or-set_same, get_or-set_other, length-set}
use Rattle.std.proofs.lemmas.Grind.{get_or-set_at}
use Rattle.session_group.specs.declared.event.Event.{Event}
use Rattle.session_group.specs.declared.event.Event.TheVariants as events
use Rattle.session_group.specs.declared.group.Group.{Group}
use Rattle.session_group.specs.declared.settings.Settings.{Settings}
use Rattle.session_group.specs.Groups.{asks_next, counts, has_answer, has_failed, has_none, news}
use Rattle.session_group.specs.Groups.{once_heard}
use Rattle.session_group.specs.Runs.{Member, failed, is_current, once_told}
use Rattle.session_group.proofs.Placed.{no_less, other_number, same_number, yes}

-- whether the last whole answer of a member is this event
pub data Answered {D : Type 0} (told : ℕ) (g' : Group) (m : ℕ) (x y : Member D) : Type 0 where
  as_before :
      y.answered ≡ x.answered → (is_some y.has ≡ true → is_some x.has ≡ true)
      → Answered told g' m x y
  now_first :
      y.answered ≡ told + 1 → g'.runs ≡ m + 1 → is_current y ≡ true → Answered told g' m x y

-- what holds of the group, and of the member before and after
pub record Moves {D : Type 0} (told n : ℕ) (g g' : Group) (m : ℕ) (x y : Member D) : Type 0 where
  pub settings : g'.settings ≡ g.settings
  pub count : g'.count ≡ g.count
  pub long : length g'.has ≡ length g.has
  pub near : g'.runs ≤ g.runs + 1
  pub up : m < g'.runs
  pub most : g.runs ≤ g.count → g'.runs ≤ g'.count
  pub grows : g.runs < g'.runs → m + 1 ≡ g.runs
  pub fresh : g.runs < g'.runs → get_or g'.has g.runs false ≡ false
  pub new_idle : g.runs < g'.runs → g'.current ≡ false
  pub new_due : g.runs < g'.runs → g'.due ≡ n + g.settings.patience
  pub other :
      (i : ℕ) → i < g.runs → i ≢ m → get_or g'.has i false ≡ get_or g.has i false
  pub own : is_some y.has ≡ get_or g'.has m false
  pub runs : y.runs ≡ x.runs
  pub began : y.began ≡ x.began
  pub gave_way : m + 1 < g'.runs → y.gave_way ≡ true
  pub last : g'.runs < g'.count → m + 1 ≡ g'.runs → y.gave_way ≡ false
  pub current : m + 1 ≡ g'.runs → is_current y ≡ g'.current
  pub steady : g'.runs ≤ g.runs → m + 1 ≢ g'.runs → g'.runs ≡ g.runs
  pub idle : g'.runs ≤ g.runs → m + 1 ≢ g'.runs → g'.current ≡ g.current
  pub due :
      g'.runs ≤ g.runs → g'.runs < g'.count → g'.current ≡ false
      → (g'.runs ≡ g.runs) × ((g'.due ≡ g.due) × (g.current ≡ false))
  pub shrinks : g'.runs < g.runs → is_current y ≡ true
  pub order : Answered told g' m x y

-- what is supposed of them
pub record Before {D : Type 0} (g : Group) (m : ℕ) (x : Member D) : Type 0 where
  pub low : m < g.runs
  pub count : g.count ≤ 16
  pub most : g.runs ≤ g.count
  pub long : length g.has ≡ 16
  pub own : is_some x.has ≡ get_or g.has m false
  pub gave_way : m + 1 < g.runs → x.gave_way ≡ true
  pub last : g.runs < g.count → m + 1 ≡ g.runs → x.gave_way ≡ false
  pub current : m + 1 ≡ g.runs → is_current x ≡ g.current

room : (m r c l : ℕ) → m < r → r ≤ c → c ≤ 16 → l ≡ 16 → m < l
room m r c l a b d e = omega arith

self_le : (a b : ℕ) → a < b → a + 1 ≤ b + 1
self_le a b p = omega arith

lt_next : (a : ℕ) → a < a + 1
lt_next a = omega arith

le_from : (a b c : ℕ) → a < b → b ≤ c → a + 1 ≤ c
le_from a b c p q = omega arith

not_more : (a b : ℕ) → a < b → b < a + 1 → ⊥
not_more a b p q = omega arith

not_less : (a : ℕ) → a + 1 < a + 1 → ⊥
not_less a p = omega arith

clash : (b : Bool) → b ≡ true → b ≡ false → ⊥
clash b p q = grind arith

-- ---- a whole answer

pub answers :
    {D : Type 0} (told n : ℕ) (g : Group) (m : ℕ) (x y : Member D) → Before g m x
    → y.runs ≡ x.runs → y.began ≡ x.began → y.gave_way ≡ false → is_some y.has ≡ true
    → is_current y ≡ true → y.answered ≡ told + 1
    → Moves told n g (has_answer g m) m x y
answers told n g m x y b r s w h cu o = record {
  settings = refl;
  count = refl;
  long = length-set g.has m true;
  near = self_le m g.runs b.low;
  up = lt_next m;
  most = λ p. le_from m g.runs g.count b.low p;
  grows = λ p. absurd (not_more m g.runs b.low p);
  fresh = λ p. absurd (not_more m g.runs b.low p);
  new_idle = λ p. absurd (not_more m g.runs b.low p);
  new_due = λ p. absurd (not_more m g.runs b.low p);
  other = λ i p q. get_or-set_other g.has m i true false q;
  own = h ∙ sym (get_or-set_same g.has m true false
      (room m g.runs g.count (length g.has) b.low b.most b.count b.long));
  runs = r;
  began = s;
  gave_way = λ p. absurd (not_less m p);
  last = λ p q. w;
  current = λ p. cu;
  steady = λ p q. absurd (q refl);
  idle = λ p q. absurd (q refl);
  due = λ p q t. absurd (clash true refl t);
  shrinks = λ p. cu;
  order = now_first o refl cu;
}

-- ---- failures

abbrev pub grown : Group → (now : ℕ) → Group
grown g n = asks_next (record g { current = false }) n

pub data Failed (g : Group) (n m : ℕ) : Type 0 where
  goes_on :
      m + 1 ≡ g.runs → g.runs < min g.count 16 → has_failed g n m ≡ grown g n → Failed g n m
  inside : m + 1 ≢ g.runs → has_failed g n m ≡ g → Failed g n m
  at_end :
      m + 1 ≡ g.runs → min g.count 16 ≤ g.runs
      → has_failed g n m ≡ record g { current = false } → Failed g n m

pub fails_how : (g : Group) (n m : ℕ) → Failed g n m
fails_how g n m = go (cases_eq (m + 1) g.runs) (cases_lt g.runs (min g.count 16))
  where
    go : (m + 1 ≡ g.runs) ⊎ (m + 1 ≢ g.runs)
        → (g.runs < min g.count 16) ⊎ (min g.count 16 ≤ g.runs) → Failed g n m
    go (inl p) (inl q) =
        goes_on p q (rw (same_number (m + 1) g.runs p) (rw (yes g.runs (min g.count 16) q) refl))
    go (inl p) (inr q) =
        at_end p q
        (rw (same_number (m + 1) g.runs p) (rw (no_less g.runs (min g.count 16) q) refl))
    go (inr p) q = inside p (rw (other_number (m + 1) g.runs p) refl)

-- g is g₀ but for what it has of m, which gave way
pub record Told {D : Type 0} (g₀ g : Group) (m : ℕ) (x y : Member D) : Type 0 where
  pub settings : g.settings ≡ g₀.settings
  pub count : g.count ≡ g₀.count
  pub runs : g.runs ≡ g₀.runs
  pub current : g.current ≡ g₀.current
  pub due : g.due ≡ g₀.due
  pub long : length g.has ≡ length g₀.has
  pub other : (i : ℕ) → i < g.runs → i ≢ m → get_or g.has i false ≡ get_or g₀.has i false
  pub own : is_some y.has ≡ get_or g.has m false
  pub runs_on : y.runs ≡ x.runs
  pub began : y.began ≡ x.began
  pub gave_way : y.gave_way ≡ true
  pub answered : y.answered ≡ x.answered
  pub had : is_some y.has ≡ true → is_some x.has ≡ true

gone_by : {D : Type 0} (y : Member D) → y.gave_way ≡ true → is_current y ≡ false
gone_by y p = rw p refl

failed_on :
    {D : Type 0} (told n : ℕ) (g₀ g : Group) (m : ℕ) (x y : Member D) → Before g₀ m x
    → Told g₀ g m x y
    → m + 1 ≡ g.runs → g.runs < min g.count 16 → Moves told n g₀ (grown g n) m x y
failed_on told n g₀ g m x y b t p q = record {
  settings = t.settings;
  count = t.count;
  long = length-set g.has g.runs false ∙ t.long;
  near = grind arith;
  up = grind arith;
  most = λ z. grind arith;
  grows = λ z. p ∙ t.runs;
  fresh = λ z. get_or-set_at g.has g.runs g₀.runs false false (sym t.runs) (grind arith);
  new_idle = λ z. refl;
  new_due = λ z. ap (λ (s : Settings). n + s.patience) t.settings;
  other = λ i z w. get_or-set_other g.has g.runs i false false (grind arith)
      ∙ t.other i (grind arith) w;
  own = t.own ∙ sym (get_or-set_other g.has g.runs m false false (grind arith));
  runs = t.runs_on;
  began = t.began;
  gave_way = λ z. t.gave_way;
  last = λ z w. grind arith;
  current = λ z. absurd (up_twice m g.runs p z);
  steady = λ z w. absurd (not_back g.runs g₀.runs t.runs z);
  idle = λ z w. absurd (not_back g.runs g₀.runs t.runs z);
  due = λ z w u. absurd (not_back g.runs g₀.runs t.runs z);
  shrinks = λ z. absurd (not_down g.runs g₀.runs t.runs z);
  order = as_before t.answered t.had;
}
  where
    up_twice : (a b : ℕ) → a + 1 ≡ b → a + 1 ≡ b + 1 → ⊥
    up_twice a b p q = omega arith

    not_back : (a b : ℕ) → a ≡ b → a + 1 ≤ b → ⊥
    not_back a b p q = omega arith

    not_down : (a b : ℕ) → a ≡ b → a + 1 < b → ⊥
    not_down a b p q = omega arith

failed_in :
    {D : Type 0} (told n : ℕ) (g₀ g : Group) (m : ℕ) (x y : Member D) → Before g₀ m x
    → Told g₀ g m x y → m + 1 ≢ g.runs → Moves told n g₀ g m x y
failed_in told n g₀ g m x y b t p = record {
  settings = t.settings;
  count = t.count;
  long = t.long;
  near = grind arith;
  up = grind arith;
  most = λ z. grind arith;
  grows = λ z. grind arith;
  fresh = λ z. absurd (not_up g.runs g₀.runs t.runs z);
  new_idle = λ z. absurd (not_up g.runs g₀.runs t.runs z);
  new_due = λ z. absurd (not_up g.runs g₀.runs t.runs z);
  other = λ i z w. t.other i (grind arith) w;
  own = t.own;
  runs = t.runs_on;
  began = t.began;
  gave_way = λ z. t.gave_way;
  last = λ z w. absurd (p w);
  current = λ z. absurd (p z);
  steady = λ z w. t.runs;
  idle = λ z w. t.current;
  due = λ z w u. (t.runs, (t.due, sym t.current ∙ u));
  shrinks = λ z. absurd (not_down g.runs g₀.runs t.runs z);
  order = as_before t.answered t.had;
}
  where
    not_up : (a b : ℕ) → a ≡ b → b < a → ⊥
    not_up a b p q = omega arith

    not_down : (a b : ℕ) → a ≡ b → a < b → ⊥
    not_down a b p q = omega arith

failed_end :
    {D : Type 0} (told n : ℕ) (g₀ g : Group) (m : ℕ) (x y : Member D) → Before g₀ m x
    → Told g₀ g m x y → m + 1 ≡ g.runs → min g.count 16 ≤ g.runs
    → Moves told n g₀ (record g { current = false }) m x y
failed_end told n g₀ g m x y b t p q = record {
  settings = t.settings;
  count = t.count;
  long = t.long;
  near = grind arith;
  up = grind arith;
  most = λ z. grind arith;
  grows = λ z. p ∙ t.runs;
  fresh = λ z. absurd (not_up g.runs g₀.runs t.runs z);
  new_idle = λ z. refl;
  new_due = λ z. absurd (not_up g.runs g₀.runs t.runs z);
  other = λ i z w. t.other i (grind arith) w;
  own = t.own;
  runs = t.runs_on;
  began = t.began;
  gave_way = λ z. t.gave_way;
  last = λ z w. absurd (full g.runs g.count g₀.count t.count b.count q z);
  current = λ z. gone_by y t.gave_way;
  steady = λ z w. absurd (w p);
  idle = λ z w. absurd (w p);
  due = λ z w u. absurd (full g.runs g.count g₀.count t.count b.count q w);
  shrinks = λ z. absurd (not_down g.runs g₀.runs t.runs z);
  order = as_before t.answered t.had;
}
  where
    not_up : (a b : ℕ) → a ≡ b → b < a → ⊥
    not_up a b p q = omega arith

    not_down : (a b : ℕ) → a ≡ b → a < b → ⊥
    not_down a b p q = omega arith

    full : (r k l : ℕ) → k ≡ l → l ≤ 16 → min k 16 ≤ r → r < k → ⊥
    full r k l p q s t = omega arith

pub failed_then :
    {D : Type 0} (told n : ℕ) (g₀ g : Group) (m : ℕ) (x y : Member D) → Before g₀ m x
    → Told g₀ g m x y → Failed g n m → Moves told n g₀ (has_failed g n m) m x y
failed_then told n g₀ g m x y b t (goes_on p q e) =
    subst (λ (z : Group). Moves told n g₀ z m x y) (sym e) (failed_on told n g₀ g m x y b t p q)
failed_then told n g₀ g m x y b t (inside p e) =
    subst (λ (z : Group). Moves told n g₀ z m x y) (sym e) (failed_in told n g₀ g m x y b t p)
failed_then told n g₀ g m x y b t (at_end p q e) =
    subst (λ (z : Group). Moves told n g₀ z m x y) (sym e) (failed_end told n g₀ g m x y b t p q)

no_some : (a b : Bool) → a ≡ false → a ≡ true → b ≡ true
no_some a b p q = grind arith

pub drops :
    {D : Type 0} (told n : ℕ) (g : Group) (m : ℕ) (x : Member D) → Before g m x
    → Moves told n g (has_failed (has_none g m) n m) m x (failed None x)
drops told n g m x b = failed_then told n g (has_none g m) m x (failed None x) b facts
    (fails_how (has_none g m) n m)
  where
    facts : Told g (has_none g m) m x (failed None x)
    facts = record {
      settings = refl;
      count = refl;
      runs = refl;
      current = refl;
      due = refl;
      long = length-set g.has m false;
      other = λ i p q. get_or-set_other g.has m i false false q;
      own = sym (get_or-set_same g.has m false false
          (room m g.runs g.count (length g.has) b.low b.most b.count b.long));
      runs_on = refl;
      began = refl;
      gave_way = refl;
      answered = refl;
      had = λ p. no_some false (is_some x.has) refl p;
    }

pub fails :
    {D : Type 0} (told n : ℕ) (g : Group) (m : ℕ) (x : Member D) → Before g m x
    → Moves told n g (has_failed g n m) m x (failed x.has x)
fails told n g m x b =
    failed_then told n g g m x (failed x.has x) b facts (fails_how g n m)
  where
    facts : Told g g m x (failed x.has x)
    facts = record {
      settings = refl;
      count = refl;
      runs = refl;
      current = refl;
      due = refl;
      long = refl;
      other = λ i p q. refl;
      own = b.own;
      runs_on = refl;
      began = refl;
      gave_way = refl;
      answered = refl;
      had = λ p. p;
    }

-- ---- any event

pub moves :
    {D : Type 0} (told n : ℕ) (e : Event) (s : Settings) (g : Group) (m : ℕ) (d : D)
    (x : Member D) → g.settings ≡ s → Before g m x
    → Moves told n g (once_heard g n m e) m x (once_told s (told + 1) e d x)
moves {D = D} told n (events.Shows p) s g m d x q b = go (cases_Bool (counts s p))
  where
    counts_so : counts g.settings p ≡ counts s p
    counts_so = ap (λ (z : Settings). counts z p) q

    go : (counts s p ≡ true) ⊎ (counts s p ≡ false)
        → Moves told n g (once_heard g n m (events.Shows p)) m x
        (once_told s (told + 1) (events.Shows p) d x)
    go (inl r) =
        rw (counts_so ∙ r) (rw r (answers told n g m x
        (record x { gave_way = false; has = Some d; answered = told + 1 })
        b refl refl refl refl refl refl))
    go (inr r) = rw (counts_so ∙ r) (rw r (drops told n g m x b))
moves told n events.Drops s g m d x q b = drops told n g m x b
moves told n events.Fails s g m d x q b = fails told n g m x b

-- the data of a member that shows no new ones and has some are what they were
pub keeps :
    {D : Type 0} (told : ℕ) (e : Event) (s : Settings) (m : ℕ) (d : D) (x : Member D)
    → news s m e ≡ None
    → is_some (once_told s told e d x).has ≡ true → (once_told s told e d x).has ≡ x.has
keeps {D = D} told (events.Shows p) s m d x q r = go (cases_Bool (counts s p)) q r
  where
    go : (counts s p ≡ true) ⊎ (counts s p ≡ false) → news s m (events.Shows p) ≡ None
        → is_some (once_told s told (events.Shows p) d x).has ≡ true
        → (once_told s told (events.Shows p) d x).has ≡ x.has
    go (inl t) u v = grind arith
    go (inr t) u v = grind arith
keeps told events.Drops s m d x p q = grind arith
keeps told events.Fails s m d x p q = refl
