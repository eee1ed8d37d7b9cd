-- What a group knows of its members agrees with what its caller knows, after a step of a member
-- that runs.
use Rattle.std.proofs.Common.{◌≡◌, ◌≢◌, ℕ, Bool, true, false, ◌+◌, ◌<◌, ◌≤◌, ◌⊎◌, inl, inr, arith}
use Rattle.std.proofs.Common.{Option, sym, ◌∙◌, ap, length, subst}
use Rattle.std.specs.Prelude.{get_or, is_some}
use Rattle.std.proofs.lemmas.Bool.{cases_lt, cases_eq}
use Rattle.session_group.specs.declared.group.Group.{Group}
use Rattle.session_group.specs.declared.settings.Settings.{Settings}
use Rattle.session_group.specs.Runs.{Listener, Member, Happened}
use Rattle.session_group.specs.Runs.{begun}
use Rattle.session_group.specs.Runs.{is_current, left}
use Rattle.session_group.specs.Runs.{ticked, told_of}
use Rattle.session_group.specs.Runs.Happened.{time_passed, to_member}
use Rattle.session_group.proofs.Heard.{Answered, Before, Moves}
use Rattle.session_group.proofs.Heard.Answered.{as_before, now_first}
use Rattle.session_group.proofs.Placed.{begins, gone, placed}
use Rattle.session_group.proofs.Placed.{stays}

pub record Agrees {D : Type 0} (wanted : ℕ) (s : Settings) (g : Group) (c : Listener D) :
    Type 0 where
  pub settings : g.settings ≡ s
  pub caller : c.settings ≡ s
  pub count : g.count ≡ wanted
  pub few : wanted ≤ 16
  pub long : length g.has ≡ 16
  pub most : g.runs ≤ g.count
  pub least : 1 ≤ g.count → 1 ≤ g.runs
  pub runs : (i : ℕ) → i < g.runs → (c.members i).runs ≡ true
  pub has : (i : ℕ) → i < g.runs → is_some (c.members i).has ≡ get_or g.has i false
  pub gave_way : (i : ℕ) → i + 1 < g.runs → (c.members i).gave_way ≡ true
  pub last : (i : ℕ) → g.runs < g.count → i + 1 ≡ g.runs → (c.members i).gave_way ≡ false
  pub current : (i : ℕ) → i + 1 ≡ g.runs → is_current (c.members i) ≡ g.current
  pub due :
      (i : ℕ) → g.runs < g.count → g.current ≡ false → i + 1 ≡ g.runs
      → g.due ≡ (c.members i).began + s.patience
  pub order :
      (i j : ℕ) → i < j → j < g.runs → is_some (c.members i).has ≡ true
      → is_some (c.members j).has ≡ true → (c.members i).answered < (c.members j).answered
  pub told : (i : ℕ) → i < g.runs → (c.members i).answered ≤ c.events
  pub idle : (i : ℕ) → g.runs ≤ i → c.members i ≡ left

-- the caller's members after what happened, before any stops or starts
abbrev pub then_of : {D : Type 0} → Listener D → (now : ℕ) → Happened D → ℕ → Member D
then_of c n time_passed = ticked c n
then_of c n (to_member m e d) = told_of c m e d

-- the members after a step that makes them these
abbrev pub members_after : {D : Type 0} → (now : ℕ) → Group → Group → (ℕ → Member D) → ℕ → Member D
members_after n g g' t i = placed n g.runs g'.runs i (t i)

clash : (b : Bool) → b ≡ true → b ≡ false → ⊥
clash b p q = grind arith

-- ---- a step of a member that runs

-- the three kinds of members that run after it: itself, those that ran before, the one that begins
pub data Kind (r r' m i : ℕ) : Type 0 where
  own : i ≡ m → Kind r r' m i
  old : i < r → i ≢ m → Kind r r' m i
  new : r < r' → i ≡ r → Kind r r' m i

pub before :
    {D : Type 0} (wanted : ℕ) (s : Settings) (g : Group) (c : Listener D) (m : ℕ)
    → Agrees wanted s g c → m < g.runs → Before g m (c.members m)
before wanted s g c m a p = record {
  low = p;
  count = few wanted g.count a.count a.few;
  most = a.most;
  long = a.long;
  own = a.has m p;
  gave_way = a.gave_way m;
  last = a.last m;
  current = a.current m;
}
  where
    few : (w n : ℕ) → n ≡ w → w ≤ 16 → n ≤ 16
    few w n e p = omega arith

module _ {D : Type 0} (wanted : ℕ) (s : Settings) (n : ℕ) (g g' : Group) (c : Listener D) (m : ℕ)
    (t : ℕ → Member D) (a : Agrees wanted s g c) (low : m < g.runs)
    (other : (i : ℕ) → i ≢ m → t i ≡ c.members i)
    (v : Moves c.events n g g' m (c.members m) (t m)) where
  pub at_self : members_after n g g' t m ≡ t m
  at_self = stays n g.runs g'.runs m (t m) v.up low

  pub at_other : (i : ℕ) → i < g'.runs → i < g.runs → i ≢ m
      → members_after n g g' t i ≡ c.members i
  at_other i p q r = stays n g.runs g'.runs i (t i) p q ∙ other i r

  pub at_new : (i : ℕ) → g.runs < g'.runs → i ≡ g.runs → members_after n g g' t i ≡ begun n
  at_new i p q = begins n g.runs g'.runs i (t i) p q

  pub at_idle : (i : ℕ) → g'.runs ≤ i → members_after n g g' t i ≡ left
  at_idle i p = gone n g.runs g'.runs i (t i) p
      (λ q. other i (apart i m g.runs low q) ∙ a.idle i q)
    where
      apart : (i m r : ℕ) → m < r → r ≤ i → i ≢ m
      apart i m r p q e = absurd (bad i m r p q e)
        where
          bad : (i m r : ℕ) → m < r → r ≤ i → i ≡ m → ⊥
          bad i m r p q e = omega arith

  pub kind : (i : ℕ) → i < g'.runs → Kind g.runs g'.runs m i
  kind i p = go (cases_eq i m) (cases_lt i g.runs)
    where
      more : (i r r' : ℕ) → i < r' → r ≤ i → r < r'
      more i r r' p q = omega arith

      same : (i r r' : ℕ) → i < r' → r ≤ i → r' ≤ r + 1 → i ≡ r
      same i r r' p q s = omega arith

      go : (i ≡ m) ⊎ (i ≢ m) → (i < g.runs) ⊎ (g.runs ≤ i) → Kind g.runs g'.runs m i
      go (inl q) r = own q
      go (inr q) (inl r) = old r q
      go (inr q) (inr r) =
          new (more i g.runs g'.runs p r) (same i g.runs g'.runs p r v.near)

  abbrev x' : ℕ → Member D
  x' i = members_after n g g' t i

  runs' : (i : ℕ) → i < g'.runs → Kind g.runs g'.runs m i → (x' i).runs ≡ true
  runs' i p (own q) =
      ap (λ (j : ℕ). (x' j).runs) q ∙ ap (λ (z : Member D). z.runs) at_self
      ∙ v.runs ∙ a.runs m low
  runs' i p (old q r) = ap (λ (z : Member D). z.runs) (at_other i p q r) ∙ a.runs i q
  runs' i p (new q r) = ap (λ (z : Member D). z.runs) (at_new i q r)

  has' : (i : ℕ) → i < g'.runs → Kind g.runs g'.runs m i
      → is_some (x' i).has ≡ get_or g'.has i false
  has' i p (own q) =
      ap (λ (j : ℕ). is_some (x' j).has) q ∙ ap (λ (z : Member D). is_some z.has) at_self
      ∙ v.own ∙ ap (λ (j : ℕ). get_or g'.has j false) (sym q)
  has' i p (old q r) =
      ap (λ (z : Member D). is_some z.has) (at_other i p q r) ∙ a.has i q ∙ sym (v.other i q r)
  has' i p (new q r) =
      ap (λ (z : Member D). is_some z.has) (at_new i q r)
      ∙ sym (v.fresh q) ∙ ap (λ (j : ℕ). get_or g'.has j false) (sym r)

  gave_way' : (i : ℕ) → i + 1 < g'.runs → Kind g.runs g'.runs m i → (x' i).gave_way ≡ true
  gave_way' i p (own q) =
      ap (λ (j : ℕ). (x' j).gave_way) q ∙ ap (λ (z : Member D). z.gave_way) at_self
      ∙ v.gave_way (subst (λ j. j + 1 < g'.runs) q p)
  gave_way' i p (old q r) =
      ap (λ (z : Member D). z.gave_way) (at_other i (under i g'.runs p) q r)
      ∙ a.gave_way i (inner (cases_lt (i + 1) g.runs))
    where
      under : (a b : ℕ) → a + 1 < b → a < b
      under a b p = omega arith

      at_top : (a b c k : ℕ) → a + 1 < b → c ≤ a + 1 → a < c → (c < b → k + 1 ≡ c) → a ≡ k
      at_top a b c k p q r s = grind arith

      inner : (i + 1 < g.runs) ⊎ (g.runs ≤ i + 1) → i + 1 < g.runs
      inner (inl s) = s
      inner (inr s) = absurd (r (at_top i g'.runs g.runs m p s q v.grows))
  gave_way' i p (new q r) = absurd (past i g'.runs g.runs p r v.near)
    where
      past : (a b c : ℕ) → a + 1 < b → a ≡ c → b ≤ c + 1 → ⊥
      past a b c p q r = omega arith

  not_grown : (a b c : ℕ) → a + 1 ≡ b → a < c → b ≤ c
  not_grown a b c p q = omega arith

  not_own : (a b k : ℕ) → a + 1 ≡ b → a ≢ k → k + 1 ≢ b
  not_own a b k p q e = absurd (q (equal a b k p e))
    where
      equal : (a b k : ℕ) → a + 1 ≡ b → k + 1 ≡ b → a ≡ k
      equal a b k p e = omega arith

  as_it_was : (i : ℕ) → i + 1 ≡ g'.runs → i < g.runs → i ≢ m → g'.runs ≡ g.runs
  as_it_was i p q r = v.steady (not_grown i g'.runs g.runs p q) (not_own i g'.runs m p r)

  at_last : (a b : ℕ) → a + 1 ≡ b → a < b
  at_last a b p = omega arith

  last' : (i : ℕ) → g'.runs < g'.count → i + 1 ≡ g'.runs → Kind g.runs g'.runs m i
      → (x' i).gave_way ≡ false
  last' i o p (own q) =
      ap (λ (j : ℕ). (x' j).gave_way) q ∙ ap (λ (z : Member D). z.gave_way) at_self
      ∙ v.last o (ap (λ (j : ℕ). j + 1) (sym q) ∙ p)
  last' i o p (old q r) =
      ap (λ (z : Member D). z.gave_way) (at_other i (at_last i g'.runs p) q r)
      ∙ a.last i (subst (λ n. g.runs < n) v.count
      (subst (λ n. n < g'.count) (as_it_was i p q r) o)) (p ∙ as_it_was i p q r)
  last' i o p (new q r) = ap (λ (z : Member D). z.gave_way) (at_new i q r)

  current' : (i : ℕ) → i + 1 ≡ g'.runs → Kind g.runs g'.runs m i → is_current (x' i) ≡ g'.current
  current' i p (own q) =
      ap (λ (j : ℕ). is_current (x' j)) q ∙ ap (λ (z : Member D). is_current z) at_self
      ∙ v.current (ap (λ (j : ℕ). j + 1) (sym q) ∙ p)
  current' i p (old q r) =
      ap (λ (z : Member D). is_current z) (at_other i (at_last i g'.runs p) q r)
      ∙ a.current i (p ∙ as_it_was i p q r)
      ∙ sym (v.idle (not_grown i g'.runs g.runs p q) (not_own i g'.runs m p r))
  current' i p (new q r) =
      ap (λ (z : Member D). is_current z) (at_new i q r) ∙ sym (v.new_idle q)

  due' : (i : ℕ) → g'.runs < g'.count → g'.current ≡ false → i + 1 ≡ g'.runs
      → Kind g.runs g'.runs m i → g'.due ≡ (x' i).began + s.patience
  due' i o u p (own q) =
      let f : (g'.runs ≡ g.runs) × ((g'.due ≡ g.due) × (g.current ≡ false)) =
      v.due (not_grown m g'.runs g.runs own_p low) o u in
      f.1.0
      ∙ a.due m (subst (λ n. g.runs < n) v.count (subst (λ n. n < g'.count) f.0 o)) f.1.1
      (own_p ∙ f.0)
      ∙ ap (λ (z : ℕ). z + s.patience) (sym v.began)
      ∙ ap (λ (z : Member D). z.began + s.patience) (sym at_self)
      ∙ ap (λ (j : ℕ). (x' j).began + s.patience) (sym q)
    where
      own_p : m + 1 ≡ g'.runs
      own_p = ap (λ (j : ℕ). j + 1) (sym q) ∙ p
  due' i o u p (old q r) =
      let f : (g'.runs ≡ g.runs) × ((g'.due ≡ g.due) × (g.current ≡ false)) =
      v.due (not_grown i g'.runs g.runs p q) o u in
      f.1.0
      ∙ a.due i (subst (λ n. g.runs < n) v.count (subst (λ n. n < g'.count) f.0 o)) f.1.1
      (p ∙ f.0)
      ∙ ap (λ (z : Member D). z.began + s.patience) (sym (at_other i (at_last i g'.runs p) q r))
  due' i o u p (new q r) =
      v.new_due q ∙ ap (λ (z : Settings). n + z.patience) a.settings
      ∙ ap (λ (z : Member D). z.began + s.patience) (sym (at_new i q r))

  -- what a member answered, and whether it has data, after the step
  pub data Since (i : ℕ) : Type 0 where
    long_ago :
        i < g.runs → (x' i).answered ≡ (c.members i).answered
        → (is_some (x' i).has ≡ true → is_some (c.members i).has ≡ true) → Since i
    just_now :
        (x' i).answered ≡ c.events + 1 → g'.runs ≡ i + 1 → is_current (x' i) ≡ true → Since i
    never : is_some (x' i).has ≡ false → (x' i).answered ≡ 0 → Since i

  pub since : (i : ℕ) → i < g'.runs → Kind g.runs g'.runs m i → Since i
  since i p (own q) = by_order v.order
    where
      at_i : x' i ≡ t m
      at_i = ap x' q ∙ at_self

      by_order : Answered c.events g' m (c.members m) (t m) → Since i
      by_order (as_before e h) =
          long_ago (subst (λ j. j < g.runs) (sym q) low)
          (ap (λ (z : Member D). z.answered) at_i ∙ e
          ∙ ap (λ (j : ℕ). (c.members j).answered) (sym q))
          (λ u. ap (λ (j : ℕ). is_some (c.members j).has) q
          ∙ h (ap (λ (z : Member D). is_some z.has) (sym at_i) ∙ u))
      by_order (now_first e r u) =
          just_now (ap (λ (z : Member D). z.answered) at_i ∙ e)
          (r ∙ ap (λ (j : ℕ). j + 1) (sym q)) (ap (λ (z : Member D). is_current z) at_i ∙ u)
  since i p (old q r) =
      long_ago q (ap (λ (z : Member D). z.answered) (at_other i p q r))
      (λ u. ap (λ (z : Member D). is_some z.has) (sym (at_other i p q r)) ∙ u)
  since i p (new q r) =
      never (ap (λ (z : Member D). is_some z.has) (at_new i q r))
      (ap (λ (z : Member D). z.answered) (at_new i q r))

  order' : (i j : ℕ) → i < j → j < g'.runs → Since i → Since j → is_some (x' i).has ≡ true
      → is_some (x' j).has ≡ true → (x' i).answered < (x' j).answered
  order' i j p q (just_now e r u) y h k = absurd (beyond i j g'.runs p q r)
    where
      beyond : (i j r : ℕ) → i < j → j < r → r ≡ i + 1 → ⊥
      beyond i j r p q e = omega arith
  order' i j p q (never e r) y h k = absurd (clash (is_some (x' i).has) h e)
  order' i j p q (long_ago l e r) (never f u) h k = absurd (clash (is_some (x' j).has) k f)
  order' i j p q (long_ago l e r) (long_ago l' f u) h k =
      subst (λ n. n < (x' j).answered) (sym e)
      (subst (λ n. (c.members i).answered < n) (sym f) (a.order i j p l' (r h) (u k)))
  order' i j p q (long_ago l e r) (just_now f u w) h k =
      subst (λ n. n < (x' j).answered) (sym e)
      (subst (λ n. (c.members i).answered < n) (sym f)
      (le_lt (c.members i).answered c.events (a.told i l)))
    where
      le_lt : (a b : ℕ) → a ≤ b → a < b + 1
      le_lt a b p = omega arith

  told' : (i : ℕ) → Since i → (x' i).answered ≤ c.events + 1
  told' i (long_ago l e r) =
      subst (λ n. n ≤ c.events + 1) (sym e) (le_up (c.members i).answered c.events (a.told i l))
    where
      le_up : (a b : ℕ) → a ≤ b → a ≤ b + 1
      le_up a b p = omega arith
  told' i (just_now e r u) = subst (λ n. n ≤ c.events + 1) (sym e) (le_same (c.events + 1))
    where
      le_same : (a : ℕ) → a ≤ a
      le_same a = omega arith
  told' i (never r e) = subst (λ n. n ≤ c.events + 1) (sym e) (le_none (c.events + 1))
    where
      le_none : (a : ℕ) → 0 ≤ a
      le_none a = omega arith

  least' : 1 ≤ g'.count → 1 ≤ g'.runs
  least' p = positive m g'.runs v.up
    where
      positive : (a b : ℕ) → a < b → 1 ≤ b
      positive a b p = omega arith

  below : (a b : ℕ) → a + 1 < b → a < b
  below a b p = omega arith

  before_it : (i j r : ℕ) → i < j → j < r → i < r
  before_it i j r p q = omega arith

  pub agrees_then : (o : Option D) → Agrees wanted s g' (record {
    settings = c.settings;
    members = members_after n g g' t;
    shown = o;
    events = c.events + 1;
  })
  agrees_then o = record {
    settings = v.settings ∙ a.settings;
    caller = a.caller;
    count = v.count ∙ a.count;
    few = a.few;
    long = v.long ∙ a.long;
    most = v.most a.most;
    least = least';
    runs = λ i p. runs' i p (kind i p);
    has = λ i p. has' i p (kind i p);
    gave_way = λ i p. gave_way' i p (kind i (below i g'.runs p));
    last = λ i o p. last' i o p (kind i (at_last i g'.runs p));
    current = λ i p. current' i p (kind i (at_last i g'.runs p));
    due = λ i o u p. due' i o u p (kind i (at_last i g'.runs p));
    order = λ i j p q.
        order' i j p q (since i (before_it i j g'.runs p q) (kind i (before_it i j g'.runs p q)))
        (since j q (kind j q));
    told = λ i p. told' i (since i p (kind i p));
    idle = at_idle;
  }
