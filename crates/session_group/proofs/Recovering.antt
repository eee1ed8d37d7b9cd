-- A group comes to a member that keeps the rules, and waits for it no longer than it may.
use Rattle.std.proofs.Common.{◌≡◌, ◌≢◌, ℕ, Bool, true, false, ◌+◌, ◌*◌, ◌<◌, ◌≤◌, ◌⊎◌, inl, inr}
use Rattle.std.proofs.Common.{arith, refl, sym, ◌∙◌, ap, subst, List, ◌-◌}
use Rattle.std.specs.Prelude.{max, min}
use Rattle.std.proofs.lemmas.Bool.{cases_lt, cases_eq}
use Rattle.session_group.specs.declared.group.Group.{Group}
use Rattle.session_group.specs.declared.settings.Settings.{Settings}
use Rattle.session_group.specs.Groups.{group_wakes}
use Rattle.session_group.specs.Recovery.{IsWaitedFor, NoneUpTo, shown_until}
use Rattle.session_group.specs.Recovery.IsWaitedFor.{waited_from, waited_on}
use Rattle.session_group.specs.Runs.{Listener, IsGroupRun, Member, GroupMoment, Happened}
use Rattle.session_group.specs.Runs.{answer_then}
use Rattle.session_group.specs.Runs.{caller_then, group_then, is_current}
use Rattle.session_group.proofs.Stepping.{Agrees, at_new, at_other}
use Rattle.session_group.proofs.Agreeing.{Step, after_so, agrees, agrees_next}
use Rattle.session_group.proofs.Stepping.{at_self, then_of}
use Rattle.session_group.proofs.Agreeing.{ignored_members, step}
use Rattle.session_group.proofs.Agreeing.Step.{ignored, moved}
use Rattle.session_group.proofs.Heard.{Moves}
use Rattle.session_group.proofs.Placed.{yes}

clash : (b : Bool) → b ≡ true → b ≡ false → ⊥
clash b p q = grind arith

-- where a group is: it hasn't started member i yet, or it has
pub data Place {D : Type 0} (i within start p : ℕ) (g : Group) (c : Listener D) (n : ℕ) :
    Type 0 where
  not_yet :
      g.runs ≤ i → n ≤ start + g.runs * p → g.due ≤ start + g.runs * p
      → Place i within start p g c n
  asked :
      i < g.runs → (c.members i).began ≤ start + i * p → n ≤ start + i * p + within
      → Place i within start p g c n

-- ---- products

pub more : (r i p : ℕ) → r ≤ i → r * p ≤ i * p
more r i p q = grind arith

once_more : (r p : ℕ) → (r + 1) * p ≡ r * p + p
once_more r p = grind arith

-- ---- no member is current

module _ {D : Type 0} (wanted : ℕ) (s : Settings) (g : Group) (c : Listener D) (i : ℕ)
    (a : Agrees wanted s g c) (w : i < wanted) (none : NoneUpTo i c) (q : g.runs ≤ i) where
  pub some_run : 1 ≤ g.runs
  some_run = a.least (pos i wanted g.count w a.count)
    where
      pos : (i w k : ℕ) → i < w → k ≡ w → 1 ≤ k
      pos i w k p q = omega arith

  top : (r : ℕ) → 1 ≤ r → r - 1 + 1 ≡ r
  top r p = omega arith

  pub idle : g.current ≡ false
  idle =
      sym (a.current (g.runs - 1) (top g.runs some_run))
      ∙ none (g.runs - 1) (below g.runs i q)
    where
      below : (r i : ℕ) → r ≤ i → r - 1 ≤ i
      below r i p = omega arith

  pub has_room : g.runs < g.count
  has_room = room g.runs i wanted g.count q w a.count
    where
      room : (r i w k : ℕ) → r ≤ i → i < w → k ≡ w → r < k
      room r i w k p q s = omega arith

  pub wakes_then : group_wakes g ≡ g.due
  wakes_then = rw idle (rw (yes g.runs (min g.count 16)
      (within_16 g.runs g.count wanted has_room a.count a.few)) refl)
    where
      within_16 : (r k w : ℕ) → r < k → k ≡ w → w ≤ 16 → r < min k 16
      within_16 r k w p q s = omega arith

  pub due_then : g.due ≡ (c.members (g.runs - 1)).began + s.patience
  due_then = a.due (g.runs - 1) has_room idle (top g.runs some_run)

-- members are stopped by a whole answer alone
pub not_stopped :
    {D : Type 0} (wanted : ℕ) (s : Settings) (g : Group) (c : Listener D) (n : ℕ)
    (h : Happened D) (i : ℕ) → Agrees wanted s g c
    → NoneUpTo i (caller_then c n h (answer_then g n h)) → (m : ℕ) → m < g.runs
    → ((j : ℕ) → j ≢ m → then_of c n h j ≡ c.members j)
    → Moves c.events n g (group_then g n h) m (c.members m) (then_of c n h m)
    → (group_then g n h).runs ≤ i → (group_then g n h).runs < g.runs → ⊥
not_stopped {D = D} wanted s g c n h i a none m low other v q r =
    clash (is_current ((caller_then c n h (answer_then g n h)).members m))
    (ap (λ (z : Member D). is_current z)
    (after_so g c n h m
    ∙ at_self wanted s n g (group_then g n h) c m (then_of c n h) a low other v)
    ∙ v.shrinks r)
    (none m (up_to m (group_then g n h).runs i v.up q))
  where
    up_to : (m r i : ℕ) → m < r → r ≤ i → m ≤ i
    up_to m r i p q = omega arith

-- ---- a step

module _ {D : Type 0} (wanted : ℕ) (s : Settings) (g : Group) (c : Listener D) (n n' : ℕ)
    (h : Happened D) (i within start : ℕ)
    (a : Agrees wanted s g c) (w : i < wanted) (none : NoneUpTo i c)
    (place : Place i within start s.patience g c n)
    (soon : n' ≤ max n (group_wakes g))
    (kept : (c.members i).runs ≡ true → n' ≤ max (c.members i).began start + within)
    (none' : NoneUpTo i (caller_then c n' h (answer_then g n' h))) where
  abbrev P : ℕ
  P = s.patience

  abbrev g' : Group
  g' = group_then g n' h

  abbrev c' : Listener D
  c' = caller_then c n' h (answer_then g n' h)

  a' : Agrees wanted s (group_then g n' h) (caller_then c n' h (answer_then g n' h))
  a' = agrees_next wanted s g c n' h a

  -- the time, if member i wasn't started before
  in_time : g.runs ≤ i → n ≤ start + g.runs * s.patience → g.due ≤ start + g.runs * s.patience
      → n' ≤ start + g.runs * s.patience
  in_time q t u =
      bound n n' (group_wakes g) g.due (start + g.runs * s.patience) soon
      (wakes_then wanted s g c i a w none q) t u
    where
      bound : (n n' w d b : ℕ) → n' ≤ max n w → w ≡ d → n ≤ b → d ≤ b → n' ≤ b
      bound n n' w d b p e q r = grind arith

  -- and if it was
  kept_time : i < g.runs → (c.members i).began ≤ start + i * s.patience
      → n' ≤ start + i * s.patience + within
  kept_time q t =
      bound n' (c.members i).began start (i * s.patience) within (kept (a.runs i q)) t
    where
      bound : (n b s x w : ℕ) → n ≤ max b s + w → b ≤ s + x → n ≤ s + x + w
      bound n b s x w p q = grind arith

  le_add : (a b : ℕ) → a ≤ a + b
  le_add a b = omega arith

  trans : (a b c : ℕ) → a ≤ b → b ≤ c → a ≤ c
  trans a b c p q = omega arith

  ignored_place : group_then g n' h ≡ g → ((j : ℕ) → then_of c n' h j ≡ c.members j)
      → Place i within start s.patience g c n
      → Place i within start s.patience (group_then g n' h)
      (caller_then c n' h (answer_then g n' h)) n'
  ignored_place e f (not_yet q t u) =
      subst (λ (z : Group). Place i within start s.patience z c' n') (sym e)
      (not_yet q (in_time q t u) u)
  ignored_place e f (asked q t u) =
      subst (λ (z : Group). Place i within start s.patience z c' n') (sym e)
      (asked q (subst (λ (x : Member D). x.began ≤ start + i * s.patience)
      (sym (ignored_members g c n' h i e (f i))) t) (kept_time q t))

  module _ (m : ℕ) (low : m < g.runs)
      (other : (j : ℕ) → j ≢ m → then_of c n' h j ≡ c.members j)
      (v : Moves c.events n' g (group_then g n' h) m (c.members m) (then_of c n' h m)) where
    stopped : (group_then g n' h).runs ≤ i → (group_then g n' h).runs < g.runs → ⊥
    stopped q r = not_stopped wanted s g c n' h i a none' m low other v q r

    member_other : (i < (group_then g n' h).runs) → i < g.runs → (i ≡ m) ⊎ (i ≢ m)
        → (c'.members i).began ≡ (c.members i).began
    member_other p q (inl r) =
        ap (λ (j : ℕ). (c'.members j).began) r
        ∙ ap (λ (z : Member D). z.began) (after_so g c n' h m
        ∙ at_self wanted s n' g (group_then g n' h) c m (then_of c n' h) a low other v)
        ∙ v.began ∙ ap (λ (j : ℕ). (c.members j).began) (sym r)
    member_other p q (inr r) =
        ap (λ (z : Member D). z.began) (after_so g c n' h i
        ∙ at_other wanted s n' g (group_then g n' h) c m (then_of c n' h) a low other v i p q r)

    new_began : g.runs < (group_then g n' h).runs → i ≡ g.runs → (c'.members i).began ≡ n'
    new_began p q =
        ap (λ (z : Member D). z.began) (after_so g c n' h i
        ∙ at_new wanted s n' g (group_then g n' h) c m (then_of c n' h) a low other v i p q)

    moved_place : Place i within start s.patience g c n
        → (i < (group_then g n' h).runs) ⊎ ((group_then g n' h).runs ≤ i)
        → (g.runs < (group_then g n' h).runs) ⊎ ((group_then g n' h).runs ≤ g.runs)
        → ((group_then g n' h).runs < g.runs) ⊎ (g.runs ≤ (group_then g n' h).runs)
        → Place i within start s.patience (group_then g n' h)
        (caller_then c n' h (answer_then g n' h)) n'
    moved_place (asked q t u) (inl p) r z =
        asked p (subst (λ b. b ≤ start + i * s.patience)
        (sym (member_other p q (cases_eq i m))) t) (kept_time q t)
    moved_place (asked q t u) (inr p) r z =
        absurd (stopped p (fewer i g.runs (group_then g n' h).runs q p))
      where
        fewer : (i r r' : ℕ) → i < r → r' ≤ i → r' < r
        fewer i r r' p q = omega arith
    moved_place (not_yet q t u) (inl p) (inr r) z =
        absurd (none_such i g.runs (group_then g n' h).runs q p r)
      where
        none_such : (i r r' : ℕ) → r ≤ i → i < r' → r' ≤ r → ⊥
        none_such i r r' p q s = omega arith
    moved_place (not_yet q t u) (inl p) (inl r) z =
        asked p (subst (λ b. b ≤ start + i * s.patience) (sym (new_began r same)) time)
        (trans n' (start + i * s.patience) (start + i * s.patience + within) time
        (le_add (start + i * s.patience) within))
      where
        same_one : (i r r' : ℕ) → r ≤ i → i < r' → r' ≤ r + 1 → i ≡ r
        same_one i r r' p q s = omega arith

        same : i ≡ g.runs
        same = same_one i g.runs (group_then g n' h).runs q p v.near

        time : n' ≤ start + i * s.patience
        time = subst (λ j. n' ≤ start + j * s.patience) (sym same) (in_time q t u)
    moved_place (not_yet q t u) (inr p) (inl r) z =
        not_yet p (subst (λ j. n' ≤ start + j * s.patience) (sym grown)
        (subst (λ x. n' ≤ start + x) (sym (once_more g.runs s.patience))
        (later n' start (g.runs * s.patience) s.patience (in_time q t u))))
        (subst (λ j. (group_then g n' h).due ≤ start + j * s.patience) (sym grown)
        (subst (λ x. (group_then g n' h).due ≤ start + x) (sym (once_more g.runs s.patience))
        (due_later (group_then g n' h).due n' start (g.runs * s.patience) s.patience
        (v.new_due r ∙ ap (λ (x : Settings). n' + x.patience) a.settings) (in_time q t u))))
      where
        one_more : (r r' : ℕ) → r < r' → r' ≤ r + 1 → r' ≡ r + 1
        one_more r r' p q = omega arith

        grown : (group_then g n' h).runs ≡ g.runs + 1
        grown = one_more g.runs (group_then g n' h).runs r v.near

        later : (n s x p : ℕ) → n ≤ s + x → n ≤ s + (x + p)
        later n s x p q = omega arith

        due_later : (d n s x p : ℕ) → d ≡ n + p → n ≤ s + x → d ≤ s + (x + p)
        due_later d n s x p e q = omega arith
    moved_place (not_yet q t u) (inr p) (inr r) (inl z) = absurd (stopped p z)
    moved_place (not_yet q t u) (inr p) (inr r) (inr z) =
        not_yet p (subst (λ j. n' ≤ start + j * s.patience) (sym same) (in_time q t u))
        (subst (λ j. (group_then g n' h).due ≤ start + j * s.patience) (sym same)
        (subst (λ d. d ≤ start + g.runs * s.patience) (sym same_due) u))
      where
        equal : (r r' : ℕ) → r' ≤ r → r ≤ r' → r' ≡ r
        equal r r' p q = omega arith

        same : (group_then g n' h).runs ≡ g.runs
        same = equal g.runs (group_then g n' h).runs r z

        same_due : (group_then g n' h).due ≡ g.due
        same_due =
            (v.due r (has_room wanted s (group_then g n' h) c' i a' w none' p)
            (idle wanted s (group_then g n' h) c' i a' w none' p)).1.0

  pub place_next : Place i within start s.patience (group_then g n' h)
      (caller_then c n' h (answer_then g n' h)) n'
  place_next = go (step wanted s g c n' h a)
    where
      go : Step g c n' h → Place i within start s.patience (group_then g n' h)
          (caller_then c n' h (answer_then g n' h)) n'
      go (ignored e f far) = ignored_place e f place
      go (moved m low other v news keep) =
          moved_place m low other v place (cases_lt i (group_then g n' h).runs)
          (cases_lt g.runs (group_then g n' h).runs) (cases_lt (group_then g n' h).runs g.runs)

-- ---- all steps

record Waited {D : Type 0} (wanted : ℕ) (s : Settings) (i within start : ℕ) (g : Group)
    (c : Listener D) (n : ℕ) : Type 0 where
  agree : Agrees wanted s g c
  none : NoneUpTo i c
  place : Place i within start s.patience g c n

pub place_first :
    {D : Type 0} (wanted : ℕ) (s : Settings) (i within start : ℕ) (g : Group) (c : Listener D)
    → Agrees wanted s g c → i < wanted → NoneUpTo i c
    → ((j : ℕ) → (c.members j).began ≤ start) → Place i within start s.patience g c start
place_first {D = D} wanted s i within start g c a w none b = go (cases_lt i g.runs)
  where
    le_add : (a b : ℕ) → a ≤ a + b
    le_add a b = omega arith

    le_two : (a b c : ℕ) → a ≤ a + b + c
    le_two a b c = omega arith

    trans : (a b c : ℕ) → a ≤ b → b ≤ c → a ≤ c
    trans a b c p q = omega arith

    one : (p : ℕ) → 1 * p ≡ p
    one p = grind arith

    due_by : (d b p s x : ℕ) → d ≡ b + p → b ≤ s → p ≤ x → d ≤ s + x
    due_by d b p s x e q r = omega arith

    go : (i < g.runs) ⊎ (g.runs ≤ i) → Place i within start s.patience g c start
    go (inl p) =
        asked p (trans (c.members i).began start (start + i * s.patience) (b i)
        (le_add start (i * s.patience))) (le_two start (i * s.patience) within)
    go (inr p) =
        not_yet p (le_add start (g.runs * s.patience))
        (due_by g.due (c.members (g.runs - 1)).began s.patience start (g.runs * s.patience)
        (due_then wanted s g c i a w none p) (b (g.runs - 1))
        (subst (λ x. x ≤ g.runs * s.patience) (one s.patience)
        (more 1 g.runs s.patience (some_run wanted s g c i a w none p))))

waited :
    {D : Type 0} (wanted : ℕ) (s : Settings) (i within start : ℕ) (g₀ : Group) (c₀ : Listener D)
    (g : Group) (c : Listener D) (n : ℕ)
    → Agrees wanted s g₀ c₀ → i < wanted → ((j : ℕ) → (c₀.members j).began ≤ start)
    → IsWaitedFor i within start g₀ c₀ g c n → Waited wanted s i within start g c n
waited wanted s i within start g₀ c₀ g c n a w b (waited_from none) = record {
  agree = a;
  none = none;
  place = place_first wanted s i within start g₀ c₀ a w none b;
}
waited wanted s i within start g₀ c₀ g c n a w b (waited_on n₁ n' h g₁ c₁ x up soon kept none) =
    let z : Waited wanted s i within start g₁ c₁ n₁ =
    waited wanted s i within start g₀ c₀ g₁ c₁ n₁ a w b x in
    record {
      agree = agrees_next wanted s g₁ c₁ n' h z.agree;
      none = none;
      place =
          place_next wanted s g₁ c₁ n₁ n' h i within start z.agree w z.none z.place soon kept none;
    }

pub recovers :
    {D : Type 0} (wanted : ℕ) (s : Settings) (ms : List (GroupMoment D)) (g₀ : Group)
    (c₀ : Listener D) (i within start : ℕ) (g : Group) (c : Listener D) (n : ℕ)
    → IsGroupRun wanted s ms g₀ c₀ → i < wanted → ((j : ℕ) → (c₀.members j).began ≤ start)
    → IsWaitedFor i within start g₀ c₀ g c n → n ≤ shown_until c₀ i within start
recovers {D = D} wanted s ms g₀ c₀ i within start g c n run w b x =
    subst (λ (z : Settings). n ≤ start + i * z.patience + within) (sym a.caller)
    (go (waited wanted s i within start g₀ c₀ g c n a w b x).place)
  where
    a : Agrees wanted s g₀ c₀
    a = agrees wanted s ms g₀ c₀ run

    wider : (n s x y w : ℕ) → n ≤ s + x → x ≤ y → n ≤ s + y + w
    wider n s x y w p q = omega arith

    go : Place i within start s.patience g c n → n ≤ start + i * s.patience + within
    go (asked q t u) = u
    go (not_yet q t u) =
        wider n start (g.runs * s.patience) (i * s.patience) within t
        (more g.runs i s.patience q)
