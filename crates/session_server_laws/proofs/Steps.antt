-- What `next` says, and what a cache's machine answers, where an answer may begin.
use Rattle.std.proofs.Common.{◌≡◌, ◌≢◌, ℕ, Bool, true, false, ◌&&◌, ◌==◌, List, [], ◌∷◌, ◌++◌}
use Rattle.std.proofs.Common.{length, nat_lt, nat_le, if◌then◌else◌, refl, sym, ap, ◌∙◌, Option}
use Rattle.std.proofs.Common.{Some, None, arith}
use Rattle.std.proofs.lemmas.Bool.Decides.{nat_tests}
use Rattle.session_router.specs.declared.head.Fault.{Fault}
use Rattle.session_router.specs.declared.head.Head.{Head}
use Rattle.session_cache.specs.CacheRules.{CacheRule}
use Rattle.session_cache.specs.CacheSteps.{cache_wakes_at}
use Rattle.session_cache.specs.declared.cache.Cache.{Cache}
use Rattle.session_cache.specs.declared.event.Answer.{Answer}
use Rattle.session_cache.specs.declared.event.Answer.TheVariants as answers
use Rattle.session_cache.specs.declared.event.CacheEvent.TheVariants as events
use Rattle.session_cache.specs.declared.event.Present.{Present}
use Rattle.session_bytes.specs.Sending.{AreWhole}
use Rattle.session_laws.specs.Pipes.{Bytes}
use Rattle.session_server.specs.declared.connection.Connection.{Connection}
use Rattle.session_server.specs.declared.connection.Cut.{Cut}
use Rattle.session_server.specs.declared.connection.Cut.TheVariants as cuts
use Rattle.session_server.specs.declared.connection.Next.{Next}
use Rattle.session_server.specs.declared.connection.Next.TheVariants as nexts
use Rattle.session_server.specs.declared.connection.Phase.{Phase}
use Rattle.session_server.specs.declared.connection.Phase.TheVariants as phases
use Rattle.session_server.specs.Paces.{cut_at, due_at, is_free, is_serving, next_at, next_in}
use Rattle.session_server.specs.Paces.{sending_at, tell_at}
use Rattle.session_server_laws.specs.Talks.{IsAnswerTo}

-- ---- lists

pub empty : (l : Bytes) → length l ≡ 0 → l ≡ []
empty [] e = refl
empty (x ∷ xs) e = absurd (omega (arith, e))

pub front_empty : (a b : Bytes) → [] ≡ a ++ b → a ≡ []
front_empty [] b e = refl
front_empty (x ∷ xs) b e = absurd cc

pub back_empty : (a b : Bytes) → [] ≡ a ++ b → b ≡ []
back_empty [] b e = sym e
back_empty (x ∷ xs) b e = absurd cc

pub some_is : {u v : Bytes} → Some u ≡ Some v → u ≡ v
some_is e = cc

pub whole_append : (us vs : List Bytes) → AreWhole us → AreWhole vs → AreWhole (us ++ vs)
whole_append [] vs p q = q
whole_append (u ∷ us) vs p q = (p.0, whole_append us vs p.1 q)

-- ---- what `next` says

abbrev pub tells_now : Next → Bool
tells_now nexts.Hear = true
tells_now nexts.Tick = true
tells_now nexts.Lose = true
tells_now _ = false

pub sending_tells : (o : Option Cut) → tells_now (sending_at o) ≡ false
sending_tells (Some cut) = refl
sending_tells None = refl

pub finish_tells :
    (t u c : Bool)
    → tells_now (if t then nexts.Close None
    else if u then nexts.Send
    else if c then nexts.Close None
    else nexts.Finish) ≡ false
finish_tells true u c = refl
finish_tells false true c = refl
finish_tells false false true = refl
finish_tells false false false = refl

pub open_free :
    (u : Bool) (unsent : ℕ) (o : Option Cut) (x : Next) → nat_lt 0 unsent ≡ u
    → tells_now (if u then sending_at o else x) ≡ true → (unsent == 0) ≡ true
open_free true unsent o x p e = let f = sending_tells o in absurd cc
open_free false unsent o x p e = grind (arith, nat_tests)

pub free_of :
    (ph : Phase) (k : Connection) (n number : ℕ) (c : Cache) (p : Present)
    → tells_now (next_in ph k n c p number) ≡ true → (is_serving ph && (k.unsent == 0)) ≡ true
free_of phases.Open k n number c p e = open_free (nat_lt 0 k.unsent) k.unsent
    (cut_at k n c p number) (tell_at k n (cache_wakes_at c p)) refl e
free_of phases.Ending k n number c p e =
    let f = finish_tells (nat_le k.until n) (nat_lt 0 k.unsent) k.closed in absurd cc
free_of phases.Over k n number c p e = absurd cc

-- what is told is told where an answer may begin
pub told_free :
    (k : Connection) (n number : ℕ) (c : Cache) (p : Present) (r : Next) → tells_now r ≡ true
    → next_at k n c p number ≡ r → is_free k ≡ true
told_free k n number c p r t e = free_of k.phase k n number c p (ap tells_now e ∙ t)

pub free_open : (o : Bool) (unsent : ℕ) → (o && (unsent == 0)) ≡ true → o ≡ true
free_open true unsent p = refl
free_open false unsent p = absurd cc

pub free_sent : (o : Bool) (unsent : ℕ) → (o && (unsent == 0)) ≡ true → unsent ≡ 0
free_sent true unsent p = grind (arith, nat_tests)
free_sent false unsent p = absurd cc

pub none_over : (unsent : ℕ) → (unsent == 0) ≡ true → nat_lt 0 unsent ≡ false
none_over unsent p = grind (arith, nat_tests)

pub hears_not :
    (u f : Bool) (x y : Next) → u ≡ false
    → (if u then x else if f then nexts.Hear else y) ≢ nexts.Hear → f ≡ false
hears_not true f x y p e = absurd cc
hears_not false true x y p e = absurd (e refl)
hears_not false false x y p e = refl

pub all_heard :
    (ph : Phase) (k : Connection) (n number : ℕ) (c : Cache) (p : Present)
    → (is_serving ph && (k.unsent == 0)) ≡ true
    → next_in ph k n c p number ≢ nexts.Hear → k.fresh ≡ false
all_heard phases.Open k n number c p f e = hears_not (nat_lt 0 k.unsent) k.fresh
    (sending_at (cut_at k n c p number))
    (if k.closed then nexts.Lose
    else if nat_le (cache_wakes_at c p) n then nexts.Tick
    else if nat_le (due_at k) n then nexts.Close (Some cuts.Slow)
    else nexts.Wait)
    (none_over k.unsent f) e
all_heard phases.Ending k n number c p f e = absurd cc
all_heard phases.Over k n number c p f e = absurd cc

-- ---- what the machine answers

-- at a unit: an answer to this query, or the end
abbrev pub AfterUnit : Head → Present → Answer → Cache → Type 0
AfterUnit u p answers.Wait c = ⊥
AfterUnit u p (answers.End x) c = Unit {0}
AfterUnit u p a c = IsAnswerTo u p a × (c.version ≡ u.version) × (c.live ≡ true)

pub after_unit :
    (c : Cache) (n : ℕ) (p : Present) (u : Head) (kept : Bool) (a : Answer) (c' : Cache)
    → c.live ≡ true → CacheRule c n p (events.Came u kept) a c' → AfterUnit u p a c'
after_unit c n p u kept answers.Wait c' live x = let m = x.may in absurd cc
after_unit c n p u kept answers.All c' live x = (
  (x.1.query.kind, x.1.query.has),
  ap (λ (d : Cache). d.version) x.1.after,
  ap (λ (d : Cache). d.live) x.1.after ∙ live,
)
after_unit c n p u kept (answers.Changes since) c' live x = (
  (x.1.query.kind, x.1.query.has, x.1.known.session, x.1.since_is),
  ap (λ (d : Cache). d.version) x.1.after,
  ap (λ (d : Cache). d.live) x.1.after ∙ live,
)
after_unit c n p u kept answers.Reset c' live x = (
  (x.1.query.kind, x.1.query.has),
  ap (λ (d : Cache). d.version) x.1.after,
  ap (λ (d : Cache). d.live) x.1.after ∙ live,
)
after_unit c n p u kept answers.NoData c' live x = (
  (x.1.kind, x.1.has),
  ap (λ (d : Cache). d.version) x.1.after,
  ap (λ (d : Cache). d.live) x.1.after ∙ live,
)
after_unit c n p u kept answers.Notify c' live x = absurd x
after_unit c n p u kept (answers.End y) c' live x = tt

-- at time: nothing, a notify, or the end
abbrev pub AfterTime : Cache → Answer → Cache → Type 0
AfterTime c answers.Wait c' = c' ≡ c
AfterTime c answers.Notify c' = c'.live ≡ true
AfterTime c (answers.End x) c' = Unit {0}
AfterTime c _ c' = ⊥

pub after_tick :
    (c : Cache) (n : ℕ) (p : Present) (a : Answer) (c' : Cache)
    → c.live ≡ true → CacheRule c n p events.Tick a c' → AfterTime c a c'
after_tick c n p answers.Wait c' live x = x.after
after_tick c n p answers.All c' live x = absurd x
after_tick c n p (answers.Changes since) c' live x = absurd x
after_tick c n p answers.Reset c' live x = absurd x
after_tick c n p answers.NoData c' live x = absurd x
after_tick c n p answers.Notify c' live x = ap (λ (d : Cache). d.live) x.1.after ∙ live
after_tick c n p (answers.End y) c' live x = tt

-- at all else: the end
abbrev pub Ends : Answer → Type 0
Ends (answers.End x) = Unit {0}
Ends _ = ⊥

pub after_lost :
    (c : Cache) (n : ℕ) (p : Present) (a : Answer) (c' : Cache)
    → c.live ≡ true → CacheRule c n p events.Lost a c' → Ends a
after_lost c n p answers.Wait c' live x = let m = x.may in absurd cc
after_lost c n p answers.All c' live x = absurd x
after_lost c n p (answers.Changes since) c' live x = absurd x
after_lost c n p answers.Reset c' live x = absurd x
after_lost c n p answers.NoData c' live x = absurd x
after_lost c n p answers.Notify c' live x = absurd x
after_lost c n p (answers.End y) c' live x = tt

pub after_full :
    (c : Cache) (n : ℕ) (p : Present) (a : Answer) (c' : Cache)
    → c.live ≡ true → CacheRule c n p events.Full a c' → Ends a
after_full c n p answers.Wait c' live x = let m = x.may in absurd cc
after_full c n p answers.All c' live x = absurd x
after_full c n p (answers.Changes since) c' live x = absurd x
after_full c n p answers.Reset c' live x = absurd x
after_full c n p answers.NoData c' live x = absurd x
after_full c n p answers.Notify c' live x = absurd x
after_full c n p (answers.End y) c' live x = tt

pub after_fault :
    (c : Cache) (n : ℕ) (p : Present) (f : Fault) (a : Answer) (c' : Cache)
    → c.live ≡ true → CacheRule c n p (events.Faulty f) a c' → Ends a
after_fault c n p f answers.Wait c' live x = let m = x.may in absurd cc
after_fault c n p f answers.All c' live x = absurd x
after_fault c n p f (answers.Changes since) c' live x = absurd x
after_fault c n p f answers.Reset c' live x = absurd x
after_fault c n p f answers.NoData c' live x = absurd x
after_fault c n p f answers.Notify c' live x = absurd x
after_fault c n p f (answers.End y) c' live x = tt
