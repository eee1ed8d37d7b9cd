-- What is known of items that are taken one after the other.
use Rattle.std.proofs.Common.{◌≡◌, ℕ, Bool, true, false, List, [], ◌∷◌, ◌++◌}
use Rattle.std.proofs.Common.{Option, Some, None, Result, Ok, Err, MatchResult, refl, sym, ap}
use Rattle.std.proofs.Common.{subst, ◌∙◌, append_assoc, arith, length, min, ◌^◌, ◌-◌, ◌+◌, ◌<◌}
use Rattle.std.proofs.Common.{◌≤◌, filter, if◌then◌else◌, not, take, get_or}
use Rattle.std.specs.Option.{is_some}
use Rattle.std.proofs.lemmas.List.{append-nil, take_all, take_more}
use Rattle.rtr_payload.specs.Payloads.{Payload}
use Rattle.rtr_payload.specs.declared.payload.Payload.{Payload as Added}
use Rattle.data_slurm.specs.Entries.{assertions_of, with_assertion}
use Rattle.data_slurm.specs.Filters.{removes}
use Rattle.data_slurm.specs.declared.entry.Entry.{Entry}
use Rattle.data_slurm.specs.declared.entry.Entry.TheVariants.{Assertion, KeyFilter, PrefixFilter}
use Rattle.data_memory.specs.Contents.{AreFit}
use Rattle.data_memory.specs.Sequences.{IsInRange}
use Rattle.make_work.specs.Expiries.{LeavesAsked}
use Rattle.make_work.specs.Gathering.{NamesFirst, item_payload, lacked, refusal_after}
use Rattle.make_work.specs.PrivateAdding.{AddsPayload, is_memory, with_payload}
use Rattle.make_work.specs.PrivateExpiring.{AreNewTimes, LeavesAfter, LooksAtTime, left_after}
use Rattle.make_work.specs.PrivateTaking.{EndsGathering, GathersOne}
use Rattle.make_work.specs.Taking.{AddsAsserted, AreAsserted, EndsTaking, GathersLeft, HasTaken}
use Rattle.make_work.specs.Taking.{HoldsLeft, IsFor, KeepsItems, TakesItems, entries_asked}
use Rattle.make_work.specs.Taking.{is_unfiltered, kept_items}
use Rattle.make_work.specs.Taking.{answer_by, times_answer, expired_at}
use Rattle.make_work.specs.declared.expiring.Expired.{Expired}
use Rattle.make_work.specs.declared.expiring.Times.{Times}
use Rattle.make_work.specs.declared.gathering.Gathered.{Gathered}
use Rattle.make_work.specs.declared.gathering.Gathering.{Gathering}
use Rattle.make_work.specs.declared.gathering.Left.{Left}
use Rattle.make_work.specs.declared.item.Expiry.TheVariants.{Never}
use Rattle.make_work.specs.declared.item.Item.{Item}
use Rattle.make_work.specs.declared.item.Reason.{Reason}
use Rattle.make_work.specs.declared.item.Reason.TheVariants.{Memory}
use Rattle.make_work.specs.declared.item.Refusal.{Refusal}
use Rattle.make_work.proofs.SoFar.{adds, before, ends, ends_refused, refuses, starts}

pub keeps_none : (g : Gathering) → KeepsItems [] g g
keeps_none g = record {
  settings = record { version = refl; leaves = refl; time = refl };
  slurm = refl;
  taken = λ before h. subst (λ l. HasTaken l g) (sym (append-nil before)) h;
}

pub for_after : (v : ℕ) (leaves_out : Bool) (asked : Option ℕ) (old new : Gathering) →
    IsFor v leaves_out asked old → IsFor old.version old.leaves_out old.times.asked new →
    IsFor v leaves_out asked new
for_after v leaves_out asked old new a b = record {
  version = b.version ∙ a.version;
  leaves = b.leaves ∙ a.leaves;
  time = b.time ∙ a.time;
}

-- first these, and then those
pub keeps_both : (xs ys : List Item) (old mid new : Gathering) → KeepsItems xs old mid →
    KeepsItems ys mid new → KeepsItems (xs ++ ys) old new
keeps_both xs ys old mid new a b = record {
  slurm = b.slurm ∙ a.slurm;
  settings = for_after old.version old.leaves_out old.times.asked mid new a.settings b.settings;
  taken = λ before h. subst (λ l. HasTaken l new) (append_assoc before xs ys)
      (b.taken (before ++ xs) (a.taken before h));
}

-- ---- one item more

module _ (x : Item) (stays : Bool) (before : List Item) (old new : Gathering)
    (look : LooksAtTime x stays old.times new.times)
    (held : (left : List Item) →
    HoldsLeft old.version old.leaves_out left old.payloads old.refused →
    HoldsLeft new.version new.leaves_out (left_after stays x left) new.payloads new.refused)
    (h : HasTaken before old) where
  by_refused : (f : Option Refusal) → new.times.refused ≡ f → HasTaken (before ++ x ∷ []) new
  by_refused None e =
      let e' = expired_at new.times.asked new.times.left_out new.times.next in record {
        left = left_after stays x h.left;
        times = subst
            (λ o. LeavesAsked new.times.asked (before ++ x ∷ []) (left_after stays x h.left)
            (answer_by o e')) (sym e)
            (subst (λ o. LeavesAfter stays x before h.left new.times.asked (answer_by o e')) e
            (look.after before h.left h.times));
        held = λ k. held h.left (h.held (look.first k));
      }
  by_refused (Some r) e =
      let e' = expired_at new.times.asked new.times.left_out new.times.next in record {
        left = before ++ x ∷ [];
        times = subst
            (λ o. LeavesAsked new.times.asked (before ++ x ∷ []) (before ++ x ∷ [])
            (answer_by o e')) (sym e)
            (subst (λ o. LeavesAfter stays x before h.left new.times.asked (answer_by o e')) e
            (look.after before h.left h.times));
        held = λ k. absurd cc;
      }

  taken_next : HasTaken (before ++ x ∷ []) new
  taken_next = by_refused new.times.refused refl

-- an item that has expired
pub keeps_gone : (x : Item) (old : Gathering) (t : Times) → LooksAtTime x false old.times t →
    KeepsItems (x ∷ []) old (record {
      version = old.version;
      leaves_out = old.leaves_out;
      times = t;
      payloads = old.payloads;
      refused = old.refused;
      slurm = old.slurm;
    })
keeps_gone x old t look = record {
  settings = record { version = refl; leaves = refl; time = look.asked };
  slurm = refl;
  taken = λ before h. taken_next x false before old _ look (λ left k. k) h;
}

keeps_left : (x : Item) (old new : Gathering) (t : Times) → LooksAtTime x true old.times t →
    GathersOne x (record {
      version = old.version;
      leaves_out = old.leaves_out;
      times = t;
      payloads = old.payloads;
      refused = old.refused;
      slurm = old.slurm;
    }) new → KeepsItems (x ∷ []) old new
keeps_left x old new t look one = record {
  settings = record {
    version = one.version;
    leaves = one.leaves;
    time = ap (λ s. s.asked) one.times ∙ look.asked;
  };
  slurm = one.slurm;
  taken = λ before h.
      taken_next x true before old new (subst (LooksAtTime x true old.times) (sym one.times) look)
      (λ left k.
      subst (λ v. HoldsLeft v new.leaves_out (left ++ x ∷ []) new.payloads new.refused)
      (sym one.version)
      (subst (λ b. HoldsLeft old.version b (left ++ x ∷ []) new.payloads new.refused)
      (sym one.leaves) (one.held left k))) h;
}

-- one that stays, unless memory ran out
pub took : {T : Type 0} (r : Result T Reason) (x : Item) (old new : Gathering) (t : Times) →
    LooksAtTime x true old.times t →
    MatchResult r
    (λ _. GathersOne x (record {
      version = old.version;
      leaves_out = old.leaves_out;
      times = t;
      payloads = old.payloads;
      refused = old.refused;
      slurm = old.slurm;
    }) new) (λ why. why ≡ Memory) →
    MatchResult r (λ _. KeepsItems (x ∷ []) old new) (λ why. why ≡ Memory)
took (Ok u) x old new t look one = keeps_left x old new t look one
took (Err why) x old new t look e = e

-- ---- filters

one_both : (b : Bool) (x : Item) (l m ys : List Item) → l ≡ m ++ ys →
    (if b then x ∷ l else l) ≡ (if b then x ∷ m else m) ++ ys
one_both true x l m ys e = ap (λ k. x ∷ k) e
one_both false x l m ys e = e

filter_both : (test : Item → Bool) (xs ys : List Item) →
    filter test (xs ++ ys) ≡ filter test xs ++ filter test ys
filter_both test [] ys = refl
filter_both test (x ∷ xs) ys =
    one_both (test x) x (filter test (xs ++ ys)) (filter test xs) (filter test ys)
    (filter_both test xs ys)

pub takes_none : (g : Gathering) → TakesItems [] g g
takes_none g = record { kept = keeps_none g }

pub takes_both : (xs ys : List Item) (old mid new : Gathering) → TakesItems xs old mid →
    TakesItems ys mid new → TakesItems (xs ++ ys) old new
takes_both xs ys old mid new a b =
    let es = entries_asked old.slurm in
    let later = subst (λ o. KeepsItems (kept_items (entries_asked o) ys) mid new) a.kept.slurm
    b.kept in record {
      kept = subst (λ l. KeepsItems l old new) (sym (filter_both (is_unfiltered es) xs ys))
          (keeps_both (kept_items es xs) (kept_items es ys) old mid new a.kept later);
    }

module _ (x : Item) (old : Gathering) where
  -- a filter removes it
  pub takes_removed : removes (entries_asked old.slurm) (item_payload x) ≡ true →
      TakesItems (x ∷ []) old old
  takes_removed e = record {
    kept = subst (λ b. KeepsItems (if not b then x ∷ [] else []) old old) (sym e)
        (keeps_none old);
  }

  -- none does
  pub takes_kept : (new : Gathering) →
      removes (entries_asked old.slurm) (item_payload x) ≡ false →
      KeepsItems (x ∷ []) old new → TakesItems (x ∷ []) old new
  takes_kept new e k =
      record { kept = subst (λ b. KeepsItems (if not b then x ∷ [] else []) old new) (sym e) k }

pub took_kept : {T : Type 0} (r : Result T Reason) (x : Item) (old new : Gathering) →
    removes (entries_asked old.slurm) (item_payload x) ≡ false →
    MatchResult r (λ _. KeepsItems (x ∷ []) old new) (λ why. why ≡ Memory) →
    MatchResult r (λ _. TakesItems (x ∷ []) old new) (λ why. why ≡ Memory)
took_kept (Ok u) x old new e k = takes_kept x old new e k
took_kept (Err why) x old new e k = k

-- without filters all are taken
kept_all : (items : List Item) → kept_items [] items ≡ items
kept_all [] = refl
kept_all (x ∷ items) = ap (λ l. x ∷ l) (kept_all items)

pub takes_unfiltered : (items : List Item) (old new : Gathering) → old.slurm ≡ None →
    TakesItems items old new → HasTaken [] old → HasTaken items new
takes_unfiltered items old new none t h =
    subst (λ l. HasTaken l new)
    (ap (λ o. kept_items (entries_asked o) items) none ∙ kept_all items) (t.kept.taken [] h)

-- ---- assertions

pub asserts_none : (g : Gathering) → AddsAsserted [] g g
asserts_none g = record { items = []; are = tt; kept = keeps_none g }

asserted_both : (ps qs : List Added) (xs ys : List Item) → AreAsserted ps xs →
    AreAsserted qs ys → AreAsserted (ps ++ qs) (xs ++ ys)
asserted_both [] qs [] ys a b = b
asserted_both [] qs (x ∷ xs) ys a b = absurd a
asserted_both (p ∷ ps) qs [] ys a b = absurd a
asserted_both (p ∷ ps) qs (x ∷ xs) ys a b = (a.0, asserted_both ps qs xs ys a.1 b)

asserts_both : (ps qs : List Added) (old mid new : Gathering) → AddsAsserted ps old mid →
    AddsAsserted qs mid new → AddsAsserted (ps ++ qs) old new
asserts_both ps qs old mid new a b = record {
  items = a.items ++ b.items;
  are = asserted_both ps qs a.items b.items a.are b.are;
  kept = keeps_both a.items b.items old mid new a.kept b.kept;
}

pub asserts_one : (x : Item) (p : Added) (old new : Gathering) → x.payload ≡ p →
    x.expiry ≡ Never → KeepsItems (x ∷ []) old new → AddsAsserted (p ∷ []) old new
asserts_one x p old new is lasts k =
    record { items = x ∷ []; are = (record { payload = is; lasting = lasts }, tt); kept = k }

with_more : (e : Entry) (ps qs : List Added) →
    with_assertion e (ps ++ qs) ≡ with_assertion e ps ++ qs
with_more (Assertion p) ps qs = refl
with_more (PrefixFilter f) ps qs = refl
with_more (KeyFilter f) ps qs = refl

assertions_more : (es : List Entry) (e : Entry) →
    assertions_of (es ++ e ∷ []) ≡ assertions_of es ++ assertions_of (e ∷ [])
assertions_more [] e = refl
assertions_more (d ∷ es) e =
    ap (with_assertion d) (assertions_more es e)
    ∙ with_more d (assertions_of es) (assertions_of (e ∷ []))

-- those of the first i entries
abbrev pub AssertsFirst : List Entry → ℕ → Gathering → Gathering → Type 0
AssertsFirst es i old new = AddsAsserted (assertions_of (take i es)) old new

pub asserts_next : (es : List Entry) (i : ℕ) (e : Entry) (old mid new : Gathering) →
    i < length es → e ≡ get_or es i e → AssertsFirst es i old mid →
    AddsAsserted (assertions_of (e ∷ [])) mid new → AssertsFirst es (i + 1) old new
asserts_next es i e old mid new small is a b =
    subst (λ l. AddsAsserted (assertions_of l) old new) (sym (take_more es i e small))
    (subst (λ d. AddsAsserted (assertions_of (take i es ++ d ∷ [])) old new) is
    (subst (λ ps. AddsAsserted ps old new) (sym (assertions_more (take i es) e))
    (asserts_both (assertions_of (take i es)) (assertions_of (e ∷ [])) old mid new a b)))

pub asserts_all : (es : List Entry) (i : ℕ) (old new : Gathering) → length es ≤ i →
    AssertsFirst es i old new → AddsAsserted (assertions_of es) old new
asserts_all es i old new large a =
    subst (λ l. AddsAsserted (assertions_of l) old new) (take_all i es large) a

-- ---- gathering

held_refused : (v : ℕ) (leaves_out : Bool) (x : Item) (left : List Item) (d : List Payload)
    (f : Option Refusal) → is_some f ≡ true → HoldsLeft v leaves_out left d f →
    HoldsLeft v leaves_out (left ++ x ∷ []) d f
held_refused v leaves_out x left d None some h = absurd cc
held_refused v leaves_out x left d (Some r) some h = before v leaves_out x left d d r h

held_added : (v : ℕ) (leaves_out : Bool) (x : Item) (left : List Item) (d e : List Payload)
    (f : Option Refusal) → is_some f ≡ false → IsInRange (item_payload x) →
    refusal_after v leaves_out d (item_payload x) ≡ None → e ≡ with_payload (item_payload x) d →
    HoldsLeft v leaves_out left d f → HoldsLeft v leaves_out (left ++ x ∷ []) e f
held_added v leaves_out x left d e (Some r) none range fine made h = absurd cc
held_added v leaves_out x left d e None none range fine made h =
    adds v leaves_out x left d e range fine made h

held_none : (v : ℕ) (leaves_out : Bool) (x : Item) (left : List Item) (d e : List Payload)
    (f : Option Refusal) (r : Refusal) → is_some f ≡ false →
    r ≡ record { place = x.place; reason = r.reason } →
    refusal_after v leaves_out d (item_payload x) ≡ Some r.reason →
    HoldsLeft v leaves_out left d f → HoldsLeft v leaves_out (left ++ x ∷ []) e (Some r)
held_none v leaves_out x left d e (Some s) r none is why h = absurd cc
held_none v leaves_out x left d e None r none is why h =
    refuses v leaves_out x left d e r is why h

-- what isn't want of memory is a refusal
pub refusal_told : (v : ℕ) (leaves_out : Bool) (p : Payload) (d e : List Payload) (why : Reason) →
    is_memory why ≡ false → AddsPayload {T = Unit {0}} v leaves_out p (Err why) d e →
    refusal_after v leaves_out d p ≡ Some why
refusal_told v leaves_out p d e Memory other h = absurd cc
refusal_told v leaves_out p d e why other h = h

module _ (x : Item) (g : Gathering) where
  -- one was refused before
  pub gathers_none : is_some g.refused ≡ true → GathersOne x g g
  gathers_none some = record {
    version = refl;
    leaves = refl;
    times = refl;
    slurm = refl;
    held = λ left h. held_refused g.version g.leaves_out x left g.payloads g.refused some h;
  }

  -- the payload is added
  pub gathers_payload : (e : List Payload) → is_some g.refused ≡ false →
      IsInRange (item_payload x) →
      refusal_after g.version g.leaves_out g.payloads (item_payload x) ≡ None →
      e ≡ with_payload (item_payload x) g.payloads →
      GathersOne x g (record {
        version = g.version;
        leaves_out = g.leaves_out;
        times = g.times;
        payloads = e;
        refused = g.refused;
        slurm = g.slurm;
      })
  gathers_payload e none range fine made = record {
    version = refl;
    leaves = refl;
    times = refl;
    slurm = refl;
    held = λ left h. held_added g.version g.leaves_out x left g.payloads e g.refused none range
        fine made h;
  }

  -- the item is refused
  pub gathers_refusal : (e : List Payload) (r : Refusal) → is_some g.refused ≡ false →
      r ≡ record { place = x.place; reason = r.reason } →
      refusal_after g.version g.leaves_out g.payloads (item_payload x) ≡ Some r.reason →
      GathersOne x g (record {
        version = g.version;
        leaves_out = g.leaves_out;
        times = g.times;
        payloads = e;
        refused = Some r;
        slurm = g.slurm;
      })
  gathers_refusal e r none is why = record {
    version = refl;
    leaves = refl;
    times = refl;
    slurm = refl;
    held = λ left h. held_none g.version g.leaves_out x left g.payloads e g.refused r none is
        why h;
  }

-- ---- the start

start_times : (a : Option ℕ) (n : ℕ) (o : Option ℕ) (f : Option Refusal) → n ≡ 0 → o ≡ None →
    f ≡ None → LeavesAsked a [] [] (answer_by f (expired_at a n o))
start_times a n o (Some r) e k h = absurd cc
start_times None n o None e k h = refl
start_times (Some now) n (Some t) None e k h = absurd cc
start_times (Some now) n None None e k h = record {
  clear = refl;
  left = refl;
  gone = omega (arith, e);
  next = refl;
}

start_held : (v : ℕ) (leaves_out : Bool) (d : List Payload) (f : Option Refusal) → d ≡ [] →
    f ≡ None → HoldsLeft v leaves_out [] d f
start_held v leaves_out d (Some r) e h = absurd cc
start_held v leaves_out d None e h =
    subst (λ l. HoldsLeft v leaves_out [] l None) (sym e) (starts v leaves_out)

-- nothing was taken
pub nothing_taken : (g : Gathering) (asked : Option ℕ) → AreNewTimes asked g.times →
    g.payloads ≡ [] → g.refused ≡ None → HasTaken [] g
nothing_taken g asked t e f = record {
  left = [];
  times = start_times g.times.asked g.times.left_out g.times.next g.times.refused t.none
      t.no_next t.not_refused;
  held = λ k. start_held g.version g.leaves_out g.payloads g.refused e f;
}

-- ---- the end

not_refused : (f : Option Refusal) (e x : Option Expired) → Ok e ≡ answer_by f x → f ≡ None
not_refused None e x h = refl
not_refused (Some r) e x h = absurd cc

-- what is left
pub finished : (g : Gathering) (e : Option Expired) (r : Result Gathered Refusal) →
    Ok e ≡ times_answer g.times → EndsGathering g.version g.payloads g.refused r →
    EndsTaking g (Ok (record { expired = e; gathered = r }))
finished g e r is ends items h = (
  h.left,
  subst (LeavesAsked g.times.asked items h.left) (sym is) h.times,
  ends g.leaves_out h.left (h.held (not_refused g.times.refused e _ is)),
)

pub finished_refused : (g : Gathering) (r : Refusal) → Err r ≡ times_answer g.times →
    EndsTaking g (Err r)
finished_refused g r is items h =
    (h.left, subst (LeavesAsked g.times.asked items h.left) (sym is) h.times)

pub left_for : (v : ℕ) (leaves_out : Bool) (asked : Option ℕ) (g : Gathering)
    (items : List Item) (r : Result Left Refusal) → IsFor v leaves_out asked g →
    GathersLeft g.version g.leaves_out g.times.asked items r →
    GathersLeft v leaves_out asked items r
left_for v leaves_out asked g items r f h =
    subst (λ n. GathersLeft n leaves_out asked items r) f.version
    (subst (λ b. GathersLeft g.version b asked items r) f.leaves
    (subst (λ o. GathersLeft g.version g.leaves_out o items r) f.time h))

-- ---- what is made of what was gathered

-- it was refused before
pub all_refused : (v : ℕ) (d : List Payload) (f : Option Refusal) (r : Refusal) → f ≡ Some r →
    EndsGathering v d f (Err r)
all_refused v d None r e leaves_out left h = absurd cc
all_refused v d (Some s) r e leaves_out left h =
    let same : s ≡ r = cc e in
    subst (λ t. NamesFirst v leaves_out left t t.reason) same (ends_refused v leaves_out left d s h)

pub all_held : (v : ℕ) (d : List Payload) (f : Option Refusal) (n : ℕ) → f ≡ None → AreFit d →
    n ≡ min (length (lacked v d)) (2 ^ 64 - 1) →
    EndsGathering v d f (Ok (record { payloads = d; left_out = n }))
all_held v d (Some r) n e fit number leaves_out left h = absurd cc
all_held v d None n e fit number leaves_out left h = ends v leaves_out left d n fit number h
