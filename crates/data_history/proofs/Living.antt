-- One data under each name, over the life of a cache.
use Rattle.std.proofs.Common.{◌≡◌, ◌≢◌, ◌<◌, ◌+◌, ◌^◌, ◌⊎◌, ℕ, List, [], ◌∷◌, ◌++◌, Option, Some}
use Rattle.std.proofs.Common.{None}
use Rattle.std.proofs.Common.{refl, sym, ap, subst, ◌∙◌, arith, inl, inr}
use Rattle.std.specs.Prelude.{⊤}
use Rattle.std.specs.List.{AllByRecursion}
use Rattle.data_slices.proofs.OneData.{one_data}
use Rattle.data_history.specs.Life.{IsLife, IsUnsavedLife, StaysOnCircle, gone_on}
use Rattle.data_history.specs.Life.{was_new, took_first, took, wrote, saved, gave_up, stopped}
use Rattle.data_history.specs.Life.{started}
use Rattle.data_history.specs.Life.{first_start, next_start, served_first, served_next}
use Rattle.data_history.specs.Parts.{part_bytes, part_rest}
use Rattle.data_history.specs.Snapshots.{Snapshot, behind_by}
use Rattle.data_history.specs.Store.{BeginsSession, HoldsStore, IsAmong, IsTaken, StaysInSession}
use Rattle.data_history.specs.Store.{left_sessions}
use Rattle.data_history.proofs.Behind.{behind_sum, earlier_by}
use Rattle.data_history.proofs.Storing.{not_behind}
use Rattle.data_history.proofs.Advancing.{same_snapshot}

abbrev pub session : Snapshot → ℕ
session x = x.end.session

abbrev pub serial : Snapshot → ℕ
serial x = x.end.serial

-- ---- data that follow one another

-- The data come after these: they are the newest of them again, or later ones of its session, or of
-- a session that none of these is of.
abbrev pub Follows : Snapshot → List Snapshot → Type 0
Follows x [] = ⊤
Follows x (y ∷ ys) =
    (x ≡ y)
    ⊎ (((session x ≡ session y) × (0 < behind_by (serial y) (serial x)))
    ⊎ AllByRecursion (λ z. session z ≢ session x) (y ∷ ys))

abbrev pub Chain : List Snapshot → Type 0
Chain [] = ⊤
Chain (x ∷ xs) = (serial x < 2 ^ 32) × Follows x xs × Chain xs

chain_behind : (front rest : List Snapshot) → Chain (front ++ rest) → Chain rest
chain_behind [] rest c = c
chain_behind (x ∷ front) rest c = chain_behind front rest c.2

all_at : (s : ℕ) (front others : List Snapshot) (y : Snapshot) →
    AllByRecursion (λ z. session z ≢ s) (front ++ y ∷ others) → session y ≢ s
all_at s [] others y a = a.0
all_at s (x ∷ front) others y a = all_at s front others y a.1

-- how far apart two data of one session are
apart : (x y : Snapshot) (between others : List Snapshot) → Chain (x ∷ (between ++ y ∷ others)) →
    session x ≡ session y → StaysOnCircle x between y →
    (behind_by (serial y) (serial x) ≡ gone_on (x ∷ (between ++ y ∷ [])))
    × (gone_on (x ∷ (between ++ y ∷ [])) ≡ 0 → x ≡ y)
apart x y [] others (fx, inl same, c) is on = (omega arith, λ none. same)
apart x y [] others (fx, inr (inl later), c) is on =
    (omega arith, λ none. absurd (omega (arith, none, later.1)))
apart x y [] others (fx, inr (inr new), c) is on = absurd (new.0 (sym is))
apart x y (m ∷ ms) others (fx, inl same, c) is on =
    let none : behind_by (serial m) (serial x) ≡ 0 =
    ap (λ z. behind_by (serial z) (serial x)) (sym same) ∙ not_behind (serial x) fx in
    let t = apart m y ms others c (ap session (sym same) ∙ is) (omega (arith, on, none)) in (
      ap (λ z. behind_by (serial y) (serial z)) same ∙ omega (arith, t.0, none),
      λ zero. same ∙ t.1 (omega (arith, zero, none)),
    )
apart x y (m ∷ ms) others (fx, inr (inl later), c) is on =
    let t = apart m y ms others c (sym later.0 ∙ is) (omega (arith, on)) in
    let fy = (chain_behind ms (y ∷ others) c.2).0 in
    let sum : behind_by (serial y) (serial x) ≡
    behind_by (serial y) (serial m) + behind_by (serial m) (serial x) =
    behind_sum (serial y) (serial m) (serial x) fy c.0 fx (omega (arith, on, t.0)) in (
      omega (arith, sum, t.0),
      λ zero. absurd (omega (arith, zero, later.1)),
    )
apart x y (m ∷ ms) others (fx, inr (inr new), c) is on =
    absurd (all_at (session x) (m ∷ ms) others y new (sym is))

pub one_of_name : (front between others : List Snapshot) (x y : Snapshot) →
    Chain (front ++ x ∷ (between ++ y ∷ others)) → session x ≡ session y →
    serial x ≡ serial y → StaysOnCircle x between y → x ≡ y
one_of_name front between others x y c is at on =
    let d = chain_behind front (x ∷ (between ++ y ∷ others)) c in
    let t = apart x y between others d is on in
    t.1 (sym t.0 ∙ ap (λ n. behind_by n (serial x)) (sym at) ∙ not_behind (serial x) d.0)

-- ---- what a store has of what was served

-- the data of a store, and how they follow those that were served, of which it knows the sessions
pub record Extends (served : List Snapshot) (b : List ℕ) : Type 0 where
  pub z : Snapshot
  pub ys : List Snapshot
  pub store : HoldsStore b z ys
  pub chain : Chain (z ∷ served)
  pub known : AllByRecursion (λ s. (session s ≡ session z) ⊎ IsAmong (session s) (left_sessions b))
      served

-- the store's data were served last
pub record IsServed (served : List Snapshot) (b : List ℕ) : Type 0 where
  pub x : Snapshot
  pub before : List Snapshot
  pub all : served ≡ x ∷ before
  pub extends : Extends served b
  pub same : extends.z ≡ x

abbrev pub OfPresent : List Snapshot → Option (List ℕ) → Type 0
OfPresent served None = ⊤
OfPresent served (Some b) = IsServed served b

abbrev pub OfTaken : List Snapshot → Option (List ℕ) → Type 0
OfTaken served None = ⊤
OfTaken served (Some b) = Extends served b

pub record Lives (served : List Snapshot) (file present taken : Option (List ℕ)) : Type 0 where
  pub chain : Chain served
  pub of_file : OfTaken served file
  pub of_present : OfPresent served present
  pub of_taken : OfTaken served taken

one_store : (b : List ℕ) (x z : Snapshot) (xs zs : List Snapshot) → HoldsStore b x xs →
    HoldsStore b z zs → z ≡ x
one_store b x z xs zs h j =
    let one = one_data (part_bytes (part_rest b)) z.payloads x.payloads z.end x.end
    j.history.holds h.history.holds in
    same_snapshot x z one.0 one.1

fits : (b : List ℕ) (x : Snapshot) (xs : List Snapshot) → HoldsStore b x xs → serial x < 2 ^ 32
fits b x xs h = h.history.holds.accepts.sequence.end.fits.serial

-- the store's data were served just now
served_now : (served : List Snapshot) (b : List ℕ) (z : Snapshot) (ys : List Snapshot) →
    HoldsStore b z ys → Extends served b → IsServed (z ∷ served) b
served_now served b z ys h e =
    let same : e.z ≡ z = one_store b z e.z ys e.ys h e.store in
    let chain : Chain (z ∷ served) = subst (λ t. Chain (t ∷ served)) same e.chain in
    record {
      x = z;
      before = served;
      all = refl;
      extends = record {
        z = z;
        ys = ys;
        store = h;
        chain = (chain.0, inl refl, chain);
        known = (
          inl refl,
          subst (λ t. AllByRecursion (λ s. (session s ≡ session t)
              ⊎ IsAmong (session s) (left_sessions b)) served) same e.known,
        );
      };
      same = refl;
    }

serves : (served : List Snapshot) (b : List ℕ) (z : Snapshot) (ys : List Snapshot) →
    HoldsStore b z ys → Extends served b → Lives (z ∷ served) (Some b) (Some b) None
serves served b z ys h e =
    let s = served_now served b z ys h e in
    record {
      chain = s.extends.chain.2;
      of_file = s.extends;
      of_present = s;
      of_taken = tt;
    }

-- ---- data that were taken

stay : (served : List Snapshot) (left left' : List ℕ) (z x : ℕ) → z ≡ x → left' ≡ left →
    AllByRecursion (λ s. (session s ≡ x) ⊎ IsAmong (session s) left) served →
    AllByRecursion (λ s. (session s ≡ z) ⊎ IsAmong (session s) left') served
stay served left left' z x is same a =
    subst (λ n. AllByRecursion (λ s. (session s ≡ n) ⊎ IsAmong (session s) left') served) (sym is)
    (subst (λ l. AllByRecursion (λ s. (session s ≡ x) ⊎ IsAmong (session s) l) served) (sym same) a)

leave : (served : List Snapshot) (left : List ℕ) (z x : ℕ) →
    AllByRecursion (λ s. (session s ≡ x) ⊎ IsAmong (session s) left) served →
    AllByRecursion (λ s. (session s ≡ z) ⊎ IsAmong (session s) (x ∷ left)) served
leave [] left z x a = tt
leave (s ∷ served) left z x (inl is, a) = (inr (inl is), leave served left z x a)
leave (s ∷ served) left z x (inr is, a) = (inr (inr is), leave served left z x a)

none_of : (served : List Snapshot) (left : List ℕ) (z x : ℕ) → z ≢ x → (IsAmong z left → ⊥) →
    AllByRecursion (λ s. (session s ≡ x) ⊎ IsAmong (session s) left) served →
    AllByRecursion (λ s. session s ≢ z) served
none_of [] left z x ne fresh a = tt
none_of (s ∷ served) left z x ne fresh (inl is, a) =
    (λ e. ne (sym e ∙ is), none_of served left z x ne fresh a)
none_of (s ∷ served) left z x ne fresh (inr is, a) =
    (λ e. fresh (subst (λ n. IsAmong n left) e is), none_of served left z x ne fresh a)

-- taken after the store whose data were served last
taken_next : (before : List Snapshot) (b b' : List ℕ) (z x : Snapshot) → serial z < 2 ^ 32 →
    Chain (x ∷ before) →
    AllByRecursion (λ s. (session s ≡ session x) ⊎ IsAmong (session s) (left_sessions b))
    (x ∷ before) → StaysInSession b b' z x ⊎ BeginsSession b b' z x →
    Chain (z ∷ x ∷ before)
    × AllByRecursion (λ s. (session s ≡ session z) ⊎ IsAmong (session s) (left_sessions b'))
    (x ∷ before)
taken_next before b b' z x fz c known (inl stays) = (
  (fz, inr (inl (stays.session, (earlier_by (serial x) (serial z) stays.later).0)), c),
  stay (x ∷ before) (left_sessions b) (left_sessions b') (session z) (session x) stays.session
      stays.left known,
)
taken_next before b b' z x fz c known (inr new) = (
  (
    fz,
    inr (inr (none_of (x ∷ before) (left_sessions b) (session z) (session x) new.session
        new.fresh known)),
    c,
  ),
  subst (λ l. AllByRecursion (λ s. (session s ≡ session z) ⊎ IsAmong (session s) l)
      (x ∷ before)) (sym new.left)
      (leave (x ∷ before) (left_sessions b) (session z) (session x) known),
)

extends_taken : (served : List Snapshot) (b b' : List ℕ) (z x : Snapshot) (ys : List Snapshot) →
    IsServed served b → HoldsStore b x ys → IsTaken b b' z x → Extends served b'
extends_taken served b b' z x ys s h t =
    let same : s.extends.z ≡ x = one_store b x s.extends.z ys s.extends.ys h s.extends.store in
    let top : s.x ≡ x = sym s.same ∙ same in
    let all : served ≡ x ∷ s.before = s.all ∙ ap (λ y. y ∷ s.before) top in
    let known = subst (λ l. AllByRecursion (λ r. (session r ≡ session x)
    ⊎ IsAmong (session r) (left_sessions b)) l) all
    (subst (λ y. AllByRecursion (λ r. (session r ≡ session y)
    ⊎ IsAmong (session r) (left_sessions b)) served) same s.extends.known) in
    let chain = subst Chain all s.extends.chain.2 in
    let next = taken_next s.before b b' z x (fits b' z t.front t.store) chain known t.name in
    subst (λ l. Extends l b') (sym all) (record {
      z = z;
      ys = t.front;
      store = t.store;
      chain = next.0;
      known = next.1;
    })

-- data of one session are later ones
goes_later : (b b' : List ℕ) (z x : Snapshot) → session z ≡ session x →
    StaysInSession b b' z x ⊎ BeginsSession b b' z x →
    (session z ≡ session x) × (0 < behind_by (serial x) (serial z))
goes_later b b' z x alike (inl stays) = (
  alike,
  (earlier_by (serial x) (serial z) stays.later).0,
)
goes_later b b' z x alike (inr new) = absurd (new.session alike)

-- ---- the whole life

-- the first data
pub extends_none : (b : List ℕ) (z : Snapshot) (ys : List Snapshot) → HoldsStore b z ys →
    Extends [] b
extends_none b z ys h =
    record { z = z; ys = ys; store = h; chain = (fits b z ys h, tt, tt); known = tt }

pub lives : (served : List Snapshot) (file present taken : Option (List ℕ)) →
    IsLife served file present taken → Lives served file present taken
lives served file present taken was_new =
    record { chain = tt; of_file = tt; of_present = tt; of_taken = tt }
lives served file present taken (took_first f t b z ys l h) =
    let i = lives [] f None t l in
    record {
      chain = tt;
      of_file = i.of_file;
      of_present = tt;
      of_taken = extends_none b z ys h;
    }
lives served file present taken (took s f t b b' z x ys l h is) =
    let i = lives s f (Some b) t l in
    record {
      chain = i.chain;
      of_file = i.of_file;
      of_present = i.of_present;
      of_taken = extends_taken s b b' z x ys i.of_present h is;
    }
lives served file present taken (wrote s f p b' l) =
    let i = lives s f p (Some b') l in
    record {
      chain = i.chain;
      of_file = i.of_taken;
      of_present = i.of_present;
      of_taken = i.of_taken;
    }
lives served file present taken (saved s p b' z ys l h) =
    serves s b' z ys h (lives s (Some b') p (Some b') l).of_taken
lives served file present taken (gave_up s f p t l) =
    let i = lives s f p t l in
    record { chain = i.chain; of_file = i.of_file; of_present = i.of_present; of_taken = tt }
lives served file present taken (stopped s f p t l) =
    let i = lives s f p t l in
    record { chain = i.chain; of_file = i.of_file; of_present = tt; of_taken = tt }
lives served file present taken (started s b z ys l h) =
    serves s b z ys h (lives s (Some b) None None l).of_file

-- ---- a life without a file

-- the store's data were served last, and are of the session
pub record IsLast (served : List Snapshot) (s : ℕ) (b : List ℕ) : Type 0 where
  pub x : Snapshot
  pub ys : List Snapshot
  pub before : List Snapshot
  pub all : served ≡ x ∷ before
  pub store : HoldsStore b x ys
  pub of_session : session x ≡ s

abbrev pub IsLastOf : List Snapshot → ℕ → Option (List ℕ) → Type 0
IsLastOf served s None = AllByRecursion (λ x. session x ≢ s) served
IsLastOf served s (Some b) = IsLast served s b

follows_new : (z : Snapshot) (xs : List Snapshot) → AllByRecursion (λ x. session x ≢ session z) xs →
    Follows z xs
follows_new z [] new = tt
follows_new z (x ∷ xs) new = inr (inr new)

pub lives_unsaved : (served : List Snapshot) (s : ℕ) (present : Option (List ℕ)) →
    IsUnsavedLife served s present → Chain served × IsLastOf served s present
lives_unsaved served s present (first_start t) = (tt, tt)
lives_unsaved served s present (next_start xs r t p l new) = ((lives_unsaved xs r p l).0, new)
lives_unsaved served s present (served_first xs t b z ys l h is) =
    let i = lives_unsaved xs t None l in
    let new = subst (λ n. AllByRecursion (λ x. session x ≢ n) xs) (sym is) i.1 in (
      (fits b z ys h, follows_new z xs new, i.0),
      record { x = z; ys = ys; before = xs; all = refl; store = h; of_session = is },
    )
lives_unsaved served s present (served_next xs t b b' z x ys l h is of) =
    let i = lives_unsaved xs t (Some b) l in
    let top : i.1.x ≡ x = one_store b x i.1.x ys i.1.ys h i.1.store in
    let all : xs ≡ x ∷ i.1.before = i.1.all ∙ ap (λ y. y ∷ i.1.before) top in
    let alike : session z ≡ session x = of ∙ sym i.1.of_session ∙ ap session top in
    let fz = fits b' z is.front is.store in (
      subst (λ l. Chain (z ∷ l)) (sym all)
          (fz, inr (inl (goes_later b b' z x alike is.name)), subst Chain all i.0),
      record { x = z; ys = is.front; before = xs; all = refl; store = is.store; of_session = of },
    )
