-- What a cache had: of it there is more with each step, and one data under each name.
use Rattle.std.proofs.Common.{◌≡◌, ◌⊎◌, ℕ, Bool, true, false, if◌then◌else◌, ◌==◌, ◌&&◌, refl}
use Rattle.std.proofs.Common.{List, [], ◌∷◌, ap, ◌∙◌, inl, inr}
use Rattle.std.proofs.lemmas.Bool.Decides.{eqb_tells}
use Rattle.session_cache.specs.CacheSteps.{CacheMoves}
use Rattle.session_cache.specs.Worlds.{Edition, IsIn, IsOneDataPerName, IsReachedBy, IsSource, Next}
use Rattle.session_cache.specs.Worlds.{RouterMoves, Source, WasHad, World}
use Rattle.session_cache.specs.Worlds.Next.{cache_hears, cache_told, connected, renewed}
use Rattle.session_cache.specs.Worlds.Next.{router_hears}
use Rattle.session_cache.specs.Worlds.Next.{router_told}
use Rattle.session_cache.specs.Worlds.IsReachedBy.{world_begins, world_goes_on}

-- ---- what it had before is among what it had later

abbrev pub AreAmong : {D : Type 0} → List (Edition D) → List (Edition D) → Type 0
AreAmong {D} had more = (x : Edition D) → WasHad had x → WasHad more x

pub among_next : (D C : Type 0) (S : Source D C) (Does : RouterMoves) (Answers : CacheMoves)
    (w w' : World D C) → Next D C S Does Answers w w' → AreAmong w.had w'.had
among_next D C S Does Answers w w' (router_told w₀ n e a r itself step) = λ x was. was
among_next D C S Does Answers w w' (connected w₀ n a r c phase anew step) = λ x was. was
among_next D C S Does Answers w w' (router_hears w₀ n x xs a r is step) = λ x was. was
among_next D C S Does Answers w w' (cache_hears w₀ n m u us kept a c old is step from) = λ x was.
    was
among_next D C S Does Answers w w' (cache_told w₀ n m e a c tells step) = λ x was. was
among_next D C S Does Answers w w' (renewed w₀ p) = λ x was. (was.0, inr was.1)

pub one_before : {D : Type 0} (had more : List (Edition D)) → AreAmong had more
    → IsOneDataPerName more → IsOneDataPerName had
one_before had more among one =
    λ x y wx wy s n v. one x y (among x wx) (among y wy) s n v

pub source_before : (D C : Type 0) (S : Source D C) (had more : List (Edition D))
    → AreAmong had more → IsSource D C S more → IsSource D C S had
source_before D C S had more among I = record {
  all_lead = λ v x was. I.all_lead v x (among x was);
  changes_lead = λ v x y wx wy s. I.changes_lead v x y (among x wx) (among y wy) s;
  none_at_once = λ v x was. I.none_at_once v x (among x was);
  is_payload = I.is_payload;
  all_are = λ v x was. I.all_are v x (among x was);
  changes_are = λ v x y wx wy s. I.changes_are v x y (among x wx) (among y wy) s;
}

-- ---- the cache has had what it has

abbrev pub IsOld : {D : Type 0} → List (Edition D) → Edition D → Type 0
IsOld had p = p.name.has ≡ true → WasHad had p

old_next : (D C : Type 0) (S : Source D C) (Does : RouterMoves) (Answers : CacheMoves)
    (w w' : World D C) → Next D C S Does Answers w w' → IsOld w.had w.present
    → IsOld w'.had w'.present
old_next D C S Does Answers w w' (router_told w₀ n e a r itself step) old = old
old_next D C S Does Answers w w' (connected w₀ n a r c phase anew step) old = old
old_next D C S Does Answers w w' (router_hears w₀ n x xs a r is step) old = old
old_next D C S Does Answers w w' (cache_hears w₀ n m u us kept a c o is step from) old = old
old_next D C S Does Answers w w' (cache_told w₀ n m e a c tells step) old = old
old_next D C S Does Answers w w' (renewed w₀ p) old = λ has. (has, inl refl)

pub present_old : (D C : Type 0) (S : Source D C) (Does : RouterMoves) (Answers : CacheMoves)
    (w : World D C) → IsReachedBy D C S Does Answers w → IsOld w.had w.present
present_old D C S Does Answers w (world_begins r c p phase none) = λ has. (has, inl refl)
present_old D C S Does Answers w (world_goes_on w₀ w₁ run step) =
    old_next D C S Does Answers w₀ w₁ step (present_old D C S Does Answers w₀ run)

-- ---- names

-- it had data of this session and serial number
abbrev pub WasPresent : {D : Type 0} → List (Edition D) → (session serial : ℕ) → Type 0
WasPresent {D} had s n =
    (x : Edition D) × WasHad had x × (x.name.session ≡ s) × (x.name.serial ≡ n)

pub was_present : {D : Type 0} (had : List (Edition D)) (x : Edition D) → WasHad had x
    → WasPresent had x.name.session x.name.serial
was_present had x was = (x, was, refl, refl)

pub present_news : {D : Type 0} (had : List (Edition D)) (p : Edition D) (s n : ℕ)
    → WasPresent had s n → WasPresent (p ∷ had) s n
present_news had p s n was = (was.0, (was.1.0, inr was.1.1), was.2, was.3)

-- ---- the data under a name

-- what was had under each session and serial number, as each version has it
abbrev pub Archive : Type 0 → Type 0
Archive D = (version session serial : ℕ) → D

abbrev pub IsArchive : {D : Type 0} → Archive D → List (Edition D) → Type 0
IsArchive {D} A had =
    (x : Edition D) → WasHad had x → (v : ℕ)
    → A v x.name.session x.name.serial ≡ x.for_version v

pub archive_before : {D : Type 0} (A : Archive D) (had more : List (Edition D))
    → AreAmong had more → IsArchive A more → IsArchive A had
archive_before A had more among K = λ x was v. K x (among x was) v

-- the first of them with this name
abbrev pub first_of : {D : Type 0} → List (Edition D) → D → Archive D
first_of [] d v s n = d
first_of (y ∷ ys) d v s n =
    if y.name.has && ((y.name.session == s) && (y.name.serial == n))
    then y.for_version v
    else first_of ys d v s n

equal : (m n : ℕ) → m ≡ n → (m == n) ≡ true
equal m n e = go (eqb_tells m n)
  where
    go : (((m == n) ≡ true) × (m ≡ n)) ⊎ (((m == n) ≡ false) × (m ≡ n → ⊥)) → (m == n) ≡ true
    go (inl d) = d.0
    go (inr d) = absurd (d.1 e)

found : {D : Type 0} (ys : List (Edition D)) (d : D) (x : Edition D) (v : ℕ) → WasHad ys x
    → ((y : Edition D) → WasHad ys y → y.name.session ≡ x.name.session
    → y.name.serial ≡ x.name.serial → y.for_version v ≡ x.for_version v)
    → first_of ys d v x.name.session x.name.serial ≡ x.for_version v
found [] d x v was one = absurd was.1
found {D} (y ∷ ys) d x v was one =
    go (λ i. found ys d x v (was.0, i) (λ y w. one y (w.0, inr w.1))) y.name.has refl
    (eqb_tells y.name.session x.name.session) (eqb_tells y.name.serial x.name.serial) was.1
  where
    s : ℕ
    s = x.name.session

    n : ℕ
    n = x.name.serial

    no_has : y.name.has ≡ x.name.has → y.name.has ≡ false → x.name.has ≡ true → ⊥
    no_has e f t = cc

    go : (IsIn ys x → first_of ys d v s n ≡ x.for_version v) → (h : Bool) → y.name.has ≡ h
        → (((y.name.session == s) ≡ true) × (y.name.session ≡ s))
        ⊎ (((y.name.session == s) ≡ false) × (y.name.session ≡ s → ⊥))
        → (((y.name.serial == n) ≡ true) × (y.name.serial ≡ n))
        ⊎ (((y.name.serial == n) ≡ false) × (y.name.serial ≡ n → ⊥))
        → IsIn (y ∷ ys) x → first_of (y ∷ ys) d v s n ≡ x.for_version v
    go rest true h (inl a) (inl b) i =
        (λ j. if (h j) && ((a.0 j) && (b.0 j)) then y.for_version v else first_of ys d v s n)
        ∙ one y (h, inl refl) a.1 b.1
    go rest false h a b (inr i) =
        (λ j. if (h j) && ((y.name.session == s) && (y.name.serial == n)) then y.for_version v
        else first_of ys d v s n)
        ∙ rest i
    go rest false h a b (inl e) =
        absurd (no_has (ap (λ (z : Edition D). z.name.has) e) h was.0)
    go rest true h (inr a) b (inr i) =
        (λ j. if (h j) && ((a.0 j) && (y.name.serial == n)) then y.for_version v
        else first_of ys d v s n)
        ∙ rest i
    go rest true h (inr a) b (inl e) = absurd (a.1 (ap (λ (z : Edition D). z.name.session) e))
    go rest true h (inl a) (inr b) (inr i) =
        (λ j. if (h j) && ((a.0 j) && (b.0 j)) then y.for_version v else first_of ys d v s n)
        ∙ rest i
    go rest true h (inl a) (inr b) (inl e) = absurd (b.1 (ap (λ (z : Edition D). z.name.serial) e))

pub is_archive : {D : Type 0} (had : List (Edition D)) (d : D) → IsOneDataPerName had
    → IsArchive (first_of had d) had
is_archive had d one =
    λ x was v. found had d x v was (λ y w s n. one y x w was s n v)
