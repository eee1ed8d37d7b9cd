-- The time that is left, at most, to a router that a cache serves by the rules: what counts it.
use Rattle.std.proofs.Common.{◌≡◌, ℕ, Bool, true, false, ◌+◌, ◌*◌, ◌≤◌, min}
use Rattle.std.proofs.Common.{max}
use Rattle.std.proofs.Common.{if◌then◌else◌, sym, ap, ap₂, ◌∙◌, subst}
use Rattle.std.proofs.Common.{arith}
use Rattle.std.proofs.Math.Nat.{add-mul, mul-le-mul_right}
use Rattle.session_router.specs.declared.settings.Settings.{Settings}
use Rattle.session_router.specs.declared.router.Router.{Router}
use Rattle.session_router.specs.declared.router.Phase.{Phase}
use Rattle.session_router.specs.declared.router.Phase.TheVariants as phases
use Rattle.session_router.specs.Pace.{due_in}
use Rattle.session_router.specs.Recovery.{connection_time, restarts}

-- ---- what is left, at most, after `due`

-- how many connections come after this one, at most
abbrev pub after : Settings → Router → ℕ
after s r = r.version + restarts r * (s.highest + 1)

abbrev pub opening : Settings → Router → ℕ
opening s r = if r.fell then r.version else s.highest

-- how many come where there is none now
abbrev pub all : Settings → Router → ℕ
all s r = opening s r + 1 + restarts r * (s.highest + 1)

abbrev pub then_waiting : Settings → Router → ℕ
then_waiting s r = after s r + (if r.silent then s.highest + 1 else 0)

abbrev pub left : Phase → Settings → Router → ℕ
left phases.Offline s r = all s r * connection_time s
left phases.Connecting s r =
    s.response_limit + s.response_limit + s.pause + after s r * connection_time s
left phases.Asked s r =
    (if r.changes then s.response_limit else 0) + s.pause + after s r * connection_time s
left phases.Reading s r = s.pause + after s r * connection_time s
left phases.Applying s r = s.pause + after s r * connection_time s
left phases.Waiting s r =
    s.response_limit + s.response_limit + s.pause + then_waiting s r * connection_time s

-- what holds while a query or its answer is under way
pub record UnderWay (r : Router) : Type 0 where
  pub fell : r.fell ≡ false
  pub has_data : r.changes ≡ true → r.has_data ≡ true
  pub resync : r.changes ≡ true → r.resync ≡ false

abbrev pub Holds : Phase → Router → Type 0
Holds phases.Offline r = Unit {0}
Holds phases.Connecting r = r.fell ≡ false
Holds phases.Asked r = UnderWay r
Holds phases.Reading r = UnderWay r
Holds phases.Applying r = UnderWay r
Holds phases.Waiting r = r.fell ≡ false

pub record Kept (s : Settings) (r r' : Router) (n n' : ℕ) : Type 0 where
  pub holds : Holds r'.phase r'
  pub less :
      max n' (due_in r'.phase r') + left r'.phase s r'
      ≤ max n (due_in r.phase r) + left r.phase s r

pub kept :
    (p p' : Phase) (s : Settings) (r r' : Router) (n n' : ℕ) → r.phase ≡ p → r'.phase ≡ p'
    → Holds p' r' → max n' (due_in p' r') + left p' s r' ≤ max n (due_in p r) + left p s r
    → Kept s r r' n n'
kept p p' s r r' n n' e e' h l =
    let to : max n' (due_in r'.phase r') + left r'.phase s r' ≤ max n (due_in p r) + left p s r =
    subst (λ (x : Phase). max n' (due_in x r') + left x s r' ≤ max n (due_in p r) + left p s r)
    (sym e') l in
    record {
      holds = subst (λ (x : Phase). Holds x r') (sym e') h;
      less = subst
          (λ (x : Phase). max n' (due_in r'.phase r') + left r'.phase s r'
          ≤ max n (due_in x r) + left x s r)
          (sym e) to;
    }

-- ---- arithmetic

pub same_le :
    (n n' d d' x x' : ℕ) → n' ≤ max n d → d' ≡ d → x' ≡ x → max n' d' + x' ≤ max n d + x
same_le n n' d d' x x' h e f = omega arith

pub still_le :
    (n n' d d' x x' : ℕ) → n' ≤ max n d → d' ≤ d → x' ≡ x → max n' d' + x' ≤ max n d + x
still_le n n' d d' x x' h e f = omega arith

pub less_le :
    (n n' d d' x x' : ℕ) → n' ≤ max n d → d' ≤ d → x' ≤ x → max n' d' + x' ≤ max n d + x
less_le n n' d d' x x' h e f = omega arith

pub connect_le :
    (n n' d d' l a p x y : ℕ) → n' ≤ max n d → d' ≡ n' + l → y ≡ x + (l + a + a + p)
    → max n' d' + (a + a + p + x) ≤ max n d + y
connect_le n n' d d' l a p x y h e f = omega arith

pub ask_le :
    (n n' d d' a p z x x' : ℕ) → n' ≤ max n d → d' ≡ n' + a → z ≤ a → x' ≡ x
    → max n' d' + (z + p + x') ≤ max n d + (a + a + p + x)
ask_le n n' d d' a p z x x' h e f g = omega arith

pub reset_le :
    (n n' d d' a p z z' x x' : ℕ) → n' ≤ max n d → d' ≡ n' + a → z ≡ a → z' ≡ 0 → x' ≤ x
    → max n' d' + (z' + p + x') ≤ max n d + (z + p + x)
reset_le n n' d d' a p z z' x x' h e f g k = omega arith

pub begin_le :
    (n n' d d' p z x x' : ℕ) → n' ≤ max n d → d' ≡ d → x' ≤ x
    → max n' d' + (p + x') ≤ max n d + (z + p + x)
begin_le n n' d d' p z x x' h e f = omega arith

pub fall_le :
    (n n' d d' p z x y : ℕ) → n' ≤ max n d → d' ≡ n' → y ≤ x
    → max n' d' + y ≤ max n d + (z + p + x)
fall_le n n' d d' p z x y h e f = omega arith

pub fail_le :
    (n n' d d' p x y l : ℕ) → n' ≤ max n d → d' ≡ n' + p → y ≤ x → p + x ≤ l
    → max n' d' + y ≤ max n d + l
fail_le n n' d d' p x y l h e f g = omega arith

pub ask_less_le :
    (n n' d d' a p z x x' : ℕ) → n' ≤ max n d → d' ≡ n' + a → z ≤ a → x' ≤ x
    → max n' d' + (z + p + x') ≤ max n d + (a + a + p + x)
ask_less_le n n' d d' a p z x x' h e f g = omega arith

pub rise_le :
    (n n' d d' a p x y : ℕ) → n' ≤ max n d → d' ≡ n' → y ≤ x
    → max n' d' + y ≤ max n d + (a + a + p + x)
rise_le n n' d d' a p x y h e f = omega arith

pub min_le : (d a b : ℕ) → d ≡ min a b → d ≤ a
min_le d a b e = omega arith

pub self_le : (x : ℕ) → x ≤ x
self_le x = omega arith

pub more_le : (a p x : ℕ) → p + x ≤ a + p + x
more_le a p x = omega arith

-- ---- how many connections

pub times : (a b p : ℕ) → a ≤ b → a * p ≤ b * p
times a b p h = mul-le-mul_right p h

pub once_more : (a p : ℕ) → (a + 1) * p ≡ a * p + p
once_more a p = add-mul a 1 p ∙ one (a * p) p
  where
    one : (x p : ℕ) → x + 1 * p ≡ x + p
    one x p = omega arith

pub restarts_same :
    (r r' : Router) → r'.has_data ≡ r.has_data → r'.resync ≡ r.resync → restarts r' ≡ restarts r
restarts_same r r' e f = ap₂ (λ (d y : Bool). if d then (if y then 1 else 2) else 0) e f

pub after_same :
    (s : Settings) (r r' : Router) → r'.version ≡ r.version → r'.has_data ≡ r.has_data
    → r'.resync ≡ r.resync → after s r' ≡ after s r
after_same s r r' e f g =
    ap₂ (λ (v x : ℕ). v + x * (s.highest + 1)) e (restarts_same r r' f g)

pub after_waiting : (s : Settings) (r : Router) → after s r ≤ then_waiting s r
after_waiting s r = more (after s r) (if r.silent then s.highest + 1 else 0)
  where
    more : (a b : ℕ) → a ≤ a + b
    more a b = omega arith

pub all_same :
    (s : Settings) (r r' : Router) → r'.fell ≡ r.fell → r'.version ≡ r.version
    → r'.has_data ≡ r.has_data → r'.resync ≡ r.resync → all s r' ≡ all s r
all_same s r r' l e f g =
    ap₂ (λ (o x : ℕ). o + 1 + x * (s.highest + 1))
    (ap₂ (λ (b : Bool) (v : ℕ). if b then v else s.highest) l e)
    (restarts_same r r' f g)

-- nothing is left to begin anew where there are no data
pub no_restarts : (r : Router) → r.has_data ≡ false → restarts r ≡ 0
no_restarts r e = ap (λ (d : Bool). if d then (if r.resync then 1 else 2) else 0) e

pub some_restarts : (r : Router) → r.has_data ≡ true → 1 ≤ restarts r
some_restarts r e = subst (λ (x : ℕ). 1 ≤ x) (sym is) (least r.resync)
  where
    is : restarts r ≡ (if r.resync then 1 else 2)
    is = ap (λ (d : Bool). if d then (if r.resync then 1 else 2) else 0) e

    least : (y : Bool) → 1 ≤ (if y then 1 else 2)
    least true = omega arith
    least false = omega arith

pub restarts_reset : (r r' : Router) → r'.has_data ≡ r.has_data → r'.resync ≡ true
    → restarts r' ≤ restarts r
restarts_reset r r' e f =
    subst (λ (x : ℕ). x ≤ restarts r) (sym
    (ap₂ (λ (d y : Bool). if d then (if y then 1 else 2) else 0) e f))
    (most r.has_data r.resync)
  where
    most : (d y : Bool) → (if d then 1 else 0) ≤ (if d then (if y then 1 else 2) else 0)
    most true true = omega arith
    most true false = omega arith
    most false y = omega arith
