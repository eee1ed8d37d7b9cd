-- Structs of a router's end that calls make.
use native.Mathlib.Omega.{arith}
use Rattle.std.proofs.Common.{◌≡◌, ◌≢◌, ◌≤◌, ◌+◌, ◌⊎◌, ℕ, true, false, Bool, refl, sym, subst}
use Rattle.std.proofs.Common.{inl, inr}
use Rattle.std.specs.Cmp.Derive.{both_true}
use Rattle.std.specs.Prelude.{◌&&◌, ◌==◌, nat_le, if◌then◌else◌}
use Rattle.std.proofs.lemmas.Bool.{and_parts, cases_eq}
use Rattle.std.proofs.lemmas.Bool.Decides.{nat_tests}
use Rattle.session_router.specs.declared.router.Phase.{Phase}
use Rattle.session_router.specs.declared.router.Phase.TheVariants as phases
use Rattle.session_client.specs.Holding.{due_size}
use Rattle.session_client.specs.Turning.{InPhase}
use Rattle.session_client.specs.declared.client.Holding.{Holding}
use Rattle.session_client.specs.declared.client.Holding.TheVariants as holdings
use Rattle.rtr_c.specs.Links.{are_flags, has_flags, holding_number, is_begun}
use Rattle.rtr_c.specs.Links.{numbered_holding, suits_phase}
use Rattle.rtr_c.specs.Routers.{phase_number, phase_of}
use Rattle.rtr_c.specs.declared.link.RtrLink.{RtrLink}

-- the three ways in which what is held suits a phase
ways : (p h : ℕ) → suits_phase p h ≡ true →
    ((p ≡ 3) × (h ≡ 1)) ⊎ (((p ≡ 4) × (h ≡ 2))
    ⊎ (((p == 3) ≡ false) × ((p == 4) ≡ false) × (h ≡ 0)))
ways p h e = go (cases_eq p 3) (cases_eq p 4)
  where
    go : (p ≡ 3) ⊎ (p ≢ 3) → (p ≡ 4) ⊎ (p ≢ 4) →
        ((p ≡ 3) × (h ≡ 1)) ⊎ (((p ≡ 4) × (h ≡ 2))
        ⊎ (((p == 3) ≡ false) × ((p == 4) ≡ false) × (h ≡ 0)))
    go (inl a) q = inl (a, grind (arith, nat_tests))
    go (inr a) (inl b) = inr (inl (b, grind (arith, nat_tests)))
    go (inr a) (inr b) =
        inr (inr (grind (arith, nat_tests), grind (arith, nat_tests), grind (arith, nat_tests)))

-- a phase that is neither in a response nor behind it
elsewhere : (a b c : Bool) →
    InPhase
    (if a then phases.Connecting else if b then phases.Asked else if c then phases.Waiting
    else phases.Offline) holdings.Nothing
elsewhere true b c = tt
elsewhere false true c = tt
elsewhere false false true = tt
elsewhere false false false = tt

quiet : (p : ℕ) → (p == 3) ≡ false → (p == 4) ≡ false → InPhase (phase_of p) holdings.Nothing
quiet p a b =
    subst (λ (x : Bool). InPhase
    (if p == 1 then phases.Connecting else if p == 2 then phases.Asked
    else if x then phases.Reading else if p == 4 then phases.Applying
    else if p == 5 then phases.Waiting else phases.Offline) holdings.Nothing) (sym a)
    (subst (λ (x : Bool). InPhase
    (if p == 1 then phases.Connecting else if p == 2 then phases.Asked
    else if x then phases.Applying else if p == 5 then phases.Waiting
    else phases.Offline) holdings.Nothing) (sym b)
    (elsewhere (p == 1) (p == 2) (p == 5)))

-- what is held suits the phase that the number stands for
pub in_phase : (p h size : ℕ) (since : Bool) → suits_phase p h ≡ true →
    InPhase (phase_of p) (numbered_holding h size since)
in_phase p h size since e = go (ways p h e)
  where
    is : (q g : ℕ) → p ≡ q → h ≡ g → InPhase (phase_of q) (numbered_holding g size since) →
        InPhase (phase_of p) (numbered_holding h size since)
    is q g a b i =
        subst (λ (n : ℕ). InPhase (phase_of n) (numbered_holding h size since)) (sym a)
        (subst (λ (n : ℕ). InPhase (phase_of q) (numbered_holding n size since)) (sym b) i)

    go : ((p ≡ 3) × (h ≡ 1)) ⊎ (((p ≡ 4) × (h ≡ 2))
        ⊎ (((p == 3) ≡ false) × ((p == 4) ≡ false) × (h ≡ 0))) →
        InPhase (phase_of p) (numbered_holding h size since)
    go (inl (a, b)) = is 3 1 a b tt
    go (inr (inl (a, b))) = is 4 2 a b tt
    go (inr (inr (a, b, c))) = is p 0 refl c (quiet p a b)

-- and the other way around
pub suits : (p : Phase) (m : Holding) → InPhase p m →
    suits_phase (phase_number p) (holding_number m) ≡ true
suits phases.Offline holdings.Nothing i = refl
suits phases.Offline holdings.Units i = absurd i
suits phases.Offline (holdings.Answer size since) i = absurd i
suits phases.Connecting holdings.Nothing i = refl
suits phases.Connecting holdings.Units i = absurd i
suits phases.Connecting (holdings.Answer size since) i = absurd i
suits phases.Asked holdings.Nothing i = refl
suits phases.Asked holdings.Units i = absurd i
suits phases.Asked (holdings.Answer size since) i = absurd i
suits phases.Reading holdings.Nothing i = absurd i
suits phases.Reading holdings.Units i = refl
suits phases.Reading (holdings.Answer size since) i = absurd i
suits phases.Applying holdings.Nothing i = absurd i
suits phases.Applying holdings.Units i = absurd i
suits phases.Applying (holdings.Answer size since) i = refl
suits phases.Waiting holdings.Nothing i = refl
suits phases.Waiting holdings.Units i = absurd i
suits phases.Waiting (holdings.Answer size since) i = absurd i

-- the end of data of an answer has the length that the struct says
held_within : (a b : Bool) (size : ℕ) (since : Bool) →
    due_size (if a then holdings.Units else if b then holdings.Answer size since
    else holdings.Nothing) ≤ size
held_within true b size since = omega arith
held_within false true size since = omega arith
held_within false false size since = omega arith

pub due_within : (h size : ℕ) (since : Bool) → due_size (numbered_holding h size since) ≤ size
due_within h size since = held_within (h == 1) (h == 2) size since

-- what a struct that was begun says of its phase and of its offsets
pub begun_suits : (l : RtrLink) → is_begun l ≡ true → suits_phase l.phase l.holding ≡ true
begun_suits l e =
    let front : ((l.mark == 1280461387) && suits_phase l.phase l.holding) ≡ true =
    (and_parts ((l.mark == 1280461387) && suits_phase l.phase l.holding)
    (nat_le (l.kept + l.end_size) l.filled && has_flags l) e).0 in
    (and_parts (l.mark == 1280461387) (suits_phase l.phase l.holding) front).1

pub begun_within : (l : RtrLink) → is_begun l ≡ true → l.kept + l.end_size ≤ l.filled
begun_within l e =
    let rest : (nat_le (l.kept + l.end_size) l.filled && has_flags l) ≡ true =
    (and_parts ((l.mark == 1280461387) && suits_phase l.phase l.holding)
    (nat_le (l.kept + l.end_size) l.filled && has_flags l) e).1 in
    let within : nat_le (l.kept + l.end_size) l.filled ≡ true =
    (and_parts (nat_le (l.kept + l.end_size) l.filled) (has_flags l) rest).0 in
    grind (arith, nat_tests)

flags_are : (a b c d : ℕ) → a ≤ 1 → b ≤ 1 → c ≤ 1 → d ≤ 1 → are_flags a b c d ≡ true
flags_are a b c d p q r s = grind (arith, nat_tests)

least : (a b : ℕ) → a ≤ b → nat_le a b ≡ true
least a b p = grind (arith, nat_tests)

same : (n : ℕ) → (n == n) ≡ true
same n = grind (arith, nat_tests)

pub begun_when : (l : RtrLink) → l.mark ≡ 1280461387 → suits_phase l.phase l.holding ≡ true →
    l.kept + l.end_size ≤ l.filled → l.agreed ≤ 1 → l.fell ≤ 1 → l.silent ≤ 1 →
    l.changes ≤ 1 → l.resync ≤ 1 → l.answered ≤ 1 → l.noted ≤ 1 → l.has_data ≤ 1 →
    l.since ≤ 1 → l.shows ≤ 1 → l.second ≤ 1 → l.opened ≤ 1 → l.closed ≤ 1 → is_begun l ≡ true
begun_when l mark suit within a b c d e f g h i j k m n =
    both_true
    (both_true (rw mark (same 1280461387)) suit)
    (both_true (least (l.kept + l.end_size) l.filled within)
    (both_true
    (both_true (flags_are l.agreed l.fell l.silent l.changes a b c d)
    (flags_are l.resync l.answered l.noted l.has_data e f g h))
    (both_true (flags_are l.since l.shows l.second l.opened i j k m) (least l.closed 1 n))))

pub suits_both : (p : Phase) (m : Holding) (n h : ℕ) → n ≡ phase_number p → h ≡ holding_number m →
    InPhase p m → suits_phase n h ≡ true
suits_both p m n h e f i = rw e (rw f (suits p m i))

-- more that was read leaves it begun
pub begun_more : (l : RtrLink) (n m : ℕ) → is_begun l ≡ true → l.filled ≤ n →
    is_begun (record l { filled = n; received = m }) ≡ true
begun_more l n m e more =
    let parts : (((l.mark == 1280461387) && suits_phase l.phase l.holding) ≡ true)
    × ((nat_le (l.kept + l.end_size) l.filled && has_flags l) ≡ true) =
    and_parts ((l.mark == 1280461387) && suits_phase l.phase l.holding)
    (nat_le (l.kept + l.end_size) l.filled && has_flags l) e in
    let flags : has_flags l ≡ true =
    (and_parts (nat_le (l.kept + l.end_size) l.filled) (has_flags l) parts.1).1 in
    let held = begun_within l e in
    let within : l.kept + l.end_size ≤ n = omega (arith, held, more) in
    both_true parts.0 (both_true (least (l.kept + l.end_size) n within) flags)
