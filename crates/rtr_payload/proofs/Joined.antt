-- Lists that are made of a fixed part and a body.
use Rattle.std.proofs.Common.{◌≡◌, ℕ, ◌+◌, ◌-◌, ◌≤◌, Bool, true, false, ◌&&◌, Option, List, [], ◌∷◌}
use Rattle.std.proofs.Common.{◌++◌, length, take, drop, refl, ap, sym, ◌∙◌, append_assoc, arith}
use Rattle.std.specs.Prelude.{MatchResult, nat_eq, Result, Ok, Err}
use Rattle.std.specs.Cmp.Lexicographic.{pointwise}
use Rattle.std.specs.Io.KnownBytes.{Appends}
use Rattle.std.proofs.KnownBytes.{Appends-trans}
use Rattle.std.proofs.lemmas.List.{drop-append-le, take-append-le, take-append-drop, length-drop}
use Rattle.std.proofs.Math.Seq.{drop-append-add}
use Rattle.rtr_units.specs.declared.fault.Fault.{Fault}
use Rattle.rtr_units.specs.Stream.{PutsForm, StopsWriting, WritesPart}
use Rattle.rtr_units.specs.StopCauses.{WriterState, writer_count}
use Rattle.rtr_units.specs.StopCauses.{by_cause}

-- a piece of the fixed part
pub part_front : (a b : List ℕ) (n k : ℕ) → n + k ≤ length a →
    take k (drop n (a ++ b)) ≡ take k (drop n a)
part_front a b n k h =
    ap (take k) (drop-append-le n a b (omega arith))
    ∙ take-append-le k (drop n a) b (omega (arith, length-drop n a))

-- a piece of a list, read off its front
pub part_of_take : (u a : List ℕ) (f n k : ℕ) → a ≡ take f u → length a ≡ f → n + k ≤ f →
    take k (drop n a) ≡ take k (drop n u)
part_of_take u a f n k is size h =
    let again : a ++ drop f u ≡ u = ap (λ (l : List ℕ). l ++ drop f u) is ∙ take-append-drop f u in
    sym (part_front a (drop f u) n k (omega (arith, size)))
    ∙ ap (λ (l : List ℕ). take k (drop n l)) again

-- what is left after a front that ends inside the second part
pub drop_joined : (h t : List ℕ) (n f : ℕ) → length h ≡ n → n ≤ f → drop f (h ++ t) ≡ drop (f - n) t
drop_joined h t n f l k =
    let sum : f ≡ length h + (f - n) = omega (arith, l) in
    ap (λ (m : ℕ). drop m (h ++ t)) sum ∙ drop-append-add h t (f - n)

-- the fixed part was written, and then the body was or was not
joined : {T : Type 0} (r : Result T Fault) (old mid new : Option (List ℕ)) (a b : List ℕ) →
    Appends old mid a →
    MatchResult r (λ x. Appends mid new b) (λ e. WritesPart (StopsWriting e) mid new b) →
    MatchResult r (λ x. Appends old new (a ++ b))
    (λ e. WritesPart (StopsWriting e) old new (a ++ b))
joined (Ok x) old mid new a b h k = Appends-trans old mid new a b h k
joined (Err e) old mid new a b h k = (
  a ++ k.0,
  k.1,
  Appends-trans old mid new a k.0 h k.2,
  ap (λ (l : List ℕ). a ++ l) k.3 ∙ sym (append_assoc a k.0 k.1),
  k.4,
  k.5,
)

pub both_put : {T : Type 0} (r : Result T Fault) (old mid new : WriterState) (a b : List ℕ) →
    Appends old.held mid.held a × (mid.failed ≡ old.failed) → PutsForm r mid new b →
    PutsForm r old new (a ++ b)
both_put r old mid new a b h k =
    (joined r old.held mid.held new.held a b h.0 k.0, k.1 ∙ ap (writer_count (by_cause r)) h.1)

-- lists of two parts are equal where their parts are
pub pointwise-append : (a c b d : List ℕ) → length a ≡ length c →
    pointwise nat_eq (a ++ b) (c ++ d) ≡ (pointwise nat_eq a c && pointwise nat_eq b d)
pointwise-append [] [] b d h = refl
pointwise-append [] (y ∷ c) b d h = absurd (omega arith)
pointwise-append (x ∷ a) [] b d h = absurd (omega arith)
pointwise-append (x ∷ a) (y ∷ c) b d h =
    ap (λ (t : Bool). nat_eq x y && t) (pointwise-append a c b d (omega arith))
    ∙ assoc (nat_eq x y) _ _
  where
    assoc : (p q r : Bool) → (p && (q && r)) ≡ (p && q && r)
    assoc true q r = refl
    assoc false q r = refl
