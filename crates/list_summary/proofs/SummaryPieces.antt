-- Pieces of a summary that were added one after the other.
use Rattle.std.proofs.Common.{◌≡◌, ℕ, List, ◌++◌, Result, Ok, Err, OnOk, ap, ◌∙◌, append_assoc}
use Rattle.list_summary.specs.Summaries.{count_line}

-- a count that is the one that is meant
pub count_said : (old new name : List ℕ) (k n : ℕ) → k ≡ n → new ≡ old ++ count_line name k →
    new ≡ old ++ count_line name n
count_said old new name k n e h = h ∙ ap (λ m. old ++ count_line name m) e

-- the same where it could be added
pub count_last : {T E : Type 0} (r : Result T E) (old new name : List ℕ) (k n : ℕ) → k ≡ n →
    OnOk r (new ≡ old ++ count_line name k) → OnOk r (new ≡ old ++ count_line name n)
count_last (Ok x) old new name k n e h = count_said old new name k n e h
count_last (Err x) old new name k n e h = tt

joined : (l m n a b : List ℕ) → m ≡ l ++ a → n ≡ m ++ b → n ≡ l ++ (a ++ b)
joined l m n a b is adds = adds ∙ ap (λ (k : List ℕ). k ++ b) is ∙ append_assoc l a b

two_said : {T E : Type 0} (r : Result T E) (l m n a b : List ℕ) → m ≡ l ++ a →
    OnOk r (n ≡ m ++ b) → OnOk r (n ≡ l ++ (a ++ b))
two_said (Ok x) l m n a b is adds = joined l m n a b is adds
two_said (Err e) l m n a b is adds = tt

pub three_said : {T E : Type 0} (r : Result T E) (l m n o a b c : List ℕ) → m ≡ l ++ a →
    n ≡ m ++ b → OnOk r (o ≡ n ++ c) → OnOk r (o ≡ l ++ (a ++ b ++ c))
three_said r l m n o a b c is more adds =
    two_said r l n o (a ++ b) c (joined l m n a b is more) adds

pub four_said : {T E : Type 0} (r : Result T E) (l m n o p a b c d : List ℕ) → m ≡ l ++ a →
    n ≡ m ++ b → o ≡ n ++ c → OnOk r (p ≡ o ++ d) → OnOk r (p ≡ l ++ (a ++ b ++ c ++ d))
four_said r l m n o p a b c d is more next adds =
    two_said r l o p (a ++ b ++ c) d
    (joined l n o (a ++ b) c (joined l m n a b is more) next) adds
