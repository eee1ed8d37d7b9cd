-- Texts that were added one after the other.
use Rattle.std.proofs.Common.{◌≡◌, ℕ, List, ◌++◌, decimal, Result, Ok, Err, OnOk}
use Rattle.std.proofs.Common.{sym, ap, ◌∙◌, append_assoc}
use Rattle.rtr_base.specs.Addresses.{PrefixParts}
use Rattle.rtr_base.specs.PlainTexts.{prefix_text}

-- a number after a label
pub number_said : (old new label : List ℕ) (k n : ℕ) → k ≡ n →
    new ≡ old ++ (label ++ decimal k) → new ≡ old ++ (label ++ decimal n)
number_said old new label k n e h = h ∙ ap (λ (m : ℕ). old ++ (label ++ decimal m)) e

-- a prefix and a number, each after a text
pub prefix_said : (old new before between : List ℕ) (p q : PrefixParts) (k n : ℕ) → p ≡ q →
    k ≡ n → new ≡ old ++ (before ++ prefix_text p ++ between ++ decimal k) →
    new ≡ old ++ (before ++ prefix_text q ++ between ++ decimal n)
prefix_said old new before between p q k n e f h =
    h ∙ ap (λ (x : PrefixParts). old ++ (before ++ prefix_text x ++ between ++ decimal k)) e
    ∙ ap (λ (m : ℕ). old ++ (before ++ prefix_text q ++ between ++ decimal m)) f

-- a text after another
pub then_said : (old mid new text more other : List ℕ) → more ≡ other → mid ≡ old ++ text →
    new ≡ mid ++ more → new ≡ old ++ (text ++ other)
then_said old mid new text more other same is adds =
    adds ∙ ap (λ (l : List ℕ). l ++ more) is ∙ append_assoc old text more
    ∙ ap (λ (l : List ℕ). old ++ (text ++ l)) same

-- two texts after another
pub then_both : (old mid new text label more : List ℕ) → mid ≡ old ++ text →
    new ≡ mid ++ (label ++ more) → new ≡ old ++ (text ++ label ++ more)
then_both old mid new text label more is adds =
    adds ∙ ap (λ (l : List ℕ). l ++ (label ++ more)) is ∙ append_assoc old text (label ++ more)
    ∙ ap (λ (l : List ℕ). old ++ l) (sym (append_assoc text label more))

-- a text after another, where it could be added
pub last_said : {T E : Type 0} (r : Result T E) (old mid new text more other : List ℕ) →
    more ≡ other → mid ≡ old ++ text → OnOk r (new ≡ mid ++ more) →
    OnOk r (new ≡ old ++ (text ++ other))
last_said (Ok x) old mid new text more other same is adds =
    then_said old mid new text more other same is adds
last_said (Err e) old mid new text more other same is adds = tt
