-- Units one after the other, of which the machine is told.
use native.Mathlib.Omega.{arith}
use Rattle.std.proofs.Common.{◌≡◌, ◌≢◌, ℕ, ◌+◌, ◌<◌, ◌≤◌, true, List, [], length, take, drop, sym}
use Rattle.std.proofs.Common.{subst}
use Rattle.std.proofs.Math.Seq.{take-add}
use Rattle.std.proofs.lemmas.List.{drop-take, length-drop, length-take-le}
use Rattle.session_router.specs.declared.event.Action.{Action}
use Rattle.session_router.specs.declared.event.Action.TheVariants as actions
use Rattle.session_router.specs.declared.router.Router.{Router}
use Rattle.session_bytes.specs.Heads.{HasHead}
use Rattle.session_bytes.specs.PrivateReading.{Comes, begins_payload}
use Rattle.session_bytes.proofs.Alone.{ends_alone, reading}
use Rattle.session_bytes.specs.Reading.{Acts, KeepsAll, kept_none, kept_more}

pub keeps_first : (n : ℕ) (r : Router) (input : List ℕ) (size : ℕ) (r' : Router) →
    Comes r n input actions.Keep size r' → KeepsAll n r (take size input) r'
keeps_first n r input size r' c =
    kept_more r [] (take size input) r c.head r' (kept_none r) c.unit c.step

pub keeps_on : (n : ℕ) (r mid r' : Router) (input : List ℕ) (k size : ℕ) →
    KeepsAll n r (take k input) mid → Comes mid n (drop k input) actions.Keep size r' →
    KeepsAll n r (take (k + size) input) r'
keeps_on n r mid r' input k size kept c =
    subst (λ b. KeepsAll n r b r') (sym (take-add k size input))
    (kept_more r (take k input) (take size (drop k input)) mid c.head r' kept c.unit c.step)

-- a unit after k bytes ends before the input does
pub within : (mid r' : Router) (n : ℕ) (input : List ℕ) (a : Action) (k size : ℕ) →
    k ≤ length input → Comes mid n (drop k input) a size r' → k + size ≤ length input
within mid r' n input a k size start c =
    let left = length-drop k input in
    omega (arith, start, left, c.within)

pub acts_on : (n : ℕ) (r mid r' : Router) (input : List ℕ) (a : Action) (k size : ℕ) →
    0 < k → k ≤ length input → KeepsAll n r (take k input) mid →
    begins_payload (drop k input) ≡ true → Comes mid n (drop k input) a size r' →
    a ≢ actions.Keep → Acts r n input k (k + size) a r'
acts_on n r mid r' input a k size some start kept begun c other = record {
  before = mid;
  kept = kept;
  head = c.head;
  unit = subst (λ b. HasHead b c.head) (sym (drop-take k size input)) c.unit;
  order = omega (arith, c.some);
  within = within mid r' n input a k size start c;
  step = c.step;
  other = other;
  alone = λ more.
      let all = length-take-le k input start in
      let here : 0 < length (take k input) = omega (arith, some, all) in
      ends_alone n mid r' (drop k input) a size (reading n r (take k input) mid kept here) begun c
      other;
}

pub acts_first : (n : ℕ) (r r' : Router) (input : List ℕ) (a : Action) (size : ℕ) →
    Comes r n input a size r' → a ≢ actions.Keep → Acts r n input 0 size a r'
acts_first n r r' input a size c other = record {
  before = r;
  kept = kept_none r;
  head = c.head;
  unit = c.unit;
  order = c.some;
  within = c.within;
  step = c.step;
  other = other;
  alone = λ some. absurd (omega (arith, some));
}
