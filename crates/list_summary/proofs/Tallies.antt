-- Counters of units, after one more.
use Rattle.std.proofs.Common.{◌≡◌, ℕ, ◌+◌, ◌-◌, ◌^◌, ◌<◌, ◌≤◌, min, cond, List, ◌∷◌, ◌++◌, length}
use Rattle.std.proofs.Common.{get_or, set, Option, Some, None, sym, ap, ◌∙◌, arith}
use Rattle.std.proofs.Common.{length-set, append_assoc, add-one, Bool, true, false, refl}
use Rattle.std.specs.Prelude.{◌==◌, if◌then◌else◌}
use Rattle.std.specs.BTreeMap.{is_at}
use Rattle.std.specs.Option.{unwrap_or}
use Rattle.std.specs.Ordering.{nat_cmp}
use Rattle.std.proofs.lemmas.Bool.Decides.{nat_tests}
use Rattle.std.proofs.lemmas.Grind.{common_steps, get_or-set_at}
use Rattle.std.proofs.lemmas.List.Sums.{count_by-le-length, sum_by-cons}
use Rattle.unit_any.specs.AnyFields.{AnyFields}
use Rattle.list_summary.specs.PrivateTallies.{CountsAs, HasCounted, HasTallied, as_count, raised}
use Rattle.list_summary.specs.Summaries.{announced_as, is_number, length_line, length_lines, tally}
use Rattle.list_summary.specs.declared.as_counts.AsCounts.{AsCounts}

-- one counter, after one more of a number
one_more : (counts : List ℕ) (n k t m : ℕ) → length counts ≡ 256 → k < 256 →
    get_or counts k 0 ≡ t → t ≤ m → m < 2 ^ 64 - 1 →
    get_or (set counts n (min (get_or counts n 0 + 1) (2 ^ 64 - 1))) k 0 ≡ cond (n == k) 1 0 + t
one_more counts n k t m long below is most room =
    grind (arith, common_steps, nat_tests, get_or-set_at)

tally_cons : (number : AnyFields → Option ℕ) (unit : AnyFields) (units : List AnyFields) (k : ℕ) →
    tally number (unit ∷ units) k
    ≡ cond (is_number (number unit) k) 1 0 + tally number units k
tally_cons number unit units k =
    sum_by-cons (λ (u : AnyFields). cond (is_number (number u) k) 1 0) unit units

-- all of them, after one unit more whose number is there or isn't
pub tallied_more : (number : AnyFields → Option ℕ) (counts raised_counts : List ℕ)
    (units : List AnyFields) (unit : AnyFields) (o : Option ℕ) → number unit ≡ o →
    raised_counts ≡ raised counts o → length units < 2 ^ 64 - 1 →
    HasTallied number counts units → HasTallied number raised_counts (unit ∷ units)
tallied_more number counts next units unit None is rises room h = record {
  long = ap (λ (l : List ℕ). length l) rises ∙ h.long;
  each = λ k below.
      let same : get_or counts k 0 ≡ 0 + tally number units k = omega (arith, h.each k below) in
      ap (λ (l : List ℕ). get_or l k 0) rises ∙ (same
      ∙ ap (λ (o : Option ℕ). cond (is_number o k) 1 0 + tally number units k) (sym is)
      ∙ sym (tally_cons number unit units k));
}
tallied_more number counts next units unit (Some n) is rises room h = record {
  long =
      ap (λ (l : List ℕ). length l) rises
      ∙ length-set counts n (min (get_or counts n 0 + 1) (2 ^ 64 - 1)) ∙ h.long;
  each = λ k below.
      ap (λ (l : List ℕ). get_or l k 0) rises
      ∙ one_more counts n k (tally number units k) (length units) h.long below (h.each k below)
      (count_by-le-length (λ u. is_number (number u) k) units) room
      ∙ ap (λ (o : Option ℕ). cond (is_number o k) 1 0 + tally number units k) (sym is)
      ∙ sym (tally_cons number unit units k);
}

-- the counters of ASes, after one unit more
one_as : (ases : ℕ → ℕ) (n k t m : ℕ) → ases k ≡ t → t ≤ m → m < 2 ^ 64 - 1 →
    (if n == k then min (ases n + 1) (2 ^ 64 - 1) else ases k) ≡ cond (n == k) 1 0 + t
one_as ases n k t m is most room = grind (arith, nat_tests)

pub counted_more : (units : List AnyFields) (unit : AnyFields) (o : Option ℕ)
    (old new : AsCounts) → announced_as unit ≡ o → CountsAs o old new →
    length units < 2 ^ 64 - 1 → HasCounted old units → HasCounted new (unit ∷ units)
counted_more units unit None old new is more room h whole k =
    let same : as_count new.counts k ≡ 0 + tally announced_as units k =
    omega (arith, more.each whole k, h (more.whole whole) k) in
    same ∙ ap (λ (o : Option ℕ). cond (is_number o k) 1 0 + tally announced_as units k) (sym is)
    ∙ sym (tally_cons announced_as unit units k)
counted_more units unit (Some n) old new is more room h whole k =
    more.each whole k
    ∙ one_as (as_count old.counts) n k (tally announced_as units k) (length units)
    (h (more.whole whole) k) (count_by-le-length (λ u. is_number (announced_as u) k) units) room
    ∙ ap (λ (o : Option ℕ). cond (is_number o k) 1 0 + tally announced_as units k) (sym is)
    ∙ sym (tally_cons announced_as unit units k)

-- one more of an AS in a map of counters
same_test : (n k : ℕ) → is_at (nat_cmp n) k ≡ (n == k)
same_test n k = grind (arith, nat_tests)

by_test : (b : Bool) (n : ℕ) (o : Option ℕ) →
    unwrap_or (cond b (Some n) o) 0 ≡ (if b then n else unwrap_or o 0)
by_test true n o = refl
by_test false n o = refl

pub counted_once : (asn k before after : ℕ) (found was now : Option ℕ) →
    now ≡ cond (is_at (nat_cmp asn) k) (Some after) was → before ≡ unwrap_or found 0 →
    after ≡ min (before + 1) (2 ^ 64 - 1) → unwrap_or now 0 ≡
    (if asn == k then min (unwrap_or found 0 + 1) (2 ^ 64 - 1) else unwrap_or was 0)
counted_once asn k before after found was now is had more =
    ap (λ o. unwrap_or o 0) is
    ∙ ap (λ b. unwrap_or (cond b (Some after) was) 0) (same_test asn k)
    ∙ by_test (asn == k) after was
    ∙ ap (λ n. if asn == k then n else unwrap_or was 0)
    (more ∙ ap (λ n. min (n + 1) (2 ^ 64 - 1)) had)

-- lines of lengths, and one more
pub lengths_more : (name : List ℕ) (lengths : ℕ → ℕ) (n : ℕ) (start before after : List ℕ) →
    before ≡ start ++ length_lines name lengths n →
    after ≡ before ++ length_line name n (lengths n) →
    after ≡ start ++ length_lines name lengths (n + 1)
unfolding length_lines
lengths_more name lengths n start before after is adds =
    rw add-one
    (adds ∙ ap (λ (l : List ℕ). l ++ length_line name n (lengths n)) is
    ∙ append_assoc start (length_lines name lengths n) (length_line name n (lengths n)))
