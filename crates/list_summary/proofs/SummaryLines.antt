-- The lines of numbers that are those of units.
use Rattle.std.proofs.Common.{◌≡◌, ℕ, ◌<◌, ◌≤◌, List, [], ◌++◌, suc, zero, Bool, refl, ap, ◌∙◌}
use Rattle.std.proofs.Common.{◌^◌, arith, slice_index, take, true}
use Rattle.std.specs.List.{flat_map}
use Rattle.std.specs.Prelude.{◌==◌, if◌then◌else◌}
use Rattle.unit_any.specs.AnyFields.{AnyFields}
use Rattle.list_summary.specs.PrivateTallies.{Sums, as_count, numbers_text}
use Rattle.list_summary.specs.Summaries.{all_length_lines, announced_as, as_line, as_lines}
use Rattle.list_summary.specs.Summaries.{key_lines, kind_lines, ranked, ranking, tally}
use Rattle.list_summary.specs.Summaries.{length_line, length_lines, number_lines, other_lines}
use Rattle.list_summary.specs.Summaries.{prefix_lines, query_lines, summary_text}
use Rattle.list_summary.specs.declared.summary.Summary.{Summary}

abbrev Same : (f g : ℕ → ℕ) → Type 0
Same f g = (k : ℕ) → k < 256 → f k ≡ g k

module _ (a b f g : ℕ → ℕ) (h : Same a b) (k : Same f g) where
  queries_same : query_lines f ≡ query_lines g
  unfolding query_lines
  queries_same =
      cc (k 0 (omega arith), k 1 (omega arith), k 2 (omega arith), k 3 (omega arith))

  prefixes_same : prefix_lines a f ≡ prefix_lines b g
  unfolding prefix_lines
  prefixes_same =
      cc (h 4 (omega arith), k 4 (omega arith), h 6 (omega arith), k 6 (omega arith))

  keys_same : key_lines a f ≡ key_lines b g
  unfolding key_lines
  keys_same =
      cc (h 9 (omega arith), k 9 (omega arith), h 11 (omega arith), k 11 (omega arith))

  others_same : other_lines f ≡ other_lines g
  unfolding other_lines
  others_same = cc (k 7 (omega arith), k 8 (omega arith), k 10 (omega arith))

  kinds_same : kind_lines a f ≡ kind_lines b g
  unfolding kind_lines
  kinds_same = cc (queries_same, prefixes_same, keys_same, others_same)

lengths_same : (name : List ℕ) (f g : ℕ → ℕ) → Same f g → (n : ℕ) → n ≤ 256 →
    length_lines name f n ≡ length_lines name g n
unfolding length_lines
lengths_same name f g h zero most = refl
lengths_same name f g h (suc n) most =
    ap (λ (l : List ℕ). l ++ length_line name n (f n))
    (lengths_same name f g h n (omega arith))
    ∙ ap (λ (c : ℕ). length_lines name g n ++ length_line name n c) (h n (omega arith))

all_lengths_same : (a b f g : ℕ → ℕ) → Same a b → Same f g →
    all_length_lines a f ≡ all_length_lines b g
unfolding all_length_lines
all_lengths_same a b f g h k =
    cc (lengths_same _ a b h 256 (omega arith), lengths_same _ f g k 256 (omega arith))

ranking_same : (f g : ℕ → ℕ) → ((k : ℕ) → f k ≡ g k) → (n : ℕ) → ranking f n ≡ ranking g n
unfolding ranking
ranking_same f g h zero = refl
ranking_same f g h (suc n) =
    ap (λ (c : ℕ). if c == 0 then ranking f n else ranked (n, c) (ranking f n)) (h n)
    ∙ ap (λ (l : List (ℕ × ℕ)). if g n == 0 then l else ranked (n, g n) l)
    (ranking_same f g h n)

ases_same : (f g : ℕ → ℕ) → ((k : ℕ) → f k ≡ g k) → as_lines f ≡ as_lines g
unfolding as_lines
ases_same f g h =
    ap (λ (l : List (ℕ × ℕ)). flat_map as_line (take 10 l)) (ranking_same f g h (2 ^ 32))

pub numbers_same : (complete : Bool) (s : Summary) (units : List AnyFields) → Sums s units →
    s.answers.is_whole ≡ true → s.ases.is_whole ≡ true →
    numbers_text complete s ≡ summary_text complete units
unfolding number_lines
numbers_same complete s units h answered whole =
    let kinds = kinds_same (slice_index s.announced.counts) _ (slice_index s.others.counts) _
    h.announced.each h.others.each in
    let lengths = all_lengths_same (slice_index s.v4_lengths.counts) _
    (slice_index s.v6_lengths.counts) _ h.v4_lengths.each h.v6_lengths.each in
    let ases = ases_same (as_count s.ases.counts) (tally announced_as units) (h.ases whole) in
    cc (kinds, h.answers.lines answered, lengths, ases, h.bytes, h.count)

-- the text of these numbers, which was added to nothing
pub text_same : (complete told : Bool) (s : Summary) (units : List AnyFields)
    (start line text : List ℕ) → Sums s units → start ≡ [] → told ≡ complete →
    s.answers.is_whole ≡ true → s.ases.is_whole ≡ true → line ≡ start ++ numbers_text told s →
    text ≡ line → text ≡ summary_text complete units
text_same complete told s units start line text h none is answered whole adds same =
    same ∙ adds ∙ ap (λ (l : List ℕ). l ++ numbers_text told s) none
    ∙ ap (λ (b : Bool). numbers_text b s) is ∙ numbers_same complete s units h answered whole
