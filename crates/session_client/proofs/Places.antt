-- Pieces of buffers.
use native.Mathlib.Omega.{arith}
use Rattle.std.proofs.Common.{◌≡◌, ℕ, ◌+◌, ◌-◌, ◌<◌, ◌≤◌, List, ◌++◌, length, take, drop, sym, ap}
use Rattle.std.proofs.Common.{◌∙◌, append_assoc, length-append, length-drop}
use Rattle.std.proofs.Math.Seq.{take-add}
use Rattle.std.proofs.lemmas.List.{drop-take, drop_at, length-take-le, take_at}
use Rattle.std.proofs.lemmas.List.{drop-drop, take-take}
use Rattle.session_client.specs.Said.{PutsBehind}

pub moved : (old : List ℕ) (from to filled : ℕ) → from ≤ to → to ≤ filled →
    filled ≤ length old →
    take (filled - to)
    (drop from (take from old ++ take (filled - to) (drop to old) ++ drop (from + (filled - to))
    old))
    ≡ drop to (take filled old)
moved old from to filled order some within =
    let n = filled - to in
    let piece = take n (drop to old) in
    let tail = drop (from + n) old in
    let here : from ≤ length old = omega (arith, order, some, within) in
    let left = length-drop to old in
    let fits : n ≤ length (drop to old) = omega (arith, some, within, left) in
    let front = length-take-le from old here in
    let whole = length-take-le n (drop to old) fits in
    let sum : to + n ≡ filled = omega (arith, some) in
    ap (take n) (ap (drop from) (append_assoc (take from old) piece tail)
    ∙ drop_at (take from old) (piece ++ tail) from front)
    ∙ take_at piece tail n whole
    ∙ sym (drop-take to n old)
    ∙ ap (λ m. drop to (take m old)) sum

-- a piece that is placed behind what stands before it
pub puts : (piece before tail more rest : List ℕ) (at size : ℕ) → at ≤ length before →
    size ≡ length piece → tail ≡ piece ++ more →
    PutsBehind piece at (at + size) before (take at before ++ (tail ++ rest))
puts piece before tail more rest at size here long is =
    let front = length-take-le at before here in
    let all = length-append (take at before) (tail ++ rest) in
    let of_both = length-append tail rest in
    let of_tail = ap length is ∙ length-append piece more in
    let both = length-append (take at before) piece in
    let size_is : length (take at before ++ piece) ≡ at + size =
    omega (arith, both, front, long) in
    let parts : take at before ++ (tail ++ rest) ≡ (take at before ++ piece) ++ (more ++ rest) =
    ap (λ l. take at before ++ (l ++ rest)) is
    ∙ ap (λ l. take at before ++ l) (append_assoc piece more rest)
    ∙ sym (append_assoc (take at before) piece (more ++ rest)) in (
      ap (λ n. at + n) long,
      omega (arith, front, all, of_both, of_tail, long),
      ap (take (at + size)) parts
          ∙ take_at (take at before ++ piece) (more ++ rest) (at + size) size_is,
    )

-- where there is room for a report, nothing lacks room
pub no_room : (piece out : List ℕ) (at : ℕ) → at + 65535 ≤ length out → length piece ≤ 65535 →
    length (take (length out - at) (drop at out)) < length piece → ⊥
no_room piece out at room short less =
    let left = length-drop at out in
    let fits : length out - at ≤ length (drop at out) = omega (arith, left) in
    let all = length-take-le (length out - at) (drop at out) fits in
    omega (arith, room, short, less, all)

-- what is kept, and a front of what follows it
pub joined : (input : List ℕ) (kept start filled : ℕ) → kept + start ≤ filled →
    take kept input ++ take start (drop kept (take filled input)) ≡ take (kept + start) input
joined input kept start filled within =
    let here : kept ≤ filled = omega (arith, within) in
    ap (λ l. l ++ take start (drop kept (take filled input)))
    (sym (take-take kept filled input here))
    ∙ sym (take-add kept start (take filled input))
    ∙ take-take (kept + start) filled input within

-- a unit in what follows what is kept
pub unit_there : (input : List ℕ) (kept start end filled : ℕ) → start ≤ end →
    kept + end ≤ filled →
    drop start (take end (drop kept (take filled input)))
    ≡ take (end - start) (drop (kept + start) input)
unit_there input kept start end filled order within =
    let n = end - start in
    let sum : kept + end ≡ (kept + start) + n = omega (arith, order) in
    let m = filled - kept in
    let same : kept + m ≡ filled = omega (arith, within) in
    let fewer : end ≤ m = omega (arith, within) in
    let whole : start + n ≡ end = omega (arith, order) in
    ap (λ l. drop start (take end l))
    (ap (λ f. drop kept (take f input)) (sym same) ∙ drop-take kept m input)
    ∙ ap (drop start) (take-take end m (drop kept input) fewer)
    ∙ ap (λ e. drop start (take e (drop kept input))) (sym whole)
    ∙ drop-take start n (drop kept input)
    ∙ ap (take n) (dropped input start kept)
  where
    dropped : (l : List ℕ) (a b : ℕ) → drop a (drop b l) ≡ drop (b + a) l
    dropped l a b = drop-drop a b l

-- the end of data behind what is kept
pub last_of : (input : List ℕ) (kept size : ℕ) →
    drop kept (take (kept + size) input) ≡ take size (drop kept input)
last_of input kept size = drop-take kept size input

pub answer_of : (input units : List ℕ) (kept size : ℕ) → units ≡ take kept input →
    take (kept + size) input ≡ units ++ take size (drop kept input)
answer_of input units kept size are =
    take-add kept size input ∙ ap (λ l. l ++ take size (drop kept input)) (sym are)

-- ---- what isn't told yet

-- what follows a place of what isn't told yet
pub later : (input : List ℕ) (kept n filled : ℕ) →
    drop (kept + n) (take filled input) ≡ drop n (drop kept (take filled input))
later input kept n filled = sym (drop-drop n kept (take filled input))

-- what was moved to a place, and nothing behind it
pub moved_there : (old new : List ℕ) (from to filled filled' : ℕ) → to ≤ filled →
    filled' ≡ from + (filled - to) →
    take (filled - to) (drop from new) ≡ drop to (take filled old) →
    drop from (take filled' new) ≡ drop to (take filled old)
moved_there old new from to filled filled' some size is =
    ap (λ f. drop from (take f new)) size ∙ drop-take from (filled - to) new ∙ is
