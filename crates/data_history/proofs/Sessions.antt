-- Sessions that were left, as bytes.
use Rattle.std.proofs.Common.{◌≡◌, ◌≢◌, ◌≤◌, ◌<◌, ◌+◌, ◌*◌, ◌^◌, ℕ, List, [], ◌∷◌, ◌++◌, inl, inr}
use Rattle.std.proofs.Common.{Some, drop, length, take, refl, sym, ap, subst, ◌∙◌, arith}
use Rattle.std.proofs.Common.{append-nil, append_assoc}
use Rattle.std.proofs.Common.{slice_index}
use Rattle.std.proofs.Common.{false, true}
use Rattle.std.proofs.lemmas.Bool.{cases_lt}
use Rattle.std.proofs.lemmas.List.{length-append, take_at}
use Rattle.rtr_base.specs.Bytes.{be}
use Rattle.rtr_base.proofs.Numbers.{length-be}
use Rattle.data_slices.specs.Canonical.{PlacesFront}
use Rattle.data_history.specs.Parts.{HasPart, head_bytes, part_bytes, part_form, part_rest}
use Rattle.data_history.specs.Snapshots.{HoldsHistory, Snapshot}
use Rattle.data_history.specs.Store.{HoldsStore, IsAmong, IsTaken, MayFollow, left_sessions}
use Rattle.data_history.specs.Store.{sessions_of}
use Rattle.data_history.proofs.Parts.{formed}

-- ---- the numbers

pub none_of_few : (s : ℕ) (b : List ℕ) → length b < 2 → IsAmong s (sessions_of b) → ⊥
none_of_few s [] few among = among
none_of_few s (h ∷ []) few among = among
none_of_few s (h ∷ l ∷ b) few among = absurd (omega (arith, few))

pub first_session : (b : List ℕ) → 2 ≤ length b →
    sessions_of b ≡ (256 * slice_index b 0 + slice_index b 1) ∷ sessions_of (drop 2 b)
first_session [] few = absurd (omega (arith, few))
first_session (h ∷ []) few = absurd (omega (arith, few))
first_session (h ∷ l ∷ b) few = refl

-- a number of two bytes
pub two_bytes : (s : ℕ) (b : List ℕ) → s < 2 ^ 16 → sessions_of (be s 2 ++ b) ≡ s ∷ sessions_of b
two_bytes s b lt = ap (λ n. n ∷ sessions_of b) (omega arith)

-- ---- the store

pub record IsStoreOf (b sessions history : List ℕ) : Type 0 where
  pub form : b ≡ part_form 0 sessions ++ history
  pub first : HasPart b
  pub left : left_sessions b ≡ sessions_of sessions
  pub rest : part_rest b ≡ history

-- what was written is a store
pub placed : (n : ℕ) (last left history before after : List ℕ) →
    length last + length left < 2 ^ 64 →
    PlacesFront (Some n) (((head_bytes 0 (length last + length left) ++ last) ++ left) ++ history)
    before after → IsStoreOf (take n after) (last ++ left) history
unfolding left_sessions
placed n last left history before after lt (size, within, out) =
    let head = head_bytes 0 (length last + length left) in
    let form = ((head ++ last) ++ left) ++ history in
    let front : take n after ≡ form = ap (take n) out ∙ take_at form (drop n before) n (sym size) in
    let sizes : length last + length left ≡ length (last ++ left) = sym (length-append last left) in
    let joined : form ≡ part_form 0 (last ++ left) ++ history =
    ap (λ l. l ++ history) (append_assoc head last left)
    ∙ ap (λ m. (head_bytes 0 m ++ (last ++ left)) ++ history) sizes in
    let p = formed 0 (last ++ left) history (omega arith) (omega (arith, lt, sizes)) in
    let is = front ∙ joined in
    record {
      form = is;
      first = subst HasPart (sym is) p.has;
      left = ap (λ b. sessions_of (part_bytes b)) is ∙ ap sessions_of p.bytes;
      rest = ap part_rest is ∙ p.rest;
    }

-- and this is its size
pub placed_size : (n : ℕ) (last left history before after : List ℕ) →
    PlacesFront (Some n) (((head_bytes 0 (length last + length left) ++ last) ++ left) ++ history)
    before after → n ≡ 16 + length last + length left + length history
unfolding head_bytes
placed_size n last left history before after (size, within, out) =
    let sum = length last + length left in
    let head = head_bytes 0 sum in
    omega (
      arith,
      size,
      length-append ((head ++ last) ++ left) history,
      length-append (head ++ last) left,
      length-append head last,
      length-append (be 0 8) (be sum 8),
      length-be 0 8,
      length-be sum 8,
    )

-- an output into which it isn't written is shorter
pub lacks : (out size : ℕ) → (size ≤ out → false ≡ true) → out < size
lacks out size enough =
    elim (cases_lt out size) [
      | inl lt ↦ lt
      | inr le ↦ let wrong = enough le in absurd cc
    ]

-- the store of a history whose cache left no session
pub placed_none : (n : ℕ) (history before after : List ℕ) →
    PlacesFront (Some n) (head_bytes 0 0 ++ history) before after →
    IsStoreOf (take n after) [] history
unfolding left_sessions
placed_none n history before after (size, within, out) =
    let form = head_bytes 0 0 ++ history in
    let front : take n after ≡ form = ap (take n) out ∙ take_at form (drop n before) n (sym size) in
    let joined : form ≡ part_form 0 [] ++ history =
    ap (λ l. l ++ history) (sym (append-nil (head_bytes 0 0))) in
    let p = formed 0 [] history (omega arith) (omega arith) in
    let is = front ∙ joined in
    record {
      form = is;
      first = subst HasPart (sym is) p.has;
      left = ap (λ b. sessions_of (part_bytes b)) is ∙ ap sessions_of p.bytes;
      rest = ap part_rest is ∙ p.rest;
    }

pub holds_store : (b sessions history : List ℕ) (z : Snapshot) (zs : List Snapshot) →
    IsStoreOf b sessions history → HoldsHistory history z zs → HoldsStore b z zs
holds_store b sessions history z zs s h = record {
  first = s.first;
  history = subst (λ l. HoldsHistory l z zs) (sym s.rest) h;
}

-- the session goes on
pub stays : (b b' left history : List ℕ) (s t : ℕ) (x z : Snapshot) (ys zs : List Snapshot) →
    left ≡ part_bytes b → s ≡ t → IsStoreOf b' left history → HoldsStore b x ys →
    HoldsHistory history z zs → s ≡ x.end.session → t ≡ z.end.session → MayFollow z x →
    IsTaken b b' z x
unfolding left_sessions
stays b b' left history s t x z ys zs is same o h j present next may =
    let session : z.end.session ≡ x.end.session = sym next ∙ sym same ∙ present in
    record {
      front = zs;
      store = holds_store b' left history z zs o j;
      name = inl (record {
        session = session;
        later = may session;
        left = o.left ∙ ap sessions_of is;
      });
    }

-- another session begins
pub leaves : (b b' left history : List ℕ) (s t : ℕ) (x z : Snapshot) (ys zs : List Snapshot) →
    left ≡ part_bytes b → s < 2 ^ 16 → s ≢ t → (IsAmong t (sessions_of left) → ⊥) →
    IsStoreOf b' (be s 2 ++ left) history → HoldsStore b x ys → HoldsHistory history z zs →
    s ≡ x.end.session → t ≡ z.end.session → IsTaken b b' z x
unfolding left_sessions
leaves b b' left history s t x z ys zs is lt ne fresh o h j present next =
    record {
      front = zs;
      store = holds_store b' (be s 2 ++ left) history z zs o j;
      name = inr (record {
        session = λ e. ne (present ∙ sym e ∙ sym next);
        fresh = λ among. fresh (subst (λ l. IsAmong t (sessions_of l)) (sym is)
            (subst (λ n. IsAmong n (sessions_of (part_bytes b))) (sym next) among));
        left = o.left ∙ two_bytes s left lt ∙ (λ i. present i ∷ sessions_of (is i));
      });
    }

pub among_left : (b left : List ℕ) (t : ℕ) → left ≡ part_bytes b → IsAmong t (sessions_of left) →
    IsAmong t (left_sessions b)
unfolding left_sessions
among_left b left t is among = subst (λ l. IsAmong t (sessions_of l)) is among

pub left_among : (b left : List ℕ) (t : ℕ) → left ≡ part_bytes b → IsAmong t (left_sessions b) →
    IsAmong t (sessions_of left)
unfolding left_sessions
left_among b left t is among = subst (λ l. IsAmong t (sessions_of l)) (sym is) among
