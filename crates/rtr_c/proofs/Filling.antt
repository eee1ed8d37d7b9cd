-- Places that are filled, one unit after the other.
use Rattle.std.proofs.Common.{◌≡◌, ℕ, ◌+◌, ◌-◌, ◌<◌, ◌≤◌, List, [], ◌∷◌, ◌++◌, length, take, drop}
use Rattle.std.proofs.Common.{set, get_or, refl, sym, ap, subst, ◌∙◌, arith, Option, Some, None}
use Rattle.std.proofs.Common.{append_assoc, append-nil, length-append, Result, Ok, Err, inl, inr}
use Rattle.std.proofs.lemmas.List.{drop-drop, drop-set-lt, drop_at, drop_more, length-drop}
use Rattle.std.proofs.lemmas.List.{take-append-drop, take-set, drop-set, take_more_set}
use Rattle.std.proofs.lemmas.List.{take_all, drop_all}
use Rattle.rtr_base.specs.declared.timing.Timing.{Timing}
use Rattle.rtr_payload.specs.UnitFields.{prefix_unit, key_unit, aspa_unit}
use Rattle.unit_views.specs.declared.fault.ViewFault.{ViewFault}
use Rattle.unit_any.specs.AnyFields.{AnyFields, serial_notify, serial_query, reset_query}
use Rattle.unit_any.specs.AnyFields.{cache_response, payload, end_of_data, cache_reset}
use Rattle.unit_any.specs.AnyFields.{error_report}
use Rattle.rtr_c.specs.Answers.{rtr_ok}
use Rattle.rtr_c.proofs.Accepted.{fault_some}
use Rattle.rtr_c.specs.ManyShown.{ShowsMany, no_place_left, fault_shown, unit_shown}
use Rattle.rtr_c.specs.ShownUnits.{CallShows, ShowsFirst, timed}
use Rattle.rtr_c.specs.declared.unit.RtrUnit.{RtrUnit}

-- ---- one unit

timed_size : (t : Option Timing) (u : RtrUnit) → (timed t u).size ≡ u.size
timed_size None u = refl
timed_size (Some t) u = refl

-- what is shown of a unit says how long it is
shown_size : (b : List ℕ) (f : AnyFields) (u : RtrUnit) → CallShows b f u → u.size ≡ length b
shown_size b (serial_notify v s q) u is = ap (λ x. x.size) is
shown_size b (serial_query v s q) u is = ap (λ x. x.size) is
shown_size b (reset_query v s) u is = ap (λ x. x.size) is
shown_size b (cache_response v s) u is = ap (λ x. x.size) is
shown_size b (payload (prefix_unit f)) u is = ap (λ x. x.size) is
shown_size b (payload (key_unit f)) u is = ap (λ x. x.size) is
shown_size b (payload (aspa_unit f)) u is = ap (λ x. x.size) is
shown_size b (end_of_data e) u is = ap (λ x. x.size) is ∙ timed_size e.timing _
shown_size b (cache_reset v s) u is = ap (λ x. x.size) is
shown_size b (error_report v c body) u (inl (p, t, has, is)) = ap (λ x. x.size) is
shown_size b (error_report v c body) u (inr (none, is)) = ap (λ x. x.size) is

-- ---- the places

-- How the call ends from here is how it ends from its beginning, with the units shown before.
abbrev pub From : (input : List ℕ) (places units : List RtrUnit) (index count taken : ℕ) → Type 0
From input places units i m n =
    (now : List RtrUnit) (count taken code : ℕ)
    → ShowsMany (drop n input) (drop i units) now count taken code
    → ShowsMany input places (take i units ++ now) (m + count) (n + taken) code

-- the same, with lists and numbers said otherwise
same : {input : List ℕ} {places now now' : List RtrUnit} {m m' n n' code : ℕ} →
    ShowsMany input places now m n code → now ≡ now' → m ≡ m' → n ≡ n' →
    ShowsMany input places now' m' n' code
same {input} {places} {now} {now'} {m} {m'} {n} {n'} {code} s a b c =
    subst (λ x. ShowsMany input places x m' n' code) a
    (subst (λ x. ShowsMany input places now x n' code) b
    (subst (λ x. ShowsMany input places now m x code) c s))

module _ (input : List ℕ) (places units : List RtrUnit) (i m n : ℕ)
    (from : From input places units i m n) where
  -- all places are filled
  pub filled : length units ≤ i → ShowsMany input places units m n rtr_ok
  filled l = same (
      from [] 0 0 rtr_ok
      (subst (λ x. ShowsMany (drop n input) x [] 0 0 rtr_ok) (sym (drop_all i units l))
      (no_place_left (drop n input)))
      ) (append-nil (take i units) ∙ take_all i units l) (omega arith) (omega arith)

  module _ (u : RtrUnit) (inside : i < length units) where
    stops : (e : ViewFault) (code : ℕ) → ShowsFirst (Err e) (drop n input) u code →
        ShowsMany input places (set units i u) m n code
    stops e code shows = same (
        from (u ∷ drop (i + 1) units) 0 0 code
        (subst (λ x. ShowsMany (drop n input) x (u ∷ drop (i + 1) units) 0 0 code)
        (sym (drop_more units i u inside))
        (fault_shown (drop n input) e (get_or units i u) u (drop (i + 1) units) code shows))
        ) (
        ap (λ x. take i units ++ x) (sym (drop-set units i u inside))
        ∙ ap (λ x. x ++ drop i (set units i u)) (sym (take-set units i u))
        ∙ take-append-drop i (set units i u)
        ) (omega arith) (omega arith)

    -- a unit that isn't accepted ends the call
    pub ended : (r : Result (List ℕ × AnyFields) ViewFault) (code : ℕ) →
        ShowsFirst r (drop n input) u code → (code ≡ rtr_ok → ⊥) →
        ShowsMany input places (set units i u) m n code
    ended (Err e) code shows isn't = stops e code shows
    ended (Ok (b, f)) code (rest, is, has, order, shown, ok) isn't = absurd (isn't ok)

    goes_on : (b : List ℕ) (f : AnyFields) →
        ShowsFirst (Ok (b, f)) (drop n input) u rtr_ok →
        From input places (set units i u) (i + 1) (m + 1) (n + u.size)
    goes_on b f (rest, is, has, order, shown, ok) now c t k s =
        let size : u.size ≡ length b = shown_size b f u shown in
        let left : drop (n + u.size) input ≡ rest =
        sym (drop-drop u.size n input) ∙ ap (drop u.size) is ∙ drop_at b rest u.size (sym size) in
        let empty : drop (i + 1) (set units i u) ≡ drop (i + 1) units =
        drop-set-lt (i + 1) units i u (omega arith) in
        let others : ShowsMany rest (drop (i + 1) units) now c t k =
        subst (λ x. ShowsMany x (drop (i + 1) units) now c t k) left
        (subst (λ x. ShowsMany (drop (n + u.size) input) x now c t k) empty s) in
        let all : ShowsMany (b ++ rest) (get_or units i u ∷ drop (i + 1) units) (u ∷ now) (1 + c)
        (length b + t) k =
        unit_shown b rest f (get_or units i u) u (drop (i + 1) units) now c t k
        (rest, refl, has, order, shown, refl) others in
        same (
        from (u ∷ now) (1 + c) (length b + t) k
        (subst (λ x. ShowsMany (drop n input) x (u ∷ now) (1 + c) (length b + t) k)
        (sym (drop_more units i u inside))
        (subst (λ x. ShowsMany x (get_or units i u ∷ drop (i + 1) units) (u ∷ now) (1 + c)
        (length b + t) k) (sym is) all))
        ) (
        sym (append_assoc (take i units) (u ∷ []) now)
        ∙ sym (ap (λ x. x ++ now) (take_more_set units i u inside))
        ) (omega arith) (omega arith)

    abbrev pub Next : Type 0
    Next = (n + u.size ≤ length input)
        × From input places (set units i u) (i + 1) (m + 1) (n + u.size)

    -- one that is accepted doesn't
    pub next : n ≤ length input → (r : Result (List ℕ × AnyFields) ViewFault) (code : ℕ) →
        ShowsFirst r (drop n input) u code → code ≡ rtr_ok → Next
    next at (Err e) code (size, is, shown, told) ok = absurd (fault_some e (sym told ∙ ok))
    next at (Ok (b, f)) code (rest, is, has, order, shown, told) ok =
        let size : u.size ≡ length b = shown_size b f u shown in
        let whole : length (drop n input) ≡ length b + length rest =
        ap length is ∙ length-append b rest in
        let left : length (drop n input) ≡ length input - n = length-drop n input in
        (omega arith, goes_on b f (rest, is, has, order, shown, refl))
