-- Where the end of data stands in data in canonical form.
use Rattle.std.proofs.Common.{◌≡◌, ◌<◌, ◌+◌, ◌++◌, ◌∙◌, ℕ, List, [], ◌∷◌, Option, Some, None}
use Rattle.std.proofs.Common.{arith, ap, drop, length, map, refl, slice_index, subst, sym, take}
use Rattle.std.proofs.Common.{◌↔◌, append-nil, append_assoc, inl, inr}
use Rattle.std.proofs.lemmas.List.{drop_at, length-append, take_at}
use Rattle.rtr_units.specs.End.{EndMeaning, HasTimingOf, IsEndMeaning, end_list, timed_list}
use Rattle.rtr_base.specs.declared.timing.Timing.{Timing}
use Rattle.rtr_payload.specs.Payloads.{Payload, origin, key, aspa}
use Rattle.rtr_payload.specs.Units.{form}
use Rattle.data_memory.specs.Data.{announcement}
use Rattle.data_memory.specs.Deltas.{change_forms}
use Rattle.data_slices.specs.Apply.{data_form}
use Rattle.rtr_c.specs.DataEnds.{end_offset, end_size}

-- ---- how long an end of data is

by_timing : (v s q : ℕ) (t : Option Timing) → HasTimingOf v t →
    length (timed_list v s q t) ≡ end_size v
by_timing v s q None is =
    subst (λ w. length (timed_list w s q None) ≡ end_size w) (sym is) (omega arith)
by_timing v s q (Some t) (inl is, a, b, c) =
    subst (λ w. length (timed_list w s q (Some t)) ≡ end_size w) (sym is) (omega arith)
by_timing v s q (Some t) (inr is, a, b, c) =
    subst (λ w. length (timed_list w s q (Some t)) ≡ end_size w) (sym is) (omega arith)

end_length : (e : EndMeaning) → IsEndMeaning e → length (end_list e) ≡ end_size e.version
end_length e h = by_timing e.version e.session e.serial e.timing h.timing

-- ---- that the first byte is the version

first_of_end : (v s q : ℕ) (t : Option Timing) (rest : List ℕ) →
    slice_index (timed_list v s q t ++ rest) 0 ≡ v
first_of_end v s q None rest = refl
first_of_end v s q (Some t) rest = refl

-- and that a unit has a byte
first_of_form : (v f : ℕ) (p : Payload) (rest : List ℕ) →
    (slice_index (form v f p ++ rest) 0 ≡ v) × (0 < length (form v f p ++ rest))
first_of_form v f (origin o) rest = (refl, omega arith)
first_of_form v f (key k) rest = (refl, omega arith)
first_of_form v f (aspa a) rest = (refl, omega arith)

abbrev forms : List Payload → EndMeaning → List ℕ
forms d e = change_forms e.version (map announcement d)

first_of_data : (d : List Payload) (e : EndMeaning) → slice_index (data_form d e) 0 ≡ e.version
first_of_data [] e =
    ap (λ l. slice_index l 0) (sym (append-nil (end_list e)))
    ∙ first_of_end e.version e.session e.serial e.timing []
first_of_data (p ∷ d) e =
    ap (λ l. slice_index l 0) (append_assoc (form e.version 1 p) (forms d e) (end_list e))
    ∙ (first_of_form e.version 1 p (forms d e ++ end_list e)).0

-- ---- where it stands

module _ (b : List ℕ) (d : List Payload) (e : EndMeaning) (fits : IsEndMeaning e)
    (is : b ≡ data_form d e) where
  pub offset : end_offset b ≡ length (forms d e)
  offset =
      let size : end_size (slice_index b 0) ≡ length (end_list e) =
      ap (λ l. end_size (slice_index l 0)) is ∙ ap end_size (first_of_data d e)
      ∙ sym (end_length e fits) in
      let all : length b ≡ length (forms d e) + length (end_list e) =
      ap length is ∙ length-append (forms d e) (end_list e) in
      omega (arith, size, all)

  pub payloads_before : take (end_offset b) b ≡ forms d e
  payloads_before =
      (λ i. take (offset i) (is i)) ∙ take_at (forms d e) (end_list e) (length (forms d e)) refl

  pub end_after : drop (end_offset b) b ≡ end_list e
  end_after =
      (λ i. drop (offset i) (is i)) ∙ drop_at (forms d e) (end_list e) (length (forms d e)) refl

no_forms : (d : List Payload) (e : EndMeaning) → length (forms d e) ≡ 0 → d ≡ []
no_forms [] e none = refl
no_forms (p ∷ d) e none =
    absurd (omega (arith, none, (first_of_form e.version 1 p (forms d e)).1))

pub none_before : (b : List ℕ) (d : List Payload) (e : EndMeaning) → IsEndMeaning e →
    b ≡ data_form d e → (end_offset b ≡ 0) ↔ (d ≡ [])
none_before b d e fits is = (
  λ none. no_forms d e (sym (offset b d e fits is) ∙ none),
  λ none. offset b d e fits is ∙ ap (λ l. length (forms l e)) none,
)
