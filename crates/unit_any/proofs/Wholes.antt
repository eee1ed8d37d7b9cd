-- Lists whose header is in order and says their length are the units, each with its fields.
use Rattle.std.proofs.Common.{◌≡◌, ℕ, ◌+◌, ◌≤◌, ◌⊎◌, List, ◌++◌, length, take, drop, get_or, Option}
use Rattle.std.proofs.Common.{Some, None, refl, sym, ap, subst, ◌∙◌, arith, inl, inr}
use Rattle.std.proofs.lemmas.Bool.Decides.{nat_tests}
use Rattle.std.proofs.lemmas.List.{take_at, drop_at}
use Rattle.rtr_base.specs.declared.timing.Timing.{Timing}
use Rattle.rtr_base.specs.Bytes.{be, value, IsBytes}
use Rattle.rtr_base.proofs.Numbers.{value-be}
use Rattle.rtr_units.specs.End.{HasTimingOf, timed_list}
use Rattle.rtr_units.specs.Header.{version_field, type_field, session_field, length_field}
use Rattle.rtr_units.proofs.Headers.{same_header}
use Rattle.rtr_units.specs.Reading.{IsWhole}
use Rattle.rtr_payload.specs.FirstFault.{header_fault}
use Rattle.rtr_payload.proofs.Frames.{Whole, shape_whole}
use Rattle.rtr_payload.proofs.Wholes.{whole_is}
use Rattle.unit_any.specs.AnyFields.{AnyFields, serial_notify, serial_query, reset_query}
use Rattle.unit_any.specs.AnyFields.{cache_response, payload, end_of_data, cache_reset}
use Rattle.unit_any.specs.AnyFields.{error_report, any_list, AnyFit, HasAnyFields}
use Rattle.unit_any.specs.SessionKinds.{any_header_fault, session_unit}
use Rattle.unit_any.specs.Reports.{IsReport}
use Rattle.unit_any.specs.AnyUnits.{serial_of, bare_of}
use Rattle.unit_any.proofs.Reports.{fields_report}
use Rattle.unit_any.proofs.Units.{notify_has, query_has, reset_query_has, response_has}
use Rattle.unit_any.proofs.Units.{cache_reset_has, payload_has, end_has, report_has}

-- ---- a unit is whole

-- the header of u is in order, and says its length
abbrev InOrder : List ℕ → Type 0
InOrder u = (session_unit.fault u ≡ None) × (length u ≡ length_field u)

payload_in_order : (v t g n : ℕ) → header_fault v t g n ≡ None → any_header_fault v t g n ≡ None
unfolding any_header_fault header_fault
payload_in_order v t g n e = grind (arith, nat_tests)

report_in_order : (v g n : ℕ) → 16 ≤ n → n ≤ 65535 → any_header_fault v 10 g n ≡ None
unfolding any_header_fault
report_in_order v g n least most = grind (arith, nat_tests)

end_whole : (v s q : ℕ) (t : Option Timing) → HasTimingOf v t → InOrder (timed_list v s q t)
unfolding any_header_fault header_fault
end_whole v s q None h = (rw h refl, refl)
end_whole v s q (Some t) h = (elim h.0 [ inl e ↦ rw e refl | inr e ↦ rw e refl ], refl)

list_whole : (f : AnyFields) → AnyFit f → IsBytes (any_list f) → InOrder (any_list f)
unfolding any_header_fault
list_whole (serial_notify v s q) fits bytes = (refl, refl)
list_whole (serial_query v s q) fits bytes = (refl, refl)
list_whole (reset_query v s) fits bytes = (refl, refl)
list_whole (cache_response v s) fits bytes = (refl, refl)
list_whole (payload f) fits bytes =
    let b = any_list (payload f) in
    let w =
    shape_whole b f (record { fits = fits.0; limits = fits.1; bytes = refl; are_bytes = bytes })
    in (
      payload_in_order (version_field b) (type_field b) (get_or b 2 0) (length_field b) w.in_order,
      sym w.size,
    )
list_whole (end_of_data e) fits bytes = end_whole e.version e.session e.serial e.timing fits.timing
list_whole (cache_reset v s) fits bytes = (refl, refl)
list_whole (error_report v c b) (small, least, most) bytes =
    let size : value (be (8 + length b) 4) ≡ 8 + length b =
    value-be (8 + length b) 4 (omega arith) in
    let all : length (any_list (error_report v c b)) ≡ 8 + length b = omega arith in
    let g = get_or (be c 2) 0 0 in (
      ap (any_header_fault v 10 g) size
          ∙ report_in_order v g (8 + length b) (omega arith) (omega arith),
      all ∙ sym size,
    )

pub eight_said : (v t g n : ℕ) → any_header_fault v t g n ≡ None → 8 ≤ n
unfolding any_header_fault header_fault
eight_said v t g n e = grind (arith, nat_tests)

pub any_whole : (b : List ℕ) (f : AnyFields) → HasAnyFields b f → IsWhole session_unit b
any_whole b f has =
    let o : InOrder b =
    subst InOrder (sym has.bytes) (list_whole f has.fits (subst IsBytes has.bytes has.are_bytes)) in
    record {
      header = omega (
        arith,
        o.1,
        eight_said (version_field b) (type_field b) (get_or b 2 0) (length_field b) o.0,
      );
      in_order = o.0;
      size = o.1;
      are_bytes = has.are_bytes;
    }

-- ---- and what is whole is a unit

pub kinds : (v t g n : ℕ) → any_header_fault v t g n ≡ None →
    ((t ≡ 0) × (n ≡ 12))
    ⊎ (((t ≡ 1) × (n ≡ 12))
    ⊎ (((t ≡ 2) × (n ≡ 8))
    ⊎ (((t ≡ 3) × (n ≡ 8))
    ⊎ (((t ≡ 8) × (n ≡ 8))
    ⊎ (((t ≡ 10) × (16 ≤ n) × (n ≤ 65535)) ⊎ (header_fault v t g n ≡ None))))))
unfolding any_header_fault
kinds v t g n e = grind (arith, nat_tests)

pub whole_any : (b : List ℕ) → IsWhole session_unit b → (f : AnyFields) × HasAnyFields b f
whole_any b w =
    let h = w.are_bytes in
    let size = w.size in
    elim (kinds (version_field b) (type_field b) (get_or b 2 0) (length_field b) w.in_order) [
      | inl (t, n) ↦ (
        serial_of serial_notify b,
        notify_has b (record { bytes = (size ∙ n, h); kind = t; size = n }),
      )
      | inr (inl (t, n)) ↦ (
        serial_of serial_query b,
        query_has b (record { bytes = (size ∙ n, h); kind = t; size = n }),
      )
      | inr (inr (inl (t, n))) ↦ (
        bare_of reset_query b,
        reset_query_has b (record { bytes = (size ∙ n, h); kind = t; size = n }),
      )
      | inr (inr (inr (inl (t, n)))) ↦ (
        bare_of cache_response b,
        response_has b (record { bytes = (size ∙ n, h); kind = t; size = n }),
      )
      | inr (inr (inr (inr (inl (t, n))))) ↦ (
        bare_of cache_reset b,
        cache_reset_has b (record { bytes = (size ∙ n, h); kind = t; size = n }),
      )
      | inr (inr (inr (inr (inr (inl (t, least, most)))))) ↦
          let is : IsReport b = fields_report b (record {
            kind = t;
            size = sym size;
            least = omega arith;
            most = omega arith;
            are_bytes = h;
          }) in
          (error_report (version_field b) (session_field b) (drop 8 b), report_has b is)
      | inr (inr (inr (inr (inr (inr in_order))))) ↦
          let all : Whole b = record { long = w.header; in_order = in_order; size = sym size } in
          elim (whole_is b h all) [
            | inl u ↦ (payload u.0, payload_has b u.0 u.1)
            | inr d ↦ (end_of_data d.0, end_has b d.0 d.1)
          ]
    ]

-- ---- no unit begins another

pub any_one : (a b r s : List ℕ) (f g : AnyFields) → HasAnyFields a f → HasAnyFields b g →
    a ++ r ≡ b ++ s → (a ≡ b) × (r ≡ s)
any_one a b r s f g has_a has_b e =
    let wa = any_whole a f has_a in
    let wb = any_whole b g has_b in
    let same : length a ≡ length b =
    wa.size ∙ sym (same_header a r wa.header).size ∙ ap length_field e
    ∙ (same_header b s wb.header).size ∙ sym wb.size in (
      sym (take_at a r (length a) refl) ∙ ap (take (length a)) e
          ∙ take_at b s (length a) (sym same),
      sym (drop_at a r (length a) refl) ∙ ap (drop (length a)) e
          ∙ drop_at b s (length a) (sym same),
    )
