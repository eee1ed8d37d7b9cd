-- The bytes of a unit have its fields alone.
use Rattle.std.proofs.Common.{◌≡◌, ℕ, ◌^◌, ◌<◌, cond, List, drop, Option, Some, None, inl, inr}
use Rattle.std.proofs.Common.{refl, sym, ap, ◌∙◌}
use Rattle.std.specs.Prelude.{◌==◌}
use Rattle.rtr_base.specs.Addresses.{Family, v4, v6}
use Rattle.rtr_base.specs.declared.timing.Timing.{Timing}
use Rattle.rtr_base.proofs.Numbers.{value-be}
use Rattle.rtr_units.specs.End.{EndMeaning, HasTimingOf, timed_list, untimed_meaning, timed_meaning}
use Rattle.rtr_units.specs.Header.{version_field, type_field, session_field}
use Rattle.rtr_units.specs.PrefixUnits.{prefix_type, prefix_at, prefix_list}
use Rattle.rtr_payload.specs.AspaUnits.{aspa_at}
use Rattle.rtr_payload.specs.KeyUnits.{key_at}
use Rattle.rtr_payload.specs.UnitFields.{prefix_unit, key_unit, aspa_unit}
use Rattle.rtr_payload.proofs.FieldsRead.{fields_read}
use Rattle.unit_any.specs.AnyFields.{AnyFields, serial_notify, serial_query, reset_query}
use Rattle.unit_any.specs.AnyFields.{cache_response, payload, end_of_data, cache_reset}
use Rattle.unit_any.specs.AnyFields.{error_report, any_list, AnyFit, HasAnyFields}
use Rattle.unit_any.specs.AnyUnits.{serial_of, bare_of}

-- the fields at their places, by the type
abbrev end_at : ℕ → List ℕ → EndMeaning
end_at v b = cond (v == 0) (untimed_meaning b) (timed_meaning b)

abbrev fields_at : ℕ → List ℕ → AnyFields
fields_at t b =
    cond (t == 0) (serial_of serial_notify b)
    (cond (t == 1) (serial_of serial_query b)
    (cond (t == 2) (bare_of reset_query b)
    (cond (t == 3) (bare_of cache_response b)
    (cond (t == 4) (payload (prefix_unit (prefix_at v4 b)))
    (cond (t == 6) (payload (prefix_unit (prefix_at v6 b)))
    (cond (t == 7) (end_of_data (end_at (version_field b) b))
    (cond (t == 8) (bare_of cache_reset b)
    (cond (t == 9) (payload (key_unit (key_at b)))
    (cond (t == 10) (error_report (version_field b) (session_field b) (drop 8 b))
    (payload (aspa_unit (aspa_at b))))))))))))

of_family : (f : Family) (b : List ℕ) →
    payload (prefix_unit (prefix_at f b)) ≡ fields_at (prefix_type f) b
of_family v4 b = refl
of_family v6 b = refl

end_back : (v s q : ℕ) (t : Option Timing) → s < 2 ^ 16 → q < 2 ^ 32 → HasTimingOf v t →
    end_of_data (record { version = v; session = s; serial = q; timing = t }) ≡
    fields_at (type_field (timed_list v s q t)) (timed_list v s q t)
end_back v s q None hs hq h =
    rw h (λ i. end_of_data (record {
      version = 0;
      session = sym (value-be s 2 hs) i;
      serial = sym (value-be q 4 hq) i;
      timing = None;
    }))
end_back v s q (Some t) hs hq (later, refresh, retry, expire) =
    let times : (w : ℕ) →
    end_of_data (record { version = w; session = s; serial = q; timing = Some t }) ≡
    end_of_data (timed_meaning (timed_list w s q (Some t))) = λ w.
    (λ i. end_of_data (record {
      version = w;
      session = sym (value-be s 2 hs) i;
      serial = sym (value-be q 4 hq) i;
      timing = Some (record {
        refresh = sym (value-be t.refresh 4 refresh) i;
        retry = sym (value-be t.retry 4 retry) i;
        expire = sym (value-be t.expire 4 expire) i;
      });
    })) in
    elim later [ inl e ↦ rw e (times 1) | inr e ↦ rw e (times 2) ]

read_back : (f : AnyFields) → AnyFit f → f ≡ fields_at (type_field (any_list f)) (any_list f)
read_back (serial_notify v s q) fits = λ i.
    serial_notify v (sym (value-be s 2 fits.0) i) (sym (value-be q 4 fits.1) i)
read_back (serial_query v s q) fits = λ i.
    serial_query v (sym (value-be s 2 fits.0) i) (sym (value-be q 4 fits.1) i)
read_back (reset_query v s) fits = λ i. reset_query v (sym (value-be s 2 fits) i)
read_back (cache_response v s) fits = λ i. cache_response v (sym (value-be s 2 fits) i)
read_back (payload (prefix_unit u)) fits =
    ap payload (sym (fields_read (prefix_unit u) fits.0))
    ∙ of_family u.origin.family (prefix_list u)
read_back (payload (key_unit u)) fits = ap payload (sym (fields_read (key_unit u) fits.0))
read_back (payload (aspa_unit u)) fits = ap payload (sym (fields_read (aspa_unit u) fits.0))
read_back (end_of_data e) fits =
    end_back e.version e.session e.serial e.timing fits.session fits.serial fits.timing
read_back (cache_reset v s) fits = λ i. cache_reset v (sym (value-be s 2 fits) i)
read_back (error_report v c body) fits = λ i.
    error_report v (sym (value-be c 2 fits.0) i) body

pub one_list : (b : List ℕ) (f g : AnyFields) → HasAnyFields b f → HasAnyFields b g → f ≡ g
one_list b f g has other =
    read_back f has.fits
    ∙ ap (λ l. fields_at (type_field l) l) (sym has.bytes ∙ other.bytes)
    ∙ sym (read_back g other.fits)
