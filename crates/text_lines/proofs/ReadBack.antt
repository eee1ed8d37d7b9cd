-- The fields of a unit, read off its bytes.
use Rattle.std.proofs.Common.{◌≡◌, ℕ, ◌^◌, ◌<◌, List, refl, ap, ◌∙◌, inl, inr}
use Rattle.std.proofs.Common.{Option, Some, None, drop, take}
use Rattle.std.specs.Prelude.{◌==◌, false, slice_index}
use Rattle.rtr_base.specs.Addresses.{Family, v4, v6}
use Rattle.rtr_base.specs.Bytes.{value}
use Rattle.rtr_base.specs.declared.timing.Timing.{Timing}
use Rattle.rtr_base.proofs.Numbers.{value-be}
use Rattle.rtr_units.specs.End.{EndMeaning, HasTimingOf, timed_list}
use Rattle.rtr_units.specs.Header.{type_field, version_field}
use Rattle.rtr_units.specs.PrefixUnits.{prefix_at, prefix_type}
use Rattle.rtr_payload.specs.AspaUnits.{aspa_at}
use Rattle.rtr_payload.specs.KeyUnits.{key_at}
use Rattle.rtr_payload.specs.UnitFields.{Fields, prefix_unit, key_unit, aspa_unit, fields_like}
use Rattle.rtr_payload.proofs.FieldsRead.{fields_read}
use Rattle.unit_any.specs.AnyFields.{AnyFields, HasAnyFields, serial_notify}
use Rattle.unit_any.specs.AnyFields.{serial_query, reset_query, cache_response, payload}
use Rattle.unit_any.specs.AnyFields.{end_of_data, cache_reset, error_report}
use Rattle.unit_any.specs.AnyUnits.{serial_of, bare_of}
use Rattle.text_lines.specs.ListedUnits.{end_at, fields_at, report_at}

prefix_by_type : (b : List ℕ) (f : Family) → type_field b ≡ prefix_type f →
    fields_at b ≡ payload (prefix_unit (prefix_at f b))
unfolding fields_at
prefix_by_type b v4 e = rw e refl
prefix_by_type b v6 e = rw e refl

key_by_type : (b : List ℕ) → type_field b ≡ 9 → fields_at b ≡ payload (key_unit (key_at b))
unfolding fields_at
key_by_type b e = rw e refl

aspa_by_type : (b : List ℕ) → type_field b ≡ 11 → fields_at b ≡ payload (aspa_unit (aspa_at b))
unfolding fields_at
aspa_by_type b e = rw e refl

payload_back : (b : List ℕ) (u : Fields) → HasAnyFields b (payload u) → fields_at b ≡ payload u
payload_back b (prefix_unit u) h =
    prefix_by_type b u.origin.family (ap type_field h.bytes)
    ∙ ap (λ l. payload (fields_like (prefix_unit u) l)) h.bytes
    ∙ ap payload (fields_read (prefix_unit u) h.fits.0)
payload_back b (key_unit u) h =
    key_by_type b (ap type_field h.bytes)
    ∙ ap (λ l. payload (fields_like (key_unit u) l)) h.bytes
    ∙ ap payload (fields_read (key_unit u) h.fits.0)
payload_back b (aspa_unit u) h =
    aspa_by_type b (ap type_field h.bytes)
    ∙ ap (λ l. payload (fields_like (aspa_unit u) l)) h.bytes
    ∙ ap payload (fields_read (aspa_unit u) h.fits.0)

end_back : (v s q : ℕ) (t : Option Timing) → s < 2 ^ 16 → q < 2 ^ 32 → HasTimingOf v t →
    end_at (timed_list v s q t)
    ≡ record { version = v; session = s; serial = q; timing = t }
end_back v s q None hs hq hv =
    let es = value-be s 2 hs in
    let eq = value-be q 4 hq in
    rw hv (λ i. record { version = 0; session = es i; serial = eq i; timing = None })
end_back v s q (Some t) hs hq (inl one, hr, hy, hx) =
    let es = value-be s 2 hs in
    let eq = value-be q 4 hq in
    let er = value-be t.refresh 4 hr in
    let ey = value-be t.retry 4 hy in
    let ex = value-be t.expire 4 hx in
    rw one (λ i. record {
      version = 1;
      session = es i;
      serial = eq i;
      timing = Some (record { refresh = er i; retry = ey i; expire = ex i });
    })
end_back v s q (Some t) hs hq (inr two, hr, hy, hx) =
    let es = value-be s 2 hs in
    let eq = value-be q 4 hq in
    let er = value-be t.refresh 4 hr in
    let ey = value-be t.retry 4 hy in
    let ex = value-be t.expire 4 hx in
    rw two (λ i. record {
      version = 2;
      session = es i;
      serial = eq i;
      timing = Some (record { refresh = er i; retry = ey i; expire = ex i });
    })

end_type : (m : EndMeaning) (t : Option Timing) →
    type_field (timed_list m.version m.session m.serial t) ≡ 7
end_type m None = refl
end_type m (Some t) = refl

end_by_type : (b : List ℕ) → type_field b ≡ 7 → fields_at b ≡ end_of_data (end_at b)
unfolding fields_at
end_by_type b e = rw e refl

pub read_back : (b : List ℕ) (f : AnyFields) → HasAnyFields b f → fields_at b ≡ f
unfolding fields_at
read_back b (serial_notify v s n) h =
    ap fields_at h.bytes
    ∙ (λ i. serial_notify v (value-be s 2 h.fits.0 i) (value-be n 4 h.fits.1 i))
read_back b (serial_query v s n) h =
    ap fields_at h.bytes
    ∙ (λ i. serial_query v (value-be s 2 h.fits.0 i) (value-be n 4 h.fits.1 i))
read_back b (reset_query v s) h =
    ap fields_at h.bytes ∙ (λ i. reset_query v (value-be s 2 h.fits i))
read_back b (cache_response v s) h =
    ap fields_at h.bytes ∙ (λ i. cache_response v (value-be s 2 h.fits i))
read_back b (payload u) h = payload_back b u h
read_back b (end_of_data m) h =
    end_by_type b (ap type_field h.bytes ∙ end_type m m.timing)
    ∙ ap (λ l. end_of_data (end_at l)) h.bytes
    ∙ ap end_of_data
    (end_back m.version m.session m.serial m.timing h.fits.session h.fits.serial h.fits.timing)
read_back b (cache_reset v s) h =
    ap fields_at h.bytes ∙ (λ i. cache_reset v (value-be s 2 h.fits i))
read_back b (error_report v c body) h =
    ap fields_at h.bytes ∙ (λ i. error_report v (value-be c 2 h.fits.0 i) body)

-- ---- the fields by the type

pub by_notify : (b : List ℕ) → type_field b ≡ 0 → serial_of serial_notify b ≡ fields_at b
unfolding fields_at
by_notify b e = rw e refl

pub by_query : (b : List ℕ) → type_field b ≡ 1 → serial_of serial_query b ≡ fields_at b
unfolding fields_at
by_query b e = rw e refl

pub by_reset_query : (b : List ℕ) → type_field b ≡ 2 → bare_of reset_query b ≡ fields_at b
unfolding fields_at
by_reset_query b e = rw e refl

pub by_response : (b : List ℕ) → type_field b ≡ 3 → bare_of cache_response b ≡ fields_at b
unfolding fields_at
by_response b e = rw e refl

pub by_v4 : (b : List ℕ) → type_field b ≡ 4 → payload (prefix_unit (prefix_at v4 b)) ≡ fields_at b
unfolding fields_at
by_v4 b e = rw e refl

pub by_v6 : (b : List ℕ) → type_field b ≡ 6 → payload (prefix_unit (prefix_at v6 b)) ≡ fields_at b
unfolding fields_at
by_v6 b e = rw e refl

pub by_end : (b : List ℕ) → type_field b ≡ 7 → end_of_data (end_at b) ≡ fields_at b
unfolding fields_at
by_end b e = rw e refl

pub by_reset : (b : List ℕ) → type_field b ≡ 8 → bare_of cache_reset b ≡ fields_at b
unfolding fields_at
by_reset b e = rw e refl

pub by_key : (b : List ℕ) → type_field b ≡ 9 → payload (key_unit (key_at b)) ≡ fields_at b
unfolding fields_at
by_key b e = rw e refl

pub by_aspa : (b : List ℕ) → type_field b ≡ 11 → payload (aspa_unit (aspa_at b)) ≡ fields_at b
unfolding fields_at
by_aspa b e = rw e refl

pub by_others : (b : List ℕ) → (type_field b == 0) ≡ false → (type_field b == 1) ≡ false →
    (type_field b == 2) ≡ false → (type_field b == 3) ≡ false →
    (type_field b == 4) ≡ false → (type_field b == 6) ≡ false →
    (type_field b == 7) ≡ false → (type_field b == 8) ≡ false →
    (type_field b == 9) ≡ false → (type_field b == 11) ≡ false →
    report_at b ≡ fields_at b
unfolding fields_at
by_others b e0 e1 e2 e3 e4 e6 e7 e8 e9 e11 = rw (e0, e1, e2, e3, e4, e6, e7, e8, e9, e11) refl

pub key_made : (b i : List ℕ) (n : ℕ) (k : List ℕ) → i ≡ take 20 (drop 8 b) →
    n ≡ value (take 4 (drop 28 b)) → k ≡ drop 32 b →
    key_unit (record {
      version = version_field b;
      flags = slice_index b 2;
      free = slice_index b 3;
      key = record { identifier = i; asn = n; info = k };
    }) ≡ key_unit (key_at b)
key_made b i n k ei en ek = λ j. key_unit (record {
  version = version_field b;
  flags = slice_index b 2;
  free = slice_index b 3;
  key = record { identifier = ei j; asn = en j; info = ek j };
})
