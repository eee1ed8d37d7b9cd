-- No end of data begins another.
use Rattle.std.proofs.Common.{◌≡◌, ℕ, ◌^◌, ◌<◌, List, ◌++◌, take, drop, Option, Some, None, refl}
use Rattle.std.proofs.Common.{sym, ap, ◌∙◌, arith, get_or, inl, inr}
use Rattle.rtr_base.specs.declared.timing.Timing.{Timing}
use Rattle.rtr_base.proofs.Numbers.{be-injective}
use Rattle.rtr_units.specs.End.{EndMeaning, IsEndMeaning, IsEnd, HasTimingOf, timed_list, end_list}

pub end_made : (e : EndMeaning) → IsEndMeaning e → IsEnd (end_list e) e
end_made e h = record { fits = h; bytes = refl }

-- the number of k bytes at a place
at : ℕ → ℕ → List ℕ → List ℕ
at i k l = take k (drop i l)

timing_one : (v s q v' s' q' : ℕ) (t t' : Option Timing) (r r' : List ℕ) → s < 2 ^ 16 →
    s' < 2 ^ 16 → q < 2 ^ 32 → q' < 2 ^ 32 → HasTimingOf v t → HasTimingOf v' t' →
    timed_list v s q t ++ r ≡ timed_list v' s' q' t' ++ r' →
    (v ≡ v') × (s ≡ s') × (q ≡ q') × (t ≡ t') × (r ≡ r')
timing_one v s q v' s' q' None None r r' hs hs' hq hq' ht ht' e =
    let es : s ≡ s' = be-injective s s' 2 hs hs' (ap (λ l. take 2 (drop 2 l)) e) in
    let eq : q ≡ q' = be-injective q q' 4 hq hq' (ap (λ l. take 4 (drop 8 l)) e) in
    (ap (λ l. get_or l 0 0) e, es, eq, refl, ap (drop 12) e)
timing_one v s q v' s' q' None (Some t') r r' hs hs' hq hq' ht ht' e =
    let ev : v ≡ v' = ap (λ l. get_or l 0 0) e in
    absurd (elim ht'.0 [ inl h ↦ omega arith | inr h ↦ omega arith ])
timing_one v s q v' s' q' (Some t) None r r' hs hs' hq hq' ht ht' e =
    let ev : v ≡ v' = ap (λ l. get_or l 0 0) e in
    absurd (elim ht.0 [ inl h ↦ omega arith | inr h ↦ omega arith ])
timing_one v s q v' s' q' (Some t) (Some t') r r' hs hs' hq hq' ht ht' e =
    let es : s ≡ s' = be-injective s s' 2 hs hs' (ap (λ l. take 2 (drop 2 l)) e) in
    let eq : q ≡ q' = be-injective q q' 4 hq hq' (ap (λ l. take 4 (drop 8 l)) e) in
    let e1 : t.refresh ≡ t'.refresh =
    be-injective _ _ 4 ht.1 ht'.1 (ap (λ l. take 4 (drop 12 l)) e) in
    let e2 : t.retry ≡ t'.retry = be-injective _ _ 4 ht.2 ht'.2 (ap (λ l. take 4 (drop 16 l)) e) in
    let e3 : t.expire ≡ t'.expire =
    be-injective _ _ 4 ht.3 ht'.3 (ap (λ l. take 4 (drop 20 l)) e) in (
      ap (λ l. get_or l 0 0) e,
      es,
      eq,
      λ i. Some (record { refresh = e1 i; retry = e2 i; expire = e3 i }),
      ap (drop 24) e,
    )

pub end_one : (a b r s : List ℕ) (d e : EndMeaning) → IsEnd a d → IsEnd b e → a ++ r ≡ b ++ s →
    (a ≡ b) × (d ≡ e) × (r ≡ s)
end_one a b r s d e h g eq =
    let eq' : end_list d ++ r ≡ end_list e ++ s = cc in
    let p = timing_one d.version d.session d.serial e.version e.session e.serial d.timing e.timing r
    s h.fits.session g.fits.session h.fits.serial g.fits.serial h.fits.timing g.fits.timing eq' in
    let de : d ≡ e =
    λ i. record { version = p.0 i; session = p.1 i; serial = p.2 i; timing = p.3 i } in
    (h.bytes ∙ ap end_list de ∙ sym g.bytes, de, p.4)
