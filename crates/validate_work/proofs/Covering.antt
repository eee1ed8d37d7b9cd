-- The VRPs that cover a route, found one after the other.
use Rattle.std.proofs.Common.{◌≡◌, ℕ, ◌+◌, ◌-◌, ◌<◌, ◌≤◌, zero, suc, List, [], ◌∷◌, ◌++◌, drop}
use Rattle.std.proofs.Common.{Option, Some, None, refl, sym, ap, ◌∙◌, subst, arith, inl, inr}
use Rattle.std.proofs.Common.{slice_get}
use Rattle.std.proofs.Common.{append-nil, append_assoc, flat_map}
use Rattle.std.proofs.lemmas.Grind.{flat_map-append}
use Rattle.std.proofs.lemmas.List.{drop-drop}
use Rattle.rtr_base.specs.Addresses.{PrefixParts}
use Rattle.rtr_units.specs.PrefixUnits.{OriginParts}
use Rattle.rtr_payload.specs.Payloads.{Payload, origin, key, aspa}
use Rattle.data_validation.specs.Covering.{IsFirstCover, IsMismatch, NoneCovers, vrp}
use Rattle.data_validation.specs.Validity.{Covers}
use Rattle.data_validation.specs.declared.finding.CoveringVrp.{CoveringVrp}
use Rattle.data_validation.specs.declared.mismatch.Mismatch.{Mismatch}
use Rattle.validate_work.specs.Answers.{AreCovers, Cover, cover_text, listed, opening, separator}
use Rattle.validate_work.specs.PrivateAnswers.{AddsCovers}
use Rattle.validate_work.specs.declared.form.Form.{Form}

-- ---- among the payloads that are left

-- none covers
abbrev pub NoneLeft : List Payload → PrefixParts → Type 0
NoneLeft d p = (i : ℕ) (v : OriginParts) → slice_get d i ≡ Some (origin v) → Covers v p → ⊥

pub none_left : (d : List Payload) (p : PrefixParts) (asn : ℕ) → NoneLeft d p → AreCovers d p asn []
none_left [] p asn none = refl
none_left (origin v ∷ d) p asn none =
    inr (none 0 v refl, none_left d p asn (λ i w e. none (suc i) w e))
none_left (key k ∷ d) p asn none = none_left d p asn (λ i w e. none (suc i) w e)
none_left (aspa a ∷ d) p asn none = none_left d p asn (λ i w e. none (suc i) w e)

-- the first that covers is at this place
pub record FirstLeft (d : List Payload) (p : PrefixParts) (k : ℕ) (v : OriginParts) : Type 0 where
  pub at : slice_get d k ≡ Some (origin v)
  pub covers : Covers v p
  pub none : (i : ℕ) (w : OriginParts) → i < k → slice_get d i ≡ Some (origin w) → Covers w p → ⊥

pub first_left : (k : ℕ) (d : List Payload) (p : PrefixParts) (asn : ℕ) (v : OriginParts)
    (why : Option Mismatch) (ds : List Cover) → FirstLeft d p k v → IsMismatch why v p asn →
    AreCovers (drop (suc k) d) p asn ds →
    AreCovers d p asn (record { vrp = v; why = why } ∷ ds)
first_left k [] p asn v why ds f m rest = absurd (no_element f.at)
  where
    no_element : None ≡ Some (origin v) → ⊥
    no_element e = cc
first_left zero (x ∷ d) p asn v why ds f m rest =
    let e : x ≡ origin v = cc (f.at) in
    subst (λ (q : Payload). AreCovers (q ∷ d) p asn (record { vrp = v; why = why } ∷ ds)) (sym e)
    (inl (f.covers, (refl, m, rest)))
first_left (suc k) (origin w ∷ d) p asn v why ds f m rest = inr (
  f.none 0 w (omega arith) refl,
  first_left k d p asn v why ds (record {
    at = f.at;
    covers = f.covers;
    none = λ i u l e. f.none (suc i) u (omega (arith, l)) e;
  }) m rest,
)
first_left (suc k) (key x ∷ d) p asn v why ds f m rest =
    first_left k d p asn v why ds (record {
      at = f.at;
      covers = f.covers;
      none = λ i u l e. f.none (suc i) u (omega (arith, l)) e;
    }) m rest
first_left (suc k) (aspa x ∷ d) p asn v why ds f m rest =
    first_left k d p asn v why ds (record {
      at = f.at;
      covers = f.covers;
      none = λ i u l e. f.none (suc i) u (omega (arith, l)) e;
    }) m rest

-- ---- from a place on

get_drop : (n : ℕ) (d : List Payload) (i : ℕ) → slice_get (drop n d) i ≡ slice_get d (n + i)
get_drop zero d i = ap (slice_get d) (omega arith)
get_drop (suc n) [] i = refl
get_drop (suc n) (x ∷ d) i =
    let e : suc (n + i) ≡ suc n + i = omega arith in
    get_drop n d i ∙ ap (slice_get (x ∷ d)) e

-- ---- their texts

-- what stands before the next
abbrev pub before : Form → List Cover → List ℕ
before form [] = opening form
before form (c ∷ cs) = separator form

before_more : (form : Form) (cs : List Cover) (c : Cover) →
    before form (cs ++ c ∷ []) ≡ separator form
before_more form [] c = refl
before_more form (x ∷ cs) c = refl

listed_more : (form : Form) (cs : List Cover) (c : Cover) →
    listed form (cs ++ c ∷ []) ≡ listed form cs ++ (before form cs ++ cover_text form c)
listed_more form [] c = append-nil (opening form ++ cover_text form c)
listed_more form (x ∷ cs) c =
    let each : Cover → List ℕ = λ o. separator form ++ cover_text form o in
    let first : List ℕ = opening form ++ cover_text form x in
    ap (λ (l : List ℕ). first ++ l)
    (flat_map-append each cs (c ∷ []) ∙ ap (λ (l : List ℕ). flat_map each cs ++ l)
    (append-nil (each c)))
    ∙ sym (append_assoc first (flat_map each cs) (each c))

-- ---- one after the other

-- so many of the payloads were looked at, and these of them cover
pub record CoversSoFar (form : Form) (d : List Payload) (p : PrefixParts) (asn from : ℕ)
    (between old line : List ℕ) : Type 0 where
  pub covers : List Cover
  pub others : (ds : List Cover) → AreCovers (drop from d) p asn ds →
      AreCovers d p asn (covers ++ ds)
  pub made : line ≡ old ++ listed form covers
  pub next : between ≡ before form covers

pub starts : (form : Form) (d : List Payload) (p : PrefixParts) (asn : ℕ) (between line : List ℕ) →
    between ≡ opening form → CoversSoFar form d p asn 0 between line line
starts form d p asn between line is = record {
  covers = [];
  others = λ ds h. h;
  made = sym (append-nil line);
  next = is;
}

pub goes_on : (form : Form) (d : List Payload) (p : PrefixParts) (asn from : ℕ)
    (between old line next after : List ℕ) (c : CoveringVrp) (why : Option Mismatch) →
    CoversSoFar form d p asn from between old line → IsFirstCover d p from c →
    IsMismatch why (vrp c.origin) p asn →
    after ≡ (line ++ between) ++ cover_text form (record { vrp = vrp c.origin; why = why }) →
    next ≡ separator form → CoversSoFar form d p asn (c.place + 1) next old after
goes_on form d p asn from between old line next after c why s first m made is =
    let v = vrp c.origin in
    let cover : Cover = record { vrp = v; why = why } in
    let k = c.place - from in
    let far : from + k ≡ c.place = omega (arith, first.within) in
    let farther : from + suc k ≡ c.place + 1 = omega (arith, first.within) in
    let here : FirstLeft (drop from d) p k v = record {
      at = get_drop from d k ∙ ap (slice_get d) far ∙ first.at;
      covers = first.covers;
      none = λ i w l e. first.first (from + i) (omega (arith, l), omega (arith, l, first.within)) w
          (sym (get_drop from d i) ∙ e);
    } in
    record {
      covers = s.covers ++ cover ∷ [];
      others = λ ds h.
          subst (AreCovers d p asn) (sym (append_assoc s.covers (cover ∷ []) ds))
          (s.others (cover ∷ ds)
          (first_left k (drop from d) p asn v why ds here m
          (subst (λ (l : List Payload). AreCovers l p asn ds)
          (sym (drop-drop (suc k) from d ∙ ap (λ (n : ℕ). drop n d) farther)) h)));
      made = made ∙ ap (λ (l : List ℕ). (l ++ between) ++ cover_text form cover) s.made
          ∙ ap (λ (l : List ℕ). ((old ++ listed form s.covers) ++ l) ++ cover_text form cover)
          s.next
          ∙ regroup old (listed form s.covers) (before form s.covers) (cover_text form cover)
          ∙ ap (λ (l : List ℕ). old ++ l) (sym (listed_more form s.covers cover));
      next = is ∙ sym (before_more form s.covers cover);
    }
  where
    regroup : (a b c d : List ℕ) → ((a ++ b) ++ c) ++ d ≡ a ++ (b ++ (c ++ d))
    regroup a b c d = simp append_assoc

pub ends : (form : Form) (d : List Payload) (p : PrefixParts) (asn from : ℕ)
    (between old line : List ℕ) → CoversSoFar form d p asn from between old line →
    NoneCovers d p (λ i. from ≤ i) → AddsCovers form d p asn old line
ends form d p asn from between old line s none = (
  s.covers,
  subst (AreCovers d p asn) (append-nil s.covers) (s.others [] (none_left (drop from d) p asn
      (λ i v e. none (from + i) (omega arith) v (sym (get_drop from d i) ∙ e)))),
  s.made,
)
