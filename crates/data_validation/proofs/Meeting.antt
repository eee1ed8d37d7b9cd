-- The VRPs that cover, at their places in data.
use Rattle.std.proofs.Common.{◌≡◌, ℕ, ◌+◌, ◌-◌, ◌*◌, ◌<◌, inl, inr, sym, ap, arith, suc, zero}
use Rattle.std.proofs.Common.{List, [], ◌∷◌, subst, ◌∙◌, drop, Option, Some, None, slice_get}
use Rattle.std.proofs.lemmas.Bool.{cases_lt}
use Rattle.rtr_base.specs.Addresses.{Family, v4, v6, PrefixParts}
use Rattle.rtr_units.specs.End.{EndMeaning}
use Rattle.rtr_units.specs.PrefixUnits.{OriginParts}
use Rattle.rtr_payload.specs.Payloads.{LengthsInOrder, Payload, origin}
use Rattle.data_slices.specs.Canonical.{HoldsData}
use Rattle.data_validation.specs.Validity.{Covers}
use Rattle.data_validation.specs.Covering.{IsFirstCovering}
use Rattle.data_validation.specs.Tables.{AreAtLeast, AreTables, vrp_at}
use Rattle.data_validation.specs.PrivateCovering.{IsOrderedTable, UnitFrom}
use Rattle.data_validation.specs.PrivateTable.{AreSorted, route}
use Rattle.data_validation.specs.declared.finding.CoveringVrp.{CoveringVrp}
use Rattle.data_validation.specs.declared.tables.Tables.{Tables}
use Rattle.data_validation.proofs.Among.{IsAmong}
use Rattle.data_validation.proofs.Order.{class_of}
use Rattle.data_validation.proofs.Parted.{family_is}
use Rattle.data_validation.proofs.Saying.{first_part, second_part, to_prefix}

get_among : (l : List Payload) (i : ℕ) (q : Payload) → slice_get l i ≡ Some q → IsAmong q l
get_among [] i q e = absurd cc
get_among (x ∷ l) zero q e = inl cc
get_among (x ∷ l) (suc i) q e = inr (get_among l i q e)

one_origin : (v w : OriginParts) (o : Option Payload) → o ≡ Some (origin v) → o ≡ Some (origin w) →
    v ≡ w
one_origin v w o e h = cc

-- where an IPv4 origin is
pub record In4 (b : List ℕ) (n i : ℕ) (w : OriginParts) : Type 0 where
  pub within : i < n
  pub same : w ≡ vrp_at v4 b i

where_v4 : (b : List ℕ) (t : Tables) (d : List Payload) (e : EndMeaning) → AreTables b t →
    HoldsData b d e → (i : ℕ) (w : OriginParts) → slice_get d i ≡ Some (origin w) → w.family ≡ v4 →
    In4 b t.ipv4 i w
where_v4 b t d e h j i w m f =
    let one = first_part b t d e h j in
    elim (cases_lt i t.ipv4) [
      | inl l ↦ record { within = l; same = one_origin w _ (slice_get d i) m (one.at i l) }
      | inr g ↦
          let place : t.ipv4 + (i - t.ipv4) ≡ i = omega arith in
          let far : slice_get one.others (i - t.ipv4) ≡ Some (origin w) =
          sym (one.after (i - t.ipv4)) ∙ ap (slice_get d) place ∙ m in
          let k = one.above (origin w) (get_among one.others (i - t.ipv4) (origin w) far) in
          let z : class_of w.family ≡ 0 = ap class_of f in
          absurd (omega arith)
    ]

-- where an IPv6 origin is
pub record In6 (u : List ℕ) (n m i : ℕ) (w : OriginParts) : Type 0 where
  pub index : ℕ
  pub at : i ≡ n + index
  pub within : index < m
  pub same : w ≡ vrp_at v6 u index

where_v6 : (b : List ℕ) (t : Tables) (d : List Payload) (e : EndMeaning) → AreTables b t →
    HoldsData b d e → (i : ℕ) (w : OriginParts) → slice_get d i ≡ Some (origin w) → w.family ≡ v6 →
    In6 (drop (t.ipv4 * 20) b) t.ipv4 t.ipv6 i w
where_v6 b t d e h j i w m f =
    let one = first_part b t d e h j in
    let two = second_part b t d e h one in
    let z : class_of w.family ≡ 1 = ap class_of f in
    elim (cases_lt i t.ipv4) [
      | inl l ↦
          let s = one_origin w _ (slice_get d i) m (one.at i l) in
          let y : class_of w.family ≡ 0 =
          ap (λ (o : OriginParts). class_of o.family) s ∙ ap class_of (family_is v4 _) in
          absurd (omega arith)
      | inr g ↦
          let place : t.ipv4 + (i - t.ipv4) ≡ i = omega arith in
          let far : slice_get one.others (i - t.ipv4) ≡ Some (origin w) =
          sym (one.after (i - t.ipv4)) ∙ ap (slice_get d) place ∙ m in
          elim (cases_lt (i - t.ipv4) t.ipv6) [
            | inl l ↦ record {
              index = i - t.ipv4;
              at = sym place;
              within = l;
              same = one_origin w _ (slice_get one.others (i - t.ipv4)) far (two.at (i - t.ipv4) l);
            }
            | inr r ↦
                let place2 : t.ipv6 + ((i - t.ipv4) - t.ipv6) ≡ i - t.ipv4 = omega arith in
                let farther : slice_get two.others ((i - t.ipv4) - t.ipv6) ≡ Some (origin w) =
                sym (two.after ((i - t.ipv4) - t.ipv6)) ∙ ap (slice_get one.others) place2 ∙ far in
                let k = two.above (origin w) (get_among two.others _ (origin w) farther) in
                absurd (omega arith)
          ]
    ]

says_v4 : (b : List ℕ) (t : Tables) (d : List Payload) (e : EndMeaning) (p : PrefixParts)
    (from : ℕ) (T : Type 0) (r : Option CoveringVrp) → AreTables b t → HoldsData b d e →
    v4 ≡ p.family → T → UnitFrom r v4 b t.ipv4 0 from p T → IsFirstCovering d p from r
says_v4 b t d e p from T None h j f holds s = λ i k w m c.
    let x = where_v4 b t d e h j i w m (c.family ∙ sym f) in
    s holds i (omega arith) x.within (subst (λ (o : OriginParts). Covers o p) x.same c)
says_v4 b t d e p from T (Some c) h j f holds s =
    let place : c.place ≡ s.index = omega (arith, s.at) in
    record {
      within = s.reached;
      at =
          ap (slice_get d) place ∙ (first_part b t d e h j).at s.index s.within
          ∙ ap (λ (o : OriginParts). Some (origin o)) (sym s.shows);
      covers = subst (λ (o : OriginParts). Covers o p) (sym s.shows) s.covers;
      first = λ i k w m v.
          let x = where_v4 b t d e h j i w m (v.family ∙ sym f) in
          s.first holds i (omega (arith, k.0)) (omega (arith, k.1))
          (subst (λ (o : OriginParts). Covers o p) x.same v);
    }

says_v6 : (b : List ℕ) (t : Tables) (d : List Payload) (e : EndMeaning) (p : PrefixParts)
    (from : ℕ) (T : Type 0) (r : Option CoveringVrp) → AreTables b t → HoldsData b d e →
    v6 ≡ p.family → T → UnitFrom r v6 (drop (t.ipv4 * 20) b) t.ipv6 t.ipv4 from p T →
    IsFirstCovering d p from r
says_v6 b t d e p from T None h j f holds s = λ i k w m c.
    let x = where_v6 b t d e h j i w m (c.family ∙ sym f) in
    let at = x.at in
    s holds x.index (omega arith) x.within (subst (λ (o : OriginParts). Covers o p) x.same c)
says_v6 b t d e p from T (Some c) h j f holds s =
    let place : c.place ≡ t.ipv4 + s.index = s.at in
    let one = first_part b t d e h j in
    let two = second_part b t d e h one in
    record {
      within = s.reached;
      at =
          ap (slice_get d) place ∙ one.after s.index ∙ two.at s.index s.within
          ∙ ap (λ (o : OriginParts). Some (origin o)) (sym s.shows);
      covers = subst (λ (o : OriginParts). Covers o p) (sym s.shows) s.covers;
      first = λ i k w m v.
          let x = where_v6 b t d e h j i w m (v.family ∙ sym f) in
          let at = x.at in
          s.first holds x.index (omega (arith, k.0)) (omega (arith, k.1))
          (subst (λ (o : OriginParts). Covers o p) x.same v);
    }

-- all units of a family are in order, and so are their lengths
ordered : (f : Family) (b : List ℕ) (n s : ℕ) (p : PrefixParts) → AreSorted f b n →
    AreAtLeast f b n s → ((i : ℕ) → i < n → LengthsInOrder (vrp_at f b i)) →
    IsOrderedTable f b n s p
ordered f b n s p sorted least lengths = record {
  table = record {
    sorted = sorted;
    least = λ i k v. least i k;
    below = λ k. absurd (omega arith);
    above = λ k. absurd (omega arith);
  };
  lengths = lengths;
}

-- ---- the same, as the code names the values

pub met_v4 : (b : List ℕ) (t : Tables) (d : List Payload) (e : EndMeaning) (p : PrefixParts)
    (from x l n g : ℕ) (r : Option CoveringVrp) → AreTables b t → HoldsData b d e →
    v4 ≡ p.family → x ≡ p.address → l ≡ p.len → n ≡ t.ipv4 → g ≡ t.shortest_ipv4 →
    UnitFrom r v4 b n 0 from (route v4 x l) (IsOrderedTable v4 b n g (route v4 x l)) →
    IsFirstCovering d p from r
met_v4 b t d e p from x l n g r h j f ex el en eg s =
    let q = route v4 x l in
    let one = first_part b t d e h j in
    let holds = ordered v4 b t.ipv4 t.shortest_ipv4 q one.sorted h.least4 one.lengths in
    let s' = subst (λ (m : ℕ). UnitFrom r v4 b m 0 from q (IsOrderedTable v4 b m g q)) en s in
    let s'' =
    subst (λ (m : ℕ). UnitFrom r v4 b t.ipv4 0 from q (IsOrderedTable v4 b t.ipv4 m q)) eg s' in
    says_v4 b t d e p from (IsOrderedTable v4 b t.ipv4 t.shortest_ipv4 q) r h j f holds
    (subst (λ (z : PrefixParts).
    UnitFrom r v4 b t.ipv4 0 from z (IsOrderedTable v4 b t.ipv4 t.shortest_ipv4 q))
    (to_prefix p v4 x l f ex el) s'')

pub met_v6 : (b : List ℕ) (t : Tables) (d : List Payload) (e : EndMeaning) (p : PrefixParts)
    (from x l n k g : ℕ) (u : List ℕ) (r : Option CoveringVrp) → u ≡ drop (n * 20) b →
    AreTables b t → HoldsData b d e → v6 ≡ p.family → x ≡ p.address → l ≡ p.len → n ≡ t.ipv4 →
    k ≡ t.ipv6 → g ≡ t.shortest_ipv6 →
    UnitFrom r v6 u k n from (route v6 x l) (IsOrderedTable v6 u k g (route v6 x l)) →
    IsFirstCovering d p from r
met_v6 b t d e p from x l n k g u r eu h j f ex el en ek eg s =
    let q = route v6 x l in
    let rest = drop (t.ipv4 * 20) b in
    let whole : u ≡ rest = eu ∙ ap (λ (m : ℕ). drop (m * 20) b) en in
    let two = second_part b t d e h (first_part b t d e h j) in
    let holds = ordered v6 rest t.ipv6 t.shortest_ipv6 q two.sorted h.least6 two.lengths in
    let s1 =
    subst (λ (w : List ℕ). UnitFrom r v6 w k n from q (IsOrderedTable v6 w k g q)) whole s in
    let s2 =
    subst (λ (m : ℕ). UnitFrom r v6 rest m n from q (IsOrderedTable v6 rest m g q)) ek s1 in
    let s3 =
    subst (λ (m : ℕ). UnitFrom r v6 rest t.ipv6 m from q (IsOrderedTable v6 rest t.ipv6 g q)) en
    s2 in
    let s4 = subst (λ (m : ℕ).
    UnitFrom r v6 rest t.ipv6 t.ipv4 from q (IsOrderedTable v6 rest t.ipv6 m q)) eg s3 in
    says_v6 b t d e p from (IsOrderedTable v6 rest t.ipv6 t.shortest_ipv6 q) r h j f holds
    (subst (λ (z : PrefixParts).
    UnitFrom r v6 rest t.ipv6 t.ipv4 from z (IsOrderedTable v6 rest t.ipv6 t.shortest_ipv6 q))
    (to_prefix p v6 x l f ex el) s4)
