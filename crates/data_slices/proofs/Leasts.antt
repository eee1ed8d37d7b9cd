-- The first of data and announcements.
use Rattle.std.proofs.Common.{◌≡◌, ℕ, true, false, List, [], ◌∷◌, refl, sym, ap, subst, ◌∙◌, inl}
use Rattle.std.proofs.Common.{inr, Some, None, Option, ◌≢◌}
use Rattle.std.specs.Cmp.{tied_back, tied_itself}
use Rattle.std.specs.declared.cmp.Ordering.{Ordering}
use Rattle.std.specs.declared.cmp.Ordering.TheVariants.{Less, Equal, Greater}
use Rattle.rtr_base.specs.declared.action.Action.TheVariants.{Announce}
use Rattle.rtr_payload.specs.Payloads.{Meaning, Payload}
use Rattle.data_memory.specs.Data.{announcement, name_cmp}
use Rattle.data_memory.specs.Deltas.{unit_of}
use Rattle.data_memory.proofs.Names.{above, below, below_all, name_total}
use Rattle.data_slices.specs.Items.{meant}
use Rattle.data_slices.specs.PrivateChanges.{HoldsUnits, IsAfterWithdrawal, IsBelow, IsBound}
use Rattle.data_slices.specs.PrivateChanges.{IsBoundOf}
use Rattle.data_slices.specs.PrivateChanges.{IsNext, IsUnder, LeastOf, NoUnit}
use Rattle.data_slices.specs.declared.item.PayloadView.{PayloadView}
use Rattle.data_slices.proofs.Units.{Head, head, nothing}

module _ (v : ℕ) (view : PayloadView) (left : List ℕ) (ps : List Payload)
    (h : Head Announce v view left ps) where
  is : h.first ≡ (meant view).payload
  is = sym (ap (λ (m : Meaning). m.payload) h.means)

  all : ps ≡ (meant view).payload ∷ h.others
  all = h.all ∙ ap (λ p. p ∷ h.others) is

  below_rest : IsBelow (meant view).payload h.others
  below_rest = subst (λ p. IsBelow p h.others) is h.below

  means : meant view ≡ unit_of v (announcement (meant view).payload)
  means = h.means ∙ ap (λ p. unit_of v (announcement p)) is

  -- what is below the first is below all
  below_these : (p : Payload) → name_cmp p (meant view).payload ≡ Less → IsBelow p ps
  below_these p l =
      subst (IsBelow p) (sym all) (l, below_all p (meant view).payload l h.others below_rest)

below_none : (p : Payload) (ps : List Payload) → ps ≡ [] → IsBelow p ps
below_none p ps e = subst (IsBelow p) (sym e) tt

module _ (old new : List ℕ) (first : PayloadView) (left : List ℕ) (at : IsNext first left old) where
  -- a unit of the data
  of_old : ((v : ℕ) (ps : List Payload) → HoldsUnits Announce v new ps →
      IsBelow (meant first).payload ps) → LeastOf first true left new old new
  of_old under v d ps h j =
      let f = head Announce v first left old d at h in (
        f.others,
        ps,
        f.held,
        j,
        means v first left d f,
        (all v first left d f, refl, under v ps j),
      )

  pub old_alone : NoUnit new → LeastOf first true left new old new
  old_alone none =
      of_old (λ v ps j. below_none (meant first).payload ps (nothing Announce v new ps none j))

  module _ (second : PayloadView) (right : List ℕ) (then : IsNext second right new) where
    pub old_less : name_cmp (meant first).payload (meant second).payload ≡ Less →
        LeastOf first true left new old new
    old_less l =
        of_old (λ v ps j.
        below_these v second right ps (head Announce v second right new ps then j)
        (meant first).payload l)

    pub new_equal : name_cmp (meant first).payload (meant second).payload ≡ Equal →
        LeastOf second false left right old new
    new_equal e v d ps h j =
        let f = head Announce v first left old d at h in
        let g = head Announce v second right new ps then j in (
          f.others,
          g.others,
          f.held,
          g.held,
          means v second right ps g,
          (all v second right ps g, inr ((meant first).payload, all v first left d f, e)),
        )

    pub new_greater : name_cmp (meant first).payload (meant second).payload ≡ Greater →
        LeastOf second false old right old new
    new_greater e v d ps h j =
        let f = head Announce v first left old d at h in
        let g = head Announce v second right new ps then j in (
          d,
          g.others,
          h,
          g.held,
          means v second right ps g,
          (
            all v second right ps g,
            inl (
              refl,
              below_these v first left d f (meant second).payload
                  (below (meant first).payload (meant second).payload e),
            ),
          ),
        )

pub new_alone : (old new : List ℕ) (second : PayloadView) (right : List ℕ) →
    IsNext second right new → NoUnit old → LeastOf second false old right old new
new_alone old new second right then none v d ps h j =
    let g = head Announce v second right new ps then j in (
      d,
      g.others,
      h,
      g.held,
      means v second right ps g,
      (
        all v second right ps g,
        inl (refl, below_none (meant second).payload d (nothing Announce v old d none h)),
      ),
    )

-- ---- a unit that is below all changes

lower : (p b q : Payload) → name_cmp p b ≡ Less → name_cmp b q ≢ Greater → name_cmp p q ≡ Less
lower p b q l not = by_order (name_cmp b q) refl
  where
    by_order : (o : Ordering) → name_cmp b q ≡ o → name_cmp p q ≡ Less
    by_order Less e = name_total.trans p b q l e
    by_order Equal e =
        below q p (name_total.congr q b p (tied_back name_total b q e) ∙ above p b l)
    by_order Greater e = absurd (not e)

module _ (old new gone : List ℕ) (view : PayloadView) (left : List ℕ)
    (next : IsNext view left old) where
  pub under_least : (bound : Option PayloadView) → IsBound bound new gone → IsUnder view bound →
      LeastOf view true left new old new
  under_least None (none, other) under = old_alone old new view left next none
  under_least (Some bound) (inl none, other) under = old_alone old new view left next none
  under_least (Some bound) (inr (first, rest, at, not), other) under =
      old_less old new view left next first rest at
      (lower (meant view).payload (meant bound).payload (meant first).payload under not)

  pub under_stays : (bound : Option PayloadView) → IsBound bound new gone → IsUnder view bound →
      IsAfterWithdrawal None view true gone
  under_stays None (other, none) under = inr (inl none)
  under_stays (Some bound) (other, inl none) under = inr (inl none)
  under_stays (Some bound) (other, inr (first, rest, at, not)) under =
      let l = lower (meant view).payload (meant bound).payload (meant first).payload under not in
      inr (inr (first, rest, at, λ e. let no = sym l ∙ e in cc))

-- ---- the first of all changes

bound_of : (view : PayloadView) (rest left : List ℕ) → IsNext view rest left → IsBoundOf view left
bound_of view rest left next =
    inr (view, rest, next, λ e. let t = tied_itself name_total (meant view).payload in cc)

pub one_bound : (view : PayloadView) (rest left other : List ℕ) → IsNext view rest left →
    NoUnit other → IsBoundOf view left × IsBoundOf view other
one_bound view rest left other next none = (bound_of view rest left next, inl none)

pub least_bound : (view : PayloadView) (rest left : List ℕ) → IsNext view rest left →
    (after : PayloadView) (rest' left' : List ℕ) → IsNext after rest' left' →
    name_cmp (meant view).payload (meant after).payload ≢ Greater →
    IsBoundOf view left × IsBoundOf view left'
least_bound view rest left next after rest' left' next' not =
    (bound_of view rest left next, inr (after, rest', next', not))

-- the other isn't below it
pub new_bound : (view : PayloadView) (rest left : List ℕ) → IsNext view rest left →
    (after : PayloadView) (rest' left' : List ℕ) → IsNext after rest' left' →
    (name_cmp (meant after).payload (meant view).payload ≡ Less → ⊥) →
    IsBoundOf view left × IsBoundOf view left'
new_bound view rest left next after rest' left' next' not =
    least_bound view rest left next after rest' left' next'
    (λ e. not (below (meant view).payload (meant after).payload e))
