-- Going over units that go on with data, one after the other.
use Rattle.std.proofs.Common.{◌≤◌, ℕ, List, [], ◌∷◌, Some, None, length, refl, sym}
use Rattle.std.proofs.Common.{◌++◌, ap, arith, subst}
use Rattle.std.proofs.lemmas.List.{length-append}
use Rattle.rtr_base.specs.declared.action.Action.TheVariants.{Announce}
use Rattle.data_slices.specs.Items.{meant}
use Rattle.data_slices.specs.PrivateChanges.{IsNext, RunsAfter, RunsTo}
use Rattle.data_slices.specs.declared.item.PayloadView.{PayloadView}
use Rattle.data_slices.specs.declared.item.PayloadView.TheVariants as kinds
use Rattle.unit_views.specs.declared.origin.OriginView.{OriginView}
use Rattle.data_slices.proofs.Checking.{Checked}
use Rattle.data_slices.proofs.Running.{goes}

-- one more
pub more : (views : List PayloadView) (last : PayloadView) (left : List ℕ) (last' : PayloadView)
    (left' : List ℕ) → RunsTo views last left last' left' → (view : PayloadView) (next : List ℕ) →
    IsNext view next left' → RunsAfter last' view →
    (all : List PayloadView) × RunsTo all last left view next
more [] last left last' left' (same, is) view next at after = (
  view ∷ [],
  (
    next,
    subst (IsNext view next) (sym is) at,
    subst (λ l. RunsAfter l view) (sym same) after,
    (refl, refl),
  ),
)
more (v ∷ views) last left last' left' (r, first, then, runs) view next at after =
    let (all, others) = more views v r last' left' runs view next at after in
    (v ∷ all, (r, first, then, others))

pub runs_join : (xs ys : List PayloadView) (a : PayloadView) (l : List ℕ) (b : PayloadView)
    (m : List ℕ) (c : PayloadView) (r : List ℕ) → RunsTo xs a l b m → RunsTo ys b m c r →
    RunsTo (xs ++ ys) a l c r
runs_join [] ys a l b m c r (same, is) h =
    subst (λ x. RunsTo ys x l c r) (sym same) (subst (λ x. RunsTo ys b x c r) (sym is) h)
runs_join (x ∷ xs) ys a l b m c r (n, first, then, runs) h =
    (n, first, then, runs_join xs ys x n b m c r runs h)

-- how far a loop went over units of prefixes
pub record PassingUnits (view : OriginView) (left : List ℕ) (last : OriginView)
    (rest : List ℕ) : Type 0 where
  pub fits : length rest ≤ length left
  pub views : List PayloadView
  pub runs : RunsTo views (kinds.Origin view) left (kinds.Origin last) rest

pub units_start : (view : OriginView) (left : List ℕ) → PassingUnits view left view left
units_start view left =
    record { fits = omega arith; views = []; runs = (refl, refl) }

pub units_more : (view : OriginView) (left : List ℕ) (last : OriginView) (rest : List ℕ) →
    PassingUnits view left last rest → (then : OriginView) (next : List ℕ) →
    IsNext (kinds.Origin then) next rest → RunsAfter (kinds.Origin last) (kinds.Origin then) →
    PassingUnits view left then next
units_more view left last rest p then next at after =
    let (all, runs) = more p.views (kinds.Origin view) left (kinds.Origin last) rest p.runs
    (kinds.Origin then) next at after in
    record {
      fits = omega (arith, p.fits, ap length at.2, length-append at.0 next);
      views = all;
      runs = runs;
    }

-- all of them are data so far
pub all_checked : (input : List ℕ) (views : List PayloadView) (last : PayloadView) (left : List ℕ)
    (last' : PayloadView) (left' : List ℕ) → Checked input left (Some last) →
    RunsTo views last left last' left' → Checked input left' (Some last')
all_checked input [] last left last' left' c (same, is) =
    subst (λ l. Checked input left' (Some l)) same
    (subst (λ r. Checked input r (Some last)) is c)
all_checked input (v ∷ views) last left last' left' c (r, first, then, runs) =
    all_checked input views v r last' left'
    (goes Announce None input left (Some last) (Some (meant last).version) c v r first then) runs
