-- Units of which the machine is told, a run goes on by.
use Rattle.std.proofs.Common.{ℕ, List, [], ◌∷◌, ◌++◌, take, drop, refl, sym, subst, ◌∙◌}
use Rattle.std.proofs.Common.{append_assoc}
use Rattle.std.proofs.lemmas.List.{append-nil}
use Rattle.std.proofs.lemmas.List.Folds.{concat-append}
use Rattle.session_router.specs.declared.event.Action.{Action}
use Rattle.session_router.specs.declared.event.Action.TheVariants as actions
use Rattle.session_router.specs.declared.event.Event.TheVariants as events
use Rattle.session_router.specs.declared.router.Router.{Router}
use Rattle.session_router.specs.Histories.{Caller, Host, IsHistory, Moment, at}
use Rattle.session_router.specs.Histories.IsHistory.{run_goes_on}
use Rattle.session_bytes.specs.Reading.{Acts, KeepsAll, kept_none, kept_more}
use Rattle.session_bytes.specs.ShownData.{ActsOn, AreHeard, KeepsOn}

abbrev Bytes : Type 0
Bytes = List ℕ

abbrev keeping : Host Bytes Bytes → List Bytes → Host Bytes Bytes
keeping h kept = record { kept = kept; made = h.made; shown = h.shown }

pub keeps_on_units : (n : ℕ) (c : Caller Bytes Bytes) (ms : List (Moment Bytes))
    (h : Host Bytes Bytes) (r : Router) (b : List ℕ) (r' : Router) → IsHistory c ms r h →
    AreHeard ms → KeepsAll n r b r' → KeepsOn c h b r'
keeps_on_units n c ms h r b r' run heard (kept_none r₀) = record {
  history = ms;
  units = [];
  joined = refl;
  heard = heard;
  run = subst (λ kept. IsHistory c ms r (keeping h kept)) (sym (append-nil h.kept)) run;
}
keeps_on_units n c ms h r b r' run heard (kept_more r₀ b₀ u mid head r₁ before unit step) =
    let x = keeps_on_units n c ms h r b₀ mid run heard before in
    let m : Moment Bytes = at n (events.Came head) u actions.Keep in
    record {
      history = m ∷ x.history;
      units = x.units ++ u ∷ [];
      joined = concat-append x.units (u ∷ [])
          ∙ (λ i. x.joined i ++ append-nil u i);
      heard = (unit, x.heard);
      run = subst (λ kept. IsHistory c (m ∷ x.history) r' (keeping h kept))
          (append_assoc h.kept x.units (u ∷ []))
          (run_goes_on n u (events.Came head) actions.Keep r' x.history mid
          (keeping h (h.kept ++ x.units)) x.run tt step);
    }

pub acts_on_unit : (c : Caller Bytes Bytes) (ms : List (Moment Bytes)) (r : Router)
    (h : Host Bytes Bytes) (n : ℕ) (input : List ℕ) (start end : ℕ) (a : Action) (r' : Router) →
    IsHistory c ms r h → AreHeard ms → Acts r n input start end a r' →
    ActsOn c h n (take start input) (drop start (take end input)) a r'
acts_on_unit c ms r h n input start end a r' run heard x =
    let kept = keeps_on_units n c ms h r (take start input) x.before run heard x.kept in
    record {
      before = x.before;
      kept = kept;
      head = x.head;
      heard = x.unit;
      run = run_goes_on n (drop start (take end input)) (events.Came x.head) a r' kept.history
          x.before (keeping h (h.kept ++ kept.units)) kept.run tt x.step;
    }
