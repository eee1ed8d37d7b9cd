use Rattle.std.proofs.Common.{◌≡◌, ◌-◌, ◌∙◌, ℕ, List, length, true}
use Rattle.std.specs.Prelude.{Ok, Result}
use Rattle.data_history.specs.Stores.{numbers_of}
use Rattle.data_history.specs.declared.newer.Untaken.{Untaken}
use Rattle.data_history.specs.declared.stores.Stores.{Stores}
use Rattle.rtr_c.specs.Stores.{has_stores, stores_in}
use Rattle.rtr_c.specs.StoresAnswers.{taking_told}
use Rattle.rtr_c.specs.StoresCalls.{TakesNew}
use Rattle.rtr_c.specs.declared.stores.RtrStores.{RtrStores}
use Rattle.rtr_c.specs.declared.stores_answer.RtrStoresAnswer.{RtrStoresAnswer}
use Rattle.rtr_c.proofs.StoresTold.{left_by, no_stores, same_stores}
use Rattle.rtr_c.proofs.stores_calls.rtr_stores_take_nonnull.Goals as goal
use Rattle.rtr_c.proofs.stores_calls.rtr_stores_take_nonnull.Goals.{in-Ok, in-Err}

pub returns-clause-takes : goal.returns-clause-takes
returns-clause-takes c = λ m e.
    let r = c.stores_within.result in
    let is : r ≡ Ok m = c.stores_within.ensures.is ∙ e in
    elim c.match-stores_within.branch [
      | in-Ok w ↦
          left_by
          (λ (k : Stores) (a : RtrStoresAnswer) (p : RtrStores) (f s : List ℕ).
          (x : Result ℕ Untaken) × (a ≡ taking_told (numbers_of k).second x)
          × (has_stores p ≡ true)
          × TakesNew c.args.now (c.args.now - c.args.limits.now.time) c.args.limits.now.bytes
          c.args.new.now (length c.args.buffer.now) (length c.args.spare.now) k (stores_in p)
          c.args.first.now c.args.second.now f s x)
          w.in-Ok.found m w.take.result c.match-stores_within.answer w.take.new.stores
          c.match-stores_within.stores w.take.new.first c.match-stores_within.first
          w.take.new.second c.match-stores_within.second
          (same_stores r w.in-Ok.found m w.in-Ok.is is) w.answer-is w.stores-is w.first-is
          w.second-is w.take.ensures
      | in-Err w ↦ absurd (no_stores r m w.in-Err.status w.in-Err.is is)
    ]
