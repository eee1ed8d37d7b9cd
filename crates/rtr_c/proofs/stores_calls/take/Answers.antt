use Rattle.std.proofs.Common.{◌-◌, ◌∙◌, ap, length, subst, sym}
use Rattle.data_history.specs.declared.numbers.Numbers.{Numbers}
use Rattle.rtr_c.specs.Stores.{stores_in}
use Rattle.rtr_c.specs.StoresAnswers.{taking_told}
use Rattle.rtr_c.specs.StoresCalls.{TakesNew}
use Rattle.rtr_c.proofs.StoresTold.{still_stores}
use Rattle.rtr_c.proofs.stores_calls.take.Goals as goal

-- what the stores promise, by the limits and the stores that they were given
taken : (c : goal.After-of_taking) → TakesNew c.args.now
    (c.args.now - c.limits_from-kept.result.time) c.limits_from-kept.result.bytes
    c.args.new.now (length c.args.buffer.now) (length c.args.spare.now) c.args.found
    c.take-taken.new.self c.args.first.now c.args.second.now c.take-taken.new.first
    c.take-taken.new.second c.take-taken.result
taken c = record {
  after = c.take-taken.ensures.after;
  held = c.take-taken.ensures.held;
  takes = c.take-taken.ensures.takes;
  waits = c.take-taken.ensures.waits;
  form = c.take-taken.ensures.form;
  within = c.take-taken.ensures.within;
  flaw = c.take-taken.ensures.flaw;
  rooms = c.take-taken.ensures.rooms;
  serves = c.take-taken.ensures.serves;
  life = c.take-taken.ensures.life;
  unsaved_life = c.take-taken.ensures.unsaved_life;
}

pub returns : goal.returns
returns c =
    let r = c.take-taken.result in
    let new = c.args.new.now in
    let f = c.args.first.now in
    let s = c.args.second.now in
    let f' = c.take-taken.new.first in
    let s' = c.take-taken.new.second in
    let buffer = length c.args.buffer.now in
    let spare = length c.args.spare.now in
    let limits = c.args.limits.now in (
      r,
      c.of_taking.ensures ∙ ap (λ (n : Numbers). taking_told n.second r) c.numbers.ensures.is,
      c.stores_to.ensures.made (still_stores r c.args.found c.take-taken.new.self
          c.take-taken.ensures.after c.requires),
      subst (λ n. TakesNew c.args.now (c.args.now - n) limits.bytes new buffer spare
          c.args.found (stores_in c.stores_to.result) f s f' s' r) c.limits_from-kept.ensures.time
          (subst (λ n. TakesNew c.args.now (c.args.now - c.limits_from-kept.result.time) n new
          buffer spare c.args.found (stores_in c.stores_to.result) f s f' s' r)
          c.limits_from-kept.ensures.bytes
          (subst (λ m. TakesNew c.args.now (c.args.now - c.limits_from-kept.result.time)
          c.limits_from-kept.result.bytes new buffer spare c.args.found m f s f' s' r)
          (sym c.stores_to.ensures.stores) (taken c))),
    )
