use Rattle.std.proofs.Common.{eqb, sym, subst, inr, refl, ◌∙◌}
use Rattle.std.proofs.lemmas.List.Filters.{dedup_is}
use Rattle.make_work.specs.JsonRefusals.{RefusesProviders}
use Rattle.make_work.specs.JsonValues.{AreProviderValues}
use Rattle.make_work.specs.declared.item.Reason.TheVariants.{TooManyProviders}
use Rattle.make_work.proofs.JsonSoFar.{array_seen}
use Rattle.make_work.proofs.ProviderSet.{drained, set_of, too_many}
use Rattle.make_work.proofs.json_values.providers_of.Goals as goal

pub returns-in-Ok : goal.returns-in-Ok
returns-in-Ok c =
    let given = c.in_ok-asns.asns.items in
    let sorted = c.sort_unstable.new.self.items in
    let once = drained c.into_iter.result c.dedup.new.self.items c.in-Ok.providers
    c.into_iter.ensures.rest (c.into_iter.ensures.len ∙ c.dedup.new.self.ok.0) c.in-Ok.ensures.items
    ∙ dedup_is eqb sorted c.dedup.new.self.items c.dedup.ensures.filtered in
    subst (λ j. AreProviderValues j c.in-Ok.providers)
    (sym (array_seen c.args.value.now c.in-Array.list c.deref.result.now c.in-Array.is
    c.deref.ensures.value)) (
      given,
      c.in_ok-asns.ensures,
      set_of given sorted c.in-Ok.providers c.sort_unstable.ensures.permutation
          c.sort_unstable.ensures.sorted once,
      c.in-Ok.ensures.fits.count,
    )

pub returns-in-Err-Count : goal.returns-in-Err-Count
returns-in-Err-Count c =
    let given = c.in_ok-asns.asns.items in
    let sorted = c.sort_unstable.new.self.items in
    let once = c.dedup.new.self.items in
    let (xs, t, gave, count) = rw c.in-Err-Count.field-0-is at c.in-Err-Count.ensures.items in
    inr (subst (λ j. RefusesProviders j TooManyProviders)
    (sym (array_seen c.args.value.now c.in-Array.list c.deref.result.now c.in-Array.is
    c.deref.ensures.value))
    (inr (
      refl,
      too_many c.into_iter.result t _ given sorted once xs c.in_ok-asns.ensures
          c.sort_unstable.ensures.permutation c.sort_unstable.ensures.sorted
          (dedup_is eqb sorted once c.dedup.ensures.filtered) c.into_iter.ensures.rest gave count,
    )))
