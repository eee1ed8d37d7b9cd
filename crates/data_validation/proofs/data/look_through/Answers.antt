use Rattle.std.proofs.Common.{List, [], ◌∷◌, map, subst, sym, true}
use Rattle.std.proofs.lemmas.List.{map-append}
use Rattle.std.specs.Map.Iter.{deref}
use Rattle.rtr_payload.specs.declared.payload.RouteOrigin.{RouteOrigin}
use Rattle.data_memory.proofs.Fronts.{turn, turned_all}
use Rattle.data_memory.specs.Contents.{joined}
use Rattle.data_validation.specs.Covering.{vrp}
use Rattle.data_validation.specs.PrivateSets.{OriginsPassed}
use Rattle.data_validation.specs.PrivateTable.{OneSays}
use Rattle.data_validation.specs.Validity.{IsValidity}
use Rattle.data_validation.specs.declared.validity.Validity.{Validity}
use Rattle.data_validation.specs.declared.validity.Validity.TheVariants.{NotFound, Valid, Invalid}
use Rattle.data_validation.proofs.Sets.{all_passed, more_apart, more_covers, one_matches, turned_to}
use Rattle.data_validation.proofs.data.look_through.Goals as goal

pub returns-in-Valid : goal.returns-in-Valid
returns-in-Valid c = λ keys aspas.
    let p = c.args.route.now.prefix in
    let asn = c.args.route.now.asn in
    let x = c.in-Some.origin in
    let all = turn deref c.origins.yielded x _ _ _ c.origins.invariant.turned
    c.in-Some.ensures.steps in
    one_matches c.args.origins keys aspas (deref x) p asn
    (turned_to deref c.origins.yielded x _ _ all)
    (subst (λ (o : RouteOrigin). OneSays Valid (vrp o) p asn) c.get.ensures c.in-Valid.ensures)

pub origins-preserved-in-Invalid : goal.origins-preserved-in-Invalid
origins-preserved-in-Invalid c =
    let p = c.args.route.now.prefix in
    let asn = c.args.route.now.asn in
    let i = c.origins.invariant in
    let x = c.in-Some.origin in
    let says = subst (λ (o : RouteOrigin). OneSays Invalid (vrp o) p asn) c.get.ensures
    c.in-Invalid.ensures in
    record {
      turned = turn deref c.origins.yielded x _ _ _ i.turned c.in-Some.ensures.steps;
      passed = subst (λ (os : List RouteOrigin). OriginsPassed os p asn true)
          (sym (map-append deref c.origins.yielded (x ∷ [])))
          (more_covers (map deref c.origins.yielded) (deref x) p asn c.origins.covered i.passed
          says.0 says.1);
    }

pub origins-preserved : goal.origins-preserved
origins-preserved c =
    let p = c.args.route.now.prefix in
    let asn = c.args.route.now.asn in
    let i = c.origins.invariant in
    let x = c.in-Some.origin in
    let says = subst (λ (o : RouteOrigin). OneSays NotFound (vrp o) p asn) c.get.ensures
    c.in-NotFound.ensures in
    record {
      turned = turn deref c.origins.yielded x _ _ _ i.turned c.in-Some.ensures.steps;
      passed = subst (λ (os : List RouteOrigin). OriginsPassed os p asn c.origins.covered)
          (sym (map-append deref c.origins.yielded (x ∷ [])))
          (more_apart (map deref c.origins.yielded) (deref x) p asn c.origins.covered i.passed
          says);
    }

pub returns : goal.returns
returns c = λ keys aspas.
    let p = c.args.route.now.prefix in
    let asn = c.args.route.now.asn in
    let i = c.origins.invariant in
    let all = turned_all deref c.origins.yielded _ _ i.turned c.in-None.ensures.steps.0 in
    subst (λ (os : List RouteOrigin). IsValidity (joined os keys aspas) p asn c.unmatched.result)
    (sym all)
    (subst (λ (w : Validity). IsValidity (joined (map deref c.origins.yielded) keys aspas) p asn w)
    (sym c.unmatched.ensures)
    (all_passed (map deref c.origins.yielded) keys aspas p asn c.origins.covered i.passed))
