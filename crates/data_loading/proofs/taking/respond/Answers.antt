use Rattle.std.proofs.Common.{◌+◌, sym, subst}
use Rattle.data_loading.specs.PrivateLoading.{StandsAt}
use Rattle.data_loading.proofs.UnitsTaken.{response_taken}
use Rattle.data_loading.proofs.taking.respond.Goals as goal

pub returns-in-None-clause-takes : goal.returns-in-None-clause-takes
returns-in-None-clause-takes c = λ room.
    let r = c.respond.ensures in
    subst (λ k. StandsAt k (c.args.at + c.args.size) c.args.input.now c.settle.new.index
    c.args.output.now) (sym r.1)
    (response_taken c.args.held.now r.0 c.args.at c.args.size c.args.session c.args.input.now
    c.args.index.now c.settle.new.index c.args.output.now c.requires.within c.requires.unit r.2
    c.requires.stands (c.in-None.ensures.settles room c.args.at c.requires.stands))
