use Rattle.std.proofs.Common.{sym, subst}
use Rattle.data_loading.specs.PrivateLoading.{IsBegun, IsCurrent}
use Rattle.data_loading.proofs.held.Held.current.Goals as goal

pub returns-in-None : goal.returns-in-None
returns-in-None c = record {
  answer =
      subst (λ p. IsCurrent p c.begin.result c.args.self.now) (sym c.in-None.is) (λ d.
      subst (λ s. IsBegun c.begin.result c.args.self.now d s) (c.last_session.ensures d)
      (c.begin.ensures d));
}
