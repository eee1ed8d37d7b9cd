use Rattle.std.proofs.Common.{◌≡◌, Some, ap, refl, subst, sym}
use Rattle.data_history.specs.Stores.{after_saving}
use Rattle.data_history.proofs.Serving.{saves}
use Rattle.data_history.proofs.stores.Stores.saved.Goals as goal

pub returns-in-Some-clause-after : goal.returns-in-Some-clause-after
returns-in-Some-clause-after c =
    subst (λ t. after_saving (Some c.in-Some.size) c.args.self.now ≡ after_saving t c.args.self.now)
    (sym c.in-Some.is) refl

pub returns-in-Some-clause-life : goal.returns-in-Some-clause-life
returns-in-Some-clause-life c = λ xs first second b z ys is h l.
    saves c.args.self.now (after_saving (Some c.in-Some.size) c.args.self.now) xs first second b z
    ys
    (ap (λ t. after_saving t c.args.self.now) (sym c.in-Some.is)) is h l
