use Rattle.std.proofs.Common.{ℕ, List, subst, sym}
use Rattle.data_validation.specs.Tables.{AreTables}
use Rattle.validate_work.specs.PrivateVrps.{kept_end}
use Rattle.validate_work.proofs.KeptData.{lent}
use Rattle.validate_work.proofs.vrps.Vrps.first_covering.Goals as goal

pub returns-clause-first : goal.returns-clause-first
returns-clause-first c =
    c.first_covering.ensures.first
    (subst (λ (b : List ℕ). AreTables b c.self.inside.tables) (sym c.deref.ensures.value)
    c.self.invariant.1)
    c.args.self.now kept_end
    (lent c.deref.result.now c.self.inside.bytes.items c.args.self.now c.self.inside.payloads
    c.deref.ensures.value (sym c.self.view_is) c.self.invariant.0)
