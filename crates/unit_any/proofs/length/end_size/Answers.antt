use Rattle.std.proofs.Common.{arith}
use Rattle.unit_views.proofs.Fronts.{end_version}
use Rattle.unit_any.proofs.Lengths.{untimed_size, timed_size}
use Rattle.unit_any.proofs.length.end_size.Goals as goal

pub returns-then-version-gt-LAST_VERSION : goal.returns-then-version-gt-LAST_VERSION
returns-then-version-gt-LAST_VERSION c = λ u. end_version _ _ _ (omega arith)

pub returns-then-version-eq0 : goal.returns-then-version-eq0
returns-then-version-eq0 c =
    untimed_size _ _ _ c.exact.result c.if-version-eq0.true c.size.ensures c.exact.ensures

pub returns-else-version-eq0 : goal.returns-else-version-eq0
returns-else-version-eq0 c =
    timed_size _ _ _ c.exact-else-version-eq0.result c.if-version-eq0.false (omega arith)
    c.size-else-version-eq0.ensures c.exact-else-version-eq0.ensures
