use Rattle.std.proofs.Common.{sym, ◌∙◌}
use Rattle.make_work.proofs.Looks.{some_members}
use Rattle.make_work.proofs.json_looks.is_like_customers.Goals as goal

pub returns-then-not-is_empty : goal.returns-then-not-is_empty
returns-then-not-is_empty c = (
  λ e. (
    some_members c.args.members.now (sym c.is_empty.ensures ∙ c.if-not-is_empty.true),
    c.are_like_customers.ensures.0 e,
  ),
  λ h. c.are_like_customers.ensures.1 h.1,
)
