use Rattle.std.proofs.Common.{refl, ap, ◌∙◌, rules, ◌++◌, length, take, drop}
use Rattle.rtr_units.specs.LendingError.{overwritten}
use Rattle.rtr_units.proofs.error.Error.as_mut.Goals as goal

pub returns : goal.returns
returns c =
    let bytes = c.self.inside.bytes in (
      (
        refl,
        λ w.
            ap (λ n. take n (w ++ drop (length w) bytes.items)) bytes.ok.0
            ∙ ap (λ old. overwritten old w) c.self.view_is,
      ),
      search rules,
    )
