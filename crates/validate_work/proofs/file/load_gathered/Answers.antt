use Rattle.std.proofs.Common.{false, refl, subst, sym}
use Rattle.make_work.specs.Gathering.{GathersAll}
use Rattle.validate_work.proofs.Loading.{gathers_all, names_first}
use Rattle.validate_work.proofs.file.load_gathered.Goals as goal

pub returns-in-Err : goal.returns-in-Err
returns-in-Err c items h = names_first items _ c.in-Err.refusal c.in-Err.is h

pub returns-in-Ok-new : goal.returns-in-Ok-new
returns-in-Ok-new c items h =
    let all = c.in-Ok.gathered in (
      all.left_out,
      subst (λ d. GathersAll 2 false items d all.left_out) (sym c.in-Ok-new.ensures)
          (gathers_all items _ all c.in-Ok.is h),
      refl,
      refl,
    )
