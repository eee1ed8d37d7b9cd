use Rattle.std.proofs.Common.{subst, get_or}
use Rattle.unit_any.specs.SessionKinds.{any_header_fault}
use Rattle.unit_views.specs.Faults.{NamesRefusal}
use Rattle.unit_any.proofs.length.unit_length.Goals as goal

pub returns-in-Err : goal.returns-in-Err
returns-in-Err c =
    let b = c.args.bytes.now in (
      c.if-bytes-lt-HEADER_SIZE.false,
      subst (λ n. NamesRefusal b (any_header_fault (get_or b 0 0) (get_or b 1 0) (get_or b 2 0) n)
          c.in-Err.e) c.u32_at.ensures (c.in-Err.ensures b),
    )
