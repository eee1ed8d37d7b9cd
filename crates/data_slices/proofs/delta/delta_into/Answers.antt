use Rattle.std.proofs.Common.{refl, sym, ◌∙◌, Some, None}
use Rattle.rtr_units.specs.AnyEnd.{end_meaning}
use Rattle.data_slices.proofs.Deltas.{delta_at}
use Rattle.data_slices.proofs.delta.delta_into.Goals as goal

pub returns-in-Err : goal.returns-in-Err
returns-in-Err c = (c.in-Err.ensures.flaw, refl)

pub returns-in-Err-check_data : goal.returns-in-Err-check_data
returns-in-Err-check_data c =
    let (d, h) = c.in-Ok.ensures.data in
    (((d, end_meaning c.in-Ok.end, h), c.in-Err-check_data.ensures.flaw), refl)

pub returns-then-version : goal.returns-then-version
returns-then-version c =
    let (d, h) = c.in-Ok.ensures.data in
    let (d', j) = c.in-Ok-check_data.ensures.data in (
      (
        d,
        end_meaning c.in-Ok.end,
        d',
        end_meaning c.in-Ok-check_data.end,
        h,
        j,
        (
          λ same. c.if-version.true (c.version.ensures ∙ same ∙ sym c.version-2.ensures),
          c.version-then-version.ensures,
        ),
      ),
      refl,
    )

pub returns-then-session : goal.returns-then-session
returns-then-session c =
    let (d, h) = c.in-Ok.ensures.data in
    let (d', j) = c.in-Ok-check_data.ensures.data in (
      (
        d,
        end_meaning c.in-Ok.end,
        d',
        end_meaning c.in-Ok-check_data.end,
        h,
        j,
        (
          sym c.version.ensures ∙ c.if-version.false ∙ c.version-2.ensures,
          λ same. c.if-session.true (c.session.ensures ∙ same ∙ sym c.session-2.ensures),
          c.session-then-session.ensures,
        ),
      ),
      refl,
    )

pub place_delta-requires-clause-old : goal.place_delta-requires-clause-old
place_delta-requires-clause-old c =
    let (d, h) = c.in-Ok.ensures.data in (d, end_meaning c.in-Ok.end, h)

pub place_delta-requires-clause-new : goal.place_delta-requires-clause-new
place_delta-requires-clause-new c =
    let (d, h) = c.in-Ok-check_data.ensures.data in (d, end_meaning c.in-Ok-check_data.end, h)

pub returns-in-Some : goal.returns-in-Some
returns-in-Some c =
    let (d, h) = c.in-Ok.ensures.data in
    let (d', j) = c.in-Ok-check_data.ensures.data in (
      d,
      end_meaning c.in-Ok.end,
      d',
      end_meaning c.in-Ok-check_data.end,
      h,
      j,
      (
        sym c.version.ensures ∙ c.if-version.false ∙ c.version-2.ensures,
        sym c.session.ensures ∙ c.if-session.false ∙ c.session-2.ensures,
        delta_at (Some c.in-Some.size) c.args.old.now c.args.new.now c.args.output.now
            c.place_delta.new.output d d' (end_meaning c.in-Ok.end)
            (end_meaning c.in-Ok-check_data.end) (end_meaning c.in-Ok-check_data.end)
            c.version-3.result c.as_ref.result.now c.version-3.ensures
            (c.as_ref.ensures.bytes ∙ c.in-Ok-check_data.ensures.end.bytes) h j c.in-Some.ensures,
      ),
    )

pub returns-in-None : goal.returns-in-None
returns-in-None c =
    let (d, h) = c.in-Ok.ensures.data in
    let (d', j) = c.in-Ok-check_data.ensures.data in (
      d,
      end_meaning c.in-Ok.end,
      d',
      end_meaning c.in-Ok-check_data.end,
      h,
      j,
      (
        sym c.version.ensures ∙ c.if-version.false ∙ c.version-2.ensures,
        sym c.session.ensures ∙ c.if-session.false ∙ c.session-2.ensures,
        delta_at None c.args.old.now c.args.new.now c.args.output.now
            c.place_delta.new.output d d' (end_meaning c.in-Ok.end)
            (end_meaning c.in-Ok-check_data.end) (end_meaning c.in-Ok-check_data.end)
            c.version-3.result c.as_ref.result.now c.version-3.ensures
            (c.as_ref.ensures.bytes ∙ c.in-Ok-check_data.ensures.end.bytes) h j c.in-None.ensures,
      ),
    )
