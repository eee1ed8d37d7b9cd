use Rattle.std.proofs.Common.{None, Some, refl, sym, ◌∙◌}
use Rattle.rtr_units.specs.AnyEnd.{end_meaning}
use Rattle.data_slices.proofs.Answering.{applied, duplicate_at, unknown_at}
use Rattle.data_slices.proofs.Making.{both}
use Rattle.data_slices.proofs.Parting.{of_parts}
use Rattle.data_slices.proofs.apply.apply_into.Goals as goal

pub returns-then-version : goal.returns-then-version
returns-then-version c =
    let (d, h) = c.in-Ok.ensures.«data» in
    let p = c.in-Ok-check_parts.parts in
    let q = c.in-Ok-check_parts.ensures.parts in (
      (
        d,
        end_meaning c.in-Ok.end,
        both q.announced q.withdrawn,
        end_meaning p.end,
        h,
        of_parts c.args.changes.now p.middle p.stop (end_meaning p.end) q,
        (
          λ same. c.if-version.true (c.version.ensures ∙ same ∙ sym c.version-2.ensures),
          c.version-then-version.ensures,
        ),
      ),
      refl,
    )

pub returns-then-session : goal.returns-then-session
returns-then-session c =
    let (d, h) = c.in-Ok.ensures.«data» in
    let p = c.in-Ok-check_parts.parts in
    let q = c.in-Ok-check_parts.ensures.parts in (
      (
        d,
        end_meaning c.in-Ok.end,
        both q.announced q.withdrawn,
        end_meaning p.end,
        h,
        of_parts c.args.changes.now p.middle p.stop (end_meaning p.end) q,
        (
          sym c.version.ensures ∙ c.if-version.false ∙ c.version-2.ensures,
          λ same. c.if-session.true (c.session.ensures ∙ same ∙ sym c.session-2.ensures),
          c.session-then-session.ensures,
        ),
      ),
      refl,
    )

pub returns-in-Some : goal.returns-in-Some
returns-in-Some c =
    let (d, h) = c.in-Ok.ensures.«data» in
    let p = c.in-Ok-check_parts.parts in (
      duplicate_at c.args.«data».now c.args.changes.now p.middle p.stop d
          (end_meaning c.in-Ok.end) (end_meaning p.end) h c.in-Ok-check_parts.ensures.parts
          (sym c.version.ensures ∙ c.if-version.false ∙ c.version-2.ensures)
          (sym c.session.ensures ∙ c.if-session.false ∙ c.session-2.ensures) c.in-Some.offset
          c.in-Some.ensures.found,
      refl,
    )

pub returns-in-Some-first_breaking : goal.returns-in-Some-first_breaking
returns-in-Some-first_breaking c =
    let (d, h) = c.in-Ok.ensures.«data» in
    let p = c.in-Ok-check_parts.parts in (
      unknown_at c.args.«data».now c.args.changes.now p.middle p.stop d
          (end_meaning c.in-Ok.end) (end_meaning p.end) h c.in-Ok-check_parts.ensures.parts
          (sym c.version.ensures ∙ c.if-version.false ∙ c.version-2.ensures)
          (sym c.session.ensures ∙ c.if-session.false ∙ c.session-2.ensures)
          c.in_default.ensures.found c.in-Some-first_breaking.offset
          c.in-Some-first_breaking.ensures.found,
      refl,
    )

pub returns-in-Some-place_all : goal.returns-in-Some-place_all
returns-in-Some-place_all c =
    let (d, h) = c.in-Ok.ensures.«data» in
    let p = c.in-Ok-check_parts.parts in
    applied c.args.«data».now c.args.changes.now p.middle p.stop d
    (end_meaning c.in-Ok.end) (end_meaning p.end) h c.in-Ok-check_parts.ensures.parts
    (sym c.version.ensures ∙ c.if-version.false ∙ c.version-2.ensures)
    (sym c.session.ensures ∙ c.if-session.false ∙ c.session-2.ensures)
    c.in_default.ensures.found c.in_default-first_breaking.ensures.found
    (Some c.in-Some-place_all.size) c.args.output.now c.place_all.new.output
    c.in-Some-place_all.ensures

pub returns-in-None : goal.returns-in-None
returns-in-None c =
    let (d, h) = c.in-Ok.ensures.«data» in
    let p = c.in-Ok-check_parts.parts in
    applied c.args.«data».now c.args.changes.now p.middle p.stop d
    (end_meaning c.in-Ok.end) (end_meaning p.end) h c.in-Ok-check_parts.ensures.parts
    (sym c.version.ensures ∙ c.if-version.false ∙ c.version-2.ensures)
    (sym c.session.ensures ∙ c.if-session.false ∙ c.session-2.ensures)
    c.in_default.ensures.found c.in_default-first_breaking.ensures.found
    None c.args.output.now c.place_all.new.output c.in-None.ensures
