use Rattle.std.proofs.Common.{sym, ◌≡◌, ◌≢◌, ◌<◌, ◌∙◌, arith, length}
use Rattle.rtr_units.specs.AnyEnd.{end_meaning}
use Rattle.data_slices.proofs.InSession.{both, too_many}
use Rattle.data_slices.proofs.in_order.read_both.Goals as goal

pub returns-then-version-clause-reads : goal.returns-then-version-clause-reads
returns-then-version-clause-reads c =
    let (d, h) = c.in-Ok.ensures.«data» in
    let x = c.in-Ok-read_offsets.read in
    both c.args.«data».now c.args.changes.now c.read_offsets.new.index d (end_meaning c.in-Ok.end) h
    x.0 x.1 c.in-Ok-read_offsets.ensures.read
    (λ d end cs end'. (end.version ≢ end'.version)
    × (c.version-then-version.result ≡ end'.version)) (
      λ same. c.if-version.true (c.version.ensures ∙ same ∙ sym c.version-2.ensures),
      c.version-then-version.ensures,
    )

pub returns-then-session-clause-reads : goal.returns-then-session-clause-reads
returns-then-session-clause-reads c =
    let (d, h) = c.in-Ok.ensures.«data» in
    let x = c.in-Ok-read_offsets.read in
    both c.args.«data».now c.args.changes.now c.read_offsets.new.index d (end_meaning c.in-Ok.end) h
    x.0 x.1 c.in-Ok-read_offsets.ensures.read
    (λ d end cs end'. (end.version ≡ end'.version) × (end.session ≢ end'.session)
    × (c.session-then-session.result ≡ end'.session)) (
      sym c.version.ensures ∙ c.if-version.false ∙ c.version-2.ensures,
      λ same. c.if-session.true (c.session.ensures ∙ same ∙ sym c.session-2.ensures),
      c.session-then-session.ensures,
    )

pub returns-then-count-index-clause-reads : goal.returns-then-count-index-clause-reads
returns-then-count-index-clause-reads c =
    let (d, h) = c.in-Ok.ensures.«data» in
    let x = c.in-Ok-read_offsets.read in
    let r = c.in-Ok-read_offsets.ensures.read in
    both c.args.«data».now c.args.changes.now c.read_offsets.new.index d (end_meaning c.in-Ok.end) h
    x.0 x.1 r
    (λ d end cs end'. (end.version ≡ end'.version) × (end.session ≡ end'.session)
    × (length c.args.index.now < length cs)) (
      sym c.version.ensures ∙ c.if-version.false ∙ c.version-2.ensures,
      sym c.session.ensures ∙ c.if-session.false ∙ c.session-2.ensures,
      too_many c.args.«data».now c.args.changes.now c.read_offsets.new.index d
          (end_meaning c.in-Ok.end) h x.0 x.1 r (length c.args.index.now)
          (sym c.in-Ok-read_offsets.ensures.same_length)
          (omega (arith, c.if-count-index.true, c.in-Ok-read_offsets.ensures.same_length)),
    )
