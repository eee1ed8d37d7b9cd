use Rattle.std.proofs.Common.{◌≡◌, ◌∙◌, ◌+◌, ◌++◌, [], ap, arith, false, length, subst, sym, take}
use Rattle.std.proofs.Common.{refl, true}
use Rattle.rtr_base.proofs.Numbers.{length-be}
use Rattle.data_history.specs.Parts.{part_form}
use Rattle.data_history.proofs.Parts.{part_sizes}
use Rattle.data_history.proofs.Sessions.{IsStoreOf, among_left, lacks, leaves, left_among}
use Rattle.data_history.proofs.Sessions.{placed, placed_size, stays}
use Rattle.data_history.proofs.store.take_into.Goals as goal

pub returns-in-Some-place_store-clause-takes : goal.returns-in-Some-place_store-clause-takes
returns-in-Some-place_store-clause-takes c = λ x z ys zs h j present next may.
    let left = c.in-Some.part.1.now in
    let o = placed c.in-Some-place_store.size [] left c.args.history.now c.args.output.now
    c.place_store.new.output c.place_store.ensures.fits c.in-Some-place_store.ensures.bytes in
    stays c.args.store.now _ left c.args.history.now c.args.present c.args.next x z ys zs
    c.in-Some.ensures.bytes c.if-present-next.true o h j present next may

pub returns-in-None-place_store-clause-room : goal.returns-in-None-place_store-clause-room
returns-in-None-place_store-clause-room c =
    let left = length c.in-Some.part.1.now in
    let sizes = part_sizes c.args.store.now c.in-Some.ensures.is_there in
    let short = lacks (length c.args.output.now) (16 + left + length c.args.history.now)
    (λ le. c.in-None-place_store.ensures.enough (omega (arith, le))) in (
      omega (
        arith,
        c.wanted_of.ensures.more (omega (arith, short, c.place_store.auto.output)),
        c.place_store.auto.output,
      ),
      omega (arith, c.wanted_of.ensures.most, ap length c.in-Some.ensures.bytes, sizes),
    )

pub returns-then-is_among-clause-takes : goal.returns-then-is_among-clause-takes
returns-then-is_among-clause-takes c = λ x z ys zs. (
  λ e. c.if-present-next.false (sym e),
  λ h. among_left c.args.store.now c.in-Some.part.1.now c.args.next c.in-Some.ensures.bytes
      (c.if-is_among.ensures.0 refl),
)

pub returns-in-Some-place_store-2-clause-takes : goal.returns-in-Some-place_store-2-clause-takes
returns-in-Some-place_store-2-clause-takes c = λ x z ys zs h j present next may.
    let left = c.in-Some.part.1.now in
    let last = c.to_be_bytes.result in
    let o = placed c.in-Some-place_store-2.size last left c.args.history.now c.args.output.now
    c.place_store-2.new.output c.place_store-2.ensures.fits
    c.in-Some-place_store-2.ensures.bytes in
    leaves c.args.store.now _ left c.args.history.now c.args.present c.args.next x z ys zs
    c.in-Some.ensures.bytes c.ranges.present.fits c.if-present-next.false
    (λ among. let wrong : false ≡ true = c.if-is_among.ensures.1 among in absurd cc)
    (subst (λ b. IsStoreOf (take c.in-Some-place_store-2.size c.place_store-2.new.output)
    (b ++ left) c.args.history.now) c.to_be_bytes.ensures o) h j present next

pub returns-in-None-place_store-2-clause-room : goal.returns-in-None-place_store-2-clause-room
returns-in-None-place_store-2-clause-room c =
    let left = length c.in-Some.part.1.now in
    let sizes = part_sizes c.args.store.now c.in-Some.ensures.is_there in
    let two = ap length c.to_be_bytes.ensures ∙ length-be c.args.present 2 in
    let short = lacks (length c.args.output.now) (18 + left + length c.args.history.now)
    (λ le. c.in-None-place_store-2.ensures.enough (omega (arith, le, two))) in
    let more = c.wanted_of-in-None-place_store-2.ensures.more
    (omega (arith, short, c.place_store-2.auto.output)) in (
      omega (arith, more, c.place_store-2.auto.output),
      omega (
        arith,
        c.wanted_of-in-None-place_store-2.ensures.most,
        ap length c.in-Some.ensures.bytes,
        sizes,
      ),
    )

pub returns-in-Some-place_store-clause-history : goal.returns-in-Some-place_store-clause-history
returns-in-Some-place_store-clause-history c =
    (placed c.in-Some-place_store.size [] c.in-Some.part.1.now c.args.history.now c.args.output.now
    c.place_store.new.output c.place_store.ensures.fits c.in-Some-place_store.ensures.bytes).rest

pub returns-in-Some-place_store-2-clause-history :
    goal.returns-in-Some-place_store-2-clause-history
returns-in-Some-place_store-2-clause-history c =
    (placed c.in-Some-place_store-2.size c.to_be_bytes.result c.in-Some.part.1.now
    c.args.history.now c.args.output.now c.place_store-2.new.output c.place_store-2.ensures.fits
    c.in-Some-place_store-2.ensures.bytes).rest

-- ---- the bytes that were written

pub returns-in-Some-place_store-clause-stays : goal.returns-in-Some-place_store-clause-stays
returns-in-Some-place_store-clause-stays c = λ same.
    (placed c.in-Some-place_store.size [] c.in-Some.part.1.now c.args.history.now c.args.output.now
    c.place_store.new.output c.place_store.ensures.fits c.in-Some-place_store.ensures.bytes).form
    ∙ ap (λ l. part_form 0 l ++ c.args.history.now) c.in-Some.ensures.bytes

pub returns-in-Some-place_store-clause-leaves : goal.returns-in-Some-place_store-clause-leaves
returns-in-Some-place_store-clause-leaves c = λ other. absurd (other c.if-present-next.true)

pub returns-in-Some-place_store-2-clause-stays : goal.returns-in-Some-place_store-2-clause-stays
returns-in-Some-place_store-2-clause-stays c = λ same. absurd (c.if-present-next.false same)

pub returns-in-Some-place_store-2-clause-leaves : goal.returns-in-Some-place_store-2-clause-leaves
returns-in-Some-place_store-2-clause-leaves c = λ other.
    (placed c.in-Some-place_store-2.size c.to_be_bytes.result c.in-Some.part.1.now
    c.args.history.now c.args.output.now c.place_store-2.new.output c.place_store-2.ensures.fits
    c.in-Some-place_store-2.ensures.bytes).form
    ∙ (λ i. part_form 0 (c.to_be_bytes.ensures i ++ c.in-Some.ensures.bytes i)
    ++ c.args.history.now)

-- ---- which result comes

pub returns-in-None-clause-decides : goal.returns-in-None-clause-decides
returns-in-None-clause-decides c = λ has.
    let some : false ≡ true = c.in-None.ensures.finds has in absurd cc

pub returns-then-is_among-clause-decides : goal.returns-then-is_among-clause-decides
returns-then-is_among-clause-decides c = (
  c.in-Some.ensures.is_there,
  c.if-present-next.false,
  among_left c.args.store.now c.in-Some.part.1.now c.args.next c.in-Some.ensures.bytes
      (c.if-is_among.ensures.0 refl),
)

pub returns-in-Some-place_store-clause-decides : goal.returns-in-Some-place_store-clause-decides
returns-in-Some-place_store-clause-decides c =
    let left = c.in-Some.part.1.now in
    let size = placed_size c.in-Some-place_store.size [] left c.args.history.now c.args.output.now
    c.place_store.new.output c.in-Some-place_store.ensures.bytes in (
      c.in-Some.ensures.is_there,
      λ other. absurd (other c.if-present-next.true),
      (
        λ same. omega (arith, size, ap length c.in-Some.ensures.bytes),
        λ other. absurd (other c.if-present-next.true),
      ),
      c.in-Some-place_store.ensures.bytes.1,
    )

pub returns-in-Some-place_store-2-clause-decides : goal.returns-in-Some-place_store-2-clause-decides
returns-in-Some-place_store-2-clause-decides c =
    let left = c.in-Some.part.1.now in
    let last = c.to_be_bytes.result in
    let size = placed_size c.in-Some-place_store-2.size last left c.args.history.now
    c.args.output.now c.place_store-2.new.output c.in-Some-place_store-2.ensures.bytes in (
      c.in-Some.ensures.is_there,
      λ other among.
          let wrong : false ≡ true = c.if-is_among.ensures.1 (left_among c.args.store.now left
          c.args.next c.in-Some.ensures.bytes among) in absurd cc,
      (
        λ same. absurd (c.if-present-next.false same),
        λ other. omega (
          arith,
          size,
          ap length c.in-Some.ensures.bytes,
          ap length c.to_be_bytes.ensures ∙ length-be c.args.present 2,
        ),
      ),
      c.in-Some-place_store-2.ensures.bytes.1,
    )

pub returns-in-None-place_store-clause-decides : goal.returns-in-None-place_store-clause-decides
returns-in-None-place_store-clause-decides c =
    let left = ap length c.in-Some.ensures.bytes in
    let size = 16 + length c.in-Some.part.1.now + length c.args.history.now in
    let wanted = c.wanted_of.ensures in (
      c.in-Some.ensures.is_there,
      λ other. absurd (other c.if-present-next.true),
      (
        size,
        (λ same. omega (arith, left), λ other. absurd (other c.if-present-next.true)),
        lacks (length c.args.output.now) size
            (λ le. c.in-None-place_store.ensures.enough (omega (arith, le))),
        omega (arith, wanted.most),
        λ less. wanted.greatest (omega (arith, less)),
      ),
    )

pub returns-in-None-place_store-2-clause-decides :
    goal.returns-in-None-place_store-2-clause-decides
returns-in-None-place_store-2-clause-decides c =
    let part = c.in-Some.part.1.now in
    let left = ap length c.in-Some.ensures.bytes in
    let size = 18 + length part + length c.args.history.now in
    let two = ap length c.to_be_bytes.ensures ∙ length-be c.args.present 2 in
    let wanted = c.wanted_of-in-None-place_store-2.ensures in (
      c.in-Some.ensures.is_there,
      λ other among.
          let wrong : false ≡ true = c.if-is_among.ensures.1 (left_among c.args.store.now part
          c.args.next c.in-Some.ensures.bytes among) in absurd cc,
      (
        size,
        (λ same. absurd (c.if-present-next.false same), λ other. omega (arith, left)),
        lacks (length c.args.output.now) size
            (λ le. c.in-None-place_store-2.ensures.enough (omega (arith, le, two))),
        omega (arith, wanted.most),
        λ less. wanted.greatest (omega (arith, less)),
      ),
    )
