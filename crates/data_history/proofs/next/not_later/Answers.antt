use lib.Pointwise.{bytes_decides}
use Rattle.std.proofs.Common.{◌≡◌, ◌∙◌, ap, arith, false, length, sym, true}
use Rattle.data_history.proofs.next.not_later.Goals as goal

pub returns-then-serial-clause-why : goal.returns-then-serial-clause-why
returns-then-serial-clause-why c = λ same.
    absurd (c.if-serial.true (c.serial.ensures ∙ same ∙ sym c.serial-2.ensures))

pub returns-then-size-as_ref-clause-why : goal.returns-then-size-as_ref-clause-why
returns-then-size-as_ref-clause-why c = λ same.
    omega (arith, c.if-size-as_ref.true, ap length c.as_ref.ensures.bytes)

pub returns-then-eq-clause-why : goal.returns-then-eq-clause-why
returns-then-eq-clause-why c = (
  omega (arith, c.if-size-as_ref.false, ap length c.as_ref.ensures.bytes),
  sym c.as_ref-2.ensures.bytes
      ∙ (bytes_decides c.as_ref-2.result.now c.as_ref-3.result.now).0 (sym c.if-eq.ensures)
      ∙ c.as_ref-3.ensures.bytes,
)

pub returns-clause-why : goal.returns-clause-why
returns-clause-why c = (
  omega (arith, c.if-size-as_ref.false, ap length c.as_ref.ensures.bytes),
  sym c.serial.ensures ∙ c.if-serial.false ∙ c.serial-2.ensures,
  λ same.
      let equal = (bytes_decides c.as_ref-2.result.now c.as_ref-3.result.now).1
      (c.as_ref-2.ensures.bytes ∙ same ∙ sym c.as_ref-3.ensures.bytes) in
      let wrong : false ≡ true = c.if-eq.ensures ∙ equal in
      absurd cc,
)
