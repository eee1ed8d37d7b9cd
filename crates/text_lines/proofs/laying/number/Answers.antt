use Rattle.std.proofs.Common.{◌∷◌, [], ◌∙◌, ap, sym, arith}
use Rattle.std.proofs.lemmas.Fmt.{decimal_digit}
use Rattle.text_lines.proofs.Laid.{lays_said}
use Rattle.text_lines.proofs.ShortNumbers.{three_digits, two_digits}
use Rattle.text_lines.proofs.laying.number.Goals as goal

pub returns-in-0-to-9 : goal.returns-in-0-to-9
returns-in-0-to-9 c =
    lays_said _ _ _ _ _ _
    (ap (λ d. d ∷ []) c.digit.ensures
    ∙ sym (decimal_digit c.args.number (omega (arith, c.in-0-to-9))))
    c.bytes.ensures

pub returns-in-10-to-99 : goal.returns-in-10-to-99
returns-in-10-to-99 c =
    lays_said _ _ _ _ _ _
    ((λ i. c.digit-in-10-to-99.ensures i ∷ c.digit-in-10-to-99-2.ensures i ∷ [])
    ∙ sym (two_digits c.args.number (omega (arith, c.in-10-to-99)) (omega (arith, c.in-10-to-99))))
    c.bytes-in-10-to-99.ensures

pub returns-in-100-to-999 : goal.returns-in-100-to-999
returns-in-100-to-999 c =
    lays_said _ _ _ _ _ _
    ((λ i. c.digit-in-100-to-999.ensures i ∷ c.digit-in-100-to-999-2.ensures i
    ∷ c.digit-in-100-to-999-3.ensures i ∷ [])
    ∙ sym (three_digits c.args.number (omega (arith, c.in-100-to-999))
    (omega (arith, c.in-100-to-999))))
    c.bytes-in-100-to-999.ensures
