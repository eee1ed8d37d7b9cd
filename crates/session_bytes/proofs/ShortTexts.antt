-- What is said of refusals is short.
use Rattle.std.proofs.Common.{◌≡◌, ℕ, ◌+◌, ◌<◌, ◌≤◌, ◌^◌, List, ◌++◌, length, take, arith, ap, ◌∙◌}
use Rattle.std.specs.Prelude.{decimal}
use Rattle.std.proofs.Math.Seq.{take-append_seam}
use Rattle.std.proofs.lemmas.Fmt.{length-decimal-le}
use Rattle.std.proofs.lemmas.List.{length-append}
use Rattle.rtr_payload.specs.FirstFault.{text_of}
use Rattle.rtr_payload.specs.declared.pdu.prefix_rule.PrefixRule.{PrefixRule}
use Rattle.rtr_payload.specs.declared.pdu.prefix_rule.PrefixRule.TheVariants.{LenOverflow}
use Rattle.rtr_payload.specs.declared.pdu.prefix_rule.PrefixRule.TheVariants.{MaxOverflow}
use Rattle.rtr_payload.specs.declared.pdu.prefix_rule.PrefixRule.TheVariants.{MaxUnderflow}
use Rattle.text_lines.specs.Laying.{Lays}
use Rattle.text_lines.proofs.Laid.{lays_length, lays_whole, lays_size}

-- a byte between two texts
pub around_byte : (a b : List ℕ) (n : ℕ) → n < 2 ^ 8 →
    length (a ++ decimal n ++ b) ≤ length a + 3 + length b
around_byte a b n small =
    omega (
      arith,
      length-append (a ++ decimal n) b,
      length-append a (decimal n),
      length-decimal-le 3 n (omega arith) (omega (arith, small)) (omega (arith, small)),
    )

pub rule_short : (rule : PrefixRule) → length (text_of rule) ≤ 64
rule_short LenOverflow = omega arith
rule_short MaxOverflow = omega arith
rule_short MaxUnderflow = omega arith

-- a text that was laid where there is room
pub laid_front : (text before after : List ℕ) (end : ℕ) → Lays text 0 before end after →
    length before ≡ 64 → length text ≤ 64 → take end after ≡ text
laid_front text before after end laid room short =
    ap (λ n. take n after) (lays_length text before after end laid (omega (arith, short)))
    ∙ ap (λ l. take (length text) l)
    (lays_whole text before after end laid (omega (arith, room)) (omega (arith, short, room)))
    ∙ take-append_seam text _

pub laid_inside : (text before after : List ℕ) (end : ℕ) → Lays text 0 before end after →
    length before ≡ 64 → length text ≤ 64 → end ≤ length after
laid_inside text before after end laid room short =
    omega (
      arith,
      room,
      short,
      lays_length text before after end laid (omega (arith, short)),
      lays_size text before after end laid (omega (arith, room)),
    )
