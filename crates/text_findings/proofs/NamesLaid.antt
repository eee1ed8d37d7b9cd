-- Names that are laid over a slice.
use Rattle.std.proofs.Common.{◌≡◌, ℕ, List, Option, Some, None, arith}
use Rattle.rtr_units.specs.PrefixUnits.{OriginParts}
use Rattle.rtr_payload.specs.Payloads.{origin}
use Rattle.rtr_payload.specs.declared.pdu.prefix_rule.PrefixRule.{PrefixRule}
use Rattle.text_lines.specs.Laying.{Lays}
use Rattle.text_lines.proofs.Laid.{lays_none, lays_said}
use Rattle.text_findings.specs.PayloadNames.{option_name, payload_name}
use Rattle.text_findings.specs.SequenceSoFar.{origin_under}

-- of a prefix whose lengths are in order
pub origin_laid : (rule : Option PrefixRule) (o : OriginParts) (x a : List ℕ) (e : ℕ) (b : List ℕ) →
    rule ≡ None → x ≡ payload_name (origin o) → Lays x 0 a e b →
    Lays (option_name (origin_under rule (origin o))) 0 a e b
origin_laid rule o x a e b none is h =
    rw none (lays_said x (payload_name (origin o)) 0 a e b is h)

-- of one whose lengths aren't
pub none_laid : (rule : Option PrefixRule) (o : OriginParts) (r : PrefixRule) (a : List ℕ) →
    rule ≡ Some r → Lays (option_name (origin_under rule (origin o))) 0 a 0 a
none_laid rule o r a broken = rw broken (lays_none 0 a (omega arith))
