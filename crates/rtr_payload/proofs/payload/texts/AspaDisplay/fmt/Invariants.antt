use Rattle.std.proofs.Common.{◌≡◌, ◌++◌}
use Rattle.std.specs.Fmt.{HasWritten, IsPlainFormatter}
use Rattle.rtr_payload.specs.PayloadTexts.{each_text}
use Rattle.rtr_payload.proofs.ProviderTexts.{front_text}
use Rattle.rtr_payload.proofs.payload.texts.AspaDisplay.fmt.Given as goal

-- the providers so far were written
abbrev pub invariant-loop-provider : goal.invariant-loop-provider
invariant-loop-provider g l =
    (l.yielded ++ l.provider-iterator ≡ l.self.providers)
    × (IsPlainFormatter l.fn.f →
    HasWritten g.W.Write.write_str_gives l.fn.f
    (front_text l.self.customer ++ each_text l.yielded) l.f)
