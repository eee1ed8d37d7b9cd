use Rattle.std.proofs.Common.{◌≡◌, length}
use Rattle.std.specs.Iterator.{Yields}
use Rattle.rtr_payload.specs.Providers.{words_of}
use Rattle.rtr_payload.specs.Providers.{AreProviderBytes}
use Rattle.rtr_payload.proofs.pdu.providers.ProviderAsns.try_from_iter.Given as goal

abbrev pub invariant-items : goal.invariant-items
invariant-items g l = record {
  can_go_on : g.I.Iterator.can_next l.iter;
  fit : AreProviderBytes l.bytes.items;
  count : length (words_of l.bytes.items) ≡ l._taken;
  taken : Yields g.I.Iterator.next_gives l.initial.iter (words_of l.bytes.items) l.iter;
}
