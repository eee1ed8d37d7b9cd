use native.Mathlib.Omega.{arith}
use Rattle.std.proofs.Common.{◌≤◌, ap}
use Rattle.session_client.specs.declared.client.Client.{Client}
use Rattle.rtr_c.proofs.Links.{begun_more}
use Rattle.rtr_c.proofs.link_calls.rtr_link_received_nonnull.Goals as goal

pub returns-then-status-eq-OK-clause-begun : goal.returns-then-status-eq-OK-clause-begun
returns-then-status-eq-OK-clause-begun c = λ e.
    let l = c.args.link.now in
    let now_filled = ap (λ (k : Client). k.filled) c.received.ensures.filled in
    let was_filled = ap (λ (k : Client). k.filled) c.client_from-client.ensures.client in
    let more : l.filled ≤ c.received.new.self.filled =
    omega (arith, now_filled, was_filled) in
    begun_more l c.received.new.self.filled 0 e more
