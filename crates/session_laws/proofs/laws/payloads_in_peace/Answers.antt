use Rattle.std.proofs.Common.{List, subst, sym}
use Rattle.rtr_payload.specs.Payloads.{Payload}
use Rattle.data_memory.specs.Data.{Change}
use Rattle.session_cache.specs.Worlds.{IsSource}
use Rattle.session_cache.proofs.Peace.{peace}
use Rattle.session_laws.specs.Editions.{payload_source}
use Rattle.session_laws.proofs.Payloads.{is_source}
use Rattle.session_laws.proofs.laws.payloads_in_peace.Goals as goal

pub returns : goal.returns
returns c es w x rest n a after are one run is listens fresh soon peaceful step =
    peace (List Payload) Change payload_source w
    (subst (λ had. IsSource (List Payload) Change payload_source had) (sym are) (is_source es)) one
    x rest n a after run is listens fresh soon peaceful step
