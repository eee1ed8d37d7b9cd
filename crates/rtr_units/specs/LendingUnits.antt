-- What a loan of all bytes leaves, for each fixed part (this library's own calls).
use Rattle.std.specs.Prelude.{ℕ, List}
use Rattle.std.specs.Borrow.{Lends, MutBor, Fml, u8, Array}
use Rattle.rtr_units.specs.declared.header.Header.{Header}
use Rattle.rtr_units.specs.declared.queries.SerialQueryPayload.{SerialQueryPayload}
use Rattle.rtr_units.specs.contracts.header.Header.{the_row as header_row}
use Rattle.rtr_units.specs.contracts.queries.SerialQueryPayload.{the_row as query_payload_row}

abbrev pub LendsHeader : MutBor Header → MutBor (List ℕ) → Fml
LendsHeader header r =
    Lends header_row (Array u8 0) header r
    (λ written. record { cells = record { bytes = written } })

abbrev pub LendsQueryPayload : MutBor SerialQueryPayload → MutBor (List ℕ) → Fml
LendsQueryPayload payload r =
    Lends query_payload_row (Array u8 0) payload r
    (λ written. record { cells = record { bytes = written } })
