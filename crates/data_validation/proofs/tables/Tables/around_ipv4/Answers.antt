use Rattle.std.proofs.Common.{arith}
use Rattle.data_validation.proofs.Narrowing.{around, around_all}
use Rattle.data_validation.proofs.tables.Tables.around_ipv4.Goals as goal

pub returns-then-top-self-clause-table : goal.returns-then-top-self-clause-table
returns-then-top-self-clause-table c = λ b len few h sorted.
    around b c.args.self.now c.args.address len c.first_byte-byte.result
    c.shortest_from-shortest.result c.start_at-low.result c.start_after-top.result h sorted few
    c.first_byte-byte.ensures (omega arith) c.shortest_from-shortest.ensures c.start_at-low.ensures
    c.start_after-top.ensures

pub returns-clause-table : goal.returns-clause-table
returns-clause-table c = λ b len few h sorted.
    around_all b c.args.self.now c.args.address len c.shortest_from-shortest.result
    c.start_at-low.result c.start_after-top.result
    (around b c.args.self.now c.args.address len c.first_byte-byte.result
    c.shortest_from-shortest.result c.start_at-low.result c.start_after-top.result h sorted few
    c.first_byte-byte.ensures (omega arith) c.shortest_from-shortest.ensures c.start_at-low.ensures
    c.start_after-top.ensures)
