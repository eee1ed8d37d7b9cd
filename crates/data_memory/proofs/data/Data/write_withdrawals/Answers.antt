use Rattle.std.proofs.Common.{rules}
use Rattle.std.proofs.lemmas.Result.{err_from_is_err_and}
use Rattle.data_memory.proofs.Fronts.{first_stops, second_stops, three_pieces}
use Rattle.data_memory.proofs.Written.{withdrawn_parts}
use Rattle.data_memory.proofs.data.Data.write_withdrawals.Goals as goal

pub returns-in_err-write_origins : goal.returns-in_err-write_origins
returns-in_err-write_origins g c =
    let i = c.self.inside in
    let j = c.new.inside in
    let p = err_from_is_err_and c.from_residual.result c.from_residual.ensures.1 in
    rw (p.1, p.2) (record {
      bytes = first_stops _ _ _ _ _ _
          (withdrawn_parts c.args.version i.origins.keys j.origins.keys i.router_keys.keys
          j.router_keys.keys i.aspas.entries j.aspas.entries c.args.self.now c.args.new.now
          c.self.view_is c.new.view_is)
          c.in_err-write_origins.ensures.bytes;
      error = search rules;
    })

pub returns-in_err-write_keys : goal.returns-in_err-write_keys
returns-in_err-write_keys g c =
    let i = c.self.inside in
    let j = c.new.inside in
    let p = err_from_is_err_and c.from_residual-in_err-write_keys.result
    c.from_residual-in_err-write_keys.ensures.1 in
    rw (p.1, p.2) (record {
      bytes = second_stops _ _ _ _ _ _ _ _
          (withdrawn_parts c.args.version i.origins.keys j.origins.keys i.router_keys.keys
          j.router_keys.keys i.aspas.entries j.aspas.entries c.args.self.now c.args.new.now
          c.self.view_is c.new.view_is)
          c.in_ok-write_origins.ensures.bytes c.in_err-write_keys.ensures.bytes;
      error = search rules;
    })

pub returns : goal.returns
returns g c =
    let i = c.self.inside in
    let j = c.new.inside in
    record {
      bytes = three_pieces _ _ _ _ _ _ _ _ c.write_withdrawn.result
          (withdrawn_parts c.args.version i.origins.keys j.origins.keys i.router_keys.keys
          j.router_keys.keys i.aspas.entries j.aspas.entries c.args.self.now c.args.new.now
          c.self.view_is c.new.view_is)
          c.in_ok-write_origins.ensures.bytes c.in_ok-write_keys.ensures.bytes
          c.write_withdrawn.ensures.bytes;
      error = search rules;
    }
