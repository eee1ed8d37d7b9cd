use Rattle.std.proofs.lemmas.Result.{err_from_is_err_and}
use Rattle.data_memory.proofs.Fronts.{first_stops, second_stops, three_pieces}
use Rattle.data_memory.proofs.Written.{all_parts}
use Rattle.data_memory.proofs.data.Data.write_all.Goals as goal

pub returns-in_err-write_all_origins-clause-known :
    goal.returns-in_err-write_all_origins-clause-known
returns-in_err-write_all_origins-clause-known g c =
    let i = c.self.inside in
    let p = err_from_is_err_and c.from_residual.result c.from_residual.ensures.1 in
    λ _. rw (p.1, p.2)
    (first_stops _ _ _ _ _ _
    (all_parts c.args.version i.origins.keys i.router_keys.keys i.aspas.entries c.args.self.now
    c.self.view_is)
    c.in_err-write_all_origins.ensures.bytes)

pub returns-in_err-write_all_keys-clause-known : goal.returns-in_err-write_all_keys-clause-known
returns-in_err-write_all_keys-clause-known g c =
    let i = c.self.inside in
    let p = err_from_is_err_and c.from_residual-in_err-write_all_keys.result
    c.from_residual-in_err-write_all_keys.ensures.1 in
    λ _. rw (p.1, p.2)
    (second_stops _ _ _ _ _ _ _ _
    (all_parts c.args.version i.origins.keys i.router_keys.keys i.aspas.entries c.args.self.now
    c.self.view_is)
    c.in_ok-write_all_origins.ensures.bytes c.in_err-write_all_keys.ensures.bytes)

pub returns-clause-known : goal.returns-clause-known
returns-clause-known g c =
    let i = c.self.inside in
    λ _. three_pieces _ _ _ _ _ _ _ _ c.write_all_aspas.result
    (all_parts c.args.version i.origins.keys i.router_keys.keys i.aspas.entries c.args.self.now
    c.self.view_is)
    c.in_ok-write_all_origins.ensures.bytes c.in_ok-write_all_keys.ensures.bytes
    c.write_all_aspas.ensures.bytes
