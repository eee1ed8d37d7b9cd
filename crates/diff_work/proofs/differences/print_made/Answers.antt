use Rattle.std.proofs.Common.{◌∙◌, refl, Ok, Err, map, ◌++◌}
use Rattle.std.proofs.lemmas.Result.{err_from_is_err_and}
use Rattle.rtr_payload.specs.Meanings.{origin_of, key_of}
use Rattle.data_memory.specs.Contents.{entry_of}
use Rattle.diff_work.specs.PrivateChanges.{changes_by}
use Rattle.diff_work.proofs.Going.{any_of_three, changes_stop, then_changes, pieces_in_form}
use Rattle.diff_work.proofs.Passing.{aspas_ordered, keys_ordered, origins_ordered, three_parts}
use Rattle.diff_work.proofs.differences.print_made.Goals as goal

pub returns-in_err-of_origins-clause-changes : goal.returns-in_err-of_origins-clause-changes
returns-in_err-of_origins-clause-changes g c =
    let own = c.parts-origins.result in
    let others = c.parts-other_origins.result in
    let ps = changes_by c.args.action (map origin_of others.0) (map origin_of own.0) in
    let qs = changes_by c.args.action (map key_of others.1) (map key_of own.1) in
    let rs = changes_by c.args.action (map entry_of others.2) (map entry_of own.2) in
    let all = three_parts c.args.action c.args.other.now _ others.0 own.0 others.1 own.1 others.2
    own.2 c.parts-other_origins.ensures.payloads c.parts-origins.ensures.payloads in
    let p = err_from_is_err_and c.from_residual.result c.from_residual.ensures.1 in
    rw (p.1, p.2) (
      changes_stop _ _ _ _ _ ps (qs ++ rs) _ all
          c.in_err-of_origins.ensures.changes.0,
      tt,
    )

pub returns-in_err-of_keys-clause-changes : goal.returns-in_err-of_keys-clause-changes
returns-in_err-of_keys-clause-changes g c =
    let own = c.parts-origins.result in
    let others = c.parts-other_origins.result in
    let ps = changes_by c.args.action (map origin_of others.0) (map origin_of own.0) in
    let qs = changes_by c.args.action (map key_of others.1) (map key_of own.1) in
    let rs = changes_by c.args.action (map entry_of others.2) (map entry_of own.2) in
    let all = three_parts c.args.action c.args.other.now _ others.0 own.0 others.1 own.1 others.2
    own.2 c.parts-other_origins.ensures.payloads c.parts-origins.ensures.payloads in
    let p = err_from_is_err_and c.from_residual-in_err-of_keys.result
    c.from_residual-in_err-of_keys.ensures.1 in
    let first = c.in_ok-of_origins.ensures in
    rw (p.1, p.2) (
      then_changes c.in_ok-of_origins.of_origins (Err _) _ _ _ _ _ ps (qs ++ rs) _ all
          first.changes.0
          (changes_stop _ _ _ _ _ qs rs (qs ++ rs) refl
          (pieces_in_form (Err _) _ _ _ _ _ _ qs first.form first.version
          c.in_err-of_keys.ensures.changes.0)),
      tt,
    )

pub returns-in_err-of_aspas-clause-changes : goal.returns-in_err-of_aspas-clause-changes
returns-in_err-of_aspas-clause-changes g c =
    let own = c.parts-origins.result in
    let others = c.parts-other_origins.result in
    let ps = changes_by c.args.action (map origin_of others.0) (map origin_of own.0) in
    let qs = changes_by c.args.action (map key_of others.1) (map key_of own.1) in
    let rs = changes_by c.args.action (map entry_of others.2) (map entry_of own.2) in
    let all = three_parts c.args.action c.args.other.now _ others.0 own.0 others.1 own.1 others.2
    own.2 c.parts-other_origins.ensures.payloads c.parts-origins.ensures.payloads in
    let p = err_from_is_err_and c.from_residual-in_err-of_aspas.result
    c.from_residual-in_err-of_aspas.ensures.1 in
    let first = c.in_ok-of_origins.ensures in
    let second = c.in_ok-of_keys.ensures in
    rw (p.1, p.2) (
      then_changes c.in_ok-of_origins.of_origins (Err _) _ _ _ _ _ ps (qs ++ rs) _ all
          first.changes.0
          (then_changes c.in_ok-of_keys.of_keys (Err _) _ _ _ _ _ qs rs (qs ++ rs) refl
          (pieces_in_form (Ok c.in_ok-of_keys.of_keys) _ _ _ _ _ _ qs first.form first.version
          second.changes.0)
          (pieces_in_form (Err _) _ _ _ _ _ _ rs (second.form ∙ first.form)
          (second.version ∙ first.version) c.in_err-of_aspas.ensures.changes.0)),
      tt,
    )

pub returns-clause-changes : goal.returns-clause-changes
returns-clause-changes g c =
    let own = c.parts-origins.result in
    let others = c.parts-other_origins.result in
    let ps = changes_by c.args.action (map origin_of others.0) (map origin_of own.0) in
    let qs = changes_by c.args.action (map key_of others.1) (map key_of own.1) in
    let rs = changes_by c.args.action (map entry_of others.2) (map entry_of own.2) in
    let all = three_parts c.args.action c.args.other.now _ others.0 own.0 others.1 own.1 others.2
    own.2 c.parts-other_origins.ensures.payloads c.parts-origins.ensures.payloads in
    let first = c.in_ok-of_origins.ensures in
    let second = c.in_ok-of_keys.ensures in
    let third = c.in_ok-of_aspas.ensures in
    let x = c.in_ok-of_origins.of_origins in
    let y = c.in_ok-of_keys.of_keys in
    let z = c.in_ok-of_aspas.of_aspas in (
      then_changes x (Ok z) _ _ _ _ _ ps (qs ++ rs) _ all first.changes.0
          (then_changes y (Ok z) _ _ _ _ _ qs rs (qs ++ rs) refl
          (pieces_in_form (Ok y) _ _ _ _ _ _ qs first.form first.version second.changes.0)
          (pieces_in_form (Ok z) _ _ _ _ _ _ rs (second.form ∙ first.form)
          (second.version ∙ first.version) third.changes.0)),
      any_of_three x y z ps qs rs _ all first.changes.1 second.changes.1 third.changes.1,
    )

pub print_part-requires-clause-members : goal.print_part-requires-clause-members
print_part-requires-clause-members g c =
    let parts = c.parts-origins.result in
    origins_ordered _ parts.0 parts.1 parts.2 c.parts-origins.ensures.payloads
    c.parts-origins.ensures.ordered

pub print_part-requires-clause-others : goal.print_part-requires-clause-others
print_part-requires-clause-others g c =
    let parts = c.parts-other_origins.result in
    origins_ordered _ parts.0 parts.1 parts.2 c.parts-other_origins.ensures.payloads
    c.parts-other_origins.ensures.ordered

pub print_part-requires-2-clause-members : goal.print_part-requires-2-clause-members
print_part-requires-2-clause-members g c =
    let parts = c.parts-origins.result in
    keys_ordered _ parts.0 parts.1 parts.2 c.parts-origins.ensures.payloads
    c.parts-origins.ensures.ordered

pub print_part-requires-2-clause-others : goal.print_part-requires-2-clause-others
print_part-requires-2-clause-others g c =
    let parts = c.parts-other_origins.result in
    keys_ordered _ parts.0 parts.1 parts.2 c.parts-other_origins.ensures.payloads
    c.parts-other_origins.ensures.ordered

pub print_part-requires-3-clause-members : goal.print_part-requires-3-clause-members
print_part-requires-3-clause-members g c =
    let parts = c.parts-origins.result in
    aspas_ordered _ parts.0 parts.1 parts.2 c.parts-origins.ensures.payloads
    c.parts-origins.ensures.ordered

pub print_part-requires-3-clause-others : goal.print_part-requires-3-clause-others
print_part-requires-3-clause-others g c =
    let parts = c.parts-other_origins.result in
    aspas_ordered _ parts.0 parts.1 parts.2 c.parts-other_origins.ensures.payloads
    c.parts-other_origins.ensures.ordered
