use Rattle.std.proofs.Common.{List, ℕ, Bool, ◌++◌, take, drop, Some, Ok, sym, ap, subst, ◌∙◌, arith}
use Rattle.std.proofs.lemmas.List.{take-append-drop}
use Rattle.rtr_wire.specs.PrivateSteps.{Steps}
use Rattle.rtr_wire.specs.Sequences.{everything}
use Rattle.rtr_wire.specs.PrivateSteps.{passed}
use Rattle.rtr_wire.proofs.Slices.{view_step, not_written, not_viewed}
use Rattle.rtr_wire.proofs.slice.view_step.Goals as goal

pub returns-in-Err-clause-fault : goal.returns-in-Err-clause-fault
returns-in-Err-clause-fault g c =
    not_viewed c.in-Err.e c.args.rest.now _ (λ i. omega (arith, c.type_inv.rest i))
    c.in-Err.ensures.fault

pub returns-in-Ok-write_form-clause-unit : goal.returns-in-Ok-write_form-clause-unit
returns-in-Ok-write_form-clause-unit g c =
    let r = c.args.rest.now in
    let n = c.in-Ok.first.1 in
    let left = c.split_at.result.1.now in
    let parts =
    sym (ap (λ (l : List ℕ). take n r ++ l) c.split_at.ensures.back ∙ take-append-drop n r) in
    subst
    (λ (u : Bool).
    Steps everything (Ok (passed u)) (Some r) (Some left) (g.W.Sink.state c.args.writer.now).held
    (g.W.Sink.state c.write_form.new.writer).held)
    (sym c.is_unit.ensures)
    (view_step c.in-Ok.first.0 r (take n r) left _ _ c.in-Ok.ensures.view parts
    c.in-Ok-write_form.ensures.bytes.0)

pub returns-in-Err-write_form-clause-fault : goal.returns-in-Err-write_form-clause-fault
returns-in-Err-write_form-clause-fault g c =
    let r = c.args.rest.now in
    let n = c.in-Ok.first.1 in
    not_written c.in-Ok.first.0 c.in-Err-write_form.e r (take n r) (drop n r) _ _
    c.in-Ok.ensures.view (sym (take-append-drop n r)) c.in-Err-write_form.ensures.bytes.0
