use Rattle.std.proofs.Common.{sym, subst, ◌∙◌}
use Rattle.std.proofs.lemmas.Bool.{true≢false}
use Rattle.rtr_units.specs.AnyEnd.{end_meaning}
use Rattle.unit_views.specs.Faults.{IsFirstFault}
use Rattle.data_slices.specs.Items.{meant}
use Rattle.data_slices.specs.PrivateChanges.{InVersion}
use Rattle.data_slices.proofs.Parting.{apart_found, apart_none, end_misplaced, holds_parts}
use Rattle.data_slices.proofs.Parting.{not_apart, refused, second, stop_cut, unit_misplaced}
use Rattle.data_slices.proofs.changes.check_parts.Goals as goal

pub returns-in-Some-clause-flaw : goal.returns-in-Some-clause-flaw
returns-in-Some-clause-flaw c =
    let a = c.run_of-announced in
    let w = c.run_of-withdrawn in
    let input = c.args.input.now in
    let b = second input a.result.size a.result.version a.ensures.run w.result.size
    w.result.version w.ensures.run in
    not_apart input a.result.size w.result.size a.result.version w.result.version a.ensures.run b
    c.flaw_at.result c.flaw_at.ensures.reason c.in-Some.offset c.flaw_at.ensures.offset
    (apart_found input a.result.size w.result.size a.result.version w.result.version
    a.ensures.run b c.in-Some.offset c.in-Some.ensures.found)

pub returns-then-not-is_version-clause-flaw : goal.returns-then-not-is_version-clause-flaw
returns-then-not-is_version-clause-flaw c =
    let a = c.run_of-announced in
    let w = c.run_of-withdrawn in
    let input = c.args.input.now in
    let b = second input a.result.size a.result.version a.ensures.run w.result.size
    w.result.version w.ensures.run in
    let f = c.flaw_at-then-not-is_version in
    let (item, is, parts) = rw c.in-End.is at c.in-Ok.ensures.item in
    end_misplaced input a.result.size w.result.size a.result.version w.result.version
    a.ensures.run b f.result f.ensures.offset
    (apart_none input a.result.size w.result.size a.result.version w.result.version
    a.ensures.run b c.in_default.ensures.found) f.ensures.reason item c.in-Ok.field-0-1.now
    (sym (stop_cut input a.result.size w.result.size a.result.version w.result.version
    a.ensures.run b) ∙ parts) (end_meaning c.in-End.end) is.1
    (λ same. true≢false (sym (c.is_version.ensures.1
    (subst (InVersion w.result.version) (sym c.version.ensures) same))
    ∙ c.if-not-is_version.true))

pub returns-else-not-is_version-clause-parts : goal.returns-else-not-is_version-clause-parts
returns-else-not-is_version-clause-parts c =
    let a = c.run_of-announced in
    let w = c.run_of-withdrawn in
    let input = c.args.input.now in
    let b = second input a.result.size a.result.version a.ensures.run w.result.size
    w.result.version w.ensures.run in
    let (item, is, parts) = rw c.in-End.is at c.in-Ok.ensures.item in
    holds_parts input a.result.size w.result.size a.result.version w.result.version
    a.ensures.run b (end_meaning c.in-End.end) item c.in-Ok.field-0-1.now
    (sym (stop_cut input a.result.size w.result.size a.result.version w.result.version
    a.ensures.run b) ∙ parts) is.1
    (subst (InVersion w.result.version) c.version.ensures
    (c.is_version.ensures.0 c.if-not-is_version.false))
    (apart_none input a.result.size w.result.size a.result.version w.result.version
    a.ensures.run b c.in_default.ensures.found)

pub returns-in-Unit-clause-flaw : goal.returns-in-Unit-clause-flaw
returns-in-Unit-clause-flaw c =
    let a = c.run_of-announced in
    let w = c.run_of-withdrawn in
    let input = c.args.input.now in
    let b = second input a.result.size a.result.version a.ensures.run w.result.size
    w.result.version w.ensures.run in
    let f = c.flaw_at-in-Unit in
    let (item, is, parts) = rw c.in-Unit.is at c.in-Ok.ensures.item in
    unit_misplaced input a.result.size w.result.size a.result.version w.result.version
    a.ensures.run b f.result f.ensures.offset
    (apart_none input a.result.size w.result.size a.result.version w.result.version
    a.ensures.run b c.in_default.ensures.found) f.ensures.reason item c.in-Ok.field-0-1.now
    (sym (stop_cut input a.result.size w.result.size a.result.version w.result.version
    a.ensures.run b) ∙ parts) (meant c.in-Unit.field-0) is.0

pub returns-in-Err-clause-flaw : goal.returns-in-Err-clause-flaw
returns-in-Err-clause-flaw c =
    let a = c.run_of-announced in
    let w = c.run_of-withdrawn in
    let input = c.args.input.now in
    let b = second input a.result.size a.result.version a.ensures.run w.result.size
    w.result.version w.ensures.run in
    let f = c.flaw_at-in-Err in
    refused input a.result.size w.result.size a.result.version w.result.version
    a.ensures.run b f.result f.ensures.offset
    (apart_none input a.result.size w.result.size a.result.version w.result.version
    a.ensures.run b c.in_default.ensures.found) c.in-Err.fault f.ensures.reason
    (subst (λ l. IsFirstFault l c.in-Err.fault)
    (stop_cut input a.result.size w.result.size a.result.version w.result.version
    a.ensures.run b) c.in-Err.ensures.fault)
