use Rattle.std.proofs.Common.{◌≡◌, ◌↔◌, [], drop, map, subst, sym, take}
use Rattle.rtr_units.specs.End.{end_list}
use Rattle.data_memory.specs.Data.{announcement}
use Rattle.data_memory.specs.Deltas.{change_forms}
use Rattle.rtr_c.proofs.DataEnds.{end_after, none_before, payloads_before}
use Rattle.rtr_c.proofs.data_end.rtr_end_offset_nonnull.Goals as goal

pub returns-clause-payloads : goal.returns-clause-payloads
returns-clause-payloads c = λ d e fits is.
    subst (λ n. take n c.args.«data».now ≡ change_forms e.version (map announcement d))
    (sym c.end_offset.ensures) (payloads_before c.args.«data».now d e fits is)

pub returns-clause-end : goal.returns-clause-end
returns-clause-end c = λ d e fits is.
    subst (λ n. drop n c.args.«data».now ≡ end_list e) (sym c.end_offset.ensures)
    (end_after c.args.«data».now d e fits is)

pub returns-clause-none : goal.returns-clause-none
returns-clause-none c = λ d e fits is.
    subst (λ n. (n ≡ 0) ↔ (d ≡ [])) (sym c.end_offset.ensures)
    (none_before c.args.«data».now d e fits is)
