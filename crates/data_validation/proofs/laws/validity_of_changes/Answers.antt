use Rattle.std.specs.List.{Contains}
use Rattle.rtr_payload.specs.Payloads.{origin}
use Rattle.data_validation.proofs.Agreeing.{agree}
use Rattle.data_validation.proofs.laws.validity_of_changes.Goals as goal

pub returns-clause-canonical : goal.returns-clause-canonical
returns-clause-canonical c = λ n old input before after d d' cs end end' p asn x y h k e a s t.
    let holds = c.changes_in_slices.ensures.makes_data n old input before after d d' cs end end'
    h k e a in
    agree (λ v. Contains d' (origin v)) p asn x y (s d' end' holds) t

pub returns-clause-in_order : goal.returns-clause-in_order
returns-clause-in_order c = λ n places old input before after d d' cs end end' p asn x y h k v e a
    s t.
    let holds = c.changes_as_they_came.ensures.makes_data n places old input before after d d' cs
    end end' h k v e a in
    agree (λ w. Contains d' (origin w)) p asn x y (s d' end' holds) t
