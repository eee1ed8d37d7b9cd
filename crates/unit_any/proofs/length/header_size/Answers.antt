use Rattle.std.proofs.Common.{arith, inl, inr}
use Rattle.unit_any.proofs.Stops.{unknown_header}
use Rattle.unit_any.proofs.Lengths.{size_twelve, size_eight, size_four, size_six, size_seven}
use Rattle.unit_any.proofs.Lengths.{size_nine, size_ten, size_eleven}
use Rattle.unit_any.proofs.length.header_size.Goals as goal

pub returns-in-0 : goal.returns-in-0
returns-in-0 c =
    size_twelve _ _ _ _ _ c.exact.result (inl c.in-0.is) c.size.ensures c.exact.ensures

pub returns-in-1 : goal.returns-in-1
returns-in-1 c =
    size_twelve _ _ _ _ _ c.exact-in-1.result (inr c.in-1.is) c.size-in-1.ensures
    c.exact-in-1.ensures

pub returns-in-2 : goal.returns-in-2
returns-in-2 c =
    size_eight _ _ _ _ _ c.exact-in-2.result (inl c.in-2.is) c.size-in-2.ensures
    c.exact-in-2.ensures

pub returns-in-3 : goal.returns-in-3
returns-in-3 c =
    size_eight _ _ _ _ _ c.exact-in-3.result (inr (inl c.in-3.is)) c.size-in-3.ensures
    c.exact-in-3.ensures

pub returns-in-4 : goal.returns-in-4
returns-in-4 c =
    size_four _ _ _ _ _ c.exact-in-4.result c.in-4.is c.size-in-4.ensures c.exact-in-4.ensures

pub returns-in-6 : goal.returns-in-6
returns-in-6 c =
    size_six _ _ _ _ _ c.exact-in-6.result c.in-6.is c.size-in-6.ensures c.exact-in-6.ensures

pub returns-in-8 : goal.returns-in-8
returns-in-8 c =
    size_eight _ _ _ _ _ c.exact-in-8.result (inr (inr c.in-8.is)) c.size-in-8.ensures
    c.exact-in-8.ensures

pub returns-in-7 : goal.returns-in-7
returns-in-7 c = size_seven _ _ _ _ c.end_size.result c.in-7.is c.end_size.ensures

pub returns-in-9 : goal.returns-in-9
returns-in-9 c = size_nine _ _ _ _ c.at_least.result c.in-9.is c.at_least.ensures

pub returns-in-10 : goal.returns-in-10
returns-in-10 c = size_ten _ _ _ _ c.at_least-in-10.result c.in-10.is c.at_least-in-10.ensures

pub returns-in-11 : goal.returns-in-11
returns-in-11 c = size_eleven _ _ _ _ c.aspa_size.result c.in-11.is c.aspa_size.ensures

pub returns-in_default : goal.returns-in_default
returns-in_default c = λ u.
    unknown_header _ _ _ _ (omega arith) (omega arith) (omega arith) (omega arith) (omega arith)
    (omega arith) (omega arith) (omega arith) (omega arith) (omega arith) (omega arith)
