use Rattle.std.proofs.Common.{ap, arith, rules, ◌∙◌}
use Rattle.std.proofs.lemmas.Bool.Decides.{nat_tests}
use Rattle.std.proofs.lemmas.List.{take_rest}
use Rattle.rtr_base.specs.Addresses.{v4, v6}
use Rattle.rtr_units.specs.Header.{version_field}
use Rattle.rtr_units.specs.PrefixUnits.{prefix_at}
use Rattle.rtr_payload.specs.UnitFields.{prefix_unit}
use Rattle.unit_any.specs.AnyFields.{cache_reset, cache_response, end_of_data, error_report}
use Rattle.unit_any.specs.AnyFields.{payload, reset_query, serial_notify, serial_query}
use Rattle.unit_any.specs.AnyUnits.{bare_of, serial_of}
use Rattle.text_lines.proofs.ReadBack.{by_aspa, by_end, by_key, by_notify, by_others, by_query}
use Rattle.text_lines.proofs.ReadBack.{by_reset, by_reset_query, by_response, by_v4, by_v6}
use Rattle.text_lines.proofs.reading.listed_unit.Goals as goal

pub returns-in-0 : goal.returns-in-0
returns-in-0 c =
    ap (serial_of serial_notify) c.unit_of.ensures ∙ by_notify c.args.unit.now (search rules)

pub returns-in-1 : goal.returns-in-1
returns-in-1 c =
    ap (serial_of serial_query) c.unit_of-in-1.ensures ∙ by_query c.args.unit.now (search rules)

pub returns-in-2 : goal.returns-in-2
returns-in-2 c =
    ap (bare_of reset_query) c.unit_of-in-2.ensures ∙ by_reset_query c.args.unit.now (search rules)

pub returns-in-3 : goal.returns-in-3
returns-in-3 c =
    ap (bare_of cache_response) c.unit_of-in-3.ensures ∙ by_response c.args.unit.now (search rules)

pub returns-in-4 : goal.returns-in-4
returns-in-4 c =
    ap (λ l. payload (prefix_unit (prefix_at v4 l))) c.unit_of-in-4.ensures ∙ by_v4 c.args.unit.now
    (search rules)

pub returns-in-6 : goal.returns-in-6
returns-in-6 c =
    ap (λ l. payload (prefix_unit (prefix_at v6 l))) c.unit_of-in-6.ensures ∙ by_v6 c.args.unit.now
    (search rules)

pub returns-in-7 : goal.returns-in-7
returns-in-7 c =
    ap end_of_data c.end_of.ensures ∙ by_end c.args.unit.now (search rules)

pub returns-in-8 : goal.returns-in-8
returns-in-8 c =
    ap (bare_of cache_reset) c.unit_of-in-8.ensures ∙ by_reset c.args.unit.now (search rules)

pub returns-in-9 : goal.returns-in-9
returns-in-9 c =
    ap payload c.key_of.ensures ∙ by_key c.args.unit.now (search rules)

pub returns-in-11 : goal.returns-in-11
returns-in-11 c =
    ap payload c.aspa_of.ensures ∙ by_aspa c.args.unit.now (search rules)

pub returns-in_default : goal.returns-in_default
returns-in_default c =
    let b = c.args.unit.now in
    (λ i. error_report (version_field b) (c.u16_at.ensures i) (take_rest b 8 i))
    ∙ by_others b (grind (arith, nat_tests, c.in_default)) (grind (arith, nat_tests, c.in_default))
    (grind (arith, nat_tests, c.in_default))
    (grind (arith, nat_tests, c.in_default)) (grind (arith, nat_tests, c.in_default)) (grind
    (arith, nat_tests, c.in_default))
    (grind (arith, nat_tests, c.in_default)) (grind (arith, nat_tests, c.in_default))
    (grind (arith, nat_tests, c.in_default)) (grind (arith, nat_tests, c.in_default))
