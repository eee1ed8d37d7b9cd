use Rattle.std.proofs.Common.{◌≡◌, List, ◌∷◌, ℕ, map, option_map, string_bytes, Some, sym, ap, ◌∙◌}
use Rattle.validate_work.specs.RouteWords.{at_time, flag_named, of_format, routes_asked}
use Rattle.validate_work.specs.RouteWords.{routes_by_texts}
use Rattle.validate_work.proofs.WordsAsked.{at_texts, format_texts, json_texts, strict_texts}
use Rattle.validate_work.proofs.WordsAsked.{summary_texts}
use Rattle.validate_work.proofs.words.+asked_after.Goals as goal

pub returns-in_ok-as_json-in-Some-Json : goal.returns-in_ok-as_json-in-Some-Json
returns-in_ok-as_json-in-Some-Json t c =
    json_texts c.args.options c.in_ok-as_json-in-Some-Json.field-0
    (string_bytes c.in-Some.word.now) (map string_bytes c.in-Some.rest.now)
    (option_map routes_asked c.asked_after.result)
    (ap flag_named (sym c.as_str.ensures.value) ∙ sym c.flag_named.ensures ∙ c.in-Some-Json.is
    ∙ ap Some c.in-Some-Json.field-0-is)
    (sym c.as_json.ensures ∙ c.in_ok-as_json-in-Some-Json.was) c.asked_after.ensures
    ∙ ap (λ l. routes_by_texts c.args.options (map string_bytes l)) (sym c.in-Some.ensures.cases.0)

pub returns-in_ok-strictly-in-Some-Strict : goal.returns-in_ok-strictly-in-Some-Strict
returns-in_ok-strictly-in-Some-Strict t c =
    strict_texts c.args.options c.in_ok-strictly-in-Some-Strict.field-0
    (string_bytes c.in-Some.word.now) (map string_bytes c.in-Some.rest.now)
    (option_map routes_asked c.asked_after-in-Some-Strict.result)
    (ap flag_named (sym c.as_str.ensures.value) ∙ sym c.flag_named.ensures ∙ c.in-Some-Strict.is
    ∙ ap Some c.in-Some-Strict.field-0-is)
    (sym c.strictly.ensures ∙ c.in_ok-strictly-in-Some-Strict.was)
    c.asked_after-in-Some-Strict.ensures
    ∙ ap (λ l. routes_by_texts c.args.options (map string_bytes l)) (sym c.in-Some.ensures.cases.0)

pub returns-in_ok-summarily-in-Some-Summary : goal.returns-in_ok-summarily-in-Some-Summary
returns-in_ok-summarily-in-Some-Summary t c =
    summary_texts c.args.options c.in_ok-summarily-in-Some-Summary.field-0
    (string_bytes c.in-Some.word.now) (map string_bytes c.in-Some.rest.now)
    (option_map routes_asked c.asked_after-in-Some-Summary.result)
    (ap flag_named (sym c.as_str.ensures.value) ∙ sym c.flag_named.ensures ∙ c.in-Some-Summary.is
    ∙ ap Some c.in-Some-Summary.field-0-is)
    (sym c.summarily.ensures ∙ c.in_ok-summarily-in-Some-Summary.was)
    c.asked_after-in-Some-Summary.ensures
    ∙ ap (λ l. routes_by_texts c.args.options (map string_bytes l)) (sym c.in-Some.ensures.cases.0)

pub returns-in_ok-at_time-in-Some-At : goal.returns-in_ok-at_time-in-Some-At
returns-in_ok-at_time-in-Some-At t c =
    at_texts c.args.options c.in_ok-at_time-in-Some-At.field-0
    (string_bytes c.in-Some.word.now) (string_bytes c.in-Some-split_first.time.now)
    (map string_bytes c.in-Some-split_first.rest.now)
    (option_map routes_asked c.asked_after-in-Some-At.result)
    (ap flag_named (sym c.as_str.ensures.value) ∙ sym c.flag_named.ensures ∙ c.in-Some-At.is
    ∙ ap Some c.in-Some-At.field-0-is)
    (ap (at_time c.args.options) (sym c.as_str-in-Some-At.ensures.value) ∙ sym c.at_time.ensures
    ∙ c.in_ok-at_time-in-Some-At.was) c.asked_after-in-Some-At.ensures
    ∙ ap (λ l. routes_by_texts c.args.options (map string_bytes l))
    (ap (λ l. c.in-Some.word.now ∷ l) (sym c.in-Some-split_first.ensures.cases.0)
    ∙ sym c.in-Some.ensures.cases.0)

pub returns-in_ok-of_format-in-Some-Format : goal.returns-in_ok-of_format-in-Some-Format
returns-in_ok-of_format-in-Some-Format t c =
    format_texts c.args.options c.in_ok-of_format-in-Some-Format.field-0
    (string_bytes c.in-Some.word.now) (string_bytes c.in-Some-split_first-2.name.now)
    (map string_bytes c.in-Some-split_first-2.rest.now)
    (option_map routes_asked c.asked_after-in-Some-Format.result)
    (ap flag_named (sym c.as_str.ensures.value) ∙ sym c.flag_named.ensures ∙ c.in-Some-Format.is
    ∙ ap Some c.in-Some-Format.field-0-is)
    (ap (of_format c.args.options) (sym c.as_str-in-Some-Format.ensures.value)
    ∙ sym c.of_format.ensures ∙ c.in_ok-of_format-in-Some-Format.was)
    c.asked_after-in-Some-Format.ensures
    ∙ ap (λ l. routes_by_texts c.args.options (map string_bytes l))
    (ap (λ l. c.in-Some.word.now ∷ l) (sym c.in-Some-split_first-2.ensures.cases.0)
    ∙ sym c.in-Some.ensures.cases.0)
