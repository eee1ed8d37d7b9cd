use Rattle.std.proofs.Common.{[], ◌∷◌, ◌++◌, None, Some, arith}
use Rattle.std.proofs.lemmas.Str.Pattern.{strip_prefix_char, strip_suffix_char}
use Rattle.validate_work.proofs.AsSets.{decides_set, no_brace}
use Rattle.validate_work.proofs.route_text.is_as_set.Goals as goal

pub returns-in_default : goal.returns-in_default
returns-in_default c (inside, is, members) =
    strip_prefix_char 123 c.args.word.now None c.in_default.ensures.cases (omega arith)
    (inside ++ 125 ∷ []) is

pub returns-in-Some-strip_suffix : goal.returns-in-Some-strip_suffix
returns-in-Some-strip_suffix c =
    decides_set c.args.word.now c.in-Some.rest.now c.in-Some-strip_suffix.inside.now
    c.are_asns.result
    (strip_prefix_char 123 c.args.word.now (Some c.in-Some.rest) c.in-Some.ensures.cases
    (omega arith))
    (strip_suffix_char 125 c.in-Some.rest.now (Some c.in-Some-strip_suffix.inside)
    c.in-Some-strip_suffix.ensures.cases (omega arith)) c.are_asns.ensures

pub returns-in-None : goal.returns-in-None
returns-in-None c =
    no_brace c.args.word.now c.in-Some.rest.now
    (strip_prefix_char 123 c.args.word.now (Some c.in-Some.rest) c.in-Some.ensures.cases
    (omega arith))
    (strip_suffix_char 125 c.in-Some.rest.now None c.in-None.ensures.cases (omega arith))
