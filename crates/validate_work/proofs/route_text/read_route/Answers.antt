use Rattle.std.proofs.Common.{refl, ◌∙◌}
use Rattle.std.specs.Str.Iter.{split_ascii_whitespace_text}
use Rattle.validate_work.proofs.NextWords.{cuts}
use Rattle.validate_work.proofs.route_text.read_route.Goals as goal

pub returns-in_default-origin_of : goal.returns-in_default-origin_of
returns-in_default-origin_of c =
    let first = cuts c.args.line.now _ _ _
    (c.split_ascii_whitespace-words.ensures.text ∙ c.in-Ok.ensures.cases.0)
    c.in-Some.ensures.steps in (
      c.in-Ok-parse.prefix,
      split_ascii_whitespace_text c.next.new.self,
      c.in-Some-next.asn.now,
      split_ascii_whitespace_text c.next-2.new.self,
      record { word = c.in-Some.prefix.now; first = first; prefix = c.in-Ok-parse.ensures.value },
      cuts _ _ _ _ refl c.in-Some-next.ensures.steps,
      c.in_default-origin_of.ensures,
    )

pub returns-in-Some-next-2 : goal.returns-in-Some-next-2
returns-in-Some-next-2 c =
    let first = cuts c.args.line.now _ _ _
    (c.split_ascii_whitespace-words.ensures.text ∙ c.in-Ok.ensures.cases.0)
    c.in-Some.ensures.steps in (
      c.in-Ok-parse.prefix,
      c.in-Some-origin_of.origin,
      split_ascii_whitespace_text c.next-2.new.self,
      c.in-Some-next-2.field-0.now,
      split_ascii_whitespace_text c.next-3.new.self,
      record {
        others = split_ascii_whitespace_text c.next.new.self;
        with_prefix = record {
          word = c.in-Some.prefix.now;
          first = first;
          prefix = c.in-Ok-parse.ensures.value;
        };
        word = c.in-Some-next.asn.now;
        second = cuts _ _ _ _ refl c.in-Some-next.ensures.steps;
        number = c.in-Some-origin_of.ensures;
      },
      cuts _ _ _ _ refl c.in-Some-next-2.ensures.steps,
    )

pub returns-in-None : goal.returns-in-None
returns-in-None c =
    let first = cuts c.args.line.now _ _ _
    (c.split_ascii_whitespace-words.ensures.text ∙ c.in-Ok.ensures.cases.0)
    c.in-Some.ensures.steps in (
      split_ascii_whitespace_text c.next-2.new.self,
      record {
        others = split_ascii_whitespace_text c.next.new.self;
        with_prefix = record {
          word = c.in-Some.prefix.now;
          first = first;
          prefix = c.in-Ok-parse.ensures.value;
        };
        word = c.in-Some-next.asn.now;
        second = cuts _ _ _ _ refl c.in-Some-next.ensures.steps;
        number = c.in-Some-origin_of.ensures;
      },
      c.in-None.ensures.steps.0,
    )
