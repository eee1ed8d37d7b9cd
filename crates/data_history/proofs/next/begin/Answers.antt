use Rattle.std.proofs.Common.{◌+◌, Err, arith, length, subst, sym}
use Rattle.data_history.specs.Next.{IsShortForNewer}
use Rattle.std.proofs.lemmas.List.{length-append}
use Rattle.data_history.proofs.Parts.{head_length}
use Rattle.std.proofs.Common.{◌++◌, ◌∙◌, ap}
use Rattle.data_history.specs.Parts.{head_bytes}
use Rattle.data_history.proofs.Advancing.{alone, written_front}
use Rattle.data_history.proofs.next.begin.Goals as goal

pub returns-in-Some-clause-data : goal.returns-in-Some-clause-data
returns-in-Some-clause-data c = λ z h.
    alone c.args.now c.in-Some.size c.head.result c.args.new.now c.args.output.now
    c.place.new.output z c.ranges.now.fits c.length_of.ensures.range
    (ap (λ l. l ++ c.args.new.now)
    (c.head.ensures ∙ ap (λ n. head_bytes c.args.now n) c.length_of.ensures.length)) h
    c.in-Some.ensures

pub returns-in-None-clause-rooms : goal.returns-in-None-clause-rooms
returns-in-None-clause-rooms c =
    subst (λ r. IsShortForNewer (Err r) 0 (16 + length c.args.new.now) 0 (length c.args.output.now))
    (sym c.no_room.ensures) (
      omega (
        arith,
        c.in-None.ensures.0,
        length-append c.head.result c.args.new.now,
        ap length c.head.ensures,
        head_length c.args.now c.length_of.result,
      ),
      omega arith,
    )

pub returns-in-Some-clause-within : goal.returns-in-Some-clause-within
returns-in-Some-clause-within c = c.in-Some.ensures.1

pub returns-in-Some-clause-form : goal.returns-in-Some-clause-form
returns-in-Some-clause-form c =
    written_front c.in-Some.size (c.head.result ++ c.args.new.now) c.args.output.now
    c.place.new.output c.in-Some.ensures
    ∙ ap (λ l. l ++ c.args.new.now)
    (c.head.ensures ∙ ap (λ n. head_bytes c.args.now n) c.length_of.ensures.length)
