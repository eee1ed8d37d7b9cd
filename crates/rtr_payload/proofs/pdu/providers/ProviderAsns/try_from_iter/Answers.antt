use Rattle.std.proofs.Common.{ℕ, ◌^◌, ◌<◌, [], ◌∷◌, ◌++◌, length, ap, arith, ◌∙◌, length-append}
use Rattle.rtr_base.specs.Bytes.{be}
use Rattle.rtr_payload.specs.Providers.{words_of}
use Rattle.rtr_payload.proofs.ProviderBytes.{provider_push, Yields-more}
use Rattle.rtr_payload.proofs.pdu.providers.ProviderAsns.try_from_iter.Goals as goal

pub items-preserved : goal.items-preserved
items-preserved g c =
    let asns = words_of c.items.bytes.items in
    let written =
    c.in-Ok.ensures.ok ∙ ap (λ (n : ℕ). c.items.bytes.items ++ be n 4) c.into_u32.ensures.number in
    let below : c.in-Some.asn < 2 ^ 32 = omega (arith, c.into_u32.ensures) in
    let room : length asns < 16380 = omega arith in
    let pushed = provider_push c.items.bytes.items c.put_u32.new.self.items c.in-Some.asn
    c.items.invariant.fit below room written in
    record {
      can_go_on = c.in-Some.ensures.keeps;
      fit = pushed.fit;
      count = omega (arith, pushed.count);
      taken =
          rw pushed.numbers
          (Yields-more g.I.Iterator.next_gives c.args.iter asns c.items.iter c.in-Some.asn
          c.next_of.new.iter c.items.invariant.taken c.in-Some.ensures.steps);
    }

pub returns-in-Some-next_of-clause-items : goal.returns-in-Some-next_of-clause-items
returns-in-Some-next_of-clause-items g c =
    let asns = words_of c.items.bytes.items in
    let x = c.in-Some-next_of.field-0 in (
      asns ++ x ∷ [],
      c.next_of-2.new.iter,
      Yields-more g.I.Iterator.next_gives c.args.iter asns c.items.iter x c.next_of-2.new.iter
          c.items.invariant.taken c.in-Some-next_of.ensures.steps,
      omega (arith, length-append asns (x ∷ [])),
    )
