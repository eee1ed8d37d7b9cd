use Rattle.std.proofs.Common.{refl, sym, ◌∙◌}
use Rattle.std.proofs.lemmas.Bool.{true≢false}
use Rattle.rtr_units.specs.AnyEnd.{end_meaning}
use Rattle.rtr_payload.specs.UnitBytes.{unit_fields}
use Rattle.list_summary.proofs.AnswerLines.{takes_end, takes_payload}
use Rattle.list_summary.proofs.answers.Answers.add.Goals as goal

pub returns-in-EndOfData : goal.returns-in-EndOfData
returns-in-EndOfData c =
    rw c.in-EndOfData.is (record {
      more = takes_end (end_meaning c.in-EndOfData.end) c.args.self.now
          c.end.new.self c.end.ensures.whole c.end.ensures.ended c.end.ensures.announced
          c.end.ensures.withdrawn;
      memory = λ kept failed.
          ((end_meaning c.in-EndOfData.end, refl), c.end.ensures.memory kept failed);
    })

pub returns-in-Payload : goal.returns-in-Payload
returns-in-Payload c =
    rw c.in-Payload.is (record {
      more = takes_payload (unit_fields c.in-Payload.unit) c.payload_announces.result
          c.args.self.now c.count.new.self c.payload_announces.ensures c.count.ensures.ended
          c.count.ensures.whole c.count.ensures.announced c.count.ensures.withdrawn;
      memory = λ kept failed.
          absurd (true≢false (sym kept ∙ sym c.count.ensures.whole ∙ failed));
    })
