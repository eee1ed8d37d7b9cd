use Rattle.std.proofs.Common.{rules, sym, ap, ◌∙◌}
use Rattle.rtr_payload.specs.Meanings.{origin_of}
use Rattle.rtr_payload.specs.Units.{form}
use Rattle.data_memory.proofs.Fronts.{as_pieces}
use Rattle.data_memory.proofs.writing.write_origin.Goals as goal

pub returns : goal.returns
returns g c =
    record {
      bytes = as_pieces _ _ c.write.result _ _
          (sym (c.from_payload-unit.ensures.bytes
          ∙ ap (λ f. form c.args.version f (origin_of c.args.origin)) c.into_flags.ensures.flags))
          c.write.ensures.bytes;
      error = search rules;
    }
