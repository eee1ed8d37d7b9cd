use Rattle.std.proofs.Common.{rules, sym, ap, ◌∙◌, ◌+◌, ◌*◌, ◌∷◌, ◌++◌}
use Rattle.rtr_base.specs.Actions.{flags_of}
use Rattle.rtr_base.specs.Bytes.{be, words}
use Rattle.rtr_base.specs.declared.action.Action.TheVariants.{Announce}
use Rattle.data_memory.proofs.Fronts.{as_pieces}
use Rattle.data_memory.proofs.writing.announce_aspa.Goals as goal

pub returns : goal.returns
returns g c =
    let v = c.args.version in
    let ps = c.args.providers.now in
    record {
      bytes = as_pieces _ _ c.put_parts.result _ _
          (sym (ap (λ l. l ++ c.as_slice.result.now) c.aspa_front-front.ensures
          ∙ ap (λ l. (v ∷ 11 ∷ flags_of Announce ∷ 0 ∷ be (12 + 4 * c.asn_count.result) 4 ++
          be c.args.customer 4) ++ l) c.as_slice.ensures.bytes
          ∙ ap (λ n. v ∷ 11 ∷ flags_of Announce ∷ 0 ∷ be (12 + 4 * n) 4 ++
          be c.args.customer 4 ++ words ps) c.asn_count.ensures.value))
          c.put_parts.ensures.bytes;
      error = search rules;
    }
