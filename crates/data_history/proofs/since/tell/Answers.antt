use Rattle.std.proofs.Common.{◌+◌, ◌∙◌, Result, ap, arith, map, refl, inl, inr, length}
use Rattle.std.proofs.lemmas.Bool.{cases_lt}
use Rattle.std.proofs.lemmas.List.{length-map, length-take}
use Rattle.data_memory.specs.Changes.{changes}
use Rattle.data_memory.specs.Deltas.{unit_of}
use Rattle.rtr_wire.specs.declared.into.IntoFault.{IntoFault}
use Rattle.std.proofs.Common.{Ok, Err, subst, take}
use Rattle.rtr_wire.specs.Into.{NormalisesInto}
use Rattle.rtr_wire.specs.Sequences.{for_version}
use Rattle.data_history.proofs.Joining.{changes_few}
use Rattle.data_history.proofs.OfVersion.{delta_held, told_for}
use Rattle.data_history.proofs.Rooms.{delta_fits, delta_size, stopped_run}
use Rattle.data_slices.proofs.Answered.{written}
use Rattle.data_history.proofs.since.tell.Goals as goal

abbrev stops : IntoFault → Result (Unit {0}) IntoFault
stops g = Err g

pub returns-in-Ok-result-clause-writes : goal.returns-in-Ok-result-clause-writes
returns-in-Ok-result-clause-writes c = λ x y h j a.
    told_for c.args.version 18446744073709551615 c.in-Ok.size c.args.old.now c.args.present.now
    c.args.buffer.now c.delta_into.new.output c.args.output.now
    c.normalise_for_into-result.new.output
    c.normalise_for_into-result.result.0 y.payloads x.payloads y.end x.end h j a.version
    (written c.args.old.now c.args.present.now c.args.buffer.now c.delta_into.new.output y.payloads
    x.payloads y.end x.end h j (Ok c.in-Ok.size) a.version a.session c.in-Ok.ensures)
    (subst (λ r. NormalisesInto (for_version c.args.version) 18446744073709551615 r
    (take c.in-Ok.size c.delta_into.new.output) c.args.output.now
    c.normalise_for_into-result.new.output c.normalise_for_into-result.result.0)
    c.in-Ok-result.is (c.normalise_for_into-result.ensures.known c.requires))

pub returns-in-Err-clause-rooms : goal.returns-in-Err-clause-rooms
returns-in-Err-clause-rooms c = λ x y b h k j a few. (
  refl,
  elim (cases_lt (length c.args.buffer.now) c.args.wanted) [
    | inl lt ↦ lt
    | inr le ↦
        absurd (delta_fits c.in-Err.field-0 b c.args.present.now c.args.buffer.now
        c.delta_into.new.output y.payloads x.payloads y.end x.end k j a.version a.session
        (written c.args.old.now c.args.present.now c.args.buffer.now c.delta_into.new.output
        y.payloads x.payloads y.end x.end h j (Err c.in-Err.field-0) a.version a.session
        c.in-Err.ensures)
        (omega (arith, few, le)))
  ],
)

pub returns-in-Err-result-clause-rooms : goal.returns-in-Err-result-clause-rooms
returns-in-Err-result-clause-rooms c = λ x y b h k j a few.
    let placed = written c.args.old.now c.args.present.now c.args.buffer.now c.delta_into.new.output
    y.payloads x.payloads y.end x.end h j (Ok c.in-Ok.size) a.version a.session c.in-Ok.ensures in
    let held = delta_held c.in-Ok.size c.args.old.now c.args.present.now c.args.buffer.now
    c.delta_into.new.output y.payloads x.payloads y.end x.end h j a.version placed in
    let most = delta_size b c.args.present.now y.payloads x.payloads y.end x.end k j a.version
    a.session in
    let units = map (unit_of x.end.version) (changes y.payloads x.payloads) in
    let input = take c.in-Ok.size c.delta_into.new.output in (
      omega (arith, placed.0, most, few),
      elim (cases_lt (length c.args.output.now) (c.in-Ok.size + 12)) [
        | inl lt ↦ lt
        | inr le ↦
            absurd (stopped_run (for_version c.args.version) 18446744073709551615
            c.in-Err-result.field-0 input c.args.output.now
            c.normalise_for_into-result.new.output c.normalise_for_into-result.result.0
            (subst (λ r. NormalisesInto (for_version c.args.version) 18446744073709551615 r
            (take c.in-Ok.size c.delta_into.new.output) c.args.output.now
            c.normalise_for_into-result.new.output c.normalise_for_into-result.result.0)
            c.in-Err-result.is (c.normalise_for_into-result.ensures.known c.requires))
            (λ q. c.normalise_for_into-result.ensures.room c.requires
            (omega (arith, length-take c.in-Ok.size c.delta_into.new.output, le))
            (c.in-Err-result.is ∙ ap (λ g. stops g) q))
            held.bytes units x.end held.accepts
            (omega (
              arith,
              changes_few input (changes y.payloads x.payloads) x.end
                  (record { bytes = held.bytes; accepts = held.accepts }),
              length-take c.in-Ok.size c.delta_into.new.output,
              length-map (changes y.payloads x.payloads) (unit_of x.end.version),
            )))
      ],
    )
