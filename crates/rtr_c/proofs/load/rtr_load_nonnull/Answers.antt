use Rattle.std.proofs.Common.{◌≡◌, sym, ap, ◌∙◌}
use Rattle.rtr_c.specs.LoadAnswers.{load_answer}
use Rattle.rtr_c.specs.declared.load.RtrLoaded.{RtrLoaded}
use Rattle.rtr_c.proofs.LoadRoom.{index_to_load, room_to_load}
use Rattle.rtr_c.proofs.load.rtr_load_nonnull.Goals as goal
use Rattle.rtr_c.proofs.load.rtr_load_nonnull.Goals.{in-Ok, in-Err}

pub returns-clause-index : goal.returns-clause-index
returns-clause-index c = λ enough i.
    let loaded = c.match-load.loaded in
    let told : loaded ≡ load_answer c.load.result c.args.input.now =
    elim c.match-load.branch [
      | in-Ok w ↦ rw w.in-Ok.is (w.loaded-is ∙ w.of.ensures)
      | in-Err w ↦ rw w.in-Err.is (w.loaded-is ∙ w.refused.ensures)
    ] in
    index_to_load c.load.result c.args.input.now (c.load.ensures.index enough)
    (sym (ap (λ (a : RtrLoaded). a.status) told) ∙ i)

pub returns-clause-room : goal.returns-clause-room
returns-clause-room c = λ enough i.
    let loaded = c.match-load.loaded in
    let told : loaded ≡ load_answer c.load.result c.args.input.now =
    elim c.match-load.branch [
      | in-Ok w ↦ rw w.in-Ok.is (w.loaded-is ∙ w.of.ensures)
      | in-Err w ↦ rw w.in-Err.is (w.loaded-is ∙ w.refused.ensures)
    ] in
    room_to_load c.load.result c.args.input.now (c.load.ensures.room enough)
    (sym (ap (λ (a : RtrLoaded). a.status) told) ∙ i)
