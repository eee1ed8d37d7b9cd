use Rattle.data_loading.proofs.taking.refuse.Goals as goal

pub returns-in-None-clause-refuses : goal.returns-in-None-clause-refuses
returns-in-None-clause-refuses c = λ room.
    let s = c.requires.stands in
    let w = c.in-None.ensures.settles room c.args.at s in
    (w.0, c.requires.right s.d w.0 w.1)
