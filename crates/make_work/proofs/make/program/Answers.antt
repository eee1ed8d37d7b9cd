use Rattle.make_work.proofs.make.program.Goals as goal

pub returns-clause-makes : goal.returns-clause-makes
returns-clause-makes g c =
    rw (c.in-Some.is, c.from-2.ensures)
    (rw (c.words_after_name.ensures, c.deref.ensures.value) at c.run_words-status.ensures.makes)
