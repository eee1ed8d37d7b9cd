use Rattle.rtr_clean.proofs.clean.form.Goals as goal

pub returns-in-Payload-clause-written : goal.returns-in-Payload-clause-written
returns-in-Payload-clause-written c = rw c.in-Payload.is assumption

pub returns-in-ResetQuery-clause-written : goal.returns-in-ResetQuery-clause-written
returns-in-ResetQuery-clause-written c = rw c.in-ResetQuery.is (tt, cc)

pub returns-in-CacheReset-clause-written : goal.returns-in-CacheReset-clause-written
returns-in-CacheReset-clause-written c = rw c.in-CacheReset.is (tt, cc)
