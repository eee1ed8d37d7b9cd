use Rattle.data_validation.proofs.trail.Trail.turn_back.Goals as goal

pub returns-then-address-self-clause-trail : goal.returns-then-address-self-clause-trail
returns-then-address-self-clause-trail c = λ f b n s h. c.begin_again.ensures.trail f b n s
