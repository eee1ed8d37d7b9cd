use Rattle.make_work.proofs.make.put_expired.Goals as goal

pub returns-in-Some : goal.returns-in-Some
returns-in-Some g c = rw c.in-Some.is c.writeln.ensures.bytes

pub returns-in-None : goal.returns-in-None
returns-in-None g c = rw c.in-None.is c.writeln-in-None.ensures.bytes
