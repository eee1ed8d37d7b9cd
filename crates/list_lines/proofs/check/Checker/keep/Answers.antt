use Rattle.list_lines.proofs.check.Checker.keep.Goals as goal

pub returns-in-Payload-clause-keeps : goal.returns-in-Payload-clause-keeps
returns-in-Payload-clause-keeps c = rw c.in-Payload.is c.keep_payload.ensures.keeps
