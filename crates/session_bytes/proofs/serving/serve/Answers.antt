use Rattle.session_bytes.proofs.serving.serve.Goals as goal

pub returns-in-Err : goal.returns-in-Err
returns-in-Err c = c.refuse.ensures c.in-Err.refusal.size c.args.kept.now c.in-Err.ensures.fault
