use Rattle.make_work.proofs.info.put_text.Goals as goal

pub returns : goal.returns
returns g c = (c.as_bytes.result.now, c.put.ensures.bytes)
