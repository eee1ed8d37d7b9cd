use Rattle.session_laws.proofs.Payloads.{payloads_agree}
use Rattle.session_laws.proofs.laws.payloads_agree.Goals as goal

pub returns : goal.returns
returns c es w are one run has = payloads_agree es w are one run has
