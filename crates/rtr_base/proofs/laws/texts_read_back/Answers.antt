use Rattle.rtr_base.proofs.ReadBack.{asn_back, prefix_back, max_len_back, key_back}
use Rattle.rtr_base.proofs.laws.texts_read_back.Goals as goal

pub returns-clause-asn : goal.returns-clause-asn
returns-clause-asn c = asn_back

pub returns-clause-prefix : goal.returns-clause-prefix
returns-clause-prefix c = prefix_back

pub returns-clause-max_len : goal.returns-clause-max_len
returns-clause-max_len c = max_len_back

pub returns-clause-key : goal.returns-clause-key
returns-clause-key c = key_back
