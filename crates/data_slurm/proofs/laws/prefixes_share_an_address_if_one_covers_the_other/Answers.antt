use Rattle.data_slurm.proofs.Sharing.{shares}
use Rattle.data_slurm.proofs.laws.prefixes_share_an_address_if_one_covers_the_other.Goals as goal

pub returns : goal.returns
returns c p q = shares p q
