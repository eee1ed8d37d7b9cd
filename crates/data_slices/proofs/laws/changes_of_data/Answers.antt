use Rattle.data_slices.proofs.AnyVersions as versions
use Rattle.data_slices.proofs.laws.changes_of_data.Goals as goal

pub returns-clause-written : goal.returns-clause-written
returns-clause-written c r old new before after d d' end end' h j w =
    versions.written old new before after d d' end end' h j r w

pub returns-clause-announced : goal.returns-clause-announced
returns-clause-announced c r new before after d end h w =
    versions.announced new before after d end h r w

pub returns-clause-withdrawn : goal.returns-clause-withdrawn
returns-clause-withdrawn c r old before after d end h w =
    versions.withdrawn old before after d end h r w

pub returns-clause-fits : goal.returns-clause-fits
returns-clause-fits c = versions.enough_room
