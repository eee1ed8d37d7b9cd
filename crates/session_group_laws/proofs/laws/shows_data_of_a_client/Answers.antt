use Rattle.std.proofs.Common.{refl}
use Rattle.session_group.specs.Groups.{last}
use Rattle.session_group_laws.specs.Members.{with_member}
use Rattle.session_group_laws.proofs.Example.{after, both, group₁, history₁, listener₁, patient}
use Rattle.session_group_laws.proofs.Example.{run}
use Rattle.session_group_laws.proofs.laws.shows_data_of_a_client.Goals as goal

pub returns : goal.returns
unfolding last
returns x =
    (history₁, group₁, listener₁, with_member both 0 after, patient, run, refl, refl, refl)
