use Rattle.std.proofs.Common.{[], refl}
use Rattle.session_cache.proofs.ExampleWorlds.{settings}
use Rattle.session_bytes.proofs.Examples.{data_bytes}
use Rattle.session_client.proofs.Example.{example, is_client}
use Rattle.session_client.proofs.laws.data_are_shown.Goals as goal

pub returns : goal.returns
returns c = (settings, example, [], data_bytes, is_client, refl)
