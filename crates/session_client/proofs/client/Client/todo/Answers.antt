use Rattle.std.proofs.Common.{refl}
use Rattle.session_client.proofs.client.Client.todo.Goals as goal

pub returns-in-Connect-clause-takes : goal.returns-in-Connect-clause-takes
returns-in-Connect-clause-takes c = λ a now k input held input' held' x. (x, refl)

pub returns-in-End-clause-takes : goal.returns-in-End-clause-takes
returns-in-End-clause-takes c = λ a now k input held input' held' x. (x, refl)

pub returns-in-Show-clause-takes : goal.returns-in-Show-clause-takes
returns-in-Show-clause-takes c = λ a now k input held input' held' x. (x, refl)

pub returns-in-Drop-clause-takes : goal.returns-in-Drop-clause-takes
returns-in-Drop-clause-takes c = λ a now k input held input' held' x. (x, refl)

pub returns-in-NoData-clause-takes : goal.returns-in-NoData-clause-takes
returns-in-NoData-clause-takes c = λ a now k input held input' held' x. (x, refl)

pub returns-in_default-clause-takes : goal.returns-in_default-clause-takes
returns-in_default-clause-takes c = λ a now k input held input' held' x. (x, refl)
