use Rattle.session_group.proofs.Served.{reaches, recovers_later, recovers_running}
use Rattle.session_group.proofs.laws.group_recovers_by_messages.Goals as goal

pub returns-clause-running : goal.returns-clause-running
returns-clause-running z c count s payloads ms g₀ g k₀ k ends₀ ends i most spoken start x n group
    runs floor run =
    recovers_running c count s payloads ms g₀ g k₀ k ends₀ ends i most spoken start x n group runs
    floor run

pub returns-clause-waiting : goal.returns-clause-waiting
returns-clause-waiting z c count s payloads ms g₀ g k₀ k ends₀ ends i most start x₀ x n group w runs
    began run =
    recovers_later c count s payloads ms g₀ g k₀ k ends₀ ends i most start x₀ x n group w runs began
    run

pub returns-clause-groups : goal.returns-clause-groups
returns-clause-groups z c count s payloads ms g g' k k' ends ends' n did starts group is =
    reaches c count s payloads ms n g g' k k' ends ends' did starts group is
