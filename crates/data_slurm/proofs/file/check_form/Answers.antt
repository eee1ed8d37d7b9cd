use Rattle.std.proofs.Common.{MatchResult, subst, sym}
use Rattle.data_slurm.specs.SlurmFiles.{FormWrong, IsForm}
use Rattle.data_slurm.proofs.Seen.{object_seen}
use Rattle.data_slurm.proofs.file.check_form.Goals as goal

pub returns-in-Object : goal.returns-in-Object
returns-in-Object c =
    subst (λ j. MatchResult c.check_members.result (λ _. IsForm c.args.form j)
    (λ r. FormWrong c.args.form j r.reason))
    (sym (object_seen c.args.value.now c.in-Object.members c.as_slice.result.now c.in-Object.is
    c.as_slice.ensures.value)) c.check_members.ensures
