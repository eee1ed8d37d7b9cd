-- What is said of an error.
use Rattle.std.specs.Prelude.{List, ℕ, codes}
use Rattle.session_group.specs.declared.group.GroupError.{GroupError}
use Rattle.session_group.specs.declared.group.GroupError.TheVariants as errors

abbrev pub group_error_text : GroupError → List ℕ
group_error_text errors.TooManyMembers = codes "more than 16 members"
