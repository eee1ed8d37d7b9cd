-- Whether a record is announced or withdrawn (the flags of RFC 8210 section 5.1).
use Rattle.std.specs.Prelude.{ℕ, ◌%◌, ◌==◌, if◌then◌else◌}
use Rattle.rtr_base.specs.declared.action.Action.{Action}
use Rattle.rtr_base.specs.declared.action.Action.TheVariants.{Announce, Withdraw}

-- the lowest flag bit alone decides
abbrev pub act : ℕ → Action
act g = if g % 2 == 1 then Announce else Withdraw

-- the flags that are written
abbrev pub flags_of : Action → ℕ
flags_of Announce = 1
flags_of Withdraw = 0
