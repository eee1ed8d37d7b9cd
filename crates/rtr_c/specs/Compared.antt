-- What C gets of a comparison (this library's own).
use Rattle.std.specs.Prelude.{◌≡◌, ◌⊎◌, ℕ, Bool, false, List, drop, Result, Ok, Err}
use Rattle.unit_views.specs.declared.fault.ViewFault.{ViewFault}
use Rattle.unit_views.specs.declared.fault.ViewFault.TheVariants.{Short}
use Rattle.rtr_wire.specs.declared.compare_slices.ComparisonFault.{ComparisonFault}
use Rattle.rtr_wire.specs.declared.compare_slices.Side.{Side}
use Rattle.rtr_wire.specs.declared.compare_slices.Side.TheVariants.{Left, Right}
use Rattle.rtr_c.specs.Answers.{rtr_ok, fault_status, fault_detail, wanted, IsWanted}
use Rattle.rtr_c.specs.declared.answer.RtrAnswer.{RtrAnswer}
use Rattle.rtr_c.specs.declared.compare.RtrComparison.{RtrComparison}

abbrev pub rtr_left : ℕ
rtr_left = 1

abbrev pub rtr_right : ℕ
rtr_right = 2

-- both inputs are accepted, and this says whether they mean the same
abbrev pub same_told : Bool → RtrComparison
same_told same = record {
  offset = 0;
  wanted = 0;
  status = rtr_ok;
  side = 0;
  detail = 0;
  same = same;
}

-- how many bytes are wanted from here on, where they are too few
abbrev pub fault_wanted : ViewFault → List ℕ → ℕ
fault_wanted Short rest = wanted rest
fault_wanted e rest = 0

-- an input is refused, for the unit that begins at this offset of it
abbrev pub unit_refused : (side offset : ℕ) → ViewFault → List ℕ → RtrComparison
unit_refused i o e input = record {
  offset = o;
  wanted = fault_wanted e (drop o input);
  status = fault_status e;
  side = i;
  detail = fault_detail e;
  same = false;
}

abbrev pub refusal_told : Side → ℕ → ViewFault → (left right : List ℕ) → RtrComparison
refusal_told Left o e left right = unit_refused rtr_left o e left
refusal_told Right o e left right = unit_refused rtr_right o e right

abbrev pub comparison_told : Result Bool ComparisonFault → (left right : List ℕ) → RtrComparison
comparison_told (Ok same) left right = same_told same
comparison_told (Err f) left right = refusal_told f.side f.offset f.fault left right

-- an answer, and its status as the call's
abbrev pub TellsComparison : (told answer : RtrComparison) → (code : ℕ) → Type 0
TellsComparison told a code = (a ≡ told) × (code ≡ told.status)

-- what is told of the input of this side, where a call that normalises it stops with this answer
abbrev pub stop_compared : (side : ℕ) → RtrAnswer → RtrComparison
stop_compared i a = record {
  offset = a.taken;
  wanted = a.wanted;
  status = a.status;
  side = i;
  detail = a.detail;
  same = false;
}

-- of the input that the answer names, this many bytes are wanted from its offset on
abbrev pub WantsMore : (left right : List ℕ) → RtrComparison → Type 0
WantsMore left right c =
    ((c.side ≡ rtr_left) × IsWanted (drop c.offset left) c.wanted)
    ⊎ ((c.side ≡ rtr_right) × IsWanted (drop c.offset right) c.wanted)
