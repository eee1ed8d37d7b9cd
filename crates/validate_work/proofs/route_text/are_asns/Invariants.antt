use denote.Shadow.{shadow}
use denote.Text.{Utf8}
use Rattle.std.proofs.Common.{length}
use Rattle.validate_work.proofs.AsSets.{AsnsSoFar}
use Rattle.validate_work.proofs.route_text.are_asns.Given as goal

abbrev pub invariant-members : goal.invariant-members
invariant-members l = shadow (Utf8 l.rest) × AsnsSoFar l.fn.text l.rest

abbrev pub decreases-members : goal.decreases-members
decreases-members l = length l.rest
