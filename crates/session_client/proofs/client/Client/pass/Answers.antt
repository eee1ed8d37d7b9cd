use native.Mathlib.Omega.{arith}
use Rattle.std.proofs.Common.{◌≡◌, ◌+◌, ◌-◌, ap, sym, ◌∙◌, drop}
use Rattle.session_client.proofs.Places.{later, moved_there}
use Rattle.session_client.proofs.Runs.{untold_hearing}
use Rattle.session_client.proofs.client.Client.pass.Goals as goal

pub returns-clause-left : goal.returns-clause-left
returns-clause-left c =
    let s = c.args.self.now in
    let input = c.args.input.now in
    let new = c.take_out.new.input in
    let from = s.kept + c.args.start in
    let to = s.kept + c.args.end in
    let filled = s.filled - (c.args.end - c.args.start) in
    let size : filled ≡ from + (s.filled - to) =
    omega (arith, c.requires.order, c.requires.within) in
    untold_hearing s.holding from filled new c.requires.hears
    ∙ moved_there input new from to s.filled filled c.requires.within size c.take_out.ensures.rest
    ∙ later input s.kept c.args.end s.filled
    ∙ ap (drop c.args.end) (sym (untold_hearing s.holding s.kept s.filled input c.requires.hears))
