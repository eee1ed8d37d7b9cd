use Rattle.session_client.proofs.CountsKept.{counts_still}
use Rattle.session_client.proofs.Runs.{goes_on, runs_still, same_shown}
use Rattle.session_client.proofs.client.Client.received.Goals as goal

pub returns-clause-serves : goal.returns-clause-serves
returns-clause-serves c =
    let k = c.args.self.now in
    let input = c.args.input.now in
    λ s before buffer same x.
    goes_on s k.router k.router k.holding k.holding k.kept k.kept k.shown k.shown before input
    buffer
    buffer
    (counts_still k.router k.holding k.kept k.filled before input c.requires.fits.due same)
    (λ caller y. runs_still caller k.router k.holding k.kept k.filled k.shown before input buffer
    buffer c.requires.fits.due same (same_shown k.shown buffer) y) x
