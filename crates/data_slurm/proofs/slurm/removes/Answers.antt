use Rattle.std.proofs.Common.{refl, sym, ◌∙◌}
use Rattle.rtr_payload.specs.Meanings.{payload_of}
use Rattle.data_slurm.specs.Filters.{matches_payload, removes}
use Rattle.data_slurm.proofs.TestedSoFar.{ended, found, passed, starts}
use Rattle.data_slurm.proofs.slurm.removes.Goals as goal

pub loop-entry-init : goal.loop-entry-init
loop-entry-init c = starts (λ es. removes es (payload_of c.args.payload.now)) c.args.entries.now

pub returns-then-matches : goal.returns-then-matches
returns-then-matches c =
    found (λ es. removes es (payload_of c.args.payload.now))
    (λ e. matches_payload e (payload_of c.args.payload.now)) refl
    (λ x xs. refl) c.args.entries.now c.loop-entry.entry-index c.entry-item.result
    c.loop-entry-test.true c.entry-item.is c.loop-entry.invariant
    (sym c.matches.ensures ∙ c.if-matches.true)

pub loop-entry-preserved : goal.loop-entry-preserved
loop-entry-preserved c =
    passed (λ es. removes es (payload_of c.args.payload.now))
    (λ e. matches_payload e (payload_of c.args.payload.now)) refl
    (λ x xs. refl) c.args.entries.now c.loop-entry.entry-index c.entry-item.result
    c.loop-entry-test.true c.entry-item.is c.loop-entry.invariant
    (sym c.matches.ensures ∙ c.if-matches.false)

pub returns : goal.returns
returns c =
    ended (λ es. removes es (payload_of c.args.payload.now))
    (λ e. matches_payload e (payload_of c.args.payload.now)) refl
    (λ x xs. refl) c.args.entries.now c.loop-entry.entry-index c.loop-entry-test.false
    c.loop-entry.invariant
