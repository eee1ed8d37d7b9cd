use Rattle.std.proofs.Common.{◌∙◌, ◌<◌, ap, None, Some, subst, sym}
use Rattle.session_bytes.specs.Reading.{Awaits}
use Rattle.session_client.specs.Holding.{untold}
use Rattle.session_client.specs.Next.{Turns}
use Rattle.session_client.specs.declared.client.Client.{Client}
use Rattle.session_client.specs.Over.{IfNamed, none_of, over_of}
use Rattle.session_client.specs.Turning.{turns_left}
use Rattle.session_client.proofs.Overs.{named_then}
use Rattle.session_client.proofs.Pieces.{turned}
use Rattle.session_client.proofs.Turns.{fewer_then}
use Rattle.session_client.specs.Tells.{TellsCall}
use Rattle.session_client.proofs.Takes.{told_then}
use Rattle.std.proofs.Common.{length}
use Rattle.session_client.specs.Calls.{said_after}
use Rattle.session_client.specs.Words.{IsOfClosed, IsOfRest}
use Rattle.session_client.proofs.Words.{bytes_no_show, of_closed, of_input}
use Rattle.session_client.specs.declared.next.Todo.TheVariants as todos
use Rattle.std.proofs.Common.{[]}
use Rattle.session_client.proofs.Calls.{hears_none, lost_later, not_data}
use Rattle.session_client.proofs.client.Client.listen.Goals as goal

pub returns-in-Kept-clause-turns : goal.returns-in-Kept-clause-turns
returns-in-Kept-clause-turns c =
    record { action = None; todo = tt; did = c.in-Kept.ensures.did }

pub returns-in-Acted-clause-turns : goal.returns-in-Acted-clause-turns
returns-in-Acted-clause-turns c =
    let s = c.args.self.now in
    turned c.todo.result c.in-Acted.action c.args.now s.router c.hear.new.self.router
    c.todo.new.self.router s.unsent c.hear.new.self.unsent c.todo.new.self.unsent
    c.args.output.now c.hear.new.output c.todo.ensures.todo c.in-Acted.ensures.did
    c.todo.ensures.router c.todo.ensures.unsent

pub returns-in-Awaits-clause-turns : goal.returns-in-Awaits-clause-turns
returns-in-Awaits-clause-turns c =
    let after = c.starve.new.self in
    subst (λ (k : Client). Turns c.starve.result c.args.now k.router after.router k.unsent
    after.unsent c.args.output.now c.starve.new.output) (c.in-Awaits.ensures.rests tt).0
    (subst (λ b. Turns c.starve.result c.args.now c.hear.new.self.router after.router
    c.hear.new.self.unsent after.unsent b c.starve.new.output) c.in-Awaits.ensures.did.2
    c.starve.ensures.turns)

pub returns-in-Awaits-clause-rests : goal.returns-in-Awaits-clause-rests
returns-in-Awaits-clause-rests c = λ waits.
    let s = c.args.self.now in
    let rest = untold s c.args.input.now in
    let same = c.in-Awaits.ensures.rests tt in
    let rests = c.starve.ensures.rests waits in
    let closed = sym (ap (λ (k : Client). k.closed) same.0) ∙ rests.0 in (
      closed,
      subst (λ b. Awaits s.router rest b s.router) closed (c.in-Awaits.ensures.awaits tt),
      subst (λ (k : Client). k.filled < length c.args.input.now) same.0
          (subst (λ b. c.hear.new.self.filled < length b) same.1 rests.1),
    )

pub returns-in-Acted-clause-names : goal.returns-in-Acted-clause-names
returns-in-Acted-clause-names c = λ held.
    named_then c.todo.result c.in-Acted.action c.in-Acted.refusal c.in-Acted.offset c.args.now
    c.args.self.now c.hear.new.self c.todo.new.self c.args.input.now held c.hear.new.input
    c.args.output.now c.hear.new.output c.todo.ensures.names (c.in-Acted.ensures.names held)
    c.todo.ensures.router c.todo.ensures.unsent

pub returns-in-Acted-clause-ends : goal.returns-in-Acted-clause-ends
returns-in-Acted-clause-ends c = λ turn.
    fewer_then (turns_left c.args.self.now c.args.input.now)
    (turns_left c.hear.new.self c.hear.new.input) (turns_left c.todo.new.self c.hear.new.input)
    (c.in-Acted.ensures.turns c.requires.talks (λ awaits. awaits))
    (c.todo.ensures.turns c.hear.new.input)

pub returns-in-Kept-clause-ends : goal.returns-in-Kept-clause-ends
returns-in-Kept-clause-ends c = λ turn.
    c.in-Kept.ensures.turns c.requires.talks (λ awaits. awaits)

pub returns-in-Awaits-clause-ends : goal.returns-in-Awaits-clause-ends
returns-in-Awaits-clause-ends c = λ turn.
    let after = c.starve.new.self in
    let rests = c.in-Awaits.ensures.rests tt in
    subst (λ (k : Client). turns_left after c.starve.new.input < turns_left k c.args.input.now)
    rests.0
    (subst (λ b. turns_left after c.starve.new.input < turns_left c.hear.new.self b) rests.1
    (c.starve.ensures.ends turn))

pub returns-in-Awaits-clause-names : goal.returns-in-Awaits-clause-names
returns-in-Awaits-clause-names c = λ held.
    let rests = c.in-Awaits.ensures.rests tt in
    let now = c.args.now in
    let after = c.starve.new.self in
    subst (λ (k : Client). IfNamed c.starve.result
    (over_of now k c.args.input.now held after c.args.output.now c.starve.new.output)
    (none_of now k c.args.input.now after c.starve.new.input)) rests.0
    (subst (λ b. IfNamed c.starve.result
    (over_of now c.hear.new.self b held after c.args.output.now c.starve.new.output)
    (none_of now c.hear.new.self b after c.starve.new.input)) rests.1
    (subst (λ o. IfNamed c.starve.result
    (over_of now c.hear.new.self c.hear.new.input held after o c.starve.new.output)
    (none_of now c.hear.new.self c.hear.new.input after c.starve.new.input))
    c.in-Awaits.ensures.did.2 (c.starve.ensures.names held)))

pub returns-in-Awaits-clause-still : goal.returns-in-Awaits-clause-still
returns-in-Awaits-clause-still c = λ room.
    let rests = c.in-Awaits.ensures.rests tt in
    let still = c.starve.ensures.still room in
    (still.0 ∙ rests.0, still.1 ∙ rests.1)

pub returns-in-Acted-clause-serves : goal.returns-in-Acted-clause-serves
returns-in-Acted-clause-serves c = λ s buffer x.
    c.todo.ensures.serves s c.hear.new.input buffer (record {
      made = x.made;
      were = x.were;
      stands = λ k settings makes.
          c.in-Acted.ensures.stands k buffer (x.stands k settings makes);
      counts = c.in-Acted.ensures.counts x.counts;
    })

pub returns-in-Kept-clause-told : goal.returns-in-Kept-clause-told
returns-in-Kept-clause-told c = λ held.
    let s = c.args.self.now in
    let takes = c.in-Kept.ensures.takes held in (
      None,
      tt,
      c.in-Kept.ensures.did,
      takes.0,
      of_input s.router (untold s c.args.input.now) s.closed takes.0.word
          (c.in-Kept.ensures.some (λ awaits. awaits)) (takes.1 (λ awaits. awaits)),
    )

pub returns-in-Acted-clause-told : goal.returns-in-Acted-clause-told
returns-in-Acted-clause-told c = λ held.
    let s = c.args.self.now in
    let rest = untold s c.args.input.now in
    let takes = c.in-Acted.ensures.takes held in
    let after = c.todo.ensures.takes (Some c.in-Acted.action) c.args.now s c.args.input.now held
    c.hear.new.input held takes.0 in
    told_then (IsOfRest s.router rest s.closed) c.todo.result c.in-Acted.action c.args.now s
    c.hear.new.self c.todo.new.self c.args.input.now held c.hear.new.input held c.args.output.now
    c.hear.new.output c.todo.ensures.todo c.in-Acted.ensures.did c.todo.ensures.router
    c.todo.ensures.unsent after.0
    (subst (IsOfRest s.router rest s.closed) (sym after.1)
    (of_input s.router rest s.closed takes.0.word (c.in-Acted.ensures.some (λ awaits. awaits))
    (takes.1 (λ awaits. awaits))))

pub returns-in-Awaits-clause-told : goal.returns-in-Awaits-clause-told
returns-in-Awaits-clause-told c = λ held.
    let s = c.args.self.now in
    let rest = untold s c.args.input.now in
    let rests = c.in-Awaits.ensures.rests tt in
    let after = c.starve.new.self in
    let in_after = c.starve.new.input in
    let out = c.starve.new.output in
    let t = subst
    (λ (k : Client). TellsCall (IsOfClosed k.closed) c.starve.result c.args.now k c.args.input.now
    held after in_after held c.args.output.now out) rests.0
    (subst (λ b. TellsCall (IsOfClosed c.hear.new.self.closed) c.starve.result c.args.now
    c.hear.new.self b held after in_after held c.args.output.now out) rests.1
    (subst (λ o. TellsCall (IsOfClosed c.hear.new.self.closed) c.starve.result c.args.now
    c.hear.new.self c.hear.new.input held after in_after held o out) c.in-Awaits.ensures.did.2
    (c.starve.ensures.told held))) in (
      t.0,
      t.1,
      t.2,
      t.3,
      of_closed s.router rest s.closed t.3.word (c.in-Awaits.ensures.awaits tt) t.4,
    )

pub returns-in-Kept-clause-closed : goal.returns-in-Kept-clause-closed
returns-in-Kept-clause-closed c =
    let s = c.args.self.now in
    c.in-Kept.ensures.same.closed
    ∙ sym (lost_later (untold s c.args.input.now) todos.Go s.closed
    (c.in-Kept.ensures.some (λ awaits. awaits)))

pub returns-in-Acted-clause-opened : goal.returns-in-Acted-clause-opened
returns-in-Acted-clause-opened c =
    c.todo.ensures.opened ∙ ap (said_after c.todo.result) c.in-Acted.ensures.same.opened

pub returns-in-Acted-clause-closed : goal.returns-in-Acted-clause-closed
returns-in-Acted-clause-closed c =
    let s = c.args.self.now in
    c.todo.ensures.closed ∙ ap (said_after c.todo.result) c.in-Acted.ensures.same.closed
    ∙ sym (lost_later (untold s c.args.input.now) c.todo.result s.closed
    (c.in-Acted.ensures.some (λ awaits. awaits)))

pub returns-in-Awaits-clause-opened : goal.returns-in-Awaits-clause-opened
returns-in-Awaits-clause-opened c =
    c.starve.ensures.opened ∙ ap (said_after c.starve.result) c.in-Awaits.ensures.same.opened

pub returns-in-Awaits-clause-closed : goal.returns-in-Awaits-clause-closed
returns-in-Awaits-clause-closed c =
    let s = c.args.self.now in
    c.starve.ensures.closed
    ∙ sym (hears_none (untold s c.args.input.now) c.starve.result s.closed
    (c.in-Awaits.ensures.awaits tt).none_left)

pub returns-in-Acted-clause-plain : goal.returns-in-Acted-clause-plain
returns-in-Acted-clause-plain c =
    let s = c.args.self.now in
    let rest = untold s c.args.input.now in
    let after = untold c.hear.new.self c.hear.new.input in
    let takes = c.in-Acted.ensures.takes [] in
    not_data c.todo.result c.in-Acted.action c.todo.ensures.todo
    (bytes_no_show c.args.now s.router rest after s.closed takes.0.word c.in-Acted.action
    c.hear.new.self.router takes.0.is_told (takes.1 (λ awaits. awaits)))
