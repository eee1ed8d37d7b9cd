use Rattle.std.proofs.Common.{Some, None}
use Rattle.session_router.specs.declared.event.Action.TheVariants as actions
use Rattle.session_client.specs.Next.{IsIndexRoom, IsRoom}
use Rattle.session_client.specs.Turning.{turns_left}
use Rattle.session_client.specs.declared.next.Todo.{Todo}
use Rattle.session_client.specs.declared.next.Todo.TheVariants as todos
use Rattle.session_client.proofs.Overs.{named_then}
use Rattle.session_client.proofs.Pieces.{turned}
use Rattle.session_client.proofs.Turns.{fewer_then}
use Rattle.session_client.proofs.Takes.{told_then}
use Rattle.std.proofs.Common.{◌∙◌, ap, length, subst, sym}
use Rattle.session_client.specs.Words.{IsOfChanges}
use Rattle.session_client.specs.Calls.{said_after}
use Rattle.session_client.proofs.Calls.{not_data}
use Rattle.session_client.proofs.client.Client.settle.Goals as goal

index_is_room : (t : Todo) → IsIndexRoom t → IsRoom t
index_is_room (todos.IndexRoom n) is = tt
index_is_room (todos.InputRoom n) is = tt
index_is_room (todos.DataRoom n) is = tt
index_is_room (todos.OutputRoom n) is = tt
index_is_room todos.Go is = absurd is
index_is_room todos.Wait is = absurd is
index_is_room todos.Connect is = absurd is
index_is_room (todos.Close x refusal offset) is = absurd is
index_is_room todos.Data is = absurd is
index_is_room todos.Dropped is = absurd is
index_is_room (todos.NoData offset) is = absurd is

pub returns-in-Acted-clause-index : goal.returns-in-Acted-clause-index
returns-in-Acted-clause-index c = λ counts room wants.
    c.todo.ensures.rooms (index_is_room c.todo.result wants)

pub returns-in-Nothing-clause-turns : goal.returns-in-Nothing-clause-turns
returns-in-Nothing-clause-turns c =
    record { action = None; todo = tt; did = c.in-Nothing.ensures.did }

pub returns-in-Shown-clause-turns : goal.returns-in-Shown-clause-turns
returns-in-Shown-clause-turns c =
    record { action = Some actions.Show; todo = tt; did = c.in-Shown.ensures.did }

pub returns-in-Data-clause-turns : goal.returns-in-Data-clause-turns
returns-in-Data-clause-turns c =
    record { action = None; todo = tt; did = c.in-Data.ensures.did }

pub returns-in-Index-clause-turns : goal.returns-in-Index-clause-turns
returns-in-Index-clause-turns c =
    record { action = None; todo = tt; did = c.in-Index.ensures.did }

pub returns-in-Acted-clause-turns : goal.returns-in-Acted-clause-turns
returns-in-Acted-clause-turns c =
    let s = c.args.self.now in
    turned c.todo.result c.in-Acted.action c.args.now s.router c.apply.new.self.router
    c.todo.new.self.router s.unsent c.apply.new.self.unsent c.todo.new.self.unsent
    c.args.output.now c.apply.new.output c.todo.ensures.todo c.in-Acted.ensures.did
    c.todo.ensures.router c.todo.ensures.unsent

pub returns-in-Acted-clause-names : goal.returns-in-Acted-clause-names
returns-in-Acted-clause-names c =
    named_then c.todo.result c.in-Acted.action c.in-Acted.refusal c.in-Acted.offset c.args.now
    c.args.self.now c.apply.new.self c.todo.new.self c.args.input.now c.args.held.now
    c.apply.new.input c.args.output.now c.apply.new.output c.todo.ensures.names
    c.in-Acted.ensures.names c.todo.ensures.router c.todo.ensures.unsent

pub returns-in-Acted-clause-ends : goal.returns-in-Acted-clause-ends
returns-in-Acted-clause-ends c = λ turn.
    fewer_then (turns_left c.args.self.now c.args.input.now)
    (turns_left c.apply.new.self c.apply.new.input)
    (turns_left c.todo.new.self c.apply.new.input)
    (c.in-Acted.ensures.ends (λ room. room)) (c.todo.ensures.turns c.apply.new.input)

pub returns-in-Shown-clause-ends : goal.returns-in-Shown-clause-ends
returns-in-Shown-clause-ends c = λ turn. c.in-Shown.ensures.ends (λ room. room)

pub returns-in-Nothing-clause-ends : goal.returns-in-Nothing-clause-ends
returns-in-Nothing-clause-ends c = λ turn. c.in-Nothing.ensures.ends (λ room. room)

pub returns-in-Nothing-clause-told : goal.returns-in-Nothing-clause-told
returns-in-Nothing-clause-told c =
    let takes = c.in-Nothing.ensures.takes in
    (None, tt, c.in-Nothing.ensures.did, takes.0, takes.1)

pub returns-in-Shown-clause-told : goal.returns-in-Shown-clause-told
returns-in-Shown-clause-told c =
    let takes = c.in-Shown.ensures.takes in
    (Some actions.Show, tt, c.in-Shown.ensures.did, takes.0, takes.1)

pub returns-in-Data-clause-told : goal.returns-in-Data-clause-told
returns-in-Data-clause-told c =
    let takes = c.in-Data.ensures.takes in
    (None, tt, c.in-Data.ensures.did, takes.0, takes.1)

pub returns-in-Index-clause-told : goal.returns-in-Index-clause-told
returns-in-Index-clause-told c =
    let takes = c.in-Index.ensures.takes in
    (None, tt, c.in-Index.ensures.did, takes.0, takes.1)

pub returns-in-Acted-clause-told : goal.returns-in-Acted-clause-told
returns-in-Acted-clause-told c =
    let s = c.args.self.now in
    let says = IsOfChanges s.holding s.kept s.shown c.args.input.now c.args.held.now
    (length c.args.index.now) c.args.made.now c.apply.new.made in
    let takes = c.in-Acted.ensures.takes in
    let after = c.todo.ensures.takes (Some c.in-Acted.action) c.args.now s c.args.input.now
    c.args.held.now c.apply.new.input c.args.held.now takes.0 in
    told_then says c.todo.result c.in-Acted.action c.args.now s c.apply.new.self c.todo.new.self
    c.args.input.now c.args.held.now c.apply.new.input c.args.held.now c.args.output.now
    c.apply.new.output c.todo.ensures.todo c.in-Acted.ensures.did c.todo.ensures.router
    c.todo.ensures.unsent after.0 (subst says (sym after.1) takes.1)

pub returns-in-Acted-clause-turned : goal.returns-in-Acted-clause-turned
returns-in-Acted-clause-turned c =
    sym (not_data c.todo.result c.in-Acted.action c.todo.ensures.todo c.in-Acted.ensures.shows)

pub returns-in-Acted-clause-opened : goal.returns-in-Acted-clause-opened
returns-in-Acted-clause-opened c =
    c.todo.ensures.opened ∙ ap (said_after c.todo.result) c.in-Acted.ensures.same.opened

pub returns-in-Acted-clause-closed : goal.returns-in-Acted-clause-closed
returns-in-Acted-clause-closed c =
    c.todo.ensures.closed ∙ ap (said_after c.todo.result) c.in-Acted.ensures.same.closed

pub returns-in-Shown-clause-whole : goal.returns-in-Shown-clause-whole
returns-in-Shown-clause-whole c = λ shows. c.in-Shown.ensures.whole tt

pub returns-in-Acted-clause-whole : goal.returns-in-Acted-clause-whole
returns-in-Acted-clause-whole c = λ shows.
    let none = not_data c.todo.result c.in-Acted.action c.todo.ensures.todo
    c.in-Acted.ensures.shows in
    absurd (let e = sym none ∙ shows in cc)

pub returns-in-Nothing-clause-whole : goal.returns-in-Nothing-clause-whole
returns-in-Nothing-clause-whole c = λ shows. absurd (let e = shows in cc)

pub returns-in-Data-clause-whole : goal.returns-in-Data-clause-whole
returns-in-Data-clause-whole c = λ shows. absurd (let e = shows in cc)

pub returns-in-Index-clause-whole : goal.returns-in-Index-clause-whole
returns-in-Index-clause-whole c = λ shows. absurd (let e = shows in cc)
