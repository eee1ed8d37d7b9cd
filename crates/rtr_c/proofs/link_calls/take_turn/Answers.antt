use Rattle.std.proofs.Common.{◌∙◌, length}
use Rattle.session_client.specs.declared.client.Client.{Client}
use Rattle.rtr_c.specs.LinkTodos.{TakesTurn, todo_told}
use Rattle.rtr_c.specs.Links.{client_of}
use Rattle.rtr_c.proofs.LinksTold.{both_of, tells}
use Rattle.rtr_c.proofs.link_calls.take_turn.Goals as goal

pub returns : goal.returns
returns c =
    let t = c.next-todo.result in
    let k = c.client_from-client.result in
    let k' = c.next-todo.new.self in
    let l = c.args.link.now in
    let l' = c.link_to.result in
    let told =
    c.todo_to.ensures
    ∙ (λ i. todo_told t k'.second (c.came_before-before.ensures i) (c.wakes.ensures i)) in
    let received = c.link_to.ensures.received ∙ c.received_after-received.ensures in
    let begun =
    c.link_to.ensures.begun c.next-todo.ensures.step c.next-todo.ensures.fits.due in (
      t,
      tells c.args.now l l' k' c.next-todo.new.input c.next-todo.new.output c.todo_to.result t
          c.link_to.ensures.client told c.link_to.ensures.latest received begun
          c.link_to.ensures.plain
          c.next-todo.ensures.fits
          c.next-todo.ensures.room,
      both_of
          (λ (k k' : Client). TakesTurn c.args.now k c.args.input.now c.args.first.now
          c.args.second.now (length c.args.index.now) c.args.output.now k' c.next-todo.new.input
          c.next-todo.new.first c.next-todo.new.second c.next-todo.new.output t)
          k k' (client_of l) (client_of l') c.client_from-client.ensures.client
          c.link_to.ensures.client
          (record {
            serves = c.next-todo.ensures.serves;
            opened = c.next-todo.ensures.opened;
            closed = c.next-todo.ensures.closed;
            in_second = c.next-todo.ensures.second;
            held = c.next-todo.ensures.held;
            turns = c.next-todo.ensures.turns;
            told = c.next-todo.ensures.told;
            full = c.next-todo.ensures.full;
            first_of_all = c.next-todo.ensures.first;
            names = c.next-todo.ensures.names;
            ends = c.next-todo.ensures.ends;
            still = c.next-todo.ensures.still;
            index = c.next-todo.ensures.index;
            enough = c.next-todo.ensures.enough;
            short = c.next-todo.ensures.short;
            rests = c.next-todo.ensures.rests;
            acts = c.next-todo.ensures.acts;
            input_room = c.next-todo.ensures.input;
            index_room = c.next-todo.ensures.only;
            over_none = c.next-todo.ensures.over_none;
            spare = c.next-todo.ensures.spare;
            whole = c.next-todo.ensures.whole;
          }),
    )
