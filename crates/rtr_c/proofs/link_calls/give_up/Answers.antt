use Rattle.std.proofs.Common.{◌∙◌}
use Rattle.session_client.specs.declared.client.Client.{Client}
use Rattle.rtr_c.specs.LinkTodos.{GivesUpRoom, todo_told}
use Rattle.rtr_c.specs.Links.{client_of}
use Rattle.rtr_c.proofs.LinksTold.{both_of, tells}
use Rattle.rtr_c.proofs.link_calls.give_up.Goals as goal

pub returns : goal.returns
returns c =
    let t = c.give_up-todo.result in
    let k = c.client_from-client.result in
    let k' = c.give_up-todo.new.self in
    let l = c.args.link.now in
    let l' = c.link_to.result in
    let told =
    c.todo_to.ensures
    ∙ (λ i. todo_told t k'.second (c.came_before-before.ensures i) (c.wakes.ensures i)) in
    let received = c.link_to.ensures.received ∙ c.received_after-received.ensures in
    let begun =
    c.link_to.ensures.begun c.give_up-todo.ensures.step c.give_up-todo.ensures.fits.due in (
      t,
      tells c.args.now l l' k' c.give_up-todo.new.input c.give_up-todo.new.output c.todo_to.result t
          c.link_to.ensures.client told c.link_to.ensures.latest received begun
          c.link_to.ensures.plain
          c.give_up-todo.ensures.fits
          c.give_up-todo.ensures.room,
      both_of
          (λ (k k' : Client). GivesUpRoom c.args.now k c.args.input.now c.args.output.now k'
          c.give_up-todo.new.input c.give_up-todo.new.output t)
          k k' (client_of l) (client_of l') c.client_from-client.ensures.client
          c.link_to.ensures.client
          (record {
            takes = record {
              serves = c.give_up-todo.ensures.serves;
              second = c.give_up-todo.ensures.second;
              opened = c.give_up-todo.ensures.opened;
              closed = c.give_up-todo.ensures.closed;
              turns = c.give_up-todo.ensures.turns;
              names = c.give_up-todo.ensures.names;
              over_none = c.give_up-todo.ensures.over_none;
            };
            told = c.give_up-todo.ensures.told;
            gives = c.give_up-todo.ensures.gives;
          }),
    )
