use Rattle.std.proofs.Common.{◌∙◌}
use Rattle.session_client.specs.declared.client.Client.{Client}
use Rattle.rtr_c.specs.LinkTodos.{AsksNow, todo_told}
use Rattle.rtr_c.specs.Links.{client_of}
use Rattle.rtr_c.proofs.LinksTold.{both_of, tells}
use Rattle.rtr_c.proofs.link_calls.ask_now.Goals as goal

pub returns : goal.returns
returns c =
    let t = c.ask_now-todo.result in
    let k = c.client_from-client.result in
    let k' = c.ask_now-todo.new.self in
    let l = c.args.link.now in
    let l' = c.link_to.result in
    let told =
    c.todo_to.ensures
    ∙ (λ i. todo_told t k'.second (c.came_before-before.ensures i) (c.wakes.ensures i)) in
    let received = c.link_to.ensures.received ∙ c.received_after-received.ensures in
    let begun =
    c.link_to.ensures.begun c.ask_now-todo.ensures.step c.ask_now-todo.ensures.fits.due in (
      t,
      tells c.args.now l l' k' c.ask_now-todo.new.input c.ask_now-todo.new.output c.todo_to.result t
          c.link_to.ensures.client told c.link_to.ensures.latest received begun
          c.link_to.ensures.plain
          c.ask_now-todo.ensures.fits
          c.ask_now-todo.ensures.room,
      both_of
          (λ (k k' : Client). AsksNow c.args.now k c.args.input.now c.args.output.now k'
          c.ask_now-todo.new.input c.ask_now-todo.new.output t)
          k k' (client_of l) (client_of l') c.client_from-client.ensures.client
          c.link_to.ensures.client
          (record {
            takes = record {
              serves = c.ask_now-todo.ensures.serves;
              second = c.ask_now-todo.ensures.second;
              opened = c.ask_now-todo.ensures.opened;
              closed = c.ask_now-todo.ensures.closed;
              turns = c.ask_now-todo.ensures.turns;
              names = c.ask_now-todo.ensures.names;
              over_none = c.ask_now-todo.ensures.over_none;
            };
            told = c.ask_now-todo.ensures.told;
            full = c.ask_now-todo.ensures.full;
            first_of_all = c.ask_now-todo.ensures.first;
            still = c.ask_now-todo.ensures.still;
            asks = c.ask_now-todo.ensures.asks;
          }),
    )
