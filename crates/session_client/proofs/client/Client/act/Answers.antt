use native.Mathlib.Omega.{arith}
use Rattle.std.proofs.Common.{add-zero, ap, refl, subst, sym, drop, take, ◌+◌, ◌-◌, ◌≡◌, ◌≤◌, ◌∙◌}
use Rattle.session_router.specs.declared.event.Action.TheVariants as actions
use Rattle.session_bytes.specs.Reading.{Acts}
use Rattle.session_client.specs.Holding.{LeavesInput, Stands, due_after, due_size, shown_after}
use Rattle.session_client.specs.Holding.{untold}
use Rattle.session_client.specs.declared.client.Client.{Client}
use Rattle.session_client.proofs.Runs.{acts_begin, acts_complete, acts_other, acts_wait}
use Rattle.session_client.proofs.Places.{later}
use Rattle.session_client.proofs.Runs.{due_none, leaves_at, untold_hearing}
use Rattle.session_client.specs.declared.client.Holding.TheVariants as holdings
use Rattle.session_client.specs.Counting.{IsKeptCount}
use Rattle.session_client.specs.Turning.{holding_after}
use Rattle.session_router.specs.declared.event.Event.TheVariants as events
use Rattle.session_client.proofs.CountsKept.{counts_apply, counts_begin, counts_more, counts_there}
use Rattle.session_client.proofs.CountsKept.{counts_wait}
use Rattle.session_client.proofs.Steps.{holding_other}
use Rattle.session_router.specs.Histories.{host_after}
use Rattle.session_client.specs.Tells.{HostHas, front_at}
use Rattle.session_client.proofs.Calls.{front_other}
use Rattle.session_client.proofs.Takes.{has_apply, has_begin, has_other, has_wait, unit_shows_none}
use Rattle.session_client.proofs.client.Client.act.Goals as goal

pub returns-in-Wait-clause-holding : goal.returns-in-Wait-clause-holding
returns-in-Wait-clause-holding c =
    let s = c.args.self.now in
    ap (λ (k : Client). k.holding) c.pass.ensures.client
    ∙ ap (λ a. holding_after a s.holding (c.args.end - c.args.start)) (sym c.in-Wait.is)

pub returns-in-Begin-clause-holding : goal.returns-in-Begin-clause-holding
returns-in-Begin-clause-holding c =
    let s = c.args.self.now in
    ap (λ (k : Client). k.holding) c.begin.ensures.client
    ∙ ap (λ a. holding_after a s.holding (c.args.end - c.args.start)) (sym c.in-Begin.is)

pub returns-in-Apply-clause-holding : goal.returns-in-Apply-clause-holding
returns-in-Apply-clause-holding c =
    let s = c.args.self.now in
    ap (λ (k : Client). k.holding) c.complete.ensures.client
    ∙ ap (λ a. holding_after a s.holding (c.args.end - c.args.start)) (sym c.in-Apply.is)

pub returns-in-NoData-clause-holding : goal.returns-in-NoData-clause-holding
returns-in-NoData-clause-holding c =
    let s = c.args.self.now in
    ap (λ (k : Client). k.holding) c.set_aside.ensures
    ∙ ap (λ a. holding_after a s.holding (c.args.end - c.args.start)) (sym c.in-NoData.is)

pub returns-in-Wait-clause-stays : goal.returns-in-Wait-clause-stays
returns-in-Wait-clause-stays c = λ is. absurd (let e = sym c.in-Wait.is ∙ is in cc)

pub returns-in-Begin-clause-stays : goal.returns-in-Begin-clause-stays
returns-in-Begin-clause-stays c = λ is. absurd (let e = sym c.in-Begin.is ∙ is in cc)

pub returns-in-NoData-clause-stays : goal.returns-in-NoData-clause-stays
returns-in-NoData-clause-stays c = λ is. refl

pub returns-in-Apply-clause-stays : goal.returns-in-Apply-clause-stays
returns-in-Apply-clause-stays c = λ is. refl

pub returns-in-NoData-clause-stands : goal.returns-in-NoData-clause-stands
returns-in-NoData-clause-stands c =
    let s = c.args.self.now in
    let input = c.args.input.now in
    let rest = drop s.kept (take s.filled input) in
    λ k buffer now before x acts.
    subst (λ new. Stands k new input buffer) (sym c.set_aside.ensures)
    (acts_other k before before s.router s.holding now s.kept (s.kept + c.args.end) c.args.start
    c.args.end s.filled actions.NoData s.shown input input buffer
    (subst (λ a. Acts before now rest c.args.start c.args.end a s.router) c.in-NoData.is acts) x
    (c.what_is_told_is_heard.ensures.acted k x.history before x.host now rest c.args.start
    c.args.end actions.NoData s.router x.run x.heard
    (subst (λ a. Acts before now rest c.args.start c.args.end a s.router) c.in-NoData.is acts)))

pub returns-in-NoData-clause-left : goal.returns-in-NoData-clause-left
returns-in-NoData-clause-left c =
    let s = c.args.self.now in
    let input = c.args.input.now in
    subst (λ a. LeavesInput a c.args.end (untold s input) (untold c.set_aside.new.self input))
    (sym c.in-NoData.is)
    (ap (λ (k : Client). untold k input) c.set_aside.ensures
    ∙ untold_hearing holdings.Nothing (s.kept + c.args.end) s.filled input tt
    ∙ later input s.kept c.args.end s.filled
    ∙ ap (drop c.args.end) (sym (untold_hearing s.holding s.kept s.filled input c.requires.hears)))

pub returns-in-Begin-clause-stands : goal.returns-in-Begin-clause-stands
returns-in-Begin-clause-stands c =
    let s = c.args.self.now in
    let input = c.args.input.now in
    let rest = drop s.kept (take s.filled input) in
    λ k buffer now before x acts.
    subst (λ new. Stands k new c.begin.new.input buffer) (sym c.begin.ensures.client)
    (acts_begin k before s.router s.holding now s.kept c.args.start c.args.end s.filled s.shown
    input
    c.begin.new.input buffer x
    (c.what_is_told_is_heard.ensures.acted k x.history before x.host now rest c.args.start
    c.args.end
    actions.Begin s.router x.run x.heard
    (subst (λ a. Acts before now rest c.args.start c.args.end a s.router) c.in-Begin.is acts)))

pub returns-in-Wait-clause-stands : goal.returns-in-Wait-clause-stands
returns-in-Wait-clause-stands c =
    let s = c.args.self.now in
    let input = c.args.input.now in
    let rest = drop s.kept (take s.filled input) in
    let within : s.kept + c.args.start ≤ s.filled =
    omega (arith, c.requires.order, c.requires.within) in
    λ k buffer now before x acts.
    subst (λ new. Stands k new c.pass.new.input buffer) (sym c.pass.ensures.client)
    (acts_wait k before s.router s.holding now s.kept c.args.start c.args.end s.filled s.shown input
    c.pass.new.input buffer c.requires.hears within c.pass.ensures.same x
    (c.what_is_told_is_heard.ensures.acted k x.history before x.host now rest c.args.start
    c.args.end
    actions.Wait s.router x.run x.heard
    (subst (λ a. Acts before now rest c.args.start c.args.end a s.router) c.in-Wait.is acts)))

pub returns-in-Apply-clause-stands : goal.returns-in-Apply-clause-stands
returns-in-Apply-clause-stands c =
    let s = c.args.self.now in
    let input = c.args.input.now in
    let rest = drop s.kept (take s.filled input) in
    let order : c.args.start ≤ c.args.end = omega (arith, c.requires.order) in
    λ k buffer now before x acts.
    let apply = subst (λ a. Acts before now rest c.args.start c.args.end a s.router) c.in-Apply.is
    acts in
    subst (λ new. Stands k new input buffer) (sym c.complete.ensures.client)
    (acts_complete k before s.router s.holding c.in-Apply.since now s.kept c.complete.new.self.kept
    c.args.start c.args.end s.filled s.shown input buffer c.requires.hears order c.requires.within
    c.complete.ensures.kept apply x
    (c.what_is_told_is_heard.ensures.acted k x.history before x.host now rest c.args.start
    c.args.end
    (actions.Apply c.in-Apply.since) s.router x.run x.heard apply))

pub returns-in_default : goal.returns-in_default
returns-in_default c =
    let s = c.args.self.now in
    let input = c.args.input.now in
    let rest = drop s.kept (take s.filled input) in
    record {
      stands = λ k buffer now before x acts.
          subst (λ new. Stands k new c.forget.new.input buffer) (sym c.forget.ensures.client)
          (acts_other k before before s.router s.holding now s.kept 0 c.args.start c.args.end
          s.filled
          c.args.action.now s.shown input c.forget.new.input buffer acts x
          (c.what_is_told_is_heard.ensures.acted k x.history before x.host now rest c.args.start
          c.args.end c.args.action.now s.router x.run x.heard acts));
      left = subst (λ b. LeavesInput c.args.action.now c.args.end b
          (untold c.forget.new.self c.forget.new.input))
          (sym (untold_hearing s.holding s.kept s.filled input c.requires.hears))
          (leaves_at c.args.action.now s.kept c.args.end (take s.filled input)
          (untold c.forget.new.self c.forget.new.input) c.forget.ensures.left);
      holding = ap (λ (k : Client). k.holding) c.forget.ensures.client
          ∙ sym (holding_other c.args.action.now s.holding (c.args.end - c.args.start)
          c.in_default.not-Wait c.in_default.not-Begin c.in_default.not-Apply);
      front = ap (λ (k : Client). k.kept + due_size k.holding) c.forget.ensures.client
          ∙ sym (front_other c.args.action.now (s.kept + c.args.start) (s.kept + c.args.end)
          c.in_default.not-Wait c.in_default.not-Apply c.in_default.not-NoData);
      shown = ap (λ (k : Client). k.shown) c.forget.ensures.client;
      has = λ k h buffer now before acts x.
          subst (λ (new : Client). HostHas k (host_after k h
          (drop c.args.start (take c.args.end rest)) c.args.action.now) new.holding new.kept
          new.shown c.forget.new.input buffer) (sym c.forget.ensures.client)
          (has_other k h s.holding s.kept 0 (drop c.args.start (take c.args.end rest))
          c.args.action.now s.shown input c.forget.new.input buffer
          (unit_shows_none now c.args.start c.args.end rest c.args.action.now before s.router acts)
          x);
      stays = λ is. absurd (c.in_default.not-NoData is);
      counts = λ now before acts x.
          subst (λ m. IsKeptCount m c.forget.new.self.router c.forget.new.self.kept
          c.forget.new.input) (sym (ap (λ (k : Client). k.holding) c.forget.ensures.client)) tt;
      same = record {
        second = ap (λ (k : Client). k.second) c.forget.ensures.client;
        opened = ap (λ (k : Client). k.opened) c.forget.ensures.client;
        closed = ap (λ (k : Client). k.closed) c.forget.ensures.client;
      };
      router = ap (λ (k : Client). k.router) c.forget.ensures.client;
      unsent = ap (λ (k : Client). k.unsent) c.forget.ensures.client;
      fits = c.forget.ensures.fits;
    }

pub returns-in-NoData-clause-counts : goal.returns-in-NoData-clause-counts
returns-in-NoData-clause-counts c = λ now before acts x.
    subst (λ (new : Client). IsKeptCount new.holding new.router new.kept c.args.input.now)
    (sym c.set_aside.ensures) tt

pub returns-in-Wait-clause-counts : goal.returns-in-Wait-clause-counts
returns-in-Wait-clause-counts c = λ now before acts x.
    let s = c.args.self.now in
    let input = c.args.input.now in
    let start = c.args.start in
    let rest = drop s.kept (take s.filled input) in
    let y = subst (λ a. Acts before now rest start c.args.end a s.router) c.in-Wait.is acts in
    let within : s.kept + start ≤ s.filled = omega (arith, c.requires.order, c.requires.within) in
    subst (λ (new : Client). IsKeptCount new.holding new.router new.kept c.pass.new.input)
    (sym c.pass.ensures.client)
    (counts_there s.router s.holding (s.kept + start) input c.pass.new.input c.requires.hears
    c.pass.ensures.same
    (counts_wait y.before s.router (events.Came y.head) s.holding (s.kept + start) input y.step.rule
    (counts_more now before y.before s.holding s.kept start s.filled input c.requires.hears within
    y.kept x)))

pub returns-in-Begin-clause-counts : goal.returns-in-Begin-clause-counts
returns-in-Begin-clause-counts c = λ now before acts x.
    let s = c.args.self.now in
    let rest = drop s.kept (take s.filled c.args.input.now) in
    let y = subst (λ a. Acts before now rest c.args.start c.args.end a s.router) c.in-Begin.is
    acts in
    subst (λ (new : Client). IsKeptCount new.holding new.router new.kept c.begin.new.input)
    (sym c.begin.ensures.client) (counts_begin s.router c.begin.new.input y.step.rule.units)

pub returns-in-Apply-clause-counts : goal.returns-in-Apply-clause-counts
returns-in-Apply-clause-counts c = λ now before acts x.
    let s = c.args.self.now in
    let input = c.args.input.now in
    let start = c.args.start in
    let rest = drop s.kept (take s.filled input) in
    let y = subst (λ a. Acts before now rest start c.args.end a s.router) c.in-Apply.is acts in
    let order : start ≤ c.args.end = omega (arith, c.requires.order) in
    let within : s.kept + start ≤ s.filled = omega (arith, c.requires.order, c.requires.within) in
    subst (λ (new : Client). IsKeptCount new.holding new.router new.kept input)
    (sym c.complete.ensures.client)
    (counts_apply y.before s.router now y.head c.in-Apply.since s.holding s.kept start c.args.end
    s.filled input c.requires.hears order c.requires.within y.unit y.step
    (counts_more now before y.before s.holding s.kept start s.filled input c.requires.hears within
    y.kept x) c.complete.new.self.kept c.complete.ensures.kept)

pub returns-in-Wait-clause-has : goal.returns-in-Wait-clause-has
returns-in-Wait-clause-has c = λ k h buffer now before acts x.
    let s = c.args.self.now in
    let input = c.args.input.now in
    let start = c.args.start in
    let end = c.args.end in
    let rest = drop s.kept (take s.filled input) in
    subst (λ (new : Client). HostHas k
    (host_after k h (drop start (take end rest)) c.args.action.now)
    new.holding new.kept new.shown c.pass.new.input buffer) (sym c.pass.ensures.client)
    (subst (λ a. HostHas k (host_after k h (drop start (take end rest)) a) s.holding
    (s.kept + start) s.shown c.pass.new.input buffer) (sym c.in-Wait.is)
    (has_wait k h s.holding now s.kept start end s.filled before s.router s.shown input
    c.pass.new.input buffer c.requires.hears c.pass.ensures.same
    (subst (λ a. Acts before now rest start end a s.router) c.in-Wait.is acts) x))

pub returns-in-Begin-clause-has : goal.returns-in-Begin-clause-has
returns-in-Begin-clause-has c = λ k h buffer now before acts x.
    let s = c.args.self.now in
    let input = c.args.input.now in
    let unit = drop c.args.start (take c.args.end (drop s.kept (take s.filled input))) in
    subst (λ (new : Client). HostHas k (host_after k h unit c.args.action.now) new.holding new.kept
    new.shown c.begin.new.input buffer) (sym c.begin.ensures.client)
    (subst (λ a. HostHas k (host_after k h unit a) holdings.Units 0 s.shown
    c.begin.new.input buffer) (sym c.in-Begin.is)
    (has_begin k h s.holding s.kept unit s.shown input c.begin.new.input buffer x))

pub returns-in-Apply-clause-has : goal.returns-in-Apply-clause-has
returns-in-Apply-clause-has c = λ k h buffer now before acts x.
    let s = c.args.self.now in
    let input = c.args.input.now in
    let start = c.args.start in
    let end = c.args.end in
    let rest = drop s.kept (take s.filled input) in
    let since = c.in-Apply.since in
    let after = c.complete.new.self in
    let order : start ≤ end = omega (arith, c.requires.order) in
    subst (λ (new : Client). HostHas k
    (host_after k h (drop start (take end rest)) c.args.action.now)
    new.holding new.kept new.shown input buffer) (sym c.complete.ensures.client)
    (subst (λ a. HostHas k (host_after k h (drop start (take end rest)) a)
    (due_after s.holding (end - start) since) after.kept s.shown input buffer) (sym c.in-Apply.is)
    (has_apply k h s.holding since now s.kept after.kept start end s.filled before s.router s.shown
    input buffer c.requires.hears order c.requires.within c.complete.ensures.kept
    (subst (λ a. Acts before now rest start end a s.router) c.in-Apply.is acts) x))

pub returns-in-NoData-clause-has : goal.returns-in-NoData-clause-has
returns-in-NoData-clause-has c = λ k h buffer now before acts x.
    let s = c.args.self.now in
    let input = c.args.input.now in
    let unit = drop c.args.start (take c.args.end (drop s.kept (take s.filled input))) in
    subst (λ (new : Client). HostHas k (host_after k h unit c.args.action.now) new.holding new.kept
    new.shown input buffer) (sym c.set_aside.ensures)
    (subst (λ a. HostHas k (host_after k h unit a) holdings.Nothing (s.kept + c.args.end)
    s.shown input buffer) (sym c.in-NoData.is)
    (has_other k h s.holding s.kept (s.kept + c.args.end) unit actions.NoData s.shown input input
    buffer (λ is. cc) x))

pub returns-in-Wait-clause-front : goal.returns-in-Wait-clause-front
returns-in-Wait-clause-front c =
    let s = c.args.self.now in
    let from = s.kept + c.args.start in
    let none = due_none s.holding c.requires.hears in
    let here : from + due_size s.holding ≡ from = omega (arith, none) in
    ap (λ (k : Client). k.kept + due_size k.holding) c.pass.ensures.client ∙ here
    ∙ ap (λ a. front_at a from (s.kept + c.args.end)) (sym c.in-Wait.is)

pub returns-in-Begin-clause-front : goal.returns-in-Begin-clause-front
returns-in-Begin-clause-front c =
    let s = c.args.self.now in
    ap (λ (k : Client). k.kept + due_size k.holding) c.begin.ensures.client
    ∙ ap (λ a. front_at a (s.kept + c.args.start) (s.kept + c.args.end)) (sym c.in-Begin.is)

pub returns-in-Apply-clause-front : goal.returns-in-Apply-clause-front
returns-in-Apply-clause-front c =
    let s = c.args.self.now in
    c.complete.ensures.due
    ∙ ap (λ a. front_at a (s.kept + c.args.start) (s.kept + c.args.end)) (sym c.in-Apply.is)

pub returns-in-NoData-clause-front : goal.returns-in-NoData-clause-front
returns-in-NoData-clause-front c =
    let s = c.args.self.now in
    ap (λ (k : Client). k.kept + due_size k.holding) c.set_aside.ensures
    ∙ add-zero (s.kept + c.args.end)
    ∙ ap (λ a. front_at a (s.kept + c.args.start) (s.kept + c.args.end)) (sym c.in-NoData.is)

pub returns-in-Wait-clause-shown : goal.returns-in-Wait-clause-shown
returns-in-Wait-clause-shown c =
    ap (λ (k : Client). k.shown) c.pass.ensures.client
    ∙ ap (λ a. shown_after a c.args.self.now.shown) (sym c.in-Wait.is)

pub returns-in-Begin-clause-shown : goal.returns-in-Begin-clause-shown
returns-in-Begin-clause-shown c =
    ap (λ (k : Client). k.shown) c.begin.ensures.client
    ∙ ap (λ a. shown_after a c.args.self.now.shown) (sym c.in-Begin.is)

pub returns-in-Apply-clause-shown : goal.returns-in-Apply-clause-shown
returns-in-Apply-clause-shown c =
    ap (λ (k : Client). k.shown) c.complete.ensures.client
    ∙ ap (λ a. shown_after a c.args.self.now.shown) (sym c.in-Apply.is)

pub returns-in-NoData-clause-shown : goal.returns-in-NoData-clause-shown
returns-in-NoData-clause-shown c =
    ap (λ (k : Client). k.shown) c.set_aside.ensures
    ∙ ap (λ a. shown_after a c.args.self.now.shown) (sym c.in-NoData.is)
