use Rattle.std.proofs.Common.{[], ◌+◌, add-zero, ap, refl, subst, sym, take, ◌∙◌}
use Rattle.session_router.specs.Step.{IsStep}
use Rattle.session_client.specs.Holding.{LeavesInput, Stands, due_size, shown_after, untold}
use Rattle.session_client.specs.declared.client.Client.{Client}
use Rattle.session_client.proofs.Runs.{leaves_at, says_other, says_wait, untold_hearing}
use Rattle.session_bytes.specs.Reading.{EndsConnection}
use Rattle.session_client.specs.Counting.{IsKeptCount}
use Rattle.session_client.proofs.CountsKept.{counts_wait}
use Rattle.session_client.specs.Turning.{follows}
use Rattle.session_client.proofs.Steps.{follows_other}
use Rattle.session_client.proofs.Turns.{ends_left}
use Rattle.session_router.specs.Histories.{host_after}
use Rattle.session_client.specs.Tells.{HostHas, front_left}
use Rattle.session_client.proofs.Calls.{front_none}
use Rattle.session_client.proofs.Runs.{no_show, not_applied}
use Rattle.session_client.proofs.Takes.{has_other}
use Rattle.session_client.proofs.client.Client.follow.Goals as goal

pub returns-in-Wait-clause-holding : goal.returns-in-Wait-clause-holding
returns-in-Wait-clause-holding c =
    ap (λ a. follows a c.args.self.now.holding) (sym c.in-Wait.is)

pub returns-in-Wait-clause-ends : goal.returns-in-Wait-clause-ends
returns-in-Wait-clause-ends c = λ ends. absurd (subst EndsConnection c.in-Wait.is ends)

pub returns-in-Wait-clause-waits : goal.returns-in-Wait-clause-waits
returns-in-Wait-clause-waits c = λ is. (refl, refl)

pub returns-in-Wait-clause-stands : goal.returns-in-Wait-clause-stands
returns-in-Wait-clause-stands c =
    let s = c.args.self.now in
    λ k buffer now before e says x step.
    says_wait k before s.router s.holding now s.kept e s.shown c.args.input.now buffer says x
    (subst (λ a. IsStep before now e a s.router) c.in-Wait.is step)

pub returns-in_default : goal.returns-in_default
returns-in_default c =
    let s = c.args.self.now in
    record {
      stands = λ k buffer now before e says x step.
          subst (λ new. Stands k new c.forget.new.input buffer) (sym c.forget.ensures.client)
          (says_other k before s.router s.holding now s.kept 0 e c.args.action.now s.shown
          c.args.input.now c.forget.new.input buffer says x step);
      has = λ k h buffer now before e says step x.
          subst (λ (new : Client). HostHas k (host_after k h [] c.args.action.now) new.holding
          new.kept new.shown c.forget.new.input buffer) (sym c.forget.ensures.client)
          (has_other k h s.holding s.kept 0 [] c.args.action.now s.shown c.args.input.now
          c.forget.new.input buffer
          (no_show before now e c.args.action.now s.router (not_applied e before says) step.rule)
          x);
      left = λ hearing.
          subst (λ b. LeavesInput c.args.action.now 0 b
          (untold c.forget.new.self c.forget.new.input))
          (sym (untold_hearing s.holding s.kept s.filled c.args.input.now hearing))
          (leaves_at c.args.action.now s.kept 0 (take s.filled c.args.input.now)
          (untold c.forget.new.self c.forget.new.input)
          (subst (λ n. LeavesInput c.args.action.now n (take s.filled c.args.input.now)
          (untold c.forget.new.self c.forget.new.input)) (sym (add-zero s.kept))
          c.forget.ensures.left));
      holding = ap (λ (k : Client). k.holding) c.forget.ensures.client
          ∙ sym (follows_other c.args.action.now s.holding c.in_default.not-Wait);
      counts = λ now before e step x.
          subst (λ m. IsKeptCount m c.forget.new.self.router c.forget.new.self.kept
          c.forget.new.input) (sym (ap (λ (k : Client). k.holding) c.forget.ensures.client)) tt;
      front = ap (λ (k : Client). k.kept + due_size k.holding) c.forget.ensures.client
          ∙ sym (front_none c.args.action.now (s.kept + due_size s.holding) c.in_default.not-Wait);
      shown = ap (λ (k : Client). k.shown) c.forget.ensures.client;
      ends = λ ends. ends_left c.args.action.now s.kept (take s.filled c.args.input.now)
          (untold c.forget.new.self c.forget.new.input) ends c.forget.ensures.left;
      waits = λ is. absurd (c.in_default.not-Wait is);
      same = record {
        second = ap (λ (k : Client). k.second) c.forget.ensures.client;
        opened = ap (λ (k : Client). k.opened) c.forget.ensures.client;
        closed = ap (λ (k : Client). k.closed) c.forget.ensures.client;
      };
      router = ap (λ (k : Client). k.router) c.forget.ensures.client;
      unsent = ap (λ (k : Client). k.unsent) c.forget.ensures.client;
      fits = c.forget.ensures.fits;
    }

pub returns-in-Wait-clause-counts : goal.returns-in-Wait-clause-counts
returns-in-Wait-clause-counts c = λ now before e step x.
    let s = c.args.self.now in
    counts_wait before s.router e s.holding s.kept c.args.input.now
    (subst (λ a. IsStep before now e a s.router) c.in-Wait.is step).rule x

pub returns-in-Wait-clause-has : goal.returns-in-Wait-clause-has
returns-in-Wait-clause-has c = λ k h buffer now before e says step x.
    let s = c.args.self.now in
    subst (λ a. HostHas k (host_after k h [] a) s.holding s.kept s.shown c.args.input.now buffer)
    (sym c.in-Wait.is) x

pub returns-in-Wait-clause-front : goal.returns-in-Wait-clause-front
returns-in-Wait-clause-front c =
    let s = c.args.self.now in
    ap (λ a. front_left a (s.kept + due_size s.holding)) (sym c.in-Wait.is)

pub returns-in-Wait-clause-shown : goal.returns-in-Wait-clause-shown
returns-in-Wait-clause-shown c =
    ap (λ a. shown_after a c.args.self.now.shown) (sym c.in-Wait.is)
