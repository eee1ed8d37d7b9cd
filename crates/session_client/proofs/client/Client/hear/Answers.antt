use native.Mathlib.Omega.{arith}
use Rattle.std.proofs.Common.{◌∙◌, [], ap, inl, inr, refl, subst, sym, drop, take, ◌+◌, None}
use Rattle.std.proofs.Common.{◌<◌, ◌≡◌, ◌-◌, ◌∷◌, ◌++◌, length}
use Rattle.unit_views.specs.declared.fault.ViewFault.TheVariants.{Short}
use Rattle.unit_any.specs.SessionViews.{IsSessionFault}
use Rattle.session_bytes.specs.Reading.KeepsAll.{kept_none}
use Rattle.session_client.proofs.Pieces.{said}
use Rattle.session_router.specs.declared.event.Event.TheVariants as events
use Rattle.session_bytes.specs.Reading.{Acts, HearsRefused, KeepsUnits, fault_of}
use Rattle.session_bytes.specs.declared.telling.Told.TheVariants as told
use Rattle.session_client.specs.declared.client.Client.{Client}
use Rattle.session_client.specs.Holding.{IsHearing, LeavesInput, RunsBeside, due_size, shown_after}
use Rattle.session_client.specs.Holding.{untold}
use Rattle.session_client.specs.Counting.{IsKeptCount}
use Rattle.session_client.proofs.Calls.{size_after}
use Rattle.session_client.proofs.CountsKept.{counts_more}
use Rattle.session_client.specs.Over.{IfActs, IsOver, none_of, over_of, over_refused, over_unit}
use Rattle.session_client.specs.Said.{PutsBehind, bytes_of, left_at}
use Rattle.session_client.specs.Turning.{InPhase, follows, holding_after, turns_left}
use Rattle.session_client.proofs.Overs.{ends_over}
use Rattle.session_client.proofs.Runs.{due_none, inside, keeps_more, untold_hearing}
use Rattle.session_client.proofs.Steps.{acts_in_step, none_itself, same_kept, stays_in, step_itself}
use Rattle.session_client.proofs.Steps.{turns_same}
use Rattle.session_client.proofs.Turns.{acted_turns, kept_turns, refused_turns}
use Rattle.session_router.specs.Step.{IsStep}
use Rattle.session_router.specs.declared.event.Action.TheVariants as actions
use Rattle.session_router.specs.declared.router.Router.{Router}
use Rattle.session_router.specs.Histories.{host_after}
use Rattle.session_client.specs.Makings.{Octets}
use Rattle.session_client.specs.Tells.{HostHas, TakesCall, TakesFrom, front_at, front_left}
use Rattle.session_client.specs.Tells.{of_bytes}
use Rattle.session_client.specs.Words.{IsOfInput}
use Rattle.session_client.proofs.Takes.{has_kept, kept_left, takes_none}
use Rattle.session_client.proofs.client.Client.hear.Goals as goal

pub returns-in-Kept-clause-stands : goal.returns-in-Kept-clause-stands
returns-in-Kept-clause-stands c =
    let s = c.args.self.now in
    let input = c.args.input.now in
    let after = c.told.new.self.router in
    let size = c.in-Kept.size in
    let rest = drop s.kept (take s.filled input) in
    let heard = c.in-Kept.ensures.hears in
    λ k buffer x.
    subst (λ new. RunsBeside k after new.holding (new.kept + size) new.shown input buffer)
    (sym c.told.ensures.same)
    (keeps_more k s.router after s.holding s.kept size s.filled s.shown input buffer
    c.requires.hears
    (inside input s.kept size s.filled c.requires.fits.kept c.requires.fits.filled heard.within) x
    (c.what_is_told_is_heard.ensures.kept k x.history s.router x.host c.args.now (take size rest)
    after x.run x.heard heard.kept))

pub returns-in-Acted-clause-stands : goal.returns-in-Acted-clause-stands
returns-in-Acted-clause-stands c =
    let s = c.args.self.now in
    let input = c.args.input.now in
    λ k buffer x.
    c.act.ensures.stands k buffer c.args.now s.router
    (subst (λ new. RunsBeside k s.router new.holding new.kept new.shown input buffer)
    (sym c.told.ensures.same) x)
    (subst (λ new. Acts s.router c.args.now (drop new.kept (take new.filled input)) c.in-Acted.start
    c.in-Acted.end c.in-Acted.action c.told.new.self.router) (sym c.told.ensures.same)
    c.in-Acted.ensures.hears)

pub returns-in-Refused-clause-stands : goal.returns-in-Refused-clause-stands
returns-in-Refused-clause-stands c =
    let s = c.args.self.now in
    let input = c.args.input.now in
    let rest = drop s.kept (take s.filled input) in
    λ k buffer x.
    c.follow.ensures.stands k buffer c.args.now s.router
    (events.Faulty (fault_of rest c.in-Refused.fault)) tt
    (subst (λ new. RunsBeside k s.router new.holding new.kept new.shown input buffer)
    (sym c.told.ensures.same) x)
    c.in-Refused.ensures.hears.step

pub returns-in-Acted-clause-hears : goal.returns-in-Acted-clause-hears
returns-in-Acted-clause-hears c =
    let s = c.args.self.now in
    let input = c.args.input.now in
    let x = c.in-Acted in
    let after = c.act.new.self in
    record {
      told = told.Acted x.start x.end x.action;
      hears = subst (λ b. Acts s.router c.args.now b x.start x.end x.action after.router)
          (sym (untold_hearing s.holding s.kept s.filled input c.requires.hears))
          (subst (λ r. Acts s.router c.args.now (drop s.kept (take s.filled input)) x.start x.end
          x.action r) (sym c.act.ensures.router) x.ensures.hears);
      leaves = subst
          (λ (new : Client). LeavesInput x.action x.end (untold new input) (untold after
          c.act.new.input))
          c.told.ensures.same c.act.ensures.left;
    }

pub returns-in-Refused-clause-hears : goal.returns-in-Refused-clause-hears
returns-in-Refused-clause-hears c =
    let s = c.args.self.now in
    let input = c.args.input.now in
    let x = c.in-Refused in
    let after = c.follow.new.self in
    record {
      told = told.Refused x.fault x.action;
      hears = subst (λ b. HearsRefused s.router c.args.now b c.args.closed x.fault x.action
          after.router)
          (sym (untold_hearing s.holding s.kept s.filled input c.requires.hears))
          (subst (λ r. HearsRefused s.router c.args.now (drop s.kept (take s.filled input))
          c.args.closed x.fault x.action r) (sym c.follow.ensures.router) x.ensures.hears);
      leaves = subst
          (λ (new : Client). LeavesInput x.action 0 (untold new input) (untold after
          c.follow.new.input))
          c.told.ensures.same
          (c.follow.ensures.left
          (subst (λ (new : Client). IsHearing new.holding) (sym c.told.ensures.same)
          c.requires.hears));
    }

pub returns-in-Awaits-clause-awaits : goal.returns-in-Awaits-clause-awaits
returns-in-Awaits-clause-awaits c = λ is.
    let s = c.args.self.now in
    let h = c.in-Awaits.ensures.hears in
    let same = untold_hearing s.holding s.kept s.filled c.args.input.now c.requires.hears in
    record {
      same = refl;
      size = h.size;
      short = subst (λ b. IsSessionFault b Short h.size) (sym same) h.short;
      none_left = λ ended. same ∙ h.none_left ended;
    }

pub returns-in-Awaits-clause-rests : goal.returns-in-Awaits-clause-rests
returns-in-Awaits-clause-rests c = λ is.
    let s = c.args.self.now in (
      c.told.ensures.same ∙ (λ i. record s { router = c.in-Awaits.ensures.hears.same i }),
      refl,
    )

pub returns-in-Awaits-clause-turns : goal.returns-in-Awaits-clause-turns
returns-in-Awaits-clause-turns c = λ talks acts. absurd (acts tt)

pub returns-in-Awaits-clause-step : goal.returns-in-Awaits-clause-step
returns-in-Awaits-clause-step c =
    let s = c.args.self.now in
    subst (λ (new : Client). InPhase c.told.new.self.router.phase new.holding)
    (sym c.told.ensures.same)
    (subst (λ (r : Router). InPhase r.phase s.holding) (sym c.in-Awaits.ensures.hears.same)
    c.requires.step)

pub returns-in-Kept-clause-step : goal.returns-in-Kept-clause-step
returns-in-Kept-clause-step c =
    let s = c.args.self.now in
    let after = c.told.new.self.router in
    let size = c.in-Kept.size in
    let rest = drop s.kept (take s.filled c.args.input.now) in
    subst (λ (new : Client). InPhase after.phase new.holding) (sym c.told.ensures.same)
    (stays_in s.router after s.holding
    (same_kept c.args.now s.router (take size rest) after c.in-Kept.ensures.hears.kept).0
    c.requires.step)

pub returns-in-Kept-clause-turns : goal.returns-in-Kept-clause-turns
returns-in-Kept-clause-turns c = λ talks acts.
    let s = c.args.self.now in
    let input = c.args.input.now in
    let after = c.told.new.self.router in
    let size = c.in-Kept.size in
    let heard = c.in-Kept.ensures.hears in
    let rest = drop s.kept (take s.filled input) in
    let kept = same_kept c.args.now s.router (take size rest) after heard.kept in
    subst (λ (new : Client).
    turns_left (record new { router = after; kept = new.kept + size }) input < turns_left s input)
    (sym c.told.ensures.same)
    (kept_turns s after size input c.requires.hears heard.some heard.within
    (turns_same s.router after kept.0 kept.1))

pub returns-in-Acted-clause-step : goal.returns-in-Acted-clause-step
returns-in-Acted-clause-step c =
    let s = c.args.self.now in
    let x = c.in-Acted in
    let rest = drop s.kept (take s.filled c.args.input.now) in
    let size = x.end - x.start in
    let holding = c.act.ensures.holding
    ∙ ap (λ (k : Client). holding_after x.action k.holding size) c.told.ensures.same in
    subst (λ m. InPhase c.act.new.self.router.phase m) (sym holding)
    (subst (λ (r : Router). InPhase r.phase (holding_after x.action s.holding size))
    (sym c.act.ensures.router)
    (acts_in_step s.router c.args.now rest x.start x.end size x.action c.told.new.self.router
    s.holding x.ensures.hears c.requires.step))

pub returns-in-Acted-clause-turns : goal.returns-in-Acted-clause-turns
returns-in-Acted-clause-turns c = λ talks acts.
    let s = c.args.self.now in
    let input = c.args.input.now in
    let x = c.in-Acted in
    let after = c.act.new.self in
    acted_turns s after input c.act.new.input c.args.now x.start x.end x.action
    c.told.new.self.router c.requires.hears x.ensures.hears
    (subst (λ (new : Client). LeavesInput x.action x.end (untold new input) (untold after
    c.act.new.input)) c.told.ensures.same c.act.ensures.left)
    c.act.ensures.router
    (c.act.ensures.same.opened ∙ ap (λ (k : Client). k.opened) c.told.ensures.same)
    (c.act.ensures.same.closed ∙ ap (λ (k : Client). k.closed) c.told.ensures.same)

pub returns-in-Acted-clause-names : goal.returns-in-Acted-clause-names
returns-in-Acted-clause-names c = λ held.
    let s = c.args.self.now in
    let input = c.args.input.now in
    let output = c.args.output.now in
    let now = c.args.now in
    let x = c.in-Acted in
    let told = c.told.new.self in
    let after = c.act.new.self in
    let rest = drop s.kept (take s.filled input) in
    let about = drop (s.kept + x.start) (take s.filled input) in
    let about_is = c.part-about.ensures
    ∙ ap (λ (k : Client). drop (k.kept + x.start) (take k.filled input)) c.told.ensures.same in
    let unsent = ap (λ (k : Client). k.unsent) c.told.ensures.same in
    subst (λ (new : Client). IfActs x.action None (new.kept + x.start)
    (over_of now s input held after output c.put.new.output)
    (none_of now s input after c.act.new.input)) (sym c.told.ensures.same) (record {
      ends = λ y is.
          ends_over now s.router told.router after.router s.holding s.kept s.filled s.shown input
          held s.unsent told.unsent c.put.new.unsent after.unsent output c.put.new.output x.action
          None (s.kept + x.start) about y is
          (over_unit x.start x.end
          (subst (λ a. Acts s.router now rest x.start x.end a told.router) is x.ensures.hears))
          (subst (λ b. PutsBehind (bytes_of told.router.version x.action None b)
          (left_at x.action told.unsent) c.put.new.unsent output c.put.new.output) about_is
          c.put.ensures.puts)
          unsent c.act.ensures.unsent c.act.ensures.router;
      none = λ is. record {
        start = x.start;
        end = x.end;
        acts = subst (λ r. Acts s.router now rest x.start x.end actions.NoData r)
            (sym c.act.ensures.router)
            (subst (λ a. Acts s.router now rest x.start x.end a told.router) is x.ensures.hears);
        offset_is = refl;
        stays = c.act.ensures.stays is;
      };
    })

pub returns-in-Refused-clause-step : goal.returns-in-Refused-clause-step
returns-in-Refused-clause-step c =
    let s = c.args.self.now in
    let x = c.in-Refused in
    let rest = drop s.kept (take s.filled c.args.input.now) in
    let holding = c.follow.ensures.holding
    ∙ ap (λ (k : Client). follows x.action k.holding) c.told.ensures.same in
    subst (λ m. InPhase c.follow.new.self.router.phase m) (sym holding)
    (subst (λ (r : Router). InPhase r.phase (follows x.action s.holding))
    (sym c.follow.ensures.router)
    (step_itself s.router c.told.new.self.router c.args.now (events.Faulty (fault_of rest x.fault))
    x.action s.holding tt x.ensures.hears.step.rule c.requires.step))

pub returns-in-Refused-clause-turns : goal.returns-in-Refused-clause-turns
returns-in-Refused-clause-turns c = λ talks acts.
    let s = c.args.self.now in
    let input = c.args.input.now in
    let x = c.in-Refused in
    let after = c.follow.new.self in
    refused_turns s after input c.follow.new.input c.args.now c.args.closed x.fault x.action
    c.told.new.self.router c.requires.hears talks x.ensures.hears
    (subst (λ (new : Client). LeavesInput x.action 0 (untold new input) (untold after
    c.follow.new.input)) c.told.ensures.same
    (c.follow.ensures.left
    (subst (λ (new : Client). IsHearing new.holding) (sym c.told.ensures.same) c.requires.hears)))
    (c.follow.ensures.holding
    ∙ ap (λ (k : Client). follows x.action k.holding) c.told.ensures.same)
    c.follow.ensures.router
    (c.follow.ensures.same.opened ∙ ap (λ (k : Client). k.opened) c.told.ensures.same)
    (c.follow.ensures.same.closed ∙ ap (λ (k : Client). k.closed) c.told.ensures.same)

pub returns-in-Refused-clause-names : goal.returns-in-Refused-clause-names
returns-in-Refused-clause-names c = λ held.
    let s = c.args.self.now in
    let input = c.args.input.now in
    let output = c.args.output.now in
    let now = c.args.now in
    let x = c.in-Refused in
    let told = c.told.new.self in
    let after = c.follow.new.self in
    let rest = drop s.kept (take s.filled input) in
    let refusal = c.of-refusal.result in
    let about_is = c.part-about-in-Refused.ensures
    ∙ ap (λ (k : Client). drop k.kept (take k.filled input)) c.told.ensures.same in
    let unsent = ap (λ (k : Client). k.unsent) c.told.ensures.same in
    subst (λ (new : Client). IfActs x.action refusal new.kept
    (over_of now s input held after output c.put-in-Refused.new.output)
    (none_of now s input after c.follow.new.input)) (sym c.told.ensures.same) (record {
      ends = λ y is.
          ends_over now s.router told.router after.router s.holding s.kept s.filled s.shown input
          held s.unsent told.unsent c.put-in-Refused.new.unsent after.unsent output
          c.put-in-Refused.new.output x.action refusal s.kept rest y is
          (subst (λ o. IsOver now s.router s.holding s.kept s.filled s.shown input held y
          told.router o s.kept rest) (sym c.of-refusal.ensures)
          (over_refused c.args.closed x.fault
          (subst (λ a. HearsRefused s.router now rest c.args.closed x.fault a told.router) is
          x.ensures.hears)))
          (subst (λ b. PutsBehind (bytes_of told.router.version x.action refusal b)
          (left_at x.action told.unsent) c.put-in-Refused.new.unsent output
          c.put-in-Refused.new.output) about_is c.put-in-Refused.ensures.puts)
          unsent c.follow.ensures.unsent c.follow.ensures.router;
      none = λ is. absurd (none_itself s.router told.router now
          (events.Faulty (fault_of rest x.fault)) tt
          (subst (λ a. IsStep s.router now (events.Faulty (fault_of rest x.fault)) a told.router) is
          x.ensures.hears.step).rule);
    })

pub returns-in-Awaits-clause-did : goal.returns-in-Awaits-clause-did
returns-in-Awaits-clause-did c = (
  inl c.in-Awaits.ensures.hears.same,
  ap (λ (k : Client). k.unsent) c.told.ensures.same,
  refl,
)

pub returns-in-Kept-clause-did : goal.returns-in-Kept-clause-did
returns-in-Kept-clause-did c =
    let s = c.args.self.now in (
      inr (record {
        units = take c.in-Kept.size (drop s.kept (take s.filled c.args.input.now));
        kept = c.in-Kept.ensures.hears.kept;
      }),
      ap (λ (k : Client). k.unsent) c.told.ensures.same,
      refl,
    )

pub returns-in-Acted-clause-did : goal.returns-in-Acted-clause-did
returns-in-Acted-clause-did c =
    let s = c.args.self.now in
    let x = c.in-Acted in
    let rest = drop s.kept (take s.filled c.args.input.now) in
    said c.args.now s.router (take x.start rest) x.ensures.hears.before c.told.new.self.router
    c.act.new.self.router (events.Came x.ensures.hears.head) x.action None _ s.unsent
    c.told.new.self.unsent c.put.new.unsent c.act.new.self.unsent c.args.output.now
    c.put.new.output x.ensures.hears.kept x.ensures.hears.step c.put.ensures.puts
    (ap (λ (k : Client). k.unsent) c.told.ensures.same) c.act.ensures.unsent c.act.ensures.router

pub returns-in-Refused-clause-did : goal.returns-in-Refused-clause-did
returns-in-Refused-clause-did c =
    let s = c.args.self.now in
    let x = c.in-Refused in
    let rest = drop s.kept (take s.filled c.args.input.now) in
    said c.args.now s.router [] s.router c.told.new.self.router c.follow.new.self.router
    (events.Faulty (fault_of rest x.fault)) x.action c.of-refusal.result _ s.unsent
    c.told.new.self.unsent c.put-in-Refused.new.unsent c.follow.new.self.unsent
    c.args.output.now c.put-in-Refused.new.output (kept_none s.router) x.ensures.hears.step
    c.put-in-Refused.ensures.puts (ap (λ (k : Client). k.unsent) c.told.ensures.same)
    c.follow.ensures.unsent c.follow.ensures.router

pub returns-in-Awaits-clause-counts : goal.returns-in-Awaits-clause-counts
returns-in-Awaits-clause-counts c = λ x.
    let s = c.args.self.now in
    let input = c.args.input.now in
    subst (λ (new : Client). IsKeptCount new.holding c.told.new.self.router new.kept input)
    (sym c.told.ensures.same)
    (subst (λ (r : Router). IsKeptCount s.holding r s.kept input)
    (sym c.in-Awaits.ensures.hears.same) x)

pub returns-in-Kept-clause-counts : goal.returns-in-Kept-clause-counts
returns-in-Kept-clause-counts c = λ x.
    let s = c.args.self.now in
    let input = c.args.input.now in
    let after = c.told.new.self.router in
    let size = c.in-Kept.size in
    let heard = c.in-Kept.ensures.hears in
    subst (λ (new : Client). IsKeptCount new.holding after (new.kept + size) input)
    (sym c.told.ensures.same)
    (counts_more c.args.now s.router after s.holding s.kept size s.filled input c.requires.hears
    (inside input s.kept size s.filled c.requires.fits.kept c.requires.fits.filled heard.within)
    heard.kept x)

pub returns-in-Acted-clause-counts : goal.returns-in-Acted-clause-counts
returns-in-Acted-clause-counts c = λ x.
    let s = c.args.self.now in
    let input = c.args.input.now in
    let u = c.in-Acted in
    c.act.ensures.counts c.args.now s.router
    (subst (λ (new : Client). Acts s.router c.args.now (drop new.kept (take new.filled input))
    u.start u.end u.action c.told.new.self.router) (sym c.told.ensures.same) u.ensures.hears)
    (subst (λ (new : Client). IsKeptCount new.holding s.router new.kept input)
    (sym c.told.ensures.same) x)

pub returns-in-Refused-clause-counts : goal.returns-in-Refused-clause-counts
returns-in-Refused-clause-counts c = λ x.
    let s = c.args.self.now in
    let input = c.args.input.now in
    let rest = drop s.kept (take s.filled input) in
    c.follow.ensures.counts c.args.now s.router
    (events.Faulty (fault_of rest c.in-Refused.fault)) c.in-Refused.ensures.hears.step
    (subst (λ (new : Client). IsKeptCount new.holding s.router new.kept input)
    (sym c.told.ensures.same) x)

pub returns-in-Awaits-clause-takes : goal.returns-in-Awaits-clause-takes
returns-in-Awaits-clause-takes c = λ held.
    let s = c.args.self.now in
    let input = c.args.input.now in (
      subst (λ (new : Client). TakesCall None c.args.now s input held new input held)
          (sym (returns-in-Awaits-clause-rests c tt).0)
          (takes_none c.args.now s.router s.holding s.kept s.filled s.shown input held),
      λ acts. absurd (acts tt),
    )

pub returns-in-Kept-clause-takes : goal.returns-in-Kept-clause-takes
returns-in-Kept-clause-takes c = λ held.
    let s = c.args.self.now in
    let input = c.args.input.now in
    let after = c.told.new.self.router in
    let size = c.in-Kept.size in
    let heard = c.in-Kept.ensures.hears in
    let here = untold_hearing s.holding s.kept s.filled input c.requires.hears in
    let within =
    inside input s.kept size s.filled c.requires.fits.kept c.requires.fits.filled heard.within in
    let takes : TakesFrom None c.args.now s.router s.holding s.kept s.filled s.shown input held
    after s.holding (s.kept + size) s.filled s.shown input held = record {
      word = of_bytes c.args.closed (told.Kept size);
      is_told = (
        refl,
        subst (λ b. KeepsUnits s.router c.args.now b size after) (sym here) heard,
        kept_left s.holding s.kept size s.filled input c.requires.hears,
      );
      front = omega arith;
      size = refl;
      made = [];
      were = tt;
      says = λ k h makes x. tt;
      has = λ k h makes x.
          subst (λ (b : Octets). HostHas k (record {
            kept = h.kept ++ take size b ∷ [];
            made = h.made;
            shown = h.shown;
          }) s.holding (s.kept + size) s.shown input held) (sym here)
          (has_kept k h s.holding s.kept size s.filled s.shown input held c.requires.hears within
          x);
    } in
    subst (λ (new : Client). (x : TakesCall None c.args.now s input held
    (record new { router = after; kept = new.kept + size }) input held)
    × ((⊥ → ⊥) → IsOfInput c.args.closed x.word))
    (sym c.told.ensures.same) (takes, λ acts. refl)

pub returns-in-Acted-clause-takes : goal.returns-in-Acted-clause-takes
unfolding returns-in-Acted-clause-hears
returns-in-Acted-clause-takes c = λ held.
    let s = c.args.self.now in
    let input = c.args.input.now in
    let x = c.in-Acted in
    let after = c.act.new.self in
    let heard = returns-in-Acted-clause-hears c in
    let here = untold_hearing s.holding s.kept s.filled input c.requires.hears in
    let rest = drop s.kept (take s.filled input) in
    let none = due_none s.holding c.requires.hears in
    let at : s.kept ≡ s.kept + due_size s.holding = omega (arith, none) in (
      record {
        word = of_bytes c.args.closed (told.Acted x.start x.end x.action);
        is_told = (refl, heard.hears, heard.leaves);
        front = subst (λ n. after.kept + due_size after.holding
            ≡ front_at x.action (n + x.start) (n + x.end)) at
            (subst (λ (new : Client). after.kept + due_size after.holding
            ≡ front_at x.action (new.kept + x.start) (new.kept + x.end)) c.told.ensures.same
            c.act.ensures.front);
        size = size_after x.action s.shown after.shown
            (c.act.ensures.shown ∙ ap (λ (k : Client). shown_after x.action k.shown)
            c.told.ensures.same);
        made = [];
        were = tt;
        says = λ k h makes y. tt;
        has = λ k h makes y.
            subst (λ (b : Octets). HostHas k (host_after k h (drop x.start (take x.end b)) x.action)
            after.holding after.kept after.shown c.act.new.input held) (sym here)
            (subst (λ (new : Client). HostHas k (host_after k h
            (drop x.start (take x.end (drop new.kept (take new.filled input)))) x.action)
            after.holding after.kept after.shown c.act.new.input held) c.told.ensures.same
            (c.act.ensures.has k h held c.args.now s.router
            (subst (λ (new : Client). Acts s.router c.args.now
            (drop new.kept (take new.filled input)) x.start x.end x.action
            c.told.new.self.router) (sym c.told.ensures.same) x.ensures.hears)
            (subst (λ (new : Client). HostHas k h new.holding new.kept new.shown input held)
            (sym c.told.ensures.same) y)));
      },
      λ acts. refl,
    )

pub returns-in-Refused-clause-takes : goal.returns-in-Refused-clause-takes
unfolding returns-in-Refused-clause-hears
returns-in-Refused-clause-takes c = λ held.
    let s = c.args.self.now in
    let input = c.args.input.now in
    let x = c.in-Refused in
    let after = c.follow.new.self in
    let heard = returns-in-Refused-clause-hears c in
    let rest = drop s.kept (take s.filled input) in (
      record {
        word = of_bytes c.args.closed (told.Refused x.fault x.action);
        is_told = (refl, heard.hears, heard.leaves);
        front = subst (λ (new : Client). after.kept + due_size after.holding
            ≡ front_left x.action (new.kept + due_size new.holding)) c.told.ensures.same
            c.follow.ensures.front;
        size = size_after x.action s.shown after.shown
            (c.follow.ensures.shown ∙ ap (λ (k : Client). shown_after x.action k.shown)
            c.told.ensures.same);
        made = [];
        were = tt;
        says = λ k h makes y. tt;
        has = λ k h makes y.
            c.follow.ensures.has k h held c.args.now s.router
            (events.Faulty (fault_of rest x.fault)) tt x.ensures.hears.step
            (subst (λ (new : Client). HostHas k h new.holding new.kept new.shown input held)
            (sym c.told.ensures.same) y);
      },
      λ acts. refl,
    )

pub returns-in-Awaits-clause-some : goal.returns-in-Awaits-clause-some
returns-in-Awaits-clause-some c = λ acts. absurd (acts tt)

pub returns-in-Kept-clause-some : goal.returns-in-Kept-clause-some
returns-in-Kept-clause-some c = λ acts.
    let s = c.args.self.now in
    let heard = c.in-Kept.ensures.hears in
    subst (λ b. 0 < length b)
    (sym (untold_hearing s.holding s.kept s.filled c.args.input.now c.requires.hears))
    (omega (arith, heard.some, heard.within))

pub returns-in-Acted-clause-some : goal.returns-in-Acted-clause-some
returns-in-Acted-clause-some c = λ acts.
    let s = c.args.self.now in
    let heard = c.in-Acted.ensures.hears in
    subst (λ b. 0 < length b)
    (sym (untold_hearing s.holding s.kept s.filled c.args.input.now c.requires.hears))
    (omega (arith, heard.order, heard.within))

pub returns-in-Refused-clause-some : goal.returns-in-Refused-clause-some
returns-in-Refused-clause-some c = λ acts.
    let s = c.args.self.now in
    subst (λ b. 0 < length b)
    (sym (untold_hearing s.holding s.kept s.filled c.args.input.now c.requires.hears))
    c.in-Refused.ensures.hears.some
