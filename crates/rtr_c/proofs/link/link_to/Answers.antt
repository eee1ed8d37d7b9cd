use native.Mathlib.Omega.{arith}
use Rattle.std.proofs.Common.{◌≤◌, ◌+◌, refl}
use Rattle.rtr_c.specs.declared.link.RtrLink.{RtrLink}
use Rattle.rtr_c.proofs.Links.{begun_when, suits_both}
use Rattle.rtr_c.proofs.link.link_to.Goals as goal

pub returns-clause-begun : goal.returns-clause-begun
returns-clause-begun c = λ step within.
    let k = c.args.client.now in
    let held : k.kept + c.holding_to-holding.result.1 ≤ k.filled =
    omega (arith, within, c.holding_to-holding.ensures.size) in
    let l : RtrLink = record {
      settings = c.router_to-router.result.settings;
      expires = c.router_to-router.result.expires;
      came = c.router_to-router.result.came;
      asked = c.router_to-router.result.asked;
      tried = c.router_to-router.result.tried;
      due = c.router_to-router.result.due;
      rises = c.router_to-router.result.rises;
      bytes = c.router_to-router.result.bytes;
      latest = c.args.latest;
      received = c.args.received;
      kept = k.kept;
      end_size = c.holding_to-holding.result.1;
      filled = k.filled;
      shown = c.unwrap_or.result;
      unsent = k.unsent;
      known = c.router_to-router.result.known;
      answer = c.router_to-router.result.answer;
      wait = c.router_to-router.result.wait;
      rise_wait = c.router_to-router.result.rise_wait;
      units = c.router_to-router.result.units;
      note = c.router_to-router.result.note;
      mark = 1280461387;
      session = c.router_to-router.result.session;
      phase = c.router_to-router.result.phase;
      version = c.router_to-router.result.version;
      floor = c.router_to-router.result.floor;
      agreed = c.flag_to.result;
      fell = c.flag_to-2.result;
      silent = c.flag_to-3.result;
      changes = c.flag_to-4.result;
      resync = c.flag_to-5.result;
      answered = c.flag_to-6.result;
      noted = c.flag_to-7.result;
      has_data = c.flag_to-8.result;
      holding = c.holding_to-holding.result.0;
      since = c.holding_to-holding.result.2;
      shows = c.flag_to-9.result;
      second = c.flag_to-10.result;
      opened = c.flag_to-11.result;
      closed = c.flag_to-12.result;
    } in
    begun_when l refl
    (suits_both k.router.phase k.holding c.router_to-router.result.phase
    c.holding_to-holding.result.0 c.router_to-router.ensures.phase
    c.holding_to-holding.ensures.number step)
    held c.flag_to.ensures.most c.flag_to-2.ensures.most c.flag_to-3.ensures.most
    c.flag_to-4.ensures.most c.flag_to-5.ensures.most c.flag_to-6.ensures.most
    c.flag_to-7.ensures.most c.flag_to-8.ensures.most c.holding_to-holding.ensures.most
    c.flag_to-9.ensures.most c.flag_to-10.ensures.most c.flag_to-11.ensures.most
    c.flag_to-12.ensures.most
