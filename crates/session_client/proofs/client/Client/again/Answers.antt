use Rattle.std.proofs.Common.{◌∙◌, ap, sym, []}
use Rattle.session_router.specs.Histories.{empty_host}
use Rattle.session_router.specs.Histories.IsHistory.{run_begins}
use Rattle.session_router.specs.declared.router.Router.{Router}
use Rattle.session_client.proofs.client.Client.again.Goals as goal

pub returns-clause-serves : goal.returns-clause-serves
returns-clause-serves c =
    let is = c.again.ensures in
    λ input buffer. record {
      made = [];
      were = tt;
      counts = tt;
      stands = λ k settings makes. record {
        history = [];
        host = empty_host;
        run = run_begins c.again.result (record {
          settings = ap (λ (r : Router). r.settings) is ∙ sym settings;
          phase = ap (λ (r : Router). r.phase) is;
          has_data = ap (λ (r : Router). r.has_data) is;
          due = ap (λ (r : Router). r.due) is;
          asked = ap (λ (r : Router). r.asked) is;
          rises = ap (λ (r : Router). r.rises) is;
          fell = ap (λ (r : Router). r.fell) is;
        });
        heard = tt;
        shows = tt;
        holds = tt;
      };
    }
