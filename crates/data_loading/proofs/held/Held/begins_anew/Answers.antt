use Rattle.std.proofs.Common.{sym, ap, ◌∙◌}
use Rattle.std.specs.Prelude.{◌||◌}
use Rattle.data_recordings.specs.Recordings.{is_other, last_session}
use Rattle.data_loading.specs.PrivateLoading.{so_much}
use Rattle.data_loading.proofs.held.Held.begins_anew.Goals as goal

pub returns-else-is_wanted : goal.returns-else-is_wanted
returns-else-is_wanted c = λ d.
    c.is_other.ensures ∙ ap (λ x. is_other x c.args.session) (c.last_session.ensures d)
    ∙ ap (λ b. b || is_other (last_session (so_much c.args.self.now d)) c.args.session)
    (sym c.if-is_wanted.false ∙ c.is_wanted.ensures d)
