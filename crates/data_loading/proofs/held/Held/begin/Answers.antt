use Rattle.std.proofs.Common.{sym, ◌∙◌}
use Rattle.data_loading.proofs.Beginning.{begun_anew, begun_onto}
use Rattle.data_loading.proofs.held.Held.begin.Goals as goal

pub returns-then-begins_anew : goal.returns-then-begins_anew
returns-then-begins_anew c = λ d.
    begun_anew c.args.self.now d c.args.session c.is_wanted-has_all.result
    (c.is_wanted-has_all.ensures d)
    (sym (c.begins_anew.ensures d) ∙ c.if-begins_anew.true)

pub returns : goal.returns
returns c = λ d.
    begun_onto c.args.self.now d c.args.session c.is_wanted-has_all.result
    (c.is_wanted-has_all.ensures d)
    c.last_version.result c.last_serial.result
    (sym (c.begins_anew.ensures d) ∙ c.if-begins_anew.false) c.last_version.ensures
    (c.last_serial.ensures d)
