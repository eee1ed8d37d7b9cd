use Rattle.std.proofs.Common.{None, Some, sym, ap, ◌∙◌}
use Rattle.json.specs.Value.{value_view}
use Rattle.make_work.specs.JsonPayloads.{AreTopPayloads}
use Rattle.make_work.specs.MakeWords.{ignored_by_words}
use Rattle.make_work.proofs.ByNames.{top_by, unknown}
use Rattle.make_work.proofs.JsonSoFar.{nothing, top_ignored, top_none}
use Rattle.make_work.proofs.json_items.add_member.Goals as goal

pub returns-in-Some-Metadata : goal.returns-in-Some-Metadata
returns-in-Some-Metadata c =
    let ignored = ignored_by_words c.args.words.now in
    nothing (AreTopPayloads ignored c.args.name.now (value_view c.args.value.now)) _
    (top_none ignored c.args.name.now (value_view c.args.value.now)
    (sym c.is_ignored.ensures ∙ c.if-is_ignored.false)
    (sym c.holding_named.ensures ∙ c.in-Some-Metadata.is ∙ ap Some c.in-Some-Metadata.field-0-is))

pub returns-then-is_ignored : goal.returns-then-is_ignored
returns-then-is_ignored c =
    let ignored = ignored_by_words c.args.words.now in
    nothing (AreTopPayloads ignored c.args.name.now (value_view c.args.value.now)) _
    (top_ignored ignored c.args.name.now (value_view c.args.value.now)
    (sym c.is_ignored.ensures ∙ c.if-is_ignored.true))

pub returns-in-None : goal.returns-in-None
returns-in-None c =
    let j = value_view c.args.value.now in
    top_by (ignored_by_words c.args.words.now) c.args.name.now j None c.check_unknown.result _ _
    (sym c.is_ignored.ensures ∙ c.if-is_ignored.false) (sym c.holding_named.ensures ∙ c.in-None.is)
    (unknown j c.check_unknown.result _ c.check_unknown.ensures)
