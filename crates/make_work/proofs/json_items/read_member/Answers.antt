use Rattle.make_work.specs.MakeWords.{ignored_by_words}
use Rattle.make_work.proofs.JsonReading.{list_read}
use Rattle.make_work.proofs.json_items.read_member.Goals as goal

pub returns-in-Some : goal.returns-in-Some
returns-in-Some c =
    list_read c.read_payloads.result (ignored_by_words c.args.words.now) c.args.name.now
    c.in-Some.kind _ _ _ _ c.in-Some.ensures.1 c.in-Some.ensures.2 c.read_payloads.ensures
