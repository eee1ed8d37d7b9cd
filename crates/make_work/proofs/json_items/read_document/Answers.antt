use Rattle.make_work.specs.MakeWords.{ignored_by_words}
use Rattle.make_work.proofs.JsonReading.{members_refuse, more_after, no_object_refused, object_read}
use Rattle.make_work.proofs.json_items.read_document.Goals as goal

pub returns-then-not-begins_object : goal.returns-then-not-begins_object
returns-then-not-begins_object c =
    no_object_refused (ignored_by_words c.args.words.now) _ _ c.refusal.ensures
    c.if-not-begins_object.ensures

pub returns-in-Err : goal.returns-in-Err
returns-in-Err c =
    members_refuse (ignored_by_words c.args.words.now) _ _ _ c.if-not-begins_object.ensures
    c.in-Err.ensures

pub returns-in-Some : goal.returns-in-Some
returns-in-Some c =
    more_after (ignored_by_words c.args.words.now) _ _ _ _ _ c.in-Ok.ensures.0 _
    c.if-not-begins_object.ensures c.in-Ok.ensures.1 c.in-Some.ensures.value

pub returns-in-None : goal.returns-in-None
returns-in-None c =
    object_read c.check_found.result (ignored_by_words c.args.words.now) _ _ _ c.in-Ok.ensures.0
    _ _ c.in-Ok.has_array c.if-not-begins_object.ensures c.in-Ok.ensures.1
    c.in-None.ensures.value.0 c.in-Ok.ensures.2.0 c.in-Ok.ensures.2.1 c.check_found.ensures
