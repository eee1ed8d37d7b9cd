use Rattle.std.proofs.Common.{◌≡◌, arith}
use Rattle.std.specs.Str.{IsUtf8}
use Rattle.csv.specs.Reading.{strip_bom}
use Rattle.make_work.specs.MakeWords.{ignored_by_words}
use Rattle.make_work.proofs.JsonReading.{json_read, json_refused}
use Rattle.make_work.proofs.json_items.read_json.Goals as goal

pub returns-in-Ok-read_document : goal.returns-in-Ok-read_document
returns-in-Ok-read_document c =
    let rest = c.in-Ok.rest.now in
    let is : rest ≡ strip_bom c.args.text.now = grind arith in
    let utf8 : IsUtf8 rest = grind arith in
    json_read (ignored_by_words c.args.words.now) c.args.text.now rest _ _ _ is utf8
    c.in-Ok-new.ensures.ok c.in-Ok-read_document.ensures

pub returns-in-Err : goal.returns-in-Err
returns-in-Err c =
    let rest = c.in-Ok.rest.now in
    let is : rest ≡ strip_bom c.args.text.now = grind arith in
    let utf8 : IsUtf8 rest = grind arith in
    json_refused (ignored_by_words c.args.words.now) c.args.text.now rest _ _ _ is utf8
    c.in-Ok-new.ensures.ok c.in-Err.ensures c.told.ensures
