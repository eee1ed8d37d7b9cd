use Rattle.std.proofs.Common.{ap, codes, drop, refl, List, ℕ, ◌++◌}
use Rattle.rtr_payload.specs.Meanings.{key_of, origin_of}
use Rattle.rtr_payload.specs.Payloads.{Payload}
use Rattle.data_memory.specs.Contents.{entry_of}
use Rattle.list_tables.specs.Tables.{json_text, object_text}
use Rattle.list_tables.proofs.Counts.{aspas_are, keys_are, origins_are, items_are}
use Rattle.list_tables.proofs.Said.{last_said, then_said}
use Rattle.list_tables.proofs.json_table.add_json.Goals as goal

pub returns : goal.returns
unfolding json_text
returns c =
    let parts = c.parts-origins.result in
    let is = c.parts-origins.ensures.payloads in
    let cut = λ (l : List ℕ). drop 1 l in
    let item = λ (p : Payload). codes ",\n" ++ object_text p in
    let origins = ap cut (items_are item origin_of parts.0 _
    (origins_are parts.0 parts.1 parts.2 _ is)) in
    let keys = ap cut (items_are item key_of parts.1 _ (keys_are parts.0 parts.1 parts.2 _ is)) in
    let aspas = ap cut (items_are item entry_of parts.2 _
    (aspas_are parts.0 parts.1 parts.2 _ is)) in
    let line = c.args.line.now in
    let one = then_said line c.text.new.self c.add_origins.new.line (codes "{\"roas\":[") _ _
    origins c.in_ok-text.ensures c.in_ok-add_origins.ensures in
    let two = then_said line c.add_origins.new.line c.text-2.new.self _
    (codes "\n],\n\"bgpsec_keys\":[") _ refl one c.in_ok-text-2.ensures in
    let three = then_said line c.text-2.new.self c.add_keys.new.line _ _ _ keys two
    c.in_ok-add_keys.ensures in
    let four = then_said line c.add_keys.new.line c.text-3.new.self _
    (codes "\n],\n\"aspas\":[") _ refl three c.in_ok-text-3.ensures in
    let five = then_said line c.text-3.new.self c.add_aspas.new.line _ _ _ aspas four
    c.in_ok-add_aspas.ensures in
    last_said c.text-4.result line c.add_aspas.new.line c.text-4.new.self _ (codes "\n]}\n") _ refl
    five c.text-4.ensures
