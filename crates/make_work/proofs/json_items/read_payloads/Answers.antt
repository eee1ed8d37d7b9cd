use Rattle.std.proofs.Common.{◌∷◌, ap, sym, ◌∙◌}
use Rattle.make_work.proofs.JsonReading.{array_read, array_wanted, is_begin_array_is, is_null_is}
use Rattle.make_work.proofs.JsonReading.{none_to_read, null_read}
use Rattle.make_work.proofs.json_items.read_payloads.Goals as goal

pub returns-in-None : goal.returns-in-None
returns-in-None c = none_to_read 127 _ _ c.in-None.ensures.value.0

pub returns-then-is_begin_array : goal.returns-then-is_begin_array
returns-then-is_begin_array c =
    array_read c.read_list.result c.args.kind _ _ _ _ _
    (c.in-Some.ensures.value ∙ ap (λ t. t ∷ c.next.new.self)
    (is_begin_array_is _ (sym c.is_begin_array.ensures ∙ c.if-is_begin_array.true)))
    c.read_list.ensures

pub returns-then-is_null : goal.returns-then-is_null
returns-then-is_null c =
    null_read c.args.kind _ _ _
    (c.in-Some.ensures.value ∙ ap (λ t. t ∷ c.next.new.self)
    (is_null_is _ (sym c.is_null.ensures ∙ c.if-is_null.true)))

pub returns : goal.returns
returns c =
    array_wanted c.args.kind _ _ _ _ c.requires c.in-Some.ensures.value
    (sym c.is_begin_array.ensures ∙ c.if-is_begin_array.false)
    (sym c.is_null.ensures ∙ c.if-is_null.false) c.refusal-2.ensures
