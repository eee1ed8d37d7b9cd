use Rattle.std.proofs.Common.{◌≡◌, length, sym, subst, ◌∙◌}
use Rattle.make_work.proofs.NoValue.{no_bytes, other_length, told_as_base64, told_as_digits}
use Rattle.make_work.proofs.json_values.key_identifier_of_base64.Goals as goal

pub returns-in-Ok : goal.returns-in-Ok
returns-in-Ok c =
    other_length c.args.text.now c.in-Ok.bytes.items c.args.error c.in-Ok.ensures
    (subst (λ l. ¬ (length l ≡ 20)) c.as_slice.ensures.value c.in-Err-try_from.ensures.1)

pub returns-in-Err-Base64 : goal.returns-in-Err-Base64
returns-in-Err-Base64 c =
    told_as_base64 c.args.text.now c.args.error
    (no_bytes c.args.text.now c.in-Err-Base64.field-0 c.in-Err-Base64.ensures
    c.in-Err-Base64.field-0-is)
    (sym c.has_base64_length.ensures ∙ c.if-has_base64_length.true)

pub returns-in-Err-Base64-2 : goal.returns-in-Err-Base64-2
returns-in-Err-Base64-2 c =
    told_as_digits c.args.text.now c.args.error
    (no_bytes c.args.text.now c.in-Err-Base64.field-0 c.in-Err-Base64.ensures
    c.in-Err-Base64.field-0-is)
