use Rattle.std.proofs.Common.{◌++◌, ◌∙◌, append_assoc, codes, decimal, subst, sym}
use Rattle.rtr_base.specs.PlainTexts.{address_text}
use Rattle.text_lines.specs.Laying.{Lays}
use Rattle.text_lines.proofs.Laid.{lays_both}
use Rattle.list_lines.proofs.laid.PrefixTextLaid.lay.Goals as goal

pub returns : goal.returns
returns c =
    let p = c.args.self.now.prefix in
    let address = address_text p.family p.address in
    let mid = c.lay_address-end.result in
    let half = c.lay_address-end.new.output in
    let end = c.labelled.result in
    let whole = c.labelled.new.output in
    subst (λ l. Lays l c.args.at c.args.output.now end whole)
    (sym (append_assoc address (codes "/") (decimal p.len)))
    (lays_both address (codes "/" ++ decimal p.len) c.args.at c.args.output.now mid half end whole
    c.lay_address-end.ensures
    (subst (λ n. Lays (codes "/" ++ decimal n) mid half end whole)
    (c.from.ensures ∙ c.len.ensures.len) c.labelled.ensures))
