use Rattle.std.proofs.Common.{ap, sym, ◌∙◌}
use Rattle.std.specs.Cmp.Lexicographic.{texts_ties}
use Rattle.std.specs.Option.{option_copied}
use Rattle.data_memory.proofs.Parts.{very_entry, just_these}
use Rattle.data_memory.proofs.writing.is_there.Goals as goal

pub returns-in-Some : goal.returns-in-Some
returns-in-Some c =
    let ps = c.args.providers.now in
    c.eq.ensures ∙ texts_ties ps c.in-Some.there.now
    ∙ sym (ap (λ o. just_these o ps) (sym c.get.ensures.value ∙ ap option_copied c.in-Some.is))
    ∙ sym (very_entry (record { customer = c.args.customer; providers = ps })
    c.args.aspas.now.entries c.len-count.ensures.ordered)

pub returns-in-None : goal.returns-in-None
returns-in-None c =
    let ps = c.args.providers.now in
    sym (ap (λ o. just_these o ps) (sym c.get.ensures.value ∙ ap option_copied c.in-None.is))
    ∙ sym (very_entry (record { customer = c.args.customer; providers = ps })
    c.args.aspas.now.entries c.len-count.ensures.ordered)
