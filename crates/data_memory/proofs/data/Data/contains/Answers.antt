use Rattle.std.proofs.Common.{ap, sym, ◌∙◌}
use Rattle.std.specs.Cmp.Lexicographic.{texts_ties}
use Rattle.std.specs.Option.{option_copied}
use Rattle.rtr_payload.specs.Meanings.{origin_of, payload_of_ref}
use Rattle.data_memory.proofs.Parts.{origin_there, key_there, aspa_there, just_these, there_is}
use Rattle.data_memory.proofs.data.Data.contains.Goals as goal

pub returns-in-Origin : goal.returns-in-Origin
returns-in-Origin c =
    let i = c.self.inside in
    there_is (ap payload_of_ref c.in-Origin.is ∙ ap origin_of (sym c.from.ensures)) c.self.view_is
    (c.contains.ensures
    ∙ sym (origin_there i.origins.keys i.router_keys.keys i.aspas.entries c.from.result))

pub returns-in-RouterKey : goal.returns-in-RouterKey
returns-in-RouterKey c =
    let i = c.self.inside in
    there_is (ap payload_of_ref c.in-RouterKey.is) c.self.view_is
    (c.contains-in-RouterKey.ensures
    ∙ sym (key_there i.origins.keys i.router_keys.keys i.aspas.entries c.in-RouterKey.key.now))

pub returns-in-Some : goal.returns-in-Some
returns-in-Some c =
    let i = c.self.inside in
    let ps = c.in-Aspa.aspa.now.providers in
    there_is (ap payload_of_ref c.in-Aspa.is) c.self.view_is
    (c.eq.ensures ∙ texts_ties ps c.in-Some.providers.now
    ∙ sym (ap (λ o. just_these o ps) (sym c.get.ensures.value ∙ ap option_copied c.in-Some.is))
    ∙ sym (aspa_there i.origins.keys i.router_keys.keys i.aspas.entries
    (record { customer = c.in-Aspa.aspa.now.customer; providers = ps })
    c.len-count.ensures.ordered))

pub returns-in-None : goal.returns-in-None
returns-in-None c =
    let i = c.self.inside in
    let ps = c.in-Aspa.aspa.now.providers in
    there_is (ap payload_of_ref c.in-Aspa.is) c.self.view_is
    (sym (ap (λ o. just_these o ps) (sym c.get.ensures.value ∙ ap option_copied c.in-None.is))
    ∙ sym (aspa_there i.origins.keys i.router_keys.keys i.aspas.entries
    (record { customer = c.in-Aspa.aspa.now.customer; providers = ps })
    c.len-count.ensures.ordered))
