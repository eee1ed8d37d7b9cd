use Rattle.std.proofs.Common.{ap, sym, ◌∙◌}
use Rattle.rtr_payload.specs.Meanings.{origin_of, payload_of_ref}
use Rattle.data_memory.proofs.NamesThere.{origin_named, key_named, aspa_named, named_there}
use Rattle.data_memory.proofs.data.Data.contains_name.Goals as goal

pub returns-in-Origin : goal.returns-in-Origin
returns-in-Origin c =
    let i = c.self.inside in
    named_there (ap payload_of_ref c.in-Origin.is ∙ ap origin_of (sym c.from.ensures))
    c.self.view_is
    (c.contains.ensures
    ∙ sym (origin_named i.origins.keys i.router_keys.keys i.aspas.entries c.from.result))

pub returns-in-RouterKey : goal.returns-in-RouterKey
returns-in-RouterKey c =
    let i = c.self.inside in
    named_there (ap payload_of_ref c.in-RouterKey.is) c.self.view_is
    (c.contains-in-RouterKey.ensures
    ∙ sym (key_named i.origins.keys i.router_keys.keys i.aspas.entries c.in-RouterKey.key.now))

pub returns-in-Aspa : goal.returns-in-Aspa
returns-in-Aspa c =
    let i = c.self.inside in
    let a = c.in-Aspa.aspa.now in
    named_there (ap payload_of_ref c.in-Aspa.is) c.self.view_is
    (c.contains_key.ensures
    ∙ sym (aspa_named i.origins.keys i.router_keys.keys i.aspas.entries
    (record { customer = a.customer; providers = a.providers })))
