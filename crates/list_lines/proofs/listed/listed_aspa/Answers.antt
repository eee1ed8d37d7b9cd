use Rattle.std.proofs.Common.{◌∙◌, ap}
use Rattle.rtr_payload.specs.Providers.{words_of}
use Rattle.rtr_payload.specs.UnitFields.{aspa_unit}
use Rattle.rtr_payload.proofs.FieldsRead.{words_of-words}
use Rattle.list_lines.proofs.listed.listed_aspa.Goals as goal

pub returns : goal.returns
returns c =
    let providers =
    ap words_of c.as_slice.ensures.bytes
    ∙ words_of-words _ c.as_slice.ensures.fits.each ∙ c.providers.ensures in
    λ i. aspa_unit (record {
      version = c.version.ensures i;
      flags = c.flags.ensures i;
      free = c.requires i;
      aspa = record {
        customer = (c.into_u32.ensures.number ∙ c.customer.ensures) i;
        providers = providers i;
      };
    })
