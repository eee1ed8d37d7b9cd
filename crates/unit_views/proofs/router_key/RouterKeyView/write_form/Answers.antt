use Rattle.std.proofs.Common.{rules}
use Rattle.std.proofs.lemmas.List.{take_rest}
use Rattle.unit_views.proofs.Forms.{key_form_cleared}
use Rattle.unit_views.proofs.Puts.{same_put}
use Rattle.unit_views.proofs.router_key.RouterKeyView.write_form.Goals as goal

pub returns : goal.returns
returns g c =
    let u = c.args.self.now.unit.now in
    record {
      bytes =
          same_put c.put_both.result _ _ _ _
          (key_form_cleared u _ _ c.args.self.now.whole c.cleared_header.ensures (take_rest u 8))
          c.put_both.ensures.bytes;
      error = search rules;
    }
