use Rattle.std.proofs.Common.{rules}
use Rattle.unit_views.proofs.Puts.{same_put}
use Rattle.unit_views.proofs.Forms.{origin_form}
use Rattle.unit_views.proofs.origin.OriginView.write_form.Goals as goal

pub returns-then-is_v4 : goal.returns-then-is_v4
returns-then-is_v4 g c =
    record {
      bytes =
          same_put c.put_piece.result _ _ _ _
          (origin_form c.args.self.now c.from_flags.result c.into_flags-flags.result _
          c.as_ref.result.now
          c.from_flags.ensures c.into_flags-flags.ensures.flags c.from_origin-unit.ensures.form
          c.as_ref.ensures.bytes)
          c.put_piece.ensures.bytes;
      error = search rules;
    }

pub returns-else-is_v4 : goal.returns-else-is_v4
returns-else-is_v4 g c =
    record {
      bytes =
          same_put c.put_piece-else-is_v4.result _ _ _ _
          (origin_form c.args.self.now c.from_flags.result c.into_flags-flags.result _
          c.as_ref-else-is_v4.result.now c.from_flags.ensures c.into_flags-flags.ensures.flags
          c.from_origin-unit-else-is_v4.ensures.form c.as_ref-else-is_v4.ensures.bytes)
          c.put_piece-else-is_v4.ensures.bytes;
      error = search rules;
    }
