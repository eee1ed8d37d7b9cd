use Rattle.std.proofs.Common.{rules}
use Rattle.base64.specs.Engines.{url_safe_no_pad}
use Rattle.base64.specs.GeneralPurpose.{encode_of}
use Rattle.text_lines.proofs.OneMore.{chunk_then, piece_then}
use Rattle.text_lines.proofs.pieces.base64.Goals as goal

pub each-preserved : goal.each-preserved
each-preserved c =
    piece_then (encode_of url_safe_no_pad) c.each.left.now
    (encode_of url_safe_no_pad c.split_at.result.0.now) c.split_at.result.1.now c.args.bytes.now
    c.args.at c.each.end c.args.output.now c.each.output
    _ _ (chunk_then _ _ _ (search rules) (search rules) (search rules)) c.each.invariant
    c.base64_chunk-end.ensures
