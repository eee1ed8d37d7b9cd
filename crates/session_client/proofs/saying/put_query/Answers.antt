use native.Mathlib.Omega.{arith}
use Rattle.std.proofs.Common.{◌≤◌, take, drop, length, ◌-◌}
use borrow.Rule.Slice.PartMut.{post_of}
use Rattle.session_bytes.specs.Sent.{query_bytes}
use Rattle.session_client.proofs.Places.{no_room, puts}
use Rattle.session_client.proofs.Reports.{query_short}
use Rattle.session_client.proofs.saying.put_query.Goals as goal

pub returns-in-Some : goal.returns-in-Some
returns-in-Some c =
    let out = c.args.output.now in
    let at = c.args.unsent.now in
    let left = length out - at in
    let here : at ≤ length out = omega (arith, c.requires) in
    puts (query_bytes c.args.query.now) out c.place_query.new.output
    (drop c.in-Some.size (take left (drop at out))) (post_of at left out) at
    c.in-Some.size here c.in-Some.ensures.0 c.in-Some.ensures.2

pub returns-in-None : goal.returns-in-None
returns-in-None c =
    absurd (no_room (query_bytes c.args.query.now) c.args.output.now c.args.unsent.now c.requires
    (query_short c.args.query.now) c.in-None.ensures.0)
