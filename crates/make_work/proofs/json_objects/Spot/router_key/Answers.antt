use Rattle.std.proofs.Common.{inr}
use Rattle.std.proofs.lemmas.Result.{err_from_is_err_and}
use Rattle.json.specs.Value.{members_view, value_view}
use Rattle.make_work.specs.JsonRefusals.{RefusesKeyInfo, RefusesPart, RefusesRouterKey}
use Rattle.make_work.specs.JsonValues.{members_list}
use Rattle.make_work.specs.declared.json_names.Part.TheVariants.{KeyInfo}
use Rattle.make_work.proofs.JsonRefused.{or_memory}
use Rattle.make_work.proofs.NoPart.{lacks, wrong_or}
use Rattle.make_work.proofs.json_objects.Spot.router_key.Goals as goal

pub returns-in_err-member-2 : goal.returns-in_err-member-2
returns-in_err-member-2 c =
    let ms = members_list (members_view c.args.members.now) in
    let residual = c.from_residual-in_err-member-2 in
    let p = err_from_is_err_and residual.result residual.ensures.1 in
    rw (p.1, p.2) (inr (inr (
      c.in_ok-asn.asn,
      c.in_ok-asn.ensures,
      inr (
        c.in-Ok.key_identifier,
        (value_view c.in_ok-member.member.value.now, c.in_ok-member.ensures, c.in-Ok.ensures),
        lacks KeyInfo RefusesKeyInfo ms _ c.in_err-member-2.ensures,
      ),
    )))

pub returns-in-Err-key_info_of : goal.returns-in-Err-key_info_of
returns-in-Err-key_info_of c =
    let ms = members_list (members_view c.args.members.now) in
    or_memory (RefusesPart KeyInfo RefusesKeyInfo ms) (RefusesRouterKey ms) _
    (λ w r. inr (
      c.in_ok-asn.asn,
      c.in_ok-asn.ensures,
      inr (
        c.in-Ok.key_identifier,
        (value_view c.in_ok-member.member.value.now, c.in_ok-member.ensures, c.in-Ok.ensures),
        r,
      ),
    ))
    (wrong_or KeyInfo RefusesKeyInfo ms (value_view c.in_ok-member-2.member.value.now)
    c.in-Err-key_info_of.reason _ c.in_ok-member-2.ensures c.in-Err-key_info_of.ensures
    c.refusal_of-in-Err-key_info_of.ensures)
