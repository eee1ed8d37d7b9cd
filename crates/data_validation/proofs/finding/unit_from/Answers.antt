use Rattle.std.proofs.Common.{◌-◌, ◌≤◌, ◌∙◌, arith, inl, inr, refl}
use Rattle.std.proofs.lemmas.Bool.{cases_lt}
use Rattle.rtr_base.specs.Addresses.{family_of}
use Rattle.data_validation.specs.PrivateTable.{route}
use Rattle.data_validation.proofs.Upward.{none_from}
use Rattle.data_validation.proofs.finding.unit_from.Goals as goal

pub returns : goal.returns
returns c =
    let f = family_of c.args.is_v4 in
    let far = c.args.from - c.args.base in
    let found = c.in-Some.ensures.found in
    let start : c.lesser-start.result ≤ far =
    omega (arith, c.lesser-start.ensures.left, c.saturating_sub.ensures) in
    record {
      index = c.in-Some.index;
      within = found.within;
      at = refl;
      reached = elim (cases_lt c.in-Some.index far) [
        | inl less ↦
            let x = c.lesser-start.ensures.least c.in-Some.index
            (omega (arith, less, c.saturating_sub.ensures)) found.within in
            absurd (omega (arith, x, found.least))
        | inr more ↦ omega arith
      ];
      shows = c.in-Some-origin_of.ensures ∙ c.vrp_at.ensures.parts;
      covers = found.covers;
      first = λ t. none_from f c.args.units.now far c.lesser-start.result c.in-Some.index
          (route f c.args.address c.args.len) start (c.in-Some.ensures.first t.table);
    }
