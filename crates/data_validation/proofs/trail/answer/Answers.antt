use Rattle.std.proofs.Common.{◌≡◌, ◌+◌, ℕ, Bool, true, arith, slice_index, subst, sym}
use Rattle.rtr_base.specs.Addresses.{family_of}
use Rattle.data_validation.specs.PrivateTable.{OneSays, TableSays, UnitsPassed, route}
use Rattle.data_validation.specs.PrivateTrail.{IsAmongKept}
use Rattle.data_validation.specs.Tables.{vrp_at}
use Rattle.data_validation.specs.declared.validity.Validity.{Validity}
use Rattle.data_validation.proofs.Following.{all_kept, more_apart, more_covers}
use Rattle.data_validation.proofs.trail.answer.Goals.{in-Invalid, in-NotFound}
use Rattle.data_validation.proofs.trail.answer.Goals as goal

pub units-preserved : goal.units-preserved
units-preserved c =
    let f = family_of c.args.is_v4 in
    let b = c.args.units.now in
    let p = route f c.args.address c.args.len in
    let kept = c.args.kept.now in
    let x = c.units.index in
    let here = vrp_at f b (slice_index kept x) in
    elim c.match-unit_says.branch [
      | in-Invalid w ↦
          let h = subst (λ (v : Validity). OneSays v here p c.args.asn) w.in-Invalid.is
          c.unit_says.ensures.says in
          let e : true ≡ c.match-unit_says.covered = cc w.covered-is in
          subst (λ (y : Bool). UnitsPassed f b c.args.total p c.args.asn y
          (IsAmongKept kept (x + 1))) e
          (more_covers f b c.args.total p c.args.asn c.units.covered kept x
          (c.requires.within x (omega arith)) c.units.invariant h.0 h.1)
      | in-NotFound w ↦
          let h = subst (λ (v : Validity). OneSays v here p c.args.asn) w.in-NotFound.is
          c.unit_says.ensures.says in
          let e : c.units.covered ≡ c.match-unit_says.covered = cc w.covered-is in
          subst (λ (y : Bool). UnitsPassed f b c.args.total p c.args.asn y
          (IsAmongKept kept (x + 1))) e
          (more_apart f b c.args.total p c.args.asn c.units.covered kept x c.units.invariant h)
    ]

pub returns : goal.returns
returns c = λ all.
    let f = family_of c.args.is_v4 in
    let b = c.args.units.now in
    let p = route f c.args.address c.args.len in
    let kept = c.args.kept.now in
    let e : c.units.index ≡ c.args.count = omega arith in
    subst (λ (v : Validity). TableSays v f b c.args.total p c.args.asn) (sym c.unmatched.ensures)
    (all_kept f b c.args.total p c.args.asn c.units.covered (IsAmongKept kept c.args.count)
    (subst (λ (n : ℕ). UnitsPassed f b c.args.total p c.args.asn c.units.covered
    (IsAmongKept kept n)) e c.units.invariant) all)
