-- An error report, as it is written.
use Rattle.std.proofs.Common.{◌≡◌, inl, inr, ℕ, ◌+◌, ◌≤◌, List, [], ◌++◌, length, drop}
use Rattle.std.proofs.Common.{Some, refl, sym, subst, ◌∙◌, arith}
use Rattle.rtr_base.specs.Bytes.{IsBytes}
use Rattle.rtr_base.proofs.Numbers.{value-be}
use Rattle.rtr_units.specs.Header.{version_field, session_field}
use Rattle.rtr_units.specs.Report.{report}
use Rattle.unit_any.specs.AnyFields.{error_report}
use Rattle.unit_any.specs.Reports.{IsReport, HasParts}
use Rattle.unit_any.proofs.Forms.{plain_shown}
use Rattle.unit_any.proofs.Held.{held_is}
use Rattle.unit_any.proofs.Parts.{parts_one}
use Rattle.unit_any.proofs.Units.{report_has}
use Rattle.unit_any.proofs.Wholes.{any_whole}
use Rattle.rtr_c.proofs.Again.{size, part_back, text_back}
use Rattle.rtr_c.proofs.Forms.{held_whole}
use Rattle.rtr_c.proofs.Made.{Made}
use Rattle.rtr_c.specs.Kept.{report_kept}
use Rattle.rtr_c.specs.PrivateRanges.{IsRanged}
use Rattle.rtr_c.specs.WrittenUnits.{piece_said}
use Rattle.rtr_c.specs.ShownUnits.{with_parts, report_shown, ShowsReport}
use Rattle.rtr_c.specs.declared.unit.RtrUnit.{RtrUnit}

module _ (u : RtrUnit) (p t : List ℕ) (ranged : IsRanged u) (hp : IsBytes p) (ht : IsBytes t)
    (few : length p + length t ≤ 65519) (part : length p ≡ u.part_length)
    (text : length t ≡ u.text_length) where
  abbrev bytes : List ℕ
  bytes = report u.version u.code p t

  is : IsReport bytes
  is =
      subst IsReport (held_whole u.version u.code p t few)
      (held_is u.version u.code p t ranged.version hp ht)

  code : session_field bytes ≡ u.code
  code = value-be u.code 2 ranged.code

  fit : HasParts bytes p t
  fit = λ i. report u.version (sym code i) p t

  sized : 16 + u.part_length + u.text_length ≡ length bytes
  sized = omega (arith, size u.version u.code p t [], part, text)

  shown : report_kept u ≡
      with_parts (length p) (length t)
      (report_shown (length bytes) (version_field bytes) (session_field bytes))
  shown = λ i.
      with_parts (sym part i) (sym text i) (report_shown (sized i) u.version (sym code i))

  shown_alone : (w : RtrUnit) → ShowsReport bytes w → w ≡ report_kept u
  shown_alone w shows = elim shows [
    | inl (q, s, other, same) ↦
        let one = parts_one bytes is q s p t other fit in
        same
        ∙ (λ i. with_parts (length (one.0 i)) (length (one.1 i))
        (report_shown (length bytes) (version_field bytes) (session_field bytes)))
        ∙ sym shown
    | inr (never, same) ↦ absurd (never p t fit)
  ]

  pub report_made : Made bytes (report_kept u) (Some p) (Some t)
  report_made = record {
    fields = error_report (version_field bytes) (session_field bytes) (drop 8 bytes);
    unit = report_has bytes is;
    shows = inl (p, t, fit, shown);
    shown = shown_alone;
    sound = λ r. plain_shown bytes r (any_whole bytes _ (report_has bytes is)) (inr (inr refl));
    part = λ r.
        (λ i. piece_said 12 (sym part i) (bytes ++ r)) ∙ part_back u.version u.code p t r;
    text = λ r.
        (λ i. piece_said (16 + sym part i) (sym text i) (bytes ++ r))
        ∙ text_back u.version u.code p t r;
  }
