-- Where memory may be asked for, said by the first fault.
use Rattle.std.proofs.Common.{◌≡◌, ◌⊎◌, ℕ, ◌<◌, List, length, Option, Some, None, refl, sym, ap}
use Rattle.std.proofs.Common.{◌∙◌}
use Rattle.std.proofs.Common.{arith, get_or, inl, inr}
use Rattle.std.proofs.lemmas.Bool.Decides.{nat_tests}
use Rattle.rtr_units.specs.Header.{version_field, type_field, length_field}
use Rattle.rtr_units.specs.Reading.{AsksAfter}
use Rattle.rtr_units.specs.StopCauses.{Refusal, short}
use Rattle.rtr_payload.specs.FaultSteps.{first_unit, frame_fault, header_step}
use Rattle.rtr_payload.specs.FirstFault.{header_fault, prefix_fault}
use Rattle.rtr_payload.specs.FirstFault.{IsPartial, MayAskMemory}
use Rattle.rtr_payload.specs.UnitKinds.{payload_unit}
use Rattle.rtr_payload.proofs.Frames.{InFrame, steps_are, first_none, none_in_frame}
use Rattle.rtr_payload.proofs.Frames.{header_first, length_next, in_frame_fault}
use Rattle.rtr_payload.proofs.Reading.{asks_kind, never_short}

-- keys and ASPA units have more than a header, and no prefix lengths
nine_more : (v g n : ℕ) → header_fault v 9 g n ≡ None → 8 < n
unfolding header_fault
nine_more v g n e = grind (arith, nat_tests)

eleven_more : (v g n : ℕ) → header_fault v 11 g n ≡ None → 8 < n
unfolding header_fault
eleven_more v g n e = grind (arith, nat_tests)

more_said : (h : List ℕ) → (type_field h ≡ 9) ⊎ (type_field h ≡ 11) → header_step h ≡ None →
    8 < length_field h
more_said h (inl kind) e =
    nine_more (version_field h) (get_or h 2 0) (length_field h)
    (sym (ap (λ t. header_fault (version_field h) t (get_or h 2 0) (length_field h)) kind) ∙ e)
more_said h (inr kind) e =
    eleven_more (version_field h) (get_or h 2 0) (length_field h)
    (sym (ap (λ t. header_fault (version_field h) t (get_or h 2 0) (length_field h)) kind) ∙ e)

no_prefix : (t : ℕ) (u : List ℕ) → (t ≡ 9) ⊎ (t ≡ 11) → prefix_fault t u ≡ None
no_prefix t u (inl kind) = rw kind refl
no_prefix t u (inr kind) = rw kind refl

pub asks_said : (h : List ℕ) → AsksAfter payload_unit h → MayAskMemory h
asks_said h a =
    let kind = asks_kind h a.asks in (
      kind,
      elim a.place [
        | inl eight ↦
            inl (
              length_next h a.header a.in_order (omega (arith, eight, more_said h kind a.in_order)),
              eight,
            )
        | inr whole ↦
            let frame : InFrame h = record {
              whole_header = a.header;
              in_order = a.in_order;
              whole = omega (arith, whole);
            } in
            inr (in_frame_fault h frame ∙ no_prefix (type_field h) (first_unit h) kind, whole)
      ],
    )

-- the header of what is only too short is in order
part_in_order : (h : List ℕ) → length h ≡ 8 → IsPartial h → header_step h ≡ None
part_in_order h eight part = by_step (header_step h) refl
  where
    by_step : (o : Option Refusal) → header_step h ≡ o → header_step h ≡ None
    by_step None e = e
    by_step (Some g) e =
        let both : Some g ≡ Some short = sym (header_first h g (omega (arith, eight)) e) ∙ part in
        absurd (never_short _ _ _ _ (e ∙ both))

pub said_asks : (h : List ℕ) → MayAskMemory h → AsksAfter payload_unit h
said_asks h (kind, inl (part, eight)) = record {
  header = omega (arith, eight);
  asks = elim kind [ inl e ↦ rw e refl | inr e ↦ rw e refl ];
  in_order = part_in_order h eight part;
  place = inl eight;
}
said_asks h (kind, inr (none, whole)) =
    let frame = none_in_frame h
    (first_none (frame_fault h) (prefix_fault (type_field h) (first_unit h))
    (sym (steps_are h) ∙ none)).0 in
    record {
      header = frame.whole_header;
      asks = elim kind [ inl e ↦ rw e refl | inr e ↦ rw e refl ];
      in_order = frame.in_order;
      place = inr whole;
    }
