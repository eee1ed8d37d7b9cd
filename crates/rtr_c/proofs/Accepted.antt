-- An input that begins with a sequence has status 0, and no other input has.
use Rattle.std.proofs.Common.{◌≡◌, ◌≢◌, ℕ, ◌+◌, ◌≤◌, List, [], ◌∷◌, ◌++◌, length, drop}
use Rattle.std.proofs.Common.{Result, Ok, Err, refl, sym, ap, subst}
use Rattle.std.proofs.Common.{◌∙◌, append-nil, arith, inl, inr}
use Rattle.std.proofs.lemmas.Bool.{cases_lt}
use Rattle.std.proofs.lemmas.List.{length-append}
use Rattle.std.proofs.lemmas.List.Elements.{filter_map-append}
use Rattle.rtr_units.specs.End.{EndMeaning, end_list}
use Rattle.rtr_payload.specs.Payloads.{Meaning}
use Rattle.rtr_payload.proofs.Apart.{begins_apart}
use Rattle.rtr_payload.proofs.Fields.{units_same}
use Rattle.unit_views.specs.declared.fault.ViewFault.{ViewFault}
use Rattle.unit_views.specs.declared.fault.ViewFault.TheVariants as faults
use Rattle.rtr_wire.specs.Into.{NormalisesInto, RefusesVersion}
use Rattle.rtr_wire.specs.Sequences.{AreUnits, Accepts, Output, forms, sequence_form}
use Rattle.rtr_wire.specs.Sequences.{written_units}
use Rattle.rtr_wire.specs.declared.into.IntoFault.{IntoFault}
use Rattle.rtr_wire.specs.declared.into.IntoFault.TheVariants.{NoRoom, TooMany, Refused}
use Rattle.rtr_wire.specs.declared.into.Progress.{Progress}
use Rattle.rtr_wire.proofs.OneAnswer.{begins_end}
use Rattle.rtr_wire.proofs.Push.{forms_append, units_push}
use Rattle.rtr_wire.proofs.Runs.{accepted_same, after as then, goes_on}
use Rattle.rtr_wire.proofs.Written.{form_written, forms_one_more}
use Rattle.data_history.proofs.Rooms.{stopped_run}
use Rattle.rtr_c.specs.Answers.{Tells, TellsSequence, CallSucceeds, CallSucceedsOnly}
use Rattle.rtr_c.specs.Answers.{fault_status, stop_status, run_status}
use Rattle.rtr_c.specs.declared.answer.RtrAnswer.{RtrAnswer}

-- no fault has status 0
pub fault_some : (e : ViewFault) → fault_status e ≢ 0
fault_some (faults.Writer e) = λ i. omega (arith, i)
fault_some faults.Short = λ i. omega (arith, i)
fault_some (faults.UnitType t) = λ i. omega (arith, i)
fault_some faults.UnitLength = λ i. omega (arith, i)
fault_some faults.TooLong = λ i. omega (arith, i)
fault_some faults.EmptyProviders = λ i. omega (arith, i)
fault_some (faults.UnitVersion v) = λ i. omega (arith, i)
fault_some (faults.Prefix rule) = λ i. omega (arith, i)
fault_some faults.TooMany = λ i. omega (arith, i)

stop_some : (g : IntoFault) → stop_status g ≢ 0
stop_some NoRoom = λ i. omega (arith, i)
stop_some TooMany = λ i. omega (arith, i)
stop_some (Refused e) = fault_some e

-- ---- what was taken lies in the input

pub within : (what : Output) (limit : ℕ) (r : Result Unit IntoFault) (input before after : List ℕ)
    (p : Progress) → NormalisesInto what limit r input before after p → p.taken ≤ length input
within what limit (Ok done) input before after p f =
    omega (arith, f.taken, ap length f.parts, length-append f.viewed f.left)
within what limit (Err g) input before after p f =
    omega (
      arith,
      f.taken,
      ap length f.parts,
      length-append f.viewed f.left,
      ap length f.run.taken_parts,
      length-append f.run.units f.run.last,
    )

pub nothing_taken : (version : ℕ) (r : Result Unit IntoFault) (input before after : List ℕ)
    (p : Progress) → RefusesVersion version p r before after → p.taken ≤ length input
nothing_taken version r input before after p f = omega (arith, ap (λ q. q.taken) f.progress)

-- ---- a run that came to the end of data

pub only : (what : Output) (limit : ℕ) (r : Result Unit IntoFault) (input before after : List ℕ)
    (p : Progress) (a : RtrAnswer) (code : ℕ) → NormalisesInto what limit r input before after p →
    Tells input p r a code → CallSucceedsOnly what limit input before after a code
only what limit (Err g) input before after p a code f t zero =
    absurd (stop_some g (sym t.answered ∙ zero))
only what limit (Ok done) input before after p a code f t zero =
    let (e, end, last_form) = f.run.ends in
    let units = written_units what f.run.meanings in
    let is : f.form ≡ sequence_form units (what.end e) =
    f.run.written_parts ∙ ap (λ l. forms units ++ l) last_form in (
      f.viewed,
      f.run.meanings,
      e,
      record {
        rest = f.left;
        parts = f.parts;
        sequence = record {
          front = f.run.units;
          last = f.run.last;
          parts = f.run.taken_parts;
          units = f.run.are_units;
          end = end;
        };
      },
      f.run.counts.1,
      record {
        units = t.units ∙ f.units;
        forms = t.forms ∙ f.forms;
        taken = t.taken ∙ f.taken;
        written = t.written ∙ f.written ∙ ap length is;
        fits = omega (arith, t.written, f.fits);
        output = f.output ∙ (λ i. is i ++ drop (sym t.written i) before);
        wanted = t.wanted;
        status = t.status;
        detail = t.detail;
        answered = t.answered;
      },
    )

-- a version that is refused hasn't status 0
pub unknown : (version : ℕ) (r : Result Unit IntoFault) (input before after : List ℕ)
    (p : Progress) (a : RtrAnswer) (code : ℕ) → RefusesVersion version p r before after →
    Tells input p r a code → code ≢ 0
unknown version r input before after p a code f t zero =
    let three : run_status r ≡ 3 = ap run_status f.fault in
    omega (arith, three, sym t.answered ∙ zero)

-- ---- a run that stopped

-- ---- a run that lacked room

-- units that begin a list of units are the first of them
front_of : (a r c s : List ℕ) (ms ns : List Meaning) → AreUnits a ms → AreUnits c ns →
    a ++ r ≡ c ++ s → length ms ≤ length ns → (more : List Meaning) × (ns ≡ ms ++ more)
front_of a r c s [] ns h j e l = (ns, refl)
front_of a r c s (m ∷ ms) [] h j e l = absurd (omega (arith, l))
front_of a r c s (m ∷ ms) (n ∷ ns) h j e l =
    let f = units_same h.0 j.0 (h.1 ++ r) (j.1 ++ s) m n h.3 j.3
    (sym (then a h.0 h.1 r h.2) ∙ e ∙ then c j.0 j.1 s j.2) in
    let (more, is) = front_of h.1 r j.1 s ms ns h.4 j.4 f.2 (omega (arith, l)) in
    (more, λ i. sym f.1 i ∷ is i)

-- the form of units is as long as that of some of them, of one more and of the others
longer : (what : Output) (ns : List Meaning) (m : Meaning) (more ms : List Meaning) →
    ms ≡ (ns ++ m ∷ []) ++ more →
    length (forms (written_units what ns)) + length (form_written (what.unit m)) ≤
    length (forms (written_units what ms))
longer what ns m more ms is =
    let front = written_units what (ns ++ m ∷ []) in
    let others = written_units what more in
    let joined : forms (written_units what ms) ≡ forms front ++ forms others =
    ap (λ l. forms (written_units what l)) is
    ∙ ap forms (filter_map-append what.unit (ns ++ m ∷ []) more) ∙ forms_append front others in
    omega (
      arith,
      ap length joined,
      length-append (forms front) (forms others),
      ap length (forms_one_more what ns m),
      length-append (forms (written_units what ns)) (form_written (what.unit m)),
    )

-- an output as long as the form doesn't lack room
fitting : (what : Output) (limit : ℕ) (input before after : List ℕ) (p : Progress) →
    NormalisesInto what limit (Err NoRoom) input before after p → (b : List ℕ) (ms : List Meaning)
    (e : EndMeaning) → Accepts input b ms e →
    length (sequence_form (written_units what ms) (what.end e)) ≤ length before → ⊥
fitting what limit input before after p f b ms e acc enough =
    let (form, why, less) = f.stops.0 in
    let us = f.run.units in
    let fs = f.run.meanings in
    let next = f.last in
    let s = acc.sequence in
    let size = length-append (forms (written_units what ms)) (end_list (what.end e)) in
    let before_it : p.written ≡ length (forms (written_units what fs)) =
    f.written ∙ ap length
    (f.run.written_parts ∙ ap (λ l. forms (written_units what fs) ++ l) f.stops.1
    ∙ append-nil (forms (written_units what fs))) in
    let viewed : f.viewed ≡ us ++ next =
    f.run.taken_parts ∙ ap (λ l. us ++ l) (sym f.last_is) in
    let parts : input ≡ (us ++ next) ++ f.left = f.parts ∙ ap (λ l. l ++ f.left) viewed in
    let both : (us ++ next) ++ f.left ≡ s.front ++ (s.last ++ acc.rest) =
    sym parts ∙ acc.parts ∙ then b s.front s.last acc.rest s.parts in
    elim why [
      | inl (m, n, unit, is, of) ↦
          let units = units_push us next fs m f.run.are_units unit in
          elim (cases_lt (length ms) (length (fs ++ m ∷ []))) [
            | inl lt ↦
                begins_apart (s.last ++ acc.rest)
                (goes_on s.front (s.last ++ acc.rest) (us ++ next) f.left ms (fs ++ m ∷ [])
                s.units units (sym both) lt)
                (begins_end s.last acc.rest e s.end)
            | inr le ↦
                let (more, split) = front_of (us ++ next) f.left s.front (s.last ++ acc.rest)
                (fs ++ m ∷ []) ms units s.units both le in
                omega (
                  arith,
                  longer what fs m more ms split,
                  ap (λ o. length (form_written o)) is,
                  ap length of,
                  less,
                  enough,
                  size,
                  before_it,
                  f.room_is,
                )
          ]
      | inr (d, end, of) ↦
          let whole : Accepts input (us ++ next) fs d = record {
            rest = f.left;
            parts = parts;
            sequence = record {
              front = us;
              last = next;
              parts = refl;
              units = f.run.are_units;
              end = end;
            };
          } in
          let (bytes, meanings, ends) =
          accepted_same input (us ++ next) b fs ms d e whole acc in
          omega (
            arith,
            ap (λ ms. length (forms (written_units what ms))) meanings,
            ap (λ e. length (end_list (what.end e))) ends,
            ap length of,
            less,
            enough,
            size,
            before_it,
            f.room_is,
          )
    ]

-- ---- whole

abbrev NotNoRoom : Result Unit IntoFault → Type 0
NotNoRoom r = r ≢ Err NoRoom

pub accepted : (what : Output) (limit enough : ℕ) (r : Result Unit IntoFault)
    (input before after : List ℕ) (p : Progress) (a : RtrAnswer) (code : ℕ) →
    NormalisesInto what limit r input before after p → Tells input p r a code →
    (enough ≤ length before → r ≢ Err NoRoom) →
    CallSucceeds what limit enough input before after a code
accepted what limit enough (Err g) input before after p a code f t always b ms e acc
    few room =
    absurd (stopped_run what limit g input before after p f (by_room g f always) b ms e acc few)
  where
    by_room : (g : IntoFault) → NormalisesInto what limit (Err g) input before after p →
        (enough ≤ length before → NotNoRoom (Err g)) → g ≢ NoRoom
    by_room NoRoom f always is = elim room [
      | inl long ↦ always long refl
      | inr fits ↦ fitting what limit input before after p f b ms e acc fits
    ]
    by_room TooMany f always is = absurd cc
    by_room (Refused e) f always is = absurd cc
accepted what limit enough (Ok done) input before after p a code f t always b ms e acc
    few room =
    let (c, ns, d, found, below, told) =
    only what limit (Ok done) input before after p a code f t t.answered in
    let (bytes, meanings, ends) = accepted_same input c b ns ms d e found acc in
    subst (λ x. TellsSequence what x ms e before after a code) bytes
    (subst (λ x. TellsSequence what c x e before after a code) meanings
    (subst (λ x. TellsSequence what c ns x before after a code) ends told))
