-- Steps from a slice into another, one after the other.
use Rattle.std.proofs.Common.{◌≡◌, ℕ, ◌+◌, ◌-◌, ◌<◌, ◌≤◌, List, []}
use Rattle.std.proofs.Common.{◌++◌, length, take, drop, Some, None, Ok, Err, refl, sym, ap, subst}
use Rattle.std.proofs.Common.{◌∙◌, append_assoc, append-nil, arith, inl, inr}
use Rattle.std.proofs.lemmas.List.{length-append, take-append-drop, length-take-le, length-drop}
use Rattle.std.proofs.lemmas.List.{drop-drop, take_all, drop_all}
use Rattle.std.proofs.Math.Seq.{drop-append_seam, take-append_seam}
use Rattle.rtr_units.specs.End.{IsEnd, end_list}
use Rattle.rtr_units.specs.StopCauses.{Cause, by_writer, too_many, wrong}
use Rattle.rtr_units.specs.AnyEnd.{end_bytes, end_meaning}
use Rattle.rtr_units.specs.declared.end.EndOfData.{EndOfData}
use Rattle.rtr_payload.specs.Payloads.{Meaning}
use Rattle.rtr_payload.specs.KeyUnits.{key_at}
use Rattle.rtr_payload.specs.AspaUnits.{aspa_at}
use Rattle.rtr_payload.specs.UnitFields.{key_unit, aspa_unit, meaning}
use Rattle.rtr_payload.specs.Units.{IsUnit, form_of}
use Rattle.unit_views.specs.Origins.{origin_meaning}
use Rattle.unit_views.specs.Placing.{Places}
use Rattle.unit_views.specs.Views.{IsViewOf, ViewMeans}
use Rattle.unit_views.specs.declared.view.UnitView.{UnitView}
use Rattle.unit_views.specs.declared.view.UnitView.TheVariants as views
use Rattle.unit_views.proofs.Agreement.{view_means}
use Rattle.rtr_wire.specs.PrivateSteps.{StepTells, Steps, StopsStepInto, Stepped}
use borrow.Rule.Slice.PartMut.{put_mid}
use Rattle.rtr_wire.specs.Into.{StopsInto, NormalisesInto, into_answer}
use Rattle.rtr_wire.specs.declared.into.IntoFault.{IntoFault}
use Rattle.rtr_wire.specs.declared.into.IntoFault.TheVariants.{NoRoom, TooMany, Refused}
use Rattle.rtr_wire.specs.Run.{IsProperPrefix, Counts, Ends}
use Rattle.rtr_wire.specs.Sequences.{Output, in_version, forms, written_units}
use Rattle.rtr_wire.specs.declared.into.Step.{Step}
use Rattle.rtr_wire.specs.declared.run.Passed.TheVariants as passes
use Rattle.rtr_wire.proofs.Stepping.{SoFar, starts, goes_on, leaves_out}

-- ---- one step

-- what a view of a payload unit means
pub record Viewed (v : UnitView) (b : List ℕ) : Type 0 where
  pub m : Meaning
  pub means : ViewMeans v m
  pub unit : IsUnit b m

pub viewed : (v : UnitView) (b : List ℕ) → ((e : EndOfData) → v ≡ views.End e → ⊥) → IsViewOf v b →
    Viewed v b
viewed (views.Origin v) b not is =
    let m = origin_meaning v in
    record { m = m; means = refl; unit = view_means (views.Origin v) b m is refl }
viewed (views.RouterKey v) b not is =
    let m = meaning (key_unit (key_at v.unit.now)) in
    record { m = m; means = refl; unit = view_means (views.RouterKey v) b m is refl }
viewed (views.Aspa v) b not is =
    let m = meaning (aspa_unit (aspa_at v.unit.now)) in
    record { m = m; means = refl; unit = view_means (views.Aspa v) b m is refl }
viewed (views.End e) b not is = absurd (not e refl)

module _ (what : Output) (rest : List ℕ) (k : ℕ) (le : k ≤ length rest) (before : List ℕ) where
  parts : rest ≡ take k rest ++ drop k rest
  parts = sym (take-append-drop k rest)

  size : k ≡ length (take k rest)
  size = sym (length-take-le k rest le)

  pub step_left_out : (m : Meaning) → IsUnit (take k rest) m → what.unit m ≡ None →
      Stepped what (record { passed = passes.LeftOut; taken = k; written = 0 }) rest before before
  step_left_out m unit none = record {
    took = take k rest;
    wrote = [];
    parts = parts;
    taken = size;
    written = refl;
    fits = omega arith;
    output = refl;
    tells = (m, unit, (none, refl));
  }

  pub step_written : (m : Meaning) (v n : ℕ) (after : List ℕ) → IsUnit (take k rest) m →
      what.unit m ≡ Some (in_version v m) →
      Places (Some n) (form_of (in_version v m)) before after →
      Stepped what (record { passed = passes.Written; taken = k; written = n }) rest before after
  step_written m v n after unit some (is, fits, output) = record {
    took = take k rest;
    wrote = form_of (in_version v m);
    parts = parts;
    taken = size;
    written = is;
    fits = fits;
    output = output;
    tells = (m, unit, (in_version v m, some, refl));
  }

  pub unit_lacks_room : (m : Meaning) (v : ℕ) (after : List ℕ) → IsUnit (take k rest) m →
      what.unit m ≡ Some (in_version v m) →
      Places None (form_of (in_version v m)) before after →
      (after ≡ before) × StopsStepInto what NoRoom rest (length before)
  unit_lacks_room m v after unit some (less, same) = (
    same,
    (
      take k rest,
      drop k rest,
      parts,
      (form_of (in_version v m), inl (m, in_version v m, unit, some, refl), less),
    ),
  )

  -- at an end of data, for which x is written
  module _ (d : EndOfData) (is : end_bytes d ≡ take k rest)
      (end : IsEnd (take k rest) (end_meaning d)) (x : List ℕ)
      (for_it : x ≡ end_list (what.end (end_meaning d))) where
    pub end_lacks_room : (after : List ℕ) → Places None x before after →
        (after ≡ before) × StopsStepInto what NoRoom rest (length before)
    end_lacks_room after (less, same) =
        (same, (take k rest, drop k rest, parts, (x, inr (end_meaning d, end, for_it), less)))

-- ---- one after the other

-- how far a run has come
pub record Along (what : Output) (units left_out : ℕ) (input : List ℕ) (taken : ℕ)
    (before now : List ℕ) (written : ℕ) : Type 0 where
  pub within : taken ≤ length input
  pub fits : written ≤ length before
  pub form : List ℕ
  pub size : written ≡ length form
  pub output : now ≡ form ++ drop written before
  pub so_far :
      SoFar what units left_out (Some input) (Some (drop taken input)) (Some []) (Some form)

pub along_starts : (what : Output) (input before : List ℕ) →
    Along what 0 0 input 0 before before 0
along_starts what input before = record {
  within = omega arith;
  fits = omega arith;
  form = [];
  size = refl;
  output = refl;
  so_far = starts what (Some input) (Some []);
}

-- one step further: what the step leaves of the run
pub record Further (what : Output) (units left_out : ℕ) (input : List ℕ) (taken : ℕ)
    (before now after : List ℕ) (written : ℕ) (s : Step)
    (a : Along what units left_out input taken before now written) : Type 0 where
  pub within : taken + s.taken ≤ length input
  pub fits : written + s.written ≤ length before
  pub form : List ℕ
  pub size : written + s.written ≡ length form
  pub output : after ≡ form ++ drop (written + s.written) before
  pub steps : Steps what (Ok s.passed) (Some (drop taken input))
      (Some (drop (taken + s.taken) input)) (Some a.form) (Some form)

pub further : (what : Output) (units left_out : ℕ) (input : List ℕ) (taken : ℕ)
    (before now after : List ℕ) (written : ℕ) (s : Step)
    (a : Along what units left_out input taken before now written) (part : List ℕ) →
    Stepped what s (drop taken input) (drop written now) part → after ≡ take written now ++ part →
    Further what units left_out input taken before now after written s a
further what units left_out input taken before now after written s a part did is =
    let kept : drop written now ≡ drop written before =
    ap (drop written) a.output ∙ ap (λ (n : ℕ). drop n (a.form ++ drop written before)) a.size
    ∙ drop-append_seam a.form (drop written before) in
    let front : take written now ≡ a.form =
    ap (take written) a.output ∙ ap (λ (n : ℕ). take n (a.form ++ drop written before)) a.size
    ∙ take-append_seam a.form (drop written before) in
    let left : drop s.taken (drop taken input) ≡ drop (taken + s.taken) input =
    drop-drop s.taken taken input in
    let room : s.written ≤ length before - written =
    omega (arith, did.fits, ap length kept, length-drop written before) in
    record {
      within =
          omega (
            arith,
            a.within,
            length-drop taken input,
            ap length did.parts,
            length-append did.took (drop s.taken (drop taken input)),
            did.taken,
          );
      fits = omega (arith, room, a.fits);
      form = a.form ++ did.wrote;
      size = omega (arith, length-append a.form did.wrote, a.size, did.written);
      output =
          is ∙ (λ i. front i ++ did.output i)
          ∙ ap (λ l. a.form ++ (did.wrote ++ l))
          (ap (drop s.written) kept ∙ drop-drop s.written written before)
          ∙ sym (append_assoc a.form did.wrote (drop (written + s.written) before));
      steps = (
        did.took,
        did.wrote,
        did.parts ∙ ap (λ l. did.took ++ l) left,
        refl,
        subst (λ l. StepTells what (Ok s.passed) did.took did.wrote (Some l)) left did.tells,
      );
    }

-- the rest of a slice, as a call borrows it
abbrev pub rest_of : ℕ → List ℕ → List ℕ
rest_of n xs = take (length xs - n) (drop n xs)

rest_is : (n : ℕ) (xs : List ℕ) → rest_of n xs ≡ drop n xs
rest_is n xs = take_all (length xs - n) (drop n xs) (omega (arith, length-drop n xs))

put_is : (n : ℕ) (xs ys : List ℕ) → put_mid n (length xs - n) xs ys ≡ take n xs ++ ys
put_is n xs ys =
    ap (λ l. take n xs ++ l)
    (ap (λ l. ys ++ l) (drop_all (length xs - n) (drop n xs) (omega (arith, length-drop n xs)))
    ∙ append-nil ys)

module _ (what : Output) (units left_out : ℕ) (input : List ℕ) (taken : ℕ) (before now : List ℕ)
    (written : ℕ) (a : Along what units left_out input taken before now written) where
  module _ (s : Step) (part : List ℕ)
      (did : Stepped what s (rest_of taken input) (rest_of written now) part) where
    abbrev after : List ℕ
    after = put_mid written (length now - written) now part

    on : Further what units left_out input taken before now after written s a
    on =
        further what units left_out input taken before now after written s a part
        (subst (λ l. Stepped what s l (drop written now) part) (rest_is taken input)
        (subst (λ l. Stepped what s (rest_of taken input) l part) (rest_is written now) did))
        (put_is written now part)

    pub into_written : s.passed ≡ passes.Written →
        Along what (units + 1) left_out input (taken + s.taken) before after (written + s.written)
    into_written is = record {
      within = on.within;
      fits = on.fits;
      form = on.form;
      size = on.size;
      output = on.output;
      so_far =
          goes_on what units left_out _ _ _ _ _ _ a.so_far
          (subst
          (λ p.
          Steps what (Ok p) (Some (drop taken input)) (Some (drop (taken + s.taken) input))
          (Some a.form) (Some on.form))
          is on.steps);
    }

    pub into_left_out : s.passed ≡ passes.LeftOut →
        Along what (units + 1) (left_out + 1) input (taken + s.taken) before after
        (written + s.written)
    into_left_out is = record {
      within = on.within;
      fits = on.fits;
      form = on.form;
      size = on.size;
      output = on.output;
      so_far =
          leaves_out what units left_out _ _ _ _ _ _ a.so_far
          (subst
          (λ p.
          Steps what (Ok p) (Some (drop taken input)) (Some (drop (taken + s.taken) input))
          (Some a.form) (Some on.form))
          is on.steps);
    }

  -- the bytes that were taken are those of the units
  front : taken ≡ length a.so_far.us
  front =
      omega (
        arith,
        a.within,
        length-drop taken input,
        ap length a.so_far.taken,
        length-append a.so_far.us (drop taken input),
      )

  pub into_end : (limit : ℕ) (s : Step) (part : List ℕ) → units < limit → s.passed ≡ passes.End →
      Stepped what s (rest_of taken input) (rest_of written now) part →
      NormalisesInto what limit (Ok tt) input before
      (put_mid written (length now - written) now part)
      (record {
        units = units;
        forms = units - left_out;
        taken = taken + s.taken;
        written = written + s.written;
      })
  into_end limit s part lt is did =
      let f = on s part did in
      let (t, w, took, wrote, (e, end, form)) = subst
      (λ p.
      Steps what (Ok p) (Some (drop taken input)) (Some (drop (taken + s.taken) input))
      (Some a.form) (Some f.form))
      is f.steps in
      record {
        viewed = a.so_far.us ++ t;
        left = drop (taken + s.taken) input;
        form = f.form;
        parts =
            a.so_far.taken ∙ ap (λ l. a.so_far.us ++ l) took
            ∙ sym (append_assoc a.so_far.us t (drop (taken + s.taken) input));
        last = t;
        run = record {
          units = a.so_far.us;
          last = t;
          taken_parts = refl;
          meanings = a.so_far.ms;
          are_units = a.so_far.units;
          last_written = w;
          written_parts = wrote ∙ (λ i. a.so_far.written i ++ w);
          counts = (omega (arith, a.so_far.others), omega (arith, a.so_far.counted, lt));
          ends = (e, end, form);
        };
        last_is = refl;
        units = sym a.so_far.counted;
        forms = omega (arith, a.so_far.others);
        taken =
            omega (
              arith,
              front,
              f.within,
              a.within,
              ap length took,
              length-append a.so_far.us t,
              length-drop taken input,
              length-drop (taken + s.taken) input,
              length-append t (drop (taken + s.taken) input),
            );
        written = f.size;
        fits = f.fits;
        output = f.output;
        room = length before - (written + s.written);
        room_is = omega (arith, f.fits);
        stops = tt;
      }

  -- a run that stops at these last bytes, for which nothing is written
  into_stop : (limit : ℕ) (f : IntoFault) (now' last left : List ℕ) (c : Cause) → now' ≡ now →
      drop taken input ≡ last ++ left →
      into_answer (units - left_out) last (Err f) ≡ Err c →
      Counts what limit (Err c) a.so_far.ms → Ends what (Err c) last left [] →
      StopsInto what f last [] (length before - written) →
      NormalisesInto what limit (Err f) input before now'
      (record { units = units; forms = units - left_out; taken = taken; written = written })
  into_stop limit f now' last left c same parts is counts ends stops = record {
    viewed = a.so_far.us ++ last;
    left = left;
    form = a.form;
    parts =
        a.so_far.taken ∙ ap (λ l. a.so_far.us ++ l) parts
        ∙ sym (append_assoc a.so_far.us last left);
    last = last;
    run = record {
      units = a.so_far.us;
      last = last;
      taken_parts = refl;
      meanings = a.so_far.ms;
      are_units = a.so_far.units;
      last_written = [];
      written_parts =
          a.so_far.written ∙ sym (append-nil (forms (written_units what a.so_far.ms)));
      counts = subst (λ r. Counts what limit r a.so_far.ms) (sym is) counts;
      ends = subst (λ r. Ends what r last left []) (sym is) ends;
    };
    last_is = refl;
    units = sym a.so_far.counted;
    forms = omega (arith, a.so_far.others);
    taken = front;
    written = a.size;
    fits = a.fits;
    output = same ∙ a.output;
    room = length before - written;
    room_is = omega (arith, a.fits);
    stops = stops;
  }

  -- at a fault of a step
  room_left : length (rest_of written now) ≡ length before - written
  room_left =
      omega (
        arith,
        ap length (rest_is written now),
        length-drop written now,
        ap length a.output,
        length-append a.form (drop written before),
        a.size,
        length-drop written before,
        a.fits,
      )

  -- there is room for less than this form, so that some of it is missing
  some_missing : (form : List ℕ) (room : ℕ) → room < length form → IsProperPrefix [] form
  some_missing form room less = (form, refl, omega (arith, less))

  pub into_breaks : (limit : ℕ) (f : IntoFault) (part : List ℕ) → units < limit →
      part ≡ rest_of written now →
      StopsStepInto what f (rest_of taken input) (length (rest_of written now)) →
      NormalisesInto what limit (Err f) input before
      (put_mid written (length now - written) now part)
      (record { units = units; forms = units - left_out; taken = taken; written = written })
  into_breaks limit f part lt same stop = by_fault f stop
    where
      kept : put_mid written (length now - written) now part ≡ now
      kept =
          put_is written now part ∙ ap (λ l. take written now ++ l) (same ∙ rest_is written now)
          ∙ take-append-drop written now

      few : length a.so_far.ms < limit
      few = omega (arith, a.so_far.counted, lt)

      by_fault : (f : IntoFault) →
          StopsStepInto what f (rest_of taken input) (length (rest_of written now)) →
          NormalisesInto what limit (Err f) input before
          (put_mid written (length now - written) now part)
          (record { units = units; forms = units - left_out; taken = taken; written = written })
      by_fault NoRoom (last, left, split, (form, is, less)) =
          let smaller : length before - written < length form = omega (arith, less, room_left) in
          into_stop limit NoRoom _ last left by_writer kept (sym (rest_is taken input) ∙ split) refl
          few (form, is, some_missing form (length before - written) smaller)
          ((form, is, smaller), refl)
      by_fault TooMany stop = absurd stop
      by_fault (Refused e) (last, left, split, g, is, ends) =
          into_stop limit (Refused e) _ last left (wrong g) kept (sym (rest_is taken input) ∙ split)
          (ap (λ c. Err c) is) few ends (g, is)

  pub into_full : (limit : ℕ) → units ≡ limit →
      NormalisesInto what limit (Err TooMany) input before now
      (record { units = limit; forms = limit - left_out; taken = taken; written = written })
  into_full limit full =
      subst
      (λ n.
      NormalisesInto what limit (Err TooMany) input before now
      (record { units = n; forms = n - left_out; taken = taken; written = written }))
      full
      (into_stop limit TooMany now [] (drop taken input) too_many refl refl refl
      (a.so_far.counted ∙ full) (refl, refl) tt)
