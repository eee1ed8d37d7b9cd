use Rattle.data_history.specs.Next.{MayBeKept}
use Rattle.data_history.proofs.Advancing.{longest_at, too_long, written_front}
use Rattle.data_slices.specs.Delta.{delta_form}
use Rattle.std.proofs.Common.{drop}
use Rattle.std.proofs.lemmas.List.{length-take-le}
use Rattle.std.proofs.Common.{◌+◌, ◌*◌, Ok, Err, inl, inr}
use Rattle.std.proofs.lemmas.Bool.{cases_lt}
use Rattle.data_slices.proofs.Answered.{written}
use Rattle.data_history.proofs.Parts.{part_sizes}
use Rattle.data_history.proofs.Rooms.{delta_fits, delta_size}
use Rattle.std.proofs.Common.{◌≡◌, ◌<◌, ◌≤◌, ◌-◌, ℕ, List, length, arith, Some, false, true, take}
use Rattle.std.proofs.Common.{refl}
use Rattle.std.proofs.Common.{ap, sym, subst, ◌∙◌}
use Rattle.std.proofs.lemmas.List.{length-take}
use Rattle.std.specs.declared.cmp.Ordering.TheVariants.{Less}
use Rattle.rtr_base.specs.Serial.{serial_cmp}
use Rattle.rtr_units.specs.AnyEnd.{end_bytes, end_meaning}
use Rattle.rtr_units.specs.End.{EndMeaning, IsEnd}
use Rattle.rtr_units.specs.declared.end.EndOfData.{EndOfData}
use Rattle.data_slices.specs.Canonical.{HoldsData}
use Rattle.data_slices.proofs.OneData.{one_data}
use Rattle.data_history.specs.Snapshots.{Snapshot, GoesBack, HoldsHistory}
use Rattle.data_history.specs.Next.{KeepsFront, IsShortForNewer}
use Rattle.data_history.specs.Parts.{HasPart, part_bytes, part_rest}
use Rattle.rtr_payload.specs.Payloads.{Payload}
use Rattle.data_history.proofs.Advancing.{as_long, begins, begun, goes_on, no_longer, steps_back}
use Rattle.data_history.proofs.Advancing.{why}
use Rattle.data_history.proofs.next.advance.Goals as goal

-- ---- what each return knows

-- the data that lie in these bytes are those of the snapshots, by their ends
record Known (new present : List ℕ) (z x : Snapshot) (end before : EndOfData) : Type 0 where
  new_data : HoldsData new z.payloads z.end
  old_data : HoldsData present x.payloads x.end
  new_end : end_meaning end ≡ z.end
  old_end : end_meaning before ≡ x.end

same_end : (b : List ℕ) (d : List Payload) (e : EndMeaning) (x : Snapshot) → HoldsData b d e →
    HoldsData b x.payloads x.end → e ≡ x.end
same_end b d e x h j = (one_data b d x.payloads e x.end h j).1

held : (b s : List ℕ) (x : Snapshot) (ys : List Snapshot) → HoldsHistory b x ys → s ≡ part_bytes b →
    HoldsData s x.payloads x.end
held b s x ys h is = subst (λ l. HoldsData l x.payloads x.end) (sym is) h.holds

-- the present data, by their bytes as they were read
read : (b s : List ℕ) (before : EndOfData) → s ≡ part_bytes b →
    ((d : List Payload) × HoldsData (part_bytes b) d (end_meaning before)) →
    ((d : List Payload) × HoldsData s d (end_meaning before))
read b s before is p = (p.0, subst (λ l. HoldsData l p.0 (end_meaning before)) (sym is) p.1)

known : (b new present : List ℕ) (end before : EndOfData) (z x : Snapshot) (ys : List Snapshot) →
    HoldsHistory b x ys → HoldsData new z.payloads z.end → present ≡ part_bytes b →
    ((d : List Payload) × HoldsData new d (end_meaning end)) →
    ((d : List Payload) × HoldsData (part_bytes b) d (end_meaning before)) →
    Known new present z x end before
known b new present end before z x ys h j is p q =
    let k = held b present x ys h is in
    let r = read b present before is q in
    record {
      new_data = j;
      old_data = k;
      new_end = same_end new p.0 (end_meaning end) z p.1 j;
      old_end = same_end present r.0 (end_meaning before) x r.1 k;
    }

-- a field of both ends that the code found equal
same_field : {new present : List ℕ} {z x : Snapshot} {end before : EndOfData} →
    Known new present z x end before → (f : EndMeaning → ℕ) (m n : ℕ) →
    m ≡ f (end_meaning before) → n ≡ f (end_meaning end) → m ≡ n → f z.end ≡ f x.end
same_field t f m n at at' is =
    sym (ap f t.new_end) ∙ sym at' ∙ sym is ∙ at ∙ ap f t.old_end

-- and one that it found to differ
other_field : {new present : List ℕ} {z x : Snapshot} {end before : EndOfData} →
    Known new present z x end before → (f : EndMeaning → ℕ) (m n : ℕ) →
    m ≡ f (end_meaning before) → n ≡ f (end_meaning end) → (m ≡ n → ⊥) → f x.end ≡ f z.end → ⊥
other_field t f m n at at' not same =
    not (at ∙ ap f t.old_end ∙ same ∙ sym (ap f t.new_end) ∙ sym at')

-- serial numbers that the code found in order
later : {new present : List ℕ} {z x : Snapshot} {end before : EndOfData} →
    Known new present z x end before → (m n : ℕ) → m ≡ (end_meaning before).serial →
    n ≡ (end_meaning end).serial → serial_cmp m n ≡ Some Less →
    serial_cmp x.end.serial z.end.serial ≡ Some Less
later t m n at at' less =
    (λ i. serial_cmp (sym (at ∙ ap (λ (e : EndMeaning). e.serial) t.old_end) i)
    (sym (at' ∙ ap (λ (e : EndMeaning). e.serial) t.new_end) i)) ∙ less

sizes : (b s r : List ℕ) → HasPart b → s ≡ part_bytes b → r ≡ part_rest b →
    16 + (length s + length r) ≡ length b
sizes b s r part is is' = (λ i. 16 + (length (is i) + length (is' i))) ∙ part_sizes b part

abbrev the_version : EndMeaning → ℕ
the_version e = e.version

abbrev the_session : EndMeaning → ℕ
the_session e = e.session

abbrev the_serial : EndMeaning → ℕ
the_serial e = e.serial

-- ---- the data

pub returns-then-session-clause-data : goal.returns-then-session-clause-data
returns-then-session-clause-data c = λ x z ys h j.
    begins (c.args.now - c.args.limits.now.time) c.args.limits.now.bytes c.begin.result z x ys
    c.args.output.now c.begin.new.output
    (c.begin.ensures.«data» z j)

pub returns-then-version-clause-data : goal.returns-then-version-clause-data
returns-then-version-clause-data c = λ x z ys h j.
    let t = known c.args.old.now c.args.new.now c.in-Some.part.1.now c.args.end.now
    c.args.before.now z x ys h j c.in-Some.ensures.bytes c.requires.new
    (c.requires.present.1, c.requires.present.2) in (
      same_field t the_session c.session.result c.session-2.result c.session.ensures
          c.session-2.ensures c.if-session.false,
      other_field t the_version c.version.result c.version-2.result c.version.ensures
          c.version-2.ensures c.if-version.true,
      c.version-then-version.ensures ∙ ap the_version t.new_end,
      refl,
    )

pub returns-then-not-is_earlier-clause-data : goal.returns-then-not-is_earlier-clause-data
returns-then-not-is_earlier-clause-data c = λ x z ys h j.
    let t = known c.args.old.now c.args.new.now c.in-Some.part.1.now c.args.end.now
    c.args.before.now z x ys h j c.in-Some.ensures.bytes c.requires.new
    (c.requires.present.1, c.requires.present.2) in
    let version = same_field t the_version c.version.result c.version-2.result c.version.ensures
    c.version-2.ensures c.if-version.false in
    let session = same_field t the_session c.session.result c.session-2.result c.session.ensures
    c.session-2.ensures c.if-session.false in
    let left : c.serial.result.0 ≡ x.end.serial = c.serial.ensures ∙ ap the_serial t.old_end in
    let right : c.serial-2.result.0 ≡ z.end.serial = c.serial-2.ensures ∙ ap the_serial t.new_end in
    why (c.args.now - c.args.limits.now.time) c.args.limits.now.bytes c.not_later.result
    c.args.before.now c.args.end.now c.in-Ok.size z x ys c.args.output.now
    c.not_later.ensures.why
    (subst (IsEnd (end_bytes c.args.before.now)) t.old_end c.requires.before)
    (subst (IsEnd (end_bytes c.args.end.now)) t.new_end c.requires.end)
    t.old_end t.new_end
    (no_longer c.args.new.now c.in-Some.part.1.now c.args.buffer.now c.delta_into.new.output
    c.in-Ok.size z x j t.old_data version session c.in-Ok.ensures)
    (as_long c.args.new.now c.in-Some.part.1.now c.args.buffer.now c.delta_into.new.output
    c.in-Ok.size z x j t.old_data version session c.in-Ok.ensures)
    (λ less.
    let wrong : false ≡ true = c.if-not-is_earlier.ensures.1
    ((λ i. serial_cmp (left i) (right i)) ∙ less) in
    absurd cc) version session

pub returns-then-not-is_earlier-clause-flaw : goal.returns-then-not-is_earlier-clause-flaw
returns-then-not-is_earlier-clause-flaw c = c.not_later.ensures.no_flaw c.args.new.now

pub returns-then-size-most-clause-data : goal.returns-then-size-most-clause-data
returns-then-size-most-clause-data c = λ x z ys h j.
    begins (c.args.now - c.args.limits.now.time) c.args.limits.now.bytes
    c.begin-then-size-most.result z x ys c.args.output.now
    c.begin-then-size-most.new.output (c.begin-then-size-most.ensures.«data» z j)

pub returns-then-limits-lt-HEAD-clause-data : goal.returns-then-limits-lt-HEAD-clause-data
returns-then-limits-lt-HEAD-clause-data c = λ x z ys h j.
    begins (c.args.now - c.args.limits.now.time) c.args.limits.now.bytes
    c.begin-then-limits-lt-HEAD.result z x ys c.args.output.now
    c.begin-then-limits-lt-HEAD.new.output (c.begin-then-limits-lt-HEAD.ensures.«data» z
    j)

pub returns-in-Some-place_history-clause-data : goal.returns-in-Some-place_history-clause-data
returns-in-Some-place_history-clause-data c = λ x z ys h j.
    let t = known c.args.old.now c.args.new.now c.in-Some.part.1.now c.args.end.now
    c.args.before.now z x ys h j c.in-Some.ensures.bytes c.requires.new
    (c.requires.present.1, c.requires.present.2) in
    let version = same_field t the_version c.version.result c.version-2.result c.version.ensures
    c.version-2.ensures c.if-version.false in
    let session = same_field t the_session c.session.result c.session-2.result c.session.ensures
    c.session-2.ensures c.if-session.false in
    let right' : c.serial-3.result.0 ≡ z.end.serial = c.serial-3.ensures ∙ ap the_serial t.new_end
    in
    let less = later t c.serial.result.0 c.serial-2.result.0 c.serial.ensures c.serial-2.ensures
    (c.if-not-is_earlier.ensures.0 refl) in
    let lead = steps_back c.args.new.now c.in-Some.part.1.now c.args.buffer.now
    c.delta_into.new.output
    c.in-Ok.size z x j t.old_data version session c.in-Ok.ensures in
    let back : GoesBack c.in-Some.part.2.now x ys =
    subst (λ r. GoesBack r x ys) (sym c.in-Some.ensures.rest) h.back in
    let step : length (take c.in-Ok.size c.delta_into.new.output) ≤
    c.in-Ok.size =
    omega (arith, length-take c.in-Ok.size c.delta_into.new.output) in
    goes_on (c.args.now - c.args.limits.now.time) c.args.limits.now.bytes c.args.now
    c.in-Some-place_history.size c.kept_front-kept.result c.args.new.now
    c.in-Some.part.1.now (take c.in-Ok.size c.delta_into.new.output)
    c.in-Some.part.2.now c.args.output.now c.place_history.new.output z x ys
    c.ranges.now.fits (omega arith)
    (omega (
      arith,
      step,
      c.kept_front-kept.ensures.short,
      c.if-size-most.false,
      c.if-limits-lt-HEAD.false,
    ))
    c.place_history.ensures.new c.place_history.ensures.step j t.old_data lead h.order less
    (subst (λ m. KeepsFront c.kept_front-kept.result c.in-Some.part.2.now x ys m
    (c.args.now - c.args.limits.now.time)) right'
    (subst (λ m. KeepsFront c.kept_front-kept.result c.in-Some.part.2.now x ys c.serial-3.result.0
    m)
    c.saturating_sub-since.ensures (c.kept_front-kept.ensures.front x ys back)))
    c.in-Some-place_history.ensures.bytes

pub returns-in-None-place_history-clause-data : goal.returns-in-None-place_history-clause-data
returns-in-None-place_history-clause-data c = λ x z ys h j.
    c.no_output.ensures.advances (c.args.now - c.args.limits.now.time) c.args.limits.now.bytes z x
    ys c.args.output.now c.place_history.new.output

pub returns-in-None-place_history-clause-flaw : goal.returns-in-None-place_history-clause-flaw
returns-in-None-place_history-clause-flaw c = c.no_output.ensures.no_flaw c.args.new.now

-- ---- which slice is too short

pub returns-then-session-clause-rooms : goal.returns-then-session-clause-rooms
returns-then-session-clause-rooms c =
    begun c.begin.result (length c.args.old.now) (length c.args.new.now)
    (length c.args.buffer.now) (length c.args.output.now) c.begin.ensures.rooms

pub returns-then-limits-lt-HEAD-clause-rooms : goal.returns-then-limits-lt-HEAD-clause-rooms
returns-then-limits-lt-HEAD-clause-rooms c =
    begun c.begin-then-limits-lt-HEAD.result (length c.args.old.now)
    (length c.args.new.now) (length c.args.buffer.now) (length c.args.output.now)
    c.begin-then-limits-lt-HEAD.ensures.rooms

pub returns-then-size-most-clause-rooms : goal.returns-then-size-most-clause-rooms
returns-then-size-most-clause-rooms c =
    begun c.begin-then-size-most.result (length c.args.old.now) (length c.args.new.now)
    (length c.args.buffer.now) (length c.args.output.now)
    c.begin-then-size-most.ensures.rooms

pub returns-then-not-is_earlier-clause-rooms : goal.returns-then-not-is_earlier-clause-rooms
returns-then-not-is_earlier-clause-rooms c =
    c.not_later.ensures.rooms (length c.args.old.now + length c.args.new.now)
    (32 + 2 * (length c.args.old.now + length c.args.new.now)) (length c.args.buffer.now)
    (length c.args.output.now)

pub returns-in-Err-clause-rooms : goal.returns-in-Err-clause-rooms
returns-in-Err-clause-rooms c =
    let p = c.requires.new in
    let q = read c.args.old.now c.in-Some.part.1.now c.args.before.now
    c.in-Some.ensures.bytes (c.requires.present.1, c.requires.present.2) in
    let version : (end_meaning c.args.end.now).version ≡
    (end_meaning c.args.before.now).version =
    sym c.version-2.ensures ∙ sym c.if-version.false ∙ c.version.ensures in
    let session : (end_meaning c.args.end.now).session ≡
    (end_meaning c.args.before.now).session =
    sym c.session-2.ensures ∙ sym c.if-session.false ∙ c.session.ensures in
    let all = sizes c.args.old.now c.in-Some.part.1.now c.in-Some.part.2.now
    c.in-Some.ensures.is_there c.in-Some.ensures.bytes c.in-Some.ensures.rest in
    subst (λ r. IsShortForNewer (Err r) (length c.args.old.now + length c.args.new.now)
    (32 + 2 * (length c.args.old.now + length c.args.new.now)) (length c.args.buffer.now)
    (length c.args.output.now))
    (sym c.no_room.ensures) (
      elim (cases_lt (length c.args.buffer.now) (length c.args.old.now + length c.args.new.now)) [
        | inl lt ↦ omega (arith, lt)
        | inr le ↦
            absurd (delta_fits c.in-Err.field-0 c.args.new.now c.in-Some.part.1.now
            c.args.buffer.now c.delta_into.new.output p.0 q.0 (end_meaning c.args.end.now)
            (end_meaning c.args.before.now) p.1 q.1 version session
            (written c.args.new.now c.in-Some.part.1.now c.args.buffer.now c.delta_into.new.output
            p.0 q.0 (end_meaning c.args.end.now) (end_meaning c.args.before.now) p.1 q.1
            (Err c.in-Err.field-0) version session c.in-Err.ensures)
            (omega (arith, all, le)))
      ],
      omega arith,
    )

pub returns-in-None-place_history-clause-rooms : goal.returns-in-None-place_history-clause-rooms
returns-in-None-place_history-clause-rooms c =
    let p = c.requires.new in
    let q = read c.args.old.now c.in-Some.part.1.now c.args.before.now
    c.in-Some.ensures.bytes (c.requires.present.1, c.requires.present.2) in
    let version : (end_meaning c.args.end.now).version ≡
    (end_meaning c.args.before.now).version =
    sym c.version-2.ensures ∙ sym c.if-version.false ∙ c.version.ensures in
    let session : (end_meaning c.args.end.now).session ≡
    (end_meaning c.args.before.now).session =
    sym c.session-2.ensures ∙ sym c.if-session.false ∙ c.session.ensures in
    let all = sizes c.args.old.now c.in-Some.part.1.now c.in-Some.part.2.now
    c.in-Some.ensures.is_there c.in-Some.ensures.bytes c.in-Some.ensures.rest in
    let placed = written c.args.new.now c.in-Some.part.1.now c.args.buffer.now
    c.delta_into.new.output p.0 q.0 (end_meaning c.args.end.now)
    (end_meaning c.args.before.now) p.1 q.1 (Ok c.in-Ok.size) version session
    c.in-Ok.ensures in
    let bound = delta_size c.args.new.now c.in-Some.part.1.now p.0 q.0 (end_meaning c.args.end.now)
    (end_meaning c.args.before.now) p.1 q.1 version session in
    let kept = c.kept_front-kept.ensures.within in
    let wanted = 32 + length c.args.new.now + c.in-Ok.size + c.kept_front-kept.result in
    let short : length c.args.output.now < wanted =
    elim (cases_lt (length c.args.output.now) wanted) [
      | inl lt ↦ lt
      | inr le ↦
          let some : false ≡ true = c.in-None-place_history.ensures.enough (omega (
            arith,
            le,
            length-take c.in-Ok.size c.delta_into.new.output,
            length-take c.kept_front-kept.result c.in-Some.part.2.now,
          )) in
          absurd cc
    ] in
    let most = 32 + 2 * (length c.args.old.now + length c.args.new.now) in
    subst (λ o. IsShortForNewer (Err c.no_output.result) (length c.args.old.now + length
    c.args.new.now)
    most (length c.args.buffer.now) o) c.place_history.auto.output
    (c.no_output.ensures.rooms (length c.args.old.now + length c.args.new.now) most
    (length c.args.buffer.now) (omega (arith, short, c.place_history.auto.output))
    (omega (arith, all, placed.0, bound, kept)))

-- ---- as much as may be

pub returns-then-session-clause-longest : goal.returns-then-session-clause-longest
returns-then-session-clause-longest c = λ x z ys h j same.
    let t = known c.args.old.now c.args.new.now c.in-Some.part.1.now c.args.end.now
    c.args.before.now z x ys h j c.in-Some.ensures.bytes c.requires.new
    (c.requires.present.1, c.requires.present.2) in
    absurd (other_field t the_session c.session.result c.session-2.result c.session.ensures
    c.session-2.ensures c.if-session.true (sym same))

pub returns-then-limits-lt-HEAD-clause-longest : goal.returns-then-limits-lt-HEAD-clause-longest
returns-then-limits-lt-HEAD-clause-longest c = λ x z ys h j same.
    too_long c.args.now (c.args.now - c.args.limits.now.time) c.args.limits.now.bytes
    c.begin-then-limits-lt-HEAD.result z x c.args.new.now c.args.old.now
    c.begin-then-limits-lt-HEAD.new.output (omega (arith, c.if-limits-lt-HEAD.true))
    c.begin-then-limits-lt-HEAD.ensures.form

pub returns-then-size-most-clause-longest : goal.returns-then-size-most-clause-longest
returns-then-size-most-clause-longest c = λ x z ys h j same.
    let t = known c.args.old.now c.args.new.now c.in-Some.part.1.now c.args.end.now
    c.args.before.now z x ys h j c.in-Some.ensures.bytes c.requires.new
    (c.requires.present.1, c.requires.present.2) in
    let version = same_field t the_version c.version.result c.version-2.result c.version.ensures
    c.version-2.ensures c.if-version.false in
    let placed = written c.args.new.now c.in-Some.part.1.now c.args.buffer.now
    c.delta_into.new.output z.payloads x.payloads z.end x.end j t.old_data
    (Ok c.in-Ok.size) version same c.in-Ok.ensures in
    too_long c.args.now (c.args.now - c.args.limits.now.time) c.args.limits.now.bytes
    c.begin-then-size-most.result z x c.args.new.now c.args.old.now
    c.begin-then-size-most.new.output
    (omega (arith, placed.0, c.if-size-most.true, c.if-limits-lt-HEAD.false))
    c.begin-then-size-most.ensures.form

pub returns-in-Some-place_history-clause-longest : goal.returns-in-Some-place_history-clause-longest
returns-in-Some-place_history-clause-longest c = λ x z ys h j same.
    let t = known c.args.old.now c.args.new.now c.in-Some.part.1.now c.args.end.now
    c.args.before.now z x ys h j c.in-Some.ensures.bytes c.requires.new
    (c.requires.present.1, c.requires.present.2) in
    let version = same_field t the_version c.version.result c.version-2.result c.version.ensures
    c.version-2.ensures c.if-version.false in
    let right' : c.serial-3.result.0 ≡ z.end.serial = c.serial-3.ensures ∙ ap the_serial t.new_end
    in
    let placed = written c.args.new.now c.in-Some.part.1.now c.args.buffer.now
    c.delta_into.new.output z.payloads x.payloads z.end x.end j t.old_data
    (Ok c.in-Ok.size) version same c.in-Ok.ensures in
    let size = c.in-Ok.size in
    let kept = c.kept_front-kept.result in
    let step : length (take size c.delta_into.new.output) ≡ size =
    length-take-le size c.delta_into.new.output
    (omega (arith, placed.1, c.delta_into.auto.output)) in
    let left : c.args.limits.now.bytes - (16 + (length (take size c.delta_into.new.output) + kept))
    ≡
    (c.args.limits.now.bytes - 16 - size) - kept = omega (arith, step) in
    longest_at (c.args.now - c.args.limits.now.time) c.args.limits.now.bytes c.args.now
    c.in-Some-place_history.size kept c.args.new.now (take size c.delta_into.new.output)
    c.in-Some.part.2.now c.args.old.now c.args.output.now c.place_history.new.output z x
    c.kept_front-kept.ensures.within c.in-Some.ensures.rest
    (written_front size (delta_form z.payloads x.payloads x.end) c.args.buffer.now
    c.delta_into.new.output placed)
    (omega (
      arith,
      step,
      c.kept_front-kept.ensures.short,
      c.if-size-most.false,
      c.if-limits-lt-HEAD.false,
    ))
    c.in-Some-place_history.ensures.bytes
    (λ m. c.kept_front-kept.ensures.longest
    (subst (λ s. MayBeKept (drop kept c.in-Some.part.2.now) s
    ((c.args.limits.now.bytes - 16 - size) - kept) c.serial-3.result.0)
    (sym c.saturating_sub-since.ensures)
    (subst (λ s. MayBeKept (drop kept c.in-Some.part.2.now)
    (c.args.now - c.args.limits.now.time) ((c.args.limits.now.bytes - 16 - size) - kept) s)
    (sym right')
    (subst (λ r. MayBeKept (drop kept c.in-Some.part.2.now)
    (c.args.now - c.args.limits.now.time) r z.end.serial) left m))))

-- ---- data of another session

pub returns-then-session-clause-alone : goal.returns-then-session-clause-alone
returns-then-session-clause-alone c = λ x z ys h j other. c.begin.ensures.form

pub returns-then-limits-lt-HEAD-clause-alone : goal.returns-then-limits-lt-HEAD-clause-alone
returns-then-limits-lt-HEAD-clause-alone c = λ x z ys h j other.
    c.begin-then-limits-lt-HEAD.ensures.form

pub returns-then-size-most-clause-alone : goal.returns-then-size-most-clause-alone
returns-then-size-most-clause-alone c = λ x z ys h j other. c.begin-then-size-most.ensures.form

pub returns-in-Some-place_history-clause-alone : goal.returns-in-Some-place_history-clause-alone
returns-in-Some-place_history-clause-alone c = λ x z ys h j other.
    let t = known c.args.old.now c.args.new.now c.in-Some.part.1.now c.args.end.now
    c.args.before.now z x ys h j c.in-Some.ensures.bytes c.requires.new
    (c.requires.present.1, c.requires.present.2) in
    absurd (other (same_field t the_session c.session.result c.session-2.result c.session.ensures
    c.session-2.ensures c.if-session.false))

-- ---- that the serial number is later

pub returns-then-session-clause-newer : goal.returns-then-session-clause-newer
returns-then-session-clause-newer c = λ x z ys h j same ok.
    let t = known c.args.old.now c.args.new.now c.in-Some.part.1.now c.args.end.now
    c.args.before.now z x ys h j c.in-Some.ensures.bytes c.requires.new
    (c.requires.present.1, c.requires.present.2) in
    absurd (other_field t the_session c.session.result c.session-2.result c.session.ensures
    c.session-2.ensures c.if-session.true (sym same))

pub returns-then-limits-lt-HEAD-clause-newer : goal.returns-then-limits-lt-HEAD-clause-newer
returns-then-limits-lt-HEAD-clause-newer c = λ x z ys h j same ok.
    let t = known c.args.old.now c.args.new.now c.in-Some.part.1.now c.args.end.now
    c.args.before.now z x ys h j c.in-Some.ensures.bytes c.requires.new
    (c.requires.present.1, c.requires.present.2) in
    later t c.serial.result.0 c.serial-2.result.0 c.serial.ensures c.serial-2.ensures
    (c.if-not-is_earlier.ensures.0 refl)

pub returns-then-size-most-clause-newer : goal.returns-then-size-most-clause-newer
returns-then-size-most-clause-newer c = λ x z ys h j same ok.
    let t = known c.args.old.now c.args.new.now c.in-Some.part.1.now c.args.end.now
    c.args.before.now z x ys h j c.in-Some.ensures.bytes c.requires.new
    (c.requires.present.1, c.requires.present.2) in
    later t c.serial.result.0 c.serial-2.result.0 c.serial.ensures c.serial-2.ensures
    (c.if-not-is_earlier.ensures.0 refl)

pub returns-in-Some-place_history-clause-newer : goal.returns-in-Some-place_history-clause-newer
returns-in-Some-place_history-clause-newer c = λ x z ys h j same ok.
    let t = known c.args.old.now c.args.new.now c.in-Some.part.1.now c.args.end.now
    c.args.before.now z x ys h j c.in-Some.ensures.bytes c.requires.new
    (c.requires.present.1, c.requires.present.2) in
    later t c.serial.result.0 c.serial-2.result.0 c.serial.ensures c.serial-2.ensures
    (c.if-not-is_earlier.ensures.0 refl)

-- ---- how long it is

pub returns-then-session-clause-within : goal.returns-then-session-clause-within
returns-then-session-clause-within c = c.begin.ensures.within

pub returns-then-limits-lt-HEAD-clause-within : goal.returns-then-limits-lt-HEAD-clause-within
returns-then-limits-lt-HEAD-clause-within c = c.begin-then-limits-lt-HEAD.ensures.within

pub returns-then-size-most-clause-within : goal.returns-then-size-most-clause-within
returns-then-size-most-clause-within c = c.begin-then-size-most.ensures.within

pub returns-in-Some-place_history-clause-within : goal.returns-in-Some-place_history-clause-within
returns-in-Some-place_history-clause-within c = c.in-Some-place_history.ensures.bytes.1
