use Rattle.std.proofs.Common.{◌-◌, inl, inr}
use Rattle.std.proofs.lemmas.List.{length-take-le}
use Rattle.data_history.specs.Next.{ChecksFirst, IsFlawIn, IsLongest, MayBeKept}
use Rattle.std.specs.Prelude.{IfErr, IfOk}
-- Newer data.
use Rattle.std.proofs.Common.{◌≡◌, ◌≤◌, ◌<◌, ◌+◌, ◌^◌, ℕ, List, [], ◌∷◌, ◌++◌, length}
use Rattle.std.proofs.Common.{take, drop, Some, Result, Ok, Err, refl, sym, ap, subst, ◌∙◌}
use Rattle.std.proofs.Common.{append-nil, arith}
use Rattle.std.proofs.lemmas.List.{length-take, take_at}
use Rattle.std.proofs.Common.{map}
use Rattle.std.proofs.lemmas.List.{length-append, length-map}
use Rattle.rtr_units.specs.AnyEnd.{end_bytes, end_meaning}
use Rattle.rtr_units.specs.End.{EndMeaning, IsEnd, end_list}
use Rattle.rtr_units.specs.declared.end.EndOfData.{EndOfData}
use Rattle.rtr_units.proofs.Ends.{end_one}
use Rattle.rtr_wire.proofs.Runs.{forms_are_units}
use Rattle.data_slices.specs.Canonical.{HoldsData, PlacesFront}
use Rattle.data_memory.specs.Changes.{after_all, changes}
use Rattle.data_memory.specs.Data.{Change}
use Rattle.data_memory.specs.Deltas.{change_forms, unit_of}
use Rattle.data_memory.proofs.Delta.{no_changes}
use Rattle.data_slices.proofs.Reapplied.{same_made}
use Rattle.data_history.specs.PrivateRefusals.{NamesWhy}
use Rattle.data_history.proofs.Joining.{units_size}
use Rattle.data_slices.specs.CanonicalChanges.{HoldsChanges}
use Rattle.data_slices.specs.Delta.{Deltas, delta_form}
use Rattle.data_slices.proofs.Answered.{leads, written}
use Rattle.data_slices.proofs.Sent.{holds_delta}
use Rattle.std.specs.declared.cmp.Ordering.TheVariants.{Less}
use Rattle.rtr_base.specs.Serial.{serial_cmp}
use Rattle.data_history.specs.Snapshots.{AreBehind, Snapshot, GoesBack, HoldsHistory, LeadsTo}
use Rattle.data_history.specs.Snapshots.{behind_by}
use Rattle.data_history.specs.Next.{Advances, AreRecent, StartsHistory, ContinuesHistory}
use Rattle.data_history.specs.Next.{KeepsFront, IsShortForNewer}
use Rattle.data_history.specs.declared.room.Room.TheVariants.{Index, Buffer, Spare, Output}
use Rattle.std.proofs.Common.{◌*◌}
use Rattle.data_history.specs.Parts.{part_form, part_rest}
use Rattle.data_history.specs.declared.next.Refused.{Refused}
use Rattle.data_history.specs.declared.next.Refused.TheVariants as refusals
use Rattle.data_history.proofs.Behind.{earlier_by, moved_on}
use Rattle.data_history.proofs.Parts.{formed, formed_length}

-- ---- data that are the same

no_elements : (cs : List Change) → length cs ≡ 0 → cs ≡ []
no_elements [] h = refl
no_elements (c ∷ cs) h = absurd (omega (arith, h))

pub same_snapshot : (x z : Snapshot) → z.payloads ≡ x.payloads → z.end ≡ x.end → z ≡ x
same_snapshot x z p e = (λ i. record { end = e i; payloads = p i })

module _ (new old before after : List ℕ) (n : ℕ) (z x : Snapshot)
    (h : HoldsData new z.payloads z.end) (j : HoldsData old x.payloads x.end)
    (version : z.end.version ≡ x.end.version) (session : z.end.session ≡ x.end.session)
    (w : Deltas (Ok n) new old before after) where
  abbrev forms : List ℕ
  forms = change_forms x.end.version (changes z.payloads x.payloads)

  size_is : n ≡ length forms + length (end_list x.end)
  size_is =
      (written new old before after z.payloads x.payloads z.end x.end h j (Ok n) version session
      w).0
      ∙ length-append forms (end_list x.end)

  -- a delta that is no longer than its end of data has no changes
  pub no_longer : n ≤ length (end_list x.end) → z.payloads ≡ x.payloads
  no_longer le =
      let cs = changes z.payloads x.payloads in
      let held = holds_delta new old z.payloads x.payloads z.end x.end h j version [] in
      let units = forms_are_units held.accepts.sequence.front (map (unit_of x.end.version) cs)
      held.accepts.sequence.units in
      let none : length cs ≡ 0 = omega (
        arith,
        le,
        size_is,
        units_size forms (map (unit_of x.end.version) cs) units,
        length-map cs (unit_of x.end.version),
      ) in
      same_made z.payloads x.payloads
      (ap (λ l. after_all l (Ok z.payloads)) (sym (no_elements cs none))
      ∙ leads new old z.payloads x.payloads z.end x.end h j)

  pub as_long : z.payloads ≡ x.payloads → n ≡ length (end_list x.end)
  as_long same =
      let none : changes z.payloads x.payloads ≡ [] =
      ap (λ d. changes d x.payloads) same ∙ no_changes x.payloads in
      let zero : length forms ≡ 0 = ap (λ l. length (change_forms x.end.version l)) none in
      omega (arith, size_is, zero)

-- ---- data that begin a history

pub begins : (since most : ℕ) (r : Result ℕ Refused) (z x : Snapshot) (ys : List Snapshot) (before
    after : List ℕ) →
    StartsHistory r z before after → Advances since most r z x ys before after
begins since most (Ok n) z x ys before after (fits, h) = (
  fits,
  record {
    front = [];
    others = x ∷ ys;
    parts = refl;
    history = h;
    recent = tt;
    short = omega (arith, ap length h.back);
  },
)
begins since most (Err (refusals.NoRoom r m)) z x ys before after w = tt
begins since most (Err (refusals.Flaw f)) z x ys before after w = absurd w
begins since most (Err (refusals.UnitVersion v)) z x ys before after w = absurd w
begins since most (Err refusals.Same) z x ys before after w = absurd w
begins since most (Err refusals.Times) z x ys before after w = absurd w
begins since most (Err refusals.Serial) z x ys before after w = absurd w
begins since most (Err refusals.Malformed) z x ys before after w = absurd w

-- which slice is too short, where only the new data are written
pub begun : (r : Result ℕ Refused) (old new have out : ℕ) → IsShortForNewer r 0 (16 + new) 0 out →
    IsShortForNewer r (old + new) (32 + 2 * (old + new)) have out
begun (Ok n) old new have out w = tt
begun (Err (refusals.Flaw f)) old new have out w = tt
begun (Err (refusals.UnitVersion v)) old new have out w = tt
begun (Err refusals.Same) old new have out w = tt
begun (Err refusals.Times) old new have out w = tt
begun (Err refusals.Serial) old new have out w = tt
begun (Err refusals.Malformed) old new have out w = tt
begun (Err (refusals.NoRoom Index m)) old new have out w = absurd w
begun (Err (refusals.NoRoom Buffer m)) old new have out w = absurd (omega (arith, w.0, w.1))
begun (Err (refusals.NoRoom Spare m)) old new have out w = absurd w
begun (Err (refusals.NoRoom Output m)) old new have out w = (w.0, omega (arith, w.1))

pub written_front : (n : ℕ) (form before after : List ℕ) →
    PlacesFront (Some n) form before after → take n after ≡ form
written_front n form before after (size, fits, out) =
    ap (take n) out ∙ take_at form (drop n before) n (sym size)

pub alone : (t n : ℕ) (head b before after : List ℕ) (z : Snapshot) → t < 2 ^ 64 →
    length b < 2 ^ 64 →
    head ++ b ≡ part_form t b → HoldsData b z.payloads z.end →
    PlacesFront (Some n) (head ++ b) before after →
    (n ≤ length before) × HoldsHistory (take n after) z []
alone t n head b before after z now lt is h placed =
    let p = formed t b [] now lt in
    let form : take n after ≡ part_form t b ++ [] =
    written_front n (head ++ b) before after placed ∙ is ∙ sym (append-nil (part_form t b)) in (
      placed.1,
      subst (λ l. HoldsHistory l z []) (sym form) (record {
        first = p.has;
        holds = subst (λ l. HoldsData l z.payloads z.end) (sym p.bytes) h;
        back = p.rest;
        order = tt;
      }),
    )

-- ---- newer data of the same session

pub why : (since most : ℕ) (r : Refused) (last end : EndOfData) (size : ℕ) (z x : Snapshot)
    (ys : List Snapshot) (before : List ℕ) → NamesWhy r last end size →
    IsEnd (end_bytes last) x.end → IsEnd (end_bytes end) z.end →
    end_meaning last ≡ x.end → end_meaning end ≡ z.end →
    (size ≤ length (end_list x.end) → z.payloads ≡ x.payloads) →
    (z.payloads ≡ x.payloads → size ≡ length (end_list x.end)) →
    (serial_cmp x.end.serial z.end.serial ≡ Some Less → ⊥) →
    z.end.version ≡ x.end.version → z.end.session ≡ x.end.session →
    Advances since most (Err r) z x ys before before
why since most refusals.Same last end size z x ys before w a b at to less more ne v' s' =
    let same : end_list x.end ++ [] ≡ end_list z.end ++ [] =
    ap (λ l. l ++ []) (sym a.bytes ∙ w.1 ∙ b.bytes) in
    let is = (end_one (end_list x.end) (end_list z.end) [] [] x.end z.end
    (record { fits = a.fits; bytes = refl }) (record { fits = b.fits; bytes = refl }) same).1 in
    (same_snapshot x z (less (omega (arith, w.0, ap length a.bytes))) (sym is), refl)
why since most refusals.Times last end size z x ys before w a b at to less more ne v' s' = (
  record {
    payloads = less (omega (arith, w.0, ap length a.bytes));
    version = v';
    session = s';
    serial = sym (ap (λ (e : EndMeaning). e.serial) to) ∙ sym w.1
        ∙ ap (λ (e : EndMeaning). e.serial) at;
    other = λ e. w.2 (a.bytes ∙ ap (λ (e : EndMeaning). end_list e) (sym e) ∙ sym b.bytes);
  },
  refl,
)
why since most refusals.Serial last end size z x ys before w a b at to less more ne v' s' = (
  record { version = v'; session = s' },
  ne,
  (λ same payloads.
      let longer = w (ap (λ (e : EndMeaning). e.serial) at ∙ same
      ∙ sym (ap (λ (e : EndMeaning). e.serial) to)) in
      absurd (omega (arith, longer, more payloads, ap length a.bytes))),
  refl,
)
why since most (refusals.NoRoom r m) last end size z x ys before w a b at to less more ne v' s' =
    absurd w
why since most (refusals.Flaw f) last end size z x ys before w a b at to less more ne v' s' =
    absurd w
why since most (refusals.UnitVersion v) last end size z x ys before w a b at to less more ne v' s' =
    absurd w
why since most refusals.Malformed last end size z x ys before w a b at to less more ne v' s' =
    absurd w

-- a delta leads back from new data to the old
pub steps_back : (new old before after : List ℕ) (n : ℕ) (z x : Snapshot) →
    HoldsData new z.payloads z.end → HoldsData old x.payloads x.end →
    z.end.version ≡ x.end.version → z.end.session ≡ x.end.session →
    Deltas (Ok n) new old before after → LeadsTo (take n after) z x
steps_back new old before after n z x h j version session w =
    let form = delta_form z.payloads x.payloads x.end in
    let is : take n after ≡ form ++ [] =
    written_front n form before after
    (written new old before after z.payloads x.payloads z.end x.end h j (Ok n) version session w)
    ∙ sym (append-nil form) in
    record {
      changes = changes z.payloads x.payloads;
      holds = subst (λ l. HoldsChanges l (changes z.payloads x.payloads) x.end) (sym is)
          (holds_delta new old z.payloads x.payloads z.end x.end h j version []);
      leads = leads new old z.payloads x.payloads z.end x.end h j;
      version = version;
      session = session;
    }

serial_fits : (b : List ℕ) (x : Snapshot) → HoldsData b x.payloads x.end → x.end.serial < 2 ^ 32
serial_fits b x h = h.accepts.sequence.end.fits.serial

pub goes_on : (since most t n kept : ℕ) (new old step steps before after : List ℕ) (z x : Snapshot)
    (ys : List Snapshot) → t < 2 ^ 64 → since ≤ t → 16 + (length step + kept) ≤ most →
    length new < 2 ^ 64 → length step < 2 ^ 64 →
    HoldsData new z.payloads z.end → HoldsData old x.payloads x.end → LeadsTo step z x →
    AreBehind x.end.serial 0 ys → serial_cmp x.end.serial z.end.serial ≡ Some Less →
    KeepsFront kept steps x ys z.end.serial since →
    PlacesFront (Some n) (part_form t new ++ (part_form t step ++ take kept steps)) before after →
    (n ≤ length before) × ContinuesHistory since most (take n after) z x ys
goes_on since most t n kept new old step steps before after z x ys now since' fits lt lt' h j lead
    order less k placed =
    let p = formed t new (part_form t step ++ take kept steps) now lt in
    let q = formed t step (take kept steps) now lt' in
    let form = part_form t new ++ (part_form t step ++ take kept steps) in
    let near = earlier_by x.end.serial z.end.serial less in
    let later : AreBehind z.end.serial (behind_by x.end.serial z.end.serial) k.front =
    moved_on x.end.serial z.end.serial 0 (behind_by x.end.serial z.end.serial) k.front k.others
    (serial_fits old x j) (serial_fits new z h) near.1 (omega arith)
    (subst (AreBehind x.end.serial 0) k.parts order) k.earlier in
    let back : GoesBack (part_form t step ++ take kept steps) z (x ∷ k.front) = (
      q.has,
      subst (λ l. LeadsTo l z x) (sym q.bytes) lead,
      subst (λ l. GoesBack l x k.front) (sym q.rest) k.back,
    ) in
    let form_is : take n after ≡ form = written_front n form before after placed in
    let recent : AreRecent since (part_rest form) (x ∷ k.front) =
    subst (λ l. AreRecent since l (x ∷ k.front)) (sym p.rest) (
      subst (λ m. since ≤ m) (sym q.time) since',
      subst (λ l. AreRecent since l k.front) (sym q.rest) k.recent,
    ) in
    let history : HoldsHistory form z (x ∷ k.front) = record {
      first = p.has;
      holds = subst (λ l. HoldsData l z.payloads z.end) (sym p.bytes) h;
      back = subst (λ l. GoesBack l z (x ∷ k.front)) (sym p.rest) back;
      order = (near.0, near.1, later);
    } in (
      placed.1,
      record {
        front = x ∷ k.front;
        others = k.others;
        parts = ap (λ l. x ∷ l) k.parts;
        history = subst (λ l. HoldsHistory l z (x ∷ k.front))
            (sym (written_front n form before after placed)) history;
        recent = subst (λ l. AreRecent since (part_rest l) (x ∷ k.front)) (sym form_is) recent;
        short = subst (λ l. length (part_rest l) ≤ most) (sym form_is)
            (subst (λ l. length l ≤ most) (sym p.rest) (omega (
              arith,
              formed_length t step (take kept steps),
              length-take kept steps,
              fits,
            )));
      },
    )

-- ---- that no more may be kept

pub too_long : (t since most : ℕ) (r : Result ℕ Refused) (z x : Snapshot) (new old after : List ℕ) →
    most < 16 + length (delta_form z.payloads x.payloads x.end) →
    IfOk r (λ n. take n after ≡ part_form t new) →
    IfOk r (λ n. IsLongest t since most z x new old (take n after))
too_long t since most (Ok n) z x new old after h form = inl (h, form)
too_long t since most (Err r) z x new old after h form = tt

pub longest_at : (since most t n kept : ℕ) (new step steps old before after : List ℕ)
    (z x : Snapshot) → kept ≤ length steps → steps ≡ part_rest old →
    step ≡ delta_form z.payloads x.payloads x.end → 16 + (length step + kept) ≤ most →
    PlacesFront (Some n) (part_form t new ++ (part_form t step ++ take kept steps)) before after →
    (MayBeKept (drop kept steps) since (most - (16 + (length step + kept))) z.end.serial → ⊥) →
    IsLongest t since most z x new old (take n after)
longest_at since most t n kept new step steps old before after z x le is is' fits placed none =
    let rest = part_form t step ++ take kept steps in
    let size : length rest ≡ 16 + (length step + kept) =
    formed_length t step (take kept steps)
    ∙ ap (λ m. 16 + (length step + m)) (length-take-le kept steps le) in
    inr (
      kept,
      rest,
      written_front n (part_form t new ++ rest) before after placed,
      record {
        form = (λ i. part_form t (is' i) ++ take kept (is i));
        within = subst (λ l. kept ≤ length l) is le;
        short = omega (arith, size, fits);
        longest = λ m. none
            (subst (λ k. MayBeKept (drop kept steps) since (most - k) z.end.serial) size
            (subst (λ l. MayBeKept (drop kept l) since (most - length rest) z.end.serial) (sym is)
            m));
      },
    )

-- ---- bytes that are data

pub checks_first : (r : Result ℕ Refused) (new : List ℕ) → IfErr r (IsFlawIn new) →
    ((z : Snapshot) × HoldsData new z.payloads z.end) → ChecksFirst r new
checks_first (Ok n) new flaw h = h
checks_first (Err (refusals.Flaw f)) new flaw h = flaw
checks_first (Err (refusals.UnitVersion v)) new flaw h = h
checks_first (Err refusals.Same) new flaw h = h
checks_first (Err refusals.Times) new flaw h = h
checks_first (Err refusals.Serial) new flaw h = h
checks_first (Err refusals.Malformed) new flaw h = h
checks_first (Err (refusals.NoRoom room wanted)) new flaw h = h
