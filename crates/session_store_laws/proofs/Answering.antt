-- What is written of a history is the answer of a cache's machine.
use Rattle.std.proofs.Common.{◌≡◌, ◌++◌, ◌⊎◌, ℕ, Bool, true, false, List, [], ◌∷◌, take, drop}
use Rattle.std.proofs.Common.{Option, Some, None, Ok, refl, sym, ap, ◌∙◌, subst, inl, inr}
use Rattle.std.proofs.Common.{if◌then◌else◌, ◌==◌, ◌||◌}
use Rattle.std.proofs.lemmas.Bool.Decides.{eqb_tells}
use Rattle.std.proofs.lemmas.List.{take_at}
use Rattle.std.specs.Prelude.{IsSome, unwrap_or}
use Rattle.rtr_units.specs.End.{end_list}
use Rattle.rtr_units.specs.Queries.{bare_list}
use Rattle.rtr_wire.specs.Into.{NormalisesInto}
use Rattle.rtr_wire.specs.Sequences.{end_for, for_version, sequence_form, units_for}
use Rattle.rtr_wire.specs.declared.into.Progress.{Progress}
use Rattle.rtr_wire.proofs.OneAnswer.{only_accepted}
use Rattle.rtr_wire.proofs.Runs.{accepted_same}
use Rattle.data_memory.specs.Changes.{changes}
use Rattle.data_memory.specs.Deltas.{all_for, change_forms, data_for}
use Rattle.data_slices.specs.Canonical.{HoldsData, data_units}
use Rattle.data_slices.specs.Delta.{delta_form}
use Rattle.data_history.specs.Parts.{part_rest}
use Rattle.data_history.specs.Serials.{serials_of}
use Rattle.data_history.specs.Since.{WritesChangesSince}
use Rattle.data_history.specs.Snapshots.{GoesBack, HoldsHistory, Snapshot, snapshot_at}
use Rattle.data_history.specs.Stored.{IsStored}
use Rattle.data_history.proofs.OfVersion.{data_units_for}
use Rattle.session_cache.specs.CacheRules.{GivesChanges}
use Rattle.session_cache.specs.Worlds.{IsIn}
use Rattle.session_cache.specs.declared.cache.Cache.{Cache}
use Rattle.session_cache.specs.declared.event.Answer.TheVariants as answers
use Rattle.session_bytes.specs.Answered.{opening_bytes}
use Rattle.session_bytes.specs.Serving.{HearsRouter, is_kept}
use Rattle.session_bytes.specs.declared.serving.Served.TheVariants as served
use Rattle.session_laws.specs.Editions.{PayloadEdition}
use Rattle.session_laws.specs.Written.{CacheWrites, IsSentFrom, end_of_edition}
use Rattle.session_server_laws.specs.Services.{Turn, WritesTurn}
use Rattle.session_store_laws.specs.ServedData.{AreHad, IsEditionOf}

abbrev serial : Snapshot → ℕ
serial x = x.end.serial

-- ---- the history has the data of each serial number that it lists

here_or : (n : ℕ) (x : Snapshot) (o : Option Snapshot) → ((serial x ≡ n → ⊥) → IsSome o)
    → IsSome (if serial x == n then Some x else o)
here_or n x o rest = go (eqb_tells (serial x) n)
  where
    go : (((serial x == n) ≡ true) × (serial x ≡ n))
        ⊎ (((serial x == n) ≡ false) × (serial x ≡ n → ⊥))
        → IsSome (if serial x == n then Some x else o)
    go (inl d) = subst (λ (b : Bool). IsSome (if b then Some x else o)) (sym d.0) refl
    go (inr d) = subst (λ (b : Bool). IsSome (if b then Some x else o)) (sym d.0) (rest d.1)

first : (n : ℕ) (x : Snapshot) (ys : List Snapshot) → serial x ≡ n → IsSome (snapshot_at n x ys)
first n x [] is = here_or n x None (λ ne. absurd (ne is))
first n x (y ∷ ys) is = here_or n x (snapshot_at n y ys) (λ ne. absurd (ne is))

listed : (n : ℕ) (x : Snapshot) (ys : List Snapshot) → is_kept (serials_of ys) n ≡ true
    → IsSome (snapshot_at n x ys)
listed n x [] kept = absurd cc
listed n x (y ∷ ys) kept =
    here_or n x (snapshot_at n y ys) (λ ne. go (listed n y ys) (eqb_tells (serial y) n))
  where
    go : (is_kept (serials_of ys) n ≡ true → IsSome (snapshot_at n y ys))
        → (((serial y == n) ≡ true) × (serial y ≡ n))
        ⊎ (((serial y == n) ≡ false) × (serial y ≡ n → ⊥)) → IsSome (snapshot_at n y ys)
    go further (inl d) = first n y ys d.1
    go further (inr d) = further (sym (λ i. (d.0 i) || is_kept (serials_of ys) n) ∙ kept)

pub finds : (c after : Cache) (now size since : ℕ) (input : List ℕ) (ended : Bool)
    (x : Snapshot) (ys : List Snapshot) (p : PayloadEdition) → IsEditionOf x p
    → HearsRouter c now p.name (serials_of ys) input ended
    (served.Answered size (answers.Changes since)) after → IsSome (snapshot_at since x ys)
finds c after now size since input ended x ys p is heard = go gives.known.serial
  where
    gives : GivesChanges c now p.name heard.head (is_kept (serials_of ys) heard.head.serial) since
        after
    gives = heard.step.rule.1

    go : (is_kept (serials_of ys) heard.head.serial ≡ true)
        ⊎ (heard.head.serial ≡ p.name.serial) → IsSome (snapshot_at since x ys)
    go (inl kept) =
        subst (λ (n : ℕ). IsSome (snapshot_at n x ys)) (sym gives.since_is)
        (listed heard.head.serial x ys kept)
    go (inr same) = first since x ys (sym is.serial ∙ sym same ∙ sym gives.since_is)

-- ---- what is found is of the history

-- it is this one, or another
here_or_not : (n : ℕ) (x y : Snapshot) (o : Option Snapshot)
    → (if serial x == n then Some x else o) ≡ Some y
    → ((x ≡ y) × (serial y ≡ n)) ⊎ (o ≡ Some y)
here_or_not n x y o e = go (eqb_tells (serial x) n)
  where
    go : (((serial x == n) ≡ true) × (serial x ≡ n))
        ⊎ (((serial x == n) ≡ false) × (serial x ≡ n → ⊥))
        → ((x ≡ y) × (serial y ≡ n)) ⊎ (o ≡ Some y)
    go (inl d) =
        let t : Some x ≡ Some y = sym (λ i. if d.0 i then Some x else o) ∙ e in
        let same : x ≡ y = cc in
        inl (same, sym (ap serial same) ∙ d.1)
    go (inr d) = inr (sym (λ i. if d.0 i then Some x else o) ∙ e)

pub at_serial : (n : ℕ) (x : Snapshot) (ys : List Snapshot) (y : Snapshot)
    → snapshot_at n x ys ≡ Some y → IsIn (x ∷ ys) y × (serial y ≡ n)
at_serial n x [] y e = elim (here_or_not n x y None e) [
  | inl d ↦ (inl d.0, d.1)
  | inr none ↦ absurd (let t : None ≡ Some y = none in cc)
]
at_serial n x (z ∷ zs) y e = elim (here_or_not n x y (snapshot_at n z zs) e) [
  | inl d ↦ (inl d.0, d.1)
  | inr there ↦
      let t : IsIn (z ∷ zs) y × (serial y ≡ n) = at_serial n z zs y there in
      (inr t.0, t.1)
]

pub one_session : (b : List ℕ) (x : Snapshot) (ys : List Snapshot) (y : Snapshot) → GoesBack b x ys
    → IsIn (x ∷ ys) y → y.end.session ≡ x.end.session
one_session b x [] y back (inl is) = ap (λ (z : Snapshot). z.end.session) (sym is)
one_session b x [] y back (inr i) = absurd i
one_session b x (z ∷ zs) y back (inl is) = ap (λ (z : Snapshot). z.end.session) (sym is)
one_session b x (z ∷ zs) y back (inr i) =
    one_session (part_rest b) z zs y back.2 i ∙ sym back.1.session

pub edition_at : (had : List PayloadEdition) (xs : List Snapshot) (y : Snapshot) → AreHad had xs
    → IsIn xs y → (e : PayloadEdition) × IsIn had e × IsEditionOf y e
edition_at had [] y are i = absurd i
edition_at had (x ∷ xs) y are (inl is) =
    subst (λ (z : Snapshot). (e : PayloadEdition) × IsIn had e × IsEditionOf z e) is are.0
edition_at had (x ∷ xs) y are (inr i) = edition_at had xs y are.1 i

-- ---- the bytes

pub same_end : (v : ℕ) (x : Snapshot) (p : PayloadEdition) → IsEditionOf x p
    → end_of_edition v p ≡ end_for v x.end
same_end v x p is =
    (λ i. record {
      version = v;
      session = is.session i;
      serial = is.serial i;
      timing = if v == 0 then None else Some (is.times i);
    })

abbrev ChangesFrom : List PayloadEdition → (version since size : ℕ) → PayloadEdition
    → (opening after : List ℕ) → Type 0
ChangesFrom had v n size p opening after =
    (old : PayloadEdition) × IsSentFrom had p (answers.Changes n) old
    × CacheWrites v old p (answers.Changes n) (opening ++ take size after)

changes_from : (had : List PayloadEdition) (version since size : ℕ)
    (history opening before after : List ℕ) (x : Snapshot) (ys : List Snapshot)
    (p : PayloadEdition) → HoldsHistory history x ys → AreHad had (x ∷ ys) → IsEditionOf x p
    → opening_bytes version (answers.Changes since) p.name ≡ Some opening
    → WritesChangesSince version (Ok size) (snapshot_at since x ys) x before after
    → ChangesFrom had version since size p opening after
changes_from had v n size history opening before after x ys p h are is opened written =
    go (snapshot_at n x ys) refl written
  where
    open_is : opening ≡ bare_list v 3 p.name.session
    open_is = sym (ap (λ (o : Option (List ℕ)). unwrap_or o []) opened)

    go : (o : Option Snapshot) → snapshot_at n x ys ≡ o
        → WritesChangesSince v (Ok size) o x before after
        → ChangesFrom had v n size p opening after
    go None at w = absurd w
    go (Some y) at w =
        let t : IsIn (x ∷ ys) y × (serial y ≡ n) = at_serial n x ys y at in
        let e : (e : PayloadEdition) × IsIn had e × IsEditionOf y e =
        edition_at had (x ∷ ys) y are t.0 in
        let form : List ℕ =
        delta_form (data_for v y.payloads) (data_for v x.payloads) (end_for v x.end) in
        let front : take size after ≡ form =
        ap (take size) w.2 ∙ take_at form (drop size before) size (sym w.0) in
        let back = one_session (part_rest history) x ys y h.back t.0 in (
          e.0,
          (
            e.2.has,
            e.1,
            e.2.session ∙ back ∙ sym is.session,
            e.2.serial ∙ t.1,
          ),
          (λ i. open_is i ++ front i)
              ∙ (λ i. bare_list v 3 p.name.session
              ++ (change_forms v (changes (data_for v (sym e.2.payloads i))
              (data_for v (sym is.payloads i)))
              ++ end_list (sym (same_end v x p is) i))),
        )

all_bytes : (version limit : ℕ) (input opening before after : List ℕ) (progress : Progress)
    (x : Snapshot) (p : PayloadEdition) → HoldsData input x.payloads x.end → IsEditionOf x p
    → opening_bytes version answers.All p.name ≡ Some opening
    → NormalisesInto (for_version version) limit (Ok tt) input before after progress
    → CacheWrites version p p answers.All (opening ++ take progress.written after)
all_bytes v limit input opening before after p x e h is opened n =
    let (ms, end, s, counted, lt, form) =
    only_accepted (for_version v) limit p.forms n.viewed n.left n.form n.run in
    let same = accepted_same input n.viewed h.bytes ms (data_units x.end.version x.payloads) end
    x.end (record { rest = n.left; parts = n.parts; sequence = s }) h.accepts in
    let all : n.form ≡ sequence_form (data_units v (data_for v x.payloads)) (end_for v x.end) =
    form
    ∙ (λ i. sequence_form (units_for v (same.1 i)) (end_for v (same.2 i)))
    ∙ ap (λ us. sequence_form us (end_for v x.end))
    (data_units_for x.end.version v x.payloads) in
    let open_is : opening ≡ bare_list v 3 e.name.session =
    sym (ap (λ (o : Option (List ℕ)). unwrap_or o []) opened) in
    let front : take p.written after ≡ n.form =
    ap (take p.written) n.output
    ∙ take_at n.form (drop p.written before) p.written (sym n.written) in
    (λ i. open_is i ++ (front ∙ all) i)
    ∙ (λ i. bare_list v 3 e.name.session
    ++ (change_forms v (all_for v (sym is.payloads i)) ++ end_list (sym (same_end v x e is) i)))

-- ---- what a host writes at a turn

pub writes : (had : List PayloadEdition) (t : Turn) (since size : ℕ)
    (history opening before after : List ℕ) (x : Snapshot) (ys : List Snapshot)
    → HoldsHistory history x ys → AreHad had (x ∷ ys) → IsIn had t.present
    → IsEditionOf x t.present → t.answer ≡ answers.Changes since
    → opening_bytes t.version t.answer t.present.name ≡ Some opening
    → WritesChangesSince t.version (Ok size) (snapshot_at since x ys) x before after
    → t.bytes ≡ opening ++ take size after
    → (old : PayloadEdition) × WritesTurn had t.version (record t { old = old })
writes had t n size history opening before after x ys h are has is at opened written bytes =
    let c : ChangesFrom had t.version n size t.present opening after =
    changes_from had t.version n size history opening before after x ys t.present h are is
    (subst (λ a. opening_bytes t.version a t.present.name ≡ Some opening) at opened) written in (
      c.0,
      record {
        version_is = refl;
        present = has;
        from = subst (λ a. IsSentFrom had t.present a c.0) (sym at) c.1;
        bytes = subst (λ a. CacheWrites t.version c.0 t.present a t.bytes) (sym at)
            (bytes ∙ c.2);
      },
    )

pub all_written : (had : List PayloadEdition) (t : Turn) (limit : ℕ)
    (input opening before after : List ℕ) (progress : Progress) (x : Snapshot)
    → HoldsData input x.payloads x.end → IsIn had t.present → IsEditionOf x t.present
    → t.answer ≡ answers.All → opening_bytes t.version t.answer t.present.name ≡ Some opening
    → NormalisesInto (for_version t.version) limit (Ok tt) input before after progress
    → t.bytes ≡ opening ++ take progress.written after → WritesTurn had t.version t
all_written had t limit input opening before after p x h has is at opened n bytes =
    record {
      version_is = refl;
      present = has;
      from = subst (λ a. IsSentFrom had t.present a t.old) (sym at) tt;
      bytes = subst (λ a. CacheWrites t.version t.old t.present a t.bytes) (sym at)
          (bytes ∙ all_bytes t.version limit input opening before after p x t.present h is
          (subst (λ a. opening_bytes t.version a t.present.name ≡ Some opening) at opened) n);
    }

-- ---- what was stored

front_had : (had : List PayloadEdition) (xs others : List Snapshot) → AreHad had (xs ++ others)
    → AreHad had xs
front_had had [] others are = tt
front_had had (x ∷ xs) others are = (are.0, front_had had xs others are.1)

abbrev pub StoredHistories : Type 0
StoredHistories =
    (stored : List Snapshot) (b : List ℕ) → IsStored stored b
    → (x : Snapshot) × (ys : List Snapshot) × (others : List Snapshot) × HoldsHistory b x ys
    × (stored ≡ (x ∷ ys) ++ others)

pub kept_had : StoredHistories → (had : List PayloadEdition) (stored : List Snapshot)
    (history : List ℕ) → IsStored stored history → AreHad had stored
    → (x : Snapshot) × (ys : List Snapshot) × HoldsHistory history x ys × AreHad had (x ∷ ys)
kept_had law had stored history was are =
    let s : (x : Snapshot) × (ys : List Snapshot) × (others : List Snapshot)
    × HoldsHistory history x ys × (stored ≡ (x ∷ ys) ++ others) = law stored history was in (
      s.0,
      s.1,
      s.3,
      front_had had (s.0 ∷ s.1) s.2 (subst (AreHad had) s.4 are),
    )
