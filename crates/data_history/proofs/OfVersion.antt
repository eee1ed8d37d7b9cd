-- What a version has of data and of changes.
use Rattle.std.proofs.Common.{◌≡◌, ◌≤◌, ℕ, Bool, true, false, not, ◌||◌, cond, List, [], ◌∷◌, ◌++◌}
use Rattle.std.proofs.Common.{length}
use Rattle.std.proofs.Common.{map, drop, take, Some, None, Ok, refl, sym, ap, subst, ◌∙◌}
use Rattle.std.proofs.Common.{append-nil}
use Rattle.std.proofs.lemmas.Bool.{false≢true}
use Rattle.std.proofs.lemmas.List.{map-append}
use Rattle.std.proofs.lemmas.List.Elements.{filter_map-append}
use Rattle.std.specs.BTreeMap.{is_at}
use Rattle.std.specs.List.{cons_option, filter, list_any}
use Rattle.std.specs.Ordering.{is_eq}
use Rattle.std.specs.Prelude.{nat_le}
use Rattle.std.specs.declared.cmp.Ordering.{Ordering}
use Rattle.std.specs.declared.cmp.Ordering.TheVariants.{Less, Equal, Greater}
use Rattle.rtr_units.specs.End.{EndMeaning}
use Rattle.rtr_payload.specs.Orders.{payload_cmp}
use Rattle.rtr_payload.specs.Payloads.{Meaning, Payload, origin, key, aspa, smallest_version}
use Rattle.rtr_wire.specs.Into.{NormalisesInto}
use Rattle.rtr_wire.specs.Sequences.{IsSequence, end_for, for_version, sequence_form}
use Rattle.rtr_wire.specs.Sequences.{unit_for, units_for}
use Rattle.rtr_wire.specs.declared.into.Progress.{Progress}
use Rattle.rtr_wire.proofs.InVersion.{sequence_for}
use Rattle.rtr_wire.proofs.OneAnswer.{only_accepted}
use Rattle.rtr_wire.proofs.Runs.{accepted_same}
use Rattle.data_memory.specs.Changes.{announcements, changes, withdrawals}
use Rattle.data_memory.specs.Data.{Change, announcement, has, has_name, name_cmp, name_of}
use Rattle.data_memory.specs.Data.{withdrawal}
use Rattle.data_memory.specs.Deltas.{changes_for, data_for, unit_of}
use Rattle.data_memory.proofs.Names.{very_name}
use Rattle.data_memory.proofs.Versions.{version_data}
use Rattle.data_slices.specs.Canonical.{HoldsData, PlacesFront, data_units}
use Rattle.data_slices.specs.CanonicalChanges.{HoldsChanges}
use Rattle.data_slices.specs.Delta.{delta_form}
use Rattle.data_slices.proofs.Sent.{holds_delta}
use Rattle.std.proofs.lemmas.List.{take_at}

-- ---- payloads of one name are of one kind

one_kind : (p q : Payload) → name_cmp p q ≡ Equal → smallest_version q ≡ smallest_version p
unfolding name_cmp
one_kind (origin a) (origin b) h = refl
one_kind (origin a) (key b) h = absurd cc
one_kind (origin a) (aspa b) h = absurd cc
one_kind (key a) (origin b) h = absurd cc
one_kind (key a) (key b) h = refl
one_kind (key a) (aspa b) h = absurd cc
one_kind (aspa a) (origin b) h = absurd cc
one_kind (aspa a) (key b) h = absurd cc
one_kind (aspa a) (aspa b) h = refl

is_equal : (o : Ordering) → is_eq o ≡ true → o ≡ Equal
is_equal Less h = absurd (false≢true h)
is_equal Equal h = refl
is_equal Greater h = absurd (false≢true h)

equal_at : (c : Payload → Ordering) (q : Payload) → is_at c q ≡ true → c q ≡ Equal
equal_at c q h = is_equal (c q) h

-- ---- what the version has is found among what it has

never : (b : Bool) → (b ≡ true → false ≡ true) → b ≡ false
never true k = absurd (false≢true (k refl))
never false k = refl

module _ (v : ℕ) (t : Payload → Bool)
    (kind : (q : Payload) → t q ≡ true → nat_le (smallest_version q) v ≡ true) where
  any_step : (x : Payload) (ys xs : List Payload) (b : Bool) → (t x ≡ true → b ≡ true) →
      list_any t ys ≡ list_any t xs → list_any t (cond b (x ∷ ys) ys) ≡ list_any t (x ∷ xs)
  any_step x ys xs true k e = ap (λ c. t x || c) e
  any_step x ys xs false k e = e ∙ sym (ap (λ c. c || list_any t xs) (never (t x) k))

  any_for : (d : List Payload) → list_any t (data_for v d) ≡ list_any t d
  any_for [] = refl
  any_for (x ∷ xs) =
      any_step x (data_for v xs) xs (nat_le (smallest_version x) v) (kind x) (any_for xs)

module _ (v : ℕ) (p : Payload) (has_it : nat_le (smallest_version p) v ≡ true) where
  named_kind : (q : Payload) → is_at (name_cmp p) q ≡ true → nat_le (smallest_version q) v ≡ true
  named_kind q h =
      ap (λ n. nat_le n v) (one_kind p q (equal_at (name_cmp p) q h)) ∙ has_it

  very_kind : (q : Payload) → is_at (payload_cmp p) q ≡ true →
      nat_le (smallest_version q) v ≡ true
  very_kind q h =
      ap (λ n. nat_le n v) (one_kind p q (very_name p q (equal_at (payload_cmp p) q h))) ∙ has_it

  name_for : (d : List Payload) → has_name d p ≡ has_name (data_for v d) p
  name_for d = sym (any_for v (is_at (name_cmp p)) named_kind d)

  has_for : (d : List Payload) → has d p ≡ has (data_for v d) p
  has_for d = sym (any_for v (is_at (payload_cmp p)) very_kind d)

-- ---- the units of the payloads that pass a test

picked : (b : Bool) (u : Meaning) (l : List Meaning) →
    cons_option (cond b (Some u) None) l ≡ cond b (u ∷ l) l
picked true u l = refl
picked false u l = refl

module _ (w v : ℕ) (make : Payload → Change)
    (kind : (p : Payload) → smallest_version (make p).payload ≡ smallest_version p)
    (f g : Payload → Bool)
    (same : (p : Payload) → nat_le (smallest_version p) v ≡ true → f p ≡ g p) where
  abbrev made : List Payload → List Meaning
  made ps = units_for v (map (unit_of w) (map make ps))

  abbrev wanted : List Payload → List Meaning
  wanted ps = map (unit_of v) (map make ps)

  one_of : (p : Payload) (b : Bool) (l : List Meaning) → nat_le (smallest_version p) v ≡ b →
      cons_option (unit_for v (unit_of w (make p))) l ≡ cond b (unit_of v (make p) ∷ l) l
  one_of p b l is =
      ap (λ n. cons_option (cond (nat_le n v) (Some (unit_of v (make p))) None) l) (kind p)
      ∙ ap (λ c. cons_option (cond c (Some (unit_of v (make p))) None) l) is
      ∙ picked b (unit_of v (make p)) l

  unit_piece : (p : Payload) (xs ys : List Payload) (d : Bool) →
      nat_le (smallest_version p) v ≡ true → made xs ≡ wanted ys →
      made (cond d (p ∷ xs) xs) ≡ wanted (cond d (p ∷ ys) ys)
  unit_piece p xs ys true is e = one_of p true (made xs) is ∙ ap (λ l. unit_of v (make p) ∷ l) e
  unit_piece p xs ys false is e = e

  step : (p : Payload) (xs ys : List Payload) (b c : Bool) →
      nat_le (smallest_version p) v ≡ b → (b ≡ true → c ≡ g p) → made xs ≡ wanted (filter g ys) →
      made (cond c (p ∷ xs) xs) ≡ wanted (filter g (cond b (p ∷ ys) ys))
  step p xs ys true c is alike e =
      ap (λ b. made (cond b (p ∷ xs) xs)) (alike refl)
      ∙ unit_piece p xs (filter g ys) (g p) is e
  step p xs ys false true is alike e = one_of p false (made xs) is ∙ e
  step p xs ys false false is alike e = e

  units_of : (ps : List Payload) → made (filter f ps) ≡ wanted (filter g (data_for v ps))
  units_of [] = refl
  units_of (p ∷ ps) =
      step p (filter f ps) (data_for v ps) (nat_le (smallest_version p) v) (f p) refl (same p)
      (units_of ps)

-- ---- a delta, and data

name_version : (p : Payload) → smallest_version (name_of p) ≡ smallest_version p
name_version (origin o) = refl
name_version (key k) = refl
name_version (aspa a) = refl

both : (w v : ℕ) (cs ds : List Change) → units_for v (map (unit_of w) (cs ++ ds)) ≡
    units_for v (map (unit_of w) cs) ++ units_for v (map (unit_of w) ds)
both w v cs ds =
    ap (units_for v) (map-append (unit_of w) cs ds)
    ∙ filter_map-append (unit_for v) (map (unit_of w) cs) (map (unit_of w) ds)

pub delta_for : (w v : ℕ) (old new : List Payload) →
    units_for v (map (unit_of w) (changes old new)) ≡ map (unit_of v) (changes_for v old new)
delta_for w v old new =
    let come = units_of w v announcement (λ p. refl) (λ p. not (has old p))
    (λ p. not (has (data_for v old) p)) (λ p is. ap not (has_for v p is old)) new in
    let gone = units_of w v withdrawal name_version (λ p. not (has_name new p))
    (λ p. not (has_name (data_for v new) p)) (λ p is. ap not (name_for v p is new)) old in
    both w v (announcements old new) (withdrawals old new)
    ∙ (λ i. come i ++ gone i)
    ∙ sym (map-append (unit_of v) (announcements (data_for v old) (data_for v new))
    (withdrawals (data_for v old) (data_for v new)))

all_kept : (ps : List Payload) → filter (λ p. true) ps ≡ ps
all_kept [] = refl
all_kept (p ∷ ps) = ap (λ l. p ∷ l) (all_kept ps)

pub data_units_for : (w v : ℕ) (d : List Payload) →
    units_for v (data_units w d) ≡ data_units v (data_for v d)
data_units_for w v d =
    ap (λ l. units_for v (data_units w l)) (sym (all_kept d))
    ∙ units_of w v announcement (λ p. refl) (λ p. true) (λ p. true) (λ p is. refl) d
    ∙ ap (data_units v) (all_kept (data_for v d))

-- what a version has of data, as bytes
abbrev pub form_for : ℕ → List Payload → EndMeaning → List ℕ
form_for v d e = sequence_form (units_for v (data_units e.version d)) (end_for v e)

pub holds_for : (v : ℕ) (b : List ℕ) (d : List Payload) (e : EndMeaning) → v ≤ 2 →
    HoldsData b d e → HoldsData (form_for v d e) (data_for v d) (end_for v e)
holds_for v b d e le h = record {
  bytes = form_for v d e;
  accepts = record {
    rest = [];
    parts = sym (append-nil (form_for v d e));
    sequence = subst (λ ms. IsSequence (form_for v d e) ms (end_for v e))
        (data_units_for e.version v d)
        (sequence_for v h.bytes (data_units e.version d) e le h.accepts.sequence);
  };
  in_order = version_data v d h.in_order;
}

-- ---- what was written for a version

pub written_for : (v limit : ℕ) (input before after : List ℕ) (p : Progress) (cs : List Change)
    (e : EndMeaning) → HoldsChanges input cs e →
    NormalisesInto (for_version v) limit (Ok tt) input before after p →
    PlacesFront (Some p.written) (sequence_form (units_for v (map (unit_of e.version) cs))
    (end_for v e)) before after
written_for v limit input before after p cs e h n =
    let (ms, e', s, counted, lt, is) =
    only_accepted (for_version v) limit p.forms n.viewed n.left n.form n.run in
    let t = accepted_same input n.viewed h.bytes ms (map (unit_of e.version) cs) e' e
    (record { rest = n.left; parts = n.parts; sequence = s }) h.accepts in
    let form : n.form ≡ sequence_form (units_for v (map (unit_of e.version) cs)) (end_for v e) =
    is ∙ (λ i. sequence_form (units_for v (t.1 i)) (end_for v (t.2 i))) in
    (n.written ∙ ap length form, n.fits, n.output ∙ ap (λ l. l ++ drop p.written before) form)

-- the bytes of a delta
pub delta_held : (size : ℕ) (old new before after : List ℕ) (d d' : List Payload)
    (e e' : EndMeaning) → HoldsData old d e → HoldsData new d' e' → e.version ≡ e'.version →
    PlacesFront (Some size) (delta_form d d' e') before after →
    HoldsChanges (take size after) (changes d d') e'
delta_held size old new before after d d' e e' h j version placed =
    let form = delta_form d d' e' in
    let is : take size after ≡ form ++ [] =
    ap (take size) placed.2 ∙ take_at form (drop size before) size (sym placed.0)
    ∙ sym (append-nil form) in
    subst (λ l. HoldsChanges l (changes d d') e') (sym is)
    (holds_delta old new d d' e e' h j version [])

-- what a delta comes to in a version
pub told_for : (v limit size : ℕ) (old new before after out out' : List ℕ) (p : Progress)
    (d d' : List Payload) (e e' : EndMeaning) → HoldsData old d e → HoldsData new d' e' →
    e.version ≡ e'.version → PlacesFront (Some size) (delta_form d d' e') before after →
    NormalisesInto (for_version v) limit (Ok tt) (take size after) out out' p →
    PlacesFront (Some p.written) (delta_form (data_for v d) (data_for v d') (end_for v e')) out out'
told_for v limit size old new before after out out' p d d' e e' h j version placed n =
    subst (λ ms. PlacesFront (Some p.written) (sequence_form ms (end_for v e')) out out')
    (delta_for e'.version v d d')
    (written_for v limit (take size after) out out' p (changes d d') e'
    (delta_held size old new before after d d' e e' h j version placed) n)
