-- Forms of data and of deltas, as units.
use Rattle.std.proofs.Common.{◌≡◌, ℕ, Bool, true, false, not, ◌||◌, cond, List, [], ◌∷◌}
use Rattle.std.proofs.Common.{◌++◌, drop, map, refl, sym, ap, subst, ◌∙◌, arith, take}
use Rattle.std.proofs.lemmas.List.Kept.{IsStrictlySortedBy-filter}
use Rattle.std.specs.List.{AllByRecursion, filter}
use Rattle.std.specs.Ordering.{is_eq}
use Rattle.rtr_base.specs.Bytes.{IsBytes}
use Rattle.rtr_base.proofs.Numbers.{IsBytes-append, IsBytes-cons, IsBytes-drop, IsBytes-take}
use Rattle.rtr_units.specs.End.{EndMeaning, end_list}
use Rattle.rtr_units.specs.PrefixUnits.{prefix_list}
use Rattle.rtr_units.proofs.Ends.{end_made}
use Rattle.rtr_payload.specs.AspaUnits.{aspa_list}
use Rattle.rtr_payload.specs.KeyUnits.{key_list}
use Rattle.rtr_payload.specs.Payloads.{Meaning, Payload}
use Rattle.rtr_payload.specs.UnitFields.{Fields, Fit, LengthsAgree, WithinLimits}
use Rattle.rtr_payload.specs.UnitFields.{aspa_unit, key_unit, meaning, prefix_unit, unit_list}
use Rattle.rtr_payload.specs.Units.{IsUnit, form_of}
use Rattle.rtr_payload.proofs.ByFields.{unit_fields_of, unit_of_fields}
use Rattle.rtr_payload.proofs.Fields.{form_is_unit}
use Rattle.rtr_wire.specs.Sequences.{AreUnits}
use Rattle.data_memory.specs.Changes.{changes, withdrawals}
use Rattle.data_memory.specs.Data.{Change, announcement, has, has_name, name_cmp, withdrawal}
use Rattle.data_memory.specs.Deltas.{change_forms, unit_of}
use Rattle.data_slices.specs.Canonical.{HoldsData, data_units}
use Rattle.data_slices.specs.CanonicalChanges.{AreOrdered, HoldsChanges}
use Rattle.data_slices.specs.Delta.{delta_form}
use Rattle.data_slices.proofs.Making.{or_parts}

-- the form of the change's unit is a unit
abbrev pub IsSent : ℕ → Change → Type 0
IsSent v c = IsUnit (form_of (unit_of v c)) (unit_of v c)

-- ---- a unit that announces, turned into one that withdraws

withdrawn_fields : Fields → Fields
withdrawn_fields (prefix_unit u) = prefix_unit (record u { flags = 0 })
withdrawn_fields (key_unit u) = key_unit (record u { flags = 0 })
withdrawn_fields (aspa_unit u) = aspa_unit (record u { flags = 0 })

withdrawn_bytes : (u : Fields) → IsBytes (unit_list u) → IsBytes (unit_list (withdrawn_fields u))
unfolding withdrawn_fields
withdrawn_bytes (prefix_unit u) h =
    IsBytes-append (take 8 (prefix_list u)) (0 ∷ drop 9 (prefix_list u))
    (IsBytes-take 8 (prefix_list u) h)
    (IsBytes-cons 0 (drop 9 (prefix_list u)) (omega arith) (IsBytes-drop 9 (prefix_list u) h))
withdrawn_bytes (key_unit u) h =
    IsBytes-append (take 2 (key_list u)) (0 ∷ drop 3 (key_list u)) (IsBytes-take 2 (key_list u) h)
    (IsBytes-cons 0 (drop 3 (key_list u)) (omega arith) (IsBytes-drop 3 (key_list u) h))
withdrawn_bytes (aspa_unit u) h =
    IsBytes-append (take 2 (aspa_list u)) (0 ∷ drop 3 (aspa_list u))
    (IsBytes-take 2 (aspa_list u) h)
    (IsBytes-cons 0 (drop 3 (aspa_list u)) (omega arith) (IsBytes-drop 3 (aspa_list u) h))

withdrawn_fits : (u : Fields) → Fit u → Fit (withdrawn_fields u)
unfolding withdrawn_fields
withdrawn_fits (prefix_unit u) h = h
withdrawn_fits (key_unit u) h = h
withdrawn_fits (aspa_unit u) h = h

withdrawn_limits : (u : Fields) → WithinLimits u → WithinLimits (withdrawn_fields u)
unfolding withdrawn_fields
withdrawn_limits (prefix_unit u) h = tt
withdrawn_limits (key_unit u) h = h
withdrawn_limits (aspa_unit u) h = tt

withdrawn_lengths : (u : Fields) → LengthsAgree u → LengthsAgree (withdrawn_fields u)
unfolding withdrawn_fields
withdrawn_lengths (prefix_unit u) h = h
withdrawn_lengths (key_unit u) h = tt
withdrawn_lengths (aspa_unit u) h = tt

withdrawn_meaning : (u : Fields) → meaning (withdrawn_fields u) ≡
    unit_of (meaning u).version (withdrawal (meaning u).payload)
unfolding withdrawn_fields
withdrawn_meaning (prefix_unit u) = refl
withdrawn_meaning (key_unit u) = refl
withdrawn_meaning (aspa_unit u) = refl

-- what is announced can be withdrawn
pub sent_withdrawal : (b : List ℕ) (v : ℕ) (p : Payload) → IsUnit b (unit_of v (announcement p)) →
    IsSent v (withdrawal p)
sent_withdrawal b v p unit =
    let h = unit_fields_of b (unit_of v (announcement p)) unit in
    let u = withdrawn_fields h.fields in
    let means : unit_of v (withdrawal p) ≡ meaning u =
    ap (λ (m : Meaning). unit_of m.version (withdrawal m.payload)) h.means
    ∙ sym (withdrawn_meaning h.fields) in
    form_is_unit (unit_list u) (unit_of v (withdrawal p))
    (unit_of_fields (unit_list u) (unit_of v (withdrawal p)) (record {
      fields = u;
      shape = record {
        fits = withdrawn_fits h.fields h.fits;
        limits = withdrawn_limits h.fields h.limits;
        bytes = refl;
        are_bytes = withdrawn_bytes h.fields (subst IsBytes h.bytes h.are_bytes);
      };
      lengths = withdrawn_lengths h.fields h.lengths;
      means = means;
    }))

-- ---- all of data

abbrev pub AreSent : ℕ → (Payload → Change) → List Payload → Type 0
AreSent v f ps = AllByRecursion (λ p. IsSent v (f p)) ps

pub announced_sent : (v : ℕ) (b : List ℕ) (d : List Payload) → AreUnits b (data_units v d) →
    AreSent v announcement d
announced_sent v b [] units = tt
announced_sent v b (p ∷ d) (first, more, at, unit, units) =
    (form_is_unit first (unit_of v (announcement p)) unit, announced_sent v more d units)

withdrawn_sent : (v : ℕ) (b : List ℕ) (d : List Payload) → AreUnits b (data_units v d) →
    AreSent v withdrawal d
withdrawn_sent v b [] units = tt
withdrawn_sent v b (p ∷ d) (first, more, at, unit, units) =
    (sent_withdrawal first v p unit, withdrawn_sent v more d units)

filter_all : (P : Payload → Type 0) (test : Payload → Bool) (ps : List Payload) →
    AllByRecursion P ps → AllByRecursion P (filter test ps)
filter_all P test [] h = tt
filter_all P test (p ∷ ps) (g, h) =
    elim (test p) as (λ b. AllByRecursion P (cond b (p ∷ filter test ps) (filter test ps))) [
      | true ↦ (g, filter_all P test ps h)
      | false ↦ filter_all P test ps h
    ]

-- the forms of changes are units
sent_units : (v : ℕ) (f : Payload → Change) (ps : List Payload) (cs : List Change) →
    AreSent v f ps → AreUnits (change_forms v cs) (map (unit_of v) cs) →
    AreUnits (change_forms v (map f ps ++ cs)) (map (unit_of v) (map f ps ++ cs))
sent_units v f [] cs h units = units
sent_units v f (p ∷ ps) cs (g, h) units = (
  form_of (unit_of v (f p)),
  change_forms v (map f ps ++ cs),
  refl,
  g,
  sent_units v f ps cs h units,
)

pub all_sent : (v : ℕ) (f : Payload → Change) (ps : List Payload) → AreSent v f ps →
    AreUnits (change_forms v (map f ps)) (map (unit_of v) (map f ps))
all_sent v f [] h = refl
all_sent v f (p ∷ ps) (g, h) =
    (form_of (unit_of v (f p)), change_forms v (map f ps), refl, g, all_sent v f ps h)

-- ---- a delta is changes in canonical form

-- no name of what is withdrawn is among what is announced
fewer_there : (test : Payload → Bool) (p : Payload) (ps : List Payload) → has_name ps p ≡ false →
    has_name (filter test ps) p ≡ false
fewer_there test p [] h = refl
fewer_there test p (x ∷ ps) h =
    let (first, rest) = or_parts (is_eq (name_cmp p x)) (has_name ps p) h in
    elim (test x) as (λ b. has_name (cond b (x ∷ filter test ps) (filter test ps)) p ≡ false) [
      | true ↦ ap (λ b. b || has_name (filter test ps) p) first ∙ fewer_there test p ps rest
      | false ↦ fewer_there test p ps rest
    ]

apart_first : (test : Payload → Bool) (new : List Payload) (p : Payload) (ps : List Payload) →
    AllByRecursion (λ q. has_name (filter test new) q ≡ false) ps → (b : Bool) →
    has_name new p ≡ b →
    AllByRecursion (λ q. has_name (filter test new) q ≡ false) (cond (not b) (p ∷ ps) ps)
apart_first test new p ps h true e = h
apart_first test new p ps h false e = (fewer_there test p new e, h)

apart : (test : Payload → Bool) (new old : List Payload) →
    AllByRecursion (λ q. has_name (filter test new) q ≡ false)
    (filter (λ p. not (has_name new p)) old)
apart test new [] = tt
apart test new (p ∷ old) =
    apart_first test new p (filter (λ q. not (has_name new q)) old) (apart test new old)
    (has_name new p) refl

module _ (old new : List ℕ) (d d' : List Payload) (e e' : EndMeaning) (h : HoldsData old d e)
    (j : HoldsData new d' e') (version : e.version ≡ e'.version) where
  v : ℕ
  v = e'.version

  ordered : AreOrdered (changes d d')
  ordered = record {
    announced = filter (λ p. not (has d p)) d';
    withdrawn = filter (λ p. not (has_name d' p)) d;
    parts = refl;
    announced_in_order =
        IsStrictlySortedBy-filter name_cmp (λ p. not (has d p)) d' j.in_order;
    withdrawn_in_order =
        IsStrictlySortedBy-filter name_cmp (λ p. not (has_name d' p)) d h.in_order;
    apart = apart (λ p. not (has d p)) d' d;
  }

  units : AreUnits (change_forms e'.version (changes d d'))
      (map (unit_of e'.version) (changes d d'))
  units =
      sent_units e'.version announcement (filter (λ p. not (has d p)) d') (withdrawals d d')
      (filter_all (λ p. IsSent e'.version (announcement p)) (λ p. not (has d p)) d'
      (announced_sent e'.version j.accepts.sequence.front d' j.accepts.sequence.units))
      (all_sent e'.version withdrawal (filter (λ p. not (has_name d' p)) d)
      (filter_all (λ p. IsSent e'.version (withdrawal p)) (λ p. not (has_name d' p)) d
      (withdrawn_sent e'.version h.accepts.sequence.front d
      (subst (λ w. AreUnits h.accepts.sequence.front (data_units w d)) version
      h.accepts.sequence.units))))

  pub holds_delta : (rest : List ℕ) → HoldsChanges (delta_form d d' e' ++ rest) (changes d d') e'
  holds_delta rest = record {
    bytes = delta_form d d' e';
    accepts = record {
      rest = rest;
      parts = refl;
      sequence = record {
        front = change_forms e'.version (changes d d');
        last = end_list e';
        parts = refl;
        units = units;
        end = end_made e' j.accepts.sequence.end.fits;
      };
    };
    in_order = ordered;
  }
