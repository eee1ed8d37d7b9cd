-- How far a run of units goes.
use Rattle.std.proofs.Common.{◌≡◌, ℕ, ◌-◌, ◌≤◌, List, [], ◌∷◌, ◌++◌, length, map, Option, Some}
use Rattle.std.proofs.Common.{None}
use Rattle.std.proofs.Common.{refl, sym, ap, subst, ◌∙◌, append_assoc, append-nil, arith}
use Rattle.std.proofs.lemmas.List.{length-append, map-append}
use Rattle.std.specs.Prelude.{⊤}
use Rattle.std.specs.List.Sorted.{IsStrictlySortedBy}
use Rattle.rtr_base.specs.declared.action.Action.{Action}
use Rattle.rtr_payload.specs.Payloads.{Meaning, Payload}
use Rattle.rtr_payload.specs.Units.{IsUnit}
use Rattle.rtr_payload.proofs.Fields.{units_same}
use Rattle.rtr_wire.specs.Sequences.{AreUnits}
use Rattle.rtr_wire.proofs.Runs.{after}
use Rattle.data_memory.specs.Data.{IsData}
use Rattle.data_memory.specs.Deltas.{unit_of}
use Rattle.data_memory.specs.Sequences.{change_of}
use Rattle.data_memory.proofs.Names.{below_all}
use Rattle.data_slices.specs.Canonical.{change}
use Rattle.data_slices.specs.Items.{meant}
use Rattle.data_slices.specs.PrivateChanges.{Ascends, BeginsAlso, InVersion, IsBelow, IsNext, IsRun}
use Rattle.data_slices.specs.PrivateChanges.{NoUnit, NoUnitOf, RunsOn, units_of}
use Rattle.data_slices.specs.declared.item.PayloadView.{PayloadView}
use Rattle.data_slices.proofs.Units.{action_is, its_change, left_name, one_more, right_name}

-- payloads are above the last unit
abbrev pub AboveLast : Option PayloadView → List Payload → Type 0
AboveLast None ps = ⊤
AboveLast (Some last) ps = IsBelow (meant last).payload ps

-- what is left of another run
pub record Rest (action : Action) (last : Option PayloadView) (version : Option ℕ) (v : ℕ)
    (ps qs : List Payload) (x r : List ℕ) : Type 0 where
  pub others : List Payload
  pub all : map (change action) qs ≡ map (change action) ps ++ map (change action) others
  pub in_version : InVersion version v
  pub in_order : IsData others
  pub above : AboveLast last others
  pub bytes : List ℕ
  pub units : AreUnits bytes (units_of action v others)
  pub parts : x ≡ bytes ++ r

-- The run goes to what is left, and so does any that begins as it does.
pub record Ran (action : Action) (before : Option ℕ) (input left : List ℕ)
    (last : Option PayloadView) (version : Option ℕ) : Type 0 where
  pub front : List ℕ
  pub parts : input ≡ front ++ left
  pub fits : length left ≤ length input
  pub ps : List Payload
  pub forth : (qs : List Payload) → IsData qs → AboveLast last qs → IsData (ps ++ qs)
  pub units : (v : ℕ) → InVersion version v → AreUnits front (units_of action v ps)
  pub known : (v : ℕ) → InVersion version v → InVersion before v
  pub some : (v : ℕ) × InVersion version v
  pub back : (x : List ℕ) (v : ℕ) (qs : List Payload) (b r : List ℕ) → InVersion before v →
      IsData qs → AreUnits b (units_of action v qs) → front ++ x ≡ b ++ r → NoUnitOf action r →
      Rest action last version v ps qs x r

some_version : (before : Option ℕ) → (v : ℕ) × InVersion before v
some_version None = (0, tt)
some_version (Some w) = (w, refl)

pub starts : (action : Action) (before : Option ℕ) (input : List ℕ) →
    Ran action before input input None before
starts action before input = record {
  front = [];
  parts = refl;
  fits = omega arith;
  ps = [];
  forth = λ qs s above. s;
  units = λ v same. refl;
  known = λ v same. same;
  some = some_version before;
  back = λ x v qs b r same s units eq none. record {
    others = qs;
    all = refl;
    in_version = same;
    in_order = s;
    above = tt;
    bytes = b;
    units = units;
    parts = eq;
  };
}

-- payloads above a payload are above its change
pub above_change : (a : Action) (p : Payload) (qs : List Payload) → IsBelow p qs →
    IsBelow (change a p).payload qs
above_change a p [] h = tt
above_change a p (q ∷ qs) (g, h) = (left_name a p q ∙ g, above_change a p qs h)

module _ (action : Action) (before : Option ℕ) (input rest : List ℕ) (last : Option PayloadView)
    (version : Option ℕ) (ran : Ran action before input rest last version) where
  module _ (view : PayloadView) (left : List ℕ) (next : IsNext view left rest)
      (on : RunsOn action version last (meant view)) where
    abbrev m : Meaning
    m = meant view

    change_is : m ≡ unit_of m.version (change action m.payload)
    change_is =
        its_change next.0 m next.1.0 ∙ ap (λ a. unit_of m.version (change a m.payload)) on.0

    above_too : (last : Option PayloadView) (qs : List Payload) → Ascends last m.payload →
        IsBelow m.payload qs → AboveLast last (m.payload ∷ qs)
    above_too None qs up h = tt
    above_too (Some last) qs up h = (up, below_all (meant last).payload m.payload up qs h)

    -- the rest of a run that goes on with this unit
    goes_rest : (x : List ℕ) (v : ℕ) (qs : List Payload) (r : List ℕ) →
        Rest action last version v ran.ps qs (next.0 ++ x) r → NoUnitOf action r →
        Rest action (Some view) (Some m.version) v (ran.ps ++ m.payload ∷ []) qs x r
    unfolding IsStrictlySortedBy
    goes_rest x v qs r t none = by_others t.others t.all t.in_order t.units
      where
        by_others : (others : List Payload) →
            map (change action) qs ≡ map (change action) ran.ps ++ map (change action) others →
            IsData others → AreUnits t.bytes (units_of action v others) →
            Rest action (Some view) (Some m.version) v (ran.ps ++ m.payload ∷ []) qs x r
        by_others [] all s units =
            absurd (none m next.0 x next.1.0
            (sym (t.parts ∙ ap (λ l. l ++ r) units)) on.0)
        by_others (q ∷ others) all s (first, more, at, u, units) =
            let e = units_same next.0 first x (more ++ r) m (unit_of v (change action q)) next.1.0
            u (t.parts ∙ after t.bytes first more r at) in
            let same : m.version ≡ v = ap (λ (n : Meaning). n.version) e.1 in
            let first_is : change action q ≡ change action m.payload =
            ap change_of (sym e.1) ∙ ap change_of change_is in
            record {
              others = others;
              all =
                  all
                  ∙ ap (λ c. map (change action) ran.ps ++ c ∷ map (change action) others) first_is
                  ∙ sym (append_assoc (map (change action) ran.ps) (change action m.payload ∷ [])
                  (map (change action) others))
                  ∙ ap (λ l. l ++ map (change action) others)
                  (sym (map-append (change action) ran.ps (m.payload ∷ [])));
              in_version = same;
              in_order = s.1;
              above =
                  subst (λ p. IsBelow p others) (ap (λ (n : Meaning). n.payload) (sym e.1))
                  (above_change action q others s.0);
              bytes = more;
              units = units;
              parts = e.2;
            }

    pub goes : Ran action before input left (Some view) (Some m.version)
    unfolding IsStrictlySortedBy
    goes = record {
      front = ran.front ++ next.0;
      parts =
          ran.parts ∙ ap (λ l. ran.front ++ l) next.2 ∙ sym (append_assoc ran.front next.0 left);
      fits = omega (arith, ran.fits, ap length next.2, length-append next.0 left);
      ps = ran.ps ++ m.payload ∷ [];
      forth = λ qs s below.
          subst IsData (sym (append_assoc ran.ps (m.payload ∷ []) qs))
          (ran.forth (m.payload ∷ qs) (below, s) (above_too last qs on.2 below));
      units = λ v same.
          one_more action v ran.front next.0 ran.ps m.payload m
          (ran.units v (subst (InVersion version) same on.1)) next.1.0
          (change_is ∙ ap (λ w. unit_of w (change action m.payload)) same);
      known = λ v same. ran.known v (subst (InVersion version) same on.1);
      some = (m.version, refl);
      back = λ x v qs b r same s units eq none.
          goes_rest x v qs r
          (ran.back (next.0 ++ x) v qs b r same s units
          (sym (append_assoc ran.front next.0 x) ∙ eq) none) none;
    }

  -- no unit goes on
  abbrev pub Stops : Type 0
  Stops = (m : Meaning) (b r : List ℕ) → IsUnit b m → rest ≡ b ++ r →
      RunsOn action version last m → ⊥

  pub stops_at_none : NoUnit rest → Stops
  stops_at_none none m b r u eq on = none m b r u eq

  pub stops_before : (view : PayloadView) (left : List ℕ) → IsNext view left rest →
      (RunsOn action version last (meant view) → ⊥) → Stops
  stops_before view left (b, item, parts) not m c r u eq on =
      let same = units_same b c left r (meant view) m item.0 u (sym parts ∙ eq) in
      not (subst (RunsOn action version last) (sym same.1) on)

  module _ (ends : Stops) where
    none_above : (last : Option PayloadView) → AboveLast last []
    none_above None = tt
    none_above (Some last) = tt

    pub in_order : IsData ran.ps
    unfolding IsStrictlySortedBy
    in_order = subst IsData (append-nil ran.ps) (ran.forth [] tt (none_above last))

    ascends : (last : Option PayloadView) (q : Payload) (qs : List Payload) →
        AboveLast last (q ∷ qs) → Ascends last (change action q).payload
    ascends None q qs h = tt
    ascends (Some last) q qs h = right_name action q (meant last).payload ∙ h.0

    by_others : (x : List ℕ) → BeginsAlso x rest → (v : ℕ) (r b : List ℕ) →
        InVersion version v → (others : List Payload) → AboveLast last others →
        AreUnits b (units_of action v others) → x ≡ b ++ r → (others ≡ []) × (r ≡ x)
    by_others x alike v r b same [] above units eq =
        (refl, sym (eq ∙ ap (λ l. l ++ r) units))
    by_others x alike v r b same (q ∷ others) above (first, more, at, u, units) eq =
        let (s, begins) = alike (unit_of v (change action q)) first (more ++ r) u
        (eq ∙ after b first more r at) in
        absurd (ends (unit_of v (change action q)) first s u begins
        (action_is action q, same, ascends last q others above))

    by_rest : (x : List ℕ) → BeginsAlso x rest → (v : ℕ) (qs : List Payload) (r : List ℕ) →
        Rest action last version v ran.ps qs x r →
        (map (change action) qs ≡ map (change action) ran.ps) × (r ≡ x) × InVersion version v
    by_rest x alike v qs r t =
        let (ended, same) = by_others x alike v r t.bytes t.in_version t.others t.above t.units
        t.parts in (
          t.all ∙ ap (λ l. map (change action) ran.ps ++ map (change action) l) ended
              ∙ append-nil (map (change action) ran.ps),
          same,
          t.in_version,
        )

    -- any run that begins as this one is as long
    pub longest : (x : List ℕ) → BeginsAlso x rest → (v : ℕ) (qs : List Payload) (b r : List ℕ) →
        InVersion before v → IsData qs → AreUnits b (units_of action v qs) →
        ran.front ++ x ≡ b ++ r → NoUnitOf action r →
        (map (change action) qs ≡ map (change action) ran.ps) × (r ≡ x) × InVersion version v
    longest x alike v qs b r same s units eq none =
        by_rest x alike v qs r (ran.back x v qs b r same s units eq none)

    pub stops : (size : ℕ) → size ≡ length input - length rest →
        IsRun action before input size version
    stops size is = record {
      front = ran.front;
      left = rest;
      parts = ran.parts;
      size_is = omega (arith, is, ap length ran.parts, length-append ran.front rest);
      ps = ran.ps;
      in_order = in_order;
      units = ran.units;
      known = ran.known;
      some = ran.some;
      longest = longest;
    }
