-- The written forms of router keys and ASPA units, by the bytes of the units.
use Rattle.std.proofs.Common.{◌≡◌, ◌≢◌, ℕ, ◌+◌, ◌*◌, ◌%◌, ◌≤◌, cond, eqb, Option, Some, None, List}
use Rattle.std.proofs.Common.{◌∷◌, ◌++◌, length, take, drop, get_or}
use Rattle.std.proofs.Common.{sym, ap, ◌∙◌, append-nil, arith}
use Rattle.std.proofs.lemmas.Bool.Decides.{nat_tests}
use Rattle.std.proofs.lemmas.List.{length-take-le, length-drop}
use Rattle.rtr_base.specs.declared.action.Action.{Action}
use Rattle.rtr_base.specs.declared.action.Action.TheVariants.{Announce, Withdraw}
use Rattle.rtr_base.specs.Actions.{act, flags_of}
use Rattle.rtr_base.specs.Bytes.{be, value, IsBytes}
use Rattle.rtr_base.proofs.Numbers.{be-value, length-words, IsBytes-take, IsBytes-drop}
use Rattle.rtr_units.specs.StopCauses.{Refusal}
use Rattle.rtr_units.specs.Header.{version_field, type_field, length_field}
use Rattle.rtr_units.specs.Reading.{IsWhole, of_type}
use Rattle.rtr_payload.specs.KeyUnits.{key_at}
use Rattle.rtr_payload.specs.UnitFields.{key_unit, aspa_unit, HasFields, meaning}
use Rattle.rtr_payload.specs.AspaUnits.{AspaFields, aspa_list, aspa_at, meant_aspa}
use Rattle.rtr_payload.specs.Providers.{words_of}
use Rattle.rtr_payload.specs.Units.{form_of}
use Rattle.rtr_payload.specs.FirstFault.{header_fault}
use Rattle.rtr_payload.specs.UnitKinds.{variable_unit}
use Rattle.rtr_payload.proofs.FieldsRead.{key_has, aspa_has}

-- ---- whole units, said by their fields

abbrev pub IsWholeKey : List ℕ → Type 0
IsWholeKey = IsWhole (of_type 9 (variable_unit 9))

abbrev pub IsWholeAspa : List ℕ → Type 0
IsWholeAspa = IsWhole (of_type 11 (variable_unit 11))

pub record KeySays (u : List ℕ) : Type 0 where
  pub are_bytes : IsBytes u
  pub kind : type_field u ≡ 9
  pub field : length_field u ≡ length u
  pub least : 32 ≤ length u
  pub most : length u ≤ 65535

pub record AspaSays (u : List ℕ) : Type 0 where
  pub are_bytes : IsBytes u
  pub kind : type_field u ≡ 11
  pub field : length_field u ≡ length u
  pub least : 12 ≤ length u
  pub most : length u ≤ 65535
  pub fours : length u % 4 ≡ 0
  pub named : length u ≡ 12 → get_or u 2 0 % 2 ≢ 1

of_one_type : (t p : ℕ) (o : Option Refusal) (f : Refusal) → cond (eqb t p) o (Some f) ≡ None →
    (t ≡ p) × (o ≡ None)
of_one_type t p o f e = grind (arith, nat_tests)

key_limits : (v g n : ℕ) → header_fault v 9 g n ≡ None → (32 ≤ n) × (n ≤ 65535)
unfolding header_fault
key_limits v g n e = grind (arith, nat_tests)

aspa_limits : (v g n : ℕ) → header_fault v 11 g n ≡ None → (12 ≤ n) × (n ≤ 65535) × (n % 4 ≡ 0)
unfolding header_fault
aspa_limits v g n e = grind (arith, nat_tests)

aspa_named : (v g n : ℕ) → header_fault v 11 g n ≡ None → n ≡ 12 → g % 2 ≢ 1
unfolding header_fault
aspa_named v g n e twelve odd = grind (arith, nat_tests)

pub key_says : (u : List ℕ) → IsWholeKey u → KeySays u
key_says u h =
    let size = h.size in
    let p = of_one_type (type_field u) 9 _ _ h.in_order in
    let q = key_limits (version_field u) (get_or u 2 0) (length_field u) p.1 in
    record {
      are_bytes = h.are_bytes;
      kind = p.0;
      field = sym size;
      least = omega (arith, q.0);
      most = omega (arith, q.1);
    }

pub aspa_says : (u : List ℕ) → IsWholeAspa u → AspaSays u
aspa_says u h =
    let size = h.size in
    let p = of_one_type (type_field u) 11 _ _ h.in_order in
    let q = aspa_limits (version_field u) (get_or u 2 0) (length_field u) p.1 in
    record {
      are_bytes = h.are_bytes;
      kind = p.0;
      field = sym size;
      least = omega (arith, q.0);
      most = omega (arith, q.1);
      fours = ap (λ (n : ℕ). n % 4) size ∙ q.2;
      named = λ twelve.
          aspa_named (version_field u) (get_or u 2 0) (length_field u) p.1 (sym size ∙ twelve);
    }

pub whole_key : (u : List ℕ) → IsWholeKey u → HasFields u (key_unit (key_at u))
whole_key u whole = let h = key_says u whole in key_has u h.are_bytes h.least h.most h.kind h.field

pub whole_aspa : (u : List ℕ) → IsWholeAspa u → HasFields u (aspa_unit (aspa_at u))
whole_aspa u whole =
    let h = aspa_says u whole in
    aspa_has u h.are_bytes h.least h.most h.fours h.named h.kind h.field

-- the form of a key in version v, by its header and what follows it
pub key_form_in : (u rest : List ℕ) (v : ℕ) (a : Action) → IsWholeKey u →
    a ≡ act (get_or u 2 0) → rest ≡ drop 8 u →
    (v ∷ 9 ∷ flags_of a ∷ 0 ∷ be (8 + length rest) 4) ++ rest ≡
    form_of (record (meaning (key_unit (key_at u))) { version = v })
key_form_in u rest v a h ea er =
    let has = whole_key u h in
    let h = key_says u h in
    let front = λ (n : ℕ). v ∷ 9 ∷ flags_of (act (get_or u 2 0)) ∷ 0 ∷ be n 4 in
    let size : 8 + length (drop 8 u) ≡ 32 + length (drop 32 u) =
    omega (arith, length-drop 8 u, length-drop 32 u, h.least) in
    (λ i. (v ∷ 9 ∷ flags_of (ea i) ∷ 0 ∷ be (8 + length (er i)) 4) ++ er i)
    ∙ ap (λ (n : ℕ). front n ++ drop 8 u) size
    ∙ ap (λ (l : List ℕ). front (32 + length (drop 32 u)) ++ l) (ap (drop 8) has.bytes)

-- ---- ASPA units

-- the providers count by the action
by_action : (u : List ℕ) (v : ℕ) (a : Action) → act (get_or u 2 0) ≡ a →
    form_of (record (meaning (aspa_unit (aspa_at u))) { version = v }) ≡
    aspa_list (record {
      version = v;
      flags = flags_of a;
      free = 0;
      aspa = meant_aspa a (aspa_at u).aspa;
    })
by_action u v a e =
    ap
    (λ b.
    let written : AspaFields = record {
      version = v;
      flags = flags_of b;
      free = 0;
      aspa = meant_aspa b (aspa_at u).aspa;
    } in
    aspa_list written)
    e

announced_form : (u : List ℕ) (v : ℕ) → IsWholeAspa u → act (get_or u 2 0) ≡ Announce →
    (v ∷ 11 ∷ 1 ∷ 0 ∷ be (8 + length (drop 8 u)) 4) ++ drop 8 u ≡
    form_of (record (meaning (aspa_unit (aspa_at u))) { version = v })
announced_form u v h e =
    let has = whole_aspa u h in
    let h = aspa_says u h in
    let ps = words_of (drop 12 u) in
    let front = λ (n : ℕ). v ∷ 11 ∷ 1 ∷ 0 ∷ be n 4 in
    let size : 8 + length (drop 8 u) ≡ 12 + 4 * length ps =
    omega (arith, length-drop 8 u, h.least, ap length has.bytes, length-words ps) in
    ap (λ (n : ℕ). front n ++ drop 8 u) size
    ∙ ap (λ (l : List ℕ). front (12 + 4 * length ps) ++ l) (ap (drop 8) has.bytes)
    ∙ sym (by_action u v Announce e)

withdrawn_form : (u : List ℕ) (v : ℕ) → IsWholeAspa u → act (get_or u 2 0) ≡ Withdraw →
    (v ∷ 11 ∷ 0 ∷ 0 ∷ be (8 + length (take 4 (drop 8 u))) 4) ++ take 4 (drop 8 u) ≡
    form_of (record (meaning (aspa_unit (aspa_at u))) { version = v })
withdrawn_form u v h e =
    let h = aspa_says u h in
    let whole : length (take 4 (drop 8 u)) ≡ 4 =
    length-take-le 4 (drop 8 u) (omega (arith, length-drop 8 u, h.least)) in
    let customer : be (value (take 4 (drop 8 u))) 4 ≡ take 4 (drop 8 u) =
    be-value (take 4 (drop 8 u)) 4
    (IsBytes-take 4 (drop 8 u) (IsBytes-drop 8 u h.are_bytes)) whole in
    ap (λ (n : ℕ). (v ∷ 11 ∷ 0 ∷ 0 ∷ be (8 + n) 4) ++ take 4 (drop 8 u)) whole
    ∙ ap (λ (l : List ℕ). v ∷ 11 ∷ 0 ∷ 0 ∷ 0 ∷ 0 ∷ 0 ∷ 12 ∷ l) (sym customer)
    ∙ sym (by_action u v Withdraw e
    ∙ append-nil (v ∷ 11 ∷ 0 ∷ 0 ∷ 0 ∷ 0 ∷ 0 ∷ 12 ∷ be (value (take 4 (drop 8 u))) 4))

-- what follows the header in the form of an ASPA unit
abbrev pub kept_rest : Action → List ℕ → List ℕ
kept_rest Announce u = drop 8 u
kept_rest Withdraw u = take 4 (drop 8 u)

-- the form of an ASPA unit in version v, by its header and what follows it
pub aspa_form_in : (u rest : List ℕ) (v : ℕ) (a : Action) → IsWholeAspa u →
    a ≡ act (get_or u 2 0) → rest ≡ kept_rest a u →
    (v ∷ 11 ∷ flags_of a ∷ 0 ∷ be (8 + length rest) 4) ++ rest ≡
    form_of (record (meaning (aspa_unit (aspa_at u))) { version = v })
aspa_form_in u rest v Announce h ea er =
    (λ i. (v ∷ 11 ∷ 1 ∷ 0 ∷ be (8 + length (er i)) 4) ++ er i) ∙ announced_form u v h (sym ea)
aspa_form_in u rest v Withdraw h ea er =
    (λ i. (v ∷ 11 ∷ 0 ∷ 0 ∷ be (8 + length (er i)) 4) ++ er i) ∙ withdrawn_form u v h (sym ea)
