-- What was written is a piece of what is printed.
use Rattle.std.proofs.Common.{◌≡◌, ℕ, ◌<◌, ◌≤◌, Bool, cond, List, [], ◌++◌, length}
use Rattle.std.proofs.Common.{Option, Result, Ok, Err, refl, sym, ap, ◌∙◌, subst, codes}
use Rattle.std.proofs.Common.{arith}
use Rattle.std.proofs.KnownBytes.{Appends-nil}
use Rattle.std.proofs.lemmas.Bool.{lt-leb, le-leb}
use Rattle.std.specs.Io.KnownBytes.{Appends}
use Rattle.rtr_base.specs.Actions.{flags_of}
use Rattle.rtr_base.specs.declared.action.Action.{Action}
use Rattle.rtr_units.specs.Stream.{PutsForm, StopsWriting}
use Rattle.rtr_units.specs.StopCauses.{WriterState}
use Rattle.rtr_units.specs.declared.fault.Fault.{Fault}
use Rattle.rtr_units.specs.declared.fault.Fault.TheVariants as faults
use Rattle.rtr_payload.specs.Meanings.{payload_of, payload_of_ref, referent}
use Rattle.rtr_payload.specs.Payloads.{Payload, smallest_version}
use Rattle.rtr_payload.specs.UnitBytes.{IsWritten, IsSupported, unit_bytes}
use Rattle.rtr_payload.specs.UnitFields.{Fields, written_fields}
use Rattle.rtr_payload.specs.Units.{form}
use Rattle.rtr_payload.specs.declared.pdu.payload.Payload.{Payload as PayloadUnit}
use Rattle.rtr_payload.specs.declared.payload.PayloadRef.{PayloadRef}
use Rattle.rtr_payload.specs.declared.payload.PayloadRef.TheVariants as lent
use Rattle.text_lines.specs.PayloadLines.{payload_json}
use Rattle.text_lines.specs.TextLines.{payload_said, sign_of}
use Rattle.diff_work.specs.Differences.{change_piece}
use Rattle.diff_work.specs.Printing.{Puts, StopsPrinting}
use Rattle.diff_work.specs.declared.words.Form.TheVariants.{Text, Json, Units}

stops : (e : Fault) (missing : List ℕ) → 0 < length missing → StopsWriting e →
    StopsPrinting e missing
stops (faults.Writer e) missing h s = h
stops (faults.Reader e) missing h s = absurd s
stops faults.Short missing h s = absurd s
stops (faults.UnitType t) missing h s = absurd s
stops faults.UnitLength missing h s = absurd s
stops faults.TooLong missing h s = absurd s
stops faults.EmptyProviders missing h s = absurd s
stops (faults.UnitVersion v) missing h s = absurd s
stops (faults.Refused report) missing h s = absurd s
stops faults.TooMany missing h s = absurd s
stops faults.Memory missing h s = absurd s

pub puts_form : (r : Result (Unit {0}) Fault) (a b : WriterState) (x y : List ℕ) → y ≡ x →
    PutsForm r a b x → Puts r a b y
puts_form (Ok u) a b x y e (put, m) = (subst (λ l. Appends a.held b.held l) (sym e) put, m)
puts_form (Err f) a b x y e ((first, others, put, parts, some, stop), m) =
    ((first, others, put, e ∙ parts, stops f others some stop), m)

pub text_piece : (v : ℕ) (a : Action) (p : Payload) (shown before line : List ℕ) (f : Fields)
    (flags : ℕ) → shown ≡ line → line ≡ before ++ (sign_of a ++ payload_said f ++ codes "\n") →
    before ≡ [] → f ≡ written_fields 0 flags p → flags ≡ flags_of a →
    change_piece Text v (record { action = a; payload = p }) ≡ shown
unfolding change_piece
text_piece v a p shown before line f flags is made empty fields is_flags =
    sym (is ∙ made ∙ ap (λ (l : List ℕ). l ++ (sign_of a ++ payload_said f ++ codes "\n")) empty
    ∙ ap (λ (g : Fields). sign_of a ++ payload_said g ++ codes "\n")
    (fields ∙ ap (λ (n : ℕ). written_fields 0 n p) is_flags))

pub json_piece : (v : ℕ) (a : Action) (p : Payload) (shown before line : List ℕ) (f : Fields)
    (flags : ℕ) → shown ≡ line → line ≡ before ++ (payload_json f ++ codes "\n") → before ≡ [] →
    f ≡ written_fields 0 flags p → flags ≡ flags_of a →
    change_piece Json v (record { action = a; payload = p }) ≡ shown
unfolding change_piece
json_piece v a p shown before line f flags is made empty fields is_flags =
    sym (is ∙ made ∙ ap (λ (l : List ℕ). l ++ (payload_json f ++ codes "\n")) empty
    ∙ ap (λ (g : Fields). payload_json g ++ codes "\n")
    (fields ∙ ap (λ (n : ℕ). written_fields 0 n p) is_flags))

pub unit_piece : (v : ℕ) (a : Action) (p q : Payload) (u : PayloadUnit) (flags : ℕ) →
    IsSupported v q → IsWritten v flags q u → q ≡ p → flags ≡ flags_of a →
    change_piece Units v (record { action = a; payload = p }) ≡ unit_bytes u
unfolding change_piece
unit_piece v a p q u flags supported written is is_flags =
    ap (λ (b : Bool). cond b (form v (flags_of a) p) [])
    (le-leb (smallest_version p) v (subst (λ (x : Payload). smallest_version x ≤ v) is supported))
    ∙ sym (written.bytes ∙ ap (λ (n : ℕ). form v n q) is_flags
    ∙ ap (λ (x : Payload). form v (flags_of a) x) is)

pub no_unit : (v : ℕ) (a : Action) (p q : Payload) (held : Option (List ℕ)) →
    (IsSupported v q → ⊥) → q ≡ p →
    Appends held held (change_piece Units v (record { action = a; payload = p }))
unfolding change_piece
no_unit v a p q held unsupported is =
    subst (λ (l : List ℕ). Appends held held l)
    (sym (ap (λ (b : Bool). cond b (form v (flags_of a) p) [])
    (lt-leb (smallest_version p) v (above (smallest_version p) v
    (λ h. unsupported (subst (λ (x : Payload). smallest_version x ≤ v) (sym is) h))))))
    (Appends-nil held)
  where
    above : (m n : ℕ) → (m ≤ n → ⊥) → n < m
    above m n h = omega (arith, h)

-- what is lent means the same
pub lent_means : (r : PayloadRef) → payload_of_ref r ≡ payload_of (referent r)
lent_means (lent.Origin o) = refl
lent_means (lent.RouterKey k) = refl
lent_means (lent.Aspa a) = refl
