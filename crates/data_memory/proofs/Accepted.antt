-- The forms of changes are units, and a delta with an end of data is a sequence.
use Rattle.std.proofs.Common.{◌≡◌, ℕ, ◌<◌, ◌≤◌, ◌+◌, ◌*◌, Bool, true, false, not, cond, List, []}
use Rattle.std.proofs.Common.{◌∷◌, ◌++◌, map, length, Ok, refl, sym, ap, ◌∙◌, arith}
use Rattle.std.proofs.lemmas.Bool.Decides.{nat_tests}
use Rattle.std.specs.List.{filter, AllByRecursion}
use Rattle.std.specs.Prelude.{nat_le}
use Rattle.rtr_base.specs.Actions.{flags_of, act}
use Rattle.rtr_base.specs.Addresses.{Family, v4, v6, width}
use Rattle.rtr_base.specs.Bytes.{IsBytes, be, words}
use Rattle.rtr_base.specs.declared.action.Action.{Action}
use Rattle.rtr_base.specs.declared.action.Action.TheVariants.{Announce, Withdraw}
use Rattle.rtr_base.proofs.Numbers.{IsBytes-cons, IsBytes-be, IsBytes-append, IsBytes-words}
use Rattle.rtr_units.specs.End.{EndMeaning, IsEndMeaning, end_list}
use Rattle.rtr_units.specs.PrefixUnits.{prefix_type, prefix_size, address_bytes}
use Rattle.rtr_units.proofs.Ends.{end_made}
use Rattle.rtr_payload.specs.Payloads.{Payload, origin, key, aspa, IsPayload, Meaning}
use Rattle.rtr_payload.specs.Payloads.{smallest_version}
use Rattle.rtr_payload.specs.UnitFields.{WithinLimits, meaning, stripped}
use Rattle.rtr_payload.specs.UnitFields.{written_fields}
use Rattle.rtr_payload.specs.Units.{IsUnit, form, form_of}
use Rattle.rtr_payload.proofs.ByFields.{form_is, unit_of_fields}
use Rattle.rtr_payload.proofs.Fields.{Fit-written, flags_byte, meaning-written}
use Rattle.rtr_payload.proofs.Made.{lengths_kept}
use Rattle.rtr_wire.specs.Sequences.{Accepts, AreUnits, IsSequence}
use Rattle.rtr_wire.proofs.Runs.{accepted_same}
use Rattle.data_memory.specs.Contents.{IsFit}
use Rattle.data_memory.specs.Data.{Change, IsData, announcement, has, has_name, name_of, withdrawal}
use Rattle.data_memory.specs.Changes.{after_all, announcements, withdrawals}
use Rattle.data_memory.specs.Deltas.{all_for, change_forms, changes_for, data_for, unit_of}
use Rattle.data_memory.specs.Sequences.{HasBytes, IsSendable, change_of}
use Rattle.data_memory.proofs.Once.{all_changes}
use Rattle.data_memory.proofs.Versions.{all_lead, delta_leads}

-- ---- the bytes of a form

type_byte : (f : Family) → prefix_type f < 256
type_byte v4 = omega arith
type_byte v6 = omega arith

width_byte : (f : Family) (n : ℕ) → n ≤ width f → n < 256
width_byte v4 n h = omega (arith, h)
width_byte v6 n h = omega (arith, h)

head_bytes : (v t f : ℕ) (tail : List ℕ) → v < 256 → t < 256 → f < 256 → IsBytes tail →
    IsBytes (v ∷ t ∷ f ∷ 0 ∷ tail)
head_bytes v t f tail hv ht hf h =
    IsBytes-cons v (t ∷ f ∷ 0 ∷ tail) hv (IsBytes-cons t (f ∷ 0 ∷ tail) ht
    (IsBytes-cons f (0 ∷ tail) hf (IsBytes-cons 0 tail (omega arith) h)))

bytes_of : (v f : ℕ) → v < 256 → f < 256 → (p : Payload) → IsPayload p → HasBytes p →
    IsBytes (form v f p)
bytes_of v f hv hf (origin o) h b =
    let t = prefix_type o.family in
    let size = be (prefix_size o.family) 4 in
    let longest : o.max_len < 256 = width_byte o.family o.max_len h.lengths.1 in
    let shorter : o.prefix_len < 256 = omega (arith, h.lengths.0, longest) in
    let address = be o.address (address_bytes o.family) in
    let tail = address ++ be o.asn 4 in
    IsBytes-append (v ∷ t ∷ be 0 2 ++ size) (f ∷ o.prefix_len ∷ o.max_len ∷ 0 ∷ tail)
    (IsBytes-cons v (t ∷ be 0 2 ++ size) hv
    (IsBytes-cons t (be 0 2 ++ size) (type_byte o.family)
    (IsBytes-append (be 0 2) size (IsBytes-be 0 2) (IsBytes-be (prefix_size o.family) 4))))
    (IsBytes-cons f (o.prefix_len ∷ o.max_len ∷ 0 ∷ tail) hf
    (IsBytes-cons o.prefix_len (o.max_len ∷ 0 ∷ tail) shorter
    (IsBytes-cons o.max_len (0 ∷ tail) longest (IsBytes-cons 0 tail (omega arith)
    (IsBytes-append address (be o.asn 4) (IsBytes-be o.address (address_bytes o.family))
    (IsBytes-be o.asn 4))))))
bytes_of v f hv hf (key k) h b =
    let size = be (32 + length k.info) 4 in
    let tail = size ++ k.identifier ++ be k.asn 4 ++ k.info in
    head_bytes v 9 f tail hv (omega arith) hf
    (IsBytes-append size ((k.identifier ++ be k.asn 4) ++ k.info)
    (IsBytes-be (32 + length k.info) 4)
    (IsBytes-append (k.identifier ++ be k.asn 4) k.info
    (IsBytes-append k.identifier (be k.asn 4) b.0 (IsBytes-be k.asn 4)) b.1))
bytes_of v f hv hf (aspa a) h b =
    let size = be (12 + 4 * length a.providers) 4 in
    let tail = size ++ be a.customer 4 ++ words a.providers in
    head_bytes v 11 f tail hv (omega arith) hf
    (IsBytes-append size (be a.customer 4 ++ words a.providers)
    (IsBytes-be (12 + 4 * length a.providers) 4)
    (IsBytes-append (be a.customer 4) (words a.providers) (IsBytes-be a.customer 4)
    (IsBytes-words a.providers)))

-- ---- units

act_again : (a : Action) → act (flags_of a) ≡ a
act_again Announce = refl
act_again Withdraw = refl

form_means : (v : ℕ) (a : Action) (p : Payload) → IsPayload p → stripped a p ≡ p →
    meaning (written_fields v (flags_of a) p) ≡ record { version = v; action = a; payload = p }
form_means v a p h e =
    meaning-written v (flags_of a) p h
    ∙ ap (λ (x : Action). record { version = v; action = x; payload = stripped x p }) (act_again a)
    ∙ ap (λ (q : Payload). record { version = v; action = a; payload = q }) e

unit_at : (v : ℕ) (a : Action) (p : Payload) → v < 256 → IsPayload p → HasBytes p →
    stripped a p ≡ p → WithinLimits (written_fields v (flags_of a) p) →
    IsUnit (form v (flags_of a) p) (record { version = v; action = a; payload = p })
unit_at v a p byte h b e limits = unit_of_fields _ _ (record {
  fields = written_fields v (flags_of a) p;
  shape = record {
    fits = Fit-written v (flags_of a) p h;
    limits = limits;
    bytes = form_is v (flags_of a) p;
    are_bytes = bytes_of v (flags_of a) byte (flags_byte a) p h b;
  };
  lengths = lengths_kept v (flags_of a) p h;
  means = sym (form_means v a p h e);
})

announced_plain : (p : Payload) → stripped Announce p ≡ p
announced_plain (origin o) = refl
announced_plain (key k) = refl
announced_plain (aspa a) = refl

withdrawn_plain : (p : Payload) → stripped Withdraw (name_of p) ≡ name_of p
withdrawn_plain (origin o) = refl
withdrawn_plain (key k) = refl
withdrawn_plain (aspa a) = refl

name_in_range : (p : Payload) → IsPayload p → IsPayload (name_of p)
name_in_range (origin o) h = h
name_in_range (key k) h = h
name_in_range (aspa a) h = record {
  customer = h.customer;
  providers = record { count = omega arith; each = tt };
}

name_bytes : (p : Payload) → HasBytes p → HasBytes (name_of p)
name_bytes (origin o) h = h
name_bytes (key k) h = h
name_bytes (aspa a) h = tt

announced_limits : (v : ℕ) (p : Payload) → IsFit p →
    WithinLimits (written_fields v (flags_of Announce) p)
announced_limits v (origin o) h = tt
announced_limits v (key k) h = grind (arith, nat_tests)
announced_limits v (aspa a) h = grind (arith, nat_tests)

withdrawn_limits : (v : ℕ) (p : Payload) → IsFit p →
    WithinLimits (written_fields v (flags_of Withdraw) (name_of p))
withdrawn_limits v (origin o) h = tt
withdrawn_limits v (key k) h = announced_limits v (key k) h
withdrawn_limits v (aspa a) h = tt

-- the form of the change's unit is a unit with its meaning
abbrev IsSent : ℕ → Change → Type 0
IsSent v c = IsUnit (form_of (unit_of v c)) (unit_of v c)

sent_announcement : (v : ℕ) → v < 256 → (p : Payload) → IsSendable p → IsSent v (announcement p)
sent_announcement v byte p h =
    unit_at v Announce p byte h.range h.bytes (announced_plain p) (announced_limits v p h.fit)

sent_withdrawal : (v : ℕ) → v < 256 → (p : Payload) → IsSendable p → IsSent v (withdrawal p)
sent_withdrawal v byte p h =
    unit_at v Withdraw (name_of p) byte (name_in_range p h.range) (name_bytes p h.bytes)
    (withdrawn_plain p) (withdrawn_limits v p h.fit)

-- ---- sequences

all_filter : (test : Payload → Bool) (ps : List Payload) → AllByRecursion (λ p. IsSendable p) ps →
    AllByRecursion (λ p. IsSendable p) (filter test ps)
all_filter test [] h = tt
all_filter test (p ∷ ps) (g, h) =
    elim (test p) as (λ b. AllByRecursion (λ q. IsSendable q)
    (cond b (p ∷ filter test ps) (filter test ps))) [
      | true ↦ (g, all_filter test ps h)
      | false ↦ all_filter test ps h
    ]

all_sent : (v : ℕ) (f : Payload → Change) → ((p : Payload) → IsSendable p → IsSent v (f p)) →
    (ps : List Payload) → AllByRecursion (λ p. IsSendable p) ps →
    AllByRecursion (λ c. IsSent v c) (map f ps)
all_sent v f one [] h = tt
all_sent v f one (p ∷ ps) (g, h) = (one p g, all_sent v f one ps h)

sent_units : (v : ℕ) (cs : List Change) → AllByRecursion (λ c. IsSent v c) cs →
    AreUnits (change_forms v cs) (map (unit_of v) cs)
sent_units v [] h = refl
sent_units v (c ∷ cs) (g, h) =
    (form_of (unit_of v c), change_forms v cs, refl, g, sent_units v cs h)

sent_sequence : (v : ℕ) (cs : List Change) (e : EndMeaning) → AllByRecursion (λ c. IsSent v c) cs →
    IsEndMeaning e → IsSequence (change_forms v cs ++ end_list e) (map (unit_of v) cs) e
sent_sequence v cs e h k = record {
  front = change_forms v cs;
  last = end_list e;
  parts = refl;
  units = sent_units v cs h;
  end = end_made e k;
}

module _ (v : ℕ) (byte : v < 256) where
  all_of_version : (d : List Payload) → AllByRecursion (λ p. IsSendable p) d →
      AllByRecursion (λ p. IsSendable p) (data_for v d)
  all_of_version d h = all_filter (λ p. nat_le (smallest_version p) v) d h

  delta_sent : (old new : List Payload) → AllByRecursion (λ p. IsSendable p) old →
      AllByRecursion (λ p. IsSendable p) new →
      AllByRecursion (λ c. IsSent v c) (changes_for v old new)
  delta_sent old new h k =
      let from = data_for v old in
      let to = data_for v new in
      all_changes (λ c. IsSent v c) (announcements from to) (withdrawals from to)
      (all_sent v announcement (sent_announcement v byte) (filter (λ p. not (has from p)) to)
      (all_filter (λ p. not (has from p)) to (all_of_version new k)))
      (all_sent v withdrawal (sent_withdrawal v byte) (filter (λ p. not (has_name to p)) from)
      (all_filter (λ p. not (has_name to p)) from (all_of_version old h)))

  pub delta_sequence : (old new : List Payload) (e : EndMeaning) →
      AllByRecursion (λ p. IsSendable p) old → AllByRecursion (λ p. IsSendable p) new →
      IsEndMeaning e →
      IsSequence (change_forms v (changes_for v old new) ++ end_list e)
      (map (unit_of v) (changes_for v old new)) e
  delta_sequence old new e h k j =
      sent_sequence v (changes_for v old new) e (delta_sent old new h k) j

  pub all_sequence : (d : List Payload) (e : EndMeaning) →
      AllByRecursion (λ p. IsSendable p) d → IsEndMeaning e →
      IsSequence (change_forms v (all_for v d) ++ end_list e) (map (unit_of v) (all_for v d)) e
  all_sequence d e h j =
      sent_sequence v (all_for v d) e
      (all_sent v announcement (sent_announcement v byte) (data_for v d) (all_of_version d h)) j

-- ---- what is read back

pub again : (v : ℕ) (cs : List Change) → map change_of (map (unit_of v) cs) ≡ cs
again v [] = refl
again v (c ∷ cs) = ap (λ l. c ∷ l) (again v cs)

-- whoever reads a sequence that changes were written as has these changes and this end
pub read_back : (v : ℕ) (cs : List Change) (b rest : List ℕ) (ms : List Meaning)
    (d e : EndMeaning) →
    IsSequence (change_forms v cs ++ end_list e) (map (unit_of v) cs) e →
    Accepts ((change_forms v cs ++ end_list e) ++ rest) b ms d →
    (map change_of ms ≡ cs) × (d ≡ e)
read_back v cs b rest ms d e s h =
    let same = accepted_same _ _ _ ms (map (unit_of v) cs) d e h
    (record { rest = rest; parts = refl; sequence = s }) in
    (ap (map change_of) same.1 ∙ again v cs, same.2)

pub delta_read_back : (v : ℕ) (old new : List Payload) (b rest : List ℕ) (ms : List Meaning)
    (d e : EndMeaning) → v < 256 → IsData old → IsData new →
    AllByRecursion (λ p. IsSendable p) old → AllByRecursion (λ p. IsSendable p) new →
    IsEndMeaning e →
    Accepts ((change_forms v (changes_for v old new) ++ end_list e) ++ rest) b ms d →
    (after_all (map change_of ms) (Ok (data_for v old)) ≡ Ok (data_for v new)) × (d ≡ e)
delta_read_back v old new b rest ms d e byte s t h k j a =
    let same = read_back v (changes_for v old new) b rest ms d e
    (delta_sequence v byte old new e h k j) a in
    (ap (λ cs. after_all cs (Ok (data_for v old))) same.0 ∙ delta_leads v old new s t, same.1)

pub all_read_back : (v : ℕ) (new : List Payload) (b rest : List ℕ) (ms : List Meaning)
    (d e : EndMeaning) → v < 256 → IsData new → AllByRecursion (λ p. IsSendable p) new →
    IsEndMeaning e → Accepts ((change_forms v (all_for v new) ++ end_list e) ++ rest) b ms d →
    (after_all (map change_of ms) (Ok []) ≡ Ok (data_for v new)) × (d ≡ e)
all_read_back v new b rest ms d e byte s h j a =
    let same = read_back v (all_for v new) b rest ms d e (all_sequence v byte new e h j) a in
    (ap (λ cs. after_all cs (Ok [])) same.0 ∙ all_lead v new s, same.1)
