-- Payloads that are kept in canonical form.
use Rattle.std.proofs.Common.{◌≡◌, ℕ, List, [], ◌∷◌, ◌++◌, refl, sym, ap, ◌∙◌, subst}
use Rattle.std.proofs.Common.{append-nil, arith, inr}
use Rattle.std.specs.List.{AllByRecursion}
use Rattle.rtr_units.specs.End.{IsEndMeaning, end_list}
use Rattle.rtr_payload.specs.Payloads.{Payload, origin, key, aspa}
use Rattle.rtr_wire.specs.Sequences.{IsSequence}
use Rattle.data_memory.specs.Data.{IsData}
use Rattle.data_memory.specs.Deltas.{all_for, change_forms, data_for}
use Rattle.data_memory.specs.Sequences.{IsSendable}
use Rattle.data_memory.proofs.Accepted.{all_sequence}
use Rattle.data_slices.specs.Canonical.{HoldsData, data_units}
use Rattle.validate_work.specs.PrivateVrps.{kept_end}

end_fits : IsEndMeaning kept_end
end_fits = record {
  session = omega arith;
  serial = omega arith;
  timing = (inr refl, omega arith, omega arith, omega arith);
}

-- version 2 has all payloads
has_all : (d : List Payload) → data_for 2 d ≡ d
has_all [] = refl
has_all (origin o ∷ d) = ap (λ (l : List Payload). origin o ∷ l) (has_all d)
has_all (key k ∷ d) = ap (λ (l : List Payload). key k ∷ l) (has_all d)
has_all (aspa a ∷ d) = ap (λ (l : List Payload). aspa a ∷ l) (has_all d)

pub holds : (d : List Payload) (bytes : List ℕ) → AllByRecursion IsSendable d → IsData d →
    bytes ≡ change_forms 2 (all_for 2 d) ++ end_list kept_end → HoldsData bytes d kept_end
holds d bytes sendable ordered is = record {
  bytes = bytes;
  accepts = record {
    rest = [];
    parts = sym (append-nil bytes);
    sequence = subst (λ (b : List ℕ). IsSequence b (data_units 2 d) kept_end) (sym is)
        (subst (λ (l : List Payload). IsSequence (change_forms 2 (all_for 2 d) ++ end_list kept_end)
        (data_units 2 l) kept_end) (has_all d)
        (all_sequence 2 (omega arith) d kept_end sendable end_fits));
  };
  in_order = ordered;
}

-- what was written after nothing is kept
pub kept_written : (d : List Payload) (bytes old new : List ℕ) → AllByRecursion IsSendable d →
    IsData d → new ≡ old ++ (change_forms 2 (all_for 2 d) ++ end_list kept_end) → old ≡ [] →
    bytes ≡ new → HoldsData bytes d kept_end
kept_written d bytes old new sendable ordered wrote first last =
    holds d bytes sendable ordered (last ∙ wrote
    ∙ ap (λ (l : List ℕ). l ++ (change_forms 2 (all_for 2 d) ++ end_list kept_end)) first)

-- bytes that are kept are lent
pub lent : (given kept : List ℕ) (v d : List Payload) → given ≡ kept → v ≡ d →
    HoldsData kept d kept_end → HoldsData given v kept_end
lent given kept v d same is holds =
    subst (λ (b : List ℕ). HoldsData b v kept_end) (sym same)
    (subst (λ (ps : List Payload). HoldsData kept ps kept_end) (sym is) holds)
