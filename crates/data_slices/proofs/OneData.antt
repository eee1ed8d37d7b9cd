-- A slice is one data at most.
use Rattle.std.proofs.Common.{◌≡◌, ℕ, List, [], ◌∷◌, Bool, true, false, refl, sym, ap}
use Rattle.std.proofs.lemmas.Bool.{true≢false}
use Rattle.rtr_units.specs.End.{EndMeaning}
use Rattle.rtr_payload.specs.Payloads.{Meaning, Payload}
use Rattle.rtr_wire.proofs.Runs.{accepted_same}
use Rattle.data_slices.specs.Canonical.{HoldsData, data_units}

abbrev first_of : Payload → List Meaning → Payload
first_of p [] = p
first_of p (m ∷ ms) = m.payload

abbrev rest_of : List Meaning → List Meaning
rest_of [] = []
rest_of (m ∷ ms) = ms

abbrev is_none : List Meaning → Bool
is_none [] = true
is_none (m ∷ ms) = false

same_units : (v w : ℕ) (ps qs : List Payload) → data_units v ps ≡ data_units w qs → ps ≡ qs
same_units v w [] [] e = refl
same_units v w [] (q ∷ qs) e = absurd (true≢false (ap is_none e))
same_units v w (p ∷ ps) [] e = absurd (true≢false (sym (ap is_none e)))
same_units v w (p ∷ ps) (q ∷ qs) e =
    let same : p ≡ q = ap (first_of p) e in
    let more : ps ≡ qs = same_units v w ps qs (ap rest_of e) in
    (λ i. same i ∷ more i)

pub one_data : (r : List ℕ) (ps qs : List Payload) (d e : EndMeaning) → HoldsData r ps d →
    HoldsData r qs e → (ps ≡ qs) × (d ≡ e)
one_data r ps qs d e h j =
    let t = accepted_same r h.bytes j.bytes (data_units d.version ps) (data_units e.version qs) d e
    h.accepts j.accepts in
    (same_units d.version e.version ps qs t.1, t.2)
