-- The payloads of a list, as its proofs go through it.
use Rattle.std.proofs.Common.{◌≡◌, ◌⊎◌, inl, inr, suc, zero, arith}
use Rattle.std.proofs.Common.{List, [], ◌∷◌}
use Rattle.std.specs.List.{Contains}
use Rattle.rtr_payload.specs.Payloads.{Payload}

abbrev pub IsAmong : Payload → List Payload → Type 0
IsAmong p [] = ⊥
IsAmong p (q ∷ qs) = (q ≡ p) ⊎ IsAmong p qs

pub contained : (p : Payload) (d : List Payload) → IsAmong p d → Contains d p
contained p [] h = absurd h
contained p (q ∷ qs) (inl e) = (0, omega arith, e)
contained p (q ∷ qs) (inr h) =
    let w = contained p qs h in
    (suc w.0, omega (arith, w.1), w.2)

pub among : (p : Payload) (d : List Payload) → Contains d p → IsAmong p d
among p [] (k, h, e) = absurd (omega arith)
among p (q ∷ qs) (zero, h, e) = inl e
among p (q ∷ qs) (suc k, h, e) = inr (among p qs (k, omega arith, e))
