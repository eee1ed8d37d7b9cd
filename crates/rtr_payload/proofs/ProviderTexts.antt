-- The text of providers, one after another.
use Rattle.std.proofs.Common.{◌≡◌, ℕ, ◌==◌, false, List, [], ◌∷◌, ◌++◌, length, codes, refl, ap}
use Rattle.std.proofs.lemmas.List.{flat_map_more}
use Rattle.rtr_base.specs.PlainTexts.{asn_text}
use Rattle.rtr_payload.specs.PayloadTexts.{aspa_text, each_text, providers_text}
use Rattle.rtr_payload.specs.declared.payload.Aspa.{Aspa}

-- the text of an ASPA before its providers
abbrev pub front_text : ℕ → List ℕ
front_text customer = codes "ASPA " ++ asn_text customer ++ codes ":"

pub one_more : (t providers : List ℕ) (p : ℕ) →
    (t ++ each_text providers) ++ (codes " " ++ asn_text p) ≡ t ++ each_text (providers ++ p ∷ [])
one_more t providers p = flat_map_more (λ q. codes " " ++ asn_text q) t providers p

some_providers : (providers : List ℕ) → false ≡ (length providers == 0) →
    each_text providers ≡ providers_text providers
some_providers [] e = absurd cc
some_providers (p ∷ providers) e = refl

pub whole_text : (a : Aspa) → false ≡ (length a.providers == 0) →
    front_text a.customer ++ each_text a.providers ≡ aspa_text a
whole_text a e = ap (λ l. front_text a.customer ++ l) (some_providers a.providers e)
