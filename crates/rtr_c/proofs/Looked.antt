-- Lookups in data that were checked.
use Rattle.std.proofs.Common.{◌≡◌, ℕ, List, [], ◌∷◌, Bool, true, false, Option, Some, refl, subst}
use Rattle.std.proofs.Common.{arith}
use Rattle.std.proofs.lemmas.Bool.Decides.{nat_tests}
use Rattle.rtr_base.specs.Addresses.{PrefixParts}
use Rattle.rtr_units.specs.End.{EndMeaning}
use Rattle.rtr_payload.specs.Payloads.{Payload}
use Rattle.data_slices.specs.Canonical.{HoldsData}
use Rattle.data_validation.specs.Covering.{IsFirstCovering}
use Rattle.data_validation.specs.Validity.{IsValidity}
use Rattle.data_validation.specs.declared.finding.CoveringVrp.{CoveringVrp}
use Rattle.data_validation.specs.declared.validity.Validity.{Validity}
use Rattle.rtr_c.specs.Lookups.{IsLookup, is_sealed, unsealed}
use Rattle.rtr_c.specs.Routes.{ShowsFound, TellsCovering, TellsValidity, validity_number}
use Rattle.rtr_c.specs.declared.lookup.RtrLookup.{RtrLookup}
use Rattle.rtr_c.specs.declared.validation.RtrCovering.{RtrCovering}

sealed : (input : List ℕ) (l : RtrLookup) → IsLookup input l → is_sealed input l ≡ true
sealed input l h = grind (arith, nat_tests, h.size, h.seal)

pub by_data : (input : List ℕ) (l : RtrLookup) (d : List Payload) (e : EndMeaning)
    (p : PrefixParts) (asn code : ℕ) → IsLookup input l → HoldsData input d e →
    TellsValidity (is_sealed input l) (Some p) input l.tables asn code →
    (v : Validity) × (code ≡ validity_number v) × IsValidity d p asn v
by_data input l d e p asn code h holds s =
    let t = subst (λ (b : Bool). TellsValidity b (Some p) input l.tables asn code)
    (sealed input l h) s in
    (t.0, t.1, t.2 h.tables d e holds)

pub first_by_data : (input : List ℕ) (l : RtrLookup) (d : List Payload) (e : EndMeaning)
    (p : PrefixParts) (asn from : ℕ) (shown : RtrCovering) (code : ℕ) → IsLookup input l →
    HoldsData input d e →
    TellsCovering (is_sealed input l) (Some p) input l.tables asn from shown code →
    (found : Option CoveringVrp) × ShowsFound found p asn shown code
    × IsFirstCovering d p from found
first_by_data input l d e p asn from shown code h holds s =
    let t = subst (λ (b : Bool). TellsCovering b (Some p) input l.tables asn from shown code)
    (sealed input l h) s in
    (t.0, t.1, t.3 h.tables d e holds)

pub of_no_bytes : (input : List ℕ) (l : RtrLookup) → is_sealed input (unsealed l) ≡ false
of_no_bytes [] l = refl
of_no_bytes (b ∷ input) l = grind (arith, nat_tests)
