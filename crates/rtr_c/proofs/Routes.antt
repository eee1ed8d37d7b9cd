-- Routes as C says them.
use Rattle.std.proofs.Common.{◌≡◌, ℕ, ◌≤◌, List, Option, Some, None, Bool, true, false, IfSome}
use Rattle.std.proofs.Common.{refl, sym, subst}
use Rattle.std.specs.Option.{option_map}
use Rattle.rtr_base.specs.Addresses.{PrefixParts}
use Rattle.rtr_units.specs.End.{EndMeaning}
use Rattle.rtr_payload.specs.Payloads.{Payload}
use Rattle.data_slices.specs.Canonical.{HoldsData}
use Rattle.data_validation.specs.Covering.{IsFirstCovering}
use Rattle.data_validation.specs.Tables.{AreTables}
use Rattle.data_validation.specs.Validity.{IsValidity}
use Rattle.data_validation.specs.declared.finding.CoveringVrp.{CoveringVrp}
use Rattle.data_validation.specs.declared.tables.Tables.{Tables}
use Rattle.data_validation.specs.declared.validation.Route.{Route}
use Rattle.data_validation.specs.declared.validity.Validity.{Validity}
use Rattle.rtr_c.specs.Routes.{ShowsOne, ShowsCovering, ShowsFound, ShowsNone}
use Rattle.rtr_c.specs.Routes.{TellsCovering, TellsValidity, validity_number}
use Rattle.rtr_c.specs.declared.validation.RtrCovering.{RtrCovering}

-- a route that was made has the prefix and the AS that were said
pub record IsSaid (said : Option PrefixParts) (number : ℕ) (r : Route) : Type 0 where
  pub prefix : said ≡ Some r.prefix
  pub asn : number ≡ r.asn

pub is_said : (said : Option PrefixParts) (asn : ℕ) (r : Route) (o : Option Route) →
    o ≡ option_map (λ p. record { prefix = p; asn = asn }) said → o ≡ Some r → IsSaid said asn r
is_said None asn r o e h = absurd cc
is_said (Some p) asn r o e h = record { prefix = cc; asn = cc }

pub not_said : (said : Option PrefixParts) (asn : ℕ) (o : Option Route) →
    o ≡ option_map (λ p. record { prefix = p; asn = asn }) said → o ≡ None → said ≡ None
not_said None asn o e h = refl
not_said (Some p) asn o e h = absurd cc

-- ---- a lookup that isn't sealed, and one that is

pub unsealed_validity : (sealed : Bool) (said : Option PrefixParts) (input : List ℕ) (t : Tables)
    (asn : ℕ) → sealed ≡ false → TellsValidity sealed said input t asn 4
unsealed_validity sealed said input t asn e =
    subst (λ (b : Bool). TellsValidity b said input t asn 4) (sym e) refl

pub unsealed_covering : (sealed : Bool) (said : Option PrefixParts) (input : List ℕ) (t : Tables)
    (asn from : ℕ) (shown : RtrCovering) (code : ℕ) → sealed ≡ false → ShowsNone 3 shown code →
    TellsCovering sealed said input t asn from shown code
unsealed_covering sealed said input t asn from shown code e s =
    subst (λ (b : Bool). TellsCovering b said input t asn from shown code) (sym e) s

pub sealed_validity : (sealed : Bool) (said : Option PrefixParts) (input : List ℕ) (t : Tables)
    (asn code : ℕ) → sealed ≡ true → TellsValidity true said input t asn code →
    TellsValidity sealed said input t asn code
sealed_validity sealed said input t asn code e s =
    subst (λ (b : Bool). TellsValidity b said input t asn code) (sym e) s

pub sealed_covering : (sealed : Bool) (said : Option PrefixParts) (input : List ℕ) (t : Tables)
    (asn from : ℕ) (shown : RtrCovering) (code : ℕ) → sealed ≡ true →
    TellsCovering true said input t asn from shown code →
    TellsCovering sealed said input t asn from shown code
sealed_covering sealed said input t asn from shown code e s =
    subst (λ (b : Bool). TellsCovering b said input t asn from shown code) (sym e) s

-- ---- data that were checked

pub tells_validity : (said : Option PrefixParts) (input : List ℕ) (t : Tables) (asn code : ℕ)
    (r : Route) (answer : Validity) → IsSaid said asn r → code ≡ validity_number answer →
    (AreTables input t → (d : List Payload) → (e : EndMeaning) → HoldsData input d e →
    IsValidity d r.prefix r.asn answer) → TellsValidity true said input t asn code
tells_validity said input t asn code r answer h e s =
    subst (λ (o : Option PrefixParts). TellsValidity true o input t asn code) (sym h.prefix)
    (subst (λ (a : ℕ). TellsValidity true (Some r.prefix) input t a code) (sym h.asn)
    (answer, e, s))

pub tells_covering : (said : Option PrefixParts) (input : List ℕ) (t : Tables) (asn from : ℕ)
    (shown : RtrCovering) (code : ℕ) (r : Route) (found : Option CoveringVrp) →
    IsSaid said asn r → ShowsFound found r.prefix r.asn shown code →
    IfSome found (λ c. from ≤ c.place) →
    (AreTables input t → (d : List Payload) → (e : EndMeaning) → HoldsData input d e →
    IsFirstCovering d r.prefix from found) → TellsCovering true said input t asn from shown code
tells_covering said input t asn from shown code r found h e least s =
    subst (λ (o : Option PrefixParts). TellsCovering true o input t asn from shown code)
    (sym h.prefix)
    (subst (λ (a : ℕ). TellsCovering true (Some r.prefix) input t a from shown code) (sym h.asn)
    (found, e, least, s))

pub shows_one : (c : CoveringVrp) (p : PrefixParts) (asn : ℕ) (one shown : RtrCovering)
    (code : ℕ) → ShowsCovering c p asn one → ShowsOne one shown code →
    ShowsFound (Some c) p asn shown code
shows_one c p asn one shown code h s =
    (s.0, subst (λ (x : RtrCovering). ShowsCovering c p asn x) (sym s.1) h)

pub none_validity : (said : Option PrefixParts) (input : List ℕ) (t : Tables) (asn : ℕ) →
    said ≡ None → TellsValidity true said input t asn 3
none_validity said input t asn e =
    subst (λ (o : Option PrefixParts). TellsValidity true o input t asn 3) (sym e) refl

pub none_covering : (said : Option PrefixParts) (input : List ℕ) (t : Tables) (asn from : ℕ)
    (shown : RtrCovering) (code : ℕ) → said ≡ None → ShowsNone 2 shown code →
    TellsCovering true said input t asn from shown code
none_covering said input t asn from shown code e s =
    subst (λ (o : Option PrefixParts). TellsCovering true o input t asn from shown code) (sym e) s
