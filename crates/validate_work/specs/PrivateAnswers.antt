-- What is added to a line. Only contracts of private functions cite these.
use Rattle.std.specs.Prelude.{◌≡◌, ℕ, List, ◌++◌, Option}
use Rattle.rtr_base.specs.Addresses.{PrefixParts}
use Rattle.rtr_payload.specs.Payloads.{Payload}
use Rattle.data_validation.specs.declared.validity.Validity.{Validity}
use Rattle.validate_work.specs.Answers.{AreCovers, Cover, HasReasons, IsRouteAnswer, listed}
use Rattle.validate_work.specs.Turned.{IsListAnswer, IsTurnAnswer, SaysIfTold, SaysTurned}
use Rattle.validate_work.specs.declared.form.Form.{Form}
use Rattle.validate_work.specs.declared.lists.Lists.{Lists}

-- the answer on a route
abbrev pub AddsAnswer : Form → List Payload → PrefixParts → (origin : Option ℕ) →
    (old new : List ℕ) → Type 0
AddsAnswer form d p origin old new =
    (text : List ℕ) × IsRouteAnswer form d p origin text × (new ≡ old ++ text)

-- the VRPs that cover it
abbrev pub AddsCovers : Form → List Payload → PrefixParts → (asn : ℕ) → (old new : List ℕ) → Type 0
AddsCovers form d p asn old new =
    (cs : List Cover) × AreCovers d p asn cs × (new ≡ old ++ listed form cs)

-- those of an invalid route
abbrev pub AddsReasons : Validity → List Payload → PrefixParts → (asn : ℕ) →
    (old new : List ℕ) → Type 0
AddsReasons state d p asn old new =
    (text : List ℕ) × HasReasons state d p asn text × (new ≡ old ++ text)

-- the answer by one list, or how the route turns by another one
abbrev pub AddsListAnswer : Form → Lists → PrefixParts → (origin : Option ℕ) →
    (old new : List ℕ) → Type 0
AddsListAnswer form ls p origin old new =
    (text : List ℕ) × IsListAnswer form ls p origin text × (new ≡ old ++ text)

-- how it turns
abbrev pub AddsTurn : Form → (d e : List Payload) → PrefixParts → (origin : Option ℕ) →
    (old new : List ℕ) → Type 0
AddsTurn form d e p origin old new =
    (text : List ℕ) × IsTurnAnswer form d e p origin text × (new ≡ old ++ text)

abbrev pub AddsTold : Form → List Payload → PrefixParts → (origin : Option ℕ) →
    (state next : Validity) → (old new : List ℕ) → Type 0
AddsTold form e p origin state next old new =
    (text : List ℕ) × SaysIfTold form e p origin state next text × (new ≡ old ++ text)

abbrev pub AddsTurned : Form → List Payload → PrefixParts → (origin : Option ℕ) →
    (state next : Validity) → (old new : List ℕ) → Type 0
AddsTurned form e p origin state next old new =
    (text : List ℕ) × SaysTurned form e p origin state next text × (new ≡ old ++ text)
