-- What a member adds, and why it is refused, by what its name says.
use Rattle.std.proofs.Common.{◌≡◌, ℕ, Bool, false, List, [], Option}
use Rattle.std.proofs.Common.{MatchResult, Result, Ok, Err, inr, refl, sym, subst}
use Rattle.std.specs.Bool.{MatchBool}
use Rattle.json.specs.Json.{Json}
use Rattle.make_work.specs.JsonNames.{holding_named, is_family}
use Rattle.make_work.specs.JsonPayloads.{AreFamilyPayloads, AreNoPayloads, ArePayloadsBy}
use Rattle.make_work.specs.JsonPayloads.{ArePayloadsIn, AreTopPayloads, Dated, HasPayloads}
use Rattle.make_work.specs.JsonRefusals.{OrMemory, RefusesBy, RefusesFamily, RefusesPayloads}
use Rattle.make_work.specs.JsonRefusals.{RefusesTop, RefusesUnknown}
use Rattle.make_work.specs.MakeWords.{is_one_of}
use Rattle.make_work.specs.PrivateJson.{AddsPayloads}
use Rattle.make_work.specs.declared.gathering.Gathering.{Gathering}
use Rattle.make_work.specs.declared.item.Reason.{Reason}
use Rattle.make_work.specs.declared.item.Refusal.{Refusal}
use Rattle.make_work.specs.declared.json_names.Holding.{Holding}
use Rattle.make_work.specs.declared.json_names.Kind.TheVariants.{Aspas}
use Rattle.make_work.proofs.JsonSoFar.{nothing}

-- payloads of this kind come, or this is why not
abbrev pub Reads : {T : Type 0} → (List Dated → Type 0) → (Reason → Type 0) →
    Result T Refusal → Gathering → Gathering → Type 0
Reads Are Refuses r old new =
    MatchResult r (λ _. AddsPayloads Are old new) (λ e. OrMemory Refuses e.reason)

-- a name that isn't ignored, by what it holds
pub top_by : {T : Type 0} (ignored : List (List ℕ)) (name : List ℕ) (j : Json)
    (h : Option Holding) (r : Result T Refusal) (old new : Gathering) →
    is_one_of ignored name ≡ false → holding_named name ≡ h →
    Reads (ArePayloadsBy h j) (RefusesBy h j) r old new →
    Reads (AreTopPayloads ignored name j) (RefusesTop ignored (name, j)) r old new
top_by ignored name j h r old new e f reads =
    subst
    (λ b. Reads (λ ps. MatchBool b (◌≡◌ {A = List Dated} ps [])
    (ArePayloadsBy (holding_named name) j ps))
    (λ why. MatchBool b ⊥ (RefusesBy (holding_named name) j why)) r old new) (sym e)
    (subst (λ k. Reads (ArePayloadsBy k j) (RefusesBy k j) r old new) (sym f) reads)

-- the name of a family of addresses, or another
pub family_by : {T : Type 0} (name : List ℕ) (j : Json) (b : Bool) (r : Result T Refusal)
    (old new : Gathering) → is_family name ≡ b →
    Reads (λ ps. MatchBool b (ArePayloadsIn Aspas j ps) (AreNoPayloads j ps))
    (λ why. MatchBool b (RefusesPayloads Aspas j why) (RefusesUnknown j why)) r old new →
    Reads (AreFamilyPayloads name j) (RefusesFamily (name, j)) r old new
family_by name j b r old new e reads =
    subst
    (λ k. Reads (λ ps. MatchBool k (ArePayloadsIn Aspas j ps) (AreNoPayloads j ps))
    (λ why. MatchBool k (RefusesPayloads Aspas j why) (RefusesUnknown j why)) r old new) (sym e)
    reads

-- a name that isn't known
pub unknown : {T : Type 0} (j : Json) (r : Result T Refusal) (items : Gathering) →
    MatchResult r (λ _. ¬ HasPayloads j) (λ e. RefusesUnknown j e.reason) →
    Reads (AreNoPayloads j) (RefusesUnknown j) r items items
unknown j (Ok t) items n = nothing (AreNoPayloads j) items (n, refl)
unknown j (Err e) items h = inr h
