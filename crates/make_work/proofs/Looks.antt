-- What looks like payloads, by what reading a value, or whether an object is empty, tells.
use Rattle.std.proofs.Common.{◌≡◌, ◌≢◌, ℕ, true, false, ◌==◌, List, [], ◌∷◌, length}
use Rattle.std.proofs.Common.{Result, Ok, Err, is_ok, MatchResult, refl, Decides}
use Rattle.json.specs.Value.{members_view}
use Rattle.rtr_base.specs.Addresses.{PrefixParts}
use Rattle.rtr_base.specs.Numerals.{IsSerialText}
use Rattle.rtr_base.specs.ReadTexts.{ParsesAsn, ParsesPrefix}
use Rattle.rtr_base.specs.declared.parse.ParseAsnError.{ParseAsnError}
use Rattle.rtr_base.specs.declared.parse.ParsePrefixError.{ParsePrefixError}
use Rattle.make_work.specs.JsonValues.{IsLikeAsnText, IsLikePrefixText, members_list}
use Rattle.make_work.specs.declared.item.Reason.{Reason}
use Rattle.make_work.specs.declared.item.Reason.TheVariants.{Asn}
use Rattle.make_work.proofs.JsonSoFar.{Member}
use Rattle.make_work.proofs.NoPrefix.{no_prefix}

yes : {P : Type 0} → P → Decides true P
yes p = (λ e. p, λ q. refl)

no : {P : Type 0} → ¬ P → Decides false P
no n = (λ e. absurd cc, λ p. absurd (n p))

pub prefix_told : (r : Result PrefixParts ParsePrefixError) (text : List ℕ) →
    ParsesPrefix text r → Decides (is_ok r) (IsLikePrefixText text)
prefix_told (Ok p) text h = yes (p, h)
prefix_told (Err e) text h = no (λ q. no_prefix text q.0 e h q.1)

pub asn_told : (r : Result ℕ ParseAsnError) (text : List ℕ) → ParsesAsn text r →
    Decides (is_ok r) (IsLikeAsnText text)
asn_told (Ok n) text h = yes (n, h)
asn_told (Err e) text h = no (λ q. h q.0 q.1)

pub number_told : (r : Result ℕ Reason) (text : List ℕ) →
    MatchResult r (λ n. IsSerialText text n)
    (λ why. (why ≡ Asn) × ((n : ℕ) → ¬ IsSerialText text n)) →
    Decides (is_ok r) ((n : ℕ) × IsSerialText text n)
number_told (Ok n) text h = yes (n, h)
number_told (Err e) text h = no (λ q. h.1 q.0 q.1)

-- the members of an object that isn't empty
pub some_members : {A : Type 0} (ms : List (Member A)) → (length ms == 0) ≡ false →
    members_list (members_view ms) ≢ []
some_members [] h e = absurd cc
some_members (m ∷ ms) h e = absurd cc
