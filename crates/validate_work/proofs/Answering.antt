-- The answer on a route, piece by piece.
use Rattle.std.proofs.Common.{◌≡◌, ℕ, List, [], ◌++◌, codes, Result, Ok, Err, OnOk}
use Rattle.std.proofs.Common.{Option, refl}
use Rattle.rtr_base.specs.Addresses.{PrefixParts}
use Rattle.rtr_base.specs.PlainTexts.{prefix_text}
use Rattle.rtr_payload.specs.Payloads.{Payload}
use Rattle.data_validation.specs.Validity.{IsValidity}
use Rattle.data_validation.specs.declared.validity.Validity.{Validity}
use Rattle.validate_work.specs.Answers.{answer_line, answer_object, listed, route_origin_value}
use Rattle.validate_work.specs.Answers.{route_origin_words, state_words}
use Rattle.validate_work.specs.PrivateAnswers.{AddsAnswer, AddsCovers, AddsReasons}
use Rattle.validate_work.specs.RouteTexts.{origin_asn}
use Rattle.validate_work.specs.declared.form.Form.TheVariants.{Text, Json}
use Rattle.validate_work.proofs.Said.{then_said}

-- a line for people, to which these pieces were added
pub adds_line : (d : List Payload) (p : PrefixParts) (o : Option ℕ) (state : Validity)
    (old one two three second third fourth new word : List ℕ) →
    IsValidity d p (origin_asn o) state → one ≡ old ++ ([] ++ prefix_text p) →
    two ≡ one ++ codes " " →
    three ≡ two ++ route_origin_words o → second ≡ three ++ codes " " → word ≡ state_words state →
    third ≡ second ++ word → AddsReasons state d p (origin_asn o) third fourth →
    new ≡ fourth ++ codes "\n" → AddsAnswer Text d p o old new
adds_line d p o state old one two three second third fourth new word says a b c e is f
    (reasons, has, g) h =
    let s = then_said old one two _ (codes " ") _ refl a b in
    let t = then_said old two three _ (route_origin_words o) _ refl s c in
    let u = then_said old three second _ (codes " ") _ refl t e in
    let v = then_said old second third _ word (state_words state) is u f in
    let w = then_said old third fourth _ reasons _ refl v g in (
      answer_line p o state reasons,
      record { state = state; valid = says; words = (reasons, has, refl) },
      then_said old fourth new _ (codes "\n") _ refl w h,
    )

-- a JSON object, to which these pieces were added
pub adds_object : (d : List Payload) (p : PrefixParts) (o : Option ℕ) (state : Validity)
    (old one two three second third fourth fifth new word : List ℕ) →
    IsValidity d p (origin_asn o) state → one ≡ old ++ (codes "{\"prefix\":\"" ++ prefix_text p) →
    two ≡ one ++ codes "\",\"asn\":" →
    three ≡ two ++ route_origin_value o → second ≡ three ++ codes ",\"state\":\"" →
    word ≡ state_words state → third ≡ second ++ word →
    fourth ≡ third ++ codes "\",\"vrps\":[" → AddsCovers Json d p (origin_asn o) fourth fifth →
    new ≡ fifth ++ codes "]}\n" → AddsAnswer Json d p o old new
adds_object d p o state old one two three second third fourth fifth new word says a b c e
    is f g (cs, all, h) k =
    let s = then_said old one two _ (codes "\",\"asn\":") _ refl a b in
    let t = then_said old two three _ (route_origin_value o) _ refl s c in
    let u = then_said old three second _ (codes ",\"state\":\"") _ refl t e in
    let v = then_said old second third _ word (state_words state) is u f in
    let w = then_said old third fourth _ (codes "\",\"vrps\":[") _ refl v g in
    let x = then_said old fourth fifth _ (listed Json cs) _ refl w h in (
      answer_object p o state cs,
      record { state = state; valid = says; words = (cs, all, refl) },
      then_said old fifth new _ (codes "]}\n") _ refl x k,
    )

-- where it could be added
pub if_added : {T E : Type 0} (r : Result T E) (A B : Type 0) → (A → B) → OnOk r A → OnOk r B
if_added (Ok x) A B f h = f h
if_added (Err e) A B f h = tt
